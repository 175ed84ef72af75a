-- What a step of a read makes of the records that are left.
use Rattle.std.proofs.Common.{◌≡◌, ◌⊎◌, ℕ, suc, ◌+◌, ◌-◌, ◌≤◌, ◌<◌, Bool, true, false, List, [], ◌++◌, length, drop, slice_index, refl, sym, ◌∙◌, ap, subst, arith, Err}
use Rattle.std.proofs.lemmas.List.{drop-append-le, drop-drop, drop_all, length-drop}
use Rattle.cms_model.specs.Trees.{Image, bytes_at}
use Rattle.cms_model.specs.declared.fault.VarFault.{VarFault}
use Rattle.cms_records.specs.Pieces.{RecordState, Takes, bytes_so_far, next_place, record_size}
use Rattle.cms_disk.specs.Cursors.{Cursor, HoldLeft, HasLeft, Gives, IsShort, Waits, AreOn, unread}
use Rattle.cms_journal.specs.Journal.{Journal, HasBlock, HasBlocks}
use Rattle.cms_edf.proofs.Listings.{on_unit}
use Rattle.cms_edf.proofs.MetBlocks.{front_of}
use Rattle.cms_disk.proofs.BytesTaken.{hands_out, keeps_left, takes_all, not_altered, not_ended, none_left}

some_left : (n : ℕ) → 1 ≤ n → n ≡ suc (n - 1)
some_left n some = omega arith

-- bytes were taken of the block
abbrev pub taken : Cursor → RecordState → ℕ → Bool → Cursor
taken c b f a = record c { begun = b; from = f; altered = a }

rest_of : (c : Cursor) (f : ℕ) → c.from ≤ f → drop (f - c.from) (drop c.from c.block) ≡ drop f c.block
rest_of c f later = let at : c.from + (f - c.from) ≡ f = omega arith in drop-drop (f - c.from) c.from c.block ∙ ap (λ (n : ℕ). drop n c.block) at

pub take_gives : (image : Image) (c : Cursor) (b : RecordState) (f : ℕ) (a whole : Bool) (records : List (List ℕ)) → Takes c.begun b (drop c.from c.block) (f - c.from) whole → a ≡ false → c.from ≤ f
    → 1 ≤ c.left → HasLeft image c records → Gives image (taken c b f a) records whole
take_gives image c b f a true records t sound later some left =
    let held = subst (λ (n : ℕ). HoldLeft c.bsize c.begun.fixed c.begun.longest n (next_place c.begun) (unread image c) records) (some_left c.left some) left.held in
    let behind = drop c.over (bytes_at image (drop c.done c.leaves)) in
    let h = hands_out c.bsize (c.left - 1) c.begun b (drop c.from c.block) behind (f - c.from) records t held in
    let rest = rest_of c f later in (
      h.more,
      h.records_are,
      record {
        sound = sound;
        sizes = left.sizes;
        held = subst (λ (l : List ℕ). HoldLeft c.bsize b.fixed b.longest (c.left - 1) (next_place b) (bytes_so_far b ++ (l ++ behind)) h.more) rest h.rest;
      },
    )
take_gives image c b f a false records t sound later some left =
    let behind = drop c.over (bytes_at image (drop c.done c.leaves)) in
    let h = keeps_left c.bsize c.left c.begun b (drop c.from c.block) behind (f - c.from) records t left.held in
    let rest = rest_of c f later in
    record {
      sound = sound;
      sizes = left.sizes;
      held = subst (λ (l : List ℕ). HoldLeft c.bsize b.fixed b.longest c.left (next_place b) (bytes_so_far b ++ (l ++ behind)) records) rest h;
    }

pub take_altered : (image : Image) (c : Cursor) (records : List (List ℕ)) (why : VarFault)
    → record_size c.begun.fixed c.begun.longest (next_place c.begun) (bytes_so_far c.begun ++ drop c.from c.block) ≡ Err why
    → 1 ≤ c.left → HasLeft image c records → ⊥
take_altered image c records why is some left =
    not_altered c.bsize (c.left - 1) c.begun (drop c.from c.block) (drop c.over (bytes_at image (drop c.done c.leaves))) records why is
    (subst (λ (n : ℕ). HoldLeft c.bsize c.begun.fixed c.begun.longest n (next_place c.begun) (unread image c) records) (some_left c.left some) left.held)

pub take_waits : (c : Cursor) (b : RecordState) (f : ℕ) (a : Bool) → Takes c.begun b (drop c.from c.block) (f - c.from) false → c.from ≤ f → f ≤ length c.block → length c.block ≡ c.bsize
    → Waits (taken c b f a)
take_waits c b f a t later within long =
    let all = takes_all c.begun b (drop c.from c.block) (f - c.from) t in
    let d = length-drop c.from c.block in
    let e = all.0 in
    (all.1, omega arith)

-- ---- the next block

-- all of the last block is taken, and the next one is there
pub read_next : (image : Image) (c : Cursor) (block : List ℕ) (d f o : ℕ) (a : Bool) (records : List (List ℕ)) → block ≡ image (slice_index c.leaves c.done) → d ≡ c.done + 1 → f ≡ c.over → o ≡ 0
    → a ≡ c.altered → c.done < length c.leaves → c.over ≤ c.bsize
    → length c.block ≤ c.from → HasLeft image c records → HasLeft image (record c { done = d; block = block; from = f; over = o; altered = a }) records
unfolding bytes_at
read_next image c block d f o a records is next first none sound less within all left =
    let gone : drop c.from c.block ≡ [] = drop_all c.from c.block all in
    let there = image (slice_index c.leaves c.done) in
    let behind = bytes_at image (drop (c.done + 1) c.leaves) in
    let long : length there ≡ c.bsize = left.sizes c.done less in
    let more : bytes_at image (drop c.done c.leaves) ≡ there ++ behind = ap (bytes_at image) (front_of c.leaves c.done less) in
    let rest : drop c.over (bytes_at image (drop c.done c.leaves)) ≡ drop c.over there ++ behind = ap (drop c.over) more ∙ drop-append-le c.over there behind (omega (arith, within, long)) in
    let same : unread image c ≡ bytes_so_far c.begun ++ (drop f block ++ drop o (bytes_at image (drop d c.leaves))) = rw (gone, rest, first, none, next, is) refl in
    record {
      sound = sound ∙ left.sound;
      sizes = left.sizes;
      held = subst (λ (l : List ℕ). HoldLeft c.bsize c.begun.fixed c.begun.longest c.left (next_place c.begun) l records) same left.held;
    }

-- the block may be any while all of it is taken
pub read_failed : (image : Image) (c : Cursor) (block : List ℕ) (f : ℕ) (a : Bool) (records : List (List ℕ)) → length c.block ≤ c.from → length block ≤ f → a ≡ c.altered → HasLeft image c records
    → HasLeft image (record c { block = block; from = f; altered = a }) records
read_failed image c block f a records all all' sound left =
    let gone : drop c.from c.block ≡ drop f block = drop_all c.from c.block all ∙ sym (drop_all f block all') in
    record {
      sound = sound ∙ left.sound;
      sizes = left.sizes;
      held = subst (λ (l : List ℕ). HoldLeft c.bsize c.begun.fixed c.begun.longest c.left (next_place c.begun)
          (bytes_so_far c.begun ++ (l ++ drop c.over (bytes_at image (drop c.done c.leaves)))) records) gone left.held;
    }

pub read_ended : (image : Image) (c : Cursor) (records : List (List ℕ)) → c.done ≡ length c.leaves → length c.block ≤ c.from → IsShort c.begun → 1 ≤ c.left → HasLeft image c records → ⊥
unfolding bytes_at
read_ended image c records end all short some left =
    let gone : drop c.from c.block ≡ [] = drop_all c.from c.block all in
    let none : drop c.done c.leaves ≡ [] = drop_all c.done c.leaves (omega arith) in
    let nothing : drop c.over (bytes_at image (drop c.done c.leaves)) ≡ [] = ap (λ (l : List ℕ). drop c.over (bytes_at image l)) none ∙ drop_all c.over [] (omega arith) in
    let same : unread image c ≡ bytes_so_far c.begun ++ ([] ++ []) = rw (gone, nothing) refl in
    not_ended c.bsize (c.left - 1) c.begun records short
    (subst (λ (l : List ℕ). HoldLeft c.bsize c.begun.fixed c.begun.longest (suc (c.left - 1)) (next_place c.begun) l records) same
    (subst (λ (n : ℕ). HoldLeft c.bsize c.begun.fixed c.begun.longest n (next_place c.begun) (unread image c) records) (some_left c.left some) left.held))

-- ---- no block is read that isn't needed

-- no block was read, or the last one was, for a record that needs it, and no more of it was taken than was passed over
abbrev pub BegunAt : Cursor → Cursor → Type 0
BegunAt first c = ((c.done ≡ first.done) × (c.over ≡ first.over))
    ⊎ (IsShort c.begun × (c.from < c.bsize) × (first.done < c.done) × (c.done ≡ first.done + 1 → first.over ≤ c.from))

-- ---- the unit's blocks

pub has_block : (j : Journal) (c : Cursor) (n leaf size : ℕ) → HasBlocks j.units c.unit c.total c.bsize → AreOn c.total c.leaves → n < length c.leaves → leaf ≡ slice_index c.leaves n → size ≡ c.bsize
    → HasBlock j.units c.unit leaf size
has_block j c n leaf size has on less is same = let within = on n less in rw (same, is) (on_unit j.units c.unit c.total c.bsize (slice_index c.leaves n) within.0 within.1 has)

-- ---- behind the last

pub none_more : (image : Image) (c : Cursor) (records : List (List ℕ)) → c.left ≡ 0 → HasLeft image c records → records ≡ []
none_more image c records none left =
    none_left c.bsize c.begun.fixed c.begun.longest (next_place c.begun) (unread image c) records
    (subst (λ (n : ℕ). HoldLeft c.bsize c.begun.fixed c.begun.longest n (next_place c.begun) (unread image c) records) none left.held)
