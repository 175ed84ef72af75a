-- What a cursor keeps as blocks are read.
use Rattle.std.proofs.Common.{IfErr, Result, Ok, Err, IsErrAnd, ◌≡◌, ◌+◌, ◌*◌, ◌<◌, ◌≤◌, ◌++◌, ℕ, List, length, drop, true, false, sym, ◌∙◌, ap, subst, arith}
use Rattle.std.proofs.lemmas.Bool.{true≢false}
use Rattle.std.specs.Prelude.{⊤}
use Rattle.std.proofs.lemmas.List.{drop_all}
use Rattle.std.proofs.lemmas.Result.{IfErr-weaker}
use Rattle.cms_journal.specs.Journal.{HasBlocks}
use Rattle.cms_journal.specs.declared.event.Attached.{Attached}
use Rattle.cms_model.specs.Trees.{Image, bytes_at}
use Rattle.cms_held.proofs.GrownTrees.{next_multiple}
use Rattle.cms_records.specs.Pieces.{bytes_so_far, next_place}
use Rattle.cms_disk.specs.Cursors.{Cursor, HasLeft, HoldLeft, IsReading, SameFile}
use Rattle.cms_held.specs.HeldVolumes.{HeldVolume}
use Rattle.cms_disk.specs.Changes.{IsChangeFault}
use Rattle.cms_disk.specs.declared.fault.DiskFault.{DiskFault}
use Rattle.cms_disk.specs.declared.fault.DiskFault.TheVariants as failed

-- the bytes turned out to be no records
pub reading_altered : (r : Cursor) → IsReading r → IsReading (record r { altered = true })
reading_altered r i = record {
  held = record { block = i.held.block; begun = i.held.begun };
  lengths = i.lengths;
  leaves = i.leaves;
  taken = i.taken;
  over = i.over;
  done = i.done;
  few = i.few;
  within = λ sound. absurd (true≢false sound);
  some = i.some;
}

-- a block was read that isn't used
pub reading_block : (r : Cursor) (block : List ℕ) → IsReading r → length block ≡ r.bsize → IsReading (record r { block = block })
reading_block r block i long = record {
  held = record { block = long; begun = i.held.begun };
  lengths = i.lengths;
  leaves = i.leaves;
  taken = i.taken;
  over = i.over;
  done = i.done;
  few = i.few;
  within = i.within;
  some = i.some;
}

next_within : (place bytes bsize done from over : ℕ) → place + bytes + bsize ≤ done * bsize + from → from ≤ bsize → place + bytes + bsize ≤ (done + 1) * bsize + over
next_within place bytes bsize done from over within taken = let more = next_multiple done bsize in omega arith

-- the next block was read
pub reading_next : (r : Cursor) (block : List ℕ) → IsReading r → length block ≡ r.bsize → r.done < length r.leaves
    → IsReading (record r { done = r.done + 1; block = block; from = r.over; over = 0 })
reading_next r block i long less =
    let over = i.over in
    let some = i.some in
    record {
      held = record { block = long; begun = i.held.begun };
      lengths = i.lengths;
      leaves = i.leaves;
      taken = omega (arith, over);
      over = omega (arith, some);
      done = omega (arith, less);
      few = i.few;
      within = λ sound. next_within r.begun.place (length r.begun.bytes) r.bsize r.done r.from r.over (i.within sound) i.taken;
      some = i.some;
    }

-- a block of which nothing is left to take is as good as another
pub left_block : (image : Image) (r : Cursor) (block : List ℕ) (records : List (List ℕ)) → length r.block ≤ r.from → length block ≤ r.from → HasLeft image r records
    → HasLeft image (record r { block = block }) records
left_block image r block records all all' left = record {
  sound = left.sound;
  sizes = left.sizes;
  held =
      let none : drop r.from r.block ≡ drop r.from block = drop_all r.from r.block all ∙ sym (drop_all r.from block all') in
      subst (λ (l : List ℕ). HoldLeft r.bsize r.begun.fixed r.begun.longest r.left (next_place r.begun) (bytes_so_far r.begun ++ (l ++ drop r.over (bytes_at image (drop r.done r.leaves)))) records) none left.held;
}

pub device_altered : failed.Device ≡ failed.Altered → ⊥
device_altered is = cc

pub altered_device : failed.Altered ≡ failed.Device → ⊥
altered_device is = cc

pub less_of : (d n len : ℕ) → (d ≡ n → ⊥) → n ≡ len → d ≤ len → d < len
less_of d n len other is within = omega (arith, other, is, within)

-- ---- the faults of a cursor and of a change

pub err_is : {T E : Type 0} (r : Result T E) (why : E) → IsErrAnd r (λ e. e ≡ why) → r ≡ Err why
err_is (Ok x) why h = absurd h
err_is (Err e) why h = ap Err h

pub none_some : (n : ℕ) → n ≡ 0 → 1 ≤ n → ⊥
none_some n none some = omega arith

pub not_found_read_only : failed.NotFound ≡ failed.ReadOnly → ⊥
not_found_read_only is = cc

pub read_only_not_found : failed.ReadOnly ≡ failed.NotFound → ⊥
read_only_not_found is = cc

pub exists_read_only : failed.Exists ≡ failed.ReadOnly → ⊥
exists_read_only is = cc

pub read_only_exists : failed.ReadOnly ≡ failed.Exists → ⊥
read_only_exists is = cc

pub not_found_exists : failed.NotFound ≡ failed.Exists → ⊥
not_found_exists is = cc

pub exists_not_found : failed.Exists ≡ failed.NotFound → ⊥
exists_not_found is = cc

-- ---- the file is the same

pub same_on : (a b c : Cursor) → SameFile a b → SameFile b c → SameFile a c
same_on a b c first more = record {
  unit = more.unit ∙ first.unit;
  total = more.total ∙ first.total;
  bsize = more.bsize ∙ first.bsize;
  leaves = more.leaves ∙ first.leaves;
  fixed = more.fixed ∙ first.fixed;
  longest = more.longest ∙ first.longest;
}

pub same_taken : (a b : Cursor) → b ≡ record a { begun = b.begun; from = b.from; altered = b.altered } → (b.begun.fixed ≡ a.begun.fixed) × (b.begun.longest ≡ a.begun.longest) → SameFile a b
same_taken a b same rules = record {
  unit = ap (λ (r : Cursor). r.unit) same;
  total = ap (λ (r : Cursor). r.total) same;
  bsize = ap (λ (r : Cursor). r.bsize) same;
  leaves = ap (λ (r : Cursor). r.leaves) same;
  fixed = rules.0;
  longest = rules.1;
}

pub same_read : (a b : Cursor) → b ≡ record a { done = b.done; block = b.block; from = b.from; over = b.over; altered = b.altered } → SameFile a b
same_read a b same = record {
  unit = ap (λ (r : Cursor). r.unit) same;
  total = ap (λ (r : Cursor). r.total) same;
  bsize = ap (λ (r : Cursor). r.bsize) same;
  leaves = ap (λ (r : Cursor). r.leaves) same;
  fixed = ap (λ (r : Cursor). r.begun.fixed) same;
  longest = ap (λ (r : Cursor). r.begun.longest) same;
}

-- a change is never refused so
pub other_fault : (P : Type 0) (v : HeldVolume) (need : ℕ) (r : Result ⊤ DiskFault) (f : DiskFault) → IfErr r (IsChangeFault v need) → (IsChangeFault v need f → ⊥) → IfErr r (λ e. e ≡ f → P)
other_fault P v need r f fault none = IfErr-weaker r (IsChangeFault v need) (λ e. e ≡ f → P) (λ e h is. absurd (none (subst (IsChangeFault v need) is h))) fault

pub ok_err : {T E : Type 0} {x : T} {e : E} → Ok x ≡ Err e → ⊥
ok_err is = cc

pub some_not : (n : ℕ) → (n ≡ 0 → ⊥) → 1 ≤ n
some_not n other = omega arith

pub blocks_same : (units : List Attached) (a b : Cursor) → SameFile a b → HasBlocks units a.unit a.total a.bsize → HasBlocks units b.unit b.total b.bsize
blocks_same units a b same has = rw (same.unit, same.total, same.bsize) has
