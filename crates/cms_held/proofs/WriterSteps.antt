-- What a writer keeps as bytes are taken.
use Rattle.std.proofs.Common.{◌≡◌, ◌∙◌, ℕ, ◌+◌, ◌*◌, ◌/◌, ◌<◌, ◌≤◌, List, [], ◌∷◌, length, take, Result, Ok, Err, OnOk, sym, ap, subst, arith}
use Rattle.std.specs.Prelude.{⊤}
use Rattle.std.proofs.lemmas.Result.{IfErr-weaker}
use Rattle.std.proofs.lemmas.List.{length-take-le}
use Rattle.cms_journal.specs.Causes.{Rose}
use Rattle.cms_journal.specs.Journal.{adds}
use Rattle.cms_journal.specs.Told.{Grown, Told}
use Rattle.cms_journal.specs.declared.event.Event.{Event}
use Rattle.cms_journal.specs.declared.event.Failed.{Failed}
use Rattle.cms_world.specs.Seen.{OnUnits, Seen}
use Rattle.cms_text.proofs.Overwritten.{length_over}
use Rattle.cms_fields.specs.Limits.{most_records}
use Rattle.cms_held.proofs.GrownTrees.{next_multiple}
use Rattle.cms_held.specs.Drafts.{nowhere}
use Rattle.cms_model.specs.Sizes.{pointer_count}
use Rattle.cms_tree.specs.declared.types.Mark.{Mark}
use Rattle.cms_held.specs.BlockWriters.{came, IsLater, IsSame, IsWriter, mark_on}
use Rattle.cms_held.specs.FileWriters.{FileWriter, IsDrafting}
use Rattle.cms_held.specs.declared.block_writer.BlockWriter.{BlockWriter}
use Rattle.cms_held.proofs.BlockWritten.{Begun, Fills, block_there, mark_behind, mark_here, same_filled, same_twice}
use Rattle.cms_held.proofs.FilePuts.{begun, same_begun, short_blocks}

-- ---- bytes that fill a part of a block

filled_long : (at n bsize : ℕ) (text block : List ℕ) → length block ≡ bsize → n ≤ length text → at + n ≤ bsize → (length (take n text) ≡ n) × (at + length (take n text) ≤ length block)
filled_long at n bsize text block long low fits = let took = length-take-le n text low in (took, omega (arith, took, long, fits))

block_long : (w w1 : BlockWriter) (n : ℕ) (text : List ℕ) → IsWriter w → Fills w w1 n text → length w1.block.items ≡ w.bsize
block_long w w1 n text is f =
    let taken = f.taken in
    let within = f.within in
    let low : n ≤ length text = omega (arith, taken) in
    let fits : w.filled + n ≤ w.bsize = omega (arith, taken, within) in
    ap (λ (l : List ℕ). length l) f.block ∙ (length_over w.filled (take n text) w.block.items (filled_long w.filled n w.bsize text w.block.items is.block low fits).1 ∙ is.block)

fits_in : (w w1 : BlockWriter) (n : ℕ) (text : List ℕ) → Fills w w1 n text → w1.filled ≤ w.bsize
fits_in w w1 n text f = let taken = f.taken in let within = f.within in let more = f.more in omega (arith, taken, within, more)

pub fills_writer : (w w1 : BlockWriter) (n : ℕ) (text : List ℕ) → IsWriter w → Fills w w1 n text → IsWriter w1
fills_writer w w1 n text is f = subst IsWriter (sym f.same) (record {
  size = is.size;
  pointer = is.pointer;
  block = block_long w w1 n text is f;
  count = is.count;
  nodes = is.nodes;
  climb_held = is.climb_held;
  climb_size = is.climb_size;
  climb_pointer = is.climb_pointer;
  climb_count = is.climb_count;
  climb_kept = is.climb_kept;
  climb_added = is.climb_added;
  within = is.within;
  filled = fits_in w w1 n text f;
  few = is.few;
})

pub fills_came : (w w1 : BlockWriter) (n : ℕ) (text : List ℕ) → Fills w w1 n text → came w1 ≡ came w + n
fills_came w w1 n text f =
    let at : came w1 ≡ w.whole * w.bsize + w1.filled = ap (λ (x : BlockWriter). came x) f.same in
    let more = f.more in
    omega (arith, at, more)

-- some bytes were taken
pub fills_some : (w w1 : BlockWriter) (n : ℕ) (text : List ℕ) → Fills w w1 n text → w.filled < w.bsize → 1 ≤ length text → (1 ≤ n) × (n ≤ length text)
fills_some w w1 n text f unfilled some = let taken = f.taken in (omega (arith, taken, unfilled, some), omega (arith, taken))

pub fills_later : (w w1 : BlockWriter) (n : ℕ) (text : List ℕ) → IsWriter w → Fills w w1 n text → w1.filled < w1.bsize → IsLater w w1 (came w + length text)
fills_later w w1 n text is f unfilled =
    let at = fills_came w w1 n text f in
    let taken = f.taken in
    record {
      is = fills_writer w w1 n text is f;
      same = same_filled w w1 f.same;
      unfilled = unfilled;
      within = omega (arith, at, taken);
      last = ap (λ (x : BlockWriter). x.mark.last) f.same;
      later = subst (λ (x : BlockWriter). w.whole ≤ x.whole) (sym f.same) (omega arith);
    }

pub fills_mark : (w w1 : BlockWriter) (n : ℕ) (text : List ℕ) → Fills w w1 n text → w1.mark ≡ mark_on w w1.whole
fills_mark w w1 n text f = ap (λ (x : BlockWriter). x.mark) f.same ∙ sym (mark_here w w1.whole (ap (λ (x : BlockWriter). x.whole) f.same))

-- a block that is filled has a number
pub fills_fewer : (w w1 : BlockWriter) (n : ℕ) (text : List ℕ) → IsWriter w → Fills w w1 n text → w1.bsize ≤ w1.filled → w1.whole < length w1.tree.leaves
fills_fewer w w1 n text is f full =
    let is1 = fills_writer w w1 n text is f in
    let low = (short_blocks w1.bsize is1.size).0 in
    let at = fills_came w w1 n text f in
    let taken = f.taken in
    let room = f.room in
    let size = ap (λ (x : BlockWriter). x.size) f.same in
    subst (λ (m : ℕ). w1.whole < m) (sym is1.count) (block_there w1.size w1.bsize w1.whole w1.filled low (omega (arith, full, low)) (omega (arith, at, taken, room, size)))

-- ---- a block that was written

-- the writer after it
pub record Flushes (w1 w2 : BlockWriter) : Type 0 where
  pub is : IsWriter w2
  pub same : IsSame w1 w2
  pub whole : w2.whole ≡ w1.whole + 1
  pub empty : w2.filled ≡ 0
  pub last : w2.mark.last ≡ w1.mark.last

next_block : (k b f : ℕ) → f ≡ b → (k + 1) * b + 0 ≡ k * b + f
next_block k b f full = let more = next_multiple k b in omega (arith, more, full)

pub flushes_came : (w w1 w2 : BlockWriter) (n : ℕ) (text : List ℕ) → Fills w w1 n text → Flushes w1 w2 → w1.bsize ≤ w1.filled → came w2 ≡ came w + n
flushes_came w w1 w2 n text f h full =
    let fits = fits_in w w1 n text f in
    let size = ap (λ (x : BlockWriter). x.bsize) f.same in
    let all : w1.filled ≡ w1.bsize = omega (arith, full, fits, size) in
    (rw (h.whole, h.empty, h.same.bsize) (next_block w1.whole w1.bsize w1.filled all)) ∙ fills_came w w1 n text f

pub flushes_later : (w w1 w2 : BlockWriter) (n : ℕ) (text : List ℕ) → Fills w w1 n text → Flushes w1 w2 → w1.bsize ≤ w1.filled → IsLater w w2 (came w + length text)
flushes_later w w1 w2 n text f h full =
    let at = flushes_came w w1 w2 n text f h full in
    let taken = f.taken in
    let low = (short_blocks w2.bsize h.is.size).0 in
    let empty = h.empty in
    let whole = h.whole in
    let before = ap (λ (x : BlockWriter). x.whole) f.same in
    record {
      is = h.is;
      same = same_twice w w1 w2 (same_filled w w1 f.same) h.same;
      unfilled = omega (arith, empty, low);
      within = omega (arith, at, taken);
      last = h.last ∙ ap (λ (x : BlockWriter). x.mark.last) f.same;
      later = omega (arith, whole, before);
    }

pub flushes_mark : (w w1 w2 : BlockWriter) (n : ℕ) (text : List ℕ) → Fills w w1 n text → Flushes w1 w2 → w2.mark ≡ record { last = w1.mark.last; place = nowhere } → w2.mark ≡ mark_on w w2.whole
flushes_mark w w1 w2 n text f h mark =
    let whole = h.whole in
    let before = ap (λ (x : BlockWriter). x.whole) f.same in
    let less : w.whole < w2.whole = omega (arith, whole, before) in
    mark ∙ (ap (λ (x : BlockWriter). mark_nowhere x.mark.last) f.same ∙ sym (mark_behind w w2.whole less))
  where
    mark_nowhere : ℕ → Mark
    mark_nowhere n = record { last = n; place = nowhere }

-- ---- a record that begins

pub writer_begun : (w : BlockWriter) → IsWriter w → IsWriter (begun w)
writer_begun w is = record {
  size = is.size;
  pointer = is.pointer;
  block = is.block;
  count = is.count;
  nodes = is.nodes;
  climb_held = is.climb_held;
  climb_size = is.climb_size;
  climb_pointer = is.climb_pointer;
  climb_count = is.climb_count;
  climb_kept = is.climb_kept;
  climb_added = is.climb_added;
  within = is.within;
  filled = is.filled;
  few = is.few;
}

-- a file of which one more record was put
pub drafting_put : (d : FileWriter) (w : BlockWriter) (upto : ℕ) → IsDrafting d → d.put < d.shape.count → IsWriter w → IsSame d.writer w → w.filled < w.bsize → came w ≤ upto
    → upto ≤ d.writer.size → w.mark.last ≤ d.put + 1 → IsDrafting (record { shape = d.shape; put = d.put + 1; writer = w })
drafting_put d w upto i fewer is same unfilled within room last =
    let size = same.size in
    record {
      writer = is;
      unfilled = unfilled;
      within = omega (arith, within, room, size);
      size = same.size ∙ i.size;
      pointer = same.psize ∙ i.pointer;
      put_few = omega (arith, fewer);
      few = i.few;
      begun = last;
    }

-- and one of which a run was put
pub drafting_run : (d : FileWriter) (w : BlockWriter) (count upto : ℕ) → IsDrafting d → d.put + count ≤ d.shape.count → IsLater d.writer w upto → upto ≤ d.writer.size
    → IsDrafting (record { shape = d.shape; put = d.put + count; writer = w })
drafting_run d w count upto i fewer later room =
    let size = later.same.size in
    let last = later.last in
    let begun = i.begun in
    let within = later.within in
    record {
      writer = later.is;
      unfilled = later.unfilled;
      within = omega (arith, within, room, size);
      size = later.same.size ∙ i.size;
      pointer = later.same.psize ∙ i.pointer;
      put_few = fewer;
      few = i.few;
      begun = omega (arith, last, begun);
    }

pub drafting_fixed : (d : FileWriter) (w : BlockWriter) (upto : ℕ) → IsDrafting d → d.put < d.shape.count → IsLater d.writer w upto → upto ≤ d.writer.size
    → IsDrafting (record { shape = d.shape; put = d.put + 1; writer = w })
drafting_fixed d w upto i fewer later room =
    let last = later.last in
    let begun = i.begun in
    drafting_put d w upto i fewer later.is later.same later.unfilled later.within room (omega (arith, last, begun))

-- the two bytes of a record's length were taken
pub record TakesSize (w w1 w2 : BlockWriter) (size text : List ℕ) : Type 0 where
  pub begun : w1 ≡ begun w
  pub two : length size ≡ 2
  pub later : IsLater w1 w2 (came w1 + length size)
  pub room : came w + (2 + length text) ≤ w.size

pub size_room : (w w1 : BlockWriter) (size text : List ℕ) → w1 ≡ begun w → length size ≡ 2 → came w + (2 + length text) ≤ w.size → came w1 + length size ≤ w1.size
size_room w w1 size text is two room = subst (λ (x : BlockWriter). came x + length size ≤ x.size) (sym is) (omega (arith, two, room))

upto_size : (w w1 w2 : BlockWriter) (size text : List ℕ) → TakesSize w w1 w2 size text → came w1 + length size ≡ came w + 2
upto_size w w1 w2 size text t = let at : came w1 ≡ came w = ap (λ (x : BlockWriter). came x) t.begun in let two = t.two in omega (arith, at, two)

same_size : (w w1 w2 : BlockWriter) (size text : List ℕ) → TakesSize w w1 w2 size text → IsSame w w2
same_size w w1 w2 size text t = same_twice w (begun w) w2 (same_begun w) (subst (λ (x : BlockWriter). IsSame x w2) t.begun t.later.same)

pub text_room : (w w1 w2 : BlockWriter) (size text : List ℕ) → TakesSize w w1 w2 size text → came w2 ≡ came w1 + length size → came w2 + length text ≤ w2.size
text_room w w1 w2 size text t all =
    let upto = upto_size w w1 w2 size text t in
    let room = t.room in
    let same = (same_size w w1 w2 size text t).size in
    omega (arith, upto, room, same, all)

pub all_varying : (w w1 w2 w3 : BlockWriter) (size text : List ℕ) (r : Result ⊤ Failed) → TakesSize w w1 w2 size text → came w2 ≡ came w1 + length size → OnOk r (came w3 ≡ came w2 + length text)
    → OnOk r (came w3 ≡ came w + (2 + length text))
all_varying w w1 w2 w3 size text (Ok x) t all more = let upto = upto_size w w1 w2 size text t in omega (arith, upto, all, more)
all_varying w w1 w2 w3 size text (Err e) t all more = tt

size_last : (d : FileWriter) (w1 w2 : BlockWriter) (size text : List ℕ) → IsDrafting d → TakesSize d.writer w1 w2 size text → w2.mark.last ≤ d.put + 1
size_last d w1 w2 size text i t =
    let first = ap (λ (x : BlockWriter). x.mark.last) t.begun in
    let last = t.later.last in
    let begun = i.begun in
    omega (arith, first, last, begun)

pub drafting_size : (d : FileWriter) (w1 w2 : BlockWriter) (size text : List ℕ) → IsDrafting d → d.put < d.shape.count → TakesSize d.writer w1 w2 size text
    → IsDrafting (record { shape = d.shape; put = d.put + 1; writer = w2 })
drafting_size d w1 w2 size text i fewer t =
    let upto = upto_size d.writer w1 w2 size text t in
    let room = t.room in
    drafting_put d w2 (came w1 + length size) i fewer t.later.is (same_size d.writer w1 w2 size text t) t.later.unfilled t.later.within (omega (arith, upto, room)) (size_last d w1 w2 size text i t)

pub drafting_varying : (d : FileWriter) (w1 w2 w3 : BlockWriter) (size text : List ℕ) → IsDrafting d → d.put < d.shape.count → TakesSize d.writer w1 w2 size text → came w2 ≡ came w1 + length size
    → IsLater w2 w3 (came w2 + length text) → IsDrafting (record { shape = d.shape; put = d.put + 1; writer = w3 })
drafting_varying d w1 w2 w3 size text i fewer t all later =
    let room = text_room d.writer w1 w2 size text t all in
    let same = same_size d.writer w1 w2 size text t in
    let bytes = same.size in
    let last = size_last d w1 w2 size text i t in
    let no_more = later.last in
    drafting_put d w3 (came w2 + length text) i fewer later.is (same_twice d.writer w2 w3 same later.same) later.unfilled later.within (omega (arith, room, bytes)) (omega (arith, last, no_more))

pub begin_may : (d : FileWriter) → IsDrafting d → d.put < d.shape.count → d.writer.mark.last < most_records
begin_may d i fewer = let begun = i.begun in let few = i.few in omega (arith, begun, few, fewer)

-- ---- what is counted

rose_later : (a b c : ℕ) → a ≤ b → Rose b c → Rose a c
rose_later a b c later rose = omega (arith, later, rose)

-- calls on units behind others
pub counts_behind : {B : Type 0} {a b c : Seen} (r : Result B Failed) → a.faults ≤ b.faults → b.edges ≡ a.edges → OnUnits b c r → OnUnits a c r
counts_behind {a = a} {b = b} {c = c} r faults edges more =
    let last = more.cause.later in
    record {
      cause = record {
        later = omega (arith, faults, last);
        failed = IfErr-weaker r (λ _. Rose b.faults c.faults) (λ _. Rose a.faults c.faults) (λ e rose. rose_later a.faults b.faults c.faults faults rose) more.cause.failed;
      };
      edges = more.edges ∙ edges;
    }

-- the same where one failed, and its fault is passed on
pub counts_failed : {A B : Type 0} {a b c : Seen} {e f : Failed} → a.faults ≤ b.faults → b.edges ≡ a.edges → OnUnits {T = A} {E = Failed} b c (Err e) → OnUnits {T = B} {E = Failed} a c (Err f)
counts_failed {a = a} {b = b} {c = c} faults edges more =
    let last = more.cause.later in
    record {
      cause = record { later = omega (arith, faults, last); failed = rose_later a.faults b.faults c.faults faults more.cause.failed };
      edges = more.edges ∙ edges;
    }

pub holds_at_ok : {T E : Type 0} {P : Type 0} (r : Result T E) → P → OnOk r P
holds_at_ok (Ok x) p = p
holds_at_ok (Err e) p = tt

-- ---- the writer where a block is written

pub writer_stopped : (w : BlockWriter) → IsWriter w → w.whole < length w.tree.leaves → IsWriter (record w { filled = 0; whole = w.whole + 1 })
writer_stopped w is fewer = record {
  size = is.size;
  pointer = is.pointer;
  block = is.block;
  count = is.count;
  nodes = is.nodes;
  climb_held = is.climb_held;
  climb_size = is.climb_size;
  climb_pointer = is.climb_pointer;
  climb_count = is.climb_count;
  climb_kept = is.climb_kept;
  climb_added = (let added = is.climb_added in omega (arith, added));
  within = omega (arith, fewer);
  filled = omega arith;
  few = is.few;
}

pub add_fewer : (w : BlockWriter) → IsWriter w → w.whole < length w.tree.leaves → w.climb.added < w.climb.count
add_fewer w is fewer = let added = is.climb_added in let count = is.climb_count in omega (arith, added, count, fewer)

pub add_fresh : (w : BlockWriter) → IsWriter w → pointer_count (w.climb.bsize / w.climb.psize) w.climb.count ≤ length w.tree.pointers
add_fresh w is = rw (is.climb_size, is.climb_pointer, is.climb_count, ← is.nodes) (omega arith)

pub wrote_grown : (old new : Told) (event : Event) → new ≡ adds event old → Grown old new
wrote_grown old new event wrote = record { events = event ∷ []; told = wrote }

-- ---- a writer to which a part of the bytes came

pub begun_later : (w w1 w2 : BlockWriter) (text rest : List ℕ) → Begun w w1 text rest → w1.mark.last ≡ w.mark.last → IsLater w1 w2 (came w1 + length rest) → IsLater w w2 (came w + length text)
begun_later w w1 w2 text rest b last later =
    let at = b.at in
    let within = later.within in
    let before = b.later in
    let behind = later.later in
    record {
      is = later.is;
      same = same_twice w w1 w2 b.same later.same;
      unfilled = later.unfilled;
      within = omega (arith, at, within);
      last = later.last ∙ last;
      later = omega (arith, before, behind);
    }

pub begun_room : (w w1 : BlockWriter) (text rest : List ℕ) → Begun w w1 text rest → came w + length text ≤ w.size → came w1 + length rest ≤ w1.size
begun_room w w1 text rest b room = let at = b.at in let size = b.same.size in omega (arith, at, size, room)

pub counts_so_far : {T : Type 0} (a b : Seen) {x : T} → a.faults ≤ b.faults → b.edges ≡ a.edges → OnUnits {T = T} {E = Failed} a b (Ok x)
counts_so_far a b faults edges = record { cause = record { later = faults; failed = tt }; edges = edges }
