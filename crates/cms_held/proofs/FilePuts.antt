-- A record that is put, of either format.
use Rattle.std.proofs.Common.{◌≡◌, ◌⊎◌, inl, inr, ⊎_elim, ℕ, ◌+◌, ◌*◌, ◌/◌, ◌<◌, ◌≤◌, List, [], ◌∷◌, ◌++◌, length, drop, All, Result, Ok, Err, OnOk, refl, sym, ◌∙◌, ap, subst, arith, append_assoc, append-nil, length-append, drop_at, mul-le-mul_right}
use Rattle.std.specs.Prelude.{⊤, if◌then◌else◌, ◌==◌}
use Rattle.std.specs.List.{range_with_len}
use Rattle.std.proofs.lemmas.Bool.{cases_eq, cases_lt}
use Rattle.byteorder.specs.Endian.{big_bytes}
use Rattle.byteorder.specs.Numbers.{length-bytes_high_first}
use Rattle.cms_journal.specs.Told.{Told}
use Rattle.cms_journal.specs.declared.event.Failed.{Failed}
use Rattle.cms_journal.specs.Journal.{IsBlockSize}
use Rattle.cms_names.specs.declared.name.Format.{Format}
use Rattle.cms_names.specs.declared.name.Format.TheVariants.{F, V}
use Rattle.cms_fields.specs.Entries.{pointer_size}
use Rattle.cms_fields.specs.Numbers.{up}
use Rattle.cms_model.specs.Records.{Fits, stored, with_length}
use Rattle.cms_model.proofs.Records.{length-with_length, stored_append}
use Rattle.cms_model.proofs.Quotients.{up_some}
use Rattle.cms_tree.specs.declared.types.Mark.{Mark}
use Rattle.cms_tree.specs.Builds.{IsBuildable}
use Rattle.cms_held.specs.HeldVolumes.{HeldTree}
use Rattle.cms_fields.specs.Limits.{most_bytes, most_records}
use Rattle.cms_held.specs.declared.shape.DraftShape.{DraftShape}
use Rattle.std.proofs.lemmas.List.{length-map}
use Rattle.std.proofs.lemmas.List.Elements.{All-nil}
use Rattle.std.proofs.lemmas.List.FromFn.{length-range_with_len}
use Rattle.cms_tree.specs.Kept.{Kept}
use Rattle.cms_held.specs.Drafts.{Front, mark_with, no_front, nowhere, own_blocks, stored_on}
use Rattle.cms_held.proofs.DraftOwn.{own_all}
use Rattle.cms_tree.proofs.ClimbBlocks.{some_fan}
use Rattle.cms_held.proofs.GrownTrees.{next_multiple}
use Rattle.cms_held.specs.BlockWriters.{Finishes, its_blocks, IsNewWriter, IsWriter, IsSame, came, AreMarked, ComesNext, Stops, Streams, Writes, Wrote, mark_on, with_start}
use Rattle.cms_held.specs.FileWriters.{FileWriter, Drafts, IsDrafting, IsFresh, IsMarkedSo, Puts, PutsRun, marks_in, marks_of}
use Rattle.cms_held.specs.declared.block_writer.BlockWriter.{BlockWriter}
use Rattle.cms_held.proofs.BlockWritten.{block_there, few_leaves, mark_here, mark_behind, mark_later, marked_later, next_later, same_twice, stops_on, wrote_none, wrote_on}
use Rattle.cms_held.proofs.DraftMarks.{Begins, mark_end, mark_is, mark_whole, place_none, place_past, started_place}

-- ---- stored bytes

-- those of more records stand behind
on_append : (format : Format) (front : Front) (records more : List (List ℕ)) → stored_on format front (records ++ more) ≡ stored_on format front records ++ stored format more
on_append format front records more =
    ap (λ (l : List ℕ). front.bytes ++ l) (stored_append format records more) ∙ sym (append_assoc front.bytes (stored format records) (stored format more))

-- ---- the bytes that come next

next_fixed : (at : ℕ) (front : Front) (records run more : List (List ℕ)) → at ≡ length (stored_on F front records) → ComesNext at (stored F run) (stored_on F front (records ++ (run ++ more)))
next_fixed at front records run more is = record {
  more = stored F more;
  is = ap (drop at) (on_append F front records (run ++ more)) ∙ (drop_at (stored_on F front records) (stored F (run ++ more)) at (sym is) ∙ stored_append F run more);
}

next_stored : (at : ℕ) (front : Front) (records more : List (List ℕ)) (text : List ℕ) → at ≡ length (stored_on V front records)
    → ComesNext at (with_length text) (stored_on V front (records ++ (text ∷ more)))
next_stored at front records more text is = record {
  more = stored V more;
  is = ap (drop at) (on_append V front records (text ∷ more)) ∙ drop_at (stored_on V front records) (with_length text ++ stored V more) at (sym is);
}

next_size : (at : ℕ) (text bytes : List ℕ) → ComesNext at (with_length text) bytes → ComesNext at (big_bytes 2 (length text)) bytes
next_size at text bytes next = record { more = text ++ next.more; is = next.is ∙ append_assoc (big_bytes 2 (length text)) text next.more }

next_text : (at : ℕ) (text bytes : List ℕ) → ComesNext at (with_length text) bytes → ComesNext (at + 2) text bytes
next_text at text bytes next =
    let size = length-bytes_high_first 2 (length text) in
    let long = length-with_length text in
    subst (λ (l : List ℕ). ComesNext (at + 2) l bytes) (drop_at (big_bytes 2 (length text)) text 2 size) (next_later at 2 (with_length text) bytes (omega arith) next)

-- ---- the marks at V

pub short_blocks : (size : ℕ) → IsBlockSize size → (1 ≤ size) × (size ≤ 4096)
short_blocks size is = (omega arith, omega arith)

on_long : (w : BlockWriter) (front : Front) (records : List (List ℕ)) → came w ≡ length (stored_on V front records) → length front.bytes + length (stored V records) ≡ w.whole * w.bsize + w.filled
on_long w front records at = sym (length-append front.bytes (stored V records)) ∙ sym at

-- the mark that a data block has as soon as the next record begins
begun_mark : (w : BlockWriter) (front : Front) (records : List (List ℕ)) (text : List ℕ) (k : ℕ) → IsMarkedSo V w front records → Begins w.bsize front
    → came w ≡ length (stored_on V front records) → w.filled < w.bsize → w.bsize ≤ 4096 → w.whole ≤ k
    → mark_on (record w { mark = with_start w }) k ≡ record { last = front.count + (length records + 1); place = (mark_with w.bsize front (records ++ text ∷ []) k).place }
begun_mark w front records text k mark begins at unfilled short low = ⊎_elim here behind (cases_eq k w.whole)
  where
    next : BlockWriter
    next = record w { mark = with_start w }

    at' : length front.bytes + length (stored V records) ≡ w.whole * w.bsize + w.filled
    at' = on_long w front records at

    last : w.mark.last + 1 ≡ front.count + (length records + 1)
    last = ap (λ (m : Mark). m.last + 1) mark ∙ (omega arith)

    place : (if w.mark.place == nowhere then w.filled else w.mark.place) ≡ (mark_with w.bsize front (records ++ text ∷ []) w.whole).place
    place = ap (λ (n : ℕ). if n == nowhere then w.filled else n) (ap (λ (m : Mark). m.place) mark) ∙ started_place w.bsize w.whole w.filled front records text unfilled short at'

    here : k ≡ w.whole → mark_on next k ≡ record { last = front.count + (length records + 1); place = (mark_with w.bsize front (records ++ text ∷ []) k).place }
    here is = mark_here next k is ∙ ap (λ (n : ℕ). record { last = n; place = (with_start w).place }) last
        ∙ ap (λ (n : ℕ). record { last = front.count + (length records + 1); place = n }) (place ∙ ap (λ (n : ℕ). (mark_with w.bsize front (records ++ text ∷ []) n).place) (sym is))

    past : (k ≡ w.whole → ⊥) → w.whole + 1 ≤ k
    past other = omega arith

    past' : (k ≡ w.whole → ⊥) → w.whole < k
    past' other = omega arith

    behind : (k ≡ w.whole → ⊥) → mark_on next k ≡ record { last = front.count + (length records + 1); place = (mark_with w.bsize front (records ++ text ∷ []) k).place }
    behind other =
        let more = next_multiple w.whole w.bsize in
        let wide = mul-le-mul_right w.bsize (past other) in
        let a = at' in
        mark_behind next k (past' other) ∙ ap (λ (n : ℕ). record { last = n; place = nowhere }) last
        ∙ ap (λ (n : ℕ). record { last = front.count + (length records + 1); place = n }) (sym (place_none w.bsize k front records text begins (omega arith)))

-- and it is the mark that it is to have, where it is whole with that record
begun_marked : (w : BlockWriter) (front : Front) (records more : List (List ℕ)) (text : List ℕ) → IsWriter w → IsMarkedSo V w front records → Begins w.bsize front
    → came w ≡ length (stored_on V front records) → w.filled < w.bsize
    → came w + (2 + length text) ≤ w.size
    → AreMarked (record w { mark = with_start w }) (came w + (2 + length text)) (marks_of V w.bsize front (records ++ (text ∷ more)) (length w.tree.leaves))
begun_marked w front records more text is mark begins at unfilled room wide k low end =
    let sizes = short_blocks w.bsize is.size in
    let some = sizes.0 in
    let count = is.count in
    let one = next_multiple k w.bsize in
    let there : k < length w.tree.leaves = subst (λ (n : ℕ). k < n) (sym is.count) (block_there w.size w.bsize k w.bsize sizes.0 sizes.0 (omega arith)) in
    let first = next_multiple w.whole w.bsize in
    let wider = mul-le-mul_right w.bsize low' in
    let at' = on_long w front records at in
    begun_mark w front records text k mark begins at unfilled sizes.1 low ∙ sym (mark_whole w.bsize k front records more text (omega arith) (omega arith))
    ∙ sym (mark_is w.bsize (length w.tree.leaves) k front (records ++ (text ∷ more)) there)
  where
    low' : w.whole + 1 ≤ k + 1
    low' = omega arith

-- ---- a record was put

-- how long records are as they are stored
pub stored_run : (format : Format) (front : Front) (records run : List (List ℕ)) (at : ℕ) → at ≡ length (stored_on format front records)
    → at + length (stored format run) ≡ length (stored_on format front (records ++ run))
stored_run format front records run at is = ap (λ (n : ℕ). n + length (stored format run)) is
    ∙ sym (length-append (stored_on format front records) (stored format run)) ∙ ap (λ (l : List ℕ). length l) (sym (on_append format front records run))

-- and one of them
pub stored_long : (format : Format) (front : Front) (records : List (List ℕ)) (text : List ℕ) (at : ℕ) → at ≡ length (stored_on format front records)
    → at + length (stored format (text ∷ [])) ≡ length (stored_on format front (records ++ text ∷ []))
stored_long format front records text at is = stored_run format front records (text ∷ []) at is

pub long_fixed : (text : List ℕ) → length (stored F (text ∷ [])) ≡ length text
long_fixed text = ap (λ (l : List ℕ). length l) (append-nil text)

pub long_varying : (text : List ℕ) → length (stored V (text ∷ [])) ≡ 2 + length text
long_varying text = ap (λ (l : List ℕ). length l) (append-nil (with_length text)) ∙ length-with_length text

regroup : (records run more : List (List ℕ)) → (records ++ run) ++ more ≡ records ++ (run ++ more)
regroup records run more = append_assoc records run more

put_done : (old new : Told) (d : FileWriter) (w : BlockWriter) (front : Front) (records run more : List (List ℕ)) (x : ⊤) → Drafts d front records (run ++ more) → IsSame d.writer w
    → came w ≡ came d.writer + length (stored d.shape.format run) → IsMarkedSo d.shape.format w front (records ++ run)
    → Wrote old new d.writer w front.nodes (stored_on d.shape.format front (records ++ (run ++ more))) (marks_in d front (records ++ (run ++ more)))
    → PutsRun old new d (record d { put = d.put + length run; writer = w }) front records run more (Ok x)
put_done old new d w front records run more x h same came_is mark wrote = (
  wrote,
  record {
    put = let p = h.put in let long = length-append records run in omega arith;
    count = h.count ∙ ap (λ (l : List (List ℕ)). front.count + length l) (sym (regroup records run more));
    streams = subst (λ (l : List (List ℕ)). Streams w front.nodes (stored_on d.shape.format front l) (marks_of d.shape.format w.bsize front l (length w.tree.leaves))) (sym (regroup records run more))
        (subst (λ (m : List Mark). Streams w front.nodes (stored_on d.shape.format front (records ++ (run ++ more))) m) marks wrote.streams);
    came_is = came_is ∙ stored_run d.shape.format front records run (came d.writer) h.came_is;
    begins = subst (λ (b : ℕ). Begins b front) (sym same.bsize) h.begins;
    mark = mark;
    each = subst (All (Fits d.shape.format d.shape.length)) (sym (regroup records run more)) h.each;
  },
)
  where
    marks : marks_in d front (records ++ (run ++ more)) ≡ marks_of d.shape.format w.bsize front (records ++ (run ++ more)) (length w.tree.leaves)
    marks = rw (same.bsize, same.tree) refl

-- ---- at F

-- records that come next
pub run_fixed : (old new : Told) (d : FileWriter) (w : BlockWriter) (front : Front) (records run more : List (List ℕ)) (bytes : List ℕ) (r : Result ⊤ Failed) → d.shape.format ≡ F → IsDrafting d
    → Drafts d front records (run ++ more) → bytes ≡ stored F run
    → IsSame d.writer w → OnOk r (came w ≡ came d.writer + length bytes)
    → ((es : List Kept) (whole : List ℕ) (marks : List Mark) → Streams d.writer es whole marks → ComesNext (came d.writer) bytes whole → AreMarked d.writer (came d.writer + length bytes) marks
    → Writes old new d.writer w es whole marks (came d.writer + length bytes) r)
    → PutsRun old new d (record d { put = d.put + length run; writer = w }) front records run more r
run_fixed old new d w front records run more bytes r is i h are same all writes =
    answer r all (writes front.nodes (stored_on d.shape.format front (records ++ (run ++ more))) (marks_in d front (records ++ (run ++ more))) h.streams next (λ wide. absurd (none wide)))
  where
    at : came d.writer ≡ length (stored_on F front records)
    at = h.came_is ∙ ap (λ (f : Format). length (stored_on f front records)) is

    next : ComesNext (came d.writer) bytes (stored_on d.shape.format front (records ++ (run ++ more)))
    next = subst (λ (f : Format). ComesNext (came d.writer) bytes (stored_on f front (records ++ (run ++ more)))) (sym is)
        (subst (λ (l : List ℕ). ComesNext (came d.writer) l (stored_on F front (records ++ (run ++ more)))) (sym are) (next_fixed (came d.writer) front records run more at))

    four : d.writer.psize ≡ 4
    four = i.pointer ∙ ap pointer_size is

    none : d.writer.psize ≡ 12 → ⊥
    none wide = absurd (omega (arith, four))

    long : length bytes ≡ length (stored d.shape.format run)
    long = ap (λ (l : List ℕ). length l) are ∙ sym (ap (λ (f : Format). length (stored f run)) is)

    answer : (r : Result ⊤ Failed) → OnOk r (came w ≡ came d.writer + length bytes)
        → Writes old new d.writer w front.nodes (stored_on d.shape.format front (records ++ (run ++ more))) (marks_in d front (records ++ (run ++ more))) (came d.writer + length bytes) r
        → PutsRun old new d (record d { put = d.put + length run; writer = w }) front records run more r
    answer (Ok x) all wrote =
        put_done old new d w front records run more x h same (all ∙ ap (λ (n : ℕ). came d.writer + n) long)
        (subst (λ (f : Format). IsMarkedSo f w front (records ++ run)) (sym is) tt) wrote
    answer (Err e) all stops =
        subst (Stops old new d.writer front.nodes (stored_on d.shape.format front (records ++ (run ++ more))) (marks_in d front (records ++ (run ++ more))))
        (ap (λ (n : ℕ). came d.writer + n) long ∙ stored_run d.shape.format front records run (came d.writer) h.came_is) stops

-- one of them
pub put_fixed : (old new : Told) (d : FileWriter) (w : BlockWriter) (front : Front) (records more : List (List ℕ)) (text : List ℕ) (r : Result ⊤ Failed) → d.shape.format ≡ F → IsDrafting d
    → Drafts d front records (text ∷ more)
    → IsSame d.writer w → OnOk r (came w ≡ came d.writer + length text)
    → ((es : List Kept) (bytes : List ℕ) (marks : List Mark) → Streams d.writer es bytes marks → ComesNext (came d.writer) text bytes → AreMarked d.writer (came d.writer + length text) marks
    → Writes old new d.writer w es bytes marks (came d.writer + length text) r)
    → Puts old new d (record d { put = d.put + 1; writer = w }) front records text more r
put_fixed old new d w front records more text r is i h same all writes = run_fixed old new d w front records (text ∷ []) more text r is i h (sym (append-nil text)) same all writes

-- ---- at V

-- a record begins
abbrev pub begun : BlockWriter → BlockWriter
begun w = record w { mark = with_start w }

pub same_begun : (w : BlockWriter) → IsSame w (begun w)
same_begun w = record { unit = refl; bsize = refl; psize = refl; tree = refl; size = refl; kept = refl }

streams_begun : (w : BlockWriter) (es : List Kept) (bytes : List ℕ) (marks : List Mark) → Streams w es bytes marks → Streams (begun w) es bytes marks
streams_begun w es bytes marks s = record { climbs = s.climbs; keeps = s.keeps; kept = s.kept; added = s.added; size = s.size; block = s.block }

-- marks up to a place are those up to every place before it
fewer_marked : (w : BlockWriter) (less upto : ℕ) (marks : List Mark) → less ≤ upto → AreMarked w upto marks → AreMarked w less marks
fewer_marked w less upto marks low are wide k from end = are wide k from (omega arith)

stops_more : (old new : Told) (w : BlockWriter) (es : List Kept) (bytes : List ℕ) (marks : List Mark) (less upto : ℕ) → less ≤ upto → Stops old new w es bytes marks less → Stops old new w es bytes marks upto
stops_more old new w es bytes marks less upto low s = let within = s.within in record { to = s.to; within = omega arith; part = s.part; is = s.is; front = s.front }

-- the length of a record came
pub record Sized (old mid : Told) (w w2 : BlockWriter) (size : List ℕ) (r : Result ⊤ Failed) : Type 0 where
  pub same : IsSame (begun w) w2
  pub all : OnOk r (came w2 ≡ came w + length size)
  pub mark : OnOk r (w2.mark ≡ mark_on (begun w) w2.whole)
  pub later : w.whole ≤ w2.whole
  pub writes : (es : List Kept) (bytes : List ℕ) (marks : List Mark) → Streams (begun w) es bytes marks → ComesNext (came w) size bytes → AreMarked (begun w) (came w + length size) marks
      → Writes old mid (begun w) w2 es bytes marks (came w + length size) r

pub sized : (old mid : Told) (w w1 w2 : BlockWriter) (size : List ℕ) (r : Result ⊤ Failed) → w1 ≡ begun w → IsSame w1 w2 → OnOk r (came w2 ≡ came w1 + length size)
    → OnOk r (w2.mark ≡ mark_on w1 w2.whole)
    → w1.whole ≤ w2.whole
    → ((es : List Kept) (bytes : List ℕ) (marks : List Mark) → Streams w1 es bytes marks → ComesNext (came w1) size bytes → AreMarked w1 (came w1 + length size) marks
    → Writes old mid w1 w2 es bytes marks (came w1 + length size) r)
    → Sized old mid w w2 size r
sized old mid w w1 w2 size r is =
    subst (λ (x : BlockWriter). IsSame x w2 → OnOk r (came w2 ≡ came x + length size) → OnOk r (w2.mark ≡ mark_on x w2.whole) → x.whole ≤ w2.whole
    → ((es : List Kept) (bytes : List ℕ) (marks : List Mark) → Streams x es bytes marks → ComesNext (came x) size bytes → AreMarked x (came x + length size) marks
    → Writes old mid x w2 es bytes marks (came x + length size) r)
    → Sized old mid w w2 size r) (sym is)
    (λ same all mark later writes. record { same = same; all = all; mark = mark; later = later; writes = writes })

-- what is known of a record that is put
pub record Putting (d : FileWriter) (front : Front) (records more : List (List ℕ)) (text size : List ℕ) : Type 0 where
  pub is : d.shape.format ≡ V
  pub drafting : IsDrafting d
  pub drafts : Drafts d front records (text ∷ more)
  pub room : came d.writer + length (stored d.shape.format (text ∷ [])) ≤ d.writer.size
  pub size_is : size ≡ big_bytes 2 (length text)

abbrev bytes_of : FileWriter → Front → List (List ℕ) → List (List ℕ) → List ℕ → List ℕ
bytes_of d front records more text = stored_on d.shape.format front (records ++ (text ∷ more))

abbrev all_marks : FileWriter → Front → List (List ℕ) → List (List ℕ) → List ℕ → List Mark
all_marks d front records more text = marks_in d front (records ++ (text ∷ more))

at_V : (d : FileWriter) (front : Front) (records more : List (List ℕ)) (text size : List ℕ) → Putting d front records more text size → came d.writer ≡ length (stored_on V front records)
at_V d front records more text size p = p.drafts.came_is ∙ ap (λ (f : Format). length (stored_on f front records)) p.is

marked_V : (d : FileWriter) (front : Front) (records more : List (List ℕ)) (text size : List ℕ) → Putting d front records more text size → IsMarkedSo V d.writer front records
marked_V d front records more text size p = subst (λ (f : Format). IsMarkedSo f d.writer front records) p.is p.drafts.mark

long_V : (d : FileWriter) (front : Front) (records more : List (List ℕ)) (text size : List ℕ) → Putting d front records more text size → length (stored d.shape.format (text ∷ [])) ≡ 2 + length text
long_V d front records more text size p = ap (λ (f : Format). length (stored f (text ∷ []))) p.is ∙ long_varying text

stored_next : (d : FileWriter) (front : Front) (records more : List (List ℕ)) (text size : List ℕ) → Putting d front records more text size → ComesNext (came d.writer) (with_length text) (bytes_of d front records more text)
stored_next d front records more text size p =
    subst (λ (f : Format). ComesNext (came d.writer) (with_length text) (stored_on f front (records ++ (text ∷ more)))) (sym p.is)
    (next_stored (came d.writer) front records more text (at_V d front records more text size p))

pub two : (size text : List ℕ) → size ≡ big_bytes 2 (length text) → length size ≡ 2
two size text is = ap (λ (l : List ℕ). length l) is ∙ length-bytes_high_first 2 (length text)

all_marked : (d : FileWriter) (front : Front) (records more : List (List ℕ)) (text size : List ℕ) → Putting d front records more text size
    → AreMarked (begun d.writer) (came d.writer + (2 + length text)) (all_marks d front records more text)
all_marked d front records more text size p =
    let room = p.room in
    let long = long_V d front records more text size p in
    subst (λ (f : Format). AreMarked (begun d.writer) (came d.writer + (2 + length text)) (marks_of f d.writer.bsize front (records ++ (text ∷ more)) (length d.writer.tree.leaves))) (sym p.is)
    (begun_marked d.writer front records more text p.drafting.writer (marked_V d front records more text size p) p.drafts.begins (at_V d front records more text size p) p.drafting.unfilled (omega arith))

size_writes : (old mid : Told) (d : FileWriter) (w2 : BlockWriter) (front : Front) (records more : List (List ℕ)) (text size : List ℕ) (r : Result ⊤ Failed) → Putting d front records more text size
    → Sized old mid d.writer w2 size r
    → Writes old mid (begun d.writer) w2 front.nodes (bytes_of d front records more text) (all_marks d front records more text) (came d.writer + length size) r
size_writes old mid d w2 front records more text size r p z =
    let long = two size text p.size_is in
    z.writes front.nodes (bytes_of d front records more text) (all_marks d front records more text) (streams_begun d.writer front.nodes (bytes_of d front records more text) (all_marks d front records more text) p.drafts.streams)
    (subst (λ (l : List ℕ). ComesNext (came d.writer) l (bytes_of d front records more text)) (sym p.size_is)
    (next_size (came d.writer) text (bytes_of d front records more text) (stored_next d front records more text size p)))
    (fewer_marked (begun d.writer) (came d.writer + length size) (came d.writer + (2 + length text)) (all_marks d front records more text) (omega arith) (all_marked d front records more text size p))

-- the length of a record failed to be written
pub put_size_fails : (old mid : Told) (d : FileWriter) (w2 : BlockWriter) (front : Front) (records more : List (List ℕ)) (text size : List ℕ) (e : Failed) → Putting d front records more text size
    → Sized old mid d.writer w2 size (Err e)
    → Stops old mid d.writer front.nodes (bytes_of d front records more text) (all_marks d front records more text) (length (stored_on d.shape.format front (records ++ text ∷ [])))
put_size_fails old mid d w2 front records more text size e p z =
    let long = two size text p.size_is in
    let whole = long_V d front records more text size p in
    let upto = stored_long d.shape.format front records text (came d.writer) p.drafts.came_is in
    let s = p.drafts.streams in
    let none = wrote_none old d.writer (begun d.writer) front.nodes (bytes_of d front records more text) (all_marks d front records more text) refl
    (streams_begun d.writer front.nodes (bytes_of d front records more text) (all_marks d front records more text) s) in
    stops_on old old mid d.writer (begun d.writer) front.nodes (bytes_of d front records more text) (all_marks d front records more text) (length (stored_on d.shape.format front (records ++ text ∷ []))) (same_begun d.writer) none
    (stops_more old mid (begun d.writer) front.nodes (bytes_of d front records more text) (all_marks d front records more text) (came d.writer + length size) (length (stored_on d.shape.format front (records ++ text ∷ [])))
    (omega arith)
    (size_writes old mid d w2 front records more text size (Err e) p z))

pub put_varying : (old mid new : Told) (d : FileWriter) (w2 w : BlockWriter) (front : Front) (records more : List (List ℕ)) (text size : List ℕ) (x : ⊤) (r : Result ⊤ Failed) → Putting d front records more text size
    → Sized old mid d.writer w2 size (Ok x) → IsSame w2 w → OnOk r (came w ≡ came w2 + length text) → OnOk r (w.mark ≡ mark_on w2 w.whole) → w2.whole ≤ w.whole
    → ((es : List Kept) (bytes : List ℕ) (marks : List Mark) → Streams w2 es bytes marks → ComesNext (came w2) text bytes → AreMarked w2 (came w2 + length text) marks
    → Writes mid new w2 w es bytes marks (came w2 + length text) r)
    → Puts old new d (record d { put = d.put + 1; writer = w }) front records text more r
put_varying old mid new d w2 w front records more text size x r p z same all mark later writes =
    answer r all mark (writes front.nodes bytes marks wrote.streams next (marked_later (begun d.writer) w2 (came w2 + length text) marks z.same z.mark z.later
    (subst (λ (n : ℕ). AreMarked (begun d.writer) n marks) (sym upto) (all_marked d front records more text size p))))
  where
    bytes : List ℕ
    bytes = bytes_of d front records more text

    marks : List Mark
    marks = all_marks d front records more text

    first : Wrote old mid (begun d.writer) w2 front.nodes bytes marks
    first = size_writes old mid d w2 front records more text size (Ok x) p z

    both : IsSame d.writer w2
    both = same_twice d.writer (begun d.writer) w2 (same_begun d.writer) z.same

    wrote : Wrote old mid d.writer w2 front.nodes bytes marks
    wrote = wrote_on old old mid d.writer (begun d.writer) w2 front.nodes bytes marks (same_begun d.writer)
        (wrote_none old d.writer (begun d.writer) front.nodes bytes marks refl (streams_begun d.writer front.nodes bytes marks p.drafts.streams)) first

    at : came w2 ≡ came d.writer + 2
    at = z.all ∙ ap (λ (n : ℕ). came d.writer + n) (two size text p.size_is)

    upto : came w2 + length text ≡ came d.writer + (2 + length text)
    upto = omega (arith, at)

    next : ComesNext (came w2) text bytes
    next = subst (λ (n : ℕ). ComesNext n text bytes) (sym at) (next_text (came d.writer) text bytes (stored_next d front records more text size p))

    long : came d.writer + (2 + length text) ≡ came d.writer + length (stored d.shape.format (text ∷ []))
    long = ap (λ (n : ℕ). came d.writer + n) (sym (long_V d front records more text size p))

    sizes : d.writer.bsize ≤ 4096
    sizes = (short_blocks d.writer.bsize p.drafting.writer.size).1

    low : d.writer.whole ≤ w.whole
    low = let first = z.later in omega arith

    marked : w.mark ≡ mark_on w2 w.whole → w.mark ≡ record { last = front.count + (length records + 1); place = (mark_with d.writer.bsize front (records ++ text ∷ []) w.whole).place }
    marked m = m ∙ mark_later (begun d.writer) w2 w.whole z.mark z.later later
        ∙ begun_mark d.writer front records text w.whole (marked_V d front records more text size p) p.drafts.begins (at_V d front records more text size p) p.drafting.unfilled sizes low

    so : w.mark ≡ mark_on w2 w.whole → IsMarkedSo d.shape.format w front (records ++ text ∷ [])
    so m = subst (λ (f : Format). IsMarkedSo f w front (records ++ text ∷ [])) (sym p.is)
        (marked m ∙ ap (λ (n : ℕ). record { last = front.count + n; place = (mark_with d.writer.bsize front (records ++ text ∷ []) w.whole).place }) (sym (length-append records (text ∷ [])))
        ∙ ap (λ (n : ℕ). record { last = front.count + length (records ++ text ∷ []); place = (mark_with n front (records ++ text ∷ []) w.whole).place }) (sym (same.bsize ∙ both.bsize)))

    answer : (r : Result ⊤ Failed) → OnOk r (came w ≡ came w2 + length text) → OnOk r (w.mark ≡ mark_on w2 w.whole) → Writes mid new w2 w front.nodes bytes marks (came w2 + length text) r
        → Puts old new d (record d { put = d.put + 1; writer = w }) front records text more r
    answer (Ok y) all mark more' = put_done old new d w front records (text ∷ []) more y p.drafts (same_twice d.writer w2 w both same) (all ∙ upto ∙ long) (so mark)
        (wrote_on old mid new d.writer w2 w front.nodes bytes marks both wrote more')
    answer (Err e) all mark stops =
        subst (Stops old new d.writer front.nodes bytes marks) (upto ∙ long ∙ stored_long d.shape.format front records text (came d.writer) p.drafts.came_is)
        (stops_on old mid new d.writer w2 front.nodes bytes marks (came w2 + length text) both wrote stops)

-- ---- a file of which no record is put

pub marks_long : (format : Format) (bsize : ℕ) (front : Front) (records : List (List ℕ)) (n : ℕ) → pointer_size format ≡ 12 → length (marks_of format bsize front records n) ≡ n
marks_long F bsize front records n wide = absurd (omega arith)
marks_long V bsize front records n wide = length-map (range_with_len 0 n) (mark_with bsize front records) ∙ length-range_with_len 0 n

pub stored_none : (format : Format) → 0 ≡ length (stored format [])
stored_none F = refl
stored_none V = refl

first_mark : (format : Format) (w : BlockWriter) → w.mark ≡ record { last = 0; place = nowhere } → IsMarkedSo format w no_front []
first_mark F w is = tt
first_mark V w is = is

pub both_sizes : (format : Format) → (pointer_size format ≡ 4) ⊎ (pointer_size format ≡ 12)
both_sizes F = inl refl
both_sizes V = inr refl

pub fresh_new : (unit bsize psize : ℕ) (shape : DraftShape) (tree : HeldTree) (w : BlockWriter) → psize ≡ pointer_size shape.format → 1 ≤ shape.bytes → IsNewWriter unit bsize psize shape.bytes tree w
    → IsFresh unit bsize shape tree (record { shape = shape; put = 0; writer = w })
fresh_new unit bsize psize shape tree w psize_is some n = record {
  shape_is = refl;
  unit_is = n.start.unit_is;
  bsize_is = n.start.bsize_is;
  tree_is = n.start.tree_is;
  kept = n.start.kept;
  own = own;
  put = refl;
  came_is = came_none;
  drafts = λ records h. record {
    put = refl;
    count = let many = h.count in omega arith;
    streams = n.streams (stored shape.format records) (marks_in (record { shape = shape; put = 0; writer = w }) no_front records) (plan records) h.bytes;
    came_is = came_none ∙ stored_none shape.format;
    begins = All-nil (λ place. place < 0);
    mark = first_mark shape.format w n.start.mark;
    each = h.each;
  };
}
  where
    came_none : came w ≡ 0
    came_none = rw (n.start.whole, n.start.filled) (omega arith)

    own : its_blocks w ≡ tree.leaves ++ tree.pointers
    own =
        let fan = w.bsize / w.psize in
        ap (own_blocks fan w.tree.leaves w.tree.pointers) n.start.kept
        ∙ own_all fan w.tree.leaves w.tree.pointers (some_fan w.bsize w.psize n.is.size n.is.pointer) n.is.nodes
        ∙ ap (λ (t : HeldTree). t.leaves ++ t.pointers) n.start.tree_is

    size : IsBlockSize bsize
    size = rw (← n.start.bsize_is) n.is.size

    count : length tree.leaves ≡ up shape.bytes bsize
    count = sym (ap (λ (t : HeldTree). length t.leaves) n.start.tree_is) ∙ n.is.count ∙ (rw (n.start.size_is, n.start.bsize_is) refl)

    sizes : (1 ≤ bsize) × (bsize ≤ 4096)
    sizes = short_blocks bsize size

    few : length tree.leaves ≤ most_bytes
    few = subst (λ (t : HeldTree). length t.leaves ≤ most_bytes) n.start.tree_is (few_leaves w n.is)

    plan : (records : List (List ℕ)) → IsBuildable bsize psize tree.leaves (marks_in (record { shape = shape; put = 0; writer = w }) no_front records) tree.pointers
    plan records = record {
      size = size;
      pointer = rw psize_is (both_sizes shape.format);
      some = subst (λ (m : ℕ). 0 < m) (sym count) (up_some shape.bytes bsize sizes.0 some);
      few = let short = few in omega arith;
      each = λ wide. marks_long shape.format w.bsize no_front records (length w.tree.leaves) (sym psize_is ∙ wide) ∙ ap (λ (t : HeldTree). length t.leaves) n.start.tree_is;
      numbers = ap (λ (t : HeldTree). length t.pointers) (sym n.start.tree_is) ∙ n.is.nodes ∙ (rw (n.start.bsize_is, n.start.psize_is, n.start.tree_is) refl);
    }

-- ---- a file of which all records are put

end_marks : (w : BlockWriter) (front : Front) (records : List (List ℕ)) → IsWriter w → IsMarkedSo V w front records → Begins w.bsize front → came w ≡ length (stored_on V front records) → w.filled < w.bsize
    → AreMarked w (length w.tree.leaves * w.bsize) (marks_of V w.bsize front records (length w.tree.leaves))
end_marks w front records is mark begins at unfilled wide k low end = the_mark ∙ sym (mark_is w.bsize (length w.tree.leaves) k front records there)
  where
    there : k < length w.tree.leaves
    there = ⊎_elim (λ (less : k < length w.tree.leaves). less)
        (λ (past : length w.tree.leaves ≤ k). let more = next_multiple k w.bsize in let less = mul-le-mul_right w.bsize past in absurd (omega arith))
        (cases_lt k (length w.tree.leaves))

    at' : length front.bytes + length (stored V records) ≡ w.whole * w.bsize + w.filled
    at' = on_long w front records at

    before : w.whole * w.bsize + w.filled ≤ (k + 1) * w.bsize
    before =
        let one = next_multiple w.whole w.bsize in
        let low' : w.whole + 1 ≤ k + 1 = omega arith in
        let wider = mul-le-mul_right w.bsize low' in omega arith

    ends : mark_with w.bsize front records k ≡ record { last = front.count + length records; place = (mark_with w.bsize front records k).place }
    ends = mark_end w.bsize k front records (let b = before in let a = at' in omega arith)

    here : k ≡ w.whole → mark_on w k ≡ mark_with w.bsize front records k
    here is = mark_here w k is ∙ mark ∙ ap (λ (n : ℕ). record { last = front.count + length records; place = (mark_with w.bsize front records n).place }) (sym is) ∙ sym ends

    past : (k ≡ w.whole → ⊥) → w.whole < k
    past other = omega arith

    behind : (k ≡ w.whole → ⊥) → mark_on w k ≡ mark_with w.bsize front records k
    behind other =
        let one = next_multiple w.whole w.bsize in
        let before : w.whole < k = past other in
        let low' : w.whole + 1 ≤ k = omega arith in
        let wider = mul-le-mul_right w.bsize low' in
        let a = at' in
        mark_behind w k (past other) ∙ ap (λ (m : Mark). record { last = m.last; place = nowhere }) mark
        ∙ ap (λ (n : ℕ). record { last = front.count + length records; place = n }) (sym (place_past w.bsize k front records begins (omega arith))) ∙ sym ends

    the_mark : mark_on w k ≡ mark_with w.bsize front records k
    the_mark = ⊎_elim here behind (cases_eq k w.whole)

-- by the format
all_end_marks : (format : Format) (w : BlockWriter) (front : Front) (records : List (List ℕ)) → w.psize ≡ pointer_size format → IsWriter w → IsMarkedSo format w front records → Begins w.bsize front
    → came w ≡ length (stored_on format front records)
    → w.filled < w.bsize
    → AreMarked w (length w.tree.leaves * w.bsize) (marks_of format w.bsize front records (length w.tree.leaves))
all_end_marks F w front records four is mark begins at unfilled wide = let none : 4 ≡ 12 = sym four ∙ wide in absurd (omega arith)
all_end_marks V w front records twelve is mark begins at unfilled wide = end_marks w front records is mark begins at unfilled wide

pub file_finishes : {A : Type 0} (old new : Told) (d : FileWriter) (front : Front) (records : List (List ℕ)) (r : Result A Failed) → IsDrafting d → Drafts d front records []
    → ((es : List Kept) (bytes : List ℕ) (marks : List Mark) → Streams d.writer es bytes marks → AreMarked d.writer (length d.writer.tree.leaves * d.writer.bsize) marks
    → Finishes old new d.writer es bytes marks r)
    → Finishes old new d.writer front.nodes (stored_on d.shape.format front records) (marks_in d front records) r
file_finishes old new d front records r i h writes =
    writes front.nodes (stored_on d.shape.format front records) (marks_in d front records)
    (subst (λ (l : List (List ℕ)). Streams d.writer front.nodes (stored_on d.shape.format front l) (marks_in d front l)) (append-nil records) h.streams)
    (all_end_marks d.shape.format d.writer front records i.pointer i.writer h.mark h.begins h.came_is i.unfilled)

-- a new file is as a drafted one always is
pub fresh_drafting : (unit bsize psize : ℕ) (shape : DraftShape) (tree : HeldTree) (w : BlockWriter) → psize ≡ pointer_size shape.format → shape.count ≤ most_records
    → IsNewWriter unit bsize psize shape.bytes tree w → IsDrafting (record { shape = shape; put = 0; writer = w })
fresh_drafting unit bsize psize shape tree w psize_is few n =
    let low = (short_blocks w.bsize n.is.size).0 in
    let none = n.start.filled in
    record {
      writer = n.is;
      unfilled = omega (arith, low, none);
      within = rw (n.start.whole, n.start.filled) (omega arith);
      size = n.start.size_is;
      pointer = n.start.psize_is ∙ psize_is;
      put_few = omega arith;
      few = few;
      begun = rw n.start.mark (omega arith);
    }
