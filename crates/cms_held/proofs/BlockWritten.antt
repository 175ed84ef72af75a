-- Bytes that are taken into data blocks, and what is written with them.
use Rattle.std.proofs.Common.{◌≡◌, ◌⊎◌, inr, ⊎_elim, ℕ, suc, ◌+◌, ◌-◌, ◌*◌, ◌/◌, ◌<◌, ◌≤◌, eqb, min, List, [], ◌∷◌, ◌++◌, length, take, drop, get_or, Result, Ok, Err, Some, refl, sym, ◌∙◌, ap, subst, arith, append_assoc, append-nil, length-append, mul-le-mul_right}
use Rattle.std.specs.Prelude.{replicate, ⊤}
use Rattle.std.proofs.lemmas.Bool.{cases_lt, cases_eq, cond-true, cond-false, eq-eqb, ne_eqb}
use Rattle.std.proofs.lemmas.List.Elements.{All-get_or}
use Rattle.std.proofs.lemmas.List.{length-replicate, drop-drop, take_all, length-take-le, length-drop, take-append-le, drop-append-le}
use Rattle.cms_journal.specs.Told.{Told, plus, Grown}
use Rattle.cms_journal.specs.Journal.{Journal, HasBlock, IsBlockSize, MayAdd, adds}
use Rattle.cms_journal.specs.declared.event.Event.TheVariants.{Wrote as WroteBlock}
use Rattle.cms_journal.specs.declared.event.Failed.{Failed}
use Rattle.cms_journal.specs.declared.event.Attached.{Attached}
use Rattle.cms_fields.specs.Limits.{most_bytes}
use Rattle.cms_text.specs.Bytes.{overwritten}
use Rattle.cms_fields.specs.Numbers.{up}
use Rattle.cms_model.specs.Settled.{Write, writes}
use Rattle.cms_model.specs.Sizes.{levels, pointer_count}
use Rattle.cms_model.proofs.Quotients.{up_spec, up_below, up_unique}
use Rattle.cms_tree.specs.declared.types.Mark.{Mark}
use Rattle.cms_tree.specs.Kept.{Kept}
use Rattle.cms_tree.specs.Tiers.{AllKeep, lowest}
use Rattle.cms_tree.specs.Climbs.{AddsOn, AddsOwn, Climb, ClimbsOn, HoldsLittle, IsNew, IsNext, climb_writes_on, numbers_behind}
use Rattle.cms_tree.specs.Levels.{mark_at}
use Rattle.cms_tree.proofs.ClimbSteps.{units_kept}
use Rattle.cms_tree.proofs.FilledBlocks.{overwrite-zeros}
use Rattle.cms_model.specs.LawsUpdates.{AddsFront}
use Rattle.cms_held.specs.Drafts.{filled, data_block, data_write, nowhere}
use Rattle.cms_held.specs.BlockWriters.{AddsOwnBlocks, its_blocks, IsWriter, CanWrite, came, Streams, ComesNext, IsDone, block_done, WritesBlock, IsAtStart, IsNewWriter, IsSame, mark_on, AreMarked, written_with, Wrote, Stops, Finishes}
use Rattle.cms_held.specs.declared.block_writer.BlockWriter.{BlockWriter}
use Rattle.cms_held.proofs.Fronts.{wrote_behind, failed_behind, failed_before, wrote_none as no_writes}
use Rattle.cms_tree.proofs.ClimbBlocks.{may_add_front}
use Rattle.cms_tree.proofs.Own.{may_add_own, own_none, own_twice, in_drop_at}
use Rattle.cms_held.proofs.DraftBlocks.{next_written}
use Rattle.cms_held.proofs.DraftOwn.{keeps_nothing}
use Rattle.cms_model.proofs.Members.{In-left, In-right}
use Rattle.cms_model.specs.Lists.{In}
use Rattle.cms_held.specs.HeldVolumes.{HeldTree}
use Rattle.cms_held.proofs.PiecesWritten.{take_both}
use Rattle.cms_held.proofs.GrownTrees.{next_multiple}

-- ---- bytes in a block

-- bytes written behind those in a block
block_on : (bsize f n : ℕ) (behind text more : List ℕ) → f ≤ length behind → drop f behind ≡ text ++ more → n ≤ length text → f + n ≤ bsize
    → overwritten f (take n text) (filled bsize (take f behind)) ≡ filled bsize (take (f + n) behind)
block_on bsize f n behind text more room next low fits =
    let front = take f behind in
    let field = take n text in
    let front_long : length front ≡ f = length-take-le f behind room in
    let field_long : length field ≡ n = length-take-le n text low in
    let both : take (f + n) behind ≡ front ++ field =
    sym (take_both f n behind) ∙ ap (λ (l : List ℕ). front ++ take n l) next ∙ ap (λ (l : List ℕ). front ++ l) (take-append-le n text more low) in
    let long = length-append front field in
    let rest : bsize - length front - length field ≡ bsize - length (front ++ field) = omega arith in
    overwrite-zeros front field f (bsize - length front) front_long (omega arith)
    ∙ ap (λ (m : ℕ). (front ++ field) ++ replicate m 0) rest ∙ ap (filled bsize) (sym both)

-- the bytes of a block that is begun are those that came behind the last one
behind_is : (w : BlockWriter) (text bytes : List ℕ) → (next : ComesNext (came w) text bytes) → drop w.filled (drop (w.whole * w.bsize) bytes) ≡ text ++ next.more
behind_is w text bytes next = drop-drop w.filled (w.whole * w.bsize) bytes ∙ next.is

-- what is kept of the pointer blocks fits
abbrev Keeps : BlockWriter → List Kept → Type 0
Keeps w es = AllKeep w.psize (w.bsize / w.psize) w.tree.pointers (lowest w.kept w.tree.leaves) es (levels (w.bsize / w.psize) (length w.tree.leaves))

pub streams_filled : (w w1 : BlockWriter) (n : ℕ) (text : List ℕ) (es : List Kept) (bytes : List ℕ) (marks : List Mark) → w1 ≡ record w { block = w1.block; filled = w1.filled }
    → w1.filled ≡ w.filled + n → w1.block.items ≡ overwritten w.filled (take n text) w.block.items → n ≤ length text → w.filled + n ≤ w.bsize → came w ≤ w.size
    → ComesNext (came w) text bytes → Streams w es bytes marks → Streams w1 es bytes marks
streams_filled w w1 n text es bytes marks same more over low fits room next s =
    let behind = drop (w.whole * w.bsize) bytes in
    let long : length behind ≡ length bytes - w.whole * w.bsize = length-drop (w.whole * w.bsize) bytes in
    let size = s.size in
    let bsize_is : w1.bsize ≡ w.bsize = ap (λ (x : BlockWriter). x.bsize) same in
    let whole_is : w1.whole ≡ w.whole = ap (λ (x : BlockWriter). x.whole) same in
    record {
      climbs = subst (λ (x : BlockWriter). ClimbsOn x.climb x.kept es x.tree.leaves marks x.tree.pointers) (sym same) s.climbs;
      keeps = subst (λ (x : BlockWriter). Keeps x es) (sym same) s.keeps;
      kept = subst (λ (x : BlockWriter). x.kept ≤ x.whole) (sym same) s.kept;
      added = subst (λ (x : BlockWriter). x.climb.added ≡ x.whole) (sym same) s.added;
      size = subst (λ (x : BlockWriter). length bytes ≡ x.size) (sym same) s.size;
      block = over ∙ ap (overwritten w.filled (take n text)) s.block
          ∙ block_on w.bsize w.filled n behind text next.more (omega arith) (behind_is w text bytes next) low fits
          ∙ (rw (bsize_is, whole_is, more) refl);
    }

-- ---- a whole block

pub done_full : (w : BlockWriter) (es : List Kept) (bytes : List ℕ) (marks : List Mark) → Streams w es bytes marks → w.filled ≡ w.bsize
    → w.block.items ≡ data_block w.bsize bytes w.whole
done_full w es bytes marks s full = s.block ∙ ap (λ (n : ℕ). filled w.bsize (take n (drop (w.whole * w.bsize) bytes))) full

pub done_last : (w : BlockWriter) (es : List Kept) (bytes : List ℕ) (marks : List Mark) → Streams w es bytes marks → came w ≡ w.size → w.filled ≤ w.bsize
    → w.block.items ≡ data_block w.bsize bytes w.whole
done_last w es bytes marks s all within =
    let behind = drop (w.whole * w.bsize) bytes in
    let long : length behind ≡ length bytes - w.whole * w.bsize = length-drop (w.whole * w.bsize) bytes in
    let size = s.size in
    s.block ∙ ap (filled w.bsize) (take_all w.filled behind (omega arith) ∙ sym (take_all w.bsize behind (omega arith)))

-- there is a data block for the bytes that came in it
pub block_there : (size bsize whole f : ℕ) → 1 ≤ bsize → 1 ≤ f → whole * bsize + f ≤ size → whole < up size bsize
block_there size bsize whole f some more room = ⊎_elim
    (λ (less : whole < up size bsize). less)
    (λ (past : up size bsize ≤ whole). let wide = mul-le-mul_right bsize past in let s = (up_spec size bsize some).0 in absurd (omega arith))
    (cases_lt whole (up size bsize))

-- ---- what is written

written_same : (w w' : BlockWriter) (es : List Kept) (bytes : List ℕ) (marks : List Mark) (k : ℕ) → IsSame w w' → written_with w' es bytes marks k ≡ written_with w es bytes marks k
written_same w w' es bytes marks k same = rw (same.bsize, same.psize, same.tree, same.kept) refl

written_next : (w : BlockWriter) (es : List Kept) (bytes : List ℕ) (marks : List Mark) → w.kept ≤ w.whole → written_with w es bytes marks w.whole ++ block_done w es bytes marks ≡ written_with w es bytes marks (w.whole + 1)
written_next w es bytes marks low =
    let e : suc w.whole ≡ w.whole + 1 = omega arith in
    sym (next_written w.bsize w.psize w.tree.leaves marks w.tree.pointers w.kept es bytes w.whole low) ∙ ap (written_with w es bytes marks) e

pub same_filled : (w w1 : BlockWriter) → w1 ≡ record w { block = w1.block; filled = w1.filled } → IsSame w w1
same_filled w w1 same = record {
  unit = ap (λ (x : BlockWriter). x.unit) same;
  bsize = ap (λ (x : BlockWriter). x.bsize) same;
  psize = ap (λ (x : BlockWriter). x.psize) same;
  tree = ap (λ (x : BlockWriter). x.tree) same;
  size = ap (λ (x : BlockWriter). x.size) same;
  kept = ap (λ (x : BlockWriter). x.kept) same;
}

pub same_twice : (a b c : BlockWriter) → IsSame a b → IsSame b c → IsSame a c
same_twice a b c x y = record {
  unit = y.unit ∙ x.unit;
  bsize = y.bsize ∙ x.bsize;
  psize = y.psize ∙ x.psize;
  tree = y.tree ∙ x.tree;
  size = y.size ∙ x.size;
  kept = y.kept ∙ x.kept;
}

pub same_none : (w : BlockWriter) → IsSame w w
same_none w = record { unit = refl; bsize = refl; psize = refl; tree = refl; size = refl; kept = refl }

pub wrote_none : (t : Told) (w w1 : BlockWriter) (es : List Kept) (bytes : List ℕ) (marks : List Mark) → w1.whole ≡ w.whole → Streams w1 es bytes marks → Wrote t t w w1 es bytes marks
unfolding writes
wrote_none t w w1 es bytes marks whole s = record {
  part = [];
  told = refl;
  is = append-nil (written_with w es bytes marks w.whole) ∙ ap (written_with w es bytes marks) (sym whole);
  streams = s;
}

pub wrote_on : (old mid new : Told) (w w1 w2 : BlockWriter) (es : List Kept) (bytes : List ℕ) (marks : List Mark) → IsSame w w1 → Wrote old mid w w1 es bytes marks → Wrote mid new w1 w2 es bytes marks
    → Wrote old new w w2 es bytes marks
wrote_on old mid new w w1 w2 es bytes marks same a b = record {
  part = a.part ++ b.part;
  told = wrote_behind old mid new w.unit a.part b.part a.told (b.told ∙ ap (λ (u : ℕ). plus mid (writes u b.part)) same.unit);
  is = sym (append_assoc (written_with w es bytes marks w.whole) a.part b.part) ∙ ap (λ (l : List Write). l ++ b.part) (a.is ∙ sym (written_same w w1 es bytes marks w1.whole same))
      ∙ b.is ∙ written_same w w1 es bytes marks w2.whole same;
  streams = b.streams;
}

pub stops_on : (old mid new : Told) (w w1 : BlockWriter) (es : List Kept) (bytes : List ℕ) (marks : List Mark) (upto : ℕ) → IsSame w w1 → Wrote old mid w w1 es bytes marks → Stops mid new w1 es bytes marks upto
    → Stops old new w es bytes marks upto
stops_on old mid new w w1 es bytes marks upto same a b = record {
  to = b.to;
  within = subst (λ (n : ℕ). b.to * n ≤ upto) same.bsize b.within;
  part = a.part ++ b.part;
  is = sym (append_assoc (written_with w es bytes marks w.whole) a.part b.part) ∙ ap (λ (l : List Write). l ++ b.part) (a.is ∙ sym (written_same w w1 es bytes marks w1.whole same))
      ∙ b.is ∙ written_same w w1 es bytes marks b.to same;
  front = failed_behind old mid new w.unit a.part b.part a.told (subst (λ (u : ℕ). AddsFront mid new (writes u b.part)) same.unit b.front);
}

-- ---- a block is written

-- an empty block
pub streams_empty : (w w' : BlockWriter) (es : List Kept) (bytes : List ℕ) (marks : List Mark) → Streams w es bytes marks → IsSame w w' → w'.whole ≡ w.whole + 1 → w'.filled ≡ 0
    → w'.block.items ≡ replicate w.bsize 0 → ClimbsOn w'.climb w.kept es w.tree.leaves marks w.tree.pointers → w'.climb.added ≡ w.whole + 1 → Streams w' es bytes marks
streams_empty w w' es bytes marks s same whole empty zeros climbs added = record {
  climbs = rw (same.tree, same.kept) climbs;
  keeps = rw (same.bsize, same.psize, same.tree, same.kept) s.keeps;
  kept = let low = s.kept in let k = same.kept in omega arith;
  added = added ∙ sym whole;
  size = s.size ∙ sym same.size;
  block = let e : w.bsize - 0 ≡ w.bsize = omega arith in zeros ∙ (rw (same.bsize, empty, e) refl);
}

pub wrote_block : (old new : Told) (w w' : BlockWriter) (es : List Kept) (bytes : List ℕ) (marks : List Mark) → Streams w es bytes marks → IsSame w w' → w'.whole ≡ w.whole + 1 → w'.filled ≡ 0
    → w'.block.items ≡ replicate w.bsize 0 → WritesBlock old new w w' es bytes marks (Ok tt) → Wrote old new w w' es bytes marks
wrote_block old new w w' es bytes marks s same whole empty zeros wrote = record {
  part = block_done w es bytes marks;
  told = wrote.0;
  is = written_next w es bytes marks s.kept ∙ ap (written_with w es bytes marks) (sym whole);
  streams = streams_empty w w' es bytes marks s same whole empty zeros wrote.1 wrote.2;
}

pub stops_block : (old new : Told) (w : BlockWriter) (es : List Kept) (bytes : List ℕ) (marks : List Mark) (upto : ℕ) → w.kept ≤ w.whole → (w.whole + 1) * w.bsize ≤ upto
    → AddsFront old new (writes w.unit (block_done w es bytes marks)) → Stops old new w es bytes marks upto
stops_block old new w es bytes marks upto low within front = record { to = w.whole + 1; within = within; part = block_done w es bytes marks; is = written_next w es bytes marks low; front = front }

-- a front of a tree's writes behind the write of the data block
pub climb_fails : (old mid new : Told) (w : BlockWriter) (es : List Kept) (bytes : List ℕ) (marks : List Mark) → mid ≡ plus old (writes w.unit (data_write w.bsize w.tree.leaves bytes w.whole ∷ []))
    → AddsFront mid new (writes w.unit (climb_writes_on w.bsize w.psize w.tree.leaves marks w.tree.pointers w.kept es w.whole)) → AddsFront old new (writes w.unit (block_done w es bytes marks))
climb_fails old mid new w es bytes marks before f =
    failed_behind old mid new w.unit (data_write w.bsize w.tree.leaves bytes w.whole ∷ []) (climb_writes_on w.bsize w.psize w.tree.leaves marks w.tree.pointers w.kept es w.whole) before
    (record { front = f.front; told = f.told; is = f.is })

-- ---- marks

pub mark_here : (w : BlockWriter) (k : ℕ) → k ≡ w.whole → mark_on w k ≡ w.mark
mark_here w k is = cond-true (eqb k w.whole) w.mark (record { last = w.mark.last; place = nowhere }) (eq-eqb k w.whole is)

pub mark_behind : (w : BlockWriter) (k : ℕ) → w.whole < k → mark_on w k ≡ record { last = w.mark.last; place = nowhere }
mark_behind w k past = cond-false (eqb k w.whole) w.mark (record { last = w.mark.last; place = nowhere }) (ne_eqb k w.whole (λ is. absurd (omega arith)))

last_same : (w : BlockWriter) (k : ℕ) → w.whole ≤ k → (mark_on w k).last ≡ w.mark.last
last_same w k low = ⊎_elim
    (λ (here : k ≡ w.whole). ap (λ (m : Mark). m.last) (mark_here w k here))
    (λ (other : k ≡ w.whole → ⊥). ap (λ (m : Mark). m.last) (mark_behind w k (past other)))
    (cases_eq k w.whole)
  where
    past : (k ≡ w.whole → ⊥) → w.whole < k
    past other = omega arith

pub mark_later : (w w' : BlockWriter) (k : ℕ) → w'.mark ≡ mark_on w w'.whole → w.whole ≤ w'.whole → w'.whole ≤ k → mark_on w' k ≡ mark_on w k
mark_later w w' k mark low later = ⊎_elim
    (λ (here : k ≡ w'.whole). mark_here w' k here ∙ mark ∙ ap (mark_on w) (sym here))
    (λ (other : k ≡ w'.whole → ⊥).
    mark_behind w' k (past other)
    ∙ ap (λ (n : ℕ). record { last = n; place = nowhere }) (ap (λ (m : Mark). m.last) mark ∙ last_same w w'.whole low)
    ∙ sym (mark_behind w k (let p = past other in omega arith)))
    (cases_eq k w'.whole)
  where
    past : (k ≡ w'.whole → ⊥) → w'.whole < k
    past other = omega arith

pub marked_later : (w w' : BlockWriter) (upto : ℕ) (marks : List Mark) → IsSame w w' → w'.mark ≡ mark_on w w'.whole → w.whole ≤ w'.whole → AreMarked w upto marks → AreMarked w' upto marks
marked_later w w' upto marks same mark low are wide k later end =
    mark_later w w' k mark low later ∙ are (sym same.psize ∙ wide) k (omega arith) (subst (λ (n : ℕ). (k + 1) * n ≤ upto) same.bsize end)

-- ---- the bytes that come next

pub next_later : (at n : ℕ) (text bytes : List ℕ) → n ≤ length text → ComesNext at text bytes → ComesNext (at + n) (drop n text) bytes
next_later at n text bytes low next = record {
  more = next.more;
  is = sym (drop-drop n at bytes) ∙ ap (drop n) next.is ∙ drop-append-le n text next.more low;
}

-- ---- the unit stays

pub few_leaves : (w : BlockWriter) → IsWriter w → length w.tree.leaves ≤ most_bytes
few_leaves w is =
    let size = is.size in
    let some : 0 < w.bsize = omega arith in
    let few = is.few in
    let count = is.count in
    omega (arith, up_below w.size w.bsize some)

pub can_same : (units : List Attached) (w w' : BlockWriter) → IsSame w w' → CanWrite units w → CanWrite units w'
can_same units w w' same can = record {
  leaves = rw (same.unit, same.bsize, same.tree) can.leaves;
  nodes = rw (same.unit, same.bsize, same.tree) can.nodes;
  writable = rw same.unit can.writable;
}

pub ready_kept : (old new : Told) (w w' : BlockWriter) → Grown old new → IsSame w w' → ((j : Journal) → old ≡ Some j → CanWrite j.units w) → (j : Journal) → new ≡ Some j → CanWrite j.units w'
ready_kept old new w w' grown same ready j is = can_same j.units w w' same (units_kept (λ (units : List Attached). CanWrite units w) old new grown ready j is)

pub leaf_there : (units : List Attached) (w : BlockWriter) (k size : ℕ) → CanWrite units w → k < length w.tree.leaves → size ≡ w.bsize → HasBlock units w.unit (get_or w.tree.leaves k 0) size
leaf_there units w k size can less is =
    subst (λ (n : ℕ). HasBlock units w.unit (get_or w.tree.leaves k 0) n) (sym is) (All-get_or (λ n. HasBlock units w.unit n w.bsize) w.tree.leaves k 0 less can.leaves)

-- ---- a block is flushed

-- the event of a data block
wrote_data : (w : BlockWriter) (leaf : ℕ) (block bytes : List ℕ) → leaf ≡ get_or w.tree.leaves w.whole 0 → block ≡ data_block w.bsize bytes w.whole
    → WroteBlock w.unit leaf block ∷ [] ≡ writes w.unit (data_write w.bsize w.tree.leaves bytes w.whole ∷ [])
unfolding writes
wrote_data w leaf block bytes leaf_is block_is = rw (leaf_is, block_is) refl

pub flush_fails : (old new : Told) (w : BlockWriter) (leaf : ℕ) (block : List ℕ) (es : List Kept) (bytes : List ℕ) (marks : List Mark) → leaf ≡ get_or w.tree.leaves w.whole 0 → block ≡ w.block.items
    → IsDone w bytes marks → MayAdd (WroteBlock w.unit leaf block) old new → AddsFront old new (writes w.unit (block_done w es bytes marks))
flush_fails old new w leaf block es bytes marks leaf_is block_is done may =
    failed_before old new w.unit (data_write w.bsize w.tree.leaves bytes w.whole ∷ []) (climb_writes_on w.bsize w.psize w.tree.leaves marks w.tree.pointers w.kept es w.whole)
    (may_add_front (WroteBlock w.unit leaf block) old new (writes w.unit (data_write w.bsize w.tree.leaves bytes w.whole ∷ [])) (wrote_data w leaf block bytes leaf_is (block_is ∙ done.block)) may)

pub flushed : (old mid new : Told) (w w' : BlockWriter) (leaf : ℕ) (block pointers : List ℕ) (es : List Kept) (bytes : List ℕ) (marks : List Mark) (r : Result ⊤ Failed) → IsWriter w → Streams w es bytes marks → IsDone w bytes marks
    → leaf ≡ get_or w.tree.leaves w.whole 0 → block ≡ w.block.items → pointers ≡ w.tree.pointers → mid ≡ adds (WroteBlock w.unit leaf block) old
    → w'.climb.added ≡ w.climb.added + 1
    → ((kept : ℕ) (es : List Kept) (leaves : List ℕ) (marks : List Mark) → ClimbsOn w.climb kept es leaves marks pointers → IsNext w.climb leaves marks leaf w.mark
    → AddsOn mid new w.unit w.climb w'.climb kept es leaves marks pointers r)
    → WritesBlock old new w w' es bytes marks r
flushed old mid new w w' leaf block pointers es bytes marks r is s done leaf_is block_is pointers_is wrote added adds =
    answer r ((adds w.kept es w.tree.leaves marks (subst (λ (p : List ℕ). ClimbsOn w.climb w.kept es w.tree.leaves marks p) (sym pointers_is) s.climbs) next))
  where
    next : IsNext w.climb w.tree.leaves marks leaf w.mark
    next = record {
      leaf_is = leaf_is ∙ ap (λ (k : ℕ). get_or w.tree.leaves k 0) (sym s.added);
      mark_is = λ wide. done.mark (sym is.climb_pointer ∙ wide) ∙ ap (mark_at marks) (sym s.added);
    }

    before : mid ≡ plus old (writes w.unit (data_write w.bsize w.tree.leaves bytes w.whole ∷ []))
    before = wrote ∙ ap (plus old) (wrote_data w leaf block bytes leaf_is (block_is ∙ done.block))

    same : climb_writes_on w.climb.bsize w.climb.psize w.tree.leaves marks pointers w.kept es w.climb.added
        ≡ climb_writes_on w.bsize w.psize w.tree.leaves marks w.tree.pointers w.kept es w.whole
    same = rw (is.climb_size, is.climb_pointer, pointers_is, s.added) refl

    answer : (r : Result ⊤ Failed) → AddsOn mid new w.unit w.climb w'.climb w.kept es w.tree.leaves marks pointers r → WritesBlock old new w w' es bytes marks r
    answer (Ok x) a = (
      wrote_behind old mid new w.unit (data_write w.bsize w.tree.leaves bytes w.whole ∷ []) (climb_writes_on w.bsize w.psize w.tree.leaves marks w.tree.pointers w.kept es w.whole) before
          (a.0 ∙ ap (λ (ws : List Write). plus mid (writes w.unit ws)) same),
      subst (λ (p : List ℕ). ClimbsOn w'.climb w.kept es w.tree.leaves marks p) pointers_is a.1,
      added ∙ ap (λ (n : ℕ). n + 1) s.added,
    )
    answer (Err e) a = climb_fails old mid new w es bytes marks before (subst (λ (ws : List Write). AddsFront mid new (writes w.unit ws)) same a)

pub own_kept : (old : Told) (w : BlockWriter) → AddsOwnBlocks old old w
own_kept old w = own_none old w.unit w.bsize (its_blocks w)

-- its data blocks, and its pointer blocks
its_leaves : BlockWriter → List ℕ
its_leaves w = drop w.kept w.tree.leaves

its_nodes : BlockWriter → List ℕ
its_nodes w = numbers_behind (w.bsize / w.psize) (levels (w.bsize / w.psize) (length w.tree.leaves)) (length w.tree.leaves) w.kept w.tree.pointers

own_leaf : (old new : Told) (w : BlockWriter) (leaf : ℕ) (block : List ℕ) → w.kept ≤ w.whole → w.whole < length w.tree.leaves → leaf ≡ get_or w.tree.leaves w.whole 0 → length block ≡ w.bsize
    → MayAdd (WroteBlock w.unit leaf block) old new → AddsOwnBlocks old new w
unfolding its_leaves its_nodes
own_leaf old new w leaf block low less leaf_is long may =
    may_add_own old new w.unit w.bsize (record { block = leaf; bytes = block }) (its_blocks w)
    (In-left leaf (its_leaves w) (its_nodes w) (subst (λ (n : ℕ). In n (its_leaves w)) (sym leaf_is) (in_drop_at w.tree.leaves w.kept w.whole low less))) long may

pub own_failed : (old new : Told) (w : BlockWriter) (leaf : ℕ) (block : List ℕ) → IsWriter w → w.whole < length w.tree.leaves → leaf ≡ get_or w.tree.leaves w.whole 0 → block ≡ w.block.items
    → MayAdd (WroteBlock w.unit leaf block) old new → AddsOwnBlocks old new w
own_failed old new w leaf block is less leaf_is block_is may =
    let kept = is.climb_kept in
    let added = is.climb_added in
    own_leaf old new w leaf block (omega arith) less leaf_is (ap (λ (l : List ℕ). length l) block_is ∙ is.block) may

-- the blocks that the climb writes are its pointer blocks
own_nodes : (mid new : Told) (w : BlockWriter) (pointers : List ℕ) → IsWriter w → pointers ≡ w.tree.pointers
    → ((kept : ℕ) → kept ≤ w.climb.added → AddsOwn mid new w.unit w.climb.bsize (numbers_behind (w.climb.bsize / w.climb.psize) (levels (w.climb.bsize / w.climb.psize) w.climb.count) w.climb.count kept pointers))
    → AddsOwn mid new w.unit w.bsize (its_nodes w)
unfolding its_nodes
own_nodes mid new w pointers is pointers_is own =
    subst (λ (p : List ℕ). AddsOwn mid new w.unit w.bsize (numbers_behind (w.bsize / w.psize) (levels (w.bsize / w.psize) (length w.tree.leaves)) (length w.tree.leaves) w.kept p)) pointers_is
    (subst (λ (n : ℕ). AddsOwn mid new w.unit w.bsize (numbers_behind (w.bsize / w.psize) (levels (w.bsize / w.psize) n) n w.kept pointers)) is.climb_count
    (subst (λ (p : ℕ). AddsOwn mid new w.unit w.bsize (numbers_behind (w.bsize / p) (levels (w.bsize / p) w.climb.count) w.climb.count w.kept pointers)) is.climb_pointer
    (subst (λ (b : ℕ). AddsOwn mid new w.unit b (numbers_behind (b / w.climb.psize) (levels (b / w.climb.psize) w.climb.count) w.climb.count w.kept pointers)) is.climb_size (own w.kept is.climb_kept))))

pub own_flushed : (old mid new : Told) (w : BlockWriter) (leaf : ℕ) (block pointers : List ℕ) → IsWriter w → w.whole < length w.tree.leaves → leaf ≡ get_or w.tree.leaves w.whole 0
    → block ≡ w.block.items
    → pointers ≡ w.tree.pointers → mid ≡ adds (WroteBlock w.unit leaf block) old
    → ((kept : ℕ) → kept ≤ w.climb.added → AddsOwn mid new w.unit w.climb.bsize (numbers_behind (w.climb.bsize / w.climb.psize) (levels (w.climb.bsize / w.climb.psize) w.climb.count) w.climb.count kept pointers))
    → AddsOwnBlocks old new w
unfolding its_leaves its_nodes
own_flushed old mid new w leaf block pointers is less leaf_is block_is pointers_is wrote own =
    own_twice old mid new w.unit w.bsize (its_nodes w) (its_blocks w) (λ n is_in. In-right n (its_leaves w) (its_nodes w) is_in)
    (own_failed old mid w leaf block is less leaf_is block_is (inr wrote)) (own_nodes mid new w pointers is pointers_is own)

pub own_on : (old mid new : Told) (w w1 : BlockWriter) → IsSame w w1 → AddsOwnBlocks old mid w → AddsOwnBlocks mid new w1 → AddsOwnBlocks old new w
own_on old mid new w w1 same a b =
    own_twice old mid new w.unit w.bsize (its_blocks w) (its_blocks w) (λ n is_in. is_in) a (own_same mid new w w1 same b)
  where
    own_same : (mid new : Told) (w w1 : BlockWriter) → IsSame w w1 → AddsOwnBlocks mid new w1 → AddsOwnBlocks mid new w
    own_same mid new w w1 same own = record { part = own.part; told = own.told ∙ ap (λ (u : ℕ). plus mid (writes u own.part)) same.unit; own = rw (← same.bsize, ← same.psize, ← same.tree, ← same.kept) own.own }

pub writer_flushed : (w w' : BlockWriter) → IsWriter w → IsSame w w' → w.whole < length w.tree.leaves → w'.whole ≡ w.whole + 1 → w'.filled ≡ 0 → length w'.block.items ≡ w.bsize
    → w'.climb ≡ record w.climb { added = w.climb.added + 1; levels = w'.climb.levels } → HoldsLittle w'.climb → IsWriter w'
writer_flushed w w' is same less whole filled long climb held =
    let size = is.size in
    let added = is.climb_added in
    let added' = ap (λ (c : Climb). c.added) climb in
    record {
      size = rw same.bsize is.size;
      pointer = rw same.psize is.pointer;
      block = long ∙ sym same.bsize;
      count = rw (same.tree, same.size, same.bsize) is.count;
      nodes = rw (same.tree, same.bsize, same.psize) is.nodes;
      climb_held = held;
      climb_size = ap (λ (c : Climb). c.bsize) climb ∙ is.climb_size ∙ sym same.bsize;
      climb_pointer = ap (λ (c : Climb). c.psize) climb ∙ is.climb_pointer ∙ sym same.psize;
      climb_count = ap (λ (c : Climb). c.count) climb ∙ is.climb_count ∙ ap (λ (t : HeldTree). length t.leaves) (sym same.tree);
      climb_kept = let low = is.climb_kept in let k = same.kept in omega arith;
      climb_added = omega arith;
      within = let tree : length w'.tree.leaves ≡ length w.tree.leaves = ap (λ (t : HeldTree). length t.leaves) same.tree in omega arith;
      filled = omega arith;
      few = rw same.size is.few;
    }

-- ---- bytes are taken

-- as many bytes as the block has room for
pub record Fills (w w1 : BlockWriter) (n : ℕ) (text : List ℕ) : Type 0 where
  pub same : w1 ≡ record w { block = w1.block; filled = w1.filled }
  pub more : w1.filled ≡ w.filled + n
  pub block : w1.block.items ≡ overwritten w.filled (take n text) w.block.items
  pub taken : n ≡ min (w.bsize - w.filled) (length text)
  pub within : w.filled ≤ w.bsize
  pub room : came w + length text ≤ w.size

pub fills_none : (old : Told) (w w1 : BlockWriter) (n : ℕ) (text : List ℕ) (es : List Kept) (bytes : List ℕ) (marks : List Mark) → Fills w w1 n text → Streams w es bytes marks → ComesNext (came w) text bytes
    → Wrote old old w w1 es bytes marks
fills_none old w w1 n text es bytes marks f s next =
    let taken = f.taken in
    let within = f.within in
    let room = f.room in
    wrote_none old w w1 es bytes marks (ap (λ (x : BlockWriter). x.whole) f.same)
    (streams_filled w w1 n text es bytes marks f.same f.more f.block (omega arith) (omega arith) (omega arith) next s)

-- the block is whole with them, and has its mark
fills_done : (w w1 : BlockWriter) (n : ℕ) (text : List ℕ) (es : List Kept) (bytes : List ℕ) (marks : List Mark) → Fills w w1 n text → w1.bsize ≤ w1.filled → AreMarked w (came w + length text) marks → Streams w1 es bytes marks
    → IsDone w1 bytes marks
fills_done w w1 n text es bytes marks f full are s1 =
    let taken = f.taken in
    let within = f.within in
    let more = f.more in
    let size : w1.bsize ≡ w.bsize = ap (λ (x : BlockWriter). x.bsize) f.same in
    let wide : (w.whole + 1) * w.bsize ≡ w.whole * w.bsize + w.bsize = next_multiple w.whole w.bsize in
    record {
      block = done_full w1 es bytes marks s1 (omega arith);
      mark = λ twelve. ap (λ (x : BlockWriter). x.mark) f.same ∙ sym (mark_here w w.whole refl)
          ∙ are (sym (ap (λ (x : BlockWriter). x.psize) f.same) ∙ twelve) w.whole (omega arith) (omega arith) ∙ ap (mark_at marks) (sym (ap (λ (x : BlockWriter). x.whole) f.same));
    }

pub fills_wrote : (old new : Told) (w w1 w' : BlockWriter) (n : ℕ) (text : List ℕ) (es : List Kept) (bytes : List ℕ) (marks : List Mark) → Fills w w1 n text → w1.bsize ≤ w1.filled → IsSame w1 w' → w'.whole ≡ w1.whole + 1
    → w'.filled ≡ 0
    → w'.block.items ≡ replicate w1.bsize 0 → (Streams w1 es bytes marks → IsDone w1 bytes marks → WritesBlock old new w1 w' es bytes marks (Ok tt))
    → Streams w es bytes marks → ComesNext (came w) text bytes → AreMarked w (came w + length text) marks → Wrote old new w w' es bytes marks
fills_wrote old new w w1 w' n text es bytes marks f full same whole empty zeros writes s next are =
    let none = fills_none old w w1 n text es bytes marks f s next in
    wrote_on old old new w w1 w' es bytes marks (same_filled w w1 f.same) none
    (wrote_block old new w1 w' es bytes marks none.streams same whole empty zeros (writes none.streams (fills_done w w1 n text es bytes marks f full are none.streams)))

pub fills_stopped : (old new : Told) (w w1 : BlockWriter) (n : ℕ) (text : List ℕ) (es : List Kept) (bytes : List ℕ) (marks : List Mark) → Fills w w1 n text → w1.bsize ≤ w1.filled
    → (Streams w1 es bytes marks → IsDone w1 bytes marks → AddsFront old new (writes w1.unit (block_done w1 es bytes marks)))
    → Streams w es bytes marks → ComesNext (came w) text bytes → AreMarked w (came w + length text) marks → Stops old new w es bytes marks (came w + length text)
fills_stopped old new w w1 n text es bytes marks f full fails s next are =
    let none = fills_none old w w1 n text es bytes marks f s next in
    let taken = f.taken in
    let within = f.within in
    let more = f.more in
    let size : w1.bsize ≡ w.bsize = ap (λ (x : BlockWriter). x.bsize) f.same in
    let whole : w1.whole ≡ w.whole = ap (λ (x : BlockWriter). x.whole) f.same in
    let wide : (w.whole + 1) * w.bsize ≡ w.whole * w.bsize + w.bsize = next_multiple w.whole w.bsize in
    let same : (w1.whole + 1) * w1.bsize ≡ (w.whole + 1) * w.bsize = rw (size, whole) refl in
    stops_on old old new w w1 es bytes marks (came w + length text) (same_filled w w1 f.same) none
    (stops_block old new w1 es bytes marks (came w + length text) none.streams.kept (omega arith) (fails none.streams (fills_done w w1 n text es bytes marks f full are none.streams)))

-- ---- the last block

-- the data block that is begun, where there is one, is the last
last_is : (w : BlockWriter) → IsWriter w → came w ≡ w.size → w.filled < w.bsize → 1 ≤ w.filled → length w.tree.leaves ≡ w.whole + 1
last_is w is all unfilled some =
    let count = is.count in
    let wide : (w.whole + 1) * w.bsize ≡ w.whole * w.bsize + w.bsize = next_multiple w.whole w.bsize in
    is.count ∙ sym (up_unique w.size w.bsize (w.whole + 1) (omega arith) (omega arith) (omega arith))

pub finishes_none : {A : Type 0} (old : Told) (w : BlockWriter) (es : List Kept) (bytes : List ℕ) (marks : List Mark) (x : A) → IsWriter w → came w ≡ w.size → w.filled ≡ 0 → 1 ≤ w.bsize
    → Finishes old old w es bytes marks (Ok x)
finishes_none old w es bytes marks x is all none some =
    let count : length w.tree.leaves ≡ w.whole = is.count ∙ sym (up_unique w.size w.bsize w.whole (omega arith) (omega arith) (omega arith)) in
    ([], no_writes old w.unit, append-nil (written_with w es bytes marks w.whole) ∙ ap (written_with w es bytes marks) (sym count))

pub finishes_last : (old new : Told) (w w' : BlockWriter) (es : List Kept) (bytes : List ℕ) (marks : List Mark) (r : Result ⊤ Failed) → IsWriter w → came w ≡ w.size → w.filled < w.bsize → 1 ≤ w.filled
    → Streams w es bytes marks → AreMarked w (length w.tree.leaves * w.bsize) marks → (IsDone w bytes marks → WritesBlock old new w w' es bytes marks r) → Finishes old new w es bytes marks r
finishes_last old new w w' es bytes marks r is all unfilled some s are writes =
    answer r (writes (record {
      block = done_last w es bytes marks s all is.filled;
      mark = λ twelve. sym (mark_here w w.whole refl) ∙ are twelve w.whole (omega arith) (subst (λ (n : ℕ). (w.whole + 1) * w.bsize ≤ n * w.bsize) (sym count) (omega arith));
    }))
  where
    count : length w.tree.leaves ≡ w.whole + 1
    count = last_is w is all unfilled some

    whole : written_with w es bytes marks w.whole ++ block_done w es bytes marks ≡ written_with w es bytes marks (length w.tree.leaves)
    whole = written_next w es bytes marks s.kept ∙ ap (written_with w es bytes marks) (sym count)

    answer : (r : Result ⊤ Failed) → WritesBlock old new w w' es bytes marks r → Finishes old new w es bytes marks r
    answer (Ok x) a = (block_done w es bytes marks, a.0, whole)
    answer (Err e) a = (block_done w es bytes marks, a, whole)

-- ---- bytes are appended, as many as come before each end of a block at a time

-- some of the bytes came, and the rest are to come
pub record Begun (w w1 : BlockWriter) (text rest : List ℕ) : Type 0 where
  pub at : came w1 + length rest ≡ came w + length text
  pub before : came w ≤ came w1
  pub rest_is : rest ≡ drop (came w1 - came w) text
  pub same : IsSame w w1
  pub mark : w1.mark ≡ mark_on w w1.whole
  pub later : w.whole ≤ w1.whole

begun_next : (w w1 : BlockWriter) (text rest bytes : List ℕ) → Begun w w1 text rest → ComesNext (came w) text bytes → ComesNext (came w1) rest bytes
begun_next w w1 text rest bytes b next =
    let at = b.at in
    let before = b.before in
    let there : came w + (came w1 - came w) ≡ came w1 = omega arith in
    subst (λ (l : List ℕ). ComesNext (came w1) l bytes) (sym b.rest_is)
    (subst (λ (n : ℕ). ComesNext n (drop (came w1 - came w) text) bytes) there (next_later (came w) (came w1 - came w) text bytes (omega arith) next))

begun_marks : (w w1 : BlockWriter) (text rest : List ℕ) (marks : List Mark) → Begun w w1 text rest → AreMarked w (came w + length text) marks → AreMarked w1 (came w1 + length rest) marks
begun_marks w w1 text rest marks b are = subst (λ (n : ℕ). AreMarked w1 n marks) (sym b.at) (marked_later w w1 (came w + length text) marks b.same b.mark b.later are)

pub begun_more : (w w1 w2 : BlockWriter) (n : ℕ) (text rest rest' : List ℕ) → Begun w w1 text rest → n ≤ length rest → came w2 ≡ came w1 + n → rest' ≡ drop n rest → IsSame w1 w2
    → w2.mark ≡ mark_on w1 w2.whole
    → w1.whole ≤ w2.whole → Begun w w2 text rest'
begun_more w w1 w2 n text rest rest' b low more rest_is same mark later =
    let at = b.at in
    let before = b.before in
    let low' = b.later in
    let long = length-drop n rest in
    let long' : length rest' ≡ length rest - n = ap (λ (l : List ℕ). length l) rest_is ∙ length-drop n rest in
    let there : came w1 - came w + n ≡ came w2 - came w = omega arith in
    record {
      at = omega arith;
      before = omega arith;
      rest_is = rest_is ∙ ap (drop n) b.rest_is ∙ drop-drop n (came w1 - came w) text ∙ ap (λ (k : ℕ). drop k text) there;
      same = same_twice w w1 w2 b.same same;
      mark = mark ∙ mark_later w w1 w2.whole b.mark b.later later;
      later = omega arith;
    }

pub appended_on : (old mid new : Told) (w w1 w2 : BlockWriter) (text rest : List ℕ) (es : List Kept) (bytes : List ℕ) (marks : List Mark) → Begun w w1 text rest → ComesNext (came w) text bytes
    → AreMarked w (came w + length text) marks
    → Wrote old mid w w1 es bytes marks
    → (Streams w1 es bytes marks → ComesNext (came w1) rest bytes → AreMarked w1 (came w1 + length rest) marks → Wrote mid new w1 w2 es bytes marks) → Wrote old new w w2 es bytes marks
appended_on old mid new w w1 w2 text rest es bytes marks b next are a more =
    wrote_on old mid new w w1 w2 es bytes marks b.same a (more a.streams (begun_next w w1 text rest bytes b next) (begun_marks w w1 text rest marks b are))

pub appended_stops : (old mid new : Told) (w w1 : BlockWriter) (text rest : List ℕ) (es : List Kept) (bytes : List ℕ) (marks : List Mark) → Begun w w1 text rest → ComesNext (came w) text bytes
    → AreMarked w (came w + length text) marks
    → Wrote old mid w w1 es bytes marks
    → (Streams w1 es bytes marks → ComesNext (came w1) rest bytes → AreMarked w1 (came w1 + length rest) marks → Stops mid new w1 es bytes marks (came w1 + length rest))
    → Stops old new w es bytes marks (came w + length text)
appended_stops old mid new w w1 text rest es bytes marks b next are a more =
    stops_on old mid new w w1 es bytes marks (came w + length text) b.same a
    (subst (λ (n : ℕ). Stops mid new w1 es bytes marks n) b.at (more a.streams (begun_next w w1 text rest bytes b next) (begun_marks w w1 text rest marks b are)))

-- ---- a writer at the start

-- how it is made
pub record Made (unit bsize psize size : ℕ) (tree : HeldTree) (w : BlockWriter) : Type 0 where
  pub start : IsAtStart unit bsize psize size tree w
  pub block : w.block.items ≡ replicate bsize 0
  pub climb : IsNew bsize psize (length tree.leaves) w.climb

pub made_new : (unit bsize psize size : ℕ) (tree : HeldTree) (w : BlockWriter) → IsBlockSize bsize → (psize ≡ 4) ⊎ (psize ≡ 12) → size ≤ most_bytes → length tree.leaves ≡ up size bsize
    → length tree.pointers ≡ pointer_count (bsize / psize) (length tree.leaves) → Made unit bsize psize size tree w → IsNewWriter unit bsize psize size tree w
made_new unit bsize psize size tree w block_size pointer few count nodes m =
    let c = m.climb in
    let added = c.added_is in
    let kept = m.start.kept in
    let whole = m.start.whole in
    let filled = m.start.filled in
    let bsize_is = m.start.bsize_is in
    record {
      is = record {
        size = rw m.start.bsize_is block_size;
        pointer = rw m.start.psize_is pointer;
        block = ap (λ (l : List ℕ). length l) m.block ∙ length-replicate bsize 0 ∙ sym m.start.bsize_is;
        count = rw (m.start.tree_is, m.start.size_is, m.start.bsize_is) count;
        nodes = rw (m.start.tree_is, m.start.bsize_is, m.start.psize_is) nodes;
        climb_held = c.held;
        climb_size = c.bsize_is ∙ sym m.start.bsize_is;
        climb_pointer = c.psize_is ∙ sym m.start.psize_is;
        climb_count = c.count_is ∙ ap (λ (t : HeldTree). length t.leaves) (sym m.start.tree_is);
        climb_kept = omega arith;
        climb_added = omega arith;
        within = omega arith;
        filled = omega arith;
        few = rw m.start.size_is few;
      };
      start = m.start;
      streams = λ bytes marks plan long. record {
        climbs = subst (λ (k : ℕ). ClimbsOn w.climb k [] w.tree.leaves marks w.tree.pointers) (sym m.start.kept)
            (rw m.start.tree_is (c.climbs tree.leaves marks tree.pointers plan refl));
        keeps = subst (λ (k : ℕ). AllKeep w.psize (w.bsize / w.psize) w.tree.pointers (lowest k w.tree.leaves) [] (levels (w.bsize / w.psize) (length w.tree.leaves))) (sym m.start.kept)
            (keeps_nothing w.bsize w.psize w.tree.leaves w.tree.pointers);
        kept = omega arith;
        added = c.added_is ∙ sym m.start.whole;
        size = long ∙ sym m.start.size_is;
        block = m.block ∙ zeros bytes;
      };
    }
  where
    zeros : (bytes : List ℕ) → replicate bsize 0 ≡ filled w.bsize (take w.filled (drop (w.whole * w.bsize) bytes))
    zeros bytes = let e : bsize - 0 ≡ bsize = omega arith in rw (m.start.filled, m.start.bsize_is, e) refl
