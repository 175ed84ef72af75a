use Rattle.std.proofs.Common.{◌≡◌, ℕ, ◌+◌, ◌/◌, ◌≤◌, List, length, ◌∙◌, ap, subst, ◌<◌, refl, sym}
use Rattle.std.specs.Prelude.{get_or, replicate}
use Rattle.std.proofs.lemmas.List.{length-replicate}
use Rattle.cms_model.specs.Sizes.{levels, pointer_count}
use Rattle.cms_tree.specs.declared.types.Mark.{Mark}
use Rattle.cms_tree.specs.Kept.{Kept}
use Rattle.cms_tree.specs.Climbs.{AddsOn, AddsOwn, Climb, ClimbsOn, IsNext, numbers_behind, HasEach}
use Rattle.cms_tree.proofs.Own.{own_grown}
use Rattle.cms_held.specs.Drafts.{nowhere}
use Rattle.cms_held.specs.declared.block_writer.BlockWriter.{BlockWriter}
use Rattle.cms_held.specs.BlockWriters.{IsSame, its_blocks}
use Rattle.cms_held.proofs.BlockWritten.{flush_fails, flushed, own_failed, own_flushed, writer_flushed, ready_kept, leaf_there, same_none}
use Rattle.cms_journal.specs.Journal.{HasBlock, IsWritable}
use Rattle.cms_held.proofs.WriterSteps.{add_fewer, add_fresh, counts_behind, holds_at_ok, wrote_grown, writer_stopped}
use Rattle.cms_held.proofs.block_writer.BlockWriter.flush.Goals as goal

is_same : (w w' cleared : BlockWriter) → cleared ≡ record w { block = cleared.block; filled = 0; whole = w.whole + 1; mark = record { last = w.mark.last; place = nowhere } }
    → IsSame w (record cleared { climb = w'.climb })
is_same w w' cleared same = record {
  unit = ap (λ (x : BlockWriter). x.unit) same;
  bsize = ap (λ (x : BlockWriter). x.bsize) same;
  psize = ap (λ (x : BlockWriter). x.psize) same;
  tree = ap (λ (x : BlockWriter). x.tree) same;
  size = ap (λ (x : BlockWriter). x.size) same;
  kept = ap (λ (x : BlockWriter). x.kept) same;
}

pub returns-in-Err-clause-writes : goal.returns-in-Err-clause-writes
returns-in-Err-clause-writes g c = λ es bytes marks s done.
    let w = c.args.self.now in
    flush_fails (g.W.World.told c.args.world.now) (g.W.World.told c.write_block.new.self) w (get_or c.leaves.result.now w.whole 0) c.deref.result.now es bytes marks
    (ap (λ (l : List ℕ). get_or l w.whole 0) c.leaves.ensures) c.deref.ensures.value done c.in-Err.ensures.failed

pub returns-in-Err-clause-own : goal.returns-in-Err-clause-own
returns-in-Err-clause-own g c =
    let w = c.args.self.now in
    own_failed (g.W.World.told c.args.world.now) (g.W.World.told c.write_block.new.self) w (get_or c.leaves.result.now w.whole 0) c.deref.result.now c.requires.is c.requires.fewer
    (ap (λ (l : List ℕ). get_or l w.whole 0) c.leaves.ensures) c.deref.ensures.value c.in-Err.ensures.failed

pub returns-clause-writes : goal.returns-clause-writes
returns-clause-writes g c = λ es bytes marks s done.
    let w = c.args.self.now in
    let old = g.W.World.told c.args.world.now in
    let mid = g.W.World.told c.write_block.new.self in
    let new = g.W.World.told c.add.new.world in
    let leaf = get_or c.leaves.result.now w.whole 0 in
    let same = c.clear.ensures.same in
    let pointers = c.pointers.result.now in
    let next = c.add.new.self in
    flushed old mid new w (record w { climb = next }) leaf c.deref.result.now pointers es bytes marks c.add.result c.requires.is s done
    (ap (λ (l : List ℕ). get_or l w.whole 0) c.leaves.ensures) c.deref.ensures.value (c.pointers.ensures ∙ ap (λ (x : BlockWriter). x.tree.pointers) same) c.in-Ok.ensures.wrote
    (ap (λ (x : Climb). x.added) c.add.ensures.added ∙ ap (λ (x : BlockWriter). x.climb.added + 1) same)
    (subst (λ (x : BlockWriter). (kept : ℕ) (es : List Kept) (leaves : List ℕ) (marks : List Mark) → ClimbsOn x.climb kept es leaves marks pointers → IsNext x.climb leaves marks leaf w.mark
    → AddsOn mid new x.unit x.climb next kept es leaves marks pointers c.add.result) same c.add.ensures.adds_on)

pub returns-clause-is : goal.returns-clause-is
returns-clause-is g c =
    let w = c.args.self.now in
    let same = c.clear.ensures.same in
    let next = c.add.new.self in
    writer_flushed w _ c.requires.is (is_same w (record c.clear.new.self { climb = next }) c.clear.new.self same) c.requires.fewer (ap (λ (x : BlockWriter). x.whole) same)
    (ap (λ (x : BlockWriter). x.filled) same)
    (ap (λ (l : List ℕ). length l) c.clear.ensures.zeros ∙ length-replicate (length w.block.items) 0 ∙ c.requires.is.block)
    (subst (λ (x : BlockWriter). next ≡ record x.climb { added = x.climb.added + 1; levels = next.levels }) same c.add.ensures.added) c.add.ensures.held

pub returns-clause-own : goal.returns-clause-own
returns-clause-own g c =
    let w = c.args.self.now in
    let mid = g.W.World.told c.write_block.new.self in
    let new = g.W.World.told c.add.new.world in
    let same = c.clear.ensures.same in
    let pointers = c.pointers.result.now in
    own_flushed (g.W.World.told c.args.world.now) mid new w (get_or c.leaves.result.now w.whole 0) c.deref.result.now pointers c.requires.is c.requires.fewer
    (ap (λ (l : List ℕ). get_or l w.whole 0) c.leaves.ensures) c.deref.ensures.value (c.pointers.ensures ∙ ap (λ (x : BlockWriter). x.tree.pointers) same) c.in-Ok.ensures.wrote
    (subst (λ (x : BlockWriter). (kept : ℕ) → kept ≤ x.climb.added
    → AddsOwn mid new x.unit x.climb.bsize (numbers_behind (x.climb.bsize / x.climb.psize) (levels (x.climb.bsize / x.climb.psize) x.climb.count) x.climb.count kept pointers)) same c.add.ensures.own)

pub returns-clause-still : goal.returns-clause-still
returns-clause-still g c =
    let w = c.args.self.now in
    let old = g.W.World.told c.args.world.now in
    let new = g.W.World.told c.add.new.world in
    ready_kept old new w (record c.clear.new.self { climb = c.add.new.self }) (own_grown old new w.unit w.bsize (its_blocks w) (returns-clause-own g c))
    (is_same w (record c.clear.new.self { climb = c.add.new.self }) c.clear.new.self c.clear.ensures.same) c.requires.ready

pub write_block-requires-clause-block : goal.write_block-requires-clause-block
write_block-requires-clause-block g c = λ j told.
    let w = c.args.self.now in
    subst (λ (l : List ℕ). HasBlock j.units w.unit (get_or l w.whole 0) (length c.deref.result.now)) (sym c.leaves.ensures)
    (leaf_there j.units w w.whole _ (c.requires.ready j told) c.requires.fewer (ap (λ (l : List ℕ). length l) c.deref.ensures.value ∙ c.requires.is.block))

pub write_block-requires-clause-writable : goal.write_block-requires-clause-writable
write_block-requires-clause-writable g c = λ j told. (c.requires.ready j told).writable

pub returns-in-Err-clause-is : goal.returns-in-Err-clause-is
returns-in-Err-clause-is g c = writer_stopped c.args.self.now c.requires.is c.requires.fewer

pub returns-in-Err-clause-same : goal.returns-in-Err-clause-same
returns-in-Err-clause-same g c = record { unit = refl; bsize = refl; psize = refl; tree = refl; size = refl; kept = refl }

pub returns-in-Err-clause-whole : goal.returns-in-Err-clause-whole
returns-in-Err-clause-whole g c = refl

pub returns-in-Err-clause-empty : goal.returns-in-Err-clause-empty
returns-in-Err-clause-empty g c = refl

pub returns-in-Err-clause-last : goal.returns-in-Err-clause-last
returns-in-Err-clause-last g c = refl

pub returns-in-Err-clause-still : goal.returns-in-Err-clause-still
returns-in-Err-clause-still g c =
    let w = c.args.self.now in
    let old = g.W.World.told c.args.world.now in
    let new = g.W.World.told c.write_block.new.self in
    ready_kept old new w _ (own_grown old new w.unit w.bsize (its_blocks w) (returns-in-Err-clause-own g c)) (record { unit = refl; bsize = refl; psize = refl; tree = refl; size = refl; kept = refl }) c.requires.ready

pub returns-in-Err-clause-counts : goal.returns-in-Err-clause-counts
returns-in-Err-clause-counts g c =
    let e = c.in-Err.ensures in
    record { cause = record { later = e.cause.later; failed = e.cause.failed }; edges = e.edges }

pub add-requires-clause-fewer : goal.add-requires-clause-fewer
add-requires-clause-fewer g c = subst (λ (x : BlockWriter). x.climb.added < x.climb.count) (sym c.clear.ensures.same) (add_fewer c.args.self.now c.requires.is c.requires.fewer)

pub add-requires-clause-fresh : goal.add-requires-clause-fresh
add-requires-clause-fresh g c =
    let fresh = subst (λ (x : BlockWriter). pointer_count (x.climb.bsize / x.climb.psize) x.climb.count ≤ length x.tree.pointers) (sym c.clear.ensures.same) (add_fresh c.args.self.now c.requires.is) in
    subst (λ (l : List ℕ). pointer_count (c.clear.new.self.climb.bsize / c.clear.new.self.climb.psize) c.clear.new.self.climb.count ≤ length l) (sym c.pointers.ensures) fresh

pub add-requires-clause-blocks : goal.add-requires-clause-blocks
add-requires-clause-blocks g c = λ j told.
    let w = c.args.self.now in
    let old = g.W.World.told c.args.world.now in
    let mid = g.W.World.told c.write_block.new.self in
    let ready = ready_kept old mid w w (wrote_grown old mid _ c.in-Ok.ensures.wrote) (same_none w) c.requires.ready j told in
    let each = subst (λ (n : ℕ). HasEach j.units w.unit n w.tree.pointers) (sym c.requires.is.climb_size) ready.nodes in
    subst (λ (l : List ℕ). HasEach j.units c.clear.new.self.unit c.clear.new.self.climb.bsize l) (sym c.pointers.ensures)
    (subst (λ (x : BlockWriter). HasEach j.units x.unit x.climb.bsize x.tree.pointers) (sym c.clear.ensures.same) each)

pub add-requires-clause-writable : goal.add-requires-clause-writable
add-requires-clause-writable g c = λ j told.
    let w = c.args.self.now in
    let old = g.W.World.told c.args.world.now in
    let mid = g.W.World.told c.write_block.new.self in
    let ready = ready_kept old mid w w (wrote_grown old mid _ c.in-Ok.ensures.wrote) (same_none w) c.requires.ready j told in
    subst (λ (x : BlockWriter). IsWritable j.units x.unit) (sym c.clear.ensures.same) ready.writable

pub returns-clause-same : goal.returns-clause-same
returns-clause-same g c = is_same c.args.self.now (record c.clear.new.self { climb = c.add.new.self }) c.clear.new.self c.clear.ensures.same

pub returns-clause-whole : goal.returns-clause-whole
returns-clause-whole g c = ap (λ (x : BlockWriter). x.whole) c.clear.ensures.same

pub returns-clause-empty : goal.returns-clause-empty
returns-clause-empty g c = ap (λ (x : BlockWriter). x.filled) c.clear.ensures.same

pub returns-clause-last : goal.returns-clause-last
returns-clause-last g c = ap (λ (x : BlockWriter). x.mark.last) c.clear.ensures.same

pub returns-clause-zeros : goal.returns-clause-zeros
returns-clause-zeros g c = holds_at_ok c.add.result (c.clear.ensures.zeros ∙ ap (λ (n : ℕ). replicate n 0) c.requires.is.block)

pub returns-clause-mark : goal.returns-clause-mark
returns-clause-mark g c = holds_at_ok c.add.result (ap (λ (x : BlockWriter). x.mark) c.clear.ensures.same)

pub returns-clause-counts : goal.returns-clause-counts
returns-clause-counts g c =
    let e = c.in-Ok.ensures in
    counts_behind c.add.result e.cause.later e.edges c.add.ensures.counts
