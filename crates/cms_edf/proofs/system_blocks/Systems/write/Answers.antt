use Rattle.std.proofs.Common.{◌++◌, Result, length, ap, subst, inl, refl, sym, List, ℕ, ◌∙◌}
use Rattle.std.specs.Prelude.{⊤}
use Rattle.cms_journal.specs.declared.event.Failed.{Failed}
use Rattle.cms_world.specs.Seen.{Seen, seen}
use Rattle.cms_held.specs.Systems.{Systems, system_writes}
use Rattle.cms_edf.specs.declared.block_writes.Target.{Target}
use Rattle.cms_edf.specs.BlockWrites.{MayWrite, Writes}
use Rattle.cms_edf.specs.Doubts.{directory_writes, map_writes, first_writes, target_of}
use Rattle.cms_edf.specs.NewDirectories.{GoesOn, directory_in}
use Rattle.cms_edf.proofs.SystemsWritten.{held_made, target_held}
use Rattle.cms_edf.proofs.WritesMade.{then_made, first_failed, same_made}
use Rattle.cms_tree.proofs.BuiltTrees.{fan_wide}
use Rattle.cms_edf.proofs.system_blocks.Systems.write.Given as given
use Rattle.cms_edf.proofs.system_blocks.Systems.write.Goals as goal
use Rattle.cms_edf.proofs.system_blocks.Systems.write.Goals.{After-write_directory}

pub write_directory-requires-clause-may : goal.write_directory-requires-clause-may
write_directory-requires-clause-may g c =
    let i = c.self.inside in
    let v : Systems = record { label = i.label; label_bytes = i.label_bytes.items; directory = i.directory.tree; directory_part = i.directory.part; directory_bytes = i.directory_bytes.items; map = i.map_tree; map_part = i.map_part; bits = i.map } in
    subst (λ (t : Target). MayWrite (g.W.World.told c.args.world.now) t) (target_held c.args.unit v c.args.self.now i.bsize c.self.view_is c.self.invariant.label_long) c.requires.may

-- where they are written
abbrev target : (g : given.Over) → After-write_directory g → Target
target g c = record { unit = c.args.unit; total = c.self.inside.label.blocks; bsize = c.self.inside.bsize }

-- the parts, written as they are held, are what an update writes
written : (g : given.Over) (c : After-write_directory g) (now : Seen) (r : Result ⊤ Failed)
    → Writes (seen g.W.World c.args.world.now) now (target g c)
    (directory_writes c.self.inside.bsize c.self.inside.directory.tree c.self.inside.directory.part c.self.inside.directory_bytes.items
    ++ (map_writes c.self.inside.bsize c.self.inside.map_tree c.self.inside.map_part c.self.inside.map ++ first_writes c.self.inside.bsize c.self.inside.directory.tree c.self.inside.directory.part c.self.inside.directory_bytes.items)) r
    → Writes (seen g.W.World c.args.world.now) now (target_of c.args.unit c.args.self.now) (system_writes (length c.args.self.now.label_bytes) c.args.self.now) r
written g c now r =
    let i = c.self.inside in
    let v : Systems = record { label = i.label; label_bytes = i.label_bytes.items; directory = i.directory.tree; directory_part = i.directory.part; directory_bytes = i.directory_bytes.items; map = i.map_tree; map_part = i.map_part; bits = i.map } in
    held_made c.args.unit v c.args.self.now i.bsize (seen g.W.World c.args.world.now) now r c.self.view_is c.self.invariant.label_long

-- the directory's part, of the bytes that are held
directory_done : (g : given.Over) (c : After-write_directory g) (r : Result ⊤ Failed)
    → Writes (seen g.W.World c.args.world.now) (seen g.W.World c.write_directory.new.world) (target g c) (directory_writes c.self.inside.bsize c.self.inside.directory.tree c.self.inside.directory.part c.deref.result.now) r
    → Writes (seen g.W.World c.args.world.now) (seen g.W.World c.write_directory.new.world) (target g c)
    (directory_writes c.self.inside.bsize c.self.inside.directory.tree c.self.inside.directory.part c.self.inside.directory_bytes.items) r
directory_done g c r = same_made _ _ (target g c) _ _ r (ap (directory_writes c.self.inside.bsize c.self.inside.directory.tree c.self.inside.directory.part) c.deref.ensures.value)

pub returns-in-Err : goal.returns-in-Err
returns-in-Err g c =
    let at = (goal.at.returns-in-Err g c).After-write_directory in
    record { writes = written g at _ _ (first_failed _ _ (target g at) _ _ _ (directory_done g at _ c.in-Err.ensures.writes)) }

pub returns-in-Err-write_map_tree : goal.returns-in-Err-write_map_tree
returns-in-Err-write_map_tree g c =
    let at = (goal.at.returns-in-Err-write_map_tree g c).After-write_directory in
    let one = seen g.W.World c.write_directory.new.world in
    record {
      writes = written g at _ _ (then_made _ one _ (target g at) _ _ _ (directory_done g at _ c.in-Ok.ensures.writes)
          (first_failed one _ (target g at) _ _ _ c.in-Err-write_map_tree.ensures.writes));
    }

pub returns-in-Ok-write_map_tree : goal.returns-in-Ok-write_map_tree
returns-in-Ok-write_map_tree g c =
    let at = (goal.at.returns-in-Ok-write_map_tree g c).After-write_directory in
    let one = seen g.W.World c.write_directory.new.world in
    let two = seen g.W.World c.write_map_tree.new.world in
    let is_last = ap (first_writes c.self.inside.bsize c.self.inside.directory.tree c.self.inside.directory.part) c.deref-in-Ok-write_map_tree.ensures.value in
    record {
      writes = written g at _ _ (then_made _ one _ (target g at) _ _ _ (directory_done g at _ c.in-Ok.ensures.writes)
          (then_made one two _ (target g at) _ _ _ c.in-Ok-write_map_tree.ensures.writes (same_made two _ (target g at) _ _ _ is_last c.write_first.ensures.writes)));
    }

pub write_map_tree-requires-clause-wide : goal.write_map_tree-requires-clause-wide
write_map_tree-requires-clause-wide g c = fan_wide c.self.inside.bsize 4 c.self.invariant.size (inl refl)

pub write_directory-requires-clause-few : goal.write_directory-requires-clause-few
write_directory-requires-clause-few g c = c.self.invariant.directory_few

pub write_directory-requires-clause-nodes : goal.write_directory-requires-clause-nodes
write_directory-requires-clause-nodes g c = c.self.invariant.directory_nodes

pub write_directory-requires-clause-first : goal.write_directory-requires-clause-first
write_directory-requires-clause-first g c = c.self.invariant.directory_first

pub write_first-requires-clause-first : goal.write_first-requires-clause-first
write_first-requires-clause-first g c = c.self.invariant.directory_first

pub write_directory-requires-clause-long : goal.write_directory-requires-clause-long
write_directory-requires-clause-long g c = ap (λ (l : List ℕ). length l) c.deref.ensures.value ∙ c.self.invariant.directory_long

pub write_directory-requires-clause-at : goal.write_directory-requires-clause-at
write_directory-requires-clause-at g c = c.self.invariant.directory_at

pub write_first-requires-clause-at : goal.write_first-requires-clause-at
write_first-requires-clause-at g c = c.self.invariant.directory_at

pub write_directory-requires-clause-nodes_at : goal.write_directory-requires-clause-nodes_at
write_directory-requires-clause-nodes_at g c = c.self.invariant.directory_nodes_at

pub write_map_tree-requires-clause-some : goal.write_map_tree-requires-clause-some
write_map_tree-requires-clause-some g c = c.self.invariant.map_some

pub write_map_tree-requires-clause-nodes : goal.write_map_tree-requires-clause-nodes
write_map_tree-requires-clause-nodes g c = c.self.invariant.map_nodes

pub write_map_tree-requires-clause-short : goal.write_map_tree-requires-clause-short
write_map_tree-requires-clause-short g c = c.self.invariant.map_few

pub write_map_tree-requires-clause-at : goal.write_map_tree-requires-clause-at
write_map_tree-requires-clause-at g c = c.self.invariant.map_at

pub write_map_tree-requires-clause-nodes_at : goal.write_map_tree-requires-clause-nodes_at
write_map_tree-requires-clause-nodes_at g c = c.self.invariant.map_nodes_at

pub write_first-requires-clause-long : goal.write_first-requires-clause-long
write_first-requires-clause-long g c = ap (λ (l : List ℕ). length l) c.deref-in-Ok-write_map_tree.ensures.value ∙ c.self.invariant.directory_long

pub write_directory-requires-clause-goes : goal.write_directory-requires-clause-goes
write_directory-requires-clause-goes g c = subst (λ (s : Systems). GoesOn c.args.held.now (directory_in s)) (sym c.self.view_is) c.requires.goes
