use Rattle.std.proofs.Common.{Ok, Err, ◌≡◌, subst, sym, ap, ◌∙◌}
use Rattle.std.specs.Prelude.{⊤}
use Rattle.std.specs.Option.{ForSome}
use Rattle.cms_held.specs.FileWriters.{FileWriter, IsDrafting}
use Rattle.cms_held.proofs.FilePuts.{file_finishes}
use Rattle.cms_held.specs.BlockWriters.{AddsOwnBlocks, CanWrite, came}
use Rattle.cms_held.proofs.file_writer.FileWriter.finish.Goals as goal

pub returns-in-Ok-clause-finishes : goal.returns-in-Ok-clause-finishes
returns-in-Ok-clause-finishes g c =
    let s = c.self.inside in
    let d : FileWriter = record { shape = s.shape; put = s.put; writer = s.writer } in
    rw (← c.self.view_is) (λ front records drafts.
    file_finishes (g.W.World.told c.args.world.now) (g.W.World.told c.finish.new.world) d front records (Ok c.in-Ok.field-0) c.self.invariant drafts c.in-Ok.ensures.writes)

pub returns-in-Err-clause-finishes : goal.returns-in-Err-clause-finishes
returns-in-Err-clause-finishes g c =
    let s = c.self.inside in
    let d : FileWriter = record { shape = s.shape; put = s.put; writer = s.writer } in
    rw (← c.self.view_is) (λ front records drafts.
    file_finishes {A = ⊤} (g.W.World.told c.args.world.now) (g.W.World.told c.finish.new.world) d front records (Err c.in-Err.field-0) c.self.invariant drafts c.in-Err.ensures.writes)

pub finish-requires-clause-is : goal.finish-requires-clause-is
finish-requires-clause-is g c = c.self.invariant.writer

pub finish-requires-clause-unfilled : goal.finish-requires-clause-unfilled
finish-requires-clause-unfilled g c = c.self.invariant.unfilled

pub finish-requires-clause-all : goal.finish-requires-clause-all
finish-requires-clause-all g c = subst (λ (d : FileWriter). came d.writer ≡ d.writer.size) (sym c.self.view_is) c.requires.bytes

pub finish-requires-clause-ready : goal.finish-requires-clause-ready
finish-requires-clause-ready g c = subst (λ (d : FileWriter). ForSome (g.W.World.told c.args.world.now) (λ j. CanWrite j.units d.writer)) (sym c.self.view_is) c.requires.ready

pub returns-in-Ok-clause-tree : goal.returns-in-Ok-clause-tree
returns-in-Ok-clause-tree g c = c.in-Ok.ensures.same.tree ∙ ap (λ (d : FileWriter). d.writer.tree) c.self.view_is

pub returns-in-Ok-clause-kept : goal.returns-in-Ok-clause-kept
returns-in-Ok-clause-kept g c = subst IsDrafting c.self.view_is c.self.invariant

pub returns-in-Err-clause-kept : goal.returns-in-Err-clause-kept
returns-in-Err-clause-kept g c = subst IsDrafting c.self.view_is c.self.invariant

pub returns-in-Ok-clause-own : goal.returns-in-Ok-clause-own
returns-in-Ok-clause-own g c = subst (λ (d : FileWriter). AddsOwnBlocks (g.W.World.told c.args.world.now) (g.W.World.told c.finish.new.world) d.writer) c.self.view_is c.in-Ok.ensures.own

pub returns-in-Err-clause-own : goal.returns-in-Err-clause-own
returns-in-Err-clause-own g c = subst (λ (d : FileWriter). AddsOwnBlocks (g.W.World.told c.args.world.now) (g.W.World.told c.finish.new.world) d.writer) c.self.view_is c.in-Err.ensures.own

pub returns-in-Ok-clause-counts : goal.returns-in-Ok-clause-counts
returns-in-Ok-clause-counts g c =
    let counts = c.in-Ok.ensures.counts in
    record { cause = record { later = counts.cause.later; failed = tt }; edges = counts.edges }

pub returns-in-Err-clause-counts : goal.returns-in-Err-clause-counts
returns-in-Err-clause-counts g c =
    let counts = c.in-Err.ensures.counts in
    record { cause = record { later = counts.cause.later; failed = counts.cause.failed }; edges = counts.edges }
