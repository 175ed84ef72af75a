use Rattle.std.proofs.Common.{◌≡◌, ◌∙◌, ◌+◌, ◌≤◌, ℕ, length, sym, ap, subst}
use Rattle.std.specs.Option.{ForSome}
use Rattle.cms_held.specs.BlockWriters.{AddsOwnBlocks, CanWrite, IsSame, came}
use Rattle.cms_held.specs.FileWriters.{FileWriter, IsDrafting, PutsRun}
use Rattle.cms_held.proofs.FilePuts.{run_fixed}
use Rattle.cms_held.proofs.WriterSteps.{drafting_run}
use Rattle.cms_held.proofs.file_writer.FileWriter.put_run.Goals as goal

pub returns-clause-puts : goal.returns-clause-puts
returns-clause-puts g c =
    let s = c.self.inside in
    let d : FileWriter = record { shape = s.shape; put = s.put; writer = s.writer } in
    let e = c.append.ensures in
    let is = rw (← c.self.view_is) at c.requires.fixed in
    let old = g.W.World.told c.args.world.now in
    let new = g.W.World.told c.append.new.world in
    rw (← c.self.view_is) (λ front records run more long are drafts.
    subst (λ (n : ℕ). PutsRun old new d (record d { put = d.put + n; writer = c.append.new.self }) front records run more c.append.result) long
    (run_fixed old new d c.append.new.self front records run more c.args.bytes.now c.append.result is c.self.invariant drafts are e.later.same e.all e.writes))

pub append-requires-clause-is : goal.append-requires-clause-is
append-requires-clause-is g c = c.self.invariant.writer

pub append-requires-clause-unfilled : goal.append-requires-clause-unfilled
append-requires-clause-unfilled g c = c.self.invariant.unfilled

pub append-requires-clause-ready : goal.append-requires-clause-ready
append-requires-clause-ready g c = subst (λ (d : FileWriter). ForSome (g.W.World.told c.args.world.now) (λ j. CanWrite j.units d.writer)) (sym c.self.view_is) c.requires.ready

pub append-requires-clause-room : goal.append-requires-clause-room
append-requires-clause-room g c = subst (λ (x : FileWriter). came x.writer + length c.args.bytes.now ≤ x.writer.size) (sym c.self.view_is) c.requires.room

pub returns-clause-shape : goal.returns-clause-shape
returns-clause-shape g c = ap (λ (d : FileWriter). record d { put = d.put + c.args.count; writer = c.append.new.self }) c.self.view_is

pub returns-clause-same : goal.returns-clause-same
returns-clause-same g c = subst (λ (d : FileWriter). IsSame d.writer c.append.new.self) c.self.view_is c.append.ensures.later.same

pub returns-clause-own : goal.returns-clause-own
returns-clause-own g c = subst (λ (d : FileWriter). AddsOwnBlocks (g.W.World.told c.args.world.now) (g.W.World.told c.append.new.world) d.writer) c.self.view_is c.append.ensures.own

pub returns-clause-kept : goal.returns-clause-kept
returns-clause-kept g c = subst IsDrafting c.self.view_is c.self.invariant

pub returns-clause-still : goal.returns-clause-still
returns-clause-still g c = c.append.ensures.still

pub returns-clause-counts : goal.returns-clause-counts
returns-clause-counts g c = c.append.ensures.counts

pub invariant_of-self : goal.invariant_of-self
invariant_of-self g c =
    let s = c.self.inside in
    let d : FileWriter = record { shape = s.shape; put = s.put; writer = s.writer } in
    let room = subst (λ (x : FileWriter). came x.writer + length c.args.bytes.now ≤ x.writer.size) (sym c.self.view_is) c.requires.room in
    let fewer = subst (λ (x : FileWriter). x.put + c.args.count ≤ x.shape.count) (sym c.self.view_is) c.requires.fewer in
    drafting_run d c.append.new.self c.args.count (came s.writer + length c.args.bytes.now) c.self.invariant fewer c.append.ensures.later room

pub returns-clause-is : goal.returns-clause-is
returns-clause-is g c =
    let s = c.self.inside in
    let d : FileWriter = record { shape = s.shape; put = s.put; writer = s.writer } in
    let room = subst (λ (x : FileWriter). came x.writer + length c.args.bytes.now ≤ x.writer.size) (sym c.self.view_is) c.requires.room in
    let fewer = subst (λ (x : FileWriter). x.put + c.args.count ≤ x.shape.count) (sym c.self.view_is) c.requires.fewer in
    drafting_run d c.append.new.self c.args.count (came s.writer + length c.args.bytes.now) c.self.invariant fewer c.append.ensures.later room
