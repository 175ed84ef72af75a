use Rattle.std.proofs.Common.{◌≡◌, ◌≤◌, ◌+◌, ℕ, List, ◌∙◌, length, sym, subst, ap}
use Rattle.cms_names.specs.declared.name.Format.{Format}
use Rattle.cms_model.specs.Records.{stored}
use Rattle.cms_held.specs.BlockWriters.{came}
use Rattle.cms_held.specs.FileWriters.{FileWriter}
use Rattle.cms_edf.specs.FileDrafts.{Draft}
use Rattle.cms_edf.proofs.AddedFront.{front_told}
use Rattle.cms_edf.proofs.RunPut.{run_stands}
use Rattle.cms_edf.proofs.draft.Draft.put_run.Goals as goal

pub returns-clause-stands : goal.returns-clause-stands
returns-clause-stands g c =
    let s = c.self.inside in
    let d : Draft = record { entry = s.entry; writer = s.writer; systems = s.systems } in
    let e = c.put_run.ensures in
    let room = rw (← c.self.view_is) at c.requires.room in
    let is = rw (← c.self.view_is) at c.requires.fixed in
    rw (← c.self.view_is) (λ j v m front records run more long are told held some drafts stands.
    let size = ap (λ (l : List ℕ). length l) are ∙ sym (ap (λ (f : Format). length (stored f run)) is) in
    run_stands j (g.W.World.told c.args.world.now) (g.W.World.told c.put_run.new.world) v m d c.put_run.new.self front records run more c.put_run.result told held some e.kept e.is e.same
    (ap (λ (x : FileWriter). x.shape) e.shape) (subst (λ (n : ℕ). came d.writer.writer + n ≤ d.writer.writer.size) size room) drafts (e.puts front records run more long are drafts) stands)

pub returns-clause-front : goal.returns-clause-front
returns-clause-front g c =
    let s = c.self.inside in
    let d : Draft = record { entry = s.entry; writer = s.writer; systems = s.systems } in
    rw (← c.self.view_is) (λ j v m name f shape stamp front told held p read. front_told j (g.W.World.told c.args.world.now) (g.W.World.told c.put_run.new.world) v m name f shape stamp d front told held p
    c.put_run.ensures.own read)

pub put_run-requires-clause-fixed : goal.put_run-requires-clause-fixed
put_run-requires-clause-fixed g c = rw (← c.self.view_is) at c.requires.fixed

pub put_run-requires-clause-fewer : goal.put_run-requires-clause-fewer
put_run-requires-clause-fewer g c = rw (← c.self.view_is) at c.requires.fewer

pub put_run-requires-clause-room : goal.put_run-requires-clause-room
put_run-requires-clause-room g c = rw (← c.self.view_is) at c.requires.room

pub put_run-requires-clause-ready : goal.put_run-requires-clause-ready
put_run-requires-clause-ready g c = rw (← c.self.view_is) at c.requires.ready

pub returns-clause-puts : goal.returns-clause-puts
returns-clause-puts g c = rw (← c.self.view_is) c.put_run.ensures.puts

pub returns-clause-own : goal.returns-clause-own
returns-clause-own g c = rw (← c.self.view_is) c.put_run.ensures.own

pub returns-clause-all : goal.returns-clause-all
returns-clause-all g c = rw (← c.self.view_is) c.put_run.ensures.all

pub returns-clause-same : goal.returns-clause-same
returns-clause-same g c = rw (← c.self.view_is) c.put_run.ensures.same

pub returns-clause-kept : goal.returns-clause-kept
returns-clause-kept g c = rw (← c.self.view_is) c.put_run.ensures.kept

pub returns-clause-is : goal.returns-clause-is
returns-clause-is g c = c.put_run.ensures.is

pub returns-clause-still : goal.returns-clause-still
returns-clause-still g c = c.put_run.ensures.still

pub returns-clause-counts : goal.returns-clause-counts
returns-clause-counts g c = c.put_run.ensures.counts
