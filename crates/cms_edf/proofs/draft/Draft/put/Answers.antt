use Rattle.std.proofs.Common.{sym, ap}
use Rattle.cms_held.specs.BlockWriters.{came}
use Rattle.cms_held.specs.FileWriters.{FileWriter}
use Rattle.cms_held.proofs.FilePuts.{stored_long}
use Rattle.cms_edf.specs.FileDrafts.{Draft}
use Rattle.cms_edf.proofs.AddedFront.{front_told}
use Rattle.cms_edf.proofs.DraftPut.{planned_still, stands_then, stays_held}
use Rattle.cms_edf.proofs.draft.Draft.put.Goals as goal

pub returns-clause-aside : goal.returns-clause-aside
returns-clause-aside g c =
    let s = c.self.inside in
    let d : Draft = record { entry = s.entry; writer = s.writer; systems = s.systems } in
    rw (← c.self.view_is) (λ j v m told held some. stays_held j (g.W.World.told c.args.world.now) (g.W.World.told c.put.new.world) v m d told held some c.put.ensures.own)

pub returns-clause-stands : goal.returns-clause-stands
returns-clause-stands g c =
    let s = c.self.inside in
    let d : Draft = record { entry = s.entry; writer = s.writer; systems = s.systems } in
    let e = c.put.ensures in
    let room = rw (← c.self.view_is) at c.requires.room in
    rw (← c.self.view_is) (λ j v m front records more told held some drafts stands.
    stands_then j (g.W.World.told c.args.world.now) (g.W.World.told c.put.new.world) v m d c.put.new.self front records more c.args.text.now c.put.result told held some e.kept e.is e.same
    (ap (λ (x : FileWriter). x.shape) e.shape) room
    (sym (stored_long d.writer.shape.format front records c.args.text.now (came d.writer.writer) drafts.came_is)) drafts (e.puts front records more drafts) stands)

pub returns-clause-planned : goal.returns-clause-planned
returns-clause-planned g c =
    let s = c.self.inside in
    let d : Draft = record { entry = s.entry; writer = s.writer; systems = s.systems } in
    let e = c.put.ensures in
    rw (← c.self.view_is) (λ v some. planned_still v d c.put.new.self e.same (ap (λ (x : FileWriter). x.shape) e.shape) some)

pub returns-clause-front : goal.returns-clause-front
returns-clause-front g c =
    let s = c.self.inside in
    let d : Draft = record { entry = s.entry; writer = s.writer; systems = s.systems } in
    rw (← c.self.view_is) (λ j v m name f shape stamp front told held p read. front_told j (g.W.World.told c.args.world.now) (g.W.World.told c.put.new.world) v m name f shape stamp d front told held p
    c.put.ensures.own read)

pub put-requires-clause-fewer : goal.put-requires-clause-fewer
put-requires-clause-fewer g c = rw (← c.self.view_is) at c.requires.fewer

pub put-requires-clause-fits : goal.put-requires-clause-fits
put-requires-clause-fits g c = rw (← c.self.view_is) at c.requires.fits

pub put-requires-clause-room : goal.put-requires-clause-room
put-requires-clause-room g c = rw (← c.self.view_is) at c.requires.room

pub put-requires-clause-ready : goal.put-requires-clause-ready
put-requires-clause-ready g c = rw (← c.self.view_is) at c.requires.ready

pub returns-clause-puts : goal.returns-clause-puts
returns-clause-puts g c = rw (← c.self.view_is) c.put.ensures.puts

pub returns-clause-own : goal.returns-clause-own
returns-clause-own g c = rw (← c.self.view_is) c.put.ensures.own

pub returns-clause-all : goal.returns-clause-all
returns-clause-all g c = rw (← c.self.view_is) c.put.ensures.all

pub returns-clause-same : goal.returns-clause-same
returns-clause-same g c = rw (← c.self.view_is) c.put.ensures.same

pub returns-clause-kept : goal.returns-clause-kept
returns-clause-kept g c = rw (← c.self.view_is) c.put.ensures.kept

pub returns-clause-is : goal.returns-clause-is
returns-clause-is g c = c.put.ensures.is

pub returns-clause-still : goal.returns-clause-still
returns-clause-still g c = c.put.ensures.still

pub returns-clause-counts : goal.returns-clause-counts
returns-clause-counts g c = c.put.ensures.counts
