use Rattle.cms_search.specs.Calls.{spot}
use Rattle.cms_world.specs.Seen.{seen}
use Rattle.cms_search.proofs.Accesses.{access_done, access_refused, blocks_there, is_of_access}
use Rattle.cms_search.proofs.state.State.access.Goals as goal

pub access-requires-clause-blocks : goal.access-requires-clause-blocks
access-requires-clause-blocks g c = blocks_there (g.W.World.told c.args.world.now) c.args.self.now.table c.args.vdev c.requires.usable

pub refused-requires : goal.refused-requires
refused-requires g c =
    is_of_access (g.W.World.told c.args.world.now) (g.W.World.told c.access.new.world) c.args.self.now.table c.access.new.self c.args.vdev c.args.letter c.args.parent c.in-Err.fault
    c.in-Err.ensures.access

pub returns-in-Ok-clause-acts : goal.returns-in-Ok-clause-acts
returns-in-Ok-clause-acts g c =
    access_done (spot g.W.World c.args.world.now c.args.self.now) (seen g.W.World c.access.new.world) c.access.new.self c.forget_taken.new.places c.args.vdev c.args.letter c.args.parent
    c.in-Ok.field-0 c.seat-left.result c.is_read_only-read_only.result c.requires.letter c.in-Ok.ensures.access c.in-Ok.ensures.changes c.is_read_only-read_only.ensures.table
    c.seat-left.ensures.none c.seat-left.ensures.some c.forget_taken.ensures c.is_read_only-read_only.ensures.read_only

pub returns-in-Err-clause-acts : goal.returns-in-Err-clause-acts
returns-in-Err-clause-acts g c =
    access_refused (spot g.W.World c.args.world.now c.args.self.now) (seen g.W.World c.access.new.world) c.access.new.self c.args.vdev c.args.letter c.args.parent
    c.in-Err.fault c.refused.result c.refused.ensures c.in-Err.ensures.access c.in-Err.ensures.changes c.in-Err.ensures.unlooked
