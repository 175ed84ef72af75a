use Rattle.cms_world.specs.Seen.{seen}
use Rattle.cms_session.proofs.Ends.{runs_cut, runs_not, runs_whole}
use Rattle.cms_session.proofs.top.run_on.Goals as goal

pub returns-in_default-clause-ran : goal.returns-in_default-clause-ran
returns-in_default-clause-ran g c = runs_not _ (seen g.W.World c.args.world.now) c.args.words.now c.args.units

pub returns-in-Ok-play-clause-ran : goal.returns-in-Ok-play-clause-ran
returns-in-Ok-play-clause-ran g c =
    rw c.status_of.ensures
    (runs_whole _ _ (seen g.W.World c.args.world.now) (seen g.W.World c.play.new.world) c.args.words.now c.args.units c.in-Ok.state c.play.new.session.state
    c.in-Ok.ensures c.in-Ok-play.finish c.in-Ok-play.ensures)

pub returns-clause-ran : goal.returns-clause-ran
returns-clause-ran g c =
    rw c.status_at.ensures
    (runs_cut _ _ (seen g.W.World c.args.world.now) (seen g.W.World c.play.new.world) c.args.words.now c.args.units c.in-Ok.state c.play.new.session.state c.in-Ok.ensures
    c.in-Err.end c.in-Err.ensures)

pub play-requires-clause-usable : goal.play-requires-clause-usable
play-requires-clause-usable g c = let is = c.in-Ok.ensures in rw is c.requires.usable
