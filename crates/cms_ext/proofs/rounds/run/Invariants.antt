use Rattle.cms_world.specs.Seen.{seen}
use Rattle.cms_ext.specs.Calls.{run_tree}
use Rattle.cms_ext.specs.Objects.{objects_of}
use Rattle.cms_ext.specs.Replies.{reply_of}
use Rattle.cms_ext.proofs.Runs.{IsRunning, spot_in}
use Rattle.cms_ext.proofs.rounds.run.Given as goal

abbrev pub invariant-loop-next : goal.invariant-loop-next
invariant-loop-next g l =
    IsRunning l.initial.place
    (spot_in (seen g.W.World l.initial.world) l.initial.state (objects_of (λ k. (g.dyn-1.0.entry k).1) l.initial.list))
    (run_tree l.initial.state (objects_of (λ k. (g.dyn-1.0.entry k).1) l.initial.list) l.initial.place (reply_of l.initial.reply))
    (seen g.W.World l.world) l.state (objects_of (λ k. (g.dyn-1.0.entry k).1) l.list) l.reply

abbrev pub decreases-loop-next : goal.decreases-loop-next
decreases-loop-next g l = l.state.left
