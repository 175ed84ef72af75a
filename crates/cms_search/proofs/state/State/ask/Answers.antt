use Rattle.std.proofs.Common.{refl}
use Rattle.cms_search.specs.Calls.{machine_of, spot}
use Rattle.cms_search.specs.Talks.{ask_tree, asked_of}
use Rattle.cms_search.specs.declared.state.State.{State}
use Rattle.cms_search.proofs.Acts.{acts_talks}
use Rattle.cms_search.proofs.state.State.ask.Goals as goal

pub returns-clause-acts : goal.returns-clause-acts
returns-clause-acts g c =
    let s = c.args.self.now in
    let after : State = record s { stack = c.ask.new.stack; console = c.ask.new.console; left = c.ask.new.left } in
    acts_talks (spot g.W.World c.args.world.now s) (spot g.W.World c.ask.new.world after) (ask_tree s) c.ask.result (asked_of after) refl
    (λ units. c.ask.ensures.talks (machine_of s units))
