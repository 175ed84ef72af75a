use Rattle.std.specs.Prelude.{◌≡◌, length}
use Rattle.cms_search.specs.Calls.{spot}
use Rattle.cms_session.proofs.Statements.{Gives}
use Rattle.cms_session.proofs.statement.give.Given as goal

abbrev pub invariant-loop-procedure : goal.invariant-loop-procedure
invariant-loop-procedure g l = record {
  gives : Gives (spot g.W.World l.initial.world l.initial.session.state) (spot g.W.World l.world l.session.state)
      l.initial.session.procedures l.session.procedures l.initial.code l.code;
  reader : l.session.reader ≡ l.initial.session.reader;
}

abbrev pub decreases-loop-procedure : goal.decreases-loop-procedure
decreases-loop-procedure g l = length l.session.procedures
