use Rattle.std.proofs.Common.{refl}
use Rattle.cms_session.specs.RoundCalls.{passed_of}
use Rattle.cms_session.specs.declared.state.Round.TheVariants as end
use Rattle.cms_session.proofs.Alone.{left_decked}
use Rattle.cms_session.proofs.Rounds.{done_here}
use Rattle.cms_session.proofs.round.run_taken.Goals as goal

pub returns-in-Text-clause-acts : goal.returns-in-Text-clause-acts
returns-in-Text-clause-acts g c = let is = c.in-Text.is in rw is c.run_line.ensures.acts

pub returns-in-Bad-clause-acts : goal.returns-in-Bad-clause-acts
returns-in-Bad-clause-acts g c = let is = c.in-Bad.is in rw is (left_decked _ _ c.args.session.now.reader _ _ _ _ c.refuse_taken.ensures.reader c.refuse_taken.ensures.acts)

pub returns-in-Long-clause-acts : goal.returns-in-Long-clause-acts
returns-in-Long-clause-acts g c = let is = c.in-Long.is in rw is (left_decked _ _ c.args.session.now.reader _ _ _ _ c.refuse_taken-in-Long.ensures.reader c.refuse_taken-in-Long.ensures.acts)

pub returns-in-Rest-clause-acts : goal.returns-in-Rest-clause-acts
returns-in-Rest-clause-acts g c = let is = c.in-Rest.is in rw is (done_here _ _ end.Ready (passed_of c.args.session.now _) (λ units h. refl))
