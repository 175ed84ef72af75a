use Rattle.std.proofs.lemmas.Result.{IfOk-from_err}
use Rattle.std.proofs.Common.{w32, to_z, of_z, ◌≡◌, arith}
use Rattle.std.proofs.lemmas.Int.{to_z-of_z}
use Rattle.cms_search.proofs.Asks.{first_is_moment}
use Rattle.cms_fields.specs.Moments.{first_moment}
use Rattle.cms_search.proofs.state.State.new.Goals as goal

pub returns-clause-moment : goal.returns-clause-moment
returns-clause-moment c = first_is_moment

pub returns-in_err-new-clause-first : goal.returns-in_err-new-clause-first
returns-in_err-new-clause-first c = IfOk-from_err c.from_residual.result _ c.from_residual.ensures.0

pub returns-in_err-new-clause-moment : goal.returns-in_err-new-clause-moment
returns-in_err-new-clause-moment c = IfOk-from_err c.from_residual.result _ c.from_residual.ensures.0

pub returns-in_err-new-2-clause-first : goal.returns-in_err-new-2-clause-first
returns-in_err-new-2-clause-first c = IfOk-from_err c.from_residual-in_err-new-2.result _ c.from_residual-in_err-new-2.ensures.0

pub returns-in_err-new-2-clause-moment : goal.returns-in_err-new-2-clause-moment
returns-in_err-new-2-clause-moment c = IfOk-from_err c.from_residual-in_err-new-2.result _ c.from_residual-in_err-new-2.ensures.0

pub returns-clause-first : goal.returns-clause-first
returns-clause-first c =
    let offset : to_z w32 (of_z w32 c.args.words.now.offset) ≡ c.args.words.now.offset = grind (arith, to_z-of_z) in
    λ k. record {
      table = c.in_ok-new.ensures k;
      stack = c.new-2.ensures k;
      console = c.in_ok-new-2.ensures k;
      places = c.new-4.ensures k;
      moment = first_moment;
      offset = offset k;
      left = c.args.words.now.turns;
    }
