use Rattle.std.proofs.Common.{◌≡◌, ◌∙◌, length, ap, sym}
use Rattle.std.proofs.lemmas.List.{length-replicate}
use Rattle.std.proofs.lemmas.Result.{err_from_is_err_and}
use Rattle.cms_search.specs.Calls.{spot}
use Rattle.cms_search.proofs.StateCalls.{acts_starved}
use Rattle.cms_execio.proofs.Written.{given_lines}
use Rattle.cms_execio.proofs.diskw.lines_for.Goals as goal

pub returns-in_err-repeated-in-Some-clause-acts : goal.returns-in_err-repeated-in-Some-clause-acts
returns-in_err-repeated-in-Some-clause-acts g c =
    let p = err_from_is_err_and c.from_residual.result c.from_residual.ensures.1 in
    rw (p.1, p.2) (acts_starved _ _ _)

pub returns-in_ok-repeated-in-Some-clause-acts : goal.returns-in_ok-repeated-in-Some-clause-acts
returns-in_ok-repeated-in-Some-clause-acts g c =
    given_lines (spot g.W.World c.args.world.now c.args.state.now) c.args.target.now c.args.text c.in-Some.text c.in_ok-repeated-in-Some.field-0 c.in-Some.is c.in_ok-repeated-in-Some.ensures

pub returns-in-None-clause-acts : goal.returns-in-None-clause-acts
returns-in-None-clause-acts g c = let is = c.in-None.is in rw is c.ask_lines.ensures.acts

pub returns-in_ok-repeated-in-Some-clause-all : goal.returns-in_ok-repeated-in-Some-clause-all
returns-in_ok-repeated-in-Some-clause-all g c = λ lines is.
    let same : c.in_ok-repeated-in-Some.field-0 ≡ lines = cc is in
    ap length (sym same ∙ c.in_ok-repeated-in-Some.ensures) ∙ length-replicate c.args.target.now.count c.in-Some.text
