use Rattle.std.proofs.Common.{subst}
use Rattle.std.proofs.lemmas.Result.{err_from_is_err_and}
use Rattle.cms_text.specs.Texts.{Text}
use Rattle.cms_search.specs.Calls.{Acts, machine_of, spot}
use Rattle.cms_search.proofs.StateCalls.{acts_starved}
use Rattle.cms_exec.specs.Exec.{started_of, starting}
use Rattle.cms_exec.proofs.call.run_called.Goals as goal

pub returns-in_err-called : goal.returns-in_err-called
returns-in_err-called g c =
    let p = err_from_is_err_and c.from_residual.result c.from_residual.ensures.1 in
    rw (p.1, p.2) (acts_starved _ _ _)

pub returns : goal.returns
returns g c =
    let s = c.args.state.now in
    let words = c.as_slice.ensures in
    subst (λ (text : Text). Acts (spot g.W.World c.args.world.now s) (spot g.W.World c.start.new.world s)
    (λ units. starting c.args.running (machine_of s units) text c.args.found.now.file) c.start.result (started_of s)) (rw words at c.in_ok-called.ensures) c.start.ensures
