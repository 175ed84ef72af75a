use Rattle.std.proofs.Common.{refl}
use Rattle.std.proofs.lemmas.Result.{err_from_is_err_and}
use Rattle.cms_search.specs.Calls.{spot}
use Rattle.cms_ext.proofs.Meets.{says, says_off}
use Rattle.cms_ext.proofs.wants.say_all.Goals as goal

pub returns-in_err-say_lines : goal.returns-in_err-say_lines
returns-in_err-say_lines g c = λ objects.
    let p = err_from_is_err_and c.from_residual.result c.from_residual.ensures.1 in
    let s = c.args.state.now in
    rw (p.1, p.2) (says_off (spot g.W.World c.args.world.now s) (spot g.W.World c.say_lines.new.world s) objects c.args.lines.now refl
    c.in_err-say_lines.field-0.0 c.in_err-say_lines.ensures)

pub returns : goal.returns
returns g c = λ objects.
    let s = c.args.state.now in
    says (spot g.W.World c.args.world.now s) (spot g.W.World c.say_lines.new.world s) objects c.args.lines.now refl tt c.in_ok-say_lines.ensures
