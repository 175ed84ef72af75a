use Rattle.std.proofs.Common.{◌≡◌, ◌∙◌, true, false, rules}
use Rattle.std.proofs.lemmas.Result.{err_from_is_err_and}
use Rattle.cms_search.proofs.Says.{not_done}
use Rattle.cms_listfile.proofs.Delivered.{header_said, header_unsaid}
use Rattle.cms_listfile.proofs.command.type_header.Goals as goal

pub returns-then-not-style : goal.returns-then-not-style
returns-then-not-style g c =
    let off : c.args.style.now.header ≡ false = search rules in
    header_unsaid _ c.args.style.now tt off

pub returns-in_err-line : goal.returns-in_err-line
returns-in_err-line g c =
    let p = err_from_is_err_and c.from_residual.result c.from_residual.ensures.1 in
    rw (p.1, p.2) (not_done _ _ _)

pub returns : goal.returns
returns g c =
    let on : c.args.style.now.header ≡ true = search rules in
    header_said _ _ c.args.style.now c.deref.result.now c.say.result on (c.deref.ensures.value ∙ c.in_ok-line.ensures.text) c.say.ensures
