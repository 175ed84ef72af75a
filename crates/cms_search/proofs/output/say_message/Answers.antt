use Rattle.std.proofs.Common.{◌≡◌, ◌∙◌}
use Rattle.std.proofs.lemmas.Result.{err_from_is_err_and}
use Rattle.cms_line.specs.Messages.{message_text}
use Rattle.cms_search.proofs.Says.{not_done}
use Rattle.cms_search.proofs.output.say_message.Goals as goal

pub returns-in_err-text : goal.returns-in_err-text
returns-in_err-text g c =
    let p = err_from_is_err_and c.from_residual.result c.from_residual.ensures.1 in
    rw (p.1, p.2) (not_done _ _ _)

pub returns : goal.returns
returns g c =
    let text : c.deref.result.now ≡ message_text c.args.message = c.deref.ensures.value ∙ c.in_ok-text.ensures in
    rw (← text) (c.say.ensures)
