use Rattle.std.proofs.lemmas.Result.{err_from_is_err_and}
use Rattle.cms_search.proofs.Says.{refused_so, refused_stops}
use Rattle.cms_search.proofs.output.refuse.Goals as goal

pub returns-in_err-say_message-clause-does : goal.returns-in_err-say_message-clause-does
returns-in_err-say_message-clause-does g c =
    let p = err_from_is_err_and c.from_residual.result c.from_residual.ensures.1 in
    rw (p.1, p.2) (refused_stops _ _ _ _ c.in_err-say_message.ensures)

pub returns-clause-does : goal.returns-clause-does
returns-clause-does g c = refused_so _ _ _ _ _ c.in_ok-say_message.ensures
