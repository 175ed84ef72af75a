use Rattle.std.proofs.lemmas.Result.{err_from_is_err_and}
use Rattle.cms_search.proofs.Says.{not_done, refused_so}
use Rattle.cms_access.proofs.empty_volume.tell_made.Goals as goal

pub returns-in_err-blocks-clause-does : goal.returns-in_err-blocks-clause-does
returns-in_err-blocks-clause-does g c =
    let p = err_from_is_err_and c.from_residual.result c.from_residual.ensures.1 in
    rw (p.1, p.2) (not_done _ _ _)

pub returns-in_err-letter-clause-does : goal.returns-in_err-letter-clause-does
returns-in_err-letter-clause-does g c =
    let p = err_from_is_err_and c.from_residual-in_err-letter.result c.from_residual-in_err-letter.ensures.1 in
    rw (p.1, p.2) (not_done _ _ _)

pub returns-in_err-device-clause-does : goal.returns-in_err-device-clause-does
returns-in_err-device-clause-does g c =
    let p = err_from_is_err_and c.from_residual-in_err-device.result c.from_residual-in_err-device.ensures.1 in
    rw (p.1, p.2) (not_done _ _ _)

pub returns-clause-does : goal.returns-clause-does
returns-clause-does g c =
    let blocks = c.in_ok-blocks.ensures in
    let letter = c.in_ok-letter.ensures in
    let device = c.in_ok-device.ensures in
    let does = rw (blocks, letter, device) at c.in_ok-say_message.ensures in
    refused_so _ _ _ _ _ does
