use Rattle.std.proofs.lemmas.Result.{err_from_is_err_and}
use Rattle.cms_search.proofs.Says.{not_done}
use Rattle.cms_files.proofs.Found.{part_is_short}
use Rattle.cms_files.proofs.refusals.refuse_exists.Goals as goal

pub of-requires : goal.of-requires
of-requires g c = let is = c.as_bytes.ensures.value in rw is (part_is_short _ c.as_bytes.ensures.part)

pub of-requires-2 : goal.of-requires-2
of-requires-2 g c = let is = c.as_bytes-2.ensures.value in rw is (part_is_short _ c.as_bytes-2.ensures.part)

pub returns-in_err-file-clause-does : goal.returns-in_err-file-clause-does
returns-in_err-file-clause-does g c =
    let p = err_from_is_err_and c.from_residual.result c.from_residual.ensures.1 in
    rw (p.1, p.2) (not_done _ _ _)

pub returns-in_err-kind-clause-does : goal.returns-in_err-kind-clause-does
returns-in_err-kind-clause-does g c =
    let p = err_from_is_err_and c.from_residual-in_err-kind.result c.from_residual-in_err-kind.ensures.1 in
    rw (p.1, p.2) (not_done _ _ _)
