use Rattle.std.proofs.Common.{sym, ◌∙◌}
use Rattle.std.proofs.lemmas.Option.{same_Some}
use Rattle.cms_disk_tests.proofs.shared_blocks.add.Goals as goal

pub append-requires-clause-fits : goal.append-requires-clause-fits
append-requires-clause-fits c = λ k info there is.
    let place = sym c.find.ensures ∙ c.in-Some.is in
    let same_place = same_Some c.in-Some.place k (sym place ∙ there) in
    let same_told = same_Some c.info-info.result info (sym c.info-info.ensures.info ∙ rw same_place is) in
    rw (sym same_told) (c.may_follow.ensures c.if-not-may_follow.false)
