use Rattle.std.proofs.Common.{sym, ◌∙◌, arith}
use Rattle.cms_disk.proofs.Skipped.{is_skippable}
use Rattle.cms_disk_tests.proofs.reads.behind.Goals as goal

pub skip-requires-clause-unread : goal.skip-requires-clause-unread
skip-requires-clause-unread c =
    let place = sym c.find.ensures ∙ c.in-Some.is in
    let is = is_skippable c.args.name.now c.args.disk.now.volume c.in-Some.place c.info-info.result c.in-Ok.cursor c.in-Ok.ensures.start place c.info-info.ensures.info c.in-F.is in
    is.unread

pub skip-requires-clause-few : goal.skip-requires-clause-few
skip-requires-clause-few c =
    let place = sym c.find.ensures ∙ c.in-Some.is in
    let is = is_skippable c.args.name.now c.args.disk.now.volume c.in-Some.place c.info-info.result c.in-Ok.cursor c.in-Ok.ensures.start place c.info-info.ensures.info c.in-F.is in
    let left = is.left in
    let few = c.if-info-count.false in
    omega (arith, left, few)
