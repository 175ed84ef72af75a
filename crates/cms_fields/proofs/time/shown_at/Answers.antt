use Rattle.std.proofs.Common.{◌≡◌, arith, pos, ◌*◌}
use Rattle.std.proofs.lemmas.Int.{ints}
use Rattle.std.proofs.lemmas.Result.{IfOk-at_ok}
use Rattle.cms_fields.proofs.Shown.{shown_is}
use Rattle.cms_fields.proofs.time.shown_at.Goals as goal

pub returns : goal.returns
returns c =
    let at = IfOk-at_ok _ c.unwrap-timestamp.ensures c.from_second.ensures.value in
    let start : c.unwrap-timestamp.result.nanosecond ≡ pos (c.args.seconds * 1_000_000_000) = omega (arith, ints, at, c.from.ensures) in
    shown_is c.args.seconds c.to_datetime.result c.requires (omega (arith, ints, start, c.to_datetime.ensures))
