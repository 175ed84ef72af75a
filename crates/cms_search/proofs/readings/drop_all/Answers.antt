use Rattle.std.proofs.Common.{◌≡◌, ◌<◌, ◌∙◌, ◌+◌, suc, length, arith}
use Rattle.std.proofs.lemmas.Grind.{common_steps}
use Rattle.std.proofs.lemmas.List.{length-set}
use Rattle.cms_search.specs.Tables.{unread_seat}
use Rattle.cms_search.proofs.Unread.{map_more}
use Rattle.cms_search.proofs.readings.drop_all.Goals as goal

pub loop-letter-preserved : goal.loop-letter-preserved
loop-letter-preserved c =
    let xs = c.args.seats.now.items in
    let now = c.loop-letter.seats.items in
    let k = c.loop-letter.letter in
    let long = c.loop-letter.invariant.long in
    let done = c.loop-letter.invariant.done in
    let test = c.loop-letter-test.true in
    let end = c.len-letter-end.ensures in
    let less : k < length xs = grind (arith, common_steps, test, end) in
    let more = map_more unread_seat k xs less in
    let at : k + 1 ≡ suc k = omega arith in
    let set = c.drop_reading.ensures in
    rw set (record { long = length-set now k _ ∙ long; done = rw (done, at) more })
