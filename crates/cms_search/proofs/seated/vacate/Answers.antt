use Rattle.std.proofs.Common.{◌<◌, ◌∙◌, length, sym, arith}
use Rattle.std.specs.Prelude.{◌==◌}
use Rattle.std.proofs.lemmas.Grind.{common_steps}
use Rattle.std.proofs.lemmas.List.{length-set}
use Rattle.cms_search.proofs.Tables.{keeps, vacates}
use Rattle.cms_search.proofs.seated.vacate.Goals.{then-is_of_unit, else-is_of_unit}
use Rattle.cms_search.proofs.seated.vacate.Goals as goal

pub loop-letter-preserved : goal.loop-letter-preserved
loop-letter-preserved c =
    let xs = c.args.seats.now.items in
    let now = c.loop-letter.seats.items in
    let k = c.loop-letter.letter in
    let long = c.loop-letter.invariant.long in
    let done = c.loop-letter.invariant.done in
    let test = c.loop-letter-test.true in
    let end = c.len-letter-end.ensures in
    let less : k < length xs = grind (arith, common_steps, test, end) in
    let says = c.is_of_unit.ensures in
    let value = c.deref.ensures.value in
    let tells = rw value at says in
    elim c.if-is_of_unit.branch [
      | then-is_of_unit w ↦
          let e = w.seats-is in
          let r = sym tells ∙ w.if-is_of_unit.true in
          rw (e, w.clear.ensures) (record { long = length-set now k _ ∙ long; done = vacates (λ s. s.letter.unit == c.args.unit) xs now k done less r })
      | else-is_of_unit w ↦
          let e = w.seats-is in
          let r = sym tells ∙ w.if-is_of_unit.false in
          rw e (record { long = long; done = keeps (λ s. s.letter.unit == c.args.unit) xs now k done less r })
    ]
