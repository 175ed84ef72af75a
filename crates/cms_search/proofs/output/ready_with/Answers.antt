use Rattle.std.proofs.Common.{arith, ◌<ℤ◌, pos, w32}
use Rattle.std.proofs.lemmas.Int.{ints, to_z-of_z}
use Rattle.cms_search.proofs.Ready.{places_from, places_signed, ready_from}
use Rattle.cms_search.proofs.output.ready_with.Goals.{then-code-lt0, else-code-lt0}
use Rattle.cms_search.proofs.output.ready_with.Goals as goal

pub returns : goal.returns
returns c =
    let same = to_z-of_z w32 c.args.code c.ranges.code in
    let value = rw same at c.unsigned_abs-number.ensures.value in
    let a = c.digit-2.ensures in
    let b = c.digit-3.ensures in
    let d = c.digit-4.ensures in
    let e = c.digit-5.ensures in
    elim c.if-code-lt0.branch [
      | then-code-lt0 w ↦
          let t = rw same at w.if-code-lt0.true in
          let less : c.args.code <ℤ pos 0 = grind (arith, ints, t) in
          let first = w.result-is in
          rw (first, a, b, d, e) (ready_from c.args.code _ (places_signed c.args.code c.unsigned_abs-number.result value less))
      | else-code-lt0 w ↦
          let t = rw same at w.if-code-lt0.false in
          let least : c.args.code <ℤ pos 0 → ⊥ = λ less. grind (arith, ints, t, less) in
          let first = w.result-is in
          let digit = w.digit.ensures in
          rw (first, digit, a, b, d, e) (ready_from c.args.code _ (places_from c.args.code c.unsigned_abs-number.result value least))
    ]
