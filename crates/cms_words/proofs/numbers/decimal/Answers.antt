use Rattle.std.proofs.Common.{arith, sym, ap, ◌∙◌}
use Rattle.cms_words.specs.Numbers.{up_to}
use Rattle.cms_words.proofs.NumberLemmas.{digit_goes_on, digit_goes_too_far}
use Rattle.cms_words.proofs.numbers.decimal.Goals as goal

pub loop-digit-preserved : goal.loop-digit-preserved
loop-digit-preserved c =
    let next = digit_goes_on c.loop-digit.count c.loop-digit.digit-index 0 c.args.digits.now c.loop-digit-test.true (sym c.is_digit.ensures.digit ∙ c.if-not-is_digit.false) in
    record { small = omega arith; value = cc }

pub returns-then-count-most-clause-value : goal.returns-then-count-most-clause-value
returns-then-count-most-clause-value c =
    sym (ap (up_to c.args.most) c.loop-digit.invariant.value ∙ digit_goes_too_far c.args.most c.loop-digit.count c.loop-digit.digit-index 0 c.args.digits.now c.loop-digit-test.true
    (sym c.is_digit.ensures.digit ∙ c.if-not-is_digit.false) (omega arith))
