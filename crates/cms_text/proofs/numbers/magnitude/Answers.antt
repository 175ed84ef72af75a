use Rattle.std.proofs.Common.{◌≡◌, ◌∙◌, ◌≤◌, ◌-◌, true, length, get_or, arith, rules, sym}
use Rattle.cms_text.specs.Numbers.{is_digit}
use Rattle.cms_text.proofs.Numerals.{digit_fits, digits_more, digits_read, few_small, not_digits, small_more, value_more, wrong_length}
use Rattle.cms_text.proofs.numbers.magnitude.Goals as goal

pub returns-then-not-contains : goal.returns-then-not-contains
returns-then-not-contains c = record { value = sym (wrong_length c.args.most c.args.digits.now (search rules)); small = tt }

pub returns-then-not-is_digit : goal.returns-then-not-is_digit
returns-then-not-is_digit c = record {
  value = sym (not_digits c.args.most c.args.digits.now c.loop-digit.digit-index (search rules) (search rules));
  small = tt;
}

pub overflow_mul-value : goal.overflow_mul-value
overflow_mul-value c =
    let few : length c.args.digits.now ≤ 19 = search rules in
    omega (arith, digit_fits c.loop-digit.value c.loop-digit.digit-index 0 c.loop-digit.invariant.small (omega arith) (omega arith))

pub overflow_add-value : goal.overflow_add-value
overflow_add-value c =
    let few : length c.args.digits.now ≤ 19 = search rules in
    let low : c.from.result ≤ 9 = search rules in
    omega (arith, digit_fits c.loop-digit.value c.loop-digit.digit-index c.from.result c.loop-digit.invariant.small (omega arith) low)

pub returns : goal.returns
returns c =
    let few : length c.args.digits.now ≤ c.args.most = search rules in
    let value = c.loop-digit.value in
    let here = c.loop-digit.digit-index in
    record {
      value = sym (digits_read c.args.most c.args.digits.now here value (search rules) (omega arith) c.loop-digit.invariant.digits c.loop-digit.invariant.value);
      small = few_small c.args.most here value c.loop-digit.invariant.small (omega (arith, few));
    }

pub loop-digit-preserved : goal.loop-digit-preserved
loop-digit-preserved c =
    let digits = c.args.digits.now in
    let l = c.loop-digit in
    let here = c.loop-digit-test.true in
    let digit : is_digit (get_or digits l.digit-index 0) ≡ true = sym c.is_digit.ensures ∙ c.if-not-is_digit.false in
    let value : c.from.result ≡ get_or digits l.digit-index 0 - 0xF0 = c.from.ensures in
    let low : c.from.result ≤ 9 = search rules in
    record {
      digits = digits_more digits l.digit-index here digit l.invariant.digits;
      value = value_more digits l.digit-index l.value c.from.result here value l.invariant.value;
      small = small_more l.digit-index l.value c.from.result l.invariant.small low;
    }
