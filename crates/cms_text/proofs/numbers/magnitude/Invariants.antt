use Rattle.std.proofs.Common.{◌≡◌, ◌<◌, ◌^◌, take, true}
use Rattle.std.specs.List.{list_all}
use Rattle.cms_text.specs.Numbers.{is_digit, value_of}
use Rattle.cms_text.proofs.numbers.magnitude.Given as goal

abbrev pub invariant-loop-digit : goal.invariant-loop-digit
invariant-loop-digit l = record {
  digits : list_all is_digit (take l.digit-index l.digits) ≡ true;
  value : l.value ≡ value_of (take l.digit-index l.digits);
  small : l.value < 10 ^ l.digit-index;
}
