use Rattle.std.proofs.Common.{◌≡◌, ◌≤◌, drop}
use Rattle.cms_words.specs.Numbers.{decimal_from}
use Rattle.cms_words.proofs.numbers.decimal.Given as goal

abbrev pub invariant-loop-digit : goal.invariant-loop-digit
invariant-loop-digit l = record { small : l.count ≤ l.most; value : decimal_from 0 l.digits ≡ decimal_from l.count (drop l.digit-index l.digits) }
