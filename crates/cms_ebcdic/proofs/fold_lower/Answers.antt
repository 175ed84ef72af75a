use Rattle.std.proofs.Common.{◌≡◌, ◌∙◌, true, false, sym, arith}
use Rattle.cms_ebcdic.specs.CodePage.{is_capital}
use Rattle.cms_ebcdic.proofs.Tables.{lower_by_runs}
use Rattle.cms_ebcdic.proofs.fold_lower.Goals as goal

pub returns-then-is_capital_letter : goal.returns-then-is_capital_letter
returns-then-is_capital_letter c =
    let by = lower_by_runs c.args.byte (omega arith) in
    let yes : is_capital c.args.byte ≡ true = sym c.is_capital_letter.ensures ∙ c.if-is_capital_letter.true in
    sym (rw yes at by)

pub returns-else-is_capital_letter : goal.returns-else-is_capital_letter
returns-else-is_capital_letter c =
    let by = lower_by_runs c.args.byte (omega arith) in
    let otherwise : is_capital c.args.byte ≡ false = sym c.is_capital_letter.ensures ∙ c.if-is_capital_letter.false in
    sym (rw otherwise at by)
