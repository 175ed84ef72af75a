use Rattle.std.proofs.Common.{◌≡◌, ◌∙◌, true, false, sym, arith}
use Rattle.cms_ebcdic.specs.CodePage.{is_small}
use Rattle.cms_ebcdic.proofs.Tables.{upper_by_runs}
use Rattle.cms_ebcdic.proofs.fold_upper.Goals as goal

pub returns-then-is_small_letter : goal.returns-then-is_small_letter
returns-then-is_small_letter c =
    let by = upper_by_runs c.args.byte (omega arith) in
    let yes : is_small c.args.byte ≡ true = sym c.is_small_letter.ensures ∙ c.if-is_small_letter.true in
    sym (rw yes at by)

pub returns-else-is_small_letter : goal.returns-else-is_small_letter
returns-else-is_small_letter c =
    let by = upper_by_runs c.args.byte (omega arith) in
    let otherwise : is_small c.args.byte ≡ false = sym c.is_small_letter.ensures ∙ c.if-is_small_letter.false in
    sym (rw otherwise at by)
