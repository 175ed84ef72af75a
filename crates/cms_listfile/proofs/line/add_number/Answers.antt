use Rattle.std.proofs.Common.{◌∙◌, arith}
use Rattle.std.proofs.lemmas.Result.{on_ok_weaker}
use Rattle.cms_listfile.proofs.ShortLines.{number_added}
use Rattle.cms_listfile.proofs.line.add_number.Goals as goal

pub returns-clause-short : goal.returns-clause-short
returns-clause-short c =
    on_ok_weaker c.add_right.result
    (λ is. number_added c.args.line.now.items c.add_right.new.line.items c.bytes.result.now c.args.width c.args.number (omega arith) c.requires
    (c.bytes.ensures.bytes ∙ c.in_ok-digits.ensures) is) c.add_right.ensures
