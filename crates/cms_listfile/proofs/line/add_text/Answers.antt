use Rattle.std.proofs.lemmas.Result.{on_ok_weaker}
use Rattle.cms_listfile.proofs.ShortLines.{text_added}
use Rattle.cms_listfile.proofs.line.add_text.Goals as goal

pub returns-clause-short : goal.returns-clause-short
returns-clause-short c =
    on_ok_weaker c.add_left.result (λ is. text_added c.args.line.now.items c.add_left.new.line.items c.args.text.now c.args.width c.requires is) c.add_left.ensures
