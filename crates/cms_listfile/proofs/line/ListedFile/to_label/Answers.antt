use Rattle.cms_listfile.proofs.Lines.{label_added}
use Rattle.cms_listfile.proofs.line.ListedFile.to_label.Goals as goal

pub returns-clause-text : goal.returns-clause-text
returns-clause-text c =
    label_added c.args.years c.args.self.now c.in_ok-line.line.items c.add_text.new.line.items c.in_ok-line.ensures.text
    c.in_ok-add_text.ensures.text
