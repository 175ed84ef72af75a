use Rattle.std.proofs.Common.{◌∙◌, ◌∷◌, ◌++◌, List, ℕ, ap}
use Rattle.cms_search.specs.Texts.{left_in}
use Rattle.cms_listfile.specs.declared.columns.Years.TheVariants.{Short}
use Rattle.cms_listfile.proofs.Lines.{date_added}
use Rattle.cms_listfile.proofs.line.ListedFile.to_short_date.Goals as goal

pub returns-clause-text : goal.returns-clause-text
returns-clause-text c =
    date_added Short c.args.self.now c.in_ok-line.line.items c.add_text.new.line.items c.in_ok-line.ensures.text
    (c.in_ok-add_text.ensures.text ∙ ap (λ (t : List ℕ). c.in_ok-line.line.items ++ 0x40 ∷ left_in 17 t) c.short_text.ensures)
