use Rattle.cms_edit.proofs.Folds.{folds_edits}
use Rattle.cms_edit.proofs.laws.laws_of_edits.Goals as goal

pub returns : goal.returns
returns c = folds_edits
