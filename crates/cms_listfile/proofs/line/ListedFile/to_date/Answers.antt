use Rattle.cms_listfile.proofs.line.ListedFile.to_date.Goals as goal

pub returns-in-Short-clause-text : goal.returns-in-Short-clause-text
returns-in-Short-clause-text c = rw c.in-Short.is c.to_short_date.ensures.text

pub returns-in-Whole-clause-text : goal.returns-in-Whole-clause-text
returns-in-Whole-clause-text c = rw c.in-Whole.is c.to_whole_date.ensures.text
