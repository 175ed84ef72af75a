use Rattle.cms_model.proofs.ItemsTold.{told_are_sure}
use Rattle.cms_model.proofs.ItemsWhole.{whole_by_lines}
use Rattle.cms_model.proofs.machine_laws.laws_of_items.Goals as goal

pub returns-clause-told : goal.returns-clause-told
returns-clause-told c = told_are_sure

pub returns-clause-whole : goal.returns-clause-whole
returns-clause-whole c = whole_by_lines
