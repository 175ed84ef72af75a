use Rattle.exec2_parse.proofs.Splits.{keeps_plain, replaces_from_the_right}
use Rattle.exec2_parse.proofs.expansion.expansion_laws.Goals as goal

pub returns-clause-plain : goal.returns-clause-plain
returns-clause-plain c = keeps_plain

pub returns-clause-last : goal.returns-clause-last
returns-clause-last c = replaces_from_the_right
