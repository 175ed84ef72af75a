use Rattle.std.proofs.Common.{refl}
use Rattle.cms_search.proofs.table.AccessTable.settle.Goals as goal

pub seat_on-requires-clause-within : goal.seat_on-requires-clause-within
seat_on-requires-clause-within c = c.requires.within

pub end_doubt-requires : goal.end_doubt-requires
end_doubt-requires c = c.requires.within

pub seat_on-requires-clause-letter : goal.seat_on-requires-clause-letter
seat_on-requires-clause-letter c = c.requires.letter

pub returns-in-Ok-clause-answer : goal.returns-in-Ok-clause-answer
returns-in-Ok-clause-answer c = let is = c.in-Ok.is in rw is refl

pub returns-in-Ok-clause-table : goal.returns-in-Ok-clause-table
returns-in-Ok-clause-table c = let is = c.in-Ok.is in rw is c.seat_on.ensures
