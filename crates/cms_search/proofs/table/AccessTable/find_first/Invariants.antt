use Rattle.std.proofs.Common.{◌≡◌, drop}
use Rattle.cms_search.specs.Searches.{first_placed, placed_on}
use Rattle.cms_search.specs.Tables.{shelves_of}
use Rattle.cms_search.proofs.table.AccessTable.find_first.Given as goal

abbrev pub invariant-loop-letter : goal.invariant-loop-letter
invariant-loop-letter l =
    first_placed (λ n. placed_on (shelves_of l.self) l.mode l.name n) l.letter-items
    ≡ first_placed (λ n. placed_on (shelves_of l.self) l.mode l.name n) (drop l.letter-index l.letter-items)
