use Rattle.std.proofs.Common.{◌≡◌, ◌≤◌, ◌+◌, ◌++◌, length, take}
use Rattle.cms_search.specs.Searches.{has, is_searched, places_where}
use Rattle.cms_search.specs.Tables.{shelves_of}
use Rattle.cms_search.proofs.table.AccessTable.with_searched.Given as goal

abbrev pub invariant-loop-letter : goal.invariant-loop-letter
invariant-loop-letter l = record {
  short : length l.order ≤ 1 + l.letter;
  done : l.order ≡ l.initial.order ++ places_where (has (is_searched l.base)) (take l.letter (shelves_of l.self));
}
