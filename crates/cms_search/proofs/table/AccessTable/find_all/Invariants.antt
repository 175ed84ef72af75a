use Rattle.std.proofs.Common.{◌≡◌, take}
use Rattle.std.specs.List.{flat_map}
use Rattle.cms_search.specs.Searches.{found_on, fitting}
use Rattle.cms_search.specs.Tables.{shelves_of}
use Rattle.cms_search.proofs.table.AccessTable.find_all.Given as goal

abbrev pub invariant-loop-letter : goal.invariant-loop-letter
invariant-loop-letter l = l.found ≡ flat_map (λ n. found_on (shelves_of l.self) l.mode (fitting l.file l.kind) n) (take l.letter-index l.letter-items)
