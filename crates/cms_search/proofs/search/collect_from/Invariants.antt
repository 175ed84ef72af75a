use Rattle.std.proofs.Common.{◌≡◌, ◌++◌, take, map}
use Rattle.cms_search.specs.Searches.{found_at, is_found, fitting, places_where}
use Rattle.cms_search.specs.Tables.{listed_held}
use Rattle.cms_search.proofs.search.collect_from.Given as goal

abbrev pub invariant-loop-place : goal.invariant-loop-place
invariant-loop-place l =
    l.found ≡ l.initial.found ++ map (λ k. found_at l.letter k)
    (places_where (is_found l.mode (fitting l.file l.kind) l.seat.letter) (take l.place (map listed_held l.seat.disk.volume.files)))
