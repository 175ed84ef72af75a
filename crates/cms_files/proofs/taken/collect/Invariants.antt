use Rattle.std.proofs.Common.{◌≡◌, ◌≤◌, All, take, map}
use Rattle.std.specs.List.{filter}
use Rattle.cms_search.specs.Tables.{listed_held}
use Rattle.cms_files.specs.Files.{is_taken}
use Rattle.cms_files.proofs.taken.collect.Given as goal

abbrev pub invariant-loop-place : goal.invariant-loop-place
invariant-loop-place l = record {
  taken : l.files ≡ filter (is_taken l.names l.number) (take l.place (map listed_held l.disk.volume.files));
  numbers : All (λ f. f.number ≤ 6) l.files;
}
