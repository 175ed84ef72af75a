use Rattle.std.proofs.Common.{◌≡◌, ◌∙◌, sym, ap}
use Rattle.std.specs.Prelude.{List, Ok}
use Rattle.cms_disk.proofs.FilesFound.{ok_maps}
use Rattle.cms_search.specs.Machine.{Machine}
use Rattle.cms_search.specs.Searches.{Shelves, fitting, search, shelves_in}
use Rattle.cms_search.specs.Tables.{shelves_of}
use Rattle.cms_search.specs.Shows.{Shows}
use Rattle.cms_search.specs.declared.search.Found.{Found}
use Rattle.cms_search.proofs.Shown.{shelves_shown}
use Rattle.cms_search.proofs.table.AccessTable.matches.Goals as goal

pub returns-clause-machine : goal.returns-clause-machine
returns-clause-machine c =
    let t = c.args.self.now in
    let names = fitting c.args.file.now c.args.kind.now in
    let mode = c.args.mode.now in
    ok_maps (λ (found : List Found). search (shelves_of t) mode names ≡ Ok found)
    (λ (found : List Found). (s : Machine) → Shows t s → search (shelves_in s) mode names ≡ Ok found) c.find_all.result
    (λ found is s shows. ap (λ (x : Shelves). search x mode names) (sym (shelves_shown t s shows)) ∙ is) c.find_all.ensures.found
