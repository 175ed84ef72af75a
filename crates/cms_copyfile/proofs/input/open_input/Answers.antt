use Rattle.std.proofs.Common.{◌∙◌, ap, subst, sym}
use Rattle.cms_names.specs.declared.name.Name.{Name}
use Rattle.cms_search.specs.declared.search.Found.{Found}
use Rattle.cms_disk.proofs.FilesFound.{ok_maps}
use Rattle.cms_files.specs.OpenFiles.{IsOpened}
use Rattle.cms_files.specs.Told.{IsFoundAt, info_found}
use Rattle.cms_files.specs.declared.open_files.OpenFile.{OpenFile}
use Rattle.cms_files.proofs.FoundTold.{placed_named, same_info}
use Rattle.cms_copyfile.specs.FileCopies.{input_at}
use Rattle.cms_copyfile.proofs.input.open_input.Goals as goal

pub open_found-requires : goal.open_found-requires
open_found-requires c =
    let t = c.args.table.now in
    let f = c.args.file.now in
    let here = placed_named t f.found.letter f.found.name f.place (sym c.requires.place) in
    record { told = ap (λ (x : Found). info_found t x) c.at.ensures ∙ (same_info t (input_at f) f.found.name here ∙ sym c.requires.told) }

pub returns-clause-opened : goal.returns-clause-opened
returns-clause-opened c =
    let t = c.args.table.now in
    let f = c.args.file.now in
    let here = placed_named t f.found.letter f.found.name f.place (sym c.requires.place) in
    ok_maps (λ (x : OpenFile). (name : Name) → IsFoundAt t c.at.result name → IsOpened t c.at.result.letter name x) (IsOpened t f.found.letter f.found.name) c.open_found.result
    (λ x opened. subst (λ (y : Found). IsFoundAt t y f.found.name → IsOpened t y.letter f.found.name x) c.at.ensures (opened f.found.name) here)
    c.open_found.ensures.opened
