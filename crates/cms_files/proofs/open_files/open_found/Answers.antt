use Rattle.std.proofs.Common.{Option, refl, sym, subst}
use Rattle.std.specs.Prelude.{IsSome}
use Rattle.cms_edf.specs.declared.held.FileInfo.{FileInfo}
use Rattle.cms_search.proofs.Stepped.{if_some}
use Rattle.cms_files.proofs.OpenedFiles.{found_within, opened_found, opened_found_at}
use Rattle.cms_files.proofs.open_files.open_found.Goals as goal

pub cursor_at-requires : goal.cursor_at-requires
cursor_at-requires c =
    let disk = c.unwrap-disk.ensures in
    found_within c.args.table.now c.args.found c.unwrap-disk.result.now (subst (λ (x : Option FileInfo). IsSome x) (sym c.requires.told) refl) (rw disk at c.disk.ensures)

pub returns-in-Ok-clause-opened : goal.returns-in-Ok-clause-opened
returns-in-Ok-clause-opened c = λ name here.
    let disk = c.unwrap-disk.ensures in
    opened_found_at c.args.table.now c.args.found name c.unwrap-disk.result.now c.args.info.now _ here c.requires.told (rw disk at c.disk.ensures) c.in-Ok.ensures.records
    c.in-Ok.ensures.first refl refl (λ s there. if_some _ _ s there c.vdev.ensures.accessed)

pub returns-in-Ok-clause-there : goal.returns-in-Ok-clause-there
returns-in-Ok-clause-there c = λ name s here shows.
    opened_found c.args.table.now s c.args.found.letter name _ (returns-in-Ok-clause-opened c name here) shows
