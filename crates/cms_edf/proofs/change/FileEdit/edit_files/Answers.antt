use Rattle.std.proofs.Common.{⊎_elim, inl, inr}
use Rattle.indexmap.specs.IndexMap.{values}
use Rattle.cms_held.specs.HeldVolumes.{names_in}
use Rattle.cms_edf.proofs.PlanParts.{not_named}
use Rattle.cms_edf.proofs.Planned.{files_left}
use Rattle.cms_edf.proofs.change.FileEdit.edit_files.Goals as goal

-- a name that has no place is none of the files' names
pub rename_file-requires-clause-free : goal.rename_file-requires-clause-free
rename_file-requires-clause-free c =
    let may = rw c.in-Rename.is at c.requires.may in
    ⊎_elim (λ none. inl (not_named c.in-Rename.to (names_in (values c.args.files.now)) none)) (λ own. inr own) may.2

pub returns-in-Drop-clause-files : goal.returns-in-Drop-clause-files
returns-in-Drop-clause-files c = λ x done.
    files_left (values c.args.files.now) c.args.self.now _ x done (rw c.in-Drop.is (λ f. c.drop_file.ensures.files f))

pub returns-in-Rename-clause-files : goal.returns-in-Rename-clause-files
returns-in-Rename-clause-files c = λ x done.
    files_left (values c.args.files.now) c.args.self.now _ x done (rw c.in-Rename.is (λ f there. c.rename_file.ensures.files f there))

pub returns-in-Century-clause-files : goal.returns-in-Century-clause-files
returns-in-Century-clause-files c = λ x done.
    files_left (values c.args.files.now) c.args.self.now _ x done (rw c.in-Century.is c.move_stamps.ensures.files)
