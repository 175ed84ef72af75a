-- Files that are put or added to, as calls do it.
use Rattle.std.proofs.Common.{◌≡◌, ℕ, List, [], ◌∷◌, refl}
use Rattle.cms_names.specs.declared.name.Name.{Name}
use Rattle.cms_search.specs.FileWrites.{change_with}
use Rattle.cms_search.specs.declared.file_write.FileWrite.{FileWrite}
use Rattle.cms_search.specs.declared.file_write.FileWrite.TheVariants as update
use Rattle.cms_files.specs.Updates.{names_of}

-- the update is of the one file
pub names_one : (name : Name) (u : FileWrite) (records : List (List ℕ)) → names_of (change_with name u records) ≡ name ∷ []
names_one name (update.Put file) records = refl
names_one name (update.New file) records = refl
names_one name (update.Append place more) records = refl
