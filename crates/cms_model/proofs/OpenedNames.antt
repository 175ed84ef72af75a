-- The files of an open volume have distinct names.
use Rattle.std.proofs.Common.{◌≡◌, ℕ, ◌+◌, false, List, [], ◌∷◌, None, Ok, sym}
use Rattle.std.proofs.lemmas.Bool.{or_parts}
use Rattle.cms_names.specs.declared.name.Name.{Name}
use Rattle.cms_fields.specs.declared.entry.Entry.{Entry}
use Rattle.cms_model.specs.Trees.{Image}
use Rattle.cms_model.specs.Minidisks.{File, same_name, is_named}
use Rattle.cms_model.specs.Volumes.{Disk, Opened, open_of, minidisk_of, first_twice, files_of}
use Rattle.cms_model.specs.LawsChanges.{NoneNamed, AreDistinct}
use Rattle.cms_model.proofs.Repeats.{if_none}
use Rattle.cms_model.proofs.OpenedVolumes.{open_ok}
use Rattle.cms_model.proofs.ListChanges.{name_differs}

-- none of the files has one of these names
abbrev AllNew : List Name → List File → Type 0
AllNew before [] = Unit {0}
AllNew before (f ∷ fs) = (is_named f.name before ≡ false) × AllNew before fs

new_none : (name : Name) (before : List Name) (fs : List File) → AllNew (name ∷ before) fs → NoneNamed name fs × AllNew before fs
unfolding is_named
new_none name before [] new = (tt, tt)
new_none name before (f ∷ fs) new =
    let both = or_parts (same_name f.name name) (is_named f.name before) new.0 in
    let rest = new_none name before fs new.1 in
    ((λ is. name_differs f.name name both.0 (sym is), rest.0), (both.1, rest.1))

files_distinct : (number : ℕ) (before : List Name) (es : List Entry) (cs : List (List (List ℕ))) → first_twice number before es ≡ None → AreDistinct (files_of es cs) × AllNew before (files_of es cs)
unfolding first_twice files_of
files_distinct number before [] cs e = (tt, tt)
files_distinct number before (x ∷ es) [] e = (tt, tt)
files_distinct number before (x ∷ es) (rs ∷ cs) e =
    let c = if_none (is_named x.name before) number (first_twice (number + 1) (x.name ∷ before) es) e in
    let deeper = files_distinct (number + 1) (x.name ∷ before) es cs c.1 in
    let new = new_none x.name before (files_of es cs) deeper.1 in
    ((new.0, deeper.0), (c.0, new.1))

pub opened_distinct : (disk : Disk) (image : Image) (v : Opened) → open_of disk image ≡ Ok v → AreDistinct (minidisk_of disk v).files
unfolding minidisk_of
opened_distinct disk image v e = (files_distinct 2 [] v.entries v.contents (open_ok disk image v e).names).0
