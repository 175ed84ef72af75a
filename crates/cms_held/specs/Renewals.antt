-- A volume as it is held is renewed by an update: its files, the blocks that it gives back and takes, and its directory, map and label.
use Rattle.std.specs.Prelude.{ℕ, ◌+◌, ◌-◌, Bool, false, List, [], ◌∷◌, ◌++◌, length, map, slice_set, swap_remove, nat_le, if◌then◌else◌}
use Rattle.cms_names.specs.declared.name.Name.{Name}
use Rattle.cms_fields.specs.declared.label.Label.{Label}
use Rattle.cms_fields.specs.declared.entry.Entry.{Entry}
use Rattle.cms_model.specs.Changes.{stamp_moved}
use Rattle.cms_model.specs.DirectoryParts.{all_entries, directory_taken}
use Rattle.cms_model.specs.Sizes.{map_size}
use Rattle.cms_map.specs.Bits.{free_blocks}
use Rattle.cms_held.specs.HeldVolumes.{HeldTree, HeldFile, HeldVolume}
use Rattle.cms_held.specs.Systems.{Systems}

-- ---- the files

-- the blocks of a tree
abbrev pub blocks_in : HeldTree → List ℕ
blocks_in t = t.leaves ++ t.pointers

-- the entries of files
abbrev pub entries_held : List HeldFile → List Entry
entries_held files = map (λ f. f.entry) files

-- what an update does to the files: those after it, the numbers of the directory's entries that it makes anew, the blocks of a file's
-- tree that it gives back, and those that it takes for a file
pub record Edit : Type 0 where
  pub files : List HeldFile
  pub made : List ℕ
  pub given : List ℕ
  pub taken : List ℕ

-- the numbers of the entries that are made anew where one of so many files, at a place, goes, and where it is another: the directory's
-- own is the first, and that of the first file has number 2
abbrev pub made_without : ℕ → ℕ → List ℕ
made_without place files = 0 ∷ (place + 2) ∷ (files - 1 + 2) ∷ []

-- and where it is another, or is added there
abbrev pub made_at : ℕ → List ℕ
made_at place = 0 ∷ (place + 2) ∷ []

-- the file at a place goes, and the last takes its place
abbrev pub dropping : List HeldFile → ℕ → HeldFile → Edit
dropping files place f = record {
  files = swap_remove files place f;
  made = made_without place (length files);
  given = blocks_in f.tree;
  taken = [];
}

-- a file with another name and mode number
abbrev pub renamed : Name → ℕ → HeldFile → HeldFile
renamed name number f = record f { entry = record f.entry { name = name; number = number } }

-- the file at a place has another name and mode number
abbrev pub renaming : List HeldFile → ℕ → HeldFile → Name → ℕ → Edit
renaming files place f name number = record {
  files = slice_set files place (renamed name number f);
  made = made_at place;
  given = [];
  taken = [];
}

-- an entry whose stamp is moved where it lies before a pivot
abbrev pub moved_entry : ℕ → Entry → Entry
moved_entry pivot e = record e { stamp = stamp_moved pivot e.stamp }

-- a file with such an entry
abbrev pub moved_file : ℕ → HeldFile → HeldFile
moved_file pivot f = record f { entry = moved_entry pivot f.entry }

-- the stamps of all files are moved: every entry is made anew, in its place
abbrev pub moving : List HeldFile → ℕ → Edit
moving files pivot = record { files = map (moved_file pivot) files; made = all_entries (length files); given = []; taken = [] }

-- ---- the blocks

-- the map with these blocks free; blocks 1 to 5 stay in use
unfoldable pub with_freed : List ℕ → List Bool → List Bool
with_freed [] bits = bits
with_freed (n ∷ ns) bits = with_freed ns (if nat_le 6 n then slice_set bits (n - 1) false else bits)

-- the free blocks that a directory of so many files and the map need, where these entries are made anew; the map is charged whole
abbrev pub needed : HeldVolume → ℕ → List ℕ → ℕ
needed v files made = directory_taken v.disk.bsize (length v.files) files made + map_size v.disk.bsize v.label.blocks

-- the label for a map: the directory begins in the other one of blocks 4 and 5, and what isn't free is in use
abbrev pub label_for : Label → List Bool → Label
label_for label bits = record label { origin = 9 - label.origin; in_use = label.blocks - length (free_blocks bits) }

-- the volume after it
abbrev pub renewed : HeldVolume → Edit → Systems → HeldVolume
renewed v edit s = record v {
  label = s.label;
  label_bytes = s.label_bytes;
  directory = s.directory;
  map = s.map;
  bits = s.bits;
  files = edit.files;
}
