-- What a host shows of its files.
use Rattle.std.specs.Prelude.{ℕ, Bool, false, if◌then◌else◌, List, [], ◌∷◌, ◌++◌, drop, reverse, find, Option, None, Some, is_some}
use Rattle.std.specs.List.{list_any}
use Rattle.std.specs.Option.{option_map}
use Rattle.std.specs.Str.{bytes_eq}
use Rattle.mini_host.specs.declared.content.Draft.{Draft}
use Rattle.mini_host.specs.declared.content.HostFile.{HostFile}
use Rattle.mini_host.specs.declared.note.Note.{Note}

-- the files, of which the last of a name stands; the folders; what is left of the file that is open; the file that is written
-- beside the one whose name it is to have; and what was said
pub record Files : Type 0 where
  pub files : List HostFile
  pub folders : List (List ℕ)
  pub left : Option (List ℕ)
  pub draft : Option Draft
  pub notes : List Note

-- what the file of a name holds: that which came last
unfoldable pub content_of : List ℕ → List HostFile → Option (List ℕ)
content_of name files = option_map (λ f. f.content) (find (λ f. bytes_eq f.name name) (reverse files))

-- a folder is there
unfoldable pub is_folder : List ℕ → Files → Bool
is_folder name f = list_any (λ folder. bytes_eq folder name) f.folders

-- a file is open, before its first byte
abbrev pub opened : List ℕ → Files → Files
opened name f = record {
  files = f.files;
  folders = f.folders;
  left = content_of name f.files;
  draft = f.draft;
  notes = f.notes;
}

-- so many bytes of it were read
abbrev pub read_on : ℕ → Files → Files
read_on n f = record {
  files = f.files;
  folders = f.folders;
  left = option_map (λ bytes. drop n bytes) f.left;
  draft = f.draft;
  notes = f.notes;
}

-- this is what is written
abbrev pub drafted : Option Draft → Files → Files
drafted draft f = record {
  files = f.files;
  folders = f.folders;
  left = f.left;
  draft = draft;
  notes = f.notes;
}

-- a file with no bytes yet
abbrev pub begun : List ℕ → Bool → Files → Files
begun name over f = drafted (Some (record { file = record { name = name; content = [] }; over = over })) f

-- with more bytes behind those that it has
abbrev pub with_more : List ℕ → Draft → Draft
with_more more d = record { file = record { name = d.file.name; content = d.file.content ++ more }; over = d.over }

-- these bytes come behind those of what is written
abbrev pub written : List ℕ → Files → Files
written more f = drafted (option_map (with_more more) f.draft) f

-- there is a file under a name where none may be put
abbrev pub is_taken : List ℕ → Bool → List HostFile → Bool
is_taken name over files = if over then false else is_some (content_of name files)

-- what is written is whole, and has its name
abbrev pub named : Option Draft → Files → Files
named None f = f
named (Some d) f = record {
  files = f.files ++ d.file ∷ [];
  folders = f.folders;
  left = f.left;
  draft = None;
  notes = f.notes;
}

-- the same of what the host writes, if it writes something
abbrev pub kept : Files → Files
kept f = named f.draft f

-- a note was said
abbrev pub noted : Note → Files → Files
noted note f = record {
  files = f.files;
  folders = f.folders;
  left = f.left;
  draft = f.draft;
  notes = f.notes ++ note ∷ [];
}
