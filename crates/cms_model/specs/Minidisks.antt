-- Minidisks: named lists of records. Nothing here speaks of blocks but their size and number.
use Rattle.std.specs.Prelude.{ℕ, Bool, false, ◌&&◌, ◌||◌, List, [], ◌∷◌}
use Rattle.cms_names.specs.declared.name.Name.{Name}
use Rattle.cms_names.specs.declared.name.Format.{Format}
use Rattle.cms_fields.specs.declared.time.Stamp.{Stamp}
use Rattle.cms_model.specs.Lists.{same}

-- a file: its name, mode number, format, length (of each record at F, of the longest at V), stamp and records
pub record File : Type 0 where
  pub name : Name
  pub number : ℕ
  pub format : Format
  pub length : ℕ
  pub stamp : Stamp
  pub records : List (List ℕ)

-- a minidisk: its volume id, block size, blocks, blocks that are marked and belong to nothing, and files in order
pub record Minidisk : Type 0 where
  pub volid : List ℕ
  pub bsize : ℕ
  pub total : ℕ
  pub lost : ℕ
  pub files : List File

-- what a unit holds: a minidisk, or none for this reason
pub data State : Type 0 where
  Volume : Minidisk → State
  Not : ℕ → State

-- both parts of two names are the same
unfoldable pub same_name : Name → Name → Bool
same_name a b = same a.file b.file && same a.kind b.kind

-- the name is one of theirs
unfoldable pub is_named : Name → List Name → Bool
is_named name [] = false
is_named name (n ∷ ns) = same_name name n || is_named name ns
