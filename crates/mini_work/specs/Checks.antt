-- What images are found to be.
use Rattle.std.specs.Prelude.{◌≡◌, ◌⊎◌, ℕ, Bool, true, false, List, [], ◌∷◌, ◌++◌, length, Result, Ok, Err, IfOk, codes}
use Rattle.cms_journal.specs.Told.{Told}
use Rattle.cms_journal.specs.declared.event.Access.TheVariants.{ReadOnly}
use Rattle.cms_model.specs.Trees.{image_of}
use Rattle.cms_model.specs.Volumes.{Opened, disk_of, open_of}
use Rattle.cms_model.specs.declared.fault.OpenFault.{OpenFault}
use Rattle.cms_model.specs.declared.fault.OpenFault.TheVariants as opening
use Rattle.std.specs.Fmt.{decimal}
use Rattle.cms_line.specs.Typed.{TypedTo}
use Rattle.cms_held.specs.HeldVolumes.{HeldVolume, held_of}
use Rattle.mini_work.specs.OpenedImages.{IsAlone, IsNew, IsUnwritten}
use Rattle.mini_work.specs.declared.fault.Fault.{Fault}
use Rattle.mini_work.specs.declared.status.Status.{Status}
use Rattle.mini_work.specs.declared.status.Status.TheVariants as status

-- an image is the only unit, attached to be read, and this volume opens of its blocks
pub record Holds (name : List ℕ) (told : Told) (v : HeldVolume) : Type 0 where
  pub size : ℕ
  pub alone : IsAlone name size ReadOnly told
  pub opened : Opened
  pub opens : open_of (disk_of alone.unit) (image_of alone.unit.start) ≡ Ok opened
  pub held : v ≡ held_of 0 (disk_of alone.unit) (image_of alone.unit.start) opened

-- or its blocks fail this test
pub record Fails (name : List ℕ) (told : Told) (why : OpenFault) : Type 0 where
  pub size : ℕ
  pub alone : IsAlone name size ReadOnly told
  pub fails : open_of (disk_of alone.unit) (image_of alone.unit.start) ≡ Err why

-- what was found is a test that the blocks fail, and no failure to read them
abbrev pub is_test : OpenFault → Bool
is_test opening.Device = false
is_test opening.Memory = false
is_test (opening.Label k) = true
is_test (opening.Entry n k) = true
is_test (opening.Pointer holder value) = true
is_test (opening.Crossed n) = true
is_test (opening.MapMissing n) = true
is_test (opening.Var n k) = true
is_test (opening.Twice n) = true
is_test (opening.System n) = true

-- it wasn't attached, since it isn't there or shows no one size of blocks, or no volume opens of its blocks
abbrev pub IsShut : List ℕ → Told → Type 0
IsShut name told = IsNew told ⊎ ((why : OpenFault) × Fails name told why)

-- a text was typed, where that ended well
abbrev pub Shows : Told → Told → List ℕ → Result Status Fault → Type 0
Shows old new text r = IfOk r (λ s. (s ≡ status.Done) × TypedTo old new text [])

-- an image is looked into: it is refused, where it isn't there, shows no one size, or no volume opens of its blocks; or one does, and a
-- text of it was typed; or that was cut off
pub data IsShowing (name : List ℕ) (text : HeldVolume → List ℕ) (told : Told) (r : Result Status Fault) : Type 0 where
  shut : IsShut name told → r ≡ Ok status.Refused → IsShowing name text told r
  sound : (start : Told) (v : HeldVolume) → Holds name start v → TypedTo start told (text v) [] → r ≡ Ok status.Done
      → IsShowing name text told r
  failed : IsUnwritten told → IfOk r (λ s. ⊥) → IsShowing name text told r

-- IMAGE: sound, F files, L blocks lost
abbrev pub sound_line : List ℕ → ℕ → ℕ → List ℕ
sound_line name files lost = name ++ (codes ": sound, " ++ (decimal files ++ (codes " files, " ++ (decimal lost ++ (codes " blocks lost" ++ 10 ∷ [])))))

-- that line for a volume as it is held
abbrev pub sound_text : List ℕ → HeldVolume → List ℕ
sound_text name v = sound_line name (length v.files) v.lost
