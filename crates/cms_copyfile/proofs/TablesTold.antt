-- What a table tells of the files that COPYFILE meets.
use Rattle.std.proofs.Common.{◌≡◌, ◌+◌, ◌-◌, ◌≤◌, ℕ, zero, suc, Bool, true, false, List, [], ◌∷◌, Some, None, map, min, refl, sym, slice_get, arith}
use Rattle.std.specs.Prelude.{IfSome, IsSome, Option, if◌then◌else◌, unwrap_or}
use Rattle.std.specs.Option.{option_and_then, option_map, option_map_or}
use Rattle.cms_names.specs.declared.name.Name.{Name}
use Rattle.cms_fields.specs.Limits.{longest_record}
use Rattle.cms_fields.specs.Stamps.{is_stamp}
use Rattle.cms_fields.specs.declared.time.Stamp.{Stamp}
use Rattle.cms_held.specs.HeldVolumes.{HeldFile, HeldVolume}
use Rattle.cms_edf.specs.FilesTold.{info_of, infos_in, stored_in}
use Rattle.cms_edf.specs.declared.held.FileInfo.{FileInfo}
use Rattle.cms_disk.specs.Disks.{IsFileInfo, place_of}
use Rattle.cms_search.specs.Searches.{item_at}
use Rattle.cms_search.specs.Tables.{AccessTable, Seated}
use Rattle.cms_files.specs.Told.{info_named, stored_named}
use Rattle.cms_copyfile.specs.FileCopies.{form_in}
use Rattle.cms_operands.specs.declared.operand.WriteMode.{WriteMode}
use Rattle.cms_copyfile.specs.Lines.{IsCopyStyle, IsOutputMode}
use Rattle.cms_copyfile.specs.Outputs.{extended, form_for, number_for, stamp_for, wanted_of}
use Rattle.cms_copyfile.specs.declared.line.CopyStyle.{CopyStyle}
use Rattle.cms_copyfile.specs.declared.line.Existing.{Existing}
use Rattle.cms_copyfile.specs.declared.line.Existing.TheVariants.{Extended, Refused, Replaced}

-- ---- how many bytes are stored

-- where a file stands its bytes are told
stored_at : (files : List HeldFile) (k : ℕ) (own : FileInfo) → slice_get (map info_of files) k ≡ Some own → IsSome (slice_get (map (λ (f : HeldFile). f.size) files) k)
stored_at [] k own is = absurd (cc is)
stored_at (f ∷ files) zero own is = refl
stored_at (f ∷ files) (suc k) own is = stored_at files k own is

stored_in_place : (v : HeldVolume) (p : Option ℕ) (own : FileInfo) → option_and_then (λ place. slice_get (infos_in v) place) p ≡ Some own
    → IsSome (option_and_then (λ place. slice_get (stored_in v) place) p)
stored_in_place v None own is = absurd (cc is)
stored_in_place v (Some k) own is = stored_at v.files k own is

stored_on : (x : Option Seated) (name : Name) (own : FileInfo)
    → option_and_then (λ s. option_and_then (λ place. slice_get (infos_in s.disk.volume) place) (place_of name s.disk.volume)) x ≡ Some own
    → IsSome (option_and_then (λ s. option_and_then (λ place. slice_get (stored_in s.disk.volume) place) (place_of name s.disk.volume)) x)
stored_on None name own is = absurd (cc is)
stored_on (Some s) name own is = stored_in_place s.disk.volume (place_of name s.disk.volume) own is

pub stored_there : (t : AccessTable) (n : ℕ) (name : Name) (own : FileInfo) → Some own ≡ info_named t n name → IsSome (stored_named t n name)
stored_there t n name own is = stored_on (item_at t.seats n) name own (sym is)

-- ---- how long records are, and how many are copied

pub extended_sound : (existing : Existing) (there : Option FileInfo) → IfSome there IsFileInfo → IfSome (extended existing there) IsFileInfo
extended_sound Extended there sound = sound
extended_sound Refused there sound = tt
extended_sound Replaced there sound = tt

-- in the format that a copy gets they are short
pub short_into : (style : CopyStyle) (input : FileInfo) (own : Option FileInfo) → IsCopyStyle style → IsFileInfo input → IfSome own IsFileInfo
    → (form_for style (form_in input) (option_map form_in own)).length ≤ longest_record
short_into style input (Some own) is sound there = there.short
short_into style input None is sound there = either style.length is.length
  where
    either : (o : Option ℕ) → IfSome o (λ n. (1 ≤ n) × (n ≤ longest_record)) → unwrap_or o input.length ≤ longest_record
    either None x = sound.short
    either (Some n) x = x.1

-- and of some length
pub some_into : (style : CopyStyle) (input : FileInfo) (own : Option FileInfo) → IsCopyStyle style → IsFileInfo input → IfSome own IsFileInfo
    → 1 ≤ (form_for style (form_in input) (option_map form_in own)).length
some_into style input (Some own) is sound there = there.some
some_into style input None is sound there = either style.length is.length
  where
    either : (o : Option ℕ) → IfSome o (λ n. (1 ≤ n) × (n ≤ longest_record)) → 1 ≤ unwrap_or o input.length
    either None x = sound.some
    either (Some n) x = x.0

pub wanted_few : (style : CopyStyle) (count : ℕ) → wanted_of style count ≤ count
wanted_few style count = either style.most
  where
    either : (o : Option ℕ) → option_map_or (λ most. min (style.first - 1 + most) count) o count ≤ count
    either None = omega arith
    either (Some most) = omega arith

-- ---- the number and the stamp of a copy

pub number_few : (mode : Option WriteMode) (input : ℕ) (there : Option FileInfo) → IsOutputMode mode → input ≤ 6 → IfSome there IsFileInfo
    → number_for mode input (option_map (λ (i : FileInfo). i.number) there) ≤ 6
number_few mode input (Some own) is low sound = sound.number
number_few None input None is low sound = low
number_few (Some m) input None is low sound = either m.number is
  where
    either : (o : Option ℕ) → IfSome o (λ n. n ≤ 6) → unwrap_or o input ≤ 6
    either None x = low
    either (Some n) x = x

pub stamp_valid : (style : CopyStyle) (input turn : Stamp) → is_stamp input ≡ true → is_stamp turn ≡ true → is_stamp (stamp_for style input turn) ≡ true
stamp_valid style input turn own now = either style.old_stamp
  where
    either : (b : Bool) → is_stamp (if b then input else turn) ≡ true
    either true = own
    either false = now
