-- What carrying out an update of a held volume comes to for its minidisk.
use Rattle.std.specs.Prelude.{◌≡◌, ◌⊎◌, ℕ, suc, ◌+◌, ◌<◌, ◌≤◌, true, List, [], ◌∷◌, length, position, slice_get, All, Some, None}
use Rattle.cms_journal.specs.declared.event.Event.{Event}
use Rattle.cms_journal.specs.declared.event.Event.TheVariants.{Missed, Now, Read, Synced, Typed, Wrote}
use Rattle.cms_journal.specs.Journal.{Journal}
use Rattle.cms_names.specs.declared.name.Name.{Name}
use Rattle.cms_fields.specs.Stamps.{is_stamp}
use Rattle.cms_fields.specs.declared.time.Stamp.{Stamp}
use Rattle.cms_model.specs.Minidisks.{Minidisk, Volume, same_name}
use Rattle.cms_model.specs.Changes.{Century, Change, Changed, Drop, Full, Rename, answer_of, changed, need}
use Rattle.cms_model.specs.Settled.{update}
use Rattle.cms_model.specs.Stands.{Layout, minidisk_in}
use Rattle.cms_model.specs.LawsUpdates.{HasEither, IsFront, after, to_label}
use Rattle.cms_map.specs.Bits.{free_blocks}
use Rattle.cms_held.specs.HeldVolumes.{HeldFile, HeldVolume, names_in}
use Rattle.cms_held.specs.Kept.{Keeps}
use Rattle.cms_held.specs.Written.{ReadsBack}
use Rattle.cms_held.specs.Systems.{Systems}
use Rattle.cms_held.specs.Allotments.{IsPlanned}
use Rattle.cms_held.specs.Renewals.{Edit, dropping, entries_held, moving, needed, renaming, renewed}
use Rattle.cms_held.specs.LawsRenewals.{IsHeldAt, later_of, writes_of}

-- at a journal a volume as it is held is this minidisk, and its unit is settled at it
pub record IsHeldMinidisk (j : Journal) (v : HeldVolume) (m : Minidisk) : Type 0 where
  pub layout : Layout
  pub at : IsHeldAt j v layout
  pub minidisk_is : m ≡ minidisk_in v.disk layout

-- the edit of a change: the file of the name goes, or has another name, which no file has or is its own, or the
-- stamps of all files are moved
pub data IsEditOf (v : HeldVolume) : Edit → Change → Type 0 where
  drops : (place : ℕ) (f : HeldFile) → slice_get v.files place ≡ Some f → IsEditOf v (dropping v.files place f) (Drop f.entry.name)
  renames : (place : ℕ) (f : HeldFile) (to : Name) (number : ℕ) → slice_get v.files place ≡ Some f → number ≤ 6
      → (position (same_name to) (names_in v.files) ≡ None) ⊎ (to ≡ f.entry.name)
      → IsEditOf v (renaming v.files place f to number) (Rename f.entry.name to number)
  moves : (pivot : ℕ) → pivot ≤ 100 → IsEditOf v (moving v.files pivot) (Century pivot)

-- an update that was planned for an edit
pub record IsReadyFor (v : HeldVolume) (edit : Edit) (stamp : Stamp) (s : Systems) : Type 0 where
  pub kept : Keeps v
  pub stamped : is_stamp stamp ≡ true
  pub planned : IsPlanned v edit stamp s
  pub back : All ReadsBack (entries_held edit.files)

-- carried out, it is the change: the answer is the new minidisk, at every moment each crash image is the old one or the new, up to the
-- label's write the volume is held as before, and in the end the new one is
pub record Carries (j : Journal) (v : HeldVolume) (edit : Edit) (s : Systems) (m : Minidisk) (change : Change) : Type 0 where
  pub answer : answer_of m change ≡ Changed (changed m change)
  pub either : (p : List Event) → IsFront p (update v.unit (writes_of v s) s.label_bytes)
      → HasEither v.disk (after j p) v.unit (Volume m) (Volume (changed m change))
  pub before : (p : List Event) → IsFront p (to_label v.unit (writes_of v s)) → IsHeldMinidisk (after j p) v m
  pub done : IsHeldMinidisk (later_of j v s) (renewed v edit s) (changed m change)

-- a planned edit, carried out, is the change of the minidisk, whole or absent at every moment
abbrev pub PlannedIsCarried : Type 0
PlannedIsCarried =
    (j : Journal) (v : HeldVolume) (edit : Edit) (stamp : Stamp) (s : Systems) (m : Minidisk) (change : Change) → IsHeldMinidisk j v m
    → IsEditOf v edit change → IsReadyFor v edit stamp s → Carries j v edit s m change

-- where there is no room for the new directory and map, the change is full
abbrev pub LackingIsFull : Type 0
LackingIsFull =
    (j : Journal) (v : HeldVolume) (edit : Edit) (m : Minidisk) (change : Change) → IsHeldMinidisk j v m → IsEditOf v edit change → Keeps v
    → length (free_blocks v.bits) < needed v (length edit.files) edit.made
    → answer_of m change ≡ Full (needed v (length edit.files) edit.made) (length (free_blocks v.bits))

-- ---- how much an update writes

-- how many blocks are written by these events
unfoldable pub written_count : List Event → ℕ
written_count [] = 0
written_count (Wrote u k bytes ∷ events) = suc (written_count events)
written_count (Synced u ∷ events) = written_count events
written_count (Read bytes ∷ events) = written_count events
written_count (Now seconds ∷ events) = written_count events
written_count (Typed bytes ∷ events) = written_count events
written_count (Missed name size access ∷ events) = written_count events

-- an update writes at most two blocks more than its change needs: the directory's first and the label
abbrev pub UpdateIsSmall : Type 0
UpdateIsSmall =
    (j : Journal) (v : HeldVolume) (edit : Edit) (stamp : Stamp) (s : Systems) (m : Minidisk) (change : Change) → IsHeldMinidisk j v m
    → IsEditOf v edit change → IsReadyFor v edit stamp s
    → written_count (update v.unit (writes_of v s) s.label_bytes) ≤ need m change + 2
