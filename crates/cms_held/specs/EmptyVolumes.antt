-- An empty volume as it is made on a unit.
use Rattle.std.specs.Prelude.{◌≡◌, ℕ, ◌+◌, ◌-◌, ◌/◌, ◌^◌, ◌<◌, ◌≤◌, Bool, true, false, List, [], ◌∷◌, ◌++◌, length, map, replicate}
use Rattle.std.specs.List.{range_with_len}
use Rattle.cms_journal.specs.declared.event.Event.{Event}
use Rattle.cms_journal.specs.Journal.{Journal, IsBlockSize, start_of}
use Rattle.cms_fields.specs.NewLabels.{first_label}
use Rattle.cms_fields.specs.Numbers.{up}
use Rattle.cms_fields.specs.Stamps.{is_stamp}
use Rattle.cms_fields.specs.declared.label.Label.{Label}
use Rattle.cms_fields.specs.declared.time.Stamp.{Stamp}
use Rattle.cms_model.specs.Changes.{empty_minidisk}
use Rattle.cms_model.specs.LawsSizes.{IsWhole}
use Rattle.cms_model.specs.LawsUpdates.{HasEither, IsFront, IsWiped, after, now, to_label, with_label}
use Rattle.cms_model.specs.Minidisks.{Minidisk, Volume, Not}
use Rattle.cms_model.specs.Settled.{Write, update}
use Rattle.cms_model.specs.Sizes.{map_size, pointer_count}
use Rattle.cms_model.specs.Volumes.{Disk, state_of}
use Rattle.cms_held.specs.HeldVolumes.{HeldVolume}
use Rattle.cms_held.specs.MinidiskUpdates.{IsHeldMinidisk}
use Rattle.cms_held.specs.Systems.{Systems, directory_bytes_of, system_writes, whole_part}

-- what is made: the unit, what is looked at of it, and what is written
pub record MakePlan : Type 0 where
  pub unit : ℕ
  pub disk : Disk
  pub systems : Systems

-- of an empty volume blocks 1 to 5 and those of the map are in use
abbrev pub first_used : Disk → ℕ
first_used disk = 5 + map_size disk.bsize disk.count

-- its label with this volume id
abbrev pub empty_label : List ℕ → Disk → Label
empty_label volid disk = record { volid = volid; bsize = disk.bsize; origin = 4; blocks = disk.count; in_use = first_used disk }

-- a map of so many blocks of which the first ones are in use
abbrev pub first_bits : ℕ → ℕ → List Bool
first_bits used total = replicate used true ++ replicate (total - used) false

-- what is written is an empty volume of at least 8 blocks with this volume id and this stamp: block 4 is the directory, and the map has
-- the blocks from 6 on, its pointer blocks behind its data blocks
pub record IsEmptyVolume (m : MakePlan) (volid : List ℕ) (stamp : Stamp) : Type 0 where
  pub size : IsBlockSize m.disk.bsize
  pub least : 8 ≤ m.disk.count
  pub most : m.disk.count < 2 ^ 32
  pub named : length volid ≡ 6
  pub stamped : is_stamp stamp ≡ true
  pub label : m.systems.label ≡ empty_label volid m.disk
  pub label_bytes : m.systems.label_bytes ≡ first_label m.systems.label stamp
  pub directory : m.systems.directory ≡ record { leaves = 4 ∷ []; pointers = [] }
  pub directory_bytes : m.systems.directory_bytes ≡ directory_bytes_of m.disk.bsize m.systems [] stamp
  pub map_count : length m.systems.map.leaves ≡ up (up m.disk.count 8) m.disk.bsize
  pub map_nodes : length m.systems.map.pointers ≡ pointer_count (m.disk.bsize / 4) (length m.systems.map.leaves)
  pub map_from : m.systems.map.leaves ++ m.systems.map.pointers ≡ range_with_len 6 (map_size m.disk.bsize m.disk.count)
  pub bits : m.systems.bits ≡ first_bits (first_used m.disk) m.disk.count
  pub directory_part : m.systems.directory_part ≡ whole_part m.systems.directory
  pub map_part : m.systems.map_part ≡ whole_part m.systems.map

-- its writes before the label's
abbrev pub made_writes : MakePlan → List Write
made_writes m = system_writes m.disk.bsize m.systems

-- they are to the map's blocks, from 6 on, and to block 4, in this order
abbrev pub EmptyIsPlaced : Type 0
EmptyIsPlaced =
    (m : MakePlan) (volid : List ℕ) (stamp : Stamp) → IsEmptyVolume m volid stamp
    → map (λ w. w.block) (made_writes m) ≡ range_with_len 6 (map_size m.disk.bsize m.disk.count) ++ 4 ∷ []

-- the empty minidisk that is made
abbrev pub made_minidisk : MakePlan → List ℕ → Minidisk
made_minidisk m volid = empty_minidisk volid m.disk.bsize m.disk.count

-- the volume as it is held then
abbrev pub made_volume : MakePlan → HeldVolume
made_volume m = record {
  unit = m.unit;
  disk = m.disk;
  label = m.systems.label;
  label_bytes = m.systems.label_bytes;
  directory = m.systems.directory;
  map = m.systems.map;
  bits = m.systems.bits;
  files = [];
  lost = 0;
}

-- the unit is wiped, and has the blocks that are looked at, each of its size
pub record IsReadyUnit (j : Journal) (m : MakePlan) : Type 0 where
  pub whole : IsWhole m.disk (now j m.unit)
  pub attached : m.disk.count ≤ length (start_of j.units m.unit)
  pub wiped : IsWiped j m.unit

-- the making of a volume on it: a crash leaves none or the empty minidisk at every moment; up to the label's write none, from it on the
-- contents are the empty one; and in the end the unit is settled at it, as it is held
pub record MakesEmpty (j : Journal) (m : MakePlan) (made : Minidisk) : Type 0 where
  pub either : (p : List Event) → IsFront p (update m.unit (made_writes m) m.systems.label_bytes)
      → HasEither m.disk (after j p) m.unit (Not 2) (Volume made)
  pub before : (p : List Event) → IsFront p (to_label m.unit (made_writes m)) → IsWiped (after j p) m.unit
  pub labelled : state_of m.disk (now (after j (with_label m.unit (made_writes m) m.systems.label_bytes)) m.unit) ≡ Volume made
  pub done : IsHeldMinidisk (after j (update m.unit (made_writes m) m.systems.label_bytes)) (made_volume m) made

-- the empty volume, written on a wiped unit, is made at once and is the empty minidisk
abbrev pub EmptyIsMade : Type 0
EmptyIsMade =
    (j : Journal) (m : MakePlan) (volid : List ℕ) (stamp : Stamp) → IsEmptyVolume m volid stamp → IsReadyUnit j m
    → MakesEmpty j m (made_minidisk m volid)
