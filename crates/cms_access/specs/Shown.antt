-- What a table tells of its disks, as QUERY types it.
use Rattle.std.specs.Prelude.{ℕ, zero, suc, Bool, not, ◌==◌, ◌&&◌, List, [], ◌∷◌, ◌++◌, count_by, length, slice_get}
use Rattle.std.specs.Option.{option_map_or}
use Rattle.cms_map.specs.Bits.{free_blocks}
use Rattle.cms_edf.specs.FilesTold.{infos_in}
use Rattle.cms_held.specs.HeldVolumes.{HeldVolume}
use Rattle.cms_search.specs.Searches.{item_at}
use Rattle.cms_search.specs.Tables.{AccessTable, Seated}
use Rattle.cms_access.specs.Query.{disk_text, search_text}
use Rattle.cms_access.specs.declared.shown.Shown.{Shown}
use Rattle.cms_access.specs.declared.shown.Shown.TheVariants.{Disk, Search}

-- how many files of a volume are seen
abbrev pub count_seen : Bool → HeldVolume → ℕ
count_seen read_only v = count_by (λ i. not (read_only && (i.number == 0))) (infos_in v)

-- the line of a disk with this device
abbrev pub seat_text : Shown → ℕ → ℕ → Seated → List ℕ
seat_text Disk n vdev s = disk_text n vdev s.letter.read_only s.disk.volume.label.volid s.disk.volume.disk.bsize
    (count_seen s.letter.read_only s.disk.volume) (length (free_blocks s.disk.volume.bits)) s.disk.volume.label.blocks
seat_text Search n vdev s = search_text n vdev s.letter.parent s.letter.read_only s.disk.volume.label.volid

-- the device of a seated disk
abbrev pub device_in : AccessTable → Seated → ℕ
device_in t s = option_map_or (λ unit. unit.vdev) (slice_get t.units s.letter.unit) 0

-- the line of a letter's disk, where it is accessed
abbrev pub seat_lines : Shown → AccessTable → ℕ → List (List ℕ)
seat_lines shown t n = option_map_or (λ s. seat_text shown n (device_in t s) s ∷ []) (item_at t.seats n) []

-- those of so many letters from one on
unfoldable pub lines_from : (ℕ → List (List ℕ)) → ℕ → ℕ → List (List ℕ)
lines_from f n zero = []
lines_from f n (suc k) = f n ++ lines_from f (suc n) k
