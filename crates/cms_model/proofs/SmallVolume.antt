-- A small volume in an image, and changes of its files.
use Rattle.std.proofs.Common.{◌≡◌, ℕ, if◌then◌else◌, List, [], ◌∷◌, ◌++◌, Err, replicate, refl}
use Rattle.std.specs.Prelude.{◌==◌}
use Rattle.cms_names.specs.declared.name.Format.TheVariants.{F, V}
use Rattle.cms_names.specs.Names.{is_name_character}
use Rattle.cms_text.specs.Bytes.{half, word}
use Rattle.cms_fields.specs.Stamps.{is_stamp, stamp_at, has_stamp, are_packed, days_of_month}
use Rattle.cms_fields.specs.Labels.{label_of, label_fields, has_identifier, is_origin}
use Rattle.cms_fields.specs.Entries.{entry_of, entry_fields, name_at, format_at, is_part_field, has_name, has_mode, has_format, length_fits, counts_fit, levels_fit, has_pointer_size}
use Rattle.cms_fields.specs.declared.time.Stamp.{Stamp}
use Rattle.cms_fields.specs.declared.label.LabelFault.TheVariants as label_fault
use Rattle.cms_model.specs.Lists.{cut, holds, first_repeat, same}
use Rattle.cms_model.specs.Trees.{Image, pointers, is_allowed, tree, bytes_at}
use Rattle.cms_model.specs.Records.{longest, records_of, varying}
use Rattle.cms_model.specs.Maps.{is_marked, lowest_unmarked, lost_count}
use Rattle.cms_model.specs.Minidisks.{File, Minidisk, Volume, Not, same_name, is_named}
use Rattle.cms_model.specs.Systems.{system_fields, is_system, is_directory, is_map, directory_of, map_of}
use Rattle.cms_model.specs.Volumes.{Disk, entries_of, first_twice, file_trees, blocks_of, contents_in, open_of, files_of, minidisk_of, reason, state_of}
use Rattle.cms_model.specs.Sizes.{levels_from, levels, pointers_to, pointer_count, tree_size, stored_size, file_size, directory_more, map_size, used_count, free_count}
use Rattle.cms_model.specs.declared.fault.OpenFault.TheVariants as failed
use Rattle.cms_model.specs.DirectoryParts.{blocks_with, directory_taken}
use Rattle.cms_model.specs.SharedTrees.{any_within, fresh_count, fresh_on, fresh_to, is_kept}
use Rattle.cms_model.specs.Changes.{Put, Drop, entries_made, place_named, put_file, last_first, drop_file, changed_files, written_file, need, is_full, limit, Full, Changed, answer_of, changed}

-- ---- the image: blocks of 512 bytes, of which the zeros at the end are left out

zeros : ℕ → List ℕ
zeros n = replicate n 0

-- CMS1, volume id DISK1, block size 512, origin 4, 8 blocks, entries of 64 bytes
label_block : List ℕ
label_block =
    0xC3 ∷ 0xD4 ∷ 0xE2 ∷ 0xF1 ∷ 0xC4 ∷ 0xC9 ∷ 0xE2 ∷ 0xD2 ∷ 0xF1 ∷ 0x40 ∷ 0 ∷ 0 ∷ 0 ∷ 0 ∷ 2 ∷ 0 ∷ 0 ∷ 0 ∷ 0 ∷ 4 ∷ zeros 4
    ++ (zeros 4 ++ (0 ∷ 0 ∷ 0 ∷ 8 ∷ zeros 4 ++ (0 ∷ 0 ∷ 0 ∷ 64 ∷ [])))

-- an entry of the directory itself or of the map: F, length, root, one data block, count
system_entry : ℕ → ℕ → ℕ → ℕ → List ℕ
system_entry high low root count =
    zeros 30 ++ (0xC6 ∷ 0 ∷ 0 ∷ 0 ∷ high ∷ low ∷ zeros 4 ++ (0 ∷ 0 ∷ 0 ∷ root ∷ 0 ∷ 0 ∷ 0 ∷ 1 ∷ 0 ∷ 0 ∷ 0 ∷ count ∷ zeros 12))

-- the file A B A1, F of length 2 with 3 records, in block 7, of 1 July 2026 at noon
file_entry : List ℕ
file_entry =
    0xC1 ∷ replicate 7 0x40 ++ (0xC2 ∷ replicate 7 0x40 ++ (zeros 8 ++ (0xC1 ∷ 0xF1 ∷ zeros 4 ++ (0xC6 ∷ 0x08 ∷ 0 ∷ 0 ∷ 0 ∷ 2 ∷ zeros 4
    ++ (0 ∷ 0 ∷ 0 ∷ 7 ∷ 0 ∷ 0 ∷ 0 ∷ 1 ∷ 0 ∷ 0 ∷ 0 ∷ 3 ∷ 0 ∷ 4 ∷ 0x26 ∷ 0x07 ∷ 0x01 ∷ 0x12 ∷ 0 ∷ 0 ∷ [])))))

-- the directory in block 4, the map in block 6 with these marks, the file in block 7
volume : List ℕ → Image
volume marks n =
    if n == 3 then label_block
    else if n == 4 then system_entry 0 64 4 3 ++ (system_entry 2 0 6 1 ++ file_entry)
    else if n == 6 then marks
    else if n == 7 then 1 ∷ 2 ∷ 3 ∷ 4 ∷ 5 ∷ 6 ∷ []
    else []

disk : Disk
disk = record { bsize = 512; count = 8 }

noon : Stamp
noon = record { year = 2026; month = 7; day = 1; hour = 12; minute = 0; second = 0 }

file : File
file = record {
  name = record { file = 0xC1 ∷ []; kind = 0xC2 ∷ [] };
  number = 1;
  format = F;
  length = 2;
  stamp = noon;
  records = (1 ∷ 2 ∷ []) ∷ (3 ∷ 4 ∷ []) ∷ (5 ∷ 6 ∷ []) ∷ [];
}

-- the minidisk, with so many lost blocks
minidisk : ℕ → Minidisk
minidisk lost = record { volid = 0xC4 ∷ 0xC9 ∷ 0xE2 ∷ 0xD2 ∷ 0xF1 ∷ 0x40 ∷ []; bsize = 512; total = 8; lost = lost; files = file ∷ [] }

-- the volume as it stands, with block 8 marked too, with block 7 not marked, on a unit of five blocks, and on one with fewer blocks than the label says
read : (state_of disk (volume (0xFE ∷ [])) ≡ Volume (minidisk 0))
    × (state_of disk (volume (0xFF ∷ [])) ≡ Volume (minidisk 1))
    × (open_of disk (volume (0xFC ∷ [])) ≡ Err (failed.MapMissing 7))
    × (open_of (record { bsize = 512; count = 5 }) (volume (0xFE ∷ [])) ≡ Err (failed.Label label_fault.Count))
    × (open_of (record { bsize = 512; count = 7 }) (volume (0xFE ∷ [])) ≡ Err (failed.Label label_fault.Count))
unfolding state_of open_of label_of label_fields has_identifier is_origin word directory_of map_of is_directory is_map is_system system_fields tree pointers is_allowed bytes_at cut entries_of entry_of
    entry_fields has_name has_mode has_format length_fits counts_fit levels_fit has_pointer_size has_stamp are_packed is_stamp stamp_at days_of_month name_at format_at is_part_field is_name_character
    first_twice is_named same_name same file_trees blocks_of first_repeat holds lowest_unmarked is_marked lost_count contents_in records_of minidisk_of files_of zeros label_block system_entry
    file_entry volume disk noon file minidisk
read = (refl, refl, refl, refl, refl)

-- the file with one record of varying length, in block 7, whose entry tells some length
varying_entry : ℕ → List ℕ
varying_entry size =
    0xC1 ∷ replicate 7 0x40 ++ (0xC2 ∷ replicate 7 0x40 ++ (zeros 8 ++ (0xC1 ∷ 0xF1 ∷ zeros 4 ++ (0xE5 ∷ 0x08 ∷ 0 ∷ 0 ∷ 0 ∷ size ∷ zeros 4
    ++ (0 ∷ 0 ∷ 0 ∷ 7 ∷ 0 ∷ 0 ∷ 0 ∷ 1 ∷ 0 ∷ 0 ∷ 0 ∷ 1 ∷ 0 ∷ 12 ∷ 0x26 ∷ 0x07 ∷ 0x01 ∷ 0x12 ∷ 0 ∷ 0 ∷ [])))))

varying_volume : ℕ → Image
varying_volume size n =
    if n == 4 then system_entry 0 64 4 3 ++ (system_entry 2 0 6 1 ++ varying_entry size)
    else if n == 7 then 0 ∷ 4 ∷ 1 ∷ 2 ∷ 3 ∷ 4 ∷ []
    else volume (0xFE ∷ []) n

varying_file : File
varying_file = record file { format = V; length = 4; records = (1 ∷ 2 ∷ 3 ∷ 4 ∷ []) ∷ [] }

-- whatever length it tells, the same volume opens, in which the file has the length of its longest record
read_varying : (size : ℕ) → (open_of disk (varying_volume size) ≡ open_of disk (varying_volume 4))
    × (state_of disk (varying_volume size) ≡ Volume (record (minidisk 0) { files = varying_file ∷ [] }))
unfolding state_of open_of label_of label_fields has_identifier is_origin word half directory_of map_of is_directory is_map is_system system_fields tree pointers is_allowed bytes_at cut entries_of entry_of
    entry_fields has_name has_mode has_format length_fits counts_fit levels_fit has_pointer_size has_stamp are_packed is_stamp stamp_at days_of_month name_at format_at is_part_field is_name_character
    first_twice is_named same_name same file_trees blocks_of first_repeat holds lowest_unmarked is_marked lost_count contents_in records_of varying longest minidisk_of files_of zeros label_block system_entry
    varying_entry varying_volume varying_file volume disk noon file minidisk
read_varying size = (refl, refl)

-- nothing in block 3
wiped_unit : state_of disk (λ n. []) ≡ Not 2
unfolding state_of open_of label_of has_identifier word reason disk
wiped_unit = refl

-- ---- changes of its files

-- the same file under another name
named : ℕ → File
named letter = record file { name = record { file = letter ∷ []; kind = 0xC2 ∷ [] } }

three_files : List File
three_files = named 0xC1 ∷ named 0xC3 ∷ named 0xC4 ∷ []

-- the last file takes the place of the one that goes
dropped_first : changed_files three_files (Drop (record { file = 0xC1 ∷ []; kind = 0xC2 ∷ [] })) ≡ named 0xC4 ∷ named 0xC3 ∷ []
unfolding changed_files drop_file last_first same_name same three_files named file noon
dropped_first = refl

added_last : changed_files three_files (Put (named 0xC5)) ≡ named 0xC1 ∷ named 0xC3 ∷ named 0xC4 ∷ named 0xC5 ∷ []
unfolding changed_files put_file same_name same three_files named file noon
added_last = refl

-- of the 8 blocks one is free, and a drop needs one for the new map
free_block : (used_count (minidisk 0) ≡ 7) × (free_count (minidisk 0) ≡ 1)
unfolding used_count free_count directory_more map_size file_size stored_size tree_size levels levels_from pointer_count pointers_to minidisk file noon
free_block = (refl, refl)

-- a drop where that block is free, and where it is lost
dropped : (answer_of (minidisk 0) (Drop (record { file = 0xC1 ∷ []; kind = 0xC2 ∷ [] }))
    ≡ Changed (record { volid = 0xC4 ∷ 0xC9 ∷ 0xE2 ∷ 0xD2 ∷ 0xF1 ∷ 0x40 ∷ []; bsize = 512; total = 8; lost = 0; files = [] }))
    × (answer_of (minidisk 1) (Drop (record { file = 0xC1 ∷ []; kind = 0xC2 ∷ [] })) ≡ Full 1 0)
unfolding answer_of limit is_full need changed changed_files drop_file last_first written_file same_name same used_count free_count directory_more map_size file_size stored_size tree_size levels place_named entries_made directory_taken blocks_with holds fresh_count fresh_to fresh_on is_kept any_within
    levels_from pointer_count pointers_to minidisk file noon
dropped = (refl, refl)
