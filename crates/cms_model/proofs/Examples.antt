-- The definitions on small examples.
use Rattle.std.proofs.Common.{◌≡◌, ℕ, if◌then◌else◌, List, [], ◌∷◌, replicate, true, false, Some, None, Ok, Err, refl}
use Rattle.std.specs.Prelude.{◌==◌}
use Rattle.cms_names.specs.declared.name.Format.{Format}
use Rattle.cms_fields.specs.declared.time.Stamp.{Stamp}
use Rattle.cms_names.specs.declared.name.Format.TheVariants.{F, V}
use Rattle.cms_text.specs.Bytes.{word, half}
use Rattle.cms_model.specs.Lists.{cut, holds, first_repeat, same}
use Rattle.cms_model.specs.Trees.{Image, Form, pointers, is_allowed, tree}
use Rattle.cms_model.specs.Records.{varying, records_of}
use Rattle.cms_model.specs.Maps.{is_marked, is_used, lowest_unmarked, lost_count}
use Rattle.cms_model.specs.Sizes.{levels_from, levels, pointers_to, pointer_count, tree_size, stored_size, file_size, directory_more, map_size, used_count, free_count}
use Rattle.cms_model.specs.SharedTrees.{any_within, is_kept, fresh_on, fresh_to, fresh_count}
use Rattle.cms_model.specs.Minidisks.{File, Minidisk, same_name}
use Rattle.cms_model.specs.DirectoryParts.{blocks_with, directory_taken}
use Rattle.cms_model.specs.Changes.{Put, Drop, Century, stamp_moved, entries_made, place_named, empty_minidisk, changed_files, written_file, put_file, drop_file, last_first, need}
use Rattle.cms_model.specs.declared.fault.VarFault.TheVariants.{Zero, PastEnd, Left}
use Rattle.cms_fields.specs.declared.entry.EntryFault.TheVariants as entry_fault
use Rattle.cms_fields.specs.declared.label.LabelFault.TheVariants as label_fault
use Rattle.cms_model.specs.Volumes.{reason}
use Rattle.cms_model.specs.declared.fault.OpenFault.TheVariants as failed

-- ---- trees, with two pointers in a block

blocks : Image
blocks n = if n == 9 then 0 ∷ 0 ∷ 0 ∷ 10 ∷ 0 ∷ 0 ∷ 0 ∷ 11 ∷ [] else if n == 12 then 0 ∷ 0 ∷ 0 ∷ 9 ∷ 0 ∷ 0 ∷ 0 ∷ 13 ∷ [] else if n == 13 then 0 ∷ 0 ∷ 0 ∷ 14 ∷ 0 ∷ 0 ∷ 0 ∷ 5 ∷ [] else []

two_wide : Form
two_wide = record { fan = 2; stride = 4; last = 20 }

one_level : tree two_wide blocks 1 None 4 9 2 ≡ Ok (record { blocks = 9 ∷ 10 ∷ 11 ∷ []; leaves = 10 ∷ 11 ∷ [] })
unfolding tree word pointers is_allowed blocks two_wide
one_level = refl

-- the pointer 5 behind the last data block isn't looked at
two_levels : tree two_wide blocks 2 None 4 12 3 ≡ Ok (record { blocks = 12 ∷ 9 ∷ 10 ∷ 11 ∷ 13 ∷ 14 ∷ []; leaves = 10 ∷ 11 ∷ 14 ∷ [] })
unfolding tree word pointers is_allowed blocks two_wide
two_levels = refl

bad_pointer : tree two_wide blocks 2 None 4 12 4 ≡ Err (failed.Pointer 13 5)
unfolding tree word pointers is_allowed blocks two_wide
bad_pointer = refl

-- a fixed first data block may lie below 6
fixed_first : tree two_wide blocks 1 (Some 10) 4 9 2 ≡ Ok (record { blocks = 9 ∷ 10 ∷ 11 ∷ []; leaves = 10 ∷ 11 ∷ [] })
unfolding tree word pointers is_allowed blocks two_wide
fixed_first = refl

other_first : tree two_wide blocks 1 (Some 4) 4 9 2 ≡ Err (failed.Pointer 9 10)
unfolding tree word pointers is_allowed blocks two_wide
other_first = refl

-- ---- records

two_records : records_of 4 F 3 2 (1 ∷ 2 ∷ 3 ∷ 4 ∷ 5 ∷ 6 ∷ 0 ∷ 0 ∷ []) ≡ Ok ((1 ∷ 2 ∷ 3 ∷ []) ∷ (4 ∷ 5 ∷ 6 ∷ []) ∷ [])
unfolding records_of cut
two_records = refl

two_varying : records_of 4 V 0 2 (0 ∷ 2 ∷ 7 ∷ 8 ∷ 0 ∷ 1 ∷ 9 ∷ 0 ∷ []) ≡ Ok ((7 ∷ 8 ∷ []) ∷ (9 ∷ []) ∷ [])
unfolding records_of varying half
two_varying = refl

-- a record that passes the end, a length of 0, and a block left
past_end : records_of 4 V 0 2 (0 ∷ 2 ∷ 7 ∷ 8 ∷ 0 ∷ 3 ∷ 9 ∷ 0 ∷ []) ≡ Err (PastEnd 4)
unfolding records_of varying half
past_end = refl

no_length : records_of 4 V 0 2 (0 ∷ 2 ∷ 7 ∷ 8 ∷ 0 ∷ 0 ∷ 9 ∷ 0 ∷ []) ≡ Err (Zero 4)
unfolding records_of varying half
no_length = refl

block_left : records_of 4 V 0 1 (0 ∷ 2 ∷ 7 ∷ 8 ∷ 0 ∷ 1 ∷ 9 ∷ 0 ∷ []) ≡ Err (Left 4)
unfolding records_of varying half
block_left = refl

-- ---- the map: FC 40 marks blocks 1 to 6 and 10

marks : List ℕ
marks = 0xFC ∷ 0x40 ∷ []

six_is_marked : is_marked marks 6 ≡ true
unfolding is_marked marks
six_is_marked = refl

seven_is_free : is_used marks 7 ≡ false
unfolding is_used is_marked marks
seven_is_free = refl

ten_is_lost : lost_count marks (4 ∷ 6 ∷ []) 6 11 ≡ 1
unfolding lost_count is_marked holds marks
ten_is_lost = refl

eight_is_missing : lowest_unmarked marks (4 ∷ 9 ∷ 8 ∷ 6 ∷ []) 6 11 ≡ Some 8
unfolding lowest_unmarked is_marked holds marks
eight_is_missing = refl

six_is_crossed : first_repeat [] (4 ∷ 6 ∷ 9 ∷ 6 ∷ 9 ∷ []) ≡ Some 6
unfolding first_repeat holds
six_is_crossed = refl

-- ---- reasons

-- the numbers by which reasons are told, in their order
numbers_of_reasons : reason failed.Device ∷ reason (failed.Label label_fault.Id) ∷ reason (failed.Entry 2 entry_fault.Name) ∷ reason (failed.Pointer 9 5) ∷ reason (failed.Crossed 6)
    ∷ reason (failed.MapMissing 8) ∷ reason (failed.Var 2 (Zero 4)) ∷ reason (failed.Twice 3) ∷ reason (failed.System 0) ∷ reason failed.Memory ∷ []
    ≡ 1 ∷ 2 ∷ 3 ∷ 4 ∷ 5 ∷ 6 ∷ 7 ∷ 8 ∷ 9 ∷ 10 ∷ []
unfolding reason
numbers_of_reasons = refl

-- ---- sizes, in blocks of 512 bytes

full_level : (levels 128 128 ≡ 1) × (pointer_count 128 128 ≡ 1)
unfolding levels levels_from pointer_count pointers_to
full_level = (refl, refl)

next_level : (levels 128 129 ≡ 2) × (pointer_count 128 129 ≡ 3)
unfolding levels levels_from pointer_count pointers_to
next_level = (refl, refl)

-- 8 entries fill a block; of a ninth the directory has two data blocks and a pointer block
small_directory : (directory_more 512 6 ≡ 0) × (directory_more 512 7 ≡ 2)
unfolding directory_more tree_size levels levels_from pointer_count pointers_to
small_directory = (refl, refl)

-- a byte has the bits of 8 blocks
small_map : (map_size 512 4096 ≡ 1) × (map_size 512 8192 ≡ 3)
unfolding map_size tree_size levels levels_from pointer_count pointers_to
small_map = (refl, refl)

empty_disk : (used_count (empty_minidisk [] 512 8) ≡ 6) × (free_count (empty_minidisk [] 512 8) ≡ 2)
unfolding used_count free_count directory_more map_size tree_size levels levels_from pointer_count pointers_to file_size
empty_disk = (refl, refl)

-- ---- room, in blocks of 512 bytes

-- a file of one record of so many bytes
file_of : Format → ℕ → ℕ → File
file_of format name size = record {
  name = record { file = name ∷ []; kind = 0xC6 ∷ [] };
  number = 1;
  format = format;
  length = size;
  stamp = record { year = 2000; month = 1; day = 1; hour = 0; minute = 0; second = 0 };
  records = replicate size 0 ∷ [];
}

-- four data blocks, the pointer block over them and a new map; the new directory has one block, which is 4 or 5
new_file : (need (empty_minidisk [] 512 9) (Put (file_of F 0xC1 2048)) ≡ 6) × (free_count (empty_minidisk [] 512 9) ≡ 3)
unfolding need written_file changed_files put_file file_size stored_size used_count free_count directory_more map_size tree_size levels levels_from pointer_count pointers_to file_of place_named entries_made directory_taken blocks_with holds fresh_count fresh_to fresh_on is_kept any_within
new_file = (refl, refl)

-- one file, and two blocks that are lost
full_disk : Minidisk
full_disk = record (empty_minidisk [] 512 9) { lost = 2; files = file_of V 0xC1 5 ∷ [] }

no_room_to_erase : (need full_disk (Drop (record { file = 0xC1 ∷ []; kind = 0xC6 ∷ [] })) ≡ 1) × (free_count full_disk ≡ 0)
unfolding need changed_files drop_file last_first same_name same file_size stored_size used_count free_count directory_more map_size tree_size levels levels_from pointer_count pointers_to file_of place_named entries_made directory_taken blocks_with holds fresh_count fresh_to fresh_on is_kept any_within
    full_disk
no_room_to_erase = (refl, refl)

-- ---- trees that share blocks with the tree before, in blocks of 512 bytes

-- of 301 data blocks the last is written: it, the pointer block over it and the root are new
longer_by_a_block : fresh_count 128 300 301 (300 ∷ []) ≡ 3
unfolding fresh_count fresh_to fresh_on is_kept any_within levels levels_from
longer_by_a_block = refl

-- a full tree of one level gets a second: the pointer block that was the root is kept
higher_by_a_level : fresh_count 42 42 43 (42 ∷ []) ≡ 3
unfolding fresh_count fresh_to fresh_on is_kept any_within levels levels_from
higher_by_a_level = refl

-- two data blocks of three are written, and the root over them
two_of_three : fresh_count 128 3 3 (0 ∷ 2 ∷ []) ≡ 3
unfolding fresh_count fresh_to fresh_on is_kept any_within levels levels_from
two_of_three = refl

-- with four pointers in a block: a pointer block over the last data block isn't kept where one of those below it is gone
shorter_by_a_block : fresh_count 4 6 5 (0 ∷ []) ≡ 4
unfolding fresh_count fresh_to fresh_on is_kept any_within levels levels_from
shorter_by_a_block = refl

-- ---- stamps that are moved

a_stamp : ℕ → Stamp
a_stamp year = record { year = year; month = 2; day = 29; hour = 23; minute = 59; second = 59 }

-- the pivot's year stays, and that before it moves
seventy : (stamp_moved 70 (a_stamp 1970) ≡ a_stamp 1970) × (stamp_moved 70 (a_stamp 1969) ≡ a_stamp 2069)
unfolding a_stamp
seventy = (refl, refl)

-- with 0 none moves, and with 100 each of the 1900s
none_moves : (stamp_moved 0 (a_stamp 1900) ≡ a_stamp 1900) × (stamp_moved 0 (a_stamp 2000) ≡ a_stamp 2000)
unfolding a_stamp
none_moves = (refl, refl)

each_moves : (stamp_moved 100 (a_stamp 1900) ≡ a_stamp 2000) × (stamp_moved 100 (a_stamp 1999) ≡ a_stamp 2099) × (stamp_moved 100 (a_stamp 2000) ≡ a_stamp 2000)
unfolding a_stamp
each_moves = (refl, refl, refl)

-- a full disk has no room for a map, though no stamp would move
no_room_to_move : (need full_disk (Century 0) ≡ 1) × (free_count full_disk ≡ 0)
unfolding need changed_files file_size stored_size used_count free_count directory_more map_size tree_size levels levels_from pointer_count pointers_to file_of entries_made directory_taken blocks_with holds fresh_count fresh_to fresh_on is_kept any_within full_disk
no_room_to_move = (refl, refl)
