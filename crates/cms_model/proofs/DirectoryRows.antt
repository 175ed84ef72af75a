-- The directory's need on small examples, with blocks of 512 bytes.
use Rattle.std.proofs.Common.{◌≡◌, ℕ, [], ◌∷◌, replicate, refl}
use Rattle.cms_names.specs.declared.name.Format.TheVariants.{F}
use Rattle.cms_model.specs.Changes.{Century, Drop, Put, changed_files, directory_fresh, directory_written, drop_file, entries_made, last_first, place_named, put_file}
use Rattle.cms_model.specs.DirectoryParts.{blocks_with, directory_count, directory_taken}
use Rattle.cms_model.specs.Lists.{holds, same}
use Rattle.cms_model.specs.Minidisks.{File, Minidisk, same_name}
use Rattle.cms_model.specs.SharedTrees.{any_within, fresh_count, fresh_on, fresh_to, is_kept}
use Rattle.cms_model.specs.Sizes.{levels, levels_from}

a_file : ℕ → File
a_file n = record {
  name = record { file = n ∷ []; kind = [] };
  number = 1;
  format = F;
  length = 4;
  stamp = record { year = 2000; month = 1; day = 1; hour = 0; minute = 0; second = 0 };
  records = [];
}

-- so many files, of which the first alone has the name 1
a_minidisk : ℕ → Minidisk
a_minidisk others = record { volid = []; bsize = 512; total = 4096; lost = 0; files = a_file 1 ∷ replicate others (a_file 2) }

-- one of 16 files goes from the first place: the first data block and the third, of three, are written, with the pointer block over them
drops_first : directory_fresh (a_minidisk 15) (Drop (a_file 1).name) ≡ 2
unfolding directory_taken entries_made place_named changed_files drop_file last_first same_name same blocks_with holds fresh_count fresh_to fresh_on is_kept any_within levels levels_from a_file a_minidisk
drops_first = refl

written_first : directory_written (a_minidisk 15) (Drop (a_file 1).name) ≡ 0 ∷ 2 ∷ []
unfolding entries_made place_named changed_files drop_file last_first same_name same blocks_with holds a_file a_minidisk
written_first = refl

-- one data block takes no free block
takes_none : directory_fresh (a_minidisk 0) (Put (a_file 1)) ≡ 0
unfolding directory_taken entries_made place_named changed_files put_file same_name same blocks_with holds fresh_count fresh_to fresh_on is_kept any_within levels levels_from a_file a_minidisk
takes_none = refl

-- a seventh file needs a second data block and a pointer block over both
grows : directory_fresh (a_minidisk 5) (Put (a_file 3)) ≡ 2
unfolding directory_taken entries_made place_named changed_files put_file same_name same blocks_with holds fresh_count fresh_to fresh_on is_kept any_within levels levels_from a_file a_minidisk
grows = refl

-- without it neither is there
shrinks : directory_fresh (a_minidisk 6) (Drop (a_file 1).name) ≡ 0
unfolding directory_taken entries_made place_named changed_files drop_file last_first same_name same blocks_with holds fresh_count fresh_to fresh_on is_kept any_within levels levels_from a_file a_minidisk
shrinks = refl

-- 1,031 files, one fewer: the last data block goes, and the pointer block over it is another, though no data block below it is written
narrows : fresh_count 128 (directory_count 512 1031) (directory_count 512 1030) (0 ∷ []) ≡ 4
unfolding fresh_count fresh_to fresh_on is_kept any_within levels levels_from
narrows = refl

-- moved stamps: with 16 files all three data blocks are written, and with none the one that there is
moves_all : (directory_written (a_minidisk 15) (Century 70) ≡ 0 ∷ 1 ∷ 2 ∷ []) × (directory_fresh (a_minidisk 15) (Century 70) ≡ 3)
unfolding directory_taken entries_made changed_files blocks_with holds fresh_count fresh_to fresh_on is_kept any_within levels levels_from a_file a_minidisk
moves_all = (refl, refl)

moves_none : (directory_written (record (a_minidisk 0) { files = [] }) (Century 0) ≡ 0 ∷ []) × (directory_fresh (record (a_minidisk 0) { files = [] }) (Century 0) ≡ 0)
unfolding directory_taken entries_made changed_files blocks_with holds fresh_count fresh_to fresh_on is_kept any_within levels levels_from a_file a_minidisk
moves_none = (refl, refl)
