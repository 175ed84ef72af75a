-- The definitions on small examples.
use Rattle.std.proofs.Common.{◌≡◌, ℕ, List, [], ◌∷◌, true, false, refl}
use Rattle.cms_ebcdic.specs.CodePage.{code_of, code_page}
use Rattle.cms_names.specs.declared.name.Format.TheVariants.{V}
use Rattle.cms_fields.specs.Stamps.{stamp_bytes, stamp_flags}
use Rattle.cms_fields.specs.declared.label.Label.{Label}
use Rattle.cms_map.specs.Bits.{free_from}
use Rattle.cms_model.specs.Systems.{SystemFile}
use Rattle.cms_held.specs.Marks.{mark_of, start_of, starts_from}
use Rattle.cms_held.specs.Renewals.{label_for}
use Rattle.cms_held.specs.Systems.{system_entry}
use Rattle.cms_held.specs.Written.{directory_name, map_name}

-- ---- the label behind an update

-- of nine blocks 7 and 9 are free, so seven are in use, whatever the old label says; the directory begins in block 5 where it began in
-- block 4, and in block 4 where it began in block 5
old_label : Label
old_label = record { volid = 0xE3 ∷ 0xC5 ∷ 0xE2 ∷ 0xE3 ∷ 0xF0 ∷ 0xF1 ∷ []; bsize = 512; origin = 4; blocks = 9; in_use = 9 }

seven_in_use : label_for old_label (true ∷ true ∷ true ∷ true ∷ true ∷ true ∷ false ∷ true ∷ false ∷ []) ≡ record old_label { origin = 5; in_use = 7 }
unfolding free_from old_label
seven_in_use = refl

all_in_use : label_for (record old_label { origin = 5 }) (true ∷ true ∷ true ∷ true ∷ true ∷ true ∷ true ∷ true ∷ true ∷ []) ≡ record old_label { origin = 4; in_use = 9 }
unfolding free_from old_label
all_in_use = refl

-- ---- marks, in blocks of eight bytes

-- records of 3, 9 and 1 bytes, each behind the two of its length, begin at 0, 5 and 16
three_texts : List (List ℕ)
three_texts = (1 ∷ 2 ∷ 3 ∷ []) ∷ (1 ∷ 2 ∷ 3 ∷ 4 ∷ 5 ∷ 6 ∷ 7 ∷ 8 ∷ 9 ∷ []) ∷ (1 ∷ []) ∷ []

three_starts : starts_from 0 three_texts ≡ 0 ∷ 5 ∷ 16 ∷ []
unfolding three_texts
three_starts = refl

two_begin : mark_of 8 (0 ∷ 5 ∷ 16 ∷ []) 0 ≡ record { last = 2; place = 0 }
two_begin = refl

-- where none begins, as many have begun as before
none_begins : mark_of 8 (0 ∷ 5 ∷ 16 ∷ []) 1 ≡ record { last = 2; place = 0xFFFFFFFF }
none_begins = refl

another_begins : mark_of 8 (0 ∷ 5 ∷ 16 ∷ []) 2 ≡ record { last = 3; place = 0 }
another_begins = refl

-- the first that begins in a block is told, from the block's first byte on
first_of_two : mark_of 8 (0 ∷ 11 ∷ 14 ∷ []) 1 ≡ record { last = 3; place = 3 }
first_of_two = refl

-- of these nineteen bytes the last three fill a block in part, and the last record begins at its front
last_starts : start_of 8 V three_texts ≡ 0
unfolding three_texts
last_starts = refl

-- ---- the entries of the system files

-- the file names 0000000100000000 and 0000000200000000, and the types DIRECTOR and ALLOCMAP
directory_is_named : directory_name ≡ 0 ∷ 0 ∷ 0 ∷ 1 ∷ 0 ∷ 0 ∷ 0 ∷ 0 ∷ 0xC4 ∷ 0xC9 ∷ 0xD9 ∷ 0xC5 ∷ 0xC3 ∷ 0xE3 ∷ 0xD6 ∷ 0xD9 ∷ []
unfolding code_of code_page
directory_is_named = refl

map_is_named : map_name ≡ 0 ∷ 0 ∷ 0 ∷ 2 ∷ 0 ∷ 0 ∷ 0 ∷ 0 ∷ 0xC1 ∷ 0xD3 ∷ 0xD3 ∷ 0xD6 ∷ 0xC3 ∷ 0xD4 ∷ 0xC1 ∷ 0xD7 ∷ []
unfolding code_of code_page
map_is_named = refl

-- a directory of three entries in block 4, with the stamp of 2026-11-30 09:30:15: mode A1, format F, pointers of four bytes
small_directory : SystemFile
small_directory = record { root = 4; blocks = 1; count = 3; levels = 0 }

directory_entry : system_entry directory_name 64 small_directory (record { year = 2026; month = 11; day = 30; hour = 9; minute = 30; second = 15 })
    ≡ 0 ∷ 0 ∷ 0 ∷ 1 ∷ 0 ∷ 0 ∷ 0 ∷ 0 ∷ 0xC4 ∷ 0xC9 ∷ 0xD9 ∷ 0xC5 ∷ 0xC3 ∷ 0xE3 ∷ 0xD6 ∷ 0xD9
    ∷ 0 ∷ 0 ∷ 0 ∷ 0 ∷ 0 ∷ 0 ∷ 0 ∷ 0 ∷ 0xC1 ∷ 0xF1 ∷ 0 ∷ 0 ∷ 0 ∷ 0 ∷ 0xC6 ∷ 0x08
    ∷ 0 ∷ 0 ∷ 0 ∷ 64 ∷ 0 ∷ 0 ∷ 0 ∷ 0 ∷ 0 ∷ 0 ∷ 0 ∷ 4 ∷ 0 ∷ 0 ∷ 0 ∷ 1
    ∷ 0 ∷ 0 ∷ 0 ∷ 3 ∷ 0 ∷ 4 ∷ 0x26 ∷ 0x11 ∷ 0x30 ∷ 0x09 ∷ 0x30 ∷ 0x15 ∷ 0 ∷ 0 ∷ 0 ∷ 0 ∷ []
unfolding system_entry stamp_bytes stamp_flags small_directory code_of code_page
directory_entry = refl
