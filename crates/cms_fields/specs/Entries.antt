-- An entry of a directory, in its 64 bytes.
use Rattle.std.specs.Prelude.{ℕ, ◌-◌, ◌*◌, ◌/◌, ◌+◌, Bool, true, false, not, ◌==◌, ◌&&◌, ◌||◌, nat_le, if◌then◌else◌, List, [], ◌∷◌, length, take, drop, take_while, replicate, Result, Ok}
use Rattle.std.specs.List.{list_all}
use Rattle.byteorder.specs.Endian.{big_bytes}
use Rattle.cms_names.specs.Names.{is_between, is_name_character, filled}
use Rattle.cms_names.specs.declared.name.Name.{Name}
use Rattle.cms_names.specs.declared.name.Format.{Format}
use Rattle.cms_names.specs.declared.name.Format.TheVariants.{F, V}
use Rattle.cms_fields.specs.Steps.{◌>>◌, want}
use Rattle.cms_text.specs.Bytes.{word, byte, overwritten}
use Rattle.cms_fields.specs.Numbers.{up, is_shape}
use Rattle.cms_fields.specs.Stamps.{stamp_at, has_stamp, is_stamp, stamp_bytes, stamp_flags}
use Rattle.cms_fields.specs.declared.entry.Entry.{Entry}
use Rattle.cms_fields.specs.declared.entry.EntryFault as fault
use Rattle.cms_fields.specs.declared.entry.EntryFault.TheVariants as failed
use Rattle.cms_fields.specs.Limits.{longest_record, most_records, most_bytes}

-- the name characters with which a field of 8 bytes begins
abbrev pub part_in : List ℕ → List ℕ
part_in field = take_while is_name_character field

-- 1 to 8 name characters and then blanks
unfoldable pub is_part_field : List ℕ → Bool
is_part_field field = nat_le 1 (length (part_in field)) && list_all (λ x. x == 0x40) (drop (length (part_in field)) field)

-- the name in the first 16 bytes
unfoldable pub name_at : List ℕ → Name
name_at bytes = record { file = part_in (take 8 bytes); kind = part_in (take 8 (drop 8 bytes)) }

-- the format in byte 30
unfoldable pub format_at : List ℕ → Format
format_at bytes = if byte bytes 30 == 0xC6 then F else V

-- all records have one length
abbrev pub is_fixed : Format → Bool
is_fixed F = true
is_fixed V = false

-- the pointers in a block: 4 bytes each at F, 12 at V
abbrev pub fan_of : ℕ → Format → ℕ
fan_of bsize F = bsize / 4
fan_of bsize V = bsize / 12

-- the bytes of a pointer
abbrev pub pointer_size : Format → ℕ
pointer_size F = 4
pointer_size V = 12

-- what the bytes say
unfoldable pub entry_fields : List ℕ → Entry
entry_fields bytes = record {
  name = name_at bytes;
  number = byte bytes 25 - 0xF0;
  format = format_at bytes;
  length = word bytes 32;
  root = word bytes 40;
  blocks = word bytes 44;
  count = word bytes 48;
  levels = byte bytes 52;
  stamp = stamp_at bytes 54 (byte bytes 31);
}

-- both parts are 1 to 8 name characters and then blanks
unfoldable pub has_name : List ℕ → Bool
has_name bytes = is_part_field (take 8 bytes) && is_part_field (take 8 (drop 8 bytes))

-- the mode number is a digit from 0 to 6
unfoldable pub has_mode : List ℕ → Bool
has_mode bytes = is_between 0xF0 0xF6 (byte bytes 25)

-- the format is F or V
unfoldable pub has_format : List ℕ → Bool
has_format bytes = (byte bytes 30 == 0xC6) || (byte bytes 30 == 0xE5)

-- at F the records have 1 to 65,535 bytes
unfoldable pub length_fits : Entry → Bool
length_fits e = not (is_fixed e.format) || is_between 1 longest_record e.length

-- 1 to 1,048,576 records, and at F the data blocks that they fill, at V no more than 67,108,864 bytes of them
unfoldable pub counts_fit : ℕ → Entry → Bool
counts_fit bsize e =
    is_between 1 most_records e.count
    && (if is_fixed e.format then nat_le (e.count * e.length) most_bytes && (e.blocks == up (e.count * e.length) bsize)
    else is_between 1 (most_bytes / bsize) e.blocks)

-- the levels are those of a tree over the data blocks
unfoldable pub levels_fit : ℕ → Entry → Bool
levels_fit bsize e = is_shape (fan_of bsize e.format) e.blocks e.levels

-- where there are pointers, they have the size of the format's
unfoldable pub has_pointer_size : List ℕ → Bool
has_pointer_size bytes = (byte bytes 52 == 0) || (byte bytes 53 == pointer_size (format_at bytes))

-- the entry that the bytes spell at this block size, or the first test that they fail
unfoldable pub entry_of : ℕ → List ℕ → Result Entry fault.EntryFault
entry_of bsize bytes = do
  want (has_name bytes) failed.Name
  want (has_mode bytes) failed.Mode
  want (has_format bytes) failed.Format
  want (length_fits (entry_fields bytes)) failed.Length
  want (counts_fit bsize (entry_fields bytes)) failed.Counts
  want (levels_fit bsize (entry_fields bytes)) failed.Levels
  want (has_pointer_size bytes) failed.PointerSize
  want (has_stamp bytes 54 (byte bytes 31)) failed.Date
  Ok (entry_fields bytes)

-- the entry's fields pass the tests at this block size
unfoldable pub passes : ℕ → Entry → Bool
passes bsize e =
    nat_le e.number 6 && length_fits e && counts_fit bsize e && levels_fit bsize e && is_stamp e.stamp

-- F or V in EBCDIC
abbrev pub format_byte : Format → ℕ
format_byte F = 0xC6
format_byte V = 0xE5

-- the fields of an entry, each with its place: the mode's letter is A
unfoldable pub entry_table : Entry → List (ℕ × List ℕ)
entry_table e =
    (0, filled e.name.file) ∷ (8, filled e.name.kind)
    ∷ (24, 0xC1 ∷ (0xF0 + e.number) ∷ []) ∷ (30, format_byte e.format ∷ []) ∷ (31, stamp_flags e.stamp ∷ [])
    ∷ (32, big_bytes 4 e.length) ∷ (40, big_bytes 4 e.root) ∷ (44, big_bytes 4 e.blocks) ∷ (48, big_bytes 4 e.count)
    ∷ (52, e.levels ∷ []) ∷ (53, pointer_size e.format ∷ []) ∷ (54, stamp_bytes e.stamp) ∷ []

-- fields written at their places over the bytes, one after another
abbrev pub filled_in : List (ℕ × List ℕ) → List ℕ → List ℕ
filled_in [] bytes = bytes
filled_in (field ∷ table) bytes = filled_in table (overwritten field.0 field.1 bytes)

-- the 64 bytes that are written for an entry, zero where no field stands
abbrev pub entry_bytes : Entry → List ℕ
entry_bytes e = filled_in (entry_table e) (replicate 64 0)
