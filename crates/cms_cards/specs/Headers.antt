-- What a dump says of a file in front of its stored bytes, in 37 bytes.
use Rattle.std.specs.Prelude.{ℕ, ◌+◌, ◌==◌, ◌&&◌, Bool, nat_le, if◌then◌else◌, List, [], ◌∷◌, length, take, drop, replicate, Option, Some, None}
use Rattle.std.specs.Option.{option_and_then}
use Rattle.byteorder.specs.Endian.{big_bytes}
use Rattle.cms_names.specs.Modes.{mode_number_of}
use Rattle.cms_names.specs.Names.{filled, is_between}
use Rattle.cms_names.specs.declared.name.Format.{Format}
use Rattle.cms_names.specs.declared.name.Format.TheVariants.{F, V}
use Rattle.cms_names.specs.declared.name.Name.{Name}
use Rattle.cms_text.specs.Bytes.{byte, word}
use Rattle.cms_fields.specs.Entries.{filled_in, format_byte, is_part_field, part_in}
use Rattle.cms_fields.specs.Limits.{longest_record}
use Rattle.cms_fields.specs.Stamps.{stamp_bytes, stamp_flags, stamp_in}
use Rattle.cms_fields.specs.declared.time.Stamp.{Stamp}
use Rattle.cms_cards.specs.declared.header.Header.{Header}

-- the bytes of a header
abbrev pub header_size : ℕ
header_size = 37

-- the fields, each with its place: name, mode number, format, length, records, stored bytes, date and flags
unfoldable pub header_table : Header → List (ℕ × List ℕ)
header_table h =
    (0, filled h.name.file) ∷ (8, filled h.name.kind) ∷ (16, (0xF0 + h.number) ∷ []) ∷ (17, format_byte h.format ∷ [])
    ∷ (18, big_bytes 4 h.length) ∷ (22, big_bytes 4 h.count) ∷ (26, big_bytes 4 h.stored)
    ∷ (30, stamp_bytes h.stamp) ∷ (36, stamp_flags h.stamp ∷ []) ∷ []

-- the bytes of a header
abbrev pub header_bytes : Header → List ℕ
header_bytes h = filled_in (header_table h) (replicate header_size 0)

-- ---- a header that is read

-- the part of a name in a field of 8 bytes
abbrev pub field_part : List ℕ → Option (List ℕ)
field_part field = if is_part_field field then Some (part_in field) else None

-- the format of a byte
unfoldable pub format_of : ℕ → Option Format
format_of b = if b == 0xC6 then Some F else (if b == 0xE5 then Some V else None)

-- the name with which a text begins
unfoldable pub name_in : List ℕ → Option Name
name_in text =
    option_and_then (λ file. option_and_then (λ kind. Some (record { file = file; kind = kind })) (field_part (take 8 (drop 8 text))))
    (field_part (take 8 text))

-- the stamp in a header's date and flags
abbrev pub header_stamp : List ℕ → Option Stamp
header_stamp text = stamp_in (take 6 (drop 30 text)) (byte text 36)

-- a file has a record at least, and records have 1 to 65,535 bytes
abbrev pub sizes_fit : Header → Bool
sizes_fit h = is_between 1 longest_record h.length && nat_le 1 h.count

-- the header, where its sizes are those of a file
abbrev pub sized : Header → Option Header
sized h = if sizes_fit h then Some h else None

-- the header of these fields and of the sizes in a text
abbrev pub with_sizes : List ℕ → Name → ℕ → Format → Stamp → Header
with_sizes text name number format stamp = record {
  name = name;
  number = number;
  format = format;
  length = word text 18;
  count = word text 22;
  stored = word text 26;
  stamp = stamp;
}

-- the header with which a text of 37 bytes or more begins
unfoldable pub fields_in : List ℕ → Option Header
fields_in text =
    option_and_then (λ name. option_and_then (λ number. option_and_then (λ format. option_and_then (λ stamp.
    sized (with_sizes text name number format stamp))
    (header_stamp text)) (format_of (byte text 17))) (mode_number_of (byte text 16))) (name_in text)

-- the header with which a text begins, if it is one of a file
abbrev pub header_in : List ℕ → Option Header
header_in text = if nat_le header_size (length text) then fields_in text else None
