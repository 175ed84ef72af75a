-- Worked examples of decks.
use Rattle.std.proofs.Common.{◌≡◌, ℕ, List, [], ◌∷◌, ◌++◌, Some, None, refl, replicate}
use Rattle.cms_names.specs.Names.{filled, is_name_character}
use Rattle.cms_names.specs.Modes.{mode_number_of}
use Rattle.cms_names.specs.declared.name.Format.TheVariants.{V}
use Rattle.cms_text.specs.Bytes.{half, word}
use Rattle.cms_fields.specs.Entries.{is_part_field}
use Rattle.cms_fields.specs.Stamps.{are_packed, days_of_month, has_stamp, is_stamp, stamp_at, stamp_bytes, stamp_flags, stamp_in}
use Rattle.cms_model.specs.Lists.{cut}
use Rattle.cms_model.specs.Minidisks.{File}
use Rattle.cms_model.specs.Records.{longest, varying}
use Rattle.cms_cards.specs.Dumps.{cards_of, deck_text, dump, file_in, load, numbered}
use Rattle.cms_cards.specs.Headers.{fields_in, format_of, header_table, name_in}
use Rattle.cms_cards.specs.Stored.{filling}

-- HELLO, in A FILE A1 of 1900-01-01 00:00:02
hello : File
hello = record {
  name = record { file = 0xC1 ∷ []; kind = 0xC6 ∷ 0xC9 ∷ 0xD3 ∷ 0xC5 ∷ [] };
  number = 1;
  format = V;
  length = 5;
  stamp = record { year = 1900; month = 1; day = 1; hour = 0; minute = 0; second = 2 };
  records = (0xC8 ∷ 0xC5 ∷ 0xD3 ∷ 0xD3 ∷ 0xD6 ∷ []) ∷ [];
}

-- its one card, up to the zeros that fill it
front : List ℕ
front =
    0xC3 ∷ 0xD4 ∷ 0xE2 ∷ 0xC4 ∷ 0 ∷ 0 ∷ 0 ∷ 0
    ∷ 0xC1 ∷ 0x40 ∷ 0x40 ∷ 0x40 ∷ 0x40 ∷ 0x40 ∷ 0x40 ∷ 0x40
    ∷ 0xC6 ∷ 0xC9 ∷ 0xD3 ∷ 0xC5 ∷ 0x40 ∷ 0x40 ∷ 0x40 ∷ 0x40
    ∷ 0xF1 ∷ 0xE5 ∷ 0 ∷ 0 ∷ 0 ∷ 5 ∷ 0 ∷ 0 ∷ 0 ∷ 1 ∷ 0 ∷ 0 ∷ 0 ∷ 7
    ∷ 0 ∷ 1 ∷ 1 ∷ 0 ∷ 0 ∷ 2 ∷ 0
    ∷ 0 ∷ 5 ∷ 0xC8 ∷ 0xC5 ∷ 0xD3 ∷ 0xD3 ∷ 0xD6 ∷ []

dumped : dump hello ≡ (front ++ replicate 28 0) ∷ []
unfolding hello front dump cards_of numbered cut header_table filled stamp_bytes stamp_flags
dumped = refl

-- it is loaded again
loaded : load ((front ++ replicate 28 0) ∷ []) ≡ Some hello
unfolding hello front load file_in deck_text fields_in name_in format_of is_part_field is_name_character mode_number_of stamp_in has_stamp are_packed is_stamp stamp_at days_of_month word half filling varying longest dump cards_of numbered cut header_table filled stamp_bytes stamp_flags
loaded = refl

-- but not where another byte stands behind the text
unloaded : load ((front ++ replicate 27 0 ++ 1 ∷ []) ∷ []) ≡ None
unfolding hello front load file_in deck_text fields_in name_in format_of is_part_field is_name_character mode_number_of stamp_in has_stamp are_packed is_stamp stamp_at days_of_month word half filling varying longest dump cards_of numbered cut header_table filled stamp_bytes stamp_flags
unloaded = refl
