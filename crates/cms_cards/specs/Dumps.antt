-- A file on the cards of a deck: DISK DUMP punches it, and DISK LOAD takes it back.
use Rattle.std.specs.Prelude.{◌≡◌, ◌↔◌, ℕ, ◌+◌, ◌<◌, ◌≤◌, ◌^◌, Bool, true, if◌then◌else◌, List, [], ◌∷◌, ◌++◌, length, take, drop, map, All, Option, Some, None}
use Rattle.std.specs.Cmp.Lexicographic.{pointwise}
use Rattle.std.specs.List.{concat}
use Rattle.std.specs.Option.{option_and_then, option_map}
use Rattle.std.specs.Str.{bytes_eq}
use Rattle.byteorder.specs.Endian.{big_bytes}
use Rattle.cms_names.specs.Names.{is_part}
use Rattle.cms_names.specs.declared.name.Name.{Name}
use Rattle.cms_fields.specs.Limits.{longest_record}
use Rattle.cms_fields.specs.Numbers.{up}
use Rattle.cms_fields.specs.Stamps.{is_stamp}
use Rattle.cms_model.specs.LawsRecords.{AreBytes}
use Rattle.cms_model.specs.Lists.{cut}
use Rattle.cms_model.specs.Minidisks.{File}
use Rattle.cms_model.specs.Records.{Fits, StandsFor, length_of, stored}
use Rattle.cms_model.specs.declared.file.FileData.{FileData}
use Rattle.cms_records.specs.Views.{fitted}
use Rattle.cms_cards.specs.Headers.{header_bytes, header_in, header_size}
use Rattle.cms_cards.specs.Stored.{filling}
use Rattle.cms_cards.specs.declared.header.Header.{Header}

-- ---- a file that is dumped

-- the first bytes of each card of a dump: CMSD
abbrev pub dump_mark : List ℕ
dump_mark = 0xC3 ∷ 0xD4 ∷ 0xE2 ∷ 0xC4 ∷ []

-- the bytes of a card behind the mark and the card's number
abbrev pub piece_size : ℕ
piece_size = 72

-- a card of a dump: the mark, its number in four bytes, and a piece of the text, filled with zeros
abbrev pub dump_card : ℕ → List ℕ → List ℕ
dump_card number piece = dump_mark ++ (big_bytes 4 number ++ fitted piece piece_size 0)

-- the cards of pieces that follow one another, with numbers from one on
unfoldable pub numbered : ℕ → List (List ℕ) → List (List ℕ)
numbered number [] = []
numbered number (piece ∷ pieces) = dump_card number piece ∷ numbered (number + 1) pieces

-- a text on cards
unfoldable pub cards_of : List ℕ → List (List ℕ)
cards_of text = numbered 0 (cut (up (length text) piece_size) piece_size text)

-- what is said of a file
abbrev pub header_of : File → Header
header_of f = record {
  name = f.name;
  number = f.number;
  format = f.format;
  length = f.length;
  count = length f.records;
  stored = length (stored f.format f.records);
  stamp = f.stamp;
}

-- a file's header and its stored bytes
abbrev pub dump_text : File → List ℕ
dump_text f = header_bytes (header_of f) ++ stored f.format f.records

-- the deck onto which a file is dumped
unfoldable pub dump : File → List (List ℕ)
dump f = cards_of (dump_text f)

-- ---- a deck that is loaded

-- what stands on a card behind mark and number
abbrev pub card_piece : List ℕ → List ℕ
card_piece card = take piece_size (drop 8 card)

-- the same of all cards
unfoldable pub deck_text : List (List ℕ) → List ℕ
deck_text deck = concat (map card_piece deck)

-- the file of a header and of records
abbrev pub file_of : Header → List (List ℕ) → File
file_of h records = record {
  name = h.name;
  number = h.number;
  format = h.format;
  length = h.length;
  stamp = h.stamp;
  records = records;
}

-- the file whose stored bytes stand first in a text
abbrev pub file_behind : List ℕ → Header → Option File
file_behind bytes h = option_map (file_of h) (filling h.format h.length h.count (take h.stored bytes))

-- the file of which a text tells, whatever follows it
unfoldable pub file_in : List ℕ → Option File
file_in text = option_and_then (file_behind (drop header_size text)) (header_in text)

-- two decks are the same, card by card
abbrev pub same_cards : List (List ℕ) → List (List ℕ) → Bool
same_cards = pointwise bytes_eq

-- a file, where its dump is this deck
abbrev pub dumped_onto : List (List ℕ) → File → Option File
dumped_onto deck f = if same_cards (dump f) deck then Some f else None

-- the file whose dump a deck is, if it is one
unfoldable pub load : List (List ℕ) → Option File
load deck = option_and_then (dumped_onto deck) (file_in (deck_text deck))

-- ---- what holds of both

-- a file as a minidisk may have it, or one that only the limits of a minidisk keep out
pub record IsFile (f : File) : Type 0 where
  pub file_part : is_part f.name.file ≡ true
  pub kind_part : is_part f.name.kind ≡ true
  pub number_fits : f.number ≤ 6
  pub each : All (Fits f.format f.length) f.records
  pub length_is : f.length ≡ length_of f.format f.length f.records
  pub length_fits : (1 ≤ f.length) × (f.length ≤ longest_record)
  pub some : 1 ≤ length f.records
  pub few : length f.records < 2 ^ 32
  pub small : length (stored f.format f.records) < 2 ^ 32
  pub stamp_is : is_stamp f.stamp ≡ true

-- a deck is loaded as the file whose dump it is, and as no other
abbrev pub LoadsDumps : Type 0
LoadsDumps =
    (deck : List (List ℕ)) (f : File) → AreBytes (deck_text deck) → (load deck ≡ Some f) ↔ (IsFile f × (dump f ≡ deck))

-- ---- the calls

-- a file as it is handed about, with its name and these records
abbrev pub file_with : Name → FileData → List (List ℕ) → File
file_with name f records = record {
  name = name;
  number = f.number;
  format = f.format;
  length = f.length;
  stamp = f.stamp;
  records = records;
}

-- what is said of such a file
abbrev pub header_with : Name → FileData → Header
header_with name f = record {
  name = name;
  number = f.number;
  format = f.format;
  length = f.length;
  count = f.count;
  stored = length f.bytes;
  stamp = f.stamp;
}

-- its header and its stored bytes
abbrev pub data_text : Name → FileData → List ℕ
data_text name f = header_bytes (header_with name f) ++ f.bytes

-- the deck onto which such a file is dumped
abbrev pub IsDumpOf : Name → FileData → List (List ℕ) → Type 0
IsDumpOf name f deck = (records : List (List ℕ)) → StandsFor f records → deck ≡ dump (file_with name f records)

-- a name and data are those of a file, or there is none
abbrev pub AreOf : Option File → Option (Name × FileData) → Type 0
AreOf file None = file ≡ None
AreOf file (Some of) =
    (records : List (List ℕ)) × StandsFor of.1 records × (file ≡ Some (file_with of.0 of.1 records))
