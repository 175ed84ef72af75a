-- The cards onto which a file's records are punched, and the records that cards are.
use Rattle.std.specs.Prelude.{ℕ, ◌&&◌, Bool, true, false, nat_lt, if◌then◌else◌, List, [], ◌∷◌, ◌++◌, codes, drop, length, map, nat_eq, slice_index_or}
use Rattle.std.specs.List.{starts_with}
use Rattle.cms_names.specs.Names.{filled}
use Rattle.cms_names.specs.declared.name.Name.{Name}
use Rattle.cms_text.specs.Texts.{coded}
use Rattle.cms_model.specs.Minidisks.{File}
use Rattle.cms_records.specs.Views.{fitted}
use Rattle.cms_files.specs.Files.{mode_text}

-- a deck: cards of 80 bytes
abbrev pub Deck : Type 0
Deck = List (List ℕ)

-- decks, the first punched first
abbrev pub Decks : Type 0
Decks = List Deck

-- the bytes of a card
abbrev pub card_size : ℕ
card_size = 80

-- a text on a card, with blanks behind it
abbrev pub card_of : List ℕ → List ℕ
card_of text = fitted text card_size 0x40

-- the first bytes of a card that tells of the file behind it
abbrev pub read_mark : List ℕ
read_mark = coded (codes ":READ  ")

-- what such a card says: the mark, the name and the type in 8 bytes each, and the mode, with one blank between
abbrev pub read_text : ℕ → Name → ℕ → List ℕ
read_text n name number = read_mark ++ (filled name.file ++ 0x40 ∷ (filled name.kind ++ 0x40 ∷ mode_text n number))

-- the card that tells of the file, where one is wanted
abbrev pub header_cards : Bool → ℕ → File → List (List ℕ)
header_cards true n f = card_of (read_text n f.name f.number) ∷ []
header_cards false n f = []

-- the deck onto which a file of the disk of letter n is punched: its records, filled with blanks
abbrev pub punched : Bool → ℕ → File → Deck
punched header n f = header_cards header n f ++ map card_of f.records

-- a card tells of the file behind it
abbrev pub tells : List ℕ → Bool
tells card = starts_with nat_eq card read_mark

-- the cards of a deck that are records: a first card that tells of a file is none, where another follows
abbrev pub record_cards : Deck → List (List ℕ)
record_cards deck = if nat_lt 1 (length deck) && tells (slice_index_or deck 0 []) then drop 1 deck else deck
