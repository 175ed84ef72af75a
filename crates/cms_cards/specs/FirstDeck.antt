-- A file that is written from the first deck of the reader.
use Rattle.std.specs.Prelude.{ℕ, List, map, unwrap_or, Option, Some, None, Result, Ok, Err}
use Rattle.cms_names.specs.declared.name.Format.TheVariants.{F}
use Rattle.cms_names.specs.declared.name.Name.{Name}
use Rattle.cms_fields.specs.Moments.{stamp_of}
use Rattle.cms_model.specs.Changes.{Put}
use Rattle.cms_model.specs.Minidisks.{File}
use Rattle.cms_model.specs.Acts.{Act}
use Rattle.cms_line.specs.declared.message.Message.TheVariants.{M124, M125}
use Rattle.cms_line.specs.declared.token.Token.{Token}
use Rattle.cms_operands.specs.declared.operand.WriteMode.{WriteMode}
use Rattle.cms_search.specs.Machine.{Course, Machine, letter_at, refusal}
use Rattle.cms_search.specs.Searches.{shelves_in}
use Rattle.cms_search.specs.declared.fault.SearchFault.{SearchFault}
use Rattle.cms_files.specs.Files.{UnitFile, file_on, no_file_code, on_found, writable}
use Rattle.cms_files.specs.Updates.{last_update}
use Rattle.cms_cards.specs.Dumps.{load}
use Rattle.cms_cards.specs.Fetch.{not_taken}
use Rattle.cms_cards.specs.PunchedCards.{Deck, card_of, card_size, record_cards}
use Rattle.cms_cards.specs.declared.line.ReadTarget.{ReadTarget}

-- goes on with the first deck: 124
abbrev pub on_deck : Machine → (Deck → Act Course) → Option Deck → Act Course
on_deck s next None = refusal s M124 no_file_code
on_deck s next (Some deck) = next deck

-- ---- READCARD

-- a file that is there keeps its number; else it has the operand's, or 1
abbrev pub number_for : Option ℕ → Result UnitFile SearchFault → ℕ
number_for given (Ok x) = x.file.number
number_for given (Err why) = unwrap_or given 1

-- the file of these cards, each a record of 80 bytes, at the turn's moment
abbrev pub cards_file : Machine → Name → ℕ → List (List ℕ) → File
cards_file s name number cards = record {
  name = name;
  number = number;
  format = F;
  length = card_size;
  stamp = stamp_of s.moment;
  records = map card_of cards;
}

-- what is written from a deck
abbrev pub read_file : Machine → ReadTarget → Deck → File
read_file s target deck =
    cards_file s target.name (number_for target.mode.number (file_on s target.name (letter_at s target.mode.letter))) (record_cards deck)

-- the cards of the first deck are written as a file: 069, 037, 124, 120, 107, 105
abbrev pub write_cards : Machine → ReadTarget → Deck → Act Course
write_cards s target deck = last_update s target.mode.letter (Put (read_file s target deck))

-- so they are where the disk of the letter may be written and a deck is there; else it is refused
abbrev pub reading_cards : Machine → List Token → Option Deck → ReadTarget → Act Course
reading_cards s words first target =
    on_found s words 1 (λ shelf. on_deck s (write_cards s target) first) (writable (shelves_in s) target.mode.letter)

-- ---- DISK LOAD

-- goes on with the file that was dumped: 125
abbrev pub on_dump : Machine → (File → Act Course) → Option File → Act Course
on_dump s next None = refusal s M125 not_taken
on_dump s next (Some f) = next f

-- the file whose dump the first deck is, is written, with its name, number and stamp: 069, 037, 124, 125, 120, 107, 105
abbrev pub write_dump : Machine → ℕ → Deck → Act Course
write_dump s n deck = on_dump s (λ f. last_update s n (Put f)) (load deck)

-- so it is where the disk of the letter may be written and a deck is there; else it is refused
abbrev pub loading : Machine → List Token → Option Deck → WriteMode → Act Course
loading s words first mode =
    on_found s words 2 (λ shelf. on_deck s (write_dump s mode.letter) first) (writable (shelves_in s) mode.letter)
