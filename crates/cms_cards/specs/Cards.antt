-- PUNCH, READCARD and DISK: the machine, and beside it the decks of a virtual reader.
use Rattle.std.specs.Prelude.{ℕ, zero, suc, pos, negsuc, ◌==◌, Bool, true, false, List, [], ◌∷◌, ◌++◌, drop, length, slice_get, Option, Result, Ok, Err}
use Rattle.cms_model.specs.Minidisks.{File}
use Rattle.cms_model.specs.Acts.{Act, Done, bind}
use Rattle.cms_line.specs.declared.token.Token.{Token}
use Rattle.cms_operands.specs.Refusals.{code_of, message_of}
use Rattle.cms_operands.specs.declared.operand.WriteMode.{WriteMode}
use Rattle.cms_operands.specs.declared.refusal.Refusal.{Refusal}
use Rattle.cms_search.specs.Machine.{Course, Machine, Went, OutOfTurns, refusal}
use Rattle.cms_search.specs.Refusals.{on_line}
use Rattle.cms_files.specs.declared.identifier.FileInput.{FileInput}
use Rattle.cms_cards.specs.Dumps.{dump}
use Rattle.cms_cards.specs.Readers.{most_decks}
use Rattle.cms_cards.specs.Fetch.{Fetched, HasFile, IsRefused, fetching}
use Rattle.cms_cards.specs.FirstDeck.{loading, reading_cards}
use Rattle.cms_cards.specs.Lines.{disk_line, punch_line, read_line}
use Rattle.cms_cards.specs.PunchedCards.{Deck, Decks, punched}
use Rattle.cms_cards.specs.declared.command.CardCommand.{CardCommand}
use Rattle.cms_cards.specs.declared.command.CardCommand.TheVariants as command
use Rattle.cms_cards.specs.declared.line.DiskLine.{DiskLine}
use Rattle.cms_cards.specs.declared.line.DiskLine.TheVariants as line
use Rattle.cms_cards.specs.declared.line.PunchLine.{PunchLine}

-- how a command ends, and the decks that it leaves
pub record Dealt : Type 0 where
  pub course : Course
  pub decks : Decks

-- a command that ends so leaves these decks
abbrev pub dealt : Decks → Course → Dealt
dealt decks course = record { course = course; decks = decks }

-- the decks stay
abbrev pub keeping : Decks → Act Course → Act Dealt
keeping decks t = bind t (λ course. Done (dealt decks course))

-- goes on with what the line says; or it is refused
abbrev pub on_said : {A : Type 0} → Machine → Decks → List Token → (A → Act Dealt) → Result A Refusal → Act Dealt
on_said s decks words next (Ok x) = next x
on_said s decks words next (Err why) = keeping decks (refusal s (message_of words why) (code_of why))

-- ---- decks that are punched

-- there is no room for a deck more
abbrev pub is_full : Decks → Bool
is_full decks = length decks == most_decks

-- the deck of a file that was read comes behind all others
abbrev pub adding : Decks → (ℕ → File → Deck) → Fetched → Act Dealt
adding decks deck_of (HasFile s n f) = Done (dealt (decks ++ deck_of n f ∷ []) (Went s (pos 0)))
adding decks deck_of (IsRefused course) = Done (dealt decks course)

-- the file that the line says is read, and punched onto a deck
abbrev pub punch_file : Machine → Decks → List Token → PunchLine → Act Dealt
punch_file s decks words l = bind (fetching s words 1 true (is_full decks) l.input) (adding decks (punched l.header))

-- PUNCH: the records of a file are punched
abbrev pub punch : Machine → Decks → List Token → Act Dealt
punch s decks words = on_said s decks words (punch_file s decks words) (punch_line words)

-- ---- decks that are taken

-- the first deck goes where the file was written from it, and so the command came to code 0
abbrev pub decks_behind : Decks → Course → Decks
decks_behind decks (Went s (pos zero)) = drop 1 decks
decks_behind decks (Went s (pos (suc code))) = decks
decks_behind decks (Went s (negsuc code)) = decks
decks_behind decks OutOfTurns = decks

-- what a command does that writes a file from the first deck, beside the decks
abbrev pub taking : Decks → Act Course → Act Dealt
taking decks t = bind t (λ course. Done (dealt (decks_behind decks course) course))

-- what READCARD's line says is written from the first deck
abbrev pub read_first : Machine → List Token → Option Deck → Act Course
read_first s words first = on_line s words (reading_cards s words first) (read_line words)

-- READCARD: the cards of the first deck are written as a file
abbrev pub readcard : Machine → Decks → List Token → Act Dealt
readcard s decks words = taking decks (read_first s words (slice_get decks 0))

-- ---- DISK

-- DUMP: a file is dumped onto a deck
abbrev pub dump_file : Machine → Decks → List Token → FileInput → Act Dealt
dump_file s decks words input = bind (fetching s words 2 false (is_full decks) input) (adding decks (λ n f. dump f))

-- LOAD: the first deck is loaded
abbrev pub load_deck : Machine → Decks → List Token → WriteMode → Act Dealt
load_deck s decks words mode = taking decks (loading s words (slice_get decks 0) mode)

-- DUMP or LOAD, as the line says
abbrev pub disk_by : Machine → Decks → List Token → DiskLine → Act Dealt
disk_by s decks words (line.Dump input) = dump_file s decks words input
disk_by s decks words (line.Load mode) = load_deck s decks words mode

-- DISK: a file is dumped onto a deck, or loaded from one
abbrev pub disk : Machine → Decks → List Token → Act Dealt
disk s decks words = on_said s decks words (disk_by s decks words) (disk_line words)

-- ---- the command of a word

-- PUNCH, READCARD or DISK, by the words of its line
abbrev pub cards : Machine → Decks → List Token → CardCommand → Act Dealt
cards s decks words command.Punch = punch s decks words
cards s decks words command.Readcard = readcard s decks words
cards s decks words command.Disk = disk s decks words
