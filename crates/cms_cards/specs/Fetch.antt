-- A file that is found and read whole, so that it can be punched.
use Rattle.std.specs.Prelude.{ℕ, ◌&&◌, Bool, nat_lt, if◌then◌else◌, List, length, Result, Ok, Err}
use Rattle.cms_names.specs.declared.name.Name.{Name}
use Rattle.cms_text.specs.Numbers.{decimal_of}
use Rattle.cms_model.specs.Minidisks.{File}
use Rattle.cms_model.specs.Acts.{Act, Done, bind}
use Rattle.cms_line.specs.declared.message.Message.TheVariants.{M120, M123}
use Rattle.cms_line.specs.declared.token.Token.{Token}
use Rattle.cms_search.specs.ChangeTold.{limited}
use Rattle.cms_search.specs.DeviceSteps.{reading, silently}
use Rattle.cms_search.specs.Machine.{Course, Machine, OutOfTurns, letter_at, refusal}
use Rattle.cms_search.specs.Refusals.{device_fault}
use Rattle.cms_search.specs.Units.{vdev_of}
use Rattle.cms_search.specs.declared.fault.SearchFault.{SearchFault}
use Rattle.cms_files.specs.Files.{UnitFile, file_found, file_on, search_refused}
use Rattle.cms_files.specs.declared.identifier.FileInput.{FileInput}
use Rattle.cms_cards.specs.PunchedCards.{card_size}

-- what fetching comes to: a file of the disk of a letter; or it was refused, and the command ended so
pub data Fetched : Type 0 where
  HasFile : Machine → ℕ → File → Fetched
  IsRefused : Course → Fetched

-- a refusal ends it
abbrev pub refused : Act Course → Act Fetched
refused t = bind t (λ course. Done (IsRefused course))

-- the code of a file that isn't punched, or of a deck that isn't loaded
abbrev pub not_taken : ℕ
not_taken = 32

-- records that are longer than a card
abbrev pub too_long : Machine → Act Course
too_long s = refusal s M123 not_taken

-- the number of the limit of decks
abbrev pub deck_limit : ℕ
deck_limit = 6

-- the reader has as many decks as it may
abbrev pub too_many : Machine → Act Course
too_many s = refusal s (M120 (decimal_of deck_limit)) limited

-- all records are read: 105
abbrev pub read_whole : Machine → ℕ → UnitFile → Act Fetched
read_whole s n x =
    reading silently x.unit x.file (length x.file.records) (Done (HasFile s n x.file)) (refused (device_fault s (vdev_of s x.unit)))

-- a file that is there
abbrev pub read_there : Machine → ℕ → Result UnitFile SearchFault → Act Fetched
read_there s n (Ok x) = read_whole s n x
read_there s n (Err why) = Done (IsRefused OutOfTurns)

-- the reader has no room: 120; and before that, where records go onto cards: 123
abbrev pub read_fitting : Machine → Bool → Bool → ℕ → UnitFile → Act Fetched
read_fitting s narrow full n x =
    if narrow && nat_lt card_size x.file.length then refused (too_long s)
    else (if full then refused (too_many s) else read_whole s n x)

-- goes on with what a search found; or it is refused
abbrev pub on_search : {A : Type 0} → Machine → List Token → ℕ → (A → Act Fetched) → Result A SearchFault → Act Fetched
on_search s words place next (Ok x) = next x
on_search s words place next (Err why) = refused (search_refused s words place why)

-- the file of a name on the disk of letter n
abbrev pub fetch_on : Machine → List Token → ℕ → Bool → Bool → Name → ℕ → Act Fetched
fetch_on s words place narrow full name n =
    on_search s words place (read_fitting s narrow full n) (file_on s name (letter_at s n))

-- the file that a command reads, whose words stand from a place on: 069, 002, 123, 120 with 6, 105
abbrev pub fetching : Machine → List Token → ℕ → Bool → Bool → FileInput → Act Fetched
fetching s words place narrow full input =
    on_search s words place (λ found. fetch_on s words place narrow full input.name found.letter) (file_found s input)
