-- What the calls' values mean.
use Rattle.std.specs.Prelude.{◌≡◌, ⊤, ℕ, zero, suc, pos, negsuc, drop, Bool, false, List, Option, Some, None, unwrap_or, Result, Ok, Err}
use Rattle.cms_names.specs.declared.name.Name.{Name}
use Rattle.cms_model.specs.Acts.{Act}
use Rattle.cms_model.specs.Slots.{Slot}
use Rattle.cms_line.specs.declared.token.Token.{Token}
use Rattle.cms_model.specs.Records.{IsValid}
use Rattle.cms_records.specs.Stored.{records_in}
use Rattle.cms_edf.specs.declared.held.FileInfo.{FileInfo}
use Rattle.cms_search.specs.Calls.{Meaning, course_of, machine_of}
use Rattle.cms_search.specs.declared.state.Course as declared_course
use Rattle.cms_search.specs.declared.state.Course.TheVariants as course
use Rattle.cms_search.specs.declared.state.End.{End}
use Rattle.cms_search.specs.declared.state.State.{State}
use Rattle.cms_cards.specs.Dumps.{file_with}
use Rattle.cms_cards.specs.Cards.{Dealt, cards, dealt}
use Rattle.cms_cards.specs.Fetch.{Fetched, HasFile, IsRefused}
use Rattle.cms_cards.specs.PunchedCards.{Decks}
use Rattle.cms_cards.specs.declared.command.CardCommand.{CardCommand}
use Rattle.cms_cards.specs.declared.fetch.Fetched as declared
use Rattle.cms_cards.specs.declared.fetch.Fetched.TheVariants as came

-- what fetching the file of a name came to, with the state that is left
abbrev pub fetched_of : State → Name → Meaning declared.Fetched Fetched
fetched_of s name units (came.File letter data') = HasFile (machine_of s units) letter (file_with name data' (records_in data'))
fetched_of s name units (came.Refused course) = IsRefused (course_of s units course)

-- a refusal's course is what fetching comes to
abbrev pub with_refused : Result declared_course.Course End → Result declared.Fetched End
with_refused (Ok course) = Ok (came.Refused course)
with_refused (Err e) = Err e

-- how a command ends, with the state and the decks that are left
abbrev pub dealt_of : State → Decks → Meaning declared_course.Course Dealt
dealt_of s decks units course = dealt decks (course_of s units course)

-- a command on cards, on whichever units the machine holds
abbrev pub cards_tree : State → Decks → List Token → CardCommand → List Slot → Act Dealt
cards_tree s decks words command units = cards (machine_of s units) decks words command

-- a file was fetched where the reader had room, and is valid
abbrev pub IsTaken : Bool → declared.Fetched → Type 0
IsTaken full (came.File letter data') = (full ≡ false) × IsValid data'
IsTaken full (came.Refused course) = ⊤

-- the number of a file of which this is told; of a new one the one that is given, or 1
abbrev pub number_told : Option ℕ → Option FileInfo → ℕ
number_told given None = unwrap_or given 1
number_told given (Some info) = info.number

-- the decks behind a command that takes the first where it came to code 0
abbrev pub decks_left : Decks → declared_course.Course → Decks
decks_left decks (course.Went (pos zero)) = drop 1 decks
decks_left decks (course.Went (pos (suc code))) = decks
decks_left decks (course.Went (negsuc code)) = decks
decks_left decks course.OutOfTurns = decks
