-- What the code of a turn has in hand: the statement that is due, and where it goes back at a fault.
use Rattle.std.specs.Prelude.{List, [], slice_get}
use Rattle.std.specs.Option.{option_map_or}
use Rattle.cms_text.specs.Texts.{Text}
use Rattle.exec2_parse.specs.Words.{statement_on}
use Rattle.exec2_run.specs.State.{Exec}
use Rattle.exec2_run.specs.declared.exec.Due.{Due}
use Rattle.exec2_run.specs.declared.exec.Due.TheVariants.{Action, Line}
use Rattle.exec2_run.specs.declared.exec.Place.{Place}

-- the words of the statement that is due: those of the error action, or those on the line at a place
abbrev pub words_due : Due → List Text
words_due (Action words) = words
words_due (Line lines place) = option_map_or statement_on (slice_get lines place) []

-- where a procedure stands, and what the error action does there
abbrev pub place_of : Exec → Place
place_of s = record { next = s.next; line = s.line; moment = s.moment; action = s.action }

-- a procedure at another place
abbrev pub at_place : Exec → Place → Exec
at_place s place =
    record s { next = place.next; line = place.line; moment = place.moment; action = place.action }
