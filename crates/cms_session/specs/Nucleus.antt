-- NUCXDROP and NUCXMAP: the words of the extensions.
use Rattle.std.specs.Prelude.{ℕ, pos, ⊤, List, remove, Option, Some, None, Result, Ok, Err}
use Rattle.cms_fields.specs.Steps.{◌>>=◌, ◌>>◌}
use Rattle.cms_model.specs.Acts.{Act, Done, Drops, bind}
use Rattle.cms_model.specs.Objects.{Object}
use Rattle.cms_line.specs.declared.message.Message.TheVariants.{M122}
use Rattle.cms_line.specs.declared.token.Token.{Token}
use Rattle.cms_operands.specs.Choices.{without_options}
use Rattle.cms_operands.specs.Operands.{ended, name, needed, operands_of}
use Rattle.cms_operands.specs.Refusals.{code_of, message_of}
use Rattle.cms_operands.specs.declared.refusal.Refusal.{Refusal}
use Rattle.cms_search.specs.Machine.{Course, Machine, refusal, typing}
use Rattle.cms_search.specs.Machine as course
use Rattle.cms_search.specs.Refusals.{on_line}
use Rattle.cms_ext.specs.Extensions.{Desk, Ended, Went, OutOfTurns, desk}
use Rattle.cms_ext.specs.Objects.{place_of}

-- ---- commands that know of no object

-- one asks and drops none, so it leaves them
abbrev pub ended_with : List Object → Course → Ended
ended_with objects (course.Went s code) = Went (desk s objects) code
ended_with objects course.OutOfTurns = OutOfTurns

-- what such a command does, beside the objects that it leaves
abbrev pub leaving_to : List Object → Act Course → Act Ended
leaving_to objects t = bind t (λ c. Done (ended_with objects c))

-- ---- NUCXDROP word

-- the operand is one word, which has the form of a name
unfoldable pub drop_operands : List Token → Result (List ℕ) Refusal
drop_operands operands = do
  text ← needed operands 1
  word ← name 1 text
  ended operands 2
  Ok word

-- there are no options
abbrev pub drop_line : List Token → Result (List ℕ) Refusal
drop_line words = without_options words (drop_operands (operands_of words))

-- the code where no object stands under a word
abbrev pub none_there : ℕ
none_there = 28

-- the object in this place is taken out and dropped, and those behind it move up; where there is none: 122
abbrev pub dropping : Desk → List ℕ → Option ℕ → Act Ended
dropping d word None = leaving_to d.objects (refusal d.machine (M122 word) none_there)
dropping d word (Some place) = Drops place (Done (Went (desk d.machine (remove d.objects place)) (pos 0)))

-- the object of the word that the line gives is dropped; or the line is refused
abbrev pub dropped_by : Desk → List Token → Result (List ℕ) Refusal → Act Ended
dropped_by d words (Ok word) = dropping d word (place_of word d.objects)
dropped_by d words (Err why) = leaving_to d.objects (refusal d.machine (message_of words why) (code_of why))

-- the command: the object under its word is taken out and dropped
abbrev pub nucxdrop : Desk → List Token → Act Ended
nucxdrop d words = dropped_by d words (drop_line words)

-- ---- NUCXMAP

-- there are no operands
abbrev pub map_line : List Token → Result ⊤ Refusal
map_line words = without_options words (ended (operands_of words) 1)

-- the words of the extensions are typed in their order, one per line
abbrev pub mapping : List (List ℕ) → Machine → ⊤ → Act Course
mapping under s x = typing under (Done (course.Went s (pos 0)))

-- the command: these words are typed, where the line has neither operand nor option
abbrev pub nucxmap : Machine → List (List ℕ) → List Token → Act Course
nucxmap s under words = on_line s words (mapping under s) (map_line words)
