-- Machines on which examples run, and what is seen of them.
use Rattle.std.proofs.Common.{ℕ, ℤ, pos, true, List, [], ◌∷◌, ◌++◌, Option, Some, None}
use Rattle.std.specs.FinMap.{empty}
use Rattle.cms_fields.specs.declared.time.Moment.{Moment}
use Rattle.cms_text.specs.Texts.{ebcdic}
use Rattle.cms_model.specs.Acts.{Act}
use Rattle.cms_model.specs.Feeds.{Fed, Close, Over, WaitsForScript, WaitsForMoment, WaitsForObject, feed}
use Rattle.cms_model.specs.Items.{Item}
use Rattle.cms_model.specs.Slots.{Slot}
use Rattle.cms_model.specs.Steps.{Outcome}
use Rattle.cms_model.specs.Traces.{bytes_of}
use Rattle.cms_line.specs.Tokens.{tokens_of}
use Rattle.cms_line.specs.declared.token.Token.{Token}
use Rattle.cms_search.specs.Machine.{Letter, Machine, Course, Went, OutOfTurns}
use Rattle.cms_search.specs.declared.state.Device.{Device}

-- ---- machines

unfoldable pub moment : Moment
moment = record { year = 2000; month = 1; day = 1; hour = 0; minute = 0; second = 1 }

abbrev pub machine : List Slot → List Device → List (Option Letter) → Machine
machine units devices letters = record {
  units = units;
  devices = devices;
  letters = letters;
  stack = [];
  places = empty;
  offset = pos 0;
  moment = moment;
  left = 10;
}

abbrev pub words : List ℕ → List Token
words line = tokens_of (ebcdic line)

-- ---- answers

-- what is typed, and the code where the command ended with one
pub record Answer : Type 0 where
  pub typed : List ℕ
  pub code : Option ℤ

abbrev pub code_in : Close Course → Option ℤ
code_in (Over (Went s code)) = Some code
code_in (Over OutOfTurns) = None
code_in WaitsForScript = None
code_in WaitsForMoment = None
code_in WaitsForObject = None

abbrev pub answer_in : Fed Course → Answer
answer_in f = record { typed = bytes_of f.trace; code = code_in f.close }

-- where these items stand in the console, the clock tells these seconds, and the steps have these outcomes
abbrev pub answer_asked : Act Course → List Item → List ℤ → List Outcome → Answer
answer_asked tree console seconds outcomes = answer_in (feed tree console true seconds outcomes [])

-- where nothing is asked for, and the steps have these outcomes
abbrev pub answer : Act Course → List Outcome → Answer
answer tree outcomes = answer_asked tree [] [] outcomes

abbrev pub lines : List (List ℕ) → List ℕ
lines [] = []
lines (line ∷ more) = line ++ 10 ∷ lines more

abbrev pub types : List (List ℕ) → ℕ → Answer
types typed code = record { typed = lines typed; code = Some (pos code) }
