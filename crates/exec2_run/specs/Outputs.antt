-- &TYPE, &BEGTYPE, &STACK, &BEGSTACK and &COMMAND (VM/SP EXEC 2 Reference, these statements).
use Rattle.std.specs.Prelude.{ℕ, ◌+◌, Bool, ◌||◌, if◌then◌else◌, List, [], ◌∷◌, ◌++◌, drop, codes, Result, Ok, Err}
use Rattle.cms_fields.specs.Steps.{◌>>=◌, ◌>>◌}
use Rattle.cms_text.specs.Texts.{Text, first_word, is_keyword}
use Rattle.exec2_run.specs.Given.{seen}
use Rattle.exec2_run.specs.State.{Exec, Step}
use Rattle.exec2_run.specs.Values.{ended, operands, text}
use Rattle.exec2_run.specs.declared.output.Block.{Block}
use Rattle.exec2_run.specs.declared.want.Side.{Side}
use Rattle.exec2_run.specs.declared.want.Side.TheVariants.{Front, Back}
use Rattle.exec2_run.specs.declared.want.Want.{Want}
use Rattle.exec2_run.specs.declared.want.Want.TheVariants.{Say, Stack, Command}
use Rattle.exec2_run.specs.declared.fault.Fault.{Fault}
use Rattle.exec2_run.specs.declared.fault.Fault.TheVariants.{NoEnd}

-- the words' text as the only line
abbrev pub text_line : Exec → List Text → Result (List Text) Fault
text_line s words = do
  line ← text (seen s) words
  Ok (line ∷ [])

-- &TYPE text
unfoldable pub typed : Exec → List Text → Result Want Fault
typed s words = do
  lines ← text_line s words
  Ok (Say lines)

-- &COMMAND text
unfoldable pub issued : Exec → List Text → Result Want Fault
issued s words = do
  line ← text (seen s) words
  Ok (Command line)

-- no word stands behind
unfoldable pub no_words : Exec → List Text → Result (Unit {0}) Fault
no_words s words = ended (operands (seen s) words).words (operands (seen s) words).is_cut

-- a line whose first word is &END
abbrev pub is_end : Text → Bool
is_end line = is_keyword (codes "&END") (first_word line)

-- lines in front of others
abbrev pub in_front : List Text → Result Block Fault → Result Block Fault
in_front lines (Ok more) = Ok (record { lines = lines ++ more.lines; past = more.past })
in_front lines (Err fault) = Err fault

-- the lines up to the first such line, as they are, and the place behind it, where the first stands at this place
unfoldable pub block_from : ℕ → List Text → Result Block Fault
block_from place [] = Err NoEnd
block_from place (line ∷ lines) =
    if is_end line then Ok (record { lines = []; past = place + 1 }) else in_front (line ∷ []) (block_from (place + 1) lines)

-- the lines up to &END, from the next one on
abbrev pub block : Exec → Result Block Fault
block s = block_from s.next (drop s.next s.lines)

-- &BEGTYPE
unfoldable pub typed_block : Exec → List Text → Step
typed_block s words = do
  no_words s words
  b ← block s
  Ok (record s { next = b.past }, Say b.lines)

-- a word is FIFO or LIFO
abbrev pub is_side : Text → Bool
is_side word = is_keyword (codes "FIFO") word || is_keyword (codes "LIFO") word

-- FIFO or LIFO may stand first, and without them it is FIFO
abbrev pub side_of : List Text → Side
side_of [] = Back
side_of (word ∷ words) = if is_keyword (codes "LIFO") word then Front else Back

-- the words without a first FIFO or LIFO
abbrev pub behind_side : List Text → List Text
behind_side [] = []
behind_side (word ∷ words) = if is_side word then words else word ∷ words

-- &STACK text
unfoldable pub stacked : Exec → List Text → Result Want Fault
stacked s words = do
  lines ← text_line s (behind_side words)
  Ok (Stack lines (side_of words))

-- &BEGSTACK
unfoldable pub stacked_block : Exec → List Text → Step
stacked_block s words = do
  no_words s (behind_side words)
  b ← block s
  Ok (record s { next = b.past }, Stack b.lines (side_of words))
