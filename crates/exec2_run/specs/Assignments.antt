-- Assignments (VM/SP EXEC 2 Reference, the assignment statement and its functions).
use Rattle.std.specs.Prelude.{ℕ, ◌==◌, nat_le, Bool, true, false, ◌||◌, if◌then◌else◌, List, [], ◌∷◌, ◌++◌, length, drop, codes, Option, Some, None, ok_or, Result, Ok, Err, ℤ, pos, ◌+ℤ◌, ◌-ℤ◌}
use Rattle.cms_fields.specs.Steps.{◌>>=◌, ◌>>◌}
use Rattle.cms_text.specs.Texts.{Text, is_keyword}
use Rattle.exec2_parse.specs.Expansion.{Binding}
use Rattle.cms_text.specs.Numbers.{fits, number_of, written}
use Rattle.exec2_funcs.specs.Functions.{function_of}
use Rattle.exec2_funcs.specs.Calls.{called}
use Rattle.exec2_funcs.specs.declared.fault.FuncFault.{FuncFault}
use Rattle.exec2_funcs.specs.declared.fault.FuncFault.TheVariants as calling
use Rattle.exec2_funcs.specs.declared.function.Function.{Function}
use Rattle.exec2_funcs.specs.declared.function.Function.TheVariants as function
use Rattle.exec2_run.specs.Given.{seen}
use Rattle.exec2_run.specs.Faults.{of_function, with_fault}
use Rattle.exec2_run.specs.Values.{arguments, operands, whole}
use Rattle.exec2_run.specs.Variables.{set_to, target}
use Rattle.exec2_run.specs.State.{Exec, Step}
use Rattle.exec2_run.specs.declared.values.Operands.{Operands}
use Rattle.exec2_run.specs.declared.assignment.Sign.{Sign}
use Rattle.exec2_run.specs.declared.assignment.Sign.TheVariants.{Plus, Minus}
use Rattle.exec2_run.specs.declared.assignment.Sum.{Sum}
use Rattle.exec2_run.specs.declared.fault.Fault.{Fault}
use Rattle.exec2_run.specs.declared.fault.Fault.TheVariants.{Arity, TooLong, Overflow, BadStatement}

-- ---- sums

-- a word that is a plus or a minus sign
abbrev pub sign_of : Text → Option Sign
sign_of (byte ∷ []) = if byte == 0x4E then Some Plus else (if byte == 0x60 then Some Minus else None)
sign_of word = None

-- how a sum begins: with a sign, or with its first number
abbrev pub begun_by : Option Sign → Option ℤ → Result Sum Fault
begun_by (Some sign) number = Ok (record { total = pos 0; sign = Some sign })
begun_by None (Some z) = Ok (record { total = z; sign = None })
begun_by None None = Err BadStatement

-- a sum begins with a number, or with a sign that has 0 before it
abbrev pub begun : Text → Result Sum Fault
begun word = begun_by (sign_of word) (number_of word)

-- each step fits in signed 64 bits
abbrev pub checked : ℤ → Result ℤ Fault
checked z = if fits z then Ok z else Err Overflow

-- a number added or taken away, where the sum fits
abbrev pub applied : Sign → ℤ → ℤ → Result ℤ Fault
applied Plus total z = checked (total +ℤ z)
applied Minus total z = checked (total -ℤ z)

-- the next word: a sign where none is due, else a number
abbrev pub plus_due : Option Sign → ℤ → Text → Result Sum Fault
plus_due None total word = do
  sign ← ok_or (sign_of word) BadStatement
  Ok (record { total = total; sign = Some sign })
plus_due (Some sign) total word = do
  z ← ok_or (number_of word) BadStatement
  next ← applied sign total z
  Ok (record { total = next; sign = None })

-- a sign is due behind a number, and a number behind a sign
abbrev pub plus : Sum → Text → Result Sum Fault
plus sum word = plus_due sum.sign sum.total word

-- all words of a sum, one after another
unfoldable pub added : Sum → List Text → Result Sum Fault
added sum [] = Ok sum
added sum (word ∷ words) = do
  next ← plus sum word
  added next words

-- the sum, unless it ends with a sign
abbrev pub total_by : Option Sign → ℤ → Result ℤ Fault
total_by None total = Ok total
total_by (Some sign) total = Err BadStatement

-- the same of a sum
abbrev pub total_of : Sum → Result ℤ Fault
total_of sum = total_by sum.sign sum.total

-- the value of a sum of these words
abbrev pub sum_value : Text → List Text → Bool → Result Text Fault
sum_value first others is_cut = do
  sum ← begun first
  all ← added sum others
  whole is_cut
  total ← total_of all
  Ok (written total)

-- ---- no function: nothing, one word, or a sum

-- nothing, one word, or a sum
abbrev pub plain_by : List Text → Bool → Result Text Fault
plain_by [] is_cut = do
  whole is_cut
  Ok []
plain_by (word ∷ []) is_cut = if is_cut then sum_value word [] true else Ok word
plain_by (first ∷ second ∷ others) is_cut = sum_value first (second ∷ others) is_cut

-- the value of a right side without a function
unfoldable pub plain_value : Operands → Result Text Fault
plain_value operands = plain_by operands.words operands.is_cut

-- ---- functions

-- a function word stands first, and OF behind it
abbrev pub function_in : List Text → Option Function
function_in (word ∷ of ∷ words) = if is_keyword (codes "OF") of then function_of word else None
function_in words = None

-- how many words each function takes
abbrev pub takes : Function → ℕ → Bool
takes function.Concat n = true
takes function.Datatype n = n == 1
takes function.Div n = nat_le 2 n
takes function.Mult n = nat_le 2 n
takes function.Left n = n == 2
takes function.Right n = n == 2
takes function.Length n = n == 1
takes function.Literal n = true
takes function.Location n = n == 2
takes function.Piece n = (n == 2) || (n == 3)
takes function.Substr n = (n == 2) || (n == 3)
takes function.Position n = nat_le 1 n
takes function.String n = true
takes function.Trans n = n == 3
takes function.Trim n = n == 1
takes function.Word n = nat_le 1 n

-- words, with a 1 behind them where they are divided or multiplied
abbrev pub probe : Function → List Text → List Text
probe function.Div words = words ++ (0xF1 ∷ []) ∷ []
probe function.Mult words = words ++ (0xF1 ∷ []) ∷ []
probe function.Concat words = words
probe function.Datatype words = words
probe function.Left words = words
probe function.Right words = words
probe function.Length words = words
probe function.Literal words = words
probe function.Location words = words
probe function.Piece words = words
probe function.Substr words = words
probe function.Position words = words
probe function.String words = words
probe function.Trans words = words
probe function.Trim words = words
probe function.Word words = words

-- the fault of a function whose words are cut: its own, or that a word is too long
abbrev pub earlier : Result Text FuncFault → Fault
earlier (Ok text) = TooLong
earlier (Err calling.Arity) = TooLong
earlier (Err calling.NotNumber) = of_function calling.NotNumber
earlier (Err calling.Overflow) = of_function calling.Overflow
earlier (Err calling.Zero) = of_function calling.Zero
earlier (Err calling.TooLong) = of_function calling.TooLong
earlier (Err calling.Memory) = of_function calling.Memory

-- words in front of one that is too long: what is wrong with them alone comes first
abbrev pub fault_before : Function → List Text → Fault
fault_before f words = earlier (called f (probe f words))

-- a function on its words; the first fault from the left
abbrev pub expanded_call : Function → Operands → Result Text Fault
expanded_call f given = if given.is_cut then Err (fault_before f given.words) else with_fault of_function (called f given.words)

-- the number of words is tested first
abbrev pub counted_call : Binding → Function → List Text → Result Text Fault
counted_call names f words = if takes f (length words) then expanded_call f (arguments names words) else Err Arity

-- the function takes its words as they stand
abbrev pub is_literal : Function → Bool
is_literal function.Literal = true
is_literal function.Concat = false
is_literal function.Datatype = false
is_literal function.Div = false
is_literal function.Mult = false
is_literal function.Left = false
is_literal function.Right = false
is_literal function.Length = false
is_literal function.Location = false
is_literal function.Piece = false
is_literal function.Substr = false
is_literal function.Position = false
is_literal function.String = false
is_literal function.Trans = false
is_literal function.Trim = false
is_literal function.Word = false

-- the value of a function, whose number of words is tested before all others; &LITERAL takes its words unexpanded
unfoldable pub function_value : Binding → Function → List Text → Result Text Fault
function_value names f words = if is_literal f then with_fault of_function (called f words) else counted_call names f words

-- the value of a right side with a function, or without one
abbrev pub value_by : Option Function → Binding → List Text → Result Text Fault
value_by (Some f) names words = function_value names f (drop 2 words)
value_by None names words = plain_value (operands names words)

-- the value of the words behind the equal sign
unfoldable pub right_side : Binding → List Text → Result Text Fault
right_side names words = value_by (function_in words) names words

-- ---- the statement: a target, an equal sign, and a right side

-- a variable has the value of the right side
abbrev pub named : Exec → Text → List Text → Step
named s name words = do
  v ← right_side (seen s) words
  set_to s name v

-- the target has the value of the right side
abbrev pub assigned_to : Exec → Text → List Text → Step
assigned_to s name words = do
  n ← target (seen s) name
  named s n words

-- an assignment
unfoldable pub assigned : Exec → List Text → Step
assigned s (name ∷ sign ∷ words) = assigned_to s name words
assigned s words = Err BadStatement
