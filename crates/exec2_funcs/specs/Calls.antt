-- The functions: the value of a call, or why there is none.
use Rattle.std.specs.Prelude.{◌≡◌, ◌⊎◌, ℕ, nat_le, nat_lt, ◌&&◌, if◌then◌else◌, List, [], ◌∷◌, length, take, codes, Option, Some, None, is_some, ok_or, Result, Ok, Err, ℤ, pos, negsuc, ◌*ℤ◌, int_div}
use Rattle.std.specs.List.{concat}
use Rattle.std.specs.Ordering.{int_eq}
use Rattle.cms_fields.specs.Steps.{◌>>=◌}
use Rattle.cms_text.specs.Limits.{longest_text}
use Rattle.cms_text.specs.Texts.{Text, ebcdic, without_trailing_blanks}
use Rattle.cms_text.specs.Numbers.{fits, number_of, written}
use Rattle.exec2_funcs.specs.Values.{first_filled, from_place, joined, last_filled, location_of, nth_word, position_of, text_of, translated}
use Rattle.exec2_funcs.specs.declared.fault.FuncFault.{FuncFault}
use Rattle.exec2_funcs.specs.declared.fault.FuncFault.TheVariants.{Arity, Memory, NotNumber, Overflow, TooLong, Zero}
use Rattle.exec2_funcs.specs.declared.arithmetic.Operation.{Operation}
use Rattle.exec2_funcs.specs.declared.arithmetic.Operation.TheVariants as operation
use Rattle.exec2_funcs.specs.declared.function.Function.{Function}
use Rattle.exec2_funcs.specs.declared.function.Function.TheVariants as function

-- an answer is the one that is defined, but for want of memory
abbrev pub Answers : {A : Type 0} → Result A FuncFault → Result A FuncFault → Type 0
Answers defined (Ok value) = defined ≡ Ok value
Answers defined (Err fault) = (fault ≡ Memory) ⊎ (defined ≡ Err fault)

-- ---- numbers of arguments

-- a function of one word
abbrev pub one : (Text → Result Text FuncFault) → List Text → Result Text FuncFault
one f (a ∷ []) = f a
one f words = Err Arity

-- a function of two words
abbrev pub two : (Text → Text → Result Text FuncFault) → List Text → Result Text FuncFault
two f (a ∷ b ∷ []) = f a b
two f words = Err Arity

-- a function of three words
abbrev pub three : (Text → Text → Text → Result Text FuncFault) → List Text → Result Text FuncFault
three f (a ∷ b ∷ c ∷ []) = f a b c
three f words = Err Arity

-- a function of one word or more
abbrev pub one_or_more : (Text → List Text → Result Text FuncFault) → List Text → Result Text FuncFault
one_or_more f (a ∷ more) = f a more
one_or_more f words = Err Arity

-- a function of two words or more
abbrev pub two_or_more : (Text → List Text → Result Text FuncFault) → List Text → Result Text FuncFault
two_or_more f (a ∷ b ∷ more) = f a (b ∷ more)
two_or_more f words = Err Arity

-- ---- arguments

-- a word in a number's place
abbrev pub number_in : Text → Result ℤ FuncFault
number_in word = ok_or (number_of word) NotNumber

-- a count from low to 255
abbrev pub counted : ℕ → Option ℤ → Result ℕ FuncFault
counted low (Some (pos n)) = if nat_le low n && nat_le n longest_text then Ok n else Err NotNumber
counted low (Some (negsuc n)) = Err NotNumber
counted low None = Err NotNumber

-- a word in the place of a number from `low` to 255
abbrev pub count_in : ℕ → Text → Result ℕ FuncFault
count_in low word = counted low (number_of word)

-- ---- values

-- a text, unless it is too long
abbrev pub fitting : Text → Result Text FuncFault
fitting text = if nat_lt longest_text (length text) then Err TooLong else Ok text

-- a number, unless it is outside signed 64 bits
abbrev pub checked : ℤ → Result ℤ FuncFault
checked z = if fits z then Ok z else Err Overflow

-- the quotient toward zero
abbrev pub quotient : ℤ → ℤ → Result ℤ FuncFault
quotient a b = if int_eq b (pos 0) then Err Zero else checked (int_div a b)

-- the product, where it fits
abbrev pub product : ℤ → ℤ → Result ℤ FuncFault
product a b = checked (a *ℤ b)

-- a number, with each further one taken into it, from left to right
unfoldable pub chained : (ℤ → ℤ → Result ℤ FuncFault) → ℤ → List Text → Result ℤ FuncFault
chained step z [] = Ok z
chained step z (word ∷ more) = do
  n ← number_in word
  next ← step z n
  chained step next more

-- ---- functions

-- &CONCAT
unfoldable pub concat_call : List Text → Result Text FuncFault
concat_call words = fitting (concat words)

-- NUM for a number, CHAR for any other word
abbrev pub kind_of : Text → Text
kind_of word = ebcdic (if is_some (number_of word) then codes "NUM" else codes "CHAR")

-- &DATATYPE
unfoldable pub datatype_call : List Text → Result Text FuncFault
datatype_call = one (λ word. Ok (kind_of word))

-- the operation that &DIV or &MULT repeats
abbrev pub step_of : Operation → ℤ → ℤ → Result ℤ FuncFault
step_of operation.Quotient = quotient
step_of operation.Product = product

-- a first number and the others, one after another
abbrev pub arithmetic : Operation → Text → List Text → Result Text FuncFault
arithmetic op first more = do
  z ← number_in first
  value ← chained (step_of op) z more
  Ok (written value)

-- &DIV and &MULT
unfoldable pub arithmetic_call : Operation → List Text → Result Text FuncFault
arithmetic_call op = two_or_more (arithmetic op)

-- the first n characters, filled with blanks
abbrev pub left_of : Text → Text → Result Text FuncFault
left_of word count = do
  n ← count_in 0 count
  Ok (first_filled n word)

-- &LEFT
unfoldable pub left_call : List Text → Result Text FuncFault
left_call = two left_of

-- the last n characters, filled with blanks in front
abbrev pub right_of : Text → Text → Result Text FuncFault
right_of word count = do
  n ← count_in 0 count
  Ok (last_filled n word)

-- &RIGHT
unfoldable pub right_call : List Text → Result Text FuncFault
right_call = two right_of

-- &LENGTH
unfoldable pub length_call : List Text → Result Text FuncFault
length_call = one (λ word. Ok (written (pos (length word))))

-- &LITERAL
unfoldable pub literal_call : List Text → Result Text FuncFault
literal_call words = fitting (joined words)

-- &LOCATION
unfoldable pub location_call : List Text → Result Text FuncFault
location_call = two (λ part word. Ok (written (pos (location_of part word))))

-- the word from a place on
abbrev pub piece_of : Text → Text → Result Text FuncFault
piece_of word place = do
  i ← count_in 1 place
  Ok (from_place i word)

-- so many characters from a place on
abbrev pub piece_of_length : Text → Text → Text → Result Text FuncFault
piece_of_length word place count = do
  i ← count_in 1 place
  n ← count_in 0 count
  Ok (take n (from_place i word))

-- from a place on, all or so many bytes
unfoldable pub piece_call : List Text → Result Text FuncFault
piece_call (word ∷ place ∷ []) = piece_of word place
piece_call (word ∷ place ∷ count ∷ []) = piece_of_length word place count
piece_call words = Err Arity

-- &POSITION
unfoldable pub position_call : List Text → Result Text FuncFault
position_call = one_or_more (λ word words. Ok (written (pos (position_of word words))))

-- &STRING
unfoldable pub string_call : List Text → Result Text FuncFault
string_call words = fitting (text_of words)

-- &TRANS
unfoldable pub trans_call : List Text → Result Text FuncFault
trans_call = three (λ word out from. Ok (translated word out from))

-- &TRIM
unfoldable pub trim_call : List Text → Result Text FuncFault
trim_call = one (λ word. Ok (without_trailing_blanks word))

-- the nth of some words
abbrev pub word_of : Text → List Text → Result Text FuncFault
word_of number words = do
  n ← count_in 1 number
  Ok (nth_word n words)

-- &WORD
unfoldable pub word_call : List Text → Result Text FuncFault
word_call = one_or_more word_of

-- a call of a function on words
unfoldable pub called : Function → List Text → Result Text FuncFault
called function.Concat words = concat_call words
called function.Datatype words = datatype_call words
called function.Div words = arithmetic_call operation.Quotient words
called function.Mult words = arithmetic_call operation.Product words
called function.Left words = left_call words
called function.Right words = right_call words
called function.Length words = length_call words
called function.Literal words = literal_call words
called function.Location words = location_call words
called function.Piece words = piece_call words
called function.Substr words = piece_call words
called function.Position words = position_call words
called function.String words = string_call words
called function.Trans words = trans_call words
called function.Trim words = trim_call words
called function.Word words = word_call words
