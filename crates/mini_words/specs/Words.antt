-- What single words of a command say, or why they are refused.
use Rattle.std.specs.Prelude.{ℕ, ◌+◌, ◌*◌, ◌-◌, ◌&&◌, ◌^◌, nat_lt, Bool, false, if◌then◌else◌, ℤ, pos, List, [], ◌∷◌, codes, Option, Some, None, Result, Ok, Err, ok_or}
use Rattle.std.specs.Option.{option_and_then, option_map}
use Rattle.std.specs.Str.{all_ascii_digits, bytes_eq}
use Rattle.clap.specs.Words.{Row, Text}
use Rattle.cms_names.specs.declared.name.Name.{Name}
use Rattle.cms_words.specs.Numbers.{is_between, offset_of}
use Rattle.cms_words.specs.UnitWords.{bsize_of}
use Rattle.mini_forms.specs.declared.form.Form.{Form}
use Rattle.mini_forms.specs.declared.form.Form.TheVariants.{Text as TextForm, Binary as BinaryForm, Records as RecordsForm}
use Rattle.mini_forms.specs.declared.form.Layout.{Layout}
use Rattle.mini_forms.specs.declared.form.Layout.TheVariants.{Text as TextLayout, Binary as BinaryLayout, Records as RecordsLayout}
use Rattle.mini_words.specs.Commands.{text_in, value_in}
use Rattle.mini_words.specs.Names.{label_of, name_of}
use Rattle.mini_words.specs.declared.fault.WordFault.{WordFault}
use Rattle.mini_words.specs.declared.fault.WordFault.TheVariants.{Size, Form as BadForm, Length, NoLength, Digit, Name as BadName, Blocks, Label, Zone}

infixl 10 ◌>>=◌
-- goes on with what was read, or with the refusal
abbrev pub ◌>>=◌ : {A B : Type 0} → Result A WordFault → (A → Result B WordFault) → Result B WordFault
(Ok x) >>= f = f x
(Err e) >>= f = Err e

-- ---- numbers

-- the value of decimal digits behind others with this value
abbrev pub value_from : ℕ → List ℕ → ℕ
value_from high [] = high
value_from high (c ∷ cs) = value_from (high * 10 + (c - 48)) cs

-- a digit 1 to 9 stands first
abbrev pub begins_numeral : Text → Bool
begins_numeral [] = false
begins_numeral (c ∷ cs) = is_between 49 57 c

-- the value of decimal digits of which the first isn't 0, where 32 bits hold it
unfoldable pub numeral_of : Text → Option ℕ
numeral_of word =
    if (begins_numeral word && all_ascii_digits word) && nat_lt (value_from 0 word) (2 ^ 32) then Some (value_from 0 word) else None

-- such a number, from the least to the most
unfoldable pub number_of : ℕ → ℕ → Text → Option ℕ
number_of least most word = option_and_then (λ n. if is_between least most n then Some n else None) (numeral_of word)

-- a digit 0 to 6
unfoldable pub digit_in : Text → Option ℕ
digit_in [] = None
digit_in (c ∷ []) = if is_between 48 54 c then Some (c - 48) else None
digit_in (c ∷ d ∷ cs) = None

-- ---- values, each with its refusal

-- what a value says, where one was given
abbrev pub optional : {A : Type 0} → Option Text → (Text → Option A) → WordFault → Result (Option A) WordFault
optional None read fault = Ok None
optional (Some word) read fault = ok_or (option_map Some (read word)) fault

-- what a value says; one that wasn't given says this
abbrev pub or_else : {A : Type 0} → Option Text → A → (Text → Option A) → WordFault → Result A WordFault
or_else None default read fault = Ok default
or_else (Some word) default read fault = ok_or (read word) fault

-- -b SIZE
unfoldable pub size_of : List Row → Result (Option ℕ) WordFault
size_of rows = optional (value_in (codes "SIZE") rows) bsize_of Size

-- the same of a new volume
unfoldable pub needed_size_of : List Row → Result ℕ WordFault
needed_size_of rows = ok_or (bsize_of (text_in (codes "SIZE") rows)) Size

-- the word of a form
abbrev pub form_word : Text → Option Form
form_word word =
    if bytes_eq word (codes "text") then Some TextForm
    else if bytes_eq word (codes "binary") then Some BinaryForm
    else if bytes_eq word (codes "records") then Some RecordsForm
    else None

-- -f FORM: text where it isn't said
unfoldable pub form_of : List Row → Result Form WordFault
form_of rows = or_else (value_in (codes "FORM") rows) TextForm form_word BadForm

-- -L N: 1 to 65,535
unfoldable pub length_of : List Row → Result (Option ℕ) WordFault
length_of rows = optional (value_in (codes "N") rows) (number_of 1 65535) Length

-- how a host file of a form is taken: bytes joined want a length
abbrev pub laid_out : Form → Option ℕ → Result Layout WordFault
laid_out TextForm length = Ok (TextLayout length)
laid_out BinaryForm None = Err NoLength
laid_out BinaryForm (Some n) = Ok (BinaryLayout n)
laid_out RecordsForm length = Ok (RecordsLayout length)

-- -f FORM and -L N
unfoldable pub layout_of : List Row → Result Layout WordFault
layout_of rows = do
  form ← form_of rows
  length ← length_of rows
  laid_out form length

-- -m DIGIT: 1 where it isn't said
unfoldable pub digit_of : List Row → Result ℕ WordFault
digit_of rows = or_else (value_in (codes "DIGIT") rows) 1 digit_in Digit

-- -n NAME of one host file: FN.FT
unfoldable pub one_name_of : List Row → Result (Option Name) WordFault
one_name_of rows = optional (value_in (codes "NAME") rows) name_of (BadName 1)

-- the name with this number: FN.FT
unfoldable pub name_word_of : Text → ℕ → List Row → Result Name WordFault
name_word_of id number rows = ok_or (name_of (text_in id rows)) (BadName number)

-- -n BLOCKS: 8 to 1,048,576
unfoldable pub blocks_of : List Row → Result ℕ WordFault
blocks_of rows = ok_or (number_of 8 1048576 (text_in (codes "BLOCKS") rows)) Blocks

-- -l LABEL: 1 to 6 name characters
unfoldable pub label_word_of : List Row → Result (List ℕ) WordFault
label_word_of rows = ok_or (label_of (text_in (codes "LABEL") rows)) Label

-- -z ZONE: the seconds that it adds to the clock
unfoldable pub zone_of : List Row → Result ℤ WordFault
zone_of rows = or_else (value_in (codes "ZONE") rows) (pos 0) offset_of Zone
