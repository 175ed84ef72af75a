-- The expansion of a word, from the right. A value isn't scanned again.
use Rattle.std.specs.Prelude.{◌≡◌, ◌+◌, ℕ, zero, suc, ◌==◌, Bool, [], ◌∷◌, ◌++◌, length, nat_lt, if◌then◌else◌, map, Result, Ok, Err, count_by}
use Rattle.std.specs.List.{before_last, after_last}
use Rattle.cms_ebcdic.specs.CodePage.{upper_of}
use Rattle.cms_text.specs.Limits.{longest_text}
use Rattle.cms_text.specs.Texts.{Text}
use Rattle.exec2_parse.specs.declared.expansion.ExpandFault.{ExpandFault}
use Rattle.exec2_parse.specs.declared.expansion.ExpandFault.TheVariants.{TooLong}

-- what each name stands for
abbrev pub Binding : Type 0
Binding = Text → Text

-- the sign that a variable's name follows
abbrev pub is_ampersand : ℕ → Bool
is_ampersand byte = byte == 0x50

-- how many ampersands a text has
abbrev pub ampersands : Text → ℕ
ampersands = count_by is_ampersand

-- the word's last ampersand stands between the two parts
pub record SplitsAtLast (word front name : Text) : Type 0 where
  pub front_is : front ≡ before_last is_ampersand word
  pub name_is : name ≡ after_last is_ampersand word
  pub one_more : ampersands word ≡ suc (ampersands front)
  pub lengths : length front + length name + 1 ≡ length word

-- a variable's name is in capital letters: what follows an ampersand, and a text
abbrev pub name_of : Text → Text → Text
name_of name text = map upper_of (name ++ text)

-- A word with so many ampersands, followed by a text in which none counts. The last ampersand of the word, what follows it and the text
-- are a variable's name, in small letters or capitals, and give way to its value.
unfoldable pub expanded_before : ℕ → Binding → Text → Text → Result Text ExpandFault
expanded_before zero binding word text = Ok (word ++ text)
expanded_before (suc n) binding word text =
    let value = binding (name_of (after_last is_ampersand word) text) in
    let front = before_last is_ampersand word in
    if nat_lt longest_text (length (front ++ value)) then Err TooLong else expanded_before n binding front value

-- a word, followed by such a text
abbrev pub expanded_with : Binding → Text → Text → Result Text ExpandFault
expanded_with binding word text = expanded_before (ampersands word) binding word text

-- what a word becomes
unfoldable pub expanded : Binding → Text → Result Text ExpandFault
expanded binding word = expanded_with binding word []

-- ---- laws

-- a word without an ampersand stays, and the text follows it
abbrev pub KeepsPlainWords : Type 0
KeepsPlainWords = (binding : Binding) (word text : Text) → ampersands word ≡ 0 → expanded_with binding word text ≡ Ok (word ++ text)

-- any other is expanded at its last ampersand first: what stands before it is followed by the value of the variable that is named by
-- what stands behind it and the text, if both together have no more than 255 bytes
abbrev pub ReplacesFromTheRight : Type 0
ReplacesFromTheRight =
    (binding : Binding) (front name text : Text) → ampersands name ≡ 0 → expanded_with binding (front ++ (0x50 ∷ name)) text
    ≡ (let value = binding (name_of name text) in
    if nat_lt longest_text (length (front ++ value)) then Err TooLong else expanded_with binding front value)
