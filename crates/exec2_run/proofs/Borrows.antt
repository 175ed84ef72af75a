-- Words whose values are borrowed: what they become.
use Rattle.std.proofs.Common.{◌≡◌, ◌∙◌, ◌∷◌, [], ◌≤◌, List, length, refl, sym, ap, true, false, cond, arith}
use Rattle.std.specs.Prelude.{◌==◌, nat_lt, is_some, Option, Some, None, Ok, Err}
use Rattle.std.specs.List.{list_all}
use Rattle.std.proofs.lemmas.List.{append-nil}
use Rattle.cms_ebcdic.specs.CodePage.{upper_of}
use Rattle.cms_text.specs.Texts.{Text}
use Rattle.exec2_parse.proofs.Folds.{plain_name, same_folded}
use Rattle.exec2_parse.proofs.Splits.{expanded_end, expanded_start, replaces_from_the_right}
use Rattle.exec2_parse.specs.Expansion.{Binding, ampersands, expanded, expanded_before, name_of}
use Rattle.exec2_parse.specs.Variables.{value_of}
use Rattle.exec2_parse.specs.Words.{is_label}
use Rattle.exec2_parse.specs.declared.expansion.ExpandFault.TheVariants.{TooLong}
use Rattle.exec2_run.specs.Given.{given_of, known, known_by, table_of}
use Rattle.exec2_run.specs.Values.{operands, values}
use Rattle.exec2_run.specs.Variables.{NamesVariable, target}
use Rattle.exec2_run.specs.declared.given.AtStart.{AtStart}
use Rattle.exec2_run.specs.declared.given.Predefined.{Predefined}
use Rattle.exec2_run.specs.declared.given.Standing.{Standing}
use Rattle.exec2_run.specs.declared.variables.Variables.{Variables}

-- a word without an ampersand stays
pub plain_word : (names : Binding) (word : Text) → ampersands word ≡ 0 → expanded names word ≡ Ok word
plain_word names word none = sym (expanded_start names word) ∙ expanded_end names word [] none ∙ ap Ok (append-nil word)

short : (value : Text) → length value ≤ 255 → cond (nat_lt 255 (length value)) (Err TooLong) (Ok value) ≡ Ok value
short value low = grind arith

-- an ampersand and a name give way to its value
pub named_word : (names : Binding) (name value : Text) → ampersands name ≡ 0 → list_all (λ byte. upper_of byte == byte) name ≡ true → names name ≡ value → length value ≤ 255
    → expanded names (0x50 ∷ name) ≡ Ok value
unfolding expanded expanded_before
named_word names name value none folded is low =
    let e : names (name_of name []) ≡ value = ap names (plain_name name [] refl folded) ∙ is in
    replaces_from_the_right names [] name [] none ∙ rw e (short value low)

own : (o : Option Predefined) (start : AtStart) (at : Standing) (v : Variables) (name : Text) → is_some o ≡ false → known_by o start at v name ≡ value_of (table_of v name) name
own (Some g) start at v name h = absurd (cc)
own None start at v name h = refl

-- and that of one that isn't given is the one that is kept
pub variable_word : (start : AtStart) (at : Standing) (v : Variables) (word name : Text) → NamesVariable word name → length (value_of (table_of v name) name) ≤ 255
    → expanded (known start at v) word ≡ Ok (value_of (table_of v name) name)
unfolding known
variable_word start at v word name names low =
    rw names.word_is (named_word (known start at v) name _ names.plain names.folded (own (given_of name) start at v name names.own) low)

-- it is a target as it stands
pub plain_target : (names : Binding) (word name : Text) → NamesVariable word name → target names word ≡ Ok name
unfolding target
plain_target names word name is = rw (is.word_is, plain_word names name is.plain, same_folded name is.folded, is.own) refl

-- a word that begins with a hyphen and has no ampersand stays
pub label_stays : (names : Binding) (words : List Text) (word : Text) → words ≡ word ∷ [] → is_label word ≡ true → ampersands word ≡ 0
    → operands names words ≡ record { words = word ∷ []; is_cut = false }
unfolding values
label_stays names words [] is label none = absurd (cc)
label_stays names words (byte ∷ bytes) is label none = rw (is, plain_word names (byte ∷ bytes) none) refl
