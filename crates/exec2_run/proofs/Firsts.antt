-- The first word that doesn't become nothing.
use Rattle.std.proofs.Common.{◌≡◌, ◌∙◌, ◌∷◌, [], ◌-◌, ◌<◌, ◌≤◌, ◌==◌, Bool, true, false, List, Result, length, take, drop, get_or, refl, sym, ap, arith}
use Rattle.std.specs.Prelude.{Ok, Err}
use Rattle.std.proofs.lemmas.Bool.Decides.{nat_tests}
use Rattle.cms_text.specs.Texts.{Text}
use Rattle.exec2_parse.specs.Expansion.{Binding}
use Rattle.exec2_run.specs.Loops.{first_by, first_of}
use Rattle.exec2_run.specs.Values.{value}
use Rattle.exec2_run.specs.declared.fault.Fault.{Fault}
use Rattle.exec2_run.specs.declared.fault.Fault.TheVariants.{BadStatement}
use Rattle.exec2_run.proofs.FirstWord.{first_and_rest, none_left}

-- what a test for no bytes says
pub has_some : (text bytes : Text) (b : Bool) → b ≡ (length bytes == 0) → bytes ≡ text → b ≡ false → length text ≡ 0 → ⊥
has_some text bytes b tells same is none = some_bytes (ap length same ∙ none)
  where
    some_bytes : length bytes ≡ 0 → ⊥
    some_bytes none = grind (arith, nat_tests, tells, is, none)

pub has_none : (text bytes : Text) (b : Bool) → b ≡ (length bytes == 0) → bytes ≡ text → b ≡ true → length text ≡ 0
has_none text bytes b tells same is = let none : length bytes ≡ 0 = grind (arith, nat_tests, tells, is) in sym (ap length same) ∙ none

found : (text : Text) (behind : List Text) (otherwise : Result (Text × List Text) Fault) → (length text ≡ 0 → ⊥) → first_by text behind otherwise ≡ Ok (text, behind)
found [] behind otherwise some = absurd (some refl)
found (byte ∷ bytes) behind otherwise some = refl

passed : (text : Text) (behind : List Text) (otherwise : Result (Text × List Text) Fault) → length text ≡ 0 → first_by text behind otherwise ≡ otherwise
passed [] behind otherwise none = refl
passed (byte ∷ bytes) behind otherwise none = absurd (cc)

pub no_first : (b : Binding) (words : List Text) → length words < 1 → first_of b words ≡ Err BadStatement
unfolding first_of
no_first b words none = ap (first_of b) (none_left words none)

module _ (b : Binding) (words : List Text) (word : Text) (some : 1 ≤ length words) (is : word ≡ get_or words 0 word) where
  pub first_fails : (why : Fault) → value b word ≡ Err why → first_of b words ≡ Err why
  unfolding first_of
  first_fails why bad = ap (first_of b) (first_and_rest words word some is) ∙ rw bad refl

  pub first_found : (text : Text) → value b word ≡ Ok text → (length text ≡ 0 → ⊥) → first_of b words ≡ Ok (text, take (length words - 1) (drop 1 words))
  unfolding first_of
  first_found text good bytes =
      let rest = take (length words - 1) (drop 1 words) in
      ap (first_of b) (first_and_rest words word some is) ∙ rw good (found text rest (first_of b rest) bytes)

  pub first_later : (text : Text) → value b word ≡ Ok text → length text ≡ 0 → first_of b (take (length words - 1) (drop 1 words)) ≡ first_of b words
  unfolding first_of
  first_later text good none =
      let rest = take (length words - 1) (drop 1 words) in
      sym (ap (first_of b) (first_and_rest words word some is) ∙ rw good (passed text rest (first_of b rest) none))
