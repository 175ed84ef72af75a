-- The letters that words spell are among the 26.
use Rattle.std.proofs.Common.{◌≡◌, ◌<◌, ◌≤◌, ℕ, ◌+◌, ◌-◌, List, [], ◌∷◌, length, refl, arith}
use Rattle.std.specs.Prelude.{Bool, true, false, cond, Option, Some, None, ◌==◌, Ok, Err}
use Rattle.std.specs.Option.{option_map}
use Rattle.std.proofs.lemmas.Bool.Decides.{nat_tests}
use Rattle.cms_names.specs.Modes.{letter_of, mode_number_of, mode_word_of, numbered_mode, short_mode_of}
use Rattle.cms_names.specs.Names.{is_between}
use Rattle.cms_names.specs.declared.mode.ModeWord.{ModeWord}
use Rattle.cms_names.specs.declared.mode.ModeWord.TheVariants as mode
use Rattle.cms_operands.specs.Operands.{device_of, device_or_letter, letter, letter_in, letter_of_word, letter_or_all, letter_unless_all, or_refused}
use Rattle.cms_operands.specs.declared.operand.Target.TheVariants as target
use Rattle.cms_operands.specs.declared.refusal.Refusal.TheVariants.{BadMode, BadOperand}

high : (low top c : ℕ) → is_between low top c ≡ true → c ≤ top
high low top c is = grind (arith, nat_tests)

pub letter_within : (c n : ℕ) → letter_of c ≡ Some n → n < 26
unfolding letter_of
letter_within c n is = cases (is_between 0xC1 0xC9 c) (is_between 0xD1 0xD9 c) (is_between 0xE2 0xE9 c) refl refl refl is
  where
    cases : (a b d : Bool) → is_between 0xC1 0xC9 c ≡ a → is_between 0xD1 0xD9 c ≡ b → is_between 0xE2 0xE9 c ≡ d
        → cond a (Some (c - 0xC1)) (cond b (Some (9 + (c - 0xD1))) (cond d (Some (18 + (c - 0xE2))) None)) ≡ Some n → n < 26
    cases true b d at_a at_b at_d is = let top = high 0xC1 0xC9 c at_a in let e : c - 0xC1 ≡ n = cc is in omega (arith, top, e)
    cases false true d at_a at_b at_d is = let top = high 0xD1 0xD9 c at_b in let e : 9 + (c - 0xD1) ≡ n = cc is in omega (arith, top, e)
    cases false false true at_a at_b at_d is = let top = high 0xE2 0xE9 c at_d in let e : 18 + (c - 0xE2) ≡ n = cc is in omega (arith, top, e)
    cases false false false at_a at_b at_d is = absurd (cc is)

short_within : (c n : ℕ) → short_mode_of c ≡ Some (mode.Letter n) → n < 26
unfolding short_mode_of
short_within c n is = cases (c == 0x5C) (c == 0x7E) (letter_of c) refl is
  where
    cases : (a b : Bool) (x : Option ℕ) → letter_of c ≡ x → cond a (Some mode.Any) (cond b (Some mode.Same) (option_map (λ letter. mode.Letter letter) x)) ≡ Some (mode.Letter n) → n < 26
    cases true b x at is = absurd (cc is)
    cases false true x at is = absurd (cc is)
    cases false false None at is = absurd (cc is)
    cases false false (Some m) at is = let e : m ≡ n = cc is in letter_within c n (rw (← e) at)

-- a word that is a letter's
pub word_within : (text : List ℕ) (n : ℕ) → mode_word_of text ≡ Some (mode.Letter n) → n < 26
unfolding mode_word_of
word_within [] n is = absurd (cc is)
word_within (c ∷ []) n is = short_within c n is
word_within (c ∷ d ∷ []) n is = cases (letter_of c) (mode_number_of d) is
  where
    cases : (x y : Option ℕ) → numbered_mode x y ≡ Some (mode.Letter n) → n < 26
    cases None y is = absurd (cc is)
    cases (Some a) None is = absurd (cc is)
    cases (Some a) (Some b) is = absurd (cc is)
word_within (c ∷ d ∷ e ∷ more) n is = absurd (cc is)

pub letter_in_within : (text : List ℕ) (n : ℕ) → letter_in text ≡ Some n → n < 26
letter_in_within text n is = cases (mode_word_of text) refl is
  where
    cases : (w : Option ModeWord) → mode_word_of text ≡ w → letter_of_word w ≡ Some n → n < 26
    cases None at is = absurd (cc is)
    cases (Some mode.Any) at is = absurd (cc is)
    cases (Some mode.Same) at is = absurd (cc is)
    cases (Some (mode.Letter m)) at is = let e : m ≡ n = cc is in word_within text n (rw (← e) at)
    cases (Some (mode.Numbered m k)) at is = absurd (cc is)

-- ---- operands

pub letter_read : (place : ℕ) (text : List ℕ) (n : ℕ) → letter place text ≡ Ok n → n < 26
unfolding letter
letter_read place text n is = cases (letter_in text) refl is
  where
    cases : (x : Option ℕ) → letter_in text ≡ x → or_refused x (BadMode place) ≡ Ok n → n < 26
    cases None at is = absurd (cc is)
    cases (Some m) at is = let e : m ≡ n = cc is in letter_in_within text n (rw (← e) at)

pub some_letter_read : (place : ℕ) (text : List ℕ) (n : ℕ) → letter_or_all place text ≡ Ok (Some n) → n < 26
unfolding letter_or_all
some_letter_read place text n is = cases (mode_word_of text) refl is
  where
    cases : (w : Option ModeWord) → mode_word_of text ≡ w → or_refused (letter_unless_all w) (BadMode place) ≡ Ok (Some n) → n < 26
    cases None at is = absurd (cc is)
    cases (Some mode.Any) at is = absurd (cc is)
    cases (Some mode.Same) at is = absurd (cc is)
    cases (Some (mode.Letter m)) at is = let e : m ≡ n = cc is in word_within text n (rw (← e) at)
    cases (Some (mode.Numbered m k)) at is = absurd (cc is)

pub target_read : (place : ℕ) (text : List ℕ) (n : ℕ) → device_or_letter place text ≡ Ok (target.Letter n) → n < 26
unfolding device_or_letter
target_read place text n is = cases (length text == 3) (length text == 1) (device_of text) (letter_in text) refl is
  where
    cases : (a b : Bool) (d x : Option ℕ) → letter_in text ≡ x
        → cond a (or_refused (option_map (λ vdev. target.Device vdev) d) (BadOperand place))
        (cond b (or_refused (option_map (λ n. target.Letter n) x) (BadMode place)) (Err (BadOperand place))) ≡ Ok (target.Letter n) → n < 26
    cases true b None x at is = absurd (cc is)
    cases true b (Some v) x at is = absurd (cc is)
    cases false true d None at is = absurd (cc is)
    cases false true d (Some m) at is = let e : m ≡ n = cc is in letter_in_within text n (rw (← e) at)
    cases false false d x at is = absurd (cc is)
