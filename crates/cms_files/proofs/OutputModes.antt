-- The mode number of an output's word is one that a file may have.
use Rattle.std.proofs.Common.{◌≡◌, ℕ, ◌-◌, ◌≤◌, List, [], ◌∷◌, Bool, true, false, Option, Some, None, Ok, refl, subst, arith}
use Rattle.std.specs.Prelude.{cond, ◌==◌, ◌&&◌, nat_le, IfSome}
use Rattle.std.specs.Option.{option_map}
use Rattle.std.proofs.lemmas.Bool.{leb-true}
use Rattle.cms_names.specs.Modes.{letter_of, mode_number_of, mode_word_of, numbered_mode, short_mode_of}
use Rattle.cms_names.specs.declared.mode.ModeWord.TheVariants as mode
use Rattle.cms_operands.specs.Operands.{or_refused, output_mode, output_of}
use Rattle.cms_operands.specs.declared.operand.WriteMode.{WriteMode}
use Rattle.cms_operands.specs.declared.refusal.Refusal.TheVariants.{BadMode}

-- the number of an output's mode, where it has one
abbrev pub HasNumber : Option WriteMode → Type 0
HasNumber out = IfSome out (λ mode. IfSome mode.number (λ k. k ≤ 6))

pub number_below : (c k : ℕ) → mode_number_of c ≡ Some k → k ≤ 6
unfolding mode_number_of
number_below c k is = cases (nat_le 0xF0 c) (nat_le c 0xF6) refl is
  where
    cases : (a b : Bool) → nat_le c 0xF6 ≡ b → cond (a && b) (Some (c - 0xF0)) None ≡ Some k → k ≤ 6
    cases true true at is = let same : c - 0xF0 ≡ k = cc is in let below = leb-true c 0xF6 at in omega (arith, same, below)
    cases true false at is = absurd (cc is)
    cases false b at is = absurd (cc is)

short_out : (c : ℕ) (out : Option WriteMode) → output_of (short_mode_of c) ≡ Some out → HasNumber out
unfolding short_mode_of
short_out c out is = cases (c == 0x5C) (c == 0x7E) (letter_of c) is
  where
    cases : (a b : Bool) (x : Option ℕ) → output_of (cond a (Some mode.Any) (cond b (Some mode.Same) (option_map (λ l. mode.Letter l) x))) ≡ Some out → HasNumber out
    cases true b x is = absurd (cc is)
    cases false true x is = let same : ◌≡◌ {A = Option WriteMode} None out = cc is in subst HasNumber same tt
    cases false false None is = absurd (cc is)
    cases false false (Some l) is = let same : ◌≡◌ {A = Option WriteMode} (Some (record { letter = l; number = None })) out = cc is in subst HasNumber same tt

word_out : (text : List ℕ) (out : Option WriteMode) → output_of (mode_word_of text) ≡ Some out → HasNumber out
unfolding mode_word_of
word_out [] out is = absurd (cc is)
word_out (c ∷ []) out is = short_out c out is
word_out (c ∷ d ∷ []) out is = cases (letter_of c) (mode_number_of d) refl is
  where
    cases : (x y : Option ℕ) → mode_number_of d ≡ y → output_of (numbered_mode x y) ≡ Some out → HasNumber out
    cases None y at is = absurd (cc is)
    cases (Some x) None at is = absurd (cc is)
    cases (Some x) (Some k) at is =
        let same : ◌≡◌ {A = Option WriteMode} (Some (record { letter = x; number = Some k })) out = cc is in subst HasNumber same (number_below d k at)
word_out (c ∷ d ∷ e ∷ more) out is = absurd (cc is)

pub mode_out : (place : ℕ) (text : List ℕ) (out : Option WriteMode) → Ok out ≡ output_mode place text → HasNumber out
unfolding output_mode
mode_out place text out is = cases (output_of (mode_word_of text)) refl is
  where
    cases : (x : Option (Option WriteMode)) → output_of (mode_word_of text) ≡ x → Ok out ≡ or_refused x (BadMode place) → HasNumber out
    cases None at is = absurd (cc is)
    cases (Some o) at is = let same : o ≡ out = cc is in subst HasNumber same (word_out text o at)
