-- Numbers taken into a result, one after another.
use Rattle.std.proofs.Common.{◌≡◌, ◌∙◌, ◌∷◌, [], ◌+◌, ◌-◌, ◌<◌, ◌≤◌, ◌==◌, ℕ, suc, Bool, false, List, length, take, drop, get_or, refl, sym, ap, arith}
use Rattle.std.specs.Prelude.{ℤ, Result, Ok, Err}
use Rattle.std.proofs.lemmas.Bool.Decides.{nat_tests}
use Rattle.std.proofs.lemmas.List.{take_all}
use Rattle.std.proofs.Math.ListN.{drop_of_length-le}
use Rattle.cms_text.specs.Numbers.{written}
use Rattle.cms_text.specs.Texts.{Text}
use Rattle.exec2_funcs.specs.Calls.{arithmetic, arithmetic_call, chained, number_in, step_of}
use Rattle.exec2_funcs.specs.declared.arithmetic.Operation.{Operation}
use Rattle.exec2_funcs.specs.declared.fault.FuncFault.{FuncFault}
use Rattle.exec2_funcs.proofs.Joins.{from_here}

module _ (step : ℤ → ℤ → Result ℤ FuncFault) (z : ℤ) (words : List Text) (i : ℕ) (word : Text) (here : i < length words) (is : word ≡ get_or words i word) where
  front : drop i words ≡ word ∷ drop (i + 1) words
  front = from_here words i word here is

  pub no_number : (fault : FuncFault) → number_in word ≡ Err fault → chained step z (drop i words) ≡ Err fault
  unfolding chained
  no_number fault bad = rw (front, bad) refl

  pub no_step : (n : ℤ) (fault : FuncFault) → number_in word ≡ Ok n → step z n ≡ Err fault → chained step z (drop i words) ≡ Err fault
  unfolding chained
  no_step n fault good bad = rw (front, good, bad) refl

  pub one_step : (n next : ℤ) → number_in word ≡ Ok n → step z n ≡ Ok next → chained step z (drop i words) ≡ chained step next (drop (i + 1) words)
  unfolding chained
  one_step n next good then' = rw (front, good, then') refl

pub all_taken : (step : ℤ → ℤ → Result ℤ FuncFault) (z : ℤ) (words : List Text) (i : ℕ) → length words ≤ i → chained step z (drop i words) ≡ Ok z
unfolding chained
all_taken step z words i past = rw (drop_of_length-le words past) refl

-- ---- two words or more

-- the first of them and the others
pub of_first : (op : Operation) (words : List Text) (first : Text) → 1 ≤ length words → first ≡ get_or words 0 first → (length (take (length words - 1) (drop 1 words)) ≡ 0 → ⊥)
    → arithmetic_call op words ≡ arithmetic op first (take (length words - 1) (drop 1 words))
unfolding arithmetic_call
of_first op [] first some is more = absurd (omega (arith, some))
of_first op (w ∷ []) first some is more = absurd (more refl)
of_first op (w ∷ v ∷ ws) first some is more =
    ap (λ (x : Text). arithmetic op x (v ∷ ws)) (sym is) ∙ ap (arithmetic op first) (sym (take_all (suc (suc (length ws)) - 1) (v ∷ ws) (omega arith)))

-- what a test of the others for no words says
pub some_others : (others : List Text) (b : Bool) → b ≡ (length others == 0) → b ≡ false → length others ≡ 0 → ⊥
some_others others b tells is none = grind (arith, nat_tests, tells, is, none)

module _ (op : Operation) (words others : List Text) (first : Text) (all : arithmetic_call op words ≡ arithmetic op first others) where
  pub bad_first : (why : FuncFault) → Err why ≡ number_in first → arithmetic_call op words ≡ Err why
  bad_first why bad = all ∙ rw (sym bad) refl

  pub bad_other : (n : ℤ) (why : FuncFault) → Ok n ≡ number_in first → Err why ≡ chained (step_of op) n others → arithmetic_call op words ≡ Err why
  bad_other n why good bad = all ∙ rw (sym good, sym bad) refl

  pub all_good : (n value : ℤ) (text : Text) → Ok n ≡ number_in first → Ok value ≡ chained (step_of op) n others → text ≡ written value → arithmetic_call op words ≡ Ok text
  all_good n value text good done is = all ∙ rw (sym good, sym done) (ap Ok (sym is))
