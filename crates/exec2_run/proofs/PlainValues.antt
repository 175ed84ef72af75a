-- The value of words that are no function.
use Rattle.std.proofs.Common.{◌≡◌, ◌∙◌, [], ◌∷◌, ◌+◌, ◌-◌, ◌<◌, ◌≤◌, ◌==◌, Bool, true, false, List, ℕ, length, take, drop, get_or, refl, sym, ap, arith}
use Rattle.std.specs.Prelude.{Ok, Err}
use Rattle.std.proofs.Math.ListN.{drop_of_length-le}
use Rattle.std.proofs.lemmas.Bool.Decides.{nat_tests}
use Rattle.cms_text.specs.Texts.{Text}
use Rattle.exec2_run.specs.Assignments.{added, plain_by, plain_value, plus, sum_value}
use Rattle.exec2_run.specs.Values.{whole}
use Rattle.exec2_run.specs.declared.assignment.Sum.{Sum}
use Rattle.exec2_run.specs.declared.fault.Fault.{Fault}
use Rattle.exec2_run.specs.declared.values.Operands.{Operands}
use Rattle.exec2_run.proofs.FirstWord.{first_and_rest, none_left}
use Rattle.exec2_run.proofs.WordsRead.{here_on}

-- one word that is cut is a sum too
summed : (first : Text) (others : List Text) (is_cut : Bool) → (length others ≡ 0 → is_cut ≡ true) → plain_by (first ∷ others) is_cut ≡ sum_value first others is_cut
summed first [] is_cut cut = rw (cut refl) refl
summed first (second ∷ others) is_cut cut = refl

module _ (o : Operands) (words : List Text) (same : words ≡ o.words) where
  by_words : plain_value o ≡ plain_by words o.is_cut
  unfolding plain_value
  by_words = ap (λ (ws : List Text). plain_by ws o.is_cut) (sym same)

  pub plain_cut : (why : Fault) → length words < 1 → Err why ≡ whole o.is_cut → plain_value o ≡ Err why
  plain_cut why none cut = by_words ∙ (ap (λ (ws : List Text). plain_by ws o.is_cut) (none_left words none) ∙ rw (sym cut) refl)

  pub plain_none : (u : Unit {0}) (text : Text) → length words < 1 → Ok u ≡ whole o.is_cut → text ≡ [] → plain_value o ≡ Ok text
  plain_none u text none all empty = by_words ∙ (ap (λ (ws : List Text). plain_by ws o.is_cut) (none_left words none) ∙ rw (sym all) (ap Ok (sym empty)))

  pub plain_sum : (first text : Text) → 1 ≤ length words → first ≡ get_or words 0 first → text ≡ first → (length (take (length words - 1) (drop 1 words)) ≡ 0 → o.is_cut ≡ true)
      → plain_value o ≡ sum_value text (take (length words - 1) (drop 1 words)) o.is_cut
  plain_sum first text some is same cut =
      let rest = take (length words - 1) (drop 1 words) in
      by_words
      ∙ (ap (λ (ws : List Text). plain_by ws o.is_cut) (first_and_rest words first some is)
      ∙ (summed first rest o.is_cut cut ∙ ap (λ (t : Text). sum_value t rest o.is_cut) (sym same)))

  pub plain_one : (word text : Text) → 1 ≤ length words → word ≡ get_or words 0 word → length (take (length words - 1) (drop 1 words)) ≡ 0 → o.is_cut ≡ false → text ≡ word
      → plain_value o ≡ Ok text
  plain_one word text some is alone all called =
      by_words
      ∙ (ap (λ (ws : List Text). plain_by ws o.is_cut) (first_and_rest words word some is)
      ∙ (ap (λ (rest : List Text). plain_by (word ∷ rest) o.is_cut) (none_left (take (length words - 1) (drop 1 words)) (omega (arith, alone))) ∙ rw all (ap Ok (sym called))))

-- what a test for no items says
pub none_there : {A : Type 0} (xs : List A) (b : Bool) → b ≡ (length xs == 0) → b ≡ true → length xs ≡ 0
none_there xs b tells is = grind (arith, nat_tests, tells, is)

pub some_there : {A : Type 0} (xs : List A) (b : Bool) → b ≡ (length xs == 0) → b ≡ false → length xs ≡ 0 → ⊥
some_there xs b tells is none = grind (arith, nat_tests, tells, is, none)

-- ---- a sum

module _ (words : List Text) (i : ℕ) (word text : Text) (here : i < length words) (is : word ≡ get_or words i word) (same : text ≡ word) (so_far : Sum) where
  pub next_fails : (why : Fault) → Err why ≡ plus so_far text → added so_far (drop i words) ≡ Err why
  unfolding added
  next_fails why bad = let e = ap (plus so_far) (sym same) ∙ sym bad in rw (here_on words i word here is, e) refl

  pub next_added : (next : Sum) → Ok next ≡ plus so_far text → added next (drop (i + 1) words) ≡ added so_far (drop i words)
  unfolding added
  next_added next good = let e = ap (plus so_far) (sym same) ∙ sym good in rw (here_on words i word here is, e) refl

pub all_added : (words : List Text) (i : ℕ) (sum : Sum) → length words ≤ i → added sum (drop i words) ≡ Ok sum
unfolding added
all_added words i sum past = rw (drop_of_length-le words past) refl
