-- Variables that are set one after another.
use Rattle.std.proofs.Common.{◌≡◌, ◌∙◌, ◌-◌, ◌<◌, ◌≤◌, List, length, take, drop, get_or, refl, sym, ap}
use Rattle.std.specs.Prelude.{Ok, Err}
use Rattle.cms_text.specs.Texts.{Text}
use Rattle.exec2_run.specs.Variables.{each_set, first_or_empty, with_value}
use Rattle.exec2_run.specs.declared.fault.Fault.{Fault}
use Rattle.exec2_run.specs.declared.variables.Variables.{Variables}
use Rattle.exec2_run.proofs.FirstWord.{first_and_rest, none_left}

pub none_set : (names words : List Text) (v : Variables) → length names < 1 → each_set names words v ≡ Ok v
unfolding each_set
none_set names words v none = ap (λ (ns : List Text). each_set ns words v) (none_left names none)

module _ (names words : List Text) (v : Variables) (item name value : Text) (some : 1 ≤ length names) (is : item ≡ get_or names 0 item) (called : name ≡ item) (given : value ≡ first_or_empty words) where
  here : with_value v item (first_or_empty words) ≡ with_value v name value
  here = λ i. with_value v (sym called i) (sym given i)

  pub first_not_set : (why : Fault) → with_value v name value ≡ Err why → each_set names words v ≡ Err why
  unfolding each_set
  first_not_set why bad = let e = here ∙ bad in ap (λ (ns : List Text). each_set ns words v) (first_and_rest names item some is) ∙ rw e refl

  pub all_set : (behind : List Text) (w u : Variables) → with_value v name value ≡ Ok w → behind ≡ drop 1 words → each_set (take (length names - 1) (drop 1 names)) behind w ≡ Ok u
      → each_set names words v ≡ Ok u
  unfolding each_set
  all_set behind w u good rest done =
      let e = here ∙ good in
      ap (λ (ns : List Text). each_set ns words v) (first_and_rest names item some is)
      ∙ rw e (ap (λ (ws : List Text). each_set (take (length names - 1) (drop 1 names)) ws w) (sym rest) ∙ done)
