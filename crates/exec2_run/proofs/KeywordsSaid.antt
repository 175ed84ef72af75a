-- What statements make of their words, by the keyword that stands first.
use Rattle.std.proofs.Common.{◌≡◌, ◌∙◌, ◌∷◌, ◌-◌, ◌<◌, ◌≤◌, ℕ, Bool, true, false, List, codes, length, take, drop, get_or, refl, sym, ap}
use Rattle.std.specs.Prelude.{Ok, Err}
use Rattle.cms_text.specs.Texts.{Text, is_keyword}
use Rattle.exec2_parse.specs.Expansion.{Binding}
use Rattle.exec2_run.specs.Given.{seen}
use Rattle.exec2_run.specs.Loops.{counted, counted_by, count_of, passes, test_in}
use Rattle.exec2_run.specs.Outputs.{no_words}
use Rattle.exec2_run.specs.Readings.{names, reading_of, reading_of_text}
use Rattle.exec2_run.specs.State.{Exec}
use Rattle.exec2_run.specs.Values.{ended, missing}
use Rattle.exec2_run.specs.Variables.{target}
use Rattle.exec2_run.specs.declared.asked_line.Reading.TheVariants as reading
use Rattle.exec2_run.specs.declared.fault.Fault.{Fault}
use Rattle.exec2_run.specs.declared.fault.Fault.TheVariants.{BadStatement}
use Rattle.exec2_run.specs.declared.loops.Passes.{Passes}
use Rattle.exec2_run.specs.declared.loops.Passes.TheVariants.{Until, While}
use Rattle.exec2_run.specs.declared.loops.Test.{Test}
use Rattle.exec2_run.proofs.FirstWord.{first_and_rest, none_left}

-- what a test for a keyword says of a word
pub said : (keyword : List ℕ) (word text : Text) (r value : Bool) → r ≡ is_keyword keyword text → text ≡ word → r ≡ value → is_keyword keyword word ≡ value
said keyword word text r value tells same is = sym (ap (is_keyword keyword) same) ∙ (sym tells ∙ is)

module _ (words : List Text) (none : length words < 1) where
  pub no_passes : (b : Binding) → passes b words ≡ Err BadStatement
  no_passes b = ap (passes b) (none_left words none)

  pub no_counts : (is_cut : Bool) (fault : Fault) → fault ≡ missing is_cut → counted_by words is_cut ≡ Err fault
  no_counts is_cut fault is = ap (λ (ws : List Text). counted_by ws is_cut) (none_left words none) ∙ ap Err (sym is)

  pub no_reading : (s : Exec) → reading_of s words ≡ Err BadStatement
  unfolding reading_of
  no_reading s = ap (reading_of s) (none_left words none)

  pub no_text : (s : Exec) → reading_of_text s words ≡ Err BadStatement
  no_text s = ap (reading_of_text s) (none_left words none)

module _ (words : List Text) (word : Text) (some : 1 ≤ length words) (is : word ≡ get_or words 0 word) where
  split : words ≡ word ∷ take (length words - 1) (drop 1 words)
  split = first_and_rest words word some is

  -- ---- &LOOP

  pub while_fails : (b : Binding) (why : Fault) → is_keyword (codes "WHILE") word ≡ true → test_in b (take (length words - 1) (drop 1 words)) ≡ Err why → passes b words ≡ Err why
  while_fails b why w bad = ap (passes b) split ∙ rw (w, bad) refl

  pub while_said : (b : Binding) (test : Test) → is_keyword (codes "WHILE") word ≡ true → test_in b (take (length words - 1) (drop 1 words)) ≡ Ok test → passes b words ≡ Ok (While test)
  while_said b test w good = ap (passes b) split ∙ rw (w, good) refl

  pub until_fails : (b : Binding) (why : Fault) → is_keyword (codes "WHILE") word ≡ false → is_keyword (codes "UNTIL") word ≡ true → test_in b (take (length words - 1) (drop 1 words)) ≡ Err why
      → passes b words ≡ Err why
  until_fails b why w u bad = ap (passes b) split ∙ rw (w, u, bad) refl

  pub until_said : (b : Binding) (test : Test) → is_keyword (codes "WHILE") word ≡ false → is_keyword (codes "UNTIL") word ≡ true → test_in b (take (length words - 1) (drop 1 words)) ≡ Ok test
      → passes b words ≡ Ok (Until test)
  until_said b test w u good = ap (passes b) split ∙ rw (w, u, good) refl

  pub counts_said : (b : Binding) → is_keyword (codes "WHILE") word ≡ false → is_keyword (codes "UNTIL") word ≡ false → passes b words ≡ counted b words
  counts_said b w u = ap (passes b) split ∙ rw (w, u) (ap (counted b) (sym split))

  module _ (text : Text) (same : text ≡ word) (is_cut : Bool) where
    pub counts_not : (why : Fault) → Err why ≡ count_of text → counted_by words is_cut ≡ Err why
    counts_not why bad = let here = ap count_of (sym same) ∙ sym bad in ap (λ (ws : List Text). counted_by ws is_cut) split ∙ rw here refl

    pub counts_more : (often : Passes) (why : Fault) → Ok often ≡ count_of text → Err why ≡ ended (take (length words - 1) (drop 1 words)) is_cut → counted_by words is_cut ≡ Err why
    counts_more often why good bad = let here = ap count_of (sym same) ∙ sym good in ap (λ (ws : List Text). counted_by ws is_cut) split ∙ rw (here, sym bad) refl

    pub counts_so : (often : Passes) (u : Unit {0}) → Ok often ≡ count_of text → Ok u ≡ ended (take (length words - 1) (drop 1 words)) is_cut → counted_by words is_cut ≡ Ok often
    counts_so often u good last = let here = ap count_of (sym same) ∙ sym good in ap (λ (ws : List Text). counted_by ws is_cut) split ∙ rw (here, sym last) refl

  -- ---- &READ

  module _ (s : Exec) where
    pub args_fail : (why : Fault) → is_keyword (codes "ARGS") word ≡ true → no_words s (take (length words - 1) (drop 1 words)) ≡ Err why → reading_of s words ≡ Err why
    unfolding reading_of
    args_fail why a bad = ap (reading_of s) split ∙ rw (a, bad) refl

    pub args_said : (u : Unit {0}) → is_keyword (codes "ARGS") word ≡ true → no_words s (take (length words - 1) (drop 1 words)) ≡ Ok u → reading_of s words ≡ Ok reading.Arguments
    unfolding reading_of
    args_said u a good = ap (reading_of s) split ∙ rw (a, good) refl

    pub names_fail : (b : Binding) (why : Fault) → b ≡ seen s → is_keyword (codes "ARGS") word ≡ false → is_keyword (codes "VARS") word ≡ true → names b (take (length words - 1) (drop 1 words)) ≡ Err why
        → reading_of s words ≡ Err why
    unfolding reading_of
    names_fail b why same a v bad =
        let e = ap (λ (n : Binding). names n (take (length words - 1) (drop 1 words))) (sym same) ∙ bad in
        ap (reading_of s) split ∙ rw (a, v, e) refl

    pub names_said : (b : Binding) (all : List Text) → b ≡ seen s → is_keyword (codes "ARGS") word ≡ false → is_keyword (codes "VARS") word ≡ true → names b (take (length words - 1) (drop 1 words)) ≡ Ok all
        → reading_of s words ≡ Ok (reading.Variables all)
    unfolding reading_of
    names_said b all same a v good =
        let e = ap (λ (n : Binding). names n (take (length words - 1) (drop 1 words))) (sym same) ∙ good in
        ap (reading_of s) split ∙ rw (a, v, e) refl

    pub string_said : is_keyword (codes "ARGS") word ≡ false → is_keyword (codes "VARS") word ≡ false → is_keyword (codes "STRING") word ≡ true
        → reading_of s words ≡ reading_of_text s (take (length words - 1) (drop 1 words))
    unfolding reading_of
    string_said a v t = ap (reading_of s) split ∙ rw (a, v, t) refl

    pub nothing_said : is_keyword (codes "ARGS") word ≡ false → is_keyword (codes "VARS") word ≡ false → is_keyword (codes "STRING") word ≡ false → reading_of s words ≡ Err BadStatement
    unfolding reading_of
    nothing_said a v t = ap (reading_of s) split ∙ rw (a, v, t) refl

    pub text_unnamed : (b : Binding) (why : Fault) → b ≡ seen s → target b word ≡ Err why → reading_of_text s words ≡ Err why
    text_unnamed b why same bad = let e = ap (λ (n : Binding). target n word) (sym same) ∙ bad in ap (reading_of_text s) split ∙ rw e refl

    pub text_and_more : (b : Binding) (name : Text) (why : Fault) → b ≡ seen s → target b word ≡ Ok name → no_words s (take (length words - 1) (drop 1 words)) ≡ Err why → reading_of_text s words ≡ Err why
    text_and_more b name why same good bad = let e = ap (λ (n : Binding). target n word) (sym same) ∙ good in ap (reading_of_text s) split ∙ rw (e, bad) refl

    pub text_named : (b : Binding) (name : Text) (u : Unit {0}) → b ≡ seen s → target b word ≡ Ok name → no_words s (take (length words - 1) (drop 1 words)) ≡ Ok u → reading_of_text s words ≡ Ok (reading.Text name)
    text_named b name u same good last = let e = ap (λ (n : Binding). target n word) (sym same) ∙ good in ap (reading_of_text s) split ∙ rw (e, last) refl
