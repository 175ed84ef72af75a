-- What &GOTO, &SKIP and a comparison of &LOOP make of their words.
use Rattle.std.proofs.Common.{◌≡◌, ◌∙◌, ◌∷◌, [], ◌-◌, ◌<◌, ◌≤◌, ℕ, ℤ, suc, Bool, List, pos, length, take, drop, get_or, ok_or, refl, sym, ap, arith}
use Rattle.std.specs.Prelude.{MatchResult, Result, Ok, Err}
use Rattle.std.proofs.lemmas.List.{take_all}
use Rattle.cms_text.specs.Numbers.{number_of}
use Rattle.cms_text.specs.Texts.{Text}
use Rattle.exec2_parse.specs.Expansion.{Binding}
use Rattle.exec2_run.specs.Comparisons.{comparison_of}
use Rattle.exec2_run.specs.Given.{seen}
use Rattle.exec2_run.specs.Jumps.{gone, gone_by, place_after, place_named, skipped, skipped_by}
use Rattle.exec2_run.specs.Loops.{test_in}
use Rattle.exec2_run.specs.State.{Exec}
use Rattle.exec2_run.specs.Values.{ended, missing, operands, whole}
use Rattle.exec2_run.specs.declared.comparison.Comparison.{Comparison}
use Rattle.exec2_run.specs.declared.fault.Fault.{Fault}
use Rattle.exec2_run.specs.declared.fault.Fault.TheVariants.{BadStatement, NotNumber}
use Rattle.exec2_run.specs.declared.values.Operands.{Operands}
use Rattle.exec2_run.specs.declared.want.Want.TheVariants.{Next}
use Rattle.exec2_run.proofs.FirstWord.{first_and_rest, none_left}

-- ---- &GOTO

pub goes_nowhere : (s : Exec) (words : List Text) (is_cut : Bool) (fault : Fault) → length words < 1 → fault ≡ missing is_cut → gone_by s words is_cut ≡ Err fault
goes_nowhere s words is_cut fault none is = ap (λ (ws : List Text). gone_by s ws is_cut) (none_left words none) ∙ ap Err (sym is)

module _ (s : Exec) (words : List Text) (label text : Text) (is_cut : Bool) (some : 1 ≤ length words) (is : label ≡ get_or words 0 label) (same : text ≡ label) where
  goes : gone_by s words is_cut ≡ gone_by s (label ∷ take (length words - 1) (drop 1 words)) is_cut
  goes = ap (λ (ws : List Text). gone_by s ws is_cut) (first_and_rest words label some is)

  pub goes_not : (why : Fault) → Err why ≡ place_named s text → gone_by s words is_cut ≡ Err why
  goes_not why bad = let here = ap (place_named s) (sym same) ∙ sym bad in goes ∙ rw here refl

  pub goes_on : (place : ℕ) (why : Fault) → Ok place ≡ place_named s text → Err why ≡ ended (take (length words - 1) (drop 1 words)) is_cut → gone_by s words is_cut ≡ Err why
  goes_on place why good bad = let here = ap (place_named s) (sym same) ∙ sym good in goes ∙ rw (here, sym bad) refl

  pub goes_there : (place : ℕ) (u : Unit {0}) → Ok place ≡ place_named s text → Ok u ≡ ended (take (length words - 1) (drop 1 words)) is_cut
      → gone_by s words is_cut ≡ Ok (record s { next = place }, Next)
  goes_there place u good last = let here = ap (place_named s) (sym same) ∙ sym good in goes ∙ rw (here, sym last) refl

-- what it comes to by what its words become
pub gone_as : (s : Exec) (names : Binding) (words : List Text) (o : Operands) (ws : List Text) → names ≡ seen s → o ≡ operands names words → ws ≡ o.words
    → gone s words ≡ gone_by s ws o.is_cut
unfolding gone
gone_as s names words o ws seen_is is same =
    ap (λ (p : Operands). gone_by s p.words p.is_cut) (sym (is ∙ ap (λ (n : Binding). operands n words) seen_is)) ∙ ap (λ (l : List Text). gone_by s l o.is_cut) (sym same)

-- ---- a comparison

pub no_test : (b : Binding) (words : List Text) → length words < 3 → test_in b words ≡ Err BadStatement
no_test b [] few = refl
no_test b (x ∷ []) few = refl
no_test b (x ∷ y ∷ []) few = refl
no_test b (x ∷ y ∷ z ∷ ws) few = absurd (omega (arith, few))

more_words : (b : Binding) (words : List Text) (left sign right : Text) → 3 ≤ length words → left ≡ get_or words 0 left → sign ≡ get_or words 1 sign → right ≡ get_or words 2 right
    → words ≡ left ∷ sign ∷ right ∷ take (length words - 3) (drop 3 words)
more_words b [] left sign right some l s r = absurd (omega (arith, some))
more_words b (x ∷ []) left sign right some l s r = absurd (omega (arith, some))
more_words b (x ∷ y ∷ []) left sign right some l s r = absurd (omega (arith, some))
more_words b (x ∷ y ∷ z ∷ ws) left sign right some l s r =
    let all = take_all (suc (suc (suc (length ws))) - 3) ws (omega arith) in
    λ i. sym l i ∷ sym s i ∷ sym r i ∷ sym all i

module _ (b : Binding) (words : List Text) (left sign right text : Text) (some : 3 ≤ length words) (l : left ≡ get_or words 0 left) (s : sign ≡ get_or words 1 sign) (r : right ≡ get_or words 2 right)
    (same : text ≡ sign) where
  split : test_in b words ≡ test_in b (left ∷ sign ∷ right ∷ take (length words - 3) (drop 3 words))
  split = ap (test_in b) (more_words b words left sign right some l s r)

  pub compares_nothing : (why : Fault) → Err why ≡ ok_or (comparison_of text) BadStatement → test_in b words ≡ Err why
  compares_nothing why bad = let here = ap (λ (t : Text). ok_or (comparison_of t) BadStatement) (sym same) ∙ sym bad in split ∙ rw here refl

  pub compares_more : (comparison : Comparison) (why : Fault) → Ok comparison ≡ ok_or (comparison_of text) BadStatement
      → ended (operands b (take (length words - 3) (drop 3 words))).words (operands b (take (length words - 3) (drop 3 words))).is_cut ≡ Err why → test_in b words ≡ Err why
  compares_more comparison why good bad = let here = ap (λ (t : Text). ok_or (comparison_of t) BadStatement) (sym same) ∙ sym good in split ∙ rw (here, bad) refl

  pub compares_so : (comparison : Comparison) (u : Unit {0}) (first second : Text) → Ok comparison ≡ ok_or (comparison_of text) BadStatement
      → ended (operands b (take (length words - 3) (drop 3 words))).words (operands b (take (length words - 3) (drop 3 words))).is_cut ≡ Ok u → first ≡ left → second ≡ right
      → test_in b words ≡ Ok (record { left = first; comparison = comparison; right = second })
  compares_so comparison u first second good last fst snd =
      let here = ap (λ (t : Text). ok_or (comparison_of t) BadStatement) (sym same) ∙ sym good in
      split ∙ (rw (here, last) (λ i. Ok (record { left = sym fst i; comparison = comparison; right = sym snd i })))

-- ---- &SKIP alone

module _ (s : Exec) (words : List Text) (is_cut : Bool) (none : length words < 1) where
  alone : skipped_by s words is_cut ≡ skipped_by s [] is_cut
  alone = ap (λ (ws : List Text). skipped_by s ws is_cut) (none_left words none)

  pub skips_cut : (why : Fault) → Err why ≡ whole is_cut → skipped_by s words is_cut ≡ Err why
  skips_cut why cut = alone ∙ rw (sym cut) refl

  skips_not : (u : Unit {0}) (why : Fault) → Ok u ≡ whole is_cut → Err why ≡ place_after s (pos 1) → skipped_by s words is_cut ≡ Err why
  skips_not u why all bad = alone ∙ rw (sym all, sym bad) refl

  skips_one : (u : Unit {0}) (place : ℕ) → Ok u ≡ whole is_cut → Ok place ≡ place_after s (pos 1) → skipped_by s words is_cut ≡ Ok (record s { next = place }, Next)
  skips_one u place all good = alone ∙ rw (sym all, sym good) refl

  pub skips_by_one : (r : Result ℕ Fault) (u : Unit {0}) → Ok u ≡ whole is_cut → r ≡ place_after s (pos 1)
      → MatchResult r (λ place. skipped_by s words is_cut ≡ Ok (record s { next = place }, Next)) (λ fault. skipped_by s words is_cut ≡ Err fault)
  skips_by_one (Ok place) u all is = skips_one u place all is
  skips_by_one (Err why) u all is = skips_not u why all is

-- ---- &SKIP with a number

module _ (s : Exec) (words : List Text) (count text : Text) (is_cut : Bool) (some : 1 ≤ length words) (is : count ≡ get_or words 0 count) (same : text ≡ count) where
  counted : skipped_by s words is_cut ≡ skipped_by s (count ∷ take (length words - 1) (drop 1 words)) is_cut
  counted = ap (λ (ws : List Text). skipped_by s ws is_cut) (first_and_rest words count some is)

  pub skips_no_number : (why : Fault) → Err why ≡ ok_or (number_of text) NotNumber → skipped_by s words is_cut ≡ Err why
  skips_no_number why bad = let here = ap (λ (t : Text). ok_or (number_of t) NotNumber) (sym same) ∙ sym bad in counted ∙ rw here refl

  number_is : (n : ℤ) → Ok n ≡ ok_or (number_of text) NotNumber → ok_or (number_of count) NotNumber ≡ Ok n
  number_is n good = ap (λ (t : Text). ok_or (number_of t) NotNumber) (sym same) ∙ sym good

  pub skips_past : (n : ℤ) (why : Fault) → Ok n ≡ ok_or (number_of text) NotNumber → Err why ≡ place_after s n → skipped_by s words is_cut ≡ Err why
  skips_past n why good bad = let here = number_is n good in counted ∙ rw (here, sym bad) refl

  pub skips_more : (n : ℤ) (place : ℕ) (why : Fault) → Ok n ≡ ok_or (number_of text) NotNumber → Ok place ≡ place_after s n
      → Err why ≡ ended (take (length words - 1) (drop 1 words)) is_cut → skipped_by s words is_cut ≡ Err why
  skips_more n place why good there bad = let here = number_is n good in counted ∙ rw (here, sym there, sym bad) refl

  pub skips_so : (n : ℤ) (place : ℕ) (u : Unit {0}) → Ok n ≡ ok_or (number_of text) NotNumber → Ok place ≡ place_after s n
      → Ok u ≡ ended (take (length words - 1) (drop 1 words)) is_cut → skipped_by s words is_cut ≡ Ok (record s { next = place }, Next)
  skips_so n place u good there last = let here = number_is n good in counted ∙ rw (here, sym there, sym last) refl

-- ---- &SKIP

-- what it comes to by what its words become
pub skipped_as : (s : Exec) (names : Binding) (words : List Text) (o : Operands) (ws : List Text) → names ≡ seen s → o ≡ operands names words → ws ≡ o.words
    → skipped s words ≡ skipped_by s ws o.is_cut
unfolding skipped
skipped_as s names words o ws seen_is is same =
    ap (λ (p : Operands). skipped_by s p.words p.is_cut) (sym (is ∙ ap (λ (n : Binding). operands n words) seen_is)) ∙ ap (λ (l : List Text). skipped_by s l o.is_cut) (sym same)
