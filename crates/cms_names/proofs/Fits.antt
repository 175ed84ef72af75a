-- The test of whether a pattern fits a text agrees with the relation.
use Rattle.std.proofs.Common.{◌≡◌, ℕ, Bool, true, false, List, [], ◌∷◌, ◌++◌, refl, ap, ⊎_elim}
use Rattle.std.specs.Prelude.{◌==◌, ◌↔◌, MatchBool, ⊤, IsTrue, if◌then◌else◌}
use Rattle.std.proofs.lemmas.Bool.{cases_Bool, eqb-true, eq-eqb, and_parts, and_from}
use Rattle.std.proofs.Math.Bool.{or-true}
use Rattle.cms_names.specs.Patterns.{fits, Fits, some_suffix, SomeSuffix, one_and_then, OneAndThen}

-- a test agrees with what it tests
abbrev Agrees : (List ℕ → Bool) → (List ℕ → Type 0) → Type 0
Agrees test P = (text : List ℕ) → IsTrue (test text) ↔ P text

suffix_found : (test : List ℕ → Bool) (P : List ℕ → Type 0) → Agrees test P → (text : List ℕ) → some_suffix test text ≡ true → SomeSuffix P text
suffix_found test P agrees [] is = ([], [], refl, (agrees []).0 is)
suffix_found test P agrees (c ∷ text) is = ⊎_elim
    (λ (yes : test (c ∷ text) ≡ true). ([], c ∷ text, refl, (agrees (c ∷ text)).0 yes))
    (λ (no : test (c ∷ text) ≡ false).
    let (front, back, e, holds) = suffix_found test P agrees text (rw no at is) in
    (c ∷ front, back, ap (λ t. c ∷ t) e, holds))
    (cases_Bool (test (c ∷ text)))

suffix_passes : (test : List ℕ → Bool) (front back : List ℕ) → test back ≡ true → some_suffix test (front ++ back) ≡ true
suffix_passes test [] [] is = is
suffix_passes test [] (c ∷ back) is = rw is refl
suffix_passes test (c ∷ front) back is = rw (suffix_passes test front back is) (or-true (test (c ∷ (front ++ back))))

some_suffix_agrees : (test : List ℕ → Bool) (P : List ℕ → Type 0) → Agrees test P → Agrees (some_suffix test) (SomeSuffix P)
some_suffix_agrees test P agrees text = (
  suffix_found test P agrees text,
  λ (front, back, e, holds). rw e (suffix_passes test front back ((agrees back).1 holds)),
)

one_agrees : (is_allowed : ℕ → Bool) (Q : ℕ → Type 0) (test : List ℕ → Bool) (P : List ℕ → Type 0)
    → ((c : ℕ) → IsTrue (is_allowed c) ↔ Q c) → Agrees test P → Agrees (one_and_then is_allowed test) (OneAndThen Q P)
one_agrees is_allowed Q test P allowed agrees [] = (λ is. (cc), λ (c, back, e, q, p). (cc))
one_agrees is_allowed Q test P allowed agrees (c ∷ text) = (
  λ is. let both = and_parts (is_allowed c) (test text) is in (c, text, refl, (allowed c).0 both.0, (agrees text).0 both.1),
  λ (d, back, e, q, p).
      let head : c ≡ d = cc in
      let tail : text ≡ back = cc in
      and_from (is_allowed c) (test text) (rw head ((allowed d).1 q)) (rw tail ((agrees back).1 p)),
)

-- the choice of a test agrees with the choice of what it tests
chosen : (any one : Bool) (f g h : Bool) (F G H : Type 0) → (IsTrue f ↔ F) → (IsTrue g ↔ G) → (IsTrue h ↔ H)
    → IsTrue (if any then f else (if one then g else h)) ↔ MatchBool any F (MatchBool one G H)
chosen true one f g h F G H f_is g_is h_is = f_is
chosen false true f g h F G H f_is g_is h_is = g_is
chosen false false f g h F G H f_is g_is h_is = h_is

pub fits_agrees : (pattern : List ℕ) → Agrees (fits pattern) (Fits pattern)
unfolding fits
fits_agrees [] [] = (λ is. refl, λ e. refl)
fits_agrees [] (c ∷ text) = (λ is. (cc), λ e. (cc))
fits_agrees (p ∷ rest) text =
    let r = fits_agrees rest in
    chosen (p == 0x5C) (p == 0x6C) _ _ _ _ _ _
    (some_suffix_agrees (fits rest) (Fits rest) r text)
    (one_agrees (λ c. true) (λ c. ⊤) (fits rest) (Fits rest) (λ c. (λ is. tt, λ is. refl)) r text)
    (one_agrees (λ c. c == p) (λ c. c ≡ p) (fits rest) (Fits rest) (λ c. (eqb-true c p, eq-eqb c p)) r text)

-- the answer of a test is that of the relation
pub answer_agrees : (pattern text p t : List ℕ) (answer : Bool) → answer ≡ fits p t → p ≡ pattern → t ≡ text → IsTrue answer ↔ Fits pattern text
answer_agrees pattern text p t answer is p_is t_is = rw (is, p_is, t_is) (fits_agrees pattern text)
