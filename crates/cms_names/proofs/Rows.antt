-- The rows of which rests of a pattern fit which rests of a text.
use Rattle.std.proofs.Common.{◌≡◌, ◌≢◌, ℕ, ◌+◌, ◌<◌, ◌≤◌, Bool, true, false, List, [], ◌∷◌, length, drop, get_or, replicate, refl, sym, ◌∙◌, subst, ⊎_elim, arith, add-one, drop-cons, get_or-set_same, get_or-set_other, slice_set}
use Rattle.std.specs.Prelude.{slice_index_or, ◌&&◌, ◌||◌}
use Rattle.std.proofs.lemmas.List.{get_or-replicate, drop_all}
use Rattle.std.proofs.lemmas.Bool.{cases_lt, cases_eq}
use Rattle.cms_names.specs.Patterns.{fits, some_suffix, one_and_then, IsRow}

-- before its end a text begins with the character there
drop_at : (text : List ℕ) (k : ℕ) → k < length text → drop k text ≡ get_or text k 0 ∷ drop (k + 1) text
drop_at text k lt = rw (add-one, drop-cons text k 0) refl

drop_end : (text : List ℕ) (k : ℕ) → k ≡ length text → drop k text ≡ []
drop_end text k e = drop_all k text (omega arith)

-- a test's answer at the rest of a text, by whether that is empty
at_rest : (P : List ℕ → Type 0) (text : List ℕ) (k : ℕ) → k ≤ length text
    → (k ≡ length text → P []) → (k < length text → P (get_or text k 0 ∷ drop (k + 1) text)) → P (drop k text)
at_rest P text k le done more = ⊎_elim
    (λ (lt : k < length text). subst P (sym (drop_at text k lt)) (more lt))
    (λ (ge : length text ≤ k). subst P (sym (drop_all k text ge)) (done (omega arith)))
    (cases_lt k (length text))

-- the empty pattern fits at the end alone
pub end : (text : List ℕ) (row : List Bool) → length text ≤ 8 → row ≡ slice_set (replicate 9 false) (length text) true → IsRow (fits []) text row
unfolding fits
end text row few is = λ k le. at_rest (λ rest. slice_index_or row k false ≡ fits [] rest) text k le
    (λ (e : k ≡ length text). let room : length text < 9 = omega arith in
    subst (λ r. slice_index_or r k false ≡ true) (sym is) (rw e (get_or-set_same (replicate 9 false) (length text) true false room)))
    (λ (lt : k < length text). let ne : k ≢ length text = omega arith in let near : k < 9 = omega arith in
    subst (λ r. slice_index_or r k false ≡ false) (sym is) (get_or-set_other (replicate 9 false) (length text) k true false ne ∙ get_or-replicate 9 k false false near))

-- from a place on the row says where some suffix passes, and before it where the rest itself does
pub record IsSuffixRow (from : ℕ) (test : List ℕ → Bool) (text : List ℕ) (rests row : List Bool) : Type 0 where
  pub before : (k : ℕ) → k < from → slice_index_or row k false ≡ slice_index_or rests k false
  pub behind : (k : ℕ) → from ≤ k → k ≤ length text → slice_index_or row k false ≡ some_suffix test (drop k text)

pub suffixes_none : (from : ℕ) (text : List ℕ) (rests : List Bool) → from ≡ length text
    → (test : List ℕ → Bool) → IsRow test text rests → IsSuffixRow from test text rests rests
suffixes_none from text rests e test is = record {
  before = λ k lt. refl;
  behind = λ k ge le. let last : k ≡ length text = omega arith in is k le ∙ (rw (drop_end text k last) refl);
}

pub suffixes_more : (from place : ℕ) (text : List ℕ) (rests row new : List Bool) → from ≡ place + 1 → place < length text → place < length row
    → new ≡ slice_set row place (slice_index_or row place false || slice_index_or row (place + 1) false)
    → ((test : List ℕ → Bool) → IsRow test text rests → IsSuffixRow from test text rests row)
    → (test : List ℕ → Bool) → IsRow test text rests → IsSuffixRow place test text rests new
suffixes_more from place text rests row new e lt room is so test rows =
    let had = so test rows in
    let here : slice_index_or row place false ≡ test (drop place text) = had.before place (omega arith) ∙ rows place (omega arith) in
    let next : slice_index_or row (place + 1) false ≡ some_suffix test (drop (place + 1) text) = had.behind (place + 1) (omega arith) (omega arith) in
    let both : slice_index_or row place false || slice_index_or row (place + 1) false ≡ some_suffix test (drop place text) =
    rw (here, next, drop_at text place lt) refl in
    record {
      before = λ k less. let ne : k ≢ place = omega arith in subst (λ r. slice_index_or r k false ≡ slice_index_or rests k false) (sym is)
          (get_or-set_other row place k _ false ne ∙ had.before k (omega arith));
      behind = λ k ge le. ⊎_elim
          (λ (same : k ≡ place). subst (λ r. slice_index_or r k false ≡ some_suffix test (drop k text)) (sym is) (rw same (get_or-set_same row place _ false room ∙ both)))
          (λ (ne : k ≢ place). subst (λ r. slice_index_or r k false ≡ some_suffix test (drop k text)) (sym is) (get_or-set_other row place k _ false ne ∙ had.behind k (omega arith) le))
          (cases_eq k place);
    }

pub suffixes_all : (from : ℕ) (text : List ℕ) (rests row : List Bool) → from ≡ 0
    → ((test : List ℕ → Bool) → IsRow test text rests → IsSuffixRow from test text rests row)
    → (test : List ℕ → Bool) → IsRow test text rests → IsRow (some_suffix test) text row
suffixes_all from text rests row e so test rows = λ k le. (so test rows).behind k (omega arith) le

-- before a place the row says where an allowed character stands before a rest that passes
pub record IsCharacterRow (to : ℕ) (is_allowed : ℕ → Bool) (test : List ℕ → Bool) (text : List ℕ) (row : List Bool) : Type 0 where
  pub before : (k : ℕ) → k < to → slice_index_or row k false ≡ one_and_then is_allowed test (drop k text)
  pub behind : (k : ℕ) → to ≤ k → k ≤ length text → slice_index_or row k false ≡ false

pub characters_none : (is_allowed : ℕ → Bool) (text : List ℕ) (rests row : List Bool) → length text ≤ 8 → row ≡ replicate 9 false
    → (test : List ℕ → Bool) → IsRow test text rests → IsCharacterRow 0 is_allowed test text row
characters_none is_allowed text rests row few is test rows = record {
  before = λ k lt. absurd (omega arith);
  behind = λ k ge le. let near : k < 9 = omega arith in subst (λ r. slice_index_or r k false ≡ false) (sym is) (get_or-replicate 9 k false false near);
}

pub characters_more : (place : ℕ) (is_allowed : ℕ → Bool) (text : List ℕ) (rests row new : List Bool) → place < length text → place < length row
    → new ≡ slice_set row place (is_allowed (slice_index_or text place 0) && slice_index_or rests (place + 1) false)
    → ((test : List ℕ → Bool) → IsRow test text rests → IsCharacterRow place is_allowed test text row)
    → (test : List ℕ → Bool) → IsRow test text rests → IsCharacterRow (place + 1) is_allowed test text new
characters_more place is_allowed text rests row new lt room is so test rows =
    let had = so test rows in
    let next : slice_index_or rests (place + 1) false ≡ test (drop (place + 1) text) = rows (place + 1) (omega arith) in
    let both : (is_allowed (slice_index_or text place 0) && slice_index_or rests (place + 1) false) ≡ one_and_then is_allowed test (drop place text) =
    rw (next, drop_at text place lt) refl in
    record {
      before = λ k less. ⊎_elim
          (λ (same : k ≡ place). subst (λ r. slice_index_or r k false ≡ one_and_then is_allowed test (drop k text)) (sym is) (rw same (get_or-set_same row place _ false room ∙ both)))
          (λ (ne : k ≢ place). subst (λ r. slice_index_or r k false ≡ one_and_then is_allowed test (drop k text)) (sym is) (get_or-set_other row place k _ false ne ∙ had.before k (omega arith)))
          (cases_eq k place);
      behind = λ k ge le. let ne : k ≢ place = omega arith in subst (λ r. slice_index_or r k false ≡ false) (sym is)
          (get_or-set_other row place k _ false ne ∙ had.behind k (omega arith) le);
    }

pub characters_all : (to : ℕ) (is_allowed : ℕ → Bool) (text : List ℕ) (rests row : List Bool) → to ≡ length text
    → ((test : List ℕ → Bool) → IsRow test text rests → IsCharacterRow to is_allowed test text row)
    → (test : List ℕ → Bool) → IsRow test text rests → IsRow (one_and_then is_allowed test) text row
characters_all to is_allowed text rests row e so test rows = λ k le. ⊎_elim
    (λ (lt : k < length text). (so test rows).before k (omega arith))
    (λ (ge : length text ≤ k). (so test rows).behind k (omega arith) le ∙ (rw (drop_end text k (omega arith)) refl))
    (cases_lt k (length text))

pub or_first : (a b : Bool) → a ≡ true → a ≡ (a || b)
or_first true b e = refl
or_first false b e = (cc)

pub or_second : (a b : Bool) → a ≡ false → b ≡ (a || b)
or_second false b e = refl
or_second true b e = (cc)

pub and_second : (a b : Bool) → a ≡ true → b ≡ (a && b)
and_second true b e = refl
and_second false b e = (cc)

pub and_first : (a b : Bool) → a ≡ false → a ≡ (a && b)
and_first false b e = refl
and_first true b e = (cc)
