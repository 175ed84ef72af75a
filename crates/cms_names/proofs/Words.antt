-- Words of 1 to 8 characters.
use Rattle.std.proofs.Common.{◌≡◌, ℕ, ◌≤◌, Bool, true, false, List, [], ◌∷◌, ◌++◌, length, take, drop, get_or, replicate, refl, ap, subst, arith, ⊎_elim}
use Rattle.std.specs.Prelude.{not, cond, Some, None, Ok, Err}
use Rattle.std.specs.List.{list_all, prefix_len}
use Rattle.std.specs.Option.{option_map_or}
use Rattle.std.proofs.lemmas.Bool.{le-leb, leb-true, cases_Bool, and_parts, and_from}
use Rattle.std.proofs.lemmas.List.{drop-replicate}
use Rattle.std.proofs.Math.Seq.{take-append_seam}
use Rattle.cms_names.specs.declared.fault.NameFault.TheVariants.{Empty, TooLong, BadChar}
use Rattle.cms_names.specs.Names.{text_of, is_text_of, filled}

-- all pass where none is the first that doesn't
all_pass : (p : ℕ → Bool) (word : List ℕ) → length word ≤ prefix_len (λ c. not (not (p c))) word → list_all p word ≡ true
all_pass p [] le = refl
all_pass p (c ∷ word) le = ⊎_elim
    (λ (yes : p c ≡ true). let le' = rw yes at le in rw yes (all_pass p word (omega (arith, le'))))
    (λ (no : p c ≡ false). let le' = rw no at le in absurd (omega (arith, le')))
    (cases_Bool (p c))

-- the tests that a word which was read has passed
passed : (none many bad : Bool) (place : ℕ) (word text : List ℕ)
    → cond none (Err Empty) (cond many (Err TooLong) (option_map_or (λ k. Err (BadChar k)) (cond bad (Some place) None) (Ok word))) ≡ Ok text
    → (none ≡ false) × (many ≡ false) × (bad ≡ false) × (word ≡ text)
passed true many bad place word text is = (cc)
passed false true bad place word text is = (cc)
passed false false true place word text is = (cc)
passed false false false place word text is = (refl, refl, refl, cc)

-- a text that was read has 1 to 8 characters, all of them allowed
pub allowed : (is_allowed : ℕ → Bool) (word text : List ℕ) → text_of is_allowed word ≡ Ok text → is_text_of is_allowed text ≡ true
unfolding text_of is_text_of
allowed is_allowed word text is =
    let p = passed _ _ _ _ word text is in
    let some : 1 ≤ length word = grind arith in
    let few : length word ≤ 8 = grind arith in
    let all : length word ≤ prefix_len (λ c. not (not (is_allowed c))) word = grind arith in
    subst (λ w. is_text_of is_allowed w ≡ true) p.3 (and_from _ _ (and_from _ _ (le-leb 1 _ some) (le-leb _ 8 few)) (all_pass is_allowed word all))

-- a word written over blanks is a text of its length and filled with blanks
pub record IsFilled (word bytes : List ℕ) : Type 0 where
  pub some : 1 ≤ length word
  pub long : length (take (length word) bytes) ≡ length word
  pub whole : filled (take (length word) bytes) ≡ bytes

pub filled_is : (word bytes : List ℕ) → 1 ≤ length word → bytes ≡ word ++ drop (length word) (replicate 8 0x40) → IsFilled word bytes
unfolding filled
filled_is word bytes some is =
    let front : take (length word) bytes ≡ word = rw is (take-append_seam word (drop (length word) (replicate 8 0x40))) in
    record {
      some = some;
      long = ap length front;
      whole = rw (front, is, drop-replicate {X = ℕ} (length word) 8 0x40) refl;
    }

-- a text that was read has no more than 8 characters
pub short : (is_allowed : ℕ → Bool) (text : List ℕ) → is_text_of is_allowed text ≡ true → length text ≤ 8
unfolding is_text_of
short is_allowed text is = leb-true (length text) 8 (and_parts _ _ (and_parts _ _ is).0).1

pub one : (word : List ℕ) → length word ≡ 1 → word ≡ get_or word 0 0 ∷ []
one [] is = absurd (omega arith)
one (c ∷ []) is = refl
one (c ∷ d ∷ word) is = absurd (omega arith)

pub two : (word : List ℕ) → length word ≡ 2 → word ≡ get_or word 0 0 ∷ get_or word 1 0 ∷ []
two [] is = absurd (omega arith)
two (c ∷ []) is = absurd (omega arith)
two (c ∷ d ∷ []) is = refl
two (c ∷ d ∷ e ∷ word) is = absurd (omega arith)
