-- The codes of a word, one after another.
use Rattle.std.proofs.Common.{◌≡◌, ◌∙◌, ℕ, ◌+◌, ◌<◌, ◌≤◌, false, true, List, [], ◌∷◌, ◌++◌, length, get_or, drop, refl, sym, ap, append_assoc, arith}
use Rattle.std.specs.Prelude.{Option, None, Some, nat_le, if◌then◌else◌}
use Rattle.std.specs.List.{after_first, before_first, position_or_len}
use Rattle.std.specs.Option.{option_and_then, option_map}
use Rattle.std.proofs.lemmas.Bool.Decides.{nat_tests}
use Rattle.std.proofs.lemmas.List.{append-nil, at_drop_all, drop_all, drop_more}
use Rattle.cms_ebcdic.specs.CodePage.{code_of, upper_of}
use Rattle.cms_names.specs.Names.{text_of}
use Rattle.mini_words.specs.Names.{all_codes, codes_of, is_dot, name_of, part_word, pattern_word, patterns_of}

-- codes before those of the rest
abbrev pub behind : List ℕ → Option (List ℕ) → Option (List ℕ)
behind front rest = option_map (λ more. front ++ more) rest

one_more : (front : List ℕ) (x : ℕ) (rest : Option (List ℕ)) → behind front (option_map (λ more. x ∷ more) rest) ≡ behind (front ++ x ∷ []) rest
one_more front x None = refl
one_more front x (Some more) = ap Some (sym (append_assoc front (x ∷ []) more))

first_code : (c code : ℕ) (cs : List ℕ) → Some code ≡ code_of c → all_codes (c ∷ cs) ≡ option_map (λ more. upper_of code ∷ more) (all_codes cs)
unfolding all_codes
first_code c code cs is = rw (← is) refl

no_code : (c : ℕ) (cs : List ℕ) → None ≡ code_of c → all_codes (c ∷ cs) ≡ None
unfolding all_codes
no_code c cs is = rw (← is) refl

no_more : all_codes [] ≡ Some []
unfolding all_codes
no_more = refl

pub code_added : (front word : List ℕ) (i code : ℕ) → i < length word → Some code ≡ code_of (get_or word i 0)
    → behind front (all_codes (drop i word)) ≡ behind (front ++ upper_of code ∷ []) (all_codes (drop (i + 1) word))
code_added front word i code inside is =
    ap (λ (cs : List ℕ). behind front (all_codes cs)) (drop_more word i 0 inside)
    ∙ ap (behind front) (first_code (get_or word i 0) code (drop (i + 1) word) is)
    ∙ one_more front (upper_of code) (all_codes (drop (i + 1) word))

option_same : (o : Option (List ℕ)) → o ≡ behind [] o
option_same None = refl
option_same (Some more) = refl

pub nothing_behind : (word : List ℕ) → all_codes word ≡ behind [] (all_codes (drop 0 word))
nothing_behind word = option_same (all_codes word)

if_short : (word : List ℕ) → length word ≤ 8 → codes_of word ≡ all_codes word
unfolding codes_of
if_short word h =
    let short : nat_le (length word) 8 ≡ true = grind (arith, nat_tests) in
    rw short refl

pub too_long : (word : List ℕ) → 8 < length word → None ≡ codes_of word
unfolding codes_of
too_long word h =
    let long : nat_le (length word) 8 ≡ false = grind (arith, nat_tests) in
    rw long refl

none_of_all : (word : List ℕ) → all_codes word ≡ None → None ≡ codes_of word
unfolding codes_of
none_of_all word is = elim (nat_le (length word) 8) as (λ b. None ≡ (if b then all_codes word else None)) [ true ↦ sym is | false ↦ refl ]

pub code_lacks : (front word : List ℕ) (i : ℕ) → i < length word → None ≡ code_of (get_or word i 0) → all_codes word ≡ behind front (all_codes (drop i word)) → None ≡ codes_of word
code_lacks front word i inside is so_far = none_of_all word (so_far
    ∙ ap (λ (cs : List ℕ). behind front (all_codes cs)) (drop_more word i 0 inside)
    ∙ ap (behind front) (no_code (get_or word i 0) (drop (i + 1) word) is))

pub all_coded : (front word : List ℕ) (i : ℕ) → length word ≤ i → length word ≤ 8 → all_codes word ≡ behind front (all_codes (drop i word)) → Some front ≡ codes_of word
all_coded front word i all short so_far = sym (if_short word short ∙ so_far
    ∙ ap (behind front) (at_drop_all all_codes word i all ∙ no_more) ∙ ap Some (append-nil front))

-- ---- words without a dot

no_part : part_word [] ≡ None
unfolding part_word codes_of all_codes text_of
no_part = refl

no_pattern : pattern_word [] ≡ None
unfolding pattern_word codes_of all_codes text_of
no_pattern = refl

no_type : (word : List ℕ) → position_or_len is_dot word ≡ length word → after_first is_dot word ≡ []
no_type word h = drop_all (position_or_len is_dot word + 1) word (omega arith)

none_behind : {A B : Type 0} (o : Option A) → option_and_then {T = A} {U = B} (λ x. None) o ≡ None
none_behind None = refl
none_behind (Some x) = refl

pub name_without_dot : (word : List ℕ) → position_or_len is_dot word ≡ length word → name_of word ≡ None
unfolding name_of
name_without_dot word h = rw (no_type word h, no_part) (none_behind (part_word (before_first is_dot word)))

pub patterns_without_dot : (word : List ℕ) → position_or_len is_dot word ≡ length word → patterns_of word ≡ None
unfolding patterns_of
patterns_without_dot word h = rw (no_type word h, no_pattern) (none_behind (pattern_word (before_first is_dot word)))
