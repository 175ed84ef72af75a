-- A text whose places are filled, one behind the other.
use Rattle.std.proofs.Common.{◌≡◌, ◌≤◌, ◌<◌, ◌+◌, List, [], ◌∷◌, ℕ, zero, suc, ◌++◌, Option, true, nat_lt, length, take, drop, get_or, map, refl, sym, ◌∙◌, ap, subst, append_assoc, append-nil, arith}
use Rattle.std.proofs.lemmas.List.{take-take, drop_more, length-take}
use Rattle.std.proofs.lemmas.Bool.{ne_eqb}
use Rattle.std.proofs.lemmas.Grind.{common_steps}
use Rattle.std.proofs.Math.Seq.{take-append_seam}
use Rattle.std.proofs.Math.ListN.{drop_of_length-le}
use Rattle.std.specs.Prelude.{unwrap_or}
use Rattle.cms_ebcdic.specs.CodePage.{code_of}
use Rattle.cms_line.specs.Phrases.{filled, next_of, others_of}

-- what was added so far and what is left make up all, and what was there stays in front
pub record Filling (old new all rest : List ℕ) : Type 0 where
  pub so_far : new ++ rest ≡ old ++ all
  pub front : take (length old) new ≡ old

-- what was there stays in front of more
front_stays : (old into more : List ℕ) → take (length old) into ≡ old → take (length old) (into ++ more) ≡ old
front_stays old into more front =
    let long : length (take (length old) into) ≡ length old = ap (λ (l : List ℕ). length l) front in
    sym (take-take (length old) (length into) (into ++ more) (omega (arith, long, length-take (length old) into)))
    ∙ (ap (take (length old)) (take-append_seam into more) ∙ front)

-- more is added, and that much less is left
pub goes_on : (old into new more all rest next : List ℕ) → Filling old into all rest → new ≡ into ++ more → rest ≡ more ++ next → Filling old new all next
goes_on old into new more all rest next f is less = record {
  so_far = ap (λ (l : List ℕ). l ++ next) is ∙ (append_assoc into more next ∙ (ap (λ (l : List ℕ). into ++ l) (sym less) ∙ f.so_far));
  front = ap (take (length old)) is ∙ front_stays old into more f.front;
}

-- nothing is left
pub ends : (old into all rest : List ℕ) → Filling old into all rest → rest ≡ [] → into ≡ old ++ all
ends old into all rest f none = sym (append-nil into) ∙ (ap (λ (l : List ℕ). into ++ l) (sym none) ∙ f.so_far)

-- the words behind the next
others_behind : (words : List (List ℕ)) (n : ℕ) → others_of (drop n words) ≡ drop (suc n) words
others_behind [] zero = refl
others_behind [] (suc n) = refl
others_behind (word ∷ words) zero = refl
others_behind (word ∷ words) (suc n) = others_behind words n

-- the same, counted from the place
others_left : (words : List (List ℕ)) (n : ℕ) → others_of (drop n words) ≡ drop (n + 1) words
others_left words n =
    let next : suc n ≡ n + 1 = omega arith in
    others_behind words n ∙ ap (λ (m : ℕ). drop m words) next

-- the next word is the one at its place
next_there : {X : Type 0} (f : X → List ℕ) (xs : List X) (n : ℕ) (x : X) → n < length xs → x ≡ get_or xs n x → next_of (drop n (map f xs)) ≡ f x
next_there f [] n x less is = absurd (omega (arith, less))
next_there f (y ∷ xs) zero x less is = ap f (sym is)
next_there f (y ∷ xs) (suc n) x less is = next_there f xs n x (omega (arith, less)) is

-- past the last there is none
none_there : {X : Type 0} (f : X → List ℕ) (xs : List X) (n : ℕ) → length xs ≤ n → next_of (drop n (map f xs)) ≡ []
none_there f [] zero past = refl
none_there f [] (suc n) past = refl
none_there f (y ∷ xs) zero past = absurd (omega (arith, past))
none_there f (y ∷ xs) (suc n) past = none_there f xs n (omega (arith, past))

-- the rest of a text begins with its next character
begins_with : (text bytes : List ℕ) (i : ℕ) (words : List (List ℕ)) → bytes ≡ text → i < length bytes → filled (drop i text) words ≡ filled (get_or bytes i 0 ∷ drop (i + 1) text) words
begins_with text bytes i words same inside =
    ap (λ (t : List ℕ). filled t words) (drop_more text i 0 (subst (λ (z : List ℕ). i < length z) same inside) ∙ ap (λ (z : List ℕ). get_or z i 0 ∷ drop (i + 1) text) (sym same))

-- a character that is no place
no_place : (c : ℕ) (text : List ℕ) (words : List (List ℕ)) → (c ≡ 38 → ⊥) → filled (c ∷ text) words ≡ (unwrap_or (code_of c) 0 ∷ []) ++ filled text words
unfolding filled
no_place c text words other = rw (ne_eqb c 38 other) refl

-- a place is filled with the next word
is_place : (c : ℕ) (text : List ℕ) (words : List (List ℕ)) → c ≡ 38 → filled (c ∷ text) words ≡ next_of words ++ filled text (others_of words)
unfolding filled
is_place c text words same = rw same refl

-- a character was added by its code
pub character_added : (old into new all text bytes : List ℕ) (i code : ℕ) (read : Option ℕ) (words : List (List ℕ)) → bytes ≡ text → i < length bytes → (get_or bytes i 0 ≡ 38 → ⊥)
    → read ≡ code_of (get_or bytes i 0) → code ≡ unwrap_or read 0 → new ≡ into ++ code ∷ [] → Filling old into all (filled (drop i text) words) → Filling old new all (filled (drop (i + 1) text) words)
character_added old into new all text bytes i code read words same inside other read_is code_is new_is f =
    goes_on old into new (code ∷ []) all _ _ f new_is
    (begins_with text bytes i words same inside ∙ (no_place (get_or bytes i 0) (drop (i + 1) text) words other
    ∙ ap (λ (c : ℕ). (c ∷ []) ++ filled (drop (i + 1) text) words) (sym (code_is ∙ ap (λ (o : Option ℕ). unwrap_or o 0) read_is))))

-- a word was added in its place
pub word_added : {X : Type 0} (f : X → List ℕ) (old into new all text bytes word : List ℕ) (i n : ℕ) (xs : List X) (x : X) → bytes ≡ text → i < length bytes → get_or bytes i 0 ≡ 38
    → true ≡ nat_lt n (length xs) → x ≡ get_or xs n x → word ≡ f x → new ≡ into ++ word → Filling old into all (filled (drop i text) (drop n (map f xs))) → Filling old new all (filled (drop (i + 1) text) (drop (n + 1) (map f xs)))
word_added f old into new all text bytes word i n xs x same inside here there is word_is new_is fill =
    let less : n < length xs = grind (arith, common_steps) in
    goes_on old into new word all _ _ fill new_is
    (begins_with text bytes i (drop n (map f xs)) same inside ∙ (is_place (get_or bytes i 0) (drop (i + 1) text) (drop n (map f xs)) here
    ∙ (ap (λ (w : List ℕ). w ++ filled (drop (i + 1) text) (others_of (drop n (map f xs)))) (next_there f xs n x less is ∙ sym word_is)
    ∙ ap (λ (ws : List (List ℕ)). word ++ filled (drop (i + 1) text) ws) (others_left (map f xs) n))))

-- a place without a word is left out
pub place_passed : {X : Type 0} (f : X → List ℕ) (old into all text bytes : List ℕ) (i n : ℕ) (xs : List X) → bytes ≡ text → i < length bytes → get_or bytes i 0 ≡ 38
    → length xs ≤ n → Filling old into all (filled (drop i text) (drop n (map f xs))) → Filling old into all (filled (drop (i + 1) text) (drop (n + 1) (map f xs)))
place_passed f old into all text bytes i n xs same inside here past fill =
    goes_on old into into [] all _ _ fill (sym (append-nil into))
    (begins_with text bytes i (drop n (map f xs)) same inside ∙ (is_place (get_or bytes i 0) (drop (i + 1) text) (drop n (map f xs)) here
    ∙ (ap (λ (w : List ℕ). w ++ filled (drop (i + 1) text) (others_of (drop n (map f xs)))) (none_there f xs n past)
    ∙ ap (λ (ws : List (List ℕ)). filled (drop (i + 1) text) ws) (others_left (map f xs) n))))

-- the whole text was added
pub all_added : (old into all text bytes : List ℕ) (i : ℕ) (words : List (List ℕ)) → bytes ≡ text → length bytes ≤ i → Filling old into all (filled (drop i text) words) → into ≡ old ++ all
unfolding filled
all_added old into all text bytes i words same past f =
    ends old into all _ f (ap (λ (t : List ℕ). filled t words) (drop_of_length-le text (subst (λ (z : List ℕ). length z ≤ i) same past)))
