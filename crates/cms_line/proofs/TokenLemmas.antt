-- The words of a line, byte by byte.
use Rattle.std.proofs.Common.{◌≡◌, ℕ, suc, ◌+◌, ◌<◌, ◌≤◌, ◌||◌, true, false, List, [], ◌∷◌, ◌++◌, length, drop, get_or, refl, ap, sym, ◌∙◌, append_assoc, arith, drop-cons}
use Rattle.std.proofs.lemmas.Grind.{common_steps}
use Rattle.cms_line.specs.declared.token.Token.{Token}
use Rattle.cms_line.specs.Tokens.{tokens_of, tokens_from, words_at, parenthesis_at, is_blank, is_parenthesis}

here : (line : List ℕ) (start place : ℕ) → place < length line → tokens_from line start place (drop place line) ≡ tokens_from line start place (get_or line place 0 ∷ drop (place + 1) line)
here line start place lt =
    let next : suc place ≡ place + 1 = omega arith in
    ap (λ (z : List ℕ). tokens_from line start place z) (drop-cons line place 0 lt ∙ ap (λ (n : ℕ). get_or line place 0 ∷ drop n line) next)

goes_on : (line : List ℕ) (start place b : ℕ) (rest : List ℕ) → (is_blank b || is_parenthesis b) ≡ false → tokens_from line start place (b ∷ rest) ≡ tokens_from line start (place + 1) rest
unfolding tokens_from
goes_on line start place b rest e = rw e refl

is_cut : (line : List ℕ) (start place b : ℕ) (rest : List ℕ) → (is_blank b || is_parenthesis b) ≡ true
    → tokens_from line start place (b ∷ rest) ≡ words_at line start place ++ (parenthesis_at line place b ++ tokens_from line (place + 1) (place + 1) rest)
unfolding tokens_from
is_cut line start place b rest e = rw e refl

pub none_yet : (line : List ℕ) → tokens_of line ≡ [] ++ tokens_from line 0 0 (drop 0 line)
unfolding tokens_of
none_yet line = refl

pub word_goes_on : (line : List ℕ) (out : List Token) (start place : ℕ) → place < length line → (is_blank (get_or line place 0) || is_parenthesis (get_or line place 0)) ≡ false
    → tokens_of line ≡ out ++ tokens_from line start place (drop place line) → tokens_of line ≡ out ++ tokens_from line start (place + 1) (drop (place + 1) line)
word_goes_on line out start place lt e so_far = so_far ∙ ap (λ (z : List Token). out ++ z) (here line start place lt ∙ goes_on line start place (get_or line place 0) (drop (place + 1) line) e)

pub word_ends : (line : List ℕ) (out mid new : List Token) (start place : ℕ) → place < length line → (is_blank (get_or line place 0) || is_parenthesis (get_or line place 0)) ≡ true
    → mid ≡ out ++ words_at line start place → new ≡ mid ++ parenthesis_at line place (get_or line place 0)
    → tokens_of line ≡ out ++ tokens_from line start place (drop place line) → tokens_of line ≡ new ++ tokens_from line (place + 1) (place + 1) (drop (place + 1) line)
word_ends line out mid new start place lt e is_mid is_new so_far =
    let more : List Token = tokens_from line (place + 1) (place + 1) (drop (place + 1) line) in
    so_far ∙ ap (λ (z : List Token). out ++ z) (here line start place lt ∙ is_cut line start place (get_or line place 0) (drop (place + 1) line) e)
    ∙ sym (append_assoc out (words_at line start place) (parenthesis_at line place (get_or line place 0) ++ more))
    ∙ ap (λ (z : List Token). z ++ (parenthesis_at line place (get_or line place 0) ++ more)) (sym is_mid)
    ∙ sym (append_assoc mid (parenthesis_at line place (get_or line place 0)) more)
    ∙ ap (λ (z : List Token). z ++ more) (sym is_new)

last_word : (line : List ℕ) (start place : ℕ) (rest : List ℕ) → rest ≡ [] → tokens_from line start place rest ≡ words_at line start place
unfolding tokens_from
last_word line start place rest e = ap (λ (z : List ℕ). tokens_from line start place z) e

pub all_words : (line : List ℕ) (out new : List Token) (start place end : ℕ) → end ≡ length line → length line ≤ place → place ≤ length line → new ≡ out ++ words_at line start end
    → tokens_of line ≡ out ++ tokens_from line start place (drop place line) → new ≡ tokens_of line
all_words line out new start place end is all within is_new so_far =
    let done : drop place line ≡ [] = grind (arith, common_steps) in
    let same : place ≡ end = omega arith in
    is_new ∙ sym (so_far ∙ ap (λ (z : List Token). out ++ z) (last_word line start place (drop place line) done ∙ ap (λ (n : ℕ). words_at line start n) same))
