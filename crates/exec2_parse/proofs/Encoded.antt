-- Texts in EBCDIC.
use Rattle.std.proofs.Common.{◌≡◌, ◌∙◌, ◌∷◌, [], ◌++◌, ◌+◌, ◌<◌, ◌≤◌, ℕ, List, suc, length, drop, get_or, sym, ap, arith}
use Rattle.std.specs.Prelude.{Option, Some, None}
use Rattle.std.specs.List.{cons_option, filter_map}
use Rattle.std.proofs.lemmas.List.{append_assoc, append-nil, at_drop_all, at_drop_more}
use Rattle.cms_ebcdic.specs.CodePage.{code_of}
use Rattle.cms_text.specs.Texts.{ebcdic}

pub no_longer : (h : ℕ → Option ℕ) (bytes : List ℕ) → length (filter_map h bytes) ≤ length bytes
no_longer h [] = omega arith
no_longer h (byte ∷ more) = elim (h byte) as (λ o. length (cons_option o (filter_map h more)) ≤ suc (length more)) [ None ↦ omega (arith, no_longer h more) | Some x ↦ omega (arith, no_longer h more) ]

pub encoded_short : (text : List ℕ) → length text ≤ 255 → length (ebcdic text) ≤ 255
unfolding ebcdic
encoded_short text short = omega (arith, short, no_longer code_of text)

-- ---- the letters up to a place, and those behind it

pub letters_begin : (h : ℕ → Option ℕ) (text before : List ℕ) → before ≡ [] → before ++ filter_map h text ≡ filter_map h text
letters_begin h text before none = ap (λ (xs : List ℕ). xs ++ filter_map h text) none

letter_next : (h : ℕ → Option ℕ) (text : List ℕ) (n : ℕ) → n < length text → filter_map h (drop n text) ≡ cons_option (h (get_or text n 0)) (filter_map h (drop (n + 1) text))
letter_next h text n within = at_drop_more (filter_map h) text n 0 within

pub letter_kept : (h : ℕ → Option ℕ) (text before all : List ℕ) (n code : ℕ) → n < length text → before ++ filter_map h (drop n text) ≡ all → h (get_or text n 0) ≡ Some code
    → (before ++ code ∷ []) ++ filter_map h (drop (n + 1) text) ≡ all
letter_kept h text before all n code within so is =
    let rest = filter_map h (drop (n + 1) text) in
    append_assoc before (code ∷ []) rest ∙ (ap (λ (xs : List ℕ). before ++ xs) (sym (letter_next h text n within ∙ ap (λ (o : Option ℕ). cons_option o rest) is)) ∙ so)

pub letter_left : (h : ℕ → Option ℕ) (text before all : List ℕ) (n : ℕ) → n < length text → before ++ filter_map h (drop n text) ≡ all → h (get_or text n 0) ≡ None
    → before ++ filter_map h (drop (n + 1) text) ≡ all
letter_left h text before all n within so is =
    ap (λ (xs : List ℕ). before ++ xs) (sym (letter_next h text n within ∙ ap (λ (o : Option ℕ). cons_option o (filter_map h (drop (n + 1) text))) is)) ∙ so

pub letters_end : (h : ℕ → Option ℕ) (text before all : List ℕ) (n : ℕ) → length text ≤ n → before ++ filter_map h (drop n text) ≡ all → before ≡ all
letters_end h text before all n end so = sym (append-nil before) ∙ (ap (λ (xs : List ℕ). before ++ xs) (sym (at_drop_all (filter_map h) text n end)) ∙ so)
