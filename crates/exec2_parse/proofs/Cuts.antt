-- A text cut at its first blank.
use Rattle.std.proofs.Common.{◌≡◌, ◌∙◌, ◌∷◌, [], ◌++◌, ◌+◌, ◌<◌, ℕ, List, length, take, drop, ◌-◌, refl, sym, ap, subst, arith, Bool, true, false, cond}
use Rattle.std.specs.Prelude.{Some, None, position, filter, not, ◌==◌}
use Rattle.std.specs.List.{slice_split, position_or_len, position_from, onto_first}
use Rattle.std.proofs.lemmas.List.Quantifiers.{position-Some}
use Rattle.std.proofs.lemmas.List.Sums.{position_or_len_is}
use Rattle.std.proofs.lemmas.List.Splits.{slice_split_first}
use Rattle.std.proofs.lemmas.Bool.Decides.{nat_tests}
use Rattle.std.proofs.Math.Seq.{take-length}
use Rattle.std.proofs.lemmas.List.{append-nil, length-drop}
use Rattle.std.proofs.lemmas.Iterator.Adapters.{position_from-zero}
use Rattle.cms_text.specs.Texts.{Text}
use Rattle.exec2_parse.specs.Words.{is_blank, is_empty, word_if_any, words_of}

kept : (word : Text) (words : List Text) → filter (λ word. not (is_empty word)) (word ∷ words) ≡ word_if_any word ++ filter (λ word. not (is_empty word)) words
kept [] words = refl
kept (byte ∷ bytes) words = let e : (length (byte ∷ bytes) == 0) ≡ false = grind (arith, nat_tests) in rw e refl

pub cut_at : (text : Text) (n : ℕ) → position is_blank text ≡ Some n → words_of text ≡ word_if_any (take n text) ++ words_of (drop (n + 1) text)
cut_at text n e =
    let found = position-Some is_blank text n 0 e in
    let within : n < length text = found.0 in
    let place : position_or_len is_blank text ≡ n = position_or_len_is is_blank text n 0 (omega arith) (λ k h. found.2 k h) (λ h. found.1) in
    let split : slice_split is_blank text ≡ take n text ∷ slice_split is_blank (drop (n + 1) text) =
    subst (λ (m : ℕ). slice_split is_blank text ≡ take m text ∷ slice_split is_blank (drop (m + 1) text)) place (slice_split_first is_blank text 0 (omega arith)) in
    ap (filter (λ word. not (is_empty word))) split ∙ kept (take n text) (slice_split is_blank (drop (n + 1) text))

pub cut_rest : (text : Text) (n : ℕ) → position is_blank text ≡ Some n
    → words_of text ≡ word_if_any (take n text) ++ words_of (take (length text - (n + 1)) (drop (n + 1) text))
cut_rest text n e =
    cut_at text n e ∙ ap (λ (rest : Text). word_if_any (take n text) ++ words_of rest)
    (sym (ap (λ (k : ℕ). take k (drop (n + 1) text)) (sym (length-drop (n + 1) text)) ∙ take-length (drop (n + 1) text)))

whole_from : (i : ℕ) (text : Text) → position_from is_blank i text ≡ None → slice_split is_blank text ≡ text ∷ []
whole_from i [] e = refl
whole_from i (byte ∷ bytes) e = cases (is_blank byte) e (whole_from (i + 1) bytes)
  where
    cases : (b : Bool) → cond b (Some i) (position_from is_blank (i + 1) bytes) ≡ None → (position_from is_blank (i + 1) bytes ≡ None → slice_split is_blank bytes ≡ bytes ∷ [])
        → cond b ([] ∷ slice_split is_blank bytes) (onto_first byte (slice_split is_blank bytes)) ≡ (byte ∷ bytes) ∷ []
    cases true h further = cc
    cases false h further = ap (onto_first byte) (further h)

pub uncut : (text : Text) → position is_blank text ≡ None → words_of text ≡ word_if_any text
uncut text e = ap (filter (λ word. not (is_empty word))) (whole_from 0 text (sym (position_from-zero is_blank text) ∙ e)) ∙ kept text [] ∙ append-nil (word_if_any text)
