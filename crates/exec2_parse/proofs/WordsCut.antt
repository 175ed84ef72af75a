-- The words of a text behind those that were found, and a statement behind its label.
use Rattle.std.proofs.Common.{◌≡◌, ◌∙◌, ◌++◌, ◌∷◌, [], ◌-◌, ◌<◌, ◌≤◌, suc, List, length, take, drop, get_or, sym, ap, arith, Bool, true, false, cond}
use Rattle.std.proofs.lemmas.List.{append_assoc, take_all}
use Rattle.cms_text.specs.Texts.{Text}
use Rattle.exec2_parse.specs.Words.{is_label, statement_of}

pub found_so_far : (before now word rest behind all : List Text) → now ≡ before ++ word → rest ≡ word ++ behind → before ++ rest ≡ all → now ++ behind ≡ all
found_so_far before now word rest behind all is cut so = ap (λ (ws : List Text). ws ++ behind) is ∙ (append_assoc before word behind ∙ (ap (λ (ws : List Text). before ++ ws) (sym cut) ∙ so))

pub found_all : (before now word rest all : List Text) → now ≡ before ++ word → rest ≡ word → before ++ rest ≡ all → now ≡ all
found_all before now word rest all is cut so = is ∙ (ap (λ (ws : List Text). before ++ ws) (sym cut) ∙ so)

-- ---- a statement's label

pub label_left : (slice words : List Text) (word text : Text) → slice ≡ words → 1 ≤ length slice → word ≡ get_or slice 0 word → text ≡ word → is_label text ≡ true
    → take (length slice - 1) (drop 1 slice) ≡ statement_of words
label_left [] words word text same some at is label = absurd (omega (arith, some))
label_left (w ∷ ws) words word text same some at is label =
    take_all (suc (length ws) - 1) ws (omega arith)
    ∙ (sym (ap (λ (b : Bool). cond b ws (w ∷ ws)) (sym (ap is_label (is ∙ at)) ∙ label)) ∙ ap statement_of same)

pub no_label : (slice words : List Text) (word text : Text) → slice ≡ words → word ≡ get_or slice 0 word → text ≡ word → is_label text ≡ false → words ≡ statement_of words
no_label [] words word text same at is label = sym same ∙ ap statement_of same
no_label (w ∷ ws) words word text same at is label =
    sym same ∙ (sym (ap (λ (b : Bool). cond b ws (w ∷ ws)) (sym (ap is_label (is ∙ at)) ∙ label)) ∙ ap statement_of same)

pub no_word : (slice words : List Text) → slice ≡ words → length slice < 1 → words ≡ statement_of words
no_word [] words same none = sym same ∙ ap statement_of same
no_word (w ∷ ws) words same none = absurd (omega (arith, none))
