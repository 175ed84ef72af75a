-- Texts on cards, and read from them again.
use Rattle.std.proofs.Common.{◌≡◌, ⊎_elim, ℕ, zero, suc, ◌+◌, ◌-◌, ◌*◌, ◌<◌, ◌≤◌, List, [], ◌∷◌, ◌++◌, length, take, drop, get_or, map, replicate, refl, sym, ◌∙◌, ap, arith, add-zero, append_assoc}
use Rattle.std.specs.List.{concat}
use Rattle.std.proofs.lemmas.Bool.{cases_lt}
use Rattle.std.proofs.lemmas.List.{append-nil, drop-drop, drop-replicate, drop_all, length-append, length-drop, length-replicate, length-take, length-take-le, map-append, replicate-append-replicate, take-append-drop, take-take, take_all, take_more}
use Rattle.byteorder.specs.Endian.{big_bytes}
use Rattle.cms_text.specs.Bytes.{overwritten}
use Rattle.cms_fields.specs.Numbers.{up}
use Rattle.cms_names.specs.declared.name.Format.TheVariants.{F}
use Rattle.cms_model.specs.Lists.{cut}
use Rattle.cms_model.proofs.Records.{stored_append}
use Rattle.cms_records.specs.Views.{fitted}
use Rattle.cms_cards.specs.Dumps.{card_piece, cards_of, deck_text, dump_card, dump_mark, numbered}

-- ---- one card

-- a field over bytes, by what both are known to be
pub over : (at : ℕ) (field f bytes b new : List ℕ) → new ≡ overwritten at field bytes → field ≡ f → bytes ≡ b → new ≡ overwritten at f b
over at field f bytes b new is field_is bytes_is = rw (← field_is, ← bytes_is) is

-- a piece that fits is filled with zeros
piece_filled : (piece : List ℕ) → length piece ≤ 72 → fitted piece 72 0 ≡ piece ++ drop (length piece) (replicate 72 0)
piece_filled piece few = rw (take_all 72 piece few, drop-replicate {X = ℕ} (length piece) 72 0) refl

-- a card's fields, written over zeros one after another
pub card_is : (number : ℕ) (piece : List ℕ) → length piece ≤ 72
    → overwritten 8 piece (overwritten 4 (big_bytes 4 number) (overwritten 0 dump_mark (replicate 80 0))) ≡ dump_card number piece
card_is number piece few =
    let front : List ℕ = overwritten 4 (big_bytes 4 number) (overwritten 0 dump_mark (replicate 80 0)) in
    let behind : drop (8 + length piece) front ≡ drop (length piece) (replicate 72 0) = sym (drop-drop (length piece) 8 front) in
    let whole : piece ++ drop (8 + length piece) front ≡ fitted piece 72 0 = ap (λ (l : List ℕ). piece ++ l) behind ∙ sym (piece_filled piece few) in
    ap (λ (l : List ℕ). dump_mark ++ (big_bytes 4 number ++ l)) whole

-- ---- cards one after another

-- one card more
pub cards_next : (k n : ℕ) (text : List ℕ) → numbered k (cut (suc n) 72 text) ≡ numbered k (cut n 72 text) ++ dump_card (k + n) (take 72 (drop (n * 72) text)) ∷ []
unfolding numbered cut
cards_next k zero text = ap (λ (j : ℕ). dump_card j (take 72 text) ∷ []) (sym (add-zero k))
cards_next k (suc n) text =
    let count : k + 1 + n ≡ k + suc n = omega arith in
    let far : 72 + n * 72 ≡ suc n * 72 = omega arith in
    let behind : drop (n * 72) (drop 72 text) ≡ drop (suc n * 72) text = drop-drop (n * 72) 72 text ∙ ap (λ (j : ℕ). drop j text) far in
    let last : dump_card (k + 1 + n) (take 72 (drop (n * 72) (drop 72 text))) ≡ dump_card (k + suc n) (take 72 (drop (suc n * 72) text)) =
    ap (λ (j : ℕ). dump_card j (take 72 (drop (n * 72) (drop 72 text)))) count ∙ ap (λ (l : List ℕ). dump_card (k + suc n) (take 72 l)) behind in
    ap (λ (l : List (List ℕ)). dump_card k (take 72 text) ∷ l) (cards_next (k + 1) n (drop 72 text))
    ∙ ap (λ (c : List ℕ). dump_card k (take 72 text) ∷ (numbered (k + 1) (cut n 72 (drop 72 text)) ++ c ∷ [])) last

-- the first of no cards
pub cards_none : (text : List ℕ) → numbered 0 (cut 0 72 text) ≡ []
unfolding numbered cut
cards_none text = refl

-- as many cards as a text needs
pub cards_all : (text : List ℕ) (n : ℕ) → n ≡ up (length text) 72 → numbered 0 (cut n 72 text) ≡ cards_of text
unfolding cards_of
cards_all text n is = ap (λ (k : ℕ). numbered 0 (cut k 72 text)) is

-- ---- what stands on them

-- a whole piece, and what follows
text_whole : (text rest : List ℕ) → 72 ≤ length text → rest ≡ drop 72 text → (fill : List ℕ) → fitted (take 72 text) 72 0 ++ (rest ++ fill) ≡ text ++ fill
text_whole text rest wide is fill =
    let long : length (take 72 text) ≡ 72 = length-take-le 72 text wide in
    let none : fitted (take 72 text) 72 0 ≡ take 72 text = rw (take-take 72 72 text (omega arith), long) (append-nil (take 72 text)) in
    rw (none, is) (sym (append_assoc (take 72 text) (drop 72 text) fill) ∙ ap (λ (l : List ℕ). l ++ fill) (take-append-drop 72 text))

-- the last piece, filled with zeros
text_last : (text : List ℕ) (more : ℕ) → length text ≤ 72 → fitted (take 72 text) 72 0 ++ replicate more 0 ≡ text ++ replicate (72 - length text + more) 0
text_last text more few =
    let all : take 72 text ≡ text = take_all 72 text few in
    rw (all, all) (append_assoc text (replicate (72 - length text) 0) (replicate more 0) ∙ ap (λ (l : List ℕ). text ++ l) (replicate-append-replicate (72 - length text) more 0))

-- a piece is read from its card
piece_back : (number : ℕ) (piece : List ℕ) → card_piece (dump_card number piece) ≡ fitted piece 72 0
piece_back number piece =
    let long : length (fitted piece 72 0) ≡ 72 =
    length-append (take 72 piece) (replicate (72 - length piece) 0) ∙ (omega (arith, length-take 72 piece, length-replicate {A = ℕ} (72 - length piece) 0)) in
    take_all 72 (fitted piece 72 0) (omega arith)

-- a text on enough cards is read from them again, with zeros behind it
pub numbered_text : (k n : ℕ) (text : List ℕ) → length text ≤ n * 72 → deck_text (numbered k (cut n 72 text)) ≡ text ++ replicate (n * 72 - length text) 0
unfolding deck_text numbered cut
numbered_text k zero [] few = refl
numbered_text k zero (c ∷ text) few = absurd (omega arith)
numbered_text k (suc n) text few =
    let long = length-drop 72 text in
    let deeper = numbered_text (k + 1) n (drop 72 text) (omega (arith, long)) in
    ap (λ (l : List ℕ). l ++ deck_text (numbered (k + 1) (cut n 72 (drop 72 text)))) (piece_back k (take 72 text))
    ∙ ap (λ (l : List ℕ). fitted (take 72 text) 72 0 ++ l) deeper ∙ ⊎_elim
    (λ (short : length text < 72).
    let none : drop 72 text ≡ [] = drop_all 72 text (omega arith) in
    let left : n * 72 - length (drop 72 text) ≡ n * 72 = omega (arith, long) in
    let all : 72 - length text + n * 72 ≡ suc n * 72 - length text = omega arith in
    rw (left, none) (text_last text (n * 72) (omega arith) ∙ ap (λ (j : ℕ). text ++ replicate j 0) all))
    (λ (wide : 72 ≤ length text).
    let left : n * 72 - length (drop 72 text) ≡ suc n * 72 - length text = omega (arith, long) in
    rw left (text_whole text (drop 72 text) wide refl (replicate (suc n * 72 - length text) 0)))
    (cases_lt (length text) 72)

-- how many zeros stand behind a text on cards
abbrev pub zeros_behind : List ℕ → List ℕ
zeros_behind text = replicate (up (length text) 72 * 72 - length text) 0

pub cards_text : (text : List ℕ) → deck_text (cards_of text) ≡ text ++ zeros_behind text
unfolding cards_of
cards_text text = numbered_text 0 (up (length text) 72) text (omega arith)

-- one card more
pub text_next : (deck : List (List ℕ)) (k : ℕ) → k < length deck → deck_text (take (k + 1) deck) ≡ deck_text (take k deck) ++ card_piece (get_or deck k [])
unfolding deck_text
text_next deck k less =
    let more : take (k + 1) deck ≡ take k deck ++ get_or deck k [] ∷ [] = take_more deck k [] less in
    let last : List ℕ = card_piece (get_or deck k []) in
    ap (λ (d : List (List ℕ)). concat (map card_piece d)) more
    ∙ ap (λ (l : List (List ℕ)). concat l) (map-append card_piece (take k deck) (get_or deck k [] ∷ []))
    ∙ stored_append F (map card_piece (take k deck)) (last ∷ [])
    ∙ ap (λ (l : List ℕ). concat (map card_piece (take k deck)) ++ l) (append-nil last)
