use Rattle.std.proofs.Common.{◌≡◌, ◌∙◌, ◌+◌, ◌++◌, ℕ, List, [], ◌∷◌, Bor, Some, length, take, map, ap, sym, arith, length-append}
use Rattle.std.specs.Prelude.{slice_get}
use Rattle.std.proofs.lemmas.List.{map-append, take_more}
use Rattle.std.proofs.lemmas.Option.{slice_get_within, get_or_from_slice_get}
use Rattle.cms_words.proofs.words.word_texts.Goals as goal

abbrev texts_of : List (Bor (List ℕ)) → List (List ℕ)
texts_of words = map (λ s. s.now) words

-- the next text of the words
text_added : (texts : List (Bor (List ℕ))) (word : Bor (List ℕ)) (words : List (List ℕ)) → texts_of texts ≡ take (length texts) words → Some word.now ≡ slice_get words (length texts)
    → texts_of (texts ++ word ∷ []) ≡ take (length (texts ++ word ∷ [])) words
text_added texts word words so_far is =
    let longer : length (texts ++ word ∷ []) ≡ length texts + 1 = grind (arith, length-append) in
    map-append (λ (s : Bor (List ℕ)). s.now) texts (word ∷ [])
    ∙ ap (λ (xs : List (List ℕ)). xs ++ word.now ∷ []) so_far
    ∙ ap (λ (x : List ℕ). take (length texts) words ++ x ∷ []) (sym (get_or_from_slice_get words (length texts) word.now [] (sym is)))
    ∙ sym (take_more words (length texts) [] (slice_get_within words (length texts) word.now (sym is)))
    ∙ ap (λ (n : ℕ). take n words) (sym longer)

pub loop-word-preserved : goal.loop-word-preserved
loop-word-preserved c =
    let count : c.len.result ≡ length c.loop-word.texts.items = omega (arith, c.len.ensures, c.loop-word.texts.ok) in
    rw (c.push.ensures.items, c.in_ok-push.was) (text_added c.loop-word.texts.items c.in-Some.word c.args.words.now c.loop-word.invariant
    (c.in-Some.ensures.word ∙ ap (slice_get c.args.words.now) count))
