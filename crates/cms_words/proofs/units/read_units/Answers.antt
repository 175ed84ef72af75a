use Rattle.std.proofs.Common.{◌≡◌, ◌<◌, ℕ, List, [], Bor, length, get_or, sym, ap, ◌∙◌, arith, inl, map}
use Rattle.std.proofs.lemmas.List.{get_or-map, length-map}
use Rattle.cms_words.specs.UnitWords.{unit_word_of}
use Rattle.cms_words.proofs.UnitLists.{all_units, unit_goes_on, unit_stops, units_stop}
use Rattle.cms_words.proofs.units.read_units.Goals as goal

abbrev texts : List (Bor (List ℕ)) → List (List ℕ)
texts words = map (λ s. s.now) words

count : (words : List (Bor (List ℕ))) → length (texts words) ≡ length words
count words = length-map words (λ s. s.now)

text_at : (words : List (Bor (List ℕ))) (i : ℕ) (d : Bor (List ℕ)) → i < length words → get_or (texts words) i [] ≡ (get_or words i d).now
text_at words i d inside = get_or-map (λ (s : Bor (List ℕ)). s.now) words i d [] inside

pub returns-then-number-gt-MOST_UNITS : goal.returns-then-number-gt-MOST_UNITS
returns-then-number-gt-MOST_UNITS c =
    let same = count c.args.words.now in
    inl (sym (c.loop-word.invariant.value ∙ units_stop c.loop-word.units c.loop-word.number c.loop-word.word-index [] (texts c.args.words.now) (omega (arith, same)) (omega arith)))

pub returns-in-Ok-None : goal.returns-in-Ok-None
returns-in-Ok-None c =
    let same = count c.args.words.now in
    let at = text_at c.args.words.now c.loop-word.word-index _ c.loop-word-test.true in
    inl (sym (c.loop-word.invariant.value ∙ unit_stops c.loop-word.units c.loop-word.number c.loop-word.word-index [] (texts c.args.words.now) (omega (arith, same)) (omega arith)
    (sym c.in-Ok-None.field-0-is ∙ c.in-Ok-None.ensures ∙ sym (ap unit_word_of at))))

pub loop-word-preserved : goal.loop-word-preserved
loop-word-preserved c =
    let same = count c.args.words.now in
    let at = text_at c.args.words.now c.loop-word.word-index _ c.loop-word-test.true in
    let goes = unit_goes_on c.loop-word.units c.loop-word.number c.loop-word.word-index [] (texts c.args.words.now) c.in-Ok-Some.unit (omega (arith, same)) (omega arith)
    (sym c.in-Ok-Some.field-0-is ∙ c.in-Ok-Some.ensures ∙ sym (ap unit_word_of at)) in
    record { number = omega arith; few = omega arith; value = c.loop-word.invariant.value ∙ (rw (c.in_default.ensures.ok) goes) }

pub returns : goal.returns
returns c =
    let same = count c.args.words.now in
    inl (sym (c.loop-word.invariant.value ∙ all_units c.loop-word.units c.loop-word.number c.loop-word.word-index (texts c.args.words.now) (omega (arith, same))))
