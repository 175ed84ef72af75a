use Rattle.std.proofs.Common.{◌∙◌, ◌+◌, [], ap, arith, inl, sym}
use Rattle.std.proofs.lemmas.List.{length-map}
use Rattle.mini_words.specs.Names.{name_pattern_of}
use Rattle.mini_words.specs.declared.fault.WordFault.TheVariants.{Name}
use Rattle.mini_words.proofs.Each.{all_read, goes_on, start, stops, text_at, texts}
use Rattle.mini_words.proofs.lists.name_patterns.Goals as goal

pub loop-place-init : goal.loop-place-init
loop-place-init c = rw c.new-names.ensures (start name_pattern_of Name 1 (texts c.args.words.now))

pub returns-in-None : goal.returns-in-None
returns-in-None c =
    let same = length-map c.args.words.now (λ s. s.now) in
    let at = text_at c.args.words.now c.loop-place.place _ c.loop-place-test.true in
    inl (sym (c.loop-place.invariant ∙ stops name_pattern_of Name c.loop-place.names (c.loop-place.place + 1) c.loop-place.place [] (texts c.args.words.now) (omega (arith, same))
    (sym c.in-None.is ∙ c.in_ok-name.ensures ∙ sym (ap name_pattern_of at))))

pub loop-place-preserved : goal.loop-place-preserved
loop-place-preserved c =
    let same = length-map c.args.words.now (λ s. s.now) in
    let at = text_at c.args.words.now c.loop-place.place _ c.loop-place-test.true in
    let goes = goes_on name_pattern_of Name c.loop-place.names (c.loop-place.place + 1) c.loop-place.place [] (texts c.args.words.now) c.in-Some.name (omega (arith, same))
    (sym c.in-Some.is ∙ c.in_ok-name.ensures ∙ sym (ap name_pattern_of at)) in
    c.loop-place.invariant ∙ (rw c.in_ok-push-in-Some.ensures.ok goes)

pub returns : goal.returns
returns c =
    let same = length-map c.args.words.now (λ s. s.now) in
    inl (sym (c.loop-place.invariant ∙ all_read name_pattern_of Name c.loop-place.names (c.loop-place.place + 1) c.loop-place.place (texts c.args.words.now) (omega (arith, same))))
