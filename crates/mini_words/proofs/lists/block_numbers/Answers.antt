use Rattle.std.proofs.Common.{◌∙◌, ◌+◌, [], ap, arith, inl, sym}
use Rattle.std.proofs.lemmas.List.{length-map}
use Rattle.mini_words.specs.Words.{number_of}
use Rattle.mini_words.specs.declared.fault.WordFault.TheVariants.{Block}
use Rattle.mini_words.proofs.Each.{all_read, goes_on, start, stops, text_at, texts}
use Rattle.mini_words.proofs.lists.block_numbers.Goals as goal

pub loop-place-init : goal.loop-place-init
loop-place-init c = rw c.new-blocks.ensures (start (number_of 1 1048576) Block 1 (texts c.args.words.now))

pub returns-in-None : goal.returns-in-None
returns-in-None c =
    let same = length-map c.args.words.now (λ s. s.now) in
    let at = text_at c.args.words.now c.loop-place.place _ c.loop-place-test.true in
    inl (sym (c.loop-place.invariant ∙ stops (number_of 1 1048576) Block c.loop-place.blocks (c.loop-place.place + 1) c.loop-place.place [] (texts c.args.words.now) (omega (arith, same))
    (c.in-None.ensures.value ∙ sym (ap (number_of 1 1048576) at))))

pub loop-place-preserved : goal.loop-place-preserved
loop-place-preserved c =
    let same = length-map c.args.words.now (λ s. s.now) in
    let at = text_at c.args.words.now c.loop-place.place _ c.loop-place-test.true in
    let goes = goes_on (number_of 1 1048576) Block c.loop-place.blocks (c.loop-place.place + 1) c.loop-place.place [] (texts c.args.words.now) c.in-Some.block (omega (arith, same))
    (c.in-Some.ensures.value ∙ sym (ap (number_of 1 1048576) at)) in
    c.loop-place.invariant ∙ (rw c.in_ok-push-in-Some.ensures.ok goes)

pub returns : goal.returns
returns c =
    let same = length-map c.args.words.now (λ s. s.now) in
    inl (sym (c.loop-place.invariant ∙ all_read (number_of 1 1048576) Block c.loop-place.blocks (c.loop-place.place + 1) c.loop-place.place (texts c.args.words.now) (omega (arith, same))))
