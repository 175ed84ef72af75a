use Rattle.std.proofs.Common.{◌∙◌, ◌++◌, ap, sym, arith, refl}
use Rattle.cms_line.specs.Tokens.{tokens_of, tokens_from}
use Rattle.cms_line.proofs.TokenLemmas.{none_yet, word_goes_on, word_ends, all_words}
use Rattle.cms_line.proofs.words.tokens.Goals as goal

pub loop-place-init : goal.loop-place-init
loop-place-init c =
    let line = c.bytes-bytes.result.now in
    record { ordered = omega arith; so_far = none_yet line ∙ ap (λ z. z ++ tokens_from line 0 0 line) (sym c.new-tokens.ensures) }

pub loop-place-preserved-then-not-ends_word : goal.loop-place-preserved-then-not-ends_word
loop-place-preserved-then-not-ends_word c =
    let l = c.loop-place in
    record {
      ordered = omega (arith, l.invariant.ordered);
      so_far = word_goes_on c.bytes-bytes.result.now l.tokens l.start l.place c.loop-place-test.true (sym c.if-not-ends_word.ensures) l.invariant.so_far;
    }

pub loop-place-preserved : goal.loop-place-preserved
loop-place-preserved c =
    let l = c.loop-place in
    record {
      ordered = omega arith;
      so_far = word_ends c.bytes-bytes.result.now l.tokens c.end_word.new.tokens c.add_parenthesis.new.tokens l.start l.place c.loop-place-test.true
          (sym c.if-not-ends_word.ensures) c.in_ok-end_word.ensures c.in_ok-add_parenthesis.ensures l.invariant.so_far;
    }

pub returns : goal.returns
returns c =
    let l = c.loop-place in
    let line = c.bytes-bytes.result.now in
    all_words line l.tokens c.end_word-2.new.tokens l.start l.place _ refl c.loop-place-test.false (omega (arith, l.auto.place-end)) c.in_ok-end_word-2.ensures l.invariant.so_far
    ∙ ap tokens_of c.bytes-bytes.ensures.bytes
