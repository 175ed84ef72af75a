use Rattle.std.proofs.Common.{◌≡◌, ◌∙◌, [], List, ℕ, Some, ap, sym, arith, length, drop, ◌+◌}
use Rattle.std.proofs.lemmas.Grind.{common_steps}
use Rattle.cms_model.specs.Items.{Item, Text, coded_line}
use Rattle.cms_line.proofs.CodedLines.{prepend, prepend_none, coded_more, bad_line, text_line}
use Rattle.cms_line.proofs.console.line_of.Goals as goal

pub loop-byte-init : goal.loop-byte-init
loop-byte-init c =
    let none : c.in_ok-codes.codes.items ≡ [] = c.in_ok-codes.ensures.items in
    record { coded = prepend_none (coded_line c.args.bytes.now) ∙ ap (λ (z : List ℕ). prepend z (coded_line c.args.bytes.now)) (sym none); count = ap length none }

pub returns-in-None : goal.returns-in-None
returns-in-None c = ap (λ (z : Item). Some z) (bad_line c.args.bytes.now c.loop-byte.codes.items c.loop-byte.byte-index c.loop-byte-test.true (sym c.in-None.ensures) c.loop-byte.invariant.coded)

pub loop-byte-preserved : goal.loop-byte-preserved
loop-byte-preserved c = record {
  coded = coded_more c.args.bytes.now c.loop-byte.codes.items c.loop-byte.byte-index c.in-Some.code c.loop-byte-test.true (sym c.in-Some.ensures) c.loop-byte.invariant.coded
      ∙ ap (λ (z : List ℕ). prepend z (coded_line (drop (c.loop-byte.byte-index + 1) c.args.bytes.now))) (sym c.in_ok-push-in-Some.ensures.items);
  count = grind (arith, common_steps, c.in_ok-push-in-Some.ensures.items, c.loop-byte.invariant.count);
}

pub take-requires : goal.take-requires
take-requires c = omega (arith, c.loop-byte.invariant.count)

pub returns : goal.returns
returns c = ap (λ (z : Item). Some z) (ap (λ (z : List ℕ). Text z) c.take.ensures
    ∙ text_line c.args.bytes.now c.loop-byte.codes.items c.loop-byte.byte-index c.loop-byte-test.false c.loop-byte.invariant.coded)
