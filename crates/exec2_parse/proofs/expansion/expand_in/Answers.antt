use Rattle.std.proofs.Common.{◌≡◌, ◌∙◌, ◌++◌, length, sym, ap, arith, rules}
use Rattle.std.specs.Prelude.{Ok}
use Rattle.cms_text.specs.Texts.{Text}
use Rattle.exec2_parse.specs.Expansion.{name_of}
use Rattle.exec2_parse.proofs.Splits.{expanded_end, expanded_past, expanded_start, expanded_step}
use Rattle.exec2_parse.proofs.expansion.expand_in.Goals as goal

pub loop-front-init : goal.loop-front-init
loop-front-init g c =
    let e = c.take-value.ensures ∙ c.new.ensures.items in
    rw e (record { short = omega arith; same = expanded_start (g.S.Scope.binding c.args.scope.now) c.args.word.now })

pub returns-then-left-bytes-gt-LONGEST_TEXT-clause-too_long : goal.returns-then-left-bytes-gt-LONGEST_TEXT-clause-too_long
returns-then-left-bytes-gt-LONGEST_TEXT-clause-too_long g c = λ _.
    let names = g.S.Scope.binding c.args.scope.now in
    let value : c.in_ok-value.value ≡ names (name_of c.in-Some.name.now c.loop-front.value) = c.in_ok-value.ensures
    ∙ ap (λ (text : Text). names (name_of c.in-Some.name.now text)) c.bytes.ensures.bytes in
    sym c.loop-front.invariant.same
    ∙ expanded_past names c.loop-front.left.now c.loop-front.value c.in-Some.front.now c.in-Some.name.now c.in_ok-value.value (search rules) value
    (omega (arith, ap length c.bytes-in-Some.ensures.bytes))

pub loop-front-preserved : goal.loop-front-preserved
loop-front-preserved g c =
    let names = g.S.Scope.binding c.args.scope.now in
    let value : c.in_ok-value.value ≡ names (name_of c.in-Some.name.now c.loop-front.value) = c.in_ok-value.ensures
    ∙ ap (λ (text : Text). names (name_of c.in-Some.name.now text)) c.bytes.ensures.bytes in
    record {
      short = omega (arith, ap length c.bytes-in-Some.ensures.bytes);
      same = sym (expanded_step names c.loop-front.left.now c.loop-front.value c.in-Some.front.now c.in-Some.name.now c.in_ok-value.value (search rules) value
          (omega (arith, ap length c.bytes-in-Some.ensures.bytes))) ∙ c.loop-front.invariant.same;
    }

pub returns-clause-value : goal.returns-clause-value
returns-clause-value g c =
    sym c.loop-front.invariant.same ∙ expanded_end (g.S.Scope.binding c.args.scope.now) c.loop-front.left.now c.loop-front.value c.in_default.ensures
    ∙ ap Ok (sym c.in_ok-followed.ensures)
