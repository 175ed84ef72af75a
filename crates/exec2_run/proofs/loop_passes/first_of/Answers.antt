use Rattle.std.proofs.Common.{◌≡◌, ◌∙◌, Err, inr, refl, sym}
use Rattle.exec2_run.specs.Given.{bound}
use Rattle.exec2_run.specs.Loops.{first_of}
use Rattle.exec2_run.specs.Values.{value}
use Rattle.exec2_run.proofs.Firsts.{first_fails, first_found, first_later, has_none, has_some, no_first}
use Rattle.exec2_run.proofs.Passed.{match_fails}
use Rattle.exec2_run.proofs.loop_passes.first_of.Goals as goal

pub loop-rest-init : goal.loop-rest-init
loop-rest-init c = refl

pub returns-in_err-value : goal.returns-in_err-value
returns-in_err-value c =
    let b = bound c.args.seen.now in
    let l = c.loop-rest in
    let why = c.in_err-value.field-0.0 in
    match_fails (first_of b c.args.words.now) c.from_residual.result _ why (value b c.word-item.result ≡ Err why) c.from_residual.ensures.1 c.in_err-value.ensures
    (λ bad. sym l.invariant ∙ first_fails b l.rest.now c.word-item.result c.in-len1-up.len_at_least c.word-item.is why bad)

pub returns-then-not-is_empty : goal.returns-then-not-is_empty
returns-then-not-is_empty c =
    let l = c.loop-rest in
    sym l.invariant ∙ first_found (bound c.args.seen.now) l.rest.now c.word-item.result c.in-len1-up.len_at_least c.word-item.is c.in_ok-value.value c.in_ok-value.ensures
    (has_some c.in_ok-value.value c.bytes.result.now c.is_empty.result c.is_empty.ensures c.bytes.ensures.bytes c.if-not-is_empty.true)

pub loop-rest-preserved : goal.loop-rest-preserved
loop-rest-preserved c =
    let l = c.loop-rest in
    first_later (bound c.args.seen.now) l.rest.now c.word-item.result c.in-len1-up.len_at_least c.word-item.is c.in_ok-value.value c.in_ok-value.ensures
    (has_none c.in_ok-value.value c.bytes.result.now c.is_empty.result c.is_empty.ensures c.bytes.ensures.bytes c.if-not-is_empty.false) ∙ l.invariant

pub returns : goal.returns
returns c = inr (sym c.loop-rest.invariant ∙ no_first (bound c.args.seen.now) c.loop-rest.rest.now c.in_default.len_below)
