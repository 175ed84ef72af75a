use Rattle.std.proofs.Common.{◌∙◌, ap, inr, sym}
use Rattle.std.specs.Prelude.{Err}
use Rattle.exec2_run.specs.Given.{bound}
use Rattle.exec2_run.specs.Variables.{target}
use Rattle.exec2_run.proofs.Passed.{no_memory}
use Rattle.exec2_run.proofs.Targets.{names_given, names_it, names_none, names_too_much, short_rest}
use Rattle.exec2_run.proofs.variables.target.Goals as goal

pub returns-in_default : goal.returns-in_default
returns-in_default c =
    inr (names_none (bound c.args.seen.now) c.args.word.now (λ rest is. c.in_default.ensures rest (c.bytes.ensures.bytes ∙ is)))

pub expand_in-requires : goal.expand_in-requires
expand_in-requires c = short_rest c.args.word.now c.in-Some.name.now (sym c.bytes.ensures.bytes ∙ c.in-Some.ensures) c.bytes.ensures.short

pub returns-in_err-name : goal.returns-in_err-name
returns-in_err-name c =
    names_too_much (bound c.args.seen.now) c.args.word.now c.in-Some.name.now (sym c.bytes.ensures.bytes ∙ c.in-Some.ensures) c.in_err-name.field-0.0 c.from_residual.result c.from_residual.ensures.1
    (λ same. c.in_err-name.ensures.too_long (ap Err same))

pub returns-in_err-name-2 : goal.returns-in_err-name-2
returns-in_err-name-2 c = no_memory (target (bound c.args.seen.now) c.args.word.now) c.from_residual-in_err-name-2.result c.from_residual-in_err-name-2.ensures.1

pub returns-then-is_given : goal.returns-then-is_given
returns-then-is_given c =
    inr (names_given (bound c.args.seen.now) c.args.word.now c.in-Some.name.now (sym c.bytes.ensures.bytes ∙ c.in-Some.ensures) c.in_ok-name.name c.in_ok-name-2.name c.bytes-2.result.now
    c.is_given.result c.in_ok-name.ensures.value c.in_ok-name-2.ensures c.bytes-2.ensures.bytes c.is_given.ensures c.if-is_given.true)

pub returns : goal.returns
returns c =
    names_it (bound c.args.seen.now) c.args.word.now c.in-Some.name.now (sym c.bytes.ensures.bytes ∙ c.in-Some.ensures) c.in_ok-name.name c.in_ok-name-2.name c.bytes-2.result.now
    c.is_given.result c.in_ok-name.ensures.value c.in_ok-name-2.ensures c.bytes-2.ensures.bytes c.is_given.ensures c.if-is_given.false
