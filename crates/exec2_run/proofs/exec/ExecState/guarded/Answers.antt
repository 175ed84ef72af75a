use Rattle.std.proofs.Common.{◌≡◌, ◌∙◌, Err, ap, refl, sym}
use Rattle.std.proofs.lemmas.Result.{IfOk-from_err}
use Rattle.exec2_parse.specs.Kinds.{guards, kind_of}
use Rattle.exec2_run.specs.Given.{seen}
use Rattle.exec2_run.specs.Steps.{compared, guarded}
use Rattle.exec2_run.proofs.Guards.{compares_not, holds_not, holds_so, no_if, short_if}
use Rattle.exec2_run.proofs.Passed.{match_fails}
use Rattle.exec2_run.proofs.Settled.{or_else}
use Rattle.exec2_run.proofs.exec.ExecState.guarded.Goals as goal

pub loop-kind-init : goal.loop-kind-init
loop-kind-init c = record { same = refl; kind = c.requires }

pub returns-in_default-clause-statement : goal.returns-in_default-clause-statement
returns-in_default-clause-statement c =
    let l = c.loop-kind in
    or_else c.fault_of_if.ensures (λ bad. sym l.invariant.same
    ∙ (short_if (seen c.args.self.now) l.rest.now c.in_default.len_below (sym (ap guards l.invariant.kind) ∙ (sym c.is_if.ensures ∙ c.loop-kind-test.true)) ∙ bad))

pub returns-in_err-compare-clause-statement : goal.returns-in_err-compare-clause-statement
returns-in_err-compare-clause-statement c =
    let b = seen c.args.self.now in
    let l = c.loop-kind in
    let why = c.in_err-compare.field-0.0 in
    match_fails (guarded b c.args.words.now) c.from_residual.result _ why (compared b c.left-item.result c.sign-item.result c.right-item.result ≡ Err why)
    c.from_residual.ensures.1 c.in_err-compare.ensures
    (λ bad. sym l.invariant.same ∙ compares_not b l.rest.now c.left-item.result c.sign-item.result c.right-item.result c.in-len4-up.len_at_least c.left-item.is c.sign-item.is c.right-item.is
    (sym (ap guards l.invariant.kind) ∙ (sym c.is_if.ensures ∙ c.loop-kind-test.true)) why bad)

pub returns-in_err-compare-clause-kind : goal.returns-in_err-compare-clause-kind
returns-in_err-compare-clause-kind c = IfOk-from_err c.from_residual.result _ c.from_residual.ensures.0

pub returns-then-not-branch-clause-statement : goal.returns-then-not-branch-clause-statement
returns-then-not-branch-clause-statement c =
    let l = c.loop-kind in
    sym l.invariant.same ∙ holds_not (seen c.args.self.now) l.rest.now c.left-item.result c.sign-item.result c.right-item.result c.in-len4-up.len_at_least c.left-item.is c.sign-item.is
    c.right-item.is (sym (ap guards l.invariant.kind) ∙ (sym c.is_if.ensures ∙ c.loop-kind-test.true)) c.in_ok-compare.field-0 c.nothing.result.words.now c.in_ok-compare.ensures
    c.if-not-branch.true c.nothing.ensures.words

pub returns-then-not-branch-clause-kind : goal.returns-then-not-branch-clause-kind
returns-then-not-branch-clause-kind c = c.nothing.ensures.kind ∙ ap kind_of (sym c.nothing.ensures.words)

pub loop-kind-preserved : goal.loop-kind-preserved
loop-kind-preserved c =
    let l = c.loop-kind in
    record {
      same = holds_so (seen c.args.self.now) l.rest.now c.left-item.result c.sign-item.result c.right-item.result c.in-len4-up.len_at_least c.left-item.is c.sign-item.is c.right-item.is
          (sym (ap guards l.invariant.kind) ∙ (sym c.is_if.ensures ∙ c.loop-kind-test.true)) c.in_ok-compare.field-0 c.in_ok-compare.ensures c.if-not-branch.false ∙ l.invariant.same;
      kind = c.kind_of-kind.ensures;
    }

pub returns-clause-statement : goal.returns-clause-statement
returns-clause-statement c =
    let l = c.loop-kind in
    sym l.invariant.same ∙ no_if (seen c.args.self.now) l.rest.now (sym (ap guards l.invariant.kind) ∙ (sym c.is_if.ensures ∙ c.loop-kind-test.false))

pub returns-clause-kind : goal.returns-clause-kind
returns-clause-kind c = c.loop-kind.invariant.kind
