use Rattle.mini_work.proofs.Caused.{cause_done, cause_fails, cause_then, host_failed, host_later, later_same, later_then}
use Rattle.std.proofs.Common.{◌≡◌, ◌∙◌, inl, inr, ℕ, List, Option, false, true, ap, sym}
use Rattle.std.specs.Option.{option_map}
use Rattle.std.specs.Str.{bytes_eq}
use Rattle.mini_host.specs.Files.{Files, begun}
use Rattle.mini_work.proofs.Hosted.{same_then, same_told}
use Rattle.mini_work.proofs.KeptOut.{never_begun, taken_so}
use Rattle.mini_work.specs.declared.fault.Fault.TheVariants as fault
use Rattle.mini_work.proofs.get.begin_file.Goals as goal

pub returns-then-same-clause-goes : goal.returns-then-same-clause-goes
returns-then-same-clause-goes g c =
    let host = g.H.Host.told in
    let old = host c.args.host.now in
    let mid = host c.is_same.new.host in
    let new = host c.bar.new.host in
    never_begun old new c.args.get.now c.args.file.now c.bar.result c.bar.ensures.no
    (λ f at. inl (ap (λ (n : List ℕ). bytes_eq c.args.file.now n) (sym c.text.ensures) ∙ (sym (c.in_ok-same.ensures.same f at) ∙ c.if-same.true)))
    (same_then old mid new (same_told old mid c.in_ok-same.ensures.told) c.bar.ensures.files)

pub returns-in-Ok-true-clause-goes : goal.returns-in-Ok-true-clause-goes
returns-in-Ok-true-clause-goes g c =
    let yes : c.in-Ok-true.field-0 ≡ true = c.in-Ok-true.field-0-test in
    c.in-Ok-true.ensures.begun yes ∙ ap (λ (h : Option Files). option_map (begun c.args.file.now c.args.get.now.replaces) h) c.in_ok-same.ensures.told

pub returns-in-Ok-false-clause-goes : goal.returns-in-Ok-false-clause-goes
returns-in-Ok-false-clause-goes g c =
    let host = g.H.Host.told in
    let old = host c.args.host.now in
    let mid = host c.begin.new.self in
    let new = host c.bar-in-Ok-false.new.host in
    let no : c.in-Ok-false.field-0 ≡ false = c.in-Ok-false.field-0-test in
    never_begun old new c.args.get.now c.args.file.now c.bar-in-Ok-false.result c.bar-in-Ok-false.ensures.no
    (λ f at. inr (taken_so _ (sym no ∙ c.in-Ok-false.ensures.may f (c.in_ok-same.ensures.told ∙ at))))
    (same_then old mid new (same_told old mid (c.in-Ok-false.ensures.refused no ∙ c.in_ok-same.ensures.told)) c.bar-in-Ok-false.ensures.files)

pub returns-in_err-same-clause-cause : goal.returns-in_err-same-clause-cause
returns-in_err-same-clause-cause g c = λ k. let x = c.in_err-same.ensures.cause k in cause_fails _ _ _ c.in_err-same.field-0.0 c.from_residual.result (later_same _) c.from_residual.ensures.1 x.later x.failed

pub returns-then-same-clause-cause : goal.returns-then-same-clause-cause
returns-then-same-clause-cause g c = λ k. cause_then _ _ _ _ (c.in_ok-same.ensures.cause k).later (c.bar.ensures.cause k)

pub returns-in-Ok-true-clause-cause : goal.returns-in-Ok-true-clause-cause
returns-in-Ok-true-clause-cause g c = λ k. cause_done _ _ _ (later_then _ _ _ (c.in_ok-same.ensures.cause k).later (host_later k _ _ c.in-Ok-true.ensures.cause.later))

pub returns-in-Ok-false-clause-cause : goal.returns-in-Ok-false-clause-cause
returns-in-Ok-false-clause-cause g c =
    λ k. cause_then _ _ _ _ (later_then _ _ _ (c.in_ok-same.ensures.cause k).later (host_later k _ _ c.in-Ok-false.ensures.cause.later))
    (c.bar-in-Ok-false.ensures.cause k)

pub returns-in-Err-clause-cause : goal.returns-in-Err-clause-cause
returns-in-Err-clause-cause g c = λ k. cause_then _ _ _ _ (c.in_ok-same.ensures.cause k).later (host_failed k _ _ fault.Host c.in-Err.ensures.cause.later c.in-Err.ensures.cause.failed)
