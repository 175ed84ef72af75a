use Rattle.mini_work.proofs.Caused.{cause_done, cause_then, host_failed, host_later}
use Rattle.std.proofs.Common.{◌≡◌, ◌∙◌, false, true, sym}
use Rattle.mini_work.proofs.KeptOut.{never_kept}
use Rattle.mini_work.specs.declared.fault.Fault.TheVariants as fault
use Rattle.mini_work.proofs.get.keep_file.Goals as goal

pub keep-requires : goal.keep-requires
keep-requires g c = c.requires

pub returns-in-Ok-true-clause-goes : goal.returns-in-Ok-true-clause-goes
returns-in-Ok-true-clause-goes g c = c.in-Ok-true.ensures.kept

pub returns-in-Ok-false-clause-goes : goal.returns-in-Ok-false-clause-goes
returns-in-Ok-false-clause-goes g c =
    let host = g.H.Host.told in
    let no : c.in-Ok-false.field-0 ≡ false = c.in-Ok-false.field-0-test in
    never_kept (host c.args.host.now) (host c.keep.new.self) (host c.bar.new.host) c.bar.result c.bar.ensures.no
    (λ f at. let e : false ≡ true = sym no ∙ c.in-Ok-false.ensures.has_it f at in cc e) c.in-Ok-false.ensures.kept c.bar.ensures.files

pub returns-in-Ok-true-clause-cause : goal.returns-in-Ok-true-clause-cause
returns-in-Ok-true-clause-cause g c = λ k. cause_done _ _ _ (host_later k _ _ c.in-Ok-true.ensures.cause.later)

pub returns-in-Ok-false-clause-cause : goal.returns-in-Ok-false-clause-cause
returns-in-Ok-false-clause-cause g c = λ k. cause_then _ _ _ _ (host_later k _ _ c.in-Ok-false.ensures.cause.later) (c.bar.ensures.cause k)

pub returns-in-Err-clause-cause : goal.returns-in-Err-clause-cause
returns-in-Err-clause-cause g c = λ k. host_failed k _ _ fault.Host c.in-Err.ensures.cause.later c.in-Err.ensures.cause.failed
