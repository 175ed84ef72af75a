use Rattle.mini_work.proofs.Caused.{cause_done, cause_then, host_failed, host_later}
use Rattle.std.proofs.Common.{◌≡◌, ◌∙◌, false, sym}
use Rattle.mini_work.proofs.Hosted.{same_then, same_told}
use Rattle.mini_work.proofs.KeptOut.{files_known, no_folder}
use Rattle.mini_work.specs.declared.fault.Fault.TheVariants as fault
use Rattle.mini_work.proofs.get.find_folder.Goals as goal

pub returns-in-Ok-true-clause-files : goal.returns-in-Ok-true-clause-files
returns-in-Ok-true-clause-files g c = same_told (g.H.Host.told c.args.host.now) (g.H.Host.told c.has_folder.new.self) c.in-Ok-true.ensures.told

pub returns-in-Ok-false-clause-none : goal.returns-in-Ok-false-clause-none
returns-in-Ok-false-clause-none g c =
    let no : c.in-Ok-false.field-0 ≡ false = c.in-Ok-false.field-0-test in
    no_folder (g.H.Host.told c.args.host.now) c.args.folder.now c.bar.result (λ f at. sym (c.in-Ok-false.ensures.folder f at) ∙ no)

pub returns-in-Ok-false-clause-files : goal.returns-in-Ok-false-clause-files
returns-in-Ok-false-clause-files g c =
    let host = g.H.Host.told in
    files_known (host c.args.host.now) (host c.bar.new.host) c.bar.result
    (same_then (host c.args.host.now) (host c.has_folder.new.self) (host c.bar.new.host)
    (same_told (host c.args.host.now) (host c.has_folder.new.self) c.in-Ok-false.ensures.told) c.bar.ensures.files)

pub returns-in-Ok-true-clause-cause : goal.returns-in-Ok-true-clause-cause
returns-in-Ok-true-clause-cause g c = λ k. cause_done _ _ _ (host_later k _ _ c.in-Ok-true.ensures.cause.later)

pub returns-in-Ok-false-clause-cause : goal.returns-in-Ok-false-clause-cause
returns-in-Ok-false-clause-cause g c = λ k. cause_then _ _ _ _ (host_later k _ _ c.in-Ok-false.ensures.cause.later) (c.bar.ensures.cause k)

pub returns-in-Err-clause-cause : goal.returns-in-Err-clause-cause
returns-in-Err-clause-cause g c = λ k. host_failed k _ _ fault.Host c.in-Err.ensures.cause.later c.in-Err.ensures.cause.failed
