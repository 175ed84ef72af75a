use Rattle.mini_work.proofs.Caused.{cause_done, cause_fails, later_same, later_then}
use Rattle.std.proofs.Common.{◌≡◌, ◌∙◌, ℕ, List, false, true, rules, subst, sym}
use Rattle.std.specs.Str.{bytes_eq}
use Rattle.std.specs.Prelude.{IsTrue}
use Rattle.cms_disk.proofs.ChangeSteps.{is_there}
use Rattle.mini_work.specs.Puts.{Image, There}
use Rattle.mini_work.proofs.Hosted.{open_there, opened_at, told_of}
use Rattle.mini_work.proofs.put.find_refusal.Goals as goal

pub returns-then-not-put-clause-finds : goal.returns-then-not-put-clause-finds
returns-then-not-put-clause-finds g c = λ files is told m s.
    let has : IsTrue c.has.result = search rules in
    let no : c.args.put.now.replaces ≡ false = search rules in
    let f = is_there s.at c.args.disk.now m c.args.name.now (c.has.ensures.0 has) s.minidisk in
    There c.args.name.now f.0 c.requires f.1 no

pub returns-then-not-put-clause-cause : goal.returns-then-not-put-clause-cause
returns-then-not-put-clause-cause g c = λ k. cause_done _ _ _ (later_same _)

pub returns-then-same-clause-finds : goal.returns-then-same-clause-finds
returns-then-same-clause-finds g c = λ files is told m s.
    let h = told_of (g.H.Host.told c.args.host.now) files is in
    Image (subst (λ (n : List ℕ). bytes_eq c.args.file.now n ≡ true) c.text.ensures (sym (c.in_ok-same.ensures.same h.0 h.1) ∙ c.if-same.true))

pub returns-clause-finds : goal.returns-clause-finds
returns-clause-finds g c =
    let host = g.H.Host.told in
    let old = host c.is_same.new.host in
    let new = host c.open_file.new.host in
    record {
      opened = open_there old new c.args.file.now (λ h at. sym (c.in_ok-there.ensures.there h at) ∙ c.if-not-there.false) c.in_ok-there.ensures.opened;
      content = opened_at old new c.args.file.now c.in_ok-there.ensures.opened;
    }

pub returns-in_err-same-clause-cause : goal.returns-in_err-same-clause-cause
returns-in_err-same-clause-cause g c = λ k. let x = c.in_err-same.ensures.cause k in cause_fails _ _ _ c.in_err-same.field-0.0 c.from_residual.result (later_same _) c.from_residual.ensures.1 x.later x.failed

pub returns-then-same-clause-cause : goal.returns-then-same-clause-cause
returns-then-same-clause-cause g c = λ k. cause_done _ _ _ (c.in_ok-same.ensures.cause k).later

pub returns-in_err-there-clause-cause : goal.returns-in_err-there-clause-cause
returns-in_err-there-clause-cause g c = λ k. let x = c.in_err-there.ensures.cause k in cause_fails _ _ _ c.in_err-there.field-0.0 c.from_residual-in_err-there.result (c.in_ok-same.ensures.cause k).later c.from_residual-in_err-there.ensures.1 x.later x.failed

pub returns-then-not-there-clause-cause : goal.returns-then-not-there-clause-cause
returns-then-not-there-clause-cause g c = λ k. cause_done _ _ _ (later_then _ _ _ (c.in_ok-same.ensures.cause k).later (c.in_ok-there.ensures.cause k).later)

pub returns-clause-cause : goal.returns-clause-cause
returns-clause-cause g c = λ k. cause_done _ _ _ (later_then _ _ _ (c.in_ok-same.ensures.cause k).later (c.in_ok-there.ensures.cause k).later)
