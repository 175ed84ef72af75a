use Rattle.std.proofs.Common.{◌≡◌, ◌∙◌, Bool, Ok, ap, false, if◌then◌else◌, length, refl, rules, subst, sym, true, ℕ}
use Rattle.std.proofs.lemmas.Option.{slice_get_read}
use Rattle.mini_work.specs.Causes.{Counts, HasEnd, on_host}
use Rattle.mini_work.specs.HostTold.{things_in}
use Rattle.mini_work.specs.declared.status.Status.{Status}
use Rattle.mini_work.specs.declared.status.Status.TheVariants as status
use Rattle.mini_work.proofs.Caused.{end_fails, end_refused, later_then}
use Rattle.mini_work.proofs.Chosen.{idle_next}
use Rattle.mini_work.proofs.chosen_files.refuse_idle.Goals as goal
use Rattle.mini_work.proofs.chosen_files.refuse_idle.Goals.{then-is_idle+in_ok-status, else-is_idle}

pub returns-in_err-status-clause-cause : goal.returns-in_err-status-clause-cause
returns-in_err-status-clause-cause g c = λ k. let x = c.in_err-status.ensures.cause k in end_fails _ _ _ c.in_err-status.field-0.0 c.from_residual.result (c.loop-pattern.invariant.cause k).later c.from_residual.ensures.1 x.later x.failed

pub returns-clause-cause : goal.returns-clause-cause
returns-clause-cause g c = λ k. c.loop-pattern.invariant.cause k

pub loop-pattern-preserved : goal.loop-pattern-preserved
loop-pattern-preserved g c =
    let m = g.H.Host.faults in
    let told = g.H.Host.told in
    let ps = c.args.patterns.now in
    let l = c.loop-pattern in
    let at = slice_get_read ps (length ps) l.pattern-index c.pattern-item.result refl c.loop-pattern-test.true c.pattern-item.is in
    let first = λ (k : Counts). on_host k (m c.args.host.now) in
    elim c.if-is_idle.branch [
      | then-is_idle+in_ok-status w ↦
          let yes : c.is_idle.result ≡ true = search rules in
          let refused = w.status-is ∙ w.in_ok-status.ensures.status in
          record {
            idle = idle_next ps l.pattern-index c.pattern-item.result c.args.names.now c.is_idle.result c.if-is_idle.status l.status at c.is_idle.ensures l.invariant.idle
                (refused ∙ sym (ap (λ (b : Bool). if b then status.Refused else l.status) yes));
            files = ap (λ h. things_in (told h)) w.host-is ∙ w.in_ok-status.ensures.files ∙ l.invariant.files;
            cause = λ k.
                subst (λ (n : ℕ). HasEnd (first k) (on_host k n) (Ok c.if-is_idle.status)) (sym (ap (λ h. m h) w.host-is))
                (subst (λ (s : Status). HasEnd (first k) (on_host k (m w.refuse.new.host)) (Ok s)) (sym refused)
                (end_refused _ _ (later_then _ _ _ (l.invariant.cause k).later (w.in_ok-status.ensures.cause k).later)));
          }
      | else-is_idle w ↦
          let no : c.is_idle.result ≡ false = search rules in
          record {
            idle = idle_next ps l.pattern-index c.pattern-item.result c.args.names.now c.is_idle.result c.if-is_idle.status l.status at c.is_idle.ensures l.invariant.idle
                (w.status-is ∙ sym (ap (λ (b : Bool). if b then status.Refused else l.status) no));
            files = ap (λ h. things_in (told h)) w.host-is ∙ l.invariant.files;
            cause = λ k.
                subst (λ (n : ℕ). HasEnd (first k) (on_host k n) (Ok c.if-is_idle.status)) (sym (ap (λ h. m h) w.host-is))
                (subst (λ (s : Status). HasEnd (first k) (on_host k (m l.host)) (Ok s)) (sym w.status-is) (l.invariant.cause k));
          }
    ]
