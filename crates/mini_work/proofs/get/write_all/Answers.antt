use Rattle.mini_work.specs.Causes.{counts}
use Rattle.mini_work.proofs.Caused.{end_both, end_done, end_lacks, end_said, end_then, host_later, later_same, later_then}
use Rattle.std.proofs.Common.{◌∙◌, ◌++◌, ◌∷◌, [], List, length, take, refl, subst, sym, arith}
use Rattle.std.proofs.lemmas.Option.{slice_get_read}
use Rattle.cms_journal.specs.Told.{Told}
use Rattle.cms_names.specs.declared.name.Name.{Name}
use Rattle.cms_listfile.proofs.Procedures.{take_all as take_past}
use Rattle.mini_work.specs.Gets.{WritesAll}
use Rattle.mini_work.specs.Stands.{Stands}
use Rattle.mini_work.specs.declared.status.Status.{Status}
use Rattle.mini_work.proofs.Hosted.{same_then}
use Rattle.mini_work.proofs.KeptOut.{writes_first}
use Rattle.mini_work.proofs.Listed.{take_more}
use Rattle.mini_work.proofs.UnitStands.{may_still, same_on}
use Rattle.mini_work.proofs.get.write_all.Goals as goal

pub loop-name-init : goal.loop-name-init
loop-name-init g c = record {
  may = c.requires.may;
  begun = c.requires.begun;
  told = λ m s. refl;
  writes = λ m s. writes_first c.args.form m (g.H.Host.told c.args.host.now) c.args.written.now;
  files = refl;
  cause = λ m s. end_done _ _ (later_same _);
}

pub loop-name-preserved : goal.loop-name-preserved
loop-name-preserved g c =
    let told = g.W.World.told in
    let host = g.H.Host.told in
    let d = c.args.disk.now in
    let names = c.args.names.now in
    let l = c.loop-name in
    let k = l.name-index in
    let inv = l.invariant in
    let one = c.in-Ok.ensures in
    let at = slice_get_read names (length names) k c.name-item.result refl c.loop-name-test.true c.name-item.is in
    record {
      may = may_still _ _ d d one.grown (same_on d) inv.may;
      begun = one.begun;
      told = λ m s. one.told m (subst (λ (t : Told). Stands t d m) (sym (inv.told m s)) s) ∙ inv.told m s;
      writes = λ m s.
          subst (λ (ns : List Name). WritesAll c.args.form m ns (host c.args.host.now) (host c.write_one.new.host) c.args.written.now c.write_one.new.written c.and-status.result)
          (sym (take_more names k c.name-item.result at))
          (subst (λ (x : Status). WritesAll c.args.form m (take k names ++ c.name-item.result ∷ []) (host c.args.host.now) (host c.write_one.new.host) c.args.written.now
          c.write_one.new.written x) (sym c.and-status.ensures)
          (one.writes m (take k names) (host c.args.host.now) c.args.written.now l.status (subst (λ (t : Told). Stands t d m) (sym (inv.told m s)) s) (inv.writes m s)));
      files = same_then (host c.args.host.now) (host l.host) (host c.write_one.new.host) inv.files one.files;
      cause = λ m s. end_both _ _ _ c.loop-name.status c.in-Ok.one c.and-status.result (c.loop-name.invariant.cause m s) (c.in-Ok.ensures.cause m (subst (λ (t : Told). Stands t d m) (sym (inv.told m s)) s)) c.and-status.ensures;
    }

pub returns-clause-writes : goal.returns-clause-writes
returns-clause-writes g c = λ m s.
    let host = g.H.Host.told in
    subst (λ (ns : List Name). WritesAll c.args.form m ns (host c.args.host.now) (host c.loop-name.host) c.args.written.now c.loop-name.written c.loop-name.status)
    (take_past c.args.names.now c.loop-name.name-index c.loop-name-test.false) (c.loop-name.invariant.writes m s)

pub returns-in_err-word-in-Err-clause-told : goal.returns-in_err-word-in-Err-clause-told
returns-in_err-word-in-Err-clause-told g c = λ m s.
    let before = c.loop-name.invariant.told m s in
    c.in-Err.ensures.told m (subst (λ (t : Told). Stands t c.args.disk.now m) (sym before) s) ∙ before

pub returns-in-Err-clause-told : goal.returns-in-Err-clause-told
returns-in-Err-clause-told g c = λ m s.
    let before = c.loop-name.invariant.told m s in
    c.in-Err.ensures.told m (subst (λ (t : Told). Stands t c.args.disk.now m) (sym before) s) ∙ before

pub returns-in_err-word-in-Err-clause-cause : goal.returns-in_err-word-in-Err-clause-cause
returns-in_err-word-in-Err-clause-cause g c = λ m s. let at = counts g.W.World g.H.Host in end_lacks _ _ c.from_residual.result c.from_residual.ensures.1 (later_then _ _ _ (later_then _ _ _ (c.loop-name.invariant.cause m s).later (c.in-Err.ensures.cause m (subst (λ (t : Told). Stands t c.args.disk.now m) (sym (c.loop-name.invariant.told m s)) s)).later) (host_later (at c.write_one.new.world c.write_one.new.host) _ _ (omega (arith, c.discard.ensures.faults))))

pub returns-in-Err-clause-cause : goal.returns-in-Err-clause-cause
returns-in-Err-clause-cause g c = λ m s. let x = c.in-Err.ensures.cause m (subst (λ (t : Told). Stands t c.args.disk.now m) (sym (c.loop-name.invariant.told m s)) s) in end_then _ _ _ _ (c.loop-name.invariant.cause m s).later (end_said _ _ _ c.in-Err.fault _ x.later x.failed (omega (arith, c.discard.ensures.faults, c.say_fault.ensures.later)) c.say_fault.ensures.cause)

pub returns-clause-cause : goal.returns-clause-cause
returns-clause-cause g c = λ m s. c.loop-name.invariant.cause m s
