use Rattle.mini_work.proofs.Caused.{end_done, end_fails, end_lacks, later_same}
use Rattle.std.proofs.Common.{◌≡◌, Err, Ok, refl, rules, subst}
use Rattle.mini_work.specs.HandedFiles.{GetsOne, shown_in}
use Rattle.mini_work.specs.declared.handed_file.Way.TheVariants as ways
use Rattle.mini_work.specs.declared.status.Status.{Status}
use Rattle.mini_work.specs.declared.status.Status.TheVariants as status
use Rattle.mini_work.proofs.KeptOut.{got_same, writes_both, writes_other, written_done}
use Rattle.mini_work.proofs.get.write_one.Goals as goal

pub get_one-requires-clause-begun : goal.get_one-requires-clause-begun
get_one-requires-clause-begun g c = λ is. c.requires.begun

pub returns-in_err-other-clause-told : goal.returns-in_err-other-clause-told
returns-in_err-other-clause-told g c = λ m s.
    got_same (g.W.World.told c.args.world.now) (g.W.World.told c.get_one.new.world) (g.H.Host.told c.args.host.now) (g.H.Host.told c.get_one.new.host)
    (shown_in c.args.form m c.args.name.now) (Err c.in_err-other.field-0.0) (c.in_err-other.ensures.gets m s)

pub returns-in_err-push-in-Done-clause-told : goal.returns-in_err-push-in-Done-clause-told
returns-in_err-push-in-Done-clause-told g c = λ m s.
    got_same (g.W.World.told c.args.world.now) (g.W.World.told c.get_one.new.world) (g.H.Host.told c.args.host.now) (g.H.Host.told c.get_one.new.host)
    (shown_in c.args.form m c.args.name.now) (Ok c.in_ok-other.other) (c.in_ok-other.ensures.gets m s)

pub returns-in_ok-push-in-Done-clause-told : goal.returns-in_ok-push-in-Done-clause-told
returns-in_ok-push-in-Done-clause-told g c = λ m s.
    got_same (g.W.World.told c.args.world.now) (g.W.World.told c.get_one.new.world) (g.H.Host.told c.args.host.now) (g.H.Host.told c.get_one.new.host)
    (shown_in c.args.form m c.args.name.now) (Ok c.in_ok-other.other) (c.in_ok-other.ensures.gets m s)

pub returns-in_ok-push-in-Done-clause-writes : goal.returns-in_ok-push-in-Done-clause-writes
returns-in_ok-push-in-Done-clause-writes g c = λ m xs first before t s w.
    let old = g.W.World.told c.args.world.now in
    let new = g.W.World.told c.get_one.new.world in
    let h = g.H.Host.told c.args.host.now in
    let k = g.H.Host.told c.get_one.new.host in
    let text = shown_in c.args.form m c.args.name.now in
    writes_both c.args.form m xs c.args.name.now old new first h k before c.args.written.now c.push.new.self t w
    (written_done old new h k text (subst (λ (x : Status). GetsOne ways.File old new h k text (Ok x)) c.in-Done.is (c.in_ok-other.ensures.gets m s)))
    c.in_ok-push-in-Done.ensures.ok

pub returns-in_default : goal.returns-in_default
returns-in_default g c =
    let old = g.W.World.told c.args.world.now in
    let new = g.W.World.told c.get_one.new.world in
    let h = g.H.Host.told c.args.host.now in
    let k = g.H.Host.told c.get_one.new.host in
    let undone : c.in_ok-other.other ≡ status.Done → ⊥ = search rules in
    record {
      writes = λ m xs first before t s w. writes_other c.args.form m xs c.args.name.now old new first h k before c.args.written.now t c.in_ok-other.other w
          (c.in_ok-other.ensures.gets m s) undone;
      told = λ m s. got_same old new h k (shown_in c.args.form m c.args.name.now) (Ok c.in_ok-other.other) (c.in_ok-other.ensures.gets m s);
      grown = c.in_ok-other.ensures.grown;
      begun = c.in_ok-other.ensures.begun refl;
      files = c.in_ok-other.ensures.files;
      cause = λ m s. c.in_ok-other.ensures.cause m s;
    }

pub returns-in_err-other-clause-cause : goal.returns-in_err-other-clause-cause
returns-in_err-other-clause-cause g c = λ m s. let x = c.in_err-other.ensures.cause m s in end_fails _ _ _ c.in_err-other.field-0.0 c.from_residual.result (later_same _) c.from_residual.ensures.1 x.later x.failed

pub returns-in_err-push-in-Done-clause-cause : goal.returns-in_err-push-in-Done-clause-cause
returns-in_err-push-in-Done-clause-cause g c = λ m s. end_lacks _ _ c.from_residual-in_err-push-in-Done.result c.from_residual-in_err-push-in-Done.ensures.1 (c.in_ok-other.ensures.cause m s).later

pub returns-in_ok-push-in-Done-clause-cause : goal.returns-in_ok-push-in-Done-clause-cause
returns-in_ok-push-in-Done-clause-cause g c = λ m s. end_done _ _ (c.in_ok-other.ensures.cause m s).later

pub returns-in_err-other-clause-grown : goal.returns-in_err-other-clause-grown
returns-in_err-other-clause-grown g c = c.in_err-other.ensures.grown

pub returns-in_err-push-in-Done-clause-grown : goal.returns-in_err-push-in-Done-clause-grown
returns-in_err-push-in-Done-clause-grown g c = c.in_ok-other.ensures.grown

pub returns-in_ok-push-in-Done-clause-grown : goal.returns-in_ok-push-in-Done-clause-grown
returns-in_ok-push-in-Done-clause-grown g c = c.in_ok-other.ensures.grown

pub returns-in_ok-push-in-Done-clause-begun : goal.returns-in_ok-push-in-Done-clause-begun
returns-in_ok-push-in-Done-clause-begun g c = c.in_ok-other.ensures.begun refl

pub returns-in_ok-push-in-Done-clause-files : goal.returns-in_ok-push-in-Done-clause-files
returns-in_ok-push-in-Done-clause-files g c = c.in_ok-other.ensures.files
