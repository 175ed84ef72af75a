use Rattle.mini_work.specs.HandedFiles.{shown_in}
use Rattle.mini_work.proofs.KeptOut.{gets_stands}
use Rattle.mini_work.proofs.Caused.{end_both, end_done, end_lacks, end_said, end_then, later_same, later_then}
use Rattle.std.proofs.Common.{length, take, Ok, Err, refl}
use Rattle.std.proofs.lemmas.Option.{slice_get_read}
use Rattle.std.proofs.lemmas.Result.{err_from_is_err_and}
use Rattle.mini_work.specs.CommandActs.{Goes}
use Rattle.mini_work.specs.Gets.{IsHanded, OnHost}
use Rattle.mini_work.proofs.GotOut.{handed_on, host_done, host_more, host_none}
use Rattle.mini_work.proofs.PartsJoined.{cut_any, goes_cut}
use Rattle.mini_work.proofs.UnitStands.{may_still, same_on}
use Rattle.mini_work.proofs.get.get_joined.Goals as goal

pub loop-name-init : goal.loop-name-init
loop-name-init g c = record {
  may = c.requires;
  goes = host_none (IsHanded c.args.form) (g.H.Host.told c.args.host.now) (g.W.World.told c.args.world.now) c.args.disk.now;
  stands = λ m s. s;
  cause = λ m s. end_done _ _ (later_same _);
}

pub loop-name-preserved : goal.loop-name-preserved
loop-name-preserved g c =
    let told = g.W.World.told in
    let host = g.H.Host.told in
    let d = c.args.disk.now in
    let names = c.args.names.now in
    let k = c.loop-name.name-index in
    record {
      may = may_still _ _ d d c.in-Ok.ensures.grown (same_on d) c.loop-name.invariant.may;
      goes = host_more (IsHanded c.args.form) names k c.name-item.result c.loop-name.status c.in-Ok.one c.and-status.result (host c.args.host.now) (host c.loop-name.host)
          (host c.get_one.new.host) (told c.args.world.now) (told c.loop-name.world) (told c.get_one.new.world) d d d
          (slice_get_read names (length names) k c.name-item.result refl c.loop-name-test.true c.name-item.is) c.loop-name.invariant.goes
          (handed_on c.args.form c.name-item.result (told c.loop-name.world) (told c.get_one.new.world) d (host c.loop-name.host) (host c.get_one.new.host) (Ok c.in-Ok.one)
          c.in-Ok.ensures.gets)
          c.and-status.ensures;
      stands = λ m s. gets_stands (told c.loop-name.world) (told c.get_one.new.world) d m (host c.loop-name.host) (host c.get_one.new.host) (shown_in c.args.form m c.name-item.result) c.in-Ok.one (c.loop-name.invariant.stands m s) (c.in-Ok.ensures.gets m (c.loop-name.invariant.stands m s));
      cause = λ m s. end_both _ _ _ c.loop-name.status c.in-Ok.one c.and-status.result (c.loop-name.invariant.cause m s) (c.in-Ok.ensures.cause m (c.loop-name.invariant.stands m s)) c.and-status.ensures;
    }

pub returns-clause-goes : goal.returns-clause-goes
returns-clause-goes g c =
    host_done (IsHanded c.args.form) c.args.names.now c.loop-name.name-index c.loop-name.status _ _ _ _ c.args.disk.now c.args.disk.now
    c.loop-name-test.false c.loop-name.invariant.goes

pub returns-in_err-word-in-Err-clause-goes : goal.returns-in_err-word-in-Err-clause-goes
returns-in_err-word-in-Err-clause-goes g c =
    let told = g.W.World.told in
    let host = g.H.Host.told in
    let p = err_from_is_err_and c.from_residual.result c.from_residual.ensures.1 in
    let d = c.args.disk.now in
    let names = c.args.names.now in
    let R = OnHost (host c.args.host.now) (host c.get_one.new.host) (Goes (IsHanded c.args.form) names) in
    cut_any R R _ _ d d p.0 p.0 _ p.1
    (goes_cut (OnHost (host c.args.host.now) (host c.loop-name.host) (Goes (IsHanded c.args.form) (take c.loop-name.name-index names)))
    (OnHost (host c.loop-name.host) (host c.get_one.new.host) (IsHanded c.args.form c.name-item.result)) R c.loop-name.status (told c.args.world.now) (told c.loop-name.world)
    (told c.get_one.new.world) d d d c.in-Err.fault p.0 c.loop-name.invariant.goes
    (handed_on c.args.form c.name-item.result (told c.loop-name.world) (told c.get_one.new.world) d (host c.loop-name.host) (host c.get_one.new.host) (Err c.in-Err.fault)
    c.in-Err.ensures.gets))

pub returns-in-Err-clause-goes : goal.returns-in-Err-clause-goes
returns-in-Err-clause-goes g c =
    let told = g.W.World.told in
    let host = g.H.Host.told in
    let d = c.args.disk.now in
    let names = c.args.names.now in
    let R = OnHost (host c.args.host.now) (host c.say_fault.new.host) (Goes (IsHanded c.args.form) names) in
    goes_cut (OnHost (host c.args.host.now) (host c.loop-name.host) (Goes (IsHanded c.args.form) (take c.loop-name.name-index names)))
    (OnHost (host c.loop-name.host) (host c.get_one.new.host) (IsHanded c.args.form c.name-item.result)) R c.loop-name.status (told c.args.world.now) (told c.loop-name.world)
    (told c.get_one.new.world) d d d c.in-Err.fault c.say_fault.result c.loop-name.invariant.goes
    (handed_on c.args.form c.name-item.result (told c.loop-name.world) (told c.get_one.new.world) d (host c.loop-name.host) (host c.get_one.new.host) (Err c.in-Err.fault)
    c.in-Err.ensures.gets)

pub returns-in_err-word-in-Err-clause-cause : goal.returns-in_err-word-in-Err-clause-cause
returns-in_err-word-in-Err-clause-cause g c = λ m s. end_lacks _ _ c.from_residual.result c.from_residual.ensures.1 (later_then _ _ _ (c.loop-name.invariant.cause m s).later (c.in-Err.ensures.cause m (c.loop-name.invariant.stands m s)).later)

pub returns-in-Err-clause-cause : goal.returns-in-Err-clause-cause
returns-in-Err-clause-cause g c = λ m s. let x = c.in-Err.ensures.cause m (c.loop-name.invariant.stands m s) in end_then _ _ _ _ (c.loop-name.invariant.cause m s).later (end_said _ _ _ c.in-Err.fault _ x.later x.failed c.say_fault.ensures.later c.say_fault.ensures.cause)

pub returns-clause-cause : goal.returns-clause-cause
returns-clause-cause g c = λ m s. c.loop-name.invariant.cause m s
