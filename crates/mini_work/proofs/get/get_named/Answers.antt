use Rattle.mini_work.proofs.Caused.{end_both, end_done, end_lacks, end_said, end_then, later_same}
use Rattle.std.proofs.Common.{◌∙◌, Err, length, take, Ok, refl, arith}
use Rattle.std.proofs.lemmas.Option.{slice_get_read}
use Rattle.std.proofs.lemmas.Result.{err_from_is_err_and}
use Rattle.mini_work.specs.CommandActs.{Goes}
use Rattle.mini_work.specs.Gets.{IsGotTo, OnHost}
use Rattle.mini_work.proofs.GotOut.{host_done, host_more, host_none}
use Rattle.mini_work.proofs.KeptOut.{got_path, placed_stands}
use Rattle.mini_work.proofs.PartsJoined.{cut_any, ended_on, goes_cut}
use Rattle.mini_work.proofs.UnitStands.{may_still, same_on}
use Rattle.mini_work.proofs.get.get_named.Goals as goal

pub loop-name-init : goal.loop-name-init
loop-name-init g c = record {
  may = c.requires;
  goes = host_none (IsGotTo c.args.get.now c.args.folder.now) (g.H.Host.told c.args.host.now) (g.W.World.told c.args.world.now) c.args.disk.now;
  stands = λ m s. s;
  cause = λ m s. end_done _ _ (later_same _);
}

pub returns-clause-goes : goal.returns-clause-goes
returns-clause-goes g c =
    host_done (IsGotTo c.args.get.now c.args.folder.now) c.args.names.now c.loop-name.name-index c.loop-name.status _ _ _ _ c.args.disk.now c.args.disk.now
    c.loop-name-test.false c.loop-name.invariant.goes

pub loop-name-preserved : goal.loop-name-preserved
loop-name-preserved g c =
    let told = g.W.World.told in
    let host = g.H.Host.told in
    let d = c.args.disk.now in
    let get = c.args.get.now in
    let folder = c.args.folder.now in
    let names = c.args.names.now in
    let l = c.loop-name in
    let k = l.name-index in
    record {
      may = may_still _ _ d d c.in-Ok.ensures.grown (same_on d) l.invariant.may;
      goes = host_more (IsGotTo get folder) names k c.name-item.result l.status c.in-Ok.one c.and-status.result (host c.args.host.now) (host l.host)
          (host c.get_to.new.host) (told c.args.world.now) (told l.world) (told c.get_to.new.world) d d d
          (slice_get_read names (length names) k c.name-item.result refl c.loop-name-test.true c.name-item.is) l.invariant.goes
          (got_path get folder c.as_str.result.now c.name-item.result (told l.world) (told c.get_to.new.world) d (host l.host) (host c.get_to.new.host) (Ok c.in-Ok.one)
          (c.as_str.ensures.value ∙ c.in_ok-path.ensures) c.in-Ok.ensures.goes)
          c.and-status.ensures;
      stands = λ m s. placed_stands get c.as_str.result.now c.name-item.result (told l.world) (told c.get_to.new.world) d m (host l.host) (host c.get_to.new.host) c.in-Ok.one (c.loop-name.invariant.stands m s) c.in-Ok.ensures.goes;
      cause = λ m s. end_both _ _ _ c.loop-name.status c.in-Ok.one c.and-status.result (c.loop-name.invariant.cause m s) (c.in-Ok.ensures.cause m (c.loop-name.invariant.stands m s)) c.and-status.ensures;
    }

pub returns-in_err-path-clause-goes : goal.returns-in_err-path-clause-goes
returns-in_err-path-clause-goes g c =
    let told = g.W.World.told in
    let host = g.H.Host.told in
    let p = err_from_is_err_and c.from_residual.result c.from_residual.ensures.1 in
    let d = c.args.disk.now in
    let get = c.args.get.now in
    let folder = c.args.folder.now in
    let names = c.args.names.now in
    let l = c.loop-name in
    let R = OnHost (host c.args.host.now) (host l.host) (Goes (IsGotTo get folder) names) in
    cut_any R R _ _ d d p.0 p.0 _ p.1
    (goes_cut (OnHost (host c.args.host.now) (host l.host) (Goes (IsGotTo get folder) (take l.name-index names))) R R l.status (told c.args.world.now) (told l.world)
    (told l.world) d d d p.0 p.0 l.invariant.goes (ended_on R (told l.world) d p.0))

pub returns-in-Err-clause-goes : goal.returns-in-Err-clause-goes
returns-in-Err-clause-goes g c =
    let told = g.W.World.told in
    let host = g.H.Host.told in
    let d = c.args.disk.now in
    let get = c.args.get.now in
    let folder = c.args.folder.now in
    let names = c.args.names.now in
    let l = c.loop-name in
    let R = OnHost (host c.args.host.now) (host c.say_fault.new.host) (Goes (IsGotTo get folder) names) in
    goes_cut (OnHost (host c.args.host.now) (host l.host) (Goes (IsGotTo get folder) (take l.name-index names)))
    (OnHost (host l.host) (host c.get_to.new.host) (IsGotTo get folder c.name-item.result)) R l.status (told c.args.world.now) (told l.world)
    (told c.get_to.new.world) d d d c.in-Err.fault c.say_fault.result l.invariant.goes
    (got_path get folder c.as_str.result.now c.name-item.result (told l.world) (told c.get_to.new.world) d (host l.host) (host c.get_to.new.host) (Err c.in-Err.fault)
    (c.as_str.ensures.value ∙ c.in_ok-path.ensures) c.in-Err.ensures.goes)

pub returns-in_err-path-clause-cause : goal.returns-in_err-path-clause-cause
returns-in_err-path-clause-cause g c = λ m s. end_lacks _ _ c.from_residual.result c.from_residual.ensures.1 (c.loop-name.invariant.cause m s).later

pub returns-in-Err-clause-cause : goal.returns-in-Err-clause-cause
returns-in-Err-clause-cause g c = λ m s. let x = c.in-Err.ensures.cause m (c.loop-name.invariant.stands m s) in end_then _ _ _ _ (c.loop-name.invariant.cause m s).later (end_said _ _ _ c.in-Err.fault _ x.later x.failed (omega (arith, c.discard.ensures.faults, c.say_fault.ensures.later)) c.say_fault.ensures.cause)

pub returns-clause-cause : goal.returns-clause-cause
returns-clause-cause g c = λ m s. c.loop-name.invariant.cause m s
