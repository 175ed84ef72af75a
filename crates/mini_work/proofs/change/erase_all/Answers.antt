use Rattle.mini_work.proofs.Caused.{end_both, end_done, end_lacks, end_said, end_then, later_same, later_then}
use Rattle.std.proofs.Common.{length, refl, take, ◌∙◌}
use Rattle.std.proofs.lemmas.Option.{slice_get_read}
use Rattle.std.proofs.lemmas.Result.{err_from_is_err_and}
use Rattle.cms_model.specs.Changes.{Drop}
use Rattle.cms_names.specs.declared.name.Name.{Name}
use Rattle.mini_work.specs.Changes.{IsChange}
use Rattle.mini_work.specs.CommandActs.{Goes}
use Rattle.mini_work.specs.Output.{name_line}
use Rattle.mini_work.proofs.Listed.{goes_done, goes_next}
use Rattle.mini_work.proofs.PartsJoined.{cut_any, goes_cut, goes_none}
use Rattle.mini_work.proofs.change.erase_all.Goals as goal

pub loop-name-init : goal.loop-name-init
loop-name-init g c = record {
  may = c.requires.may;
  goes = goes_none (λ (name : Name). IsChange (Drop name) c.args.stamp.now c.args.says (name_line name)) _ c.args.disk.now;
  writable = refl;
  cause = λ may. end_done _ _ (later_same _);
}

pub loop-name-preserved : goal.loop-name-preserved
loop-name-preserved g c =
    let told = g.W.World.told in
    let names = c.args.names.now in
    let k = c.loop-name.name-index in
    let P = λ (name : Name). IsChange (Drop name) c.args.stamp.now c.args.says (name_line name) in
    record {
      may = c.in-Ok.ensures.may;
      goes = goes_next P names k c.name-item.result c.loop-name.status c.in-Ok.one c.and-status.result (told c.args.world.now) (told c.loop-name.world) (told c.erase_one.new.world)
          c.args.disk.now c.loop-name.disk c.erase_one.new.disk (slice_get_read names (length names) k c.name-item.result refl c.loop-name-test.true c.name-item.is) c.loop-name.invariant.goes
          c.in-Ok.ensures.goes c.and-status.ensures;
      writable = c.in-Ok.ensures.writable ∙ c.loop-name.invariant.writable;
      cause = λ may. end_both _ _ _ c.loop-name.status c.in-Ok.one c.and-status.result (c.loop-name.invariant.cause may) (c.in-Ok.ensures.cause (c.loop-name.invariant.writable ∙ may)) c.and-status.ensures;
    }

pub returns-in_err-word-in-Err-clause-goes : goal.returns-in_err-word-in-Err-clause-goes
returns-in_err-word-in-Err-clause-goes g c =
    let told = g.W.World.told in
    let p = err_from_is_err_and c.from_residual.result c.from_residual.ensures.1 in
    let names = c.args.names.now in
    let P = λ (name : Name). IsChange (Drop name) c.args.stamp.now c.args.says (name_line name) in
    cut_any (Goes P names) (Goes P names) _ _ c.args.disk.now c.erase_one.new.disk p.0 p.0 _ p.1
    (goes_cut (Goes P (take c.loop-name.name-index names)) (P c.name-item.result) (Goes P names) c.loop-name.status (told c.args.world.now) (told c.loop-name.world)
    (told c.erase_one.new.world) c.args.disk.now c.loop-name.disk c.erase_one.new.disk c.in-Err.fault p.0 c.loop-name.invariant.goes c.in-Err.ensures.goes)

pub returns-in-Err-clause-goes : goal.returns-in-Err-clause-goes
returns-in-Err-clause-goes g c =
    let told = g.W.World.told in
    let names = c.args.names.now in
    let P = λ (name : Name). IsChange (Drop name) c.args.stamp.now c.args.says (name_line name) in
    goes_cut (Goes P (take c.loop-name.name-index names)) (P c.name-item.result) (Goes P names) c.loop-name.status (told c.args.world.now) (told c.loop-name.world)
    (told c.erase_one.new.world) c.args.disk.now c.loop-name.disk c.erase_one.new.disk c.in-Err.fault c.say_fault.result c.loop-name.invariant.goes
    c.in-Err.ensures.goes

pub returns-clause-goes : goal.returns-clause-goes
returns-clause-goes g c =
    let P = λ (name : Name). IsChange (Drop name) c.args.stamp.now c.args.says (name_line name) in
    goes_done P c.args.names.now c.loop-name.name-index c.loop-name.status _ _ c.args.disk.now c.loop-name.disk c.loop-name-test.false c.loop-name.invariant.goes

pub returns-in_err-word-in-Err-clause-cause : goal.returns-in_err-word-in-Err-clause-cause
returns-in_err-word-in-Err-clause-cause g c = λ may. end_lacks _ _ c.from_residual.result c.from_residual.ensures.1 (later_then _ _ _ (c.loop-name.invariant.cause may).later (c.in-Err.ensures.cause (c.loop-name.invariant.writable ∙ may)).later)

pub returns-in-Err-clause-cause : goal.returns-in-Err-clause-cause
returns-in-Err-clause-cause g c = λ may. let x = (c.in-Err.ensures.cause (c.loop-name.invariant.writable ∙ may)) in end_then _ _ _ _ (c.loop-name.invariant.cause may).later (end_said _ _ _ c.in-Err.fault _ x.later x.failed c.say_fault.ensures.later c.say_fault.ensures.cause)

pub returns-clause-cause : goal.returns-clause-cause
returns-clause-cause g c = λ may. c.loop-name.invariant.cause may
