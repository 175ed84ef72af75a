use Rattle.mini_work.proofs.Caused.{end_done, end_fails, later_same, later_then}
use Rattle.std.proofs.Common.{List, length, refl, take, Ok, subst, sym}
use Rattle.std.proofs.lemmas.Option.{slice_get_read}
use Rattle.std.proofs.lemmas.Result.{err_from_is_err_and}
use Rattle.cms_names.specs.declared.name.Name.{Name}
use Rattle.cms_listfile.proofs.Procedures.{take_all as take_past}
use Rattle.mini_work.specs.Changes.{IsTold}
use Rattle.mini_work.specs.CommandActs.{Continues}
use Rattle.mini_work.specs.Gets.{AreSaid}
use Rattle.mini_work.specs.Output.{name_line}
use Rattle.mini_work.specs.declared.status.Status.TheVariants.{Done}
use Rattle.mini_work.proofs.KeptOut.{names_more, names_none}
use Rattle.mini_work.proofs.Listed.{take_more}
use Rattle.mini_work.proofs.PartsJoined.{cut_any, goes_cut}
use Rattle.mini_work.proofs.get.say_names.Goals as goal

pub loop-name-init : goal.loop-name-init
loop-name-init g c = record { goes = (λ d. names_none c.args.says (g.W.World.told c.args.world.now) d); later = λ n. later_same _ }

pub loop-name-preserved : goal.loop-name-preserved
loop-name-preserved g c = record {
  goes = (λ d.
      let told = g.W.World.told in
      let names = c.args.names.now in
      let k = c.loop-name.name-index in
      let at = slice_get_read names (length names) k c.name-item.result refl c.loop-name-test.true c.name-item.is in
      subst (λ (ns : List Name). Continues (AreSaid c.args.says ns) (told c.args.world.now) d (told c.say_name.new.world) d (Ok Done)) (sym (take_more names k c.name-item.result at))
      (names_more c.args.says (take k names) c.name-item.result (told c.args.world.now) (told c.loop-name.world) (told c.say_name.new.world) d Done _ (c.loop-name.invariant.goes d)
      (c.in_ok-say_name.ensures.goes d)));
  later = λ n. later_then _ _ _ (c.loop-name.invariant.later n) (c.in_ok-say_name.ensures.cause n).later;
}

pub returns-in_err-say_name-clause-goes : goal.returns-in_err-say_name-clause-goes
returns-in_err-say_name-clause-goes g c = λ d.
    let told = g.W.World.told in
    let p = err_from_is_err_and c.from_residual.result c.from_residual.ensures.1 in
    let names = c.args.names.now in
    cut_any (AreSaid c.args.says names) (AreSaid c.args.says names) _ _ d d p.0 p.0 _ p.1
    (goes_cut (AreSaid c.args.says (take c.loop-name.name-index names)) (IsTold c.args.says (name_line c.name-item.result)) (AreSaid c.args.says names) Done
    (told c.args.world.now) (told c.loop-name.world) (told c.say_name.new.world) d d d c.in_err-say_name.field-0.0 p.0 (c.loop-name.invariant.goes d)
    (c.in_err-say_name.ensures.goes d))

pub returns-clause-goes : goal.returns-clause-goes
returns-clause-goes g c = λ d.
    subst (λ (ns : List Name). Continues (AreSaid c.args.says ns) (g.W.World.told c.args.world.now) d (g.W.World.told c.loop-name.world) d (Ok Done))
    (take_past c.args.names.now c.loop-name.name-index c.loop-name-test.false) (c.loop-name.invariant.goes d)

pub returns-clause-cause : goal.returns-clause-cause
returns-clause-cause g c = λ n. end_done _ _ (c.loop-name.invariant.later n)

pub returns-in_err-say_name-clause-cause : goal.returns-in_err-say_name-clause-cause
returns-in_err-say_name-clause-cause g c = λ n. let x = c.in_err-say_name.ensures.cause n in end_fails _ _ _ c.in_err-say_name.field-0.0 c.from_residual.result (c.loop-name.invariant.later n) c.from_residual.ensures.1 x.later x.failed
