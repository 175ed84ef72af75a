use Rattle.mini_work.specs.Causes.{counts}
use Rattle.mini_work.proofs.Caused.{end_both, end_fails, end_lacks, later_same}
use Rattle.std.proofs.Common.{◌∙◌, Err, FitsSigned, List, Ok, [], ap, rules, subst, w32, ℤ}
use Rattle.std.proofs.lemmas.Int.{to_z-of_z}
use Rattle.std.proofs.lemmas.Result.{err_from_is_err_and}
use Rattle.cms_names.specs.declared.name.Name.{Name}
use Rattle.mini_work.specs.ChosenFiles.{chosen, idle_status}
use Rattle.mini_work.specs.CommandActs.{Continues}
use Rattle.mini_work.specs.Commands.{IsErasing, IsErasingAll}
use Rattle.mini_work.proofs.PartsJoined.{cut_any, ended_any, ended_on, goes_cut}
use Rattle.mini_work.proofs.Worked.{erasing_on}
use Rattle.mini_work.proofs.change.erase_fitting.Goals as goal

pub returns-in_err-all-clause-goes : goal.returns-in_err-all-clause-goes
returns-in_err-all-clause-goes g c =
    let p = err_from_is_err_and c.from_residual.result c.from_residual.ensures.1 in
    ended_any (IsErasing c.args.says c.args.offset c.args.names.now) _ c.args.disk.now p.0 _ p.1

pub returns-in_err-chosen-clause-goes : goal.returns-in_err-chosen-clause-goes
returns-in_err-chosen-clause-goes g c =
    let p = err_from_is_err_and c.from_residual-in_err-chosen.result c.from_residual-in_err-chosen.ensures.1 in
    ended_any (IsErasing c.args.says c.args.offset c.args.names.now) _ c.args.disk.now p.0 _ p.1

pub returns-in_err-erased-clause-goes : goal.returns-in_err-erased-clause-goes
returns-in_err-erased-clause-goes g c =
    let p = err_from_is_err_and c.from_residual-in_err-erased.result c.from_residual-in_err-erased.ensures.1 in
    let told = g.W.World.told in
    let d = c.args.disk.now in
    let e = c.erase_chosen.new.disk in
    let some = c.deref-2.result.now in
    let small : FitsSigned w32 c.args.offset = search rules in
    let o = to_z-of_z w32 c.args.offset small in
    let cut = subst (λ (x : ℤ). Continues (IsErasingAll c.args.says x some) (told c.args.world.now) d (told c.erase_chosen.new.world) e (Err c.in_err-erased.field-0.0)) o
    c.in_err-erased.ensures.goes in
    cut_any (IsErasingAll c.args.says c.args.offset some) (IsErasing c.args.says c.args.offset c.args.names.now) _ _ d e c.in_err-erased.field-0.0 p.0 _ p.1 cut

pub returns-in_err-idle-clause-goes : goal.returns-in_err-idle-clause-goes
returns-in_err-idle-clause-goes g c =
    let p = err_from_is_err_and c.from_residual-in_err-idle.result c.from_residual-in_err-idle.ensures.1 in
    let P = IsErasing c.args.says c.args.offset c.args.names.now in
    let told = g.W.World.told in
    let d = c.args.disk.now in
    let e = c.erase_chosen.new.disk in
    let some = c.deref-2.result.now in
    let small : FitsSigned w32 c.args.offset = search rules in
    let o = to_z-of_z w32 c.args.offset small in
    let Q = IsErasingAll c.args.says c.args.offset some in
    let erased = subst (λ (x : ℤ). Continues (IsErasingAll c.args.says x some) (told c.args.world.now) d (told c.erase_chosen.new.world) e (Ok c.in_ok-erased.erased)) o
    c.in_ok-erased.ensures.goes in
    cut_any P P _ _ d e p.0 p.0 _ p.1 (goes_cut Q P P c.in_ok-erased.erased _ _ _ d e e p.0 p.0 erased (ended_on P _ e p.0))

pub returns-clause-goes : goal.returns-clause-goes
returns-clause-goes g c =
    let told = g.W.World.told in
    let d = c.args.disk.now in
    let e = c.erase_chosen.new.disk in
    let some = c.deref-2.result.now in
    let small : FitsSigned w32 c.args.offset = search rules in
    let o = to_z-of_z w32 c.args.offset small in
    let erased = subst (λ (x : ℤ). Continues (IsErasingAll c.args.says x some) (told c.args.world.now) d (told c.erase_chosen.new.world) e (Ok c.in_ok-erased.erased)) o
    c.in_ok-erased.ensures.goes in
    let ps = c.args.names.now in
    erasing_on c.args.says c.args.offset ps c.in_ok-erased.erased c.in_ok-idle.idle c.and.result c.in_ok-all.all.items some
    (told c.args.world.now) (told c.erase_chosen.new.world) d e erased c.in_ok-all.ensures
    (c.deref-2.ensures.value ∙ c.in_ok-chosen.ensures ∙ ap (λ (xs : List Name). chosen [] ps xs) c.deref.ensures.value)
    (c.in_ok-idle.ensures.idle ∙ ap (λ (xs : List Name). idle_status ps xs) c.deref-3.ensures.value) c.and.ensures

pub returns-in_err-all-clause-cause : goal.returns-in_err-all-clause-cause
returns-in_err-all-clause-cause g c = λ may. end_lacks _ _ c.from_residual.result c.from_residual.ensures.1 (later_same _)

pub returns-in_err-chosen-clause-cause : goal.returns-in_err-chosen-clause-cause
returns-in_err-chosen-clause-cause g c = λ may. end_lacks _ _ c.from_residual-in_err-chosen.result c.from_residual-in_err-chosen.ensures.1 (later_same _)

pub returns-in_err-erased-clause-cause : goal.returns-in_err-erased-clause-cause
returns-in_err-erased-clause-cause g c = λ may. let x = c.in_err-erased.ensures.cause may in end_fails _ _ _ c.in_err-erased.field-0.0 c.from_residual-in_err-erased.result (later_same _) c.from_residual-in_err-erased.ensures.1 x.later x.failed

pub returns-in_err-idle-clause-cause : goal.returns-in_err-idle-clause-cause
returns-in_err-idle-clause-cause g c = λ may. let at = counts g.W.World g.H.Host in let x = c.in_err-idle.ensures.cause (at c.erase_chosen.new.world c.erase_chosen.new.host) in end_fails _ _ _ c.in_err-idle.field-0.0 c.from_residual-in_err-idle.result (c.in_ok-erased.ensures.cause may).later c.from_residual-in_err-idle.ensures.1 x.later x.failed

pub returns-clause-cause : goal.returns-clause-cause
returns-clause-cause g c = λ may. let at = counts g.W.World g.H.Host in end_both _ _ _ _ _ _ (c.in_ok-erased.ensures.cause may) (c.in_ok-idle.ensures.cause (at c.erase_chosen.new.world c.erase_chosen.new.host)) c.and.ensures
