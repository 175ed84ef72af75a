use Rattle.mini_work.specs.Causes.{counts}
use Rattle.mini_work.proofs.Caused.{end_both, end_fails, end_lacks, later_same}
use Rattle.std.proofs.Common.{◌∙◌, List, [], ap}
use Rattle.std.proofs.lemmas.Result.{err_from_is_err_and}
use Rattle.cms_names.specs.declared.name.Name.{Name}
use Rattle.mini_words.specs.declared.names.NamePattern.{NamePattern}
use Rattle.mini_work.specs.ChosenFiles.{chosen, idle_status}
use Rattle.mini_work.specs.Gets.{IsGetting, IsGotBy, OnHost}
use Rattle.mini_work.proofs.GotOut.{getting_on}
use Rattle.mini_work.proofs.PartsJoined.{cut_any, ended_any, ended_on, goes_cut}
use Rattle.mini_work.proofs.get.get_fitting.Goals as goal

pub returns-in_err-all-clause-goes : goal.returns-in_err-all-clause-goes
returns-in_err-all-clause-goes g c =
    let h = g.H.Host.told c.args.host.now in
    let p = err_from_is_err_and c.from_residual.result c.from_residual.ensures.1 in
    ended_any (OnHost h h (IsGetting h c.args.get.now)) _ c.args.disk.now p.0 _ p.1

pub returns-in_err-chosen-clause-goes : goal.returns-in_err-chosen-clause-goes
returns-in_err-chosen-clause-goes g c =
    let h = g.H.Host.told c.args.host.now in
    let p = err_from_is_err_and c.from_residual-in_err-chosen.result c.from_residual-in_err-chosen.ensures.1 in
    ended_any (OnHost h h (IsGetting h c.args.get.now)) _ c.args.disk.now p.0 _ p.1

pub returns-in_err-got-clause-goes : goal.returns-in_err-got-clause-goes
returns-in_err-got-clause-goes g c =
    let host = g.H.Host.told in
    let h = host c.args.host.now in
    let k = host c.get_chosen.new.host in
    let d = c.args.disk.now in
    let get = c.args.get.now in
    let p = err_from_is_err_and c.from_residual-in_err-got.result c.from_residual-in_err-got.ensures.1 in
    cut_any (OnHost h k (IsGotBy h get get.target c.deref-2.result.now)) (OnHost h k (IsGetting h get)) _ _ d d c.in_err-got.field-0.0 p.0 _ p.1
    c.in_err-got.ensures.goes

pub returns-in_err-idle-clause-goes : goal.returns-in_err-idle-clause-goes
returns-in_err-idle-clause-goes g c =
    let told = g.W.World.told in
    let host = g.H.Host.told in
    let h = host c.args.host.now in
    let k = host c.get_chosen.new.host in
    let d = c.args.disk.now in
    let get = c.args.get.now in
    let p = err_from_is_err_and c.from_residual-in_err-idle.result c.from_residual-in_err-idle.ensures.1 in
    let Q = OnHost h k (IsGotBy h get get.target c.deref-2.result.now) in
    let P = OnHost h (host c.refuse_idle.new.host) (IsGetting h get) in
    cut_any P P _ _ d d p.0 p.0 _ p.1
    (goes_cut Q P P c.in_ok-got.got (told c.args.world.now) (told c.get_chosen.new.world) (told c.get_chosen.new.world) d d d p.0 p.0 c.in_ok-got.ensures.goes
    (ended_on P (told c.get_chosen.new.world) d p.0))

pub returns-clause-goes : goal.returns-clause-goes
returns-clause-goes g c =
    let told = g.W.World.told in
    let host = g.H.Host.told in
    let all = c.in_ok-all.all.items in
    getting_on (host c.args.host.now) (host c.get_chosen.new.host) (host c.refuse_idle.new.host) c.args.get.now c.in_ok-got.got c.in_ok-idle.idle
    c.and.result all c.deref-2.result.now (told c.args.world.now) (told c.get_chosen.new.world) c.args.disk.now c.in_ok-got.ensures.goes
    c.in_ok-idle.ensures.files c.in_ok-all.ensures
    (c.deref-2.ensures.value ∙ c.in_ok-chosen.ensures ∙ ap (λ (xs : List Name). chosen [] c.as_slice.result.now xs) c.deref.ensures.value
    ∙ ap (λ (ps : List NamePattern). chosen [] ps all) c.as_slice.ensures)
    (c.in_ok-idle.ensures.idle ∙ ap (λ (xs : List Name). idle_status c.as_slice-2.result.now xs) c.deref-3.ensures.value
    ∙ ap (λ (ps : List NamePattern). idle_status ps all) c.as_slice-2.ensures) c.and.ensures

pub returns-in_err-all-clause-cause : goal.returns-in_err-all-clause-cause
returns-in_err-all-clause-cause g c = λ m s. end_lacks _ _ c.from_residual.result c.from_residual.ensures.1 (later_same _)

pub returns-in_err-chosen-clause-cause : goal.returns-in_err-chosen-clause-cause
returns-in_err-chosen-clause-cause g c = λ m s. end_lacks _ _ c.from_residual-in_err-chosen.result c.from_residual-in_err-chosen.ensures.1 (later_same _)

pub returns-in_err-got-clause-cause : goal.returns-in_err-got-clause-cause
returns-in_err-got-clause-cause g c = λ m s. let x = c.in_err-got.ensures.cause m s in end_fails _ _ _ c.in_err-got.field-0.0 c.from_residual-in_err-got.result (later_same _) c.from_residual-in_err-got.ensures.1 x.later x.failed

pub returns-in_err-idle-clause-cause : goal.returns-in_err-idle-clause-cause
returns-in_err-idle-clause-cause g c = λ m s. let at = counts g.W.World g.H.Host in let x = c.in_err-idle.ensures.cause (at c.get_chosen.new.world c.get_chosen.new.host) in end_fails _ _ _ c.in_err-idle.field-0.0 c.from_residual-in_err-idle.result (c.in_ok-got.ensures.cause m s).later c.from_residual-in_err-idle.ensures.1 x.later x.failed

pub returns-clause-cause : goal.returns-clause-cause
returns-clause-cause g c = λ m s. let at = counts g.W.World g.H.Host in end_both _ _ _ _ _ _ (c.in_ok-got.ensures.cause m s) (c.in_ok-idle.ensures.cause (at c.get_chosen.new.world c.get_chosen.new.host)) c.and.ensures
