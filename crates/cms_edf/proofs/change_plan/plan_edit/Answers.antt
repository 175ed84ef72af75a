use Rattle.std.proofs.Common.{rules}
use Rattle.cms_edf.proofs.EditsEnough.{edit_enough}
use Rattle.cms_edf.proofs.Planned.{given_century, given_drop, given_rename, ready_ok}
use Rattle.cms_edf.proofs.change_plan.plan_edit.Goals as goal

pub plan_systems-requires-clause-enough : goal.plan_systems-requires-clause-enough
plan_systems-requires-clause-enough c =
    edit_enough c.args.held.now.volume c.args.edit.now c.edited-entries.result _ c.edited-entries.ensures.kept.sized c.edited-entries.ensures.edited (search rules)

pub returns-in-Drop-clause-ready : goal.returns-in-Drop-clause-ready
returns-in-Drop-clause-ready c =
    let v = c.args.held.now.volume in
    let x = c.edited-entries.ensures.edited in
    let gives = given_drop v c.args.edit.now c.in-Drop.place x.edit c.exchange_without-exchange.result c.in-Drop.is x.done c.exchange_without-exchange.ensures.given in
    ready_ok v c.args.edit.now c.args.stamp.now c.edited-entries.result c.plan_systems.result _ c.edited-entries.ensures.kept c.requires.stamp x c.plan_systems.ensures.prepared (search rules) gives

pub plan_systems-requires-in-Rename-clause-enough : goal.plan_systems-requires-in-Rename-clause-enough
plan_systems-requires-in-Rename-clause-enough c =
    edit_enough c.args.held.now.volume c.args.edit.now c.edited-entries.result _ c.edited-entries.ensures.kept.sized c.edited-entries.ensures.edited (search rules)

pub returns-in-Rename-clause-ready : goal.returns-in-Rename-clause-ready
returns-in-Rename-clause-ready c =
    let v = c.args.held.now.volume in
    let x = c.edited-entries.ensures.edited in
    let gives = given_rename v c.args.edit.now c.in-Rename.place c.in-Rename.to c.in-Rename.number x.edit c.in-Rename.is x.done in
    ready_ok v c.args.edit.now c.args.stamp.now c.edited-entries.result c.plan_systems-in-Rename.result _ c.edited-entries.ensures.kept c.requires.stamp x c.plan_systems-in-Rename.ensures.prepared
    (search rules) gives

pub plan_systems-requires-in-Century-clause-enough : goal.plan_systems-requires-in-Century-clause-enough
plan_systems-requires-in-Century-clause-enough c =
    edit_enough c.args.held.now.volume c.args.edit.now c.edited-entries.result _ c.edited-entries.ensures.kept.sized c.edited-entries.ensures.edited (search rules)

pub returns-in-Century-clause-ready : goal.returns-in-Century-clause-ready
returns-in-Century-clause-ready c =
    let v = c.args.held.now.volume in
    let x = c.edited-entries.ensures.edited in
    let gives = given_century v c.args.edit.now c.in-Century.pivot x.edit c.in-Century.is x.done in
    ready_ok v c.args.edit.now c.args.stamp.now c.edited-entries.result c.plan_systems-in-Century.result _ c.edited-entries.ensures.kept c.requires.stamp x c.plan_systems-in-Century.ensures.prepared
    (search rules) gives
