use Rattle.std.proofs.Common.{ℕ, ◌≤◌, sym, subst}
use Rattle.cms_edf.proofs.Planned.{prepared_of}
use Rattle.cms_fields.specs.Limits.{most_files}
use Rattle.cms_edf.proofs.Exits.{ok_at_err}
use Rattle.cms_edf.proofs.change_plan.plan_systems.Goals as goal

pub returns-in-Ok-clause-prepared : goal.returns-in-Ok-clause-prepared
returns-in-Ok-clause-prepared c =
    let v = c.args.held.now.volume in
    prepared_of v c.args.exchange.now c.in_ok-allotment.allotment c.args.entries.now c.args.stamp.now c.in-Ok.systems c.in_ok-allotment.ensures.allotted c.in-Ok.ensures c.requires.files c.requires.none
    c.requires.enough c.in_ok-allotment.ensures.room

pub allot-requires-clause-few : goal.allot-requires-clause-few
allot-requires-clause-few c = subst (λ (n : ℕ). n ≤ most_files) (sym c.requires.files) c.requires.few

pub returns-in_err-allotment-clause-prepared : goal.returns-in_err-allotment-clause-prepared
returns-in_err-allotment-clause-prepared c = ok_at_err _ c.from_residual.result _ c.from_residual.ensures.1

pub fill_systems-requires-clause-stamp : goal.fill_systems-requires-clause-stamp
fill_systems-requires-clause-stamp c = c.requires.stamp

pub fill_systems-requires-clause-few : goal.fill_systems-requires-clause-few
fill_systems-requires-clause-few c = c.requires.few

pub fill_systems-requires-clause-each : goal.fill_systems-requires-clause-each
fill_systems-requires-clause-each c = c.requires.each

pub fill_systems-requires-clause-back : goal.fill_systems-requires-clause-back
fill_systems-requires-clause-back c = c.requires.back

pub fill_systems-requires-clause-files : goal.fill_systems-requires-clause-files
fill_systems-requires-clause-files c = c.requires.files

pub fill_systems-requires-clause-enough : goal.fill_systems-requires-clause-enough
fill_systems-requires-clause-enough c = c.requires.enough

pub fill_systems-requires-clause-allotted : goal.fill_systems-requires-clause-allotted
fill_systems-requires-clause-allotted c = c.in_ok-allotment.ensures.allotted

pub fill_systems-requires-clause-map_few : goal.fill_systems-requires-clause-map_few
fill_systems-requires-clause-map_few c = c.in_ok-allotment.ensures.map_few
