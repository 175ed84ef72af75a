use Rattle.std.proofs.Common.{rules, ◌∙◌, [], refl, sym, ap}
use Rattle.cms_held.specs.EmptyVolumes.{IsEmptyVolume, MakePlan}
use Rattle.cms_held.specs.HeldVolumes.{HeldTree}
use Rattle.cms_held.proofs.Made.{made_kept}
use Rattle.cms_edf.proofs.NewSystems.{first_goes_on}
use Rattle.cms_edf.specs.NewDirectories.{directory_in}
use Rattle.cms_edf.proofs.Exits.{ok_at_err}
use Rattle.cms_edf.proofs.empty_volume.plan_make.Goals as goal

pub first_systems-requires-clause-blocks : goal.first_systems-requires-clause-blocks
first_systems-requires-clause-blocks c = c.requires.blocks

pub first_systems-requires-clause-stamp : goal.first_systems-requires-clause-stamp
first_systems-requires-clause-stamp c = c.requires.stamp

pub invariant_of-result : goal.invariant_of-result
invariant_of-result c =
    let systems = c.in_ok-systems.systems in
    let plan : MakePlan = record { unit = c.args.unit.now.number; disk = record { bsize = c.args.bsize; count = c.args.unit.now.blocks }; systems = systems } in
    let empty : IsEmptyVolume plan c.args.volid c.args.stamp.now = c.in_ok-systems.ensures c.args.unit.now.number in
    let leaves = c.in_ok-leaves.ensures.items_if_clones_equal (λ y is. is) in
    let tree = ap (λ (t : HeldTree). t.leaves) empty.directory in (
      made_kept plan [] empty refl,
      search rules,
      leaves ∙ sym tree,
      first_goes_on c.in_ok-leaves.leaves.items (directory_in systems) leaves tree empty.directory_part,
    )

pub returns-clause-unit : goal.returns-clause-unit
returns-clause-unit c = refl

pub returns-clause-disk : goal.returns-clause-disk
returns-clause-disk c = refl

pub returns-clause-empty : goal.returns-clause-empty
returns-clause-empty c = c.in_ok-systems.ensures c.args.unit.now.number

pub returns-in_err-leaves-clause-unit : goal.returns-in_err-leaves-clause-unit
returns-in_err-leaves-clause-unit c = ok_at_err _ c.from_residual.result _ c.from_residual.ensures.1

pub returns-in_err-leaves-clause-disk : goal.returns-in_err-leaves-clause-disk
returns-in_err-leaves-clause-disk c = ok_at_err _ c.from_residual.result _ c.from_residual.ensures.1

pub returns-in_err-leaves-clause-empty : goal.returns-in_err-leaves-clause-empty
returns-in_err-leaves-clause-empty c = ok_at_err _ c.from_residual.result _ c.from_residual.ensures.1

pub returns-in_err-systems-clause-unit : goal.returns-in_err-systems-clause-unit
returns-in_err-systems-clause-unit c = ok_at_err _ c.from_residual-in_err-systems.result _ c.from_residual-in_err-systems.ensures.1

pub returns-in_err-systems-clause-disk : goal.returns-in_err-systems-clause-disk
returns-in_err-systems-clause-disk c = ok_at_err _ c.from_residual-in_err-systems.result _ c.from_residual-in_err-systems.ensures.1

pub returns-in_err-systems-clause-empty : goal.returns-in_err-systems-clause-empty
returns-in_err-systems-clause-empty c = ok_at_err _ c.from_residual-in_err-systems.result _ c.from_residual-in_err-systems.ensures.1
