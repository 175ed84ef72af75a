use Rattle.std.proofs.Common.{◌∙◌, Some, sym, ap}
use Rattle.std.specs.Prelude.{Option, option_map}
use Rattle.cms_disk.specs.declared.unit.UnitInfo.{UnitInfo}
use Rattle.cms_access.proofs.Questioned.{size_told}
use Rattle.cms_access.proofs.format.size_of.Goals as goal

pub returns-in_err-unit : goal.returns-in_err-unit
returns-in_err-unit c =
    let told = size_told c.args.table.now c.args.vdev in
    let none = c.in_err-unit.ensures.unit in
    let is = c.from_residual.ensures in
    rw (told, ← none) (search is)

pub returns : goal.returns
returns c =
    let told = size_told c.args.table.now c.args.vdev in
    ap (λ (n : _). Some n) c.bytes.ensures.value ∙ ap (λ (x : Option UnitInfo). option_map (λ (unit : UnitInfo). unit.bsize) x) c.in_ok-unit.ensures.unit ∙ sym told
