use Rattle.std.proofs.Common.{◌≡◌, ◌∙◌, Bool, sym, ap, subst}
use Rattle.cms_search.specs.Tables.{AccessTable, LooksAt}
use Rattle.cms_disk.specs.declared.unit.UnitInfo.{UnitInfo}
use Rattle.std.proofs.lemmas.Option.{same_Some}
use Rattle.cms_search.proofs.Tables.{told_is, unit_read, unit_same}
use Rattle.cms_search.proofs.table.AccessTable.open.Goals as goal

pub access-requires : goal.access-requires
access-requires g c =
    let units = c.as_slice.ensures ∙ ap (λ (t : AccessTable). t.units) c.self.view_is in
    let at = unit_read c.args.self.now.units c.as_slice.result.now c.args.place c.index-as_slice-place.result units c.index-as_slice-place.is c.requires.within in
    record { blocks = λ j told. (let h = c.requires.blocks j told in rw at at h) }

pub returns-clause-opens : goal.returns-clause-opens
returns-clause-opens g c = λ unit doubt is_unit is_doubt.
    let units = c.as_slice.ensures ∙ ap (λ (t : AccessTable). t.units) c.self.view_is in
    let same = unit_same c.args.self.now.units c.as_slice.result.now c.args.place c.index-as_slice-place.result unit units c.index-as_slice-place.is is_unit in
    let told = g.W.World.told c.args.world.now in
    let new = g.W.World.told c.access.new.world in
    let u = c.index-as_slice-place.result in
    let d = c.is_marked-doubt.result in
    let e : d ≡ doubt = same_Some d doubt (sym c.is_marked-doubt.ensures ∙ is_doubt) in
    let looks : LooksAt told new u d c.access.result = record {
      on = c.access.ensures.unit;
      answers = c.access.ensures.answers;
      left = c.access.ensures.left;
      tells = told_is told new d u.unit.number c.access.result c.access.ensures.synced c.access.ensures.refused;
    } in
    subst (λ (x : UnitInfo). LooksAt told new x doubt c.access.result) same (subst (λ (b : Bool). LooksAt told new u b c.access.result) e looks)
