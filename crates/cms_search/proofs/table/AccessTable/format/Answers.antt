use Rattle.std.proofs.Common.{◌≡◌, ◌∙◌, ℕ, slice_get, sym, ap, subst}
use Rattle.std.proofs.lemmas.Option.{same_Some}
use Rattle.cms_world.specs.Seen.{seen}
use Rattle.cms_disk.specs.declared.unit.UnitInfo.{UnitInfo}
use Rattle.cms_search.specs.Format.{FormatsUnit}
use Rattle.cms_search.proofs.table.AccessTable.format.Goals as goal

pub returns : goal.returns
returns g c = record {
  formats = λ place unit is_place is_unit.
      let t = c.args.self.now in
      let found = c.in-Some.place in
      let info = c.unit_in-unit.result in
      let before = seen g.W.World c.args.world.now in
      let now = seen g.W.World c.make-made.new.world in
      let at : found ≡ place = same_Some found place (c.in-Some.ensures.place ∙ is_place) in
      let is : info ≡ unit = same_Some info unit (sym c.unit_in-unit.ensures ∙ ap (λ (n : ℕ). slice_get t.units n) at ∙ is_unit) in
      let does : FormatsUnit before now t c.take_made.new.self found c.args.letter info c.args.volid c.args.stamp.now c.take_made.result = record {
        made = c.make-made.result;
        answer = c.take_made.ensures.answer;
        table = c.take_made.ensures.table info c.unit_in-unit.ensures;
        on = c.make-made.ensures.unit;
        empty = c.make-made.ensures.empty;
        formats = c.make-made.ensures.formats;
        fault = c.make-made.ensures.fault;
        nothing = c.make-made.ensures.nothing;
        of_unit = c.make-made.ensures.of_unit;
        changes = c.make-made.ensures.changes;
      } in
      subst (λ (n : ℕ). FormatsUnit before now t c.take_made.new.self n c.args.letter unit c.args.volid c.args.stamp.now c.take_made.result) at
      (subst (λ (x : UnitInfo). FormatsUnit before now t c.take_made.new.self found c.args.letter x c.args.volid c.args.stamp.now c.take_made.result) is does);
}
