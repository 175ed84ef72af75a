use Rattle.std.proofs.Common.{◌≡◌, ◌∙◌, [], Some, slice_get, refl, inl, inr, rules}
use Rattle.std.proofs.lemmas.Option.{slice_get_read}
use Rattle.cms_host.proofs.Printed.{done_behind, prints_same}
use Rattle.cms_host.proofs.Found.{there_too}
use Rattle.cms_host.proofs.file_world.FileWorld.write_unit.Goals as goal

pub returns-in-Some-clause-wrote : goal.returns-in-Some-clause-wrote
returns-in-Some-clause-wrote g c =
    let look = c.in-Some.ensures.lookup in
    let there : slice_get c.deref.result.now c.args.unit ≡ Some c.in-Some.unit.now = slice_get_read _ _ _ _ refl look.3.0 look.1 in
    let none : c.finish-printed.new.self.output ≡ [] = search rules in
    λ went. record {
      of = c.in-Some.unit.now;
      found = there_too _ _ _ _ (c.deref.ensures.value ∙ c.finish-printed.ensures.units) there;
      done = done_behind _ _ _ _ _ _ _ c.finish-printed.ensures.prints none refl (c.write.ensures.wrote went);
    }

pub returns-in-Some-clause-failed : goal.returns-in-Some-clause-failed
returns-in-Some-clause-failed g c =
    let look = c.in-Some.ensures.lookup in
    let there : slice_get c.deref.result.now c.args.unit ≡ Some c.in-Some.unit.now = slice_get_read _ _ _ _ refl look.3.0 look.1 in
    let none : c.finish-printed.new.self.output ≡ [] = search rules in
    elim c.write.ensures.failed [
      | inl same ↦ inl (prints_same _ _ _ _ _ _ c.finish-printed.ensures.prints refl same)
      | inr more ↦ inr (record {
        of = c.in-Some.unit.now;
        found = there_too _ _ _ _ (c.deref.ensures.value ∙ c.finish-printed.ensures.units) there;
        done = done_behind _ _ _ _ _ _ _ c.finish-printed.ensures.prints none refl more;
      })
    ]

pub write-requires : goal.write-requires
write-requires g c = c.finish-printed.new.self.held

pub invariant_of-self : goal.invariant_of-self
invariant_of-self g c = record { held = c.write.ensures.held }

pub returns-in-Some-clause-units : goal.returns-in-Some-clause-units
returns-in-Some-clause-units g c = c.finish-printed.ensures.units

pub returns-in-Some-clause-faults : goal.returns-in-Some-clause-faults
returns-in-Some-clause-faults g c = c.finish-printed.ensures.faults

pub returns-in-Some-clause-edges : goal.returns-in-Some-clause-edges
returns-in-Some-clause-edges g c = c.finish-printed.ensures.edges
