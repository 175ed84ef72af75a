-- What a call without objects does is done beside any objects, which it leaves.
use Rattle.std.proofs.Common.{List, Result, Ok, Err, refl}
use Rattle.cms_model.specs.Acts.{Act, Done}
use Rattle.cms_model.specs.Objects.{Object}
use Rattle.cms_model.specs.Slots.{Slot}
use Rattle.cms_model.proofs.ObjectsAsked.{broke_beside, ran_beside}
use Rattle.cms_search.specs.Calls.{Acts, Comes, Meaning, Spot, at, spot_beside}
use Rattle.cms_search.specs.declared.state.End.{End}

pub acts_beside : {R T : Type 0} (os : List Object) (old new : Spot) (t : List Slot → Act R) (r : Result T End) (d : Meaning T R) → Acts old new t r d
    → Acts (spot_beside os old) (spot_beside os new) t r d
acts_beside os old new t (Ok x) d a = record {
  each = λ units h.
      let y = a.each units h in
      (y.0, (y.1.0, ran_beside os (at old units) (at new y.0) (t units) (Done (d y.0 x)) y.1.1 refl));
  later = a.later;
  usable = λ u. a.usable u;
  cause = a.cause;
}
acts_beside os old new t (Err e) d a = record {
  each = λ units h.
      let y = a.each units h in
      (y.0, (y.1.0, broke_beside os (at old units) (at new y.0) (t units) y.1.1 refl));
  later = a.later;
  usable = λ u. a.usable u;
  cause = a.cause;
}

-- so is a part of it
pub comes_beside : {R : Type 0} (os : List Object) (old mid : Spot) (t next : List Slot → Act R) → Comes old mid t next
    → Comes (spot_beside os old) (spot_beside os mid) t next
comes_beside os old mid t next c = record {
  each = λ units h.
      let y = c.each units h in
      (y.0, (y.1.0, ran_beside os (at old units) (at mid y.0) (t units) (next y.0) y.1.1 refl));
  later = c.later;
  usable = λ u. c.usable u;
}
