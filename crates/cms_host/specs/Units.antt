-- How the units of a world of files change, and what is done for them.
use Rattle.std.specs.Prelude.{◌≡◌, ℕ, List, slice_get, slice_set, Bool, true, false, Option, Some, ◌⊎◌, IsSomeAnd}
use Rattle.cms_host.specs.declared.file_unit.FileUnit.{FileUnit}
use Rattle.cms_host.specs.declared.system.Deed.{Deed}
use Rattle.cms_host.specs.Deeds.{PrintsThen}

-- all that was gathered was printed, and behind that the deeds of the unit of this number were done
pub record UnitDeeds (units : List FileUnit) (unit : ℕ) (deeds : FileUnit → List Deed)
    (old new : List ℕ) (before after : Option (List Deed)) : Type 0 where
  pub of : FileUnit
  pub found : slice_get units unit ≡ Some of
  pub done : PrintsThen (deeds of) old new before after

-- after a sync all units are as they were, but that the one that couldn't be synced is lost
abbrev pub OnlyLoses : ℕ → Bool → List FileUnit → List FileUnit → Type 0
OnlyLoses unit true old new = new ≡ old
OnlyLoses unit false old new =
    (new ≡ old)
    ⊎ IsSomeAnd (slice_get old unit) (λ u. new ≡ slice_set old unit (record u { lost = true }))
