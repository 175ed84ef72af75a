-- What is typed.
use Rattle.std.specs.Prelude.{◌≡◌, ℕ, List, ◌++◌}
use Rattle.cms_journal.specs.declared.event.Event.{Event}
use Rattle.cms_journal.specs.Told.{Told, plus, typed}
use Rattle.cms_model.specs.Beats.{OnlyTyped}

-- of these bytes all but the rest were typed, and nothing else happened
pub record TypedTo (old new : Told) (bytes rest : List ℕ) : Type 0 where
  pub events : List Event
  pub told : new ≡ plus old events
  pub only : OnlyTyped events
  pub is : typed events ++ rest ≡ bytes

-- some of them were typed, from the front
abbrev pub TypedPart : Told → Told → List ℕ → Type 0
TypedPart old new bytes = (rest : List ℕ) × TypedTo old new bytes rest
