-- What a world shows of itself, and what is said of every call on units.
use Rattle.std.specs.Prelude.{◌≡◌, ◌≤◌, ℕ, Result, IfErr}
use Rattle.cms_journal.specs.Causes.{Rose, HasCause}
use Rattle.cms_journal.specs.Told.{Told, Grown}
use Rattle.cms_world.specs.declared.world.World.{Ghosts}

-- its journal, how often a call on a unit failed, and how often another call did
pub record Seen : Type 0 where
  pub told : Told
  pub faults : ℕ
  pub edges : ℕ

-- what a world shows
abbrev pub seen : {W : Type 0} → Ghosts W → W → Seen
seen shows w = record { told = shows.told w; faults = shows.faults w; edges = shows.edges w }

-- units were read, and nothing else was done: nothing is told of it, and the count of faults rose where the answer is that a device failed
pub record OnlyReads {T E : Type 0} (before now : Seen) (device : E) (result : Result T E) : Type 0 where
  pub told : now.told ≡ before.told
  pub faults : before.faults ≤ now.faults
  pub edges : now.edges ≡ before.edges
  pub cause : IfErr result (λ e. e ≡ device → Rose before.faults now.faults)

-- units alone were called, and the count of faults rose where the call failed
pub record OnUnits {T E : Type 0} (before now : Seen) (result : Result T E) : Type 0 where
  pub cause : HasCause before.faults now.faults result
  pub edges : now.edges ≡ before.edges

-- units were changed, and nothing else was done: a piece was added to what is told, and the count of faults rose where the answer is one of
-- the device's
pub record ChangesUnits {T E : Type 0} (before now : Seen) (IsDevices : E → Type 0) (result : Result T E) : Type 0 where
  pub grown : Grown before.told now.told
  pub faults : before.faults ≤ now.faults
  pub edges : now.edges ≡ before.edges
  pub cause : IfErr result (λ e. IsDevices e → Rose before.faults now.faults)
