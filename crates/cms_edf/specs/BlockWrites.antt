-- Calls that write blocks of a unit.
use Rattle.std.specs.Prelude.{◌≡◌, ◌≤◌, ℕ, List, Result, Ok, Err, ⊤}
use Rattle.std.specs.Option.{ForSome}
use Rattle.cms_journal.specs.declared.event.Failed.{Failed}
use Rattle.cms_journal.specs.Journal.{HasBlocks, IsWritable}
use Rattle.cms_journal.specs.Told.{Told, plus}
use Rattle.cms_model.specs.Settled.{Write, writes}
use Rattle.cms_model.specs.LawsUpdates.{AddsFront}
use Rattle.cms_world.specs.Seen.{Seen, OnUnits}
use Rattle.cms_edf.specs.declared.block_writes.Target.{Target}

-- a block of so many
abbrev pub IsBlockOf : ℕ → ℕ → Type 0
IsBlockOf total n = (1 ≤ n) × (n ≤ total)

-- the unit has the blocks of its volume, and may be written
pub record MayWrite (told : Told) (t : Target) : Type 0 where
  pub blocks : ForSome told (λ j. HasBlocks j.units t.unit t.total t.bsize)
  pub writable : ForSome told (λ j. IsWritable j.units t.unit)

-- these writes were made, or the first of them where the call failed
abbrev pub Made : Told → Told → ℕ → List Write → Result ⊤ Failed → Type 0
Made old new u ws (Ok x) = new ≡ plus old (writes u ws)
Made old new u ws (Err e) = AddsFront old new (writes u ws)

-- what is said of every call that makes these writes
pub record Writes (before now : Seen) (t : Target) (ws : List Write) (result : Result ⊤ Failed) : Type 0 where
  pub made : Made before.told now.told t.unit ws result
  pub may : MayWrite now.told t
  pub counts : OnUnits before now result
