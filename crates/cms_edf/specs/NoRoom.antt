-- Why there is no room for an update.
use Rattle.std.specs.Prelude.{◌≡◌, ℕ, ◌<◌, length, ⊤}
use Rattle.cms_map.specs.Bits.{free_blocks}
use Rattle.cms_held.specs.HeldVolumes.{HeldVolume}
use Rattle.cms_edf.specs.declared.allotment.PlanFault.{PlanFault}
use Rattle.cms_edf.specs.declared.allotment.PlanFault.TheVariants as failed

-- so many free blocks are needed, and there are fewer; or there is no memory
abbrev pub LacksRoom : HeldVolume → ℕ → PlanFault → Type 0
LacksRoom v need (failed.Limit which) = ⊥
LacksRoom v need (failed.Full n free) = (n ≡ need) × (free ≡ length (free_blocks v.bits)) × (free < n)
LacksRoom v need failed.Memory = ⊤
