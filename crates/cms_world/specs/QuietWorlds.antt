-- A quiet world, as its calls see it.
use Rattle.std.specs.Prelude.{ℕ, false, List, Option, None}
use Rattle.cms_journal.specs.Journal.{Journal}
use Rattle.cms_world.specs.declared.quiet.QuietUnit.{QuietUnit}
use Rattle.cms_world.specs.declared.quiet.QuietWorld.{QuietWorld}
use Rattle.cms_world.specs.QuietUnits.{Images}

-- its images with what was written to them, the script that is left, its table of units, and the
-- number that the next attach gives
pub record Quiet : Type 0 where
  pub images : Images
  pub script : List ℕ
  pub units : List QuietUnit
  pub next : ℕ

-- what calls see of this world
abbrev pub quiet_of : QuietWorld → Quiet
quiet_of w = record { images = w.images; script = w.script; units = w.units; next = w.next }

-- a place of the table that no attach has filled
abbrev pub no_unit : QuietUnit
no_unit = record { image = None; bsize = 0; blocks = 0; writable = false }

-- it tells no journal, and neither count ever rises
abbrev pub told_of : QuietWorld → Option Journal
told_of w = None

-- such a count, which is always 0
abbrev pub count_of : QuietWorld → ℕ
count_of w = 0
