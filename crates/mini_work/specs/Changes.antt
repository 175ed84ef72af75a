-- Files that are changed one after another.
use Rattle.std.specs.Prelude.{◌≡◌, ℕ, ℤ, Bool, true, false, List, ◌∷◌, Result, Ok, Err}
use Rattle.cms_journal.specs.declared.event.Event.TheVariants.{Now}
use Rattle.cms_journal.specs.Journal.{adds}
use Rattle.cms_journal.specs.Told.{Told}
use Rattle.cms_fields.specs.Moments.{moment_of, stamp_of}
use Rattle.cms_fields.specs.declared.time.Stamp.{Stamp}
use Rattle.cms_model.specs.Changes.{Change, Changed, answer_of}
use Rattle.cms_model.specs.Minidisks.{Minidisk}
use Rattle.cms_disk.specs.declared.fault.DiskFault.{DiskFault}
use Rattle.cms_disk.specs.declared.fault.DiskFault.TheVariants as disk
use Rattle.mini_work.specs.CommandActs.{Act, Asked, Denied, Did, Said}
use Rattle.mini_work.specs.declared.fault.Fault.{Fault}
use Rattle.mini_work.specs.declared.status.Status.{Status}
use Rattle.mini_work.specs.declared.status.Status.TheVariants as status

-- a change is refused, and the device hasn't failed
abbrev pub is_denial : DiskFault → Bool
is_denial disk.NotFound = true
is_denial disk.Exists = true
is_denial (disk.Limit k) = true
is_denial (disk.Full need free) = true
is_denial disk.ReadOnly = false
is_denial disk.Device = false
is_denial disk.InDoubt = false
is_denial disk.Altered = false
is_denial disk.Memory = false

-- a text is typed, where that is asked for
abbrev pub said_if : Bool → List ℕ → List Act → List Act
said_if true bytes acts = Said bytes ∷ acts
said_if false bytes acts = acts

-- the minidisk was changed
abbrev pub IsDone : {A : Type 0} → Change → Stamp → A → Minidisk → List Act → Minidisk → List Act → Type 0
IsDone change stamp x m acts after more = (answer_of m change ≡ Changed after) × (more ≡ Did change stamp ∷ acts)

-- a text was typed, where that is asked for, and all is done
abbrev pub IsTold : Bool → List ℕ → Status → Minidisk → List Act → Minidisk → List Act → Type 0
IsTold says bytes s m acts after more = (s ≡ status.Done) × (after ≡ m) × (more ≡ said_if says bytes acts)

-- the minidisk was changed and that was said, where it is asked for; or the change was refused
abbrev pub IsChange : Change → Stamp → Bool → List ℕ → Status → Minidisk → List Act → Minidisk → List Act → Type 0
IsChange change stamp says bytes status.Done m acts after more =
    (answer_of m change ≡ Changed after) × (more ≡ said_if says bytes (Did change stamp ∷ acts))
IsChange change stamp says bytes status.Refused m acts after more = (after ≡ m) × (more ≡ Denied change ∷ acts)
IsChange change stamp says bytes status.Failed m acts after more = ⊥

-- the stamp of a moment, where civil time is so many seconds ahead of it
abbrev pub stamp_at : ℤ → ℤ → Stamp
stamp_at moment offset = stamp_of (moment_of moment offset)

-- the clock was asked, and this is the stamp of its moment; or it failed, and nothing is told of it
abbrev pub Asks : ℤ → Told → Told → Result Stamp Fault → Type 0
Asks offset old new (Ok stamp) = (moment : ℤ) × (stamp ≡ stamp_at moment offset) × (new ≡ adds (Now moment) old)
Asks offset old new (Err why) = new ≡ old

-- the clock was asked, and this is the stamp of its moment
abbrev pub IsAsked : ℤ → Stamp → Minidisk → List Act → Minidisk → List Act → Type 0
IsAsked offset stamp m acts after more = (after ≡ m) × ((moment : ℤ) × (stamp ≡ stamp_at moment offset) × (more ≡ Asked moment ∷ acts))

-- the clock is asked, and then it goes so with the stamp of its moment
abbrev pub IsTimed : ℤ → (Stamp → Status → Minidisk → List Act → Minidisk → List Act → Type 0) → Status → Minidisk → List Act → Minidisk
    → List Act → Type 0
IsTimed offset goes s m acts after more = (moment : ℤ) × goes (stamp_at moment offset) s m (Asked moment ∷ acts) after more
