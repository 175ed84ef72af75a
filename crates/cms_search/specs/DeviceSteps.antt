-- Device steps as commands do them: one that fails at the device types its message, and the command ends.
use Rattle.std.specs.Prelude.{◌≡◌, ◌≤◌, ℕ, List, take, Option, Some, None, slice_get}
use Rattle.cms_fields.specs.Moments.{stamp_of}
use Rattle.cms_model.specs.Minidisks.{File, Minidisk}
use Rattle.cms_model.specs.Changes.{Change, Answer, Limited, Full, Changed, answer_of}
use Rattle.cms_model.specs.Slots.{Slot}
use Rattle.cms_model.specs.Acts.{Act, Done, Does, bind}
use Rattle.cms_model.specs.Steps.{Step, Get, Put, Outcome, Good, ReadFault, SyncFault, OldFault, EitherFault}
use Rattle.cms_world.specs.Seen.{Seen}
use Rattle.cms_search.specs.Calls.{Meaning, course_of, machine_of}
use Rattle.cms_search.specs.Machine.{Letter, Machine, Course, after_step, letter_at, minidisk_in}
use Rattle.cms_search.specs.Refusals.{device_fault, not_accessed}
use Rattle.cms_search.specs.Units.{released, vdev_of}
use Rattle.cms_search.specs.declared.state.State.{State}
use Rattle.cms_search.specs.declared.device_step.Changed as declared
use Rattle.cms_search.specs.declared.device_step.Changed.TheVariants as came

-- what a step comes to: the machine behind a good one; or it failed, and the command ended so
pub data Stepped : Type 0 where
  Did : Machine → Stepped
  Failed : Course → Stepped

-- the device failed: its message is typed, and the command ends
abbrev pub failing : Machine → ℕ → Act Stepped
failing s vdev = bind (device_fault s vdev) (λ course. Done (Failed course))

-- behind a step on the disk of letter n; where its unit is in doubt now the letter is released
abbrev pub behind : Machine → ℕ → ℕ → Outcome → Act Stepped
behind s n vdev Good = Done (Did s)
behind s n vdev (ReadFault j) = failing s vdev
behind s n vdev SyncFault = failing s vdev
behind s n vdev OldFault = failing s vdev
behind s n vdev (EitherFault side) = failing (released n s) vdev

-- a step on the disk of letter n
abbrev pub stepping : Machine → ℕ → ℕ → Step → Act Stepped
stepping s n vdev step = Does step (λ o. behind (after_step s step o) n vdev o)

-- goes on behind a good step
abbrev pub unless_failed : (Machine → Act Course) → Stepped → Act Course
unless_failed next (Did s) = next s
unless_failed next (Failed course) = Done course

-- ---- a change of a minidisk

-- what a change comes to: it is done; or it would pass a limit; or there are too few free blocks; or it failed, and the command ended so
pub data Changing : Type 0 where
  IsChanged : Machine → Changing
  IsLimited : Machine → ℕ → Changing
  IsFull : Machine → ℕ → ℕ → Changing
  HasFailed : Course → Changing

-- what a change comes to, by its step and its answer
abbrev pub answered : Stepped → Answer → Act Changing
answered (Failed course) answer = Done (HasFailed course)
answered (Did s) (Changed m) = Done (IsChanged s)
answered (Did s) (Limited k) = Done (IsLimited s k)
answered (Did s) (Full need free) = Done (IsFull s need free)

-- a change of letter n's minidisk as a step of its unit
abbrev pub changing_in : Machine → ℕ → Letter → Change → Minidisk → Act Changing
changing_in s n disk change m =
    bind (stepping s n (vdev_of s disk.unit) (Put disk.unit m change (stamp_of s.moment))) (λ x. answered x (answer_of m change))

-- no disk has the letter
abbrev pub no_change : Machine → ℕ → Act Changing
no_change s n = bind (not_accessed s n) (λ course. Done (HasFailed course))

-- the same where its unit holds one
abbrev pub changing_at : Machine → ℕ → Letter → Change → Option Minidisk → Act Changing
changing_at s n disk change None = no_change s n
changing_at s n disk change (Some m) = changing_in s n disk change m

-- the same where the letter is accessed
abbrev pub changing_on : Machine → ℕ → Change → Option Letter → Act Changing
changing_on s n change None = no_change s n
changing_on s n change (Some disk) = changing_at s n disk change (minidisk_in (slice_get s.units disk.unit))

-- the minidisk of letter n is changed, with the stamp of the turn's moment
abbrev pub changing : Machine → ℕ → Change → Act Changing
changing s n change = changing_on s n change (letter_at s n)

-- ---- a file that is read

-- it is done with each record as it is handed out; behind those that are wanted one thing follows, behind a fault of the device another
abbrev pub handed : {R : Type 0} → (List (List ℕ) → Act R → Act R) → File → ℕ → Act R → Act R → Outcome → Act R
handed run f wanted next failed Good = run (take wanted f.records) next
handed run f wanted next failed (ReadFault k) = run (take k f.records) failed
handed run f wanted next failed SyncFault = failed
handed run f wanted next failed OldFault = failed
handed run f wanted next failed (EitherFault side) = failed

-- so many records of a file of unit u are read, from the first on
abbrev pub reading : {R : Type 0} → (List (List ℕ) → Act R → Act R) → ℕ → File → ℕ → Act R → Act R → Act R
reading run u f wanted next failed = Does (Get u f wanted) (handed run f wanted next failed)

-- nothing is done with a record before all that are wanted are there
abbrev pub silently : {R : Type 0} → List (List ℕ) → Act R → Act R
silently records next = next

-- nothing was done but reads
pub record HasRead (before now : Seen) : Type 0 where
  pub told : now.told ≡ before.told
  pub faults : before.faults ≤ now.faults
  pub edges : now.edges ≡ before.edges

-- ---- the call

-- a change of letter n's disk, on the machine with these units
abbrev pub changing_tree : State → ℕ → Change → List Slot → Act Changing
changing_tree s n change units = changing (machine_of s units) n change

-- with a change that may depend on what is on the units
abbrev pub changing_by : State → ℕ → (List Slot → Change) → List Slot → Act Changing
changing_by s n change units = changing_tree s n (change units) units

-- what a change came to, with the state that is left
abbrev pub changing_of : State → Meaning declared.Changed Changing
changing_of s units came.Done = IsChanged (machine_of s units)
changing_of s units (came.Limited which) = IsLimited (machine_of s units) which
changing_of s units (came.Full need free) = IsFull (machine_of s units) need free
changing_of s units (came.Failed course) = HasFailed (course_of s units course)
