-- The minidisks that an image goes through while a command works on it.
use Rattle.std.specs.Prelude.{◌≡◌, ◌⊎◌, ℕ, ℤ, true, List, [], ◌∷◌, ◌++◌, Result, Ok, Err}
use Rattle.std.specs.Option.{ForSome}
use Rattle.cms_journal.specs.declared.event.Event.TheVariants.{Now}
use Rattle.cms_journal.specs.Journal.{IsWritable, adds}
use Rattle.cms_journal.specs.Told.{Told}
use Rattle.cms_fields.specs.declared.time.Stamp.{Stamp}
use Rattle.cms_model.specs.Minidisks.{Minidisk}
use Rattle.cms_model.specs.Changes.{Change, Changed, Full, Limited, answer_of}
use Rattle.cms_model.specs.Volumes.{Disk}
use Rattle.cms_model.specs.Steps.{Good, Outcome}
use Rattle.cms_line.specs.Typed.{TypedPart, TypedTo}
use Rattle.cms_disk.specs.Changes.{Changes, IsMissing, IsTaken}
use Rattle.cms_disk.specs.Disks.{Accessed, IsReadable}
use Rattle.mini_work.specs.Stands.{Stands}
use Rattle.cms_disk.specs.Drafts.{WritesAside}
use Rattle.mini_work.specs.declared.fault.Fault.{Fault}
use Rattle.mini_work.specs.declared.status.Status.{Status}
use Rattle.mini_work.specs.declared.status.Status.TheVariants as status

-- ---- what a command does

-- the minidisk was changed, with this stamp; a change was refused; a host file of this name has these bytes; a text was typed; the clock
-- told a moment
pub data Act : Type 0 where
  Did : Change → Stamp → Act
  Denied : Change → Act
  Kept : List ℕ → List ℕ → Act
  Said : List ℕ → Act
  Asked : ℤ → Act

-- a change that is refused: its file isn't there, its new name is another file's, it passes a limit, or there is no room for it
abbrev pub IsDenied : Minidisk → Change → Type 0
IsDenied m change =
    IsMissing m change ⊎ IsTaken m change ⊎ ((k : ℕ) × (answer_of m change ≡ Limited k))
    ⊎ ((need : ℕ) × (free : ℕ) × (answer_of m change ≡ Full need free))

-- from a journal and a minidisk of the unit u on, as this disk reads it, these acts, the newest first, came to another: each change is an
-- update, so that a crash within it leaves the minidisk before or behind it, and what is typed is typed behind the acts before
unfoldable pub Went : Told → Disk → ℕ → Minidisk → List Act → Told → Minidisk → Type 0
Went start disk u first [] now m = (now ≡ start) × (m ≡ first)
Went start disk u first (Did change stamp ∷ acts) now m =
    (t : Told) × (before : Minidisk) × Went start disk u first acts t before × (answer_of before change ≡ Changed m)
    × Changes t now disk u before change stamp Good
Went start disk u first (Denied change ∷ acts) now m = Went start disk u first acts now m × IsDenied m change
Went start disk u first (Kept name bytes ∷ acts) now m = Went start disk u first acts now m
Went start disk u first (Said bytes ∷ acts) now m = (t : Told) × Went start disk u first acts t m × TypedTo t now bytes []
Went start disk u first (Asked moment ∷ acts) now m = (t : Told) × Went start disk u first acts t m × (now ≡ adds (Now moment) t)

-- and the unit is settled at this minidisk
pub record Came (start : Told) (first : Minidisk) (acts : List Act) (now : Told) (d : Accessed) (m : Minidisk) : Type 0 where
  pub went : Went start d.volume.disk d.volume.unit first acts now m
  pub stands : Stands now d m

-- ---- what was cut off

-- behind this journal a text was typed in part, a change was cut off, which left the minidisk or a doubt, or a file was written in part
-- beside the minidisk
pub data IsTail (at now : Told) (disk : Disk) (u : ℕ) (m : Minidisk) : Type 0 where
  Typing : (bytes : List ℕ) → TypedPart at now bytes → IsTail at now disk u m
  Changing : (change : Change) (stamp : Stamp) (o : Outcome) → Changes at now disk u m change stamp o → IsTail at now disk u m
  Drafting : WritesAside at now disk u m → IsTail at now disk u m

-- these acts were done, at which the minidisk stood, and then the command was cut off
pub record Cut (start : Told) (first : Minidisk) (acts : List Act) (now : Told) : Type 0 where
  pub at : Told
  pub disk : Accessed
  pub last : Minidisk
  pub came : Came start first acts at disk last
  pub tail : IsTail at now disk.volume.disk disk.volume.unit last

-- ---- what a part of a command comes to

-- it goes on so, or was cut off
abbrev pub Leads : {A : Type 0} → (A → Minidisk → List Act → Minidisk → List Act → Type 0) → Told → Minidisk → Minidisk → List Act → Told
    → Accessed → Result A Fault → Type 0
Leads goes start first m acts now d (Ok x) = (after : Minidisk) × (more : List Act) × goes x m acts after more × Came start first more now d after
Leads goes start first m acts now d (Err why) = (more : List Act) × Cut start first more now

-- wherever the command came to, this part leads on
abbrev pub Continues : {A : Type 0} → (A → Minidisk → List Act → Minidisk → List Act → Type 0) → Told → Accessed → Told → Accessed
    → Result A Fault → Type 0
Continues goes old d now e result =
    (start : Told) (first m : Minidisk) (acts : List Act) → Came start first acts old d m → Leads goes start first m acts now e result

-- nothing was done to the minidisk or shown of it
abbrev pub IsStill : Minidisk → List Act → Minidisk → List Act → Type 0
IsStill m acts after more = (after ≡ m) × (more ≡ acts)

-- a text was typed
abbrev pub IsSaid : List ℕ → Minidisk → List Act → Minidisk → List Act → Type 0
IsSaid bytes m acts after more = (after ≡ m) × (more ≡ Said bytes ∷ acts)

-- ---- one after another

-- what two things came to: the worse of both
unfoldable pub both : Status → Status → Status
both status.Done s = s
both status.Refused status.Failed = status.Failed
both status.Refused status.Done = status.Refused
both status.Refused status.Refused = status.Refused
both status.Failed s = status.Failed

-- a part of a command goes so for each of these, one after another, and together they come to a status
pub data Goes {A : Type 0} (goes : A → Status → Minidisk → List Act → Minidisk → List Act → Type 0) :
    List A → Status → Minidisk → List Act → Minidisk → List Act → Type 0 where
  none : (m : Minidisk) (acts : List Act) → Goes goes [] status.Done m acts m acts
  one : (xs : List A) (x : A) (s t : Status) (m mid after : Minidisk) (acts some more : List Act) → Goes goes xs s m acts mid some
      → goes x t mid some after more → Goes goes (xs ++ x ∷ []) (both s t) m acts after more

-- ---- what calls need

-- a unit of a world that tells its journal may be read, and written where the disk is writable
abbrev pub MayChange : Told → Accessed → Type 0
MayChange told d =
    ForSome told (λ j. IsReadable j d) × (d.writable ≡ true → ForSome told (λ j. IsWritable j.units d.volume.unit))
