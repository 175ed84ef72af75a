-- What a call of the session's top does.
use Rattle.std.specs.Prelude.{⊤, ◌≡◌, ◌≢◌, ◌⊎◌, ◌≤◌, ℕ, suc, List, [], ◌∷◌, ◌++◌, length, min, slice_get, Some}
use Rattle.std.specs.Option.{ForSome}
use Rattle.cms_journal.specs.declared.event.Event.TheVariants.{Missed}
use Rattle.cms_journal.specs.declared.event.Attached.{Attached}
use Rattle.cms_journal.specs.Causes.{Rose}
use Rattle.cms_journal.specs.Limits.{most_blocks}
use Rattle.cms_journal.specs.Journal.{IsAttached, IsBlockSize, MayAdd, may_write}
use Rattle.cms_journal.specs.Told.{Told}
use Rattle.cms_model.specs.Volumes.{disk_of}
use Rattle.cms_model.specs.Objects.{Object}
use Rattle.cms_model.specs.Acts.{Act}
use Rattle.cms_model.specs.Acts as acts
use Rattle.cms_model.specs.Points.{Point}
use Rattle.cms_model.specs.Runs.{Ran, Broke}
use Rattle.cms_model.specs.Slots.{Slot}
use Rattle.cms_disk.specs.declared.unit.UnitInfo.{UnitInfo}
use Rattle.cms_ext.specs.Extensions.{desk}
use Rattle.cms_search.specs.Calls.{Holds}
use Rattle.cms_search.specs.Shows.{devices_of}
use Rattle.cms_search.specs.Tables.{new_table}
use Rattle.cms_search.specs.declared.state.Device.{Device}
use Rattle.cms_search.specs.declared.state.End.{End}
use Rattle.cms_search.specs.declared.state.End.TheVariants as cut
use Rattle.cms_world.specs.Seen.{Seen}
use Rattle.cms_words.specs.declared.fault.WordFault.{WordFault}
use Rattle.cms_words.specs.declared.fault.WordFault.TheVariants as fault
use Rattle.cms_words.specs.declared.unit.UnitWord.{UnitWord}
use Rattle.cms_session.specs.Machine.{started}
use Rattle.cms_words.specs.declared.words.Words.{Words}
use Rattle.cms_session.specs.Words.{Asked, Read, given_by}
use Rattle.cms_session.specs.Words as words
use Rattle.cms_session.specs.Headline.{Start, Headline, fresh, first_machine, first_point}
use Rattle.cms_session.specs.declared.state.Finish.{Finish}
use Rattle.cms_session.specs.declared.state.Finish.TheVariants as finish
use Rattle.cms_session.specs.declared.status.Status.{Status}
use Rattle.cms_session.specs.declared.status.Status.TheVariants.{Done, Usage, Memory, World, Turns}

-- ---- the words

-- Usage comes exactly where the words are refused, but for want of memory
abbrev pub FitsWords : Read → Status → Type 0
FitsWords (words.Refused why) status = (status ≡ Usage why) ⊎ (status ≡ Memory)
FitsWords (words.Runs spec) status = (why : WordFault) → status ≢ Usage why

-- how it ends where the words are refused
abbrev pub refusal_of : WordFault → Status
refusal_of fault.Memory = Memory
refusal_of fault.Syntax = Usage fault.Syntax
refusal_of (fault.Unit k) = Usage (fault.Unit k)
refusal_of fault.Turns = Usage fault.Turns
refusal_of fault.Zone = Usage fault.Zone
refusal_of (fault.Twice vdev) = Usage (fault.Twice vdev)
refusal_of fault.Seed = Usage fault.Seed

-- no session runs
abbrev pub RunsNone : Read → Type 0
RunsNone (words.Refused why) = ⊤
RunsNone (words.Runs spec) = ⊥

-- a told journal has so many units at most; one of 240 leaves room for those of the words
abbrev pub HasFew : ℕ → Told → Type 0
HasFew most told = ForSome told (λ j. length j.units ≤ most)

-- at most 240 units are attached, where the journal is told
abbrev pub HasRoom : Told → Type 0
HasRoom told = HasFew 240 told

-- ---- the units

-- behind the units that were attached before, one was attached for each of the words, in their order and as the word says
abbrev pub AreAttached : List Attached → List UnitWord → List Attached → Type 0
AreAttached before [] [] = ⊤
AreAttached before (word ∷ words) (unit ∷ units) =
    IsAttached (fresh before) (Some (fresh (before ++ unit ∷ []))) word.name word.bsize word.access (length before) (length unit.start)
    × AreAttached (before ++ unit ∷ []) words units
AreAttached before _ _ = ⊥

-- the device of a unit word, with so many blocks
abbrev pub device_of : UnitWord → ℕ → Device
device_of word blocks = record { vdev = word.vdev; bsize = word.bsize; blocks = blocks; writable = may_write word.access }

-- the devices of the words' units; at most 1,048,576 blocks of each are looked at
abbrev pub devices_on : List UnitWord → List Attached → List Device
devices_on (word ∷ words) (unit ∷ units) = device_of word (disk_of unit).count ∷ devices_on words units
devices_on _ _ = []

-- how a session on units starts
abbrev pub start_on : Asked → List Attached → ℕ → List Object → Start
start_on spec units faults objects = record {
  units = units;
  devices = devices_on spec.units units;
  turns = spec.turns;
  offset = spec.offset;
  given = spec.given;
  faults = faults;
  objects = objects;
}

-- why the next unit wasn't attached: there was no memory; or the world missed it
abbrev pub StopsAt : List UnitWord → List Attached → Seen → Seen → Status → Type 0
StopsAt [] units before now status = (status ≡ Memory) × (now.told ≡ Some (fresh units))
StopsAt (next ∷ rest) units before now status =
    ((status ≡ Memory) × (now.told ≡ Some (fresh units)))
    ⊎ ((status ≡ World) × MayAdd (Missed next.name next.bsize next.access) (Some (fresh units)) now.told × Rose before.edges now.edges)

-- the first of the words' units were attached, and no more; nothing else happened
pub record StopsAfter (words : List UnitWord) (before now : Seen) (status : Status) : Type 0 where
  pub front : List UnitWord
  pub rest : List UnitWord
  pub words_are : front ++ rest ≡ words
  pub units : List Attached
  pub attached : AreAttached [] front units
  pub stops : StopsAt rest units before now status

-- all units were attached, as their words say
pub record OnUnits (spec : Asked) (objects : List Object) (before now : Seen) (status : Status) : Type 0 where
  pub units : List Attached
  pub attached : AreAttached [] spec.units units
  pub ran : Headline (start_on spec units before.faults objects) before now status

-- there was no memory before a unit was attached: nothing happened
pub record Unbegun (before now : Seen) (status : Status) : Type 0 where
  pub status_is : status ≡ Memory
  pub same : now ≡ before

-- a session that the words ask for with these objects, from a world with no unit and no event
abbrev pub SessionIn : Asked → List Object → Seen → Seen → Status → Type 0
SessionIn spec objects before now status =
    Unbegun before now status ⊎ (StopsAfter spec.units before now status ⊎ OnUnits spec objects before now status)

-- no count has fallen, and World comes only where that of the edges rose
pub record WorldCause (before now : Seen) (status : Status) : Type 0 where
  pub edges : before.edges ≤ now.edges
  pub faults : before.faults ≤ now.faults
  pub rose : status ≡ World → Rose before.edges now.edges

-- ---- the parts of the call

-- the status of a session that wasn't cut off
abbrev pub status_of : Finish → Status
status_of finish.AtEnd = Done
status_of finish.AtTurns = Turns

-- why a session was cut off
abbrev pub status_at : End → Status
status_at cut.Memory = Memory
status_at cut.Edge = World

-- a point is as the world shows
pub record IsAsSeen (p : Point) (now : Seen) : Type 0 where
  pub told : p.journal ≡ now.told
  pub faults : p.faults ≡ now.faults

-- the tree came to this end
pub record CameTo (p : Point) (now : Seen) (tree : Act Finish) (end : Finish) : Type 0 where
  pub point : Point
  pub shown : IsAsSeen point now
  pub ran : Ran p point tree (acts.Done end)

-- or was cut off
pub record WasCut (p : Point) (now : Seen) (tree : Act Finish) : Type 0 where
  pub point : Point
  pub shown : IsAsSeen point now
  pub broke : Broke p point tree

-- how the run of a tree from a point ended, with the count of edges before
abbrev pub EndedAs : Point → ℕ → Seen → Act Finish → Status → Type 0
EndedAs p edges now tree Done = CameTo p now tree finish.AtEnd
EndedAs p edges now tree Turns = CameTo p now tree finish.AtTurns
EndedAs p edges now tree World = WasCut p now tree × Rose edges now.edges
EndedAs p edges now tree Memory = WasCut p now tree
EndedAs p edges now tree (Usage why) = ⊥

-- what is told of a word's unit, of this number and of so many blocks
abbrev pub info_of : UnitWord → ℕ → ℕ → UnitInfo
info_of word number blocks = record {
  vdev = word.vdev;
  unit = record { number = number; blocks = blocks };
  bsize = word.bsize;
  writable = may_write word.access;
}

-- what is told of the words' units, from this number on
abbrev pub infos_on : ℕ → List UnitWord → List Attached → List UnitInfo
infos_on n (word ∷ words) (unit ∷ units) = info_of word n (disk_of unit).count ∷ infos_on (suc n) words units
infos_on n _ _ = []

-- a journal that is told has the unit of a word behind the others, and this is told of it
abbrev pub AttachesUnit : Told → Told → UnitWord → UnitInfo → Type 0
AttachesUnit old new word info =
    ForSome old (λ j. (blocks : ℕ) × IsAttached j new word.name word.bsize word.access info.unit.number blocks
    × (info ≡ info_of word info.unit.number (min blocks most_blocks)))

-- the units of words are attached, no others and nothing else happened, and this is told of them
pub record AttachesAll (now : Told) (words : List UnitWord) (infos : List UnitInfo) : Type 0 where
  pub units : List Attached
  pub attached : AreAttached [] words units
  pub told : now ≡ Some (fresh units)
  pub infos_are : infos ≡ infos_on 0 words units

-- each unit has a block size
abbrev pub HaveSizes : List UnitInfo → Type 0
HaveSizes infos = (u : ℕ) (info : UnitInfo) → slice_get infos u ≡ Some info → IsBlockSize info.bsize

-- how a session on these units, with these words and objects, ended from whatever the units hold
abbrev pub RunsOn : List UnitInfo → Words → List Object → Seen → Seen → Status → Type 0
RunsOn infos words objects before now status =
    (units : List Slot) → Holds before.told (new_table infos) units
    → EndedAs (first_point before.told before.faults units (given_by words.seed) objects) before.edges now
    (started (desk (first_machine units (devices_of (new_table infos)) words.offset words.turns) objects)) status
