-- The second pass over a file that is copied: its records are read again, and their copies are put in a draft.
use Rattle.std.specs.Prelude.{◌≡◌, ◌⊎◌, ℕ, ◌+◌, ◌-◌, ◌<◌, ◌≤◌, true, List, [], ◌∷◌, ◌++◌, drop, length, map, take, Some, Result, Ok, Err, ⊤}
use Rattle.cms_journal.specs.Journal.{Journal}
use Rattle.cms_journal.specs.Told.{Told}
use Rattle.cms_fields.specs.declared.time.Stamp.{Stamp}
use Rattle.cms_edf.specs.FileDrafts.{Draft}
use Rattle.cms_edf.specs.OpeningSteps.{OfImage}
use Rattle.cms_model.specs.Changes.{Change}
use Rattle.cms_model.specs.LawsUpdates.{now}
use Rattle.cms_model.specs.Minidisks.{Minidisk}
use Rattle.cms_model.specs.Settled.{Agree}
use Rattle.cms_names.specs.declared.name.Format.TheVariants.{F}
use Rattle.cms_held.specs.declared.shape.DraftShape.{DraftShape}
use Rattle.cms_disk.specs.Cursors.{AreAhead, HasLeft, Cursor, text_of}
use Rattle.cms_disk.specs.Disks.{Accessed, IsMinidisk}
use Rattle.cms_disk.specs.Drafts.{GoesOn, IsGivenUp, WritesAside}
use Rattle.cms_copyfile.specs.Outputs.{copies_in}
use Rattle.cms_copyfile.specs.Records.{copied}
use Rattle.cms_copyfile.specs.declared.second_pass.CopyFault.{CopyFault}
use Rattle.cms_copyfile.specs.declared.second_pass.CopyFault.TheVariants as why
use Rattle.cms_copyfile.specs.declared.output.CopyPlan.{CopyPlan}

-- these blocks of a unit have the same bytes at every moment at which the minidisk stands and was written beside since
abbrev pub StayBeside : Told → Accessed → Minidisk → ℕ → List ℕ → Type 0
StayBeside start d m unit blocks =
    (j k : Journal) → start ≡ Some j → IsMinidisk k d m → WritesAside start (Some k) d.volume.disk d.volume.unit m
    → Agree blocks (now k unit) (now j unit)

-- a draft goes on of which the copies come next, for this change, and these records are left to read of a file that stays beside it
pub record CopiesFrom (start now : Told) (d : Accessed) (m : Minidisk) (draft : Draft) (change : Change) (stamp : Stamp)
    (plan : CopyPlan) (c : Cursor) (records : List (List ℕ)) :
    Type 0 where
  pub goes : GoesOn start now d m draft change stamp [] (copies_in plan records)
  pub stay : StayBeside start d m c.unit c.leaves
  pub left : OfImage start c.unit (λ image. HasLeft image c records)

-- ---- record by record

-- what is in the draft behind the first records
abbrev pub copies_to : CopyPlan → List (List ℕ) → List (List ℕ)
copies_to plan front = map (copied plan.style) (drop plan.skipped front)

-- what is to come behind so many
abbrev pub copies_from : CopyPlan → ℕ → List (List ℕ) → List (List ℕ)
copies_from plan place rest = map (copied plan.style) (drop (plan.skipped - place) (take (plan.wanted - place) rest))

-- so many of the records were read, and the copies of those are put; the others are left to read, as they were at the start
pub record CopiedTo (start now : Told) (d : Accessed) (m : Minidisk) (draft : Draft)
    (change : Change) (stamp : Stamp) (plan : CopyPlan) (first c : Cursor)
    (records : List (List ℕ)) (place : ℕ) :
    Type 0 where
  pub front : List (List ℕ)
  pub rest : List (List ℕ)
  pub split : records ≡ front ++ rest
  pub long : length front ≡ place
  pub goes : GoesOn start now d m draft change stamp
      (copies_to plan front) (copies_from plan place rest)
  pub left : OfImage start first.unit (λ image. HasLeft image c rest)

-- the record that was read last stands in the cursor, and those behind it are left to read
pub record HasLast (start : Told) (unit : ℕ) (c : Cursor) (records : List (List ℕ)) : Type 0 where
  pub front : List (List ℕ)
  pub rest : List (List ℕ)
  pub split : records ≡ front ++ text_of c ∷ rest
  pub whole : c.begun.whole ≡ true
  pub left : OfImage start unit (λ image. HasLeft image c rest)

-- no read failed: there was none, or the last one read a record
abbrev pub ReadsWell : Told → Cursor → Cursor → List (List ℕ) → Type 0
ReadsWell start first c records = (c ≡ first) ⊎ HasLast start first.unit c records

-- ---- records that are put at once

-- each record as long as those of a file of this shape is its own copy, from a place on
pub record KeepsAll (plan : CopyPlan) (shape : DraftShape) (place : ℕ) : Type 0 where
  pub fixed : shape.format ≡ F
  pub past : plan.skipped ≤ place
  pub keeps : (text : List ℕ) → length text ≡ shape.length → copied plan.style text ≡ text

-- so many records from a place on are put at once: each is its own copy, they lie whole in the block that was read last, and they aren't
-- the last that are left, nor that are wanted
pub record IsRun (plan : CopyPlan) (d : Draft) (c : Cursor) (place count : ℕ) : Type 0 where
  pub all : KeepsAll plan d.writer.shape place
  pub ahead : AreAhead c d.writer.shape.length count
  pub wanted : place + count < plan.wanted
  pub more : count < c.left
  pub fewer : d.writer.put + count ≤ d.writer.shape.count

-- so many records more were copied, or the draft is given up
abbrev pub PutsAhead : Told → Told → Accessed → Minidisk → Draft → Change → Stamp → CopyPlan
    → Cursor → Cursor → List (List ℕ) → ℕ → Result ℕ CopyFault → Type 0
PutsAhead start now d m draft change stamp plan first c records place (Ok n) =
    CopiedTo start now d m draft change stamp plan first c records (place + n)
PutsAhead start now d m draft change stamp plan first c records place (Err e) =
    IsGivenUp start now d m change

-- ---- what it comes to

-- on which unit a call failed: at Read the draft still goes on, with the copies of all records that were read; at Write no read failed
abbrev pub FailsOn : Told → Told → Accessed → Minidisk → Draft → Change → Stamp → CopyPlan
    → Cursor → Cursor → List (List ℕ) → Result ⊤ CopyFault → Type 0
FailsOn start now d m draft change stamp plan first c records (Ok x) =
    ReadsWell start first c records
FailsOn start now d m draft change stamp plan first c records (Err why.Read) =
    (place : ℕ) × CopiedTo start now d m draft change stamp plan first c records place
FailsOn start now d m draft change stamp plan first c records (Err why.Write) =
    ReadsWell start first c records
FailsOn start now d m draft change stamp plan first c records (Err why.Altered) = ⊤

-- the draft goes on, or it is given up
abbrev pub PutsCopies : Told → Told → Accessed → Minidisk → Draft → Change → Stamp → List (List ℕ) → List (List ℕ)
    → Result ⊤ CopyFault → Type 0
PutsCopies start now d m draft change stamp done more (Ok x) = GoesOn start now d m draft change stamp done more
PutsCopies start now d m draft change stamp done more (Err why.Read) = IsGivenUp start now d m change
PutsCopies start now d m draft change stamp done more (Err why.Write) = IsGivenUp start now d m change
PutsCopies start now d m draft change stamp done more (Err why.Altered) = ⊥

-- the device failed
abbrev pub IsDevices : CopyFault → Type 0
IsDevices e = (e ≡ why.Read) ⊎ (e ≡ why.Write)
