-- A world in memory, as its calls see it.
use Rattle.std.specs.Prelude.{◌≡◌, ◌⊎◌, ℕ, ◌+◌, ℤ, ◌+ℤ◌, pos, Bool, List, [], ◌∷◌, ◌++◌, length, Option, None, Some, Result, OnOk, OnErr}
use Rattle.std.specs.Int.{saturate_signed, w64}
use Rattle.std.specs.BTreeMap.{get_by_text}
use Rattle.std.specs.declared.string.String.{String}
use Rattle.std.specs.declared.alloc.Global.{Global}
use Rattle.cms_journal.specs.Journal.{Journal}
use Rattle.cms_world.specs.declared.images.Image.{Image}
use Rattle.cms_world.specs.declared.plan.Planned.{Planned}
use Rattle.cms_world.specs.declared.mem.MemWorld.{MemWorld}
use Rattle.cms_world.specs.Images as images
use Rattle.cms_world.specs.Plan as plan

-- its journal
abbrev pub journal_of : MemWorld → Journal
journal_of w = w.recorder

-- it tells it
abbrev pub told_of : MemWorld → Option Journal
told_of w = Some (journal_of w)

-- the failures of calls on units, and those of the other calls
abbrev pub faults_of : MemWorld → ℕ
faults_of w = w.faults

-- how often a call at an edge failed
abbrev pub edges_of : MemWorld → ℕ
edges_of w = w.edges

-- a letter for each call so far
abbrev pub calls_of : MemWorld → List ℕ
calls_of w = w.plan.calls.items

-- what is planned of the call with this number: it is to fail, and a write of it lands or doesn't
abbrev pub planned_of : MemWorld → ℕ → Option Bool
planned_of w number = plan.planned_of w.plan.failing.items number

-- the same of the next call
abbrev pub planned_next : MemWorld → Option Bool
planned_next w = planned_of w (length (calls_of w) + 1)

-- the images as they were given, by their names
abbrev pub images_of : MemWorld → List (String Global × Image)
images_of w = w.images.entries

-- the image that was given under a name last
abbrev pub image_of : MemWorld → List ℕ → Option Image
image_of w name = get_by_text w.images name

-- the bytes that stand under a name by now
abbrev pub standing_of : MemWorld → List ℕ → Option (List ℕ)
standing_of w name = images.standing w.recorder (image_of w name) name

-- all else that a call may use: the script that is left, what the clock says next, the images as they were given, and what is planned
pub record Rest : Type 0 where
  pub script : List ℕ
  pub clock : ℤ
  pub images : List (String Global × Image)
  pub failing : List Planned

-- what a world in memory has besides its journal and its counts
abbrev pub rest_of : MemWorld → Rest
rest_of w = record { script = w.script; clock = w.seconds; images = images_of w; failing = w.plan.failing.items }

-- a second later, held at the greatest number of 64 bits
abbrev pub next_second : ℤ → ℤ
next_second t = saturate_signed w64 (t +ℤ pos 1)

-- the journal, the counts and the calls are as before
pub record IsStill (old new : MemWorld) : Type 0 where
  pub journal : journal_of new ≡ journal_of old
  pub faults : faults_of new ≡ faults_of old
  pub edges : edges_of new ≡ edges_of old
  pub calls : calls_of new ≡ calls_of old

-- a call that isn't planned to fail was written down by its letter; one that failed was, or found no memory
pub record IsCalled {T E : Type 0} (letter : ℕ) (old new : MemWorld) (result : Result T E) : Type 0 where
  pub ok : OnOk result (calls_of new ≡ calls_of old ++ letter ∷ [])
  pub unplanned : OnOk result (planned_next old ≡ None)
  pub err : OnErr result ((calls_of new ≡ calls_of old ++ letter ∷ []) ⊎ (calls_of new ≡ calls_of old))
