-- A host in memory, as its calls see it.
use Rattle.std.specs.Prelude.{◌≡◌, ℕ, List, length, false, Option, None, Some, Result, OnOk}
use Rattle.std.specs.Option.{option_map_or}
use Rattle.mini_host.specs.Files.{Files}
use Rattle.mini_host.specs.Plan.{is_planned, next}
use Rattle.mini_host.specs.declared.memory.MemHost.{MemHost}

-- its files
abbrev pub files_of : MemHost → Files
files_of h = record {
  files = h.files.items;
  folders = h.folders;
  left = h.left;
  draft = h.draft;
  notes = h.notes;
}

-- it tells them
abbrev pub told_of : MemHost → Option Files
told_of h = Some (files_of h)

-- how often a call failed
abbrev pub faults_of : MemHost → ℕ
faults_of h = h.faults

-- how often it was called
abbrev pub calls_of : MemHost → ℕ
calls_of h = h.plan.calls

-- the calls that are to fail, by their numbers from 1
abbrev pub failing_of : MemHost → List ℕ
failing_of h = h.plan.failing.items

-- how many bytes are left of the file that is open
abbrev pub rest_of : MemHost → ℕ
rest_of h = option_map_or length h.left 0

-- a call was counted, and done only where it isn't planned to fail; the plan is as before
pub record IsCalled {T E : Type 0} (old new : MemHost) (result : Result T E) : Type 0 where
  pub calls : calls_of new ≡ next (calls_of old)
  pub unplanned : OnOk result (is_planned (failing_of old) (next (calls_of old)) ≡ false)
  pub failing : failing_of new ≡ failing_of old

-- no call was counted, and the plan is as before
pub record IsUncalled (old new : MemHost) : Type 0 where
  pub calls : calls_of new ≡ calls_of old
  pub failing : failing_of new ≡ failing_of old
