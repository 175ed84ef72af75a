-- Machines with files on which examples run, and what is left of them.
use Rattle.std.proofs.Common.{ℕ, true, false, List, [], ◌∷◌, map, replicate, Some, None, codes}
use Rattle.cms_names.specs.declared.name.Format.TheVariants as format
use Rattle.cms_fields.specs.declared.time.Stamp.{Stamp}
use Rattle.cms_text.specs.Texts.{ebcdic}
use Rattle.cms_model.specs.Minidisks.{File, Volume}
use Rattle.cms_model.specs.Acts.{Act}
use Rattle.cms_model.specs.Feeds.{Close, Over, WaitsForScript, WaitsForMoment, WaitsForObject, feed}
use Rattle.cms_model.specs.Slots.{Slot, Settled}
use Rattle.cms_model.specs.Steps.{Outcome}
use Rattle.cms_search.specs.Machine.{Letter, Machine, Course, Went, OutOfTurns}
use Rattle.cms_search.specs.declared.state.Device.{Device}
use Rattle.cms_search.proofs.Machines.{machine}

-- ---- machines

abbrev pub stamp : Stamp
stamp = record { year = 2000; month = 1; day = 1; hour = 0; minute = 1; second = 9 }

abbrev pub unit : ℕ → Device
unit vdev = record { vdev = vdev; bsize = 512; blocks = 40; writable = true }

-- a file of these records, each of 5 bytes or fewer
abbrev pub file : List ℕ → List ℕ → ℕ → List (List ℕ) → File
file name kind number records = record {
  name = record { file = ebcdic name; kind = ebcdic kind };
  number = number;
  format = format.V;
  length = 5;
  stamp = stamp;
  records = map ebcdic records;
}

abbrev pub volume : List File → Slot
volume files = Settled (Volume (record { volid = ebcdic (codes "TEST01"); bsize = 512; total = 40; lost = 0; files = files }))

-- a disk on unit u
abbrev pub disk : ℕ → Letter
disk u = record { unit = u; parent = None; read_only = false }

-- these files on 191 as A
abbrev pub one_disk : List File → Machine
one_disk files = machine (volume files ∷ []) (unit 0x191 ∷ []) (Some (disk 0) ∷ replicate 25 None)

-- these on 191 as A, and those on 192 as this disk B
abbrev pub two_disks : List File → List File → Letter → Machine
two_disks on_a on_b b = machine (volume on_a ∷ volume on_b ∷ []) (unit 0x191 ∷ unit 0x192 ∷ []) (Some (disk 0) ∷ Some b ∷ replicate 24 None)

-- ---- what is left

-- the files of the first unit by their names, types and numbers
pub record Named : Type 0 where
  pub file : List ℕ
  pub kind : List ℕ
  pub number : ℕ

abbrev pub named : List ℕ → List ℕ → ℕ → Named
named name kind number = record { file = ebcdic name; kind = ebcdic kind; number = number }

abbrev pub names_in : List Slot → List Named
names_in [] = []
names_in (Settled (Volume m) ∷ slots) = map (λ (f : File). record { file = f.name.file; kind = f.name.kind; number = f.number }) m.files
names_in (slot ∷ slots) = []

-- the machine that is left
abbrev pub units_in : Close Course → List Slot
units_in (Over (Went s code)) = s.units
units_in (Over OutOfTurns) = []
units_in WaitsForScript = []
units_in WaitsForMoment = []
units_in WaitsForObject = []

abbrev pub left : Act Course → List Outcome → List Named
left tree outcomes = names_in (units_in (feed tree [] true [] outcomes []).close)

-- the lines that are stacked
abbrev pub stack_in : Close Course → List (List ℕ)
stack_in (Over (Went s code)) = s.stack
stack_in (Over OutOfTurns) = []
stack_in WaitsForScript = []
stack_in WaitsForMoment = []
stack_in WaitsForObject = []
