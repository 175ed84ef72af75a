-- One file that is copied: its records are read, and the copy is put.
use Rattle.std.proofs.Common.{◌≡◌, ◌∙◌, ℕ, List, [], Option, Some, Result, Ok, Err, refl, sym, ap, subst}
use Rattle.std.specs.Prelude.{IfSome, None}
use Rattle.std.proofs.lemmas.Option.{same_Some}
use Rattle.cms_journal.specs.Journal.{Journal}
use Rattle.cms_names.specs.declared.name.Name.{Name}
use Rattle.cms_fields.specs.Moments.{stamp_of}
use Rattle.cms_model.specs.Changes.{Change, file_named}
use Rattle.cms_model.specs.LawsUpdates.{now}
use Rattle.cms_model.specs.Minidisks.{File, Minidisk}
use Rattle.cms_model.specs.Trees.{Image}
use Rattle.cms_model.specs.Volumes.{Opened, minidisk_of}
use Rattle.cms_model.proofs.Results.{ok_same}
use Rattle.cms_model.specs.Slots.{Slot}
use Rattle.cms_disk.specs.Disks.{Accessed, IsMinidisk, StandsIn}
use Rattle.cms_search.specs.Calls.{Spot, holds, machine_of}
use Rattle.cms_search.specs.Machine.{letter_at}
use Rattle.cms_search.specs.Searches.{item_at}
use Rattle.cms_search.specs.Seats.{HasDevice}
use Rattle.cms_search.specs.Tables.{Seated}
use Rattle.cms_search.specs.declared.fault.SearchFault.{SearchFault}
use Rattle.cms_search.specs.declared.state.State.{State}
use Rattle.cms_search.proofs.LetterDisks.{letter_is, meets_at}
use Rattle.cms_files.specs.Files.{UnitFile, file_on, unit_file}
use Rattle.cms_files.specs.OpenFiles.{IsOpened}
use Rattle.cms_files.specs.declared.open_files.OpenFile.{OpenFile}
use Rattle.cms_copyfile.specs.Copyfile.{file_at, there_is}
use Rattle.cms_copyfile.specs.Drafts.{CameTo, CopiesInto, HaveRecords, WritesSeat, WritesTo, change_as, changing}
use Rattle.cms_copyfile.specs.FileCopies.{IsCopying, IsFileCopy, copied_to}
use Rattle.cms_copyfile.specs.OneCopy.{AreShaped}
use Rattle.cms_copyfile.specs.Outcomes.{ChangesAs, IsWritten, WroteAll}
use Rattle.cms_copyfile.specs.Outputs.{copies_in}
use Rattle.cms_copyfile.specs.declared.copy.FileCopy.{FileCopy}
use Rattle.cms_copyfile.specs.declared.line.CopyLine.{CopyLine}
use Rattle.cms_copyfile.specs.declared.output.CopyPlan.{CopyPlan}
use Rattle.cms_copyfile.specs.declared.draft.CopyTarget.{CopyTarget}
use Rattle.cms_copyfile.specs.declared.draft.Written.{Written}
use Rattle.cms_copyfile.proofs.AllWritten.{wrote_all}
use Rattle.cms_copyfile.proofs.CopyInput.{input_at, input_stays}
use Rattle.cms_copyfile.proofs.FilesCopied.{copying_at}

-- ---- the change

-- the records of a file that was found
abbrev pub records_found : Result UnitFile SearchFault → List (List ℕ)
records_found (Ok x) = x.file.records
records_found (Err e) = []

-- the copies of those that the machine has
abbrev pub copies_on : State → FileCopy → CopyPlan → List Slot → List (List ℕ)
copies_on st c plan units = copies_in plan (records_found (file_at (machine_of st units) c.found))

-- where the file is there
pub copies_so : (st : State) (line : CopyLine) (c : FileCopy) (plan : CopyPlan) (units : List Slot) → (x : IsCopying (machine_of st units) line c)
    → copies_in plan x.file.file.records ≡ copies_on st c plan units
copies_so st line c plan units x = ap (λ (r : Result UnitFile SearchFault). copies_in plan (records_found r)) (sym x.found)

-- the file is put with them
abbrev pub change_on : State → FileCopy → CopyTarget → CopyPlan → List Slot → Change
change_on st c to plan units = changing to (copies_on st c plan units)

-- a file of this shape is written so
pub writes_as : (spot : Spot) (line : CopyLine) (c : FileCopy) (to : CopyTarget) (plan : CopyPlan) → to.name ≡ c.name → AreShaped spot line c plan to.write to.shape
    → ChangesAs spot line c (change_on spot.state c to plan)
writes_as spot line c to plan name shaped units h x =
    (shaped units h x).change
    ∙ (ap (λ (n : Name). change_as to.write n to.shape (copies_in plan x.file.file.records)) (sym x.name ∙ sym name)
    ∙ ap (changing to) (copies_so spot.state line c plan units x))

-- ---- the file of the output's name

there_named : (u : ℕ) (y : Option File) → there_is (unit_file u y) ≡ y
there_named u None = refl
there_named u (Some g) = refl

-- a unit has one minidisk
minidisk_one : (image : Image) (d : Accessed) (m m' : Minidisk) → StandsIn image d m → StandsIn image d m' → m ≡ m'
minidisk_one image d m m' a b =
    a.minidisk_is ∙ (ap (λ (o : Opened). minidisk_of d.volume.disk o) (ok_same a.opened b.opened (sym a.opens ∙ b.opens)) ∙ sym b.minidisk_is)

-- the disk that the journal tells has it as the machine has it
there_at : (mid : Spot) (line : CopyLine) (c : FileCopy) (to : CopyTarget) (s : Seated) (units : List Slot) → holds mid units → (x : IsCopying (machine_of mid.state units) line c)
    → to.letter ≡ c.letter → to.name ≡ c.name → item_at mid.state.table.seats to.letter ≡ Some s → (j : Journal) (m : Minidisk) → mid.world.told ≡ Some j → IsMinidisk j s.disk m
    → (copied_to (machine_of mid.state units) line c x).there ≡ file_named to.name m.files
there_at mid line c to s units h x letter name there j m told is =
    let t = mid.state.table in
    let ma = machine_of mid.state units in
    let made = copied_to ma line c x in
    let k = meets_at mid units to.letter s there h in
    let same : k.journal ≡ j = same_Some k.journal j (sym k.told ∙ told) in
    let mine : StandsIn (now j s.disk.volume.unit) s.disk k.met.minidisk =
    subst (λ (i : Journal). StandsIn (now i s.disk.volume.unit) s.disk k.met.minidisk) same k.met.is.stands in
    let one : k.met.minidisk ≡ m = minidisk_one (now j s.disk.volume.unit) s.disk k.met.minidisk m mine is.stands in
    let at = letter_is t to.letter s there in
    let slot = k.met.slot in
    let on : file_on ma to.name (letter_at ma to.letter) ≡ unit_file s.letter.unit (file_named to.name k.met.minidisk.files) = rw (at, slot) refl in
    let from : made.there ≡ there_is (file_on ma to.name (letter_at ma to.letter)) =
    ap (λ (n : Name). there_is (file_on ma n (letter_at ma made.to))) (sym x.name ∙ sym name)
    ∙ ap (λ (n : ℕ). there_is (file_on ma to.name (letter_at ma n))) (sym x.to ∙ sym letter) in
    from ∙ (ap there_is on ∙ (there_named s.letter.unit (file_named to.name k.met.minidisk.files) ∙ ap (λ (z : Minidisk). file_named to.name z.files) one))

-- ---- the file is written

module _ (mid now : Spot) (line : CopyLine) (c : FileCopy) (file : OpenFile) (to : CopyTarget) (plan : CopyPlan) (is : IsFileCopy mid.state.table line c)
    (opened : IsOpened mid.state.table c.found.letter c.found.name file) (shaped : AreShaped mid line c plan to.write to.shape) (letter : to.letter ≡ c.letter) (name : to.name ≡ c.name) where
  -- the copies go into the disk
  into : (s : Seated) (units : List Slot) (h : holds mid units) → item_at mid.state.table.seats to.letter ≡ Some s → (j : Journal) (m : Minidisk) → mid.world.told ≡ Some j
      → IsMinidisk j s.disk m → CopiesInto mid.world.told s.disk m to plan file.cursor (copying_at mid line c is units h).file.file.records
  into s units h there j m told minidisk =
      let x = copying_at mid line c is units h in
      record {
        to_have = record {
          at = j;
          told_is = told;
          minidisk = minidisk;
          have = subst (λ (o : Option File). HaveRecords to.write o to.shape (copies_in plan x.file.file.records))
              (there_at mid line c to s units h x letter name there j m told minidisk) (shaped units h x).have;
        };
        stay = input_stays mid units to.letter s c.found.letter c.found.name file m h there opened;
        left = (input_at mid units line c file opened h x).left;
      }

  wrote_copies : (s : Seated) (written : Written) → item_at mid.state.table.seats to.letter ≡ Some s
      → IfSome (item_at mid.state.table.seats to.letter) (λ x. WritesSeat mid.world now.world mid.state.table now.state.table x to plan file.cursor written)
      → now.state ≡ record mid.state { table = now.state.table } → to.stamp ≡ stamp_of mid.state.moment → WroteAll mid now to (copies_on mid.state c plan) s written
  wrote_copies s written there writes state stamp =
      wrote_all (λ (x : Seated) (e : Accessed). WritesTo mid.world now.world x.disk e to plan file.cursor written) mid now to (copies_on mid.state c plan) s written there writes state stamp
      (λ e does. record {
        came = λ units h j m told minidisk.
            subst (λ (l : List (List ℕ)). CameTo mid.world.told now.world.told s.disk e m (changing to l) to.stamp written) (copies_so mid.state line c plan units (copying_at mid line c is units h))
            (does.came m (copying_at mid line c is units h).file.file.records (into s units h there j m told minidisk));
        changes = does.changes;
      })

  -- what the update of that disk ends behind
  pub copies_written : (s : Seated) (vdev : ℕ) (written : Written) → HasDevice mid.state.table c.letter vdev → item_at mid.state.table.seats to.letter ≡ Some s
      → IfSome (item_at mid.state.table.seats to.letter) (λ x. WritesSeat mid.world now.world mid.state.table now.state.table x to plan file.cursor written)
      → now.state ≡ record mid.state { table = now.state.table } → to.stamp ≡ stamp_of mid.state.moment → IsWritten mid now line c vdev file.vdev written
  copies_written s vdev written device there writes state stamp = record {
    to = to;
    all = copies_on mid.state c plan;
    disk = s;
    wrote = wrote_copies s written there writes state stamp;
    file = file;
    is = is;
    opened = opened;
    read = refl;
    device = device;
    letter = letter;
    name = name;
    changes = writes_as mid line c to plan name shaped;
  }
