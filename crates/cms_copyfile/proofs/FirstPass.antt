-- The first pass over a file that is copied, where it ends before its records are measured.
use Rattle.std.proofs.Common.{◌≡◌, ◌⊎◌, ◌∙◌, ℕ, List, Result, inl, inr, length, refl, sym, ap, subst, arith}
use Rattle.cms_journal.specs.Causes.{Rose}
use Rattle.cms_journal.proofs.Counts.{counted_one}
use Rattle.cms_edf.specs.OpeningSteps.{OfImage}
use Rattle.cms_model.specs.Acts.{Act, Does}
use Rattle.cms_model.specs.Runs.{Ran}
use Rattle.cms_model.specs.Slots.{Slot}
use Rattle.cms_model.specs.Steps.{Get, ReadFault}
use Rattle.cms_model.proofs.Single.{ran_still}
use Rattle.cms_line.specs.declared.token.Token.{Token}
use Rattle.cms_disk.specs.Cursors.{HasLeft}
use Rattle.cms_disk.specs.declared.fault.DiskFault.{DiskFault}
use Rattle.cms_disk.specs.declared.fault.DiskFault.TheVariants as failed
use Rattle.cms_search.specs.Calls.{Acts, Comes, Spot, at, holds, machine_of}
use Rattle.cms_search.specs.DeviceSteps.{HasRead, Stepped, failing}
use Rattle.cms_search.specs.Refusals.{unread}
use Rattle.cms_search.specs.Units.{vdev_of}
use Rattle.cms_search.specs.declared.state.End.{End}
use Rattle.cms_search.proofs.Acts.{acts_after}
use Rattle.cms_search.proofs.HandedRecords.{later_read}
use Rattle.cms_search.proofs.LetterDisks.{meets_at}
use Rattle.cms_search.proofs.Stepped.{device_is}
use Rattle.cms_files.specs.OpenFiles.{IsOpened}
use Rattle.cms_files.specs.Updates.{stopping, updated_of}
use Rattle.cms_files.specs.declared.open_files.OpenFile.{OpenFile}
use Rattle.cms_files.specs.declared.update.Updated as declared
use Rattle.cms_world.specs.Seen.{Seen}
use Rattle.cms_copyfile.specs.Copyfile.{change_with}
use Rattle.cms_copyfile.specs.FileCopies.{IsFileCopy, copied_to}
use Rattle.cms_copyfile.specs.Outputs.{extended}
use Rattle.cms_copyfile.specs.declared.copy.FileCopy.{FileCopy}
use Rattle.cms_copyfile.specs.declared.line.CopyLine.{CopyLine}
use Rattle.cms_copyfile.proofs.CopyInput.{input_at}
use Rattle.cms_copyfile.proofs.FilesCopied.{copying_at}
use Rattle.cms_copyfile.proofs.OneRead.{acts_never_so, behind_read, first, tree_by, wanted_in, wanted_low, whole}

-- the bytes never are others
pub read_never : (before : Seen) (mid new : Spot) (words : List Token) (line : CopyLine) (c : FileCopy) (u : List Slot → Act Stepped) (r : Result declared.Updated End) → HasRead before mid.world
    → ((units : List Slot) → holds mid units → ⊥) → Acts mid new u r (updated_of new.state) → Acts (first before mid) new (whole mid words line c) r (updated_of new.state)
read_never before mid new words line c u r read never a =
    acts_never_so (first before mid) mid new (whole mid words line c) u r (updated_of new.state) (updated_of new.state) (λ units h. never units (let told = read.told in rw told h))
    (later_read before mid.world read) (λ usable. (let told = read.told in rw told usable)) a

module _ (before : Seen) (mid : Spot) (words : List Token) (line : CopyLine) (c : FileCopy) (file : OpenFile) (read : HasRead before mid.world)
    (is : IsFileCopy mid.state.table line c) (opened : IsOpened mid.state.table c.found.letter c.found.name file) where
  -- its device failed
  read_lost : Rose before.faults mid.world.faults → Comes (first before mid) mid (whole mid words line c) (λ units. failing (machine_of mid.state units) file.vdev)
  read_lost rose = record {
    each = λ units h.
        let h' : holds mid units = (let told = read.told in rw told h) in
        let s = machine_of mid.state units in
        let x = copying_at mid line c is units h' in
        let made = copied_to s line c x in
        let change = change_with s line made (extended line.style.existing made.there) in
        let p = at (first before mid) units in
        let q = at mid units in
        let input = input_at mid units line c file opened h' x in
        let wanted = wanted_in line x.file in
        let next = behind_read s line c x.file change in
        let ran = ran_still p q (Get x.file.unit x.file.file wanted) (ReadFault 0) next read.told (counted_one before.faults mid.world.faults read.faults rose) refl (omega arith)
        (input.offers wanted (wanted_low line.style (length x.file.file.records))) refl refl (record { unread = refl; ended = refl }) refl in
        let device = ap (vdev_of s) (sym input.unit) ∙ device_is mid.state opened.seat units file.vdev opened.device in (
          units,
          (
            h',
            subst (λ (z : Act Stepped). Ran p q z (failing s file.vdev)) (sym (tree_by s words line c x change refl))
                (subst (λ (v : ℕ). Ran p q (Does (Get x.file.unit x.file.file wanted) next) (failing s v)) device ran),
          ),
        );
    later = later_read before mid.world read;
    usable = λ usable. (let same = read.told in rw same usable);
  }

  -- its records never are found altered
  read_altered : (new : Spot) (u : List Slot → Act Stepped) (r : Result declared.Updated End)
      → OfImage mid.world.told file.cursor.unit (λ image. (records : List (List ℕ)) → HasLeft image file.cursor records → ⊥) → Acts mid new u r (updated_of new.state)
      → Acts (first before mid) new (whole mid words line c) r (updated_of new.state)
  read_altered new u r never a =
      read_never before mid new words line c u r read
      (λ units h.
      let x = copying_at mid line c is units h in
      let k = meets_at mid units c.found.letter opened.seat opened.there h in
      never k.journal k.told x.file.file.records ((input_at mid units line c file opened h x).left k.journal k.told)) a

  -- it couldn't be read to its end, which is typed
  pub read_unread : (new : Spot) (why : DiskFault) (r : Result declared.Updated End) → (why ≡ failed.Device) ⊎ (why ≡ failed.Altered) → (why ≡ failed.Device → Rose before.faults mid.world.faults)
      → (why ≡ failed.Altered → OfImage mid.world.told file.cursor.unit (λ image. (records : List (List ℕ)) → HasLeft image file.cursor records → ⊥))
      → Acts mid new (λ units. stopping (unread (machine_of mid.state units) file.vdev why)) r (updated_of new.state) → Acts (first before mid) new (whole mid words line c) r (updated_of new.state)
  read_unread new why r (inl device) rose never a =
      acts_after (first before mid) mid new (whole mid words line c) (λ units. failing (machine_of mid.state units) file.vdev) r (updated_of new.state) (read_lost (rose device))
      (subst (λ (z : DiskFault). Acts mid new (λ units. stopping (unread (machine_of mid.state units) file.vdev z)) r (updated_of new.state)) device a)
  read_unread new why r (inr altered) rose never a = read_altered new (λ units. stopping (unread (machine_of mid.state units) file.vdev why)) r (never altered) a
