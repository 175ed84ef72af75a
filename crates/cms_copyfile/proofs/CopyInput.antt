-- The file that is copied, as a cursor reads it beside the output's draft.
use Rattle.std.proofs.Common.{◌≡◌, ◌∙◌, inl, inr, ℕ, ◌≤◌, List, [], ◌∷◌, Option, Some, Ok, length, slice_get, sym, ap, subst}
use Rattle.std.specs.Prelude.{None}
use Rattle.std.proofs.lemmas.Bool.{cases_Bool}
use Rattle.std.proofs.lemmas.Bool.Decides.{eqb_tells}
use Rattle.std.specs.Option.{ForSome}
use Rattle.std.proofs.lemmas.Option.{same_Some}
use Rattle.cms_journal.specs.Journal.{HasBlocks, Journal}
use Rattle.cms_journal.specs.Told.{Told}
use Rattle.cms_fields.specs.declared.entry.Entry.{Entry}
use Rattle.cms_names.specs.declared.name.Name.{Name}
use Rattle.cms_edf.specs.OpeningSteps.{OfImage}
use Rattle.cms_model.specs.Slots.{Settled, Slot}
use Rattle.cms_model.specs.Steps.{Offers}
use Rattle.cms_model.specs.Changes.{file_named}
use Rattle.cms_model.specs.LawsUpdates.{now}
use Rattle.cms_model.specs.Minidisks.{File, Minidisk, Volume, same_name}
use Rattle.cms_model.specs.Records.{length_of}
use Rattle.cms_model.specs.Volumes.{Disk, Opened, files_of, minidisk_of}
use Rattle.cms_model.specs.Settled.{Agree}
use Rattle.cms_model.specs.Trees.{Image}
use Rattle.cms_model.proofs.FileSizes.{file_of}
use Rattle.cms_model.proofs.Results.{ok_same}
use Rattle.cms_disk.specs.Cursors.{HasLeft}
use Rattle.cms_disk.specs.Drafts.{WritesAside}
use Rattle.cms_search.specs.Calls.{Spot, Usable, holds, machine_of}
use Rattle.cms_search.specs.Searches.{item_at}
use Rattle.cms_search.specs.Tables.{AccessTable, Seated}
use Rattle.cms_search.proofs.HandedRecords.{named_so, open_seat}
use Rattle.cms_search.proofs.LetterDisks.{letter_is, meets_at}
use Rattle.cms_search.proofs.Stepped.{has_device}
use Rattle.cms_files.specs.Files.{UnitFile, unit_file}
use Rattle.cms_files.specs.OpenFiles.{IsOpened}
use Rattle.cms_files.specs.declared.open_files.OpenFile.{OpenFile}
use Rattle.cms_disk.proofs.FilesFound.{same_length as long_again}
use Rattle.cms_copyfile.specs.Copies.{StayBeside}
use Rattle.cms_copyfile.specs.FileCopies.{IsCopying}
use Rattle.cms_copyfile.specs.declared.copy.FileCopy.{FileCopy}
use Rattle.cms_copyfile.specs.declared.line.CopyLine.{CopyLine}
use Rattle.cms_copyfile.proofs.Beside.{else_same, leaves_agree}

-- the file of a unit
unit_file_is : (u : ℕ) (y : Option File) (z : UnitFile) → unit_file u y ≡ Ok z → (y ≡ Some z.file) × (u ≡ z.unit)
unit_file_is u None z is = absurd (cc is)
unit_file_is u (Some f) z is =
    let made : UnitFile = record { unit = u; file = f } in
    let same : made ≡ z = ok_same made z is in
    (ap (λ (y : UnitFile). Some y.file) same, ap (λ (y : UnitFile). y.unit) same)

long_in : (name : Name) (es : List Entry) (cs : List (List (List ℕ))) (f : File) → file_named name (files_of es cs) ≡ Some f → f.length ≡ length_of f.format f.length f.records
unfolding files_of file_named
long_in name [] cs f is = absurd (cc)
long_in name (e ∷ es) [] f is = absurd (cc)
long_in name (e ∷ es) (records ∷ more) f is = elim (cases_Bool (same_name name e.name)) [
  | inl same ↦
      let made = file_of e records in
      let e' : Some made ≡ Some f = rw same at is in
      subst (λ (x : File). x.length ≡ length_of x.format x.length x.records) (same_Some made f e') (long_again e.format e.length records)
  | inr other ↦ long_in name es more f (rw other at is)
]

long_named : (disk : Disk) (v : Opened) (m : Minidisk) (name : Name) (f : File) → m ≡ minidisk_of disk v → file_named name m.files ≡ Some f → f.length ≡ length_of f.format f.length f.records
unfolding minidisk_of
long_named disk v m name f is at = long_in name v.entries v.contents f (subst (λ (x : Minidisk). file_named name x.files ≡ Some f) is at)

-- what the machine has of it, and what a cursor has left of it
pub record InputAt (old : Spot) (units : List Slot) (file : OpenFile) (u : ℕ) (x : UnitFile) : Type 0 where
  pub unit : u ≡ x.unit
  pub long : x.file.length ≡ length_of x.file.format x.file.length x.file.records
  pub left : OfImage old.world.told file.cursor.unit (λ image. HasLeft image file.cursor x.file.records)
  pub offers : (wanted : ℕ) → wanted ≤ length x.file.records → Offers (slice_get units x.unit) x.file wanted

pub input_at : (old : Spot) (units : List Slot) (line : CopyLine) (c : FileCopy) (file : OpenFile) → (opened : IsOpened old.state.table c.found.letter c.found.name file) → holds old units
    → (x : IsCopying (machine_of old.state units) line c) → InputAt old units file opened.seat.letter.unit x.file
input_at old units line c file opened h x =
    let t = old.state.table in
    let seat = opened.seat in
    let k = meets_at old units c.found.letter seat opened.there h in
    let m = k.met.minidisk in
    let stands = k.met.is.stands in
    let image = now k.journal seat.disk.volume.unit in
    let o = opened.opens image m stands in
    let letter = letter_is t c.found.letter seat opened.there in
    let slot = k.met.slot in
    let at : unit_file seat.letter.unit (file_named c.found.name m.files) ≡ Ok x.file = rw (letter, slot) at x.found in
    let f = unit_file_is seat.letter.unit (file_named c.found.name m.files) x.file at in
    let name : x.file.file.name ≡ c.found.name = named_so c.found.name m.files x.file.file f.0 in
    let same : o.0 ≡ x.file.file = same_Some o.0 x.file.file (sym o.1 ∙ f.0) in
    let left : HasLeft image file.cursor x.file.file.records = subst (λ (y : File). HasLeft image file.cursor y.records) same o.2 in
    record {
      unit = f.1;
      long = long_named seat.disk.volume.disk stands.opened m c.found.name x.file.file stands.minidisk_is f.0;
      left = λ j told.
          let one : k.journal ≡ j = same_Some k.journal j (sym k.told ∙ told) in
          subst (λ (u : ℕ). HasLeft (now j u) file.cursor x.file.file.records) (sym opened.starts.first.unit)
          (subst (λ (i : Journal). HasLeft (now i seat.disk.volume.unit) file.cursor x.file.file.records) one left);
      offers = λ wanted enough. record {
        minidisk = m;
        settled = subst (λ (u : ℕ). slice_get units u ≡ Some (Settled (Volume m))) f.1 slot;
        file = ap (λ (n : Name). file_named n m.files) name ∙ f.0;
        enough = enough;
      };
    }

-- its blocks stay, whichever disk is drafted on
pub input_stays : (old : Spot) (units : List Slot) (n : ℕ) (s : Seated) (letter : ℕ) (name : Name) (file : OpenFile) (m : Minidisk) → holds old units → item_at old.state.table.seats n ≡ Some s
    → IsOpened old.state.table letter name file → StayBeside old.world.told s.disk m file.cursor.unit file.cursor.leaves
input_stays old units n s letter name file m h at opened = λ j k start there aside.
    let c = file.cursor in
    let seat = opened.seat in
    let first = opened.starts.first in
    let u = s.disk.volume.unit in
    let beside : WritesAside (Some j) (Some k) s.disk.volume.disk u m = subst (λ (t : Told). WritesAside t (Some k) s.disk.volume.disk u m) start aside in
    elim (eqb_tells u c.unit) [
      | inl is ↦
          let mine = meets_at old units n s at h in
          let its = meets_at old units letter seat opened.there h in
          let units' : s.letter.unit ≡ seat.letter.unit = sym mine.met.own ∙ (is.1 ∙ (first.unit ∙ its.met.own)) in
          let place : n ≡ letter = mine.table.table.once n letter s seat at opened.there units' in
          let one : s ≡ seat = same_Some s seat (sym at ∙ (ap (item_at old.state.table.seats) place ∙ opened.there)) in
          let file_is = ap (λ (y : Seated). slice_get y.disk.volume.files opened.starts.place) one ∙ opened.starts.file_is in
          let agree : Agree opened.starts.file.tree.leaves (now k u) (now j u) = leaves_agree j k s.disk m opened.starts.place opened.starts.file there beside file_is in
          subst (λ (v : ℕ). Agree c.leaves (now k v) (now j v)) is.1 (subst (λ (l : List ℕ). Agree l (now k u) (now j u)) (sym first.leaves) agree)
      | inr other ↦
          let same = else_same j k s.disk.volume.disk u c.unit m other.1 beside in
          λ p in'. ap (λ (i : Image). i p) same
    ]

-- ---- a file that was opened

-- its blocks are there
pub opened_blocks : (told : Told) (t : AccessTable) (n : ℕ) (name : Name) (file : OpenFile) → IsOpened t n name file → Usable told t
    → ForSome told (λ j. HasBlocks j.units file.cursor.unit file.cursor.total file.cursor.bsize)
opened_blocks told t n name file opened usable =
    let unit = has_device (slice_get t.units opened.seat.letter.unit) file.vdev opened.device in
    open_seat told t n opened.seat unit.0 name file.cursor opened.there unit.1 opened.starts usable
