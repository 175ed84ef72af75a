-- Files that are opened.
use Rattle.std.proofs.Common.{◌≡◌, ◌<◌, ◌≤◌, ◌∙◌, ℕ, zero, suc, List, [], ◌∷◌, Option, Some, None, Err, length, slice_get, map, refl, sym, ap, subst, arith}
use Rattle.std.specs.Prelude.{IsSome}
use Rattle.std.specs.Option.{option_map}
use Rattle.std.proofs.lemmas.Bool.{false≢true}
use Rattle.std.proofs.lemmas.Option.{same_Some}
use Rattle.cms_names.specs.declared.name.Format.{Format}
use Rattle.cms_names.specs.declared.name.Format.TheVariants.{F}
use Rattle.cms_names.specs.declared.name.Name.{Name}
use Rattle.cms_model.specs.Changes.{file_named}
use Rattle.cms_model.specs.Minidisks.{File, Minidisk, Volume}
use Rattle.cms_model.specs.Acts.{Act, Does}
use Rattle.cms_model.specs.Slots.{Slot, Settled}
use Rattle.cms_model.specs.Steps.{Get, Outcome}
use Rattle.cms_edf.specs.FilesTold.{info_of, infos_in}
use Rattle.cms_edf.specs.declared.held.FileInfo.{FileInfo}
use Rattle.cms_held.specs.HeldVolumes.{HeldFile}
use Rattle.cms_records.specs.Pieces.{RecordState}
use Rattle.cms_disk.specs.Cursors.{IsFirst, IsUnread, Cursor, first_begun}
use Rattle.cms_disk.specs.Disks.{Accessed, FirstIn, OpensIn, StartsAt, place_of}
use Rattle.cms_disk.specs.declared.unit.UnitInfo.{UnitInfo}
use Rattle.cms_search.specs.Calls.{IsUsable, Spot, machine_of}
use Rattle.cms_search.specs.Machine.{Letter, Machine, letter_at}
use Rattle.cms_search.specs.Searches.{item_at}
use Rattle.cms_search.specs.Shows.{Shows}
use Rattle.cms_search.specs.Tables.{AccessTable, Seated}
use Rattle.cms_search.specs.Units.{vdev_of}
use Rattle.cms_search.specs.declared.fault.SearchFault.TheVariants as why
use Rattle.cms_search.specs.declared.search.Found.{Found}
use Rattle.cms_search.specs.declared.state.State.{State}
use Rattle.cms_search.proofs.HandedRecords.{IsOpen, Reads, left_long, open_seat, reads_seat}
use Rattle.cms_search.proofs.LetterDisks.{letter_is}
use Rattle.cms_search.proofs.Released.{letter_told, vdev_is}
use Rattle.cms_files.specs.Files.{file_on}
use Rattle.cms_files.specs.OpenFiles.{HasRecords, IsOpened}
use Rattle.cms_files.specs.Told.{IsFoundAt, info_found}
use Rattle.cms_files.proofs.FoundTold.{info_there, on_disk}
use Rattle.cms_files.specs.declared.open_files.OpenFile.{OpenFile}

-- ---- the disk of a letter

pub seat_with : (x : Option Seated) (d : Accessed) → Some d ≡ option_map (λ (s : Seated). s.disk) x → (s : Seated) × (x ≡ Some s) × (s.disk ≡ d)
seat_with None d e = absurd (cc e)
seat_with (Some s) d e = (s, refl, sym (same_Some d s.disk e))

pub none_with : (x : Option Seated) → None ≡ option_map (λ (s : Seated). s.disk) x → x ≡ None
none_with None e = refl
none_with (Some s) e = absurd (cc e)

-- the machine has the letter
pub letter_shown : (t : AccessTable) (s : Machine) (n : ℕ) (seat : Seated) → Shows t s → item_at t.seats n ≡ Some seat → letter_at s n ≡ Some seat.letter
letter_shown t s n seat shows there = ap (λ (ls : List (Option Letter)). item_at ls n) (sym shows.letters) ∙ letter_is t n seat there

-- ---- no file

pub none_on : (t : AccessTable) (s : Machine) (n : ℕ) (name : Name) → item_at t.seats n ≡ None → Shows t s → file_on s name (letter_at s n) ≡ Err why.NotFound
none_on t s n name none shows =
    let letter : letter_at s n ≡ None =
    ap (λ (ls : List (Option Letter)). item_at ls n) (sym shows.letters) ∙ (letter_told t.seats n ∙ ap (λ (x : Option Seated). option_map (λ (y : Seated). y.letter) x) none) in
    rw letter refl

-- ---- a file

info_at : (hs : List HeldFile) (k : ℕ) (info : FileInfo) (h : HeldFile) → slice_get (map info_of hs) k ≡ Some info → slice_get hs k ≡ Some h → info ≡ info_of h
info_at [] k info h told is = absurd (cc is)
info_at (x ∷ hs) zero info h told is = let e : info_of x ≡ info = same_Some _ _ told in let f : x ≡ h = same_Some x h is in sym e ∙ ap info_of f
info_at (x ∷ hs) (suc k) info h told is = info_at hs k info h told is

-- nothing of it was read, and its records have one length
unread_first : (unit total bsize : ℕ) (blocks : List ℕ) (format : Format) (high count : ℕ) (c : Cursor) → IsFirst unit total bsize blocks format high count c → format ≡ F → IsUnread c
unread_first unit total bsize blocks format high count c first same = record {
  done = first.done;
  all = first.all ∙ sym first.bsize;
  over = first.over;
  begun = first.begun ∙ (ap (λ (f : Format). first_begun f high) same ∙ ap (first_begun F) (sym (ap (λ (b : RecordState). b.longest) first.begun)));
}

-- it was opened where it was found
opened_at : (t : AccessTable) (n : ℕ) (name : Name) (d : Accessed) (place : ℕ) (info : FileInfo) (file : OpenFile)
    → Some d ≡ option_map (λ (x : Seated). x.disk) (item_at t.seats n) → Some place ≡ place_of name d.volume → slice_get (infos_in d.volume) place ≡ Some info
    → OpensIn d name file.cursor → StartsAt name d.volume file.cursor → file.count ≡ info.count → file.format ≡ info.format
    → ((s : Seated) → item_at t.seats n ≡ Some s → option_map (λ (unit : UnitInfo). unit.vdev) (slice_get t.units s.letter.unit) ≡ Some file.vdev) → IsOpened t n name file
opened_at t n name d place info file is at told opens starts count format device =
    let seat = seat_with (item_at t.seats n) d is in
    let same : place ≡ starts.place = same_Some place starts.place (at ∙ starts.place_is) in
    let there : slice_get d.volume.files place ≡ Some starts.file = subst (λ (k : ℕ). slice_get d.volume.files k ≡ Some starts.file) (sym same) starts.file_is in
    let tells = info_at d.volume.files place info starts.file told there in
    record {
      seat = seat.0;
      there = seat.1;
      device = device seat.0 seat.1;
      opens = subst (λ (a : Accessed). OpensIn a name file.cursor) (sym seat.2) opens;
      starts = subst (λ (a : Accessed). StartsAt name a.volume file.cursor) (sym seat.2) starts;
      count = count ∙ (ap (λ (i : FileInfo). i.count) tells ∙ sym starts.first.left);
      unread = λ same. unread_first _ _ _ starts.file.tree.leaves starts.file.entry.format starts.file.length starts.file.entry.count file.cursor starts.first
          (sym (ap (λ (i : FileInfo). i.format) tells) ∙ (sym format ∙ same));
    }

-- a file that was found is one of its disk's
told_within : (hs : List HeldFile) (k : ℕ) → IsSome (slice_get (map info_of hs) k) → k < length hs
told_within [] k some = absurd (false≢true some)
told_within (h ∷ hs) zero some = omega arith
told_within (h ∷ hs) (suc k) some = let less = told_within hs k some in omega (arith, less)

pub found_within : (t : AccessTable) (found : Found) (d : Accessed) → IsSome (info_found t found) → Some d ≡ option_map (λ (x : Seated). x.disk) (item_at t.seats found.letter)
    → found.place < length d.volume.files
found_within t found d some is =
    let seat = seat_with (item_at t.seats found.letter) d is in
    let there = subst (λ (x : Option FileInfo). IsSome x) (info_there t found seat.0 seat.1) some in
    subst (λ (a : Accessed). found.place < length a.volume.files) seat.2 (told_within seat.0.disk.volume.files found.place there)

-- it was opened in the place where the file of a name was found
pub opened_found_at : (t : AccessTable) (found : Found) (name : Name) (d : Accessed) (info : FileInfo) (file : OpenFile) → IsFoundAt t found name → info_found t found ≡ Some info
    → Some d ≡ option_map (λ (x : Seated). x.disk) (item_at t.seats found.letter) → ((n : Name) → place_of n d.volume ≡ Some found.place → OpensIn d n file.cursor)
    → FirstIn d.volume found.place file.cursor → file.count ≡ info.count → file.format ≡ info.format
    → ((s : Seated) → item_at t.seats found.letter ≡ Some s → option_map (λ (unit : UnitInfo). unit.vdev) (slice_get t.units s.letter.unit) ≡ Some file.vdev) → IsOpened t found.letter name file
opened_found_at t found name d info file here told is opens first count format device =
    let same : d ≡ here.seat.disk = same_Some d here.seat.disk (is ∙ ap (λ (x : Option Seated). option_map (λ (s : Seated). s.disk) x) here.there) in
    let place = on_disk t found name d here is in
    let tells : slice_get (infos_in d.volume) found.place ≡ Some info =
    subst (λ (a : Accessed). slice_get (infos_in a.volume) found.place ≡ Some info) (sym same) (sym (info_there t found here.seat here.there) ∙ told) in
    opened_at t found.letter name d found.place info file is (sym place) tells (opens name place)
    (record { place = found.place; place_is = place; file = first.0; file_is = first.1; first = first.2 }) count format device

-- the machine finds it
pub opened_found : (t : AccessTable) (s : Machine) (n : ℕ) (name : Name) (file : OpenFile) → IsOpened t n name file → Shows t s → HasRecords file.count (file_on s name (letter_at s n))
opened_found t s n name file o shows =
    let x = shows.each n o.seat o.there in
    let found = o.opens x.0 x.1 x.3 in
    let letter = letter_shown t s n o.seat shows o.there in
    let slot = x.2 in
    let named = found.1 in
    rw (letter, slot, named) (left_long x.0 file.cursor found.0.records found.2 ∙ sym o.count)

-- ---- its records are read

-- the blocks of its records may be read
pub opened_open : (old : Spot) (n : ℕ) (name : Name) (file : OpenFile) → IsOpened old.state.table n name file → IsUsable old → IsOpen old.world.told file.cursor
opened_open old n name file o usable =
    let unit = unit_with old.state.table.units o.seat.letter.unit file.vdev o.device in
    open_seat old.world.told old.state.table n o.seat unit.0 name file.cursor o.there unit.1 o.starts usable
  where
    unit_with : (units : List UnitInfo) (u vdev : ℕ) → option_map (λ (unit : UnitInfo). unit.vdev) (slice_get units u) ≡ Some vdev → (unit : UnitInfo) × (slice_get units u ≡ Some unit)
    unit_with [] u vdev e = absurd (cc e)
    unit_with (i ∷ units) zero vdev e = (i, refl)
    unit_with (i ∷ units) (suc u) vdev e = unit_with units u vdev e

pub opened_device : (s : State) (units : List Slot) (n : ℕ) (name : Name) (file : OpenFile) (o : IsOpened s.table n name file) → vdev_of (machine_of s units) o.seat.letter.unit ≡ file.vdev
opened_device s units n name file o = vdev_is s units o.seat.letter.unit file.vdev o.device

-- a tree reads so many of its records
pub opened_reads : {R : Type 0} (old : Spot) (n : ℕ) (name : Name) (file : OpenFile) (o : IsOpened old.state.table n name file) (t : List Slot → Act R) (wanted : File → ℕ)
    (then' : List Slot → File → Outcome → Act R) → ((f : File) → wanted f ≤ length f.records)
    → ((units : List Slot) (m : Minidisk) (f : File) → slice_get units o.seat.letter.unit ≡ Some (Settled (Volume m)) → file_named name m.files ≡ Some f → length f.records ≡ file.count
    → t units ≡ Does (Get o.seat.letter.unit f (wanted f)) (then' units f)) → Reads old file.cursor t o.seat.letter.unit wanted then'
opened_reads old n name file o t wanted then' enough tree =
    reads_seat old n o.seat name file.cursor t wanted then' o.there o.opens o.starts.first.unit enough (λ units m f slot named long. tree units m f slot named (long ∙ sym o.count))
