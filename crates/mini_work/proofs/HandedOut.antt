-- A file that is handed out, of the calls that are made.
use Rattle.std.proofs.Common.{◌≡◌, ◌∙◌, ℕ, zero, suc, Bool, true, false, if◌then◌else◌, List, [], ◌∷◌, map, Option, Some, None, slice_get, Result, Ok, Err, IfOk, refl, ap, sym, subst}
use Rattle.std.specs.Prelude.{option_and_then}
use Rattle.std.specs.List.{list_all}
use Rattle.std.specs.Option.{ForSome}
use Rattle.std.proofs.lemmas.Option.{same_Some}
use Rattle.cms_journal.specs.Journal.{HasBlocks, Journal}
use Rattle.cms_journal.specs.Told.{Grown, Told}
use Rattle.cms_journal.specs.declared.event.Attached.{Attached}
use Rattle.cms_names.specs.declared.name.Format.{Format}
use Rattle.cms_names.specs.declared.name.Name.{Name}
use Rattle.cms_model.specs.Changes.{file_named}
use Rattle.cms_model.specs.LawsUpdates.{now}
use Rattle.cms_model.specs.Minidisks.{File, Minidisk}
use Rattle.cms_held.specs.HeldVolumes.{HeldFile}
use Rattle.cms_edf.specs.FilesTold.{info_of}
use Rattle.cms_edf.specs.declared.held.FileInfo.{FileInfo}
use Rattle.cms_disk.specs.Cursors.{HasLeft, Cursor, SameFile}
use Rattle.cms_copyfile.proofs.CopyPasses.{units_grown}
use Rattle.cms_disk.specs.Disks.{Accessed, IsReadable, OpensIn, StartsAt}
use Rattle.cms_disk.proofs.DisksTold.{named_at}
use Rattle.mini_forms.specs.Output.{is_line, written}
use Rattle.mini_forms.specs.declared.form.Form.{Form}
use Rattle.mini_host.specs.Files.{Files}
use Rattle.mini_work.specs.HandedFiles.{Hands, IsInfoOf, PutsFront, PutsOut, PutsPart, Puts, can_show, shown_in, shown_of}
use Rattle.mini_work.specs.HostTold.{SameFiles, things_in}
use Rattle.mini_work.specs.Stands.{Stands}
use Rattle.mini_work.specs.declared.fault.Fault.{Fault}
use Rattle.mini_work.specs.declared.handed_file.Way.{Way}
use Rattle.mini_work.specs.declared.handed_file.Way.TheVariants as ways
use Rattle.mini_work.proofs.Handed.{part_none}

-- ---- the file of a name

-- the file that is told of
pub record FileOf (m : Minidisk) (name : Name) (info : FileInfo) : Type 0 where
  pub file : File
  pub named : file_named name m.files ≡ Some file
  pub format : info.format ≡ file.format

held_there : (hs : List HeldFile) (k : ℕ) (i : FileInfo) → slice_get (map info_of hs) k ≡ Some i → (h : HeldFile) × (slice_get hs k ≡ Some h) × (info_of h ≡ i)
held_there [] zero i e = absurd (cc e)
held_there [] (suc k) i e = absurd (cc e)
held_there (h ∷ hs) zero i e = (h, refl, same_Some (info_of h) i e)
held_there (h ∷ hs) (suc k) i e = held_there hs k i e

pub file_of : (told : Told) (d : Accessed) (m : Minidisk) (name : Name) (info : FileInfo) → IsInfoOf name d.volume info → Stands told d m → FileOf m name info
file_of told d m name info is s =
    let h = held_there d.volume.files is.0 info is.2 in
    let n = named_at (now s.at d.volume.unit) name d m is.0 h.0 s.minidisk.stands is.1 h.1 in
    record { file = n.file; named = n.named; format = sym (ap (λ (i : FileInfo). i.format) h.2) ∙ n.is.format_is }

pub shown_is : (form : Form) (m : Minidisk) (name : Name) (f : File) → file_named name m.files ≡ Some f → shown_in form m name ≡ shown_of form f
unfolding shown_in
shown_is form m name f is = ap (option_and_then (shown_of form)) is

pub shown_none : (form : Form) (m : Minidisk) (name : Name) → file_named name m.files ≡ None → shown_in form m name ≡ None
unfolding shown_in
shown_none form m name is = ap (option_and_then (shown_of form)) is

pub can_so : (form : Form) (f : File) → can_show form f.records ≡ true → shown_of form f ≡ Some (written form f.format f.records)
can_so form f is = ap (λ (b : Bool). if b then Some (written form f.format f.records) else None) is

pub cannot_so : (form : Form) (f : File) → can_show form f.records ≡ false → shown_of form f ≡ None
cannot_so form f is = ap (λ (b : Bool). if b then Some (written form f.format f.records) else None) is

-- ---- it is opened

-- its records are those that are left at first
pub opened_left : (told : Told) (d : Accessed) (m : Minidisk) (name : Name) (f : File) (c : Cursor) (s : Stands told d m) → OpensIn d name c
    → file_named name m.files ≡ Some f → HasLeft (now s.at d.volume.unit) c f.records
opened_left told d m name f c s opens named =
    let o = opens (now s.at d.volume.unit) m s.minidisk.stands in
    let same : o.0 ≡ f = same_Some o.0 f (sym o.1 ∙ named) in
    subst (λ (x : File). HasLeft (now s.at d.volume.unit) c x.records) same o.2

-- ---- what is handed out

pub hands_all : (way : Way) (old new : Told) (h k : Option Files) (text : Option (List ℕ)) (bytes : List ℕ) → text ≡ Some bytes
    → PutsOut way old new h k bytes → Hands way old new h k text (Ok true)
hands_all way old new h k text bytes is puts = subst (λ (x : Option (List ℕ)). Hands way old new h k x (Ok true)) (sym is) puts

pub hands_none : (way : Way) (old new : Told) (h : Option Files) (text : Option (List ℕ)) → text ≡ None → new ≡ old → Hands way old new h h text (Ok false)
hands_none way old new h text is same = subst (λ (x : Option (List ℕ)). Hands way old new h h x (Ok false)) (sym is) (same, refl)

pub front_of : (way : Way) (old new : Told) (text : Option (List ℕ)) (bytes : List ℕ) → text ≡ Some bytes → PutsPart way old new bytes → PutsFront way old new text
front_of way old new text bytes is part = subst (λ (x : Option (List ℕ)). PutsFront way old new x) (sym is) part

-- nothing of it
pub front_none : (way : Way) (old new : Told) (text : Option (List ℕ)) → new ≡ old → PutsFront way old new text
front_none way old new None same = same
front_none way old new (Some bytes) same = subst (λ (t : Told). PutsPart way old t bytes) (sym same) (part_none way old bytes)

-- ---- so it is by the calls

pub puts_failed : {A : Type 0} (way : Way) (old new : Told) (h k : Option Files) (bytes : List ℕ) (r : Result A Fault) (why : Fault) → r ≡ Err why
    → PutsPart way old new bytes → Puts way old new h k bytes r
puts_failed {A} way old new h k bytes r why is part = subst (λ (x : Result A Fault). Puts way old new h k bytes x) (sym is) part

pub hands_failed : (way : Way) (old new : Told) (h k : Option Files) (text : Option (List ℕ)) (r : Result Bool Fault) (why : Fault) → r ≡ Err why
    → PutsFront way old new text → Hands way old new h k text r
hands_failed way old new h k text r why is front = subst (λ (x : Result Bool Fault). Hands way old new h k text x) (sym is) front

-- what handing out the records says, of the file that was opened
abbrev pub PutsEach : {A : Type 0} → Way → Form → Format → Told → Told → Option Files → Option Files → Cursor → Result A Fault → Type 0
PutsEach way form format old new h k c r =
    (j : Journal) (records : List (List ℕ)) → old ≡ Some j → HasLeft (now j c.unit) c records → Puts way old new h k (written form format records) r

pub puts_file : {A : Type 0} (way : Way) (form : Form) (told new : Told) (h k : Option Files) (d : Accessed) (m : Minidisk) (name : Name) (info : FileInfo)
    (f : FileOf m name info) (c : Cursor) (r : Result A Fault) → Stands told d m → OpensIn d name c → c.unit ≡ d.volume.unit
    → PutsEach way form info.format told new h k c r → Puts way told new h k (written form f.file.format f.file.records) r
puts_file way form told new h k d m name info f c r s opens unit puts =
    let has = opened_left told d m name f.file c s opens f.named in
    subst (λ (x : Format). Puts way told new h k (written form x f.file.records) r) f.format
    (puts s.at f.file.records s.told_is (subst (λ (u : ℕ). HasLeft (now s.at u) c f.file.records) (sym unit) has))

-- whether they are lines
pub shows_lines : (told : Told) (d : Accessed) (name : Name) (c : Cursor) (r : Result Bool Fault)
    → IfOk r (λ all. (j : Journal) (records : List (List ℕ)) → told ≡ Some j → HasLeft (now j c.unit) c records → all ≡ list_all is_line records)
    → OpensIn d name c → c.unit ≡ d.volume.unit
    → IfOk r (λ shown. (m : Minidisk) (f : File) → Stands told d m → file_named name m.files ≡ Some f → shown ≡ list_all is_line f.records)
shows_lines told d name c (Ok all) lines opens unit = λ m f s named.
    lines s.at f.records s.told_is (subst (λ (u : ℕ). HasLeft (now s.at u) c f.records) (sym unit) (opened_left told d m name f c s opens named))
shows_lines told d name c (Err why) lines opens unit = tt

-- its blocks may be read
pub opened_blocks : (told : Told) (d : Accessed) (name : Name) (c : Cursor) → StartsAt name d.volume c → ForSome told (λ j. IsReadable j d)
    → ForSome told (λ j. HasBlocks j.units c.unit c.total c.bsize)
opened_blocks told d name c start may = λ j is.
    let f = start.first in
    subst (λ (u : ℕ). HasBlocks j.units u c.total c.bsize) (sym f.unit)
    (subst (λ (n : ℕ). HasBlocks j.units d.volume.unit n c.bsize) (sym f.total)
    (subst (λ (n : ℕ). HasBlocks j.units d.volume.unit d.volume.disk.count n) (sym f.bsize) (may j is)))

-- the host's files stay
pub files_put : (way : Way) (old new : Told) (h k : Option Files) (bytes : List ℕ) → PutsOut way old new h k bytes → SameFiles h k
files_put ways.Output old new h k bytes p = ap things_in p.1
files_put ways.File old new None k bytes p = ap things_in p.1
files_put ways.File old new (Some f) k bytes p = ap things_in p.1

-- units stay attached
pub blocks_grown : (old new : Told) (u count size : ℕ) → Grown old new → ForSome old (λ j. HasBlocks j.units u count size)
    → ForSome new (λ j. HasBlocks j.units u count size)
blocks_grown old new u count size grown has = units_grown old new (λ (us : List Attached). HasBlocks us u count size) grown has

pub blocks_same : (told : Told) (c next : Cursor) → SameFile c next → ForSome told (λ j. HasBlocks j.units c.unit c.total c.bsize)
    → ForSome told (λ j. HasBlocks j.units next.unit next.total next.bsize)
blocks_same told c next same has = λ j is.
    subst (λ (u : ℕ). HasBlocks j.units u next.total next.bsize) (sym same.unit)
    (subst (λ (n : ℕ). HasBlocks j.units c.unit n next.bsize) (sym same.total)
    (subst (λ (n : ℕ). HasBlocks j.units c.unit c.total n) (sym same.bsize) (has j is)))
