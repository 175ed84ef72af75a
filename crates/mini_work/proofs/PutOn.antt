-- A host file that is put, of the calls that are made.
use Rattle.std.proofs.Common.{◌≡◌, inl, inr, ◌∙◌, ℕ, zero, suc, map, Bool, true, false, List, [], ◌∷◌, Option, Some, None, slice_get, get_or, length, ◌<◌, Result, Ok, Err, IfOk, refl, ap, sym, subst}
use Rattle.std.specs.Prelude.{IfSome, ⊤, option_map}
use Rattle.std.specs.Option.{ForSome}
use Rattle.std.proofs.lemmas.Option.{slice_get-get_or}
use Rattle.cms_journal.specs.Told.{Told}
use Rattle.cms_fields.specs.declared.time.Stamp.{Stamp}
use Rattle.cms_names.specs.declared.name.Name.{Name}
use Rattle.cms_model.specs.Changes.{Change, Put, file_named}
use Rattle.cms_model.specs.LawsUpdates.{now}
use Rattle.cms_model.specs.Minidisks.{File, Minidisk}
use Rattle.cms_model.specs.Records.{length_of}
use Rattle.cms_held.specs.BlockWriters.{CanWrite}
use Rattle.cms_held.specs.FileWriters.{Drafts, HaveShape}
use Rattle.cms_held.specs.declared.shape.DraftShape.{DraftShape}
use Rattle.cms_edf.specs.FileDrafts.{Draft, IsSomeDraft}
use Rattle.cms_edf.specs.FilesTold.{info_of, infos_in}
use Rattle.cms_edf.specs.declared.held.FileInfo.{FileInfo}
use Rattle.cms_edf.proofs.Committed.{can_write}
use Rattle.cms_edf.proofs.Planned.{named_at as named_in}
use Rattle.cms_held.specs.Drafts.{Front}
use Rattle.cms_held.specs.HeldVolumes.{HeldFile}
use Rattle.cms_disk.specs.Changes.{Alters, IsOnSame}
use Rattle.cms_disk.specs.Disks.{Accessed, place_of}
use Rattle.cms_disk.specs.Drafts.{AnswersDraft, BeginsPut, GoesOn, HaveCounts, IsDraftFault, file_with}
use Rattle.cms_disk.specs.declared.fault.DiskFault.{DiskFault}
use Rattle.cms_disk.proofs.DisksTold.{named_at}
use Rattle.cms_disk.proofs.FilePut.{refused_so}
use Rattle.cms_disk.proofs.FilesFound.{none_found}
use Rattle.mini_forms.specs.RecordReads.{records_in}
use Rattle.mini_forms.specs.declared.form.Layout.{Layout}
use Rattle.mini_host.specs.Files.{content_of}
use Rattle.mini_host.specs.declared.content.HostFile.{HostFile}
use Rattle.mini_words.specs.declared.request.Put as words
use Rattle.mini_work.specs.Changes.{IsChange}
use Rattle.mini_work.specs.CommandActs.{Act, Continues, MayChange}
use Rattle.mini_work.specs.Drafts.{Begins, FillsSo, IsShapeOf}
use Rattle.mini_work.specs.Layouts.{size_of}
use Rattle.mini_work.specs.Output.{name_line}
use Rattle.mini_work.specs.Puts.{IsFileFor, IsNoFileFor, IsPut, name_for, number_for}
use Rattle.mini_work.specs.Stands.{Stands}
use Rattle.mini_work.specs.declared.fault.Fault.{Fault}
use Rattle.mini_work.specs.declared.status.Status.{Status}
use Rattle.mini_work.specs.declared.status.Status.TheVariants as status
use Rattle.mini_work.proofs.PartsJoined.{AltersEach, ended_on}
use Rattle.mini_work.proofs.UnitStands.{came_still, cut_change, cut_drafting, stands_same}

-- ---- what is said of a part, said otherwise

pub continues_as : {A : Type 0} (P Q : A → Minidisk → List Act → Minidisk → List Act → Type 0) (old new : Told) (d e : Accessed) (r : Result A Fault)
    → Continues P old d new e r
    → ((x : A) (m : Minidisk) (acts : List Act) (after : Minidisk) (more : List Act) → Stands old d m → P x m acts after more → Q x m acts after more)
    → Continues Q old d new e r
continues_as P Q old new d e (Ok x) p as_q = λ start first m acts came.
    let l = p start first m acts came in
    (l.0, l.1, as_q x m acts l.0 l.1 came.stands l.2, l.3)
continues_as P Q old new d e (Err why) p as_q = p

-- refused for a reason
pub refused_put : (files : List HostFile) (put : words.Put) (stamp : Stamp) (file : List ℕ) (told : Told) (d : Accessed) (r : Result Status Fault)
    → IfOk r (λ s. s ≡ status.Refused) → ((m : Minidisk) → Stands told d m → IsNoFileFor files put file m)
    → Continues (IsPut files put stamp file) told d told d r
refused_put files put stamp file told d (Ok s) is why = λ start first m acts came.
    (m, acts, inl (is, why m came.stands, (refl, refl)), came)
refused_put files put stamp file told d (Err f) is why = ended_on (IsPut files put stamp file) told d f

-- ---- the reasons

told_there : (hs : List HeldFile) (k : ℕ) → slice_get (map info_of hs) k ≡ option_map info_of (slice_get hs k)
told_there [] k = refl
told_there (h ∷ hs) zero = refl
told_there (h ∷ hs) (suc k) = told_there hs k

-- the mode number of the file that is there, or the one that is given
some_number : (given : ℕ) (found : Option File) (f : File) → found ≡ Some f → number_for given found ≡ f.number
some_number given found f is = ap (number_for given) is

pub number_there : (given : ℕ) (told : Told) (d : Accessed) (m : Minidisk) (name : Name) (k : ℕ) (number : ℕ) → place_of name d.volume ≡ Some k
    → Stands told d m → IfSome (slice_get (infos_in d.volume) k) (λ info. number ≡ info.number) → number ≡ number_for given (file_named name m.files)
number_there given told d m name k number place s told_is =
    let h = named_in d.volume.files name k place in
    let n = named_at (now s.at d.volume.unit) name d m k h.file s.minidisk.stands place h.there in
    let info : slice_get (infos_in d.volume) k ≡ Some (info_of h.file) = told_there d.volume.files k ∙ ap (λ (o : Option HeldFile). option_map info_of o) h.there in
    let number_is : number ≡ h.file.entry.number = subst (λ (o : Option FileInfo). IfSome o (λ i. number ≡ i.number)) info told_is in
    number_is ∙ (n.is.number_is ∙ sym (some_number given (file_named name m.files) n.file n.named))

pub number_none : (given : ℕ) (told : Told) (d : Accessed) (m : Minidisk) (name : Name) → place_of name d.volume ≡ None → Stands told d m
    → given ≡ number_for given (file_named name m.files)
number_none given told d m name none s = sym (ap (number_for given) (none_found d name none (now s.at d.volume.unit) m s.minidisk.stands))

-- ---- the draft

-- it begins wherever the minidisk stands, whatever its spare places
pub begins_put : (told : Told) (d e : Accessed) (name : Name) (shape : DraftShape) (stamp : Stamp) (draft : Draft) (records : List (List ℕ))
    → e.volume ≡ d.volume → BeginsPut d e name shape stamp draft → HaveShape shape records → length_of shape.format shape.length records ≡ shape.length
    → Begins told e draft (Put (file_with name shape records)) stamp records
begins_put told d e name shape stamp draft records same begins have long = λ m s.
    let t = stands_same told told e d m s refl (sym same) in
    subst (λ (x : Told). GoesOn x x e m draft (Put (file_with name shape records)) stamp [] records) (sym t.told_is)
    (begins t.at m records t.minidisk t.readable have long)

-- what filling it says
abbrev pub Fills : Told → Told → Accessed → Draft → Draft → Change → Stamp → List (List ℕ) → Result Bool Fault → Type 0
Fills old new d draft draft' change stamp records r =
    (m : Minidisk) → GoesOn old old d m draft change stamp [] records → FillsSo old new d m draft' change stamp records r

-- it was given up
pub fill_cut : {A : Type 0} (P : A → Minidisk → List Act → Minidisk → List Act → Type 0) (old new : Told) (d : Accessed) (draft draft' : Draft)
    (change : Change) (stamp : Stamp) (records : List (List ℕ)) (why f : Fault) → Begins old d draft change stamp records
    → Fills old new d draft draft' change stamp records (Err why) → Continues P old d new d (Err f)
fill_cut P old new d draft draft' change stamp records why f begins fills = λ start first m acts came. (
  acts,
  cut_drafting start first m acts old new d change came (fills m (begins m came.stands)),
)

-- it never lacks a record
pub fill_never : (P : Status → Minidisk → List Act → Minidisk → List Act → Type 0) (old new : Told) (d : Accessed) (draft draft' : Draft)
    (change : Change) (stamp : Stamp) (records : List (List ℕ)) (r : Result Status Fault) → Begins old d draft change stamp records
    → Fills old new d draft draft' change stamp records (Ok false) → Continues P old d new d r
fill_never P old new d draft draft' change stamp records (Ok x) begins fills = λ start first m acts came. absurd (fills m (begins m came.stands))
fill_never P old new d draft draft' change stamp records (Err f) begins fills = λ start first m acts came. absurd (fills m (begins m came.stands))

-- what making it a file says
abbrev pub Commits : Told → Told → Told → Accessed → Accessed → Draft → Result ⊤ DiskFault → Type 0
Commits start mid new d e draft r =
    (m : Minidisk) (change : Change) (stamp : Stamp) (records : List (List ℕ)) → GoesOn start mid d m draft change stamp records []
    → Alters start new d e m change stamp r

pub commits_each : (old mid new : Told) (d e : Accessed) (draft draft' : Draft) (change : Change) (stamp : Stamp) (records : List (List ℕ))
    (r : Result ⊤ DiskFault) → MayChange old d → Begins old d draft change stamp records → Fills old mid d draft draft' change stamp records (Ok true)
    → Commits old mid new d e draft' r → AltersEach old new d e change stamp r
commits_each old mid new d e draft draft' change stamp records r may begins fills commits = λ j m is at looked.
    commits m change stamp records
    (fills m (begins m (record { at = j; told_is = is; minidisk = at; readable = may.0 j is; looked = looked })))

-- a change that was cut off
pub change_cut : {A : Type 0} (P : A → Minidisk → List Act → Minidisk → List Act → Type 0) (old new : Told) (d e : Accessed) (change : Change) (stamp : Stamp)
    (why : DiskFault) (f : Fault) → AltersEach old new d e change stamp (Err why) → IsOnSame d e → Continues P old d new e (Err f)
change_cut P old new d e change stamp why f alters same = λ start first m acts came.
    let t = came.stands in (acts, cut_change start first m acts old new d e change stamp why came same (alters t.at m t.told_is t.minidisk t.looked))

-- a draft that was refused
pub draft_refused : (T : Type 0) (told : Told) (d e : Accessed) (name : Name) (shape : DraftShape) (stamp : Stamp) (records : List (List ℕ)) (why : DiskFault)
    → MayChange told d → HaveCounts shape records → IsDraftFault d name shape why → AnswersDraft {T = T} d name shape (Err why)
    → AltersEach told told d e (Put (file_with name shape records)) stamp (Err why)
draft_refused T told d e name shape stamp records why may counts fault answers = λ j m is at looked.
    refused_so T told d e m name shape records stamp why fault (answers j m records at (may.0 j is) counts)

pub draft_ready : (told : Told) (d : Accessed) (draft : Draft) → IsSomeDraft d.volume draft → MayChange told d → d.writable ≡ true
    → ForSome told (λ j. CanWrite j.units draft.writer.writer)
draft_ready told d draft some may writable = λ j is. can_write j.units d.volume draft some (may.0 j is) (may.1 writable j is)

-- ---- the file that it is

pub file_for : (files : List HostFile) (put : words.Put) (file bytes : List ℕ) (stamp : Stamp) (m : Minidisk) (name : Name) (shape : DraftShape)
    (records : List (List ℕ)) → name_for put.name file ≡ Some name → IsShapeOf put.layout records stamp shape
    → shape.number ≡ number_for put.number (file_named name m.files) → content_of file files ≡ Some bytes → records_in put.layout bytes ≡ Ok records
    → (put.replaces ≡ false → file_named name m.files ≡ None) → IsFileFor files put file stamp m (file_with name shape records)
file_for files put file bytes stamp m name shape records named is number there are over = record {
  name = named;
  number = number;
  format = is.format;
  length = is.long ∙ sym (ap (λ f. length_of f (size_of put.layout) records) is.format);
  stamped = is.stamped;
  bytes = bytes;
  bytes_are = there;
  records = are;
  over = over;
}

-- where it may not take the place of another there is none
pub none_over : (told : Told) (d : Accessed) (m : Minidisk) (name : Name) (replaces : Bool) → (replaces ≡ false → place_of name d.volume ≡ None) → Stands told d m
    → replaces ≡ false → file_named name m.files ≡ None
none_over told d m name replaces none s is = none_found d name (none is) (now s.at d.volume.unit) m s.minidisk.stands

-- so the change is how it is put
pub put_as : (files : List HostFile) (put : words.Put) (stamp : Stamp) (file : List ℕ) (old new : Told) (d e : Accessed) (f : File) (r : Result Status Fault)
    → Continues (IsChange (Put f) stamp put.says (name_line f.name)) old d new e r
    → ((m : Minidisk) → Stands old d m → IsFileFor files put file stamp m f) → Continues (IsPut files put stamp file) old d new e r
put_as files put stamp file old new d e f r p is =
    continues_as (IsChange (Put f) stamp put.says (name_line f.name)) (IsPut files put stamp file) old new d e r p
    (λ s m acts after more stands change. inr (f, is m stands, change))

-- ---- the draft is filled

-- it has all of them
pub fills_all : (start now : Told) (d : Accessed) (m : Minidisk) (draft : Draft) (change : Change) (stamp : Stamp) (records : List (List ℕ))
    (b : Bool) → ((front : Front) (rs : List (List ℕ)) → Drafts draft.writer front rs [] → b ≡ true)
    → GoesOn start now d m draft change stamp records [] → FillsSo start now d m draft change stamp records (Ok b)
fills_all start now d m draft change stamp records true all goes = goes
fills_all start now d m draft change stamp records false all goes = absurd (let e : false ≡ true = all goes.front records goes.drafts in cc e)

-- before the first byte
pub fills_none : (start now : Told) (d : Accessed) (m : Minidisk) (draft draft' : Draft) (change : Change) (stamp : Stamp) (records : List (List ℕ))
    (r : Result Bool Fault) (why : Fault) → r ≡ Err why → GoesOn start now d m draft change stamp [] records
    → FillsSo start now d m draft' change stamp records r
fills_none start now d m draft draft' change stamp records r why is goes =
    subst (λ (x : Result Bool Fault). FillsSo start now d m draft' change stamp records x) (sym is) (record { stands = goes.stands; aside = goes.aside; few = goes.few })

-- ---- a disk with other spare places

pub same_spare : (d e : Accessed) → e ≡ record d { spare = e.spare } → IsOnSame d e
same_spare d e kept = record {
  vdev = ap (λ (a : Accessed). a.vdev) kept;
  writable = ap (λ (a : Accessed). a.writable) kept;
  unit = ap (λ (a : Accessed). a.volume.unit) kept;
  disk = ap (λ (a : Accessed). a.volume.disk) kept;
}

pub volume_spare : (d e : Accessed) → e ≡ record d { spare = e.spare } → e.volume ≡ d.volume
volume_spare d e kept = ap (λ (a : Accessed). a.volume) kept

-- it goes on from the one as from the other
pub continues_from : {A : Type 0} (P : A → Minidisk → List Act → Minidisk → List Act → Type 0) (old new : Told) (d e f : Accessed) (r : Result A Fault)
    → e.volume ≡ d.volume → Continues P old e new f r → Continues P old d new f r
continues_from P old new d e f (Ok x) same p = λ start first m acts came.
    p start first m acts (came_still start first m acts old old d e came refl same)
continues_from P old new d e f (Err why) same p = λ start first m acts came.
    p start first m acts (came_still start first m acts old old d e came refl same)

-- ---- in an answer that is known

pub known : {A : Type 0} (P : A → Minidisk → List Act → Minidisk → List Act → Type 0) (old new : Told) (d e : Accessed) (q r : Result A Fault) → r ≡ q
    → Continues P old d new e q → Continues P old d new e r
known {A} P old new d e q r is p = subst (λ (x : Result A Fault). Continues P old d new e x) (sym is) p

-- ---- the words one after another

pub word_at : (words : List (List ℕ)) (k : ℕ) (item text : List ℕ) → k < length words → item ≡ get_or words k item → text ≡ item
    → slice_get words k ≡ Some text
word_at words k item text low is same =
    slice_get-get_or words k item low ∙ ap (λ (x : List ℕ). Some x) (sym is ∙ sym same)
