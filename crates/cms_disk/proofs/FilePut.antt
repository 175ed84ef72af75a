-- What putting a file comes to.
use Rattle.std.proofs.Common.{◌≡◌, inl, inr, ℕ, ◌+◌, ◌*◌, ◌≤◌, List, [], ◌∷◌, length, None, Option, Some, Result, Ok, Err, refl, sym, ◌∙◌, ap, subst, arith, length-append, mul_comm}
use Rattle.std.specs.Prelude.{All, OnOk, slice_set, unwrap_or, ⊤}
use Rattle.std.proofs.lemmas.List.Elements.{All-head, All-tail}
use Rattle.cms_names.specs.declared.name.Format.{Format}
use Rattle.cms_names.specs.declared.name.Format.TheVariants.{F, V}
use Rattle.cms_journal.specs.Told.{Grown, Told}
use Rattle.cms_names.specs.declared.name.Name.{Name}
use Rattle.cms_fields.specs.declared.label.Label.{Label}
use Rattle.cms_fields.specs.declared.time.Stamp.{Stamp}
use Rattle.cms_model.specs.Minidisks.{File, Minidisk, Volume}
use Rattle.cms_model.specs.Records.{Fits, IsValid, StandsFor, length_of, stored, with_length}
use Rattle.cms_model.proofs.Records.{length-with_length, length_stored_fixed}
use Rattle.cms_held.specs.Kept.{IsSized}
use Rattle.cms_edf.specs.FileDrafts.{Draft, IsDraftFor, LeadsToFile, file_for, list_with, tree_of}
use Rattle.cms_edf.specs.Growths.{IsMoreFor}
use Rattle.cms_edf.proofs.DraftPut.{more_edit, more_edit_is, more_is_some, new_edit_is, new_is_some}
use Rattle.cms_model.specs.Changes.{Add, Answer, Change, Changed, Full, Limited, Put, answer_of, changed}
use Rattle.cms_model.specs.declared.file.FileData.{FileData}
use Rattle.cms_model.specs.Beats.{written_count}
use Rattle.cms_model.specs.Slots.{Settled, named, set_of}
use Rattle.cms_model.specs.Steps.{EitherFault, MayPut, OldFault, after_put, most_put, put_stamp, put_syncs}
use Rattle.cms_model.proofs.Aside.{of_disk}
use Rattle.cms_held.specs.HeldVolumes.{HeldFile, HeldTree, HeldVolume}
use Rattle.cms_held.specs.Renewals.{Edit, renewed}
use Rattle.cms_held.proofs.Fronts.{if_err}
use Rattle.cms_world.specs.Seen.{Seen}
use Rattle.cms_held.specs.FileWriters.{FileWriter, HaveShape, IsFresh, start_in}
use Rattle.cms_held.specs.declared.shape.DraftShape.{DraftShape}
use Rattle.cms_disk.specs.CrashStates.{CoversOn}
use Rattle.cms_disk.specs.Changes.{Alters, Changes, ChangesDisk, HasState, IsWholeAt, IsDevices, IsPutIn, Kept}
use Rattle.cms_disk.specs.Disks.{Accessed, place_of}
use Rattle.cms_disk.specs.Drafts.{AreLast, HaveCounts, IsAnsweredBy, IsDraftFault, IsGivenUp, IsPutFault, file_with, shape_of}
use Rattle.cms_disk.specs.declared.fault.DiskFault.{DiskFault}
use Rattle.cms_disk.specs.declared.fault.DiskFault.TheVariants as failed
use Rattle.cms_disk.proofs.Beside.{stamped_any}
use Rattle.cms_disk.proofs.DisksTold.{minidisk_same}
use Rattle.cms_disk.proofs.RecordsPut.{changes_then}

-- ---- a draft that was refused

pub refused_so : (T : Type 0) (told : Told) (d e : Accessed) (m : Minidisk) (name : Name) (shape : DraftShape) (records : List (List ℕ)) (stamp : Stamp) (why : DiskFault)
    → IsDraftFault d name shape why
    → IsAnsweredBy {T = T} (answer_of m (Put (file_with name shape records))) (changed m (Put (file_with name shape records))) (Err why)
    → Alters told told d e m (Put (file_with name shape records)) stamp (Err why)
refused_so T told d e m name shape records stamp failed.ReadOnly fault answer = (refl, fault)
refused_so T told d e m name shape records stamp (failed.Limit k) fault answer = (refl, answer)
refused_so T told d e m name shape records stamp (failed.Full needs free) fault answer = (refl, answer)
refused_so T told d e m name shape records stamp failed.Memory fault answer = refl
refused_so T told d e m name shape records stamp failed.NotFound fault answer = absurd fault
refused_so T told d e m name shape records stamp failed.Exists fault answer = absurd fault
refused_so T told d e m name shape records stamp failed.Device fault answer = absurd fault
refused_so T told d e m name shape records stamp failed.InDoubt fault answer = absurd fault
refused_so T told d e m name shape records stamp failed.Altered fault answer = absurd fault

-- ---- a draft that was given up

pub given_up : (start new : Told) (d e : Accessed) (m : Minidisk) (change : Change) (stamp : Stamp) (after : Minidisk) → IsGivenUp start new d m change → answer_of m change ≡ Changed after
    → ((answer : Answer) → put_syncs change answer OldFault ≡ 0) → MayPut change (Changed after) OldFault → e.volume ≡ d.volume → Kept start new e m change stamp
given_up start new d e m change stamp after g answer none may same =
    let a = g.aside in
    let s = g.stands in
    record {
      after = after;
      answer = answer;
      later = s.at;
      told = s.told_is;
      minidisk = minidisk_same s.at d e m same s.minidisk;
      changes = subst (λ (v : HeldVolume). Changes start new v.disk v.unit m change stamp OldFault) (sym same) (record {
        events = a.events;
        told = a.told;
        of_unit = a.of_unit;
        fits = record {
          disk = of_disk d.volume.unit a.events a.of_unit;
          synced = a.unsynced ∙ sym (none (answer_of m change));
          stamped = stamped_any d.volume.unit (put_stamp change stamp) a.events a.aside;
          few = subst (λ (x : Answer). written_count a.events ≤ most_put m change x) (sym answer) (let few = g.few in omega (arith, few));
          outcome = subst (λ (x : Answer). MayPut change x OldFault) (sym answer) may;
        };
        covers = subst (λ (x : Answer). CoversOn d.volume.disk start a.events d.volume.unit (Volume m ∷ []) (set_of (unwrap_or (after_put m x OldFault) (Settled (Volume m))))) (sym answer) a.covers;
      });
    }

-- the change makes no sync then
pub file_none : (f : File) (answer : Answer) → put_syncs (Put f) answer OldFault ≡ 0
file_none f (Limited k) = refl
file_none f (Full need free) = refl
file_none f (Changed after) = refl

pub added_none : (name : Name) (more : List (List ℕ)) (added : Stamp) (answer : Answer) → put_syncs (Add name more added) answer OldFault ≡ 0
added_none name more added (Limited k) = refl
added_none name more added (Full need free) = refl
added_none name more added (Changed after) = refl

-- ---- it is the same disk but for its spare places

pub alters_same : (old new : Told) (d d' e : Accessed) (m : Minidisk) (change : Change) (stamp : Stamp) (r : Result ⊤ DiskFault) → d'.volume ≡ d.volume → d'.writable ≡ d.writable
    → Alters old new d' e m change stamp r → Alters old new d e m change stamp r
alters_same old new d d' e m change stamp (Ok x) volume writable a = a
alters_same old new d d' e m change stamp (Err failed.NotFound) volume writable a = a
alters_same old new d d' e m change stamp (Err failed.Exists) volume writable a = a
alters_same old new d d' e m change stamp (Err failed.ReadOnly) volume writable a = (a.0, sym writable ∙ a.1)
alters_same old new d d' e m change stamp (Err failed.Device) volume writable a = a
alters_same old new d d' e m change stamp (Err failed.InDoubt) volume writable a = record {
  after = a.after;
  answer = a.answer;
  side = a.side;
  left = subst (λ (v : HeldVolume). HasState new v.disk v.unit (named (Volume m) (Volume a.after) a.side)) volume a.left;
  whole = subst (λ (v : HeldVolume). IsWholeAt new v.disk v.unit) volume a.whole;
  changes = subst (λ (v : HeldVolume). Changes old new v.disk v.unit m change stamp (EitherFault a.side)) volume a.changes;
}
alters_same old new d d' e m change stamp (Err failed.Altered) volume writable a = a
alters_same old new d d' e m change stamp (Err (failed.Limit k)) volume writable a = a
alters_same old new d d' e m change stamp (Err (failed.Full needs free)) volume writable a = a
alters_same old new d d' e m change stamp (Err failed.Memory) volume writable a = a

-- ---- the records of a file have its shape

pub has_shape : (f : FileData) (records : List (List ℕ)) → StandsFor f records → HaveShape (shape_of f) records
has_shape f records s = record { count = sym s.count_is; bytes = ap length (sym s.bytes_are); each = s.each }

pub has_counts : (f : FileData) (records : List (List ℕ)) → StandsFor f records → HaveCounts (shape_of f) records
has_counts f records s = record { count = sym s.count_is; bytes = ap length (sym s.bytes_are) }

-- each record at V takes three bytes at least
var_long : (size : ℕ) (rs : List (List ℕ)) → All (Fits V size) rs → 3 * length rs ≤ length (stored V rs)
var_long size [] each = omega arith
var_long size (r ∷ rs) each =
    let here = (All-head (Fits V size) r rs each).0 in
    let rest = var_long size rs (All-tail (Fits V size) r rs each) in
    let long = length-append (with_length r) (stored V rs) in
    let one : length (with_length r) ≡ 2 + length r = length-with_length r in
    omega (arith, here, rest, long, one)

pub sized_at : (format : Format) (size count bytes : ℕ) (rs : List (List ℕ)) → All (Fits format size) rs → count ≡ length rs → bytes ≡ length (stored format rs) → IsSized format size count bytes
sized_at F size count bytes rs each count_is bytes_is =
    bytes_is ∙ (length_stored_fixed size rs each ∙ (ap (λ (n : ℕ). n * size) (sym count_is) ∙ mul_comm count size))
sized_at V size count bytes rs each count_is bytes_is = let low = var_long size rs each in omega (arith, low, count_is, bytes_is)

pub sized_so : (f : FileData) (records : List (List ℕ)) → StandsFor f records → IsSized f.format f.length f.count (length f.bytes)
sized_so f records s = sized_at f.format f.length f.count (length f.bytes) records s.each s.count_is (ap length s.bytes_are)

-- ---- the start

-- its records are all that the draft has
pub are_last : (f : FileData) (valid : IsValid f) (unit bsize : ℕ) (shape : DraftShape) (tree : HeldTree) (d : FileWriter) → shape ≡ shape_of f → IsFresh unit bsize shape tree d → AreLast d f
are_last f valid unit bsize shape tree d is fresh =
    let s = valid.stands in
    let same : d.shape ≡ shape_of f = fresh.shape_is ∙ is in
    let format : d.shape.format ≡ f.format = ap (λ (x : DraftShape). x.format) same in
    let count : d.shape.count ≡ f.count = ap (λ (x : DraftShape). x.count) same in
    let put = fresh.put in
    let came_none = fresh.came_is in
    let drafts = fresh.drafts valid.records (subst (λ (x : DraftShape). HaveShape x valid.records) (sym is) (has_shape f valid.records s)) in
    let size : length (stored d.shape.format valid.records) ≡ d.writer.size = drafts.streams.size in
    let bytes : length f.bytes ≡ d.writer.size = ap length s.bytes_are ∙ (ap (λ (k : Format). length (stored k valid.records)) (sym format) ∙ size) in
    record {
      format = sym format;
      fixed = λ at. ap (λ (x : DraftShape). x.length) (sym same);
      count = omega (arith, put, count);
      bytes = omega (arith, came_none, bytes);
    }

-- the longest of them has its length
pub long_so : (f : FileData) (shape : DraftShape) (records : List (List ℕ)) → shape ≡ shape_of f → StandsFor f records → length_of shape.format shape.length records ≡ shape.length
long_so f shape records is s = subst (λ (x : DraftShape). length_of x.format x.length records ≡ x.length) (sym is) (sym s.length_is)

-- ---- the faults

pub device_is_fault : (d : Accessed) (name : Name) (shape : DraftShape) (e : DiskFault) → IsDevices e → IsPutFault d name shape e
device_is_fault d name shape e (inl is) = subst (IsPutFault d name shape) (sym is) tt
device_is_fault d name shape e (inr is) = subst (IsPutFault d name shape) (sym is) tt

pub draft_is_fault : (d : Accessed) (name : Name) (shape : DraftShape) (e : DiskFault) → IsDraftFault d name shape e → IsPutFault d name shape e
draft_is_fault d name shape failed.Device is = tt
draft_is_fault d name shape failed.InDoubt is = tt
draft_is_fault d name shape e is = is

pub not_read_only : (e : DiskFault) → IsDevices e → e ≡ failed.ReadOnly → ⊥
not_read_only e (inl is) same = clash (sym is ∙ same)
  where
    clash : failed.Device ≡ failed.ReadOnly → ⊥
    clash at = cc
not_read_only e (inr is) same = clash (sym is ∙ same)
  where
    clash : failed.InDoubt ≡ failed.ReadOnly → ⊥
    clash at = cc

-- ---- a changed minidisk, behind a call that changed units, where it has other spare places

pub changed_behind : (a b c : Seen) (d e f : Accessed) (r : Result ⊤ DiskFault) → Grown a.told b.told → a.faults ≤ b.faults → b.edges ≡ a.edges
    → e ≡ record d { spare = e.spare } → ChangesDisk b c e f r → ChangesDisk a c d f r
changed_behind a b c d e f r grown faults edges kept two =
    let s = two.same in
    record {
      units = changes_then a b c IsDevices r grown faults edges two.units;
      same = record {
        vdev = s.vdev ∙ ap (λ (x : Accessed). x.vdev) kept;
        writable = s.writable ∙ ap (λ (x : Accessed). x.writable) kept;
        unit = s.unit ∙ ap (λ (x : Accessed). x.volume.unit) kept;
        disk = s.disk ∙ ap (λ (x : Accessed). x.volume.disk) kept;
      };
      kept = if_err r (λ (why : DiskFault). (why ≡ failed.InDoubt → ⊥) → f ≡ record e { spare = f.spare }) (λ (why : DiskFault). (why ≡ failed.InDoubt → ⊥) → f ≡ record d { spare = f.spare })
          (λ why same sure. same sure ∙ ap (λ (x : Accessed). record x { spare = f.spare }) kept) two.kept;
    }

-- ---- what is held then

pub on_ok : {T E P Q : Type 0} (r : Result T E) → (P → Q) → OnOk r P → OnOk r Q
on_ok (Ok x) f p = f p
on_ok (Err e) f p = tt

-- a file that was put
pub put_in : (v w : HeldVolume) (name : Name) (shape : DraftShape) (stamp : Stamp) (draft : Draft) → IsDraftFor v name shape stamp draft → LeadsToFile v draft w → IsPutIn v name shape w
put_in v w name shape stamp draft p leads =
    let start = start_in draft.writer in
    let at = p.file start in
    let is : w ≡ renewed v at.edit draft.systems =
    leads (new_is_some v name shape stamp draft p) ∙ ap (λ (e : Edit). renewed v e draft.systems) (new_edit_is v name shape stamp draft p start) in
    let label = at.ready.planned.label in
    record {
      tree = tree_of draft;
      start = start;
      files = ap (λ (x : HeldVolume). x.files) is ∙ at.files_are;
      same = record {
        volid_is = ap (λ (x : HeldVolume). x.label.volid) is ∙ ap (λ (l : Label). l.volid) label;
        blocks = ap (λ (x : HeldVolume). x.label.blocks) is ∙ ap (λ (l : Label). l.blocks) label;
        lost = ap (λ (x : HeldVolume). x.lost) is;
      };
    }

-- and one to which records were added
pub more_in : (v w : HeldVolume) (name : Name) (f : HeldFile) (shape : DraftShape) (stamp : Stamp) (draft : Draft) → IsMoreFor v name f shape stamp draft → LeadsToFile v draft w
    → IsPutIn v name shape w
more_in v w name f shape stamp draft p leads =
    let start = start_in draft.writer in
    let at = p.file start in
    let g = file_for v.disk.bsize name shape (tree_of draft) start in
    let is : w ≡ renewed v (more_edit v name f shape stamp draft p start) draft.systems =
    leads (more_is_some v name f shape stamp draft p) ∙ ap (λ (e : Edit). renewed v e draft.systems) (more_edit_is v name f shape stamp draft p start) in
    let label = at.ready.planned.label in
    let placed : slice_set v.files at.place g ≡ list_with v.files (place_of name v) g = ap (λ (o : Option ℕ). list_with v.files o g) (sym at.there) in
    record {
      tree = tree_of draft;
      start = start;
      files = ap (λ (x : HeldVolume). x.files) is ∙ placed;
      same = record {
        volid_is = ap (λ (x : HeldVolume). x.label.volid) is ∙ ap (λ (l : Label). l.volid) label;
        blocks = ap (λ (x : HeldVolume). x.label.blocks) is ∙ ap (λ (l : Label). l.blocks) label;
        lost = ap (λ (x : HeldVolume). x.lost) is;
      };
    }

-- ---- a limit is passed, or none is

pub not_both : {o : Option ℕ} (which : ℕ) → o ≡ Some which → o ≡ None → ⊥
not_both which some none = clash (sym some ∙ none)
  where
    clash : ◌≡◌ {A = Option ℕ} (Some which) None → ⊥
    clash at = cc

-- a draft that was made wasn't refused
pub not_made : {T : Type 0} (x : T) (e : DiskFault) → ◌≡◌ {A = Result T DiskFault} (Ok x) (Err e) → ⊥
not_made x e at = cc
