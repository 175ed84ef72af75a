-- The records of a file are put into a draft, one after another.
use Rattle.std.proofs.Common.{◌≡◌, ℕ, ◌+◌, ◌≤◌, List, [], ◌∷◌, ◌++◌, length, refl, sym, ◌∙◌, ap, subst, arith, append-nil, length-append}
use Rattle.std.specs.Prelude.{All, IfErr, Result, Ok, Err}
use Rattle.std.proofs.lemmas.List.{append_assoc}
use Rattle.std.proofs.lemmas.List.Elements.{All-head, All-tail}
use Rattle.cms_journal.specs.Causes.{Rose}
use Rattle.cms_journal.specs.Journal.{Journal}
use Rattle.cms_journal.specs.Told.{Told, Grown}
use Rattle.cms_journal.proofs.Pieces.{grown_then}
use Rattle.cms_world.specs.Seen.{Seen, ChangesUnits}
use Rattle.cms_names.specs.declared.name.Name.{Name}
use Rattle.cms_names.specs.declared.name.Format.{Format}
use Rattle.cms_names.specs.declared.name.Format.TheVariants.{F, V}
use Rattle.cms_fields.specs.declared.entry.Entry.{Entry}
use Rattle.cms_fields.specs.declared.time.Stamp.{Stamp}
use Rattle.cms_model.specs.Changes.{Add, Century, Change, Drop, Put, Relabel, Rename}
use Rattle.cms_model.specs.Minidisks.{Minidisk}
use Rattle.cms_model.specs.Records.{Fits, StandsFor, stored}
use Rattle.cms_model.specs.declared.file.FileData.{FileData}
use Rattle.cms_model.proofs.Records.{stored_append}
use Rattle.cms_held.specs.Drafts.{Front}
use Rattle.cms_held.specs.HeldVolumes.{HeldFile, HeldTree, HeldVolume}
use Rattle.cms_held.specs.Systems.{Systems}
use Rattle.cms_held.specs.BlockWriters.{IsSame, came}
use Rattle.cms_held.specs.declared.shape.DraftShape.{DraftShape}
use Rattle.cms_edf.specs.FileDrafts.{Draft, IsDraftFor, IsSomeDraft, tree_of}
use Rattle.cms_edf.specs.Growths.{IsFrontOf, IsMoreFor}
use Rattle.cms_edf.proofs.DraftPut.{more_is_some, more_still, new_is_some, new_still, planned_still}
use Rattle.cms_disk.specs.Disks.{Accessed}
use Rattle.cms_disk.specs.Drafts.{AreLast, GoesOn, HasMore, IsFor, IsFull, IsSameDraft}

-- ---- it stays the draft of its file

-- with the entry and what is written then of the one before
carried : (P : Draft → Type 0) (d e : Draft) → IsSameDraft d e → P (record { entry = d.entry; writer = e.writer; systems = d.systems }) → P e
carried P d e same is =
    subst (λ (s : Systems). P (record { entry = e.entry; writer = e.writer; systems = s })) (sym same.systems)
    (subst (λ (n : Entry). P (record { entry = n; writer = e.writer; systems = d.systems })) (sym same.entry) is)

pub same_draft : (v : HeldVolume) (name : Name) (shape : DraftShape) (stamp : Stamp) (d e : Draft) → IsSameDraft d e → IsDraftFor v name shape stamp d → IsDraftFor v name shape stamp e
same_draft v name shape stamp d e same is = carried (IsDraftFor v name shape stamp) d e same (new_still v name shape stamp d e.writer same.writer same.shape is)

pub same_more : (v : HeldVolume) (name : Name) (f : HeldFile) (shape : DraftShape) (stamp : Stamp) (d e : Draft) → IsSameDraft d e → IsMoreFor v name f shape stamp d
    → IsMoreFor v name f shape stamp e
same_more v name f shape stamp d e same is = carried (IsMoreFor v name f shape stamp) d e same (more_still v name f shape stamp d e.writer same.writer same.shape is)

pub same_some : (v : HeldVolume) (d e : Draft) → IsSameDraft d e → IsSomeDraft v d → IsSomeDraft v e
same_some v d e same some = carried (IsSomeDraft v) d e same (planned_still v d e.writer same.writer same.shape some)

-- one that is for a change is planned
pub some_for : (j : Journal) (d : Accessed) (draft : Draft) (change : Change) (stamp : Stamp) (front : Front) (records : List (List ℕ)) → IsFor j d draft change stamp front records
    → IsSomeDraft d.volume draft
some_for j d draft (Put new) stamp front records is = new_is_some d.volume new.name is.shape stamp draft is.planned
some_for j d draft (Add name more added) stamp front records is = more_is_some d.volume name is.1.file is.1.shape stamp draft is.1.planned
some_for j d draft (Drop name) stamp front records is = absurd is
some_for j d draft (Rename from to number) stamp front records is = absurd is
some_for j d draft (Relabel volid) stamp front records is = absurd is
some_for j d draft (Century pivot) stamp front records is = absurd is

-- it is so still, where what comes in front is still what the unit has
pub for_still : (j k : Journal) (d : Accessed) (draft draft' : Draft) (change : Change) (stamp : Stamp) (front : Front) (records : List (List ℕ)) → IsSameDraft draft draft'
    → ((name : Name) (f : HeldFile) (shape : DraftShape) → IsMoreFor d.volume name f shape stamp draft → IsFrontOf j d.volume f (tree_of draft) front → IsFrontOf k d.volume f (tree_of draft) front)
    → IsFor j d draft change stamp front records → IsFor k d draft' change stamp front records
for_still j k d draft draft' (Put new) stamp front records same stays is = record {
  shape = is.shape;
  planned = same_draft d.volume new.name is.shape stamp draft draft' same is.planned;
  new_is = is.new_is;
  nothing = is.nothing;
  long = is.long;
}
for_still j k d draft draft' (Add name more added) stamp front records same stays is = (
  is.0,
  record {
    file = is.1.file;
    shape = is.1.shape;
    planned = same_more d.volume name is.1.file is.1.shape stamp draft draft' same is.1.planned;
    added_is = is.1.added_is;
    front_is = subst (λ (t : HeldTree). IsFrontOf k d.volume is.1.file t front) (sym same.writer.tree)
        (stays name is.1.file is.1.shape is.1.planned is.1.front_is);
    long = is.1.long;
  },
)
for_still j k d draft draft' (Drop name) stamp front records same stays is = absurd is
for_still j k d draft draft' (Rename from to number) stamp front records same stays is = absurd is
for_still j k d draft draft' (Relabel volid) stamp front records same stays is = absurd is
for_still j k d draft draft' (Century pivot) stamp front records same stays is = absurd is

-- where a record was put
pub same_of : (d e : Draft) → e ≡ record d { writer = record d.writer { put = d.writer.put + 1; writer = e.writer.writer } } → IsSame d.writer.writer e.writer.writer → IsSameDraft d e
same_of d e is same = record { entry = ap (λ (x : Draft). x.entry) is; systems = ap (λ (x : Draft). x.systems) is; shape = ap (λ (x : Draft). x.writer.shape) is; writer = same }

pub same_none : (d : Draft) → IsSameDraft d d
same_none d = record { entry = refl; systems = refl; shape = refl; writer = record { unit = refl; bsize = refl; psize = refl; tree = refl; size = refl; kept = refl } }

pub same_then : (a b c : Draft) → IsSameDraft a b → IsSameDraft b c → IsSameDraft a c
same_then a b c one two =
    let v = one.writer in
    let w = two.writer in
    record {
      entry = two.entry ∙ one.entry;
      systems = two.systems ∙ one.systems;
      shape = two.shape ∙ one.shape;
      writer = record { unit = w.unit ∙ v.unit; bsize = w.bsize ∙ v.bsize; psize = w.psize ∙ v.psize; tree = w.tree ∙ v.tree; size = w.size ∙ v.size; kept = w.kept ∙ v.kept };
    }

-- ---- one after another

-- the first of these records were put, and the others are to come, with which the draft is full
pub record PutTo (start now : Told) (first d : Draft) (all left : List (List ℕ)) : Type 0 where
  pub gone : List (List ℕ)
  pub all_are : gone ++ left ≡ all
  pub count : d.writer.put + length left ≡ d.writer.shape.count
  pub bytes : came d.writer.writer + length (stored d.writer.shape.format left) ≡ d.writer.writer.size
  pub each : All (Fits d.writer.shape.format d.writer.shape.length) left
  pub same : IsSameDraft first d
  pub goes : (begin : Told) (a : Accessed) (m : Minidisk) (change : Change) (stamp : Stamp) (done : List (List ℕ)) → GoesOn begin start a m first change stamp done (gone ++ left)
      → GoesOn begin now a m d change stamp (done ++ gone) left

fits_as : (format : Format) (size size' : ℕ) (rs : List (List ℕ)) → (format ≡ F → size ≡ size') → All (Fits format size) rs → All (Fits format size') rs
fits_as F size size' rs same each = subst (λ (n : ℕ). All (Fits F n) rs) (same refl) each
fits_as V size size' rs same each = each

pub put_first : (told : Told) (d : Draft) (f : FileData) (left records : List (List ℕ)) → StandsFor f records → left ≡ records → AreLast d.writer f → PutTo told told d d left left
put_first told d f left records stands is last =
    let format = last.format in
    let count = last.count in
    let same = stands.count_is in
    let long = ap length is in
    record {
      gone = [];
      all_are = refl;
      count = omega (arith, count, same, long);
      bytes = ap (λ (n : ℕ). came d.writer.writer + n) (ap length (ap (stored d.writer.shape.format) is ∙ (ap (λ (k : Format). stored k records) (sym format) ∙ sym stands.bytes_are))) ∙ last.bytes;
      each = subst (All (Fits d.writer.shape.format d.writer.shape.length)) (sym is)
          (fits_as d.writer.shape.format f.length d.writer.shape.length records last.fixed (subst (λ (k : Format). All (Fits k f.length) records) format stands.each));
      same = same_none d;
      goes = λ begin a m change stamp done g. subst (λ (l : List (List ℕ)). GoesOn begin told a m d change stamp l left) (sym (append-nil done)) g;
    }

stored_first : (format : Format) (text : List ℕ) (more : List (List ℕ)) → length (stored format (text ∷ more)) ≡ length (stored format (text ∷ [])) + length (stored format more)
stored_first format text more = ap length (stored_append format (text ∷ []) more) ∙ length-append (stored format (text ∷ [])) (stored format more)

-- what the next one needs
pub record NextFits (d : Draft) (text : List ℕ) : Type 0 where
  pub fewer : d.writer.put + 1 ≤ d.writer.shape.count
  pub fits : Fits d.writer.shape.format d.writer.shape.length text
  pub room : came d.writer.writer + length (stored d.writer.shape.format (text ∷ [])) ≤ d.writer.writer.size

pub next_fits : (start now : Told) (first d : Draft) (all more : List (List ℕ)) (text : List ℕ) → PutTo start now first d all (text ∷ more) → NextFits d text
next_fits start now first d all more text to =
    let count = to.count in
    let bytes = to.bytes in
    let long = stored_first d.writer.shape.format text more in
    record { fewer = omega (arith, count); fits = All-head (Fits d.writer.shape.format d.writer.shape.length) text more to.each; room = omega (arith, bytes, long) }

pub put_next : (start old new : Told) (first d e : Draft) (all more : List (List ℕ)) (text : List ℕ) → PutTo start old first d all (text ∷ more) → HasMore d.writer e.writer text → IsSameDraft d e
    → ((begin : Told) (a : Accessed) (m : Minidisk) (change : Change) (stamp : Stamp) (done : List (List ℕ)) → GoesOn begin old a m d change stamp done (text ∷ more) → GoesOn begin new a m e change stamp (done ++ text ∷ []) more)
    → PutTo start new first e all more
put_next start old new first d e all more text to has same puts =
    let count = to.count in
    let bytes = to.bytes in
    let one = has.records in
    let size = has.bytes in
    let shape = same.shape in
    let format : e.writer.shape.format ≡ d.writer.shape.format = ap (λ (s : DraftShape). s.format) shape in
    let high : e.writer.shape.count ≡ d.writer.shape.count = ap (λ (s : DraftShape). s.count) shape in
    let room : e.writer.writer.size ≡ d.writer.writer.size = same.writer.size in
    let long = stored_first d.writer.shape.format text more in
    let rest : length (stored e.writer.shape.format more) ≡ length (stored d.writer.shape.format more) = ap (λ (k : Format). length (stored k more)) format in
    record {
      gone = to.gone ++ text ∷ [];
      all_are = append_assoc to.gone (text ∷ []) more ∙ to.all_are;
      count = omega (arith, count, one, high);
      bytes = omega (arith, bytes, size, long, rest, room);
      each = subst (λ (s : DraftShape). All (Fits s.format s.length) more) (sym shape) (All-tail (Fits d.writer.shape.format d.writer.shape.length) text more to.each);
      same = same_then first d e to.same same;
      goes = λ begin a m change stamp done g.
          subst (λ (l : List (List ℕ)). GoesOn begin new a m e change stamp l more) (append_assoc done to.gone (text ∷ []))
          (puts begin a m change stamp (done ++ to.gone)
          (to.goes begin a m change stamp done (subst (λ (l : List (List ℕ)). GoesOn begin start a m first change stamp done l) (append_assoc to.gone (text ∷ []) more) g)));
    }

pub stored_none : (format : Format) → length (stored format []) ≡ 0
stored_none F = refl
stored_none V = refl

pub put_last : (start now : Told) (first d : Draft) (all : List (List ℕ)) → PutTo start now first d all [] → IsFull d.writer
put_last start now first d all to =
    let count = to.count in
    let bytes = to.bytes in
    let none = stored_none d.writer.shape.format in
    record { records = omega (arith, count); bytes = omega (arith, bytes, none) }

-- all records are put then
pub put_all : (start now : Told) (first d : Draft) (all records : List (List ℕ)) → PutTo start now first d all [] → all ≡ records
    → (begin : Told) (a : Accessed) (m : Minidisk) (change : Change) (stamp : Stamp) (done : List (List ℕ)) → GoesOn begin start a m first change stamp done records → GoesOn begin now a m d change stamp (done ++ records) []
put_all start now first d all records to is begin a m change stamp done g =
    let gone : to.gone ≡ records = sym (append-nil to.gone) ∙ (to.all_are ∙ is) in
    subst (λ (l : List (List ℕ)). GoesOn begin now a m d change stamp (done ++ l) []) gone
    (to.goes begin a m change stamp done (subst (λ (l : List (List ℕ)). GoesOn begin start a m first change stamp done l) (sym (to.all_are ∙ is)) g))

-- ---- two calls on units, one behind the other

pub changes_then : {U E : Type 0} (a b c : Seen) (P : E → Type 0) (r : Result U E) → Grown a.told b.told → a.faults ≤ b.faults → b.edges ≡ a.edges → ChangesUnits b c P r → ChangesUnits a c P r
changes_then {U = U} {E = E} a b c P r grown faults edges two = record {
  grown = grown_then a.told b.told c.told grown two.grown;
  faults = (let more = two.faults in omega (arith, faults, more));
  edges = two.edges ∙ edges;
  cause = raised r two.cause;
}
  where
    raised : (r : Result U E) → IfErr r (λ e. P e → Rose b.faults c.faults) → IfErr r (λ e. P e → Rose a.faults c.faults)
    raised (Ok y) rose = tt
    raised (Err e) rose = λ p. (let more = rose p in omega (arith, faults, more))
