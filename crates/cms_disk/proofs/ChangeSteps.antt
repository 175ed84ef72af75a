-- A change of a minidisk is a device step of a machine.
use Rattle.std.proofs.Common.{◌≡◌, inl, inr, ⊎_elim, ℕ, ◌+◌, ◌-◌, ◌≤◌, Bool, false, List, [], ◌∷◌, length, Option, Some, None, Result, Ok, Err, refl, sym, ◌∙◌, ap, subst, arith}
use Rattle.std.specs.Prelude.{if◌then◌else◌, ◌↔◌, ⊤, IfErr, OnOk, IsSome, IsTrue, not, unwrap_or}
use Rattle.std.proofs.lemmas.Bool.{false≢true}
use Rattle.cms_journal.specs.declared.event.Event.{Event}
use Rattle.cms_journal.specs.declared.event.Event.TheVariants.{Wrote, Synced}
use Rattle.cms_journal.specs.Journal.{Journal}
use Rattle.cms_journal.specs.Told.{Told, Grown, plus, syncs, OnlyOf}
use Rattle.cms_journal.proofs.Events.{all_join}
use Rattle.cms_fields.specs.declared.label.Label.{Label}
use Rattle.cms_fields.specs.declared.time.Stamp.{Stamp}
use Rattle.cms_model.specs.Lists.{cut}
use Rattle.cms_model.specs.Minidisks.{File, Minidisk}
use Rattle.cms_model.specs.Changes.{Century, Change, Changed, Full, Drop, Rename, answer_of, changed, changed_volid, file_named, need}
use Rattle.cms_model.specs.Settled.{update, writes}
use Rattle.cms_model.specs.LawsUpdates.{IsFront, after, now, relabel, to_label, with_label}
use Rattle.cms_model.proofs.Fronts.{none_front}
use Rattle.cms_model.specs.Slots.{Side}
use Rattle.cms_model.specs.Steps.{Outcome, Good, OldFault, EitherFault, is_relabel, put_stamp, put_syncs, update_syncs}
use Rattle.cms_model.specs.Beats.{AreStamped, IsStamped}
use Rattle.cms_model.proofs.StepsFit.{syncs_counted}
use Rattle.cms_map.specs.Bits.{free_blocks}
use Rattle.cms_held.specs.LawsRenewals.{writes_of}
use Rattle.cms_held.specs.MinidiskUpdates.{IsEditOf, drops, renames}
use Rattle.cms_held.specs.MinidiskUpdates as edit_of
use Rattle.cms_edf.specs.ChangePlans.{CanChange, IsFullFor, IsPlanFor, change_of, place_in}
use Rattle.cms_edf.specs.ChangePlans as edits
use Rattle.cms_held.specs.Renewals.{Edit, dropping, made_at, made_without, moving, needed, renaming}
use Rattle.cms_edf.specs.declared.step.Step.TheVariants as step
use Rattle.cms_held.specs.HeldVolumes.{HeldVolume}
use Rattle.cms_held.specs.MinidiskUpdates.{IsHeldMinidisk}
use Rattle.cms_edf.specs.Updates.{IsStopped, LeadsTo, safe_events, step_events}
use Rattle.cms_held.specs.Kept.{Keeps}
use Rattle.cms_edf.specs.declared.doubt.Doubt.TheVariants.{Old, Either}
use Rattle.cms_edf.proofs.Finished.{carried, moves, to_front, with_front, writes_to}
use Rattle.cms_edf.specs.declared.step.Step.{Step}
use Rattle.cms_names.specs.declared.name.Name.{Name}
use Rattle.cms_edf.specs.NoRoom.{LacksRoom}
use Rattle.cms_edf.specs.declared.allotment.PlanFault.{PlanFault}
use Rattle.cms_edf.specs.declared.allotment.PlanFault.TheVariants as failed
use Rattle.cms_edf.specs.declared.change.Change as asked
use Rattle.cms_edf.specs.declared.change.Change.TheVariants as ask
use Rattle.cms_edf.specs.declared.change.FileEdit.TheVariants as does
use Rattle.cms_edf.specs.declared.doubt.Doubt.{Doubt}
use Rattle.cms_edf.proofs.Planned.{count_is}
use Rattle.cms_edf.proofs.Planned.{named_at as named_in}
use Rattle.cms_held.proofs.Carried.{edit_writes, lacking_is_full}
use Rattle.cms_disk.specs.Changes.{Altered, Alters, Doubted, FilesThen, HeldThen, IsChangeFault, IsOnSame, Kept, fault_of, needed_for, refusal_of}
use Rattle.cms_disk.specs.declared.fault.DiskFault.TheVariants as refused
use Rattle.cms_disk.specs.Disks.{Accessed, IsMinidisk, IsReadable}
use Rattle.cms_disk.specs.Disks.{place_of as place_named}
use Rattle.cms_disk.proofs.Courses.{Course, held_minidisk, in_doubt, made, stamped_writes, unmade}
use Rattle.cms_disk.proofs.DisksTold.{named_at}
use Rattle.cms_disk.proofs.FilesFound.{none_found}
use Rattle.cms_disk.proofs.StepPieces.{label_aside, one_sync, only_update, told_after, AreWhole, update_whole, written_held}

-- ---- the events of a step: those of its unit alone, with its stamp

only_step : (v : HeldVolume) (s : Step) → OnlyOf v.unit (step_events v s)
only_step v (step.Edit e s) = only_update v.unit (writes_of v s) s.label_bytes
only_step v (step.Relabel label bytes) = (refl, (refl, tt))

-- the whole step
edit_stamp : (v : HeldVolume) (edit : Edit) (change : Change) (stamp : Stamp) → IsEditOf v edit change → put_stamp change stamp ≡ Some stamp
edit_stamp v edit change stamp (drops place f there) = refl
edit_stamp v edit change stamp (renames place f to number there small free) = refl
edit_stamp v edit change stamp (edit_of.moves pivot small) = refl

pub stamped_step : (j : Journal) (v : HeldVolume) (m : Minidisk) (change : Change) (stamp : Stamp) (s : Step) → IsHeldMinidisk j v m → IsPlanFor v change stamp s
    → AreStamped v.unit (put_stamp change stamp) (step_events v s)
unfolding update
stamped_step j v m change stamp (step.Edit e s) held p =
    subst (λ (o : Option Stamp). AreStamped v.unit o (update v.unit (writes_of v s) s.label_bytes)) (sym (edit_stamp v p.edit change stamp p.is))
    (all_join (IsStamped v.unit (Some stamp)) (writes v.unit (writes_of v s)) (Synced v.unit ∷ Wrote v.unit 3 s.label_bytes ∷ Synced v.unit ∷ [])
    (stamped_writes v p.edit stamp s held.at.whole.size (edit_writes j v p.edit stamp s m change held p.is p.ready).aside) (tt, ((λ same at. absurd (label_aside at)), (tt, tt))))
stamped_step j v m change stamp (step.Relabel label bytes) held (volid, is, r) =
    subst (λ (k : Change). AreStamped v.unit (put_stamp k stamp) (relabel v.unit bytes.items)) (sym is) (λ same at. label_aside at, (tt, tt))

-- ---- a step that was planned for a minidisk

pub record Setting (j : Journal) (old : Told) (d : Accessed) (m : Minidisk) (change : Change) (stamp : Stamp) (s : Step) : Type 0 where
  pub told_is : old ≡ Some j
  pub is : IsMinidisk j d m
  pub readable : IsReadable j d
  pub kept : Keeps d.volume
  pub plan : IsPlanFor d.volume change stamp s

held_of : (j : Journal) (old : Told) (d : Accessed) (m : Minidisk) (change : Change) (stamp : Stamp) (s : Step) → Setting j old d m change stamp s → IsHeldMinidisk j d.volume m
held_of j old d m change stamp s x = held_minidisk j d m x.is x.readable

safe_front : (v : HeldVolume) (s : Step) → IsFront (safe_events v s) (step_events v s)
safe_front v (step.Edit e s) = to_front v.unit (writes_of v s) s.label_bytes
safe_front v (step.Relabel label bytes) = none_front (relabel v.unit bytes.items)

-- it writes whole blocks
whole_step : (j : Journal) (v : HeldVolume) (m : Minidisk) (change : Change) (stamp : Stamp) (s : Step) → IsHeldMinidisk j v m → IsPlanFor v change stamp s → AreWhole v.unit v.disk.bsize (step_events v s)
whole_step j v m change stamp (step.Edit e s) held p =
    update_whole v.unit v.disk.bsize (writes_of v s) s.label_bytes (edit_writes j v p.edit stamp s m change held p.is p.ready).long p.label_long
whole_step j v m change stamp (step.Relabel label bytes) held (volid, is, r) = ((refl, r.bytes_long), (refl, tt))

course_of : (j : Journal) (old : Told) (d : Accessed) (m : Minidisk) (change : Change) (stamp : Stamp) (s : Step) → Setting j old d m change stamp s
    → Course j d m change stamp (safe_events d.volume s) (step_events d.volume s)
course_of j old d m change stamp s x =
    let held = held_of j old d m change stamp s x in
    let m' = moves j d.volume m change stamp s x.kept held x.plan in
    record {
      answer = m'.answer;
      before = m'.before;
      either = m'.either;
      only = only_step d.volume s;
      stamped = stamped_step j d.volume m change stamp s held x.plan;
      front = safe_front d.volume s;
      sized = whole_step j d.volume m change stamp s held x.plan;
      small = subst (λ (n : ℕ). n ≤ need m change + 2) (written_held (step_events d.volume s)) m'.small;
    }

-- the step's syncs
edit_syncs : (v : HeldVolume) (edit : Edit) (change : Change) (m : Minidisk) (o : Outcome) → IsEditOf v edit change → put_syncs change (Changed m) o ≡ update_syncs o
edit_syncs v edit change m o (drops place f is) = refl
edit_syncs v edit change m o (renames place f to number is small free) = refl
edit_syncs v edit change m o (edit_of.moves pivot small) = refl

edit_is_none : (v : HeldVolume) (edit : Edit) (change : Change) → IsEditOf v edit change → is_relabel change ≡ false
edit_is_none v edit change (drops place f is) = refl
edit_is_none v edit change (renames place f to number is small free) = refl
edit_is_none v edit change (edit_of.moves pivot small) = refl

good_syncs : (v : HeldVolume) (change : Change) (stamp : Stamp) (m : Minidisk) (s : Step) → IsPlanFor v change stamp s → syncs (step_events v s) ≡ put_syncs change (Changed m) Good
good_syncs v change stamp m (step.Edit e s) p =
    let c = (syncs_counted v.unit (writes_of v s) s.label_bytes 0).whole change m in
    ap (λ (b : Bool). syncs (if b then relabel v.unit s.label_bytes else update v.unit (writes_of v s) s.label_bytes)) (sym (edit_is_none v p.edit change p.is)) ∙ c
good_syncs v change stamp m (step.Relabel label bytes) (volid, is, r) = ap (λ (k : Change). put_syncs k (Changed m) Good) (sym is)

-- the volume then is on the same unit
pub leads_same : (v w : HeldVolume) (change : Change) (stamp : Stamp) (s : Step) → IsPlanFor v change stamp s → LeadsTo v s w → (w.unit ≡ v.unit) × (w.disk ≡ v.disk)
leads_same v w change stamp (step.Edit e s) p leads = let is = leads p.edit p.done in (ap (λ (x : HeldVolume). x.unit) is, ap (λ (x : HeldVolume). x.disk) is)
leads_same v w change stamp (step.Relabel label bytes) p leads = (ap (λ (x : HeldVolume). x.unit) leads, ap (λ (x : HeldVolume). x.disk) leads)

-- all was done
pub altered : (j : Journal) (old new : Told) (d e : Accessed) (m : Minidisk) (change : Change) (stamp : Stamp) (s : Step) → Setting j old d m change stamp s
    → new ≡ plus old (step_events d.volume s) → LeadsTo d.volume s e.volume → Altered old new e m change stamp
altered j old new d e m change stamp s x told leads =
    let events = step_events d.volume s in
    let same = leads_same d.volume e.volume change stamp s x.plan leads in
    made j old new d e m change stamp (safe_events d.volume s) events x.told_is (course_of j old d m change stamp s x) told (good_syncs d.volume change stamp (changed m change) s x.plan) same.0 same.1
    (carried j new d.volume e.volume m change stamp s x.kept (held_of j old d m change stamp s x) x.plan (told ∙ ap (λ (t : Told). plus t events) x.told_is) leads (after j events)
    (told_after j old new events x.told_is told))

-- it was cut off before its first sync
pub kept : (j : Journal) (old new : Told) (d e : Accessed) (m : Minidisk) (change : Change) (stamp : Stamp) (s : Step) → Setting j old d m change stamp s
    → IsStopped old new d.volume s Old → e.volume ≡ d.volume → Kept old new e m change stamp
kept j old new d e m change stamp (step.Relabel label bytes) x (is, may) same = absurd (cc is)
kept j old new d e m change stamp (step.Edit f s) x cut same =
    let p = cut.front in
    let u = d.volume.unit in
    let ws = writes_of d.volume s in
    let edit = x.plan.edit in
    let none = (syncs_counted u ws s.label_bytes 0).update_old p cut.is in
    unmade j old new d e m change stamp (to_label u ws) (update u ws s.label_bytes) p x.told_is (course_of j old d m change stamp (step.Edit f s) x) cut.told (writes_to u ws p cut.is)
    (none ∙ sym (edit_syncs d.volume edit change (changed m change) OldFault x.plan.is)) (refl, ap not (edit_is_none d.volume edit change x.plan.is)) same

-- it was cut off then
doubted_at : (j : Journal) (old new : Told) (d : Accessed) (m : Minidisk) (change : Change) (stamp : Stamp) (s : Step) → Setting j old d m change stamp s → (p : List Event) → new ≡ plus old p
    → IsFront p (step_events d.volume s) → ((side : Side) → syncs p ≡ put_syncs change (Changed (changed m change)) (EitherFault side)) → Doubted old new d m change stamp
doubted_at j old new d m change stamp s x p told front synced =
    in_doubt j old new d m change stamp (safe_events d.volume s) (step_events d.volume s) p x.told_is (course_of j old d m change stamp s x) told front synced

pub doubted : (j : Journal) (old new : Told) (d : Accessed) (m : Minidisk) (change : Change) (stamp : Stamp) (s : Step) → Setting j old d m change stamp s
    → IsStopped old new d.volume s Either → Doubted old new d m change stamp
doubted j old new d m change stamp (step.Edit f s) x (inl told) =
    let u = d.volume.unit in
    let ws = writes_of d.volume s in
    let edit = x.plan.edit in
    doubted_at j old new d m change stamp (step.Edit f s) x (to_label u ws) told (to_front u ws s.label_bytes)
    (λ side. one_sync u ws ∙ sym (edit_syncs d.volume edit change (changed m change) (EitherFault side) x.plan.is))
doubted j old new d m change stamp (step.Edit f s) x (inr told) =
    let u = d.volume.unit in
    let ws = writes_of d.volume s in
    let edit = x.plan.edit in
    doubted_at j old new d m change stamp (step.Edit f s) x (with_label u ws s.label_bytes) told (with_front u ws s.label_bytes)
    (λ side. (syncs_counted u ws s.label_bytes 0).update_either side ∙ sym (edit_syncs d.volume edit change (changed m change) (EitherFault side) x.plan.is))
doubted j old new d m change stamp (step.Relabel label bytes) x (is, may) =
    let u = d.volume.unit in
    ⊎_elim
    (λ same. doubted_at j old new d m change stamp (step.Relabel label bytes) x [] same (record { rest = relabel u bytes.items; is = refl })
    (λ side. ap (λ (k : Change). put_syncs k (Changed (changed m change)) (EitherFault side)) (sym x.plan.1)))
    (λ more. doubted_at j old new d m change stamp (step.Relabel label bytes) x (Wrote u 3 bytes.items ∷ []) more (record { rest = Synced u ∷ []; is = refl })
    (λ side. ap (λ (k : Change). put_syncs k (Changed (changed m change)) (EitherFault side)) (sym x.plan.1)))
    may

-- the files behind an edit
edit_then : (v : HeldVolume) (edit : Edit) (change : Change) → IsEditOf v edit change → FilesThen v.files change edit.files
edit_then v edit change (drops place f there) = record { place = place; file = f; there = there; named = refl; are = refl }
edit_then v edit change (renames place f to number there small free) = record { place = place; file = f; there = there; named = refl; are = refl }
edit_then v edit change (edit_of.moves pivot small) = refl

edit_volid : (v : HeldVolume) (edit : Edit) (change : Change) → IsEditOf v edit change → changed_volid v.label.volid change ≡ v.label.volid
edit_volid v edit change (drops place f there) = refl
edit_volid v edit change (renames place f to number there small free) = refl
edit_volid v edit change (edit_of.moves pivot small) = refl

-- what is held then
pub held_then : (v w : HeldVolume) (change : Change) (stamp : Stamp) (s : Step) → IsPlanFor v change stamp s → LeadsTo v s w → HeldThen v change w
held_then v w change stamp (step.Edit e s) p leads =
    let is = leads p.edit p.done in
    let edit = p.edit in
    let label = p.ready.planned.label in
    record {
      files = subst (FilesThen v.files change) (sym (ap (λ (x : HeldVolume). x.files) is)) (edit_then v edit change p.is);
      same = record {
        volid_is = ap (λ (x : HeldVolume). x.label.volid) is ∙ (ap (λ (l : Label). l.volid) label ∙ sym (edit_volid v edit change p.is));
        blocks = ap (λ (x : HeldVolume). x.label.blocks) is ∙ ap (λ (l : Label). l.blocks) label;
        lost = ap (λ (x : HeldVolume). x.lost) is;
      };
    }
held_then v w change stamp (step.Relabel label bytes) (volid, is, r) leads =
    subst (λ (k : Change). HeldThen v k w) (sym is) (record {
      files = ap (λ (x : HeldVolume). x.files) leads;
      same = record {
        volid_is = ap (λ (x : HeldVolume). x.label.volid) leads ∙ ap (λ (l : Label). l.volid) r.label_is;
        blocks = ap (λ (x : HeldVolume). x.label.blocks) leads ∙ ap (λ (l : Label). l.blocks) r.label_is;
        lost = ap (λ (x : HeldVolume). x.lost) leads;
      };
    })

-- it stays on its unit
pub on_same : (d e : Accessed) → e.vdev ≡ d.vdev → e.writable ≡ d.writable → e.volume.unit ≡ d.volume.unit → e.volume.disk ≡ d.volume.disk → IsOnSame d e
on_same d e vdev writable unit disk = record { vdev = vdev; writable = writable; unit = unit; disk = disk }

-- what carrying it out comes to
pub alters_by : (j : Journal) (old new : Told) (d e : Accessed) (m : Minidisk) (change : Change) (stamp : Stamp) (s : Step) → Setting j old d m change stamp s → (why : Doubt)
    → IsStopped old new d.volume s why → e.volume ≡ d.volume → Alters old new d e m change stamp (Err (fault_of why))
alters_by j old new d e m change stamp s x Old cut same = kept j old new d e m change stamp s x cut same
alters_by j old new d e m change stamp s x Either cut same = doubted j old new d m change stamp s x cut

-- its piece was added
pub grown_done : (old new : Told) (v : HeldVolume) (s : Step) → new ≡ plus old (step_events v s) → Grown old new
grown_done old new v s is = record { events = step_events v s; told = is }

pub grown_cut : (old new : Told) (v : HeldVolume) (s : Step) (why : Doubt) → IsStopped old new v s why → Grown old new
grown_cut old new v (step.Edit e s) Old cut = record { events = cut.front; told = cut.told }
grown_cut old new v (step.Edit e s) Either (inl is) = record { events = to_label v.unit (writes_of v s); told = is }
grown_cut old new v (step.Edit e s) Either (inr is) = record { events = with_label v.unit (writes_of v s) s.label_bytes; told = is }
grown_cut old new v (step.Relabel label bytes) why (is, inl same) = record { events = []; told = same }
grown_cut old new v (step.Relabel label bytes) why (is, inr more) = record { events = Wrote v.unit 3 bytes.items ∷ []; told = more }

pub grown_so : (old new : Told) (v : HeldVolume) (s : Step) (r : Result ⊤ Doubt) → OnOk r (new ≡ plus old (step_events v s)) → IfErr r (IsStopped old new v s) → Grown old new
grown_so old new v s (Ok x) done cut = grown_done old new v s done
grown_so old new v s (Err why) done cut = grown_cut old new v s why cut

-- ---- where there is no room

-- the setting of a change that isn't planned
pub record Asked (j : Journal) (d : Accessed) (m : Minidisk) (change : asked.Change) : Type 0 where
  pub is : IsMinidisk j d m
  pub readable : IsReadable j d
  pub kept : Keeps d.volume
  pub can : CanChange d.volume.files change

lacking : (j : Journal) (v : HeldVolume) (m : Minidisk) (edit : Edit) (change : Change) (need free : ℕ) → IsHeldMinidisk j v m → IsEditOf v edit change → Keeps v
    → LacksRoom v (needed v (length edit.files) edit.made) (failed.Full need free) → answer_of m change ≡ Full need free
lacking j v m edit change need free held is kept (is_need, is_free, short) =
    let answer = lacking_is_full j v edit m change held is kept (omega arith) in
    answer ∙ (ap (λ (n : ℕ). Full n (length (free_blocks v.bits))) (sym is_need) ∙ ap (Full need) (sym is_free))

some_place : (o : Option ℕ) → IsSome o → (k : ℕ) × (o ≡ Some k)
some_place None is = absurd (false≢true is)
some_place (Some k) is = (k, refl)

full_is : (j : Journal) (d : Accessed) (m : Minidisk) (change : asked.Change) (need free : ℕ) → Asked j d m change → IsFullFor d.volume change (failed.Full need free)
    → answer_of m (change_of change) ≡ Full need free
full_is j d m (ask.Drop name) need free x lacks =
    let v = d.volume in
    let at = some_place (place_in name.now v.files) x.can in
    let n = named_in v.files name.now at.0 at.1 in
    let edit = dropping v.files at.0 n.file in
    let is : IsEditOf v edit (Drop name.now) = subst (λ (k : Name). IsEditOf v edit (Drop k)) n.named (drops at.0 n.file n.there) in
    let count : length edit.files ≡ length v.files - 1 = count_is v.files (does.Drop at.0) edit (edits.drops at.0 n.file n.there) in
    lacking j v m edit (Drop name.now) need free (held_minidisk j d m x.is x.readable) is x.kept
    (subst (λ (k : ℕ). LacksRoom v (needed v k edit.made) (failed.Full need free)) (sym count) (lacks at.0 at.1))
full_is j d m (ask.Rename from to number) need free x lacks =
    let v = d.volume in
    let at = some_place (place_in from.now v.files) x.can.0 in
    let n = named_in v.files from.now at.0 at.1 in
    let own = ⊎_elim (λ none. inl none) (λ same. inr (same ∙ sym n.named)) x.can.2 in
    let is : IsEditOf v (renaming v.files at.0 n.file to.now number) (Rename from.now to.now number) =
    subst (λ (k : Name). IsEditOf v (renaming v.files at.0 n.file to.now number) (Rename k to.now number)) n.named (renames at.0 n.file to.now number n.there x.can.1 own) in
    let edit = renaming v.files at.0 n.file to.now number in
    let count : length edit.files ≡ length v.files = count_is v.files (does.Rename at.0 to.now number) edit (edits.renames at.0 n.file to.now number n.there) in
    lacking j v m edit (Rename from.now to.now number) need free (held_minidisk j d m x.is x.readable) is x.kept
    (subst (λ (k : ℕ). LacksRoom v (needed v k edit.made) (failed.Full need free)) (sym count) (lacks at.0 at.1))
full_is j d m (ask.Relabel volid) need free x lacks = absurd (cc lacks)
full_is j d m (ask.Century pivot) need free x lacks =
    let v = d.volume in
    let edit = moving v.files pivot in
    let count : length edit.files ≡ length v.files = count_is v.files (does.Century pivot) edit (edits.moves pivot) in
    lacking j v m edit (Century pivot) need free (held_minidisk j d m x.is x.readable) (edit_of.moves pivot x.can) x.kept
    (subst (λ (k : ℕ). LacksRoom v (needed v k edit.made) (failed.Full need free)) (sym count) lacks)

-- with the file at its place
told_at : (o : Option ℕ) (k : ℕ) → o ≡ Some k → unwrap_or o 0 ≡ k
told_at o k is = ap (λ (x : Option ℕ). unwrap_or x 0) is

room_is : (v : HeldVolume) (change : asked.Change) (need free : ℕ) → CanChange v.files change → IsFullFor v change (failed.Full need free)
    → IsChangeFault v (needed_for v change) (refused.Full need free)
room_is v (ask.Drop name) need free can lacks =
    let at = some_place (place_in name.now v.files) can in
    subst (λ (k : ℕ). LacksRoom v (needed v (length v.files - 1) (made_without k (length v.files))) (failed.Full need free)) (sym (told_at (place_in name.now v.files) at.0 at.1)) (lacks at.0 at.1)
room_is v (ask.Rename from to number) need free can lacks =
    let at = some_place (place_in from.now v.files) can.0 in
    subst (λ (k : ℕ). LacksRoom v (needed v (length v.files) (made_at k)) (failed.Full need free)) (sym (told_at (place_in from.now v.files) at.0 at.1)) (lacks at.0 at.1)
room_is v (ask.Relabel volid) need free can lacks = absurd (cc lacks)
room_is v (ask.Century pivot) need free can lacks = lacks

never_limited : (v : HeldVolume) (change : asked.Change) (which : ℕ) → CanChange v.files change → IsFullFor v change (failed.Limit which) → ⊥
never_limited v (ask.Drop name) which can lacks = let at = some_place (place_in name.now v.files) can in lacks at.0 at.1
never_limited v (ask.Rename from to number) which can lacks = let at = some_place (place_in from.now v.files) can.0 in lacks at.0 at.1
never_limited v (ask.Relabel volid) which can lacks = absurd (cc lacks)
never_limited v (ask.Century pivot) which can lacks = lacks

-- what it comes to that no plan is made
pub not_planned : (j : Journal) (old : Told) (d e : Accessed) (m : Minidisk) (change : asked.Change) (stamp : Stamp) (why : PlanFault) → Asked j d m change → IsFullFor d.volume change why
    → Alters old old d e m (change_of change) stamp (Err (refusal_of why))
not_planned j old d e m change stamp (failed.Limit which) x lacks = absurd (never_limited d.volume change which x.can lacks)
not_planned j old d e m change stamp (failed.Full need free) x lacks = (refl, full_is j d m change need free x lacks)
not_planned j old d e m change stamp failed.Memory x lacks = refl

pub plan_fault : (v : HeldVolume) (change : asked.Change) (why : PlanFault) → CanChange v.files change → IsFullFor v change why → IsChangeFault v (needed_for v change) (refusal_of why)
plan_fault v change (failed.Limit which) can lacks = absurd (never_limited v change which can lacks)
plan_fault v change (failed.Full need free) can lacks = room_is v change need free can lacks
plan_fault v change failed.Memory can lacks = tt

pub carry_fault : (v : HeldVolume) (need : ℕ) (why : Doubt) → IsChangeFault v need (fault_of why)
carry_fault v need Old = tt
carry_fault v need Either = tt

-- ---- files that are there, and that aren't

pub not_there : (o : Option ℕ) (has : Bool) → IsTrue has ↔ IsSome o → has ≡ false → o ≡ None
not_there None has tells is = refl
not_there (Some k) has tells is = absurd (false≢true (sym is ∙ tells.1 refl))

pub is_missing : (j : Journal) (d : Accessed) (m : Minidisk) (name : Name) (has : Bool) → IsTrue has ↔ IsSome (place_named name d.volume) → has ≡ false → IsMinidisk j d m
    → file_named name m.files ≡ None
is_missing j d m name has tells is x = none_found d name (not_there (place_named name d.volume) has tells is) (now j d.volume.unit) m x.stands

pub is_there : (j : Journal) (d : Accessed) (m : Minidisk) (name : Name) → IsSome (place_named name d.volume) → IsMinidisk j d m → (f : File) × (file_named name m.files ≡ Some f)
is_there j d m name some x =
    let at = some_place (place_named name d.volume) some in
    let n = named_in d.volume.files name at.0 at.1 in
    let f = named_at (now j d.volume.unit) name d m at.0 n.file x.stands at.1 n.there in
    (f.file, f.named)
