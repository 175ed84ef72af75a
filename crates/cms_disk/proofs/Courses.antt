-- A change of a minidisk whose events are known is a device step of a machine.
use Rattle.std.proofs.Common.{◌≡◌, ◌⊎◌, inl, inr, ⊎_elim, ℕ, ◌+◌, ◌*◌, ◌≤◌, List, [], ◌∷◌, take, drop, Some, refl, sym, ◌∙◌, ap, subst, arith}
use Rattle.std.specs.Prelude.{unwrap_or}
use Rattle.std.specs.List.{AllByRecursion}
use Rattle.cms_journal.specs.declared.event.Event.{Event}
use Rattle.cms_journal.specs.Journal.{Journal, IsBlockSize, contents_of, start_of}
use Rattle.cms_journal.specs.Told.{Told, plus, syncs, IsOfUnit, OnlyOf}
use Rattle.cms_journal.proofs.Events.{all_front}
use Rattle.cms_fields.specs.declared.time.Stamp.{Stamp}
use Rattle.cms_model.specs.Minidisks.{Minidisk, State, Volume}
use Rattle.cms_model.specs.Volumes.{Disk, Opened, minidisk_of, state_of}
use Rattle.cms_model.specs.Changes.{Change, Changed, Answer, answer_of, changed, need}
use Rattle.cms_model.specs.Stands.{opened}
use Rattle.cms_model.specs.Settled.{IsSettled, writes}
use Rattle.cms_model.specs.LawsUpdates.{HasEither, IsFront, after, now}
use Rattle.cms_model.proofs.Fronts.{front_nil, front_of_front, none_front}
use Rattle.cms_model.proofs.Images.{crash_now}
use Rattle.cms_model.proofs.Renewed.{minidisk_is}
use Rattle.cms_model.proofs.SettledUnits.{settled_is_firm}
use Rattle.cms_model.proofs.Stands.{opened_stands}
use Rattle.cms_model.specs.Slots.{Side, Before, After, Settled, set_of, named}
use Rattle.cms_model.specs.Steps.{Put, Outcome, Good, OldFault, EitherFault, MayPut, after_put, most_put, put_stamp, put_syncs, slot_after}
use Rattle.cms_model.specs.Beats.{AreStamped, HasStamp, IsStamped, written_count}
use Rattle.cms_model.proofs.Aside.{of_disk}
use Rattle.cms_journal.proofs.Sizes.{block_bounds}
use Rattle.cms_held.specs.LawsRenewals.{writes_of}
use Rattle.cms_held.specs.Renewals.{Edit, entries_held}
use Rattle.cms_held.specs.Systems.{Systems, directory_bytes_of, directory_piece}
use Rattle.cms_held.proofs.WritesAside.{IsAside}
use Rattle.cms_held.specs.HeldVolumes.{HeldVolume}
use Rattle.cms_held.specs.MinidiskUpdates.{IsHeldMinidisk}
use Rattle.cms_held.specs.HeldAs.{IsHeldAs}
use Rattle.cms_disk.specs.Changes.{Altered, Changes, Doubted, HasState, Kept}
use Rattle.cms_disk.specs.CrashStates.{CoversOn, LeavesOn}
use Rattle.cms_disk.specs.Disks.{Accessed, IsMinidisk, IsReadable}
use Rattle.cms_disk.specs.Drafts.{WritesAside}
use Rattle.cms_disk.proofs.Beside.{changes_behind}
use Rattle.cms_disk.proofs.CrashStates.{leaves_state}
use Rattle.cms_disk.proofs.DisksTold.{is_minidisk}
use Rattle.cms_disk.proofs.StepPieces.{front_has_stamp, stamped_aside, start_has, told_after, whole_front, AreWhole, front_whole, has_whole, whole_after, written_front}

-- ---- a minidisk, as the volume below is held

pub held_minidisk : (j : Journal) (d : Accessed) (m : Minidisk) → IsMinidisk j d m → IsReadable j d → IsHeldMinidisk j d.volume m
held_minidisk j d m is has =
    let v = d.volume in
    let s = is.stands in
    let o = opened_stands v.disk (now j v.unit) s.opened s.opens in
    let layout = o.0 in
    let same : opened layout ≡ s.opened = o.2 in
    record {
      layout = layout;
      at = record {
        whole = s.whole;
        attached = start_has v.disk.count v.disk.bsize _ has;
        settled = subst (IsSettled v.disk j v.unit) (sym same) is.settled;
        stands = o.1;
        held = subst (λ (x : Opened). IsHeldAs v.unit v.disk (now j v.unit) x v) (sym same) s.volume_is;
        trees = is.trees;
      };
      minidisk_is = s.minidisk_is ∙ (ap (minidisk_of v.disk) (sym same) ∙ minidisk_is v.disk layout);
    }

-- ---- what a crash leaves

-- where the unit is settled at a minidisk, only that
pub held_leaves : (j : Journal) (d : Accessed) (v : HeldVolume) (m : Minidisk) (p : List Event) → v.unit ≡ d.volume.unit → v.disk ≡ d.volume.disk → IsHeldMinidisk (after j p) v m
    → (x : State) → LeavesOn d.volume.disk (plus (Some j) p) d.volume.unit x → x ≡ Volume m
held_leaves j d v m p unit disk h =
    let settled : IsSettled d.volume.disk (after j p) d.volume.unit (opened h.layout) =
    subst (λ (k : Disk). IsSettled k (after j p) d.volume.unit (opened h.layout)) disk (subst (λ (u : ℕ). IsSettled v.disk (after j p) u (opened h.layout)) unit h.at.settled) in
    let same : Volume (minidisk_of d.volume.disk (opened h.layout)) ≡ Volume m =
    ap (λ (k : Disk). Volume (minidisk_of k (opened h.layout))) (sym disk) ∙ ap Volume (minidisk_is v.disk h.layout ∙ sym h.minidisk_is) in
    leaves_state j d.volume.unit d.volume.disk p (λ (y : State). y ≡ Volume m)
    (λ image left. (settled_is_firm d.volume.disk (after j p) d.volume.unit (opened h.layout) settled).1 image left ∙ same)

pub either_leaves : (j : Journal) (d : Accessed) (a b : State) (p : List Event) → HasEither d.volume.disk (after j p) d.volume.unit a b
    → (x : State) → LeavesOn d.volume.disk (plus (Some j) p) d.volume.unit x → (x ≡ a) ⊎ (x ≡ b)
either_leaves j d a b p each = leaves_state j d.volume.unit d.volume.disk p (λ (y : State). (y ≡ a) ⊎ (y ≡ b)) each

-- ---- a change whose events are known

-- its events, and those before the write of its label: it is made; up to there the minidisk is held as before, and at every moment each
-- crash image is the old minidisk or the new
pub record Course (j : Journal) (d : Accessed) (m : Minidisk) (change : Change) (stamp : Stamp) (safe whole : List Event) : Type 0 where
  pub answer : answer_of m change ≡ Changed (changed m change)
  pub before : (p : List Event) → IsFront p safe → IsHeldMinidisk (after j p) d.volume m
  pub either : (p : List Event) → IsFront p whole → HasEither d.volume.disk (after j p) d.volume.unit (Volume m) (Volume (changed m change))
  pub only : OnlyOf d.volume.unit whole
  pub stamped : AreStamped d.volume.unit (put_stamp change stamp) whole
  pub front : IsFront safe whole
  pub sized : AreWhole d.volume.unit d.volume.disk.bsize whole
  pub small : written_count whole ≤ need m change + 2

covers_good : (j : Journal) (d : Accessed) (m : Minidisk) (change : Change) (stamp : Stamp) (safe whole : List Event) (w : HeldVolume) → Course j d m change stamp safe whole → w.unit ≡ d.volume.unit
    → w.disk ≡ d.volume.disk → IsHeldMinidisk (after j whole) w (changed m change) → CoversOn d.volume.disk (Some j) whole d.volume.unit (Volume m ∷ []) (Volume (changed m change) ∷ [])
covers_good j d m change stamp safe whole w x unit disk done = record {
  inside = λ front rest e y leaves. ⊎_elim (λ a. inl (inl a)) (λ b. inr (inl b))
      (either_leaves j d (Volume m) (Volume (changed m change)) front (x.either front (record { rest = rest; is = e })) y leaves);
  whole = λ y leaves. inl (held_leaves j d w (changed m change) whole unit disk done y leaves);
}

-- events whose every front leaves the minidisk
pub covers_old : (j : Journal) (d : Accessed) (m : Minidisk) (p : List Event) → ((q : List Event) → IsFront q p → IsHeldMinidisk (after j q) d.volume m)
    → CoversOn d.volume.disk (Some j) p d.volume.unit (Volume m ∷ []) (Volume m ∷ [])
covers_old j d m p before = record {
  inside = λ q rest e y leaves. inl (inl (held_leaves j d d.volume m q refl refl (before q (record { rest = rest; is = e })) y leaves));
  whole = λ y leaves. inl (held_leaves j d d.volume m p refl refl (before p (whole_front p)) y leaves);
}

covers_either : (j : Journal) (d : Accessed) (m : Minidisk) (change : Change) (stamp : Stamp) (safe whole p : List Event) → Course j d m change stamp safe whole → IsFront p whole
    → CoversOn d.volume.disk (Some j) p d.volume.unit (Volume m ∷ []) (Volume m ∷ Volume (changed m change) ∷ [])
covers_either j d m change stamp safe whole p x front = record {
  inside = λ q rest e y leaves. ⊎_elim (λ a. inl (inl a)) (λ b. inr (inr (inl b)))
      (either_leaves j d (Volume m) (Volume (changed m change)) q (x.either q (front_of_front q p whole (record { rest = rest; is = e }) front)) y leaves);
  whole = λ y leaves. ⊎_elim (λ a. inl a) (λ b. inr (inl b)) (either_leaves j d (Volume m) (Volume (changed m change)) p (x.either p front) y leaves);
}

-- ---- with what was written before it

-- as much as the change has room for beside these events
pub record HasRoom (start old : Told) (disk : Disk) (u : ℕ) (m : Minidisk) (change : Change) (whole : List Event) : Type 0 where
  pub aside : WritesAside start old disk u m
  pub few : written_count aside.events + written_count whole ≤ need m change + 2

-- nothing was written
nothing_before : (j : Journal) (old : Told) (d : Accessed) (m : Minidisk) (change : Change) (stamp : Stamp) (safe whole : List Event) → old ≡ Some j → Course j d m change stamp safe whole
    → HasRoom old old d.volume.disk d.volume.unit m change whole
nothing_before j old d m change stamp safe whole is x = record {
  aside = record {
    events = [];
    told = refl;
    of_unit = tt;
    unsynced = refl;
    aside = tt;
    covers = subst (λ (t : Told). CoversOn d.volume.disk t [] d.volume.unit (Volume m ∷ []) (Volume m ∷ [])) (sym is)
        (covers_old j d m [] (λ q front. subst (λ (l : List Event). IsHeldMinidisk (after j l) d.volume m) (sym (front_nil q front)) (x.before [] (none_front safe))));
  };
  few = (let small = x.small in omega (arith, small));
}

-- a front of its events, with an outcome
changes_from : (j : Journal) (start old new : Told) (d : Accessed) (m : Minidisk) (change : Change) (stamp : Stamp) (safe whole : List Event) → old ≡ Some j → Course j d m change stamp safe whole
    → HasRoom start old d.volume.disk d.volume.unit m change whole
    → (p : List Event) (o : Outcome) → new ≡ plus old p → IsFront p whole → syncs p ≡ put_syncs change (Changed (changed m change)) o → MayPut change (Changed (changed m change)) o
    → CoversOn d.volume.disk (Some j) p d.volume.unit (Volume m ∷ []) (set_of (unwrap_or (after_put m (Changed (changed m change)) o) (Settled (Volume m)))) → Changes start new d.volume.disk d.volume.unit m change stamp o
changes_from j start old new d m change stamp safe whole is x before p o told front synced may covers =
    let u = d.volume.unit in
    let disk = d.volume.disk in
    let answer = sym x.answer in
    let only = all_front (IsOfUnit u) p front.rest (subst (OnlyOf u) (sym front.is) x.only) in
    let less = written_front p whole front in
    let all = before.few in
    let own : written_count p ≤ need m change + 2 = omega (arith, less, all) in
    let both : written_count before.aside.events + written_count p ≤ need m change + 2 = omega (arith, less, all) in
    changes_behind start old new disk u m change stamp o before.aside (record {
      events = p;
      told = told;
      of_unit = only;
      fits = record {
        disk = of_disk u p only;
        synced = subst (λ (a : Answer). syncs p ≡ put_syncs change a o) answer synced;
        stamped = all_front (IsStamped u (put_stamp change stamp)) p front.rest (subst (AreStamped u (put_stamp change stamp)) (sym front.is) x.stamped);
        few = subst (λ (a : Answer). written_count p ≤ most_put m change a) answer own;
        outcome = subst (λ (a : Answer). MayPut change a o) answer may;
      };
      covers = subst (λ (k : Told). CoversOn disk k p u (Volume m ∷ []) (set_of (slot_after (Settled (Volume m)) (Put u m change stamp) o))) (sym is)
          (subst (λ (a : Answer). CoversOn disk (Some j) p u (Volume m ∷ []) (set_of (unwrap_or (after_put m a o) (Settled (Volume m))))) answer covers);
    })
    (subst (λ (a : Answer). written_count before.aside.events + written_count p ≤ most_put m change a) answer both)

-- all of them were added
pub made_behind : (j : Journal) (start old new : Told) (d e : Accessed) (m : Minidisk) (change : Change) (stamp : Stamp) (safe whole : List Event) → old ≡ Some j
    → Course j d m change stamp safe whole → HasRoom start old d.volume.disk d.volume.unit m change whole
    → new ≡ plus old whole → syncs whole ≡ put_syncs change (Changed (changed m change)) Good → e.volume.unit ≡ d.volume.unit → e.volume.disk ≡ d.volume.disk
    → IsHeldMinidisk (after j whole) e.volume (changed m change) → Altered start new e m change stamp
made_behind j start old new d e m change stamp safe whole is x before told synced unit disk done = record {
  after = changed m change;
  answer = x.answer;
  later = after j whole;
  told = told_after j old new whole is told;
  minidisk = is_minidisk (after j whole) e (changed m change) done;
  changes = subst (λ (k : Disk). Changes start new k e.volume.unit m change stamp Good) (sym disk) (subst (λ (u : ℕ). Changes start new d.volume.disk u m change stamp Good) (sym unit)
      (changes_from j start old new d m change stamp safe whole is x before whole Good told (whole_front whole) synced tt (covers_good j d m change stamp safe whole e.volume x unit disk done)));
}

pub made : (j : Journal) (old new : Told) (d e : Accessed) (m : Minidisk) (change : Change) (stamp : Stamp) (safe whole : List Event) → old ≡ Some j → Course j d m change stamp safe whole
    → new ≡ plus old whole → syncs whole ≡ put_syncs change (Changed (changed m change)) Good → e.volume.unit ≡ d.volume.unit → e.volume.disk ≡ d.volume.disk
    → IsHeldMinidisk (after j whole) e.volume (changed m change) → Altered old new e m change stamp
made j old new d e m change stamp safe whole is x = made_behind j old old new d e m change stamp safe whole is x (nothing_before j old d m change stamp safe whole is x)

-- they were cut off before the first sync
pub unmade_behind : (j : Journal) (start old new : Told) (d e : Accessed) (m : Minidisk) (change : Change) (stamp : Stamp) (safe whole p : List Event) → old ≡ Some j
    → Course j d m change stamp safe whole → HasRoom start old d.volume.disk d.volume.unit m change whole
    → new ≡ plus old p → IsFront p safe → syncs p ≡ put_syncs change (Changed (changed m change)) OldFault → MayPut change (Changed (changed m change)) OldFault → e.volume ≡ d.volume
    → Kept start new e m change stamp
unmade_behind j start old new d e m change stamp safe whole p is x before told front synced may same = record {
  after = changed m change;
  answer = x.answer;
  later = after j p;
  told = told_after j old new p is told;
  minidisk = is_minidisk (after j p) e m (subst (λ (w : HeldVolume). IsHeldMinidisk (after j p) w m) (sym same) (x.before p front));
  changes = subst (λ (w : HeldVolume). Changes start new w.disk w.unit m change stamp OldFault) (sym same)
      (changes_from j start old new d m change stamp safe whole is x before p OldFault told (front_of_front p safe whole front x.front) synced may
      (covers_old j d m p (λ q inside. x.before q (front_of_front q p safe inside front))));
}

pub unmade : (j : Journal) (old new : Told) (d e : Accessed) (m : Minidisk) (change : Change) (stamp : Stamp) (safe whole p : List Event) → old ≡ Some j → Course j d m change stamp safe whole
    → new ≡ plus old p → IsFront p safe → syncs p ≡ put_syncs change (Changed (changed m change)) OldFault → MayPut change (Changed (changed m change)) OldFault → e.volume ≡ d.volume
    → Kept old new e m change stamp
unmade j old new d e m change stamp safe whole p is x =
    unmade_behind j old old new d e m change stamp safe whole p is x (nothing_before j old d m change stamp safe whole is x)

-- they were cut off then
pub doubt_behind : (j : Journal) (start old new : Told) (d : Accessed) (m : Minidisk) (change : Change) (stamp : Stamp) (safe whole p : List Event) → old ≡ Some j
    → Course j d m change stamp safe whole → HasRoom start old d.volume.disk d.volume.unit m change whole
    → new ≡ plus old p → IsFront p whole → ((side : Side) → syncs p ≡ put_syncs change (Changed (changed m change)) (EitherFault side)) → Doubted start new d m change stamp
doubt_behind j start old new d m change stamp safe whole p is x before told front synced =
    let u = d.volume.unit in
    let here = x.either p front (contents_of (after j p) u) (crash_now (after j p).events u (start_of j.units u)) in
    ⊎_elim
    (λ (was : state_of d.volume.disk (now (after j p) u) ≡ Volume m). side_of Before was)
    (λ (new_is : state_of d.volume.disk (now (after j p) u) ≡ Volume (changed m change)). side_of After new_is)
    here
  where
    held : IsHeldMinidisk j d.volume m
    held = x.before [] (none_front safe)

    side_of : (side : Side) → state_of d.volume.disk (now (after j p) d.volume.unit) ≡ named (Volume m) (Volume (changed m change)) side → Doubted start new d m change stamp
    side_of side state = record {
      after = changed m change;
      answer = x.answer;
      side = side;
      left = subst (λ (t : Told). HasState t d.volume.disk d.volume.unit (named (Volume m) (Volume (changed m change)) side)) (sym (told_after j old new p is told)) state;
      whole = has_whole j old new p d.volume.disk d.volume.unit is told
          (whole_after j d.volume.unit d.volume.disk p (front_whole d.volume.unit d.volume.disk.bsize p whole front x.sized) held.at.whole);
      changes = changes_from j start old new d m change stamp safe whole is x before p (EitherFault side) told front (synced side) refl (covers_either j d m change stamp safe whole p x front);
    }

pub in_doubt : (j : Journal) (old new : Told) (d : Accessed) (m : Minidisk) (change : Change) (stamp : Stamp) (safe whole p : List Event) → old ≡ Some j → Course j d m change stamp safe whole
    → new ≡ plus old p → IsFront p whole → ((side : Side) → syncs p ≡ put_syncs change (Changed (changed m change)) (EitherFault side)) → Doubted old new d m change stamp
in_doubt j old new d m change stamp safe whole p is x =
    doubt_behind j old old new d m change stamp safe whole p is x (nothing_before j old d m change stamp safe whole is x)

-- ---- the stamp of an update's writes

pub stamped_writes : (v : HeldVolume) (edit : Edit) (stamp : Stamp) (s : Systems) → IsBlockSize v.disk.bsize
    → AllByRecursion (IsAside (directory_piece v.disk.bsize s (entries_held edit.files) stamp 0)) (writes_of v s) → AreStamped v.unit (Some stamp) (writes v.unit (writes_of v s))
stamped_writes v edit stamp s size aside =
    let bsize = v.disk.bsize in
    let bytes = directory_bytes_of bsize s (entries_held edit.files) stamp in
    let none : 0 * bsize ≡ 0 = omega arith in
    stamped_aside v.unit stamp (directory_piece bsize s (entries_held edit.files) stamp 0) (writes_of v s)
    (subst (λ (n : ℕ). HasStamp (take bsize (drop n bytes)) stamp) (sym none) (front_has_stamp bsize s (entries_held edit.files) stamp (block_bounds bsize size).0)) aside
