-- A unit that stands at a minidisk, through what a command does.
use Rattle.std.proofs.Common.{◌≡◌, inl, inr, ◌∙◌, ℕ, ℤ, true, List, [], ◌∷◌, None, Some, Err, refl, ap, sym, subst, slice_get}
use Rattle.std.proofs.lemmas.Option.{same_Some}
use Rattle.cms_journal.specs.declared.event.Attached.{Attached}
use Rattle.cms_journal.specs.declared.event.Event.{Event}
use Rattle.cms_journal.specs.declared.event.Event.TheVariants.{Missed, Now, Read, Synced, Typed, Wrote}
use Rattle.cms_journal.specs.Journal.{HasBlocks, IsAside, IsUntouched, IsWritable, Journal, adds}
use Rattle.cms_journal.specs.Told.{Grown, Told, plus}
use Rattle.cms_journal.proofs.Events.{all_weaker}
use Rattle.cms_journal.proofs.Pieces.{plus-none, plus-some}
use Rattle.cms_fields.specs.declared.time.Stamp.{Stamp}
use Rattle.cms_model.specs.Changes.{Change}
use Rattle.cms_model.specs.LawsUpdates.{after}
use Rattle.cms_model.specs.Minidisks.{Minidisk}
use Rattle.cms_model.specs.Volumes.{Disk, disk_of}
use Rattle.cms_model.specs.Beats.{IsTyped, OnlyTyped}
use Rattle.cms_model.specs.Steps.{EitherFault, OldFault}
use Rattle.cms_held.specs.HeldVolumes.{HeldVolume}
use Rattle.cms_line.specs.Typed.{TypedPart, TypedTo}
use Rattle.cms_line.proofs.TypedLines.{typed_none}
use Rattle.cms_disk.specs.Changes.{Altered, Alters, Changes, IsOnSame}
use Rattle.cms_disk.specs.Disks.{Accessed}
use Rattle.cms_disk.specs.Drafts.{IsGivenUp}
use Rattle.cms_disk.specs.declared.fault.DiskFault.{DiskFault}
use Rattle.cms_disk.specs.declared.fault.DiskFault.TheVariants as disk
use Rattle.cms_disk.proofs.DisksTold.{minidisk_aside, minidisk_same}
use Rattle.mini_work.specs.Changes.{is_denial}
use Rattle.mini_work.specs.CommandActs.{Act, Asked, Came, Changing, Cut, Denied, Did, Drafting, IsDenied, Kept, MayChange, Said, Typing, Went}
use Rattle.mini_work.specs.Stands.{Stands}

-- ---- the unit stands

-- behind events that leave it alone
pub stands_aside : (old new : Told) (d : Accessed) (m : Minidisk) (events : List Event) → Stands old d m → new ≡ plus old events
    → IsUntouched events d.volume.unit → Stands new d m
stands_aside old new d m events s told aside = record {
  at = after s.at events;
  told_is = told ∙ ap (λ (t : Told). plus t events) s.told_is ∙ plus-some s.at events;
  minidisk = minidisk_aside s.at events d m aside s.minidisk;
  readable = s.readable;
  looked = s.looked;
}

-- with the same volume
pub stands_same : (old new : Told) (d e : Accessed) (m : Minidisk) → Stands old d m → new ≡ old → e.volume ≡ d.volume → Stands new e m
stands_same old new d e m s same volume = record {
  at = s.at;
  told_is = same ∙ s.told_is;
  minidisk = minidisk_same s.at d e m volume s.minidisk;
  readable = subst (λ (v : HeldVolume). HasBlocks s.at.units v.unit v.disk.count v.disk.bsize) (sym volume) s.readable;
  looked = subst (λ (v : HeldVolume). (unit : Attached) → slice_get s.at.units v.unit ≡ Some unit → disk_of unit ≡ v.disk) (sym volume) s.looked;
}

pub typed_aside : (u : ℕ) (es : List Event) → OnlyTyped es → IsUntouched es u
typed_aside u es only =
    all_weaker IsTyped (λ e. IsAside e u) aside es only
  where
    aside : (e : Event) → IsTyped e → IsAside e u
    aside (Typed b) is = tt
    aside (Read b) is = tt
    aside (Now t) is = tt
    aside (Missed name size access) is = tt
    aside (Wrote v k bytes) is = absurd is
    aside (Synced v) is = absurd is

-- ---- and came to it by acts

-- a text was typed
pub came_said : (start : Told) (first m : Minidisk) (acts : List Act) (old new : Told) (d : Accessed) (bytes : List ℕ)
    → Came start first acts old d m → TypedTo old new bytes [] → Came start first (Said bytes ∷ acts) new d m
unfolding Went
came_said start first m acts old new d bytes came typed = record {
  went = (old, came.went, typed);
  stands = stands_aside old new d m typed.events came.stands typed.told (typed_aside d.volume.unit typed.events typed.only);
}

-- the clock was asked
pub came_asked : (start : Told) (first m : Minidisk) (acts : List Act) (old new : Told) (d : Accessed) (moment : ℤ)
    → Came start first acts old d m → new ≡ adds (Now moment) old → Came start first (Asked moment ∷ acts) new d m
unfolding Went
came_asked start first m acts old new d moment came told = record {
  went = (old, came.went, told);
  stands = stands_aside old new d m (Now moment ∷ []) came.stands told (tt, tt);
}

-- the minidisk was changed
units_kept : (old new : Told) (j later : Journal) (events : List Event) → old ≡ Some j → new ≡ Some later → new ≡ plus old events
    → later.units ≡ j.units
units_kept old new j later events at then_ grown =
    let is : new ≡ Some (after j events) = grown ∙ ap (λ (t : Told). plus t events) at ∙ plus-some j events in
    ap (λ (k : Journal). k.units) (same_Some later (after j events) (sym then_ ∙ is))

pub came_on : (start : Told) (first m : Minidisk) (acts : List Act) (old new : Told) (d e : Accessed) (change : Change) (stamp : Stamp)
    → Came start first acts old d m → (altered : Altered old new e m change stamp) → IsOnSame d e
    → Came start first (Did change stamp ∷ acts) new e altered.after
unfolding Went
came_on start first m acts old new d e change stamp came altered same =
    let s = came.stands in
    let units = units_kept old new s.at altered.later altered.changes.events s.told_is altered.told altered.changes.told in
    record {
      went = (
        old,
        m,
        subst (λ (k : Disk). Went start k e.volume.unit first acts old m) (sym same.disk)
            (subst (λ (n : ℕ). Went start d.volume.disk n first acts old m) (sym same.unit) came.went),
        altered.answer,
        altered.changes,
      );
      stands = record {
        at = altered.later;
        told_is = altered.told;
        minidisk = altered.minidisk;
        readable = subst (λ (l : List Attached). HasBlocks l e.volume.unit e.volume.disk.count e.volume.disk.bsize) (sym units)
            (subst (λ (u : ℕ). HasBlocks s.at.units u e.volume.disk.count e.volume.disk.bsize) (sym same.unit)
            (subst (λ (k : Disk). HasBlocks s.at.units d.volume.unit k.count k.bsize) (sym same.disk) s.readable));
        looked = subst (λ (l : List Attached). (unit : Attached) → slice_get l e.volume.unit ≡ Some unit → disk_of unit ≡ e.volume.disk)
            (sym units) (subst (λ (u : ℕ). (unit : Attached) → slice_get s.at.units u ≡ Some unit → disk_of unit ≡ e.volume.disk)
            (sym same.unit) (λ unit is. s.looked unit is ∙ sym same.disk));
      };
    }

-- nothing was done
pub came_still : (start : Told) (first m : Minidisk) (acts : List Act) (old new : Told) (d e : Accessed) → Came start first acts old d m
    → new ≡ old → e.volume ≡ d.volume → Came start first acts new e m
came_still start first m acts old new d e came same volume = record {
  went = subst (λ (v : HeldVolume). Went start v.disk v.unit first acts new m) (sym volume)
      (subst (λ (t : Told). Went start d.volume.disk d.volume.unit first acts t m) (sym same) came.went);
  stands = stands_same old new d e m came.stands same volume;
}

-- a host file has its name
pub came_kept : (start : Told) (first m : Minidisk) (acts : List Act) (now : Told) (d : Accessed) (name bytes : List ℕ) → Came start first acts now d m
    → Came start first (Kept name bytes ∷ acts) now d m
unfolding Went
came_kept start first m acts now d name bytes came = record { went = came.went; stands = came.stands }

-- a change was refused
pub came_denied : (start : Told) (first m : Minidisk) (acts : List Act) (now : Told) (d : Accessed) (change : Change)
    → Came start first acts now d m → IsDenied m change → Came start first (Denied change ∷ acts) now d m
unfolding Went
came_denied start first m acts now d change came denied = record { went = (came.went, denied); stands = came.stands }

pub denied_is : (old new : Told) (d e : Accessed) (m : Minidisk) (change : Change) (stamp : Stamp) (why : DiskFault) → is_denial why ≡ true
    → Alters old new d e m change stamp (Err why) → (new ≡ old) × IsDenied m change
denied_is old new d e m change stamp disk.NotFound is a = (a.0, inl a.1)
denied_is old new d e m change stamp disk.Exists is a = (a.0, inr (inl a.1))
denied_is old new d e m change stamp (disk.Limit k) is a = (a.0, inr (inr (inl (k, a.1))))
denied_is old new d e m change stamp (disk.Full need free) is a = (a.0, inr (inr (inr (need, free, a.1))))
denied_is old new d e m change stamp disk.ReadOnly is a = absurd (cc is)
denied_is old new d e m change stamp disk.Device is a = absurd (cc is)
denied_is old new d e m change stamp disk.InDoubt is a = absurd (cc is)
denied_is old new d e m change stamp disk.Altered is a = absurd (cc is)
denied_is old new d e m change stamp disk.Memory is a = absurd (cc is)

-- ---- or was cut off

-- before anything more was done
pub cut_here : (start : Told) (first m : Minidisk) (acts : List Act) (now : Told) (d : Accessed) → Came start first acts now d m
    → Cut start first acts now
cut_here start first m acts now d came = record {
  at = now;
  disk = d;
  last = m;
  came = came;
  tail = Typing [] ([], typed_none now []);
}

cut_same : (start : Told) (first m : Minidisk) (acts : List Act) (old new : Told) (d : Accessed) → Came start first acts old d m → new ≡ old
    → Cut start first acts new
cut_same start first m acts old new d came same =
    subst (λ (t : Told). Cut start first acts t) (sym same) (cut_here start first m acts old d came)

pub cut_change : (start : Told) (first m : Minidisk) (acts : List Act) (old new : Told) (d e : Accessed) (change : Change) (stamp : Stamp)
    (why : DiskFault) → Came start first acts old d m → IsOnSame d e → Alters old new d e m change stamp (Err why)
    → Cut start first acts new
cut_change start first m acts old new d e change stamp disk.NotFound came same a = cut_same start first m acts old new d came a.0
cut_change start first m acts old new d e change stamp disk.Exists came same a = cut_same start first m acts old new d came a.0
cut_change start first m acts old new d e change stamp (disk.Limit k) came same a = cut_same start first m acts old new d came a.0
cut_change start first m acts old new d e change stamp (disk.Full need free) came same a = cut_same start first m acts old new d came a.0
cut_change start first m acts old new d e change stamp disk.ReadOnly came same a = cut_same start first m acts old new d came a.0
cut_change start first m acts old new d e change stamp disk.Memory came same a = cut_same start first m acts old new d came a
cut_change start first m acts old new d e change stamp disk.Altered came same a = absurd a
cut_change start first m acts old new d e change stamp disk.Device came same a = record {
  at = old;
  disk = d;
  last = m;
  came = came;
  tail = Changing change stamp OldFault (subst (λ (u : ℕ). Changes old new d.volume.disk u m change stamp OldFault) same.unit
      (subst (λ (k : Disk). Changes old new k e.volume.unit m change stamp OldFault) same.disk a.changes));
}
cut_change start first m acts old new d e change stamp disk.InDoubt came same a = record {
  at = old;
  disk = d;
  last = m;
  came = came;
  tail = Changing change stamp (EitherFault a.side) a.changes;
}

pub cut_typing : (start : Told) (first m : Minidisk) (acts : List Act) (old new : Told) (d : Accessed) (bytes : List ℕ)
    → Came start first acts old d m → TypedPart old new bytes → Cut start first acts new
cut_typing start first m acts old new d bytes came part = record {
  at = old;
  disk = d;
  last = m;
  came = came;
  tail = Typing bytes part;
}

-- a file was written in part beside it, and given up
pub cut_drafting : (start : Told) (first m : Minidisk) (acts : List Act) (old new : Told) (d : Accessed) (change : Change) → Came start first acts old d m
    → IsGivenUp old new d m change → Cut start first acts new
cut_drafting start first m acts old new d change came given = record { at = old; disk = d; last = m; came = came; tail = Drafting given.aside }

-- ---- what calls need stays

pub none_told : (new : Told) (k : Journal) → new ≡ None → new ≡ Some k → ⊥
none_told new k none at = let e : None ≡ Some k = sym none ∙ at in cc e

pub may_still : (old new : Told) (d e : Accessed) → Grown old new → IsOnSame d e → MayChange old d → MayChange new e
may_still None new d e grown same may =
    let none : new ≡ None = grown.told ∙ plus-none grown.events in
    (λ k at. absurd (none_told new k none at), λ w k at. absurd (none_told new k none at))
may_still (Some j) new d e grown same may =
    let is : new ≡ Some (after j grown.events) = grown.told ∙ plus-some j grown.events in
    let units : (k : Journal) → new ≡ Some k → k.units ≡ j.units = λ k at. ap (λ (i : Journal). i.units) (same_Some k (after j grown.events) (sym at ∙ is)) in (
      λ k at. subst (λ (l : List Attached). HasBlocks l e.volume.unit e.volume.disk.count e.volume.disk.bsize) (sym (units k at))
          (subst (λ (u : ℕ). HasBlocks j.units u e.volume.disk.count e.volume.disk.bsize) (sym same.unit)
          (subst (λ (n : Disk). HasBlocks j.units d.volume.unit n.count n.bsize) (sym same.disk) (may.0 j refl))),
      λ w k at. subst (λ (l : List Attached). IsWritable l e.volume.unit) (sym (units k at))
          (subst (λ (u : ℕ). IsWritable j.units u) (sym same.unit) (may.1 (sym same.writable ∙ w) j refl)),
    )

pub same_on : (d : Accessed) → IsOnSame d d
same_on d = record { vdev = refl; writable = refl; unit = refl; disk = refl }
