-- The only unit of a world, before anything happened to it.
use Rattle.std.proofs.Common.{◌≡◌, ◌∙◌, inl, inr, ℕ, ◌-◌, false, List, [], ◌∷◌, length, min, Option, None, Some, Result, Ok, Err, IfOk, refl, ap, sym, subst, arith, All, slice_get}
use Rattle.std.specs.Prelude.{IfSome}
use Rattle.std.specs.Option.{ForSome}
use Rattle.std.proofs.lemmas.Option.{same_Some}
use Rattle.cms_journal.specs.declared.event.Access.{Access}
use Rattle.cms_journal.specs.declared.event.Attached.{Attached}
use Rattle.cms_journal.specs.declared.event.Event.{Event}
use Rattle.cms_journal.specs.declared.event.Event.TheVariants.{Missed, Now, Read, Synced, Typed, Wrote}
use Rattle.cms_journal.specs.Journal.{HasBlocks, IsAttached, IsBlockSize, IsUntouched, IsWritable, Journal, MayAdd, adds, contents_of, may_write}
use Rattle.cms_journal.specs.Limits.{most_blocks}
use Rattle.cms_journal.specs.Told.{Grown, NoDisk, Told, TouchesNone, back, plus}
use Rattle.cms_journal.proofs.Pieces.{plus-none, plus-some}
use Rattle.cms_model.specs.LawsSizes.{IsWhole}
use Rattle.cms_model.specs.LawsUpdates.{after, now}
use Rattle.cms_model.specs.Minidisks.{Volume}
use Rattle.cms_model.specs.Settled.{IsFirm}
use Rattle.cms_model.specs.Trees.{image_of}
use Rattle.cms_model.specs.Volumes.{Disk, Opened, disk_of, open_of, reason, state_from, state_of}
use Rattle.cms_model.specs.declared.fault.OpenFault.{OpenFault}
use Rattle.cms_model.proofs.SettledUnits.{untouched_starts}
use Rattle.cms_model.specs.Beats.{IsTyped, OnlyTyped}
use Rattle.cms_disk.specs.Disks.{Accessed, IsLeft, IsOn, IsQuiet, disk_on, told_with}
use Rattle.cms_disk.specs.EmptyMinidisks.{IsSeen}
use Rattle.cms_disk.specs.declared.fault.AccessFault.{AccessFault}
use Rattle.cms_disk.specs.declared.fault.AccessFault.TheVariants.{Open, Sync}
use Rattle.cms_disk.specs.declared.unit.UnitInfo.{UnitInfo}
use Rattle.cms_disk.proofs.DisksTold.{state_stands}
use Rattle.mini_work.specs.OpenedImages.{Attaches, IsAlone, IsNew, IsUnwritten, MayUse, Opens}
use Rattle.mini_work.specs.CommandActs.{MayChange}
use Rattle.mini_work.specs.Output.{OnlyTypes}
use Rattle.mini_work.specs.declared.fault.Fault.{Fault}
use Rattle.mini_work.proofs.UnitStands.{none_told}

-- ---- the unit as it was attached

-- it alone, and what happened since
abbrev pub alone : Attached → List Event → Journal
alone unit events = record { units = unit ∷ []; events = events }

contents_first : (unit : Attached) (events : List Event) → IsUntouched events 0 → contents_of (alone unit events) 0 ≡ unit.start
contents_first unit events aside = (untouched_starts (disk_of unit) (alone unit events) 0 aside).contents_are

whole_first : (unit : Attached) (size : ℕ) → IsBlockSize size → unit.bsize ≡ size → All (λ (block : List ℕ). length block ≡ size) unit.start
    → IsWhole (disk_of unit) (image_of unit.start)
unfolding image_of
whole_first unit size is same sized = record {
  size = subst IsBlockSize (sym same) is;
  small = omega arith;
  each = λ n from to. sized (n - 1) [] (omega (arith, from, to)) ∙ sym same;
}

-- it is quiet, since nothing happened to it
quiet_first : (disk : Disk) (unit : Attached) (events : List Event) → IsUntouched events 0 → IsQuiet disk (alone unit events) 0
unfolding state_of
quiet_first disk unit events aside = go (open_of disk (image_of unit.start)) refl
  where
    go : (r : Result Opened OpenFault) → open_of disk (image_of unit.start) ≡ r → IsQuiet disk (alone unit events) 0
    go (Ok v) is = inl (v, (untouched_starts disk (alone unit events) 0 aside).settled v is)
    go (Err why) is = inr (reason why, subst (IsFirm disk (alone unit events) 0) (ap (state_from disk) is) (untouched_starts disk (alone unit events) 0 aside).firm)

-- what is known of it
pub record Starts (unit : Attached) (info : UnitInfo) (j : Journal) : Type 0 where
  pub looked : disk_on info ≡ disk_of unit
  pub contents : now j info.unit.number ≡ image_of unit.start
  pub whole : IsWhole (disk_on info) (now j info.unit.number)
  pub quiet : IsQuiet (disk_on info) j info.unit.number
  pub seen : IsSeen j info

pub starts : (name : List ℕ) (size : ℕ) (access : Access) (told : Told) (info : UnitInfo) (a : Attaches name size access told info)
    (events : List Event) → IsUntouched events 0 → Starts a.alone.unit info (alone a.alone.unit events)
starts name size access told info a events aside =
    let unit = a.alone.unit in
    let u = a.unit in
    let j = alone unit events in
    let looked : disk_on info ≡ disk_of unit = ap (λ (n : ℕ). record { bsize = n; count = info.unit.blocks }) u.bsize
    ∙ ap (λ (n : ℕ). record { bsize = unit.bsize; count = n }) u.blocks in
    let contents : now j 0 ≡ image_of unit.start = ap image_of (contents_first unit events aside) in
    record {
      looked = looked;
      contents = ap (λ (n : ℕ). now j n) u.number ∙ contents;
      whole = subst (λ (n : ℕ). IsWhole (disk_on info) (now j n)) (sym u.number)
          (subst (λ (k : Disk). IsWhole k (now j 0)) (sym looked)
          (subst (λ (i : _). IsWhole (disk_of unit) i) (sym contents) (whole_first unit size a.alone.size_fits a.alone.size_is a.alone.sizes)));
      quiet = subst (λ (n : ℕ). IsQuiet (disk_on info) j n) (sym u.number) (quiet_first (disk_on info) unit events aside);
      seen = λ other at.
          let there : Some unit ≡ Some other = subst (λ (n : ℕ). slice_get (unit ∷ []) n ≡ Some other) u.number at in
          ap disk_of (sym (same_Some unit other there)) ∙ sym looked;
    }

-- ---- what was attached

pub attaches : (old new : Told) (name : List ℕ) (size : ℕ) (access : Access) (number blocks : ℕ) (info : UnitInfo)
    → IsBlockSize size → ForSome old (λ j. IsAttached j new name size access number blocks) → IsNew old → info.unit.number ≡ number
    → info.unit.blocks ≡ min blocks most_blocks → info.bsize ≡ size → info.writable ≡ may_write access → Attaches name size access new info
attaches old new name size access number blocks info fits attached is n b s w =
    let a = attached (record { units = []; events = [] }) is in
    record {
      alone = record {
        unit = record { name = name; bsize = size; writable = may_write access; start = a.start };
        told_is = a.told;
        name_is = refl;
        size_is = refl;
        size_fits = fits;
        writable = refl;
        sizes = a.sizes;
        made = a.made;
      };
      unit = record { number = n ∙ a.number_is; blocks = b ∙ ap (λ (k : ℕ). min k most_blocks) a.blocks_is; bsize = s; writable = w };
    }

-- and opened
pub opens : (told : Told) (name : List ℕ) (size : ℕ) (access : Access) (info : UnitInfo) (d : Accessed) → Attaches name size access told info
    → IsOn info d
    → ForSome told (λ j. IsWhole (disk_on info) (now j info.unit.number) → (false ≡ false → IsQuiet (disk_on info) j info.unit.number)
    → IsLeft (disk_on info) j info.unit.number (Ok d))
    → ForSome told (λ j. HasBlocks j.units info.unit.number info.unit.blocks info.bsize) → Opens name size access told d
opens told name size access info d a on left blocks =
    let unit = a.alone.unit in
    let j = alone unit [] in
    let s = starts name size access told info a [] tt in
    let m = left j a.alone.told_is s.whole (λ e. s.quiet) in
    let has = blocks j a.alone.told_is in
    record {
      alone = a.alone;
      first = m.0;
      holds = subst (λ (k : Disk). state_of k (image_of unit.start) ≡ Volume m.0) (on.disk ∙ s.looked)
          (subst (λ (i : _). state_of d.volume.disk i ≡ Volume m.0) (ap (λ (n : ℕ). now j n) on.number ∙ s.contents)
          (state_stands (now j d.volume.unit) d m.0 m.1.stands));
      stands = record {
        at = j;
        told_is = a.alone.told_is;
        minidisk = m.1;
        readable = subst (λ (n : ℕ). HasBlocks (unit ∷ []) n d.volume.disk.count d.volume.disk.bsize) (sym on.number)
            (subst (λ (k : Disk). HasBlocks (unit ∷ []) info.unit.number k.count k.bsize) (sym on.disk) has);
        looked = λ other at.
            s.seen other (subst (λ (n : ℕ). slice_get (unit ∷ []) n ≡ Some other) on.number at) ∙ sym on.disk;
      };
      number = on.number ∙ a.unit.number;
    }

-- ---- nothing was written

pub unwritten_new : (told : Told) → IsNew told → IsUnwritten told
unwritten_new told is = record { units = []; events = []; told_is = is; none = tt }

pub unwritten_alone : (name : List ℕ) (size : ℕ) (access : Access) (told : Told) → IsAlone name size access told → IsUnwritten told
unwritten_alone name size access told a = record { units = a.unit ∷ []; events = []; told_is = a.told_is; none = tt }

pub unwritten_missed : (name : List ℕ) (size : ℕ) (access : Access) (old new : Told) → IsNew old → MayAdd (Missed name size access) old new
    → IsUnwritten new
unwritten_missed name size access old new is (inl same) = unwritten_new new (same ∙ is)
unwritten_missed name size access old new is (inr added) = record {
  units = [];
  events = Missed name size access ∷ [];
  told_is = added ∙ ap (adds (Missed name size access)) is;
  none = (tt, tt);
}

pub unwritten_same : (old new : Told) → new ≡ old → IsUnwritten old → IsUnwritten new
unwritten_same old new same u = subst IsUnwritten (sym same) u

-- what is typed touches no unit
typed_none : (e : Event) → IsTyped e → TouchesNone e
typed_none (Typed b) is = tt
typed_none (Read b) is = tt
typed_none (Now t) is = tt
typed_none (Missed name size access) is = tt
typed_none (Wrote v k bytes) is = absurd is
typed_none (Synced v) is = absurd is

none_back : (es older : List Event) → OnlyTyped es → NoDisk older → NoDisk (back es older)
none_back [] older only none = none
none_back (e ∷ es) older only none = none_back es (e ∷ older) only.1 (typed_none e only.0, none)

pub unwritten_types : (old new : Told) → OnlyTypes old new → IsUnwritten old → IsUnwritten new
unwritten_types old new typed u = record {
  units = u.units;
  events = back typed.events u.events;
  told_is = typed.told ∙ ap (λ (t : Told). plus t typed.events) u.told_is ∙ plus-some (record { units = u.units; events = u.events }) typed.events;
  none = none_back typed.events u.events typed.only u.none;
}

-- a unit that isn't in doubt isn't synced
pub access_told : (e : AccessFault) (u : ℕ) (old new : Told) → new ≡ told_with e false u old → new ≡ old
access_told Sync u old new is = is
access_told (Open why) u old new is = is

-- ---- what is said of what is found

-- three things of it
pub found_all : {P Q R S : Accessed → Type 0} (r : Result (Option Accessed) Fault) → ((d : Accessed) → P d → Q d → R d → S d)
    → IfOk r (λ o. IfSome o P) → IfOk r (λ o. IfSome o Q) → IfOk r (λ o. IfSome o R) → IfOk r (λ o. IfSome o S)
found_all (Ok (Some d)) all p q r = all d p q r
found_all (Ok None) all p q r = tt
found_all (Err why) all p q r = tt

-- ---- what is opened may be used

pub may_opened : (told : Told) (info : UnitInfo) (d : Accessed) → MayUse told info → IsOn info d → MayChange told d
may_opened told info d may on = (
  λ k at. subst (λ (n : ℕ). HasBlocks k.units n d.volume.disk.count d.volume.disk.bsize) (sym on.number)
      (subst (λ (x : Disk). HasBlocks k.units info.unit.number x.count x.bsize) (sym on.disk) (may.blocks k at)),
  λ w k at. subst (λ (n : ℕ). IsWritable k.units n) (sym on.number) (may.writable (sym on.writable ∙ w) k at),
)

-- and stays so
pub may_use_still : (old new : Told) (info : UnitInfo) → Grown old new → MayUse old info → MayUse new info
may_use_still None new info grown may =
    let none : new ≡ None = grown.told ∙ plus-none grown.events in
    record { blocks = λ k at. absurd (none_told new k none at); writable = λ w k at. absurd (none_told new k none at) }
may_use_still (Some j) new info grown may =
    let is : new ≡ Some (after j grown.events) = grown.told ∙ plus-some j grown.events in
    let units : (k : Journal) → new ≡ Some k → k.units ≡ j.units = λ k at. ap (λ (i : Journal). i.units) (same_Some k (after j grown.events) (sym at ∙ is)) in
    record {
      blocks = λ k at. subst (λ (l : List Attached). HasBlocks l info.unit.number info.unit.blocks info.bsize) (sym (units k at)) (may.blocks j refl);
      writable = λ w k at. subst (λ (l : List Attached). IsWritable l info.unit.number) (sym (units k at)) (may.writable w j refl);
    }
