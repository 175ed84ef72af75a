-- A read that fails while a draft is written: a step of the machine whose piece has the draft's writes.
use Rattle.std.proofs.Common.{◌≡◌, inl, inr, ℕ, List, [], ◌∷◌, Some, Option, refl, sym, ◌∙◌, ap, subst, arith, slice_get}
use Rattle.std.specs.Prelude.{None, option_map}
use Rattle.std.proofs.lemmas.Bool.Decides.{eqb_tells}
use Rattle.cms_journal.specs.declared.event.Event.{Event}
use Rattle.cms_journal.specs.declared.event.Event.TheVariants.{Read, Now, Typed, Missed, Wrote, Synced}
use Rattle.cms_journal.specs.Causes.{Counted}
use Rattle.cms_journal.specs.Journal.{Journal}
use Rattle.cms_journal.specs.Told.{OnlyOf, Told, syncs}
use Rattle.cms_journal.proofs.Events.{of_aside}
use Rattle.cms_model.specs.LawsUpdates.{now}
use Rattle.cms_model.specs.Minidisks.{File, Minidisk, State, Volume}
use Rattle.cms_model.specs.Volumes as volumes
use Rattle.cms_model.specs.Volumes.{state_of}
use Rattle.cms_model.specs.Acts.{Act, Does}
use Rattle.cms_model.specs.Beats.{AreStamped, Covers, FitsStep, KeepsConsole, OnlyDisk}
use Rattle.cms_model.specs.Points.{HasNow, HasNowIn, Point, Sound}
use Rattle.cms_model.specs.Runs.{Ran}
use Rattle.cms_model.specs.Slots.{Settled, Slot, state_in, unit_set, unit_state}
use Rattle.cms_model.specs.Steps.{Get, Offers, Outcome, ReadFault}
use Rattle.cms_model.proofs.Aside.{covers_aside, now_aside}
use Rattle.cms_model.proofs.Single.{OwnNow, ran_step_all}
use Rattle.cms_disk.specs.Disks.{Accessed, IsLookedAt}
use Rattle.cms_disk.specs.Drafts.{Stands, WritesAside}
use Rattle.cms_disk.proofs.CrashStates.{covers_looked}
use Rattle.cms_disk.proofs.DisksTold.{state_stands}
use Rattle.cms_search.proofs.Changes.{looked_changed}

-- ---- the piece

-- with no sync, the events of a unit are its writes
only_writes : (es : List Event) (w u : ℕ) → OnlyOf w es → syncs es ≡ 0 → OnlyDisk u es
only_writes [] w u only none = tt
only_writes (Wrote v k bytes ∷ es) w u only none = (tt, only_writes es w u only.1 none)
only_writes (Synced v ∷ es) w u only none = absurd (omega arith)
only_writes (Read b ∷ es) w u only none = absurd only.0
only_writes (Now m ∷ es) w u only none = absurd only.0
only_writes (Typed b ∷ es) w u only none = absurd only.0
only_writes (Missed name size access ∷ es) w u only none = absurd only.0

-- where they begin no directory of their own unit, they begin none of another
stamped_beside : (es : List Event) (w u : ℕ) → OnlyOf w es → AreStamped w None es → AreStamped u None es
stamped_beside [] w u only aside = tt
stamped_beside (Wrote v k bytes ∷ es) w u only aside = ((λ same. aside.0 only.0), stamped_beside es w u only.1 aside.1)
stamped_beside (Synced v ∷ es) w u only aside = (tt, stamped_beside es w u only.1 aside.1)
stamped_beside (Read b ∷ es) w u only aside = absurd only.0
stamped_beside (Now m ∷ es) w u only aside = absurd only.0
stamped_beside (Typed b ∷ es) w u only aside = absurd only.0
stamped_beside (Missed name size access ∷ es) w u only aside = absurd only.0

-- ---- the step

-- a draft goes on, on a disk that the machine has as this minidisk
pub record DraftedOn (p q : Point) (d : Accessed) (m : Minidisk) : Type 0 where
  pub slot : slice_get p.units d.volume.unit ≡ Some (Settled (Volume m))
  pub before : Journal
  pub told_is : p.journal ≡ Some before
  pub looked : IsLookedAt before d
  pub stands : Stands q.journal d m
  pub aside : WritesAside p.journal q.journal d.volume.disk d.volume.unit m
  pub same : q.units ≡ p.units
  pub objects : q.objects ≡ p.objects

module _ (p q : Point) (d : Accessed) (m : Minidisk) (x : DraftedOn p q d m) where
  set_before : unit_set p.units d.volume.unit ≡ Volume m ∷ []
  set_before = let slot = x.slot in rw slot refl

  covered : Sound p → (v : ℕ) → Covers p.journal x.aside.events v (unit_set p.units v) (unit_set q.units v)
  covered sound v = elim (eqb_tells d.volume.unit v) [
    | inl is ↦
        let own : Covers p.journal x.aside.events d.volume.unit (unit_set p.units d.volume.unit) (unit_set q.units d.volume.unit) =
        subst (λ (us : List Slot). Covers p.journal x.aside.events d.volume.unit (unit_set p.units d.volume.unit) (unit_set us d.volume.unit)) (sym x.same)
        (subst (λ (l : List State). Covers p.journal x.aside.events d.volume.unit l l) (sym set_before)
        (covers_looked d.volume.disk p.journal x.before x.aside.events d.volume.unit (Volume m ∷ []) (Volume m ∷ []) x.told_is x.looked x.aside.covers)) in
        subst (λ (n : ℕ). Covers p.journal x.aside.events n (unit_set p.units n) (unit_set q.units n)) is.1 own
    | inr other ↦
        covers_aside p x.aside.events v (unit_set q.units v) (of_aside d.volume.unit x.aside.events v other.1 x.aside.of_unit) (ap (λ (us : List Slot). unit_set us v) x.same) sound
  ]

  -- the contents of the disk's unit are the minidisk still
  own_now : OwnNow q d.volume.unit
  own_now y has =
      let k = x.stands.at in
      let u = d.volume.unit in
      let looked : IsLookedAt k d = looked_changed p.journal q.journal x.before k d d x.aside.events x.told_is x.stands.told_is x.aside.told refl refl x.looked in
      let here : HasNowIn k u y = subst (λ (t : Told). HasNow t u y) x.stands.told_is has in
      let state : state_of d.volume.disk (now k u) ≡ Volume m = state_stands (now k u) d m x.stands.minidisk.stands in
      let is : Volume m ≡ y = sym state ∙ (ap (λ (disk : volumes.Disk). state_of disk (now k u)) (sym (looked here.unit here.attached)) ∙ here.state) in
      ap (λ (us : List Slot). unit_state us u) x.same ∙ (ap (λ (z : Option Slot). option_map state_in z) x.slot ∙ ap (λ (z : State). Some z) is)

  each_now : Sound p → (v : ℕ) → OwnNow q v
  each_now sound v = elim (eqb_tells d.volume.unit v) [
    | inl is ↦ subst (OwnNow q) is.1 own_now
    | inr other ↦ λ y has.
        let before : HasNow p.journal v y =
        now_aside p.journal x.aside.events v y (of_aside d.volume.unit x.aside.events v other.1 x.aside.of_unit) (subst (λ (t : Told). HasNow t v y) x.aside.told has) in
        ap (λ (us : List Slot). unit_state us v) x.same ∙ sound.now v y before
  ]

  -- the read of a file failed, before a record was handed out
  pub read_failed_beside : {R : Type 0} (u : ℕ) (f : File) (wanted : ℕ) (k : Outcome → Act R) → Offers (slice_get p.units u) f wanted → Counted p.faults 1 q.faults → KeepsConsole p q
      → Ran p q (Does (Get u f wanted) k) (k (ReadFault 0))
  read_failed_beside u f wanted k offers counted console =
      let es = x.aside.events in
      let fits : FitsStep (Get u f wanted) (ReadFault 0) es = record {
        disk = only_writes es d.volume.unit u x.aside.of_unit x.aside.unsynced;
        synced = x.aside.unsynced;
        stamped = stamped_beside es d.volume.unit u x.aside.of_unit x.aside.aside;
        few = tt;
        outcome = omega arith;
      } in
      ran_step_all p q (Get u f wanted) (ReadFault 0) k es x.aside.told counted fits offers x.same console x.objects covered each_now
