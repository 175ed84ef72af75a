-- A unit that is quiet.
use Rattle.std.proofs.Common.{◌≡◌, ⊎_elim, inl, inr, ℕ, [], ◌∷◌, None, Some, Result, Ok, Err, refl, sym, ◌∙◌, ap, subst}
use Rattle.std.proofs.lemmas.Option.{same_Some}
use Rattle.cms_journal.specs.declared.event.Event.TheVariants.{Synced}
use Rattle.cms_journal.specs.Journal.{Journal, adds, contents_of, start_of}
use Rattle.cms_journal.specs.Told.{Told}
use Rattle.cms_model.specs.Minidisks.{Minidisk, State, Volume, Not}
use Rattle.cms_model.specs.Volumes.{Disk, Opened, open_of, minidisk_of, reason, state_of, state_from}
use Rattle.cms_model.specs.Settled.{IsSettled, IsFirm}
use Rattle.cms_model.specs.LawsSizes.{IsWhole}
use Rattle.cms_model.specs.LawsUpdates.{after, now}
use Rattle.cms_model.specs.declared.fault.OpenFault.{OpenFault}
use Rattle.cms_model.specs.declared.fault.OpenFault.TheVariants as failed
use Rattle.cms_model.proofs.Images.{crash_now}
use Rattle.cms_model.proofs.OpenedVolumes.{state_opens}
use Rattle.cms_model.proofs.Results.{ok_same}
use Rattle.cms_model.proofs.SettledUnits.{sync_settles, synced_settles}
use Rattle.cms_held.specs.HeldVolumes.{HeldVolume, IsFaultOf, held_of}
use Rattle.cms_held.specs.HeldAs.{IsHeldAs}
use Rattle.cms_held.specs.HeldTrees.{TreesStand}
use Rattle.cms_held.proofs.HeldTrees.{opened_has_held}
use Rattle.cms_held.proofs.OpenedTrees.{opened_trees_stand}
use Rattle.cms_disk.specs.Disks.{Accessed, IsOn, IsMinidisk, IsQuiet, AnswersAccess, IsRefused, disk_on}
use Rattle.cms_disk.specs.declared.unit.UnitInfo.{UnitInfo}
use Rattle.cms_disk.specs.LawsDisks.{QuietRests, SyncQuiets}

-- what a quiet unit that is none holds now
pub firm_now : (disk : Disk) (j : Journal) (u : ℕ) (state : State) → IsFirm disk j u state → state_of disk (now j u) ≡ state
firm_now disk j u state firm = firm (contents_of j u) (crash_now j.events u (start_of j.units u))

volume_or_none : (m : Minidisk) (k : ℕ) → Volume m ≡ Not k → ⊥
volume_or_none m k e = cc

none_same : (a b : ℕ) → Not a ≡ Not b → a ≡ b
none_same a b e = cc

ok_or_err : (v : Opened) (why : OpenFault) → ◌≡◌ {A = Result Opened OpenFault} (Ok v) (Err why) → ⊥
ok_or_err v why e = cc

pub quiet_rests : QuietRests
unfolding state_of
quiet_rests disk j u quiet = record {
  settled = λ v opens. ⊎_elim
      (λ (s : (w : Opened) × IsSettled disk j u w). subst (IsSettled disk j u) (ok_same s.0 v (sym s.1.opens ∙ opens)) s.1)
      (λ (n : (k : ℕ) × IsFirm disk j u (Not k)). absurd (volume_or_none (minidisk_of disk v) n.0 (sym (state_opens disk (now j u) v opens) ∙ firm_now disk j u (Not n.0) n.1)))
      quiet;
  refused = λ why bad. ⊎_elim
      (λ (s : (w : Opened) × IsSettled disk j u w). absurd (ok_or_err s.0 why (sym s.1.opens ∙ bad)))
      (λ (n : (k : ℕ) × IsFirm disk j u (Not k)).
      let is : Not n.0 ≡ Not (reason why) = sym (firm_now disk j u (Not n.0) n.1) ∙ ap (state_from disk) bad in
      subst (IsFirm disk j u) is n.1)
      quiet;
}

pub sync_quiets : SyncQuiets
unfolding state_of
sync_quiets disk j u = go (open_of disk (now j u)) refl
  where
    go : (r : Result Opened OpenFault) → open_of disk (now j u) ≡ r → IsQuiet disk (after j (Synced u ∷ [])) u
    go (Ok v) is = inl (v, synced_settles disk j u v is)
    go (Err why) is = inr (reason why, subst (IsFirm disk (after j (Synced u ∷ [])) u) (ap (state_from disk) is) (sync_settles disk j u).firm)

pub synced_told : (disk : Disk) (u : ℕ) (old : Told) (j : Journal) → adds (Synced u) old ≡ Some j → IsQuiet disk j u
synced_told disk u None j is = absurd (cc is)
synced_told disk u (Some before) j is = subst (λ (k : Journal). IsQuiet disk k u) (same_Some _ j is) (sync_quiets disk before u)

-- an access of a quiet unit leaves it settled at the volume that opens
pub opened_leaves : (unit : UnitInfo) (j : Journal) (d : Accessed) → IsOn unit d → AnswersAccess unit (now j unit.unit.number) (Ok d) → IsWhole (disk_on unit) (now j unit.unit.number)
    → IsQuiet (disk_on unit) j unit.unit.number → (m : Minidisk) × IsMinidisk j d m
opened_leaves unit j d at answers whole quiet =
    let u = unit.unit.number in
    let rests = quiet_rests (disk_on unit) j u quiet in
    let v = answers.0 in
    let settled = rests.settled v answers.1 in
    let opens : open_of d.volume.disk (now j d.volume.unit) ≡ Ok v =
    subst (λ (n : ℕ). open_of d.volume.disk (now j n) ≡ Ok v) (sym at.number) (subst (λ (k : Disk). open_of k (now j u) ≡ Ok v) (sym at.disk) answers.1) in
    let here : IsWhole d.volume.disk (now j d.volume.unit) =
    subst (λ (n : ℕ). IsWhole d.volume.disk (now j n)) (sym at.number) (subst (λ (k : Disk). IsWhole k (now j u)) (sym at.disk) whole) in
    let volume : d.volume ≡ held_of d.volume.unit d.volume.disk (now j d.volume.unit) v =
    answers.2 ∙ (ap (λ (n : ℕ). held_of n (disk_on unit) (now j n) v) (sym at.number) ∙ ap (λ (k : Disk). held_of d.volume.unit k (now j d.volume.unit) v) (sym at.disk)) in (
      minidisk_of d.volume.disk v,
      record {
        stands = record {
          whole = here;
          opened = v;
          opens = opens;
          volume_is = subst (IsHeldAs d.volume.unit d.volume.disk (now j d.volume.unit) v) (sym volume) (opened_has_held d.volume.unit d.volume.disk (now j d.volume.unit) v opens);
          minidisk_is = refl;
        };
        settled = subst (λ (n : ℕ). IsSettled d.volume.disk j n v) (sym at.number) (subst (λ (k : Disk). IsSettled k j u v) (sym at.disk) settled);
        trees = subst (λ (w : HeldVolume). TreesStand w (now j d.volume.unit)) (sym volume)
            (opened_trees_stand d.volume.unit d.volume.disk (now j d.volume.unit) v here opens);
      },
    )

-- and a refused one is none in every crash image
pub refused_leaves : (disk : Disk) (j : Journal) (u : ℕ) (why : OpenFault) → IsFaultOf (open_of disk (now j u)) why → IsQuiet disk j u → IsRefused disk j u why
refused_leaves disk j u failed.Device answers quiet = quiet
refused_leaves disk j u failed.Memory answers quiet = quiet
refused_leaves disk j u (failed.Label k) answers quiet = (quiet_rests disk j u quiet).refused (failed.Label k) answers
refused_leaves disk j u (failed.Entry n k) answers quiet = (quiet_rests disk j u quiet).refused (failed.Entry n k) answers
refused_leaves disk j u (failed.Pointer holder value) answers quiet = (quiet_rests disk j u quiet).refused (failed.Pointer holder value) answers
refused_leaves disk j u (failed.Crossed n) answers quiet = (quiet_rests disk j u quiet).refused (failed.Crossed n) answers
refused_leaves disk j u (failed.MapMissing n) answers quiet = (quiet_rests disk j u quiet).refused (failed.MapMissing n) answers
refused_leaves disk j u (failed.Var n k) answers quiet = (quiet_rests disk j u quiet).refused (failed.Var n k) answers
refused_leaves disk j u (failed.Twice n) answers quiet = (quiet_rests disk j u quiet).refused (failed.Twice n) answers
refused_leaves disk j u (failed.System n) answers quiet = (quiet_rests disk j u quiet).refused (failed.System n) answers
