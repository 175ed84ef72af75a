-- What a crash may leave of a settled unit, and of one that is synced, untouched or left alone.
use Rattle.std.proofs.Common.{◌≡◌, ◌≢◌, ⊎_elim, ℕ, List, [], ◌∷◌, Ok, refl, sym, ◌∙◌, ap, subst, arith}
use Rattle.cms_journal.specs.declared.event.Event.{Event}
use Rattle.cms_journal.specs.declared.event.Event.TheVariants.{Wrote, Synced}
use Rattle.cms_journal.specs.Journal.{Journal, IsUntouched, contents_of, start_of}
use Rattle.cms_journal.proofs.Steps.{crash_synced}
use Rattle.cms_model.specs.Lists.{In}
use Rattle.cms_model.specs.Trees.{image_of}
use Rattle.cms_model.specs.Minidisks.{Volume}
use Rattle.cms_model.specs.Volumes.{Disk, Opened, open_of, minidisk_of, state_of}
use Rattle.cms_model.specs.Settled.{frame, Agree, MayLeave, EachCrash, IsSettled, IsFirm, Write, Apart, writes}
use Rattle.cms_model.specs.LawsUpdates.{after, now, StartsAs, SyncedAs, AsBefore, IsFront, to_label}
use Rattle.cms_model.proofs.OpenedVolumes.{open_keeps, state_opens}
use Rattle.cms_model.proofs.InOrder.{frame_low}
use Rattle.cms_model.proofs.Fronts.{Throughout, at_front}
use Rattle.cms_model.proofs.Images.{wrote_other, synced_contents, left_unwritten, aside_same, untouched_start}

-- what a crash leaves of a settled unit agrees with its contents on the frame
pub crash_agrees : (disk : Disk) (j : Journal) (u : ℕ) (v : Opened) → IsSettled disk j u v → (image : List (List ℕ)) → MayLeave j u image → Agree (frame v) (now j u) (image_of image)
crash_agrees disk j u v settled image left n in' =
    left_unwritten j.events u (start_of j.units u) image left n (let low = frame_low disk (now j u) v settled.opens n in' in omega arith) (settled.firm n in')

pub settled_opens : (disk : Disk) (j : Journal) (u : ℕ) (v : Opened) → IsSettled disk j u v → EachCrash j u (λ image. open_of disk image ≡ Ok v)
settled_opens disk j u v settled image left = open_keeps disk (now j u) (image_of image) v settled.opens (crash_agrees disk j u v settled image left)

pub settled_is_firm : (disk : Disk) (j : Journal) (u : ℕ) (v : Opened) → IsSettled disk j u v → EachCrash j u (λ image. open_of disk image ≡ Ok v) × IsFirm disk j u (Volume (minidisk_of disk v))
settled_is_firm disk j u v settled = (
  settled_opens disk j u v settled,
  λ image left. state_opens disk (image_of image) v (settled_opens disk j u v settled image left),
)

-- ---- a write apart from the frame

pub settled_wrote : (disk : Disk) (j : Journal) (u k : ℕ) (bytes : List ℕ) (v : Opened) → IsSettled disk j u v → (In k (frame v) → ⊥) → IsSettled disk (after j (Wrote u k bytes ∷ [])) u v
settled_wrote disk j u k bytes v settled apart =
    let other : (n : ℕ) → In n (frame v) → k ≢ n = λ n in' is. apart (subst (λ (x : ℕ). In x (frame v)) (sym is) in') in
    record {
      opens = open_keeps disk (now j u) (now (after j (Wrote u k bytes ∷ [])) u) v settled.opens
          (λ n in'. sym (wrote_other j.events u k n bytes (start_of j.units u) (let low = frame_low disk (now j u) v settled.opens n in' in omega arith) (other n in')));
      firm = λ n in' b w. ⊎_elim (λ here. other n in' here.1) (λ more. settled.firm n in' b more) w;
    }

-- ---- a sync

pub synced_now : (j : Journal) (u : ℕ) → now (after j (Synced u ∷ [])) u ≡ now j u
synced_now j u = ap image_of (synced_contents u j.events u (start_of j.units u))

pub synced_leaves : (j : Journal) (u : ℕ) → (image : List (List ℕ)) → MayLeave (after j (Synced u ∷ [])) u image → image ≡ contents_of j u
synced_leaves j u image left = crash_synced j.events u (start_of j.units u) image left

pub synced_settles : (disk : Disk) (j : Journal) (u : ℕ) (v : Opened) → open_of disk (now j u) ≡ Ok v → IsSettled disk (after j (Synced u ∷ [])) u v
synced_settles disk j u v opens = record {
  opens = ap (open_of disk) (synced_now j u) ∙ opens;
  firm = λ n in' bytes w. w.0 refl;
}

pub sync_settles : (disk : Disk) (j : Journal) (u : ℕ) → SyncedAs disk j u
sync_settles disk j u = record {
  contents_same = synced_contents u j.events u (start_of j.units u);
  leaves = λ image left. ap image_of (synced_leaves j u image left);
  firm = λ image left. ap (λ (blocks : List (List ℕ)). state_of disk (image_of blocks)) (synced_leaves j u image left);
  settled = λ v opens. synced_settles disk j u v opens;
}

-- ---- units that nothing happened to

pub untouched_starts : (disk : Disk) (j : Journal) (u : ℕ) → IsUntouched j.events u → StartsAs disk j u
untouched_starts disk j u h =
    let start = start_of j.units u in
    let begun = untouched_start j.events u start h in
    record {
      contents_are = begun.contents_are;
      firm = λ image left. ap (λ (blocks : List (List ℕ)). state_of disk (image_of blocks)) (begun.crash_is image left);
      settled = λ v opens. record {
        opens = ap (λ (blocks : List (List ℕ)). open_of disk (image_of blocks)) begun.contents_are ∙ opens;
        firm = λ n in'. begun.none n;
      };
    }

pub aside_is_as_before : (j : Journal) (piece : List Event) (u : ℕ) → IsUntouched piece u → AsBefore j piece u
aside_is_as_before j piece u h =
    let start = start_of j.units u in
    let same = aside_same piece j.events u start h in
    record {
      contents_same = same.contents_same;
      crash_same = same.crash_same;
      settled_same = λ disk v settled. record {
        opens = ap (λ (blocks : List (List ℕ)). open_of disk (image_of blocks)) same.contents_same ∙ settled.opens;
        firm = λ n in' bytes w. settled.firm n in' bytes (same.since n bytes w);
      };
    }

-- ---- the writes of an update and their sync

keeps_throughout : (disk : Disk) (j : Journal) (u : ℕ) (ws : List Write) (v : Opened) → IsSettled disk j u v → Apart ws (frame v) → Throughout (λ k. IsSettled disk k u v) j (to_label u ws)
unfolding writes
keeps_throughout disk j u [] v settled apart = (settled, synced_settles disk j u v settled.opens)
keeps_throughout disk j u (w ∷ ws) v settled apart =
    (settled, keeps_throughout disk (after j (Wrote u w.block w.bytes ∷ [])) u ws v (settled_wrote disk j u w.block w.bytes v settled apart.0) apart.1)

pub keeps_old : (disk : Disk) (j : Journal) (u : ℕ) (ws : List Write) (p : List Event) (old : Opened) → IsSettled disk j u old → Apart ws (frame old) → IsFront p (to_label u ws)
    → IsSettled disk (after j p) u old
keeps_old disk j u ws p old settled apart front = at_front (λ k. IsSettled disk k u old) j (to_label u ws) p (keeps_throughout disk j u ws old settled apart) front
