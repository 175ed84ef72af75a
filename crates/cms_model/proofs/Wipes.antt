-- A wiping and a making are whole or absent.
use Rattle.std.proofs.Common.{◌≡◌, ◌≢◌, inl, inr, ⊎_elim, ℕ, zero, suc, ◌<◌, ◌≤◌, List, [], ◌∷◌, length, replicate, slice_index, slice_set, Ok, false, refl, sym, ◌∙◌, ap, subst, arith, length-set}
use Rattle.std.proofs.lemmas.Bool.{cases_lt}
use Rattle.cms_journal.specs.declared.event.Event.{Event}
use Rattle.cms_journal.specs.declared.event.Event.TheVariants.{Wrote, Synced}
use Rattle.cms_journal.specs.Journal.{Journal, contents_of, start_of}
use Rattle.cms_journal.proofs.Steps.{crash_wrote, contents_wrote}
use Rattle.cms_text.specs.Bytes.{word}
use Rattle.cms_fields.specs.Labels.{has_identifier}
use Rattle.cms_model.specs.Trees.{image_of}
use Rattle.cms_model.specs.Minidisks.{State, Volume, Not}
use Rattle.cms_model.specs.Volumes.{Disk, Opened, open_of, minidisk_of, state_of}
use Rattle.cms_model.specs.Settled.{IsSettled, IsFirm, Write, Apart, writes}
use Rattle.cms_model.specs.LawsUpdates.{after, now, IsFront, to_label, IsWiped, Wipes, IsMaking, Makes}
use Rattle.cms_model.proofs.OpenedVolumes.{state_opens, no_label}
use Rattle.cms_model.proofs.Fronts.{Throughout, at_front}
use Rattle.cms_model.proofs.Images.{contents_have, put_other, put_same, image_past}
use Rattle.cms_model.proofs.SettledUnits.{synced_leaves, synced_settles}
use Rattle.cms_model.proofs.Updates.{labelled, with_label_is, update_is, opens_labelled, either_of_two, either_of_update}

pub wiped_is_none : (disk : Disk) (j : Journal) (u : ℕ) → IsWiped j u → IsFirm disk j u (Not 2)
wiped_is_none disk j u wiped image left = no_label disk (image_of image) (wiped image left)

-- ---- zeros are no label

zeros_at : (size i : ℕ) → slice_index (replicate size 0) i ≡ 0
zeros_at zero i = refl
zeros_at (suc size) zero = refl
zeros_at (suc size) (suc i) = zeros_at size i

zeros_no_label : (size : ℕ) → has_identifier (replicate size 0) ≡ false
unfolding has_identifier word
zeros_no_label size = rw (zeros_at size 0, zeros_at size 1, zeros_at size 2, zeros_at size 3) refl

none_no_label : has_identifier [] ≡ false
unfolding has_identifier word
none_no_label = refl

-- zeros in block 3
zeroed : (image : List (List ℕ)) (size : ℕ) → has_identifier (image_of (slice_set image 2 (replicate size 0)) 3) ≡ false
zeroed image size = ⊎_elim
    (λ (less : length image < 3). ap has_identifier (image_past (slice_set image 2 (replicate size 0)) 3 (omega (arith, length-set image 2 (replicate size 0)))) ∙ none_no_label)
    (λ (room : 3 ≤ length image). ap has_identifier (put_same image (replicate size 0) room) ∙ zeros_no_label size)
    (cases_lt (length image) 3)

contents_zeroed : (j : Journal) (u size : ℕ) → has_identifier (now (after j (Wrote u 3 (replicate size 0) ∷ [])) u 3) ≡ false
contents_zeroed j u size =
    ap (λ (blocks : List (List ℕ)). has_identifier (image_of blocks 3)) (contents_wrote j.events u 3 (replicate size 0) (start_of j.units u) (omega arith)) ∙ zeroed (contents_of j u) size

pub wipe_is_whole : (disk : Disk) (j : Journal) (u size : ℕ) (old : State) → IsFirm disk j u old → Wipes disk j u size old
wipe_is_whole disk j u size old firm = record {
  zeroed = no_label disk (now (after j (Wrote u 3 (replicate size 0) ∷ [])) u) (contents_zeroed j u size);
  either = either_of_two (λ image. state_of disk image ≡ old) (λ image. state_of disk image ≡ Not 2) j u (replicate size 0) firm
      (λ image left. no_label disk (image_of (slice_set image 2 (replicate size 0))) (zeroed image size));
  whole = λ image left.
      ap (λ (blocks : List (List ℕ)). has_identifier (image_of blocks 3)) (synced_leaves (after j (Wrote u 3 (replicate size 0) ∷ [])) u image left) ∙ contents_zeroed j u size;
}

-- ---- a making

wiped_wrote : (j : Journal) (u k : ℕ) (bytes : List ℕ) → IsWiped j u → k ≢ 3 → IsWiped (after j (Wrote u k bytes ∷ [])) u
wiped_wrote j u k bytes wiped other image left =
    elim (crash_wrote j.events u k bytes (start_of j.units u) image left) [
      | inl same ↦ wiped image same
      | inr p ↦ ap (λ (blocks : List (List ℕ)). has_identifier (image_of blocks 3)) p.2 ∙ ap has_identifier (put_other p.0 k 3 bytes (omega arith) (inl (omega arith)) other) ∙ wiped p.0 p.1
    ]

wiped_synced : (j : Journal) (u : ℕ) → IsWiped j u → IsWiped (after j (Synced u ∷ [])) u
wiped_synced j u wiped image left =
    ap (λ (blocks : List (List ℕ)). has_identifier (image_of blocks 3)) (synced_leaves j u image left) ∙ contents_have j u (λ i. has_identifier (i 3) ≡ false) wiped

wiped_throughout : (j : Journal) (u : ℕ) (ws : List Write) → IsWiped j u → Apart ws (3 ∷ []) → Throughout (λ k. IsWiped k u) j (to_label u ws)
unfolding writes
wiped_throughout j u [] wiped apart = (wiped, wiped_synced j u wiped)
wiped_throughout j u (w ∷ ws) wiped apart =
    (wiped, wiped_throughout (after j (Wrote u w.block w.bytes ∷ [])) u ws (wiped_wrote j u w.block w.bytes wiped (λ is. apart.0 (inl is))) apart.1)

pub keeps_wiped : (j : Journal) (u : ℕ) (ws : List Write) (p : List Event) → IsWiped j u → Apart ws (3 ∷ []) → IsFront p (to_label u ws) → IsWiped (after j p) u
keeps_wiped j u ws p wiped apart front = at_front (λ k. IsWiped k u) j (to_label u ws) p (wiped_throughout j u ws wiped apart) front

pub make_is_whole : (disk : Disk) (j : Journal) (u : ℕ) (ws : List Write) (label : List ℕ) (new : Opened) → IsMaking disk j u ws label new → Makes disk j u ws label new
make_is_whole disk j u ws label new m = record {
  labelled = ap (λ (k : Journal). open_of disk (now k u)) (with_label_is j u ws label) ∙ opens;
  either = either_of_update (λ image. state_of disk image ≡ Not 2) (λ image. state_of disk image ≡ Volume (minidisk_of disk new)) j u ws label
      (λ p front. wiped_is_none disk (after j p) u (keeps_wiped j u ws p m.wiped m.apart front)) (state_opens disk (now (labelled j u ws label) u) new opens);
  whole = subst (λ (k : Journal). IsSettled disk k u new) (sym (update_is j u ws label)) (synced_settles disk (labelled j u ws label) u new opens);
}
  where
    opens : open_of disk (now (labelled j u ws label) u) ≡ Ok new
    opens = opens_labelled disk j u ws label new m.opens
