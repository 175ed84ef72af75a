-- A file that is read beside a draft: none of its blocks is written while the minidisk stands, so that the same records are left to read.
use Rattle.std.proofs.Common.{◌≡◌, ◌≢◌, ◌↔◌, inr, ℕ, zero, suc, List, [], ◌∷◌, ◌++◌, drop, length, slice_get, Some, sym, ◌∙◌, ap, subst, arith}
use Rattle.std.specs.Prelude.{slice_index}
use Rattle.std.proofs.lemmas.Option.{same_Some}
use Rattle.cms_journal.specs.declared.event.Event.{Event}
use Rattle.cms_journal.specs.declared.event.Event.TheVariants.{Read, Now, Typed, Missed, Wrote, Synced}
use Rattle.cms_journal.specs.Journal.{Journal, IsCrashImage, contents_of, start_of}
use Rattle.cms_journal.specs.Told.{OnlyOf, back, syncs}
use Rattle.cms_journal.proofs.Events.{of_aside}
use Rattle.cms_journal.proofs.Pieces.{plus-some}
use Rattle.cms_journal.proofs.Steps.{crash_old}
use Rattle.cms_fields.specs.declared.entry.Entry.{Entry}
use Rattle.cms_model.specs.Lists.{In}
use Rattle.cms_model.specs.LawsUpdates.{after, now}
use Rattle.cms_model.specs.Minidisks.{Minidisk}
use Rattle.cms_model.specs.Settled.{Agree, MayLeave}
use Rattle.cms_model.specs.Trees.{Image, Met, image_of}
use Rattle.cms_model.specs.Volumes.{Disk, blocks_of}
use Rattle.cms_model.proofs.Images.{crash_now}
use Rattle.cms_model.proofs.Members.{In-right, agree_back}
use Rattle.cms_model.proofs.OpenedVolumes.{open_ok}
use Rattle.cms_model.proofs.SettledUnits.{aside_is_as_before, crash_agrees}
use Rattle.cms_model.proofs.VolumeFrame.{LeavesIn, bytes_keep, trees_inside}
use Rattle.cms_records.specs.Pieces.{bytes_so_far, next_place}
use Rattle.cms_tree.proofs.Own.{in_drop}
use Rattle.cms_edf.proofs.Listings.{stands}
use Rattle.cms_held.specs.HeldAs.{AreHeld}
use Rattle.cms_held.specs.HeldVolumes.{HeldFile}
use Rattle.cms_disk.specs.Cursors.{HasLeft, HoldLeft, Cursor}
use Rattle.cms_disk.specs.Disks.{Accessed, IsMinidisk}
use Rattle.cms_disk.specs.Drafts.{WritesAside}

-- ---- what was there at the start, a crash may leave still

still_left : (piece events : List Event) (u : ℕ) (start image : List (List ℕ)) → OnlyOf u piece → syncs piece ≡ 0 → IsCrashImage events u start image
    → IsCrashImage (back piece events) u start image
still_left [] events u start image only none crash = crash
still_left (Wrote v k bytes ∷ es) events u start image only none crash =
    still_left es (Wrote v k bytes ∷ events) u start image only.1 none
    (subst (λ (w : ℕ). IsCrashImage (Wrote w k bytes ∷ events) u start image) (sym only.0) (crash_old events u k bytes start image crash))
still_left (Synced v ∷ es) events u start image only none crash = absurd (omega arith)
still_left (Read b ∷ es) events u start image only none crash = absurd only.0
still_left (Now m ∷ es) events u start image only none crash = absurd only.0
still_left (Typed b ∷ es) events u start image only none crash = absurd only.0
still_left (Missed name size access ∷ es) events u start image only none crash = absurd only.0

after_is : (j k : Journal) (disk : Disk) (u : ℕ) (m : Minidisk) → (aside : WritesAside (Some j) (Some k) disk u m) → k ≡ after j aside.events
after_is j k disk u m aside = same_Some k (after j aside.events) (aside.told ∙ plus-some j aside.events)

left_before : (j k : Journal) (disk : Disk) (u : ℕ) (m : Minidisk) → WritesAside (Some j) (Some k) disk u m → MayLeave k u (contents_of j u)
left_before j k disk u m aside =
    subst (λ (x : Journal). MayLeave x u (contents_of j u)) (sym (after_is j k disk u m aside))
    (still_left aside.events j.events u (start_of j.units u) (contents_of j u) aside.of_unit aside.unsynced (crash_now j.events u (start_of j.units u)))

-- ---- a file's data blocks are among those that the minidisk rests on

file_inside : (es : List Entry) (ms : List Met) (cs : List (List (List ℕ))) (hs : List HeldFile) (ns : List ℕ) (k : ℕ) (h : HeldFile) → AreHeld es ms cs hs → LeavesIn ms ns
    → slice_get hs k ≡ Some h → (n : ℕ) → In n h.tree.leaves → In n ns
file_inside [] ms cs [] ns k h held inside at n in' = absurd (cc at)
file_inside [] ms cs (x ∷ hs) ns k h held inside at n in' = absurd held
file_inside (e ∷ es) [] cs hs ns k h held inside at n in' = absurd held
file_inside (e ∷ es) (m ∷ ms) [] hs ns k h held inside at n in' = absurd held
file_inside (e ∷ es) (m ∷ ms) (c ∷ cs) [] ns k h held inside at n in' = absurd held
file_inside (e ∷ es) (m ∷ ms) (c ∷ cs) (x ∷ hs) ns zero h held inside at n in' =
    inside.0 n (subst (λ (l : List ℕ). In n l) (sym (ap (λ (y : HeldFile). y.tree.leaves) (same_Some x h at)) ∙ held.0.tree_is.leaves) in')
file_inside (e ∷ es) (m ∷ ms) (c ∷ cs) (x ∷ hs) ns (suc k) h held inside at n in' = file_inside es ms cs hs ns k h held.1 inside.1 at n in'

-- they are as they were, where the minidisk stands and was written beside
pub leaves_agree : (j k : Journal) (d : Accessed) (m : Minidisk) (place : ℕ) (h : HeldFile) → IsMinidisk k d m → WritesAside (Some j) (Some k) d.volume.disk d.volume.unit m
    → slice_get d.volume.files place ≡ Some h → Agree h.tree.leaves (now k d.volume.unit) (now j d.volume.unit)
leaves_agree j k d m place h is aside at n in' =
    let u = d.volume.unit in
    let v = is.stands.opened in
    let o = open_ok d.volume.disk (now k u) v is.stands.opens in
    let among : In n (blocks_of v.mets) =
    file_inside v.entries v.mets v.contents d.volume.files (blocks_of v.mets) place h is.stands.volume_is.files_are
    (trees_inside d.volume.disk.bsize v.label.blocks (now k u) v.directory_met.leaves 2 v.entries v.mets o.mets) at n in' in
    crash_agrees d.volume.disk k u v is.settled (contents_of j u) (left_before j k d.volume.disk u m aside) n
    (inr (inr (In-right n v.directory_met.blocks (v.map_met.blocks ++ blocks_of v.mets) (In-right n v.map_met.blocks (blocks_of v.mets) among))))

-- ---- the records that are left

pub left_there : (before later : Image) (c : Cursor) (records : List (List ℕ)) → Agree c.leaves before later → HasLeft before c records → HasLeft later c records
left_there before later c records agree left = record {
  sound = left.sound;
  sizes = λ k less. ap length (sym (agree (slice_index c.leaves k) (stands c.leaves k less))) ∙ left.sizes k less;
  held = subst (λ (l : List ℕ). HoldLeft c.bsize c.begun.fixed c.begun.longest c.left (next_place c.begun) (bytes_so_far c.begun ++ (drop c.from c.block ++ drop c.over l)) records)
      (bytes_keep before later (drop c.done c.leaves) (λ n in'. agree n (in_drop n c.done c.leaves in'))) left.held;
}

-- of a file of the minidisk beside which was written, from one moment to another at which it stands
pub left_beside : (j k : Journal) (d : Accessed) (m : Minidisk) (place : ℕ) (h : HeldFile) (c : Cursor) (records : List (List ℕ)) → IsMinidisk k d m
    → WritesAside (Some j) (Some k) d.volume.disk d.volume.unit m → slice_get d.volume.files place ≡ Some h → c.leaves ≡ h.tree.leaves
    → HasLeft (now k d.volume.unit) c records ↔ HasLeft (now j d.volume.unit) c records
left_beside j k d m place h c records is aside at leaves =
    let u = d.volume.unit in
    let agree : Agree c.leaves (now k u) (now j u) = subst (λ (l : List ℕ). Agree l (now k u) (now j u)) (sym leaves) (leaves_agree j k d m place h is aside at) in
    (left_there (now k u) (now j u) c records agree, left_there (now j u) (now k u) c records (agree_back c.leaves (now k u) (now j u) agree))

-- ---- another unit

-- it is as it was
pub else_same : (j k : Journal) (disk : Disk) (u w : ℕ) (m : Minidisk) → u ≢ w → WritesAside (Some j) (Some k) disk u m → now k w ≡ now j w
else_same j k disk u w m other aside =
    ap (λ (x : Journal). now x w) (after_is j k disk u m aside)
    ∙ ap image_of (aside_is_as_before j aside.events w (of_aside u aside.events w other aside.of_unit)).contents_same
