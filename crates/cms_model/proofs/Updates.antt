-- An update, a relabelling, a wiping and a making are whole or absent.
use Rattle.std.proofs.Common.{◌≡◌, ◌⊎◌, inl, inr, ⊎_elim, ℕ, ◌<◌, ◌≤◌, List, [], ◌∷◌, length, slice_set, Ok, true, refl, sym, ◌∙◌, ap, subst, arith, append-nil}
use Rattle.std.proofs.lemmas.Bool.{cases_lt}
use Rattle.cms_journal.specs.declared.event.Event.{Event}
use Rattle.cms_journal.specs.declared.event.Event.TheVariants.{Wrote, Synced}
use Rattle.cms_journal.specs.Journal.{Journal, contents_of, start_of}
use Rattle.cms_journal.proofs.Steps.{crash_wrote, contents_wrote}
use Rattle.cms_text.specs.Bytes.{word}
use Rattle.cms_fields.specs.Labels.{label_of, has_identifier}
use Rattle.cms_fields.specs.declared.label.Label.{Label}
use Rattle.cms_model.specs.Lists.{In}
use Rattle.cms_model.specs.Trees.{Image, image_of}
use Rattle.cms_model.specs.Volumes.{Disk, Opened, open_of, all_blocks}
use Rattle.cms_model.specs.Settled.{MayLeave, EachCrash, IsSettled, Write, writes, update}
use Rattle.cms_model.specs.LawsUpdates.{after, now, IsFront, to_label, with_label, IsUpdate, Updates, relabelled, IsRelabel, Relabels}
use Rattle.cms_model.proofs.OpenedVolumes.{open_ok, open_again, label_reads}
use Rattle.cms_model.proofs.InOrder.{in_order}
use Rattle.cms_model.proofs.VolumeFrame.{opened_under}
use Rattle.cms_model.proofs.Fronts.{after_append, fronts_of_update, Cut, cut_front, front_nil}
use Rattle.cms_model.proofs.Images.{crash_now, put_other, put_same, image_past}
use Rattle.cms_model.proofs.SettledUnits.{settled_opens, synced_now, synced_leaves, synced_settles, keeps_old}

-- the journal after the writes and their sync, with the label, and after all
abbrev pub synced : Journal → ℕ → List Write → Journal
synced j u ws = after (after j (writes u ws)) (Synced u ∷ [])

abbrev pub labelled : Journal → ℕ → List Write → List ℕ → Journal
labelled j u ws label = after (synced j u ws) (Wrote u 3 label ∷ [])

pub to_label_is : (j : Journal) (u : ℕ) (ws : List Write) → after j (to_label u ws) ≡ synced j u ws
to_label_is j u ws = after_append j (writes u ws) (Synced u ∷ [])

pub with_label_is : (j : Journal) (u : ℕ) (ws : List Write) (label : List ℕ) → after j (with_label u ws label) ≡ labelled j u ws label
with_label_is j u ws label = after_append j (writes u ws) (Synced u ∷ Wrote u 3 label ∷ [])

pub update_is : (j : Journal) (u : ℕ) (ws : List Write) (label : List ℕ) → after j (update u ws label) ≡ after (labelled j u ws label) (Synced u ∷ [])
unfolding update
update_is j u ws label = after_append j (writes u ws) (Synced u ∷ Wrote u 3 label ∷ Synced u ∷ [])

-- with the label's write the contents are what they are in the end
pub opens_labelled : (disk : Disk) (j : Journal) (u : ℕ) (ws : List Write) (label : List ℕ) (new : Opened) → open_of disk (now (after j (update u ws label)) u) ≡ Ok new
    → open_of disk (now (labelled j u ws label) u) ≡ Ok new
opens_labelled disk j u ws label new opens =
    ap (open_of disk) (sym (synced_now (labelled j u ws label) u)) ∙ ap (λ (k : Journal). open_of disk (now k u)) (sym (update_is j u ws label)) ∙ opens

-- ---- a write of block 3 and a sync

-- what such a piece's fronts are
data Two (u : ℕ) (bytes : List ℕ) (p : List Event) : Type 0 where
  nothing : p ≡ [] → Two u bytes p
  written : p ≡ Wrote u 3 bytes ∷ [] → Two u bytes p
  all : p ≡ Wrote u 3 bytes ∷ Synced u ∷ [] → Two u bytes p

two_fronts : (u : ℕ) (bytes : List ℕ) (p : List Event) → IsFront p (Wrote u 3 bytes ∷ Synced u ∷ []) → Two u bytes p
two_fronts u bytes p f = ⊎_elim
    (λ (none : p ≡ []). nothing none)
    (λ (c : Cut p (Wrote u 3 bytes) (Synced u ∷ [])). ⊎_elim
    (λ (none : c.piece ≡ []). written (c.is ∙ ap (λ (l : List Event). Wrote u 3 bytes ∷ l) none))
    (λ (d : Cut c.piece (Synced u) []). all (c.is ∙ ap (λ (l : List Event). Wrote u 3 bytes ∷ l) (d.is ∙ ap (λ (l : List Event). Synced u ∷ l) (front_nil d.piece d.front))))
    (cut_front c.piece (Synced u) [] c.front))
    (cut_front p (Wrote u 3 bytes) (Synced u ∷ []) f)

-- at each front a crash leaves an image of the one kind, where it did before, or of the other, where the write makes one
pub either_of_two : (Old New : Image → Type 0) (j : Journal) (u : ℕ) (bytes : List ℕ) → EachCrash j u Old
    → ((image : List (List ℕ)) → MayLeave j u image → New (image_of (slice_set image 2 bytes)))
    → (p : List Event) → IsFront p (Wrote u 3 bytes ∷ Synced u ∷ []) → EachCrash (after j p) u (λ image. Old image ⊎ New image)
either_of_two Old New j u bytes begun put p front = at (two_fronts u bytes p front)
  where
    wrote : EachCrash (after j (Wrote u 3 bytes ∷ [])) u (λ image. Old image ⊎ New image)
    wrote image left = elim (crash_wrote j.events u 3 bytes (start_of j.units u) image left) [
      | inl same ↦ inl (begun image same)
      | inr one ↦ inr (subst (λ (blocks : List (List ℕ)). New (image_of blocks)) (sym one.2) (put one.0 one.1))
    ]

    synced' : EachCrash (after j (Wrote u 3 bytes ∷ Synced u ∷ [])) u (λ image. Old image ⊎ New image)
    synced' image left =
        let is : image ≡ slice_set (contents_of j u) 2 bytes =
        synced_leaves (after j (Wrote u 3 bytes ∷ [])) u image left ∙ contents_wrote j.events u 3 bytes (start_of j.units u) (omega arith) in
        inr (subst (λ (blocks : List (List ℕ)). New (image_of blocks)) (sym is) (put (contents_of j u) (crash_now j.events u (start_of j.units u))))

    at : Two u bytes p → EachCrash (after j p) u (λ image. Old image ⊎ New image)
    at (nothing is) = subst (λ (l : List Event). EachCrash (after j l) u (λ image. Old image ⊎ New image)) (sym is) (λ image left. inl (begun image left))
    at (written is) = subst (λ (l : List Event). EachCrash (after j l) u (λ image. Old image ⊎ New image)) (sym is) wrote
    at (all is) = subst (λ (l : List Event). EachCrash (after j l) u (λ image. Old image ⊎ New image)) (sym is) synced'

-- ---- an update, whose last two events these are

-- the same of an update, where the contents with the label are of the other kind
pub either_of_update : (Old New : Image → Type 0) (j : Journal) (u : ℕ) (ws : List Write) (label : List ℕ)
    → ((p : List Event) → IsFront p (to_label u ws) → EachCrash (after j p) u Old) → New (now (labelled j u ws label) u)
    → (p : List Event) → IsFront p (update u ws label) → EachCrash (after j p) u (λ image. Old image ⊎ New image)
either_of_update Old New j u ws label begun new p front = at (fronts_of_update u ws label p front).which
  where
    old : EachCrash (synced j u ws) u Old
    old = subst (λ (k : Journal). EachCrash k u Old) (to_label_is j u ws) (begun (to_label u ws) (record { rest = []; is = append-nil (to_label u ws) }))

    put : (image : List (List ℕ)) → MayLeave (synced j u ws) u image → New (image_of (slice_set image 2 label))
    put image left =
        let is : image ≡ contents_of (synced j u ws) u = synced_leaves (after j (writes u ws)) u image left in
        let here = contents_wrote (synced j u ws).events u 3 label (start_of j.units u) (omega arith) in
        subst (λ (blocks : List (List ℕ)). New (image_of blocks)) (here ∙ ap (λ (blocks : List (List ℕ)). slice_set blocks 2 label) (sym is)) new

    last : (q : List Event) → IsFront q (Wrote u 3 label ∷ Synced u ∷ []) → EachCrash (after (synced j u ws) q) u (λ image. Old image ⊎ New image)
    last = either_of_two Old New (synced j u ws) u label old put

    at : IsFront p (to_label u ws) ⊎ (p ≡ with_label u ws label) ⊎ (p ≡ update u ws label) → EachCrash (after j p) u (λ image. Old image ⊎ New image)
    at (inl f) = λ image left. inl (begun p f image left)
    at (inr (inl is)) = subst (λ (k : Journal). EachCrash k u (λ image. Old image ⊎ New image)) (sym (ap (after j) is ∙ with_label_is j u ws label))
        (last (Wrote u 3 label ∷ []) (record { rest = Synced u ∷ []; is = refl }))
    at (inr (inr is)) = subst (λ (k : Journal). EachCrash k u (λ image. Old image ⊎ New image)) (sym (ap (after j) is ∙ update_is j u ws label))
        (last (Wrote u 3 label ∷ Synced u ∷ []) (record { rest = []; is = refl }))

-- ---- an update of a settled unit

pub update_is_whole : (disk : Disk) (j : Journal) (u : ℕ) (ws : List Write) (label : List ℕ) (old new : Opened) → IsUpdate disk j u ws label old new → Updates disk j u ws label old new
update_is_whole disk j u ws label old new up = record {
  labelled = ap (λ (k : Journal). open_of disk (now k u)) (with_label_is j u ws label) ∙ opens;
  either = either_of_update (λ image. open_of disk image ≡ Ok old) (λ image. open_of disk image ≡ Ok new) j u ws label
      (λ p front. settled_opens disk (after j p) u old (keeps_old disk j u ws p old up.settled up.apart front)) opens;
  whole = subst (λ (k : Journal). IsSettled disk k u new) (sym (update_is j u ws label)) (synced_settles disk (labelled j u ws label) u new opens);
}
  where
    opens : open_of disk (now (labelled j u ws label) u) ≡ Ok new
    opens = opens_labelled disk j u ws label new up.opens

-- ---- a relabelling

-- an image that opens has a block 3
has_label : (disk : Disk) (image : List (List ℕ)) (v : Opened) → open_of disk (image_of image) ≡ Ok v → 3 ≤ length image
unfolding has_identifier word
has_label disk image v e =
    let reads = label_reads disk.bsize disk.count (image_of image 3) v.label (open_ok disk (image_of image) v e).system.label in
    let identifier = reads.identifier in
    ⊎_elim
    (λ (less : length image < 3). let none : has_identifier [] ≡ true = subst (λ (b : List ℕ). has_identifier b ≡ true) (image_past image 3 less) identifier in absurd (cc none))
    (λ (room : 3 ≤ length image). room)
    (cases_lt (length image) 3)

-- an image with another label in block 3
relabel_opens : (disk : Disk) (image : List (List ℕ)) (bytes : List ℕ) (old : Opened) (label : Label) → open_of disk (image_of image) ≡ Ok old → label_of disk.bsize disk.count bytes ≡ Ok label
    → label.origin ≡ old.label.origin → label.blocks ≡ old.label.blocks
    → open_of disk (image_of (slice_set image 2 bytes)) ≡ Ok (relabelled old label)
relabel_opens disk image bytes old label e reads same_origin same_blocks =
    let o = open_ok disk (image_of image) old e in
    let order = in_order disk (image_of image) old e in
    let three = put_same image bytes (has_label disk image old e) in
    let far : (n : ℕ) → In n (old.label.origin ∷ all_blocks old) → 4 ≤ n = λ n in'. ⊎_elim
    (λ (is : n ≡ old.label.origin). from_origin n is order.origin)
    (λ deeper. ⊎_elim (λ (free : (6 ≤ n) × (n ≤ old.label.blocks)). let low = free.0 in omega arith) (λ (is : n ≡ old.label.origin). from_origin n is order.origin) (order.within n deeper))
    in' in
    open_again disk (image_of (slice_set image 2 bytes)) (relabelled old label)
    (opened_under disk (image_of image) (image_of (slice_set image 2 bytes)) old label o (ap (label_of disk.bsize disk.count) three ∙ reads) same_origin same_blocks
    (λ n in'. let low = far n in' in sym (put_other image 3 n bytes (omega arith) (inl (omega arith)) (λ e. absurd (omega (arith, e))))))
  where
    from_origin : (n : ℕ) → n ≡ old.label.origin → (old.label.origin ≡ 4) ⊎ (old.label.origin ≡ 5) → 4 ≤ n
    from_origin n is (inl four) = omega arith
    from_origin n is (inr five) = omega arith

pub relabel_is_whole : (disk : Disk) (j : Journal) (u : ℕ) (bytes : List ℕ) (old : Opened) (label : Label) → IsRelabel disk j u bytes old label → Relabels disk j u bytes old label
relabel_is_whole disk j u bytes old label r = record {
  labelled = opens;
  either = either_of_two (λ image. open_of disk image ≡ Ok old) (λ image. open_of disk image ≡ Ok (relabelled old label)) j u bytes (settled_opens disk j u old r.settled) put;
  whole = synced_settles disk (after j (Wrote u 3 bytes ∷ [])) u (relabelled old label) opens;
}
  where
    put : (image : List (List ℕ)) → MayLeave j u image → open_of disk (image_of (slice_set image 2 bytes)) ≡ Ok (relabelled old label)
    put image left = relabel_opens disk image bytes old label (settled_opens disk j u old r.settled image left) r.reads r.same_origin r.same_blocks

    opens : open_of disk (now (after j (Wrote u 3 bytes ∷ [])) u) ≡ Ok (relabelled old label)
    opens = ap (λ (blocks : List (List ℕ)). open_of disk (image_of blocks)) (contents_wrote j.events u 3 bytes (start_of j.units u) (omega arith))
        ∙ put (contents_of j u) (crash_now j.events u (start_of j.units u))
