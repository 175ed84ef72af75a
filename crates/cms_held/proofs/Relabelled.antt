-- A volume with another volume id.
use Rattle.std.proofs.Common.{◌≡◌, ◌≢◌, ◌⊎◌, inl, inr, ℕ, suc, ◌<◌, ◌≤◌, ◌^◌, Bool, true, false, List, [], ◌∷◌, length, map, if◌then◌else◌, Some, Ok, refl, sym, ◌∙◌, ap, arith}
use Rattle.std.specs.Prelude.{◌==◌}
use Rattle.std.proofs.lemmas.Bool.{eqb-true, cases_eq}
use Rattle.cms_journal.specs.Journal.{Journal, start_of}
use Rattle.cms_journal.specs.declared.event.Event.TheVariants.{Wrote}
use Rattle.cms_journal.proofs.Sizes.{block_bounds}
use Rattle.cms_fields.specs.Labels.{label_of, is_origin}
use Rattle.cms_fields.specs.declared.label.Label.{Label}
use Rattle.cms_model.specs.Lists.{In}
use Rattle.cms_model.specs.Trees.{Image, bytes_at}
use Rattle.cms_model.specs.Minidisks.{File, Minidisk}
use Rattle.cms_model.specs.Changes.{Relabel, changed, changed_files, need, written_file}
use Rattle.cms_model.specs.Volumes.{Disk}
use Rattle.cms_model.specs.Stands.{Kept, Layout, file_of, layout_blocks, minidisk_in, opened}
use Rattle.cms_model.specs.Settled.{Write, writes}
use Rattle.cms_model.specs.LawsRoom.{IsWithin}
use Rattle.cms_model.specs.LawsSizes.{IsWhole}
use Rattle.cms_model.specs.LawsUpdates.{after, now, put_block, relabel}
use Rattle.cms_model.proofs.Needs.{changed_where_made}
use Rattle.cms_model.proofs.OpenedVolumes.{open_ok}
use Rattle.cms_model.proofs.Repeats.{held, in_held}
use Rattle.cms_model.proofs.SettledUnits.{synced_now}
use Rattle.cms_model.proofs.Updates.{relabel_is_whole}
use Rattle.cms_model.proofs.WritesPut.{writes_put}
use Rattle.cms_map.specs.Bits.{bits_in}
use Rattle.cms_held.specs.HeldVolumes.{HeldVolume}
use Rattle.cms_held.specs.LawsRenewals.{IsHeldAt}
use Rattle.cms_held.specs.LawsEdits.{RelabelIsHeld, relabelled, with_volid}
use Rattle.cms_held.proofs.NewLabel.{label_length, new_label}
use Rattle.cms_held.proofs.OldBlocks.{HasBlocksOf, old_blocks, past_label}
use Rattle.cms_held.proofs.Exchanged.{other}
use Rattle.cms_held.proofs.StillHeld.{same_map, same_stands}
use Rattle.cms_held.proofs.Edits.{beside_count}
use Rattle.cms_held.proofs.TreesStay.{trees_stay}

-- ---- the label

record NewLabel (j : Journal) (v : HeldVolume) (volid : List ℕ) : Type 0 where
  reads : label_of v.disk.bsize v.disk.count (relabelled v volid).label_bytes ≡ Ok (with_volid v.label volid)
  long : length (relabelled v volid).label_bytes ≡ v.disk.bsize

is_origin_same : (o : ℕ) → (o ≡ 4) ⊎ (o ≡ 5) → is_origin o ≡ true
unfolding is_origin
is_origin_same o (inl four) = rw four refl
is_origin_same o (inr five) = rw five refl

label_new : (j : Journal) (v : HeldVolume) (old : Layout) (volid : List ℕ) → IsHeldAt j v old → length volid ≡ 6 → v.label.in_use < 2 ^ 32 → NewLabel j v volid
label_new j v old volid x six in_use =
    let h = old_blocks j v old x in
    let size = h.size in let top = h.top in
    let low = (block_bounds v.disk.bsize x.whole.size).0 in
    let long : length v.label_bytes ≡ v.disk.bsize = ap (λ (l : List ℕ). length l) x.held.bytes_are ∙ x.whole.each 3 (omega arith) (omega arith) in
    let spelled : label_of v.disk.bsize v.disk.count v.label_bytes ≡ Ok v.label = ap (label_of v.disk.bsize v.disk.count) x.held.bytes_are ∙ (x.stands.system.label ∙ ap Ok (sym h.label)) in
    let origin : v.label.origin ≡ old.label.origin = ap (λ (l : Label). l.origin) h.label in
    let blocks : v.label.blocks ≡ old.label.blocks = ap (λ (l : Label). l.blocks) h.label in
    let o = other old.label.origin h.origin in
    let high = o.old_high in
    record {
      reads = new_label v.disk.bsize v.disk.count v.label_bytes v.label (with_volid v.label volid) spelled (omega arith) six refl refl (ap is_origin origin ∙ is_origin_same old.label.origin h.origin)
          (omega arith) in_use (omega arith);
      long = label_length (with_volid v.label volid) v.label_bytes six (omega arith) ∙ long;
    }

-- ---- the image

abbrev later_of : Journal → HeldVolume → List ℕ → Journal
later_of j v volid = after j (relabel v.unit (relabelled v volid).label_bytes)

abbrev label_write : HeldVolume → List ℕ → Write
label_write v volid = record { block = 3; bytes = (relabelled v volid).label_bytes }

image_is : (j : Journal) (v : HeldVolume) (volid : List ℕ) → 3 ≤ length (start_of j.units v.unit) → (n : ℕ) → 1 ≤ n
    → now (later_of j v volid) v.unit n ≡ put_block (now j v.unit) (label_write v volid) n
unfolding writes
image_is j v volid three n some =
    let w = label_write v volid in
    ap (λ (i : Image). i n) (synced_now (after j (Wrote v.unit 3 (relabelled v volid).label_bytes ∷ [])) v.unit)
    ∙ writes_put j v.unit (w ∷ []) n ((omega arith), three, tt) some

aside : (image : Image) (w : Write) (n : ℕ) → w.block ≡ 3 → n ≢ 3 → put_block image w n ≡ image n
aside image w n at ne = go (n == w.block) refl
  where
    go : (b : Bool) → (n == w.block) ≡ b → (if b then w.bytes else image n) ≡ image n
    go true is = absurd (ne (eqb-true n w.block is ∙ at))
    go false is = refl

record Later (j : Journal) (v : HeldVolume) (old : Layout) (volid : List ℕ) : Type 0 where
  label : now (later_of j v volid) v.unit 3 ≡ (relabelled v volid).label_bytes
  same : (n : ℕ) → In n (layout_blocks old) → now j v.unit n ≡ now (later_of j v volid) v.unit n
  whole : IsWhole v.disk (now (later_of j v volid) v.unit)

later_image : (j : Journal) (v : HeldVolume) (old : Layout) (volid : List ℕ) → IsHeldAt j v old → NewLabel j v volid → Later j v old volid
later_image j v old volid x l = record {
  label = is 3 (omega arith);
  same = λ n in'. (let there = held n (layout_blocks old) (in_held n (layout_blocks old) in') in
      let low = past_label h n there in
      sym (elsewhere n (omega arith) (λ e. omega (arith, e))));
  whole = record { size = x.whole.size; small = x.whole.small; each = λ n from to. long n from to (cases_eq n 3) };
}
  where
    h : HasBlocksOf v.disk.count (bytes_at (now j v.unit) old.map_met.leaves) v old
    h = old_blocks j v old x

    is : (n : ℕ) → 1 ≤ n → now (later_of j v volid) v.unit n ≡ put_block (now j v.unit) (label_write v volid) n
    is = let size = h.size in let top = h.top in let attached = x.attached in image_is j v volid (omega arith)

    elsewhere : (n : ℕ) → 1 ≤ n → n ≢ 3 → now (later_of j v volid) v.unit n ≡ now j v.unit n
    elsewhere n some ne = is n some ∙ aside (now j v.unit) (label_write v volid) n refl ne

    long : (n : ℕ) → 1 ≤ n → n ≤ v.disk.count → (n ≡ 3) ⊎ (n ≢ 3) → length (now (later_of j v volid) v.unit n) ≡ v.disk.bsize
    long n from to (inl at) = ap (λ (k : ℕ). length (now (later_of j v volid) v.unit k)) at ∙ (ap (λ (b : List ℕ). length b) (is 3 (omega arith)) ∙ l.long)
    long n from to (inr ne) = ap (λ (b : List ℕ). length b) (elsewhere n from ne) ∙ x.whole.each n from to

-- ---- the whole

none_written : (m : Minidisk) (volid : List ℕ) (f : File) → written_file m (Relabel volid) ≡ Some f → IsWithin f
unfolding written_file
none_written m volid f e = absurd (cc)

no_need : (m : Minidisk) (volid : List ℕ) → need m (Relabel volid) ≡ 0
unfolding need
no_need m volid = refl

pub changed_is : (disk : Disk) (old : Layout) (volid : List ℕ) (label : Label)
    → minidisk_in disk (record old { label = with_volid label volid }) ≡ changed (minidisk_in disk (record old { label = label })) (Relabel volid)
unfolding changed changed_files
changed_is disk old volid label = refl

map_count : (fs : List Kept) → length (map file_of fs) ≡ length fs
map_count [] = refl
map_count (f ∷ fs) = ap suc (map_count fs)

pub relabel_is_held : RelabelIsHeld
relabel_is_held j v old volid x kept six in_use =
    let h = old_blocks j v old x in
    let l = label_new j v old volid x six in_use in
    let i = later_image j v old volid x l in
    let label = with_volid v.label volid in
    let new : Layout = record old { label = label } in
    let before = now j v.unit in
    let later = now (later_of j v volid) v.unit in
    let same_label : v.label ≡ old.label = x.held.label_is in
    let blocks : v.label.blocks ≡ old.label.blocks = ap (λ (k : Label). k.blocks) same_label in
    let ups = relabel_is_whole v.disk j v.unit (relabelled v volid).label_bytes (opened old) label
    (record { settled = x.settled; reads = l.reads; same_origin = ap (λ (k : Label). k.origin) same_label; same_blocks = blocks }) in
    let map_same = same_map v.disk before later old x.stands i.same in
    let stands = same_stands v.disk before later old label blocks x.stands (open_ok v.disk later (opened new) ups.whole.opens).system i.same in
    let few = kept.few in
    let trees = trees_stay v.unit v.disk before later old v x.held i.same x.trees in
    let count = beside_count old.files v.files x.held.files_are in
    let m = minidisk_in v.disk old in
    let changes : minidisk_in v.disk new ≡ changed m (Relabel volid) =
    changed_is v.disk old volid v.label ∙ ap (λ (k : Label). changed (minidisk_in v.disk (record old { label = k })) (Relabel volid)) same_label in
    record {
      updates = ups;
      at = record {
        whole = i.whole;
        attached = x.attached;
        settled = ups.whole;
        stands = stands;
        held = record {
          unit_is = refl;
          disk_is = refl;
          label_is = refl;
          bytes_are = sym i.label;
          directory_is = x.held.directory_is;
          map_is = x.held.map_is;
          bits_are = x.held.bits_are ∙ (ap (λ (b : List ℕ). bits_in old.label.blocks b) map_same ∙ ap (λ (n : ℕ). bits_in n (bytes_at later old.map_met.leaves)) (sym blocks));
          files_are = x.held.files_are;
          lost_is = x.held.lost_is;
        };
        trees = record { directory = trees.directory; map = trees.map; files = trees.files };
      };
      answered = (changed_where_made m (minidisk_in v.disk new) (Relabel volid)).1 (record {
        is = changes;
        few = (let c = map_count old.files in omega arith);
        within = none_written m volid;
        room = (let none = no_need m volid in omega arith);
      });
    }
