-- The order of tests opens exactly the volumes.
use Rattle.std.proofs.Common.{arith, ◌≡◌, ◌⊎◌, ◌↔◌, inl, inr, ⊎_elim, ℕ, ◌-◌, ◌≤◌, List, [], drop, Option, Some, None, Result, Ok, Err, Bool, true, false, refl, ◌∙◌, ap, subst}
use Rattle.std.specs.Prelude.{nat_le, ◌==◌}
use Rattle.std.proofs.lemmas.Bool.{eqb-true, or_cases}
use Rattle.cms_names.specs.Names.{is_between}
use Rattle.cms_names.specs.declared.name.Format.TheVariants.{F}
use Rattle.cms_fields.specs.Steps.{◌>>◌}
use Rattle.cms_text.specs.Bytes.{word}
use Rattle.cms_fields.specs.Labels.{label_of, label_fields, has_identifier, is_origin}
use Rattle.cms_fields.specs.declared.label.Label.{Label}
use Rattle.cms_fields.specs.declared.label.LabelFault.TheVariants.{Id, BlockSize, Origin, Count, EntrySize}
use Rattle.cms_model.specs.Lists.{cut, first_repeat}
use Rattle.cms_model.specs.Trees.{Image, form_of, tree, bytes_at}
use Rattle.cms_model.specs.Maps.{lowest_unmarked}
use Rattle.cms_model.specs.Minidisks.{Minidisk, Volume, Not}
use Rattle.cms_model.specs.Systems.{directory_of, map_of}
use Rattle.cms_model.specs.Volumes.{Disk, Opened, IsOpened, blamed, absent, open_of, minidisk_of, state_from, state_of, reason, entries_of, first_twice, file_trees, tree_blocks, contents_in}
use Rattle.cms_model.specs.LawsVolumes.{DiskIsLookedAt}
use Rattle.cms_model.specs.Settled.{frame, Agree}
use Rattle.cms_model.specs.declared.fault.OpenFault.{OpenFault}
use Rattle.cms_model.specs.declared.fault.OpenFault.TheVariants as failed
use Rattle.cms_model.proofs.Results.{ok_same, want_ok, bind_then}
use Rattle.cms_model.proofs.TreeFrame.{between}
use Rattle.cms_model.proofs.VolumeFrame.{opened_keeps}

pub open_again : (disk : Disk) (image : Image) (v : Opened) → IsOpened disk image v → open_of disk image ≡ Ok v
unfolding open_of
open_again disk image v o =
    let y = o.system in
    rw (y.blocks, y.label, y.directory, y.directory_met, y.map, y.entries, o.names, y.map_met, o.mets, o.apart, o.marked, o.contents, o.lost) refl

pub absent_then : {X B C : Type 0} (x : Option X) (why : X → OpenFault) (r : Result B OpenFault) (y : B) → (absent x why >> r) ≡ Ok y → (x ≡ None → r ≡ Ok y → C) → C
absent_then None why r y e go = go refl e
absent_then (Some x) why r y e go = absurd (cc)

pub blamed_ok : {A E : Type 0} (why : E → OpenFault) (r : Result A E) (x : A) → blamed why r ≡ Ok x → r ≡ Ok x
blamed_ok why (Ok y) x e = cc
blamed_ok why (Err d) x e = absurd (cc)

pub open_ok : (disk : Disk) (image : Image) (v : Opened) → open_of disk image ≡ Ok v → IsOpened disk image v
unfolding open_of
open_ok disk image v e =
    let start = want_ok (nat_le 6 disk.count) (failed.Label Count) _ v e in
    bind_then (blamed failed.Label (label_of disk.bsize disk.count (image 3))) _ v start.1 (λ label is_label e1.
    bind_then (directory_of disk.bsize label.origin (image label.origin)) _ v e1 (λ directory is_directory e2.
    bind_then (tree (form_of disk.bsize label.blocks F) image directory.levels (Some label.origin) label.origin directory.root directory.blocks) _ v e2 (λ directory_met is_directory_met e3.
    bind_then (map_of disk.bsize label.blocks (drop 64 (image label.origin))) _ v e3 (λ map is_map e4.
    bind_then (entries_of disk.bsize 2 (cut (directory.count - 2) 64 (drop 128 (bytes_at image directory_met.leaves)))) _ v e4 (λ entries is_entries e5.
    absent_then (first_twice 2 [] entries) failed.Twice _ v e5 (λ names e6.
    bind_then (tree (form_of disk.bsize label.blocks F) image map.levels None label.origin map.root map.blocks) _ v e6 (λ map_met is_map_met e7.
    bind_then (file_trees disk.bsize label.blocks image directory_met.leaves 2 entries) _ v e7 (λ mets is_mets e8.
    absent_then (first_repeat [] (tree_blocks directory_met map_met mets)) failed.Crossed _ v e8 (λ apart e9.
    absent_then (lowest_unmarked (bytes_at image map_met.leaves) (tree_blocks directory_met map_met mets) 6 (label.blocks - 5)) failed.MapMissing _ v e9 (λ marked e10.
    bind_then (contents_in disk.bsize image 2 entries mets) _ v e10 (λ contents is_contents e11.
    subst (IsOpened disk image) (ok_same _ v e11) (record {
      system = record {
        blocks = start.0;
        label = blamed_ok failed.Label (label_of disk.bsize disk.count (image 3)) label is_label;
        directory = is_directory;
        directory_met = is_directory_met;
        map = is_map;
        entries = is_entries;
        map_met = is_map_met;
      };
      names = names;
      mets = is_mets;
      apart = apart;
      marked = marked;
      contents = is_contents;
      lost = refl;
    }))))))))))))

pub opens_where_held : (disk : Disk) (image : Image) (v : Opened) → (open_of disk image ≡ Ok v) ↔ IsOpened disk image v
opens_where_held disk image v = (open_ok disk image v, open_again disk image v)

-- ---- what a volume rests on

pub open_keeps : (disk : Disk) (before later : Image) (v : Opened) → open_of disk before ≡ Ok v → Agree (frame v) before later → open_of disk later ≡ Ok v
open_keeps disk before later v e agree = open_again disk later v (opened_keeps disk before later v (open_ok disk before v e) agree)

-- ---- the state

pub state_opens : (disk : Disk) (image : Image) (v : Opened) → open_of disk image ≡ Ok v → state_of disk image ≡ Volume (minidisk_of disk v)
unfolding state_of
state_opens disk image v e = ap (state_from disk) e

pub volume_opens : (disk : Disk) (image : Image) (m : Minidisk) → state_of disk image ≡ Volume m → (v : Opened) × (open_of disk image ≡ Ok v) × (minidisk_of disk v ≡ m)
unfolding state_of
volume_opens disk image m e = go (open_of disk image) refl e
  where
    go : (r : Result Opened OpenFault) → open_of disk image ≡ r → state_from disk r ≡ Volume m → (v : Opened) × (open_of disk image ≡ Ok v) × (minidisk_of disk v ≡ m)
    go (Ok v) is e = (v, is, cc)
    go (Err why) is e = absurd (cc)

pub state_is_minidisk : (disk : Disk) (image : Image) (m : Minidisk) → (state_of disk image ≡ Volume m) ↔ ((v : Opened) × (open_of disk image ≡ Ok v) × (minidisk_of disk v ≡ m))
state_is_minidisk disk image m = (volume_opens disk image m, λ (v, opens, is). state_opens disk image v opens ∙ ap Volume is)

-- an image without a label
pub no_label : (disk : Disk) (image : Image) → has_identifier (image 3) ≡ false → state_of disk image ≡ Not 2
unfolding state_of open_of label_of reason
no_label disk image none = go (nat_le 6 disk.count) refl
  where
    go : (b : Bool) → nat_le 6 disk.count ≡ b → state_of disk image ≡ Not 2
    go true is = rw (is, none) refl
    go false is = rw is refl

-- ---- what the label says

pub record Reads (bsize count : ℕ) (bytes : List ℕ) (label : Label) : Type 0 where
  pub identifier : has_identifier bytes ≡ true
  pub origin : (label.origin ≡ 4) ⊎ (label.origin ≡ 5)
  pub low : 6 ≤ label.blocks
  pub high : label.blocks ≤ count

is_four_or_five : (n : ℕ) → is_origin n ≡ true → (n ≡ 4) ⊎ (n ≡ 5)
unfolding is_origin
is_four_or_five n is = ⊎_elim (λ a. inl (eqb-true n 4 a)) (λ b. inr (eqb-true n 5 b)) (or_cases (n == 4) (n == 5) is)

pub label_reads : (bsize count : ℕ) (bytes : List ℕ) (label : Label) → label_of bsize count bytes ≡ Ok label → Reads bsize count bytes label
unfolding label_of label_fields
label_reads bsize count bytes label e =
    let a = want_ok (has_identifier bytes) Id _ label e in
    let b = want_ok (word bytes 12 == bsize) BlockSize _ label a.1 in
    let c = want_ok (is_origin (word bytes 16)) Origin _ label b.1 in
    let d = want_ok (is_between 6 count (word bytes 28)) Count _ label c.1 in
    let f = want_ok (word bytes 36 == 64) EntrySize _ label d.1 in
    let is : label_fields bytes ≡ label = ok_same (label_fields bytes) label f.1 in
    let range = between 6 count (word bytes 28) d.0 in
    subst (Reads bsize count bytes) is (record { identifier = a.0; origin = is_four_or_five (word bytes 16) c.0; low = range.0; high = range.1 })

-- how much of a unit is looked at
pub disk_is_looked_at : DiskIsLookedAt
disk_is_looked_at unit = record { size = refl; all = λ few. omega arith; first = λ many. omega arith }
