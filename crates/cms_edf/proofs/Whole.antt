-- A volume is opened part by part.
use Rattle.std.proofs.Common.{◌≡◌, ◌-◌, [], drop, Some, None, Result, Ok, Err, refl, ap}
use Rattle.std.specs.Prelude.{nat_le}
use Rattle.cms_names.specs.declared.name.Format.TheVariants.{F}
use Rattle.cms_fields.specs.Steps.{◌>>=◌, ◌>>◌, want}
use Rattle.cms_fields.specs.Labels.{label_of}
use Rattle.cms_fields.specs.declared.label.Label.{Label}
use Rattle.cms_fields.specs.declared.label.LabelFault.TheVariants.{Count}
use Rattle.cms_model.specs.Lists.{cut, first_repeat}
use Rattle.cms_model.specs.Trees.{Image, form_of, tree, bytes_at}
use Rattle.cms_model.specs.Maps.{lowest_unmarked}
use Rattle.cms_model.specs.Systems.{directory_of, map_of}
use Rattle.cms_model.specs.Volumes.{Disk, Opened, blamed, absent, opened_behind, open_of, entries_of, first_twice, file_trees, tree_blocks}
use Rattle.cms_model.specs.declared.fault.OpenFault.{OpenFault}
use Rattle.cms_model.specs.declared.fault.OpenFault.TheVariants as failed
use Rattle.cms_edf.specs.OpeningSteps.{Listed, Treed, listed_in, trees_in, lost_in}
use Rattle.cms_edf.specs.OpeningFiles.{counted, lost_told, treed, behind_label}

-- the first steps are a part
under : {A B C : Type 0} (r : Result A OpenFault) (f : A → Result B OpenFault) (g : B → Result C OpenFault) (h : A → Result C OpenFault) → ((x : A) → h x ≡ (f x >>= g)) → (r >>= h) ≡ ((r >>= f) >>= g)
under (Ok x) f g h same = same x
under (Err e) f g h same = refl

under_then : {A B C : Type 0} (r : Result A OpenFault) (s : Result B OpenFault) (g : B → Result C OpenFault) (h : Result C OpenFault) → h ≡ (s >>= g) → (r >> h) ≡ ((r >> s) >>= g)
under_then (Ok x) s g h same = same
under_then (Err e) s g h same = refl

same_next : {A C : Type 0} (r : Result A OpenFault) (f g : A → Result C OpenFault) → ((x : A) → f x ≡ g x) → (r >>= f) ≡ (r >>= g)
same_next (Ok x) f g same = same x
same_next (Err e) f g same = refl

tests_are : (disk : Disk) (image : Image) (label : Label) → opened_behind disk image label ≡ behind_label disk image label
unfolding behind_label listed_in trees_in lost_in
tests_are disk image label =
    under (directory_of disk.bsize label.origin (image label.origin)) _ (treed disk image label) _ (λ directory.
    under (tree (form_of disk.bsize label.blocks F) image directory.levels (Some label.origin) label.origin directory.root directory.blocks) _ (treed disk image label) _ (λ directory_met.
    under (map_of disk.bsize label.blocks (drop 64 (image label.origin))) _ (treed disk image label) _ (λ map.
    under (entries_of disk.bsize 2 (cut (directory.count - 2) 64 (drop 128 (bytes_at image directory_met.leaves)))) _ (treed disk image label) _ (λ entries.
    under_then (absent (first_twice 2 [] entries) failed.Twice) _ (treed disk image label) _ (
    let l : Listed = record { directory = directory; directory_met = directory_met; map = map; entries = entries } in
    under (tree (form_of disk.bsize label.blocks F) image map.levels None label.origin map.root map.blocks) _ (lost_told disk image label l) _ (λ map_met.
    under (file_trees disk.bsize label.blocks image directory_met.leaves 2 entries) _ (lost_told disk image label l) _ (λ mets.
    let t : Treed = record { map_met = map_met; mets = mets } in
    under_then (absent (first_repeat [] (tree_blocks directory_met map_met mets)) failed.Crossed) _ (counted disk image label l t) _ (
    under_then (absent (lowest_unmarked (bytes_at image map_met.leaves) (tree_blocks directory_met map_met mets) 6 (label.blocks - 5)) failed.MapMissing) _
    (counted disk image label l t) _ refl))))))))

-- the label's tests, and those behind it
pub open_is : (disk : Disk) (image : Image) → open_of disk image
    ≡ (want (nat_le 6 disk.count) (failed.Label Count) >> (blamed failed.Label (label_of disk.bsize disk.count (image 3)) >>= behind_label disk image))
unfolding open_of
open_is disk image =
    ap (λ (r : Result Opened OpenFault). want (nat_le 6 disk.count) (failed.Label Count) >> r)
    (same_next (blamed failed.Label (label_of disk.bsize disk.count (image 3))) (opened_behind disk image) (behind_label disk image) (tests_are disk image))
