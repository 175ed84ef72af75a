-- Trees as they are held stay where their pointer blocks do.
use Rattle.std.proofs.Common.{◌≡◌, inl, inr, ℕ, zero, suc, ◌/◌, ◌^◌, ◌<◌, List, [], ◌∷◌, ◌++◌, length, All, None, refl, sym, ◌∙◌, ap, subst, arith}
use Rattle.std.specs.List.{concat}
use Rattle.std.proofs.lemmas.List.Elements.{All-nil, All-cons, All-head, All-tail, All-weaker}
use Rattle.cms_names.specs.declared.name.Name.{Name}
use Rattle.cms_model.specs.Built.{AllAllowed, Built, Points}
use Rattle.cms_model.specs.ByLevels.{Heaped}
use Rattle.cms_model.specs.Lists.{In}
use Rattle.cms_model.specs.Sizes.{levels}
use Rattle.cms_model.specs.Stands.{Kept, Layout, entries_in, file_blocks, layout_blocks, mets_in, opened, records_in}
use Rattle.cms_model.specs.Records.{records_of}
use Rattle.cms_model.specs.Trees.{Form, Image, Met, bytes_at, pointers}
use Rattle.cms_model.specs.Volumes.{Disk}
use Rattle.cms_model.proofs.Members.{In-left, In-right}
use Rattle.cms_model.proofs.Repeats.{held, held_from, in_from, in_held, times_append}
use Rattle.cms_model.proofs.VolumeFrame.{bytes_keep}
use Rattle.cms_tree.specs.Builds.{HasNodes, IsBuildable, root_of}
use Rattle.cms_tree.specs.declared.types.Mark.{Mark}
use Rattle.cms_tree.proofs.BuiltTrees.{built_whole, fan_wide}
use Rattle.cms_held.specs.HeldAs.{AreHeld, IsHeldAs}
use Rattle.cms_held.specs.HeldTrees.{FileStands, TreeComes, TreesStand}
use Rattle.cms_held.specs.HeldVolumes.{HeldFile, HeldTree, HeldVolume}
use Rattle.cms_held.specs.Renewals.{moved_file, renamed}
use Rattle.cms_held.specs.SharedTrees.{IsStanding}
use Rattle.cms_held.specs.Systems.{IsTree}
use Rattle.cms_held.proofs.SharedTrees.{nodes_joined, standing_from}

-- ---- the same pointer blocks

points_stay : (form : Form) (before later : Image) (ns ps : List ℕ) → ((n : ℕ) → In n ns → before n ≡ later n) → Points form before ns ps → Points form later ns ps
points_stay form before later [] ps same points = points
points_stay form before later (n ∷ ns) ps same (rest, node, more) = (
  rest,
  record {
    own = node.own;
    unused = node.unused;
    split = node.split;
    bytes = ap (λ (b : List ℕ). pointers form.fan form.stride b) (sym (same n (inl refl))) ∙ node.bytes;
    some = node.some;
    full = node.full;
  },
  points_stay form before later ns rest (λ m in'. same m (inr in')) more,
)

heaped_stays : (form : Form) (before later : Image) (below tops : List ℕ) (ts : List (List ℕ)) → ((n : ℕ) → In n (concat ts) → before n ≡ later n) → Heaped form before below ts tops
    → Heaped form later below ts tops
heaped_stays form before later below tops [] same heaped = heaped
heaped_stays form before later below tops (t ∷ ts) same heaped = (
  points_stay form before later t below (λ n in'. same n (In-left n t (concat ts) in')) heaped.0,
  heaped_stays form before later t tops ts (λ n in'. same n (In-right n t (concat ts) in')) heaped.1,
)

pub standing_stays : (form : Form) (before later : Image) (t : HeldTree) → ((n : ℕ) → In n t.pointers → before n ≡ later n) → IsStanding form before t → IsStanding form later t
standing_stays form before later t same s =
    let joined = nodes_joined form.fan t s.shape in
    record {
      shape = s.shape;
      stands = heaped_stays form before later t.leaves _ _ (λ n in'. same n (subst (In n) joined in')) s.stands;
    }

-- a file stays where its blocks do
file_stays : (bsize total : ℕ) (before later : Image) (f : HeldFile) → ((n : ℕ) → In n (f.tree.leaves ++ f.tree.pointers) → before n ≡ later n) → FileStands bsize total before f
    → FileStands bsize total later f
file_stays bsize total before later f same s =
    let bytes : bytes_at before f.tree.leaves ≡ bytes_at later f.tree.leaves = bytes_keep before later f.tree.leaves (λ n in'. same n (In-left n f.tree.leaves f.tree.pointers in')) in
    record {
      tree = standing_stays _ before later f.tree (λ n in'. same n (In-right n f.tree.leaves f.tree.pointers in')) s.tree;
      start = λ records is. s.start records (ap (records_of bsize f.entry.format f.entry.length f.entry.count) bytes ∙ is);
    }

-- also with another name
pub file_renamed : (bsize total : ℕ) (image : Image) (f : HeldFile) (to : Name) (number : ℕ) → FileStands bsize total image f → FileStands bsize total image (renamed to number f)
file_renamed bsize total image f to number s = record { tree = s.tree; start = s.start }

pub comes_renamed : (bsize total : ℕ) (before later : Image) (blocks : List ℕ) (f : HeldFile) (to : Name) (number : ℕ) → TreeComes bsize total before later blocks f
    → TreeComes bsize total before later blocks (renamed to number f)
comes_renamed bsize total before later blocks f to number (inl (s, within)) = inl (file_renamed bsize total before f to number s, within)
comes_renamed bsize total before later blocks f to number (inr s) = inr (file_renamed bsize total later f to number s)

-- also with a moved stamp
file_moved : (bsize total : ℕ) (image : Image) (f : HeldFile) (pivot : ℕ) → FileStands bsize total image f → FileStands bsize total image (moved_file pivot f)
file_moved bsize total image f pivot s = record { tree = s.tree; start = s.start }

pub comes_moved : (bsize total : ℕ) (before later : Image) (blocks : List ℕ) (f : HeldFile) (pivot : ℕ) → TreeComes bsize total before later blocks f
    → TreeComes bsize total before later blocks (moved_file pivot f)
comes_moved bsize total before later blocks f pivot (inl (s, within)) = inl (file_moved bsize total before f pivot s, within)
comes_moved bsize total before later blocks f pivot (inr s) = inr (file_moved bsize total later f pivot s)

-- the blocks of a tree as it is held are those that are read
pub blocks_within : (t : HeldTree) (met : Met) → IsTree t met → (n : ℕ) → In n (t.leaves ++ t.pointers) → In n met.blocks
blocks_within t met is n in' =
    let some = held n (t.leaves ++ t.pointers) (in_held n (t.leaves ++ t.pointers) in') in
    let b = is.blocks n in
    let both = times_append n t.leaves t.pointers in
    in_from n met.blocks (held_from n met.blocks (omega arith))

pub pointers_within : (t : HeldTree) (met : Met) → IsTree t met → (n : ℕ) → In n t.pointers → In n met.blocks
pointers_within t met is n in' = blocks_within t met is n (In-right n t.leaves t.pointers in')

-- and those of each file among the files'
pub files_within : (fs : List Kept) (hs : List HeldFile) → AreHeld (entries_in fs) (mets_in fs) (records_in fs) hs
    → All (λ (h : HeldFile). (n : ℕ) → In n (h.tree.leaves ++ h.tree.pointers) → In n (file_blocks fs)) hs
unfolding file_blocks
files_within [] [] b = All-nil (λ (h : HeldFile). (n : ℕ) → In n (h.tree.leaves ++ h.tree.pointers) → In n [])
files_within [] (h ∷ hs) b = absurd b
files_within (f ∷ fs) [] b = absurd b
files_within (f ∷ fs) (h ∷ hs) b =
    let P = λ (g : HeldFile). (n : ℕ) → In n (g.tree.leaves ++ g.tree.pointers) → In n (f.met.blocks ++ file_blocks fs) in
    All-cons P h hs (λ n in'. In-left n f.met.blocks (file_blocks fs) (blocks_within h.tree f.met b.0.tree_is n in'))
    (All-weaker (λ (g : HeldFile). (n : ℕ) → In n (g.tree.leaves ++ g.tree.pointers) → In n (file_blocks fs)) P (λ g inside n in'. In-right n f.met.blocks (file_blocks fs) (inside n in')) hs
    (files_within fs hs b.1))

-- ---- the trees of a volume

both : (P Q R : HeldFile → Type 0) → ((h : HeldFile) → P h → Q h → R h) → (hs : List HeldFile) → All P hs → All Q hs → All R hs
both P Q R go [] a b = All-nil R
both P Q R go (h ∷ hs) a b =
    All-cons R h hs (go h (All-head P h hs a) (All-head Q h hs b)) (both P Q R go hs (All-tail P h hs a) (All-tail Q h hs b))

-- the blocks of the files among those of a volume
pub in_layout : (old : Layout) (n : ℕ) → In n (file_blocks old.files) → In n (layout_blocks old)
in_layout old n in' = In-right n old.directory_met.blocks (old.map_met.blocks ++ file_blocks old.files) (In-right n old.map_met.blocks (file_blocks old.files) in')

-- the files of a volume stand in its image, with blocks of the volume
pub trees_old : (bsize total : ℕ) (before later : Image) (old : Layout) (hs : List HeldFile) → AreHeld (entries_in old.files) (mets_in old.files) (records_in old.files) hs
    → All (FileStands bsize total before) hs → All (TreeComes bsize total before later (layout_blocks old)) hs
trees_old bsize total before later old hs are stand =
    both (FileStands bsize total before) (λ (h : HeldFile). (n : ℕ) → In n (h.tree.leaves ++ h.tree.pointers) → In n (file_blocks old.files))
    (TreeComes bsize total before later (layout_blocks old)) (λ h s within. inl (s, λ n in'. in_layout old n (within n in'))) hs stand (files_within old.files hs are)

-- what comes so stands in an image that agrees on those blocks
pub trees_come : (bsize total : ℕ) (before later : Image) (blocks : List ℕ) (hs : List HeldFile) → ((n : ℕ) → In n blocks → before n ≡ later n)
    → All (TreeComes bsize total before later blocks) hs → All (FileStands bsize total later) hs
trees_come bsize total before later blocks hs same come = All-weaker (TreeComes bsize total before later blocks) (FileStands bsize total later) one hs come
  where
    one : (h : HeldFile) → TreeComes bsize total before later blocks h → FileStands bsize total later h
    one h (inl (s, within)) = file_stays bsize total before later h (λ n in'. same n (within n in')) s
    one h (inr s) = s

-- all trees of a volume stay where its blocks do
pub trees_stay : (unit : ℕ) (disk : Disk) (before later : Image) (old : Layout) (v : HeldVolume) → IsHeldAs unit disk before (opened old) v → ((n : ℕ) → In n (layout_blocks old) → before n ≡ later n)
    → TreesStand v before → TreesStand v later
trees_stay unit disk before later old v is same t = record {
  directory = standing_stays _ before later v.directory (λ n in'. same n (In-left n old.directory_met.blocks (old.map_met.blocks ++ file_blocks old.files)
      (pointers_within v.directory old.directory_met is.directory_is n in'))) t.directory;
  map = standing_stays _ before later v.map (λ n in'. same n (In-right n old.directory_met.blocks (old.map_met.blocks ++ file_blocks old.files)
      (In-left n old.map_met.blocks (file_blocks old.files) (pointers_within v.map old.map_met is.map_is n in')))) t.map;
  files = trees_come v.disk.bsize v.label.blocks before later (layout_blocks old) v.files same
      (trees_old v.disk.bsize v.label.blocks before later old v.files is.files_are t.files);
}

-- ---- a tree that was built

-- the levels of which it was built
record Stack (form : Form) (image : Image) (k : ℕ) (below : List ℕ) (root : ℕ) (ns : List ℕ) : Type 0 where
  tiers_of : List (List ℕ)
  heaped : Heaped form image below tiers_of (root ∷ [])
  deep : length tiers_of ≡ k
  are : ns ≡ concat tiers_of

built_heaped : (form : Form) (image : Image) (k : ℕ) (below : List ℕ) (root : ℕ) (ns : List ℕ) → Built form image k below root ns → Stack form image k below root ns
built_heaped form image zero below root ns (is, none) = record { tiers_of = []; heaped = is; deep = refl; are = none }
built_heaped form image (suc k) below root ns (tier, more, two, points, allowed, split, rest) =
    let above = built_heaped form image k tier root more rest in
    record {
      tiers_of = tier ∷ above.tiers_of;
      heaped = (points, above.heaped);
      deep = ap suc above.deep;
      are = split ∙ ap (λ (l : List ℕ). tier ++ l) above.are;
    }

-- an image that has the pointer blocks of a tree has the tree standing
pub built_stands : (bsize psize last : ℕ) (leaves : List ℕ) (marks : List Mark) (fresh : List ℕ) (image : Image) → IsBuildable bsize psize leaves marks fresh → last < 2 ^ 32
    → All (λ n. n < 2 ^ 32) leaves → AllAllowed last None fresh → HasNodes image bsize psize leaves marks fresh
    → IsStanding (record { fan = bsize / psize; stride = psize; last = last }) image (record { leaves = leaves; pointers = fresh })
built_stands bsize psize last leaves marks fresh image b small words allowed has =
    let fan = bsize / psize in
    let form : Form = record { fan = fan; stride = psize; last = last } in
    let root = root_of leaves fresh in
    let s = built_heaped form image (levels fan (length leaves)) leaves root fresh (built_whole bsize psize last leaves marks fresh image b small words allowed has) in
    standing_from form image leaves fresh s.tiers_of (fan_wide bsize psize b.size b.pointer) (record { some = b.some; few = b.few; nodes = b.numbers }) s.deep s.are s.heaped
