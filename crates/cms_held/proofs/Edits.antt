-- A file goes, or has another name, among files that are held.
use Rattle.std.proofs.Common.{◌≡◌, ◌≢◌, ◌⊎◌, inl, ℕ, zero, suc, ◌+◌, ◌-◌, ◌<◌, ◌≤◌, true, List, [], ◌∷◌, ◌++◌, length, map, take, set, get_or, swap_remove, slice_get, slice_index_or, sum_by, All, Some, refl, sym, ◌∙◌, ap, subst, arith}
use Rattle.std.proofs.lemmas.List.{length-map, length-set, get_or-map, map-set}
use Rattle.std.proofs.lemmas.List.Elements.{All-nil, All-cons, All-head, All-tail, All-map, All-set, All-get_or}
use Rattle.std.proofs.lemmas.List.Sums.{sum_by-cons, sum_by-swap_remove}
use Rattle.cms_journal.specs.Journal.{Journal}
use Rattle.cms_names.specs.declared.name.Name.{Name}
use Rattle.cms_fields.specs.Entries.{passes, length_fits, counts_fit, levels_fit}
use Rattle.cms_fields.specs.Limits.{most_files}
use Rattle.cms_fields.specs.declared.entry.Entry.{Entry}
use Rattle.cms_fields.specs.declared.label.Label.{Label}
use Rattle.cms_model.specs.Lists.{In, times}
use Rattle.cms_model.specs.Trees.{Image, Met}
use Rattle.cms_model.specs.Minidisks.{File}
use Rattle.cms_model.specs.Volumes.{Disk, as_read}
use Rattle.cms_model.specs.Changes.{Change, Drop, Rename, changed_files, drop_file, change_file}
use Rattle.cms_model.specs.Stands.{Kept, HoldsFile, HoldsFiles, Layout, NoEntryNamed, HaveNames, entries_in, mets_in, records_in, file_blocks, file_of, layout_blocks}
use Rattle.cms_model.specs.LawsChanges.{NoneNamed, AreDistinct, IsFree, IsPlace}
use Rattle.cms_model.specs.LawsUpdates.{now}
use Rattle.cms_model.proofs.EntriesRead.{passes_so}
use Rattle.cms_model.proofs.FileSizes.{passes_from, passing}
use Rattle.cms_model.proofs.ListChanges.{place_changed, stay_distinct}
use Rattle.cms_model.proofs.Members.{In-left, In-right}
use Rattle.cms_model.proofs.Repeats.{times_append}
use Rattle.cms_held.specs.HeldVolumes.{HeldFile, HeldVolume}
use Rattle.cms_held.specs.Kept.{IsKeptFile, Keeps}
use Rattle.cms_held.specs.Written.{ReadsBack}
use Rattle.cms_held.specs.HeldAs.{AreHeld, IsHeldFile}
use Rattle.cms_held.specs.Renewals.{Edit, blocks_in, dropping, entries_held, renamed, renaming}
use Rattle.cms_held.specs.LawsRenewals.{ComesFrom, IsHeldAt, LeavesFiles}
use Rattle.cms_held.specs.LawsEdits.{DropEdits, RenameEdits}
use Rattle.cms_held.proofs.SwapRemoved.{All-removed, length-removed, map-removed}
use Rattle.cms_held.specs.HeldTrees.{TreeComes}
use Rattle.cms_held.proofs.TreesStay.{comes_renamed, trees_old}

-- ---- a place among files

none_at : (name : Name) (fs : List File) (k : ℕ) (d : File) → NoneNamed name fs → k < length fs → (slice_index_or fs k d).name ≢ name
none_at name [] k d none within = absurd (omega arith)
none_at name (f ∷ fs) zero d none within = none.0
none_at name (f ∷ fs) (suc k) d none within = none_at name fs k d none.1 (omega arith)

pub place_at : (fs : List File) (k : ℕ) (d : File) → AreDistinct fs → k < length fs → IsPlace (slice_index_or fs k d).name fs k
place_at [] k d distinct within = absurd (omega arith)
place_at (f ∷ fs) zero d distinct within = record { within = within; named = λ x. refl; first = tt }
place_at (f ∷ fs) (suc k) d distinct within =
    let deeper = place_at fs k d distinct.1 (omega arith) in
    record {
      within = within;
      named = deeper.named;
      first = (λ e. none_at f.name fs k d distinct.0 (omega arith) (sym e), deeper.first);
    }

-- the file at a place is found there by its name
pub record FoundAt (fs : List Kept) (k : ℕ) (g : Kept) (name : Name) : Type 0 where
  pub in_map : slice_index_or (map file_of fs) k (file_of g) ≡ file_of g
  pub place : IsPlace name (map file_of fs) k

pub found_at : (fs : List Kept) (k : ℕ) (g : Kept) (name : Name) → AreDistinct (map file_of fs) → k < length fs → get_or fs k g ≡ g → (file_of g).name ≡ name → FoundAt fs k g name
found_at fs k g name distinct less is named =
    let d = file_of g in
    let in_map : slice_index_or (map file_of fs) k d ≡ d = get_or-map file_of fs k g d less ∙ ap file_of is in
    record {
      in_map = in_map;
      place = subst (λ (n : Name). IsPlace n (map file_of fs) k) (ap (λ (f : File). f.name) in_map ∙ named)
          (place_at (map file_of fs) k d distinct (rw (length-map fs file_of) less));
    }

-- ---- files side by side with how they are held

abbrev pub Beside : List Kept → List HeldFile → Type 0
Beside fs hs = AreHeld (entries_in fs) (mets_in fs) (records_in fs) hs

-- a file is held so
abbrev pub Is : Kept → HeldFile → Type 0
Is f h = IsHeldFile f.entry f.met f.records h

pub beside_count : (fs : List Kept) (hs : List HeldFile) → Beside fs hs → length fs ≡ length hs
beside_count [] [] b = refl
beside_count [] (h ∷ hs) b = absurd b
beside_count (f ∷ fs) [] b = absurd b
beside_count (f ∷ fs) (h ∷ hs) b = ap suc (beside_count fs hs b.1)

beside_take : (n : ℕ) (fs : List Kept) (hs : List HeldFile) → Beside fs hs → Beside (take n fs) (take n hs)
beside_take zero fs hs b = tt
beside_take (suc n) [] [] b = tt
beside_take (suc n) [] (h ∷ hs) b = absurd b
beside_take (suc n) (f ∷ fs) [] b = absurd b
beside_take (suc n) (f ∷ fs) (h ∷ hs) b = (b.0, beside_take n fs hs b.1)

pub beside_set : (fs : List Kept) (hs : List HeldFile) (i : ℕ) (g : Kept) (k : HeldFile) → Beside fs hs → Is g k → Beside (set fs i g) (set hs i k)
beside_set [] [] i g k b is = tt
beside_set [] (h ∷ hs) i g k b is = absurd b
beside_set (f ∷ fs) [] i g k b is = absurd b
beside_set (f ∷ fs) (h ∷ hs) zero g k b is = (is, b.1)
beside_set (f ∷ fs) (h ∷ hs) (suc i) g k b is = (b.0, beside_set fs hs i g k b.1 is)

beside_at : (fs : List Kept) (hs : List HeldFile) → Beside fs hs → (i : ℕ) (d : Kept) (e : HeldFile) → i < length fs → Is (get_or fs i d) (get_or hs i e)
beside_at [] hs b i d e less = absurd (omega arith)
beside_at (f ∷ fs) [] b i d e less = absurd b
beside_at (f ∷ fs) (h ∷ hs) b zero d e less = b.0
beside_at (f ∷ fs) (h ∷ hs) b (suc i) d e less = beside_at fs hs b.1 i d e (omega arith)

beside_removed : (fs : List Kept) (hs : List HeldFile) (i : ℕ) (d : Kept) (e : HeldFile) → Beside fs hs → i < length fs → Beside (swap_remove fs i d) (swap_remove hs i e)
beside_removed fs hs i d e b within =
    let same = beside_count fs hs b in
    let n = length fs - 1 in
    let last = beside_at fs hs b n d e (omega arith) in
    let moved : Beside (swap_remove fs i d) (take n (set hs i (get_or hs n e))) =
    beside_take n (set fs i (get_or fs n d)) (set hs i (get_or hs n e)) (beside_set fs hs i (get_or fs n d) (get_or hs n e) b last) in
    subst (λ (m : ℕ). Beside (swap_remove fs i d) (take (m - 1) (set hs i (get_or hs (m - 1) e)))) same moved

-- the file at a place
pub record AtPlace (fs : List Kept) (k : ℕ) (h : HeldFile) : Type 0 where
  pub file : Kept
  pub is : (d : Kept) → get_or fs k d ≡ file
  pub within : k < length fs
  pub held : Is file h

pub at_place : (fs : List Kept) (hs : List HeldFile) → Beside fs hs → (k : ℕ) (h : HeldFile) → slice_get hs k ≡ Some h → AtPlace fs k h
at_place fs [] b k h is = absurd (cc is)
at_place [] (x ∷ hs) b k h is = absurd b
at_place (f ∷ fs) (x ∷ hs) b zero h is = record { file = f; is = λ d. refl; within = omega arith; held = subst (Is f) (some_same x h is) b.0 }
  where
    some_same : (a b : HeldFile) → Some a ≡ Some b → a ≡ b
    some_same a b e = cc e
at_place (f ∷ fs) (x ∷ hs) b (suc k) h is =
    let deeper = at_place fs hs b.1 k h is in
    let less = deeper.within in
    record { file = deeper.file; is = deeper.is; within = omega arith; held = deeper.held }

-- ---- what files keep

abbrev pub Old : Disk → ℕ → Image → List ℕ → Kept → Type 0
Old disk total before blocks f = HoldsFile disk total before f × ((n : ℕ) → In n f.met.blocks → In n blocks)

pub old_all : (disk : Disk) (total : ℕ) (before : Image) (blocks : List ℕ) (fs : List Kept) → HoldsFiles disk total before fs → ((n : ℕ) → In n (file_blocks fs) → In n blocks)
    → All (Old disk total before blocks) fs
unfolding file_blocks
old_all disk total before blocks [] h inside = All-nil (Old disk total before blocks)
old_all disk total before blocks (f ∷ fs) h inside =
    All-cons (Old disk total before blocks) f fs (h.0, λ n in'. inside n (In-left n f.met.blocks (file_blocks fs) in'))
    (old_all disk total before blocks fs h.1 (λ n in'. inside n (In-right n f.met.blocks (file_blocks fs) in')))

pub come_all : (disk : Disk) (total : ℕ) (before later : Image) (blocks : List ℕ) (fs : List Kept) → All (Old disk total before blocks) fs → ComesFrom disk total before later blocks fs
come_all disk total before later blocks [] all = tt
come_all disk total before later blocks (f ∷ fs) all =
    (inl (All-head (Old disk total before blocks) f fs all), come_all disk total before later blocks fs (All-tail (Old disk total before blocks) f fs all))

pub pass_all : (bsize total : ℕ) (fs : List Kept) (hs : List HeldFile) → Beside fs hs → All (IsKeptFile bsize total) hs → All (λ f. passes bsize f.entry ≡ true) fs
pass_all bsize total [] hs b all = All-nil (λ (f : Kept). passes bsize f.entry ≡ true)
pass_all bsize total (f ∷ fs) [] b all = absurd b
pass_all bsize total (f ∷ fs) (h ∷ hs) b all =
    All-cons (λ (f : Kept). passes bsize f.entry ≡ true) f fs (ap (passes bsize) (sym b.0.entry_is) ∙ (passes_so bsize h.entry ∙ (All-head (IsKeptFile bsize total) h hs all).entry))
    (pass_all bsize total fs hs b.1 (All-tail (IsKeptFile bsize total) h hs all))

-- ---- names

none_from : (name : Name) (fs : List Kept) → NoneNamed name (map file_of fs) → NoEntryNamed name fs
none_from name [] none = tt
none_from name (f ∷ fs) none = (none.0, none_from name fs none.1)

none_named : (name : Name) (fs : List Kept) → NoEntryNamed name fs → NoneNamed name (map file_of fs)
none_named name [] none = tt
none_named name (f ∷ fs) none = (none.0, none_named name fs none.1)

pub names_from : (fs : List Kept) → AreDistinct (map file_of fs) → HaveNames fs
names_from [] d = tt
names_from (f ∷ fs) d = (none_from f.entry.name fs d.0, names_from fs d.1)

pub names_distinct : (fs : List Kept) → HaveNames fs → AreDistinct (map file_of fs)
names_distinct [] d = tt
names_distinct (f ∷ fs) d = (none_named f.entry.name fs d.0, names_distinct fs d.1)

-- ---- blocks

pub file_times : (n : ℕ) (fs : List Kept) → times n (file_blocks fs) ≡ sum_by (λ f. times n f.met.blocks) fs
unfolding file_blocks times
file_times n [] = refl
file_times n (f ∷ fs) =
    times_append n f.met.blocks (file_blocks fs) ∙ (ap (λ (k : ℕ). times n f.met.blocks + k) (file_times n fs) ∙ sym (sum_by-cons (λ (f : Kept). times n f.met.blocks) f fs))

-- a tree's blocks as they are held
pub tree_times : (n : ℕ) (f : Kept) (h : HeldFile) → Is f h → times n (blocks_in h.tree) ≡ times n f.met.blocks
tree_times n f h is =
    let b = is.tree_is.blocks n in
    let l : times n h.tree.leaves ≡ times n f.met.leaves = ap (times n) is.tree_is.leaves in
    omega (arith, times_append n h.tree.leaves h.tree.pointers)

removed_times : (n : ℕ) (fs : List Kept) (k : ℕ) (d : Kept) → k < length fs → times n (file_blocks (swap_remove fs k d)) + times n (get_or fs k d).met.blocks ≡ times n (file_blocks fs)
removed_times n fs k d within =
    let new = file_times n (swap_remove fs k d) in
    let old = file_times n fs in
    omega (arith, sum_by-swap_remove (λ (f : Kept). times n f.met.blocks) fs k d within)

same_trees : (fs : List Kept) (k : ℕ) (g d : Kept) → k < length fs → g.met ≡ (get_or fs k d).met → file_blocks (set fs k g) ≡ file_blocks fs
unfolding file_blocks
same_trees [] k g d less is = absurd (omega arith)
same_trees (f ∷ fs) zero g d less is = ap (λ (m : Met). m.blocks ++ file_blocks fs) is
same_trees (f ∷ fs) (suc k) g d less is = ap (λ (l : List ℕ). f.met.blocks ++ l) (same_trees fs k g d (omega arith) is)

pub no_times : (n : ℕ) → times n [] ≡ 0
unfolding times
no_times n = refl

-- the files that an edit leaves, with what is said of them where their entries are read back
pub record Moved (before later : Image) (v : HeldVolume) (edit : Edit) (old : Layout) (change : Change) : Type 0 where
  pub files : List Kept
  pub files_are : map file_of files ≡ changed_files (map file_of old.files) change
  pub held : Beside files edit.files
  pub leaves : All ReadsBack (entries_held edit.files) → LeavesFiles before later v edit old files

pub moved : (before later : Image) (v : HeldVolume) (edit : Edit) (old : Layout) (change : Change) (fs : List Kept)
    → HaveNames old.files → IsFree change (map file_of old.files) → changed_files (map file_of old.files) change ≡ map file_of fs → Beside fs edit.files → length fs ≤ most_files
    → All (λ (f : Kept). passes v.disk.bsize f.entry ≡ true) fs → ComesFrom v.disk v.label.blocks before later (layout_blocks old) fs
    → All (TreeComes v.disk.bsize v.label.blocks before later (layout_blocks old)) edit.files
    → ((n : ℕ) → times n (file_blocks fs) + times n edit.given ≡ times n (file_blocks old.files) + times n edit.taken) → ((n : ℕ) → times n edit.given ≤ times n (file_blocks old.files))
    → Moved before later v edit old change
moved before later v edit old change fs names free changed held few pass come trees balance had = record {
  files = fs;
  files_are = sym changed;
  held = held;
  leaves = λ back. record {
    few = few;
    pass = All-map (λ (e : Entry). passes v.disk.bsize e ≡ true) (λ (f : Kept). f.entry) fs pass;
    back = back;
    names = names_from fs (subst AreDistinct changed (stay_distinct (map file_of old.files) change (names_distinct old.files names) free));
    held = held;
    come = come;
    trees = trees;
    balance = balance;
    had = had;
  };
}

-- ---- a file that goes

pub files_old : (j : Journal) (v : HeldVolume) (old : Layout) → IsHeldAt j v old → All (Old v.disk v.label.blocks (now j v.unit) (layout_blocks old)) old.files
files_old j v old x =
    let total : old.label.blocks ≡ v.label.blocks = sym (ap (λ (l : Label). l.blocks) x.held.label_is) in
    old_all v.disk v.label.blocks (now j v.unit) (layout_blocks old) old.files
    (subst (λ (n : ℕ). HoldsFiles v.disk n (now j v.unit) old.files) total x.stands.files)
    (λ n in'. In-right n old.directory_met.blocks (old.map_met.blocks ++ file_blocks old.files) (In-right n old.map_met.blocks (file_blocks old.files) in'))

-- with the trees of the files of a volume
pub trees_of : (j : Journal) (v : HeldVolume) (old : Layout) (later : Image) → IsHeldAt j v old → All (TreeComes v.disk.bsize v.label.blocks (now j v.unit) later (layout_blocks old)) v.files
trees_of j v old later x = trees_old v.disk.bsize v.label.blocks (now j v.unit) later old v.files x.held.files_are x.trees.files

pub drop_moves : (j : Journal) (v : HeldVolume) (old : Layout) (later : Image) (k : ℕ) (h : HeldFile) → IsHeldAt j v old → Keeps v → slice_get v.files k ≡ Some h
    → Moved (now j v.unit) later v (dropping v.files k h) old (Drop h.entry.name)
unfolding changed_files
drop_moves j v old later k h x kept there =
    let at = at_place old.files v.files x.held.files_are k h there in
    let g = at.file in
    let is = at.is g in
    let fs = swap_remove old.files k g in
    let less = at.within in
    let count = beside_count old.files v.files x.held.files_are in
    let few = kept.few in
    let held = beside_removed old.files v.files k g h x.held.files_are less in
    let P = λ (f : Kept). passes v.disk.bsize f.entry ≡ true in
    let distinct = names_distinct old.files x.stands.names in
    let d = file_of g in
    let found = found_at old.files k g h.entry.name distinct less is (ap (λ (e : Entry). e.name) (sym at.held.entry_is)) in
    let dropped : drop_file h.entry.name (map file_of old.files) ≡ map file_of fs =
    (place_changed h.entry.name (map file_of old.files) k found.place).dropped d ∙ sym (map-removed file_of old.files k g d less) in
    let same : (n : ℕ) → times n (get_or old.files k g).met.blocks ≡ times n g.met.blocks = (λ n. ap (λ (f : Kept). times n f.met.blocks) is) in
    moved (now j v.unit) later v (dropping v.files k h) old (Drop h.entry.name) fs x.stands.names tt dropped held (let n = length-removed old.files k g in omega arith)
    (All-removed P old.files k g less (pass_all v.disk.bsize v.label.blocks old.files v.files x.held.files_are kept.each))
    (come_all v.disk v.label.blocks (now j v.unit) later (layout_blocks old) fs
    (All-removed (Old v.disk v.label.blocks (now j v.unit) (layout_blocks old)) old.files k g less (files_old j v old x)))
    (All-removed (TreeComes v.disk.bsize v.label.blocks (now j v.unit) later (layout_blocks old)) v.files k h (omega arith) (trees_of j v old later x))
    (λ n. omega (arith, removed_times n old.files k g less, tree_times n g h at.held, same n, no_times n))
    (λ n. omega (arith, removed_times n old.files k g less, tree_times n g h at.held, same n))

-- ---- a file with another name

-- what holds of each holds of the file at a place
tree_at : (P : HeldFile → Type 0) (hs : List HeldFile) (k : ℕ) (h : HeldFile) → slice_get hs k ≡ Some h → All P hs → P h
tree_at P [] k h is all = absurd (cc is)
tree_at P (x ∷ hs) zero h is all = subst P (some_same x h is) (All-head P x hs all)
  where
    some_same : (a b : HeldFile) → Some a ≡ Some b → a ≡ b
    some_same a b e = cc e
tree_at P (x ∷ hs) (suc k) h is all = tree_at P hs k h is (All-tail P x hs all)

pub passes_renamed : (bsize : ℕ) (e : Entry) (name : Name) (number : ℕ) → number ≤ 6 → passes bsize e ≡ true → passes bsize (record e { name = name; number = number }) ≡ true
unfolding length_fits counts_fit levels_fit
passes_renamed bsize e name number small is =
    let p = passing bsize e is in
    passes_from bsize (record e { name = name; number = number }) (record {
      number = small;
      fits = record { long = p.fits.long; counts = p.fits.counts; levels = p.fits.levels };
      stamp = p.stamp;
    })

pub rename_moves : (j : Journal) (v : HeldVolume) (old : Layout) (later : Image) (k : ℕ) (h : HeldFile) (to : Name) (number : ℕ) → IsHeldAt j v old → Keeps v → slice_get v.files k ≡ Some h
    → number ≤ 6
    → NoneNamed to (map file_of old.files) ⊎ (to ≡ h.entry.name) → Moved (now j v.unit) later v (renaming v.files k h to number) old (Rename h.entry.name to number)
unfolding changed_files
rename_moves j v old later k h to number x kept there small free =
    let at = at_place old.files v.files x.held.files_are k h there in
    let g = at.file in
    let g' : Kept = record g { entry = record g.entry { name = to; number = number } } in
    let is = at.is g in
    let fs = set old.files k g' in
    let less = at.within in
    let count = beside_count old.files v.files x.held.files_are in
    let few = kept.few in
    let entry : as_read (renamed to number h).entry ≡ g'.entry = ap (λ (e : Entry). record e { name = to; number = number }) at.held.entry_is in
    let one : Is g' (renamed to number h) = record { entry_is = entry; told_is = at.held.told_is; tree_is = at.held.tree_is; length_is = at.held.length_is; size_is = at.held.size_is } in
    let held = beside_set old.files v.files k g' (renamed to number h) x.held.files_are one in
    let P = λ (f : Kept). passes v.disk.bsize f.entry ≡ true in
    let all = pass_all v.disk.bsize v.label.blocks old.files v.files x.held.files_are kept.each in
    let olds = files_old j v old x in
    let T = TreeComes v.disk.bsize v.label.blocks (now j v.unit) later (layout_blocks old) in
    let trees = trees_of j v old later x in
    let g_passes : P g = subst P is (All-get_or P old.files k g less all) in
    let g_old : Old v.disk v.label.blocks (now j v.unit) (layout_blocks old) g =
    subst (Old v.disk v.label.blocks (now j v.unit) (layout_blocks old)) is (All-get_or (Old v.disk v.label.blocks (now j v.unit) (layout_blocks old)) old.files k g less olds) in
    let g_new : Old v.disk v.label.blocks (now j v.unit) (layout_blocks old) g' = (record { met = g_old.0.met; records = g_old.0.records }, g_old.1) in
    let distinct = names_distinct old.files x.stands.names in
    let d = file_of g in
    let found = found_at old.files k g h.entry.name distinct less is (ap (λ (e : Entry). e.name) (sym at.held.entry_is)) in
    let edit = λ (f : File). record f { name = to; number = number } in
    let changed : change_file h.entry.name edit (map file_of old.files) ≡ map file_of fs =
    (place_changed h.entry.name (map file_of old.files) k found.place).changed edit d
    ∙ (ap (λ (f : File). set (map file_of old.files) k (edit f)) found.in_map ∙ sym (map-set file_of old.files k g')) in
    moved (now j v.unit) later v (renaming v.files k h to number) old (Rename h.entry.name to number) fs x.stands.names free changed held (let n = length-set old.files k g' in omega arith)
    (All-set P old.files k g' (passes_renamed v.disk.bsize g.entry to number small g_passes) all)
    (come_all v.disk v.label.blocks (now j v.unit) later (layout_blocks old) fs (All-set (Old v.disk v.label.blocks (now j v.unit) (layout_blocks old)) old.files k g' g_new olds))
    (All-set T v.files k (renamed to number h) (comes_renamed v.disk.bsize v.label.blocks (now j v.unit) later (layout_blocks old) h to number (tree_at T v.files k h there trees)) trees)
    (λ n. ap (λ (l : List ℕ). times n l + times n []) (same_trees old.files k g' g less (ap (λ (f : Kept). f.met) (sym is))))
    (λ n. omega (arith, no_times n))

pub drop_edits : DropEdits
drop_edits j v old later k h x kept there back =
    let m = drop_moves j v old later k h x kept there in
    record { files = m.files; files_are = m.files_are; leaves = m.leaves back }

pub rename_edits : RenameEdits
rename_edits j v old later k h to number x kept there small free back =
    let m = rename_moves j v old later k h to number x kept there small free in
    record { files = m.files; files_are = m.files_are; leaves = m.leaves back }
