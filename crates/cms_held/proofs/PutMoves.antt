-- A file that is put, among files that are held.
use Rattle.std.proofs.Common.{◌≡◌, inr, ℕ, zero, suc, ◌+◌, ◌*◌, ◌^◌, ◌<◌, ◌≤◌, true, List, [], ◌∷◌, ◌++◌, length, map, set, get_or, slice_get, slice_index, All, None, Some, Ok, refl, sym, ◌∙◌, ap, subst, arith, length-append}
use Rattle.std.specs.Prelude.{nat_le}
use Rattle.std.proofs.lemmas.Bool.{le-leb, and_from}
use Rattle.std.proofs.lemmas.List.{length-set, map-set, map-append}
use Rattle.std.proofs.lemmas.List.Elements.{All-nil, All-cons, All-set, All-append}
use Rattle.cms_journal.specs.Journal.{Journal}
use Rattle.cms_names.specs.declared.name.Format.{Format}
use Rattle.cms_names.specs.declared.name.Format.TheVariants.{F, V}
use Rattle.cms_fields.specs.Entries.{passes, pointer_size}
use Rattle.cms_fields.specs.Limits.{most_files}
use Rattle.cms_fields.specs.declared.entry.Entry.{Entry}
use Rattle.cms_fields.specs.declared.label.Label.{Label}
use Rattle.cms_fields.specs.declared.time.Stamp.{Stamp}
use Rattle.cms_model.specs.Lists.{times}
use Rattle.cms_model.specs.Trees.{Image, bytes_at, is_allowed}
use Rattle.cms_model.specs.Built.{AllAllowed}
use Rattle.cms_model.specs.Minidisks.{File}
use Rattle.cms_model.specs.Volumes.{Disk, as_read}
use Rattle.cms_model.specs.Records.{Fits, length_of, records_of, stored}
use Rattle.cms_model.specs.Changes.{Put, changed_files, put_file}
use Rattle.cms_model.specs.Stands.{Kept, HoldsFile, Layout, file_blocks, file_of, layout_blocks}
use Rattle.cms_model.specs.LawsChanges.{NoneNamed}
use Rattle.cms_model.specs.LawsUpdates.{now}
use Rattle.cms_model.proofs.EntriesRead.{length_so, passes_so}
use Rattle.cms_model.proofs.ListChanges.{none_added, place_changed}
use Rattle.cms_model.proofs.Records.{length_stored_fixed}
use Rattle.cms_model.proofs.Repeats.{times_append, times_first, times_later}
use Rattle.cms_model.proofs.Results.{ok_same}
use Rattle.cms_fields.specs.Numbers.{up}
use Rattle.cms_tree.proofs.Totals.{in_times}
use Rattle.cms_held.proofs.OldBlocks.{old_blocks}
use Rattle.cms_tree.specs.declared.types.Mark.{Mark}
use Rattle.cms_tree.specs.Builds.{IsBuildable}
use Rattle.cms_held.specs.Marks.{start_of}
use Rattle.cms_held.specs.HeldVolumes.{HeldFile, HeldVolume, size_of}
use Rattle.cms_held.specs.Kept.{Keeps}
use Rattle.cms_held.specs.Drafts.{HasAll, IsDrafted}
use Rattle.cms_held.specs.HeldTrees.{FileStands, TreeComes}
use Rattle.cms_held.specs.Systems.{Systems}
use Rattle.cms_held.specs.Allotments.{IsPlanned}
use Rattle.cms_held.specs.Renewals.{Edit, blocks_in, entries_held}
use Rattle.cms_held.specs.Written.{ReadsBack}
use Rattle.cms_held.specs.LawsRenewals.{ComesFrom, IsHeldAt, later_of}
use Rattle.cms_held.specs.MinidiskUpdates.{IsReadyFor}
use Rattle.cms_held.specs.Puts.{IsPutAs, IsPutOf, adding, adds, replaces, replacing}
use Rattle.cms_held.proofs.Drafted.{draft_holds}
use Rattle.cms_held.proofs.Edits.{Beside, Is, Moved, at_place, beside_count, beside_set, come_all, files_old, found_at, moved, names_distinct, no_times, pass_all, tree_times, trees_of}
use Rattle.cms_held.proofs.PlannedWrites.{IsTaking, taken_stay}
use Rattle.cms_held.proofs.Renewals.{all_of, holds_read, size_so}

-- ---- lists of files

beside_last : (fs : List Kept) (hs : List HeldFile) (g : Kept) (k : HeldFile) → Beside fs hs → Is g k → Beside (fs ++ g ∷ []) (hs ++ k ∷ [])
beside_last [] [] g k b is = (is, tt)
beside_last [] (h ∷ hs) g k b is = absurd b
beside_last (f ∷ fs) [] g k b is = absurd b
beside_last (f ∷ fs) (h ∷ hs) g k b is = (b.0, beside_last fs hs g k b.1 is)

pub come_set : (disk : Disk) (total : ℕ) (before later : Image) (blocks : List ℕ) (fs : List Kept) (k : ℕ) (g : Kept) → ComesFrom disk total before later blocks fs → HoldsFile disk total later g
    → ComesFrom disk total before later blocks (set fs k g)
come_set disk total before later blocks [] k g come new = come
come_set disk total before later blocks (f ∷ fs) zero g come new = (inr new, come.1)
come_set disk total before later blocks (f ∷ fs) (suc k) g come new = (come.0, come_set disk total before later blocks fs k g come.1 new)

come_last : (disk : Disk) (total : ℕ) (before later : Image) (blocks : List ℕ) (fs : List Kept) (g : Kept) → ComesFrom disk total before later blocks fs → HoldsFile disk total later g
    → ComesFrom disk total before later blocks (fs ++ g ∷ [])
come_last disk total before later blocks [] g come new = (inr new, tt)
come_last disk total before later blocks (f ∷ fs) g come new = (come.0, come_last disk total before later blocks fs g come.1 new)

pub set_times : (n : ℕ) (fs : List Kept) (k : ℕ) (g d : Kept) → k < length fs → times n (file_blocks (set fs k g)) + times n (get_or fs k d).met.blocks ≡ times n (file_blocks fs) + times n g.met.blocks
unfolding file_blocks
set_times n [] k g d less = absurd (omega arith)
set_times n (f ∷ fs) zero g d less =
    let a = times_append n f.met.blocks (file_blocks fs) in
    let b = times_append n g.met.blocks (file_blocks fs) in
    omega arith
set_times n (f ∷ fs) (suc k) g d less =
    let a = times_append n f.met.blocks (file_blocks fs) in
    let b = times_append n f.met.blocks (file_blocks (set fs k g)) in
    let more = set_times n fs k g d (omega arith) in
    omega arith

pub at_times : (n : ℕ) (fs : List Kept) (k : ℕ) (d : Kept) → k < length fs → times n (get_or fs k d).met.blocks ≤ times n (file_blocks fs)
unfolding file_blocks
at_times n [] k d less = absurd (omega arith)
at_times n (f ∷ fs) zero d less = let a = times_append n f.met.blocks (file_blocks fs) in omega arith
at_times n (f ∷ fs) (suc k) d less = let a = times_append n f.met.blocks (file_blocks fs) in let more = at_times n fs k d (omega arith) in omega arith

last_times : (n : ℕ) (fs : List Kept) (g : Kept) → times n (file_blocks (fs ++ g ∷ [])) ≡ times n (file_blocks fs) + times n g.met.blocks
unfolding file_blocks times
last_times n [] g = let a = times_append n g.met.blocks [] in omega arith
last_times n (f ∷ fs) g =
    let a = times_append n f.met.blocks (file_blocks fs) in
    let b = times_append n f.met.blocks (file_blocks (fs ++ g ∷ [])) in
    let more = last_times n fs g in
    omega arith

-- ---- the new file

-- it is held by the volume after the update
pub record NewFile (disk : Disk) (total : ℕ) (later : Image) (g : HeldFile) (new : File) : Type 0 where
  pub file : Kept
  pub is : Is file g
  pub file_is : file_of file ≡ new
  pub entry_is : file.entry ≡ as_read g.entry
  pub holds : HoldsFile disk total later file
  pub stands : FileStands disk.bsize total later g
  pub blocks_are : (n : ℕ) → times n file.met.blocks ≡ times n (blocks_in g.tree)

same_size : (format : Format) (size count : ℕ) (records : List (List ℕ)) → All (Fits format size) records → count ≡ length records → length (stored format records) ≡ size_of format size count records
same_size F size count records each is = length_stored_fixed size records each ∙ ap (λ (n : ℕ). n * size) (sym is)
same_size V size count records each is = refl

file_same : (f new : File) → f.name ≡ new.name → f.number ≡ new.number → f.format ≡ new.format → f.length ≡ new.length → f.stamp ≡ new.stamp → f.records ≡ new.records → f ≡ new
file_same f new name number format length' stamp records =
    λ i. record { name = name i; number = number i; format = format i; length = length' i; stamp = stamp i; records = records i }

new_file : (disk : Disk) (total : ℕ) (later : Image) (g : HeldFile) (marks : List Mark) (new : File) → IsPutAs disk.bsize g new
    → IsDrafted disk total later g.entry g.tree.leaves marks g.tree.pointers new.records → NewFile disk total later g new
new_file disk total later g marks new p is_drafted =
    let d = draft_holds disk total later g.entry g.tree.leaves marks g.tree.pointers new.records is_drafted in
    let k : Kept = record { entry = as_read g.entry; met = d.met; records = new.records } in
    let lengths : length_of k.entry.format k.entry.length new.records ≡ new.length =
    length_so g.entry.format g.entry.length new.records ∙ rw (p.format_is, p.entry_length) p.longest_is in
    let each : All (Fits g.entry.format g.entry.length) new.records = rw (p.format_is, p.entry_length) p.each in
    record {
      file = k;
      is = record {
        entry_is = refl;
        told_is = p.entry_length ∙ sym p.length_is;
        tree_is = record { leaves = sym d.leaves_are; blocks = d.blocks_are };
        length_is = p.length_is ∙ sym lengths;
        size_is = p.size_is ∙ ap (λ (f : Format). length (stored f new.records)) (sym p.format_is) ∙ same_size g.entry.format g.entry.length g.entry.count new.records each p.count_is
            ∙ sym (size_so g.entry.format g.entry.length g.entry.count new.records);
      };
      file_is = file_same (file_of k) new p.name_is p.number_is p.format_is lengths p.stamp_is refl;
      entry_is = refl;
      holds = holds_read disk total later (record { entry = g.entry; met = d.met; records = new.records }) d.holds;
      stands = record {
        tree = d.stands;
        start = λ records is'.
            let same : new.records ≡ records = ok_same new.records records (sym (subst (λ (l : List ℕ). records_of disk.bsize g.entry.format g.entry.length g.entry.count (bytes_at later l) ≡ Ok new.records)
            d.leaves_are d.holds.records) ∙ is') in
            p.start_is ∙ (ap (λ (f : Format). start_of disk.bsize f new.records) (sym p.format_is) ∙ ap (start_of disk.bsize g.entry.format) same);
      };
      blocks_are = λ n. (let b = d.blocks_are n in let t = times_append n g.tree.leaves g.tree.pointers in omega arith);
    }

-- ---- it is there after the update

-- what is known of a file that is put
pub record Puts (j : Journal) (v : HeldVolume) (old : Layout) (g : HeldFile) (marks : List Mark) (new : File) (edit : Edit) (s : Systems) : Type 0 where
  pub at : IsHeldAt j v old
  pub kept : Keeps v
  pub few : length edit.files ≤ 16384
  pub planned : (stamp : Stamp) × IsPlanned v edit stamp s
  pub back : All ReadsBack (entries_held edit.files)
  pub taken_is : edit.taken ≡ blocks_in g.tree
  pub file : IsPutAs v.disk.bsize g new
  pub plan : IsBuildable v.disk.bsize (pointer_size g.entry.format) g.tree.leaves marks g.tree.pointers
  pub has : HasAll (now j v.unit) v.disk.bsize (pointer_size g.entry.format) g.tree.leaves marks g.tree.pointers (stored g.entry.format new.records)

pub all_allowed : (total : ℕ) (ns : List ℕ) → ((n : ℕ) → 1 ≤ times n ns → (6 ≤ n) × (n ≤ total)) → AllAllowed total None ns
unfolding is_allowed
all_allowed total [] each = tt
all_allowed total (n ∷ ns) each =
    let here = each n (omega (arith, times_first n ns)) in
    (and_from (nat_le 6 n) (nat_le n total) (le-leb 6 n here.0) (le-leb n total here.1), all_allowed total ns (λ k some. each k (omega (arith, some, times_later k n ns))))

drafted_later : (j : Journal) (v : HeldVolume) (old : Layout) (g : HeldFile) (marks : List Mark) (new : File) (edit : Edit) (s : Systems) → Puts j v old g marks new edit s
    → ((n : ℕ) → 1 ≤ times n (blocks_in g.tree) → now (later_of j v s) v.unit n ≡ now j v.unit n) → ((n : ℕ) → 1 ≤ times n (blocks_in g.tree) → (6 ≤ n) × (n ≤ v.label.blocks))
    → IsDrafted v.disk v.label.blocks (now (later_of j v s) v.unit) g.entry g.tree.leaves marks g.tree.pointers new.records
drafted_later j v old g marks new edit s p stay within =
    let leaves = g.tree.leaves in
    let pointers = g.tree.pointers in
    let whole = p.at.whole in
    let few = whole.small in
    let top = (old_blocks j v old p.at).top in
    let same : v.label.blocks ≡ old.label.blocks = ap (λ (l : Label). l.blocks) p.at.held.label_is in
    let in_leaves : (n : ℕ) → 1 ≤ times n leaves → 1 ≤ times n (blocks_in g.tree) = (λ n some. let t = times_append n leaves pointers in omega arith) in
    let in_pointers : (n : ℕ) → 1 ≤ times n pointers → 1 ≤ times n (blocks_in g.tree) = (λ n some. let t = times_append n leaves pointers in omega arith) in
    record {
      plan = p.plan;
      small = omega arith;
      words = all_of (λ n. n < 2 ^ 32) leaves (λ n some. let high = (within n (in_leaves n some)).1 in omega arith);
      data_allowed = all_allowed v.label.blocks leaves (λ n some. within n (in_leaves n some));
      nodes_allowed = all_allowed v.label.blocks pointers (λ n some. within n (in_pointers n some));
      root = p.file.root_is;
      blocks = p.file.blocks_are;
      levels_are = p.file.levels_are;
      count = p.file.count_is;
      each = rw (p.file.format_is, p.file.entry_length) p.file.each;
      size = p.file.leaves_are ∙ ap (λ (f : Format). up (length (stored f new.records)) v.disk.bsize) (sym p.file.format_is);
      has_data = λ k less. stay (slice_index leaves k) (in_leaves (slice_index leaves k) (in_times leaves k less)) ∙ p.has.has_data k less;
      nodes = λ nth less. stay (slice_index pointers nth) (in_pointers (slice_index pointers nth) (in_times pointers nth less)) ∙ p.has.nodes nth less;
    }

-- the new file of an edit of these files
placed : (j : Journal) (v : HeldVolume) (old : Layout) (g : HeldFile) (marks : List Mark) (new : File) (edit : Edit) (s : Systems) (files : List Kept) → Puts j v old g marks new edit s
    → ((n : ℕ) → times n (file_blocks files) + times n edit.given ≡ times n (file_blocks old.files) + times n edit.taken) → ((n : ℕ) → times n edit.given ≤ times n (file_blocks old.files))
    → NewFile v.disk v.label.blocks (now (later_of j v s) v.unit) g new
placed j v old g marks new edit s files p balance had =
    let x : IsTaking j v edit p.planned.0 s old files = record { at = p.at; planned = p.planned.1; few = p.few; back = p.back; balance = balance; had = had } in
    let same : v.label.blocks ≡ old.label.blocks = ap (λ (l : Label). l.blocks) p.at.held.label_is in
    let there : (n : ℕ) → 1 ≤ times n (blocks_in g.tree) → 1 ≤ times n edit.taken = (λ n some. subst (λ (ns : List ℕ). 1 ≤ times n ns) (sym p.taken_is) some) in
    new_file v.disk v.label.blocks (now (later_of j v s) v.unit) g marks new p.file
    (drafted_later j v old g marks new edit s p (λ n some. (taken_stay j v edit p.planned.0 s old files x n (there n some)).same)
    (λ n some. let e = taken_stay j v edit p.planned.0 s old files x n (there n some) in let high = e.high in (e.low, omega arith)))

-- a file with these blocks
abbrev stand_in : HeldFile → File → Kept
stand_in g new = record { entry = g.entry; met = record { blocks = blocks_in g.tree; leaves = g.tree.leaves }; records = new.records }

-- ---- in the place of one

pub replace_moves : (j : Journal) (v : HeldVolume) (old : Layout) (g : HeldFile) (marks : List Mark) (new : File) (s : Systems) (k : ℕ) (f : HeldFile) → slice_get v.files k ≡ Some f
    → f.entry.name ≡ g.entry.name → Puts j v old g marks new (replacing v.files k f g) s → Moved (now j v.unit) (now (later_of j v s) v.unit) v (replacing v.files k f g) old (Put new)
unfolding changed_files
replace_moves j v old g marks new s k f there named p =
    let later = now (later_of j v s) v.unit in
    let before = now j v.unit in
    let at = at_place old.files v.files p.at.held.files_are k f there in
    let h = at.file in
    let is = at.is h in
    let less = at.within in
    let balance_of : (q : Kept) → ((n : ℕ) → times n q.met.blocks ≡ times n (blocks_in g.tree)) → (n : ℕ)
    → times n (file_blocks (set old.files k q)) + times n (blocks_in f.tree) ≡ times n (file_blocks old.files) + times n (blocks_in g.tree) =
    (λ q blocks n. let t = set_times n old.files k q h less in let b = blocks n in let o = tree_times n h f at.held in
    let same : times n (get_or old.files k h).met.blocks ≡ times n h.met.blocks = ap (λ (x : Kept). times n x.met.blocks) is in omega arith) in
    let had : (n : ℕ) → times n (blocks_in f.tree) ≤ times n (file_blocks old.files) =
    (λ n. let t = at_times n old.files k h less in let o = tree_times n h f at.held in
    let same : times n (get_or old.files k h).met.blocks ≡ times n h.met.blocks = ap (λ (x : Kept). times n x.met.blocks) is in omega arith) in
    let placed' = placed j v old g marks new (replacing v.files k f g) s (set old.files k (stand_in g new)) p (balance_of (stand_in g new) (λ n. refl)) had in
    let q = placed'.file in
    let fs = set old.files k q in
    let count = beside_count old.files v.files p.at.held.files_are in
    let few = p.few in
    let held = beside_set old.files v.files k q g p.at.held.files_are placed'.is in
    let P = λ (x : Kept). passes v.disk.bsize x.entry ≡ true in
    let all = pass_all v.disk.bsize v.label.blocks old.files v.files p.at.held.files_are p.kept.each in
    let own : P q = ap (passes v.disk.bsize) placed'.entry_is ∙ (passes_so v.disk.bsize g.entry ∙ p.file.passes_all) in
    let file_named : (file_of h).name ≡ new.name = ap (λ (e : Entry). e.name) (sym at.held.entry_is) ∙ named ∙ p.file.name_is in
    let distinct = names_distinct old.files p.at.stands.names in
    let found = found_at old.files k h new.name distinct less is file_named in
    let changed : put_file new (map file_of old.files) ≡ map file_of fs =
    (place_changed new.name (map file_of old.files) k found.place).put new refl ∙ ap (λ (x : File). set (map file_of old.files) k x) (sym placed'.file_is) ∙ sym (map-set file_of old.files k q) in
    moved before later v (replacing v.files k f g) old (Put new) fs p.at.stands.names tt changed held (let n = length-set old.files k q in let m = length-set v.files k g in omega arith)
    (All-set P old.files k q own all)
    (come_set v.disk v.label.blocks before later (layout_blocks old) old.files k q
    (come_all v.disk v.label.blocks before later (layout_blocks old) old.files (files_old j v old p.at)) placed'.holds)
    (All-set (TreeComes v.disk.bsize v.label.blocks before later (layout_blocks old)) v.files k g (inr placed'.stands) (trees_of j v old later p.at))
    (balance_of q placed'.blocks_are) had

-- ---- as the last

pub add_moves : (j : Journal) (v : HeldVolume) (old : Layout) (g : HeldFile) (marks : List Mark) (new : File) (s : Systems) → NoneNamed new.name (map file_of old.files)
    → Puts j v old g marks new (adding v.files g) s → Moved (now j v.unit) (now (later_of j v s) v.unit) v (adding v.files g) old (Put new)
unfolding changed_files
add_moves j v old g marks new s none p =
    let later = now (later_of j v s) v.unit in
    let before = now j v.unit in
    let balance_of : (q : Kept) → ((n : ℕ) → times n q.met.blocks ≡ times n (blocks_in g.tree)) → (n : ℕ)
    → times n (file_blocks (old.files ++ q ∷ [])) + times n [] ≡ times n (file_blocks old.files) + times n (blocks_in g.tree) =
    (λ q blocks n. let t = last_times n old.files q in let b = blocks n in let z = no_times n in omega arith) in
    let had : (n : ℕ) → times n [] ≤ times n (file_blocks old.files) = (λ n. let z = no_times n in omega arith) in
    let placed' = placed j v old g marks new (adding v.files g) s (old.files ++ stand_in g new ∷ []) p (balance_of (stand_in g new) (λ n. refl)) had in
    let q = placed'.file in
    let fs = old.files ++ q ∷ [] in
    let count = beside_count old.files v.files p.at.held.files_are in
    let few = p.few in
    let held = beside_last old.files v.files q g p.at.held.files_are placed'.is in
    let P = λ (x : Kept). passes v.disk.bsize x.entry ≡ true in
    let all = pass_all v.disk.bsize v.label.blocks old.files v.files p.at.held.files_are p.kept.each in
    let T = TreeComes v.disk.bsize v.label.blocks before later (layout_blocks old) in
    let own : P q = ap (passes v.disk.bsize) placed'.entry_is ∙ (passes_so v.disk.bsize g.entry ∙ p.file.passes_all) in
    let changed : put_file new (map file_of old.files) ≡ map file_of fs =
    (none_added new.name (map file_of old.files) none).put new refl ∙ ap (λ (x : File). map file_of old.files ++ x ∷ []) (sym placed'.file_is) ∙ sym (map-append file_of old.files (q ∷ [])) in
    moved before later v (adding v.files g) old (Put new) fs p.at.stands.names tt changed held (omega (arith, length-append old.files (q ∷ []), length-append v.files (g ∷ [])))
    (All-append P old.files (q ∷ []) all (All-cons P q [] own (All-nil P)))
    (come_last v.disk v.label.blocks before later (layout_blocks old) old.files q
    (come_all v.disk v.label.blocks before later (layout_blocks old) old.files (files_old j v old p.at)) placed'.holds)
    (All-append T v.files (g ∷ []) (trees_of j v old later p.at) (All-cons T g [] (inr placed'.stands) (All-nil T)))
    (balance_of q placed'.blocks_are) had

-- ---- what is known of an update that puts a file before its blocks stand

abbrev stands_for : HeldFile → Kept
stands_for g = record { entry = g.entry; met = record { blocks = blocks_in g.tree; leaves = g.tree.leaves }; records = [] }

pub put_taking : (j : Journal) (v : HeldVolume) (old : Layout) (g : HeldFile) (stamp : Stamp) (edit : Edit) (s : Systems) → IsHeldAt j v old → IsPutOf v g edit
    → IsReadyFor v edit stamp s → length edit.files ≤ most_files → (files : List Kept) × IsTaking j v edit stamp s old files
put_taking j v old g stamp edit s at (replaces place f there named) ready few =
    let found = at_place old.files v.files at.held.files_are place f there in
    let h = found.file in
    let is = found.is h in
    let less = found.within in
    let q = stands_for g in
    let same : (n : ℕ) → times n (get_or old.files place h).met.blocks ≡ times n h.met.blocks = (λ n. ap (λ (x : Kept). times n x.met.blocks) is) in (
      set old.files place q,
      record {
        at = at;
        planned = ready.planned;
        few = few;
        back = ready.back;
        balance = λ n. (let t = set_times n old.files place q h less in let o = tree_times n h f found.held in let e = same n in omega arith);
        had = λ n. (let t = at_times n old.files place h less in let o = tree_times n h f found.held in let e = same n in omega arith);
      },
    )
put_taking j v old g stamp edit s at (adds none) ready few = (
  old.files ++ stands_for g ∷ [],
  record {
    at = at;
    planned = ready.planned;
    few = few;
    back = ready.back;
    balance = λ n. (let t = last_times n old.files (stands_for g) in let z = no_times n in omega arith);
    had = λ n. (let z = no_times n in omega arith);
  },
)
