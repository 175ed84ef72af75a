-- A file that grows, among files that are held.
use Rattle.std.proofs.Common.{◌≡◌, ◌⊎◌, inr, ⊎_elim, ℕ, suc, ◌+◌, ◌-◌, ◌*◌, ◌/◌, ◌^◌, ◌<◌, ◌≤◌, true, List, [], ◌∷◌, ◌++◌, length, drop, map, set, get_or, slice_get, All, Option, None, Some, refl, sym, ◌∙◌, ap, subst, arith, length-append}
use Rattle.std.proofs.lemmas.Bool.{cases_lt}
use Rattle.std.proofs.lemmas.List.{length-set, map-set}
use Rattle.std.proofs.lemmas.List.Elements.{All-cons, All-get_or, All-nil, All-set}
use Rattle.std.proofs.lemmas.Option.{get_or_from_slice_get, slice_get_within}
use Rattle.cms_journal.specs.Journal.{Journal}
use Rattle.cms_names.specs.declared.name.Format.{Format}
use Rattle.cms_names.specs.declared.name.Format.TheVariants.{F, V}
use Rattle.cms_fields.specs.Entries.{passes, pointer_size}
use Rattle.cms_fields.specs.declared.entry.Entry.{Entry}
use Rattle.cms_fields.specs.declared.label.Label.{Label}
use Rattle.cms_fields.specs.declared.time.Stamp.{Stamp}
use Rattle.cms_model.specs.Changes.{Add, added_to, change_file, changed_files}
use Rattle.cms_model.specs.LawsUpdates.{now}
use Rattle.cms_model.specs.Lists.{In, times}
use Rattle.cms_model.specs.Minidisks.{File}
use Rattle.cms_model.specs.Records.{Fits, length_of, stored}
use Rattle.cms_model.specs.Stands.{HoldsFile, Kept, Layout, file_blocks, file_of, layout_blocks}
use Rattle.cms_model.specs.Sizes.{levels}
use Rattle.cms_model.specs.Trees.{Image, form_of}
use Rattle.cms_model.specs.Volumes.{as_read, length_read}
use Rattle.cms_model.proofs.ListChanges.{place_changed}
use Rattle.cms_model.proofs.EntriesRead.{length_so, passes_so}
use Rattle.cms_model.proofs.Members.{In-left, In-right}
use Rattle.cms_model.proofs.Records.{length_stored_fixed, longest_both, stored_append}
use Rattle.cms_model.proofs.TreeFrame.{tree_places}
use Rattle.cms_model.proofs.Repeats.{held, held_from, in_from, in_held, times_append}
use Rattle.cms_tree.specs.declared.types.Mark.{Mark}
use Rattle.cms_tree.specs.Builds.{root_of}
use Rattle.cms_tree.specs.Climbs.{numbers_behind}
use Rattle.cms_tree.proofs.BuiltTrees.{fan_wide}
use Rattle.cms_tree.proofs.Own.{in_at, in_drop_at}
use Rattle.cms_held.specs.Drafts.{Drafted, Front, own_blocks, stored_on}
use Rattle.cms_held.specs.Growths.{GrowEdits, GrowsFile, GrowsHeld, IsGrown, form_on, growing, length_with, places_behind}
use Rattle.cms_held.specs.HeldVolumes.{HeldFile, HeldVolume, size_of}
use Rattle.cms_held.specs.HeldTrees.{TreeComes}
use Rattle.cms_held.specs.Kept.{IsKeptFile, Keeps}
use Rattle.cms_held.specs.LawsRenewals.{IsHeldAt}
use Rattle.cms_held.specs.Renewals.{Edit, blocks_in}
use Rattle.cms_held.specs.Allotments.{KeepsTree}
use Rattle.cms_held.specs.SharedTrees.{HasShape}
use Rattle.cms_held.proofs.Edits.{AtPlace, Beside, FoundAt, Is, Moved, Old, at_place, beside_count, beside_set, come_all, files_old, found_at, moved, names_distinct, pass_all, trees_of}
use Rattle.cms_held.proofs.Edits as edits
use Rattle.cms_held.proofs.Grown.{grown_is_shared, keeps_tree}
use Rattle.cms_held.proofs.GrownBlocks.{own_is_fresh}
use Rattle.cms_held.proofs.GrownFiles.{grown_holds}
use Rattle.cms_held.proofs.KeptTrees.{TreeTimes, node_comes, tree_times}
use Rattle.cms_held.proofs.PutAsides.{free_aside, free_of}
use Rattle.cms_held.proofs.PutMoves.{all_allowed, at_times, come_set, set_times}
use Rattle.cms_held.proofs.Renewals.{all_of, holds_read, size_so}

-- ---- the lengths of its records

length_grown : (format : Format) (size size' : ℕ) (records more : List (List ℕ)) → (format ≡ F → size' ≡ size)
    → length_of format size' (records ++ more) ≡ length_with format (length_of format size records) more
length_grown F size size' records more same = same refl
length_grown V size size' records more same = longest_both records more

size_grown : (format : Format) (size size' count count' : ℕ) (records more : List (List ℕ)) → (format ≡ F → size' ≡ size) → count' ≡ count + length more → All (Fits format size') more
    → size_of format size' count' (records ++ more) ≡ size_of format size count records + length (stored format more)
size_grown F size size' count count' records more same is each =
    let e = same refl in
    let long = length_stored_fixed size' more each in
    let whole : (count + length more) * size ≡ count * size + length more * size = both_times count (length more) size in
    ap (λ (n : ℕ). n * size') is ∙ ap (λ (n : ℕ). (count + length more) * n) e ∙ whole
    ∙ ap (λ (n : ℕ). count * size + n) (ap (λ (n : ℕ). length more * n) (sym e) ∙ sym long)
  where
    both_times : (a b c : ℕ) → (a + b) * c ≡ a * c + b * c
    both_times a b c = grind arith
size_grown V size size' count count' records more same is each =
    ap (λ (l : List ℕ). length l) (stored_append V records more) ∙ length-append (stored V records) (stored V more)

length_added : (format format' : Format) (size size' : ℕ) (records more : List (List ℕ)) → format' ≡ format → (format' ≡ F → size' ≡ size)
    → length_of format (length_of format size records) (records ++ more) ≡ length_of format' size' (records ++ more)
length_added F format' size size' records more is same = sym (ap (λ (y : Format). length_of y size' (records ++ more)) is ∙ same is)
length_added V format' size size' records more is same = ap (λ (y : Format). length_of y size' (records ++ more)) (sym is)

-- where all records have one length, the one that is told is read
fixed_read : (format : Format) (size : ℕ) → format ≡ F → size ≡ length_read format size
fixed_read F size is = refl
fixed_read V size is = absurd (cc is)

-- what holds at each place holds of each
by_place : (P : ℕ → Type 0) (xs : List ℕ) → ((i : ℕ) → i < length xs → P (get_or xs i 0)) → All P xs
by_place P [] each = All-nil P
by_place P (y ∷ ys) each = All-cons P y ys (each 0 (omega arith)) (by_place P ys (λ i less. each (suc i) (omega arith)))

-- ---- among the files

pub grow_moves : (j : Journal) (v : HeldVolume) (old : Layout) (later : Image) (k : ℕ) (f g : HeldFile) (marks : List Mark) (front : Front) (mark : Mark) (more : List (List ℕ)) (stamp : Stamp)
    → IsHeldAt j v old → Keeps v → slice_get v.files k ≡ Some f → GrowsHeld v (now j v.unit) later f g marks front mark more stamp
    → Moved (now j v.unit) later v (growing v.disk.bsize v.files k f g) old (Add f.entry.name more stamp)
unfolding changed_files
grow_moves j v old later k f g marks front mark more stamp x kept there q =
    moved before later v edit old (Add f.entry.name more stamp) fs x.stands.names tt changed beside
    (let n = length-set old.files k new in let count = beside_count old.files v.files x.held.files_are in let few = kept.few in omega arith)
    (All-set P old.files k new (passes_so bsize g.entry ∙ q.file.passes_all) (pass_all v.disk.bsize v.label.blocks old.files v.files x.held.files_are kept.each))
    (come_set v.disk v.label.blocks before later (layout_blocks old) old.files k new
    (come_all v.disk v.label.blocks before later (layout_blocks old) old.files (files_old j v old x)) new_holds)
    (All-set T v.files k g (inr (record { tree = drafted.stands; start = q.start_is })) (trees_of j v old later x))
    balance had
  where
    before : Image
    before = now j v.unit

    bsize : ℕ
    bsize = v.disk.bsize

    psize : ℕ
    psize = pointer_size g.entry.format

    fan : ℕ
    fan = bsize / psize

    kept_count : ℕ
    kept_count = f.size / bsize

    written : List ℕ
    written = places_behind kept_count (length g.tree.leaves)

    edit : Edit
    edit = growing bsize v.files k f g

    at : AtPlace old.files k f
    at = at_place old.files v.files x.held.files_are k f there

    h : Kept
    h = at.file

    is : get_or old.files k h ≡ h
    is = at.is h

    less : k < length old.files
    less = at.within

    P : Kept → Type 0
    P y = passes bsize y.entry ≡ true

    T : HeldFile → Type 0
    T = TreeComes bsize v.label.blocks before later (layout_blocks old)

    h_old : Old v.disk v.label.blocks before (layout_blocks old) h
    h_old = subst (Old v.disk v.label.blocks before (layout_blocks old)) is (All-get_or (Old v.disk v.label.blocks before (layout_blocks old)) old.files k h less (files_old j v old x))

    entry_is : as_read f.entry ≡ h.entry
    entry_is = at.held.entry_is

    leaves_is : f.tree.leaves ≡ h.met.leaves
    leaves_is = at.held.tree_is.leaves

    held_here : IsKeptFile bsize v.label.blocks f
    held_here = subst (IsKeptFile bsize v.label.blocks) (get_or_from_slice_get v.files k f f there)
        (All-get_or (IsKeptFile bsize v.label.blocks) v.files k f (slice_get_within v.files k f there) kept.each)

    wide : 2 ≤ fan
    wide = let w = fan_wide bsize psize q.plan.size q.plan.pointer in omega arith

    -- its blocks lie from 6 to the last
    old_within : (n : ℕ) → 1 ≤ times n (blocks_in f.tree) → (6 ≤ n) × (n ≤ v.label.blocks)
    old_within n some =
        let same = edits.tree_times n h f at.held in
        ⊎_elim
        (λ (w : (6 ≤ n) × (n ≤ v.label.blocks)). w)
        (λ (first : None ≡ Some n). absurd (no_place n first))
        (tree_places (form_of bsize v.label.blocks h.entry.format) before h.entry.levels None 0 h.entry.root h.entry.blocks h.met (h_old.0.met 0) n
        (in_from n h.met.blocks (held_from n h.met.blocks (omega arith))))
      where
        no_place : (n : ℕ) → ◌≡◌ {A = Option ℕ} None (Some n) → ⊥
        no_place n e = cc

    old_in : (n : ℕ) → In n (blocks_in f.tree) → (6 ≤ n) × (n ≤ v.label.blocks)
    old_in n there = old_within n (held n (blocks_in f.tree) (in_held n (blocks_in f.tree) there))

    small : v.label.blocks < 2 ^ 32
    small = let a = x.whole.small in let b = kept.within in omega arith

    total_is : v.label.blocks ≡ old.label.blocks
    total_is = ap (λ (l : Label). l.blocks) x.held.label_is

    fresh_in : (n : ℕ) → In n edit.taken → (6 ≤ n) × (n ≤ v.label.blocks)
    fresh_in n there =
        let a = free_aside j v old x n (free_of v edit.taken q.free n there) in
        let low = a.low in
        let high = a.high in
        let same = total_is in
        (low, omega arith)

    shape : HasShape fan g.tree
    shape = record { some = let s = q.plan.some in omega arith; few = q.plan.few; nodes = q.plan.numbers }

    tree : KeepsTree fan written f.tree g.tree
    tree = keeps_tree fan kept_count f.tree g.tree q.keeps

    word : (n : ℕ) → (6 ≤ n) × (n ≤ v.label.blocks) → n < 2 ^ 32
    word n w = let high = w.1 in let s = small in omega arith

    words : All (λ n. n < 2 ^ 32) g.tree.leaves
    words = by_place (λ n. n < 2 ^ 32) g.tree.leaves (λ i less'. ⊎_elim
        (λ (low : i < kept_count).
        let inside : i < length f.tree.leaves = (let a = q.keeps.kept_old in omega arith) in
        subst (λ (n : ℕ). n < 2 ^ 32) (sym (q.keeps.leaves i low))
        (word (get_or f.tree.leaves i 0) (old_in (get_or f.tree.leaves i 0) (In-left (get_or f.tree.leaves i 0) f.tree.leaves f.tree.pointers (in_at f.tree.leaves i inside)))))
        (λ (high : kept_count ≤ i).
        let n = get_or g.tree.leaves i 0 in
        let own = own_blocks fan g.tree.leaves g.tree.pointers kept_count in
        let there' : In n own = In-left n (drop kept_count g.tree.leaves)
        (numbers_behind fan (levels fan (length g.tree.leaves)) (length g.tree.leaves) kept_count g.tree.pointers) (in_drop_at g.tree.leaves kept_count i high less') in
        word n (fresh_in n (subst (λ (l : List ℕ). In n l) (own_is_fresh fan kept_count f.tree g.tree wide q.old_shape shape.nodes q.keeps) there')))
        (cases_lt i kept_count))

    node_words : All (λ n. n < 2 ^ 32) g.tree.pointers
    node_words = by_place (λ n. n < 2 ^ 32) g.tree.pointers (λ i less'.
        let n = get_or g.tree.pointers i 0 in
        ⊎_elim
        (λ (was : In n f.tree.pointers). word n (old_in n (In-right n f.tree.leaves f.tree.pointers was)))
        (λ (more' : In n edit.taken ⊎ (n ≡ 0)). ⊎_elim
        (λ (fresh : In n edit.taken). word n (fresh_in n fresh))
        (λ (none : n ≡ 0). omega (arith, none))
        more')
        (node_comes fan written f.tree g.tree (omega (arith, wide)) tree n (in_at g.tree.pointers i less')))

    root_word : root_of f.tree.leaves f.tree.pointers < 2 ^ 32
    root_word =
        let all = blocks_in f.tree in
        let some = q.old_shape.some in
        let long = length-append f.tree.leaves f.tree.pointers in
        let n = get_or all (length all - 1) 0 in
        word n (old_in n (in_at all (length all - 1) (omega arith)))

    grown : IsGrown bsize psize v.label.blocks before later f.tree g.tree marks kept_count front.nodes mark (stored_on g.entry.format front more)
    grown = record {
      plan = q.plan;
      old_shape = q.old_shape;
      shape = shape;
      keeps = q.keeps;
      words = words;
      node_words = node_words;
      root_word = root_word;
      stands = q.stands;
      same = λ n there'. q.same n (In-right n f.tree.leaves f.tree.pointers there');
      es_is = q.es_is;
      fits = q.fits;
      has = q.has;
    }

    times_of : (n : ℕ) → TreeTimes fan written f.tree g.tree n
    times_of n = tree_times (form_on bsize psize v.label.blocks) before later written f.tree g.tree (omega (arith, wide)) q.old_shape shape q.stands
        (grown_is_shared bsize psize v.label.blocks before later f.tree g.tree marks kept_count front.nodes mark (stored_on g.entry.format front more) grown) n

    -- the blocks of the new tree lie from 6 to the last too
    new_within : (n : ℕ) → 1 ≤ times n (blocks_in g.tree) → (6 ≤ n) × (n ≤ v.label.blocks)
    new_within n some =
        let t = times_of n in
        let sum = t.sum in
        let a = times_append n g.tree.leaves g.tree.pointers in
        let b = times_append n f.tree.leaves f.tree.pointers in
        ⊎_elim
        (λ (none : times n (blocks_in f.tree) < 1). fresh_in n (in_from n edit.taken (held_from n edit.taken (omega arith))))
        (λ (was : 1 ≤ times n (blocks_in f.tree)). old_within n was)
        (cases_lt (times n (blocks_in f.tree)) 1)

    in_leaves : (n : ℕ) → 1 ≤ times n g.tree.leaves → 1 ≤ times n (blocks_in g.tree)
    in_leaves n some = let t = times_append n g.tree.leaves g.tree.pointers in omega arith

    in_pointers : (n : ℕ) → 1 ≤ times n g.tree.pointers → 1 ≤ times n (blocks_in g.tree)
    in_pointers n some = let t = times_append n g.tree.leaves g.tree.pointers in omega arith

    grows : GrowsFile v.disk v.label.blocks before later h f.tree g.entry g.tree marks front mark f.size more
    grows = record {
      tree = grown;
      holds = h_old.0;
      leaves_is = sym leaves_is;
      same = λ n there'. q.same n (In-left n f.tree.leaves f.tree.pointers there');
      long = all_of (λ n. length (before n) ≡ bsize) f.tree.leaves (λ n some.
          let t = times_append n f.tree.leaves f.tree.pointers in
          let w = old_within n (omega arith) in
          let low = w.0 in
          let high = w.1 in
          let top = kept.within in
          x.whole.each n (omega arith) (omega arith));
      format_is = q.file.format_is ∙ ap (λ (e : Entry). e.format) entry_is;
      length_is = λ fixed. q.file.fixed fixed ∙ (fixed_read f.entry.format f.entry.length (sym q.file.format_is ∙ fixed) ∙ ap (λ (e : Entry). e.length) entry_is);
      count_is = q.file.count_is ∙ ap (λ (e : Entry). e.count + length more) entry_is;
      root = q.file.root_is;
      blocks = q.file.blocks_are;
      levels_are = q.file.levels_are;
      size_is = at.held.size_is;
      size_room = q.size_room;
      front_is = q.front_is;
      each = q.file.each;
      leaves_are = q.leaves_are;
      small = small;
      data_allowed = all_allowed v.label.blocks g.tree.leaves (λ n some. new_within n (in_leaves n some));
      nodes_allowed = all_allowed v.label.blocks g.tree.pointers (λ n some. new_within n (in_pointers n some));
    }

    drafted : Drafted v.disk v.label.blocks later g.entry g.tree.leaves g.tree.pointers (h.records ++ more)
    drafted = grown_holds v.disk v.label.blocks before later h f.tree g.entry g.tree marks front mark f.size more grows

    new : Kept
    new = record { entry = as_read g.entry; met = drafted.met; records = h.records ++ more }

    new_holds : HoldsFile v.disk v.label.blocks later new
    new_holds = holds_read v.disk v.label.blocks later (record { entry = g.entry; met = drafted.met; records = h.records ++ more }) drafted.holds

    fs : List Kept
    fs = set old.files k new

    format : g.entry.format ≡ h.entry.format
    format = grows.format_is

    -- the file's records are as long as the longest of them
    lengths : length_of g.entry.format g.entry.length (h.records ++ more) ≡ length_with g.entry.format (length_of h.entry.format h.entry.length h.records) more
    lengths = length_grown g.entry.format h.entry.length g.entry.length h.records more grows.length_is
        ∙ ap (λ (y : Format). length_with g.entry.format (length_of y h.entry.length h.records) more) format

    added : added_to more stamp (file_of h) ≡ file_of new
    added = λ i. record {
      name = (ap (λ (e : Entry). e.name) (sym entry_is) ∙ sym q.file.name_is) i;
      number = (ap (λ (e : Entry). e.number) (sym entry_is) ∙ sym q.file.number_is) i;
      format = sym format i;
      length = (length_added h.entry.format g.entry.format h.entry.length g.entry.length h.records more format grows.length_is
          ∙ sym (length_so g.entry.format g.entry.length (h.records ++ more))) i;
      stamp = sym q.file.stamp_is i;
      records = h.records ++ more;
    }

    found : FoundAt old.files k h f.entry.name
    found = found_at old.files k h f.entry.name (names_distinct old.files x.stands.names) less is (ap (λ (e : Entry). e.name) (sym entry_is))

    changed : change_file f.entry.name (added_to more stamp) (map file_of old.files) ≡ map file_of fs
    changed = (place_changed f.entry.name (map file_of old.files) k found.place).changed (added_to more stamp) (file_of h)
        ∙ ap (λ (y : File). set (map file_of old.files) k (added_to more stamp y)) found.in_map ∙ ap (λ (y : File). set (map file_of old.files) k y) added
        ∙ sym (map-set file_of old.files k new)

    one : Is new g
    one = record {
      entry_is = refl;
      told_is = q.file.told_is;
      tree_is = record { leaves = sym drafted.leaves_are; blocks = drafted.blocks_are };
      length_is = q.file.length_is ∙ ap (λ (n : ℕ). length_with g.entry.format n more) at.held.length_is ∙ (sym lengths ∙ sym (length_so g.entry.format g.entry.length (h.records ++ more)));
      size_is = q.file.size_is ∙ ap (λ (n : ℕ). n + length (stored g.entry.format more))
          (at.held.size_is ∙ ap (λ (y : Format). size_of y h.entry.length h.entry.count h.records) (sym format))
          ∙ sym (size_grown g.entry.format h.entry.length g.entry.length h.entry.count g.entry.count h.records more grows.length_is grows.count_is q.file.each)
          ∙ sym (size_so g.entry.format g.entry.length g.entry.count (h.records ++ more));
    }

    beside : Beside fs edit.files
    beside = beside_set old.files v.files k new g x.held.files_are one

    balance : (n : ℕ) → times n (file_blocks fs) + times n edit.given ≡ times n (file_blocks old.files) + times n edit.taken
    balance n =
        let t = set_times n old.files k new h less in
        let b = drafted.blocks_are n in
        let o = edits.tree_times n h f at.held in
        let a = times_append n f.tree.leaves f.tree.pointers in
        let sum = (times_of n).sum in
        let same : times n (get_or old.files k h).met.blocks ≡ times n h.met.blocks = ap (λ (y : Kept). times n y.met.blocks) is in
        omega arith

    had : (n : ℕ) → times n edit.given ≤ times n (file_blocks old.files)
    had n =
        let t = at_times n old.files k h less in
        let o = edits.tree_times n h f at.held in
        let a = times_append n f.tree.leaves f.tree.pointers in
        let part = (times_of n).part in
        let same : times n (get_or old.files k h).met.blocks ≡ times n h.met.blocks = ap (λ (y : Kept). times n y.met.blocks) is in
        omega arith

pub grow_edits : GrowEdits
grow_edits j v old later k f g marks front mark more stamp x kept there q back =
    let m = grow_moves j v old later k f g marks front mark more stamp x kept there q in
    record { files = m.files; files_are = m.files_are; leaves = m.leaves back }
