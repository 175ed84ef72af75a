-- A volume that stands opens, and what opens stands.
use Rattle.std.proofs.Common.{◌≡◌, ℕ, ◌+◌, ◌-◌, ◌≤◌, List, [], ◌∷◌, ◌++◌, None, Ok, false, refl, sym, ◌∙◌, ap, subst, arith}
use Rattle.std.proofs.lemmas.Bool.{or_parts}
use Rattle.cms_names.specs.declared.name.Name.{Name}
use Rattle.cms_fields.specs.declared.entry.Entry.{Entry}
use Rattle.cms_model.specs.Lists.{In, times, first_repeat}
use Rattle.cms_model.specs.Trees.{Image, Met, form_of, bytes_at}
use Rattle.cms_model.specs.Maps.{lowest_unmarked, lost_count}
use Rattle.cms_model.specs.Minidisks.{same_name, is_named}
use Rattle.cms_model.specs.Volumes.{Disk, Opened, HoldsSystem, IsOpened, open_of, first_twice, holder_of, file_trees, blocks_of, contents_in, all_blocks}
use Rattle.cms_model.specs.Stands.{Kept, HoldsFiles, entries_in, mets_in, records_in, file_blocks, NoEntryNamed, HaveNames, Layout, layout_blocks, opened, Stands}
use Rattle.cms_model.proofs.Repeats.{held_from, in_from, no_repeat, none_unmarked, if_none}
use Rattle.cms_model.proofs.TreeFrame.{tree_keeps}
use Rattle.cms_model.proofs.OpenedVolumes.{open_ok, open_again}
use Rattle.cms_model.proofs.FilesRead.{IsRead, each_read}
use Rattle.cms_model.proofs.InOrder.{in_order}
use Rattle.cms_model.proofs.ListChanges.{name_other, name_differs}

-- ---- from files to lists

trees_all : (disk : Disk) (total : ℕ) (image : Image) (dirs : List ℕ) (number : ℕ) (fs : List Kept) → HoldsFiles disk total image fs
    → file_trees disk.bsize total image dirs number (entries_in fs) ≡ Ok (mets_in fs)
unfolding file_trees
trees_all disk total image dirs number [] h = refl
trees_all disk total image dirs number (f ∷ fs) h =
    rw (h.0.met (holder_of disk.bsize dirs number), trees_all disk total image dirs (number + 1) fs h.1) refl

contents_all : (disk : Disk) (total : ℕ) (image : Image) (number : ℕ) (fs : List Kept) → HoldsFiles disk total image fs
    → contents_in disk.bsize image number (entries_in fs) (mets_in fs) ≡ Ok (records_in fs)
unfolding contents_in
contents_all disk total image number [] h = refl
contents_all disk total image number (f ∷ fs) h = rw (h.0.records, contents_all disk total image (number + 1) fs h.1) refl

pub blocks_all : (fs : List Kept) → blocks_of (mets_in fs) ≡ file_blocks fs
unfolding blocks_of file_blocks
blocks_all [] = refl
blocks_all (f ∷ fs) = rw (blocks_all fs) refl

-- none of these names is that of a file
abbrev NoneBefore : List Kept → List Name → Type 0
NoneBefore fs [] = Unit {0}
NoneBefore fs (n ∷ ns) = NoEntryNamed n fs × NoneBefore fs ns

first_new : (before : List Name) (f : Kept) (fs : List Kept) → NoneBefore (f ∷ fs) before → is_named f.entry.name before ≡ false
unfolding is_named
first_new [] f fs none = refl
first_new (n ∷ before) f fs none =
    let other : same_name f.entry.name n ≡ false = name_other f.entry.name n (λ is. none.0.0 (sym is)) in
    rw (other, first_new before f fs none.1) refl

rest_none : (before : List Name) (f : Kept) (fs : List Kept) → NoneBefore (f ∷ fs) before → NoneBefore fs before
rest_none [] f fs none = tt
rest_none (n ∷ before) f fs none = (none.0.1, rest_none before f fs none.1)

none_twice : (number : ℕ) (before : List Name) (fs : List Kept) → HaveNames fs → NoneBefore fs before → first_twice number before (entries_in fs) ≡ None
unfolding first_twice
none_twice number before [] names none = refl
none_twice number before (f ∷ fs) names none =
    rw (first_new before f fs none) (none_twice (number + 1) (f.entry.name ∷ before) fs names.1 (names.0, rest_none before f fs none))

none_first : (n : ℕ) (ns : List ℕ) → times n ns ≤ 1 → times n [] + times n ns ≤ 1
unfolding times
none_first n ns most = omega arith

pub stands_opened : (disk : Disk) (image : Image) (v : Layout) → Stands disk image v → IsOpened disk image (opened v)
stands_opened disk image v s =
    let same : all_blocks (opened v) ≡ layout_blocks v = ap (λ (l : List ℕ). v.directory_met.blocks ++ (v.map_met.blocks ++ l)) (blocks_all v.files) in
    record {
      system = s.system;
      names = none_twice 2 [] v.files s.names tt;
      mets = trees_all disk v.label.blocks image v.directory_met.leaves 2 v.files s.files;
      apart = ap (first_repeat []) same ∙ no_repeat [] (layout_blocks v) (λ n. none_first n (layout_blocks v) (s.apart n));
      marked = ap (λ (l : List ℕ). lowest_unmarked (bytes_at image v.map_met.leaves) l 6 (v.label.blocks - 5)) same
          ∙ none_unmarked (bytes_at image v.map_met.leaves) (layout_blocks v) 6 (v.label.blocks - 5) s.marked;
      contents = contents_all disk v.label.blocks image 2 v.files s.files;
      lost = ap (λ (l : List ℕ). lost_count (bytes_at image v.map_met.leaves) l 6 (v.label.blocks - 5)) same ∙ s.lost;
    }

pub stands_opens : (disk : Disk) (image : Image) (v : Layout) → Stands disk image v → open_of disk image ≡ Ok (opened v)
stands_opens disk image v s = open_again disk image (opened v) (stands_opened disk image v s)

-- ---- from lists to files

record Files (disk : Disk) (total : ℕ) (image : Image) (es : List Entry) (ms : List Met) (cs : List (List (List ℕ))) : Type 0 where
  files : List Kept
  are_entries : entries_in files ≡ es
  are_mets : mets_in files ≡ ms
  are_records : records_in files ≡ cs
  all : HoldsFiles disk total image files

files_from : (disk : Disk) (total : ℕ) (image : Image) (dirs : List ℕ) (number : ℕ) (es : List Entry) (ms : List Met) (cs : List (List (List ℕ)))
    → file_trees disk.bsize total image dirs number es ≡ Ok ms → contents_in disk.bsize image number es ms ≡ Ok cs → Files disk total image es ms cs
files_from disk total image dirs number es ms cs t c = each_read disk total image dirs (Files disk total image)
    (record { files = []; are_entries = refl; are_mets = refl; are_records = refl; all = tt }) more number es ms cs t c
  where
    more : (holder : ℕ) (e : Entry) (m : Met) (rs : List (List ℕ)) (es : List Entry) (ms : List Met) (cs : List (List (List ℕ))) → IsRead disk total image holder e m rs
        → Files disk total image es ms cs → Files disk total image (e ∷ es) (m ∷ ms) (rs ∷ cs)
    more holder e m rs es ms cs read f =
        record {
          files = (record { entry = e; met = m; records = rs }) ∷ f.files;
          are_entries = ap (λ (l : List Entry). e ∷ l) f.are_entries;
          are_mets = ap (λ (l : List Met). m ∷ l) f.are_mets;
          are_records = ap (λ (l : List (List (List ℕ))). rs ∷ l) f.are_records;
          all = (
            record {
              met = λ other. tree_keeps (form_of disk.bsize total e.format) image image e.levels None holder other e.root e.blocks m read.met (λ x in'. refl);
              records = read.records;
            },
            f.all,
          );
        }

one_more : (before : List Name) (f : Kept) (fs : List Kept) → is_named f.entry.name before ≡ false → NoneBefore fs before → NoneBefore (f ∷ fs) before
unfolding is_named
one_more [] f fs e none = tt
one_more (n ∷ before) f fs e none =
    let both = or_parts (same_name f.entry.name n) (is_named f.entry.name before) e in
    ((λ is. name_differs f.entry.name n both.0 (sym is), none.0), one_more before f fs both.1 none.1)

names_from : (number : ℕ) (before : List Name) (fs : List Kept) → first_twice number before (entries_in fs) ≡ None → HaveNames fs × NoneBefore fs before
unfolding first_twice
names_from number before [] e = (tt, nothing before)
  where
    nothing : (ns : List Name) → NoneBefore [] ns
    nothing [] = tt
    nothing (n ∷ ns) = (tt, nothing ns)
names_from number before (f ∷ fs) e =
    let c = if_none (is_named f.entry.name before) number (first_twice (number + 1) (f.entry.name ∷ before) (entries_in fs)) e in
    let deeper = names_from (number + 1) (f.entry.name ∷ before) fs c.1 in
    ((deeper.1.0, deeper.0), one_more before f fs c.0 deeper.1.1)

pub opened_stands : (disk : Disk) (image : Image) (o : Opened) → open_of disk image ≡ Ok o → (v : Layout) × Stands disk image v × (opened v ≡ o)
opened_stands disk image o e = go (files_from disk o.label.blocks image o.directory_met.leaves 2 o.entries o.mets o.contents i.mets i.contents)
  where
    i : IsOpened disk image o
    i = open_ok disk image o e

    layout : List Kept → Layout
    layout fs = record { label = o.label; directory = o.directory; directory_met = o.directory_met; map = o.map; map_met = o.map_met; files = fs; lost = o.lost }

    go : Files disk o.label.blocks image o.entries o.mets o.contents → (v : Layout) × Stands disk image v × (opened v ≡ o)
    go f =
        let v = layout f.files in
        let order = in_order disk image o e in
        let is : opened v ≡ o = λ k. record {
          label = o.label;
          directory = o.directory;
          directory_met = o.directory_met;
          map = o.map;
          map_met = o.map_met;
          entries = f.are_entries k;
          mets =
              f.are_mets k;
          contents = f.are_records k;
          lost = o.lost;
        } in
        let same : all_blocks o ≡ layout_blocks v = ap (λ (l : List ℕ). o.directory_met.blocks ++ (o.map_met.blocks ++ l)) (ap blocks_of (sym f.are_mets) ∙ blocks_all f.files) in (
          v,
          record {
            system = subst (HoldsSystem disk image) (sym is) i.system;
            names = (names_from 2 [] f.files (ap (first_twice 2 []) f.are_entries ∙ i.names)).0;
            files = f.all;
            apart = λ n. subst (λ (l : List ℕ). times n l ≤ 1) same (order.once n);
            marked = λ n le some. order.marked n le (subst (In n) (sym same) (in_from n (layout_blocks v) (held_from n (layout_blocks v) some)));
            lost = ap (λ (l : List ℕ). lost_count (bytes_at image o.map_met.leaves) l 6 (o.label.blocks - 5)) (sym same) ∙ i.lost;
          },
          is,
        )
