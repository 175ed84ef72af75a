-- The data blocks of a directory that a change writes may be written, and are no more than all.
use Rattle.std.proofs.Common.{◌≡◌, ◌⊎◌, inl, inr, ℕ, zero, suc, ◌+◌, ◌-◌, ◌/◌, ◌≤◌, Bool, true, false, if◌then◌else◌, List, [], ◌∷◌, length, map, refl, ◌∙◌, ap, arith}
use Rattle.std.proofs.lemmas.List.{length-map}
use Rattle.cms_journal.specs.Journal.{IsBlockSize}
use Rattle.cms_names.specs.declared.name.Name.{Name}
use Rattle.cms_model.specs.Changes.{Change, Put, Add, Drop, Rename, Relabel, Century, added_to, behind_first, change_file, changed_files, count_after, directory_written, drop_file, entries_made, last_first, moved_to, place_named, put_file}
use Rattle.cms_model.specs.LawsChanges.{IsPlace, NoneNamed}
use Rattle.cms_model.specs.Minidisks.{File, Minidisk, same_name}
use Rattle.cms_model.specs.DirectoryParts.{all_entries, directory_count, directory_taken}
use Rattle.cms_model.specs.LawsRoom.{DirectoryIsNeeded, PlaceIsNamed}
use Rattle.cms_model.specs.SharedTrees.{MayBeWritten}
use Rattle.cms_model.specs.Sizes.{directory_more}
use Rattle.cms_model.proofs.DirectoryParts.{blocks_ascend, blocks_may, blocks_within}
use Rattle.cms_model.proofs.Exchanges.{takes_its_size}
use Rattle.cms_model.proofs.ListChanges.{name_other, name_self}

-- ---- the place of a name

found_there : (name : Name) (files : List File) (k : ℕ) → IsPlace name files k → place_named name files ≡ k
unfolding place_named
found_there name [] k p = absurd (let less = p.within in omega arith)
found_there name (f ∷ fs) zero p = let here : same_name name f.name ≡ true = ap (same_name name) (p.named f) ∙ name_self name in rw here refl
found_there name (f ∷ fs) (suc k) p =
    let less = p.within in
    let other : same_name name f.name ≡ false = name_other name f.name p.first.0 in
    rw other (ap suc (found_there name fs k (record { within = omega arith; named = λ d. p.named d; first = p.first.1 })))

none_there : (name : Name) (files : List File) → NoneNamed name files → place_named name files ≡ length files
unfolding place_named
none_there name [] none = refl
none_there name (f ∷ fs) none =
    let other : same_name name f.name ≡ false = name_other name f.name none.0 in
    rw other (ap suc (none_there name fs none.1))

pub place_is_named : PlaceIsNamed
place_is_named name files = record { found = λ k p. found_there name files k p; none = λ none. none_there name files none }

-- ---- how many files there are then

-- no more, or one, behind the last
abbrev Counts : Name → List File → List File → Type 0
Counts name files later = (length later ≤ length files) ⊎ ((length later ≡ suc (length files)) × (place_named name files ≡ length files))

put_counts : (new : File) (files : List File) → Counts new.name files (put_file new files)
unfolding put_file place_named
put_counts new [] = inr (refl, refl)
put_counts new (f ∷ fs) = go (same_name new.name f.name) (put_counts new fs)
  where
    go : (b : Bool) → Counts new.name fs (put_file new fs)
        → (length (if b then new ∷ fs else f ∷ put_file new fs) ≤ suc (length fs))
        ⊎ ((length (if b then new ∷ fs else f ∷ put_file new fs) ≡ suc (suc (length fs))) × ((if b then 0 else suc (place_named new.name fs)) ≡ suc (length fs)))
    go true rest = inl (omega arith)
    go false (inl fewer) = inl (omega arith)
    go false (inr one) = inr (ap suc one.0, ap suc one.1)

change_counts : (name : Name) (edit : File → File) (files : List File) → length (change_file name edit files) ≡ length files
unfolding change_file
change_counts name edit [] = refl
change_counts name edit (f ∷ fs) = go (same_name name f.name) (change_counts name edit fs)
  where
    go : (b : Bool) → length (change_file name edit fs) ≡ length fs → length (if b then edit f ∷ fs else f ∷ change_file name edit fs) ≡ suc (length fs)
    go true rest = refl
    go false rest = ap suc rest

pub last_counts : (files : List File) → length (last_first files) ≡ length files
unfolding last_first
last_counts [] = refl
last_counts (f ∷ fs) = behind f (last_first fs) ∙ ap suc (last_counts fs)
  where
    behind : (g : File) (gs : List File) → length (behind_first g gs) ≡ suc (length gs)
    behind g [] = refl
    behind g (h ∷ hs) = refl

pub drop_counts : (name : Name) (files : List File) → length (drop_file name files) ≤ length files
unfolding drop_file
drop_counts name [] = omega arith
drop_counts name (f ∷ fs) = go (same_name name f.name) (drop_counts name fs)
  where
    go : (b : Bool) → length (drop_file name fs) ≤ length fs → length (if b then last_first fs else f ∷ drop_file name fs) ≤ suc (length fs)
    go true rest = let same = last_counts fs in omega arith
    go false rest = omega arith

-- ---- the directory

pub may_be : (m : Minidisk) (change : Change) → IsBlockSize m.bsize
    → MayBeWritten (directory_count m.bsize (length m.files)) (directory_count m.bsize (count_after m change)) (directory_written m change)
unfolding entries_made changed_files
may_be m (Put new) size = blocks_may m.bsize (length m.files) (length (put_file new m.files)) (place_named new.name m.files) (0 ∷ (place_named new.name m.files + 2) ∷ []) size (put_counts new m.files) (inr (inl refl))
may_be m (Add name more stamp) size =
    let same = change_counts name (added_to more stamp) m.files in
    blocks_may m.bsize (length m.files) (length (change_file name (added_to more stamp) m.files)) (place_named name m.files) (0 ∷ (place_named name m.files + 2) ∷ []) size (inl (omega arith)) (inr (inl refl))
may_be m (Drop name) size =
    blocks_may m.bsize (length m.files) (length (drop_file name m.files)) (place_named name m.files) (0 ∷ (place_named name m.files + 2) ∷ (length m.files - 1 + 2) ∷ []) size (inl (drop_counts name m.files)) (inr (inl refl))
may_be m (Rename from to number) size =
    let edit : File → File = λ f. record f { name = to; number = number } in
    let same = change_counts from edit m.files in
    blocks_may m.bsize (length m.files) (length (change_file from edit m.files)) (place_named from m.files) (0 ∷ (place_named from m.files + 2) ∷ []) size (inl (omega arith)) (inr (inl refl))
may_be m (Relabel volid) size = record {
  ascend = blocks_ascend m.bsize (directory_count m.bsize (length m.files)) [];
  within = λ j there. blocks_within m.bsize (directory_count m.bsize (length m.files)) j [] there;
  grown = λ j low high. absurd (omega arith);
}
may_be m (Century pivot) size =
    let same : directory_count m.bsize (length (map (moved_to pivot) m.files)) ≡ directory_count m.bsize (length m.files) = ap (directory_count m.bsize) (length-map m.files (moved_to pivot)) in
    let made = all_entries (length m.files) in
    record {
      ascend = blocks_ascend m.bsize (directory_count m.bsize (length (map (moved_to pivot) m.files))) made;
      within = λ j there. blocks_within m.bsize (directory_count m.bsize (length (map (moved_to pivot) m.files))) j made there;
      grown = λ j low high. absurd (omega (arith, same, low, high));
    }

pub directory_is_needed : DirectoryIsNeeded
unfolding directory_taken directory_more
directory_is_needed m change size =
    let may = may_be m change size in
    let few = takes_its_size (m.bsize / 4) (directory_count m.bsize (length m.files)) (directory_count m.bsize (count_after m change)) (directory_written m change) may in
    record { may = may; few = omega arith }
