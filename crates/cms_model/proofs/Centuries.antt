-- Stamps that are moved by a century.
use Rattle.std.proofs.Common.{◌≡◌, inl, inr, ℕ, ◌+◌, ◌/◌, ◌%◌, ◌<◌, Bool, true, false, if◌then◌else◌, nat_lt, List, [], ◌∷◌, length, map, refl, ◌∙◌, ap, arith}
use Rattle.std.specs.List.{filter, range_with_len}
use Rattle.std.proofs.lemmas.Bool.{and_from, and_parts, le-ltb, le-leb, ltb-true}
use Rattle.std.proofs.lemmas.List.{length-map}
use Rattle.std.proofs.lemmas.List.FromFn.{length-range_with_len}
use Rattle.cms_journal.specs.Journal.{IsBlockSize}
use Rattle.cms_journal.proofs.Sizes.{block_bounds}
use Rattle.cms_fields.specs.Stamps.{is_stamp}
use Rattle.cms_fields.specs.declared.time.Stamp.{Stamp}
use Rattle.cms_fields.proofs.Dates.{stamp_small}
use Rattle.cms_model.specs.Changes.{changed_files, entries_made, moved_to, stamp_moved}
use Rattle.cms_model.specs.DirectoryParts.{all_entries, blocks_with, directory_count, directory_taken, entry_block}
use Rattle.cms_model.specs.LawsCenturies.{CenturyIsWhole, MovedIsLate, MovedIsStamp}
use Rattle.cms_model.specs.Lists.{In, holds}
use Rattle.cms_model.specs.SharedTrees.{fresh_count}
use Rattle.cms_model.specs.Sizes.{directory_more, pointer_count, tree_size}
use Rattle.cms_model.proofs.DirectoryParts.{all_blocks, from_row, made_all}
use Rattle.cms_model.proofs.Repeats.{in_held}
use Rattle.cms_model.proofs.SharedTrees.{all_is_whole}

-- ---- stamps

-- a century later it is as much a leap year
same_leap : (year : ℕ) → (year + 100) % 4 ≡ year % 4
same_leap year = omega arith

later_is_stamp : (s : Stamp) → s.year < 2000 → is_stamp s ≡ true → is_stamp (record s { year = s.year + 100 }) ≡ true
unfolding is_stamp
later_is_stamp s early is =
    let low = (stamp_small s is).first_year in
    let year = and_from _ _ (le-leb 1900 (s.year + 100) (omega arith)) (le-leb (s.year + 100) 2099 (omega arith)) in
    let second = and_parts _ _ is in
    let minute = and_parts _ _ second.0 in
    let hour = and_parts _ _ minute.0 in
    let day = and_parts _ _ hour.0 in
    let month = and_parts _ _ day.0 in
    rw (same_leap s.year) (and_from _ _ (and_from _ _ (and_from _ _ (and_from _ _ (and_from _ _ year month.1) day.1) hour.1) minute.1) second.1)

pub moved_is_stamp : MovedIsStamp
moved_is_stamp pivot s small is = go (nat_lt s.year (1900 + pivot)) refl
  where
    go : (b : Bool) → nat_lt s.year (1900 + pivot) ≡ b → is_stamp (if b then record s { year = s.year + 100 } else s) ≡ true
    go true before = let less = ltb-true s.year (1900 + pivot) before in later_is_stamp s (omega arith) is
    go false past = is

pub moved_is_late : MovedIsLate
moved_is_late pivot s small is = go (nat_lt s.year (1900 + pivot)) refl
  where
    go : (b : Bool) → nat_lt s.year (1900 + pivot) ≡ b
        → stamp_moved pivot (if b then record s { year = s.year + 100 } else s) ≡ (if b then record s { year = s.year + 100 } else s)
    go true before = let low = (stamp_small s is).first_year in rw (le-ltb (s.year + 100) (1900 + pivot) (omega arith)) refl
    go false past = rw past refl

-- ---- the directory

filter_all : (test : ℕ → Bool) (xs : List ℕ) → ((n : ℕ) → In n xs → test n ≡ true) → filter test xs ≡ xs
filter_all test [] all = refl
filter_all test (x ∷ xs) all = let here = all x (inl refl) in rw here (ap (λ (l : List ℕ). x ∷ l) (filter_all test xs (λ n there. all n (inr there))))

-- all data blocks are those in which entries stand
pub blocks_all : (bsize files : ℕ) → IsBlockSize bsize → blocks_with bsize (directory_count bsize files) (all_entries files) ≡ range_with_len 0 (directory_count bsize files)
unfolding blocks_with
blocks_all bsize files size =
    filter_all (holds (map (entry_block bsize) (all_entries files))) (range_with_len 0 (directory_count bsize files))
    (λ n there. in_held n (map (entry_block bsize) (all_entries files)) (made_all bsize files n size (let less = from_row 0 n (directory_count bsize files) there in omega arith)))

pub century_is_whole : CenturyIsWhole
unfolding changed_files entries_made directory_taken directory_more tree_size
century_is_whole m pivot size =
    let same = length-map m.files (moved_to pivot) in
    let d = directory_count m.bsize (length m.files) in
    let wide = (block_bounds m.bsize size).0 in
    let written = blocks_with m.bsize d (all_entries (length m.files)) in
    let long : length written ≡ d = ap (λ (l : List ℕ). length l) (blocks_all m.bsize (length m.files) size) ∙ length-range_with_len 0 d in
    let there : (n : ℕ) → n < d → In n written = λ n less. all_blocks m.bsize (length m.files) d n size less less in
    let whole : fresh_count (m.bsize / 4) d d written ≡ length written + pointer_count (m.bsize / 4) d = all_is_whole (m.bsize / 4) d d written (omega arith) there in
    record {
      count = same;
      written = λ n less. rw same (there n less);
      fresh = rw same (omega (arith, whole, long));
    }
