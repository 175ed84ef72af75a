-- What a change needs is what it takes; when a change is made.
use Rattle.std.proofs.Common.{◌≡◌, ◌⊎◌, inl, inr, ⊎_elim, ℕ, zero, suc, ◌+◌, ◌-◌, ◌/◌, ◌<◌, ◌≤◌, Bool, true, false, if◌then◌else◌, nat_lt, List, [], ◌∷◌, ◌++◌, length, map, sum_by, Option, Some, None, refl, sym, ◌∙◌, ap, subst, arith}
use Rattle.std.proofs.lemmas.Bool.{cases_Bool, ltb-true, ltb-false, lt-ltb, le-ltb}
use Rattle.std.proofs.lemmas.List.Sums.{sum_by-cons}
use Rattle.cms_journal.specs.Journal.{IsBlockSize}
use Rattle.cms_journal.proofs.Sizes.{block_bounds}
use Rattle.cms_names.specs.declared.name.Name.{Name}
use Rattle.cms_model.specs.Minidisks.{File, Minidisk, same_name}
use Rattle.cms_model.specs.Lists.{In}
use Rattle.cms_model.specs.DirectoryParts.{directory_count, directory_released, directory_taken}
use Rattle.cms_fields.specs.declared.time.Stamp.{Stamp}
use Rattle.cms_model.specs.Growth.{growth_given, growth_taken}
use Rattle.cms_model.specs.LawsRoom.{added_given}
use Rattle.cms_model.specs.SharedTrees.{MayBeWritten, fresh_count, fresh_on, fresh_to, released_count}
use Rattle.cms_model.specs.Sizes.{directory_more, file_size, free_count, levels, pointer_count, stored_size, tree_size, used_count}
use Rattle.cms_model.specs.Changes.{Change, Put, Add, Drop, Rename, Relabel, Century, moved_to, added_need, file_named, put_file, added_to, change_file, behind_first, last_first, drop_file, changed_files, changed, written_file, file_need, need, place_named, entries_made, count_after, directory_fresh, directory_written, is_full, file_limit, limit, Limited, Full, Changed, answer_of}
use Rattle.cms_model.specs.LawsRoom.{NeedIsTaken, IsWithin, Makes, ChangedWhereMade, FullWhereLacking, PassesFirst, Files, Records, Bytes, LimitedWherePassing, RoomIsKept}
use Rattle.cms_model.proofs.DirectoryNeed.{may_be}
use Rattle.cms_model.proofs.DirectoryParts.{all_blocks, first_made, some_blocks}
use Rattle.cms_model.proofs.Exchanges.{size_is_exchanged}
use Rattle.cms_model.proofs.Growth.{growth_exchanged}
use Rattle.cms_model.proofs.WrittenBlocks.{leaf_written}

-- the blocks of files
abbrev sizes : ℕ → List File → ℕ
sizes bsize files = sum_by (file_size bsize) files

sizes_more : (bsize : ℕ) (f : File) (fs : List File) → sizes bsize (f ∷ fs) ≡ file_size bsize f + sizes bsize fs
sizes_more bsize f fs = sum_by-cons (file_size bsize) f fs

-- ---- the blocks of a list of files after a change of it

put_sizes : (bsize : ℕ) (new : File) (files : List File) → sizes bsize (put_file new files) + file_need bsize (file_named new.name files) ≡ sizes bsize files + file_size bsize new
unfolding put_file file_named
put_sizes bsize new [] = let one = sizes_more bsize new [] in omega (arith, one)
put_sizes bsize new (f ∷ fs) = go (same_name new.name f.name) (put_sizes bsize new fs)
  where
    go : (b : Bool) → sizes bsize (put_file new fs) + file_need bsize (file_named new.name fs) ≡ sizes bsize fs + file_size bsize new
        → sizes bsize (if b then new ∷ fs else f ∷ put_file new fs) + file_need bsize (if b then Some f else file_named new.name fs) ≡ sizes bsize (f ∷ fs) + file_size bsize new
    go true deeper =
        let here : sizes bsize (new ∷ fs) + file_size bsize f ≡ sizes bsize (f ∷ fs) + file_size bsize new =
        (let a = sizes_more bsize new fs in let b = sizes_more bsize f fs in omega (arith, a, b)) in here
    go false deeper =
        let there : sizes bsize (f ∷ put_file new fs) + file_need bsize (file_named new.name fs) ≡ sizes bsize (f ∷ fs) + file_size bsize new =
        (let a = sizes_more bsize f (put_file new fs) in let b = sizes_more bsize f fs in omega (arith, a, b, deeper)) in there

-- the file that is changed, as it is then
change_sizes : (bsize : ℕ) (name : Name) (edit : File → File) (files : List File) → ((f : File) → (edit f).name ≡ f.name)
    → sizes bsize (change_file name edit files) + file_need bsize (file_named name files) ≡ sizes bsize files + file_need bsize (file_named name (change_file name edit files))
unfolding change_file file_named
change_sizes bsize name edit [] keeps = refl
change_sizes bsize name edit (f ∷ fs) keeps = go (same_name name f.name) refl (change_sizes bsize name edit fs keeps)
  where
    go : (b : Bool) → same_name name f.name ≡ b
        → sizes bsize (change_file name edit fs) + file_need bsize (file_named name fs) ≡ sizes bsize fs + file_need bsize (file_named name (change_file name edit fs))
        → sizes bsize (if b then edit f ∷ fs else f ∷ change_file name edit fs) + file_need bsize (if b then Some f else file_named name fs)
        ≡ sizes bsize (f ∷ fs) + file_need bsize (file_named name (if b then edit f ∷ fs else f ∷ change_file name edit fs))
    go true is deeper =
        let found : same_name name (edit f).name ≡ true = subst (λ (n : Name). same_name name n ≡ true) (sym (keeps f)) is in
        let here : sizes bsize (edit f ∷ fs) + file_size bsize f ≡ sizes bsize (f ∷ fs) + file_size bsize (edit f) =
        (let a = sizes_more bsize (edit f) fs in let b = sizes_more bsize f fs in omega (arith, a, b)) in
        rw found here
    go false is deeper =
        let there : sizes bsize (f ∷ change_file name edit fs) + file_need bsize (file_named name fs) ≡ sizes bsize (f ∷ fs) + file_need bsize (file_named name (change_file name edit fs)) =
        (let a = sizes_more bsize f (change_file name edit fs) in let b = sizes_more bsize f fs in omega (arith, a, b, deeper)) in
        rw is there

-- the file to which records are added
grown_size : (bsize : ℕ) (more : List (List ℕ)) (stamp : Stamp) (f : File) → IsBlockSize bsize
    → file_size bsize (added_to more stamp f) + growth_given bsize f.format (stored_size f.format f.records) (stored_size f.format (f.records ++ more))
    ≡ file_size bsize f + growth_taken bsize f.format (stored_size f.format f.records) (stored_size f.format (f.records ++ more))
unfolding file_size
grown_size bsize more stamp f size = growth_exchanged bsize f.format (stored_size f.format f.records) (stored_size f.format (f.records ++ more)) size

add_sizes : (bsize : ℕ) (name : Name) (more : List (List ℕ)) (stamp : Stamp) (files : List File) → IsBlockSize bsize
    → sizes bsize (change_file name (added_to more stamp) files) + added_given bsize more (file_named name files) ≡ sizes bsize files + added_need bsize more (file_named name files)
unfolding change_file file_named
add_sizes bsize name more stamp [] size = refl
add_sizes bsize name more stamp (f ∷ fs) size = go (same_name name f.name) (add_sizes bsize name more stamp fs size)
  where
    go : (b : Bool) → sizes bsize (change_file name (added_to more stamp) fs) + added_given bsize more (file_named name fs) ≡ sizes bsize fs + added_need bsize more (file_named name fs)
        → sizes bsize (if b then added_to more stamp f ∷ fs else f ∷ change_file name (added_to more stamp) fs) + added_given bsize more (if b then Some f else file_named name fs)
        ≡ sizes bsize (f ∷ fs) + added_need bsize more (if b then Some f else file_named name fs)
    go true deeper =
        let grown = grown_size bsize more stamp f size in
        let a = sizes_more bsize (added_to more stamp f) fs in
        let b = sizes_more bsize f fs in omega (arith, a, b, grown)
    go false deeper =
        let a = sizes_more bsize f (change_file name (added_to more stamp) fs) in
        let b = sizes_more bsize f fs in omega (arith, a, b, deeper)

last_sizes : (bsize : ℕ) (files : List File) → sizes bsize (last_first files) ≡ sizes bsize files
unfolding last_first
last_sizes bsize [] = refl
last_sizes bsize (f ∷ fs) = behind (last_first fs) (last_sizes bsize fs)
  where
    behind : (others : List File) → sizes bsize others ≡ sizes bsize fs → sizes bsize (behind_first f others) ≡ sizes bsize (f ∷ fs)
    behind [] deeper = sizes_more bsize f [] ∙ ap (λ (n : ℕ). file_size bsize f + n) deeper ∙ sym (sizes_more bsize f fs)
    behind (first ∷ more) deeper =
        let a = sizes_more bsize first (f ∷ more) in
        let b = sizes_more bsize f more in
        let c = sizes_more bsize first more in
        let d = sizes_more bsize f fs in omega (arith, a, b, c, d, deeper)

drop_sizes : (bsize : ℕ) (name : Name) (files : List File) → sizes bsize (drop_file name files) + file_need bsize (file_named name files) ≡ sizes bsize files
unfolding drop_file file_named
drop_sizes bsize name [] = refl
drop_sizes bsize name (f ∷ fs) = go (same_name name f.name) (drop_sizes bsize name fs)
  where
    go : (b : Bool) → sizes bsize (drop_file name fs) + file_need bsize (file_named name fs) ≡ sizes bsize fs
        → sizes bsize (if b then last_first fs else f ∷ drop_file name fs) + file_need bsize (if b then Some f else file_named name fs) ≡ sizes bsize (f ∷ fs)
    go true deeper =
        let here : sizes bsize (last_first fs) + file_size bsize f ≡ sizes bsize (f ∷ fs) =
        (let last = last_sizes bsize fs in let a = sizes_more bsize f fs in omega (arith, last, a)) in here
    go false deeper =
        let there : sizes bsize (f ∷ drop_file name fs) + file_need bsize (file_named name fs) ≡ sizes bsize (f ∷ fs) =
        (let a = sizes_more bsize f (drop_file name fs) in let b = sizes_more bsize f fs in omega (arith, a, b, deeper)) in there

-- a name and a mode number take no room
renamed_size : (bsize : ℕ) (to : Name) (number : ℕ) (f : File) → file_size bsize (record f { name = to; number = number }) ≡ file_size bsize f
unfolding file_size
renamed_size bsize to number f = refl

rename_sizes : (bsize : ℕ) (from to : Name) (number : ℕ) (files : List File) → sizes bsize (change_file from (λ f. record f { name = to; number = number }) files) ≡ sizes bsize files
unfolding change_file
rename_sizes bsize from to number [] = refl
rename_sizes bsize from to number (f ∷ fs) = go (same_name from f.name) (rename_sizes bsize from to number fs)
  where
    go : (b : Bool) → sizes bsize (change_file from (λ f. record f { name = to; number = number }) fs) ≡ sizes bsize fs
        → sizes bsize (if b then record f { name = to; number = number } ∷ fs else f ∷ change_file from (λ f. record f { name = to; number = number }) fs) ≡ sizes bsize (f ∷ fs)
    go true deeper =
        sizes_more bsize (record f { name = to; number = number }) fs ∙ ap (λ (n : ℕ). n + sizes bsize fs) (renamed_size bsize to number f) ∙ sym (sizes_more bsize f fs)
    go false deeper =
        sizes_more bsize f (change_file from (λ f. record f { name = to; number = number }) fs) ∙ ap (λ (n : ℕ). file_size bsize f + n) deeper ∙ sym (sizes_more bsize f fs)

-- nor does a stamp
moved_size : (bsize pivot : ℕ) (f : File) → file_size bsize (moved_to pivot f) ≡ file_size bsize f
unfolding file_size
moved_size bsize pivot f = refl

moved_sizes : (bsize pivot : ℕ) (files : List File) → sizes bsize (map (moved_to pivot) files) ≡ sizes bsize files
moved_sizes bsize pivot [] = refl
moved_sizes bsize pivot (f ∷ fs) =
    let deeper = moved_sizes bsize pivot fs in
    let one = moved_size bsize pivot f in
    let a = sizes_more bsize (moved_to pivot f) (map (moved_to pivot) fs) in
    let b = sizes_more bsize f fs in omega (arith, deeper, one, a, b)

-- ---- the blocks of a minidisk

-- the first data block of the tree before is given back where that of the new one is written
first_released : (before count : ℕ) (written : List ℕ) → In 0 written → 0 < before → 1 ≤ fresh_on true 1 count before written before
unfolding fresh_on
first_released zero count written there some = absurd (omega arith)
first_released (suc k) count written there some = at_least k
  where
    at_least : (n : ℕ) → 1 ≤ fresh_on true 1 count (suc k) written (suc n)
    at_least zero = let off = leaf_written count (suc k) 0 written (omega arith) there in rw off (omega arith)
    at_least (suc n) = let rest = at_least n in omega arith

-- the blocks of the directory after a change, and those that it gives back, are those before and those that it takes
directory_exchanged : (m : Minidisk) (change : Change) → IsBlockSize m.bsize → In 0 (directory_written m change)
    → directory_more m.bsize (count_after m change) + directory_released m.bsize (length m.files) (count_after m change) (entries_made m.files change)
    ≡ directory_more m.bsize (length m.files) + directory_fresh m change
unfolding directory_more directory_released directory_taken fresh_count released_count tree_size
directory_exchanged m change size first =
    let before = directory_count m.bsize (length m.files) in
    let count = directory_count m.bsize (count_after m change) in
    let written = directory_written m change in
    let wide = (block_bounds m.bsize size).0 in
    let some = some_blocks m.bsize (length m.files) size in
    let some' = some_blocks m.bsize (count_after m change) size in
    let all = exchanged (m.bsize / 4) before count written (omega arith) (may_be m change size) in
    let one = some_length 0 written first in
    let gone = first_released before count written first some in
    omega arith
  where
    exchanged : (fan before count : ℕ) (written : List ℕ) → 2 ≤ fan → MayBeWritten before count written
        → count + pointer_count fan count + (fresh_on true 1 count before written before + fresh_to fan count before written (levels fan before))
        ≡ before + pointer_count fan before + (length written + fresh_to fan before count written (levels fan count))
    exchanged fan before count written wide may = size_is_exchanged fan before count written wide may

    some_length : (n : ℕ) (xs : List ℕ) → In n xs → 1 ≤ length xs
    some_length n [] there = absurd there
    some_length n (x ∷ xs) there = omega arith

-- where stamps are moved the first data block of the directory is written too
first_moved : (m : Minidisk) (pivot : ℕ) → IsBlockSize m.bsize → In 0 (directory_written m (Century pivot))
unfolding changed_files entries_made
first_moved m pivot size =
    all_blocks m.bsize (length m.files) (directory_count m.bsize (length (map (moved_to pivot) m.files))) 0 size (some_blocks m.bsize (length m.files) size) (some_blocks m.bsize (length (map (moved_to pivot) m.files)) size)

pub need_taken : NeedIsTaken
unfolding used_count need changed changed_files entries_made written_file
need_taken m (Put new) size = let files = put_sizes m.bsize new m.files in let directory = directory_exchanged m (Put new) size (first_made m.bsize (count_after m (Put new)) ((place_named new.name m.files + 2) ∷ []) size) in omega (arith, files)
need_taken m (Add name more stamp) size = let files = add_sizes m.bsize name more stamp m.files size in let directory = directory_exchanged m (Add name more stamp) size (first_made m.bsize (count_after m (Add name more stamp)) ((place_named name m.files + 2) ∷ []) size) in omega (arith, files)
need_taken m (Drop name) size = let files = drop_sizes m.bsize name m.files in let directory = directory_exchanged m (Drop name) size (first_made m.bsize (count_after m (Drop name)) ((place_named name m.files + 2) ∷ (length m.files - 1 + 2) ∷ []) size) in omega (arith, files)
need_taken m (Rename from to number) size = let files = rename_sizes m.bsize from to number m.files in let directory = directory_exchanged m (Rename from to number) size (first_made m.bsize (count_after m (Rename from to number)) ((place_named from m.files + 2) ∷ []) size) in omega (arith, files)
need_taken m (Relabel volid) size = refl
need_taken m (Century pivot) size = let files = moved_sizes m.bsize pivot m.files in let directory = directory_exchanged m (Century pivot) size (first_moved m pivot size) in omega (arith, files)

-- ---- when a change is made

abbrev AreWithin : Option File → Type 0
AreWithin written = (f : File) → written ≡ Some f → IsWithin f

-- the limits of a file pass, or one doesn't
abbrev FileCase : Option File → Type 0
FileCase written = ((file_limit written ≡ None) × AreWithin written) ⊎ ((k : ℕ) × (file_limit written ≡ Some k) × (AreWithin written → ⊥))

file_case : (written : Option File) → FileCase written
file_case None = inl (refl, λ f is. absurd (cc))
file_case (Some f) = ⊎_elim
    (λ (many : nat_lt 1048576 (length f.records) ≡ true).
    inr (2, rw many refl, λ within. let h = (within f refl).records in let more = ltb-true 1048576 (length f.records) many in absurd (omega (arith, h, more))))
    (λ (some : nat_lt 1048576 (length f.records) ≡ false). ⊎_elim
    (λ (much : nat_lt 67108864 (stored_size f.format f.records) ≡ true).
    inr (3, rw (some, much) refl, λ within. let h = (within f refl).bytes in let more = ltb-true 67108864 (stored_size f.format f.records) much in absurd (omega (arith, h, more))))
    (λ (few : nat_lt 67108864 (stored_size f.format f.records) ≡ false).
    let own : IsWithin f = record { records = ltb-false 1048576 (length f.records) some; bytes = ltb-false 67108864 (stored_size f.format f.records) few } in
    inl (rw (some, few) refl, λ g is. (let same : f ≡ g = cc in subst IsWithin same own)))
    (cases_Bool (nat_lt 67108864 (stored_size f.format f.records))))
    (cases_Bool (nat_lt 1048576 (length f.records)))

record Passes (m : Minidisk) (change : Change) : Type 0 where
  few : length (changed m change).files ≤ 16384
  within : AreWithin (written_file m change)

-- the answer, and why
abbrev AnswerCase : Minidisk → Change → Type 0
AnswerCase m change =
    ((k : ℕ) × (answer_of m change ≡ Limited k) × (Passes m change → ⊥))
    ⊎ (Passes m change × (free_count m < need m change) × (answer_of m change ≡ Full (need m change) (free_count m)))
    ⊎ (Passes m change × (need m change ≤ free_count m) × (answer_of m change ≡ Changed (changed m change)))

unlimited_case : (m : Minidisk) (change : Change) → Passes m change → limit m change ≡ None → AnswerCase m change
unfolding answer_of is_full
unlimited_case m change passes none = ⊎_elim
    (λ (full : nat_lt (free_count m) (need m change) ≡ true). inr (inl (passes, ltb-true (free_count m) (need m change) full, rw (none, full) refl)))
    (λ (room : nat_lt (free_count m) (need m change) ≡ false). inr (inr (passes, ltb-false (free_count m) (need m change) room, rw (none, room) refl)))
    (cases_Bool (nat_lt (free_count m) (need m change)))

limited_case : (m : Minidisk) (change : Change) (k : ℕ) → limit m change ≡ Some k → (Passes m change → ⊥) → AnswerCase m change
unfolding answer_of
limited_case m change k some no_pass = inl (k, rw some refl, no_pass)

answer_case : (m : Minidisk) (change : Change) → AnswerCase m change
unfolding limit changed
answer_case m change = ⊎_elim
    (λ (many : nat_lt 16384 (length (changed_files m.files change)) ≡ true).
    limited_case m change 1 (rw many refl) (λ p. let h = p.few in let more = ltb-true 16384 (length (changed_files m.files change)) many in absurd (omega (arith, h, more))))
    (λ (few : nat_lt 16384 (length (changed_files m.files change)) ≡ false). ⊎_elim
    (λ f. unlimited_case m change (record { few = ltb-false 16384 (length (changed_files m.files change)) few; within = f.1 }) (rw few f.0))
    (λ f. limited_case m change f.0 (rw few f.1) (λ p. f.2 p.within))
    (file_case (written_file m change)))
    (cases_Bool (nat_lt 16384 (length (changed_files m.files change))))

pub changed_where_made : ChangedWhereMade
changed_where_made m new change = (
  λ is. ⊎_elim
      (λ a. let clash : Limited a.0 ≡ Changed new = sym a.1 ∙ is in absurd (cc))
      (⊎_elim
      (λ a. let clash : Full (need m change) (free_count m) ≡ Changed new = sym a.2 ∙ is in absurd (cc))
      (λ a. let same : Changed (changed m change) ≡ Changed new = sym a.2 ∙ is in
      let made : changed m change ≡ new = cc in
      subst (λ (n : Minidisk). Makes m change n) made (record { is = refl; few = a.0.few; within = a.0.within; room = a.1 })))
      (answer_case m change),
  λ made. ⊎_elim
      (λ a. absurd (a.2 (record { few = subst (λ (n : Minidisk). length n.files ≤ 16384) made.is made.few; within = made.within })))
      (⊎_elim
      (λ a. let room = made.room in let less = a.1 in absurd (omega (arith, room, less)))
      (λ a. a.2 ∙ ap Changed (sym made.is)))
      (answer_case m change),
)

pub full_where_lacking : FullWhereLacking
full_where_lacking m change needed free = (
  λ is. ⊎_elim
      (λ a. let clash : Limited a.0 ≡ Full needed free = sym a.1 ∙ is in absurd (cc))
      (⊎_elim
      (λ a. let same : Full (need m change) (free_count m) ≡ Full needed free = sym a.2 ∙ is in
      let first : need m change ≡ needed = cc in
      let second : free_count m ≡ free = cc in
      let less = a.1 in
      record { few = a.0.few; within = a.0.within; needed_is = sym first; free_is = sym second; short = rw (sym first, sym second) less })
      (λ a. let clash : Changed (changed m change) ≡ Full needed free = sym a.2 ∙ is in absurd (cc)))
      (answer_case m change),
  λ lacks. ⊎_elim
      (λ a. absurd (a.2 (record { few = lacks.few; within = lacks.within })))
      (⊎_elim
      (λ a. rw (lacks.needed_is, lacks.free_is) a.2)
      (λ a. let short = lacks.short in let room = a.1 in let n = lacks.needed_is in let f = lacks.free_is in absurd (omega (arith, short, room, n, f))))
      (answer_case m change),
)

-- ---- which limit is told

-- no limit is passed, or the first that is
abbrev LimitCase : Minidisk → Change → Type 0
LimitCase m change = (limit m change ≡ None) ⊎ ((k : ℕ) × (limit m change ≡ Some k) × PassesFirst m change k)

written_case : (m : Minidisk) (change : Change) (w : Option File) → nat_lt 16384 (length (changed_files m.files change)) ≡ false → written_file m change ≡ w → LimitCase m change
unfolding limit changed
written_case m change None few is = inl (rw (few, is) refl)
written_case m change (Some f) few is = ⊎_elim
    (λ (many : nat_lt 1048576 (length f.records) ≡ true).
    inr (2, rw (few, is, many) refl, Records f refl (ltb-false 16384 (length (changed_files m.files change)) few) is (ltb-true 1048576 (length f.records) many)))
    (λ (some : nat_lt 1048576 (length f.records) ≡ false). ⊎_elim
    (λ (much : nat_lt 67108864 (stored_size f.format f.records) ≡ true).
    inr (
      3,
      rw (few, is, some, much) refl,
      Bytes f refl (ltb-false 16384 (length (changed_files m.files change)) few) is (ltb-false 1048576 (length f.records) some)
          (ltb-true 67108864 (stored_size f.format f.records) much),
    ))
    (λ (small : nat_lt 67108864 (stored_size f.format f.records) ≡ false). inl (rw (few, is, some, small) refl))
    (cases_Bool (nat_lt 67108864 (stored_size f.format f.records))))
    (cases_Bool (nat_lt 1048576 (length f.records)))

limit_case : (m : Minidisk) (change : Change) → LimitCase m change
unfolding limit changed
limit_case m change = ⊎_elim
    (λ (many : nat_lt 16384 (length (changed_files m.files change)) ≡ true).
    inr (1, rw many refl, Files refl (ltb-true 16384 (length (changed_files m.files change)) many)))
    (λ (few : nat_lt 16384 (length (changed_files m.files change)) ≡ false). written_case m change (written_file m change) few refl)
    (cases_Bool (nat_lt 16384 (length (changed_files m.files change))))

limit_is : (m : Minidisk) (change : Change) (k : ℕ) → PassesFirst m change k → limit m change ≡ Some k
unfolding limit changed
limit_is m change k (Files is many) = rw (is, lt-ltb 16384 (length (changed_files m.files change)) many) refl
limit_is m change k (Records f is few written many) =
    rw (is, le-ltb 16384 (length (changed_files m.files change)) few, written, lt-ltb 1048576 (length f.records) many) refl
limit_is m change k (Bytes f is few written some much) =
    rw (is, le-ltb 16384 (length (changed_files m.files change)) few, written, le-ltb 1048576 (length f.records) some, lt-ltb 67108864 (stored_size f.format f.records) much) refl

unlimited : (m : Minidisk) (change : Change) (k : ℕ) → limit m change ≡ None → answer_of m change ≡ Limited k → ⊥
unfolding answer_of is_full
unlimited m change k none is = ⊎_elim
    (λ (full : nat_lt (free_count m) (need m change) ≡ true). let clash : Full (need m change) (free_count m) ≡ Limited k = rw (none, full) at is in absurd (cc))
    (λ (room : nat_lt (free_count m) (need m change) ≡ false). let clash : Changed (changed m change) ≡ Limited k = rw (none, room) at is in absurd (cc))
    (cases_Bool (nat_lt (free_count m) (need m change)))

told : (m : Minidisk) (change : Change) (k : ℕ) → limit m change ≡ Some k → answer_of m change ≡ Limited k
unfolding answer_of
told m change k is = rw is refl

pub limited_where_passing : LimitedWherePassing
limited_where_passing m change k = (
  λ is. ⊎_elim
      (λ none. absurd (unlimited m change k none is))
      (λ c. let same : Limited c.0 ≡ Limited k = sym (told m change c.0 c.1) ∙ is in
      let number : c.0 ≡ k = cc in
      subst (λ (n : ℕ). PassesFirst m change n) number c.2)
      (limit_case m change),
  λ passes. told m change k (limit_is m change k passes),
)

-- ---- room

kept : (m : Minidisk) (change : Change) → IsBlockSize m.bsize → used_count m + m.lost ≤ m.total → need m change ≤ free_count m
    → used_count (changed m change) + (changed m change).lost ≤ (changed m change).total
unfolding free_count changed
kept m change size fits room = let taken = need_taken m change size in omega (arith, fits, room, taken)

pub room_kept : RoomIsKept
room_kept m new change size fits is =
    let made = (changed_where_made m new change).0 is in
    subst (λ (n : Minidisk). used_count n + n.lost ≤ n.total) (sym made.is) (kept m change size fits made.room)
