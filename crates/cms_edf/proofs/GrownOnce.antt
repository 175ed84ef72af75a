-- Of a tree that grows no block stands twice: what it keeps is of the tree before, and what it takes was free.
use Rattle.std.proofs.Common.{◌≡◌, inr, ⊎_elim, ℕ, zero, suc, ◌+◌, ◌*◌, ◌<◌, ◌≤◌, Bool, true, false, if◌then◌else◌, List, [], ◌∷◌, ◌++◌, length, take, drop, get_or, All, Some, refl, sym, ◌∙◌, ap, subst, arith}
use Rattle.std.specs.Prelude.{slice_get, ◌==◌}
use Rattle.std.specs.List.{concat}
use Rattle.std.proofs.lemmas.Bool.{cases_lt}
use Rattle.std.proofs.lemmas.List.Elements.{All-head, All-tail}
use Rattle.std.proofs.lemmas.List.{take-append-drop}
use Rattle.cms_journal.specs.Journal.{Journal}
use Rattle.cms_fields.specs.Numbers.{up}
use Rattle.cms_model.specs.Lists.{In, times}
use Rattle.cms_model.specs.Minidisks.{Minidisk}
use Rattle.cms_model.specs.SharedTrees.{fresh_on, is_kept}
use Rattle.cms_model.specs.SharedTimes.{came, without}
use Rattle.cms_model.specs.Sizes.{levels}
use Rattle.cms_model.specs.Stands.{Kept, Layout, file_blocks, layout_blocks}
use Rattle.cms_model.proofs.Repeats.{bit, held_from, in_from, times_append}
use Rattle.cms_model.proofs.SharedTiers.{never_kept}
use Rattle.cms_model.proofs.WrittenBlocks.{leaf_written}
use Rattle.cms_map.specs.Bits.{free_blocks}
use Rattle.cms_tree.specs.Paths.{levels_of, numbered, path_levels, paths}
use Rattle.cms_tree.proofs.Paths.{get-numbered, length-numbered}
use Rattle.cms_held.specs.Growths.{KeepsFront, places_behind}
use Rattle.cms_held.specs.HeldVolumes.{HeldFile, HeldTree, HeldVolume}
use Rattle.cms_held.specs.MinidiskUpdates.{IsHeldMinidisk}
use Rattle.cms_held.specs.Puts.{AreFree}
use Rattle.cms_held.specs.Renewals.{blocks_in}
use Rattle.cms_held.specs.SharedBlocks.{fresh_of, levels_in}
use Rattle.cms_held.proofs.Edits.{at_place, tree_times}
use Rattle.cms_held.proofs.Grown.{keeps_tree}
use Rattle.cms_held.proofs.KeptTrees.{levels_are}
use Rattle.cms_held.proofs.MapMarks.{free_once}
use Rattle.cms_held.proofs.OldBlocks.{old_blocks, past_label, same_blocks}
use Rattle.cms_held.proofs.PutAsides.{free_aside}
use Rattle.cms_held.proofs.PutMoves.{at_times}
use Rattle.cms_model.proofs.Shares.{not_eq as miss_one}

clash : true ≡ false → ⊥
clash e = cc

-- ---- one level

-- the items at whose places a test holds are those of a list before at these places
kept_times : (test : ℕ → Bool) (k n : ℕ) (olds xs : List ℕ) → 1 ≤ n → ((j : ℕ) → j < length xs → test (k + j) ≡ true → get_or xs j 0 ≡ get_or olds j 0)
    → times n xs ≤ times n olds + times n (without test k xs)
unfolding without times
kept_times test k n olds [] some same = omega arith
kept_times test k n [] (x ∷ xs) some same =
    let z : k + 0 ≡ k = omega arith in
    go (test k) (λ on. same 0 (omega arith) (ap test z ∙ on))
    (kept_times test (suc k) n [] xs some (λ j less on. let e : suc k + j ≡ k + suc j = omega arith in same (suc j) (omega arith) (ap test (sym e) ∙ on)))
  where
    go : (b : Bool) → (b ≡ true → x ≡ 0) → times n xs ≤ times n [] + times n (without test (suc k) xs)
        → times n (x ∷ xs) ≤ times n [] + times n (if b then without test (suc k) xs else x ∷ without test (suc k) xs)
    go true is more = let none = miss_one n x (λ same'. omega (arith, same', is refl, some)) in omega arith
    go false is more = omega arith
kept_times test k n (o ∷ olds) (x ∷ xs) some same =
    let z : k + 0 ≡ k = omega arith in
    go (test k) (λ on. same 0 (omega arith) (ap test z ∙ on))
    (kept_times test (suc k) n olds xs some (λ j less on. let e : suc k + j ≡ k + suc j = omega arith in same (suc j) (omega arith) (ap test (sym e) ∙ on)))
  where
    go : (b : Bool) → (b ≡ true → x ≡ o) → times n xs ≤ times n olds + times n (without test (suc k) xs)
        → times n (x ∷ xs) ≤ times n (o ∷ olds) + times n (if b then without test (suc k) xs else x ∷ without test (suc k) xs)
    go true is more = let one : bit (n == x) ≡ bit (n == o) = ap (λ (m : ℕ). bit (n == m)) (is refl) in omega arith
    go false is more = omega arith

-- a kept pointer block has the number of the one before
kept_number : (size before count : ℕ) (written tier fresh : List ℕ) (m j : ℕ) → j < m → is_kept true size before count written j ≡ true
    → get_or (numbered true size before count written tier fresh m) j 0 ≡ get_or tier j 0
kept_number size before count written tier fresh m j less on =
    get-numbered true size before count written tier fresh m j less
    ∙ ap (λ (b : Bool). if b then get_or tier j 0 else get_or fresh (fresh_on true size before count written j) 0) on

-- ---- all levels

kept_levels : (fan size before count : ℕ) (written : List ℕ) (olds : List (List ℕ)) (k : ℕ) (fresh : List ℕ) (n : ℕ) → 1 ≤ n
    → times n (concat (paths fan size before count written olds k fresh))
    ≤ times n (concat olds) + times n (came fan size before count written olds (paths fan size before count written olds k fresh))
unfolding paths came times
kept_levels fan size before count written [] zero fresh n some = omega arith
kept_levels fan size before count written (old ∷ olds) zero fresh n some = omega arith
kept_levels fan size before count written [] (suc k) fresh n some =
    let wide = size * fan in
    let test = is_kept false wide before count written in
    let tier = numbered false wide before count written [] fresh (up count wide) in
    let rest = paths fan wide before count written [] k (drop (fresh_on false wide before count written (up count wide)) fresh) in
    let here = kept_times test 0 n [] tier some (λ j less on. absurd (clash (sym on ∙ never_kept wide before count written (0 + j)))) in
    let more = kept_levels fan wide before count written [] k (drop (fresh_on false wide before count written (up count wide)) fresh) n some in
    omega (arith, times_append n tier (concat rest), times_append n (without test 0 tier) (came fan wide before count written [] rest))
kept_levels fan size before count written (old ∷ olds) (suc k) fresh n some =
    let wide = size * fan in
    let test = is_kept true wide before count written in
    let tier = numbered true wide before count written old fresh (up count wide) in
    let rest = paths fan wide before count written olds k (drop (fresh_on true wide before count written (up count wide)) fresh) in
    let long = length-numbered true wide before count written old fresh (up count wide) in
    let here = kept_times test 0 n old tier some (λ j less on.
    let e : 0 + j ≡ j = omega arith in
    kept_number wide before count written old fresh (up count wide) j (omega arith) (ap test (sym e) ∙ on)) in
    let more = kept_levels fan wide before count written olds k (drop (fresh_on true wide before count written (up count wide)) fresh) n some in
    omega (arith, times_append n tier (concat rest), times_append n (without test 0 tier) (came fan wide before count written olds rest), times_append n old (concat olds))

-- the levels of a tree have no more than its pointer blocks
levels_times : (fan size count k : ℕ) (numbers : List ℕ) (n : ℕ) → times n (concat (levels_of fan size count k numbers)) ≤ times n numbers
unfolding levels_of times
levels_times fan size count zero numbers n = omega arith
levels_times fan size count (suc k) numbers n =
    let m = up count (size * fan) in
    let more = levels_times fan (size * fan) count k (drop m numbers) n in
    let whole : times n (take m numbers ++ drop m numbers) ≡ times n numbers = ap (times n) (take-append-drop m numbers) in
    omega (arith, times_append n (take m numbers) (concat (levels_of fan (size * fan) count k (drop m numbers))), times_append n (take m numbers) (drop m numbers))

-- ---- the tree

-- a block stands in the tree as often as in the one before and among those that are taken, or less often
grown_times : (fan kept : ℕ) (old new : HeldTree) → KeepsFront fan kept old new → (n : ℕ) → 1 ≤ n
    → times n (blocks_in new) ≤ times n (blocks_in old) + times n (fresh_of fan (places_behind kept (length new.leaves)) old new)
grown_times fan kept old new k n some =
    let o = length old.leaves in
    let c = length new.leaves in
    let written = places_behind kept c in
    let test = is_kept true 1 o c written in
    let tree = keeps_tree fan kept old new k in
    let path = path_levels fan o old.pointers c written tree.nodes in
    let here = kept_times test 0 n old.leaves new.leaves some (λ j less on.
    let e : 0 + j ≡ j = omega arith in
    tree.leaves j less (λ there. clash (sym on ∙ ap test e ∙ leaf_written o c j written less there))) in
    let more = kept_levels fan 1 o c written (levels_in fan old) (levels fan c) tree.nodes n some in
    let before = levels_times fan 1 o (levels fan o) old.pointers n in
    let nodes : times n new.pointers ≡ times n (concat path) = ap (times n) tree.path in
    let fresh : times n (came fan 1 o c written (levels_in fan old) (levels_in fan new)) ≡ times n (came fan 1 o c written (levels_in fan old) path) =
    ap (λ (l : List (List ℕ)). times n (came fan 1 o c written (levels_in fan old) l)) (levels_are fan written old new tree) in
    omega (
      arith,
      times_append n new.leaves new.pointers,
      times_append n old.leaves old.pointers,
      times_append n (without test 0 new.leaves) (came fan 1 o c written (levels_in fan old) (levels_in fan new)),
    )

-- none stands below the first that can be taken
none_low : (top n : ℕ) (xs : List ℕ) → n < 6 → All (λ m. (6 ≤ m) × (m ≤ top)) xs → times n xs ≡ 0
unfolding times
none_low top n [] less all = refl
none_low top n (x ∷ xs) less all =
    let P = λ (m : ℕ). (6 ≤ m) × (m ≤ top) in
    let here = All-head P x xs all in
    let low = here.0 in
    let none = miss_one n x (λ same. omega (arith, same)) in
    let more = none_low top n xs less (All-tail P x xs all) in
    omega arith

-- a file's block is the volume's, and none of these is free
pub record FileBlocks (v : HeldVolume) (f : HeldFile) (n : ℕ) : Type 0 where
  pub once : times n (blocks_in f.tree) ≤ 1
  pub used : 1 ≤ times n (free_blocks v.bits) → times n (blocks_in f.tree) < 1
  pub low : 1 ≤ times n (blocks_in f.tree) → 1 ≤ n

pub file_blocks_of : (j : Journal) (v : HeldVolume) (m : Minidisk) (place : ℕ) (f : HeldFile) → IsHeldMinidisk j v m → slice_get v.files place ≡ Some f → (n : ℕ) → FileBlocks v f n
file_blocks_of j v m place f is_held there n =
    let at = at_place old.files v.files is_held.at.held.files_are place f there in
    let same : times n (get_or old.files place at.file).met.blocks ≡ times n at.file.met.blocks = ap (λ (x : Kept). times n x.met.blocks) (at.is at.file) in
    let one = (old_blocks j v old is_held.at).once n in
    let fewer : times n (blocks_in f.tree) ≤ times n (layout_blocks old) =
    omega (
      arith,
      tree_times n at.file f at.held,
      at_times n old.files place at.file at.within,
      times_append n old.directory_met.blocks (old.map_met.blocks ++ file_blocks old.files),
      times_append n old.map_met.blocks (file_blocks old.files),
    ) in
    record {
      once = omega arith;
      used = λ is_free. ⊎_elim (λ (none : times n (blocks_in f.tree) < 1). none)
          (λ (some : 1 ≤ times n (blocks_in f.tree)). absurd (aside is_free (omega arith)))
          (cases_lt (times n (blocks_in f.tree)) 1);
      low = λ some. let four = past_label (old_blocks j v old is_held.at) n (omega arith) in omega arith;
    }
  where
    old : Layout
    old = is_held.layout

    aside : 1 ≤ times n (free_blocks v.bits) → 1 ≤ times n (layout_blocks old) → ⊥
    aside is_free some = (free_aside j v old is_held.at n (in_from n (free_blocks v.bits) (held_from n (free_blocks v.bits) is_free))).aside
        (inr (inr (subst (In n) (sym (same_blocks old)) (in_from n (layout_blocks old) (held_from n (layout_blocks old) some)))))

pub grown_once : (j : Journal) (v : HeldVolume) (m : Minidisk) (place fan kept : ℕ) (f : HeldFile) (tree : HeldTree) → IsHeldMinidisk j v m → slice_get v.files place ≡ Some f
    → KeepsFront fan kept f.tree tree → AreFree v (fresh_of fan (places_behind kept (length tree.leaves)) f.tree tree)
    → All (λ n. (6 ≤ n) × (n ≤ v.label.blocks)) (blocks_in tree) → (n : ℕ) → times n (blocks_in tree) ≤ 1
grown_once j v m place fan kept f tree is_held there keeps free within n = ⊎_elim
    (λ (low : n < 6). let none = none_low v.label.blocks n (blocks_in tree) low within in omega arith)
    (λ (high : 6 ≤ n).
    let fresh = fresh_of fan (places_behind kept (length tree.leaves)) f.tree tree in
    let sum = grown_times fan kept f.tree tree keeps n (omega arith) in
    let file = file_blocks_of j v m place f is_held there n in
    let once = file.once in
    let one = free_once 1 v.bits n in
    let taken = free n in
    ⊎_elim
    (λ (none : times n fresh < 1). omega arith)
    (λ (some : 1 ≤ times n fresh). let gone = file.used (omega arith) in omega arith)
    (cases_lt (times n fresh) 1))
    (cases_lt n 6)
