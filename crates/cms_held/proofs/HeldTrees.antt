-- What opens is held with its trees.
use Rattle.std.proofs.Common.{◌≡◌, ℕ, zero, suc, ◌+◌, ◌-◌, ◌^◌, List, [], ◌∷◌, ◌++◌, min, drop, All, Option, None, Ok, refl, sym, ◌∙◌, ap, subst, arith}
use Rattle.std.specs.List.{concat}
use Rattle.std.proofs.lemmas.List.Folds.{concat-append}
use Rattle.std.proofs.lemmas.List.Elements.{All-head, All-tail}
use Rattle.cms_fields.specs.declared.entry.Entry.{Entry}
use Rattle.cms_model.proofs.EntriesRead.{entries_read, told_read}
use Rattle.cms_model.specs.Lists.{cut, times}
use Rattle.cms_model.specs.ByLevels.{beside, tiers_below, tiers}
use Rattle.cms_model.specs.Records.{records_of}
use Rattle.cms_model.specs.Trees.{Image, Form, Met, none_met, joined, tree, children, pointers, form_of, bytes_at}
use Rattle.cms_model.specs.Volumes.{as_read, blamed, file_trees, contents_in, holder_of}
use Rattle.cms_model.specs.declared.fault.OpenFault.TheVariants as failed
use Rattle.cms_model.proofs.OpenedVolumes.{open_ok}
use Rattle.cms_model.proofs.Repeats.{times_append}
use Rattle.cms_model.proofs.Results.{ok_same, bind_then}
use Rattle.cms_model.proofs.TreeFrame.{Walk, leaf_met, under, leaf_then, node_then}
use Rattle.cms_tree.specs.Walks.{nodes}
use Rattle.cms_held.specs.HeldVolumes.{held_files, held_of}
use Rattle.cms_held.specs.HeldAs.{AreHeld, OpenedHasHeld}

-- a tree's blocks are these pointer blocks and its data blocks
abbrev Counts : List ℕ → Met → Type 0
Counts ns m = (n : ℕ) → times n m.blocks ≡ times n ns + times n m.leaves

-- the same of pointer blocks level by level
abbrev CountsTiers : List (List ℕ) → Met → Type 0
CountsTiers ts m = Counts (concat ts) m

abbrev Counted : Walk → (ℕ → ℕ → List (List ℕ)) → Type 0
Counted f g = (first : Option ℕ) (holder root count : ℕ) (m : Met) → f first holder root count ≡ Ok m → CountsTiers (g root count) m

counts_none : CountsTiers [] none_met
unfolding times
counts_none n = refl

counts_leaf : (root : ℕ) → CountsTiers [] (leaf_met root)
unfolding times
counts_leaf root n = omega arith

times_beside : (n : ℕ) (xs ys : List (List ℕ)) → times n (concat (beside xs ys)) ≡ times n (concat xs) + times n (concat ys)
unfolding times
times_beside n [] ys = omega arith
times_beside n (x ∷ xs) [] = omega arith
times_beside n (x ∷ xs) (y ∷ ys) =
    let below = times_beside n xs ys in
    omega (arith, times_append n (x ++ y) (concat (beside xs ys)), times_append n x y, times_append n x (concat xs), times_append n y (concat ys))

counts_joined : (xs ys : List (List ℕ)) (a b : Met) → CountsTiers xs a → CountsTiers ys b → CountsTiers (beside xs ys) (joined a b)
counts_joined xs ys a b c d n = let e = c n in let f = d n in omega (arith, times_append n a.blocks b.blocks, times_append n a.leaves b.leaves, times_beside n xs ys)

counts_under : (root : ℕ) (ts : List (List ℕ)) (a : Met) → CountsTiers ts a → CountsTiers (ts ++ (root ∷ []) ∷ []) (under root a)
unfolding times
counts_under root ts a c n =
    let e = c n in
    let whole : times n (concat (ts ++ (root ∷ []) ∷ [])) ≡ times n (concat ts) + times n (root ∷ []) =
    ap (times n) (concat-append ts ((root ∷ []) ∷ [])) ∙ times_append n (concat ts) (root ∷ []) in
    omega arith

below_counted : (f : Walk) (g : ℕ → ℕ → List (List ℕ)) → Counted f g → (size holder : ℕ) (ps : List ℕ) (count : ℕ) (first : Option ℕ) (m : Met)
    → children f size holder ps count first ≡ Ok m → CountsTiers (tiers_below g size ps count) m
below_counted f g each size holder [] count first m e = subst (CountsTiers []) (ok_same none_met m e) counts_none
below_counted f g each size holder (p ∷ ps) zero first m e = subst (CountsTiers []) (ok_same none_met m e) counts_none
below_counted f g each size holder (p ∷ ps) (suc k) first m e =
    bind_then (f first holder p (min (suc k) size)) _ m e (λ a is_a e1.
    bind_then (children f size holder ps (suc k - size) None) _ m e1 (λ b is_b e2.
    subst (CountsTiers (beside (g p (min (suc k) size)) (tiers_below g size ps (suc k - size)))) (ok_same (joined a b) m e2)
    (counts_joined (g p (min (suc k) size)) (tiers_below g size ps (suc k - size)) a b (each first holder p (min (suc k) size) a is_a)
    (below_counted f g each size holder ps (suc k - size) None b is_b))))

tiers_counted : (form : Form) (image : Image) (k : ℕ) → Counted (tree form image k) (tiers form image k)
unfolding tiers
tiers_counted form image zero first holder root count m e = leaf_then form image first holder root count m e (λ allowed is. subst (CountsTiers []) is (counts_leaf root))
tiers_counted form image (suc k) first holder root count m e =
    node_then form image k first holder root count m e (λ allowed a is_a is.
    let ps = pointers form.fan form.stride (image root) in
    let ts = tiers_below (tiers form image k) (form.fan ^ k) ps count in
    subst (CountsTiers (ts ++ (root ∷ []) ∷ [])) is
    (counts_under root ts a (below_counted (tree form image k) (tiers form image k) (tiers_counted form image k) (form.fan ^ k) root ps count first a is_a)))

pub tree_counted : (form : Form) (image : Image) (k : ℕ) (first : Option ℕ) (holder root count : ℕ) (m : Met) → tree form image k first holder root count ≡ Ok m → Counts (nodes form image k root count) m
unfolding nodes
tree_counted form image k first holder root count m e = tiers_counted form image k first holder root count m e

files_held : (bsize total : ℕ) (image : Image) (dirs : List ℕ) (number : ℕ) (es : List Entry) (ms : List Met) (cs : List (List (List ℕ)))
    → All (λ e. as_read e ≡ e) es → file_trees bsize total image dirs number es ≡ Ok ms → contents_in bsize image number es ms ≡ Ok cs → AreHeld es ms cs (held_files bsize total image es ms cs)
unfolding file_trees contents_in held_files
files_held bsize total image dirs number [] ms cs read t c = tt
files_held bsize total image dirs number (e ∷ es) ms cs read t c =
    let holder = holder_of bsize dirs number in
    bind_then (tree (form_of bsize total e.format) image e.levels None holder e.root e.blocks) _ ms t (λ m is_m t1.
    bind_then (file_trees bsize total image dirs (number + 1) es) _ ms t1 (λ more is_more t2.
    let is : m ∷ more ≡ ms = ok_same (m ∷ more) ms t2 in
    let c' = subst (λ (l : List Met). contents_in bsize image number (e ∷ es) l ≡ Ok cs) (sym is) c in
    bind_then (blamed (failed.Var number) (records_of bsize e.format e.length e.count (bytes_at image m.leaves))) _ cs c' (λ rs is_rs c1.
    bind_then (contents_in bsize image (number + 1) es more) _ cs c1 (λ rest is_rest c2.
    let counts = tree_counted (form_of bsize total e.format) image e.levels None holder e.root e.blocks m is_m in
    subst (λ (l : List Met). AreHeld (e ∷ es) l cs (held_files bsize total image (e ∷ es) l cs)) is
    (subst (λ (l : List (List (List ℕ))). AreHeld (e ∷ es) (m ∷ more) l (held_files bsize total image (e ∷ es) (m ∷ more) l)) (ok_same (rs ∷ rest) cs c2) (
      record { entry_is = told_read e rs (All-head (λ (x : Entry). as_read x ≡ x) e es read); told_is = refl; tree_is = record { leaves = refl; blocks = counts }; length_is = refl; size_is = refl },
      files_held bsize total image dirs (number + 1) es more rest (All-tail (λ (x : Entry). as_read x ≡ x) e es read) is_more is_rest,
    ))))))

pub opened_has_held : OpenedHasHeld
unfolding held_of
opened_has_held unit disk image v opens =
    let o = open_ok disk image v opens in
    let s = o.system in
    let total = v.label.blocks in
    record {
      unit_is = refl;
      disk_is = refl;
      label_is = refl;
      bytes_are = refl;
      directory_is = record { leaves = refl; blocks = tree_counted _ image v.directory.levels _ _ v.directory.root v.directory.blocks v.directory_met s.directory_met };
      map_is = record { leaves = refl; blocks = tree_counted _ image v.map.levels _ _ v.map.root v.map.blocks v.map_met s.map_met };
      bits_are = refl;
      files_are = files_held disk.bsize total image v.directory_met.leaves 2 v.entries v.mets v.contents
          (entries_read disk.bsize 2 (cut (v.directory.count - 2) 64 (drop 128 (bytes_at image v.directory_met.leaves))) v.entries s.entries) o.mets o.contents;
      lost_is = refl;
    }
