-- What a walk over the children of a block has met, and what is left.
use Rattle.std.proofs.Common.{◌≡◌, ◌⊎◌, inl, inr, ⊎_elim, ℕ, zero, suc, ◌+◌, ◌-◌, ◌*◌, ◌^◌, ◌<◌, ◌≤◌, min, List, [], ◌∷◌, ◌++◌, length, take, drop, get_or, Option, None, Result, Ok, Err, true, false, refl, sym, ◌∙◌, ap, subst, arith, length-append, mul-le-mul_right, pow-suc, mul_assoc}
use Rattle.std.proofs.Math.Nat.{pow-zero, one-le-pow}
use Rattle.std.specs.Prelude.{replicate}
use Rattle.std.specs.List.{concat}
use Rattle.std.proofs.lemmas.Bool.{cases_lt}
use Rattle.std.proofs.lemmas.List.{append-nil, append_assoc, drop-drop, take_more}
use Rattle.cms_fields.specs.Numbers.{up}
use Rattle.cms_fields.specs.Steps.{◌>>=◌}
use Rattle.cms_text.specs.Bytes.{word}
use Rattle.cms_model.specs.Trees.{Image, Form, Met, none_met, joined, tree, children, pointers, is_allowed}
use Rattle.cms_model.specs.declared.fault.OpenFault.{OpenFault}
use Rattle.cms_model.specs.declared.fault.OpenFault.TheVariants as fault
use Rattle.cms_model.specs.ByLevels.{beside, tiers_below, tiers}
use Rattle.cms_model.proofs.Quotients.{up_spec, up_unique, up_zero, up_some}
use Rattle.cms_model.proofs.Results.{ok_same}
use Rattle.cms_model.proofs.TreeSizes.{length-pointers}
use Rattle.cms_tree.specs.declared.types.TreeFault.{TreeFault}
use Rattle.cms_tree.specs.declared.types.TreeFault.TheVariants.{Device, Pointer, Memory}
use Rattle.cms_tree.specs.declared.read.MetBlocks.{MetBlocks}
use Rattle.cms_tree.specs.declared.read.Tier.{Tier}
use Rattle.cms_tree.specs.Walks.{nodes}
use Rattle.cms_tree.specs.Levels.{over_count}
use Rattle.cms_tree.specs.Parts.{Reading, form_of, onto, met_of, blocks_in, AreMore, IsFaultOf, IsTaken, IsPlain, IsRefusal, JoinsLeaf, JoinsPart}
use Rattle.std.specs.Prelude.{⊤}
use Rattle.cms_model.proofs.ByLevels.{beside_none}
use Rattle.cms_tree.specs.declared.read.Layout.{Layout}
use Rattle.cms_tree.specs.declared.read.Subtree.{Subtree}

-- ---- a data block

pub leaf_refused : (form : Form) (image : Image) (first : Option ℕ) (holder root count : ℕ) → is_allowed form.last first root ≡ false
    → tree form image 0 first holder root count ≡ Err (fault.Pointer holder root)
unfolding tree
leaf_refused form image first holder root count bad = rw bad refl

pub leaf_read : (form : Form) (image : Image) (first : Option ℕ) (holder root count : ℕ) → is_allowed form.last first root ≡ true
    → tree form image 0 first holder root count ≡ Ok (record { blocks = root ∷ []; leaves = root ∷ [] })
unfolding tree
leaf_read form image first holder root count good = rw good refl

-- behind what was met before
pub leaf_joined : (old new : MetBlocks) (root : ℕ) → new.blocks.items ≡ old.blocks.items ++ root ∷ [] → new.leaves.items ≡ old.leaves.items ++ root ∷ []
    → onto (met_of old) (Ok (record { blocks = root ∷ []; leaves = root ∷ [] })) ≡ Ok (met_of new)
leaf_joined old new root blocks leaves = rw (blocks, leaves) refl

-- ---- a pointer block

pub node_refused : (form : Form) (image : Image) (levels : ℕ) (first : Option ℕ) (holder root count : ℕ) → 0 < levels → is_allowed form.last None root ≡ false
    → tree form image levels first holder root count ≡ Err (fault.Pointer holder root)
unfolding tree
node_refused form image zero first holder root count some bad = absurd (omega arith)
node_refused form image (suc k) first holder root count some bad = rw bad refl

-- ---- side by side

beside_three : (xs ys zs : List (List ℕ)) → beside (beside xs ys) zs ≡ beside xs (beside ys zs)
beside_three [] ys zs = refl
beside_three (x ∷ xs) [] zs = refl
beside_three (x ∷ xs) (y ∷ ys) [] = refl
beside_three (x ∷ xs) (y ∷ ys) (z ∷ zs) =
    ap (λ (l : List ℕ). l ∷ beside (beside xs ys) zs) (append_assoc x y z) ∙ ap (λ (ls : List (List ℕ)). (x ++ (y ++ z)) ∷ ls) (beside_three xs ys zs)

-- with one level more on top
beside_top : (xs ys : List (List ℕ)) (t u : List ℕ) → length xs ≡ length ys → beside (xs ++ t ∷ []) (ys ++ u ∷ []) ≡ beside xs ys ++ (t ++ u) ∷ []
beside_top [] [] t u same = refl
beside_top [] (y ∷ ys) t u same = absurd (omega arith)
beside_top (x ∷ xs) [] t u same = absurd (omega arith)
beside_top (x ∷ xs) (y ∷ ys) t u same = ap (λ (ls : List (List ℕ)). (x ++ y) ∷ ls) (beside_top xs ys t u (omega arith))

beside_deep : (k : ℕ) (xs ys : List (List ℕ)) → length xs ≡ k → (length ys ≡ k) ⊎ (ys ≡ []) → length (beside xs ys) ≡ k
beside_deep k [] ys is (inl same) = same
beside_deep k [] ys is (inr none) = ap (λ (l : List (List ℕ)). length l) none ∙ is
beside_deep k (x ∷ xs) [] is other = is
beside_deep zero (x ∷ xs) (y ∷ ys) is other = absurd (omega arith)
beside_deep (suc k) (x ∷ xs) (y ∷ ys) is (inl same) = ap suc (beside_deep k xs ys (omega arith) (inl (omega arith)))
beside_deep (suc k) (x ∷ xs) (y ∷ ys) is (inr none) = absurd (cc)

below_deep : (f : ℕ → ℕ → List (List ℕ)) (k size : ℕ) → ((p n : ℕ) → 1 ≤ n → length (f p n) ≡ k) → 1 ≤ size → (ps : List ℕ) (count : ℕ)
    → (length (tiers_below f size ps count) ≡ k) ⊎ (tiers_below f size ps count ≡ [])
below_deep f k size each room [] count = inr refl
below_deep f k size each room (p ∷ ps) zero = inr refl
below_deep f k size each room (p ∷ ps) (suc n) =
    inl (beside_deep k (f p (min (suc n) size)) (tiers_below f size ps (suc n - size)) (each p (min (suc n) size) (omega arith)) (below_deep f k size each room ps (suc n - size)))

below_some : (f : ℕ → ℕ → List (List ℕ)) (k size : ℕ) → ((p n : ℕ) → 1 ≤ n → length (f p n) ≡ k) → 1 ≤ size → (ps : List ℕ) (count : ℕ) → 1 ≤ length ps → 1 ≤ count
    → length (tiers_below f size ps count) ≡ k
below_some f k size each room [] count some pos = absurd (omega arith)
below_some f k size each room (p ∷ ps) zero some pos = absurd (omega arith)
below_some f k size each room (p ∷ ps) (suc n) some pos =
    beside_deep k (f p (min (suc n) size)) (tiers_below f size ps (suc n - size)) (each p (min (suc n) size) (omega arith)) (below_deep f k size each room ps (suc n - size))

-- the pointer blocks below a block
abbrev pub whole_tiers : Form → Image → ℕ → ℕ → ℕ → List (List ℕ)
whole_tiers form image k root count = tiers_below (tiers form image k) (form.fan ^ k) (pointers form.fan form.stride (image root)) count

-- a tree of some data blocks has each of its levels
pub tiers_deep : (form : Form) (image : Image) → 1 ≤ form.fan → (k root count : ℕ) → 1 ≤ count → length (tiers form image k root count) ≡ k
unfolding tiers
tiers_deep form image some zero root count pos = refl
tiers_deep form image some (suc k) root count pos =
    let ps = pointers form.fan form.stride (image root) in
    let wide : length ps ≡ form.fan = length-pointers form.fan form.stride (image root) in
    let long = length-append (whole_tiers form image k root count) ((root ∷ []) ∷ []) in
    let deep : length (whole_tiers form image k root count) ≡ k =
    below_some (tiers form image k) k (form.fan ^ k) (tiers_deep form image some k) (one-le-pow k form.fan some) ps count (omega arith) pos in
    omega arith

pub whole_deep : (form : Form) (image : Image) → 1 ≤ form.fan → (k root count : ℕ) → 1 ≤ count → length (whole_tiers form image k root count) ≡ k
whole_deep form image some k root count pos =
    let ps = pointers form.fan form.stride (image root) in
    let wide : length ps ≡ form.fan = length-pointers form.fan form.stride (image root) in
    below_some (tiers form image k) k (form.fan ^ k) (tiers_deep form image some k) (one-le-pow k form.fan some) ps count (omega arith) pos

-- what the code answers where there is no level
pub leaf_joins : (image : Image) (layout : Layout) (levels : ℕ) (part : Subtree) (ts : List Tier) (old new : MetBlocks) (result : Result ⊤ TreeFault) → levels ≡ 0
    → JoinsLeaf old new result (tree (form_of layout) image 0 part.first part.holder part.root part.count) → JoinsPart image layout levels part ts ts old new result
unfolding tiers
leaf_joins image layout levels part ts old new (Ok x) none joins = rw none (joins, sym (beside_none (blocks_in ts)))
leaf_joins image layout levels part ts old new (Err e) none joins = rw none joins

pub blocks_push : (ts : List Tier) (t : Tier) → blocks_in (ts ++ t ∷ []) ≡ blocks_in ts ++ t.blocks.items ∷ []
blocks_push [] t = refl
blocks_push (x ∷ ts) t = ap (λ (ls : List (List ℕ)). x.blocks.items ∷ ls) (blocks_push ts t)

pub length-blocks_in : (ts : List Tier) → length (blocks_in ts) ≡ length ts
length-blocks_in [] = refl
length-blocks_in (t ∷ ts) = ap suc (length-blocks_in ts)

-- the block is behind those of its level, and what is below it behind those of the levels below
pub node_tiers : (form : Form) (image : Image) (levels root count : ℕ) (below below' : List Tier) (top top' : Tier) → 0 < levels → 1 ≤ form.fan → 1 ≤ count → length below + 1 ≡ levels
    → top'.blocks.items ≡ top.blocks.items ++ root ∷ [] → blocks_in below' ≡ beside (blocks_in below) (whole_tiers form image (levels - 1) root count)
    → blocks_in (below' ++ top' ∷ []) ≡ beside (blocks_in (below ++ top ∷ [])) (tiers form image levels root count)
unfolding tiers
node_tiers form image zero root count below below' top top' some wide pos long push is = absurd (omega arith)
node_tiers form image (suc k) root count below below' top top' some wide pos long push is =
    let down : suc k - 1 ≡ k = omega arith in
    let all = whole_tiers form image k root count in
    let is' : blocks_in below' ≡ beside (blocks_in below) all = is ∙ ap (λ (n : ℕ). beside (blocks_in below) (whole_tiers form image n root count)) down in
    let deep = whole_deep form image wide k root count pos in
    let long' = length-blocks_in below in
    blocks_push below' top' ∙ ap (λ (ls : List (List ℕ)). ls ++ top'.blocks.items ∷ []) is' ∙ ap (λ (l : List ℕ). beside (blocks_in below) all ++ l ∷ []) push
    ∙ sym (beside_top (blocks_in below) all top.blocks.items (root ∷ []) (omega arith)) ∙ ap (λ (ls : List (List ℕ)). beside ls (all ++ (root ∷ []) ∷ [])) (sym (blocks_push below top))

pub node_refusal : (form : Form) (image : Image) (levels : ℕ) (first : Option ℕ) (holder root count : ℕ) (e : TreeFault) → 0 < levels → IsRefusal e holder root (is_allowed form.last None root)
    → IsFaultOf e (tree form image levels first holder root count)
node_refusal form image levels first holder root count Memory some is = tt
node_refusal form image levels first holder root count Device some is = tt
node_refusal form image levels first holder root count (Pointer holder' value) some is = rw (is.0, is.1) (node_refused form image levels first holder root count some is.2)

pub node_plain : (e : TreeFault) (whole : Reading) → IsPlain e → IsFaultOf e whole
node_plain Memory whole plain = tt
node_plain Device whole plain = tt
node_plain (Pointer holder value) whole plain = absurd plain

-- the walk over the pointers from the i-th on
abbrev pub rest : Form → Image → ℕ → ℕ → List ℕ → ℕ → ℕ → Option ℕ → Reading
rest form image k root bytes i left next = children (tree form image k) (form.fan ^ k) root (pointers (form.fan - i) form.stride (drop (i * form.stride) bytes)) left next

abbrev pub rest_tiers : Form → Image → ℕ → List ℕ → ℕ → ℕ → List (List ℕ)
rest_tiers form image k bytes i left = tiers_below (tiers form image k) (form.fan ^ k) (pointers (form.fan - i) form.stride (drop (i * form.stride) bytes)) left

-- with what is left below the block, what was met since makes what the whole gives
pub record Comes (form : Form) (image : Image) (k root : ℕ) (bytes : List ℕ) (i left : ℕ) (next : Option ℕ) (old now : MetBlocks) (ts ts' : List Tier) (whole : Reading) (all : List (List ℕ)) : Type 0 where
  pub read : onto (met_of now) (rest form image k root bytes i left next) ≡ onto (met_of old) whole
  pub met : beside (blocks_in ts') (rest_tiers form image k bytes i left) ≡ beside (blocks_in ts) all

onto_push : (old : Met) (root : ℕ) (r : Reading) → onto old (r >>= λ m. Ok (record { blocks = root ∷ m.blocks; leaves = m.leaves }))
    ≡ onto (record { blocks = old.blocks ++ root ∷ []; leaves = old.leaves }) r
onto_push old root (Ok m) = let e = append_assoc old.blocks (root ∷ []) m.blocks in rw e refl
onto_push old root (Err e) = refl

met_more : (old new : MetBlocks) (root : ℕ) → new.blocks.items ≡ old.blocks.items ++ root ∷ [] → new.leaves ≡ old.leaves
    → met_of new ≡ record { blocks = old.blocks.items ++ root ∷ []; leaves = old.leaves.items }
met_more old new root blocks leaves = rw (blocks, leaves) refl

pub starts : (form : Form) (image : Image) (levels : ℕ) (first : Option ℕ) (holder root count : ℕ) (bytes : List ℕ) (tier tier' : Tier) (below : List Tier) (old new : MetBlocks) → 0 < levels
    → IsTaken form.last root tier tier' old new → bytes ≡ image root
    → Comes form image (levels - 1) root bytes 0 count first old new below below (tree form image levels first holder root count) (whole_tiers form image (levels - 1) root count)
unfolding tree
starts form image zero first holder root count bytes tier tier' below old new some taken is = absurd (omega arith)
starts form image (suc k) first holder root count bytes tier tier' below old new some taken is =
    let down : suc k - 1 ≡ k = omega arith in
    let all : form.fan - 0 ≡ form.fan = omega arith in
    let from : 0 * form.stride ≡ 0 = omega arith in
    let allowed = taken.allowed in
    let met = children (tree form image k) (form.fan ^ k) root (pointers form.fan form.stride (image root)) count first in
    let read : onto (met_of new) met ≡ onto (met_of old) (met >>= λ m. Ok (record { blocks = root ∷ m.blocks; leaves = m.leaves })) =
    ap (λ (m : Met). onto m met) (met_more old new root taken.blocks taken.leaves) ∙ sym (onto_push (met_of old) root met) in
    rw (down, is) (record { read = rw (all, from, allowed) read; met = rw (all, from) refl })

-- ---- a child

word-drop : (at : ℕ) (bytes : List ℕ) → word (drop at bytes) 0 ≡ word bytes at
unfolding word
word-drop at bytes = refl

next_pointer : (n stride at : ℕ) (bytes : List ℕ) → pointers (suc n) stride (drop at bytes) ≡ word bytes at ∷ pointers n stride (drop (at + stride) bytes)
unfolding pointers
next_pointer n stride at bytes = rw (word-drop at bytes, drop-drop stride at bytes) refl

onto_err : (old : Met) (r : Reading) (e : OpenFault) → onto old r ≡ Err e → r ≡ Err e
onto_err old (Ok m) e is = absurd (cc)
onto_err old (Err d) e is = cc

-- the rest is one child and what is behind it
splits : (form : Form) (image : Image) (k root : ℕ) (bytes : List ℕ) (i left : ℕ) (next : Option ℕ) → i < form.fan → 0 < left
    → rest form image k root bytes i left next ≡ (tree form image k next root (word bytes (i * form.stride)) (min left (form.fan ^ k)) >>= λ a. rest form image k root bytes (i + 1)
    (left - form.fan ^ k) None >>= λ b. Ok (joined a b))
splits form image k root bytes i zero next within some = absurd (omega arith)
splits form image k root bytes i (suc n) next within some =
    let more : form.fan - i ≡ suc (form.fan - (i + 1)) = omega arith in
    let further : i * form.stride + form.stride ≡ (i + 1) * form.stride = omega arith in
    rw (more, next_pointer (form.fan - (i + 1)) form.stride (i * form.stride) bytes, further) refl

splits_tiers : (form : Form) (image : Image) (k : ℕ) (bytes : List ℕ) (i left : ℕ) → i < form.fan → 0 < left
    → rest_tiers form image k bytes i left
    ≡ beside (tiers form image k (word bytes (i * form.stride)) (min left (form.fan ^ k))) (rest_tiers form image k bytes (i + 1) (left - form.fan ^ k))
splits_tiers form image k bytes i zero within some = absurd (omega arith)
splits_tiers form image k bytes i (suc n) within some =
    let more : form.fan - i ≡ suc (form.fan - (i + 1)) = omega arith in
    let further : i * form.stride + form.stride ≡ (i + 1) * form.stride = omega arith in
    rw (more, next_pointer (form.fan - (i + 1)) form.stride (i * form.stride) bytes, further) refl

onto_joined : (old a : Met) (r : Reading) → onto (joined old a) r ≡ onto old (r >>= λ b. Ok (joined a b))
onto_joined old a (Ok b) = let e = append_assoc old.blocks a.blocks b.blocks in let e' = append_assoc old.leaves a.leaves b.leaves in rw (e, e') refl
onto_joined old a (Err d) = refl

one_child : (old new : Met) (r s : Reading) → onto old r ≡ Ok new → onto new s ≡ onto old (r >>= λ a. s >>= λ b. Ok (joined a b))
one_child old new (Ok a) s e = subst (λ (m : Met). onto m s ≡ onto old (s >>= λ b. Ok (joined a b))) (ok_same (joined old a) new e) (onto_joined old a s)
one_child old new (Err d) s e = absurd (cc)

pub goes_on : (form : Form) (image : Image) (k root : ℕ) (bytes : List ℕ) (i left part : ℕ) (next : Option ℕ) (old now new : MetBlocks) (ts ts' ts'' : List Tier) (whole : Reading) (all : List (List ℕ))
    → i < form.fan → 0 < left → part ≡ min left (form.fan ^ k)
    → Comes form image k root bytes i left next old now ts ts' whole all
    → onto (met_of now) (tree form image k next root (word bytes (i * form.stride)) part) ≡ Ok (met_of new)
    → blocks_in ts'' ≡ beside (blocks_in ts') (tiers form image k (word bytes (i * form.stride)) part)
    → Comes form image k root bytes (i + 1) (left - part) None old new ts ts'' whole all
goes_on form image k root bytes i left part next old now new ts ts' ts'' whole all within some is_part comes read met =
    let child = word bytes (i * form.stride) in
    let same : left - part ≡ left - form.fan ^ k = omega arith in
    let read' = subst (λ (c : ℕ). onto (met_of now) (tree form image k next root child c) ≡ Ok (met_of new)) is_part read in
    let met' = subst (λ (c : ℕ). blocks_in ts'' ≡ beside (blocks_in ts') (tiers form image k child c)) is_part met in
    let behind = rest form image k root bytes (i + 1) (left - form.fan ^ k) None in
    let one : onto (met_of new) behind ≡ onto (met_of now) (rest form image k root bytes i left next) =
    rw (splits form image k root bytes i left next within some) (one_child (met_of now) (met_of new) (tree form image k next root child (min left (form.fan ^ k))) behind read') in
    let below = tiers form image k child (min left (form.fan ^ k)) in
    let left_over = rest_tiers form image k bytes (i + 1) (left - form.fan ^ k) in
    let two : beside (blocks_in ts'') left_over ≡ beside (blocks_in ts') (rest_tiers form image k bytes i left) =
    ap (λ (ls : List (List ℕ)). beside ls left_over) met' ∙ beside_three (blocks_in ts') below left_over ∙ ap (beside (blocks_in ts')) (sym (splits_tiers form image k bytes i left within some)) in
    record { read = rw same (one ∙ comes.read); met = rw same (two ∙ comes.met) }

-- ---- a refusal

stops : (form : Form) (image : Image) (k root : ℕ) (bytes : List ℕ) (i left part : ℕ) (next : Option ℕ) (e : OpenFault) → i < form.fan → 0 < left → part ≡ min left (form.fan ^ k)
    → tree form image k next root (word bytes (i * form.stride)) part ≡ Err e → rest form image k root bytes i left next ≡ Err e
stops form image k root bytes i left part next e within some is_part is =
    let is' = subst (λ (c : ℕ). tree form image k next root (word bytes (i * form.stride)) c ≡ Err e) is_part is in
    rw (splits form image k root bytes i left next within some, is') refl

-- a refusal below is the refusal of the whole
pub refusal_passes : (form : Form) (image : Image) (k root : ℕ) (bytes : List ℕ) (i left part : ℕ) (next : Option ℕ) (old now : MetBlocks) (ts ts' : List Tier) (whole : Reading) (all : List (List ℕ)) (e : TreeFault)
    → Comes form image k root bytes i left next old now ts ts' whole all
    → i < form.fan → 0 < left → part ≡ min left (form.fan ^ k) → IsFaultOf e (tree form image k next root (word bytes (i * form.stride)) part) → IsFaultOf e whole
refusal_passes form image k root bytes i left part next old now ts ts' whole all Memory comes within some is_part is = tt
refusal_passes form image k root bytes i left part next old now ts ts' whole all Device comes within some is_part is = tt
refusal_passes form image k root bytes i left part next old now ts ts' whole all (Pointer holder value) comes within some is_part is =
    let stopped = stops form image k root bytes i left part next (fault.Pointer holder value) within some is_part is in
    onto_err (met_of old) whole (fault.Pointer holder value) (sym comes.read ∙ ap (onto (met_of now)) stopped)

-- ---- the end

none_left : (f : Option ℕ → ℕ → ℕ → ℕ → Reading) (size root : ℕ) (ps : List ℕ) (next : Option ℕ) → children f size root ps 0 next ≡ Ok none_met
none_left f size root [] next = refl
none_left f size root (p ∷ ps) next = refl

none_left_tiers : (f : ℕ → ℕ → List (List ℕ)) (size : ℕ) (ps : List ℕ) → tiers_below f size ps 0 ≡ []
none_left_tiers f size [] = refl
none_left_tiers f size (p ∷ ps) = refl

onto_none : (old : Met) (r : Reading) → r ≡ Ok none_met → onto old r ≡ Ok old
onto_none old r is = let e = append-nil old.blocks in let e' = append-nil old.leaves in rw (is, e, e') refl

-- all is met once no data block is left
pub ends : (form : Form) (image : Image) (k root : ℕ) (bytes : List ℕ) (i left : ℕ) (next : Option ℕ) (old now : MetBlocks) (ts ts' : List Tier) (whole : Reading) (all : List (List ℕ))
    → Comes form image k root bytes i left next old now ts ts' whole all → left ≡ 0
    → (onto (met_of old) whole ≡ Ok (met_of now)) × (blocks_in ts' ≡ beside (blocks_in ts) all)
ends form image k root bytes i left next old now ts ts' whole all comes none =
    let ps = pointers (form.fan - i) form.stride (drop (i * form.stride) bytes) in
    let read : rest form image k root bytes i left next ≡ Ok none_met = rw none (none_left (tree form image k) (form.fan ^ k) root ps next) in
    let met : rest_tiers form image k bytes i left ≡ [] = rw none (none_left_tiers (tiers form image k) (form.fan ^ k) ps) in (
      sym comes.read ∙ onto_none (met_of now) (rest form image k root bytes i left next) read,
      sym (beside_none (blocks_in ts')) ∙ ap (beside (blocks_in ts')) (sym met) ∙ comes.met,
    )

-- a block with all that is below it
pub node_joins : (image : Image) (layout : Layout) (levels : ℕ) (part : Subtree) (bytes : List ℕ) (i left : ℕ) (next : Option ℕ) (old now : MetBlocks) (below below' : List Tier) (top top' : Tier) (ts ts' : List Tier)
    → 0 < levels → 1 ≤ layout.fan → 1 ≤ part.count → length ts ≡ levels → ts ≡ below ++ top ∷ [] → ts' ≡ below' ++ top' ∷ [] → top'.blocks.items ≡ top.blocks.items ++ part.root ∷ []
    → Comes (form_of layout) image (levels - 1) part.root bytes i left next old now below below'
    (tree (form_of layout) image levels part.first part.holder part.root part.count) (whole_tiers (form_of layout) image (levels - 1) part.root part.count) → left ≡ 0
    → JoinsPart image layout levels part ts ts' old now (Ok tt)
node_joins image layout levels part bytes i left next old now below below' top top' ts ts' some wide pos long parts parts' push comes none =
    let form = form_of layout in
    let e = ends form image (levels - 1) part.root bytes i left next old now below below' (tree form image levels part.first part.holder part.root part.count) (whole_tiers form image (levels - 1) part.root part.count) comes none in
    let long' = ap (λ (l : List Tier). length l) parts in
    let long'' = length-append below (top ∷ []) in (
      e.0,
      ap (λ (l : List Tier). blocks_in l) parts' ∙ node_tiers form image levels part.root part.count below below' top top' some wide pos (omega arith) push e.1
          ∙ ap (λ (l : List Tier). beside (blocks_in l) (tiers form image levels part.root part.count)) (sym parts),
    )

-- ---- how many more

-- whole blocks of the highest level, and what is behind these
pub more_both : (fan a b q : ℕ) (xs ys zs : List (List ℕ)) → 1 ≤ fan → a ≡ q * fan ^ length xs → AreMore fan a xs ys → AreMore fan b ys zs → AreMore fan (a + b) xs zs
more_both fan a b q [] [] [] some is m n = tt
more_both fan a b q [] [] (z ∷ zs) some is m n = n
more_both fan a b q [] (y ∷ ys) zs some is m n = absurd m
more_both fan a b q (x ∷ xs) [] zs some is m n = absurd m
more_both fan a b q (x ∷ xs) (y ∷ ys) [] some is m n = n
more_both fan a b q (x ∷ xs) (y ∷ ys) (z ∷ zs) some is m n =
    let r = q * fan ^ length xs in
    let power : fan ^ suc (length xs) ≡ fan ^ length xs * fan = pow-suc fan (length xs) in
    let whole : a ≡ r * fan = is ∙ ap (λ (p : ℕ). q * p) power ∙ sym (mul_assoc q (fan ^ length xs) fan) in
    let first : up a fan ≡ r = sym (up_unique a fan r some (omega arith) (omega arith)) in
    let s = up_spec b fan some in
    let low : a + b ≤ (r + up b fan) * fan = omega (arith, s.0) in
    let high : (r + up b fan) * fan < a + b + fan = omega (arith, s.1) in
    let sum : up (a + b) fan ≡ up a fan + up b fan = sym (up_unique (a + b) fan (r + up b fan) some low high) ∙ ap (λ (k : ℕ). k + up b fan) (sym first) in
    (omega (arith, m.0, n.0), subst (λ (k : ℕ). AreMore fan k xs zs) (sym sum) (more_both fan (up a fan) (up b fan) q xs ys zs some first m.1 n.1))

pub more_none : (fan : ℕ) (xs : List (List ℕ)) → 1 ≤ fan → AreMore fan 0 xs xs
more_none fan [] some = tt
more_none fan (x ∷ xs) some = let z = up_zero fan some in (omega arith, subst (λ (k : ℕ). AreMore fan k xs xs) (sym z) (more_none fan xs some))

-- the block over all that its levels have room for stands alone
pub more_top : (fan count : ℕ) (xs ys : List (List ℕ)) (t t' : List ℕ) → 1 ≤ fan → 1 ≤ count → count ≤ fan ^ suc (length xs) → length t' ≡ length t + 1 → AreMore fan count xs ys
    → AreMore fan count (xs ++ t ∷ []) (ys ++ t' ∷ [])
more_top fan count [] [] t t' some pos room one m =
    let none : fan ^ 0 ≡ 1 = pow-zero fan in
    let power : fan ^ 1 ≡ 1 * fan = pow-suc fan 0 ∙ ap (λ (n : ℕ). n * fan) none in
    let room' : count ≤ 1 * fan = subst (λ (n : ℕ). count ≤ n) power room in
    let alone : 1 ≡ up count fan = up_unique count fan 1 some room' (omega arith) in
    (omega arith, tt)
more_top fan count [] (y ∷ ys) t t' some pos room one m = absurd m
more_top fan count (x ∷ xs) [] t t' some pos room one m = absurd m
more_top fan count (x ∷ xs) (y ∷ ys) t t' some pos room one m =
    let power = pow-suc fan (suc (length xs)) in
    let s = up_spec count fan some in
    let pos' = up_some count fan some pos in
    let fits : up count fan ≤ fan ^ suc (length xs) = ⊎_elim
    (λ (past : fan ^ suc (length xs) < up count fan). let more : suc (fan ^ suc (length xs)) * fan ≤ up count fan * fan = mul-le-mul_right fan past in absurd (omega arith))
    (λ (le : up count fan ≤ fan ^ suc (length xs)). le)
    (cases_lt (fan ^ suc (length xs)) (up count fan)) in
    (m.0, more_top fan (up count fan) xs ys t t' some pos' fits one m.1)

-- the blocks of all levels, where there were none
pub more_sum : (fan count k : ℕ) (xs ys : List (List ℕ)) → xs ≡ replicate k [] → AreMore fan count xs ys → length (concat ys) ≡ over_count fan k count
more_sum fan count zero [] [] is m = refl
more_sum fan count zero [] (y ∷ ys) is m = absurd m
more_sum fan count zero (x ∷ xs) ys is m = absurd (cc)
more_sum fan count (suc k) [] ys is m = absurd (cc)
more_sum fan count (suc k) (x ∷ xs) [] is m = absurd m
more_sum fan count (suc k) (x ∷ xs) (y ∷ ys) is m =
    let empty : x ≡ [] = cc in
    let rest' : xs ≡ replicate k [] = cc in
    let none : length x ≡ 0 = ap (λ (l : List ℕ). length l) empty in
    let below = more_sum fan (up count fan) k xs ys rest' m.1 in
    omega (arith, m.0, length-append y (concat ys))

-- ---- all levels

-- the levels, of which one more is passed
pub concat_top : (ts : List Tier) (t : Tier) → concat (blocks_in (ts ++ t ∷ [])) ≡ concat (blocks_in ts) ++ t.blocks.items
concat_top [] t = append-nil t.blocks.items
concat_top (x ∷ ts) t = ap (λ (l : List ℕ). x.blocks.items ++ l) (concat_top ts t) ∙ sym (append_assoc x.blocks.items (concat (blocks_in ts)) t.blocks.items)

pub concat_next : (ts : List Tier) (i : ℕ) (t : Tier) → i < length ts → t ≡ get_or ts i t → concat (blocks_in (take (i + 1) ts)) ≡ concat (blocks_in (take i ts)) ++ t.blocks.items
concat_next ts i t within is =
    ap (λ (l : List Tier). concat (blocks_in l)) (take_more ts i t within ∙ ap (λ (x : Tier). take i ts ++ x ∷ []) (sym is)) ∙ concat_top (take i ts) t

pub replicate_push : (n : ℕ) → replicate n [] ++ [] ∷ [] ≡ replicate {A = List ℕ} (n + 1) []
replicate_push zero = refl
replicate_push (suc n) =
    let next : suc n + 1 ≡ suc (n + 1) = omega arith in
    ap (λ (ls : List (List ℕ)). [] ∷ ls) (replicate_push n) ∙ ap (λ (k : ℕ). replicate {A = List ℕ} k []) (sym next)

-- ---- the whole

beside_empty : (k : ℕ) (ts : List (List ℕ)) → length ts ≡ k → beside (replicate k []) ts ≡ ts
beside_empty zero ts long = refl
beside_empty (suc k) [] long = absurd (omega arith)
beside_empty (suc k) (t ∷ ts) long = ap (λ (ls : List (List ℕ)). t ∷ ls) (beside_empty k ts (omega arith))

onto_empty : (old : Met) (r : Reading) → old ≡ none_met → onto old r ≡ r
onto_empty old (Ok m) is = rw is refl
onto_empty old (Err e) is = refl

-- what was met of a tree, where nothing was met before
pub walk_read : (form : Form) (image : Image) (k : ℕ) (first : Option ℕ) (holder root count : ℕ) (old met : MetBlocks) (ts ts' : List Tier) (pointers : List ℕ) → 1 ≤ form.fan → 1 ≤ count → met_of old ≡ none_met
    → blocks_in ts ≡ replicate k [] → onto (met_of old) (tree form image k first holder root count) ≡ Ok (met_of met) → blocks_in ts' ≡ beside (blocks_in ts) (tiers form image k root count)
    → pointers ≡ concat (blocks_in ts')
    → (tree form image k first holder root count ≡ Ok (met_of met)) × (pointers ≡ nodes form image k root count)
unfolding nodes
walk_read form image k first holder root count old met ts ts' pointers some pos none empty read more joined =
    let whole = tiers form image k root count in (
      sym (onto_empty (met_of old) (tree form image k first holder root count) none) ∙ read,
      joined ∙ ap (λ (ls : List (List ℕ)). concat ls) (more ∙ ap (λ (ls : List (List ℕ)). beside ls whole) empty ∙ beside_empty k whole (tiers_deep form image some k root count pos)),
    )
