-- What is written of the directory and of the map in the blocks that are allotted, are blocks of the volume.
use Rattle.std.proofs.Common.{◌≡◌, inl, inr, ℕ, ◌*◌, ◌/◌, ◌<◌, ◌≤◌, List, [], ◌∷◌, ◌++◌, length, drop, All, refl, sym, ◌∙◌, ap, subst, arith}
use Rattle.std.specs.Prelude.{◌&&◌, Bool, true, false, if◌then◌else◌, nat_le, slice_index}
use Rattle.std.proofs.lemmas.Bool.{and_parts, leb-true}
use Rattle.std.proofs.lemmas.List.Elements.{All-nil, All-cons, All-head, All-tail}
use Rattle.cms_fields.specs.Numbers.{up}
use Rattle.cms_model.specs.Lists.{In}
use Rattle.cms_model.specs.Settled.{Write}
use Rattle.cms_model.specs.SharedTrees.{MayBeWritten, is_kept}
use Rattle.cms_model.specs.Sizes.{levels, pointer_count}
use Rattle.cms_model.proofs.Quotients.{up_spec}
use Rattle.cms_model.proofs.WrittenBlocks.{leaf_written}
use Rattle.cms_map.specs.Touched.{AreTouched, data_block}
use Rattle.cms_tree.proofs.Paths.{places_within}
use Rattle.cms_held.specs.Allotments.{KeepsTree, nodes_fresh, on_map}
use Rattle.cms_held.specs.HeldVolumes.{HeldTree}
use Rattle.cms_held.specs.SharedBlocks.{fresh_of}
use Rattle.cms_held.specs.SharedWrites.{shared_node_writes}
use Rattle.cms_held.specs.Systems.{TreePart, leaf_writes, nodes_at}
use Rattle.cms_tree.specs.Builds.{node_at}
use Rattle.cms_held.proofs.FreshNodes as fresh
use Rattle.cms_held.proofs.KeptTrees as kept
use Rattle.cms_held.proofs.MapPlaces.{block_within}
use Rattle.cms_held.proofs.MapShares.{from_map}
use Rattle.cms_held.proofs.PartCases.{first_stays, headed}
use Rattle.cms_held.proofs.SharedWrites.{fresh_are_written}
use Rattle.cms_held.proofs.WritesPut.{blocks_written, written_append}
use Rattle.cms_edf.specs.BlockWrites.{IsBlockOf}
use Rattle.cms_edf.specs.Doubts.{AreAt}

-- ---- the map

-- a block with a bit in the map is one of so many
on_within : (total : ℕ) (blocks : List ℕ) (n : ℕ) → In n (on_map total blocks) → (1 ≤ n) × (n ≤ total)
on_within total [] n there = absurd there
on_within total (b ∷ bs) n there = go (nat_le 1 b && nat_le b total) refl there (on_within total bs n)
  where
    go : (t : Bool) → (nat_le 1 b && nat_le b total) ≡ t → In n (if t then b ∷ on_map total bs else on_map total bs) → (In n (on_map total bs) → (1 ≤ n) × (n ≤ total)) → (1 ≤ n) × (n ≤ total)
    go true is (inl same) rest =
        let p = and_parts (nat_le 1 b) (nat_le b total) is in
        subst (λ (k : ℕ). (1 ≤ k) × (k ≤ total)) (sym same) (leb-true 1 b p.0, leb-true b total p.1)
    go true is (inr more) rest = rest more
    go false is more rest = rest more

-- each data block in which a bit stands is one of the map's
pub touched_below : (bsize total count : ℕ) (blocks written : List ℕ) → 1 ≤ bsize → count ≡ up (up total 8) bsize → AreTouched bsize (on_map total blocks) written
    → (j : ℕ) → In j written → j < count
touched_below bsize total count blocks written some is touched j there =
    let source = from_map (data_block bsize) j (on_map total blocks) ((touched.each j).0 there) in
    let within = on_within total blocks source.n source.there in
    let low = within.0 in
    let high = within.1 in
    let a = (up_spec total 8 (omega arith)).0 in
    let b = (up_spec (up total 8) bsize (omega arith)).0 in
    let c : up total 8 ≤ count * bsize = subst (λ (n : ℕ). up total 8 ≤ n * bsize) (sym is) b in
    subst (λ (n : ℕ). n < count) (sym source.is) (block_within bsize count source.n some low (omega arith))

pub map_may : (bsize total count : ℕ) (blocks written : List ℕ) → 1 ≤ bsize → count ≡ up (up total 8) bsize → AreTouched bsize (on_map total blocks) written
    → MayBeWritten count count written
map_may bsize total count blocks written some is touched = record {
  ascend = touched.ascend;
  within = touched_below bsize total count blocks written some is touched;
  grown = λ j low high. absurd (omega arith);
}

-- ---- the places that are written

at_places : (P : ℕ → Type 0) (blocks : List ℕ) (piece : ℕ → List ℕ) (js : List ℕ) → All P (blocks_written (leaf_writes blocks piece js)) → ((j : ℕ) → In j js → j < length blocks)
    → All (λ j. (j < length blocks) × P (slice_index blocks j)) js
at_places P blocks piece [] all within = All-nil (λ (j : ℕ). (j < length blocks) × P (slice_index blocks j))
at_places P blocks piece (j ∷ js) all within =
    All-cons (λ (i : ℕ). (i < length blocks) × P (slice_index blocks i)) j js
    (within j (inl refl), All-head P (slice_index blocks j) (blocks_written (leaf_writes blocks piece js)) all)
    (at_places P blocks piece js (All-tail P (slice_index blocks j) (blocks_written (leaf_writes blocks piece js)) all) (λ i there. within i (inr there)))

pub left_all : (P : ℕ → Type 0) (xs ys : List ℕ) → All P (xs ++ ys) → All P xs
left_all P [] ys all = All-nil P
left_all P (x ∷ xs) ys all = All-cons P x xs (All-head P x (xs ++ ys) all) (left_all P xs ys (All-tail P x (xs ++ ys) all))

pub right_all : (P : ℕ → Type 0) (xs ys : List ℕ) → All P (xs ++ ys) → All P ys
right_all P [] ys all = all
right_all P (x ∷ xs) ys all = right_all P xs ys (All-tail P x (xs ++ ys) all)

-- each of them has a block that is taken
pub record IsAt (total : ℕ) (t : HeldTree) (part : TreePart) : Type 0 where
  pub leaves : AreAt total t.leaves part.leaves
  pub nodes : AreAt total t.pointers part.nodes

pub at_fresh : (total bsize : ℕ) (part : TreePart) (old new : HeldTree) → 1 ≤ bsize / 4 → MayBeWritten (length old.leaves) (length new.leaves) part.leaves
    → KeepsTree (bsize / 4) part.leaves old new → part.nodes ≡ nodes_fresh (bsize / 4) part.leaves old new → All (IsBlockOf total) (fresh_of (bsize / 4) part.leaves old new) → IsAt total new part
unfolding pointer_count
at_fresh total bsize part old new some may keeps nodes all =
    let P = IsBlockOf total in
    let fan = bsize / 4 in
    let piece : ℕ → List ℕ = λ (j : ℕ). [] in
    let numbers : length new.pointers ≡ pointer_count fan (length new.leaves) = kept.nodes_are fan part.leaves old new some keeps in
    let same : nodes_at bsize new part.nodes ≡ shared_node_writes bsize part.leaves old new = ap (nodes_at bsize new) nodes ∙ fresh.nodes_are bsize part.leaves old new some numbers in
    let front = blocks_written (leaf_writes new.leaves piece part.leaves) in
    let back = blocks_written (nodes_at bsize new part.nodes) in
    let is : front ++ back ≡ fresh_of fan part.leaves old new =
    sym (written_append (leaf_writes new.leaves piece part.leaves) (nodes_at bsize new part.nodes))
    ∙ (ap (λ (ws : List Write). blocks_written (leaf_writes new.leaves piece part.leaves ++ ws)) same ∙ fresh_are_written bsize part.leaves old new piece may) in
    let both : All P (front ++ back) = subst (All P) (sym is) all in
    record {
      leaves = at_places P new.leaves piece part.leaves (left_all P front back both) may.within;
      nodes = at_places P new.pointers (node_at bsize 4 new.leaves [] new.pointers) part.nodes (right_all P front back both)
          (λ j there. let less = places_within fan (length old.leaves) (length new.leaves) part.leaves (levels fan (length new.leaves)) j (subst (In j) nodes there) in omega arith);
    }

-- ---- the first block of the directory

pub fresh_first : (fan origin : ℕ) (written : List ℕ) (old new : HeldTree) → new.leaves ≡ origin ∷ drop 1 new.leaves → In 0 written
    → fresh_of fan written old new ≡ origin ∷ drop 1 (fresh_of fan written old new)
fresh_first fan origin written old new begins first =
    let count = length new.leaves in
    let some : 0 < count = (let e = ap (λ (l : List ℕ). length l) begins in omega arith) in
    let off = leaf_written (length old.leaves) count 0 written some first in
    headed _ _ _ origin (first_stays (is_kept true 1 (length old.leaves) count written) new.leaves (drop 1 new.leaves) origin begins off)
