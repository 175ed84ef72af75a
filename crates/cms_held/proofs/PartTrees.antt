-- The image behind such an update: its directory and its map share their blocks with those before, and no block of the new volume stands twice.
use Rattle.std.proofs.Common.{◌≡◌, ◌≢◌, ◌⊎◌, inl, inr, ⊎_elim, ℕ, ◌+◌, ◌-◌, ◌*◌, ◌/◌, ◌^◌, ◌<◌, ◌≤◌, Bool, true, false, List, [], ◌∷◌, ◌++◌, length, take, drop, get_or, All, refl, sym, ◌∙◌, ap, subst, arith}
use Rattle.std.specs.Prelude.{◌==◌, if◌then◌else◌}
use Rattle.std.proofs.lemmas.Bool.{cases_Bool, cases_lt, cases_eq, eqb-true, eq-eqb}
use Rattle.std.proofs.lemmas.List.Elements.{All-from_get_or}
use Rattle.cms_journal.specs.Journal.{start_of}
use Rattle.cms_journal.proofs.Sizes.{block_bounds}
use Rattle.cms_names.specs.declared.name.Format.TheVariants.{F}
use Rattle.cms_fields.specs.Numbers.{up}
use Rattle.cms_model.specs.LawsSizes.{IsWhole}
use Rattle.cms_model.specs.LawsUpdates.{AreWithin, PutsBlocks, put_block, put_blocks}
use Rattle.cms_model.specs.Lists.{In, times}
use Rattle.cms_model.specs.SharedTrees.{MayBeWritten}
use Rattle.cms_model.specs.Stands.{layout_blocks}
use Rattle.cms_model.specs.Trees.{Image, form_of}
use Rattle.cms_model.proofs.Members.{In-left, In-right}
use Rattle.cms_model.proofs.Quotients.{up_below, up_some}
use Rattle.cms_model.proofs.Repeats.{bit, hit, miss}
use Rattle.cms_model.proofs.WritesPut.{update_is_put}
use Rattle.cms_held.specs.HeldVolumes.{HeldTree}
use Rattle.cms_held.specs.Renewals.{blocks_in, entries_held}
use Rattle.cms_held.specs.SharedBlocks.{SharesBlocks, fresh_of}
use Rattle.cms_held.specs.SharedTrees.{HasShape, SharesTree}
use Rattle.cms_held.specs.SharedWrites.{shared_node_writes}
use Rattle.cms_held.specs.Systems.{HasWritten, directory_piece, map_piece, leaf_writes}
use Rattle.cms_held.proofs.Exchanged.{Counts, first_bit, new_blocks, new_times}
use Rattle.cms_held.proofs.KeptTrees.{TreeTimes, leaf_comes, node_comes, nodes_are, tree_times}
use Rattle.cms_held.proofs.OldBlocks.{past_label}
use Rattle.cms_held.proofs.PiecesWritten.{has_front, has_behind}
use Rattle.cms_held.proofs.Renewals.{all_of}
use Rattle.cms_held.proofs.SharedWrites.{written_is_shared}
use Rattle.cms_held.proofs.WritesPut.{blocks_written, has_written, put_aside, put_long, within_of, written_same}
use Rattle.cms_held.specs.Allotments.{KeepsTree, files_fresh}
use Rattle.cms_held.proofs.PartCases.{Case, before_of, clash, directory_fresh, directory_may, directory_released, fresh, fresh_begins, fresh_late, has, in_times, later_of, map_fresh, map_may, not_old, old_directory, old_lies, old_map_blocks, origins, released, released_begins, same_origin, same_total, times_in, unmarked, wide, writes}
use Rattle.cms_held.proofs.PartWrites.{fresh_times, label_facts, released_times, write_facts, writes_long}

-- ---- the image after it

pub write_within : (c : Case) → AreWithin (length (start_of c.j.units c.v.unit)) (writes c)
write_within c =
    let top = (has c).top in let attached = c.x.at.attached in
    within_of (length (start_of c.j.units c.v.unit)) (writes c) (λ n some. let r = (write_facts c).low n some in let low = r.0 in let high = r.1 in (omega arith, omega arith))

pub record Later (c : Case) : Type 0 where
  pub label : later_of c 3 ≡ c.s.label_bytes
  pub has : HasWritten (later_of c) (writes c)
  pub same : (n : ℕ) → In n (layout_blocks c.old) → before_of c n ≡ later_of c n
  pub aside : (n : ℕ) → 4 ≤ n → times n (blocks_written (writes c)) ≡ 0 → later_of c n ≡ before_of c n
  pub whole : IsWhole c.v.disk (later_of c)

pub later_image : (c : Case) → Later c
later_image c = record {
  label = put.whole 3 (omega arith);
  has = written_same (put_blocks (before_of c) (writes c)) (later_of c) (writes c)
      (λ n some. let low = ((write_facts c).low n some).0 in sym (elsewhere n (omega arith) (λ is. omega (arith, is)))) (has_written (before_of c) (writes c) (write_facts c).once);
  same = λ n in'. (let there = in_times n (layout_blocks c.old) in' in
      let low = past_label (has c) n there in
      sym (elsewhere n (omega arith) (λ is. omega (arith, is)) ∙ put_aside (before_of c) (writes c) n ((write_facts c).none n there)));
  aside = λ n low none. elsewhere n (omega arith) (λ is. omega (arith, is)) ∙ put_aside (before_of c) (writes c) n none;
  whole = record { size = c.x.at.whole.size; small = c.x.at.whole.small; each = λ n from to. long n from to (cases_eq n 3) };
}
  where
    put : PutsBlocks c.j c.v.unit (writes c) c.s.label_bytes
    put =
        let top = (has c).top in let size = (has c).size in let attached = c.x.at.attached in
        update_is_put c.j c.v.unit (writes c) c.s.label_bytes (write_within c) (omega arith)

    past : (image : Image) (n : ℕ) → n ≢ 3 → put_block image (record { block = 3; bytes = c.s.label_bytes }) n ≡ image n
    past image n ne = one (n == 3) refl
      where
        one : (b : Bool) → (n == 3) ≡ b → (if b then c.s.label_bytes else image n) ≡ image n
        one true is = absurd (ne (eqb-true n 3 is))
        one false is = refl

    elsewhere : (n : ℕ) → 1 ≤ n → n ≢ 3 → later_of c n ≡ put_blocks (before_of c) (writes c) n
    elsewhere n some ne = put.whole n some ∙ past (put_blocks (before_of c) (writes c)) n ne

    long : (n : ℕ) → 1 ≤ n → n ≤ c.v.disk.count → (n ≡ 3) ⊎ (n ≢ 3) → length (later_of c n) ≡ c.v.disk.bsize
    long n from to (inl is) =
        ap (λ (k : ℕ). length (later_of c k)) is ∙ (ap (λ (l : List ℕ). length l) (put.whole 3 (omega arith)) ∙ (label_facts c).long)
    long n from to (inr ne) = ap (λ (l : List ℕ). length l) (elsewhere n from ne) ∙ put_long c.v.disk.bsize (before_of c) (writes c) n (writes_long c) (c.x.at.whole.each n from to)

-- ---- the trees after it

abbrev Word : ℕ → Type 0
Word n = n < 2 ^ 32

fresh_word : (c : Case) (n : ℕ) → In n (fresh c) → Word n
fresh_word c n there =
    let high = ((unmarked c).each n (in_times n (fresh c) there)).1 in
    let top = (has c).top in
    let small = c.x.at.whole.small in
    omega arith

old_word : (c : Case) (n : ℕ) → 1 ≤ times n (layout_blocks c.old) → Word n
old_word c n there =
    let high = (old_lies c n there).high in
    let top = (has c).top in
    let small = c.x.at.whole.small in
    omega arith

-- what is taken for the directory is its first block, or fresh
directory_word : (c : Case) (n : ℕ) → In n (directory_fresh c) → Word n
directory_word c n there = ⊎_elim
    (λ (first : n ≡ 9 - c.v.label.origin). omega (arith, first))
    (λ (more : In n (drop 1 (directory_fresh c))). fresh_word c n (In-left n (files_fresh c.v c.edit c.s c.parts) (map_fresh c) (In-right n c.edit.taken (drop 1 (directory_fresh c)) more)))
    (subst (λ (l : List ℕ). In n l) (fresh_begins c) there)

map_word : (c : Case) (n : ℕ) → In n (map_fresh c) → Word n
map_word c n there = fresh_word c n (In-right n (files_fresh c.v c.edit c.s c.parts) (map_fresh c) there)

all_from : (P : ℕ → Type 0) (ns : List ℕ) → ((n : ℕ) → In n ns → P n) → All P ns
all_from P ns each = all_of P ns (λ n some. each n (times_in n ns some))

-- the numbers of a tree fit in a word
leaf_words : (fan : ℕ) (written : List ℕ) (old new : HeldTree) → MayBeWritten (length old.leaves) (length new.leaves) written → KeepsTree fan written old new
    → ((n : ℕ) → In n (blocks_in old) → Word n) → ((n : ℕ) → In n (fresh_of fan written old new) → Word n) → All Word new.leaves
leaf_words fan written old new may k olds fresh' = All-from_get_or Word new.leaves 0 (λ j less. ⊎_elim
    (λ (was : In (get_or new.leaves j 0) old.leaves). olds (get_or new.leaves j 0) (In-left (get_or new.leaves j 0) old.leaves old.pointers was))
    (λ (taken : In (get_or new.leaves j 0) (fresh_of fan written old new)). fresh' (get_or new.leaves j 0) taken)
    (leaf_comes fan written old new may k j less))

node_words : (fan : ℕ) (written : List ℕ) (old new : HeldTree) → 1 ≤ fan → KeepsTree fan written old new
    → ((n : ℕ) → In n (blocks_in old) → Word n) → ((n : ℕ) → In n (fresh_of fan written old new) → Word n) → All Word new.pointers
node_words fan written old new some k olds fresh' = all_from Word new.pointers (λ n there. ⊎_elim
    (λ (was : In n old.pointers). olds n (In-right n old.leaves old.pointers was))
    (λ more. ⊎_elim (λ (taken : In n (fresh_of fan written old new)). fresh' n taken) (λ (none : n ≡ 0). omega (arith, none)) more)
    (node_comes fan written old new some k n there))

-- the shapes
pub directory_shape : (c : Case) → HasShape (c.v.disk.bsize / 4) c.s.directory
directory_shape c =
    let b = c.x.planned.blocks in
    let w = wide c in
    let few = c.x.few in
    let low = (block_bounds c.v.disk.bsize c.x.at.whole.size).0 in
    let below = up_below (64 * (length c.edit.files + 2)) c.v.disk.bsize (omega arith) in
    record {
      some = (let e = ap (λ (l : List ℕ). length l) b.origin in omega arith);
      few = (let e = b.directory_is in omega arith);
      nodes = nodes_are (c.v.disk.bsize / 4) c.parts.directory c.v.directory c.s.directory (omega arith) b.directory;
    }

pub map_shape : (c : Case) → HasShape (c.v.disk.bsize / 4) c.s.map
map_shape c =
    let b = c.x.planned.blocks in
    let w = wide c in
    let low = (block_bounds c.v.disk.bsize c.x.at.whole.size).0 in
    let size = (has c).size in
    let top = (has c).top in
    let small = c.x.at.whole.small in
    let total = same_total c in
    let is = b.map_is in
    let s1 = up_some c.v.label.blocks 8 (omega arith) (omega arith) in
    let s2 = up_some (up c.v.label.blocks 8) c.v.disk.bsize (omega arith) s1 in
    let b1 = up_below c.v.label.blocks 8 (omega arith) in
    let b2 = up_below (up c.v.label.blocks 8) c.v.disk.bsize (omega arith) in
    record {
      some = omega arith;
      few = omega arith;
      nodes = nodes_are (c.v.disk.bsize / 4) c.parts.map c.v.map c.s.map (omega arith) b.map;
    }

-- what stands in the image of the writes of both
has_joined : (image : Image) (leaves : List ℕ) (piece : ℕ → List ℕ) (written : List ℕ) → HasWritten image (leaf_writes leaves piece (drop 1 written))
    → HasWritten image (leaf_writes leaves piece (take 1 written)) → HasWritten image (leaf_writes leaves piece written)
has_joined image leaves piece [] behind first = tt
has_joined image leaves piece (w ∷ ws) behind first = (first.0, behind)

pub record AreThere (c : Case) : Type 0 where
  pub directory_leaves : HasWritten (later_of c) (leaf_writes c.s.directory.leaves (directory_piece c.v.disk.bsize c.s (entries_held c.edit.files) c.stamp) c.parts.directory)
  pub directory_nodes : HasWritten (later_of c) (shared_node_writes c.v.disk.bsize c.parts.directory c.v.directory c.s.directory)
  pub map_leaves : HasWritten (later_of c) (leaf_writes c.s.map.leaves (map_piece c.v.disk.bsize c.s.bits) c.parts.map)
  pub map_nodes : HasWritten (later_of c) (shared_node_writes c.v.disk.bsize c.parts.map c.v.map c.s.map)

are_there : (c : Case) → AreThere c
are_there c =
    let image = later_of c in
    let bsize = c.v.disk.bsize in
    let piece : ℕ → List ℕ = directory_piece bsize c.s (entries_held c.edit.files) c.stamp in
    let w1 = leaf_writes c.s.directory.leaves piece (drop 1 c.parts.directory) in
    let w2 = shared_node_writes bsize c.parts.directory c.v.directory c.s.directory in
    let w3 = leaf_writes c.s.map.leaves (map_piece bsize c.s.bits) c.parts.map in
    let w4 = shared_node_writes bsize c.parts.map c.v.map c.s.map in
    let w5 = leaf_writes c.s.directory.leaves piece (take 1 c.parts.directory) in
    let all = (later_image c).has in
    let r1 = has_behind image w1 (w2 ++ (w3 ++ (w4 ++ w5))) all in
    let r2 = has_behind image w2 (w3 ++ (w4 ++ w5)) r1 in
    let r3 = has_behind image w3 (w4 ++ w5) r2 in
    record {
      directory_leaves = has_joined image c.s.directory.leaves piece c.parts.directory (has_front image w1 (w2 ++ (w3 ++ (w4 ++ w5))) all) (has_behind image w4 w5 r3);
      directory_nodes = has_front image w2 (w3 ++ (w4 ++ w5)) r1;
      map_leaves = has_front image w3 (w4 ++ w5) r2;
      map_nodes = has_front image w4 w5 r3;
    }

-- both share their blocks
pub record BothShare (c : Case) : Type 0 where
  pub directory_blocks : SharesBlocks (before_of c) (later_of c) c.v.directory.leaves c.s.directory.leaves c.parts.directory (directory_piece c.v.disk.bsize c.s (entries_held c.edit.files) c.stamp)
  pub directory : SharesTree (form_of c.v.disk.bsize c.v.label.blocks F) (before_of c) (later_of c) c.parts.directory c.v.directory c.s.directory
  pub map_blocks : SharesBlocks (before_of c) (later_of c) c.v.map.leaves c.s.map.leaves c.parts.map (map_piece c.v.disk.bsize c.s.bits)
  pub map : SharesTree (form_of c.v.disk.bsize c.v.label.blocks F) (before_of c) (later_of c) c.parts.map c.v.map c.s.map

pub both_share : (c : Case) → BothShare c
both_share c =
    let b = c.x.planned.blocks in
    let w = wide c in
    let there = are_there c in
    let bsize = c.v.disk.bsize in
    let total = c.v.label.blocks in
    let i = later_image c in
    let directory = written_is_shared bsize total (before_of c) (later_of c) c.parts.directory c.v.directory c.s.directory (directory_piece bsize c.s (entries_held c.edit.files) c.stamp) b.directory.nodes (record {
      size = c.x.at.whole.size;
      may = directory_may c;
      old_shape = c.x.trees.directory_shape;
      shape = directory_shape c;
      words = leaf_words (bsize / 4) c.parts.directory c.v.directory c.s.directory (directory_may c) b.directory (λ n in'. old_word c n (old_directory c n in')) (directory_word c);
      node_words = node_words (bsize / 4) c.parts.directory c.v.directory c.s.directory (omega arith) b.directory (λ n in'. old_word c n (old_directory c n in')) (directory_word c);
      leaves = b.directory.leaves;
      pointers = b.directory.path;
      same_leaves = λ n in'. i.same n (times_in n (layout_blocks c.old) (old_directory c n (In-left n c.v.directory.leaves c.v.directory.pointers in')));
      same_nodes = λ n in'. i.same n (times_in n (layout_blocks c.old) (old_directory c n (In-right n c.v.directory.leaves c.v.directory.pointers in')));
      has_leaves = there.directory_leaves;
      has_nodes = there.directory_nodes;
    }) in
    let map' = written_is_shared bsize total (before_of c) (later_of c) c.parts.map c.v.map c.s.map (map_piece bsize c.s.bits) b.map.nodes (record {
      size = c.x.at.whole.size;
      may = map_may c;
      old_shape = c.x.trees.map_shape;
      shape = map_shape c;
      words = leaf_words (bsize / 4) c.parts.map c.v.map c.s.map (map_may c) b.map (λ n in'. old_word c n (old_map_blocks c n in')) (map_word c);
      node_words = node_words (bsize / 4) c.parts.map c.v.map c.s.map (omega arith) b.map (λ n in'. old_word c n (old_map_blocks c n in')) (map_word c);
      leaves = b.map.leaves;
      pointers = b.map.path;
      same_leaves = λ n in'. i.same n (times_in n (layout_blocks c.old) (old_map_blocks c n (In-left n c.v.map.leaves c.v.map.pointers in')));
      same_nodes = λ n in'. i.same n (times_in n (layout_blocks c.old) (old_map_blocks c n (In-right n c.v.map.leaves c.v.map.pointers in')));
      has_leaves = there.map_leaves;
      has_nodes = there.map_nodes;
    }) in
    record { directory_blocks = directory.0; directory = directory.1; map_blocks = map'.0; map = map'.1 }

-- ---- the blocks of the new volume

both_times : (c : Case) (n : ℕ) → TreeTimes (c.v.disk.bsize / 4) c.parts.directory c.v.directory c.s.directory n × TreeTimes (c.v.disk.bsize / 4) c.parts.map c.v.map c.s.map n
both_times c n =
    let w = wide c in
    let form = form_of c.v.disk.bsize c.v.label.blocks F in
    let b = both_share c in (
      tree_times form (before_of c) (later_of c) c.parts.directory c.v.directory c.s.directory (omega arith) c.x.trees.directory_shape (directory_shape c) c.x.trees.directory b.directory n,
      tree_times form (before_of c) (later_of c) c.parts.map c.v.map c.s.map (omega arith) c.x.trees.map_shape (map_shape c) c.x.trees.map b.map n,
    )

-- the sums at any block, with both origins
pub record Sums (c : Case) (n : ℕ) : Type 0 where
  pub sum : times n (new_blocks c.s c.files) + (times n (released c) + bit (n == c.old.label.origin)) ≡ times n (layout_blocks c.old) + (times n (fresh c) + bit (n == (9 - c.v.label.origin)))
  pub part : times n (released c) + bit (n == c.old.label.origin) ≤ times n (layout_blocks c.old)

pub sums : (c : Case) (n : ℕ) → Sums c n
sums c n =
    let t = both_times c n in
    let d = t.0 in let m = t.1 in
    let d_sum = d.sum in let d_part = d.part in
    let m_sum = m.sum in let m_part = m.part in
    let trees = (has c).trees n in
    let r = released_times c n in
    let f = fresh_times c n in
    let w = new_times c.s c.files n in
    let balance = c.x.balance n in
    let had = c.x.had n in
    let first : times n (directory_fresh c) ≡ bit (n == (9 - c.v.label.origin)) + times n (drop 1 (directory_fresh c)) = ap (times n) (fresh_begins c) ∙ first_bit n (9 - c.v.label.origin) (drop 1 (directory_fresh c)) in
    let last : times n (directory_released c) ≡ bit (n == c.old.label.origin) + times n (drop 1 (directory_released c)) = ap (times n) (released_begins c) ∙ first_bit n c.old.label.origin (drop 1 (directory_released c)) in
    record { sum = omega arith; part = omega arith }

bit_small : (b : Bool) → bit b ≤ 1
bit_small true = omega arith
bit_small false = omega arith

bit_none : (n o : ℕ) → n ≢ o → bit (n == o) ≡ 0
bit_none n o ne = ⊎_elim (λ (same : (n == o) ≡ true). absurd (ne (eqb-true n o same))) (λ (is : (n == o) ≡ false). miss (n == o) is) (cases_Bool (n == o))

-- the bits of both origins at a block from 6 on
late_bits : (c : Case) (n : ℕ) → 6 ≤ n → (bit (n == c.old.label.origin) ≡ 0) × (bit (n == (9 - c.v.label.origin)) ≡ 0)
late_bits c n late =
    let o = origins c in
    let o_high = o.old_high in let n_high = o.high in
    let same = same_origin c in
    (bit_none n c.old.label.origin (λ e. omega (arith, e)), bit_none n (9 - c.v.label.origin) (λ e. omega (arith, e)))

pub late_counts : (c : Case) (n : ℕ) → 6 ≤ n → Counts (layout_blocks c.old) (new_blocks c.s c.files) (released c) (fresh c) n
late_counts c n late =
    let q = sums c n in
    let sum = q.sum in let part = q.part in
    let b = late_bits c n late in
    let b0 = b.0 in let b1 = b.1 in
    record { sum = omega arith; part = omega arith; once = (has c).once n; apart = not_old c n }

-- a block of the new volume: where it lies, and that it stands there once
pub record NewBlock (c : Case) (n : ℕ) : Type 0 where
  pub once : times n (new_blocks c.s c.files) ≤ 1
  pub lies : 1 ≤ times n (new_blocks c.s c.files) → (n ≡ 9 - c.v.label.origin → ⊥) → (6 ≤ n) × (n ≤ c.old.label.blocks)

pub new_block : (c : Case) (n : ℕ) → NewBlock c n
new_block c n =
    let q = sums c n in
    let sum = q.sum in let part = q.part in
    let most = (has c).once n in
    let once = (unmarked c).once n in
    ⊎_elim
    (λ (at : (n == (9 - c.v.label.origin)) ≡ true).
    let is = eqb-true n (9 - c.v.label.origin) at in
    let o = origins c in
    let high = o.high in
    let same = same_origin c in
    let none_fresh = fresh_late c n (omega arith) in
    let none_old : times n (layout_blocks c.old) ≡ 0 = ⊎_elim
    (λ (none : times n (layout_blocks c.old) < 1). omega arith)
    (λ (some : 1 ≤ times n (layout_blocks c.old)). let late = (old_lies c n some).late (λ e. o.differs (sym same ∙ (sym is ∙ e))) in absurd (omega arith))
    (cases_lt (times n (layout_blocks c.old)) 1) in
    let one = bit_small (n == (9 - c.v.label.origin)) in
    record { once = omega arith; lies = λ some aside. absurd (aside is) })
    (λ (aside : (n == (9 - c.v.label.origin)) ≡ false).
    let none = miss (n == (9 - c.v.label.origin)) aside in
    ⊎_elim
    (λ (not_fresh : times n (fresh c) < 1).
    record {
      once = omega arith;
      lies = λ some aside. ⊎_elim
          (λ (was : (n == c.old.label.origin) ≡ true). let one = hit (n == c.old.label.origin) was in absurd (omega arith))
          (λ (other' : (n == c.old.label.origin) ≡ false).
          let l = old_lies c n (omega arith) in
          (l.late (λ e. clash (sym (eq-eqb n c.old.label.origin e) ∙ other')), l.high))
          (cases_Bool (n == c.old.label.origin));
    })
    (λ (some : 1 ≤ times n (fresh c)).
    let zero' = not_old c n some in
    let w = (unmarked c).each n some in
    record { once = omega arith; lies = λ there aside. (w.0, w.1) })
    (cases_lt (times n (fresh c)) 1))
    (cases_Bool (n == (9 - c.v.label.origin)))
