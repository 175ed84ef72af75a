-- What an update writes that writes a part of the directory and of the map, and how much.
use Rattle.std.proofs.Common.{◌≡◌, ◌⊎◌, inl, inr, ⊎_elim, ℕ, suc, ◌+◌, ◌-◌, ◌*◌, ◌/◌, ◌<◌, ◌≤◌, Bool, true, false, List, [], ◌∷◌, ◌++◌, length, take, drop, Ok, refl, sym, ◌∙◌, ap, subst, arith, length-append}
use Rattle.std.specs.Prelude.{◌==◌, if◌then◌else◌}
use Rattle.std.proofs.lemmas.Bool.{cases_Bool, cases_lt, eqb-true}
use Rattle.std.proofs.lemmas.List.{length-take}
use Rattle.cms_journal.proofs.Sizes.{block_bounds}
use Rattle.cms_fields.specs.Labels.{label_of, is_origin}
use Rattle.cms_fields.specs.declared.label.Label.{Label}
use Rattle.cms_model.specs.Lists.{In, times}
use Rattle.cms_model.specs.Settled.{Apart, Write, frame}
use Rattle.cms_model.specs.SharedTrees.{is_kept, MayBeWritten}
use Rattle.cms_model.specs.SharedTiers.{group}
use Rattle.cms_model.specs.Stands.{layout_blocks, opened}
use Rattle.cms_model.proofs.Quotients.{up_spec}
use Rattle.cms_model.proofs.Repeats.{bit, hit, miss, times_append}
use Rattle.cms_map.specs.Bits.{free_blocks}
use Rattle.cms_tree.specs.Builds.{marked, node_bytes}
use Rattle.cms_held.specs.HeldVolumes.{HeldTree}
use Rattle.cms_held.specs.LawsRenewals.{AreBlocks}
use Rattle.cms_held.specs.Renewals.{entries_held}
use Rattle.cms_held.specs.SharedBlocks.{fresh_of, levels_in}
use Rattle.cms_held.specs.SharedRenewals.{PartUpdateIsSmall}
use Rattle.cms_held.specs.SharedWrites.{fresh_writes, shared_node_writes, tier_writes}
use Rattle.cms_held.specs.Systems.{directory_bytes_of, directory_piece, map_piece, leaf_writes}
use Rattle.cms_held.proofs.Exchanged.{first_bit}
use Rattle.cms_held.proofs.MapShares.{in_drop}
use Rattle.cms_held.proofs.NewLabel.{label_length, new_label, other_origin, volid_long}
use Rattle.cms_held.proofs.OldBlocks.{frame_blocks}
use Rattle.cms_held.proofs.SharedSystems.{piece_long}
use Rattle.cms_held.proofs.SharedWrites.{fresh_are_written}
use Rattle.cms_held.proofs.SystemsRead.{directory_fills}
use Rattle.cms_held.proofs.MapPlaces.{bytes_long}
use Rattle.cms_held.proofs.WritesLong.{both_blocks, length_node}
use Rattle.cms_held.proofs.WritesPut.{apart_of, blocks_written, written_append}
use Rattle.cms_model.specs.DirectoryParts.{directory_count}
use Rattle.cms_held.specs.Allotments.{files_fresh, files_released}
use Rattle.cms_held.proofs.PartCases.{Case, case_of, directory_fresh, directory_may, directory_released, fresh, fresh_begins, fresh_late, has, held_count, map_enough, map_fresh, map_may, map_released, not_old, origins, released, same_origin, same_total, unmarked, writes}

-- ---- the writes

leaf_split : (leaves : List ℕ) (piece : ℕ → List ℕ) (written : List ℕ) (n : ℕ) → times n (blocks_written (leaf_writes leaves piece written))
    ≡ times n (blocks_written (leaf_writes leaves piece (take 1 written))) + times n (blocks_written (leaf_writes leaves piece (drop 1 written)))
unfolding times
leaf_split leaves piece [] n = refl
leaf_split leaves piece (w ∷ ws) n = omega arith

tree_written : (bsize : ℕ) (written : List ℕ) (old new : HeldTree) (piece : ℕ → List ℕ) → MayBeWritten (length old.leaves) (length new.leaves) written → (n : ℕ)
    → times n (blocks_written (leaf_writes new.leaves piece written)) + times n (blocks_written (shared_node_writes bsize written old new)) ≡ times n (fresh_of (bsize / 4) written old new)
tree_written bsize written old new piece may n =
    let is = ap (times n) (fresh_are_written bsize written old new piece may) in
    let split = ap (times n) (written_append (leaf_writes new.leaves piece written) (shared_node_writes bsize written old new)) in
    omega (arith, times_append n (blocks_written (leaf_writes new.leaves piece written)) (blocks_written (shared_node_writes bsize written old new)))

pub write_times : (c : Case) (n : ℕ) → times n (blocks_written (writes c)) ≡ bit (n == (9 - c.v.label.origin)) + times n (drop 1 (directory_fresh c)) + times n (map_fresh c)
write_times c n =
    let bsize = c.v.disk.bsize in
    let piece : ℕ → List ℕ = directory_piece bsize c.s (entries_held c.edit.files) c.stamp in
    let w1 = leaf_writes c.s.directory.leaves piece (drop 1 c.parts.directory) in
    let w2 = shared_node_writes bsize c.parts.directory c.v.directory c.s.directory in
    let w3 = leaf_writes c.s.map.leaves (map_piece bsize c.s.bits) c.parts.map in
    let w4 = shared_node_writes bsize c.parts.map c.v.map c.s.map in
    let w5 = leaf_writes c.s.directory.leaves piece (take 1 c.parts.directory) in
    let a1 = ap (times n) (written_append w1 (w2 ++ (w3 ++ (w4 ++ w5)))) in
    let a2 = ap (times n) (written_append w2 (w3 ++ (w4 ++ w5))) in
    let a3 = ap (times n) (written_append w3 (w4 ++ w5)) in
    let a4 = ap (times n) (written_append w4 w5) in
    let d = tree_written bsize c.parts.directory c.v.directory c.s.directory piece (directory_may c) n in
    let m = tree_written bsize c.parts.map c.v.map c.s.map (map_piece bsize c.s.bits) (map_may c) n in
    let l = leaf_split c.s.directory.leaves piece c.parts.directory n in
    let first = ap (times n) (fresh_begins c) ∙ first_bit n (9 - c.v.label.origin) (drop 1 (directory_fresh c)) in
    omega (
      arith,
      times_append n (blocks_written w1) (blocks_written (w2 ++ (w3 ++ (w4 ++ w5)))),
      times_append n (blocks_written w2) (blocks_written (w3 ++ (w4 ++ w5))),
      times_append n (blocks_written w3) (blocks_written (w4 ++ w5)),
      times_append n (blocks_written w4) (blocks_written w5),
    )

pub fresh_times : (c : Case) (n : ℕ) → times n (fresh c) ≡ times n c.edit.taken + times n (drop 1 (directory_fresh c)) + times n (map_fresh c)
fresh_times c n = omega (arith, times_append n (files_fresh c.v c.edit c.s c.parts) (map_fresh c), times_append n c.edit.taken (drop 1 (directory_fresh c)))

pub released_times : (c : Case) (n : ℕ) → times n (released c) ≡ times n c.edit.given + times n (drop 1 (directory_released c)) + times n (map_released c)
released_times c n = omega (arith, times_append n (files_released c.v c.edit c.s c.parts) (map_released c), times_append n c.edit.given (drop 1 (directory_released c)))

-- what is known of a block that is written
pub record WriteFacts (c : Case) : Type 0 where
  pub once : (n : ℕ) → times n (blocks_written (writes c)) ≤ 1
  pub low : (n : ℕ) → 1 ≤ times n (blocks_written (writes c)) → (4 ≤ n) × (n ≤ c.old.label.blocks)
  pub none : (n : ℕ) → 1 ≤ times n (layout_blocks c.old) → times n (blocks_written (writes c)) ≡ 0
  pub origin : times c.old.label.origin (blocks_written (writes c)) ≡ 0

pub write_facts : (c : Case) → WriteFacts c
write_facts c = record {
  once = λ n. (let t = write_times c n in let f = fresh_times c n in let m = (unmarked c).once n in ⊎_elim
      (λ (at : (n == (9 - c.v.label.origin)) ≡ true). let none = fresh_late c n (at_low n at) in let one = hit (n == (9 - c.v.label.origin)) at in omega arith)
      (λ (aside : (n == (9 - c.v.label.origin)) ≡ false). let none = miss (n == (9 - c.v.label.origin)) aside in omega arith)
      (cases_Bool (n == (9 - c.v.label.origin))));
  low = λ n some. (let t = write_times c n in let f = fresh_times c n in let size = (has c).size in ⊎_elim
      (λ (at : (n == (9 - c.v.label.origin)) ≡ true). let is = eqb-true n (9 - c.v.label.origin) at in let o_low = (origins c).low in let o_high = (origins c).high in let moved = same_origin c in (omega arith, omega arith))
      (λ (aside : (n == (9 - c.v.label.origin)) ≡ false). let none = miss (n == (9 - c.v.label.origin)) aside in let w = (unmarked c).each n (omega arith) in let six = w.0 in (omega arith, w.1))
      (cases_Bool (n == (9 - c.v.label.origin))));
  none = λ n there. (let t = write_times c n in let f = fresh_times c n in let gone = not_there n there in ⊎_elim
      (λ (at : (n == (9 - c.v.label.origin)) ≡ true). let five = at_low n at in ⊎_elim
      (λ (free : (6 ≤ n) × (n ≤ c.old.label.blocks)). let six = free.0 in absurd (omega arith))
      (λ (is : n ≡ c.old.label.origin). absurd ((origins c).differs (sym (same_origin c) ∙ (sym (eqb-true n (9 - c.v.label.origin) at) ∙ is))))
      ((has c).within n there))
      (λ (aside : (n == (9 - c.v.label.origin)) ≡ false). let none = miss (n == (9 - c.v.label.origin)) aside in omega arith)
      (cases_Bool (n == (9 - c.v.label.origin))));
  origin = (let t = write_times c c.old.label.origin in let f = fresh_times c c.old.label.origin in let gone = fresh_late c c.old.label.origin (origins c).old_high in ⊎_elim
      (λ (at : (c.old.label.origin == (9 - c.v.label.origin)) ≡ true). absurd ((origins c).differs (sym (same_origin c) ∙ sym (eqb-true c.old.label.origin (9 - c.v.label.origin) at))))
      (λ (aside : (c.old.label.origin == (9 - c.v.label.origin)) ≡ false). let none = miss (c.old.label.origin == (9 - c.v.label.origin)) aside in omega arith)
      (cases_Bool (c.old.label.origin == (9 - c.v.label.origin))));
}
  where
    at_low : (n : ℕ) → (n == (9 - c.v.label.origin)) ≡ true → n ≤ 5
    at_low n at = let is = eqb-true n (9 - c.v.label.origin) at in let high = (origins c).high in omega (arith, same_origin c)

    not_there : (n : ℕ) → 1 ≤ times n (layout_blocks c.old) → times n (fresh c) ≡ 0
    not_there n there = ⊎_elim
        (λ (none : times n (fresh c) < 1). omega arith)
        (λ (some : 1 ≤ times n (fresh c)). let none = not_old c n some in absurd (omega arith))
        (cases_lt (times n (fresh c)) 1)

-- no block is written twice, and each is that in which the directory begins or lies from block 6 on
pub written_once : (c : Case) (n : ℕ) → times n (blocks_written (writes c)) ≤ 1
written_once c n = (write_facts c).once n

pub written_lies : (c : Case) (n : ℕ) → 1 ≤ times n (blocks_written (writes c)) → (n ≡ 9 - c.v.label.origin) ⊎ (6 ≤ n)
written_lies c n some =
    let t = write_times c n in
    let f = fresh_times c n in
    ⊎_elim
    (λ (at : (n == (9 - c.v.label.origin)) ≡ true). inl (eqb-true n (9 - c.v.label.origin) at))
    (λ (aside : (n == (9 - c.v.label.origin)) ≡ false). let none = miss (n == (9 - c.v.label.origin)) aside in inr ((unmarked c).each n (omega arith)).0)
    (cases_Bool (n == (9 - c.v.label.origin)))

-- the writes are apart from what the old volume rests on
pub writes_apart : (c : Case) → Apart (writes c) (frame (opened c.old))
writes_apart c = apart_of (writes c) (frame (opened c.old)) (λ n in'. ⊎_elim
    (λ (three : n ≡ 3). none_at n three)
    (λ more. ⊎_elim
    (λ (at : n ≡ c.old.label.origin). subst (λ (k : ℕ). times k (blocks_written (writes c)) ≡ 0) (sym at) (write_facts c).origin)
    (λ (there : 1 ≤ times n (layout_blocks c.old)). (write_facts c).none n there)
    more)
    (frame_blocks c.old n in'))
  where
    none_at : (n : ℕ) → n ≡ 3 → times n (blocks_written (writes c)) ≡ 0
    none_at n three = ⊎_elim
        (λ (none : times n (blocks_written (writes c)) < 1). omega arith)
        (λ (some : 1 ≤ times n (blocks_written (writes c))). let low = ((write_facts c).low n some).0 in absurd (omega arith))
        (cases_lt (times n (blocks_written (writes c))) 1)

-- ---- the label

-- the fields of the new label
pub record NewLabel (c : Case) : Type 0 where
  pub volid : c.s.label.volid ≡ c.old.label.volid
  pub bsize : c.s.label.bsize ≡ c.v.label.bsize
  pub origin : c.s.label.origin ≡ 9 - c.v.label.origin
  pub blocks : c.s.label.blocks ≡ c.old.label.blocks
  pub in_use : c.s.label.in_use ≡ c.v.label.blocks - length (free_blocks c.s.bits)

pub fields : (c : Case) → NewLabel c
fields c =
    let is = c.x.planned.label in
    let same = (has c).label in
    record {
      volid = ap (λ (l : Label). l.volid) is ∙ ap (λ (l : Label). l.volid) same;
      bsize = ap (λ (l : Label). l.bsize) is;
      origin = ap (λ (l : Label). l.origin) is;
      blocks = ap (λ (l : Label). l.blocks) is ∙ ap (λ (l : Label). l.blocks) same;
      in_use = ap (λ (l : Label). l.in_use) is;
    }

-- its bytes spell it
pub record LabelFacts (c : Case) : Type 0 where
  pub spells : label_of c.v.disk.bsize c.v.disk.count c.s.label_bytes ≡ Ok c.s.label
  pub long : length c.s.label_bytes ≡ c.v.disk.bsize

pub label_facts : (c : Case) → LabelFacts c
label_facts c =
    let v = c.v in
    let f = fields c in
    let h = has c in
    let at = c.x.at in
    let whole = at.whole in
    let low = (block_bounds v.disk.bsize whole.size).0 in
    let size = h.size in let top = h.top in let few = whole.small in
    let o = origins c in
    let old_origin : v.label.origin ≡ c.old.label.origin = ap (λ (l : Label). l.origin) h.label in
    let o_low = o.old_low in let o_high = o.old_high in
    let bytes_long : length v.label_bytes ≡ v.disk.bsize = ap (λ (l : List ℕ). length l) at.held.bytes_are ∙ whole.each 3 (omega arith) (omega arith) in
    let spelled : label_of v.disk.bsize v.disk.count v.label_bytes ≡ Ok v.label =
    ap (label_of v.disk.bsize v.disk.count) at.held.bytes_are ∙ (at.stands.system.label ∙ ap Ok (sym h.label)) in
    let long : 80 ≤ length v.label_bytes = omega arith in
    let volid : length c.s.label.volid ≡ 6 = ap (λ (l : List ℕ). length l) (f.volid ∙ sym (ap (λ (l : Label). l.volid) h.label))
    ∙ volid_long v.disk.bsize v.disk.count v.label_bytes v.label spelled long in
    let in_use = f.in_use in
    let blocks = f.blocks in let old_count = same_total c in
    let origin = f.origin in
    let is_one : is_origin c.s.label.origin ≡ true = ap is_origin origin ∙ other_origin v.label.origin (omega arith) (omega arith) in
    record {
      spells = ap (label_of v.disk.bsize v.disk.count) c.x.planned.label_bytes
          ∙ new_label v.disk.bsize v.disk.count v.label_bytes v.label c.s.label spelled long volid f.bsize (omega arith) is_one (omega arith) (omega arith) (omega arith);
      long = ap (λ (l : List ℕ). length l) c.x.planned.label_bytes ∙ (label_length c.s.label v.label_bytes volid long ∙ bytes_long);
    }

-- ---- each write has the bytes of a block

leaves_long : (bsize : ℕ) (leaves : List ℕ) (piece : ℕ → List ℕ) (written : List ℕ) → ((j : ℕ) → In j written → length (piece j) ≡ bsize) → AreBlocks bsize (leaf_writes leaves piece written)
leaves_long bsize leaves piece [] long = tt
leaves_long bsize leaves piece (w ∷ ws) long = (long w (inl refl), leaves_long bsize leaves piece ws (λ j there. long j (inr there)))

marked_count : (ns : List ℕ) → length (marked ns []) ≡ length ns
unfolding marked
marked_count [] = refl
marked_count (n ∷ ns) = ap suc (marked_count ns)

tier_long : (bsize : ℕ) (kept : ℕ → Bool) (below : List ℕ) (k : ℕ) (tier : List ℕ) → AreBlocks bsize (tier_writes bsize (bsize / 4) kept below k tier)
unfolding tier_writes
tier_long bsize kept below k [] = tt
tier_long bsize kept below k (n ∷ ns) = one (kept k) (tier_long bsize kept below (suc k) ns)
  where
    one : (b : Bool) → AreBlocks bsize (tier_writes bsize (bsize / 4) kept below (suc k) ns)
        → AreBlocks bsize (if b then tier_writes bsize (bsize / 4) kept below (suc k) ns
        else record { block = n; bytes = node_bytes bsize 4 (marked (group (bsize / 4) below k) []) } ∷ tier_writes bsize (bsize / 4) kept below (suc k) ns)
    one true rest = rest
    one false rest = (
      (let own = group (bsize / 4) below k in
          let few : length own ≤ bsize / 4 = omega (arith, length-take (bsize / 4) (drop (k * (bsize / 4)) below)) in
          length_node bsize 4 (marked own []) (inl refl) (omega (arith, marked_count own))),
      rest,
    )

nodes_long : (bsize size before count : ℕ) (written : List ℕ) (olds : List (List ℕ)) (below : List ℕ) (tiers : List (List ℕ)) → AreBlocks bsize (fresh_writes bsize (bsize / 4) size before count written olds below tiers)
unfolding fresh_writes
nodes_long bsize size before count written olds below [] = tt
nodes_long bsize size before count written [] below (tier ∷ more) =
    let kept = is_kept false (size * (bsize / 4)) before count written in
    both_blocks bsize (tier_writes bsize (bsize / 4) kept below 0 tier) (fresh_writes bsize (bsize / 4) (size * (bsize / 4)) before count written [] tier more)
    (tier_long bsize kept below 0 tier) (nodes_long bsize (size * (bsize / 4)) before count written [] tier more)
nodes_long bsize size before count written (old ∷ olds) below (tier ∷ more) =
    let kept = is_kept true (size * (bsize / 4)) before count written in
    both_blocks bsize (tier_writes bsize (bsize / 4) kept below 0 tier) (fresh_writes bsize (bsize / 4) (size * (bsize / 4)) before count written olds tier more)
    (tier_long bsize kept below 0 tier) (nodes_long bsize (size * (bsize / 4)) before count written olds tier more)

in_front : (written : List ℕ) (j : ℕ) → In j (take 1 written) → In j written
in_front [] j there = there
in_front (w ∷ ws) j (inl is) = inl is
in_front (w ∷ ws) j (inr none) = absurd none

pub directory_long : (c : Case) (j : ℕ) → In j c.parts.directory → length (directory_piece c.v.disk.bsize c.s (entries_held c.edit.files) c.stamp j) ≡ c.v.disk.bsize
directory_long c j there =
    let bsize = c.v.disk.bsize in
    let b = c.x.planned.blocks in
    let low = (block_bounds bsize c.x.at.whole.size).0 in
    let count : length c.s.directory.leaves ≡ directory_count bsize (length (entries_held c.edit.files)) = b.directory_is ∙ ap (directory_count bsize) (sym (held_count c.edit.files)) in
    let room : 64 * (length (entries_held c.edit.files) + 2) ≤ length c.s.directory.leaves * bsize =
    subst (λ (n : ℕ). 64 * (length (entries_held c.edit.files) + 2) ≤ n * bsize) (sym count) (up_spec (64 * (length (entries_held c.edit.files) + 2)) bsize (omega arith)).0 in
    piece_long (directory_bytes_of bsize c.s (entries_held c.edit.files) c.stamp) (length c.s.directory.leaves) bsize j (directory_fills bsize c.s (entries_held c.edit.files) c.stamp c.x.back room)
    ((directory_may c).within j there)

pub writes_long : (c : Case) → AreBlocks c.v.disk.bsize (writes c)
writes_long c =
    let bsize = c.v.disk.bsize in
    let piece : ℕ → List ℕ = directory_piece bsize c.s (entries_held c.edit.files) c.stamp in
    let w1 = leaf_writes c.s.directory.leaves piece (drop 1 c.parts.directory) in
    let w2 = shared_node_writes bsize c.parts.directory c.v.directory c.s.directory in
    let w3 = leaf_writes c.s.map.leaves (map_piece bsize c.s.bits) c.parts.map in
    let w4 = shared_node_writes bsize c.parts.map c.v.map c.s.map in
    let w5 = leaf_writes c.s.directory.leaves piece (take 1 c.parts.directory) in
    both_blocks bsize w1 (w2 ++ (w3 ++ (w4 ++ w5))) (leaves_long bsize c.s.directory.leaves piece (drop 1 c.parts.directory) (λ j there. directory_long c j (in_drop 1 c.parts.directory j there)))
    (both_blocks bsize w2 (w3 ++ (w4 ++ w5)) (nodes_long bsize 1 (length c.v.directory.leaves) (length c.s.directory.leaves) c.parts.directory (levels_in (bsize / 4) c.v.directory) c.s.directory.leaves (levels_in (bsize / 4) c.s.directory))
    (both_blocks bsize w3 (w4 ++ w5) (leaves_long bsize c.s.map.leaves (map_piece bsize c.s.bits) c.parts.map (λ j there. bytes_long (j * bsize) bsize c.s.bits))
    (both_blocks bsize w4 w5 (nodes_long bsize 1 (length c.v.map.leaves) (length c.s.map.leaves) c.parts.map (levels_in (bsize / 4) c.v.map) c.s.map.leaves (levels_in (bsize / 4) c.s.map))
    (leaves_long bsize c.s.directory.leaves piece (take 1 c.parts.directory) (λ j there. directory_long c j (in_front c.parts.directory j there))))))

-- ---- how many

-- as many as there are blocks in them
writes_count : (ws : List Write) → length ws ≡ length (blocks_written ws)
writes_count [] = refl
writes_count (w ∷ ws) = ap suc (writes_count ws)

tree_count : (bsize : ℕ) (written : List ℕ) (old new : HeldTree) (piece : ℕ → List ℕ) → MayBeWritten (length old.leaves) (length new.leaves) written
    → length (leaf_writes new.leaves piece written) + length (shared_node_writes bsize written old new) ≡ length (fresh_of (bsize / 4) written old new)
tree_count bsize written old new piece may =
    let all = leaf_writes new.leaves piece written ++ shared_node_writes bsize written old new in
    let is = ap (λ (l : List ℕ). length l) (fresh_are_written bsize written old new piece may) in
    omega (arith, length-append (leaf_writes new.leaves piece written) (shared_node_writes bsize written old new), writes_count all)

parts_count : (leaves : List ℕ) (piece : ℕ → List ℕ) (written : List ℕ) → length (leaf_writes leaves piece written) ≡ length (leaf_writes leaves piece (take 1 written)) + length (leaf_writes leaves piece (drop 1 written))
parts_count leaves piece [] = refl
parts_count leaves piece (w ∷ ws) = omega arith

pub part_update_is_small : PartUpdateIsSmall
unfolding case_of
part_update_is_small j v edit stamp s parts old files x =
    let c : Case = case_of j v edit stamp s parts old files x in
    let bsize = v.disk.bsize in
    let piece : ℕ → List ℕ = directory_piece bsize s (entries_held edit.files) stamp in
    let w1 = leaf_writes s.directory.leaves piece (drop 1 parts.directory) in
    let w2 = shared_node_writes bsize parts.directory v.directory s.directory in
    let w3 = leaf_writes s.map.leaves (map_piece bsize s.bits) parts.map in
    let w4 = shared_node_writes bsize parts.map v.map s.map in
    let w5 = leaf_writes s.directory.leaves piece (take 1 parts.directory) in
    let d = tree_count bsize parts.directory v.directory s.directory piece (directory_may c) in
    let m = tree_count bsize parts.map v.map s.map (map_piece bsize s.bits) (map_may c) in
    let split = parts_count s.directory.leaves piece parts.directory in
    let few = (map_enough c).few in
    let first = ap (λ (l : List ℕ). length l) (fresh_begins c) in
    omega (
      arith,
      length-append edit.taken (drop 1 (directory_fresh c)),
      length-append w1 (w2 ++ (w3 ++ (w4 ++ w5))),
      length-append w2 (w3 ++ (w4 ++ w5)),
      length-append w3 (w4 ++ w5),
      length-append w4 w5,
    )
