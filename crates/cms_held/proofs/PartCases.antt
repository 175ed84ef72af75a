-- An update that writes a part of the directory and of the map: what is known before it is carried out.
use Rattle.std.proofs.Common.{◌≡◌, inl, inr, ⊎_elim, ℕ, zero, suc, ◌+◌, ◌-◌, ◌*◌, ◌/◌, ◌<◌, ◌≤◌, Bool, true, false, List, [], ◌∷◌, ◌++◌, length, take, drop, All, refl, sym, ◌∙◌, ap, subst, arith}
use Rattle.std.specs.Prelude.{◌&&◌, nat_le}
use Rattle.std.proofs.lemmas.Bool.{and_from, cases_lt, le-leb}
use Rattle.cms_journal.specs.Journal.{Journal}
use Rattle.cms_journal.proofs.Sizes.{block_bounds}
use Rattle.cms_names.specs.declared.name.Format.TheVariants.{F}
use Rattle.cms_fields.specs.Numbers.{up}
use Rattle.cms_fields.specs.declared.label.Label.{Label}
use Rattle.cms_fields.specs.declared.time.Stamp.{Stamp}
use Rattle.cms_model.specs.LawsUpdates.{now}
use Rattle.cms_model.specs.Lists.{In, times}
use Rattle.cms_model.specs.Settled.{Write}
use Rattle.cms_model.specs.SharedTrees.{is_kept, MayBeWritten}
use Rattle.cms_model.specs.SharedTimes.{without}
use Rattle.cms_model.specs.Stands.{Kept, Layout, entries_in, file_blocks, layout_blocks}
use Rattle.cms_model.specs.Trees.{Image, bytes_at, form_of}
use Rattle.cms_model.proofs.Members.{In-either}
use Rattle.cms_model.proofs.MinidiskSizes.{directory_fits}
use Rattle.cms_model.proofs.Quotients.{up_some}
use Rattle.cms_model.proofs.Repeats.{held, held_from, in_from, in_held, times_append}
use Rattle.cms_model.proofs.TreeSizes.{tree_first}
use Rattle.cms_map.specs.Bits.{HasFixed, free_blocks}
use Rattle.cms_map.proofs.Held.{bits_count, fixed_in}
use Rattle.cms_held.specs.LawsRenewals.{IsHeldAt}
use Rattle.cms_held.specs.MapShares.{IsMapEnough, SharesMap, turned, unless_none}
use Rattle.cms_held.specs.HeldVolumes.{HeldFile, HeldVolume}
use Rattle.cms_held.specs.Renewals.{Edit, blocks_in, entries_held}
use Rattle.cms_held.specs.SharedBlocks.{fresh_of, released_of}
use Rattle.cms_held.specs.SharedRenewals.{HasLevels, IsPartPlanned, IsPartRenewal, part_later, part_writes}
use Rattle.cms_held.specs.Written.{ReadsBack}
use Rattle.cms_held.specs.Systems.{Systems}
use Rattle.cms_held.proofs.Exchanged.{Other, other}
use Rattle.cms_held.proofs.KeptTrees.{nodes_are}
use Rattle.cms_held.proofs.MapMarks.{AreUnmarked, lowest_free}
use Rattle.cms_held.proofs.MapShares.{in_drop, in_released, turned_is_enough}
use Rattle.cms_held.proofs.OldBlocks.{HasBlocksOf, old_blocks}
use Rattle.cms_held.proofs.Renewals.{entries_many}
use Rattle.cms_held.proofs.SystemsHeld.{held_has_systems}
use Rattle.cms_model.specs.DirectoryParts.{directory_count}
use Rattle.cms_held.specs.Allotments.{Parts, files_fresh, files_released, on_map, part_fresh, part_released}
use Rattle.cms_model.specs.Sizes.{map_size}
use Rattle.cms_map.specs.Touched.{AreTouched}
use Rattle.cms_map.proofs.Free.{free_are_unused}
use Rattle.cms_model.proofs.WrittenBlocks.{leaf_written}

pub clash : true ≡ false → ⊥
clash e = cc

-- as many
pub held_count : (hs : List HeldFile) → length (entries_held hs) ≡ length hs
held_count [] = refl
held_count (h ∷ hs) = ap suc (held_count hs)

pub kept_count : (fs : List Kept) → length (entries_in fs) ≡ length fs
kept_count [] = refl
kept_count (g ∷ gs) = ap suc (kept_count gs)

-- what is known of an update before the trees of its files are
pub record IsPartTaking (j : Journal) (v : HeldVolume) (edit : Edit) (s : Systems) (parts : Parts) (old : Layout) (files : List Kept) : Type 0 where
  pub at : IsHeldAt j v old
  pub trees : HasLevels v (now j v.unit)
  pub planned : IsPartPlanned v edit s parts
  pub few : length edit.files ≤ 16384
  pub back : All ReadsBack (entries_held edit.files)
  pub balance : (n : ℕ) → times n (file_blocks files) + times n edit.given ≡ times n (file_blocks old.files) + times n edit.taken
  pub had : (n : ℕ) → times n edit.given ≤ times n (file_blocks old.files)

-- an update that is to be carried out
pub record Case : Type 0 where
  pub j : Journal
  pub v : HeldVolume
  pub edit : Edit
  pub stamp : Stamp
  pub s : Systems
  pub parts : Parts
  pub old : Layout
  pub files : List Kept
  pub x : IsPartTaking j v edit s parts old files

-- that of a renewal
unfoldable pub case_of : (j : Journal) (v : HeldVolume) (edit : Edit) (stamp : Stamp) (s : Systems) (parts : Parts) (old : Layout) (files : List Kept) → IsPartRenewal j v edit stamp s parts old files → Case
case_of j v edit stamp s parts old files x =
    let few = x.leaves.few in
    let count : length edit.files ≡ length files = sym (held_count edit.files) ∙ (entries_many files edit.files x.leaves.held ∙ kept_count files) in
    record {
      j = j;
      v = v;
      edit = edit;
      stamp = stamp;
      s = s;
      parts = parts;
      old = old;
      files = files;
      x = record {
        at = x.at;
        trees = x.trees;
        planned = x.planned;
        few = omega arith;
        back = x.leaves.back;
        balance = x.leaves.balance;
        had = x.leaves.had;
      };
    }

abbrev pub before_of : Case → Image
before_of c = now c.j c.v.unit

abbrev pub later_of : Case → Image
later_of c = now (part_later c.j c.v c.edit c.stamp c.s c.parts) c.v.unit

abbrev fan_of : Case → ℕ
fan_of c = c.v.disk.bsize / 4

abbrev pub old_map : Case → List ℕ
old_map c = bytes_at (before_of c) c.old.map_met.leaves

abbrev pub fresh : Case → List ℕ
fresh c = part_fresh c.v c.edit c.s c.parts

abbrev pub released : Case → List ℕ
released c = part_released c.v c.edit c.s c.parts

abbrev pub writes : Case → List Write
writes c = part_writes c.v c.edit c.stamp c.s c.parts

abbrev pub directory_fresh : Case → List ℕ
directory_fresh c = fresh_of (c.v.disk.bsize / 4) c.parts.directory c.v.directory c.s.directory

abbrev pub directory_released : Case → List ℕ
directory_released c = released_of (c.v.disk.bsize / 4) c.parts.directory c.v.directory c.s.directory

abbrev pub map_fresh : Case → List ℕ
map_fresh c = fresh_of (c.v.disk.bsize / 4) c.parts.map c.v.map c.s.map

abbrev pub map_released : Case → List ℕ
map_released c = released_of (c.v.disk.bsize / 4) c.parts.map c.v.map c.s.map

-- ---- what is known before

pub has : (c : Case) → HasBlocksOf c.v.disk.count (old_map c) c.v c.old
has c = old_blocks c.j c.v c.old c.x.at

pub wide : (c : Case) → 2 ≤ c.v.disk.bsize / 4
wide c = omega (arith, (block_bounds c.v.disk.bsize c.x.at.whole.size).0)

pub origins : (c : Case) → Other c.old.label.origin (9 - c.old.label.origin)
origins c = other c.old.label.origin (has c).origin

pub same_origin : (c : Case) → 9 - c.v.label.origin ≡ 9 - c.old.label.origin
same_origin c = ap (λ (l : Label). 9 - l.origin) (has c).label

pub same_total : (c : Case) → c.v.label.blocks ≡ c.old.label.blocks
same_total c = ap (λ (l : Label). l.blocks) (has c).label

-- what the update takes was not marked
pub unmarked : (c : Case) → AreUnmarked c.old.label.blocks (old_map c) (fresh c)
unmarked c = lowest_free c.old.label.blocks (old_map c) (fresh c) (c.x.planned.blocks.lowest ∙ ap (λ (bits : List Bool). take (length (fresh c)) (free_blocks bits)) (has c).bits)

-- and isn't a block of the old volume
pub not_old : (c : Case) (n : ℕ) → 1 ≤ times n (fresh c) → times n (layout_blocks c.old) ≡ 0
not_old c n some =
    let free = (unmarked c).each n some in
    ⊎_elim
    (λ (none : times n (layout_blocks c.old) < 1). omega arith)
    (λ (there : 1 ≤ times n (layout_blocks c.old)). absurd (clash (sym ((has c).marked n free.0 there) ∙ free.2)))
    (cases_lt (times n (layout_blocks c.old)) 1)

-- it lies from block 6 on
pub fresh_late : (c : Case) (n : ℕ) → n ≤ 5 → times n (fresh c) ≡ 0
fresh_late c n five = ⊎_elim
    (λ (none : times n (fresh c) < 1). omega arith)
    (λ (some : 1 ≤ times n (fresh c)). let six = ((unmarked c).each n some).0 in absurd (omega arith))
    (cases_lt (times n (fresh c)) 1)

-- the blocks of the old volume, by number
pub record Lies (c : Case) (n : ℕ) : Type 0 where
  pub low : 4 ≤ n
  pub high : n ≤ c.old.label.blocks
  pub late : (n ≡ c.old.label.origin → ⊥) → 6 ≤ n

pub old_lies : (c : Case) (n : ℕ) → 1 ≤ times n (layout_blocks c.old) → Lies c n
old_lies c n there =
    let h = has c in
    let size = h.size in
    let o = origins c in
    let o_low = o.old_low in
    let o_high = o.old_high in
    ⊎_elim
    (λ (free : (6 ≤ n) × (n ≤ c.old.label.blocks)). let six = free.0 in record { low = omega arith; high = free.1; late = λ aside. six })
    (λ (at : n ≡ c.old.label.origin). record { low = omega arith; high = omega arith; late = λ aside. absurd (aside at) })
    (h.within n there)

pub in_times : (n : ℕ) (xs : List ℕ) → In n xs → 1 ≤ times n xs
in_times n xs there = held n xs (in_held n xs there)

pub times_in : (n : ℕ) (xs : List ℕ) → 1 ≤ times n xs → In n xs
times_in n xs some = in_from n xs (held_from n xs some)

pub old_directory : (c : Case) (n : ℕ) → In n (blocks_in c.v.directory) → 1 ≤ times n (layout_blocks c.old)
old_directory c n there =
    let t = (has c).trees n in
    let some = in_times n (blocks_in c.v.directory) there in
    omega (arith, times_append n c.v.directory.leaves c.v.directory.pointers)

pub old_map_blocks : (c : Case) (n : ℕ) → In n (blocks_in c.v.map) → 1 ≤ times n (layout_blocks c.old)
old_map_blocks c n there =
    let t = (has c).trees n in
    let some = in_times n (blocks_in c.v.map) there in
    omega (arith, times_append n c.v.map.leaves c.v.map.pointers)

-- ---- the first blocks of the directory

pub headed : (w tail rest : List ℕ) (o : ℕ) → w ≡ o ∷ rest → w ++ tail ≡ o ∷ drop 1 (w ++ tail)
headed w tail rest o is = rw is refl

pub first_stays : (test : ℕ → Bool) (xs more : List ℕ) (o : ℕ) → xs ≡ o ∷ more → test 0 ≡ false → without test 0 xs ≡ o ∷ drop 1 (without test 0 xs)
unfolding without
first_stays test xs more o is off = rw (is, off) refl

pub fresh_begins : (c : Case) → directory_fresh c ≡ (9 - c.v.label.origin) ∷ drop 1 (directory_fresh c)
fresh_begins c =
    let b = c.x.planned.blocks in
    let count = length c.s.directory.leaves in
    let some : 0 < count = (let e = ap (λ (l : List ℕ). length l) b.origin in omega arith) in
    let off = leaf_written (length c.v.directory.leaves) count 0 c.parts.directory some b.enough.first in
    headed (without (is_kept true 1 (length c.v.directory.leaves) count c.parts.directory) 0 c.s.directory.leaves) _ _ (9 - c.v.label.origin)
    (first_stays (is_kept true 1 (length c.v.directory.leaves) count c.parts.directory) c.s.directory.leaves (drop 1 c.s.directory.leaves) (9 - c.v.label.origin) b.origin off)

-- the old directory begins in its origin
old_begins : (c : Case) → (more : List ℕ) × (c.v.directory.leaves ≡ c.old.label.origin ∷ more)
old_begins c =
    let form = form_of c.v.disk.bsize c.old.label.blocks F in
    let w = wide c in
    let bsize = c.v.disk.bsize in
    let d = directory_fits bsize c.old.label.origin (before_of c c.old.label.origin) c.old.directory c.x.at.stands.system.directory in
    let two = d.low in
    let blocks : c.old.directory.blocks ≡ up (c.old.directory.count * 64) bsize = d.fits.blocks in
    let low = (block_bounds bsize c.x.at.whole.size).0 in
    let some = up_some (c.old.directory.count * 64) bsize (omega arith) (omega arith) in
    let same : c.v.directory.leaves ≡ c.old.directory_met.leaves = c.x.at.held.directory_is.leaves in
    let first = tree_first form (before_of c) c.old.directory.levels c.old.label.origin c.old.label.origin c.old.directory.root c.old.directory.blocks c.old.directory_met (omega arith) (omega arith) c.x.at.stands.system.directory_met in
    (first.0, same ∙ first.1)

pub released_begins : (c : Case) → directory_released c ≡ c.old.label.origin ∷ drop 1 (directory_released c)
released_begins c =
    let b = c.x.planned.blocks in
    let count = length c.s.directory.leaves in
    let some : 0 < count = (let e = ap (λ (l : List ℕ). length l) b.origin in omega arith) in
    let off = leaf_written (length c.v.directory.leaves) count 0 c.parts.directory some b.enough.first in
    let first = old_begins c in
    headed (without (is_kept true 1 (length c.v.directory.leaves) count c.parts.directory) 0 c.v.directory.leaves) _ _ c.old.label.origin
    (first_stays (is_kept true 1 (length c.v.directory.leaves) count c.parts.directory) c.v.directory.leaves first.0 c.old.label.origin first.1 off)

-- ---- the map

-- a block that is given back was the old volume's
given_old : (c : Case) (n : ℕ) → In n (files_released c.v c.edit c.s c.parts) → 1 ≤ times n (layout_blocks c.old)
given_old c n there = ⊎_elim
    (λ (file : In n c.edit.given).
    let some = in_times n c.edit.given file in
    let had = c.x.had n in
    omega (arith, times_append n c.old.directory_met.blocks (c.old.map_met.blocks ++ file_blocks c.old.files), times_append n c.old.map_met.blocks (file_blocks c.old.files)))
    (λ (tree : In n (drop 1 (directory_released c))).
    old_directory c n (in_released (c.v.disk.bsize / 4) c.parts.directory c.v.directory c.s.directory n (in_drop 1 (directory_released c) n tree)))
    (In-either n c.edit.given (drop 1 (directory_released c)) there)

-- each free block has a bit in the map
free_within : (c : Case) (n : ℕ) → In n (free_blocks c.v.bits) → (1 ≤ n) × (n ≤ c.v.label.blocks)
free_within c n there =
    let u = (free_are_unused c.v.bits n).0 there in
    let high = u.1 in
    let long = ap (λ (l : List Bool). length l) (has c).bits ∙ (bits_count c.old.label.blocks (old_map c) ∙ sym (same_total c)) in
    (u.0, omega arith)

within_map : (c : Case) (n : ℕ) → In n (files_released c.v c.edit c.s c.parts ++ blocks_in c.v.map) → (1 ≤ n) × (n ≤ c.v.label.blocks)
within_map c n there =
    let l = old_lies c n (⊎_elim (λ (given : In n (files_released c.v c.edit c.s c.parts)). given_old c n given) (λ (map' : In n (blocks_in c.v.map)). old_map_blocks c n map')
    (In-either n (files_released c.v c.edit c.s c.parts) (blocks_in c.v.map) there)) in
    let low = l.low in
    let high = l.high in
    let total = same_total c in
    (omega arith, omega arith)

-- each of the blocks whose bits say what is written of the map has a bit in it
on_all : (total : ℕ) (ns : List ℕ) → ((n : ℕ) → In n ns → (1 ≤ n) × (n ≤ total)) → on_map total ns ≡ ns
on_all total [] each = refl
on_all total (n ∷ ns) each =
    let here = each n (inl refl) in
    let on : (nat_le 1 n && nat_le n total) ≡ true = and_from (nat_le 1 n) (nat_le n total) (le-leb 1 n here.0) (le-leb n total here.1) in
    rw on (ap (λ (l : List ℕ). n ∷ l) (on_all total ns (λ m there. each m (inr there))))

in_unless : (n : ℕ) (first blocks : List ℕ) → In n (unless_none first blocks) → In n blocks
in_unless n [] blocks there = absurd there
in_unless n (x ∷ xs) blocks there = there

in_take : (k n : ℕ) (ns : List ℕ) → In n (take k ns) → In n ns
in_take zero n ns there = absurd there
in_take (suc k) n [] there = absurd there
in_take (suc k) n (m ∷ ns) (inl is) = inl is
in_take (suc k) n (m ∷ ns) (inr more) = inr (in_take k n ns more)

abbrev turned_of : Case → List ℕ
turned_of c = turned (length (files_fresh c.v c.edit c.s c.parts) + map_size c.v.disk.bsize c.v.label.blocks) c.v.bits (files_fresh c.v c.edit c.s c.parts) (files_released c.v c.edit c.s c.parts) c.v.map

all_on_map : (c : Case) → on_map c.v.label.blocks (turned_of c) ≡ turned_of c
all_on_map c = on_all c.v.label.blocks (turned_of c) (λ n there.
    let taken = files_fresh c.v c.edit c.s c.parts in
    let given = files_released c.v c.edit c.s c.parts in
    let need = length taken + map_size c.v.disk.bsize c.v.label.blocks in
    ⊎_elim
    (λ (free : In n (take need (free_blocks c.v.bits))). free_within c n (in_take need n (free_blocks c.v.bits) free))
    (λ more. within_map c n more)
    (In-either n (take need (free_blocks c.v.bits)) (given ++ blocks_in c.v.map) (in_unless n (taken ++ given) (take need (free_blocks c.v.bits) ++ (given ++ blocks_in c.v.map)) there)))

shares_map : (c : Case) → SharesMap c.v.disk.bsize c.v.label.blocks c.v.bits c.s.bits (files_fresh c.v c.edit c.s c.parts) (files_released c.v c.edit c.s c.parts) c.v.map c.s.map c.parts.map
shares_map c =
    let b = c.x.planned.blocks in
    let h = has c in
    let w = wide c in
    record {
      size = c.x.at.whole.size;
      old_count = ap (λ (l : List Bool). length l) h.bits ∙ (bits_count c.old.label.blocks (old_map c) ∙ sym (same_total c));
      fixed = subst HasFixed (sym h.bits) (fixed_in c.old.label.blocks (old_map c));
      before_count = (held_has_systems c.j c.v c.old c.x.at).map_count;
      map_count = b.map_is;
      map_nodes = nodes_are (c.v.disk.bsize / 4) c.parts.map c.v.map c.s.map (omega arith) b.map;
      within = within_map c;
      touched = subst (λ (ns : List ℕ). AreTouched c.v.disk.bsize ns c.parts.map) (all_on_map c) b.touched;
      lowest = b.lowest;
      marks = b.marks;
    }

pub map_enough : (c : Case) → IsMapEnough c.v.disk.bsize c.v.label.blocks c.v.bits c.s.bits c.v.map c.s.map c.parts.map
map_enough c = turned_is_enough c.v.disk.bsize c.v.label.blocks c.v.bits c.s.bits (files_fresh c.v c.edit c.s c.parts) (files_released c.v c.edit c.s c.parts) c.v.map c.s.map c.parts.map (shares_map c)

pub map_may : (c : Case) → MayBeWritten (length c.v.map.leaves) (length c.s.map.leaves) c.parts.map
map_may c = record {
  ascend = c.x.planned.blocks.touched.ascend;
  within = (map_enough c).below;
  grown = λ j low high. (let a = (held_has_systems c.j c.v c.old c.x.at).map_count in let b = c.x.planned.blocks.map_is in absurd (omega arith));
}

pub directory_may : (c : Case) → MayBeWritten (length c.v.directory.leaves) (length c.s.directory.leaves) c.parts.directory
directory_may c =
    let b = c.x.planned.blocks in
    let old_is = (held_has_systems c.j c.v c.old c.x.at).directory_is in
    let new_is : length c.s.directory.leaves ≡ directory_count c.v.disk.bsize (length (entries_held c.edit.files)) = b.directory_is ∙ ap (directory_count c.v.disk.bsize) (sym (held_count c.edit.files)) in
    subst (λ (n : ℕ). MayBeWritten (length c.v.directory.leaves) n c.parts.directory) (sym new_is)
    (subst (λ (n : ℕ). MayBeWritten n (directory_count c.v.disk.bsize (length (entries_held c.edit.files))) c.parts.directory) (sym old_is) b.enough.may)
