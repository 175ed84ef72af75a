-- The steps in which blocks are allotted for an update, and what they come to.
use Rattle.std.proofs.Common.{◌≡◌, ℕ, ◌+◌, ◌-◌, ◌*◌, ◌/◌, ◌^◌, ◌<◌, ◌≤◌, Bool, List, [], ◌∷◌, ◌++◌, length, take, drop, refl, sym, ◌∙◌, ap, subst, append-nil, arith}
use Rattle.std.proofs.lemmas.List.{length-take-le, take-take}
use Rattle.cms_journal.proofs.Sizes.{block_bounds}
use Rattle.cms_fields.specs.Numbers.{up}
use Rattle.cms_model.specs.DirectoryParts.{blocks_made, directory_count, directory_taken}
use Rattle.cms_model.specs.Lists.{In}
use Rattle.cms_model.specs.SharedTrees.{MayBeWritten, fresh_count, fresh_to}
use Rattle.cms_model.specs.Sizes.{levels, map_size, pointer_count, pointers_to, tree_size}
use Rattle.cms_model.proofs.Exchanges.{to_few}
use Rattle.cms_model.proofs.WrittenBlocks.{written_few}
use Rattle.cms_map.specs.Bits.{free_blocks, with_marked}
use Rattle.cms_map.specs.Touched.{AreTouched}
use Rattle.cms_tree.specs.Paths.{fresh_places}
use Rattle.cms_tree.proofs.Paths.{places_count}
use Rattle.cms_held.specs.Allotments.{KeepsTree, nodes_fresh, on_map}
use Rattle.cms_held.specs.HeldVolumes.{HeldTree, HeldVolume}
use Rattle.cms_held.specs.Kept.{Keeps}
use Rattle.cms_held.specs.MapShares.{turned}
use Rattle.cms_held.specs.Renewals.{with_freed}
use Rattle.cms_held.specs.SharedBlocks.{fresh_of, released_of}
use Rattle.cms_held.specs.Systems.{TreePart}
use Rattle.cms_held.proofs.Allotted.{directory_small, directory_some, freed_all, freed_none, map_small, nodes_few}
use Rattle.cms_held.proofs.KeptTrees as kept
use Rattle.cms_held.proofs.PiecesWritten.{take_both}
use Rattle.cms_edf.specs.Allotments.{IsAllottedFor, MapIsShared, SharesDirectory, all_fresh, all_released, given_back, need_of, own_fresh, own_released, numbers_made}
use Rattle.cms_edf.specs.NewDirectories.{NewDirectory}
use Rattle.cms_edf.specs.declared.allotment.Allotment.{Allotment}
use Rattle.cms_edf.specs.declared.allotment.Exchange.{Exchange}
use Rattle.cms_edf.proofs.SharedTaken.{begins_so, map_few, some_written}

-- ---- how many blocks

-- what is written of the directory but its first block is what is taken for it
pub taken_is : (bsize before files old : ℕ) (made leaves nodes : List ℕ) → old ≡ directory_count bsize before → leaves ≡ blocks_made bsize files made
    → nodes ≡ fresh_places (bsize / 4) old (directory_count bsize files) leaves → directory_taken bsize before files made ≡ length leaves + length nodes - 1
unfolding directory_taken fresh_count
taken_is bsize before files old made leaves nodes is_old is_leaves is_nodes =
    let fan = bsize / 4 in
    let count = directory_count bsize files in
    let high = levels fan count in
    let long : length nodes ≡ fresh_to fan old count leaves high = ap (λ (l : List ℕ). length l) is_nodes ∙ places_count fan old count leaves high in
    let same : length leaves + fresh_to fan old count leaves high ≡ length (blocks_made bsize files made) + fresh_to fan (directory_count bsize before) count (blocks_made bsize files made) high =
    (λ i. length (is_leaves i) + fresh_to fan (is_old i) count (is_leaves i) high) in
    sym (ap (λ (n : ℕ). n - 1) (ap (λ (n : ℕ). length leaves + n) long ∙ same))

-- all that is written of it has a number of 32 bits
pub written_low : (bsize before files : ℕ) (leaves nodes : List ℕ) → 512 ≤ bsize → files ≤ 16384 → MayBeWritten before (directory_count bsize files) leaves
    → nodes ≡ fresh_places (bsize / 4) before (directory_count bsize files) leaves → length leaves + length nodes ≤ 34607232
unfolding pointer_count
written_low bsize before files leaves nodes low few may is_nodes =
    let fan = bsize / 4 in
    let count = directory_count bsize files in
    let high = levels fan count in
    let small : count ≤ 1048704 = directory_small files bsize (omega arith) few in
    let fewer = written_few before count leaves may in
    let long : length nodes ≡ fresh_to fan before count leaves high = ap (λ (l : List ℕ). length l) is_nodes ∙ places_count fan before count leaves high in
    let most = to_few fan before count leaves high in
    let all : pointers_to fan count high ≤ 32 * count = nodes_few fan count (omega arith) in
    omega arith

-- the map's blocks
pub map_is : (bsize total leaves nodes : ℕ) → leaves ≡ up (up total 8) bsize → nodes ≡ pointer_count (bsize / 4) leaves → leaves + nodes ≡ map_size bsize total
unfolding map_size tree_size
map_is bsize total leaves nodes is_leaves is_nodes = ap (λ (n : ℕ). leaves + n) is_nodes ∙ (λ i. is_leaves i + pointer_count (bsize / 4) (is_leaves i))

pub map_low : (bsize total leaves nodes : ℕ) → 512 ≤ bsize → bsize ≤ 4096 → total < 2 ^ 32 → leaves ≡ up (up total 8) bsize → nodes ≡ pointer_count (bsize / 4) leaves → leaves + nodes ≤ 34603272
map_low bsize total leaves nodes low high few is_leaves is_nodes =
    let small = map_small total bsize low high few in
    let all = nodes_few (bsize / 4) leaves (omega arith) in
    omega (arith, small, all, is_leaves, is_nodes)

pub map_tree : (bsize total count : ℕ) → count ≡ up (up total 8) bsize → tree_size (bsize / 4) count ≡ map_size bsize total
unfolding map_size
map_tree bsize total count is = ap (tree_size (bsize / 4)) is

-- what is needed, by what is written of the directory and the map's charge
pub record Splits (v : HeldVolume) (x : Exchange) (asked : TreePart) : Type 0 where
  pub some : 1 ≤ length asked.leaves
  pub low : length asked.leaves + length asked.nodes ≤ 34607232
  pub charge_some : 1 ≤ map_size v.disk.bsize v.label.blocks
  pub charge_low : map_size v.disk.bsize v.label.blocks ≤ 34603272
  pub need_is : need_of v x ≡ x.file + ((length asked.leaves + length asked.nodes - 1) + map_size v.disk.bsize v.label.blocks)

pub splits_so : (v : HeldVolume) (x : Exchange) (asked : TreePart) → Keeps v → x.files ≤ 16384 → asked.leaves ≡ blocks_made v.disk.bsize x.files (numbers_made x)
    → asked.nodes ≡ fresh_places (v.disk.bsize / 4) (length v.directory.leaves) (directory_count v.disk.bsize x.files) asked.leaves → In 0 asked.leaves
    → MayBeWritten (length v.directory.leaves) (directory_count v.disk.bsize x.files) asked.leaves → Splits v x asked
splits_so v x asked kept few leaves nodes first may =
    let bsize = v.disk.bsize in
    let total = v.label.blocks in
    let bounds = block_bounds bsize kept.sized in
    let before = length v.directory.leaves in
    let count = length v.map.leaves in
    let charge = map_is bsize total count (pointer_count (bsize / 4) count) kept.map_is refl in
    let most = map_low bsize total count (pointer_count (bsize / 4) count) bounds.0 bounds.1 kept.small kept.map_is refl in
    let some = kept.map_shape.some in
    let taken = taken_is bsize (length v.files) x.files before (numbers_made x) asked.leaves asked.nodes kept.directory_is leaves nodes in
    record {
      some = some_written 0 asked.leaves first;
      low = written_low bsize before x.files asked.leaves asked.nodes bounds.0 few may nodes;
      charge_some = omega (arith, charge, some);
      charge_low = omega (arith, charge, most);
      need_is = ap (λ (n : ℕ). x.file + (n + map_size bsize total)) taken;
    }

-- the same where the places were asked for
pub splits_asked : (v : HeldVolume) (x : Exchange) (asked : TreePart) → Keeps v → x.files ≤ 16384 → asked.leaves ≡ blocks_made v.disk.bsize x.files (numbers_made x)
    → asked.nodes ≡ fresh_places (v.disk.bsize / 4) (length v.directory.leaves) (directory_count v.disk.bsize x.files) (blocks_made v.disk.bsize x.files (numbers_made x))
    → In 0 (blocks_made v.disk.bsize x.files (numbers_made x))
    → MayBeWritten (directory_count v.disk.bsize (length v.files)) (directory_count v.disk.bsize x.files) (blocks_made v.disk.bsize x.files (numbers_made x)) → Splits v x asked
splits_asked v x asked kept few leaves nodes first may =
    let bsize = v.disk.bsize in
    let before = length v.directory.leaves in
    let count = directory_count bsize x.files in
    let back = sym leaves in
    splits_so v x asked kept few leaves (nodes ∙ ap (fresh_places (bsize / 4) before count) back) (subst (In 0) back first)
    (subst (λ (l : List ℕ). MayBeWritten before count l) back (subst (λ (n : ℕ). MayBeWritten n count (blocks_made bsize x.files (numbers_made x))) (sym kept.directory_is) may))

-- ---- a tree that may be shared

-- a tree of so many data blocks may keep blocks of the one before, but those at these places
pub record MayShare (fan count : ℕ) (old : HeldTree) (asked : TreePart) : Type 0 where
  pub some_before : 1 ≤ length old.leaves
  pub few : length old.leaves < 2 ^ 32
  pub some : 1 ≤ count
  pub wide : 2 ≤ fan
  pub olds : length old.pointers ≡ pointer_count fan (length old.leaves)
  pub may : MayBeWritten (length old.leaves) count asked.leaves
  pub nodes : asked.nodes ≡ fresh_places fan (length old.leaves) count asked.leaves

same_share : (fan fan' count count' : ℕ) (old old' : HeldTree) (asked : TreePart) → fan ≡ fan' → count ≡ count' → old ≡ old' → MayShare fan' count' old' asked → MayShare fan count old asked
same_share fan fan' count count' old old' asked fan_is count_is old_is share =
    subst (λ (n : ℕ). MayShare n count old asked) (sym fan_is)
    (subst (λ (n : ℕ). MayShare fan' n old asked) (sym count_is) (subst (λ (o : HeldTree). MayShare fan' count' o asked) (sym old_is) share))

-- the directory of so many files
pub directory_share : (v : HeldVolume) (files fan count : ℕ) (old : HeldTree) (asked : TreePart) → Keeps v → fan ≡ v.disk.bsize / 4 → count ≡ directory_count v.disk.bsize files → old ≡ v.directory
    → MayBeWritten (length v.directory.leaves) (directory_count v.disk.bsize files) asked.leaves
    → asked.nodes ≡ fresh_places (v.disk.bsize / 4) (length v.directory.leaves) (directory_count v.disk.bsize files) asked.leaves → MayShare fan count old asked
directory_share v files fan count old asked kept fan_is count_is old_is may nodes =
    let low = (block_bounds v.disk.bsize kept.sized).0 in
    same_share fan (v.disk.bsize / 4) count (directory_count v.disk.bsize files) old v.directory asked fan_is count_is old_is (record {
      some_before = kept.directory_shape.some;
      few = kept.directory_shape.few;
      some = directory_some files v.disk.bsize low;
      wide = omega (arith, low);
      olds = kept.directory_shape.nodes;
      may = may;
      nodes = nodes;
    })

-- the map, which has as many data blocks as before
pub map_share : (v : HeldVolume) (fan count : ℕ) (old : HeldTree) (asked : TreePart) → Keeps v → fan ≡ v.disk.bsize / 4 → count ≡ length v.map.leaves → old ≡ v.map
    → MayBeWritten (length v.map.leaves) (length v.map.leaves) asked.leaves → asked.nodes ≡ fresh_places (v.disk.bsize / 4) (length v.map.leaves) (length v.map.leaves) asked.leaves
    → MayShare fan count old asked
map_share v fan count old asked kept fan_is count_is old_is may nodes =
    let low = (block_bounds v.disk.bsize kept.sized).0 in
    same_share fan (v.disk.bsize / 4) count (length v.map.leaves) old v.map asked fan_is count_is old_is (record {
      some_before = kept.map_shape.some;
      few = kept.map_shape.few;
      some = kept.map_shape.some;
      wide = omega (arith, low);
      olds = kept.map_shape.nodes;
      may = may;
      nodes = nodes;
    })

-- ---- a tree that is shared

-- what is told of it, and of the blocks of the tree before that it doesn't keep
pub record IsTold (fan count : ℕ) (old : HeldTree) (written : List ℕ) (size : ℕ) (numbers left : List ℕ) (t : HeldTree) : Type 0 where
  pub keeps : KeepsTree fan written old t
  pub long : length t.leaves ≡ count
  pub fresh : fresh_of fan written old t ≡ take size numbers
  pub left_is : (new : HeldTree) → length new.leaves ≡ count → length new.pointers ≡ pointer_count fan count → left ≡ released_of fan written old new

released_is : (fan count : ℕ) (old t : HeldTree) (written : List ℕ) (size : ℕ) (numbers left : List ℕ) → 1 ≤ fan → IsTold fan count old written size numbers left t → left ≡ released_of fan written old t
released_is fan count old t written size numbers left some told =
    told.left_is t told.long (kept.nodes_are fan written old t some told.keeps ∙ ap (pointer_count fan) told.long)

directory_so : (v : HeldVolume) (files : ℕ) (blocks : List ℕ) (asked : TreePart) (t : HeldTree) (left : List ℕ) → 4 ≤ v.disk.bsize → 0 < directory_count v.disk.bsize files → In 0 asked.leaves
    → IsTold (v.disk.bsize / 4) (directory_count v.disk.bsize files) v.directory asked.leaves (length asked.leaves + length asked.nodes) ((9 - v.label.origin) ∷ blocks) left t
    → SharesDirectory v files blocks asked (record { tree = t; part = asked }) left
directory_so v files blocks asked t left wide some first told =
    let fan = v.disk.bsize / 4 in
    let count = directory_count v.disk.bsize files in
    let begins = begins_so fan v.directory t count (9 - v.label.origin) asked blocks first some (record { keeps = told.keeps; long = told.long; fresh = told.fresh }) in
    record {
      places_are = refl;
      origin = begins.origin_is;
      count = told.long;
      keeps = told.keeps;
      fresh = begins.fresh;
      released = released_is fan count v.directory t asked.leaves (length asked.leaves + length asked.nodes) ((9 - v.label.origin) ∷ blocks) left (omega arith) told;
    }

-- the new directory
pub shares_so : (v : HeldVolume) (files fan count : ℕ) (old : HeldTree) (blocks numbers : List ℕ) (asked : TreePart) (d : NewDirectory) (left : List ℕ) → 4 ≤ v.disk.bsize
    → 0 < directory_count v.disk.bsize files → In 0 asked.leaves → fan ≡ v.disk.bsize / 4 → count ≡ directory_count v.disk.bsize files → old ≡ v.directory → numbers ≡ (9 - v.label.origin) ∷ blocks → d.part ≡ asked
    → IsTold fan count old asked.leaves (length asked.leaves + length asked.nodes) numbers left d.tree → SharesDirectory v files blocks asked d left
shares_so v files fan count old blocks numbers asked d left wide some first fan_is count_is old_is numbers_are part told =
    let size = length asked.leaves + length asked.nodes in
    let t = d.tree in
    let back = sym part in
    subst (λ (x : NewDirectory). SharesDirectory v files blocks asked x left) (λ k. record { tree = t; part = back k })
    (directory_so v files blocks asked t left wide some first
    (subst (λ (n : ℕ). IsTold n (directory_count v.disk.bsize files) v.directory asked.leaves size ((9 - v.label.origin) ∷ blocks) left t) fan_is
    (subst (λ (n : ℕ). IsTold fan n v.directory asked.leaves size ((9 - v.label.origin) ∷ blocks) left t) count_is
    (subst (λ (o : HeldTree). IsTold fan count o asked.leaves size ((9 - v.label.origin) ∷ blocks) left t) old_is
    (subst (λ (l : List ℕ). IsTold fan count old asked.leaves size l left t) numbers_are told)))))

map_so : (v : HeldVolume) (written blocks : List ℕ) (places : TreePart) (t : HeldTree) (left : List ℕ) → 4 ≤ v.disk.bsize → length v.map.leaves ≡ up (up v.label.blocks 8) v.disk.bsize
    → MayBeWritten (length v.map.leaves) (length v.map.leaves) written → places.leaves ≡ written → places.nodes ≡ fresh_places (v.disk.bsize / 4) (length v.map.leaves) (length v.map.leaves) written
    → IsTold (v.disk.bsize / 4) (length v.map.leaves) v.map written (length places.leaves + length places.nodes) blocks left t
    → MapIsShared v written blocks t places left
unfolding map_size
map_so v written blocks places t left wide map_count may leaves nodes told =
    let fan = v.disk.bsize / 4 in
    let n = length v.map.leaves in
    record {
      leaves_are = leaves;
      nodes_are = nodes ∙ ap (λ (k : ℕ). fresh_places fan n k written) (sym told.long);
      count = told.long;
      keeps = told.keeps;
      fresh = told.fresh;
      few = map_few v.disk.bsize v.label.blocks n places written may leaves nodes (ap (tree_size fan) map_count);
      released = released_is fan n v.map t written (length places.leaves + length places.nodes) blocks left (omega arith) told;
    }

-- the new map's tree
pub map_shares_so : (v : HeldVolume) (fan count : ℕ) (old : HeldTree) (written blocks : List ℕ) (places : TreePart) (t : HeldTree) (left : List ℕ) → 4 ≤ v.disk.bsize
    → length v.map.leaves ≡ up (up v.label.blocks 8) v.disk.bsize → MayBeWritten (length v.map.leaves) (length v.map.leaves) written → fan ≡ v.disk.bsize / 4 → count ≡ length v.map.leaves → old ≡ v.map
    → places.leaves ≡ written → places.nodes ≡ fresh_places fan count count written
    → IsTold fan count old places.leaves (length places.leaves + length places.nodes) blocks left t
    → MapIsShared v written blocks t places left
map_shares_so v fan count old written blocks places t left wide map_count may fan_is count_is old_is leaves nodes told =
    let size = length places.leaves + length places.nodes in
    map_so v written blocks places t left wide map_count may leaves (nodes ∙ (λ i. fresh_places (fan_is i) (count_is i) (count_is i) written))
    (subst (λ (n : ℕ). IsTold n (length v.map.leaves) v.map written size blocks left t) fan_is
    (subst (λ (n : ℕ). IsTold fan n v.map written size blocks left t) count_is
    (subst (λ (o : HeldTree). IsTold fan count o written size blocks left t) old_is
    (subst (λ (l : List ℕ). IsTold fan count old l size blocks left t) leaves told))))

-- ---- the map's bits

-- one list of blocks is freed behind another
pub freed_both : (xs ys : List ℕ) (old mid new : List Bool) → mid ≡ with_freed xs old → new ≡ with_freed ys mid → new ≡ with_freed (xs ++ ys) old
freed_both xs ys old mid new first second =
    let still = freed_none new in
    freed_all xs ys [] [] [] [] old mid new new new new new first second still still still still ∙ ap (λ (l : List ℕ). with_freed (xs ++ l) old) (append-nil ys)

-- ---- all of it

pub allotted_so : (v : HeldVolume) (x : Exchange) (a : Allotment) (asked : TreePart) (lowest released written left gone : List ℕ) (need used all : ℕ)
    → length v.directory.leaves ≡ directory_count v.disk.bsize (length v.files) → length v.map.leaves ≡ up (up v.label.blocks 8) v.disk.bsize
    → asked.leaves ≡ blocks_made v.disk.bsize x.files (numbers_made x)
    → asked.nodes ≡ fresh_places (v.disk.bsize / 4) (length v.directory.leaves) (directory_count v.disk.bsize x.files) asked.leaves → 1 ≤ length asked.leaves
    → need ≡ need_of v x → need ≤ length (free_blocks v.bits) → lowest ≡ take need (free_blocks v.bits)
    → used ≡ x.file + (length asked.leaves + length asked.nodes) - 1 → a.file.items ≡ take x.file lowest
    → SharesDirectory v x.files (drop x.file lowest) asked a.directory left → released ≡ given_back x ++ drop 1 left
    → AreTouched v.disk.bsize (on_map v.label.blocks (turned (length lowest) v.bits (take used lowest) released v.map)) written
    → MapIsShared v written (drop used lowest) a.map_tree a.map_part gone → all ≡ used + (length a.map_part.leaves + length a.map_part.nodes)
    → a.map ≡ with_freed (released ++ gone) (with_marked (take all (free_blocks v.bits)) v.bits) → IsAllottedFor v x a
allotted_so v x a asked lowest released written left gone need used all directory_is map_is leaves nodes some need_is enough low used_is file d released_are touched m all_is marks =
    let bsize = v.disk.bsize in
    let fan = bsize / 4 in
    let total = v.label.blocks in
    let free = free_blocks v.bits in
    let before = length v.directory.leaves in
    let parts = d.places_are in
    let taken = taken_is bsize (length v.files) x.files before (numbers_made x) asked.leaves asked.nodes directory_is leaves nodes in
    let charge = map_size bsize total in
    let needs : need ≡ x.file + (directory_taken bsize (length v.files) x.files (numbers_made x) + charge) = need_is in
    let whole : used + charge ≡ need = omega arith in
    let long : length lowest ≡ need = ap (λ (l : List ℕ). length l) low ∙ length-take-le need free enough in
    let size : length a.directory.part.leaves + length a.directory.part.nodes ≡ length asked.leaves + length asked.nodes = ap (λ (p : TreePart). length p.leaves + length p.nodes) parts in
    let behind = d.fresh in
    let more = length a.directory.part.leaves + length a.directory.part.nodes - 1 in
    let counted : x.file + more ≡ used = omega arith in
    let own : own_fresh v a ≡ take used lowest = (λ i. file i ++ behind i) ∙ (take_both x.file more lowest ∙ ap (λ (n : ℕ). take n lowest) counted) in
    let own_long : length (own_fresh v a) ≡ used = ap (λ (l : List ℕ). length l) own ∙ length-take-le used lowest (omega arith) in
    let back : own_released v x a ≡ released = ap (λ (l : List ℕ). given_back x ++ drop 1 l) (sym d.released) ∙ sym released_are in
    let own' = sym own in
    let back' = sym back in
    let charged : length lowest ≡ length (own_fresh v a) + charge = omega arith in
    let k = length a.map_part.leaves + length a.map_part.nodes in
    let few : k ≤ charge = m.few in
    let within : all ≤ need = omega arith in
    let map_fresh : fresh_of fan a.map_part.leaves v.map a.map_tree ≡ take k (drop used lowest) = ap (λ (l : List ℕ). fresh_of fan l v.map a.map_tree) m.leaves_are ∙ m.fresh in
    let map_gone : released_of fan a.map_part.leaves v.map a.map_tree ≡ gone = ap (λ (l : List ℕ). released_of fan l v.map a.map_tree) m.leaves_are ∙ sym m.released in
    let fresh : all_fresh v a ≡ take all free =
    (λ i. own i ++ map_fresh i) ∙ (take_both used k lowest ∙ (ap (λ (n : ℕ). take n lowest) (sym all_is) ∙ (ap (take all) low ∙ take-take all need free within))) in
    let fresh_long : length (all_fresh v a) ≡ all = ap (λ (l : List ℕ). length l) fresh ∙ length-take-le all free (omega arith) in
    let gone_all : all_released v x a ≡ released ++ gone = (λ i. back i ++ map_gone i) in
    let fresh' = sym fresh in
    let gone' = sym gone_all in
    let parts' = sym parts in
    let count' = sym d.count in
    record {
      file = ap (λ (l : List ℕ). length l) file ∙ length-take-le x.file lowest (omega arith);
      written = ap (λ (p : TreePart). p.leaves) parts ∙ leaves;
      origin = d.origin;
      directory_is = d.count;
      map_is = m.count ∙ map_is;
      directory = d.keeps;
      directory_nodes = ap (λ (p : TreePart). p.nodes) parts ∙ (nodes ∙ (λ i. fresh_places fan before (count' i) (parts' i).leaves));
      map = subst (λ (l : List ℕ). KeepsTree fan l v.map a.map_tree) (sym m.leaves_are) m.keeps;
      map_nodes = m.nodes_are ∙ ap (λ (l : List ℕ). nodes_fresh fan l v.map a.map_tree) (sym m.leaves_are);
      touched = subst (λ (l : List ℕ). AreTouched bsize (on_map total (turned (length (own_fresh v a) + map_size bsize total) v.bits (own_fresh v a) (own_released v x a) v.map)) l) (sym m.leaves_are)
          (subst (λ (l : List ℕ). AreTouched bsize l written) (λ i. on_map total (turned (charged i) v.bits (own' i) (back' i) v.map)) touched);
      lowest = fresh ∙ ap (λ (n : ℕ). take n free) (sym fresh_long);
      marks = marks ∙ (λ i. with_freed (gone' i) (with_marked (fresh' i) v.bits));
    }
