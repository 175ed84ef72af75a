-- A file is planned to grow: what is allotted for it and what is written then.
use Rattle.std.proofs.Common.{◌≡◌, ℕ, ◌+◌, ◌-◌, ◌*◌, ◌/◌, ◌^◌, ◌<◌, ◌≤◌, true, List, [], ◌++◌, length, take, position, slice_get, All, None, Some, refl, sym, ◌∙◌, ap, subst, arith}
use Rattle.std.specs.List.Sorted.{IsStrictlyIncreasing}
use Rattle.std.proofs.Math.Nat.{mul-le-mul_left}
use Rattle.std.proofs.lemmas.List.{append-nil, map-set, take_all}
use Rattle.std.proofs.lemmas.List.Elements.{All-append}
use Rattle.std.proofs.lemmas.List.FromFn.{get_or-range_with_len, length-range_with_len}
use Rattle.std.proofs.lemmas.Option.{same_Some}
use Rattle.cms_journal.specs.Journal.{IsBlockSize}
use Rattle.cms_journal.proofs.Sizes.{block_bounds}
use Rattle.cms_names.specs.declared.name.Name.{Name}
use Rattle.cms_fields.specs.Entries.{fan_of, pointer_size}
use Rattle.cms_fields.specs.Numbers.{up}
use Rattle.cms_fields.specs.Stamps.{is_stamp}
use Rattle.cms_fields.specs.declared.entry.Entry.{Entry}
use Rattle.cms_fields.specs.declared.time.Stamp.{Stamp}
use Rattle.cms_model.specs.Minidisks.{same_name}
use Rattle.cms_model.specs.SharedTrees.{MayBeWritten, fresh_count, fresh_to}
use Rattle.cms_model.specs.Sizes.{levels, pointer_count}
use Rattle.cms_model.proofs.FileSizes.{fan_wide}
use Rattle.cms_model.proofs.Repeats.{held, in_held}
use Rattle.cms_map.specs.Bits.{HasFixed, free_blocks}
use Rattle.cms_tree.specs.Paths.{fresh_places}
use Rattle.cms_tree.proofs.Paths.{path_takes_no_more, places_count}
use Rattle.cms_held.specs.Allotments.{IsPlanned, KeepsTree}
use Rattle.cms_held.specs.Growths.{KeepsFront, growing, places_behind}
use Rattle.cms_held.specs.HeldVolumes.{HeldFile, HeldTree, HeldVolume, names_in}
use Rattle.cms_held.specs.Kept.{Keeps}
use Rattle.cms_held.specs.Puts.{AreFree, limit_put}
use Rattle.cms_held.specs.Renewals.{blocks_in, entries_held, made_at, needed}
use Rattle.cms_held.specs.SharedBlocks.{fresh_of, released_of}
use Rattle.cms_held.specs.Systems.{Systems, TreePart}
use Rattle.cms_held.specs.Written.{ReadsBack}
use Rattle.cms_held.proofs.Allotted.{nodes_few}
use Rattle.cms_held.proofs.Drafted.{fan_is}
use Rattle.cms_held.proofs.Grown.{behind_all, behind_low}
use Rattle.cms_held.proofs.KeptTrees.{nodes_are}
use Rattle.cms_held.proofs.NewMap.{row_within}
use Rattle.cms_held.specs.declared.shape.DraftShape.{DraftShape}
use Rattle.cms_held.proofs.AddCarried.{kept_at}
use Rattle.cms_edf.specs.Allotments.{IsAllottedFor, given_back, need_of, numbers_made}
use Rattle.cms_edf.specs.ChangePlans.{IsFilled}
use Rattle.cms_edf.specs.FileDrafts.{entry_for, file_for, list_with}
use Rattle.cms_edf.specs.Growths.{GrowsAs, IsGrowthOf, IsGrowthPlanned, IsGrownPlan, IsMoreRefused, kept_in, more_fault, need_more}
use Rattle.cms_edf.specs.NoRoom.{LacksRoom}
use Rattle.cms_edf.specs.declared.allotment.Allotment.{Allotment}
use Rattle.cms_edf.specs.declared.allotment.Exchange.{Exchange}
use Rattle.cms_edf.specs.declared.allotment.PlanFault.{PlanFault}
use Rattle.cms_edf.specs.declared.allotment.PlanFault.TheVariants as failed
use Rattle.cms_edf.specs.declared.growth.Growth.{Growth}
use Rattle.cms_edf.proofs.AllottedParts.{Asks, planned_of}
use Rattle.cms_edf.proofs.DraftPlanned.{count_held, enough_with, entry_passes, limits, taken_free, taken_within}
use Rattle.cms_edf.proofs.NodesKept.{kept_leaves, kept_nodes}
use Rattle.cms_edf.proofs.Planned.{all_in}

-- ---- what is kept

-- a tree that keeps all but what is behind keeps its front
front_kept : (fan kept : ℕ) (old new : HeldTree) → kept ≤ length old.leaves → kept < length new.leaves → length old.leaves ≤ length new.leaves
    → KeepsTree fan (places_behind kept (length new.leaves)) old new → KeepsFront fan kept old new
front_kept fan kept old new within less more k = record {
  kept_old = within;
  less = less;
  more = more;
  leaves = λ j low. k.leaves j (omega arith) (λ there. let high = behind_low kept (length new.leaves) j there in absurd (omega arith));
  nodes = k.nodes;
  count = k.count;
  path = k.path;
}

-- what is written of its data blocks may be
pub behind_ascends : (kept count : ℕ) → IsStrictlyIncreasing (places_behind kept count)
behind_ascends kept count k less =
    let long = length-range_with_len kept (count - kept) in
    let here = get_or-range_with_len kept (count - kept) k 0 (omega arith) in
    let next = get_or-range_with_len kept (count - kept) (k + 1) 0 (omega arith) in
    omega arith

pub behind_may : (kept before count : ℕ) → kept ≤ before → kept < count → MayBeWritten before count (places_behind kept count)
behind_may kept before count within less = record {
  ascend = behind_ascends kept count;
  within = λ j there.
      let some = held j (places_behind kept count) (in_held j (places_behind kept count) there) in
      let last = (row_within kept (count - kept) j some).1 in
      omega arith;
  grown = λ j low high. behind_all kept count j (omega arith) high;
}

-- it is few blocks
pub grown_small : (bsize : ℕ) (f : HeldFile) (asked : DraftShape) (g : Growth) (places : TreePart) → IsBlockSize bsize → IsGrowthOf bsize f asked g → places.leaves ≡ places_behind g.kept g.count
    → places.nodes ≡ fresh_places g.fan g.before g.count places.leaves → length places.leaves + length places.nodes < 2 ^ 31
grown_small bsize f asked g places size r places_are nodes =
    let low = (block_bounds bsize size).0 in
    let wide : g.count * 512 ≤ g.count * bsize = mul-le-mul_left g.count low in
    let room = r.few in
    let fan = r.wide in
    let leaves : length places.leaves ≡ g.count - g.kept = ap (λ (l : List ℕ). length l) places_are ∙ length-range_with_len g.kept (g.count - g.kept) in
    let own : length places.nodes ≡ fresh_to g.fan g.before g.count places.leaves (levels g.fan g.count) =
    ap (λ (l : List ℕ). length l) nodes ∙ places_count g.fan g.before g.count places.leaves (levels g.fan g.count) in
    let few = path_takes_no_more g.fan g.before g.count places.leaves in
    let most = nodes_few g.fan g.count (omega arith) in
    omega arith

-- ---- what is planned

pub record GrownParts (v : HeldVolume) (name : Name) (place : ℕ) (asked : DraftShape) (stamp : Stamp) (f : HeldFile) (g : Growth) (places : TreePart) (x : Exchange) (a : Allotment) (tree : HeldTree)
    (e : Entry) (s : Systems) : Type 0 where
  pub kept : Keeps v
  pub stamped : is_stamp stamp ≡ true
  pub there : position (same_name name) (names_in v.files) ≡ Some place
  pub is : slice_get v.files place ≡ Some f
  pub grows : GrowsAs f asked
  pub fixed : HasFixed v.bits
  pub unlimited : limit_put (length v.files) asked.count asked.bytes ≡ None
  pub growth : IsGrowthOf v.disk.bsize f asked g
  pub places_are : places.leaves ≡ places_behind g.kept g.count
  pub nodes_are : places.nodes ≡ fresh_places g.fan g.before g.count places.leaves
  pub files : x.files ≡ length v.files
  pub made : numbers_made x ≡ made_at place
  pub own : x.file ≡ length places.leaves + length places.nodes
  pub given : (new : HeldTree) → length new.leaves ≡ g.count → length new.pointers ≡ pointer_count g.fan g.count → given_back x ≡ released_of g.fan places.leaves f.tree new
  pub allotted : IsAllottedFor v x a
  pub room : need_of v x ≤ length (free_blocks v.bits)
  pub keeps : KeepsTree g.fan places.leaves f.tree tree
  pub leaves : length tree.leaves ≡ g.count
  pub fresh : fresh_of g.fan places.leaves f.tree tree ≡ take (length places.leaves + length places.nodes) a.file.items
  pub entry : e ≡ entry_for v.disk.bsize name asked tree
  pub filled : IsFilled v (list_with (entries_held v.files) (Some place) e) a stamp s

-- its blocks are blocks of the volume: those that it keeps, and those that are taken
blocks_within : (v : HeldVolume) (place : ℕ) (f : HeldFile) (asked : DraftShape) (fan : ℕ) (written : List ℕ) (tree : HeldTree) → Keeps v → slice_get v.files place ≡ Some f → GrowsAs f asked
    → fan ≡ fan_of v.disk.bsize asked.format → MayBeWritten (length f.tree.leaves) (length tree.leaves) written → KeepsTree fan written f.tree tree
    → All (λ n. (6 ≤ n) × (n ≤ v.label.blocks)) (fresh_of fan written f.tree tree) → All (λ n. (6 ≤ n) × (n ≤ v.label.blocks)) (blocks_in tree)
blocks_within v place f asked fan written tree kept is grows fan_is may keeps taken =
    let P : ℕ → Type 0 = λ n. (6 ≤ n) × (n ≤ v.label.blocks) in
    let k = kept_at v place f kept is in
    let own = all_in P (fresh_of fan written f.tree tree) taken in
    let same : fan_of v.disk.bsize f.entry.format ≡ fan = ap (fan_of v.disk.bsize) (sym grows.format_is) ∙ sym fan_is in
    let wide = fan_wide v.disk.bsize asked.format kept.sized in
    let olds : length f.tree.pointers ≡ pointer_count fan (length f.tree.leaves) = k.shape.nodes ∙ ap (λ (n : ℕ). pointer_count n (length f.tree.leaves)) same in
    All-append P tree.leaves tree.pointers
    (kept_leaves P fan written f.tree tree may keeps k.within own)
    (kept_nodes P fan written f.tree tree (omega (arith, fan_is, wide)) olds keeps k.nodes_within own)

-- the same but what is allotted for it
pub record GrownRest (v : HeldVolume) (name : Name) (place : ℕ) (asked : DraftShape) (stamp : Stamp) (f : HeldFile) (g : Growth) (places : TreePart) (a : Allotment) (tree : HeldTree) (e : Entry)
    (s : Systems) : Type 0 where
  pub kept : Keeps v
  pub stamped : is_stamp stamp ≡ true
  pub there : position (same_name name) (names_in v.files) ≡ Some place
  pub is : slice_get v.files place ≡ Some f
  pub grows : GrowsAs f asked
  pub fixed : HasFixed v.bits
  pub unlimited : limit_put (length v.files) asked.count asked.bytes ≡ None
  pub growth : IsGrowthOf v.disk.bsize f asked g
  pub places_are : places.leaves ≡ places_behind g.kept g.count
  pub nodes_are : places.nodes ≡ fresh_places g.fan g.before g.count places.leaves
  pub keeps : KeepsTree g.fan places.leaves f.tree tree
  pub leaves : length tree.leaves ≡ g.count
  pub fresh : fresh_of g.fan places.leaves f.tree tree ≡ take (length places.leaves + length places.nodes) a.file.items
  pub entry : e ≡ entry_for v.disk.bsize name asked tree
  pub filled : IsFilled v (list_with (entries_held v.files) (Some place) e) a stamp s

-- the blocks that are needed
pub grown_count : (v : HeldVolume) (place : ℕ) (asked : DraftShape) (f : HeldFile) (g : Growth) (places : TreePart) (many : ℕ) (numbers : List ℕ) (taken : ℕ) → IsGrowthOf v.disk.bsize f asked g
    → places.leaves ≡ places_behind g.kept g.count → places.nodes ≡ fresh_places g.fan g.before g.count places.leaves → many ≡ length v.files → numbers ≡ made_at place
    → taken ≡ length places.leaves + length places.nodes → taken + needed v many numbers ≡ need_more v place f asked
unfolding fresh_count
grown_count v place asked f g places many numbers taken growth places_are nodes_are files made own =
    let bsize = v.disk.bsize in
    let written = places_behind (kept_in bsize f) (up asked.bytes bsize) in
    let same : places.leaves ≡ written = places_are ∙ (ap (λ (k : ℕ). places_behind k g.count) growth.kept_is ∙ ap (places_behind (kept_in bsize f)) growth.count_is) in
    let nodes : length places.nodes ≡ fresh_to g.fan g.before g.count places.leaves (levels g.fan g.count) =
    ap (λ (l : List ℕ). length l) nodes_are ∙ places_count g.fan g.before g.count places.leaves (levels g.fan g.count) in
    let fan = growth.fan_is in
    let before = growth.before_is in
    let count = growth.count_is in
    let fresh : fresh_to g.fan g.before g.count places.leaves (levels g.fan g.count)
    ≡ fresh_to (fan_of bsize asked.format) (length f.tree.leaves) (up asked.bytes bsize) written (levels (fan_of bsize asked.format) (up asked.bytes bsize)) =
    (λ i. fresh_to (fan i) (before i) (count i) (same i) (levels (fan i) (count i))) in
    let leaves : length places.leaves ≡ length written = ap (λ (l : List ℕ). length l) same in
    let systems : needed v many numbers ≡ needed v (length v.files) (made_at place) = (λ i. needed v (files i) (made i)) in
    omega arith

pub grown_need : (v : HeldVolume) (place : ℕ) (asked : DraftShape) (f : HeldFile) (g : Growth) (places : TreePart) (x : Exchange) → IsGrowthOf v.disk.bsize f asked g
    → places.leaves ≡ places_behind g.kept g.count → places.nodes ≡ fresh_places g.fan g.before g.count places.leaves → x.files ≡ length v.files → numbers_made x ≡ made_at place
    → x.file ≡ length places.leaves + length places.nodes → need_of v x ≡ need_more v place f asked
grown_need v place asked f g places x growth places_are nodes_are files made own = grown_count v place asked f g places x.files (numbers_made x) x.file growth places_are nodes_are files made own

pub grown_planned : (v : HeldVolume) (name : Name) (place : ℕ) (asked : DraftShape) (stamp : Stamp) (f : HeldFile) (g : Growth) (places : TreePart) (x : Exchange) (a : Allotment) (tree : HeldTree)
    (e : Entry) (s : Systems) → GrownParts v name place asked stamp f g places x a tree e s → (start : ℕ) → IsGrowthPlanned v name f asked stamp tree s start
grown_planned v name place asked stamp f g places x a tree e s p start =
    let bsize = v.disk.bsize in
    let fan = fan_of bsize asked.format in
    let kept = kept_in bsize f in
    let file = file_for bsize name asked tree start in
    let edit = growing bsize v.files place f file in
    let entries = list_with (entries_held v.files) (Some place) e in
    let l = limits (length v.files) asked.count asked.bytes p.unlimited in
    let r = p.growth in
    let written : places.leaves ≡ places_behind kept (length tree.leaves) =
    p.places_are ∙ (ap (λ (k : ℕ). places_behind k g.count) r.kept_is ∙ ap (places_behind kept) (sym p.leaves)) in
    let keeps : KeepsTree fan (places_behind kept (length tree.leaves)) f.tree tree =
    subst (λ (w : List ℕ). KeepsTree fan w f.tree tree) written (subst (λ (n : ℕ). KeepsTree n places.leaves f.tree tree) r.fan_is p.keeps) in
    let long = p.leaves in
    let old = r.old in let more = r.more in let less = r.less in let kept_is = r.kept_is in let before = r.before_is in
    let front : KeepsFront fan kept f.tree tree = front_kept fan kept f.tree tree (omega arith) (omega arith) (omega arith) keeps in
    let wide : 1 ≤ g.fan = let w = r.wide in omega arith in
    let pointers : length tree.pointers ≡ pointer_count g.fan (length tree.leaves) = nodes_are g.fan places.leaves f.tree tree wide p.keeps in
    let all : take (length places.leaves + length places.nodes) a.file.items ≡ a.file.items =
    take_all (length places.leaves + length places.nodes) a.file.items (let o = p.own in let n = p.allotted.file in omega arith) in
    let taken : fresh_of fan (places_behind kept (length tree.leaves)) f.tree tree ≡ a.file.items =
    sym (λ i. fresh_of (r.fan_is i) (written i) f.tree tree) ∙ (p.fresh ∙ all) in
    let given : given_back x ≡ released_of fan (places_behind kept (length tree.leaves)) f.tree tree =
    p.given tree p.leaves (pointers ∙ ap (pointer_count g.fan) p.leaves) ∙ (λ i. released_of (r.fan_is i) (written i) f.tree tree) in
    let wider : bsize / pointer_size asked.format ≡ fan = fan_is bsize asked.format in
    let asks : Asks v x a entries edit = record {
      entries_are = map-set (λ (h : HeldFile). h.entry) v.files place file ∙ ap (list_with (entries_held v.files) (Some place)) (sym p.entry);
      files = p.files ∙ sym (count_held v.files (Some place) e);
      made = sym p.made;
      given = ap (λ (n : ℕ). released_of n (places_behind kept (length tree.leaves)) f.tree tree) wider ∙ sym given;
      taken = ap (λ (n : ℕ). fresh_of n (places_behind kept (length tree.leaves)) f.tree tree) wider ∙ taken;
    } in
    let planned : IsPlanned v edit stamp s = planned_of v x a entries edit stamp s p.allotted p.filled asks (enough_with v (Some place) e x p.kept.sized p.made) p.room in
    let same = grown_need v place asked f g places x r p.places_are p.nodes_are p.files p.made p.own in
    let room = p.room in
    record {
      grows = p.grows;
      place = place;
      there = p.there;
      is = p.is;
      few = p.kept.few;
      keeps = front;
      ready = record { kept = p.kept; stamped = p.stamped; planned = planned; back = subst (All ReadsBack) (sym asks.entries_are) p.filled.systems.back };
      label_long = p.filled.systems.label_long;
      passes_all = entry_passes bsize name asked tree p.kept.sized p.grows.can l.1 l.2 (p.leaves ∙ r.count_is);
      leaves_are = p.leaves ∙ r.count_is;
      pointers_are = pointers ∙ ap (λ (n : ℕ). pointer_count n (length tree.leaves)) r.fan_is;
      free = subst (AreFree v) (sym taken) (taken_free v x a p.allotted);
      within = blocks_within v place f asked fan (places_behind kept (length tree.leaves)) tree p.kept p.is p.grows refl
          (behind_may kept (length f.tree.leaves) (length tree.leaves) (omega arith) (omega arith)) keeps
          (subst (All (λ n. (6 ≤ n) × (n ≤ v.label.blocks))) (sym taken) (taken_within v x a p.kept p.fixed p.allotted));
      unlimited = p.unlimited;
      room = omega arith;
    }

-- all of it that is planned, by what was allotted for it
pub grown_plan : (v : HeldVolume) (name : Name) (place : ℕ) (asked : DraftShape) (stamp : Stamp) (f : HeldFile) (g : Growth) (places : TreePart) (x : Exchange) (a : Allotment) (tree : HeldTree)
    (e : Entry) (s : Systems) → IsAllottedFor v x a → need_of v x ≤ length (free_blocks v.bits) → x.files ≡ length v.files → numbers_made x ≡ made_at place
    → x.file ≡ length places.leaves + length places.nodes → x.pointers.now ≡ [] → (left : List ℕ) → x.leaves.now ≡ left
    → (let old = f.tree in (new : HeldTree) → length new.leaves ≡ g.count → length new.pointers ≡ pointer_count g.fan g.count → left ≡ released_of g.fan places.leaves old new)
    → GrownRest v name place asked stamp f g places a tree e s → IsGrownPlan v name place asked stamp (record { growth = g; entry = e; tree = tree; systems = s })
grown_plan v name place asked stamp f g places x a tree e s allotted room files made own none left leaves given r =
    let p : GrownParts v name place asked stamp f g places x a tree e s = record {
      kept = r.kept;
      stamped = r.stamped;
      there = r.there;
      is = r.is;
      grows = r.grows;
      fixed = r.fixed;
      unlimited = r.unlimited;
      growth = r.growth;
      places_are = r.places_are;
      nodes_are = r.nodes_are;
      files = files;
      made = made;
      own = own;
      given = λ new long numbers. (λ i. leaves i ++ none i) ∙ (append-nil left ∙ given new long numbers);
      allotted = allotted;
      room = room;
      keeps = r.keeps;
      leaves = r.leaves;
      fresh = r.fresh;
      entry = r.entry;
      filled = r.filled;
    } in
    record {
      growth = λ h there. subst (λ (y : HeldFile). IsGrowthOf v.disk.bsize y asked g) (same_Some f h (sym r.is ∙ there)) r.growth;
      entry_is = r.entry;
      file = λ h there start. subst (λ (y : HeldFile). IsGrowthPlanned v name y asked stamp tree s start) (same_Some f h (sym r.is ∙ there))
          (grown_planned v name place asked stamp f g places x a tree e s p start);
    }

-- why it isn't planned
pub more_refused : (v : HeldVolume) (place : ℕ) (f : HeldFile) (asked : DraftShape) (need : ℕ) (why : PlanFault) → limit_put (length v.files) asked.count asked.bytes ≡ None
    → need ≡ need_more v place f asked → LacksRoom v need why → IsMoreRefused v place f asked (more_fault why)
more_refused v place f asked need (failed.Limit which) none same lacks = absurd lacks
more_refused v place f asked need (failed.Full n free) none same lacks = (none, lacks.0 ∙ same, lacks.1, lacks.2)
more_refused v place f asked need failed.Memory none same lacks = tt
