use Rattle.std.proofs.Common.{◌≡◌, ◌+◌, ℕ, [], ◌∷◌, Some, length, slice_get, take, refl, sym, ◌∙◌, ap, subst, arith, List, ◌<◌, ◌≤◌, ◌^◌, ◌*◌}
use Rattle.std.specs.List.Sorted.{IsStrictlyIncreasing}
use Rattle.std.proofs.lemmas.Option.{same_Some, slice_get_within}
use Rattle.std.proofs.lemmas.Result.{err_from_is_err_and}
use Rattle.cms_fields.specs.Entries.{fan_of}
use Rattle.cms_model.specs.SharedTrees.{MayBeWritten}
use Rattle.cms_model.specs.Sizes.{levels, pointer_count}
use Rattle.cms_held.specs.Allotments.{KeepsTree}
use Rattle.cms_held.specs.Growths.{places_behind}
use Rattle.cms_held.specs.HeldVolumes.{HeldFile, HeldTree, HeldVolume, Held}
use Rattle.cms_held.specs.SharedBlocks.{fresh_of, released_of}
use Rattle.cms_held.specs.Systems.{TreePart}
use Rattle.cms_held.specs.Written.{CanWrite}
use Rattle.cms_edf.specs.FileDrafts.{entry_for}
use Rattle.cms_edf.specs.Growths.{IsGrowthOf, IsMoreRefused, more_fault}
use Rattle.cms_edf.proofs.DraftPlanned.{places_with, limits}
use Rattle.cms_edf.proofs.Grown.{behind_ascends, behind_may, grown_count, grown_plan, grown_small, more_refused}
use Rattle.cms_held.proofs.AddCarried.{kept_at}
use Rattle.cms_edf.proofs.Exits.{ok_at_err, err_at_err}
use Rattle.std.proofs.Math.Nat.{mul-le-mul_left}
use Rattle.std.proofs.lemmas.Map.Entries.{length-values_of}
use Rattle.cms_journal.specs.Journal.{IsBlockSize}
use Rattle.cms_journal.proofs.Sizes.{block_bounds}
use Rattle.cms_fields.specs.Limits.{most_files}
use Rattle.cms_tree.specs.Paths.{fresh_places}
use Rattle.cms_held.specs.Kept.{IsKeptFile, Keeps}
use Rattle.cms_held.specs.declared.shape.DraftShape.{DraftShape}
use Rattle.cms_edf.specs.declared.allotment.PlanFault.{PlanFault}
use Rattle.cms_edf.specs.declared.allotment.PlanFault.TheVariants as failed
use Rattle.cms_edf.specs.declared.growth.Growth.{Growth}
use Rattle.cms_edf.proofs.Planned.{named_at}
use Rattle.cms_edf.proofs.growth.plan_growth.Goals as goal

fewer : (n : ℕ) → n < 2 ^ 31 → n < 2 ^ 32
fewer n few = omega arith

some_above : (a b : ℕ) → a < b → 1 ≤ b
some_above a b less = omega arith

all_of_same : (sum own given : ℕ) → given ≡ own → own ≡ sum → sum ≤ given
all_of_same sum own given one two = omega arith

-- the numbers of a growth fit
count_few : (bsize : ℕ) (f : HeldFile) (asked : DraftShape) (g : Growth) → IsBlockSize bsize → IsGrowthOf bsize f asked g → g.count < 2 ^ 32
count_few bsize f asked g size r =
    let low = (block_bounds bsize size).0 in
    let wide : g.count * 512 ≤ g.count * bsize = mul-le-mul_left g.count low in
    let room = r.few in
    omega (arith, wide, room)

before_few : (a b : ℕ) → a ≤ b → b < 2 ^ 32 → a < 2 ^ 32
before_few a b less few = omega arith

-- of what has no memory nothing is said
no_memory : (v : HeldVolume) (place : ℕ) (asked : DraftShape) (e : PlanFault) → e ≡ failed.Memory → (f : HeldFile) → slice_get v.files place ≡ Some f
    → IsMoreRefused v place f asked (more_fault e)
no_memory v place asked e is f at = subst (λ (x : PlanFault). IsMoreRefused v place f asked (more_fault x)) (sym is) tt

pub left_blocks-requires-clause-ascends : goal.left_blocks-requires-clause-ascends
left_blocks-requires-clause-ascends c =
    let g = c.growth_of-growth.result in
    let is : c.deref.result.now ≡ places_behind g.kept g.count = c.deref.ensures.value ∙ (ap (λ (p : TreePart). p.leaves) c.places-2.view_is ∙ c.in_ok-places.ensures.leaves) in
    subst IsStrictlyIncreasing (sym is) (behind_ascends g.kept g.count)

pub written_count-requires : goal.written_count-requires
written_count-requires c =
    let small = grown_small c.held.inside.bsize c.index-file.result.now c.args.asked.now c.growth_of-growth.result c.in_ok-places.places c.held.invariant.kept.sized c.growth_of-growth.ensures
    c.in_ok-places.ensures.leaves c.in_ok-places.ensures.nodes in
    fewer _ small

pub allot-requires-clause-small : goal.allot-requires-clause-small
allot-requires-clause-small c =
    let small = grown_small c.held.inside.bsize c.index-file.result.now c.args.asked.now c.growth_of-growth.result c.in_ok-places.places c.held.invariant.kept.sized c.growth_of-growth.ensures
    c.in_ok-places.ensures.leaves c.in_ok-places.ensures.nodes in
    subst (λ (n : ℕ). n < 2 ^ 31) (sym c.written_count.ensures) small

pub allot-requires-clause-first : goal.allot-requires-clause-first
allot-requires-clause-first c =
    let v = c.args.held.now.volume in
    (places_with v (Some c.args.place) c.count.result (0 ∷ (c.args.place + 2) ∷ []) (entry_for v.disk.bsize c.args.name.now c.args.asked.now (record { leaves = []; pointers = [] })) c.count.ensures.kept.sized
    c.count.ensures.count refl).0

pub allot-requires-clause-may : goal.allot-requires-clause-may
allot-requires-clause-may c =
    let v = c.args.held.now.volume in
    (places_with v (Some c.args.place) c.count.result (0 ∷ (c.args.place + 2) ∷ []) (entry_for v.disk.bsize c.args.name.now c.args.asked.now (record { leaves = []; pointers = [] })) c.count.ensures.kept.sized
    c.count.ensures.count refl).1

pub returns-in_err-allotment-clause-full : goal.returns-in_err-allotment-clause-full
returns-in_err-allotment-clause-full c =
    let v = c.args.held.now.volume in
    let file = c.index-file.result.now in
    let g = c.growth_of-growth.result in
    let at : slice_get v.files c.args.place ≡ Some file = subst (λ (h : Held). slice_get h.volume.files c.args.place ≡ Some file) c.held.view_is c.index-file.ensures in
    let size : c.held.inside.bsize ≡ v.disk.bsize = ap (λ (h : Held). h.volume.disk.bsize) c.held.view_is in
    let growth : IsGrowthOf v.disk.bsize file c.args.asked.now g = subst (λ (n : ℕ). IsGrowthOf n file c.args.asked.now g) size c.growth_of-growth.ensures in
    let need = grown_count v c.args.place c.args.asked.now file g c.in_ok-places.places c.count.result (0 ∷ (c.args.place + 2) ∷ []) c.written_count.result growth c.in_ok-places.ensures.leaves
    c.in_ok-places.ensures.nodes c.count.ensures.count refl c.written_count.ensures in
    let p = err_from_is_err_and c.from_residual-in_err-allotment.result c.from_residual-in_err-allotment.ensures.1 in
    rw (p.1, p.2) (λ f there. subst (λ (x : HeldFile). IsMoreRefused v c.args.place x c.args.asked.now (more_fault c.in_err-allotment.field-0.0)) (same_Some file f (sym at ∙ there))
    (more_refused v c.args.place file c.args.asked.now _ c.in_err-allotment.field-0.0 c.requires.unlimited need c.in_err-allotment.ensures.full))

pub shared_tree-requires-clause-may : goal.shared_tree-requires-clause-may
shared_tree-requires-clause-may c =
    let g = c.growth_of-growth.result in
    let r = c.growth_of-growth.ensures in
    let tree : c.tree-old.result.now ≡ c.index-file.result.now.tree = c.tree-old.ensures in
    let before : length c.tree-old.result.now.leaves ≡ g.before = ap (λ t. length t.leaves) tree ∙ sym r.before_is in
    subst (MayBeWritten (length c.tree-old.result.now.leaves) g.count) (sym c.in_ok-places.ensures.leaves)
    (subst (λ (n : ℕ). MayBeWritten n g.count (places_behind g.kept g.count)) (sym before) (behind_may g.kept g.before g.count r.old r.less))

pub plan_entry-requires-clause-place : goal.plan_entry-requires-clause-place
plan_entry-requires-clause-place c =
    let v = c.args.held.now.volume in
    slice_get_within v.files c.args.place c.index-file.result.now
    (subst (λ (h : Held). slice_get h.volume.files c.args.place ≡ Some c.index-file.result.now) c.held.view_is c.index-file.ensures)

pub shared_tree-requires-clause-olds : goal.shared_tree-requires-clause-olds
shared_tree-requires-clause-olds c =
    let v = c.args.held.now.volume in
    let file = c.index-file.result.now in
    let g = c.growth_of-growth.result in
    let at : slice_get v.files c.args.place ≡ Some file = subst (λ (h : Held). slice_get h.volume.files c.args.place ≡ Some file) c.held.view_is c.index-file.ensures in
    let size : c.held.inside.bsize ≡ v.disk.bsize = ap (λ (h : Held). h.volume.disk.bsize) c.held.view_is in
    let growth : IsGrowthOf v.disk.bsize file c.args.asked.now g = subst (λ (n : ℕ). IsGrowthOf n file c.args.asked.now g) size c.growth_of-growth.ensures in
    let k = kept_at v c.args.place file c.count.ensures.kept at in
    let fan : fan_of v.disk.bsize file.entry.format ≡ g.fan = sym (growth.fan_is ∙ ap (fan_of v.disk.bsize) (c.requires.grows.grows file at).format_is) in
    let tree : c.tree-old.result.now ≡ file.tree = c.tree-old.ensures in
    ap (λ (t : HeldTree). length t.pointers) tree ∙ (k.shape.nodes ∙ (λ i. pointer_count (fan i) (length (sym tree i).leaves)))

pub plan_entry-requires-clause-entry : goal.plan_entry-requires-clause-entry
plan_entry-requires-clause-entry c =
    let v = c.args.held.now.volume in
    let file = c.index-file.result.now in
    let g = c.growth_of-growth.result in
    let at : slice_get v.files c.args.place ≡ Some file = subst (λ (h : Held). slice_get h.volume.files c.args.place ≡ Some file) c.held.view_is c.index-file.ensures in
    let size : c.held.inside.bsize ≡ v.disk.bsize = ap (λ (h : Held). h.volume.disk.bsize) c.held.view_is in
    let growth : IsGrowthOf v.disk.bsize file c.args.asked.now g = subst (λ (n : ℕ). IsGrowthOf n file c.args.asked.now g) size c.growth_of-growth.ensures in
    let count = c.in-Ok.ensures.count in
    let is = c.entry_for-entry.ensures v.disk.bsize (growth.levels_are ∙ (λ i. levels (growth.fan_is i) (sym count i))) in
    let can = (c.requires.grows.grows file at).can in
    subst CanWrite (sym is) (can.number, can.stamp)

pub returns-clause-planned : goal.returns-clause-planned
returns-clause-planned c =
    let v = c.args.held.now.volume in
    let file = c.index-file.result.now in
    let g = c.growth_of-growth.result in
    let places = c.in_ok-places.places in
    let a = c.in_ok-allotment in
    let tree = c.in-Ok.tree in
    let at : slice_get v.files c.args.place ≡ Some file = subst (λ (h : Held). slice_get h.volume.files c.args.place ≡ Some file) c.held.view_is c.index-file.ensures in
    let size : c.held.inside.bsize ≡ v.disk.bsize = ap (λ (h : Held). h.volume.disk.bsize) c.held.view_is in
    let growth : IsGrowthOf v.disk.bsize file c.args.asked.now g = subst (λ (n : ℕ). IsGrowthOf n file c.args.asked.now g) size c.growth_of-growth.ensures in
    let count = c.in-Ok.ensures.count in
    let old : c.tree-old.result.now ≡ file.tree = c.tree-old.ensures in
    let written : c.deref.result.now ≡ places.leaves = c.deref.ensures.value ∙ ap (λ (p : TreePart). p.leaves) c.places-2.view_is in
    let numbers : c.deref-3.result.now ≡ a.allotment.file.items = c.deref-3.ensures.value in
    let left : c.deref-2.result.now ≡ c.in_ok-left.left.items = c.deref-2.ensures.value in
    grown_plan v c.args.name.now c.args.place c.args.asked.now c.args.stamp.now file g places _ a.allotment tree c.entry_for-entry.result c.in_ok-systems.systems a.ensures.allotted a.ensures.room
    c.count.ensures.count refl c.written_count.ensures refl c.in_ok-left.left.items left
    (λ new long nodes. c.in_ok-left.ensures new long nodes ∙ (λ i. released_of g.fan (written i) (old i) new))
    (record {
      kept = c.count.ensures.kept;
      stamped = c.requires.stamp;
      there = c.requires.grows.there;
      is = at;
      grows = c.requires.grows.grows file at;
      fixed = a.ensures.fixed;
      unlimited = c.requires.unlimited;
      growth = growth;
      places_are = c.in_ok-places.ensures.leaves;
      nodes_are = c.in_ok-places.ensures.nodes;
      keeps = subst (λ (t : HeldTree). KeepsTree g.fan places.leaves t tree) old c.in-Ok.ensures.keeps;
      leaves = count;
      fresh = (λ i. fresh_of g.fan places.leaves (sym old i) tree) ∙ (c.in-Ok.ensures.fresh ∙ ap (take (length places.leaves + length places.nodes)) numbers);
      entry = c.entry_for-entry.ensures v.disk.bsize (growth.levels_are ∙ (λ i. levels (growth.fan_is i) (sym count i)));
      filled = c.in_ok-systems.ensures;
    })

pub returns-in_err-places-clause-planned : goal.returns-in_err-places-clause-planned
returns-in_err-places-clause-planned c = ok_at_err _ c.from_residual.result _ c.from_residual.ensures.1

pub returns-in_err-left-clause-planned : goal.returns-in_err-left-clause-planned
returns-in_err-left-clause-planned c = ok_at_err _ c.from_residual-in_err-left.result _ c.from_residual-in_err-left.ensures.1

pub returns-in_err-allotment-clause-planned : goal.returns-in_err-allotment-clause-planned
returns-in_err-allotment-clause-planned c = ok_at_err _ c.from_residual-in_err-allotment.result _ c.from_residual-in_err-allotment.ensures.1

pub returns-in_err-systems-clause-planned : goal.returns-in_err-systems-clause-planned
returns-in_err-systems-clause-planned c = ok_at_err _ c.from_residual-in_err-systems.result _ c.from_residual-in_err-systems.ensures.1

pub index-file-requires : goal.index-file-requires
index-file-requires c =
    subst (λ (n : ℕ). c.args.place < n) (length-values_of c.held.inside.files.entries)
    (subst (λ (h : Held). c.args.place < length h.volume.files) (sym c.held.view_is)
    (named_at c.args.held.now.volume.files c.args.name.now c.args.place c.requires.grows.there).within)

pub growth_of-growth-requires-clause-grows : goal.growth_of-growth-requires-clause-grows
growth_of-growth-requires-clause-grows c =
    let file = c.index-file.result.now in
    c.requires.grows.grows file (subst (λ (h : Held). slice_get h.volume.files c.args.place ≡ Some file) c.held.view_is c.index-file.ensures)

pub growth_of-growth-requires-clause-kept : goal.growth_of-growth-requires-clause-kept
growth_of-growth-requires-clause-kept c =
    let v = c.args.held.now.volume in
    let file = c.index-file.result.now in
    let at : slice_get v.files c.args.place ≡ Some file = subst (λ (h : Held). slice_get h.volume.files c.args.place ≡ Some file) c.held.view_is c.index-file.ensures in
    let kept : Keeps v = subst (λ (h : Held). Keeps h.volume) c.held.view_is c.held.invariant.kept in
    let size : c.held.inside.bsize ≡ v.disk.bsize = ap (λ (h : Held). h.volume.disk.bsize) c.held.view_is in
    (v.label.blocks, subst (λ (n : ℕ). IsKeptFile n v.label.blocks file) (sym size) (kept_at v c.args.place file kept at))

pub growth_of-growth-requires-clause-few : goal.growth_of-growth-requires-clause-few
growth_of-growth-requires-clause-few c = (limits (length c.args.held.now.volume.files) c.args.asked.now.count c.args.asked.now.bytes c.requires.unlimited).2

pub places-requires-clause-some : goal.places-requires-clause-some
places-requires-clause-some c = c.growth_of-growth.ensures.some

pub places-requires-clause-wide : goal.places-requires-clause-wide
places-requires-clause-wide c = c.growth_of-growth.ensures.wide

pub places-requires-clause-less : goal.places-requires-clause-less
places-requires-clause-less c = c.growth_of-growth.ensures.less

pub returns-in_err-places-clause-full : goal.returns-in_err-places-clause-full
returns-in_err-places-clause-full c =
    err_at_err _ c.from_residual.result _ c.from_residual.ensures.1 (λ e is f at. no_memory c.args.held.now.volume c.args.place c.args.asked.now e is f at)

-- as many data blocks as there were
before_is : (old : HeldTree) (file : HeldFile) (before : ℕ) → old ≡ file.tree → before ≡ length file.tree.leaves → length old.leaves ≡ before
before_is old file before same is = ap (λ (t : HeldTree). length t.leaves) same ∙ sym is

pub left_blocks-requires-clause-some_before : goal.left_blocks-requires-clause-some_before
left_blocks-requires-clause-some_before c =
    let r = c.growth_of-growth.ensures in
    subst (λ (n : ℕ). 1 ≤ n) (sym (before_is c.tree-old.result.now c.index-file.result.now c.growth_of-growth.result.before c.tree-old.ensures r.before_is)) r.some

pub left_blocks-requires-clause-few : goal.left_blocks-requires-clause-few
left_blocks-requires-clause-few c =
    let g = c.growth_of-growth.result in
    let r = c.growth_of-growth.ensures in
    let file = c.index-file.result.now in
    subst (λ (n : ℕ). n < 2 ^ 32) (sym (before_is c.tree-old.result.now file g.before c.tree-old.ensures r.before_is))
    (before_few g.before g.count r.more (count_few c.held.inside.bsize file c.args.asked.now g c.held.invariant.kept.sized r))

pub left_blocks-requires-clause-some : goal.left_blocks-requires-clause-some
left_blocks-requires-clause-some c = let g = c.growth_of-growth.result in some_above g.kept g.count c.growth_of-growth.ensures.less

pub left_blocks-requires-clause-wide : goal.left_blocks-requires-clause-wide
left_blocks-requires-clause-wide c = c.growth_of-growth.ensures.wide

pub left_blocks-requires-clause-olds : goal.left_blocks-requires-clause-olds
left_blocks-requires-clause-olds c =
    let v = c.args.held.now.volume in
    let file = c.index-file.result.now in
    let g = c.growth_of-growth.result in
    let at : slice_get v.files c.args.place ≡ Some file = subst (λ (h : Held). slice_get h.volume.files c.args.place ≡ Some file) c.held.view_is c.index-file.ensures in
    let kept : Keeps v = subst (λ (h : Held). Keeps h.volume) c.held.view_is c.held.invariant.kept in
    let size : c.held.inside.bsize ≡ v.disk.bsize = ap (λ (h : Held). h.volume.disk.bsize) c.held.view_is in
    let growth : IsGrowthOf v.disk.bsize file c.args.asked.now g = subst (λ (n : ℕ). IsGrowthOf n file c.args.asked.now g) size c.growth_of-growth.ensures in
    let k = kept_at v c.args.place file kept at in
    let fan : fan_of v.disk.bsize file.entry.format ≡ g.fan = sym (growth.fan_is ∙ ap (fan_of v.disk.bsize) (c.requires.grows.grows file at).format_is) in
    let tree : c.tree-old.result.now ≡ file.tree = c.tree-old.ensures in
    ap (λ (t : HeldTree). length t.pointers) tree ∙ (k.shape.nodes ∙ (λ i. pointer_count (fan i) (length (sym tree i).leaves)))

pub returns-in_err-left-clause-full : goal.returns-in_err-left-clause-full
returns-in_err-left-clause-full c =
    err_at_err _ c.from_residual-in_err-left.result _ c.from_residual-in_err-left.ensures.1 (λ e is f at. no_memory c.args.held.now.volume c.args.place c.args.asked.now e is f at)

pub allot-requires-clause-few : goal.allot-requires-clause-few
allot-requires-clause-few c =
    let v = c.args.held.now.volume in
    subst (λ (n : ℕ). n ≤ most_files) (sym c.count.ensures.count) (limits (length v.files) c.args.asked.now.count c.args.asked.now.bytes c.requires.unlimited).0

pub shared_tree-requires-clause-some_before : goal.shared_tree-requires-clause-some_before
shared_tree-requires-clause-some_before c =
    let r = c.growth_of-growth.ensures in
    subst (λ (n : ℕ). 1 ≤ n) (sym (before_is c.tree-old.result.now c.index-file.result.now c.growth_of-growth.result.before c.tree-old.ensures r.before_is)) r.some

pub shared_tree-requires-clause-few : goal.shared_tree-requires-clause-few
shared_tree-requires-clause-few c =
    let g = c.growth_of-growth.result in
    let r = c.growth_of-growth.ensures in
    let file = c.index-file.result.now in
    subst (λ (n : ℕ). n < 2 ^ 32) (sym (before_is c.tree-old.result.now file g.before c.tree-old.ensures r.before_is))
    (before_few g.before g.count r.more (count_few c.held.inside.bsize file c.args.asked.now g c.held.invariant.kept.sized r))

pub shared_tree-requires-clause-some : goal.shared_tree-requires-clause-some
shared_tree-requires-clause-some c = let g = c.growth_of-growth.result in some_above g.kept g.count c.growth_of-growth.ensures.less

pub shared_tree-requires-clause-wide : goal.shared_tree-requires-clause-wide
shared_tree-requires-clause-wide c = c.growth_of-growth.ensures.wide

pub shared_tree-requires-clause-nodes : goal.shared_tree-requires-clause-nodes
shared_tree-requires-clause-nodes c =
    let g = c.growth_of-growth.result in
    let places = c.in_ok-places.places in
    let before = before_is c.tree-old.result.now c.index-file.result.now g.before c.tree-old.ensures c.growth_of-growth.ensures.before_is in
    c.in_ok-places.ensures.nodes ∙ (λ i. fresh_places g.fan (sym before i) g.count places.leaves)

pub shared_tree-requires-clause-enough : goal.shared_tree-requires-clause-enough
shared_tree-requires-clause-enough c =
    let places = c.in_ok-places.places in
    all_of_same (length places.leaves + length places.nodes) c.written_count.result (length c.deref-3.result.now)
    (ap (λ (l : List ℕ). length l) c.deref-3.ensures.value ∙ c.in_ok-allotment.ensures.allotted.file) c.written_count.ensures

pub returns-in_default-clause-full : goal.returns-in_default-clause-full
returns-in_default-clause-full c =
    λ f at. no_memory c.args.held.now.volume c.args.place c.args.asked.now _ refl f at

pub entry_for-entry-requires-clause-some : goal.entry_for-entry-requires-clause-some
entry_for-entry-requires-clause-some c =
    let g = c.growth_of-growth.result in
    subst (λ (n : ℕ). 1 ≤ n) (sym c.in-Ok.ensures.count) (some_above g.kept g.count c.growth_of-growth.ensures.less)

pub entry_for-entry-requires-clause-few : goal.entry_for-entry-requires-clause-few
entry_for-entry-requires-clause-few c =
    subst (λ (n : ℕ). n < 2 ^ 32) (sym c.in-Ok.ensures.count)
    (count_few c.held.inside.bsize c.index-file.result.now c.args.asked.now c.growth_of-growth.result c.held.invariant.kept.sized c.growth_of-growth.ensures)

pub plan_entry-requires-clause-stamp : goal.plan_entry-requires-clause-stamp
plan_entry-requires-clause-stamp c = c.requires.stamp

pub plan_entry-requires-clause-few : goal.plan_entry-requires-clause-few
plan_entry-requires-clause-few c = (limits (length c.args.held.now.volume.files) c.args.asked.now.count c.args.asked.now.bytes c.requires.unlimited).0

pub plan_entry-requires-clause-files : goal.plan_entry-requires-clause-files
plan_entry-requires-clause-files c = c.count.ensures.count

pub plan_entry-requires-clause-made : goal.plan_entry-requires-clause-made
plan_entry-requires-clause-made c = refl

pub plan_entry-requires-clause-allotted : goal.plan_entry-requires-clause-allotted
plan_entry-requires-clause-allotted c = c.in_ok-allotment.ensures.allotted

pub plan_entry-requires-clause-map_few : goal.plan_entry-requires-clause-map_few
plan_entry-requires-clause-map_few c = c.in_ok-allotment.ensures.map_few

pub returns-in_err-systems-clause-full : goal.returns-in_err-systems-clause-full
returns-in_err-systems-clause-full c =
    err_at_err _ c.from_residual-in_err-systems.result _ c.from_residual-in_err-systems.ensures.1 (λ e is f at. no_memory c.args.held.now.volume c.args.place c.args.asked.now e is f at)

pub returns-clause-full : goal.returns-clause-full
returns-clause-full c = tt

pub returns-in_default-clause-planned : goal.returns-in_default-clause-planned
returns-in_default-clause-planned c = tt
