-- What stands of a file that grows, as it was read, comes in front of its new records.
use Rattle.std.proofs.Common.{◌≡◌, ◌⊎◌, inl, inr, ⊎_elim, ℕ, zero, suc, ◌+◌, ◌*◌, ◌/◌, ◌%◌, ◌^◌, ◌<◌, ◌≤◌, List, [], ◌∷◌, length, take, drop, replicate, get_or, Some, refl, sym, ◌∙◌, ap, subst, arith, div-add-mod', mod-lt, length-take-le}
use Rattle.std.proofs.Math.Nat.{mul-le-mul_left}
use Rattle.std.specs.Prelude.{slice_get, slice_index}
use Rattle.std.specs.Option.{ForSome}
use Rattle.std.proofs.lemmas.Bool.{cases_lt}
use Rattle.std.proofs.lemmas.List.{drop-take, length-replicate}
use Rattle.cms_journal.specs.Journal.{HasBlock, HasBlocks, IsBlockSize, contents_of}
use Rattle.cms_journal.specs.Told.{Told}
use Rattle.cms_journal.specs.declared.event.Attached.{Attached}
use Rattle.cms_journal.proofs.Sizes.{block_bounds}
use Rattle.cms_fields.specs.Entries.{fan_of, pointer_size}
use Rattle.cms_model.specs.Lists.{In}
use Rattle.cms_model.specs.Sizes.{levels, pointer_count}
use Rattle.cms_model.specs.Trees.{Image, bytes_at, image_of}
use Rattle.cms_tree.specs.declared.types.Mark.{Mark}
use Rattle.cms_tree.specs.Builds.{IsBuildable}
use Rattle.cms_tree.specs.Climbs.{Climb, ClimbsOn, HoldsLittle}
use Rattle.cms_tree.specs.Kept.{Kept}
use Rattle.cms_tree.specs.Resumes.{IsResumed, kept_of}
use Rattle.cms_tree.specs.Tiers.{AllKeep, lowest}
use Rattle.cms_tree.proofs.Behind.{stand_keeps}
use Rattle.cms_held.specs.Drafts.{Front, filled}
use Rattle.cms_held.specs.Growths.{last_leaf}
use Rattle.cms_held.specs.HeldVolumes.{HeldFile, HeldTree, HeldVolume}
use Rattle.cms_held.specs.Kept.{Keeps}
use Rattle.cms_held.specs.Marks.{nowhere}
use Rattle.cms_held.specs.SharedBlocks.{AreLong}
use Rattle.cms_held.proofs.BlockBytes.{all_long, piece_by_place}
use Rattle.cms_held.proofs.Drafted.{fan_is}
use Rattle.cms_held.specs.BegunFiles.{IsInFront}
use Rattle.cms_held.specs.declared.begun.Begun.{Begun}
use Rattle.cms_held.specs.declared.shape.DraftShape.{DraftShape}
use Rattle.cms_held.proofs.FilePuts.{both_sizes as pointer_fits}
use Rattle.cms_held.proofs.AddCarried.{kept_at}
use Rattle.cms_edf.specs.Growths.{GrowsAs, IsBegunOf, IsFront, IsGrowthOf}
use Rattle.cms_edf.specs.declared.growth.Growth.{Growth}
use Rattle.cms_edf.proofs.GrownNumbers.{rest_within}
use Rattle.cms_edf.proofs.Listings.{on_unit}

-- what was read of it, in an image
pub record ReadsBegun (bsize : ℕ) (image : Image) (f : HeldFile) (g : Growth) (b : Begun) (es : List Kept) : Type 0 where
  pub kept : b.kept ≡ g.kept
  pub filled_is : b.filled ≡ f.size % bsize
  pub mark : b.mark ≡ record { last = f.entry.count; place = f.start }
  pub bytes : 1 ≤ f.size % bsize → b.block.items ≡ filled bsize (take (f.size % bsize) (image (slice_index f.tree.leaves g.kept)))
  pub zeros : f.size % bsize ≡ 0 → b.block.items ≡ filled bsize []
  pub bsize_is : b.climb.bsize ≡ bsize
  pub psize_is : b.climb.psize ≡ pointer_size f.entry.format
  pub count_is : b.climb.count ≡ g.count
  pub added_is : b.climb.added ≡ g.kept
  pub held : HoldsLittle b.climb
  pub nodes : es ≡ kept_of (bsize / pointer_size f.entry.format) (pointer_size f.entry.format) image (length f.tree.leaves) f.tree.pointers (last_leaf f.tree)
      (record { last = f.entry.count; place = f.start }) g.kept g.count
  pub climbs : (blocks : List ℕ) (marks : List Mark) (fresh : List ℕ) → IsBuildable bsize (pointer_size f.entry.format) blocks marks fresh → length blocks ≡ g.count
      → ClimbsOn b.climb g.kept es blocks marks fresh

-- the bytes of the data block that isn't full
rest_bytes : (bsize size kept : ℕ) (image : Image) (leaves : List ℕ) → 1 ≤ bsize → kept ≡ size / bsize → AreLong bsize image leaves → size ≤ length leaves * bsize
    → (size % bsize ≡ 0 → drop (kept * bsize) (take size (bytes_at image leaves)) ≡ [])
    × (1 ≤ size % bsize → drop (kept * bsize) (take size (bytes_at image leaves)) ≡ take (size % bsize) (image (slice_index leaves kept)))
rest_bytes bsize size kept image leaves some is long high =
    let r = size % bsize in
    let whole : size / bsize * bsize + r ≡ size = div-add-mod' size bsize in
    let parts : kept * bsize + r ≡ size = ap (λ (k : ℕ). k * bsize + r) is ∙ whole in
    let low : r < bsize = mod-lt size some in
    let cut : drop (kept * bsize) (take size (bytes_at image leaves)) ≡ take r (drop (kept * bsize) (bytes_at image leaves)) =
    ap (λ (n : ℕ). drop (kept * bsize) (take n (bytes_at image leaves))) (sym parts) ∙ drop-take (kept * bsize) r (bytes_at image leaves) in (
      λ none. cut ∙ ap (λ (n : ℕ). take n (drop (kept * bsize) (bytes_at image leaves))) none,
      λ more.
          let within : kept < length leaves = rest_within bsize size kept (length leaves) some is high more in
          let none : kept * bsize + 0 ≡ kept * bsize = omega arith in
          cut ∙ (ap (λ (n : ℕ). take r (drop n (bytes_at image leaves))) (sym none) ∙ piece_by_place bsize image leaves kept 0 r long within (omega arith)),
    )

-- what is kept of the pointer blocks has their lengths
front_keeps : (bsize : ℕ) (image : Image) (f : HeldFile) (g : Growth) (b : Begun) (es : List Kept) (tree : HeldTree) → IsBlockSize bsize → ReadsBegun bsize image f g b es → 1 ≤ length tree.leaves
    → length tree.leaves < 2 ^ 32 → length tree.leaves ≡ g.count → g.kept < g.count → length tree.pointers ≡ pointer_count (bsize / pointer_size f.entry.format) (length tree.leaves)
    → AllKeep (pointer_size f.entry.format) (bsize / pointer_size f.entry.format) tree.pointers (lowest g.kept tree.leaves) es (levels (bsize / pointer_size f.entry.format) (length tree.leaves))
front_keeps bsize image f g b es tree size r some few count less pointers =
    let psize = pointer_size f.entry.format in
    let marks : List Mark = replicate (length tree.leaves) (record { last = 0; place = 0 }) in
    let plan : IsBuildable bsize psize tree.leaves marks tree.pointers =
    record { size = size; pointer = pointer_fits f.entry.format; some = some; few = few; each = λ is. length-replicate (length tree.leaves) (record { last = 0; place = 0 }); numbers = pointers } in
    let on = r.climbs tree.leaves marks tree.pointers plan count in
    let added = r.added_is in
    let counted = r.count_is in
    let keeps = stand_keeps b.climb.bsize b.climb.psize marks (length tree.leaves) tree.pointers (lowest g.kept tree.leaves) es b.climb.added b.climb.levels (on.stand (omega arith)) in
    let high : length b.climb.levels ≡ levels (b.climb.bsize / b.climb.psize) (length tree.leaves) = r.held.levels ∙ ap (levels (b.climb.bsize / b.climb.psize)) (counted ∙ sym count) in
    let all : AllKeep b.climb.psize (b.climb.bsize / b.climb.psize) tree.pointers (lowest g.kept tree.leaves) es (levels (b.climb.bsize / b.climb.psize) (length tree.leaves)) =
    subst (λ (n : ℕ). AllKeep b.climb.psize (b.climb.bsize / b.climb.psize) tree.pointers (lowest g.kept tree.leaves) es n) high keeps in
    subst (λ (p : ℕ). AllKeep p (bsize / p) tree.pointers (lowest g.kept tree.leaves) es (levels (bsize / p) (length tree.leaves))) r.psize_is
    (subst (λ (s : ℕ). AllKeep b.climb.psize (s / b.climb.psize) tree.pointers (lowest g.kept tree.leaves) es (levels (s / b.climb.psize) (length tree.leaves))) r.bsize_is all)

pub in_front : (bsize : ℕ) (image : Image) (f : HeldFile) (g : Growth) (b : Begun) (es : List Kept) (shape asked : DraftShape) (tree : HeldTree) (front : Front) → IsBlockSize bsize
    → IsGrowthOf bsize f shape g → shape.format ≡ f.entry.format → f.size ≤ length f.tree.leaves * bsize → ReadsBegun bsize image f g b es → asked.format ≡ f.entry.format
    → length tree.leaves ≡ g.count → length tree.pointers ≡ pointer_count g.fan g.count → IsFront image bsize f (length tree.leaves) front → IsInFront bsize asked tree b front
in_front bsize image f g b es shape asked tree front size growth same high r format count pointers fr =
    let psize = pointer_size f.entry.format in
    let some : 1 ≤ bsize = let bound = (block_bounds bsize size).0 in omega arith in
    let fan : g.fan ≡ bsize / psize = growth.fan_is ∙ (ap (fan_of bsize) same ∙ sym (fan_is bsize f.entry.format)) in
    let before = growth.before_is in
    let less = growth.less in
    let few = growth.few in
    let least = (block_bounds bsize size).0 in
    let wide : g.count * 1 ≤ g.count * bsize = mul-le-mul_left g.count some in
    let own : length tree.pointers ≡ pointer_count (bsize / psize) (length tree.leaves) = pointers ∙ (λ i. pointer_count (fan i) (sym count i)) in
    let whole : f.size / bsize * bsize + f.size % bsize ≡ f.size = div-add-mod' f.size bsize in
    let all : length (bytes_at image f.tree.leaves) ≡ length f.tree.leaves * bsize = all_long bsize image f.tree.leaves fr.long in
    let long : length front.bytes ≡ f.size = ap (λ (l : List ℕ). length l) fr.bytes_are ∙ length-take-le f.size (bytes_at image f.tree.leaves) (omega arith) in
    let kept : b.kept ≡ f.size / bsize = r.kept ∙ growth.kept_is in
    let filled_is = r.filled_is in
    let parts : b.kept * bsize ≡ f.size / bsize * bsize = ap (λ (k : ℕ). k * bsize) kept in
    let rest = rest_bytes bsize f.size b.kept image f.tree.leaves some kept fr.long high in
    let behind : drop (b.kept * bsize) front.bytes ≡ drop (b.kept * bsize) (take f.size (bytes_at image f.tree.leaves)) = ap (λ (l : List ℕ). drop (b.kept * bsize) l) fr.bytes_are in
    let nodes : front.nodes ≡ es =
    fr.nodes_are ∙ ((λ i. kept_of (bsize / psize) psize image (length f.tree.leaves) f.tree.pointers (last_leaf f.tree) (record { last = f.entry.count; place = f.start }) (sym growth.kept_is i) (count i)) ∙ sym r.nodes) in
    let keeps = front_keeps bsize image f g b es tree size r (omega arith) (omega arith) count less own in
    let same_size : pointer_size asked.format ≡ psize = ap pointer_size format in
    record {
      size = omega arith;
      block = ⊎_elim
          (λ (none : f.size % bsize < 1). let zero' : f.size % bsize ≡ 0 = omega arith in r.zeros zero' ∙ ap (filled bsize) (sym (behind ∙ rest.0 zero')))
          (λ (more : 1 ≤ f.size % bsize). r.bytes more ∙ ap (filled bsize) (sym (behind ∙ (rest.1 more ∙ ap (λ (k : ℕ). take (f.size % bsize) (image (slice_index f.tree.leaves k))) r.kept))))
          (cases_lt (f.size % bsize) 1);
      mark = λ is. r.mark ∙ (λ i. record { last = sym fr.count_is i; place = sym fr.place_is i });
      place = subst (λ (n : ℕ). (front.place ≡ nowhere) ⊎ (front.place < n)) (sym filled_is) (subst (λ (n : ℕ). (n ≡ nowhere) ⊎ (n < f.size % bsize)) (sym fr.place_is) fr.begins);
      climbs = λ marks plan.
          subst (λ (l : List Kept). ClimbsOn b.climb b.kept l tree.leaves marks tree.pointers) (sym nodes)
          (subst (λ (k : ℕ). ClimbsOn b.climb k es tree.leaves marks tree.pointers) (sym r.kept) (r.climbs tree.leaves marks tree.pointers (subst (λ (p : ℕ). IsBuildable bsize p tree.leaves marks tree.pointers) same_size plan) count));
      keeps = subst (λ (p : ℕ). AllKeep p (bsize / p) tree.pointers (lowest b.kept tree.leaves) front.nodes (levels (bsize / p) (length tree.leaves))) (sym same_size)
          (subst (λ (l : List Kept). AllKeep psize (bsize / psize) tree.pointers (lowest b.kept tree.leaves) l (levels (bsize / psize) (length tree.leaves))) (sym nodes)
          (subst (λ (k : ℕ). AllKeep psize (bsize / psize) tree.pointers (lowest k tree.leaves) es (levels (bsize / psize) (length tree.leaves))) (sym r.kept) keeps));
    }

-- ---- what was read

-- a block of a file is one of its unit
pub file_block : (units : List Attached) (v : HeldVolume) (place : ℕ) (f : HeldFile) → Keeps v → slice_get v.files place ≡ Some f → HasBlocks units v.unit v.disk.count v.disk.bsize
    → (n : ℕ) → In n f.tree.leaves ⊎ In n f.tree.pointers → HasBlock units v.unit n v.disk.bsize
file_block units v place f kept is has n there =
    let k = kept_at v place f kept is in
    let w : (6 ≤ n) × (n ≤ v.label.blocks) = ⊎_elim (λ (leaf : In n f.tree.leaves). k.within n leaf) (λ (node : In n f.tree.pointers). k.nodes_within n node) there in
    let low = w.0 in
    let high = w.1 in
    let top = kept.within in
    on_unit units v.unit v.disk.count v.disk.bsize n (omega arith) (omega arith) has

-- an item in a place of a list is one of it, whatever stands for places behind
pub in_place : (xs : List ℕ) (k d : ℕ) → k < length xs → In (get_or xs k d) xs
in_place [] k d less = absurd (omega arith)
in_place (x ∷ xs) zero d less = inl refl
in_place (x ∷ xs) (suc k) d less = inr (in_place xs k d (omega arith))

-- a climb that was resumed by numbers that are those of the file
pub resumed_as : (told told' : Told) (u u' bsize bsize' psize psize' before before' : ℕ) (ps ps' : List ℕ) (last last' : ℕ) (mark mark' : Mark) (kept leaves : ℕ) (c : Climb) → told ≡ told'
    → u ≡ u' → bsize ≡ bsize' → psize ≡ psize' → before ≡ before' → ps ≡ ps' → last ≡ last' → mark ≡ mark' → IsResumed told u bsize psize before ps last mark kept leaves c
    → IsResumed told' u' bsize' psize' before' ps' last' mark' kept leaves c
resumed_as told told' u u' bsize bsize' psize psize' before before' ps ps' last last' mark mark' kept leaves c told_is unit size pointer count pointers end mark_is r =
    subst (λ (x : Mark). IsResumed told' u' bsize' psize' before' ps' last' x kept leaves c) mark_is
    (subst (λ (x : ℕ). IsResumed told' u' bsize' psize' before' ps' x mark kept leaves c) end
    (subst (λ (x : List ℕ). IsResumed told' u' bsize' psize' before' x last mark kept leaves c) pointers
    (subst (λ (x : ℕ). IsResumed told' u' bsize' psize' x ps last mark kept leaves c) count
    (subst (λ (x : ℕ). IsResumed told' u' bsize' x before ps last mark kept leaves c) pointer
    (subst (λ (x : ℕ). IsResumed told' u' x psize before ps last mark kept leaves c) size
    (subst (λ (x : ℕ). IsResumed told' x bsize psize before ps last mark kept leaves c) unit
    (subst (λ (x : Told). IsResumed x u bsize psize before ps last mark kept leaves c) told_is r)))))))

-- what stands of the file was read
pub begun_of : (told : Told) (v : HeldVolume) (f : HeldFile) (g : Growth) (shape : DraftShape) (b : Begun) → IsBlockSize v.disk.bsize → f.size ≤ length f.tree.leaves * v.disk.bsize → GrowsAs f shape
    → IsGrowthOf v.disk.bsize f shape g → b.kept ≡ g.kept → b.filled ≡ f.size % v.disk.bsize → b.mark ≡ record { last = f.entry.count; place = f.start } → length b.block.items ≡ v.disk.bsize
    → ForSome told (λ j. 1 ≤ f.size % v.disk.bsize → b.block.items ≡ filled v.disk.bsize (take (f.size % v.disk.bsize) (image_of (contents_of j v.unit) (slice_index f.tree.leaves g.kept))))
    → (f.size % v.disk.bsize ≡ 0 → b.block.items ≡ filled v.disk.bsize [])
    → IsResumed told v.unit v.disk.bsize (pointer_size f.entry.format) (length f.tree.leaves) f.tree.pointers (last_leaf f.tree) (record { last = f.entry.count; place = f.start }) g.kept g.count b.climb
    → IsBegunOf told v f g b
begun_of told v f g shape b size high grows growth kept filled_is mark long bytes zeros r = record {
  kept = kept;
  filled = filled_is;
  mark = mark;
  fits = λ tree count. record {
    size = size;
    held = r.held;
    climb_size = r.bsize_is;
    climb_pointer = r.psize_is;
    climb_count = r.count_is ∙ sym count;
    climb_added = r.added_is ∙ sym kept;
    within = let less = growth.less in omega arith;
    block = long;
    unfilled = let low = (block_bounds v.disk.bsize size).0 in let less : f.size % v.disk.bsize < v.disk.bsize = mod-lt f.size (omega arith) in omega arith;
  };
  front = λ j is asked tree front format count pointers fr. in_front v.disk.bsize (image_of (contents_of j v.unit)) f g b r.es shape asked tree front size growth grows.format_is high (record {
    kept = kept;
    filled_is = filled_is;
    mark = mark;
    bytes = bytes j is;
    zeros = zeros;
    bsize_is = r.bsize_is;
    psize_is = r.psize_is;
    count_is = r.count_is;
    added_is = r.added_is;
    held = r.held;
    nodes = r.read j is;
    climbs = r.climbs;
  }) format count pointers fr;
}
