-- The numbers of a tree that grows.
use Rattle.std.proofs.Common.{◌≡◌, ⊎_elim, ℕ, ◌+◌, ◌-◌, ◌*◌, ◌/◌, ◌%◌, ◌<◌, ◌≤◌, List, ◌++◌, length, take, replicate, sym, ap, subst, arith, mul-le-mul_right, div-add-mod', length-take-le}
use Rattle.std.proofs.lemmas.Bool.{cases_lt}
use Rattle.cms_journal.specs.Journal.{IsBlockSize}
use Rattle.cms_journal.proofs.Sizes.{block_bounds}
use Rattle.cms_fields.specs.Entries.{fan_of}
use Rattle.cms_fields.specs.Limits.{most_bytes}
use Rattle.cms_fields.specs.Numbers.{up}
use Rattle.cms_model.specs.Sizes.{levels}
use Rattle.cms_model.proofs.FileSizes.{fan_wide}
use Rattle.cms_model.proofs.Quotients.{up_spec}
use Rattle.cms_held.specs.Drafts.{filled}
use Rattle.cms_held.specs.HeldVolumes.{HeldFile}
use Rattle.cms_held.specs.Kept.{IsKeptFile}
use Rattle.cms_held.specs.declared.shape.DraftShape.{DraftShape}
use Rattle.cms_edf.specs.Growths.{GrowsAs, IsGrowthOf}
use Rattle.cms_edf.specs.declared.growth.Growth.{Growth}
use Rattle.cms_edf.proofs.DraftPlanned.{whole_blocks}

-- what is kept of a level is a part of it
pub kept_less : (fan count kept : ℕ) → 1 ≤ fan → kept < count → kept / fan < up count fan
kept_less fan count kept some less =
    let spec = (up_spec count fan some).0 in
    let whole : kept / fan * fan + kept % fan ≡ kept = div-add-mod' kept fan in
    ⊎_elim (λ (low : kept / fan < up count fan). low)
    (λ (high : up count fan ≤ kept / fan). let wide : up count fan * fan ≤ kept / fan * fan = mul-le-mul_right fan high in absurd (omega arith))
    (cases_lt (kept / fan) (up count fan))

-- a file with more bytes keeps fewer blocks than it has then
pub front_less : (bsize size bytes : ℕ) → 1 ≤ bsize → size < bytes → size / bsize < up bytes bsize
front_less bsize size bytes some less = kept_less bsize bytes size some less

-- the full data blocks are no more than all
front_within : (bsize size blocks : ℕ) → 1 ≤ bsize → size ≤ blocks * bsize → size / bsize ≤ blocks
front_within bsize size blocks some high =
    let whole : size / bsize * bsize + size % bsize ≡ size = div-add-mod' size bsize in
    ⊎_elim (λ (past : blocks < size / bsize). let wide : (blocks + 1) * bsize ≤ size / bsize * bsize = mul-le-mul_right bsize (let more : blocks + 1 ≤ size / bsize = omega arith in more) in absurd (omega arith))
    (λ (within : size / bsize ≤ blocks). within)
    (cases_lt blocks (size / bsize))

-- where a data block isn't full it is one of them
pub rest_within : (bsize size kept blocks : ℕ) → 1 ≤ bsize → kept ≡ size / bsize → size ≤ blocks * bsize → 1 ≤ size % bsize → kept < blocks
rest_within bsize size kept blocks some is high more =
    let whole : size / bsize * bsize + size % bsize ≡ size = div-add-mod' size bsize in
    let parts : kept * bsize ≡ size / bsize * bsize = ap (λ (k : ℕ). k * bsize) is in
    ⊎_elim (λ (less : kept < blocks). less)
    (λ (past : blocks ≤ kept). let wide : blocks * bsize ≤ kept * bsize = mul-le-mul_right bsize past in absurd (omega arith))
    (cases_lt kept blocks)

-- a file with more bytes has no fewer blocks
blocks_more : (bsize size bytes blocks : ℕ) → 1 ≤ bsize → (blocks - 1) * bsize < size → size < bytes → blocks ≤ up bytes bsize
blocks_more bsize size bytes blocks some low less =
    let spec = (up_spec bytes bsize some).0 in
    ⊎_elim (λ (fewer : up bytes bsize < blocks). let wide : up bytes bsize * bsize ≤ (blocks - 1) * bsize = mul-le-mul_right bsize (let fewer' : up bytes bsize ≤ blocks - 1 = omega arith in fewer') in absurd (omega arith))
    (λ (within : blocks ≤ up bytes bsize). within)
    (cases_lt (up bytes bsize) blocks)

-- so does its tree grow
pub growth_is : (bsize total : ℕ) (asked : DraftShape) (f : HeldFile) (g : Growth) → IsBlockSize bsize → IsKeptFile bsize total f → GrowsAs f asked → asked.bytes ≤ most_bytes
    → g.fan ≡ fan_of bsize asked.format → g.before ≡ length f.tree.leaves → g.kept ≡ f.size / bsize → g.count ≡ up asked.bytes bsize → g.levels ≡ levels g.fan g.count
    → IsGrowthOf bsize f asked g
growth_is bsize total asked f g size k grows few fan before front count height =
    let some : 1 ≤ bsize = let b = (block_bounds bsize size).0 in omega arith in
    let wide = fan_wide bsize asked.format size in
    let blocks = k.shape.some in
    let within = front_within bsize f.size (length f.tree.leaves) some k.high in
    let more = blocks_more bsize f.size asked.bytes (length f.tree.leaves) some k.low grows.bytes in
    let less = front_less bsize f.size asked.bytes some grows.bytes in
    record {
      fan_is = fan;
      wide = subst (λ (n : ℕ). 2 ≤ n) (sym fan) wide;
      before_is = before;
      some = omega arith;
      kept_is = front;
      count_is = count;
      old = omega arith;
      more = omega arith;
      less = omega arith;
      few = subst (λ (n : ℕ). n * bsize ≤ most_bytes) (sym count) (whole_blocks bsize asked.bytes size few);
      levels_are = height;
    }

-- of a block the first bytes are left
pub cleared : (bsize r : ℕ) (source : List ℕ) → length source ≡ bsize → r ≤ bsize → take r source ++ replicate (length source - r) 0 ≡ filled bsize (take r source)
cleared bsize r source long less =
    let own : length (take r source) ≡ r = length-take-le r source (omega arith) in
    ap (λ (n : ℕ). take r source ++ replicate n 0) (let e : length source - r ≡ bsize - length (take r source) = omega arith in e)
