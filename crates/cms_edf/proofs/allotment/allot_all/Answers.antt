-- The steps of an allotment, one behind the other.
use Rattle.std.proofs.Common.{◌≡◌, ◌∙◌, ◌+◌, ◌-◌, ◌^◌, ◌<◌, ◌≤◌, ℕ, Fits, w32, List, ◌++◌, length, take, drop, refl, sym, ap, subst, arith, length-drop}
use Rattle.cms_map.specs.Bits.{free_blocks, with_marked}
use Rattle.cms_map.specs.Touched.{AreTouched}
use Rattle.cms_held.specs.Allotments.{on_map}
use Rattle.cms_held.specs.HeldVolumes.{Held}
use Rattle.cms_held.specs.Kept.{Keeps}
use Rattle.cms_held.specs.MapShares.{turned}
use Rattle.cms_held.specs.Renewals.{with_freed}
use Rattle.cms_edf.specs.Allotments.{MapIsShared, SharesDirectory, given_back}
use Rattle.cms_edf.proofs.AllottedSteps.{Splits, allotted_so, splits_so}
use Rattle.cms_edf.proofs.Exits.{ok_at_err}
use Rattle.cms_edf.proofs.allotment.allot_all.Goals as goal
use Rattle.cms_edf.proofs.allotment.allot_all.Goals.{After-take_blocks}

kept_at : (c : After-take_blocks) → Keeps c.args.held.now.volume
kept_at c = subst (λ (h : Held). Keeps h.volume) c.held.view_is c.held.invariant.kept

splits : (c : After-take_blocks) → Splits c.args.held.now.volume c.args.exchange.now c.args.places
splits c =
    splits_so c.args.held.now.volume c.args.exchange.now c.args.places (kept_at c) c.requires.few c.requires.written c.requires.nodes c.requires.first c.requires.may

-- what is counted of an allotment fits
few_written : (n : ℕ) → n ≤ 34607232 → n < 2 ^ 32
few_written n low = omega arith

used_fits : (file count leaves nodes charge need : ℕ) → need ≡ file + ((leaves + nodes - 1) + charge) → 1 ≤ leaves → 1 ≤ charge → count ≡ leaves + nodes → need < 2 ^ 32
    → Fits w32 (file + count)
used_fits file count leaves nodes charge need is some more counted fits = omega arith

some_used : (file count leaves nodes : ℕ) → count ≡ leaves + nodes → 1 ≤ leaves → 1 ≤ file + count
some_used file count leaves nodes counted some = omega arith

-- what is taken is enough for the file, behind it for the directory, and behind that for the map
file_within : (file rest need long : ℕ) → need ≡ file + rest → long ≡ need → file ≤ long
file_within file rest need long is same = omega arith

directory_within : (file leaves nodes charge need long behind : ℕ) → need ≡ file + ((leaves + nodes - 1) + charge) → 1 ≤ leaves → long ≡ need → behind ≡ long - file
    → leaves + nodes ≤ behind + 1
directory_within file leaves nodes charge need long behind is some same back = omega arith

map_within : (file count leaves nodes charge need many : ℕ) → need ≡ file + ((leaves + nodes - 1) + charge) → 1 ≤ leaves → count ≡ leaves + nodes → many ≡ need
    → (file + count - 1) + charge ≤ many
map_within file count leaves nodes charge need many is some counted same = omega arith

pub take_blocks-requires : goal.take_blocks-requires
take_blocks-requires c = subst (λ (h : Held). c.args.need ≤ length (free_blocks h.volume.bits)) (sym c.held.view_is) c.requires.enough

pub written_count-requires : goal.written_count-requires
written_count-requires c = few_written _ (splits (goal.at.written_count-requires c).After-take_blocks).low

pub overflow_add-used : goal.overflow_add-used
overflow_add-used c =
    let s = splits (goal.at.overflow_add-used c).After-take_blocks in
    used_fits _ _ _ _ _ c.args.need (c.requires.need ∙ s.need_is) s.some s.charge_some c.written_count.ensures c.ranges.need.fits

pub overflow_sub-used : goal.overflow_sub-used
overflow_sub-used c = some_used _ _ _ _ c.written_count.ensures (splits (goal.at.overflow_sub-used c).After-take_blocks).some

pub split_at-requires : goal.split_at-requires
split_at-requires c =
    let s = splits (goal.at.split_at-requires c).After-take_blocks in
    file_within c.args.exchange.now.file _ c.args.need _ (c.requires.need ∙ s.need_is) (ap (λ (l : List ℕ). length l) c.deref.ensures.value ∙ c.in_ok-lowest.ensures.long)

pub share_directory-requires-clause-few : goal.share_directory-requires-clause-few
share_directory-requires-clause-few c = c.requires.few

pub share_directory-requires-clause-first : goal.share_directory-requires-clause-first
share_directory-requires-clause-first c = c.requires.first

pub share_directory-requires-clause-may : goal.share_directory-requires-clause-may
share_directory-requires-clause-may c = c.requires.may

pub share_directory-requires-clause-nodes : goal.share_directory-requires-clause-nodes
share_directory-requires-clause-nodes c = c.requires.nodes

pub share_directory-requires-clause-enough : goal.share_directory-requires-clause-enough
share_directory-requires-clause-enough c =
    let s = splits (goal.at.share_directory-requires-clause-enough c).After-take_blocks in
    directory_within c.args.exchange.now.file _ _ _ c.args.need (length c.deref.result.now) _ (c.requires.need ∙ s.need_is) s.some
    (ap (λ (l : List ℕ). length l) c.deref.ensures.value ∙ c.in_ok-lowest.ensures.long) (ap (λ (l : List ℕ). length l) c.split_at.ensures.back ∙ length-drop c.args.exchange.now.file c.deref.result.now)

-- the blocks that were taken are so many of the lowest free ones
long : (taken lowest : List ℕ) (need : ℕ) → taken ≡ lowest → length lowest ≡ need → length taken ≡ need
long taken lowest need same is = ap (λ (l : List ℕ). length l) same ∙ is

pub take_map-requires-clause-kept : goal.take_map-requires-clause-kept
take_map-requires-clause-kept c = subst (λ (h : Held). Keeps h.volume) c.held.view_is c.held.invariant.kept

pub take_map-requires-clause-room : goal.take_map-requires-clause-room
take_map-requires-clause-room c =
    let s = splits (goal.at.take_map-requires-clause-room c).After-take_blocks in
    map_within _ _ _ _ _ c.args.need _ (c.requires.need ∙ s.need_is) s.some c.written_count.ensures
    (long c.deref-3.result.now c.in_ok-lowest.field-0.blocks.items c.args.need c.deref-3.ensures.value c.in_ok-lowest.ensures.long)

pub take_map-requires-clause-few : goal.take_map-requires-clause-few
take_map-requires-clause-few c =
    subst (λ (n : ℕ). n < 2 ^ 32) (sym (long c.deref-3.result.now c.in_ok-lowest.field-0.blocks.items c.args.need c.deref-3.ensures.value c.in_ok-lowest.ensures.long)) c.ranges.need.fits

pub take_map-requires-clause-enough : goal.take_map-requires-clause-enough
take_map-requires-clause-enough c =
    let many = long c.deref-3.result.now c.in_ok-lowest.field-0.blocks.items c.args.need c.deref-3.ensures.value c.in_ok-lowest.ensures.long in
    subst (λ (n : ℕ). n ≤ length (free_blocks c.args.held.now.volume.bits)) (sym many) c.requires.enough

pub take_map-requires-clause-lowest : goal.take_map-requires-clause-lowest
take_map-requires-clause-lowest c =
    let many = long c.deref-3.result.now c.in_ok-lowest.field-0.blocks.items c.args.need c.deref-3.ensures.value c.in_ok-lowest.ensures.long in
    c.deref-3.ensures.value
    ∙ (c.in_ok-lowest.ensures.blocks
    ∙ (ap (λ (h : Held). take c.args.need (free_blocks h.volume.bits)) c.held.view_is ∙ ap (λ (n : ℕ). take n (free_blocks c.args.held.now.volume.bits)) (sym many)))

pub returns : goal.returns
returns c =
    let v = c.args.held.now.volume in
    let x = c.args.exchange.now in
    let asked = c.args.places in
    let kept : Keeps v = subst (λ (h : Held). Keeps h.volume) c.held.view_is c.held.invariant.kept in
    let s = splits_so v x asked kept c.requires.few c.requires.written c.requires.nodes c.requires.first c.requires.may in
    let lowest = c.in_ok-lowest.field-0.blocks.items in
    let released = c.in-Ok.released.items in
    let directory = c.in_ok-shared.shared in
    let new = c.in-Ok-take_map in
    let shared = new.new.shared in
    let used = x.file + c.written_count.result - 1 in
    let all = used + (length shared.places.leaves + length shared.places.nodes) in
    let low = c.in_ok-lowest.ensures.blocks ∙ ap (λ (h : Held). take c.args.need (free_blocks h.volume.bits)) c.held.view_is in
    let copy = c.in-Ok-to_vec.ensures.items_if_clones_equal (λ x y e. e) in
    let file = copy ∙ (c.split_at.ensures.front ∙ ap (take x.file) c.deref.ensures.value) in
    let behind = c.split_at.ensures.back ∙ ap (drop x.file) c.deref.ensures.value in
    let lows = c.deref-3.ensures.value in
    let given = c.deref-4.ensures.value in
    let bits = with_marked (take all (free_blocks v.bits)) v.bits in
    allotted_so v x _ asked lowest released shared.places.leaves directory.left.items shared.left.items c.args.need used all kept.directory_is kept.map_is c.requires.written c.requires.nodes s.some
    c.requires.need c.requires.enough low (ap (λ (n : ℕ). x.file + n - 1) c.written_count.ensures) file
    (subst (λ (l : List ℕ). SharesDirectory v x.files l asked directory.directory directory.left.items) behind c.in_ok-shared.ensures)
    (c.in-Ok.ensures ∙ ap (λ (l : List ℕ). given_back x ++ drop 1 l) c.deref-2.ensures.value)
    (subst (λ (l : List ℕ). AreTouched v.disk.bsize l shared.places.leaves) (λ i. on_map v.label.blocks (turned (length (lows i)) v.bits (take used (lows i)) (given i) v.map)) new.ensures.touched)
    (subst (λ (l : List ℕ). MapIsShared v shared.places.leaves (drop used l) shared.tree shared.places shared.left.items) lows new.ensures.shared) refl
    (new.ensures.marks ∙ (λ i. with_freed (given i ++ shared.left.items) bits))

pub returns-in_err-lowest : goal.returns-in_err-lowest
returns-in_err-lowest c = ok_at_err _ c.from_residual.result _ c.from_residual.ensures.1

pub returns-in_err-shared : goal.returns-in_err-shared
returns-in_err-shared c = ok_at_err _ c.from_residual-in_err-shared.result _ c.from_residual-in_err-shared.ensures.1

pub returns-in_default : goal.returns-in_default
returns-in_default c = tt

pub returns-in_default-to_vec : goal.returns-in_default-to_vec
returns-in_default-to_vec c = tt

pub returns-in_default-take_map : goal.returns-in_default-take_map
returns-in_default-take_map c = tt
