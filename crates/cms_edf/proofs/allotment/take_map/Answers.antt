-- The map's steps, one behind the other.
use Rattle.std.proofs.Common.{◌≡◌, ◌∙◌, ◌+◌, ◌-◌, ◌<◌, ◌≤◌, ◌^◌, ℕ, List, ◌++◌, length, take, drop, sym, ap, subst, arith, length-drop}
use Rattle.cms_journal.proofs.Sizes.{block_bounds}
use Rattle.cms_map.specs.Bits.{free_blocks, with_marked}
use Rattle.cms_map.specs.Touched.{AreTouched}
use Rattle.cms_held.specs.Allotments.{on_map}
use Rattle.cms_held.specs.MapShares.{turned}
use Rattle.cms_held.specs.Renewals.{with_freed}
use Rattle.cms_edf.specs.Allotments.{MapIsShared}
use Rattle.cms_edf.proofs.Exits.{ok_at_err}
use Rattle.cms_edf.proofs.PartsReady.{map_may}
use Rattle.cms_edf.proofs.allotment.take_map.Goals as goal

used_within : (used charge n : ℕ) → used + charge ≤ n → used ≤ n
used_within used charge n room = omega arith

behind_room : (used charge n back : ℕ) → used + charge ≤ n → back ≡ n - used → charge ≤ back
behind_room used charge n back room is = omega arith

own_few : (used charge n own : ℕ) → used + charge ≤ n → n < 2 ^ 32 → own ≤ charge → own < 2 ^ 32
own_few used charge n own room few within = omega arith

all_within : (used charge n own free : ℕ) → used + charge ≤ n → n ≤ free → own ≤ charge → used + own ≤ free
all_within used charge n own free room enough within = omega arith

pub map_written-requires-clause-used : goal.map_written-requires-clause-used
map_written-requires-clause-used c = used_within _ _ _ c.requires.room

pub map_written-requires-clause-lowest : goal.map_written-requires-clause-lowest
map_written-requires-clause-lowest c = c.requires.lowest

pub split_at-requires : goal.split_at-requires
split_at-requires c = used_within _ _ _ c.requires.room

pub share_map-requires-clause-may : goal.share_map-requires-clause-may
share_map-requires-clause-may c =
    let v = c.args.held.now.volume in
    let kept = c.requires.kept in
    let low = (block_bounds v.disk.bsize kept.sized).0 in
    let lowest = c.args.lowest.now in
    map_may v.disk.bsize v.label.blocks (length v.map.leaves) (turned (length lowest) v.bits (take c.args.used lowest) c.args.released.now v.map) c.in_ok-written.written.items (omega (arith, low)) kept.map_is
    c.in_ok-written.ensures.touched

pub share_map-requires-clause-enough : goal.share_map-requires-clause-enough
share_map-requires-clause-enough c =
    let lowest = c.args.lowest.now in
    behind_room c.args.used _ (length lowest) _ c.requires.room (ap (λ (l : List ℕ). length l) c.split_at.ensures.back ∙ length-drop c.args.used lowest)

pub written_count-requires : goal.written_count-requires
written_count-requires c = own_few c.args.used _ (length c.args.lowest.now) _ c.requires.room c.requires.few c.in_ok-shared.ensures.few

pub overflow_add-all : goal.overflow_add-all
overflow_add-all c =
    let room = c.requires.room in
    let few = c.requires.few in
    let own = c.in_ok-shared.ensures.few in
    let count = c.written_count.ensures in
    omega (arith, room, few, own, count)

pub new_map-requires : goal.new_map-requires
new_map-requires c =
    subst (λ (n : ℕ). c.args.used + n ≤ length (free_blocks c.args.held.now.volume.bits)) (sym c.written_count.ensures)
    (all_within c.args.used _ (length c.args.lowest.now) _ _ c.requires.room c.requires.enough c.in_ok-shared.ensures.few)

pub returns-clause-touched : goal.returns-clause-touched
returns-clause-touched c =
    let v = c.args.held.now.volume in
    let lowest = c.args.lowest.now in
    subst (AreTouched v.disk.bsize (on_map v.label.blocks (turned (length lowest) v.bits (take c.args.used lowest) c.args.released.now v.map))) (sym c.in_ok-shared.ensures.leaves_are)
    c.in_ok-written.ensures.touched

pub returns-clause-shared : goal.returns-clause-shared
returns-clause-shared c =
    let v = c.args.held.now.volume in
    let shared = c.in_ok-shared.shared in
    subst (λ (l : List ℕ). MapIsShared v l (drop c.args.used c.args.lowest.now) shared.tree shared.places shared.left.items) (sym c.in_ok-shared.ensures.leaves_are)
    (subst (λ (l : List ℕ). MapIsShared v c.in_ok-written.written.items l shared.tree shared.places shared.left.items) c.split_at.ensures.back c.in_ok-shared.ensures)

pub returns-clause-marks : goal.returns-clause-marks
returns-clause-marks c =
    let v = c.args.held.now.volume in
    let count = c.written_count.ensures in
    let left = c.deref.ensures.value in
    c.in_ok-map.ensures ∙ (λ i. with_freed (c.args.released.now ++ left i) (with_marked (take (c.args.used + count i) (free_blocks v.bits)) v.bits))

pub returns-in_err-written-clause-touched : goal.returns-in_err-written-clause-touched
returns-in_err-written-clause-touched c = ok_at_err _ c.from_residual.result _ c.from_residual.ensures.1

pub returns-in_err-written-clause-shared : goal.returns-in_err-written-clause-shared
returns-in_err-written-clause-shared c = ok_at_err _ c.from_residual.result _ c.from_residual.ensures.1

pub returns-in_err-written-clause-marks : goal.returns-in_err-written-clause-marks
returns-in_err-written-clause-marks c = ok_at_err _ c.from_residual.result _ c.from_residual.ensures.1

pub returns-in_err-shared-clause-touched : goal.returns-in_err-shared-clause-touched
returns-in_err-shared-clause-touched c = ok_at_err _ c.from_residual-in_err-shared.result _ c.from_residual-in_err-shared.ensures.1

pub returns-in_err-shared-clause-shared : goal.returns-in_err-shared-clause-shared
returns-in_err-shared-clause-shared c = ok_at_err _ c.from_residual-in_err-shared.result _ c.from_residual-in_err-shared.ensures.1

pub returns-in_err-shared-clause-marks : goal.returns-in_err-shared-clause-marks
returns-in_err-shared-clause-marks c = ok_at_err _ c.from_residual-in_err-shared.result _ c.from_residual-in_err-shared.ensures.1

pub returns-in_err-map-clause-touched : goal.returns-in_err-map-clause-touched
returns-in_err-map-clause-touched c = ok_at_err _ c.from_residual-in_err-map.result _ c.from_residual-in_err-map.ensures.1

pub returns-in_err-map-clause-shared : goal.returns-in_err-map-clause-shared
returns-in_err-map-clause-shared c = ok_at_err _ c.from_residual-in_err-map.result _ c.from_residual-in_err-map.ensures.1

pub returns-in_err-map-clause-marks : goal.returns-in_err-map-clause-marks
returns-in_err-map-clause-marks c = ok_at_err _ c.from_residual-in_err-map.result _ c.from_residual-in_err-map.ensures.1
