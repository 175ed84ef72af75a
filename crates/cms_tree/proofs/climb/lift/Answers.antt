use Rattle.std.proofs.Common.{◌≡◌, inr, ◌≤◌, ℕ, ◌/◌, ◌<◌, List, length, take, drop, get_or, true, refl, sym, ◌∙◌, ap, subst, arith, ◌*◌, ◌^◌, Fits, w64}
use Rattle.std.specs.Prelude.{replicate}
use Rattle.std.proofs.lemmas.Result.{err_from_is_err_and}
use Rattle.std.proofs.lemmas.List.Elements.{All-get_or}
use Rattle.std.proofs.lemmas.List.{length-replicate}
use Rattle.cms_journal.specs.Journal.{HasBlock}
use Rattle.cms_journal.specs.Told.{plus}
use Rattle.cms_fields.specs.Numbers.{up}
use Rattle.cms_tree.specs.Tiers.{ends_group}
use Rattle.cms_tree.proofs.ClimbBlocks.{Pointed, Stands, some_fan, stands_on, stands_whole, stands_parent, stands_next, stands_ends, may_add_front, group_within, div_mono, pointers_fit, short_block, some_pointer}
use Rattle.cms_model.specs.Lists.{In}
use Rattle.cms_tree.proofs.Own.{may_add_own, own_none, in_behind}
use Rattle.cms_tree.proofs.Sums.{div_ceil_is, less_up}
use Rattle.cms_tree.proofs.Exits.{counts_none, holds_at_err, ok_at_err}
use Rattle.cms_tree.proofs.climb.lift.Given as given
use Rattle.cms_tree.proofs.climb.lift.Goals as goal
use Rattle.cms_tree.proofs.climb.lift.Goals.{After-deref}

pub returns-then-not-ends_group-clause-lifts : goal.returns-then-not-ends_group-clause-lifts
returns-then-not-ends_group-clause-lifts g c = λ leaves marks numbers node tier es levels fresh_is is_tier is_open is_child.
    let a = c.args in
    let fan = c.bytes.result / c.from.result in
    let fan_is : fan ≡ a.bsize / a.psize = rw (c.bytes.ensures.value, c.from.ensures) refl in
    let s : Stands a.bsize a.psize fan leaves marks numbers node tier es levels a.child.now a.level.now =
    record { size = c.requires.size; kind = c.requires.psize; fan_is = fan_is; within = c.requires.within; tier = is_tier; is_open = is_open; is_child = is_child } in
    let p : Pointed a.psize fan a.child.now a.level.now c.point-place.new.self c.point-place.result = record { bytes = c.point-place.ensures.bytes; first = c.point-place.ensures.place; known = c.point-place.ensures.known } in
    stands_on (g.W.World.told a.world.now) a.bsize a.psize fan leaves marks numbers node tier es levels a.child.now a.level.now c.point-place.new.self c.point-place.result s p (sym c.ends_group.ensures ∙ c.if-not-ends_group.true)

pub returns-then-not-ends_group-clause-own : goal.returns-then-not-ends_group-clause-own
returns-then-not-ends_group-clause-own g c = λ kept low.
    let a = c.args in
    own_none (g.W.World.told a.world.now) a.unit a.bsize (drop (kept / (a.bsize / a.psize)) (take (up a.child.now.count (a.bsize / a.psize)) a.fresh.now))

-- the fresh block is there, and what is written into it has its size
has_fresh : (g : given.Over) (c : After-deref g)
    → (c.args.child.now.nth / (c.bytes.result / c.from.result) < length c.args.fresh.now) × (length c.deref.result.now ≡ c.args.bsize)
has_fresh g c =
    let a = c.args in
    let fan = c.bytes.result / c.from.result in
    let fan_is : fan ≡ a.bsize / a.psize = rw (c.bytes.ensures.value, c.from.ensures) refl in
    let some : 1 ≤ fan = rw fan_is (some_fan a.bsize a.psize c.requires.size c.requires.psize) in
    let low = group_within fan a.child.now.count a.child.now.nth some c.requires.within in
    let enough : up a.child.now.count fan ≤ length a.fresh.now = rw fan_is c.requires.fresh in
    (omega arith, ap (λ (l : List ℕ). length l) c.deref.ensures.value ∙ c.point-place.ensures.size ∙ c.requires.level)

-- it ends behind the kept blocks of the level below
block_behind : (g : given.Over) (c : After-deref g) (kept : ℕ) → kept ≤ c.args.child.now.nth
    → In (get_or c.args.fresh.now (c.args.child.now.nth / (c.bytes.result / c.from.result)) 0)
    (drop (kept / (c.args.bsize / c.args.psize)) (take (up c.args.child.now.count (c.args.bsize / c.args.psize)) c.args.fresh.now))
block_behind g c kept low =
    let a = c.args in
    let fan = c.bytes.result / c.from.result in
    let fan_is : fan ≡ a.bsize / a.psize = rw (c.bytes.ensures.value, c.from.ensures) refl in
    let some : 1 ≤ fan = rw fan_is (some_fan a.bsize a.psize c.requires.size c.requires.psize) in
    subst (λ (n : ℕ). In (get_or a.fresh.now (a.child.now.nth / fan) 0) (drop (kept / n) (take (up a.child.now.count n) a.fresh.now))) fan_is
    (in_behind a.fresh.now (kept / fan) (up a.child.now.count fan) (a.child.now.nth / fan) (div_mono fan kept a.child.now.nth some low)
    (group_within fan a.child.now.count a.child.now.nth some c.requires.within) (has_fresh g c).0)

pub write_block-requires-clause-block : goal.write_block-requires-clause-block
write_block-requires-clause-block g c = λ j told.
    let a = c.args in
    let fan = c.bytes.result / c.from.result in
    let fresh = has_fresh g (goal.at.write_block-requires-clause-block g c).After-deref in
    subst (λ (n : ℕ). HasBlock j.units a.unit (get_or a.fresh.now (a.child.now.nth / fan) 0) n) (sym fresh.1)
    (All-get_or (λ n. HasBlock j.units a.unit n a.bsize) a.fresh.now (a.child.now.nth / fan) 0 fresh.0 (c.requires.blocks j told))

pub returns-in_err-write_block-clause-lifts : goal.returns-in_err-write_block-clause-lifts
returns-in_err-write_block-clause-lifts g c = λ leaves marks numbers node tier es levels fresh_is is_tier is_open is_child.
    let a = c.args in
    let fan = c.bytes.result / c.from.result in
    let fan_is : fan ≡ a.bsize / a.psize = rw (c.bytes.ensures.value, c.from.ensures) refl in
    let s : Stands a.bsize a.psize fan leaves marks numbers node tier es levels a.child.now a.level.now =
    record { size = c.requires.size; kind = c.requires.psize; fan_is = fan_is; within = c.requires.within; tier = is_tier; is_open = is_open; is_child = is_child } in
    let q : Pointed a.psize fan a.child.now a.level.now c.point-place.new.self c.point-place.result = record { bytes = c.point-place.ensures.bytes; first = c.point-place.ensures.place; known = c.point-place.ensures.known } in
    let p = err_from_is_err_and c.from_residual.result c.from_residual.ensures.1 in
    let is : ends_group fan a.child.now.count a.child.now.nth ≡ true = sym c.ends_group.ensures ∙ c.if-not-ends_group.false in
    rw p.1 (
      stands_ends a.bsize a.psize fan a.child.now fan_is is,
      may_add_front _ (g.W.World.told a.world.now) (g.W.World.told c.write_block.new.self) _
          (stands_whole a.unit a.bsize a.psize fan leaves marks numbers a.fresh.now node tier es levels a.child.now a.level.now c.point-place.new.self c.point-place.result c.deref.result.now s q is fresh_is c.deref.ensures.value)
          c.in_err-write_block.ensures.failed,
    )

pub returns-in_err-write_block-clause-own : goal.returns-in_err-write_block-clause-own
returns-in_err-write_block-clause-own g c = λ kept low.
    let a = c.args in
    let fan = c.bytes.result / c.from.result in
    let d = (goal.at.returns-in_err-write_block-clause-own g c).After-deref in
    may_add_own (g.W.World.told a.world.now) (g.W.World.told c.write_block.new.self) a.unit a.bsize
    (record { block = get_or a.fresh.now (a.child.now.nth / fan) 0; bytes = c.deref.result.now })
    (drop (kept / (a.bsize / a.psize)) (take (up a.child.now.count (a.bsize / a.psize)) a.fresh.now))
    (block_behind g d kept low) (has_fresh g d).1 c.in_err-write_block.ensures.failed

pub returns-clause-parent : goal.returns-clause-parent
returns-clause-parent g c =
    let a = c.args in
    let fan = c.bytes.result / c.from.result in
    let fan_is : fan ≡ a.bsize / a.psize = rw (c.bytes.ensures.value, c.from.ensures) refl in
    let some : 1 ≤ fan = rw fan_is (some_fan a.bsize a.psize c.requires.size c.requires.psize) in
    let count : c.div_ceil.result ≡ up a.child.now.count fan = c.div_ceil.ensures ∙ div_ceil_is a.child.now.count fan some in
    let low = group_within fan a.child.now.count a.child.now.nth some c.requires.within in
    record {
      nth = ap (λ (n : ℕ). a.child.now.nth / n) fan_is;
      count = count ∙ ap (up a.child.now.count) fan_is;
      within = omega arith;
    }

pub returns-clause-own : goal.returns-clause-own
returns-clause-own g c = λ kept low.
    let a = c.args in
    let fan = c.bytes.result / c.from.result in
    let d = (goal.at.returns-clause-own g c).After-deref in
    may_add_own (g.W.World.told a.world.now) (g.W.World.told c.write_block.new.self) a.unit a.bsize
    (record { block = get_or a.fresh.now (a.child.now.nth / fan) 0; bytes = c.deref.result.now })
    (drop (kept / (a.bsize / a.psize)) (take (up a.child.now.count (a.bsize / a.psize)) a.fresh.now))
    (block_behind g d kept low) (has_fresh g d).1 (inr c.in_ok-write_block.ensures.wrote)

pub returns-clause-lifts : goal.returns-clause-lifts
returns-clause-lifts g c = λ leaves marks numbers node tier es levels fresh_is is_tier is_open is_child.
    let a = c.args in
    let fan = c.bytes.result / c.from.result in
    let fan_is : fan ≡ a.bsize / a.psize = rw (c.bytes.ensures.value, c.from.ensures) refl in
    let s : Stands a.bsize a.psize fan leaves marks numbers node tier es levels a.child.now a.level.now =
    record { size = c.requires.size; kind = c.requires.psize; fan_is = fan_is; within = c.requires.within; tier = is_tier; is_open = is_open; is_child = is_child } in
    let q : Pointed a.psize fan a.child.now a.level.now c.point-place.new.self c.point-place.result = record { bytes = c.point-place.ensures.bytes; first = c.point-place.ensures.place; known = c.point-place.ensures.known } in
    let is : ends_group fan a.child.now.count a.child.now.nth ≡ true = sym c.ends_group.ensures ∙ c.if-not-ends_group.false in
    let some : 1 ≤ fan = rw fan_is (some_fan a.bsize a.psize c.requires.size c.requires.psize) in
    let count : c.div_ceil.result ≡ up a.child.now.count fan = c.div_ceil.ensures ∙ div_ceil_is a.child.now.count fan some in
    let wrote = stands_whole a.unit a.bsize a.psize fan leaves marks numbers a.fresh.now node tier es levels a.child.now a.level.now c.point-place.new.self c.point-place.result c.deref.result.now s q is fresh_is c.deref.ensures.value
    in
    let zeros : c.clear.new.self.bytes.items ≡ replicate a.bsize 0 = c.clear.ensures.bytes ∙ ap (λ (n : ℕ). replicate n 0) (c.point-place.ensures.size ∙ c.requires.level) in (
      stands_ends a.bsize a.psize fan a.child.now fan_is is,
      c.in_ok-write_block.ensures.wrote ∙ ap (plus (g.W.World.told a.world.now)) wrote,
      stands_parent a.bsize a.psize fan leaves marks numbers a.fresh.now node tier es levels a.child.now a.level.now c.point-place.new.self c.div_ceil.result c.point-place.result s q is fresh_is count,
      λ less. stands_next a.bsize a.psize fan leaves marks numbers node tier es levels a.child.now a.level.now c.clear.new.self s is zeros c.clear.ensures.place less,
    )

pub nonzero_div-fan : goal.nonzero_div-fan
nonzero_div-fan g c = rw c.from.ensures (some_pointer c.args.psize c.requires.psize)

pub point-place-requires-clause-psize : goal.point-place-requires-clause-psize
point-place-requires-clause-psize g c = c.requires.psize

pub point-place-requires-clause-some : goal.point-place-requires-clause-some
point-place-requires-clause-some g c = rw (c.bytes.ensures.value, c.from.ensures) (some_fan c.args.bsize c.args.psize c.requires.size c.requires.psize)

pub ends_group-requires-clause-wide : goal.ends_group-requires-clause-wide
ends_group-requires-clause-wide g c = rw (c.bytes.ensures.value, c.from.ensures) (some_fan c.args.bsize c.args.psize c.requires.size c.requires.psize)

pub nonzero_div-nth : goal.nonzero_div-nth
nonzero_div-nth g c = rw (c.bytes.ensures.value, c.from.ensures) (some_fan c.args.bsize c.args.psize c.requires.size c.requires.psize)

pub div_ceil-requires : goal.div_ceil-requires
div_ceil-requires g c = rw (c.bytes.ensures.value, c.from.ensures) (some_fan c.args.bsize c.args.psize c.requires.size c.requires.psize)

pub point-place-requires-clause-room : goal.point-place-requires-clause-room
point-place-requires-clause-room g c =
    rw (c.bytes.ensures.value, c.from.ensures) (pointers_fit c.args.bsize c.args.psize (length c.args.level.now.bytes.items) c.requires.psize c.requires.level)

pub point-place-requires-clause-short : goal.point-place-requires-clause-short
point-place-requires-clause-short g c = short_block c.args.bsize (length c.args.level.now.bytes.items) c.requires.size c.requires.level

pub ends_group-requires-clause-within : goal.ends_group-requires-clause-within
ends_group-requires-clause-within g c = c.requires.within

pub returns-then-not-ends_group-clause-size : goal.returns-then-not-ends_group-clause-size
returns-then-not-ends_group-clause-size g c = c.point-place.ensures.size ∙ c.requires.level

pub returns-in_err-write_block-clause-size : goal.returns-in_err-write_block-clause-size
returns-in_err-write_block-clause-size g c = c.point-place.ensures.size ∙ c.requires.level

pub returns-then-not-ends_group-clause-counts : goal.returns-then-not-ends_group-clause-counts
returns-then-not-ends_group-clause-counts g c = counts_none _

pub write_block-requires-clause-writable : goal.write_block-requires-clause-writable
write_block-requires-clause-writable g c = c.requires.writable

pub returns-in_err-write_block-clause-parent : goal.returns-in_err-write_block-clause-parent
returns-in_err-write_block-clause-parent g c = ok_at_err _ c.from_residual.result _ c.from_residual.ensures.1

pub returns-in_err-write_block-clause-counts : goal.returns-in_err-write_block-clause-counts
returns-in_err-write_block-clause-counts g c =
    let e = c.in_err-write_block.ensures in
    record { cause = record { later = e.cause.later; failed = holds_at_err c.from_residual.result e.cause.failed }; edges = e.edges }

pub returns-clause-size : goal.returns-clause-size
returns-clause-size g c =
    ap (λ (l : List ℕ). length l) c.clear.ensures.bytes ∙ (length-replicate (length c.point-place.new.self.bytes.items) 0 ∙ (c.point-place.ensures.size ∙ c.requires.level))

pub returns-clause-counts : goal.returns-clause-counts
returns-clause-counts g c =
    let e = c.in_ok-write_block.ensures in
    record { cause = record { later = e.cause.later; failed = tt }; edges = e.edges }

word_offset : (n : ℕ) → n < 2 ^ 32 → Fits w64 (n * 4)
word_offset n fits = omega arith

pub bytes-requires : goal.bytes-requires
bytes-requires g c = tt

pub from-requires : goal.from-requires
from-requires g c = tt

pub clear-requires : goal.clear-requires
clear-requires g c = tt

pub returns-then-not-ends_group-clause-parent : goal.returns-then-not-ends_group-clause-parent
returns-then-not-ends_group-clause-parent g c = tt

pub offset_bounds-fresh-nth : goal.offset_bounds-fresh-nth
offset_bounds-fresh-nth g c = word_offset (c.args.child.now.nth / (c.bytes.result / c.from.result)) c.type_inv.nth.fits

pub bounds-fresh-nth : goal.bounds-fresh-nth
bounds-fresh-nth g c =
    let a = c.args in
    let fan = c.bytes.result / c.from.result in
    let fan_is : fan ≡ a.bsize / a.psize = rw (c.bytes.ensures.value, c.from.ensures) refl in
    let some : 1 ≤ fan = rw fan_is (some_fan a.bsize a.psize c.requires.size c.requires.psize) in
    let enough : up a.child.now.count fan ≤ length a.fresh.now = rw fan_is c.requires.fresh in
    less_up _ _ _ (group_within fan a.child.now.count a.child.now.nth some c.requires.within) enough
