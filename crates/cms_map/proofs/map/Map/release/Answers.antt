use Rattle.std.proofs.Common.{false, ◌-◌, length, subst, sym, ◌∙◌, ap, arith, length-set}
use Rattle.std.specs.Prelude.{bit_and}
use Rattle.cms_map.specs.Bits.{NoneIsFree}
use Rattle.cms_map.proofs.Low.{mark_lowered}
use Rattle.cms_map.proofs.Held.{Released, releases, place_within}
use Rattle.cms_map.proofs.map.Map.release.Goals as goal
use Rattle.cms_map.proofs.map.Map.release.Goals.{After-index_mut}

pub index_mut-requires : goal.index_mut-requires
index_mut-requires c =
    let m = c.self.inside in
    let r = c.requires in
    omega (arith, m.bytes.ok, place_within m.blocks m.free m.bytes.items c.args.self.now c.args.block _ c.self.view_is c.self.invariant.0 (omega arith) r.last c.place_of.ensures)

-- the map after the block's bit was cleared
cleared : (c : After-index_mut)
    → Released c.self.inside.blocks c.self.inside.free c.self.inside.bytes.items c.args.self.now c.args.block c.place_of.result (bit_and c.index_mut.result.now (255 - c.bit_of.result))
cleared c =
    let m = c.self.inside in
    let r = c.requires in
    releases m.blocks m.free m.bytes.items c.args.self.now c.args.block _ _ _
    c.self.view_is c.self.invariant.0 r.first r.last (sym c.is_used.ensures ∙ c.if-is_used.true) c.place_of.ensures c.index_mut.ensures.value c.bit_of.ensures

pub overflow_add-self : goal.overflow_add-self
overflow_add-self c = omega (arith, (cleared (goal.at.overflow_add-self c).After-index_mut).fits, c.self.ranges)

pub invariant_of-self : goal.invariant_of-self
invariant_of-self c =
    let m = c.self.inside in
    let low = c.min-self-inside.result in
    let done = cleared (goal.at.invariant_of-self c).After-index_mut in
    let none : NoneIsFree m.low c.args.self.now = subst (NoneIsFree m.low) c.self.view_is c.self.invariant.1 in
    let lowered = mark_lowered m.low low (c.args.block - 1) false c.args.self.now (omega (arith, c.min-self-inside.ensures)) (omega (arith, c.min-self-inside.ensures)) none in
    (done.held.held, subst (NoneIsFree low) (sym done.held.view) lowered)

pub returns-then-is_used-clause-released : goal.returns-then-is_used-clause-released
returns-then-is_used-clause-released c = (cleared (goal.at.returns-then-is_used-clause-released c).After-index_mut).held.view

pub returns-then-is_used-clause-count : goal.returns-then-is_used-clause-count
returns-then-is_used-clause-count c =
    ap length (cleared (goal.at.returns-then-is_used-clause-count c).After-index_mut).held.view ∙ length-set c.args.self.now (c.args.block - 1) false
