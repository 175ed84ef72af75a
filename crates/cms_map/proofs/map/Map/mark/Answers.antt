use Rattle.std.proofs.Common.{◌-◌, sym, subst, arith}
use Rattle.cms_map.specs.Bits.{NoneIsFree}
use Rattle.cms_map.proofs.Held.{marks, place_within}
use Rattle.cms_map.proofs.Low.{mark_kept}
use Rattle.cms_map.proofs.map.Map.mark.Goals as goal

pub index_mut-requires : goal.index_mut-requires
index_mut-requires c =
    let m = c.self.inside in
    let r = c.requires in
    omega (arith, m.bytes.ok, place_within m.blocks m.free m.bytes.items c.args.self.now c.args.block _ c.self.view_is c.self.invariant.0 r.first r.last c.place_of.ensures)

pub overflow_sub-self : goal.overflow_sub-self
overflow_sub-self c =
    let m = c.self.inside in
    let r = c.requires in
    (marks m.blocks m.free m.bytes.items c.args.self.now c.args.block _ _ _
    c.self.view_is c.self.invariant.0 r.first r.last r.free c.place_of.ensures c.index_mut.ensures.value c.bit_of.ensures).some

pub invariant_of-self : goal.invariant_of-self
invariant_of-self c =
    let m = c.self.inside in
    let r = c.requires in
    let done = marks m.blocks m.free m.bytes.items c.args.self.now c.args.block _ _ _
    c.self.view_is c.self.invariant.0 r.first r.last r.free c.place_of.ensures c.index_mut.ensures.value c.bit_of.ensures in
    let none : NoneIsFree m.low c.args.self.now = subst (NoneIsFree m.low) c.self.view_is c.self.invariant.1 in
    (done.held.held, subst (NoneIsFree m.low) (sym done.held.view) (mark_kept m.low (c.args.block - 1) c.args.self.now none))

pub returns : goal.returns
returns c =
    let m = c.self.inside in
    let r = c.requires in
    (marks m.blocks m.free m.bytes.items c.args.self.now c.args.block _ _ _
    c.self.view_is c.self.invariant.0 r.first r.last r.free c.place_of.ensures c.index_mut.ensures.value c.bit_of.ensures).held.view
