use Rattle.std.proofs.Common.{◌≡◌, ◌+◌, ◌*◌, sym, refl, arith}
use Rattle.std.specs.Int.{div_ceil}
use Rattle.std.proofs.lemmas.List.{length-take}
use Rattle.cms_map.specs.Bits.{bits_in, free_from, bytes_from}
use Rattle.cms_map.proofs.Held.{bits_count, bytes_more, ones_more, reads}
use Rattle.cms_map.proofs.map.Map.of_bytes.Goals as goal

pub loop-at-init : goal.loop-at-init
unfolding bytes_from free_from
loop-at-init c = record { bytes = c.in_ok-held.ensures.items; ones = refl }

pub overflow_add-used : goal.overflow_add-used
overflow_add-used c =
    let l = c.loop-at in
    let bits = bits_in c.args.n c.args.bytes.now in
    omega (arith, ones_more bits l.at c.byte_in-byte.result l.used c.byte_in-byte.ensures l.invariant.ones, length-take (8 * (l.at + 1)) bits, bits_count c.args.n c.args.bytes.now)

pub loop-at-preserved : goal.loop-at-preserved
loop-at-preserved c =
    let l = c.loop-at in
    let bits = bits_in c.args.n c.args.bytes.now in
    record {
      bytes = rw (c.in_ok-push.ensures.items, l.invariant.bytes, c.byte_in-byte.ensures) (sym (bytes_more bits l.at));
      ones = ones_more bits l.at c.byte_in-byte.result l.used c.byte_in-byte.ensures l.invariant.ones;
    }

pub overflow_sub-result : goal.overflow_sub-result
overflow_sub-result c =
    let l = c.loop-at in
    let bits = bits_in c.args.n c.args.bytes.now in
    omega (arith, l.invariant.ones, length-take (8 * l.at) bits, bits_count c.args.n c.args.bytes.now)

pub invariant_of-result : goal.invariant_of-result
unfolding free_from
invariant_of-result c =
    let l = c.loop-at in
    let end : l.at ≡ div_ceil c.args.n 8 = omega (arith, c.div_ceil-count.ensures) in
    ((reads c.args.n l.used c.args.bytes.now l.held.items (rw end at l.invariant.bytes) (rw end at l.invariant.ones)).held, refl)

pub returns-clause-bits : goal.returns-clause-bits
returns-clause-bits c =
    let l = c.loop-at in
    let end : l.at ≡ div_ceil c.args.n 8 = omega (arith, c.div_ceil-count.ensures) in
    (reads c.args.n l.used c.args.bytes.now l.held.items (rw end at l.invariant.bytes) (rw end at l.invariant.ones)).view

pub returns-clause-count : goal.returns-clause-count
returns-clause-count c = bits_count c.args.n c.loop-at.held.items
