use Rattle.std.proofs.Common.{rules, refl, arith, length, slice_index_or}
use Rattle.cms_edf.proofs.MetBlocks.{meets_first, meets_again, meets_next, meets_last, meets_all, block_within}
use Rattle.cms_edf.proofs.met.met_twice.Goals as goal

pub loop-place-init : goal.loop-place-init
loop-place-init c = record { meets = meets_first c.args.seen.now c.args.blocks.now c.requires.clear; size = refl }

pub overflow_sub-bit : goal.overflow_sub-bit
overflow_sub-bit c = (block_within (length c.args.seen.now) c.args.blocks.now c.loop-place.place (slice_index_or c.args.blocks.now c.loop-place.place 0) (search rules) refl c.requires.within).0

pub bounds-seen-bit : goal.bounds-seen-bit
bounds-seen-bit c =
    let w = block_within (length c.args.seen.now) c.args.blocks.now c.loop-place.place (slice_index_or c.args.blocks.now c.loop-place.place 0) (search rules) refl c.requires.within in
    omega (arith, w.0, w.1, c.loop-place.invariant.size)

pub returns-then-seen-bit-clause-first : goal.returns-then-seen-bit-clause-first
returns-then-seen-bit-clause-first c =
    let w = block_within (length c.args.seen.now) c.args.blocks.now c.loop-place.place (slice_index_or c.args.blocks.now c.loop-place.place 0) (search rules) refl c.requires.within in
    meets_again c.loop-place.seen c.args.blocks.now c.loop-place.place (slice_index_or c.args.blocks.now c.loop-place.place 0) (search rules) refl w.0 c.if-seen-bit.true c.loop-place.invariant.meets

pub bounds-seen-bit-in-loop-place : goal.bounds-seen-bit-in-loop-place
bounds-seen-bit-in-loop-place c =
    let w = block_within (length c.args.seen.now) c.args.blocks.now c.loop-place.place (slice_index_or c.args.blocks.now c.loop-place.place 0) (search rules) refl c.requires.within in
    omega (arith, w.0, w.1, c.loop-place.invariant.size)

pub loop-place-preserved : goal.loop-place-preserved
loop-place-preserved c =
    let w = block_within (length c.args.seen.now) c.args.blocks.now c.loop-place.place (slice_index_or c.args.blocks.now c.loop-place.place 0) (search rules) refl c.requires.within in
    record {
      meets = meets_next c.loop-place.seen c.args.blocks.now c.loop-place.place (slice_index_or c.args.blocks.now c.loop-place.place 0) (search rules) refl w.0
          (omega (arith, w.0, w.1, c.loop-place.invariant.size)) c.if-seen-bit.false c.loop-place.invariant.meets;
      size = search rules;
    }

pub returns-clause-first : goal.returns-clause-first
returns-clause-first c = meets_last c.loop-place.seen c.args.blocks.now c.loop-place.place (search rules) c.loop-place.invariant.meets

pub returns-clause-seen : goal.returns-clause-seen
returns-clause-seen c = λ none. meets_all c.loop-place.seen c.args.blocks.now c.loop-place.place (search rules) c.loop-place.invariant.meets
