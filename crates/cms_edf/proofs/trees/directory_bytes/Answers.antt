use Rattle.std.proofs.Common.{rules, refl, ◌∙◌, arith, sym}
use Rattle.cms_journal.specs.Journal.{contents_of}
use Rattle.cms_model.specs.Trees.{image_of}
use Rattle.std.specs.Prelude.{slice_index}
use Rattle.cms_edf.proofs.Gathered.{reads_next, reads_last}
use Rattle.cms_edf.proofs.Exits.{ok_at_err, reads_at_err, reads_behind, reads_so_far, same_at_err}
use Rattle.cms_edf.proofs.trees.directory_bytes.Goals as goal

pub loop-nth-preserved : goal.loop-nth-preserved
loop-nth-preserved g c =
    let l = c.loop-nth in
    let a = c.args in
    let was = l.invariant.size in
    let more = c.in_ok-append_block.ensures.size in
    record {
      reads = λ j told.
          let image = image_of (contents_of j a.place.now.unit) in
          rw (c.in_ok-append_block.ensures.bytes j (l.invariant.told ∙ told))
          (reads_next image a.blocks.now l.nth l.bytes.items (image (slice_index a.blocks.now l.nth)) (search rules) refl (l.invariant.reads j told));
      size = grind (arith, was, more);
      told = c.in_ok-append_block.ensures.reads.told ∙ l.invariant.told;
      faults = omega (arith, c.in_ok-append_block.ensures.reads.faults, l.invariant.faults);
      edges = c.in_ok-append_block.ensures.reads.edges ∙ l.invariant.edges;
    }

pub returns-clause-bytes : goal.returns-clause-bytes
returns-clause-bytes g c = λ j told. reads_last (image_of (contents_of j c.args.place.now.unit)) c.args.blocks.now c.loop-nth.nth c.loop-nth.bytes.items (search rules)
    (c.loop-nth.invariant.reads j told)

pub returns-in_err-append_block-clause-bytes : goal.returns-in_err-append_block-clause-bytes
returns-in_err-append_block-clause-bytes g c = ok_at_err _ c.from_residual.result _ c.from_residual.ensures.1

pub returns-in_err-append_block-clause-size : goal.returns-in_err-append_block-clause-size
returns-in_err-append_block-clause-size g c = ok_at_err _ c.from_residual.result _ c.from_residual.ensures.1

pub append_block-requires-clause-first : goal.append_block-requires-clause-first
append_block-requires-clause-first g c = λ j told. c.requires.first j (sym c.loop-nth.invariant.told ∙ told)

pub append_block-requires-clause-block : goal.append_block-requires-clause-block
append_block-requires-clause-block g c = λ j told. c.requires.blocks j (sym c.loop-nth.invariant.told ∙ told) c.loop-nth.nth (search rules)

pub returns-in_err-append_block-clause-fault : goal.returns-in_err-append_block-clause-fault
returns-in_err-append_block-clause-fault g c = same_at_err c.from_residual.result _ _ c.from_residual.ensures.1 c.in_err-append_block.ensures.fault

pub returns-in_err-append_block-clause-reads : goal.returns-in_err-append_block-clause-reads
returns-in_err-append_block-clause-reads g c =
    let l = c.loop-nth.invariant in
    reads_at_err c.from_residual.result _ c.from_residual.ensures.1 (reads_behind _ l.told l.faults l.edges c.in_err-append_block.ensures.reads)

pub returns-clause-reads : goal.returns-clause-reads
returns-clause-reads g c =
    let l = c.loop-nth.invariant in
    reads_so_far _ _ _ l.told l.faults l.edges

pub returns-clause-fault : goal.returns-clause-fault
returns-clause-fault g c = tt
