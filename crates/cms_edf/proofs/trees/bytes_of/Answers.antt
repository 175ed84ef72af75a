use Rattle.std.proofs.Common.{rules, ◌≡◌, ◌++◌, ◌∙◌, arith, inr}
use Rattle.cms_journal.specs.Journal.{contents_of}
use Rattle.cms_model.specs.Trees.{image_of}
use Rattle.cms_edf.proofs.Gathered.{reads_next, reads_last, size_next}
use Rattle.cms_edf.proofs.Exits.{ok_at_err, memory_at_err, reads_at_err, reads_behind, reads_so_far, same_at_err}
use Rattle.cms_edf.proofs.trees.bytes_of.Goals as goal

pub loop-place-preserved : goal.loop-place-preserved
loop-place-preserved g c =
    let l = c.loop-place in
    let grown : c.append.new.into.items ≡ l.bytes.items ++ c.in_ok-block.block.items = search rules in
    record {
      reads = λ j told. rw grown (reads_next (image_of (contents_of j c.args.unit)) c.args.blocks.now l.place l.bytes.items c.in_ok-block.block.items (search rules)
          (c.in_ok-block.ensures.bytes j (l.invariant.told ∙ told)) (l.invariant.reads j told));
      size = rw grown (size_next c.args.bsize l.place l.bytes.items c.in_ok-block.block.items l.invariant.size c.in_ok-block.ensures.size);
      told = c.in_ok-block.ensures.reads.told ∙ l.invariant.told;
      faults = omega (arith, c.in_ok-block.ensures.reads.faults, l.invariant.faults);
      edges = c.in_ok-block.ensures.reads.edges ∙ l.invariant.edges;
    }

pub returns-clause-bytes : goal.returns-clause-bytes
returns-clause-bytes g c = λ j told. reads_last (image_of (contents_of j c.args.unit)) c.args.blocks.now c.loop-place.place c.loop-place.bytes.items (search rules)
    (c.loop-place.invariant.reads j told)

pub returns-in_err-block-clause-bytes : goal.returns-in_err-block-clause-bytes
returns-in_err-block-clause-bytes g c = ok_at_err _ c.from_residual.result _ c.from_residual.ensures.1

pub returns-in_err-block-clause-size : goal.returns-in_err-block-clause-size
returns-in_err-block-clause-size g c = ok_at_err _ c.from_residual.result _ c.from_residual.ensures.1

pub returns-in_err-append-clause-bytes : goal.returns-in_err-append-clause-bytes
returns-in_err-append-clause-bytes g c = ok_at_err _ c.from_residual-in_err-append.result _ c.from_residual-in_err-append.ensures.1

pub returns-in_err-append-clause-size : goal.returns-in_err-append-clause-size
returns-in_err-append-clause-size g c = ok_at_err _ c.from_residual-in_err-append.result _ c.from_residual-in_err-append.ensures.1

pub returns-in_err-block-clause-fault : goal.returns-in_err-block-clause-fault
returns-in_err-block-clause-fault g c = same_at_err c.from_residual.result _ _ c.from_residual.ensures.1 c.in_err-block.ensures.fault

pub returns-in_err-block-clause-reads : goal.returns-in_err-block-clause-reads
returns-in_err-block-clause-reads g c =
    let l = c.loop-place.invariant in
    reads_at_err c.from_residual.result _ c.from_residual.ensures.1 (reads_behind _ l.told l.faults l.edges c.in_err-block.ensures.reads)

pub returns-in_err-append-clause-fault : goal.returns-in_err-append-clause-fault
returns-in_err-append-clause-fault g c = same_at_err c.from_residual-in_err-append.result _ _ c.from_residual-in_err-append.ensures.1 (inr c.in_err-append.ensures.fault)

pub returns-in_err-append-clause-reads : goal.returns-in_err-append-clause-reads
returns-in_err-append-clause-reads g c =
    let l = c.loop-place.invariant in
    memory_at_err c.from_residual-in_err-append.result _ c.from_residual-in_err-append.ensures.1 c.in_err-append.ensures.fault (reads_behind _ l.told l.faults l.edges c.in_ok-block.ensures.reads)

pub returns-clause-reads : goal.returns-clause-reads
returns-clause-reads g c =
    let l = c.loop-place.invariant in
    reads_so_far _ _ _ l.told l.faults l.edges

pub returns-clause-fault : goal.returns-clause-fault
returns-clause-fault g c = tt
