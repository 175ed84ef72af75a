use Rattle.std.proofs.Common.{rules, ◌+◌, None, ℕ, ◌∙◌, ap, arith, sym}
use Rattle.std.proofs.lemmas.List.{length_push}
use Rattle.std.proofs.lemmas.List.Elements.{All-push}
use Rattle.std.proofs.lemmas.Result.{err_from_is_err_and}
use Rattle.cms_journal.specs.Journal.{contents_of}
use Rattle.cms_model.specs.Trees.{image_of}
use Rattle.cms_tree.specs.Walks.{IsWithin}
use Rattle.cms_edf.proofs.FileTrees.{files_next, files_bad, files_last, counts_next, counts_last}
use Rattle.cms_edf.proofs.Exits.{ok_at_err, memory_at_err, reads_at_err, reads_behind, reads_so_far, same_at_err}
use Rattle.cms_edf.proofs.Faults.{fault_memory}
use Rattle.cms_edf.proofs.files.read_files.Goals as goal

pub returns-in_err-tree-clause-fault : goal.returns-in_err-tree-clause-fault
returns-in_err-tree-clause-fault g c =
    let l = c.loop-nth in
    let a = c.args in
    let p = err_from_is_err_and c.from_residual.result c.from_residual.ensures.1 in
    rw (p.1, p.2) (λ j told. files_bad a.place.now (image_of (contents_of j a.place.now.unit)) a.leaves.now a.entries.now l.nth c.holder_of-holder.result c.index-entries-nth.result l.trees.items
    c.in_err-tree.field-0.0
    (search rules) c.index-entries-nth.is c.holder_of-holder.ensures (c.in_err-tree.ensures.read j (l.invariant.told ∙ told)) (l.invariant.files j told))

pub loop-nth-preserved : goal.loop-nth-preserved
loop-nth-preserved g c =
    let l = c.loop-nth in
    let a = c.args in
    let grown = c.in_ok-push.ensures.ok in
    record {
      files = λ j told. rw grown (files_next a.place.now (image_of (contents_of j a.place.now.unit)) a.leaves.now a.entries.now l.nth c.holder_of-holder.result c.index-entries-nth.result l.trees.items
          c.in_ok-tree.tree
          (search rules) c.index-entries-nth.is c.holder_of-holder.ensures (c.in_ok-tree.ensures.read j (l.invariant.told ∙ told)) (l.invariant.files j told));
      counts = rw grown (counts_next a.place.now.bsize a.entries.now l.nth c.index-entries-nth.result l.trees.items c.in_ok-tree.tree
          (search rules) c.index-entries-nth.is c.in_ok-tree.ensures.count c.in_ok-tree.ensures.pointers l.invariant.counts);
      many = rw grown (length_push l.trees.items c.in_ok-tree.tree ∙ ap (λ (n : ℕ). n + 1) l.invariant.many);
      within = rw grown (All-push (IsWithin a.place.now.total None) l.trees.items c.in_ok-tree.tree l.invariant.within c.in_ok-tree.ensures.within);
      told = c.in_ok-tree.ensures.reads.told ∙ l.invariant.told;
      faults = omega (arith, c.in_ok-tree.ensures.reads.faults, l.invariant.faults);
      edges = c.in_ok-tree.ensures.reads.edges ∙ l.invariant.edges;
    }

pub returns-clause-read : goal.returns-clause-read
returns-clause-read g c = λ j told. files_last c.args.place.now (image_of (contents_of j c.args.place.now.unit)) c.args.leaves.now c.args.entries.now c.loop-nth.nth c.loop-nth.trees.items
    (search rules) (c.loop-nth.invariant.files j told)

pub returns-clause-counts : goal.returns-clause-counts
returns-clause-counts g c = counts_last c.args.place.now.bsize c.args.entries.now c.loop-nth.nth c.loop-nth.trees.items (search rules) c.loop-nth.invariant.counts

pub returns-in_err-tree-clause-read : goal.returns-in_err-tree-clause-read
returns-in_err-tree-clause-read g c = ok_at_err _ c.from_residual.result _ c.from_residual.ensures.1

pub returns-in_err-tree-clause-count : goal.returns-in_err-tree-clause-count
returns-in_err-tree-clause-count g c = ok_at_err _ c.from_residual.result _ c.from_residual.ensures.1

pub returns-in_err-tree-clause-counts : goal.returns-in_err-tree-clause-counts
returns-in_err-tree-clause-counts g c = ok_at_err _ c.from_residual.result _ c.from_residual.ensures.1

pub returns-in_err-tree-clause-within : goal.returns-in_err-tree-clause-within
returns-in_err-tree-clause-within g c = ok_at_err _ c.from_residual.result _ c.from_residual.ensures.1

pub returns-in_err-push-clause-read : goal.returns-in_err-push-clause-read
returns-in_err-push-clause-read g c = ok_at_err _ c.from_residual-in_err-push.result _ c.from_residual-in_err-push.ensures.1

pub returns-in_err-push-clause-count : goal.returns-in_err-push-clause-count
returns-in_err-push-clause-count g c = ok_at_err _ c.from_residual-in_err-push.result _ c.from_residual-in_err-push.ensures.1

pub returns-in_err-push-clause-counts : goal.returns-in_err-push-clause-counts
returns-in_err-push-clause-counts g c = ok_at_err _ c.from_residual-in_err-push.result _ c.from_residual-in_err-push.ensures.1

pub returns-in_err-push-clause-within : goal.returns-in_err-push-clause-within
returns-in_err-push-clause-within g c = ok_at_err _ c.from_residual-in_err-push.result _ c.from_residual-in_err-push.ensures.1

pub read_file-requires-clause-blocks : goal.read_file-requires-clause-blocks
read_file-requires-clause-blocks g c = λ j told. c.requires.blocks j (sym c.loop-nth.invariant.told ∙ told)

pub returns-in_err-tree-clause-reads : goal.returns-in_err-tree-clause-reads
returns-in_err-tree-clause-reads g c =
    let l = c.loop-nth.invariant in
    reads_at_err c.from_residual.result _ c.from_residual.ensures.1 (reads_behind _ l.told l.faults l.edges c.in_err-tree.ensures.reads)

pub returns-in_err-push-clause-fault : goal.returns-in_err-push-clause-fault
returns-in_err-push-clause-fault g c =
    same_at_err c.from_residual-in_err-push.result _ c.in_err-push.field-0.0 c.from_residual-in_err-push.ensures.1 (λ j told. fault_memory _ _ c.in_err-push.ensures.fault)

pub returns-in_err-push-clause-reads : goal.returns-in_err-push-clause-reads
returns-in_err-push-clause-reads g c =
    let l = c.loop-nth.invariant in
    memory_at_err c.from_residual-in_err-push.result _ c.from_residual-in_err-push.ensures.1 c.in_err-push.ensures.fault (reads_behind _ l.told l.faults l.edges c.in_ok-tree.ensures.reads)

pub returns-clause-within : goal.returns-clause-within
returns-clause-within g c = c.loop-nth.invariant.within

pub returns-clause-reads : goal.returns-clause-reads
returns-clause-reads g c =
    let l = c.loop-nth.invariant in
    reads_so_far _ _ _ l.told l.faults l.edges

pub returns-clause-fault : goal.returns-clause-fault
returns-clause-fault g c = tt
