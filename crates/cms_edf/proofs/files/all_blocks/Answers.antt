use Rattle.std.proofs.Common.{rules, ◌≡◌, ◌++◌}
use Rattle.cms_edf.proofs.FileTrees.{blocks_next, blocks_last}
use Rattle.cms_edf.proofs.Exits.{ok_at_err, same_at_err}
use Rattle.cms_edf.proofs.Exits.{ok_at_err}
use Rattle.cms_edf.proofs.files.all_blocks.Goals as goal

pub loop-nth-preserved : goal.loop-nth-preserved
loop-nth-preserved c =
    let l = c.loop-nth in
    let a = c.args in
    let more : c.deref-in-loop-nth.result.now ≡ c.index-files-nth.result.blocks.items = search rules in
    let grown : c.append-in-loop-nth.new.into.items ≡ l.blocks.items ++ c.deref-in-loop-nth.result.now = search rules in
    record {
      blocks = rw grown (blocks_next (a.directory.now.blocks.items ++ a.map_tree.now.blocks.items) a.files.now l.nth c.index-files-nth.result l.blocks.items c.deref-in-loop-nth.result.now
          (search rules) c.index-files-nth.is more l.invariant.blocks);
    }

pub returns-clause-ok : goal.returns-clause-ok
returns-clause-ok c = blocks_last c.args.directory.now.blocks.items c.args.map_tree.now.blocks.items c.args.files.now c.loop-nth.nth c.loop-nth.blocks.items (search rules) c.loop-nth.invariant.blocks

pub returns-in_err-append-clause-ok : goal.returns-in_err-append-clause-ok
returns-in_err-append-clause-ok c = ok_at_err _ c.from_residual.result _ c.from_residual.ensures.1

pub returns-in_err-append-clause-fault : goal.returns-in_err-append-clause-fault
returns-in_err-append-clause-fault c = same_at_err c.from_residual.result _ _ c.from_residual.ensures.1 c.in_err-append.ensures.fault

pub returns-in_err-append-2-clause-ok : goal.returns-in_err-append-2-clause-ok
returns-in_err-append-2-clause-ok c = ok_at_err _ c.from_residual-in_err-append-2.result _ c.from_residual-in_err-append-2.ensures.1

pub returns-in_err-append-3-clause-ok : goal.returns-in_err-append-3-clause-ok
returns-in_err-append-3-clause-ok c = ok_at_err _ c.from_residual-in_err-append-3.result _ c.from_residual-in_err-append-3.ensures.1

pub returns-in_err-append-2-clause-fault : goal.returns-in_err-append-2-clause-fault
returns-in_err-append-2-clause-fault c = same_at_err c.from_residual-in_err-append-2.result _ _ c.from_residual-in_err-append-2.ensures.1 c.in_err-append-2.ensures.fault

pub returns-in_err-append-3-clause-fault : goal.returns-in_err-append-3-clause-fault
returns-in_err-append-3-clause-fault c = same_at_err c.from_residual-in_err-append-3.result _ _ c.from_residual-in_err-append-3.ensures.1 c.in_err-append-3.ensures.fault

pub returns-clause-fault : goal.returns-clause-fault
returns-clause-fault c = tt
