use Rattle.cms_held.proofs.FilePuts.{fresh_new, fresh_drafting}
use Rattle.cms_held.proofs.file_writer.FileWriter.new.Goals as goal

pub returns : goal.returns
returns c = fresh_new c.args.unit c.args.bsize c.pointer_size.result c.args.shape.now c.args.tree c.in_ok-writer.writer c.pointer_size.ensures c.requires.some c.in_ok-writer.ensures

pub invariant_of-result : goal.invariant_of-result
invariant_of-result c =
    fresh_drafting c.args.unit c.args.bsize c.pointer_size.result c.args.shape.now c.args.tree c.in_ok-writer.writer c.pointer_size.ensures c.requires.records c.in_ok-writer.ensures
