use Rattle.std.proofs.Common.{rules, ◌*◌, arith}
use Rattle.cms_edf.specs.DirectoryFields.{field_at}
use Rattle.cms_edf.proofs.DirectoryBlocks.{fields_next}
use Rattle.cms_edf.proofs.change_plan.append_block.Goals as goal

pub loop-number-preserved : goal.loop-number-preserved
loop-number-preserved c =
    let l = c.loop-number in
    let a = c.args in
    fields_next (field_at a.fields.now.directory a.fields.now.map a.entries.now) a.into.now.items l.into.items c.extend_from_slice.new.self.items (a.block * a.each) l.number (omega arith) l.invariant (search rules)
