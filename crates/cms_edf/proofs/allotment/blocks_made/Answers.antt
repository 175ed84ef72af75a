use Rattle.std.proofs.Common.{ap, sym, ◌∙◌}
use Rattle.std.specs.List.{range_with_len}
use Rattle.std.proofs.lemmas.Result.{IfOk-weaker}
use Rattle.cms_model.proofs.Centuries.{blocks_all}
use Rattle.cms_edf.proofs.allotment.blocks_made.Goals as goal

pub returns-in-Entries : goal.returns-in-Entries
returns-in-Entries c = rw c.in-Entries.is c.blocks_with.ensures

-- every data block has entries
pub returns-in-Whole : goal.returns-in-Whole
returns-in-Whole c =
    rw c.in-Whole.is (IfOk-weaker c.first_numbers.result _ _
    (λ v is. is ∙ (ap (range_with_len 0) c.directory_count.ensures.count ∙ sym (blocks_all c.args.bsize c.args.files c.directory_count.ensures.size))) c.first_numbers.ensures)
