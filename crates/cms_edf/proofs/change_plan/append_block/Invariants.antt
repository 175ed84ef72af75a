use Rattle.std.proofs.Common.{◌≡◌, ◌-◌, ◌++◌, map}
use Rattle.std.specs.List.{concat, range_with_len}
use Rattle.cms_edf.specs.DirectoryFields.{field_at}
use Rattle.cms_edf.proofs.change_plan.append_block.Given as goal

abbrev pub invariant-loop-number : goal.invariant-loop-number
invariant-loop-number l =
    l.into.items ≡ l.fn.into.items ++ concat (map (field_at l.fields.directory l.fields.map l.entries) (range_with_len l.first (l.number - l.first)))
