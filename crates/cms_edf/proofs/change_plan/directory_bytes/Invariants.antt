use Rattle.std.proofs.Common.{◌≡◌, map, take}
use Rattle.std.specs.List.{concat}
use Rattle.cms_edf.specs.DirectoryFields.{block_fields}
use Rattle.cms_edf.proofs.change_plan.directory_bytes.Given as goal

abbrev pub invariant-loop-block : goal.invariant-loop-block
invariant-loop-block l =
    l.bytes.items ≡ concat (map (block_fields l.fields.directory l.fields.map l.entries l.each) (take l.block-index l.places))
