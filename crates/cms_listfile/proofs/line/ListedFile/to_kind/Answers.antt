use Rattle.cms_listfile.proofs.ShortLines.{part_short}
use Rattle.cms_listfile.proofs.line.ListedFile.to_kind.Goals as goal

pub add_text-requires : goal.add_text-requires
add_text-requires c = rw c.as_bytes.ensures.value (part_short c.args.self.now.info.name.kind c.as_bytes.ensures.part)
