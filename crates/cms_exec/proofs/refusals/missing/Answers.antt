use Rattle.cms_files.proofs.Found.{part_is_short}
use Rattle.cms_exec.proofs.refusals.missing.Goals as goal

pub of-requires : goal.of-requires
of-requires c = let is = c.as_bytes.ensures.value in rw is (part_is_short _ c.as_bytes.ensures.part)

pub of-requires-2 : goal.of-requires-2
of-requires-2 c = let is = c.as_bytes-2.ensures.value in rw is (part_is_short _ c.as_bytes-2.ensures.part)
