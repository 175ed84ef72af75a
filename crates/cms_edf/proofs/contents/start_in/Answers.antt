use Rattle.std.proofs.Common.{rules}
use Rattle.cms_edf.proofs.RecordStarts.{none_starts, starts_told}
use Rattle.cms_edf.proofs.contents.start_in.Goals as goal

pub returns-then-stored-bytes-eq0 : goal.returns-then-stored-bytes-eq0
returns-then-stored-bytes-eq0 c = λ count bytes records size fed read is. none_starts c.args.bsize c.bytes.result c.args.stored records c.bytes.ensures.value (search rules) is

pub returns-else-stored-bytes-eq0 : goal.returns-else-stored-bytes-eq0
returns-else-stored-bytes-eq0 c = λ count bytes records size fed read is.
    starts_told c.args.bsize c.bytes.result c.args.stored c.last_start.result c.args.scan.now size c.bytes.ensures.value (search rules) (search rules) c.last_start.ensures count bytes records fed read is
