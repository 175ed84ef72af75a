use Rattle.std.proofs.Common.{sym}
use Rattle.cms_files.proofs.Records.{no_longest}
use Rattle.cms_files.proofs.gathered.first_length.Goals as goal

pub returns-in-V : goal.returns-in-V
returns-in-V c = let is = c.in-V.is in rw is (sym no_longest)
