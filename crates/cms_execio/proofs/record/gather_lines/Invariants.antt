use Rattle.std.proofs.Common.{take}
use Rattle.cms_files.specs.Gathered.{IsGathered}
use Rattle.cms_execio.specs.Records.{records_of}
use Rattle.cms_execio.proofs.record.gather_lines.Given as goal

abbrev pub invariant-loop-line : goal.invariant-loop-line
invariant-loop-line l = IsGathered l.fn.format l.size (records_of l.fn.format l.size (take l.line-index l.lines)) l.gathered
