use Rattle.std.proofs.Common.{map, take}
use Rattle.cms_files.specs.Gathered.{IsGathered, record_in}
use Rattle.cms_ext.proofs.file_write.gather.Given as goal

abbrev pub invariant-loop-record : goal.invariant-loop-record
invariant-loop-record l = IsGathered l.fn.form.format l.fn.form.length (map (record_in l.fn.form.format l.fn.form.length) (take l.record-index l.records)) l.gathered
