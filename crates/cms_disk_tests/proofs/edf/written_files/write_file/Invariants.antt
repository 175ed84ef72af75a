use Rattle.cms_edf.specs.FileDrafts.{IsSomeDraft}
use Rattle.cms_disk_tests.proofs.edf.written_files.write_file.Given as goal

abbrev pub invariant-loop-text : goal.invariant-loop-text
invariant-loop-text l = IsSomeDraft l.held.volume l.draft
