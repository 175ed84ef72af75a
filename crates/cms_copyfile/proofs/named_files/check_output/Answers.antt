use Rattle.cms_copyfile.proofs.FilesFound.{output_checked}
use Rattle.cms_copyfile.proofs.named_files.check_output.Goals as goal

pub returns-in-Some : goal.returns-in-Some
returns-in-Some c = λ s shows. let is = c.in-Some.is in rw is (output_checked c.args.table.now s c.in-Some.mode c.find_write.result shows c.find_write.ensures)
