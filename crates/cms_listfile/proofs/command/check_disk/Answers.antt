use Rattle.cms_listfile.proofs.FilesFound.{disk_checked}
use Rattle.cms_listfile.proofs.command.check_disk.Goals as goal

pub returns-in-Written-clause-disk : goal.returns-in-Written-clause-disk
returns-in-Written-clause-disk c = λ s shows. let is = c.in-Written.is in rw is (disk_checked c.args.table.now s 0 c.find_write.result shows c.find_write.ensures)
