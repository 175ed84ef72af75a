use Rattle.std.proofs.Common.{◌∙◌}
use Rattle.cms_copyfile.proofs.FilesFound.{found_named, found_none}
use Rattle.cms_copyfile.proofs.named_files.named_file.Goals as goal

pub returns-in_err-info : goal.returns-in_err-info
returns-in_err-info c = c.from_residual.ensures ∙ found_none c.args.table.now c.args.found c.in_err-info.ensures

pub returns : goal.returns
returns c = found_named c.args.table.now c.args.found c.in_ok-info.info c.in_ok-info.ensures
