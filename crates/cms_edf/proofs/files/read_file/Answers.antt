use Rattle.cms_edf.proofs.FileTrees.{file_pointers}
use Rattle.cms_edf.proofs.files.read_file.Goals as goal

pub returns-clause-pointers : goal.returns-clause-pointers
returns-clause-pointers g c = file_pointers c.args.place.now c.args.holder c.args.entry.now c.file_at.result c.tree_of.result c.file_at.ensures c.tree_of.ensures.pointers
