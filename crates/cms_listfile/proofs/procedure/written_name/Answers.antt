use Rattle.std.proofs.Common.{codes}
use Rattle.cms_text.specs.Texts.{coded}
use Rattle.cms_files.proofs.Parts.{is_read}
use Rattle.cms_listfile.proofs.Named.{cms_read, name_is}
use Rattle.cms_listfile.proofs.procedure.written_name.Goals as goal

pub unwrap-requires : goal.unwrap-requires
unwrap-requires c = is_read c.read.result (coded (codes "CMS")) (cms_read _ c.read.result c.read.ensures c.coded.ensures)

pub returns : goal.returns
returns c =
    name_is c.unwrap.result c.exec_kind.result c.read.result c.unwrap.ensures (cms_read _ c.read.result c.read.ensures c.coded.ensures) c.exec_kind.ensures
