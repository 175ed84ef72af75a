use Rattle.std.proofs.lemmas.Result.{IfOk-weaker}
use Rattle.cms_listfile.proofs.ShortLines.{name_short}
use Rattle.cms_listfile.proofs.line.ListedFile.to_name.Goals as goal

pub returns-clause-short : goal.returns-clause-short
returns-clause-short c =
    IfOk-weaker c.first_column.result _ _ (λ line is. name_short line.items c.as_bytes.result.now c.args.self.now.info.name.file is c.as_bytes.ensures.value c.as_bytes.ensures.part)
    c.first_column.ensures
