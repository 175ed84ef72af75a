use Rattle.std.proofs.Common.{arith}
use Rattle.std.proofs.lemmas.Result.{IfOk-weaker}
use Rattle.cms_listfile.proofs.line.ListedFile.columns_to.Goals as goal

pub returns-in-Name-clause-short : goal.returns-in-Name-clause-short
returns-in-Name-clause-short c = IfOk-weaker c.to_name.result _ _ (λ line few. omega (arith, few)) c.to_name.ensures.short

pub returns-in-Kind-clause-short : goal.returns-in-Kind-clause-short
returns-in-Kind-clause-short c = IfOk-weaker c.to_kind.result _ _ (λ line few. omega (arith, few)) c.to_kind.ensures.short

pub returns-in-Mode-clause-short : goal.returns-in-Mode-clause-short
returns-in-Mode-clause-short c = IfOk-weaker c.to_mode.result _ _ (λ line few. omega (arith, few)) c.to_mode.ensures.short

pub returns-in-Format-clause-short : goal.returns-in-Format-clause-short
returns-in-Format-clause-short c = IfOk-weaker c.to_format.result _ _ (λ line few. omega (arith, few)) c.to_format.ensures.short

pub returns-in-Alloc-clause-short : goal.returns-in-Alloc-clause-short
returns-in-Alloc-clause-short c = IfOk-weaker c.to_alloc.result _ _ (λ line few. omega (arith, few)) c.to_alloc.ensures.short

pub returns-in-Date-clause-short : goal.returns-in-Date-clause-short
returns-in-Date-clause-short c = IfOk-weaker c.to_date.result _ _ (λ line few. omega (arith, few)) c.to_date.ensures.short
