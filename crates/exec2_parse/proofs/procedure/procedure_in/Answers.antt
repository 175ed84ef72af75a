use Rattle.std.proofs.Common.{◌≡◌, ◌∙◌, List}
use Rattle.std.proofs.lemmas.Result.{IfOk-from_err, IfOk-weaker}
use Rattle.cms_records.specs.Stored.{records_in}
use Rattle.cms_text.specs.Texts.{Text}
use Rattle.exec2_parse.specs.Procedures.{lines_of}
use Rattle.exec2_parse.specs.Statements.{lines_in}
use Rattle.exec2_parse.proofs.Procedures.{all_read, few_kept}
use Rattle.exec2_parse.proofs.procedure.procedure_in.Goals as goal

pub of-requires : goal.of-requires
of-requires c = few_kept c.args.file.now c.loop-record.statements.items c.requires.few
    (all_read (lines_in c.loop-record.statements.items) c.loop-record.record-iterator _ c.loop-record.invariant.lines c.in-None.ensures.steps.0)

pub returns-in_err-keep : goal.returns-in_err-keep
returns-in_err-keep c = IfOk-from_err c.from_residual.result _ c.from_residual.ensures.0

pub returns : goal.returns
returns c =
    let kept = lines_in c.loop-record.statements.items in
    let all = all_read kept c.loop-record.record-iterator (lines_of (records_in c.args.file.now)) c.loop-record.invariant.lines c.in-None.ensures.steps.0 in
    IfOk-weaker c.of.result (λ (p : List Text). p ≡ kept) (λ (p : List Text). p ≡ lines_of (records_in c.args.file.now)) (λ p is. is ∙ all) c.of.ensures
