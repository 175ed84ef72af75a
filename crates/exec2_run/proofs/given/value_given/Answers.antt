use Rattle.std.proofs.Common.{◌∙◌, ap, sym}
use Rattle.std.proofs.lemmas.Result.{IfOk-weaker}
use Rattle.exec2_run.specs.Given.{value_given}
use Rattle.exec2_run.proofs.given.value_given.Goals as goal

pub returns-in-Filetype : goal.returns-in-Filetype
returns-in-Filetype c =
    IfOk-weaker c.of-in-Filetype.result _ _ (λ value is. is ∙ (c.bytes-in-Filetype.ensures.bytes ∙ ap (value_given c.args.start.now c.args.at.now) (sym c.in-Filetype.is))) c.of-in-Filetype.ensures

pub returns-in-Filemode : goal.returns-in-Filemode
returns-in-Filemode c =
    IfOk-weaker c.of-in-Filemode.result _ _ (λ value is. is ∙ (c.bytes-in-Filemode.ensures.bytes ∙ ap (value_given c.args.start.now c.args.at.now) (sym c.in-Filemode.is))) c.of-in-Filemode.ensures

pub returns-in-Argstring : goal.returns-in-Argstring
returns-in-Argstring c =
    IfOk-weaker c.of-in-Argstring.result _ _ (λ value is. is ∙ (c.bytes-in-Argstring.ensures.bytes ∙ ap (value_given c.args.start.now c.args.at.now) (sym c.in-Argstring.is))) c.of-in-Argstring.ensures

pub returns-in-Cmdstring : goal.returns-in-Cmdstring
returns-in-Cmdstring c =
    IfOk-weaker c.of-in-Cmdstring.result _ _ (λ value is. is ∙ (c.bytes-in-Cmdstring.ensures.bytes ∙ ap (value_given c.args.start.now c.args.at.now) (sym c.in-Cmdstring.is))) c.of-in-Cmdstring.ensures

pub returns-in-Blank : goal.returns-in-Blank
returns-in-Blank c = IfOk-weaker c.of-in-Blank.result _ _ (λ value is. is ∙ ap (value_given c.args.start.now c.args.at.now) (sym c.in-Blank.is)) c.of-in-Blank.ensures

pub returns-in-Depth : goal.returns-in-Depth
returns-in-Depth c = IfOk-weaker c.numeral-in-Depth.result _ _ (λ value is. is ∙ ap (value_given c.args.start.now c.args.at.now) (sym c.in-Depth.is)) c.numeral-in-Depth.ensures

pub returns-in-From : goal.returns-in-From
returns-in-From c = IfOk-weaker c.decimal-in-From.result _ _ (λ value is. is ∙ ap (value_given c.args.start.now c.args.at.now) (sym c.in-From.is)) c.decimal-in-From.ensures

pub returns-in-Date : goal.returns-in-Date
returns-in-Date c = IfOk-weaker c.date.result _ _ (λ value is. is ∙ ap (value_given c.args.start.now c.args.at.now) (sym c.in-Date.is)) c.date.ensures

pub returns-in-Time : goal.returns-in-Time
returns-in-Time c = IfOk-weaker c.time.result _ _ (λ value is. is ∙ ap (value_given c.args.start.now c.args.at.now) (sym c.in-Time.is)) c.time.ensures
