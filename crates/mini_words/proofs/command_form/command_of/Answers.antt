use Rattle.std.proofs.lemmas.Result.{IfOk-weaker}
use Rattle.clap.specs.Words.{new_app}
use Rattle.mini_words.proofs.Forms.{args_added}
use Rattle.mini_words.proofs.command_form.command_of.Goals as goal

pub returns : goal.returns
returns c =
    let form = c.args.form.now in
    IfOk-weaker c.args-2.result _ _ (λ whole adds. args_added c.in_ok-args.args.items form.arguments.now c.new_command.result whole (new_app form.name.now) adds c.in_ok-args.ensures c.new_command.ensures) c.args-2.ensures
