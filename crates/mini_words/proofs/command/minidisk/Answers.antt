use Rattle.std.proofs.Common.{subst}
use Rattle.std.proofs.lemmas.Result.{IfOk-weaker}
use Rattle.mini_words.specs.Commands.{HasForm, top_form}
use Rattle.mini_words.proofs.Forms.{commands_added}
use Rattle.mini_words.proofs.command.minidisk.Goals as goal

pub returns : goal.returns
returns c = IfOk-weaker c.subcommands.result _ _ (λ new adds.
    subst (HasForm new) c.forms.ensures.all (commands_added c.in_ok-commands.commands.items c.forms.result.now c.top_command.result new top_form adds c.in_ok-commands.ensures c.forms.ensures.plain c.top_command.ensures)) c.subcommands.ensures
