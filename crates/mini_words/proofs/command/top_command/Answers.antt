use Rattle.std.specs.Prelude.{codes}
use Rattle.mini_words.proofs.Forms.{has_no_help, has_version, requires_subcommand, set_top}
use Rattle.mini_words.proofs.command.top_command.Goals as goal

pub returns : goal.returns
returns c =
    let named = c.new_command.result in
    let versioned = c.version.result in
    let required = c.subcommand_required.result in
    let whole = c.disable_help_subcommand.result in
    set_top named versioned required whole (codes "minidisk") c.new_command.ensures (has_version named versioned _ c.version.ensures)
    (requires_subcommand versioned required c.subcommand_required.ensures) (has_no_help required whole c.disable_help_subcommand.ensures)
