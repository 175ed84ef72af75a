use Rattle.std.proofs.Common.{◌≡◌, ◌≤◌, length, map, take, vec_capacity, vec_len}
use Rattle.clap.specs.Words.{app_of}
use Rattle.mini_words.specs.Commands.{form_for}
use Rattle.mini_words.proofs.command_form.commands_of.Given as goal

abbrev pub invariant-loop-form : goal.invariant-loop-form
invariant-loop-form l = record {
  made : map app_of l.commands.items ≡ map form_for (take l.form-index l.forms);
  count : vec_len l.commands ≡ l.form-index;
  room : length l.forms ≤ vec_capacity l.commands;
}
