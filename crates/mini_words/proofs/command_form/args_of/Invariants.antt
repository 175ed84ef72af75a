use Rattle.std.proofs.Common.{◌≡◌, ◌≤◌, length, map, take, vec_capacity, vec_len}
use Rattle.mini_words.proofs.Forms.{taken_for, taken_of}
use Rattle.mini_words.proofs.command_form.args_of.Given as goal

abbrev pub invariant-loop-argument : goal.invariant-loop-argument
invariant-loop-argument l = record {
  made : map taken_of l.args.items ≡ map taken_for (take l.argument-index l.arguments);
  count : vec_len l.args ≡ l.argument-index;
  room : length l.arguments ≤ vec_capacity l.args;
}
