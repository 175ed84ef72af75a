use Rattle.std.proofs.Common.{◌+◌, ℕ, Bool, ap, ap₂, arith}
use Rattle.clap.specs.Words.{Rule}
use Rattle.mini_words.proofs.Forms.{all_made, one_made, taken_for, taken_of}
use Rattle.mini_words.proofs.command_form.args_of.Goals as goal

pub loop-argument-preserved : goal.loop-argument-preserved
loop-argument-preserved c = record {
  made = one_made taken_of taken_for c.loop-argument.args.items c.push_reserved.new.self.items c.arg_of.result c.args.arguments.now c.loop-argument.argument-index _
      c.push_reserved.ensures.items c.loop-argument-test.true (ap₂ (λ (r : Rule) (b : Bool). (r, b)) c.arg_of.ensures.rule c.arg_of.ensures.local) c.loop-argument.invariant.made;
  count = rw c.push_reserved.ensures.len (ap (λ (n : ℕ). n + 1) c.loop-argument.invariant.count);
  room = rw c.push_reserved.ensures.capacity c.loop-argument.invariant.room;
}

pub returns : goal.returns
returns c = all_made taken_of taken_for c.loop-argument.args.items c.args.arguments.now c.loop-argument.argument-index (omega arith) c.loop-argument.invariant.made
