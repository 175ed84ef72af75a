use Rattle.std.proofs.Common.{◌+◌, ℕ, ap, arith}
use Rattle.clap.specs.Words.{app_of}
use Rattle.mini_words.specs.Commands.{form_for}
use Rattle.mini_words.proofs.Forms.{all_made, one_made}
use Rattle.mini_words.proofs.command_form.commands_of.Goals as goal

pub loop-form-preserved : goal.loop-form-preserved
loop-form-preserved c = record {
  made = one_made app_of form_for c.loop-form.commands.items c.push_reserved.new.self.items c.in_ok-command_of.field-0 c.args.forms.now c.loop-form.form-index _
      c.push_reserved.ensures.items c.loop-form-test.true c.in_ok-command_of.ensures.app c.loop-form.invariant.made;
  count = rw c.push_reserved.ensures.len (ap (λ (n : ℕ). n + 1) c.loop-form.invariant.count);
  room = rw c.push_reserved.ensures.capacity c.loop-form.invariant.room;
}

pub returns : goal.returns
returns c = all_made app_of form_for c.loop-form.commands.items c.args.forms.now c.loop-form.form-index (omega arith) c.loop-form.invariant.made
