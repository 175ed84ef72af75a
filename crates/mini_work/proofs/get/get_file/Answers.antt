use Rattle.mini_work.specs.Causes.{counts}
use Rattle.mini_work.proofs.Caused.{end_done, end_then}
use Rattle.std.proofs.Common.{◌≡◌, ◌∙◌, Bool, Ok, false, subst, true}
use Rattle.std.proofs.lemmas.Result.{on_ok_weaker}
use Rattle.mini_work.proofs.GotOut.{begun_noted, gets_done, gets_nothing, on_ok_said}
use Rattle.mini_work.specs.HandedFiles.{Hands, shown_in}
use Rattle.mini_work.proofs.get.get_file.Goals as goal

pub hand_out-requires-clause-blocks : goal.hand_out-requires-clause-blocks
hand_out-requires-clause-blocks g c = c.requires.may.0

pub returns-in-Ok-true : goal.returns-in-Ok-true
returns-in-Ok-true g c = record {
  gets = λ m s.
      let yes : c.in-Ok-true.field-0 ≡ true = c.in-Ok-true.field-0-test in
      gets_done c.args.way _ _ _ _ (shown_in c.args.form m c.args.name.now)
      (subst (λ (b : Bool). Hands c.args.way (g.W.World.told c.args.world.now) (g.W.World.told c.hand_out.new.world) (g.H.Host.told c.args.host.now)
      (g.H.Host.told c.hand_out.new.host) (shown_in c.args.form m c.args.name.now) (Ok b)) yes (c.in-Ok-true.ensures.hands m s));
  grown = c.in-Ok-true.ensures.grown;
  files = c.in-Ok-true.ensures.files;
  begun = c.in-Ok-true.ensures.begun;
  cause = λ m s. end_done _ _ (c.in-Ok-true.ensures.cause m s).later;
}

pub returns-in-Ok-false : goal.returns-in-Ok-false
returns-in-Ok-false g c = record {
  gets = λ m s.
      let no : c.in-Ok-false.field-0 ≡ false = c.in-Ok-false.field-0-test in
      gets_nothing c.args.way (g.W.World.told c.args.world.now) (g.W.World.told c.hand_out.new.world) (g.H.Host.told c.args.host.now)
      (g.H.Host.told c.hand_out.new.host) (g.H.Host.told c.refuse_lines.new.host) (shown_in c.args.form m c.args.name.now) c.refuse_lines.result
      (subst (λ (b : Bool). Hands c.args.way (g.W.World.told c.args.world.now) (g.W.World.told c.hand_out.new.world) (g.H.Host.told c.args.host.now)
      (g.H.Host.told c.hand_out.new.host) (shown_in c.args.form m c.args.name.now) (Ok b)) no (c.in-Ok-false.ensures.hands m s)) c.refuse_lines.ensures.refused c.refuse_lines.ensures.noted;
  grown = c.in-Ok-false.ensures.grown;
  files = on_ok_said c.refuse_lines.result (c.refuse_lines.ensures.files ∙ c.in-Ok-false.ensures.files);
  begun = on_ok_weaker c.refuse_lines.result (λ noted file. begun_noted (g.H.Host.told c.hand_out.new.host) (g.H.Host.told c.refuse_lines.new.host) noted (c.in-Ok-false.ensures.begun file)) c.refuse_lines.ensures.noted;
  cause = λ m s. let at = counts g.W.World g.H.Host in end_then _ _ _ _ (c.in-Ok-false.ensures.cause m s).later (c.refuse_lines.ensures.cause (at c.hand_out.new.world c.hand_out.new.host));
}

pub returns-in-Err : goal.returns-in-Err
returns-in-Err g c = record {
  gets = λ m s. c.in-Err.ensures.hands m s;
  grown = c.in-Err.ensures.grown;
  files = tt;
  begun = tt;
  cause = λ m s. let x = c.in-Err.ensures.cause m s in record { later = x.later; failed = x.failed };
}
