use Rattle.mini_work.proofs.Caused.{failure_left, no_counts}
use Rattle.mini_work.proofs.output.say_fault.Goals as goal

pub returns-in-Err-Memory : goal.returns-in-Err-Memory
returns-in-Err-Memory g c = record { later = (c.refuse.ensures.cause no_counts).later.host; cause = λ e. absurd (cc e) }

pub returns-in_default-refuse : goal.returns-in_default-refuse
returns-in_default-refuse g c = record {
  later = (c.refuse.ensures.cause no_counts).later.host;
  cause = λ e. failure_left c.args.fault c.in_default.not-Memory;
}

pub returns-in_default-refuse-2 : goal.returns-in_default-refuse-2
returns-in_default-refuse-2 g c = record {
  later = (c.refuse.ensures.cause no_counts).later.host;
  cause = λ e. failure_left c.args.fault c.in_default.not-Memory;
}
