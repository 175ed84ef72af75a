use Rattle.std.proofs.Common.{Some, ap, refl}
use Rattle.std.proofs.lemmas.Bool.{false≢true, true≢false}
use Rattle.mini_host.specs.Files.{drafted}
use Rattle.mini_host.specs.Memory.{files_of}
use Rattle.mini_host.specs.declared.content.Draft.{Draft}
use Rattle.mini_host.proofs.Calls.{same_count}
use Rattle.mini_host.proofs.memory.MemHostHost.begin.Goals as goal

pub returns-then-not-goes-clause-may : goal.returns-then-not-goes-clause-may
returns-then-not-goes-clause-may c = tt

pub returns-then-not-goes-clause-begun : goal.returns-then-not-goes-clause-begun
returns-then-not-goes-clause-begun c = tt

pub returns-then-not-goes-clause-refused : goal.returns-then-not-goes-clause-refused
returns-then-not-goes-clause-refused c = tt

pub returns-then-not-goes-clause-failed : goal.returns-then-not-goes-clause-failed
returns-then-not-goes-clause-failed c = refl

pub returns-then-not-goes-clause-cause : goal.returns-then-not-goes-clause-cause
returns-then-not-goes-clause-cause c = record { later = c.counted.ensures.later; failed = c.counted.ensures.rose }

pub returns-then-not-goes-clause-called : goal.returns-then-not-goes-clause-called
returns-then-not-goes-clause-called c = record { calls = c.goes.ensures.calls; unplanned = tt; failing = c.goes.ensures.failing }

pub returns-then-is_taken-clause-begun : goal.returns-then-is_taken-clause-begun
returns-then-is_taken-clause-begun c = λ may. absurd (false≢true may)

pub returns-then-is_taken-clause-refused : goal.returns-then-is_taken-clause-refused
returns-then-is_taken-clause-refused c = λ may. refl

pub returns-then-is_taken-clause-failed : goal.returns-then-is_taken-clause-failed
returns-then-is_taken-clause-failed c = tt

pub returns-then-is_taken-clause-cause : goal.returns-then-is_taken-clause-cause
returns-then-is_taken-clause-cause c = record { later = same_count _; failed = tt }

pub returns-in-Ok-clause-begun : goal.returns-in-Ok-clause-begun
returns-in-Ok-clause-begun c = λ may. ap (λ (draft : Draft). Some (drafted (Some draft) (files_of c.args.self.now))) c.in-Ok.ensures

pub returns-in-Ok-clause-refused : goal.returns-in-Ok-clause-refused
returns-in-Ok-clause-refused c = λ may. absurd (true≢false may)

pub returns-in-Ok-clause-failed : goal.returns-in-Ok-clause-failed
returns-in-Ok-clause-failed c = tt

pub returns-in-Ok-clause-cause : goal.returns-in-Ok-clause-cause
returns-in-Ok-clause-cause c = record { later = same_count _; failed = tt }

pub returns-in-Err-clause-may : goal.returns-in-Err-clause-may
returns-in-Err-clause-may c = tt

pub returns-in-Err-clause-begun : goal.returns-in-Err-clause-begun
returns-in-Err-clause-begun c = tt

pub returns-in-Err-clause-refused : goal.returns-in-Err-clause-refused
returns-in-Err-clause-refused c = tt

pub returns-in-Err-clause-failed : goal.returns-in-Err-clause-failed
returns-in-Err-clause-failed c = refl

pub returns-in-Err-clause-cause : goal.returns-in-Err-clause-cause
returns-in-Err-clause-cause c = record { later = c.counted-in-Err.ensures.later; failed = c.counted-in-Err.ensures.rose }

pub returns-in-Err-clause-called : goal.returns-in-Err-clause-called
returns-in-Err-clause-called c = record { calls = c.goes.ensures.calls; unplanned = tt; failing = c.goes.ensures.failing }
