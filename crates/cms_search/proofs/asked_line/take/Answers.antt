use Rattle.std.proofs.Common.{refl}
use Rattle.cms_search.proofs.Talks.{took, stayed}
use Rattle.cms_search.proofs.asked_line.take.Goals as goal

pub returns-in-Ok-clause-talks : goal.returns-in-Ok-clause-talks
returns-in-Ok-clause-talks g c = took _ _ _ _ c.in-Ok.line c.in-Ok.ensures.ok c.in-Ok.ensures.faults c.in-Ok.ensures.cause.later

pub returns-in-Err-World-clause-talks : goal.returns-in-Err-World-clause-talks
returns-in-Err-World-clause-talks g c =
    let got = c.in-Err-World.ensures in
    stayed _ _ _ _ _ got.err got.faults got.cause.later (λ edge. got.cause.rose (let is = c.in-Err-World.field-0-is in rw is refl))

pub returns-in-Err-Memory-clause-talks : goal.returns-in-Err-Memory-clause-talks
returns-in-Err-Memory-clause-talks g c =
    let got = c.in-Err-Memory.ensures in
    stayed _ _ _ _ _ got.err got.faults got.cause.later (λ edge. absurd (cc))
