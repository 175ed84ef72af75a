use Rattle.std.proofs.Common.{w32}
use Rattle.std.proofs.lemmas.Int.{to_z-of_z}
use Rattle.cms_search.proofs.Ready.{ready_none, ready_some}
use Rattle.cms_search.proofs.output.say_ready.Goals as goal

pub returns-then-code-eq0 : goal.returns-then-code-eq0
returns-then-code-eq0 g c =
    let is = ready_none c.args.code c.ranges.code c.if-code-eq0.true in
    rw (← is) (c.say.ensures)

pub returns : goal.returns
returns g c =
    let same = to_z-of_z w32 c.args.code c.ranges.code in
    let are = rw same at c.ready_with.ensures in
    let is = ready_some c.args.code c.if-code-eq0.false in
    rw (← is, ← are) (c.say-2.ensures)
