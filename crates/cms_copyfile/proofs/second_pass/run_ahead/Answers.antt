use Rattle.std.proofs.Common.{rules, arith, subst}
use Rattle.cms_held.specs.declared.shape.DraftShape.{DraftShape}
use Rattle.cms_disk.specs.Cursors.{AreAhead}
use Rattle.cms_copyfile.specs.Copies.{KeepsAll}
use Rattle.cms_copyfile.proofs.second_pass.run_ahead.Goals as goal

pub returns : goal.returns
returns c = λ some.
    let same = c.shape-shape.ensures in
    let few = c.ahead.ensures.few in
    let left = c.left.ensures in
    let room = c.records_left.ensures in
    record {
      all = subst (λ (s : DraftShape). KeepsAll c.args.plan.now s c.args.place) same (c.keeps_all.ensures (search rules));
      ahead = subst (λ (s : DraftShape). AreAhead c.args.cursor.now s.length c.ahead.result) same (c.ahead.ensures.ahead some);
      wanted = omega (arith, few, some);
      more = omega (arith, few, left, some);
      fewer = omega (arith, few, room);
    }
