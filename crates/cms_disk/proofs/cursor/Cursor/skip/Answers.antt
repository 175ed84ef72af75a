use Rattle.std.proofs.Common.{rules, ◌≤◌, ◌*◌, sym, subst, arith, mul-le-mul_right}
use Rattle.cms_disk.specs.Cursors.{Cursor, HasLeft, IsUnread}
use Rattle.cms_disk.proofs.Skipped.{skipped}
use Rattle.cms_disk.specs.contracts.cursor.Cursor.{the_view}
use Rattle.cms_disk.proofs.cursor.Cursor.skip.Goals as goal

pub overflow_mul-place : goal.overflow_mul-place
overflow_mul-place c =
    let v = c.self.inside in
    let count = c.ranges.count in
    let short = c.self.invariant.reading.lengths.short in
    let longest = c.self.invariant.longest in
    let few : c.args.count * v.longest ≤ 4294967295 * v.longest = mul-le-mul_right v.longest (omega (arith, count)) in
    omega (arith, few, short, longest)

pub returns-clause-records : goal.returns-clause-records
returns-clause-records c = λ image records left.
    let v = c.self.inside in
    let w = the_view v in
    let view = c.self.view_is in
    let sound = c.self.invariant.reading in
    skipped image w c.args.count _ _ _ records (subst IsUnread (sym view) c.requires.unread) sound.some sound.held.block (search rules) (search rules) (search rules) (search rules)
    (subst (λ (r : Cursor). HasLeft image r records) (sym view) left)
