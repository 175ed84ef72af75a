use Rattle.std.proofs.Common.{refl, sym, subst}
use Rattle.cms_disk.specs.Cursors.{AreAhead, Cursor, HasLeft}
use Rattle.cms_disk.proofs.Runs.{run_passed}
use Rattle.cms_disk.specs.contracts.cursor.Cursor.{the_view}
use Rattle.cms_disk.proofs.cursor.Cursor.pass.Goals as goal

pub returns-clause-records : goal.returns-clause-records
returns-clause-records c = λ image records left.
    let v = c.self.inside in
    let view = c.self.view_is in
    let at : AreAhead (the_view v) c.args.size c.args.count = subst (λ (r : Cursor). AreAhead r c.args.size c.args.count) (sym view) c.requires in
    run_passed image (the_view v) c.args.size c.args.count records c.self.invariant.reading.held.block at (subst (λ (r : Cursor). HasLeft image r records) (sym view) left) _ _ refl refl
