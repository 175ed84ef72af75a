use Rattle.std.proofs.Common.{rules, ◌≡◌, ◌+◌, ◌-◌, ◌*◌, ℕ, List, take, drop, sym, subst, ap, ◌∙◌, arith}
use Rattle.cms_disk.specs.Cursors.{AreAhead, Cursor, HasLeft}
use Rattle.cms_disk.proofs.Runs.{is_run}
use Rattle.cms_disk.specs.contracts.cursor.Cursor.{the_view}
use Rattle.cms_disk.proofs.cursor.Cursor.run.Goals as goal

pub returns : goal.returns
returns c = λ image records left.
    let v = c.self.inside in
    let view = c.self.view_is in
    let bytes = c.args.count * c.args.size in
    let at : AreAhead (the_view v) c.args.size c.args.count = subst (λ (r : Cursor). AreAhead r c.args.size c.args.count) (sym view) c.requires in
    let size : v.from + bytes - v.from ≡ bytes = omega arith in
    let there : c.deref.result.now ≡ v.block.items = search rules in
    is_run image (the_view v) c.args.size c.args.count records c.self.invariant.reading.held.block at (subst (λ (r : Cursor). HasLeft image r records) (sym view) left) _
    (ap (λ (n : ℕ). take n (drop v.from c.deref.result.now)) size ∙ ap (λ (l : List ℕ). take bytes (drop v.from l)) there)
