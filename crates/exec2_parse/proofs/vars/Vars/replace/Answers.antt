use Rattle.std.proofs.Common.{◌≡◌, ◌∙◌, sym, ap}
use Rattle.std.specs.Prelude.{None}
use Rattle.std.specs.FinMap as finite
use Rattle.std.proofs.lemmas.Result.{err_from_is_err_and}
use Rattle.exec2_parse.proofs.Finite.{answers, sets}
use Rattle.exec2_parse.proofs.vars.Vars.replace.Goals as goal

pub returns-clause-ok : goal.returns-clause-ok
returns-clause-ok c =
    sets c.args.self.now c.self.inside.values.entries c.insert.new.self.entries c.into_bytes.result.items c.args.value c.self.view_is c.in_ok-insert.ensures.updates.1
    c.in_ok-insert.ensures.updates.3
    ∙ ap (λ name. finite.insert c.args.self.now name c.args.value) c.into_bytes.ensures.bytes

pub returns-clause-before : goal.returns-clause-before
returns-clause-before c =
    c.in_ok-insert.ensures.old ∙ answers c.args.self.now c.self.inside.values.entries c.into_bytes.result.items c.self.view_is
    ∙ ap (finite.get c.args.self.now) c.into_bytes.ensures.bytes

pub returns-in_err-insert-clause-new : goal.returns-in_err-insert-clause-new
returns-in_err-insert-clause-new c =
    let none : finite.get c.args.self.now c.args.name ≡ None = ap (finite.get c.args.self.now) (sym c.into_bytes.ensures.bytes)
    ∙ sym (answers c.args.self.now c.self.inside.values.entries c.into_bytes.result.items c.self.view_is) ∙ c.in_err-insert.ensures.absent in
    let p = err_from_is_err_and c.from_residual.result c.from_residual.ensures.1 in
    rw p.1 none
