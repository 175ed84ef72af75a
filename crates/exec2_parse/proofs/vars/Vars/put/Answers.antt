use Rattle.std.proofs.Common.{◌≡◌, ◌∙◌, refl, sym, ap, subst, rules}
use Rattle.std.specs.Prelude.{Option, Some, None, IsSome}
use Rattle.std.specs.Option.{option_copied_mut}
use Rattle.std.specs.FinMap as finite
use Rattle.cms_text.specs.Texts.{Text}
use Rattle.exec2_parse.proofs.Finite.{answers, sets}
use Rattle.exec2_parse.proofs.vars.Vars.put.Goals as goal
use Rattle.exec2_parse.proofs.vars.Vars.put.Goals.{in-Some, in-None}

pub returns-clause-ok : goal.returns-clause-ok
returns-clause-ok c = elim c.match-get_mut.branch [
  | in-Some w ↦ rw (w.result-is, w.self-inside-is) (let u = (c.get_mut.follows.holds c.args.value).3 (search rules) in
      sets c.args.self.now c.self.inside.values.entries (c.get_mut.follows.lender c.args.value).entries c.args.name.now c.args.value c.self.view_is u.1 u.3)
  | in-None w ↦ rw w.result-is tt
]

pub returns-clause-set : goal.returns-clause-set
returns-clause-set c = elim c.match-get_mut.branch [
  | in-Some w ↦ rw w.result-is (let found : finite.get c.args.self.now c.args.name.now ≡ Some w.in-Some.place.now =
      sym (answers c.args.self.now c.self.inside.values.entries c.args.name.now c.self.view_is) ∙ sym c.get_mut.ensures.value ∙ ap option_copied_mut w.in-Some.is in
      subst (λ (o : Option Text). IsSome o) (sym found) refl)
  | in-None w ↦ rw w.result-is tt
]

pub returns-clause-unset : goal.returns-clause-unset
returns-clause-unset c = elim c.match-get_mut.branch [
  | in-Some w ↦ rw w.result-is tt
  | in-None w ↦ rw w.result-is (sym (answers c.args.self.now c.self.inside.values.entries c.args.name.now c.self.view_is) ∙ sym c.get_mut.ensures.value
      ∙ ap option_copied_mut w.in-None.is)
]
