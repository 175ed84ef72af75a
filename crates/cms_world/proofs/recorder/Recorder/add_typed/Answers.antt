use Rattle.std.proofs.lemmas.List.{reverse-append}
use Rattle.std.proofs.Common.{◌∙◌, ◌∷◌, [], ◌++◌, List, ℕ, refl, ap}
use Rattle.cms_world.proofs.Records.{record_typed, cut_back, view_more, view_same}
use Rattle.cms_journal.specs.declared.event.Event.TheVariants.{Typed}
use Rattle.cms_world.proofs.Exits.{ok_at_err, holds_at_err}
use Rattle.cms_world.proofs.recorder.Recorder.add_typed.Goals as goal
use Rattle.cms_world.proofs.recorder.Recorder.add_typed.Goals.{in-Ok, in-Err}

pub invariant_of-self-in-Ok : goal.invariant_of-self-in-Ok
invariant_of-self-in-Ok c =
    rw (c.in-Ok.ensures.items, reverse-append, c.in_ok-extend_from_slice.ensures.items, c.in_ok-copy.ensures)
    (record_typed _ _ c.args.bytes.now _ _ c.self.invariant)

pub returns-in_err-copy-clause-ok : goal.returns-in_err-copy-clause-ok
returns-in_err-copy-clause-ok c = ok_at_err _ c.from_residual.result _ c.from_residual.ensures.1

pub returns-in_err-copy-clause-err : goal.returns-in_err-copy-clause-err
returns-in_err-copy-clause-err c = holds_at_err c.from_residual.result refl

pub invariant_of-self : goal.invariant_of-self
invariant_of-self c = rw c.in_err-extend_from_slice.ensures.items c.self.invariant

pub returns-in_err-extend_from_slice-clause-ok : goal.returns-in_err-extend_from_slice-clause-ok
returns-in_err-extend_from_slice-clause-ok c = ok_at_err _ c.from_residual-in_err-extend_from_slice.result _ c.from_residual-in_err-extend_from_slice.ensures.1

pub returns-in_err-extend_from_slice-clause-err : goal.returns-in_err-extend_from_slice-clause-err
returns-in_err-extend_from_slice-clause-err c = holds_at_err c.from_residual-in_err-extend_from_slice.result c.self.view_is

pub invariant_of-self-in-Err : goal.invariant_of-self-in-Err
invariant_of-self-in-Err c =
    let back = cut_back c.self.inside.typed.items c.args.bytes.now c.extend_from_slice.new.self.items _ c.len-before.result c.in_ok-extend_from_slice.ensures.items (c.len-before.ensures ∙ c.self.inside.typed.ok.0) c.truncate.ensures.items in
    rw (back, c.in-Err.ensures.items) c.self.invariant

pub returns-clause-ok : goal.returns-clause-ok
returns-clause-ok c =
    let i = c.self.inside in
    elim c.match-push.branch [
      | in-Ok w ↦ rw w.result-is (w.self-is ∙ view_more i.units.items i.events.items _ (Typed c.args.bytes.now) c.args.self.now (w.in-Ok.ensures.items ∙ ap (λ (b : List ℕ). i.events.items ++ Typed b ∷ []) c.in_ok-copy.ensures) c.self.view_is)
      | in-Err w ↦ rw w.result-is tt
    ]

pub returns-clause-err : goal.returns-clause-err
returns-clause-err c =
    let i = c.self.inside in
    elim c.match-push.branch [
      | in-Ok w ↦ rw w.result-is tt
      | in-Err w ↦ rw w.result-is (w.self-is ∙ view_same i.units.items _ i.events.items _ c.args.self.now refl w.in-Err.ensures.items c.self.view_is)
    ]
