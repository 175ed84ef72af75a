use Rattle.std.proofs.Common.{◌≡◌, List, length, sym, ap, subst, ◌∙◌, ◌∷◌, [], ◌++◌, ◌<◌, ℕ, refl}
use Rattle.std.proofs.lemmas.List.{reverse-append}
use Rattle.cms_journal.specs.Journal.{Journal, HasBlock}
use Rattle.cms_journal.specs.declared.event.Attached.{Attached}
use Rattle.cms_world.proofs.Records.{record_wrote_at, record_read, HasBlock-within, view_more, view_same}
use Rattle.cms_journal.specs.declared.event.Event.TheVariants.{Wrote}
use Rattle.cms_world.proofs.Exits.{ok_at_err, holds_at_err}
use Rattle.cms_world.proofs.recorder.Recorder.add_write.Goals as goal

pub set-requires : goal.set-requires
set-requires c =
    let units : c.args.self.now.units ≡ c.self.inside.units.items = ap (λ (j : Journal). j.units) (sym c.self.view_is) in
    let has : HasBlock c.self.inside.units.items c.args.unit c.args.block (length c.args.bytes.now) =
    subst (λ (us : List Attached). HasBlock us c.args.unit c.args.block (length c.args.bytes.now)) units c.requires in
    (record_read _ _ _ _ _ _ _ _ has c.self.invariant c.index_mut.ensures.value).1

pub invariant_of-self-2 : goal.invariant_of-self-2
invariant_of-self-2 c =
    let units : c.args.self.now.units ≡ c.self.inside.units.items = ap (λ (j : Journal). j.units) (sym c.self.view_is) in
    let has : HasBlock c.self.inside.units.items c.args.unit c.args.block (length c.args.bytes.now) =
    subst (λ (us : List Attached). HasBlock us c.args.unit c.args.block (length c.args.bytes.now)) units c.requires in
    rw (c.in_ok-push.ensures.items, reverse-append, c.set.ensures, c.in_ok-written.ensures, c.in_ok-of.ensures)
    (record_wrote_at _ _ _ _ c.args.unit c.args.block c.args.bytes.now _ has c.self.invariant c.index_mut.ensures.value)

pub returns-in_err-written-clause-ok : goal.returns-in_err-written-clause-ok
returns-in_err-written-clause-ok c = ok_at_err _ c.from_residual.result _ c.from_residual.ensures.1

pub returns-in_err-written-clause-err : goal.returns-in_err-written-clause-err
returns-in_err-written-clause-err c = holds_at_err c.from_residual.result refl

pub invariant_of-self : goal.invariant_of-self
invariant_of-self c = c.self.invariant

pub returns-in_err-of-clause-ok : goal.returns-in_err-of-clause-ok
returns-in_err-of-clause-ok c = ok_at_err _ c.from_residual-in_err-of.result _ c.from_residual-in_err-of.ensures.1

pub returns-in_err-of-clause-err : goal.returns-in_err-of-clause-err
returns-in_err-of-clause-err c = holds_at_err c.from_residual-in_err-of.result c.self.view_is

pub invariant_of-self-in_err-push : goal.invariant_of-self-in_err-push
invariant_of-self-in_err-push c = rw c.in_err-push.ensures.items c.self.invariant

pub returns-in_err-push-clause-ok : goal.returns-in_err-push-clause-ok
returns-in_err-push-clause-ok c = ok_at_err _ c.from_residual-in_err-push.result _ c.from_residual-in_err-push.ensures.1

pub returns-in_err-push-clause-err : goal.returns-in_err-push-clause-err
returns-in_err-push-clause-err c =
    let i = c.self.inside in
    holds_at_err c.from_residual-in_err-push.result (view_same i.units.items _ i.events.items _ c.args.self.now refl c.in_err-push.ensures.items c.self.view_is)

pub index_mut-requires : goal.index_mut-requires
index_mut-requires c =
    let units : c.args.self.now.units ≡ c.self.inside.units.items = ap (λ (j : Journal). j.units) (sym c.self.view_is) in
    let has : HasBlock c.self.inside.units.items c.args.unit c.args.block (length c.args.bytes.now) =
    subst (λ (us : List Attached). HasBlock us c.args.unit c.args.block (length c.args.bytes.now)) units c.requires in
    subst (λ (n : ℕ). c.args.unit < n) (sym (c.self.inside.current.ok.0 ∙ c.self.invariant.same_length)) (HasBlock-within _ _ _ _ has).0

pub returns-clause-ok : goal.returns-clause-ok
returns-clause-ok c =
    let i = c.self.inside in
    let b = c.args in
    view_more i.units.items i.events.items _ (Wrote b.unit b.block b.bytes.now) b.self.now
    (c.in_ok-push.ensures.items ∙ ap (λ (x : List ℕ). i.events.items ++ Wrote b.unit b.block x ∷ []) c.in_ok-of.ensures) c.self.view_is
