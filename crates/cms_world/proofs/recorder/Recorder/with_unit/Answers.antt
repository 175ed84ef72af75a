use Rattle.std.proofs.Common.{◌≡◌, ◌∙◌, ◌<◌, ℕ, List, length, subst, sym, ap, reverse, true, false, bytes_eq}
use Rattle.std.proofs.lemmas.Result.{IfOk-weaker}
use Rattle.std.specs.List.{concat}
use Rattle.cms_journal.specs.Journal.{Journal}
use Rattle.cms_world.specs.Images.{over, with_unit}
use Rattle.cms_world.proofs.Records.{current_at, journal}
use Rattle.cms_world.proofs.UnitImages.{with_unit_named, with_unit_other}
use Rattle.cms_world.proofs.recorder.Recorder.with_unit.Goals as goal

pub index-requires-then-eq : goal.index-requires-then-eq
index-requires-then-eq c =
    subst (λ (n : ℕ). c.args.number < n) (sym (c.self.inside.current.ok.0 ∙ c.self.invariant.same_length)) (subst (λ (j : Journal). c.args.number < length j.units) (sym c.self.view_is) c.requires)

pub returns-then-eq : goal.returns-then-eq
returns-then-eq c =
    let a = c.args in
    let i = c.self.inside in
    let within = subst (λ (j : Journal). a.number < length j.units) (sym c.self.view_is) c.requires in
    let held = current_at _ _ _ _ a.number _ within c.self.invariant c.index-then-eq.ensures in
    let named : bytes_eq c.index.result.now.name a.name.now ≡ true = cc (c.bytes.ensures, c.as_bytes.ensures.value, c.eq.ensures, c.if-eq.true) in
    let same = with_unit_named (journal i.units.items (reverse i.events.items)) a.number c.index.result.now c.index-then-eq.result.now a.name.now a.bytes.items within c.index.ensures named held
    ∙ ap (λ (j : Journal). with_unit j a.number a.name.now a.bytes.items) c.self.view_is in
    let bytes = ap (λ (bytes : List ℕ). over (concat c.index-then-eq.result.now) bytes) c.deref.ensures.value in
    IfOk-weaker c.overlaid.result _ _ (λ written is. is ∙ (bytes ∙ same)) c.overlaid.ensures

pub returns-else-eq : goal.returns-else-eq
returns-else-eq c =
    let a = c.args in
    let i = c.self.inside in
    let within = subst (λ (j : Journal). a.number < length j.units) (sym c.self.view_is) c.requires in
    let named : bytes_eq c.index.result.now.name a.name.now ≡ false = cc (c.bytes.ensures, c.as_bytes.ensures.value, c.eq.ensures, c.if-eq.false) in
    with_unit_other (journal i.units.items (reverse i.events.items)) a.number c.index.result.now a.name.now a.bytes.items within c.index.ensures named
    ∙ ap (λ (j : Journal). with_unit j a.number a.name.now a.bytes.items) c.self.view_is
