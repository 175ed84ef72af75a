use Rattle.std.proofs.Common.{◌≡◌, ◌∙◌, ◌<◌, ◌⊎◌, ◌≢◌, [], ◌∷◌, ℕ, List, Option, Some, IfSome, IsTrue, not, false, length, slice_get, slice_set, take, refl, sym, ap, subst, inr, inl, ◌≤◌}
use Rattle.std.proofs.lemmas.Bool.{true≢false, false≢true}
use Rattle.std.proofs.lemmas.Option.{slice_get_read, slice_get_past}
use Rattle.cms_host.specs.Deeds.{Prints}
use Rattle.cms_host.specs.FileBytes.{HasBytes}
use Rattle.cms_host.specs.Units.{OnlyLoses, UnitDeeds}
use Rattle.cms_host.specs.declared.file_unit.FileUnit.{FileUnit}
use Rattle.cms_host.specs.declared.system.Deed.{Deed}
use Rattle.cms_host.specs.declared.system.Deed.TheVariants.{Synced}
use Rattle.cms_host.proofs.Printed.{done_behind}
use Rattle.cms_host.proofs.Found.{there_too, put_there, not_lost, only_loses}
use Rattle.cms_host.proofs.file_world.FileWorld.sync_unit.Goals as goal
use Rattle.cms_host.proofs.file_world.FileWorld.sync_unit.Goals.{else-not-synced-via-then-not-synced+else-not-was_lost, else-not-synced-via-else-not-synced}

pub returns-else-not-synced-clause-synced : goal.returns-else-not-synced-clause-synced
returns-else-not-synced-clause-synced g c =
    let inside : c.args.unit < length c.finish.new.self.units.items = subst (λ (n : ℕ). c.args.unit < n) (c.len.ensures ∙ c.finish.new.self.units.ok.0) c.if-place-len.false in
    let there : slice_get c.finish.new.self.units.items c.args.unit ≡ Some c.index.result.now = slice_get_read _ _ _ _ refl inside c.index.ensures in
    let none : c.finish.new.self.output ≡ [] = c.finish.ensures.all.0 c.if-not-finish.false in
    let deeds : IsTrue c.sync-synced.result → UnitDeeds c.args.self.now.units.items c.args.unit (λ (u : FileUnit). Synced u.file ∷ []) c.args.self.now.output c.finish.new.self.output (g.S.System.told c.args.self.now.system) (g.S.System.told c.sync-synced.new.system) =
    (λ went. record {
      of = c.index.result.now;
      found = there_too _ _ _ _ c.finish.ensures.units there;
      done = done_behind _ _ _ _ _ _ _ c.finish.ensures.prints none refl (c.sync-synced.ensures.synced went);
    }) in
    elim c.else-not-synced.branch [
      | else-not-synced-via-then-not-synced+else-not-was_lost w ↦ rw w.self-is deeds
      | else-not-synced-via-else-not-synced w ↦ rw w.self-is deeds
    ]

pub returns-else-not-synced-clause-believed : goal.returns-else-not-synced-clause-believed
returns-else-not-synced-clause-believed g c =
    let inside : c.args.unit < length c.finish.new.self.units.items = subst (λ (n : ℕ). c.args.unit < n) (c.len.ensures ∙ c.finish.new.self.units.ok.0) c.if-place-len.false in
    let there : slice_get c.finish.new.self.units.items c.args.unit ≡ Some c.index.result.now = slice_get_read _ _ _ _ refl inside c.index.ensures in
    λ went.
    let here : c.index.result.now.lost ≡ false = not_lost _ c.sync-synced.result c.sync-synced.ensures.believed went in
    subst (λ (o : Option FileUnit). IfSome o (λ (u : FileUnit). u.lost ≡ false)) (sym (there_too _ _ _ _ c.finish.ensures.units there)) here

pub returns-else-not-synced-clause-lost : goal.returns-else-not-synced-clause-lost
returns-else-not-synced-clause-lost g c =
    let inside : c.args.unit < length c.finish.new.self.units.items = subst (λ (n : ℕ). c.args.unit < n) (c.len.ensures ∙ c.finish.new.self.units.ok.0) c.if-place-len.false in
    let lost : c.sync-synced.result ≡ false → (c.finish.new.self.output ≢ []) ⊎ IfSome (slice_get (slice_set c.finish.new.self.units.items c.args.unit c.sync-synced.new.self) c.args.unit) (λ (u : FileUnit). IsTrue u.lost) =
    (λ failed. inr (subst (λ (o : Option FileUnit). IfSome o (λ (u : FileUnit). IsTrue u.lost)) (sym (put_there c.finish.new.self.units.items c.args.unit c.sync-synced.new.self inside))
    (ap (λ (u : FileUnit). u.lost) c.sync-synced.ensures.lost ∙ ap not failed))) in
    elim c.else-not-synced.branch [
      | else-not-synced-via-then-not-synced+else-not-was_lost w ↦ rw w.self-is lost
      | else-not-synced-via-else-not-synced w ↦ rw w.self-is lost
    ]

pub returns-then-not-was_lost-clause-synced : goal.returns-then-not-was_lost-clause-synced
returns-then-not-was_lost-clause-synced g c = λ went. absurd (true≢false (sym went ∙ c.if-not-synced.true))

pub returns-then-not-was_lost-clause-believed : goal.returns-then-not-was_lost-clause-believed
returns-then-not-was_lost-clause-believed g c = λ went. absurd (true≢false (sym went ∙ c.if-not-synced.true))

pub returns-then-not-was_lost-clause-failed : goal.returns-then-not-was_lost-clause-failed
returns-then-not-was_lost-clause-failed g c = λ failed.
    subst (λ (told : Option (List Deed)). Prints c.args.self.now.output c.finish.new.self.output (g.S.System.told c.args.self.now.system) told)
    (sym (c.warn.ensures.told ∙ c.sync-synced.ensures.failed failed)) c.finish.ensures.prints

pub returns-then-not-was_lost-clause-lost : goal.returns-then-not-was_lost-clause-lost
returns-then-not-was_lost-clause-lost g c =
    let inside : c.args.unit < length c.finish.new.self.units.items = subst (λ (n : ℕ). c.args.unit < n) (c.len.ensures ∙ c.finish.new.self.units.ok.0) c.if-place-len.false in
    λ failed. inr (subst (λ (o : Option FileUnit). IfSome o (λ (u : FileUnit). IsTrue u.lost)) (sym (put_there c.finish.new.self.units.items c.args.unit c.sync-synced.new.self inside))
    (ap (λ (u : FileUnit). u.lost) c.sync-synced.ensures.lost ∙ ap not failed))

pub returns-then-not-was_lost-clause-units : goal.returns-then-not-was_lost-clause-units
returns-then-not-was_lost-clause-units g c =
    let inside : c.args.unit < length c.finish.new.self.units.items = subst (λ (n : ℕ). c.args.unit < n) (c.len.ensures ∙ c.finish.new.self.units.ok.0) c.if-place-len.false in
    let there : slice_get c.finish.new.self.units.items c.args.unit ≡ Some c.index.result.now = slice_get_read _ _ _ _ refl inside c.index.ensures in
    let loses : OnlyLoses c.args.unit c.sync-synced.result c.args.self.now.units.items (slice_set c.finish.new.self.units.items c.args.unit c.sync-synced.new.self) =
    only_loses c.args.self.now.units.items c.finish.new.self.units.items c.args.unit c.index.result.now c.sync-synced.new.self c.sync-synced.result c.finish.ensures.units there c.sync-synced.ensures.believed c.sync-synced.ensures.lost in
    loses

pub returns-else-not-synced-clause-failed : goal.returns-else-not-synced-clause-failed
returns-else-not-synced-clause-failed g c =
    let prints : c.sync-synced.result ≡ false → Prints c.args.self.now.output c.finish.new.self.output (g.S.System.told c.args.self.now.system) (g.S.System.told c.sync-synced.new.system) =
    (λ failed. subst (λ (told : Option (List Deed)). Prints c.args.self.now.output c.finish.new.self.output (g.S.System.told c.args.self.now.system) told)
    (sym (c.sync-synced.ensures.failed failed)) c.finish.ensures.prints) in
    elim c.else-not-synced.branch [
      | else-not-synced-via-then-not-synced+else-not-was_lost w ↦ rw w.self-is prints
      | else-not-synced-via-else-not-synced w ↦ rw w.self-is prints
    ]

pub returns-else-not-synced-clause-units : goal.returns-else-not-synced-clause-units
returns-else-not-synced-clause-units g c =
    let inside : c.args.unit < length c.finish.new.self.units.items = subst (λ (n : ℕ). c.args.unit < n) (c.len.ensures ∙ c.finish.new.self.units.ok.0) c.if-place-len.false in
    let there : slice_get c.finish.new.self.units.items c.args.unit ≡ Some c.index.result.now = slice_get_read _ _ _ _ refl inside c.index.ensures in
    let loses : OnlyLoses c.args.unit c.sync-synced.result c.args.self.now.units.items (slice_set c.finish.new.self.units.items c.args.unit c.sync-synced.new.self) =
    only_loses c.args.self.now.units.items c.finish.new.self.units.items c.args.unit c.index.result.now c.sync-synced.new.self c.sync-synced.result c.finish.ensures.units there c.sync-synced.ensures.believed c.sync-synced.ensures.lost in
    elim c.else-not-synced.branch [
      | else-not-synced-via-then-not-synced+else-not-was_lost w ↦ rw w.self-is loses
      | else-not-synced-via-else-not-synced w ↦ rw w.self-is loses
    ]

pub invariant_of-self : goal.invariant_of-self
invariant_of-self g c = record {
  held = subst (λ (files : ℕ → Option (List ℕ)). HasBytes (files c.finish.new.self.ahead.from.file) c.finish.new.self.ahead.from.byte (take c.finish.new.self.ahead.held c.finish.new.self.ahead.bytes.items))
      (sym (c.warn.ensures.files ∙ c.sync-synced.ensures.files)) c.finish.new.self.held;
}

pub invariant_of-self-else-not-was_lost : goal.invariant_of-self-else-not-was_lost
invariant_of-self-else-not-was_lost g c = record {
  held = subst (λ (files : ℕ → Option (List ℕ)). HasBytes (files c.finish.new.self.ahead.from.file) c.finish.new.self.ahead.from.byte (take c.finish.new.self.ahead.held c.finish.new.self.ahead.bytes.items))
      (sym (c.sync-synced.ensures.files)) c.finish.new.self.held;
}

pub invariant_of-self-else-not-synced : goal.invariant_of-self-else-not-synced
invariant_of-self-else-not-synced g c = record {
  held = subst (λ (files : ℕ → Option (List ℕ)). HasBytes (files c.finish.new.self.ahead.from.file) c.finish.new.self.ahead.from.byte (take c.finish.new.self.ahead.held c.finish.new.self.ahead.bytes.items))
      (sym (c.sync-synced.ensures.files)) c.finish.new.self.held;
}

pub returns-else-not-synced-clause-faults : goal.returns-else-not-synced-clause-faults
returns-else-not-synced-clause-faults g c =
    elim c.else-not-synced.branch [
      | else-not-synced-via-then-not-synced+else-not-was_lost w ↦ rw w.self-is c.finish.ensures.faults
      | else-not-synced-via-else-not-synced w ↦ rw w.self-is c.finish.ensures.faults
    ]

pub returns-else-not-synced-clause-edges : goal.returns-else-not-synced-clause-edges
returns-else-not-synced-clause-edges g c =
    elim c.else-not-synced.branch [
      | else-not-synced-via-then-not-synced+else-not-was_lost w ↦ rw w.self-is c.finish.ensures.edges
      | else-not-synced-via-else-not-synced w ↦ rw w.self-is c.finish.ensures.edges
    ]

pub returns-then-not-finish-clause-synced : goal.returns-then-not-finish-clause-synced
returns-then-not-finish-clause-synced g c = λ is. absurd (false≢true is)

pub returns-then-not-finish-clause-believed : goal.returns-then-not-finish-clause-believed
returns-then-not-finish-clause-believed g c = λ is. absurd (false≢true is)

pub returns-then-place-len-clause-synced : goal.returns-then-place-len-clause-synced
returns-then-place-len-clause-synced g c = λ is. absurd (false≢true is)

pub returns-then-place-len-clause-believed : goal.returns-then-place-len-clause-believed
returns-then-place-len-clause-believed g c = λ is. absurd (false≢true is)

pub returns-then-not-finish-clause-failed : goal.returns-then-not-finish-clause-failed
returns-then-not-finish-clause-failed g c = λ is. c.finish.ensures.prints

pub returns-then-place-len-clause-failed : goal.returns-then-place-len-clause-failed
returns-then-place-len-clause-failed g c = λ is. c.finish.ensures.prints

pub returns-then-not-finish-clause-units : goal.returns-then-not-finish-clause-units
returns-then-not-finish-clause-units g c = inl c.finish.ensures.units

pub returns-then-place-len-clause-units : goal.returns-then-place-len-clause-units
returns-then-place-len-clause-units g c = inl c.finish.ensures.units

pub returns-then-not-finish-clause-faults : goal.returns-then-not-finish-clause-faults
returns-then-not-finish-clause-faults g c = c.finish.ensures.faults

pub returns-then-place-len-clause-faults : goal.returns-then-place-len-clause-faults
returns-then-place-len-clause-faults g c = c.finish.ensures.faults

pub returns-then-not-was_lost-clause-faults : goal.returns-then-not-was_lost-clause-faults
returns-then-not-was_lost-clause-faults g c = c.finish.ensures.faults

pub returns-then-not-finish-clause-edges : goal.returns-then-not-finish-clause-edges
returns-then-not-finish-clause-edges g c = c.finish.ensures.edges

pub returns-then-place-len-clause-edges : goal.returns-then-place-len-clause-edges
returns-then-place-len-clause-edges g c = c.finish.ensures.edges

pub returns-then-not-was_lost-clause-edges : goal.returns-then-not-was_lost-clause-edges
returns-then-not-was_lost-clause-edges g c = c.finish.ensures.edges

pub returns-then-not-finish-clause-lost : goal.returns-then-not-finish-clause-lost
returns-then-not-finish-clause-lost g c = λ is. inl (λ none. false≢true (sym c.if-not-finish.true ∙ c.finish.ensures.all.1 none))

pub returns-then-place-len-clause-lost : goal.returns-then-place-len-clause-lost
returns-then-place-len-clause-lost g c =
    let units = c.finish.new.self.units in
    let past = subst (λ (n : ℕ). n ≤ c.args.unit) (c.len.ensures ∙ units.ok.0) c.if-place-len.true in
    λ is. inr (subst (λ (o : Option FileUnit). IfSome o (λ (u : FileUnit). IsTrue u.lost)) (sym (slice_get_past units.items c.args.unit past)) tt)

pub index-requires : goal.index-requires
index-requires g c = subst (λ (n : ℕ). c.args.unit < n) c.len.ensures c.if-place-len.false

pub index_mut-requires : goal.index_mut-requires
index_mut-requires g c = subst (λ (n : ℕ). c.args.unit < n) c.len.ensures c.if-place-len.false
