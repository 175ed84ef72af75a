use Rattle.std.proofs.Common.{◌≡◌, ℕ, [], ◌∷◌, inl, length, refl, subst}
use Rattle.std.proofs.lemmas.Bool.{false≢true}
use Rattle.cms_host.specs.Deeds.{MayDo, then_done}
use Rattle.cms_host.specs.declared.system.Deed.TheVariants.{Wrote}
use Rattle.cms_host.proofs.HeldBytes.{held_or_gone, held_still}
use Rattle.cms_host.proofs.file_unit.FileUnit.write.Goals as goal

pub returns-in-Some-clause-has : goal.returns-in-Some-clause-has
returns-in-Some-clause-has g c = λ is. c.in-Some.ensures.has.0 refl

pub returns-in-Some-clause-writable : goal.returns-in-Some-clause-writable
returns-in-Some-clause-writable g c = λ is. c.if-self.true

pub returns-in-Some-clause-wrote : goal.returns-in-Some-clause-wrote
returns-in-Some-clause-wrote g c = λ is.
    let a = c.args in
    let told = g.S.System.told in
    subst (λ (n : ℕ). told c.write_at.new.self ≡ then_done (told a.system.now) (Wrote a.self.now.file n a.from.now ∷ [])) c.in-Some.ensures.place (c.write_at.ensures.wrote is)

pub returns-in-Some-clause-failed : goal.returns-in-Some-clause-failed
returns-in-Some-clause-failed g c =
    let a = c.args in
    let told = g.S.System.told in
    subst (λ (n : ℕ). MayDo (Wrote a.self.now.file n a.from.now ∷ []) (told a.system.now) (told c.write_at.new.self)) c.in-Some.ensures.place c.write_at.ensures.failed

pub returns-in-Some-clause-held : goal.returns-in-Some-clause-held
returns-in-Some-clause-held g c =
    let a = c.args in
    held_still (g.S.System.files a.system.now) (g.S.System.files c.write_at.new.self) c.let_go.new.self (record { file = a.self.now.file; byte = c.in-Some.byte }) (length a.from.now) c.write_at.ensures.files c.let_go.ensures.gone
    (held_or_gone (g.S.System.files a.system.now) a.ahead.now c.let_go.new.self c.let_go.ensures.kept c.requires)

pub returns-in_default-clause-has : goal.returns-in_default-clause-has
returns-in_default-clause-has g c = λ is. absurd (false≢true is)

pub returns-in_default-clause-writable : goal.returns-in_default-clause-writable
returns-in_default-clause-writable g c = λ is. absurd (false≢true is)

pub returns-in_default-clause-wrote : goal.returns-in_default-clause-wrote
returns-in_default-clause-wrote g c = λ is. absurd (false≢true is)

pub returns-in_default-2-clause-has : goal.returns-in_default-2-clause-has
returns-in_default-2-clause-has g c = λ is. absurd (false≢true is)

pub returns-in_default-2-clause-writable : goal.returns-in_default-2-clause-writable
returns-in_default-2-clause-writable g c = λ is. absurd (false≢true is)

pub returns-in_default-2-clause-wrote : goal.returns-in_default-2-clause-wrote
returns-in_default-2-clause-wrote g c = λ is. absurd (false≢true is)

pub returns-in_default-clause-failed : goal.returns-in_default-clause-failed
returns-in_default-clause-failed g c = inl refl

pub returns-in_default-2-clause-failed : goal.returns-in_default-2-clause-failed
returns-in_default-2-clause-failed g c = inl refl

pub returns-in_default-clause-held : goal.returns-in_default-clause-held
returns-in_default-clause-held g c = c.requires

pub returns-in_default-2-clause-held : goal.returns-in_default-2-clause-held
returns-in_default-2-clause-held g c = c.requires
