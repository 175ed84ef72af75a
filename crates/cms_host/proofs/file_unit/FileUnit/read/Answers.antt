use Rattle.std.proofs.Common.{ℕ, refl, subst}
use Rattle.std.proofs.lemmas.Bool.{false≢true}
use Rattle.cms_host.specs.FileBytes.{HasBytes}
use Rattle.cms_host.proofs.HeldBytes.{held_of_same}
use Rattle.cms_host.proofs.file_unit.FileUnit.read.Goals as goal

pub read-requires : goal.read-requires
read-requires g c = c.requires

pub returns-in-Some-clause-has : goal.returns-in-Some-clause-has
returns-in-Some-clause-has g c = λ is. c.in-Some.ensures.has.0 refl

pub returns-in-Some-clause-told : goal.returns-in-Some-clause-told
returns-in-Some-clause-told g c = c.read.ensures.told

pub returns-in-Some-clause-bytes : goal.returns-in-Some-clause-bytes
returns-in-Some-clause-bytes g c = λ is. subst (λ (n : ℕ). HasBytes (g.S.System.files c.args.system.now c.args.self.now.file) n c.read.new.into) c.in-Some.ensures.place (c.read.ensures.bytes is)

pub returns-in-Some-clause-held : goal.returns-in-Some-clause-held
returns-in-Some-clause-held g c = held_of_same _ _ c.read.new.self c.read.ensures.files c.read.ensures.held

pub returns-in-None-clause-has : goal.returns-in-None-clause-has
returns-in-None-clause-has g c = λ is. absurd (false≢true is)

pub returns-in-None-clause-bytes : goal.returns-in-None-clause-bytes
returns-in-None-clause-bytes g c = λ is. absurd (false≢true is)

pub returns-in-None-clause-told : goal.returns-in-None-clause-told
returns-in-None-clause-told g c = refl

pub returns-in-None-clause-held : goal.returns-in-None-clause-held
returns-in-None-clause-held g c = c.requires
