use Rattle.std.proofs.Common.{◌≡◌, Some, ap, ◌∙◌, arith, refl}
use Rattle.std.proofs.lemmas.Map.Text.{text_keys}
use Rattle.std.specs.BTreeMap.{get_by_text}
use Rattle.cms_world.proofs.UnitImages.{standing_given}
use Rattle.cms_world.proofs.Exits.{ok_at_err, holds_at_err}
use Rattle.cms_world.proofs.mem.MemWorld.add_image.Goals as goal

pub returns-clause-given : goal.returns-clause-given
returns-clause-given c =
    let at : get_by_text c.insert.new.self c.args.name.now ≡ Some (record { bytes = c.in_ok-of.field-0; since = c.units.result }) = grind (arith, text_keys) in
    standing_given c.args.self.now.recorder _ _ c.args.name.now at c.units.ensures ∙ ap Some c.in_ok-of.ensures

pub returns-clause-others : goal.returns-clause-others
returns-clause-others c = λ other ne. grind (arith, text_keys)

pub returns-in_err-of-clause-given : goal.returns-in_err-of-clause-given
returns-in_err-of-clause-given c = ok_at_err _ c.from_residual.result _ c.from_residual.ensures.1

pub returns-in_err-of-clause-others : goal.returns-in_err-of-clause-others
returns-in_err-of-clause-others c = λ other ne. refl

pub returns-in_err-from_str-clause-others : goal.returns-in_err-from_str-clause-others
returns-in_err-from_str-clause-others c = λ other ne. refl

pub returns-in_err-of-clause-rest : goal.returns-in_err-of-clause-rest
returns-in_err-of-clause-rest c = refl

pub returns-in_err-from_str-clause-rest : goal.returns-in_err-from_str-clause-rest
returns-in_err-from_str-clause-rest c = refl

pub returns-in_err-insert-clause-rest : goal.returns-in_err-insert-clause-rest
returns-in_err-insert-clause-rest c = refl

pub returns-clause-rest : goal.returns-clause-rest
returns-clause-rest c = refl

pub returns-in_err-of-clause-err : goal.returns-in_err-of-clause-err
returns-in_err-of-clause-err c = holds_at_err c.from_residual.result refl

pub returns-in_err-of-clause-still : goal.returns-in_err-of-clause-still
returns-in_err-of-clause-still c = record { journal = refl; faults = refl; edges = refl; calls = refl }

pub returns-in_err-from_str-clause-still : goal.returns-in_err-from_str-clause-still
returns-in_err-from_str-clause-still c = record { journal = refl; faults = refl; edges = refl; calls = refl }

pub returns-in_err-insert-clause-still : goal.returns-in_err-insert-clause-still
returns-in_err-insert-clause-still c = record { journal = refl; faults = refl; edges = refl; calls = refl }

pub returns-clause-still : goal.returns-clause-still
returns-clause-still c = record { journal = refl; faults = refl; edges = refl; calls = refl }

pub returns-in_err-from_str-clause-given : goal.returns-in_err-from_str-clause-given
returns-in_err-from_str-clause-given c = ok_at_err _ c.from_residual-in_err-from_str.result _ c.from_residual-in_err-from_str.ensures.1

pub returns-in_err-from_str-clause-err : goal.returns-in_err-from_str-clause-err
returns-in_err-from_str-clause-err c = holds_at_err c.from_residual-in_err-from_str.result refl

pub returns-in_err-insert-clause-given : goal.returns-in_err-insert-clause-given
returns-in_err-insert-clause-given c = ok_at_err _ c.from_residual-in_err-insert.result _ c.from_residual-in_err-insert.ensures.1
