use Rattle.std.proofs.Common.{◌≤◌, ℕ, subst, sym, ap, ◌∙◌}
use Rattle.cms_fields.specs.Stamps.{is_stamp}
use Rattle.cms_search.specs.Calls.{spot}
use Rattle.cms_copyfile.specs.Measures.{IsMeasure}
use Rattle.cms_copyfile.specs.declared.output.FileForm.{FileForm}
use Rattle.cms_copyfile.proofs.CopyShaped.{shaped_as}
use Rattle.cms_copyfile.proofs.TablesTold.{number_few, stamp_valid}
use Rattle.cms_copyfile.proofs.update.copy_measured.Goals as goal

pub put_copied-requires-clause-place : goal.put_copied-requires-clause-place
put_copied-requires-clause-place g c = c.requires.file.place

pub put_copied-requires-clause-there : goal.put_copied-requires-clause-there
put_copied-requires-clause-there g c = c.requires.file.there_place

pub put_copied-requires-clause-told : goal.put_copied-requires-clause-told
put_copied-requires-clause-told g c = c.requires.file.input

pub put_copied-requires-clause-fits : goal.put_copied-requires-clause-fits
put_copied-requires-clause-fits g c = λ s at.
    let line = c.args.line.now in
    let file = c.args.file.now in
    let few = number_few line.files.output.mode file.input.number file.there c.requires.line.number c.requires.file.sound.number c.requires.file.sound_there in
    let valid = stamp_valid line.style file.input.stamp c.of-turn.result c.requires.file.sound.stamp (c.of-turn.ensures.valid c.requires.moment) in
    c.shape_of-shape.ensures.can (subst (λ (form : FileForm). IsMeasure form c.args.measure.now) (sym c.form.ensures) c.requires.sound)
    (subst (λ (n : ℕ). n ≤ 6) (sym c.number.ensures) few) (ap is_stamp c.stamp_for-stamp.ensures ∙ valid)

pub returns-clause-acts : goal.returns-clause-acts
returns-clause-acts g c = λ before words read measures.
    c.put_copied.ensures.acts before words c.args.line.now read c.requires.file
    (shaped_as (spot g.W.World c.args.world.now c.args.state.now) c.args.line.now c.args.file.now c.shape_of-shape.result c.args.measure.now c.of-turn.result c.form.result c.args.plan.now
    c.number.result c.stamp_for-stamp.result c.requires.whole c.form.ensures c.requires.plan c.number.ensures c.stamp_for-stamp.ensures c.of-turn.ensures.value measures
    c.shape_of-shape.ensures.counts c.shape_of-shape.ensures.file)
