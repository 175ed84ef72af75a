use Rattle.std.proofs.Common.{◌∙◌, Option, ap, subst, sym}
use Rattle.std.specs.Option.{option_map}
use Rattle.cms_edf.specs.declared.held.FileInfo.{FileInfo}
use Rattle.cms_search.specs.Calls.{spot}
use Rattle.cms_copyfile.specs.FileCopies.{form_in, plan_for}
use Rattle.cms_copyfile.specs.Measures.{IsMeasure}
use Rattle.cms_copyfile.specs.OneCopy.{AreMeasured}
use Rattle.cms_copyfile.specs.Outputs.{form_for}
use Rattle.cms_copyfile.proofs.update.put_measured.Goals as goal

pub append_measured-requires-clause-sound : goal.append_measured-requires-clause-sound
append_measured-requires-clause-sound g c =
    let line = c.args.line.now in
    let f = c.args.file.now in
    subst (λ (own : Option FileInfo). IsMeasure (form_for line.style (form_in f.input) (option_map form_in own)) c.args.measure.now) (sym c.in-Some.ensures) c.requires.sound

pub append_measured-requires-clause-plan : goal.append_measured-requires-clause-plan
append_measured-requires-clause-plan g c =
    let line = c.args.line.now in
    let f = c.args.file.now in
    c.requires.plan ∙ ap (λ (own : Option FileInfo). plan_for line (form_for line.style (form_in f.input) (option_map form_in own)) f) (sym c.in-Some.ensures)

pub returns-in-Some-clause-acts : goal.returns-in-Some-clause-acts
returns-in-Some-clause-acts g c = λ before words read measures.
    let line = c.args.line.now in
    let f = c.args.file.now in
    c.append_measured.ensures.acts before words read
    (subst (λ (own : Option FileInfo). AreMeasured (spot g.W.World c.args.world.now c.args.state.now) line f (form_for line.style (form_in f.input) (option_map form_in own)) c.args.measure.now)
    (sym c.in-Some.ensures) measures)

pub returns-in-None-clause-acts : goal.returns-in-None-clause-acts
returns-in-None-clause-acts g c = λ before words read measures. c.copy_measured.ensures.acts before words read measures
