use Rattle.std.proofs.Common.{◌≡◌, ◌∙◌, ◌≤◌, ap, refl, subst, arith}
use Rattle.std.proofs.lemmas.Result.{err_from_is_err_and}
use Rattle.cms_fields.specs.Limits.{longest_record}
use Rattle.cms_world.specs.Seen.{seen}
use Rattle.cms_search.specs.Calls.{spot}
use Rattle.cms_search.specs.DeviceSteps.{HasRead}
use Rattle.cms_search.proofs.HandedRecords.{only_read}
use Rattle.cms_search.proofs.StateCalls.{acts_starved}
use Rattle.cms_files.specs.Updates.{updated_of}
use Rattle.cms_copyfile.specs.FileCopies.{form_into}
use Rattle.cms_copyfile.specs.Outputs.{plan_of, wanted_of}
use Rattle.cms_copyfile.specs.declared.output.CopyPlan.{CopyPlan}
use Rattle.cms_copyfile.specs.declared.output.FileForm.{FileForm}
use Rattle.cms_copyfile.proofs.CopiesMeasured.{measured_as}
use Rattle.cms_copyfile.proofs.CopyInput.{opened_blocks}
use Rattle.cms_copyfile.proofs.FirstPass.{read_unread}
use Rattle.cms_copyfile.proofs.InputTold.{left_told}
use Rattle.cms_copyfile.proofs.OneRead.{whole}
use Rattle.cms_copyfile.proofs.TablesTold.{wanted_few}
use Rattle.cms_copyfile.proofs.update.copy_records.Goals as goal

pub open_input-requires-clause-place : goal.open_input-requires-clause-place
open_input-requires-clause-place g c = c.requires.file.place

pub open_input-requires-clause-told : goal.open_input-requires-clause-told
open_input-requires-clause-told g c = c.requires.file.input

pub measure_input-measured-requires-clause-place : goal.measure_input-measured-requires-clause-place
measure_input-measured-requires-clause-place g c = c.requires.file.place

pub measure_input-measured-requires-clause-blocks : goal.measure_input-measured-requires-clause-blocks
measure_input-measured-requires-clause-blocks g c =
    opened_blocks _ c.args.state.now.table c.args.file.now.found.letter c.args.file.now.found.name c.in_ok-input.input c.in_ok-input.ensures.opened c.requires.usable

pub measure_input-measured-requires-clause-left : goal.measure_input-measured-requires-clause-left
measure_input-measured-requires-clause-left g c =
    left_told c.args.state.now.table c.args.file.now c.in_ok-input.input c.requires.file.input c.in_ok-input.ensures.opened

pub put_measured-requires-clause-usable : goal.put_measured-requires-clause-usable
put_measured-requires-clause-usable g c = let told = c.in-Ok.ensures.reads.told in rw told c.requires.usable

pub put_measured-requires-clause-count : goal.put_measured-requires-clause-count
put_measured-requires-clause-count g c =
    let input = c.args.file.now.input in
    let style = c.args.line.now.style in
    let wanted : c.plan_of-plan.result.wanted ≡ wanted_of style input.count = ap (λ (p : CopyPlan). p.wanted) c.plan_of-plan.ensures in
    let measured = c.in-Ok.ensures.count in
    let less = wanted_few style input.count in
    let few = c.requires.file.sound.few in
    omega (arith, wanted, measured, less, few)

pub put_measured-requires-clause-sound : goal.put_measured-requires-clause-sound
put_measured-requires-clause-sound g c =
    let style = c.args.line.now.style in
    let file = c.args.file.now in
    let form = c.short_form-form.ensures in
    c.in-Ok.ensures.sound (form_into c.args.line.now file)
    (record {
      style = style;
      sound = c.requires.line.style;
      plan_is = c.plan_of-plan.ensures ∙ ap (λ (f : FileForm). plan_of style f file.input.count) form.form;
      first = c.requires.some;
      low = subst (λ (f : FileForm). 1 ≤ f.length) form.form form.some;
      high = subst (λ (f : FileForm). f.length ≤ longest_record) form.form form.short;
    })

pub put_measured-requires-clause-plan : goal.put_measured-requires-clause-plan
put_measured-requires-clause-plan g c = c.plan_of-plan.ensures ∙ ap (λ (f : FileForm). plan_of c.args.line.now.style f c.args.file.now.input.count) c.short_form-form.ensures.form

pub returns-in-Ok-clause-acts : goal.returns-in-Ok-clause-acts
returns-in-Ok-clause-acts g c = λ words.
    let f = c.args.file.now in
    let line = c.args.line.now in
    let input = c.in_ok-input.input in
    let opened = c.in_ok-input.ensures.opened in
    let mid = spot g.W.World c.measure_input-measured.new.world c.args.state.now in
    let e = c.in-Ok.ensures in
    let told = e.reads.told in
    let read : HasRead (seen g.W.World c.args.world.now) mid.world = only_read _ _ _ _ e.reads in
    let planned = c.plan_of-plan.ensures ∙ ap (λ (z : FileForm). plan_of line.style z f.input.count) c.short_form-form.ensures.form in
    c.put_measured.ensures.acts (seen g.W.World c.args.world.now) words read
    (measured_as mid line f (form_into line f) input c.in-Ok.measure c.plan_of-plan.result planned c.requires.file opened c.in_ok-input.ensures.short c.requires.line.style (rw told e.measured) (rw told e.records))

pub returns-in_err-buffer-clause-acts : goal.returns-in_err-buffer-clause-acts
returns-in_err-buffer-clause-acts g c = λ words.
    let p = err_from_is_err_and c.from_residual.result c.from_residual.ensures.1 in
    let mid = spot g.W.World c.args.world.now c.args.state.now in
    rw (p.1, p.2) (acts_starved mid (whole mid words c.args.line.now c.args.file.now) (updated_of c.args.state.now))

pub returns-in_err-input-clause-acts : goal.returns-in_err-input-clause-acts
returns-in_err-input-clause-acts g c = λ words.
    let p = err_from_is_err_and c.from_residual-in_err-input.result c.from_residual-in_err-input.ensures.1 in
    let memory = c.in_err-input.ensures.fault in
    let mid = spot g.W.World c.args.world.now c.args.state.now in
    rw (p.1, p.2, memory) (acts_starved mid (whole mid words c.args.line.now c.args.file.now) (updated_of c.args.state.now))

pub returns-clause-acts : goal.returns-clause-acts
returns-clause-acts g c = λ words.
    let mid = spot g.W.World c.measure_input-measured.new.world c.args.state.now in
    let new = spot g.W.World c.stop_unread.new.world c.args.state.now in
    let e = c.in-Err.ensures in
    read_unread (seen g.W.World c.args.world.now) mid words c.args.line.now c.args.file.now c.in_ok-input.input (only_read _ _ _ _ e.reads) c.requires.file c.in_ok-input.ensures.opened new
    c.in-Err.fault c.stop_unread.result e.fault e.reads.cause (λ altered. (let told = e.reads.told in rw told (e.never altered))) c.stop_unread.ensures

pub short_form-form-requires-clause-style : goal.short_form-form-requires-clause-style
short_form-form-requires-clause-style g c = c.requires.line.style

pub short_form-form-requires-clause-sound : goal.short_form-form-requires-clause-sound
short_form-form-requires-clause-sound g c = c.requires.file.sound

pub measure_input-measured-requires-clause-short : goal.measure_input-measured-requires-clause-short
measure_input-measured-requires-clause-short g c = c.in_ok-input.ensures.short

pub measure_input-measured-requires-clause-sound : goal.measure_input-measured-requires-clause-sound
measure_input-measured-requires-clause-sound g c = c.requires.file.sound

pub measure_input-measured-requires-clause-told : goal.measure_input-measured-requires-clause-told
measure_input-measured-requires-clause-told g c = c.requires.file.input

pub put_measured-requires-clause-moment : goal.put_measured-requires-clause-moment
put_measured-requires-clause-moment g c = c.requires.moment

pub put_measured-requires-clause-writing : goal.put_measured-requires-clause-writing
put_measured-requires-clause-writing g c = c.requires.writing

pub put_measured-requires-clause-line : goal.put_measured-requires-clause-line
put_measured-requires-clause-line g c = c.requires.line

pub put_measured-requires-clause-file : goal.put_measured-requires-clause-file
put_measured-requires-clause-file g c = c.requires.file

pub put_measured-requires-clause-bytes : goal.put_measured-requires-clause-bytes
put_measured-requires-clause-bytes g c = c.in-Ok.ensures.bytes

pub returns-in_err-buffer-clause-kept : goal.returns-in_err-buffer-clause-kept
returns-in_err-buffer-clause-kept g c = refl

pub returns-in_err-input-clause-kept : goal.returns-in_err-input-clause-kept
returns-in_err-input-clause-kept g c = refl

pub returns-clause-kept : goal.returns-clause-kept
returns-clause-kept g c = refl

pub returns-in-Ok-clause-kept : goal.returns-in-Ok-clause-kept
returns-in-Ok-clause-kept g c = c.put_measured.ensures.kept
