use Rattle.std.proofs.Common.{◌≤◌, sym, subst}
use Rattle.cms_fields.specs.Limits.{longest_record}
use Rattle.cms_copyfile.specs.Outputs.{extended}
use Rattle.cms_copyfile.specs.declared.output.FileForm.{FileForm}
use Rattle.cms_copyfile.proofs.TablesTold.{extended_sound, short_into, some_into}
use Rattle.cms_copyfile.proofs.update.short_form.Goals as goal

pub returns-clause-short : goal.returns-clause-short
returns-clause-short c =
    let style = c.args.line.now.style in
    let f = c.args.file.now in
    subst (λ (form : FileForm). form.length ≤ longest_record) (sym c.form.ensures)
    (short_into style f.input (extended style.existing f.there) c.requires.style c.requires.sound (extended_sound style.existing f.there c.requires.there))

pub returns-clause-some : goal.returns-clause-some
returns-clause-some c =
    let style = c.args.line.now.style in
    let f = c.args.file.now in
    subst (λ (form : FileForm). 1 ≤ form.length) (sym c.form.ensures)
    (some_into style f.input (extended style.existing f.there) c.requires.style c.requires.sound (extended_sound style.existing f.there c.requires.there))
