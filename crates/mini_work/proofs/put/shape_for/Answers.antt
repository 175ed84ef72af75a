use Rattle.std.proofs.Common.{◌≡◌, ◌∙◌, ◌≤◌, ℕ, ap, subst, sym}
use Rattle.cms_copyfile.specs.Measures.{measured}
use Rattle.cms_model.specs.Minidisks.{File}
use Rattle.cms_model.specs.Records.{length_of}
use Rattle.cms_names.specs.declared.name.Format.{Format}
use Rattle.mini_work.specs.Layouts.{format_of}
use Rattle.mini_work.proofs.put.shape_for.Goals as goal

pub returns-clause-shape : goal.returns-clause-shape
returns-clause-shape c = λ records is.
    let form = c.form_of.ensures in
    let same = subst (λ (f : Format). c.args.measure.now ≡ measured f records) (sym form.format) is in
    let file = c.shape_of.ensures.file c.args.name.now records same in
    record {
      stamped = ap (λ (f : File). f.stamp) file;
      format = ap (λ (f : File). f.format) file ∙ form.format;
      long = ap (λ (f : File). f.length) file
          ∙ (ap (λ (f : Format). length_of f c.form_of.result.length records) form.format
          ∙ ap (λ (n : ℕ). length_of (format_of c.args.put.now.layout) n records) form.length);
      counts = c.shape_of.ensures.counts records same;
    }

pub returns-clause-fits : goal.returns-clause-fits
returns-clause-fits c = λ records is.
    let same = subst (λ (f : Format). c.args.measure.now ≡ measured f records) (sym c.form_of.ensures.format) is in
    let file = c.shape_of.ensures.file c.args.name.now records same in
    subst (λ (n : ℕ). n ≤ 6) (sym (ap (λ (f : File). f.number) file)) c.number_for-number.ensures.fits

pub returns-clause-number : goal.returns-clause-number
returns-clause-number c = λ records is told m s.
    let same = subst (λ (f : Format). c.args.measure.now ≡ measured f records) (sym c.form_of.ensures.format) is in
    let file = c.shape_of.ensures.file c.args.name.now records same in
    ap (λ (f : File). f.number) file ∙ c.number_for-number.ensures.number told m s
