use Rattle.cms_copyfile.proofs.Settings.{style_said}
use Rattle.cms_copyfile.proofs.line.copy_line.Goals as goal

pub returns-clause-fits : goal.returns-clause-fits
returns-clause-fits c =
    let forms = c.options.ensures in
    let slice = c.as_slice-2.ensures in
    record {
      style = rw (c.style_of.ensures, slice) (style_said c.in_ok-files.files.output.existing c.args.words.now c.in_ok-chosen.chosen (rw forms at c.in_ok-chosen.ensures));
      number = c.in_ok-files.ensures.number;
    }
