use Rattle.cms_copyfile.proofs.Shapes.{can_draft, have_counts, same_file}
use Rattle.cms_copyfile.proofs.shape.shape_of.Goals as goal

pub returns-clause-counts : goal.returns-clause-counts
returns-clause-counts c = λ records is. have_counts c.args.form c.length_in-length.result c.args.number c.args.stamp c.args.measure.now records is

pub returns-clause-file : goal.returns-clause-file
returns-clause-file c = λ name records is.
    same_file c.args.form c.length_in-length.result c.args.number c.args.stamp c.args.measure.now name records c.length_in-length.ensures is

pub returns-clause-can : goal.returns-clause-can
returns-clause-can c = λ sound few valid.
    can_draft c.args.form c.length_in-length.result c.args.number c.args.stamp c.args.measure.now c.length_in-length.ensures sound few valid
