use Rattle.cms_copyfile.proofs.Measured.{none_measured}
use Rattle.cms_copyfile.proofs.measure.Measure.new.Goals as goal

pub returns-clause-measured : goal.returns-clause-measured
returns-clause-measured c = λ format. none_measured format
