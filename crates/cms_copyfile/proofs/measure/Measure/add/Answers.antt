use Rattle.cms_copyfile.proofs.Measured.{one_measured}
use Rattle.cms_copyfile.proofs.measure.Measure.add.Goals as goal

pub returns-clause-measured : goal.returns-clause-measured
returns-clause-measured c = λ records is.
    rw (c.from.ensures, c.max-self.ensures)
    (one_measured c.args.format records c.args.text.now c.head_bytes.result c.args.self.now is (c.head_bytes.ensures.stored c.args.text.now))
