use Rattle.cms_model.proofs.Cuts.{length_cut}
use Rattle.cms_records.proofs.fixed_records.FixedView.new.Goals as goal

pub returns-clause-count : goal.returns-clause-count
returns-clause-count c = length_cut c.args.count c.args.size c.args.bytes.now
