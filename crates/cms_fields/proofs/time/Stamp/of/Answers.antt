use Rattle.cms_fields.specs.Moments.{stamp_of}
use Rattle.cms_fields.proofs.Dates.{stamp_there}
use Rattle.cms_fields.proofs.time.Stamp.of.Goals as goal

pub returns-clause-valid : goal.returns-clause-valid
unfolding stamp_of
returns-clause-valid c = stamp_there c.args.moment.now
