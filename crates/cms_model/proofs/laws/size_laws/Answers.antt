use Rattle.cms_model.proofs.MinidiskSizes.{blocks_are_shared}
use Rattle.cms_model.proofs.laws.size_laws.Goals as goal

pub returns : goal.returns
returns c = record { shared = blocks_are_shared }
