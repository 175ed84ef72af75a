use Rattle.cms_cards.proofs.Loaded.{loads_dumps}
use Rattle.cms_cards.proofs.laws.dump_laws.Goals as goal

pub returns : goal.returns
returns c = loads_dumps
