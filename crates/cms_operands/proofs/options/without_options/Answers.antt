use Rattle.cms_operands.proofs.ChoiceLemmas.{said_so}
use Rattle.cms_operands.proofs.options.without_options.Goals as goal

pub returns : goal.returns
returns g c = said_so c.args.words.now c.args.operands c.in_ok-said.said _ c.in_ok-said.was c.in_ok-chosen_options.ensures
