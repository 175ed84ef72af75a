use Rattle.std.proofs.Common.{◌∙◌, ap, Some, option_copied}
use Rattle.cms_operands.proofs.Gotten.{none_given, given_there}
use Rattle.cms_operands.proofs.operand.given.Goals as goal

pub returns-in_err-get : goal.returns-in_err-get
returns-in_err-get c = ap option_copied c.from_residual.ensures ∙ none_given c.args.operands.now c.args.place c.in_err-get.ensures.lookup.0

pub returns : goal.returns
returns c = ap Some c.bytes.ensures.bytes ∙ given_there c.args.operands.now c.args.place c.in_ok-get.field-0.now c.in_ok-get.ensures.lookup.0 c.in_ok-get.ensures.lookup.1
