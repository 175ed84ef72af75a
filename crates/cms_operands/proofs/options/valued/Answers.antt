use Rattle.cms_operands.proofs.Gotten.{valued_past, valued_with, valued_badly}
use Rattle.cms_operands.proofs.options.valued.Goals as goal

pub returns-in_default : goal.returns-in_default
returns-in_default g c = valued_past c.args.forms.now c.args.words.now c.args.choice c.in_default.ensures.lookup.0

pub returns-in-Some-setting : goal.returns-in-Some-setting
returns-in-Some-setting g c = valued_with c.args.forms.now c.args.words.now c.args.choice c.in-Some.form.now c.text_at.result.now c.in-Some-setting.setting c.in-Some.ensures.lookup.0 c.in-Some.ensures.lookup.1 c.text_at.ensures c.in-Some-setting.ensures

pub returns-in-None : goal.returns-in-None
returns-in-None g c = valued_badly c.args.forms.now c.args.words.now c.args.choice c.in-Some.form.now c.text_at.result.now c.in-Some.ensures.lookup.0 c.in-Some.ensures.lookup.1 c.text_at.ensures c.in-None.ensures
