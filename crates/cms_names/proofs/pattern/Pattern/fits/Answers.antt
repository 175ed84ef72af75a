use Rattle.std.proofs.Common.{◌∙◌}
use Rattle.cms_names.proofs.Fits.{answer_agrees}
use Rattle.cms_names.proofs.pattern.Pattern.fits.Goals as goal

pub returns-clause-relation : goal.returns-clause-relation
returns-clause-relation c = answer_agrees c.args.self.now c.args.part.now _ _ c.fits_text.result c.fits_text.ensures (c.as_bytes.ensures ∙ c.self.view_is) c.as_bytes-2.ensures.value
