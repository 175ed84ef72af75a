use Rattle.std.proofs.Common.{pos, refl}
use Rattle.cms_line.specs.declared.message.Message.TheVariants.{M122}
use Rattle.cms_search.proofs.Acts.{refused}
use Rattle.cms_session.specs.Nucleus.{none_there}
use Rattle.cms_session.proofs.nucleus.refuse_absent.Goals as goal

pub returns : goal.returns
returns g c = refused _ _ (M122 c.args.word) (pos none_there) _ c.refuse.ensures.does c.refuse.ensures.went refl
