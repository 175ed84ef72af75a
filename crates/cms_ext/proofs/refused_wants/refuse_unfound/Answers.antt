use Rattle.std.proofs.Common.{pos, refl}
use Rattle.cms_search.specs.Calls.{spot}
use Rattle.cms_ext.specs.Extensions.{unfound_code, unfound_message}
use Rattle.cms_ext.proofs.Refusals.{refused_so}
use Rattle.cms_ext.proofs.refused_wants.refuse_unfound.Goals as goal

pub returns : goal.returns
returns g c = λ objects.
    refused_so (spot g.W.World c.args.world.now c.args.state.now) (spot g.W.World c.refuse_search.new.world c.args.state.now) objects
    (unfound_message c.args.name.now c.args.letter c.args.fault) (pos (unfound_code c.args.fault)) c.refuse_search.result c.refused.result
    c.refuse_search.ensures.does c.refuse_search.ensures.went refl c.refused.ensures
