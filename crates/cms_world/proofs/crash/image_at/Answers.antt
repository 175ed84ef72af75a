use Rattle.std.proofs.lemmas.Result.{IfOk-weaker}
use Rattle.cms_world.proofs.Chosen.{first_events-reverse, chosen_holds}
use Rattle.cms_world.proofs.crash.image_at.Goals as goal

pub returns-clause-chosen : goal.returns-clause-chosen
returns-clause-chosen c = rw (first_events-reverse c.args.at c.args.events.now c.requires) c.image_of.ensures

pub returns-clause-crash : goal.returns-clause-crash
returns-clause-crash c =
    rw (first_events-reverse c.args.at c.args.events.now c.requires)
    (IfOk-weaker _ _ _ (λ image is. chosen_holds _ _ _ _ _ is) c.image_of.ensures)
