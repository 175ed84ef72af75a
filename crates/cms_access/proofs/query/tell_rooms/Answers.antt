use Rattle.std.proofs.Common.{ℕ, Option, refl, sym, subst}
use Rattle.cms_search.specs.Calls.{Acts, course_of, machine_of, spot}
use Rattle.cms_access.specs.Query.{answer}
use Rattle.cms_access.specs.declared.query.Question.TheVariants.{Disks}
use Rattle.cms_access.proofs.Queries.{disks_told}
use Rattle.cms_access.proofs.query.tell_rooms.Goals as goal

pub returns-in-None : goal.returns-in-None
returns-in-None g c =
    let old = spot g.W.World c.args.world.now c.args.state.now in
    let new = spot g.W.World c.tell_disks.new.world c.args.state.now in
    subst (λ (x : Option ℕ). Acts old new (λ units. answer (machine_of c.args.state.now units) (Disks x)) c.tell_disks.result (course_of c.args.state.now)) (sym c.in-None.is)
    (disks_told old new c.tell_disks.result c.tell_disks.ensures.does c.tell_disks.ensures.went refl)
