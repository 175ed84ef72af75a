use Rattle.std.proofs.Common.{refl, sym, subst}
use Rattle.cms_search.specs.Calls.{Acts, course_of, machine_of, spot}
use Rattle.cms_access.specs.Query.{answer}
use Rattle.cms_access.specs.declared.query.Question.{Question}
use Rattle.cms_access.proofs.Queries.{searches_told}
use Rattle.cms_access.proofs.query.tell.Goals as goal

pub returns-in-Search : goal.returns-in-Search
returns-in-Search g c =
    let old = spot g.W.World c.args.world.now c.args.state.now in
    let new = spot g.W.World c.tell_search.new.world c.args.state.now in
    subst (λ (x : Question). Acts old new (λ units. answer (machine_of c.args.state.now units) x) c.tell_search.result (course_of c.args.state.now)) (sym c.in-Search.is)
    (searches_told old new c.tell_search.result c.tell_search.ensures.does c.tell_search.ensures.went refl)
