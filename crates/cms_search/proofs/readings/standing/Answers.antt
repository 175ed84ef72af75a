use Rattle.std.proofs.Common.{◌∙◌, ℕ, ap, sym, true≢false}
use Rattle.std.specs.Prelude.{Some}
use Rattle.cms_names.specs.declared.name.Name.{Name}
use Rattle.cms_search.specs.declared.readings.KeptReading.{KeptReading}
use Rattle.cms_search.proofs.readings.standing.Goals as goal

pub returns-clause-some : goal.returns-clause-some
returns-clause-some c =
    let stood = c.stands.ensures.0 c.if-not-stands.false in
    let reading = c.in_ok-reading.reading in
    let named = ap (λ (n : Name). record reading { name = n }) stood.0 in
    let counted = ap (λ (k : ℕ). record reading { name = c.args.name.now; count = k }) stood.1 in
    c.in_ok-reading.was ∙ ap (λ (r : KeptReading). Some r) (named ∙ counted)

pub returns-then-not-stands-clause-none : goal.returns-then-not-stands-clause-none
returns-then-not-stands-clause-none c = λ none.
    let was = c.in_ok-reading.was in
    rw was (λ stood. true≢false (sym (c.stands.ensures.1 stood) ∙ c.if-not-stands.true))
