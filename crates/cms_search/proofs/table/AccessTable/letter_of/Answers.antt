use Rattle.std.proofs.Common.{◌∙◌, ◌==◌, sym, rules, tests}
use Rattle.std.proofs.lemmas.Iterator.{YieldsList-from_slice}
use Rattle.std.proofs.lemmas.Iterator.Search.{position_from_yields_List}
use Rattle.cms_search.specs.Searches.{has}
use Rattle.cms_search.specs.Tables.{Seated}
use Rattle.cms_search.proofs.table.AccessTable.letter_of.Goals as goal

pub returns-in-Some-clause-letter : goal.returns-in-Some-clause-letter
returns-in-Some-clause-letter c =
    sym c.in-Some.is
    ∙ position_from_yields_List (has (λ (s : Seated). s.letter.unit == c.args.place)) _ _ c.position-letter.result c.position-letter.ensures.ran
    (YieldsList-from_slice c.args.self.now.seats cc) (λ x b q k. search (rules, tests))

pub returns-in-None-clause-letter : goal.returns-in-None-clause-letter
returns-in-None-clause-letter c =
    sym c.in-None.is
    ∙ position_from_yields_List (has (λ (s : Seated). s.letter.unit == c.args.place)) _ _ c.position-letter.result c.position-letter.ensures.ran
    (YieldsList-from_slice c.args.self.now.seats cc) (λ x b q k. search (rules, tests))
