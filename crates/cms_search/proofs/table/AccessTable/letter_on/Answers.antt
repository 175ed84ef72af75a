use Rattle.std.proofs.Common.{◌∙◌, ℕ, sym, ap}
use Rattle.std.specs.Prelude.{Option}
use Rattle.std.specs.Option.{option_and_then}
use Rattle.cms_search.specs.Tables.{letters_of}
use Rattle.cms_search.specs.Units.{letter_with}
use Rattle.cms_search.proofs.Released.{letter_seated}
use Rattle.cms_search.proofs.table.AccessTable.letter_on.Goals as goal

pub returns-in-Some-clause-letter : goal.returns-in-Some-clause-letter
returns-in-Some-clause-letter c =
    let t = c.args.self.now in
    c.letter_of.ensures.letter ∙ sym (letter_seated c.in-Some.place t.seats)
    ∙ ap (λ (p : Option ℕ). option_and_then (λ u. letter_with u (letters_of t)) p) c.in-Some.ensures.place
