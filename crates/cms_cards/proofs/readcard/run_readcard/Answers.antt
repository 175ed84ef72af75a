use Rattle.std.proofs.Common.{slice_get}
use Rattle.std.proofs.lemmas.Result.{err_from_is_err_and}
use Rattle.cms_search.specs.Calls.{machine_of}
use Rattle.cms_cards.specs.Cards.{read_first}
use Rattle.cms_cards.proofs.Deals.{taken_off, taken_so}
use Rattle.cms_cards.proofs.readcard.run_readcard.Goals as goal

pub returns-in_err-course-clause-acts : goal.returns-in_err-course-clause-acts
returns-in_err-course-clause-acts g c =
    let p = err_from_is_err_and c.from_residual.result c.from_residual.ensures.1 in
    let decks = c.args.reader.now in
    rw (p.1, p.2) (taken_off _ _ decks (λ units. read_first (machine_of c.args.state.now units) c.args.words.now (slice_get decks 0)) _ _ c.in_err-course.ensures.acts)

pub returns-clause-acts : goal.returns-clause-acts
returns-clause-acts g c =
    let decks = c.args.reader.now in
    taken_so _ _ decks (λ units. read_first (machine_of c.args.state.now units) c.args.words.now (slice_get decks 0)) c.in_ok-course.course _ c.in_ok-course.ensures.acts
    c.take_deck.ensures
