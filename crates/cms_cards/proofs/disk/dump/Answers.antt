use Rattle.std.proofs.Common.{◌∙◌, ◌++◌, ◌∷◌, [], ap, false}
use Rattle.std.proofs.lemmas.Result.{err_from_is_err_and}
use Rattle.cms_search.specs.Calls.{machine_of}
use Rattle.cms_cards.specs.Dumps as spec
use Rattle.cms_cards.specs.Cards.{is_full}
use Rattle.cms_cards.specs.Fetch.{fetching}
use Rattle.cms_cards.specs.PunchedCards.{Deck}
use Rattle.cms_cards.proofs.Deals.{added_none, added_off, added_so, added_starved, dumped_so}
use Rattle.cms_cards.proofs.disk.dump.Goals as goal

pub returns-in_err-fetched : goal.returns-in_err-fetched
returns-in_err-fetched g c =
    let p = err_from_is_err_and c.from_residual.result c.from_residual.ensures.1 in
    let full = c.is_full.ensures.full in
    let input = c.args.input.now in
    let decks = c.args.reader.now in
    rw (p.1, p.2) (added_off _ _ input.name decks (λ n f. spec.dump f)
    (λ units. fetching (machine_of c.args.state.now units) c.args.words.now 2 false (is_full decks) input) _ _ (rw full at c.in_err-fetched.ensures.acts))

pub returns-in_err-deck-in-File : goal.returns-in_err-deck-in-File
returns-in_err-deck-in-File g c =
    let p = err_from_is_err_and c.from_residual-in_err-deck-in-File.result c.from_residual-in_err-deck-in-File.ensures.1 in
    let full = c.is_full.ensures.full in
    let input = c.args.input.now in
    let decks = c.args.reader.now in
    rw (p.1, p.2) (added_starved _ _ input.name decks (λ n f. spec.dump f)
    (λ units. fetching (machine_of c.args.state.now units) c.args.words.now 2 false (is_full decks) input) _ _ (rw full at c.in_ok-fetched.ensures.acts))

pub returns-in_err-push-in-File : goal.returns-in_err-push-in-File
returns-in_err-push-in-File g c =
    let p = err_from_is_err_and c.from_residual-in_err-push-in-File.result c.from_residual-in_err-push-in-File.ensures.1 in
    let full = c.is_full.ensures.full in
    let input = c.args.input.now in
    let decks = c.args.reader.now in
    rw (p.1, p.2) (added_starved _ _ input.name decks (λ n f. spec.dump f)
    (λ units. fetching (machine_of c.args.state.now units) c.args.words.now 2 false (is_full decks) input) _ _ (rw full at c.in_ok-fetched.ensures.acts))

pub returns-in_ok-push-in-File : goal.returns-in_ok-push-in-File
returns-in_ok-push-in-File g c =
    let full = c.is_full.ensures.full in
    let input = c.args.input.now in
    let decks = c.args.reader.now in
    added_so _ _ input.name decks (λ n f. spec.dump f)
    (λ units. fetching (machine_of c.args.state.now units) c.args.words.now 2 false (is_full decks) input) c.in-File.field-0 c.in-File.file _ _ (rw full at c.in_ok-fetched.ensures.acts) c.in-File.is
    (c.in_ok-push-in-File.ensures.ok ∙ ap (λ (deck : Deck). decks ++ deck ∷ [])
    (dumped_so c.is_full.result input.name _ c.in-File.field-0 c.in-File.file c.in_ok-deck-in-File.deck c.in_ok-fetched.ensures.taken c.in-File.is c.in_ok-deck-in-File.ensures))

pub returns-in-Refused : goal.returns-in-Refused
returns-in-Refused g c =
    let full = c.is_full.ensures.full in
    let input = c.args.input.now in
    let decks = c.args.reader.now in
    added_none _ _ input.name decks (λ n f. spec.dump f)
    (λ units. fetching (machine_of c.args.state.now units) c.args.words.now 2 false (is_full decks) input) c.in-Refused.course _ (rw full at c.in_ok-fetched.ensures.acts) c.in-Refused.is
