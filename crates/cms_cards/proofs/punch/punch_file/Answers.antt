use Rattle.std.proofs.Common.{◌∙◌, ◌++◌, ◌∷◌, [], ap, true}
use Rattle.std.proofs.lemmas.Result.{err_from_is_err_and}
use Rattle.cms_search.specs.Calls.{machine_of}
use Rattle.cms_cards.specs.Cards.{is_full}
use Rattle.cms_cards.specs.Fetch.{fetching}
use Rattle.cms_cards.specs.PunchedCards.{Deck, punched}
use Rattle.cms_cards.proofs.Deals.{added_none, added_off, added_so, added_starved}
use Rattle.cms_cards.proofs.punch.punch_file.Goals as goal

pub returns-in_err-fetched : goal.returns-in_err-fetched
returns-in_err-fetched g c =
    let p = err_from_is_err_and c.from_residual.result c.from_residual.ensures.1 in
    let full = c.is_full.ensures.full in
    let l = c.args.line.now in
    let decks = c.args.reader.now in
    rw (p.1, p.2) (added_off _ _ l.input.name decks (punched l.header)
    (λ units. fetching (machine_of c.args.state.now units) c.args.words.now 1 true (is_full decks) l.input) _ _ (rw full at c.in_err-fetched.ensures.acts))

pub returns-in_err-deck-in-File : goal.returns-in_err-deck-in-File
returns-in_err-deck-in-File g c =
    let p = err_from_is_err_and c.from_residual-in_err-deck-in-File.result c.from_residual-in_err-deck-in-File.ensures.1 in
    let full = c.is_full.ensures.full in
    let l = c.args.line.now in
    let decks = c.args.reader.now in
    rw (p.1, p.2) (added_starved _ _ l.input.name decks (punched l.header)
    (λ units. fetching (machine_of c.args.state.now units) c.args.words.now 1 true (is_full decks) l.input) _ _ (rw full at c.in_ok-fetched.ensures.acts))

pub returns-in_err-push-in-File : goal.returns-in_err-push-in-File
returns-in_err-push-in-File g c =
    let p = err_from_is_err_and c.from_residual-in_err-push-in-File.result c.from_residual-in_err-push-in-File.ensures.1 in
    let full = c.is_full.ensures.full in
    let l = c.args.line.now in
    let decks = c.args.reader.now in
    rw (p.1, p.2) (added_starved _ _ l.input.name decks (punched l.header)
    (λ units. fetching (machine_of c.args.state.now units) c.args.words.now 1 true (is_full decks) l.input) _ _ (rw full at c.in_ok-fetched.ensures.acts))

pub returns-in_ok-push-in-File : goal.returns-in_ok-push-in-File
returns-in_ok-push-in-File g c =
    let full = c.is_full.ensures.full in
    let l = c.args.line.now in
    let decks = c.args.reader.now in
    added_so _ _ l.input.name decks (punched l.header)
    (λ units. fetching (machine_of c.args.state.now units) c.args.words.now 1 true (is_full decks) l.input) c.in-File.letter c.in-File.file _ _ (rw full at c.in_ok-fetched.ensures.acts) c.in-File.is
    (c.in_ok-push-in-File.ensures.ok ∙ ap (λ (deck : Deck). decks ++ deck ∷ []) c.in_ok-deck-in-File.ensures)

pub returns-in-Refused : goal.returns-in-Refused
returns-in-Refused g c =
    let full = c.is_full.ensures.full in
    let l = c.args.line.now in
    let decks = c.args.reader.now in
    added_none _ _ l.input.name decks (punched l.header)
    (λ units. fetching (machine_of c.args.state.now units) c.args.words.now 1 true (is_full decks) l.input) c.in-Refused.course _ (rw full at c.in_ok-fetched.ensures.acts) c.in-Refused.is
