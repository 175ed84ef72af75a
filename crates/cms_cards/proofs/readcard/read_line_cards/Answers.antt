use Rattle.std.proofs.Common.{refl, slice_get}
use Rattle.cms_search.proofs.StateCalls.{acts_line, acts_line_fault}
use Rattle.cms_cards.specs.FirstDeck.{reading_cards}
use Rattle.cms_cards.specs.Lines.{read_line}
use Rattle.cms_cards.proofs.Loads.{line_number}
use Rattle.cms_cards.proofs.readcard.read_line_cards.Goals as goal

pub read_cards-requires-clause-number : goal.read_cards-requires-clause-number
read_cards-requires-clause-number g c = line_number c.args.words.now c.in-Ok.target c.in-Ok.ensures

pub returns-in-Ok-clause-acts : goal.returns-in-Ok-clause-acts
returns-in-Ok-clause-acts g c =
    let words = c.args.words.now in
    acts_line _ _ words (λ s target. reading_cards s words (slice_get c.args.reader.now 0) target) (λ units. read_line words) c.in-Ok.target c.read_cards.result _
    (λ units. c.in-Ok.ensures) c.read_cards.ensures.acts

pub returns-in-Err-clause-acts : goal.returns-in-Err-clause-acts
returns-in-Err-clause-acts g c =
    let words = c.args.words.now in
    acts_line_fault _ _ words (λ s target. reading_cards s words (slice_get c.args.reader.now 0) target) (λ units. read_line words) c.in-Err.fault c.refuse_command.result
    (λ units. c.in-Err.ensures) c.refuse_command.ensures refl
