use Rattle.std.proofs.Common.{refl, arith}
use Rattle.std.proofs.lemmas.Result.{err_from_is_err_and}
use Rattle.cms_search.proofs.Acts.{cut_off}
use Rattle.cms_cards.proofs.Loads.{cards_written}
use Rattle.cms_cards.proofs.first_deck.write_cards.Goals as goal

pub returns-in_err-file-clause-acts : goal.returns-in_err-file-clause-acts
returns-in_err-file-clause-acts g c =
    let p = err_from_is_err_and c.from_residual.result c.from_residual.ensures.1 in
    rw (p.1, p.2) (cut_off _ _ _ _ refl (omega arith) (omega arith) refl)

pub returns-clause-acts : goal.returns-clause-acts
returns-clause-acts g c =
    cards_written _ _ c.args.target.now c.args.deck.now c.number_for-number.result c.of-stamp.result c.in_ok-file.file _ c.number_for-number.ensures.told c.of-stamp.ensures.value
    c.in_ok-file.ensures (c.write_last.ensures.acts _ c.in_ok-file.ensures.stands)
