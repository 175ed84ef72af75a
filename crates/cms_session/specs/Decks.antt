-- The decks of the session's reader, beside what knows of none.
use Rattle.cms_model.specs.Acts.{Act, Done, bind}
use Rattle.cms_cards.specs.PunchedCards.{Decks}

-- something is done that leaves the decks
abbrev pub leaving_decks : {A : Type 0} → Decks → Act A → Act (A × Decks)
leaving_decks decks t = bind t (λ x. Done (x, decks))
