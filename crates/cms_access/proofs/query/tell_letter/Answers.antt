use Rattle.std.proofs.Common.{refl, sym, ◌∙◌}
use Rattle.cms_access.proofs.Queries.{letter_told', letter_untold}
use Rattle.cms_access.proofs.query.tell_letter.Goals as goal

pub returns-in-None : goal.returns-in-None
returns-in-None g c =
    letter_untold _ _ c.args.letter c.refuse_not_accessed.result (c.seat.ensures.none.0 c.in-None.is) c.refuse_not_accessed.ensures.does
    c.refuse_not_accessed.ensures.went refl

pub returns : goal.returns
returns g c =
    letter_told' _ _ c.args.letter c.tell_disk.result (λ none. absurd (cc (sym c.in_default.is ∙ c.seat.ensures.none.1 none)))
    c.tell_disk.ensures.does c.tell_disk.ensures.went refl
