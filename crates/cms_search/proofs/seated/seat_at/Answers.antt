use Rattle.std.proofs.Common.{◌∙◌, Option, Some, ap, sym}
use Rattle.std.specs.Option.{option_and_then, option_copied}
use Rattle.cms_search.specs.Tables.{Seated}
use Rattle.cms_search.proofs.Searches.{lent_at}
use Rattle.cms_search.proofs.seated.seat_at.Goals as goal

pub returns-in-Some-Some : goal.returns-in-Some-Some
returns-in-Some-Some c =
    let read = lent_at c.args.seats.now c.args.letter c.get.result c.get.ensures.lookup in
    sym (ap (λ (x : Option (Option Seated)). option_and_then (λ (y : Option Seated). y) x)
    (sym read ∙ (ap option_copied c.in-Some-Some.is ∙ ap (λ (y : Option Seated). Some y) c.in-Some-Some.field-0-is)))
