use Rattle.std.proofs.Common.{◌<◌, ℕ, subst, sym, ◌∙◌, Some, ap, refl}
use Rattle.cms_search.specs.Tables.{Seated}
use Rattle.cms_search.proofs.Seats.{item_read}
use Rattle.cms_search.proofs.readings.drop_reading.Goals as goal

pub index_mut-requires : goal.index_mut-requires
index_mut-requires c = subst (λ (l : ℕ). c.args.letter < l) (sym c.args.seats.now.ok.0) c.requires

pub returns-in-Some : goal.returns-in-Some
returns-in-Some c =
    let none = c.take.ensures.after in
    let at = item_read c.args.seats.now.items c.args.letter c.index_mut.result.now c.requires c.index_mut.ensures.value ∙ (c.in-Some.is ∙ ap (λ (s : Seated). Some s) (sym c.seat.view_is)) in
    rw (none, at) refl

pub returns-in-None : goal.returns-in-None
returns-in-None c =
    let at = item_read c.args.seats.now.items c.args.letter c.index_mut.result.now c.requires c.index_mut.ensures.value ∙ c.in-None.is in
    let none = c.in-None.is in
    rw (at, none) refl
