use Rattle.std.proofs.Common.{◌≡◌, ◌∙◌, ◌==◌, ℕ, List, Option, Some, ap, slice_set, ◌<◌, length, sym, subst}
use Rattle.std.proofs.lemmas.List.{length-map}
use Rattle.cms_search.specs.Tables.{Seated, without}
use Rattle.cms_search.proofs.seated.put_on.Goals as goal

-- its unit leaves its old letter
pub returns : goal.returns
returns c =
    let put = c.replace.ensures.after in
    let own : c.seat.inside.unit ≡ c.args.seat.letter.unit = ap (λ (s : Seated). s.letter.unit) c.seat.view_is in
    let left = c.vacate.ensures ∙ ap (λ (u : ℕ). without (λ (e : Seated). e.letter.unit == u) c.args.seats.now.items) own in
    rw put (ap (λ (l : List (Option Seated)). slice_set l c.args.letter (Some c.args.seat)) left)

pub index_mut-requires : goal.index_mut-requires
index_mut-requires c =
    let long = ap (λ (l : List (Option Seated)). length l) c.vacate.ensures ∙ length-map c.args.seats.now.items _ in
    subst (λ (n : ℕ). c.args.letter < n) (sym (c.vacate.new.seats.ok.0 ∙ long)) c.requires
