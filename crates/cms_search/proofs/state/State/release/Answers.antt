use Rattle.std.proofs.Common.{◌∙◌, sym}
use Rattle.cms_search.specs.Searches.{item_at}
use Rattle.cms_search.proofs.Released.{places_left, some_of, state_left}
use Rattle.cms_search.proofs.state.State.release.Goals as goal

pub returns-in-Some-clause-released : goal.returns-in-Some-clause-released
returns-in-Some-clause-released c =
    let s = c.args.self.now in
    let n = c.args.letter in
    let left = c.in_ok-release.ensures.released in
    let seat = some_of (item_at s.table.seats n) left.0 in
    let told = c.in-Some.ensures.some seat.0 seat.1 in (
      left.0,
      state_left s n c.release.new.self c.after.new.self left.1
          (c.after.ensures ∙ sym (places_left s n c.in-Some.seat.vdev seat.0 seat.1 told.2)),
    )
