-- What an ask does, and what a start has, computed.
use Rattle.std.proofs.Common.{◌≡◌, ℕ, List, [], ◌∷◌, refl}
use Rattle.std.specs.Prelude.{Some, None, true}
use Rattle.cms_fields.specs.Moments.{first_moment, is_moment}
use Rattle.cms_fields.specs.Stamps.{days_of_month}
use Rattle.cms_model.specs.Items.{Bad}
use Rattle.cms_model.specs.Acts.{Done, Out, Take, Turn, typed_line}
use Rattle.cms_line.specs.declared.message.Message.TheVariants.{M010}
use Rattle.cms_line.specs.Messages.{message_text}
use Rattle.cms_search.specs.Machine.{Machine}
use Rattle.cms_search.specs.Asks.{Given, Spent, ask, asking, on_item}

-- a stacked line is given, and the script isn't read
pub stacked : (s : Machine) (line : List ℕ) (lines : List (List ℕ)) → ask (record s { stack = line ∷ lines }) ≡ Done (Given (record s { stack = lines }) line)
unfolding asking
stacked s line lines = refl

-- at the script's end the line is empty
pub at_end : (s : Machine) → on_item (record s { stack = [] }) (asking s.left) None ≡ Done (Given (record s { stack = [] }) [])
at_end s = refl

-- a line that isn't printable costs the last turn, and the next one is given; one more ends the ask
pub dropped_once : (s : Machine) → on_item (record s { stack = []; left = 1 }) (asking 1) (Some Bad)
    ≡ Turn (λ seconds. Out (typed_line (message_text M010)) (Take (on_item (record s { stack = []; left = 0 }) (asking 0))))
unfolding asking
dropped_once s = refl

pub no_turn_left : (s : Machine) → on_item (record s { stack = []; left = 0 }) (asking 0) (Some Bad) ≡ Done Spent
no_turn_left s = refl

-- ---- the start

-- the first moment is one
pub first_is_moment : is_moment first_moment ≡ true
unfolding is_moment days_of_month
first_is_moment = refl
