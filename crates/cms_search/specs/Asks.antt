-- A line that a command asks for.
use Rattle.std.specs.Prelude.{ℕ, zero, suc, List, [], ◌∷◌, Option, Some, None}
use Rattle.cms_model.specs.Items.{Item, Text, Bad, Long, Rest}
use Rattle.cms_model.specs.Acts.{Act, Done, Out, Take, Turn, typed_line}
use Rattle.cms_line.specs.declared.message.Message.{Message}
use Rattle.cms_line.specs.declared.message.Message.TheVariants.{M010, M011}
use Rattle.cms_line.specs.Messages.{message_text}
use Rattle.cms_search.specs.Machine.{Machine}

-- what an ask comes to: a line, with the machine that is left, or the turns are spent and a further one is due
pub data Asked : Type 0 where
  Given : Machine → List ℕ → Asked
  Spent : Asked

-- the message of an item that is no line; a further piece of a long line has none
abbrev pub complaint : Item → Option Message
complaint (Text line) = None
complaint Bad = Some M010
complaint Long = Some M011
complaint Rest = None

-- a message is typed, where there is one
abbrev pub complaining : {R : Type 0} → Option Message → Act R → Act R
complaining None next = next
complaining (Some message) next = Out (typed_line (message_text message)) next

-- an item is dropped: a turn is spent, and its message is typed
abbrev pub dropping : Option Message → Act (Unit {0})
dropping message = Turn (λ seconds. complaining message (Done tt))

-- an item that is no line is dropped: it costs a turn, its message is typed, and the next one is asked for; the command that asks keeps
-- its own moment
abbrev pub dropped : Machine → (Machine → Act Asked) → Item → ℕ → Act Asked
dropped s next item zero = Done Spent
dropped s next item (suc left) = Turn (λ seconds. complaining (complaint item) (next (record s { left = left })))

-- the line of an item, the empty line at the script's end
abbrev pub on_item : Machine → (Machine → Act Asked) → Option Item → Act Asked
on_item s next None = Done (Given s [])
on_item s next (Some (Text line)) = Done (Given s line)
on_item s next (Some Bad) = dropped s next Bad s.left
on_item s next (Some Long) = dropped s next Long s.left
on_item s next (Some Rest) = dropped s next Rest s.left

-- a stacked line comes first, then the console's next item
abbrev pub next_line : Machine → (Machine → Act Asked) → List (List ℕ) → Act Asked
next_line s next [] = Take (on_item s next)
next_line s next (line ∷ lines) = Done (Given (record s { stack = lines }) line)

-- so many items at most
unfoldable pub asking : ℕ → Machine → Act Asked
asking zero s = Done Spent
asking (suc more) s = next_line s (asking more) s.stack

-- each item that is dropped costs a turn, so one more than the turns is enough
abbrev pub ask : Machine → Act Asked
ask s = asking (suc s.left) s
