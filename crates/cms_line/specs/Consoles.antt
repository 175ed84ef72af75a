-- What a console gives.
use Rattle.std.specs.Prelude.{◌≡◌, ℕ, ◌≤◌, List, Option, Some, None, Result, IsErrOf}
use Rattle.cms_journal.specs.declared.event.Event.{Event}
use Rattle.cms_journal.specs.Causes.{Rose}
use Rattle.cms_journal.specs.Told.{Told, plus}
use Rattle.cms_model.specs.Beats.{OnlyRead}
use Rattle.cms_model.specs.Items as items
use Rattle.cms_model.specs.Items.{Item, Takes, Keeps}
use Rattle.cms_line.specs.ConsoleState.{Console}
use Rattle.cms_line.specs.declared.console.ConsoleLine.{ConsoleLine}
use Rattle.cms_line.specs.declared.console.ConsoleLine.TheVariants.{Text, Bad, Long, Rest, End}
use Rattle.cms_line.specs.declared.console.LineFault.{LineFault}
use Rattle.cms_line.specs.declared.console.LineFault.TheVariants.{World}

-- the item that it is, none at the script's end
abbrev pub item_of : ConsoleLine → Option Item
item_of (Text line) = Some (items.Text line)
item_of Bad = Some items.Bad
item_of Long = Some items.Long
item_of Rest = Some items.Rest
item_of End = None

-- by these reads and no other event a line was taken
pub record Took (old new : Told) (was now : Console) (line : ConsoleLine) : Type 0 where
  pub events : List Event
  pub told : new ≡ plus old events
  pub only : OnlyRead events
  pub takes : Takes was.unread was.ended events (item_of line) now.unread now.ended

-- by these reads and no other event none was, and all that was read is kept
pub record Stayed (old new : Told) (was now : Console) : Type 0 where
  pub events : List Event
  pub told : new ≡ plus old events
  pub only : OnlyRead events
  pub keeps : Keeps was.unread was.ended events now.unread now.ended

-- the count hasn't fallen, and a failure of the world raised it
pub record LineCause {T : Type 0} (before now : ℕ) (result : Result T LineFault) : Type 0 where
  pub later : before ≤ now
  pub rose : IsErrOf result World → Rose before now
