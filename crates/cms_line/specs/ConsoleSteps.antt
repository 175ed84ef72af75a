-- The steps by which a console finds its next line in what was read.
use Rattle.std.specs.Prelude.{◌≡◌, ℕ, ◌-◌, ◌<◌, ◌≤◌, ◌==◌, not, ◌&&◌, Bool, true, false, if◌then◌else◌, List, [], ◌∷◌, ◌++◌, length, take, drop, slice_index, Some}
use Rattle.std.specs.List.{list_any}
use Rattle.cms_journal.specs.declared.event.Event.TheVariants.{Read}
use Rattle.cms_journal.specs.Told.{Told, plus, is_over}
use Rattle.cms_text.specs.Limits.{longest_text}
use Rattle.cms_model.specs.Items.{Item, items, extended, Goes}
use Rattle.cms_line.specs.ConsoleState.{Console}
use Rattle.cms_line.specs.Consoles.{item_of}
use Rattle.cms_line.specs.declared.console.ConsoleLine.{ConsoleLine}
use Rattle.cms_line.specs.declared.console.Front.{Front}
use Rattle.cms_line.specs.declared.console.Front.TheVariants as front
use Rattle.cms_line.specs.declared.console.Step.{Step}
use Rattle.cms_line.specs.declared.console.Step.TheVariants as step

-- a line feed is among the bytes
abbrev pub has_feed : List ℕ → Bool
has_feed bytes = list_any (λ b. b == 10) bytes

-- the first byte belongs to the line: it is no line feed, and no carriage return that a line feed follows or may follow
abbrev pub begins_in_line : List ℕ → Bool → Bool
begins_in_line [] ended = false
begins_in_line (b ∷ []) ended = if b == 13 then ended else not (b == 10)
begins_in_line (b ∷ c ∷ bytes) ended = if b == 13 then not (c == 10) else not (b == 10)

-- the line goes on past its next bytes
unfoldable pub goes_past : ℕ → List ℕ → Bool → Bool
goes_past count bytes ended = not (has_feed (take count bytes)) && begins_in_line (drop count bytes) ended

-- how many bytes the current piece of a line may still have
abbrev pub room_of : Console → ℕ
room_of c = longest_text - c.unread.within

-- the first line feed is at this place, and the line doesn't go on past the room
pub record LineEnds (c : Console) (n : ℕ) : Type 0 where
  pub past : goes_past (room_of c) c.unread.bytes c.ended ≡ false
  pub within : n < length c.unread.bytes
  pub none : has_feed (take n c.unread.bytes) ≡ false
  pub is : slice_index c.unread.bytes n ≡ 10

-- the last line, which isn't empty and has no line feed
pub record LineIsLast (c : Console) : Type 0 where
  pub past : goes_past (room_of c) c.unread.bytes c.ended ≡ false
  pub none : has_feed c.unread.bytes ≡ false
  pub ended : c.ended ≡ true
  pub some : 0 < length c.unread.bytes

-- what begins in the unread bytes: a piece of a long line; up to a line feed a line or the rest of a long one; with no line feed
-- the last line; nothing, at the script's end; or what isn't known before more is read
abbrev pub IsFront : Console → Front → Type 0
IsFront c front.Piece = goes_past (room_of c) c.unread.bytes c.ended ≡ true
IsFront c (front.Line n) = (c.unread.within ≡ 0) × LineEnds c n
IsFront c (front.Tail n) = (0 < c.unread.within) × LineEnds c n
IsFront c front.Last = (c.unread.within ≡ 0) × LineIsLast c
IsFront c front.End = (c.ended ≡ true) × (items c.unread true ≡ [])
IsFront c front.More = (c.ended ≡ false) × (items c.unread false ≡ []) × (length c.unread.bytes ≤ 256)

-- what was read has these items, and then those that are left
pub record Gives (was now : Console) (taken : List Item) : Type 0 where
  pub ended : now.ended ≡ was.ended
  pub told : (more : List ℕ) (e : Bool) → Goes now.ended more e → items (extended was.unread more) e ≡ taken
      ++ items (extended now.unread more) e

-- the console gives this line, which is the script's next item
abbrev pub GivesLine : Console → Console → ConsoleLine → Type 0
GivesLine was now line = (item : Item) × (item_of line ≡ Some item) × Gives was now (item ∷ [])

-- what a step of the console says is so
abbrev pub IsStep : Console → Console → Step → Type 0
IsStep was now (step.Taken line) = GivesLine was now line
IsStep was now step.Passed = Gives was now []
IsStep was now step.Ended = (now ≡ was) × (was.ended ≡ true) × (items was.unread true ≡ [])
IsStep was now step.More = (now ≡ was) × (was.ended ≡ false) × (items was.unread false ≡ []) × (length was.unread.bytes ≤ 256)

-- one read more
pub record Filled (old new : Told) (was now : Console) : Type 0 where
  pub bytes : List ℕ
  pub told : new ≡ plus old (Read bytes ∷ [])
  pub unread : now.unread ≡ extended was.unread bytes
  pub ended : now.ended ≡ is_over (Read bytes ∷ [])
