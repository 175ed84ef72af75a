-- The items of a console: what the lines of a script are, and which of them are told by a part of it.
use Rattle.std.specs.Prelude.{◌≡◌, ◌↔◌, ℕ, zero, suc, ◌-◌, ◌==◌, nat_le, Bool, true, false, ◌||◌, if◌then◌else◌, List, [], ◌∷◌, ◌++◌, length, replicate, slice_get, Option, Some, None}
use Rattle.std.specs.Option.{option_map, option_map_or, option_and_then}
use Rattle.std.specs.List.{slice_split, flat_map}
use Rattle.std.specs.Str.Lines.{lines}
use Rattle.cms_text.specs.Limits.{longest_text}
use Rattle.cms_fields.specs.Numbers.{up}
use Rattle.cms_ebcdic.specs.CodePage.{code_of}
use Rattle.cms_journal.specs.declared.event.Event.{Event}
use Rattle.cms_journal.specs.declared.event.Event.TheVariants.{Read}
use Rattle.cms_journal.specs.Told.{script, is_over}

-- a line in EBCDIC; one with a byte that isn't printable; the first 255 bytes of a longer one; each further piece of that, of up to 255
-- bytes
pub data Item : Type 0 where
  Text : List ℕ → Item
  Bad : Item
  Long : Item
  Rest : Item

-- ---- a line

-- without the carriage return at its end
abbrev pub without_return : List ℕ → List ℕ
without_return [] = []
without_return (b ∷ []) = if b == 13 then [] else b ∷ []
without_return (b ∷ c ∷ bytes) = b ∷ without_return (c ∷ bytes)

-- the code of an ASCII byte, where it is printable; a tab is a blank
abbrev pub console_code : ℕ → Option ℕ
console_code b = code_of (if b == 9 then 32 else b)

-- a line in EBCDIC, where all of it is printable
abbrev pub coded_line : List ℕ → Option (List ℕ)
coded_line [] = Some []
coded_line (b ∷ bytes) = option_and_then (λ code. option_map (λ codes. code ∷ codes) (coded_line bytes)) (console_code b)

-- a line of up to 255 bytes
abbrev pub short_line : List ℕ → Item
short_line bytes = option_map_or Text (coded_line bytes) Bad

-- the pieces that begin in the next `count` bytes of a long line, of whose current piece so many bytes were taken
abbrev pub rests : ℕ → ℕ → List Item
rests taken count = replicate (up (count - (longest_text - taken)) longest_text) Rest

-- the items of a line: itself, or the pieces of one that is too long
abbrev pub line_items : List ℕ → List Item
line_items bytes = if nat_le (length bytes) longest_text then short_line bytes ∷ [] else Long ∷ rests 0 (length bytes)

-- ---- a script, or what is left of it

-- at the beginning of a line `within` is 0; else it is how many bytes, 1 to 255, of a long line's current piece were taken, whose item
-- was given
pub record Unread : Type 0 where
  pub within : ℕ
  pub bytes : List ℕ

-- with these bytes behind it
abbrev pub extended : Unread → List ℕ → Unread
extended u more = record { within = u.within; bytes = u.bytes ++ more }

-- the items of what is left of a line
abbrev pub items_left : ℕ → List ℕ → List Item
items_left zero bytes = line_items bytes
items_left (suc within) bytes = rests (suc within) (length bytes)

-- of a line that may go on, those that it has however it does
abbrev pub items_sure : ℕ → List ℕ → List Item
items_sure zero bytes = if nat_le (length bytes) longest_text then [] else line_items bytes
items_sure (suc within) bytes = rests (suc within) (length bytes)

-- the part behind the last line feed: at the script's end a line where it isn't empty; before that it may go on, and its last carriage
-- return may belong to a line feed
abbrev pub last_items : ℕ → List ℕ → Bool → List Item
last_items zero [] true = []
last_items within bytes true = items_left within bytes
last_items within bytes false = items_sure within (without_return bytes)

-- the parts between line feeds; all but the last are whole lines
abbrev pub part_items : ℕ → List (List ℕ) → Bool → List Item
part_items within [] ended = []
part_items within (part ∷ []) ended = last_items within part ended
part_items within (part ∷ next ∷ parts) ended = items_left within (without_return part) ++ part_items 0 (next ∷ parts) ended

-- the items of what is left: all of them where the script ends there, else those that are told by then
unfoldable pub items : Unread → Bool → List Item
items u ended = part_items u.within (slice_split (λ b. b == 10) u.bytes) ended

-- a whole script
abbrev pub items_of : List ℕ → List Item
items_of script = items (record { within = 0; bytes = script }) true

-- an item is told: however the script goes on, it is at that place
abbrev pub IsTold : Unread → ℕ → Item → Type 0
IsTold u place item = (more : List ℕ) → slice_get (items (extended u more) true) place ≡ Some item

-- what is told by a part of a script is exactly what every script that begins so has
abbrev pub ToldAreSure : Type 0
ToldAreSure = (u : Unread) (place : ℕ) (item : Item) → IsTold u place item ↔ (slice_get (items u false) place ≡ Some item)

-- the items of a whole script are those of its lines
abbrev pub WholeByLines : Type 0
WholeByLines = (script : List ℕ) → items_of script ≡ flat_map line_items (lines script)

-- ---- what a console takes

-- nothing goes on past the script's end
abbrev pub Goes : Bool → List ℕ → Bool → Type 0
Goes ended more e = ended ≡ true → (more ≡ []) × (e ≡ true)

-- an item, or nothing at the script's end, as a list
abbrev pub listed : Option Item → List Item
listed None = []
listed (Some item) = item ∷ []

-- a read comes only where no item is told, and not past the script's end
abbrev pub Lazy : Unread → Bool → List Event → Type 0
Lazy u ended es = (p q : List Event) (b : List ℕ) → p ++ Read b ∷ q ≡ es → ((ended || is_over p) ≡ false)
    × (items (extended u (script p)) false ≡ [])

-- after these reads an item is taken, which every continuation of the bytes told has there; none is taken exactly at the script's end
pub record Takes (u : Unread) (ended : Bool) (es : List Event) (item : Option Item) (u' : Unread) (ended' : Bool) : Type 0 where
  pub told : (more : List ℕ) (e : Bool) → Goes ended' more e
      → items (extended (extended u (script es)) more) e ≡ listed item ++ items (extended u' more) e
  pub over : ended' ≡ (ended || is_over es)
  pub none : item ≡ None → (ended' ≡ true) × (items u' true ≡ [])
  pub lazy : Lazy u ended es

-- after these reads no item is taken, and what was read is kept
pub record Keeps (u : Unread) (ended : Bool) (es : List Event) (u' : Unread) (ended' : Bool) : Type 0 where
  pub told : (more : List ℕ) (e : Bool) → Goes ended' more e → items (extended (extended u (script es)) more) e ≡ items (extended u' more) e
  pub over : ended' ≡ (ended || is_over es)
  pub lazy : Lazy u ended es
