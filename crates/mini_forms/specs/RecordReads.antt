-- Records that are read of a host file, byte by byte.
use Rattle.std.specs.Prelude.{◌≡◌, ℕ, ◌+◌, ◌-◌, ◌*◌, ◌<◌, ◌≤◌, ◌==◌, ◌&&◌, nat_le, nat_lt, Bool, true, false, if◌then◌else◌, List, [], ◌∷◌, ◌++◌, drop, length, Option, None, Some, Result, Ok, Err}
use Rattle.cms_fields.specs.Limits.{longest_record, most_bytes, most_records}
use Rattle.cms_fields.specs.Steps.{◌>>=◌}
use Rattle.cms_records.specs.Views.{fitted}
use Rattle.mini_forms.specs.Page.{code_of}
use Rattle.mini_forms.specs.Lines.{step_of}
use Rattle.mini_forms.specs.declared.form.Layout.{Layout}
use Rattle.mini_forms.specs.declared.form.Layout.TheVariants.{Text, Binary, Records}
use Rattle.mini_forms.specs.declared.form.FormFault.{FormFault}
use Rattle.mini_forms.specs.declared.form.FormFault.TheVariants.{BadCharacter, CarriageReturn, LongLine, BadLength, Cut, TooLarge, Empty}
use Rattle.mini_forms.specs.declared.step.Begun.TheVariants.{Fresh, LowHalf, HighHalf, Return}
use Rattle.mini_forms.specs.declared.step.Step.{Step}
use Rattle.mini_forms.specs.declared.step.Step.TheVariants.{Adds, Goes, Ends, NoCharacter, LoneReturn}
use Rattle.mini_forms.specs.declared.place.Head.{Head}
use Rattle.mini_forms.specs.declared.place.Head.TheVariants.{Start, High, Left}
use Rattle.mini_forms.specs.declared.place.Place.{Place}
use Rattle.mini_forms.specs.declared.place.Place.TheVariants.{Line, Block, Stored}

-- how far a host file was read: the place within a record, the bytes of the record that is begun or whole, whether it is whole,
-- how many records were whole, and how many bytes those fill as a minidisk stores them
pub record Reader : Type 0 where
  pub place : Place
  pub bytes : List ℕ
  pub whole : Bool
  pub count : ℕ
  pub stored : ℕ

-- the size of all records, where they have one
abbrev pub size_in : Place → Option ℕ
size_in (Line size begun) = size
size_in (Block n) = Some n
size_in (Stored size head) = size

-- the most bytes of a record
abbrev pub most_of : Option ℕ → ℕ
most_of None = longest_record
most_of (Some n) = n

-- before the first byte
abbrev pub start_of : Layout → Place
start_of (Text size) = Line size Fresh
start_of (Binary n) = Block n
start_of (Records size) = Stored size Start

-- a reading of which no byte has come
abbrev pub unread : Layout → Reader
unread layout = record { place = start_of layout; bytes = []; whole = false; count = 0; stored = 0 }

-- behind a whole record the next one begins
abbrev pub begun : Reader → Reader
begun s = record { place = s.place; bytes = (if s.whole then [] else s.bytes); whole = false; count = s.count; stored = s.stored }

-- the number of the record that is begun, and of its line
abbrev pub number : Reader → ℕ
number s = s.count + 1

-- how many bytes a record of some length fills: without a common size its length is stored too
abbrev pub stored_size : Option ℕ → ℕ → ℕ
stored_size None n = 2 + n
stored_size (Some size) n = n

-- one more record is whole, within the limits of a file
abbrev pub counted : Reader → Result Reader FormFault
counted s =
    let stored = s.stored + stored_size (size_in s.place) (length s.bytes) in
    if nat_lt s.count most_records && nat_le stored most_bytes
    then Ok (record { place = s.place; bytes = s.bytes; whole = s.whole; count = s.count + 1; stored = stored }) else Err TooLarge

-- these are the bytes of a record, and the next one begins here
abbrev pub finished : Place → List ℕ → Reader → Result Reader FormFault
finished place bytes s = counted (record { place = place; bytes = bytes; whole = true; count = s.count; stored = s.stored })

-- more is begun
abbrev pub goes : Place → List ℕ → Reader → Result Reader FormFault
goes place bytes s = Ok (record { place = place; bytes = bytes; whole = s.whole; count = s.count; stored = s.stored })

-- the record that a line is: filled with blanks to the size; without one an empty line is one blank
unfoldable pub record_of : Option ℕ → List ℕ → List ℕ
record_of (Some n) codes = fitted codes n 0x40
record_of None [] = 0x40 ∷ []
record_of None (code ∷ codes) = code ∷ codes

-- a byte of a text
unfoldable pub line_fed : Option ℕ → Step → Reader → Result Reader FormFault
line_fed size (Adds c) s =
    if nat_lt (length s.bytes) (most_of size) then goes (Line size Fresh) (s.bytes ++ code_of c ∷ []) s
    else Err (LongLine (number s))
line_fed size (Goes to) s = goes (Line size to) s.bytes s
line_fed size Ends s = finished (Line size Fresh) (record_of size s.bytes) s
line_fed size NoCharacter s = Err (BadCharacter (number s))
line_fed size LoneReturn s = Err (CarriageReturn (number s))

-- a byte of records of one size
unfoldable pub block_fed : ℕ → ℕ → Reader → Result Reader FormFault
block_fed n byte s =
    if length s.bytes + 1 == n then finished (Block n) (s.bytes ++ byte ∷ []) s
    else goes (Block n) (s.bytes ++ byte ∷ []) s

-- a length that a record may have
abbrev pub is_length : Option ℕ → ℕ → Bool
is_length None n = nat_le 1 n
is_length (Some size) n = n == size

-- a byte of records behind their lengths
unfoldable pub stored_fed : Option ℕ → Head → ℕ → Reader → Result Reader FormFault
stored_fed size Start byte s = goes (Stored size (High byte)) s.bytes s
stored_fed size (High high) byte s =
    if is_length size (high * 256 + byte) then goes (Stored size (Left (high * 256 + byte))) s.bytes s
    else Err (BadLength (number s))
stored_fed size (Left n) byte s =
    if n == 1 then finished (Stored size Start) (s.bytes ++ byte ∷ []) s
    else goes (Stored size (Left (n - 1))) (s.bytes ++ byte ∷ []) s

-- a byte at a place
abbrev pub fed_at : Place → ℕ → Reader → Result Reader FormFault
fed_at (Line size before) byte s = line_fed size (step_of before byte) s
fed_at (Block n) byte s = block_fed n byte s
fed_at (Stored size head) byte s = stored_fed size head byte s

-- the next byte
abbrev pub fed : Reader → ℕ → Result Reader FormFault
fed s byte = fed_at s.place byte (begun s)

-- the host file ends between two records
abbrev pub ends : Reader → Result Reader FormFault
ends s = if s.count == 0 then Err Empty else Ok s

-- it ends at a place: the last line may lack its line feed, and the last record of one size is filled with zeros
unfoldable pub ended_at : Place → Reader → Result Reader FormFault
ended_at (Line size Fresh) s = if length s.bytes == 0 then ends s else finished (Line size Fresh) (record_of size s.bytes) s
ended_at (Line size LowHalf) s = Err (BadCharacter (number s))
ended_at (Line size HighHalf) s = Err (BadCharacter (number s))
ended_at (Line size Return) s = Err (CarriageReturn (number s))
ended_at (Block n) s = if length s.bytes == 0 then ends s else finished (Block n) (fitted s.bytes n 0) s
ended_at (Stored size Start) s = ends s
ended_at (Stored size (High high)) s = Err (Cut (number s))
ended_at (Stored size (Left n)) s = Err (Cut (number s))

-- what the reading comes to behind its last byte
abbrev pub ended : Reader → Result Reader FormFault
ended s = ended_at s.place (begun s)

-- the record that is whole
abbrev pub whole_in : Reader → List (List ℕ)
whole_in s = if s.whole then s.bytes ∷ [] else []

-- the records that come
unfoldable pub read_from : Reader → List ℕ → Result (List (List ℕ)) FormFault
read_from s [] = ended s >>= λ last. Ok (whole_in last)
read_from s (byte ∷ bytes) =
    fed s byte >>= λ next. (read_from next bytes >>= λ more. Ok (whole_in next ++ more))

-- the records that a host file stands for, or the first thing that is wrong
abbrev pub records_in : Layout → List ℕ → Result (List (List ℕ)) FormFault
records_in layout bytes = read_from (unread layout) bytes

-- so many bytes from the front of others, which aren't all, only go on with the record that is begun: what comes is what comes behind them
pub record SkipsFront (s t : Reader) (bytes : List ℕ) (n : ℕ) : Type 0 where
  pub few : n < length bytes
  pub reads : (rest : List ℕ) → read_from s (bytes ++ rest) ≡ read_from t (drop n bytes ++ rest)
  pub size : size_in t.place ≡ size_in s.place
  pub count : t.count ≡ s.count

-- and those from a place on, up to another one
pub record Skips (s t : Reader) (bytes : List ℕ) (from to : ℕ) : Type 0 where
  pub after : from ≤ to
  pub few : to < length bytes
  pub reads : (rest : List ℕ) → read_from s (drop from bytes ++ rest) ≡ read_from t (drop to bytes ++ rest)
  pub size : size_in t.place ≡ size_in s.place
  pub count : t.count ≡ s.count

-- what a call says of the next record, against what the reading is then
abbrev pub Gives : Result Bool FormFault → Reader → Result Reader FormFault → Type 0
Gives (Ok whole) now said = (said ≡ Ok now) × (whole ≡ now.whole)
Gives (Err fault) now said = said ≡ Err fault
