-- What the program's words ask for.
use Rattle.std.specs.Prelude.{◌≡◌, ℕ, ◌≤◌, ℤ, List, length, Option, Result, Ok, Err}
use Rattle.std.specs.Option.{option_map}
use Rattle.cms_words.specs.Words.{without_repeat, words_of}
use Rattle.cms_words.specs.declared.fault.WordFault.{WordFault}
use Rattle.cms_words.specs.declared.words.Words.{Words}
use Rattle.cms_words.specs.declared.unit.UnitWord.{UnitWord}
use Rattle.cms_session.specs.Generator.{script_of}

-- a session on units: the turns that it has, by how many seconds civil time is ahead of UTC, and a script that is given in place of the
-- world's
pub record Asked : Type 0 where
  pub units : List UnitWord
  pub turns : ℕ
  pub offset : ℤ
  pub given : Option (List ℕ)

-- the words are refused, or ask for a session
pub data Read : Type 0 where
  Refused : WordFault → Read
  Runs : Asked → Read

-- the script of a seed, where there is one
abbrev pub given_by : Option ℕ → Option (List ℕ)
given_by seed = option_map script_of seed

-- the session that the words ask for
abbrev pub asked_of : Words → Asked
asked_of words = record { units = words.units; turns = words.turns; offset = words.offset; given = given_by words.seed }

-- what the words say, as a session or a refusal
abbrev pub read_by : Result Words WordFault → Read
read_by (Ok words) = Runs (asked_of words)
read_by (Err fault) = Refused fault

-- the program's words, its name first
unfoldable pub read_words : List (List ℕ) → Read
read_words words = read_by (words_of words)

-- ---- what the code gives

-- as many units as words may say, no two with one device
pub record AreUnits (units : List UnitWord) : Type 0 where
  pub few : length units ≤ 16
  pub distinct : without_repeat units ≡ Ok tt
