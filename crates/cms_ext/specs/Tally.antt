-- TALLY: how often it was started.
use Rattle.std.specs.Prelude.{ℕ, pos, ◌+◌, min, List, [], ◌∷◌, ◌++◌, codes}
use Rattle.cms_text.specs.Numbers.{decimal_of, value_of}
use Rattle.cms_text.specs.Texts.{coded}
use Rattle.cms_model.specs.Objects.{Content, Reply, Start, Sub, Went, Got, Records, Refused, Say, Ended}
use Rattle.cms_ext.specs.Exact.{Move}

-- a count goes no further
abbrev pub most : ℕ
most = 1000000000

-- one more
abbrev pub counted : ℕ → ℕ
counted n = min (n + 1) most

-- what is held of a count, and the count that is held
abbrev pub held : ℕ → Content
held n = decimal_of n ∷ []

-- the latter is 0 where nothing is held
abbrev pub count_in : Content → ℕ
count_in [] = 0
count_in (digits ∷ more) = value_of digits

-- TALLY and the count
abbrev pub tally_line : ℕ → List ℕ
tally_line n = coded (codes "TALLY ") ++ decimal_of n

-- the code of what it doesn't do
abbrev pub unknown_code : ℕ
unknown_code = 24

-- it says this count, and holds it
abbrev pub started : ℕ → Move
started n = record { want = Say (tally_line n ∷ []); after = held n }

-- it is done with this code, and holds what it held
abbrev pub ended : Content → ℕ → Move
ended before code = record { want = Ended (pos code); after = before }

-- on a start one is added and the count is said, and then it is done; a text that is sent to it is no subcommand
abbrev pub tally : Content → Reply → Move
tally before (Start line) = started (counted (count_in before))
tally before Went = ended before 0
tally before (Sub text) = ended before unknown_code
tally before (Got line) = ended before unknown_code
tally before (Records records) = ended before unknown_code
tally before (Refused code) = ended before unknown_code
