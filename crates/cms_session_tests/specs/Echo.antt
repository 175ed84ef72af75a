-- ECHO: each line that it is given is said back, until an empty one.
use Rattle.std.specs.Prelude.{pos, [], ◌∷◌}
use Rattle.cms_model.specs.Objects.{Content, Reply, Want, Start, Sub, Went, Got, Records, Refused, Say, Ask, Ended}
use Rattle.cms_ext.specs.Exact.{Move}

-- it wants this, and holds what it held
abbrev pub wanting : Want → Content → Move
wanting want before = record { want = want; after = before }

-- a line is asked for and said, and then the next one; it has no subcommands and takes no files
abbrev pub echo : Content → Reply → Move
echo before (Start line) = wanting Ask before
echo before Went = wanting Ask before
echo before (Got []) = wanting (Ended (pos 0)) before
echo before (Got (byte ∷ bytes)) = wanting (Say ((byte ∷ bytes) ∷ [])) before
echo before (Sub text) = wanting (Ended (pos 24)) before
echo before (Records records) = wanting (Ended (pos 24)) before
echo before (Refused code) = wanting (Ended (pos 24)) before
