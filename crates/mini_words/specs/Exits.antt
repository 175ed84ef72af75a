-- How the program ends.
use Rattle.std.specs.Prelude.{ℕ, nat_lt, if◌then◌else◌}
use Rattle.mini_words.specs.declared.exit.Exit.{Exit}
use Rattle.mini_words.specs.declared.exit.Exit.TheVariants.{Done, Refused, Usage, Memory, Failed}

-- the exit code
abbrev pub code_of : Exit → ℕ
code_of Done = 0
code_of Refused = 1
code_of Usage = 2
code_of Memory = 3
code_of Failed = 4

-- the one with the greater code
abbrev pub graver : Exit → Exit → Exit
graver one other = if nat_lt (code_of one) (code_of other) then other else one
