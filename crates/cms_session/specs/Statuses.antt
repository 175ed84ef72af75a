-- How a session ends, as the program's exit status.
use Rattle.std.specs.Prelude.{ℕ}
use Rattle.cms_session.specs.declared.status.Status.{Status}
use Rattle.cms_session.specs.declared.status.Status.TheVariants.{Done, Usage, Memory, World, Turns}

-- the exit status
abbrev pub code_of : Status → ℕ
code_of Done = 0
code_of (Usage fault) = 2
code_of Memory = 3
code_of World = 4
code_of Turns = 5
