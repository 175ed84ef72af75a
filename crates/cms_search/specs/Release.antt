-- The session's state where a disk is released.
use Rattle.std.specs.Prelude.{ℕ, []}
use Rattle.cms_search.specs.Calls.{machine_of}
use Rattle.cms_search.specs.Tables.{released}
use Rattle.cms_search.specs.Units as releasing
use Rattle.cms_search.specs.declared.state.State.{State}

-- a letter is released, and no reading place is kept on its disk
abbrev pub without_letter : ℕ → State → State
without_letter n s = record s { table = released n s.table; places = (releasing.released n (machine_of s [])).places }
