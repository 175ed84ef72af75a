-- A call that was refused.
use Rattle.std.specs.Prelude.{Result, Ok, Err}
use Rattle.cms_search.specs.declared.state.Course.{Course}
use Rattle.cms_search.specs.declared.state.End.{End}
use Rattle.cms_exec.specs.declared.start.Started.{Started}
use Rattle.cms_exec.specs.declared.start.Started.TheVariants.{Refused}

-- the refusal's course is what it comes to
abbrev pub with_refused : Result Course End → Result Started End
with_refused (Ok course) = Ok (Refused course)
with_refused (Err e) = Err e
