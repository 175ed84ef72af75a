-- A command's line that isn't taken.
use Rattle.std.specs.Prelude.{◌≡◌, List, pos, Result, Err, IfOk}
use Rattle.cms_model.specs.Acts.{saying, typed_line}
use Rattle.cms_line.specs.Messages.{message_text}
use Rattle.cms_line.specs.declared.token.Token.{Token}
use Rattle.cms_operands.specs.Refusals.{code_of, message_of}
use Rattle.cms_operands.specs.declared.options.CommandFault.{CommandFault}
use Rattle.cms_operands.specs.declared.options.CommandFault.TheVariants as line
use Rattle.cms_world.specs.Seen.{Seen}
use Rattle.cms_search.specs.Calls.{Does, said}
use Rattle.cms_search.specs.declared.state.Course.{Course}
use Rattle.cms_search.specs.declared.state.Course.TheVariants.{Went}
use Rattle.cms_search.specs.declared.state.End.{End}
use Rattle.cms_search.specs.declared.state.End.TheVariants.{Memory}

-- its refusal is typed, and the command ends with its code; or there was no memory to read it, and nothing is done
abbrev pub RefusesLine : Seen → Seen → List Token → CommandFault → Result Course End → Type 0
RefusesLine before now words (line.Refused why) r =
    Does before now (saying (typed_line (message_text (message_of words why)))) r said
    × IfOk r (λ course. course ≡ Went (pos (code_of why)))
RefusesLine before now words line.Memory r = (r ≡ Err Memory) × (now ≡ before)
