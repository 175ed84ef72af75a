-- A search that finds nothing, or isn't answered.
use Rattle.std.specs.Prelude.{◌≡◌, ℕ, List, pos, Result, Err, IfOk}
use Rattle.cms_model.specs.Acts.{saying, typed_line}
use Rattle.cms_line.specs.Messages.{message_text}
use Rattle.cms_line.specs.declared.token.Token.{Token}
use Rattle.cms_world.specs.Seen.{Seen}
use Rattle.cms_search.specs.Calls.{Does, said}
use Rattle.cms_search.specs.declared.fault.SearchFault.{SearchFault}
use Rattle.cms_search.specs.declared.fault.SearchFault.TheVariants as why
use Rattle.cms_search.specs.declared.state.Course.{Course}
use Rattle.cms_search.specs.declared.state.Course.TheVariants.{Went}
use Rattle.cms_search.specs.declared.state.End.{End}
use Rattle.cms_search.specs.declared.state.End.TheVariants.{Memory}
use Rattle.cms_files.specs.Files.{search_code, search_message}

-- there was no memory for it, and nothing is done; else its refusal is typed, and the command ends with its code
pub record RefusesSearch (before now : Seen) (words : List Token) (place : ℕ) (fault : SearchFault) (r : Result Course End) : Type 0 where
  pub starved : fault ≡ why.Memory → (r ≡ Err Memory) × (now ≡ before)
  pub does : (fault ≡ why.Memory → ⊥) → Does before now (saying (typed_line (message_text (search_message words place fault)))) r said
  pub went : (fault ≡ why.Memory → ⊥) → IfOk r (λ course. course ≡ Went (pos (search_code fault)))
