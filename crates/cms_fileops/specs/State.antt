-- STATE fn ft [fm]
use Rattle.std.specs.Prelude.{pos, List, Result, Ok}
use Rattle.cms_fields.specs.Steps.{◌>>=◌, ◌>>◌}
use Rattle.cms_model.specs.Acts.{Act, Done}
use Rattle.cms_line.specs.declared.token.Token.{Token}
use Rattle.cms_operands.specs.Choices.{without_options}
use Rattle.cms_operands.specs.Operands.{ended, operands_of}
use Rattle.cms_operands.specs.declared.refusal.Refusal.{Refusal}
use Rattle.cms_search.specs.Machine.{Machine, Course, Went}
use Rattle.cms_search.specs.Refusals.{on_line}
use Rattle.cms_files.specs.Files.{file_found, on_found}
use Rattle.cms_files.specs.Identifiers.{file_input}
use Rattle.cms_files.specs.declared.identifier.FileInput.{FileInput}

-- the file that STATE's operands name
unfoldable pub state_operands : List Token → Result FileInput Refusal
state_operands operands = do
  input ← file_input operands 1
  ended operands 4
  Ok input

-- there are no options
abbrev pub state_line : List Token → Result FileInput Refusal
state_line words = without_options words (state_operands (operands_of words))

-- code 0 where the file is found, or 069 or 002
abbrev pub look_for : Machine → List Token → FileInput → Act Course
look_for s words input = on_found s words 1 (λ found. Done (Went s (pos 0))) (file_found s input)

-- whether a file is there: 069, 002
abbrev pub state : Machine → List Token → Act Course
state s words = on_line s words (look_for s words) (state_line words)
