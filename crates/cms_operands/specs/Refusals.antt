-- Why a line is refused before any disk is looked at: its message and its code.
use Rattle.std.specs.Prelude.{ℕ, ◌-◌, List, [], slice_get}
use Rattle.std.specs.Option.{option_map_or}
use Rattle.cms_line.specs.declared.message.Message.{Message}
use Rattle.cms_line.specs.declared.message.Message.TheVariants.{M003, M029, M048, M054, M062, M070}
use Rattle.cms_line.specs.declared.token.Token.{Token}
use Rattle.cms_operands.specs.declared.refusal.Refusal.{Refusal}
use Rattle.cms_operands.specs.declared.refusal.Refusal.TheVariants.{BadName, BadMode, BadOperand, Missing, UnknownOption, BadParameter}

-- the text of the word at a place, empty past the last
abbrev pub text_at : List Token → ℕ → List ℕ
text_at words place = option_map_or (λ word. word.text) (slice_get words place) []

-- what is typed; an option stands right in front of its parameter
unfoldable pub message_of : List Token → Refusal → Message
message_of words (BadName place) = M062 (text_at words place)
message_of words (BadMode place) = M048 (text_at words place)
message_of words (BadOperand place) = M070 (text_at words place)
message_of words Missing = M054
message_of words (UnknownOption place) = M003 (text_at words place)
message_of words (BadParameter place) = M029 (text_at words place) (text_at words (place - 1))

-- the return code
abbrev pub code_of : Refusal → ℕ
code_of (BadName place) = 20
code_of (BadMode place) = 24
code_of (BadOperand place) = 24
code_of Missing = 24
code_of (UnknownOption place) = 24
code_of (BadParameter place) = 24
