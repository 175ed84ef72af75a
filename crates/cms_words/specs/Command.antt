-- The command's form: cms [-t TURNS] [-z ZONE] [-g NUMBER] UNIT...
use Rattle.std.specs.Prelude.{ℕ, Bool, List, [], Option, Some, codes, unwrap_or, true}
use Rattle.clap.specs.Lexer.{usize_max}
use Rattle.clap.specs.Walk.{is_empty}
use Rattle.clap.specs.Words.{App, Row, Rule, Text, all_of, fault_of, first_of, matches_of, new_app, new_rule, with_rule}

-- an option that takes a value
abbrev pub option_rule : Text → ℕ → Rule
option_rule id letter = record (new_rule id) { short = Some letter }

-- one unit word at least
abbrev pub unit_rule : Rule
unit_rule = record (new_rule (codes "unit")) {
  required = true;
  range = Some (record { start_inclusive = 1; end_inclusive = usize_max });
}

-- -t, -z and -g
unfoldable pub cms : App
cms = with_rule (with_rule (with_rule (with_rule (new_app (codes "cms"))
    (option_rule (codes "turns") 116))
    (option_rule (codes "zone") 122))
    (option_rule (codes "seed") 103))
    unit_rule

-- clap's definition of a simple command takes the words, the program's name first
unfoldable pub are_taken : List Text → Bool
are_taken words = is_empty (fault_of cms words)

-- what it finds in them
unfoldable pub rows_in : List Text → List Row
rows_in words = matches_of cms words

-- the unit words, in their order
unfoldable pub units_in : List Row → List Text
units_in rows = unwrap_or (all_of (codes "unit") rows) []

-- the value of an option
unfoldable pub value_in : Text → List Row → Option Text
value_in id rows = first_of id rows
