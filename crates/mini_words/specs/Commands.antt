-- The commands' forms, as clap reads them.
use Rattle.std.specs.Prelude.{◌≡◌, ℕ, Bool, false, true, List, [], ◌∷◌, ◌&&◌, map, Option, Some, codes, unwrap_or}
use Rattle.std.specs.Option.{option_map_or}
use Rattle.std.specs.Str.{bytes_eq}
use Rattle.clap.specs.Walk.{is_empty}
use Rattle.clap.specs.Lexer.{usize_max}
use Rattle.clap.specs.Words.{App, Row, Rule, Text, all_of, app_of, fault_of, first_of, found_of, rows_of, subcommand_of, new_app, new_rule, with_rule, with_subcommand}
use Rattle.clap.specs.declared.builder.action.ArgAction.TheVariants.{SetTrue}
use Rattle.clap.specs.declared.builder.command.Command.{Command}
use Rattle.clap.specs.declared.parser.matches.ArgMatches.{ArgMatches}
use Rattle.mini_words.specs.declared.command_form.Argument.{Argument}
use Rattle.mini_words.specs.declared.command_form.CommandForm.{CommandForm}
use Rattle.mini_words.specs.declared.command_form.Kind.{Kind}
use Rattle.mini_words.specs.declared.command_form.Kind.TheVariants.{Value, Needed, Flag, One, Many, Any}

-- an option that takes a value
abbrev pub option_rule : Text → ℕ → Rule
option_rule id letter = record (new_rule id) { short = Some letter }

-- an option that takes none
abbrev pub flag_rule : Text → ℕ → Rule
flag_rule id letter = record (new_rule id) { short = Some letter; action = Some SetTrue }

-- one that must be there
abbrev pub needed_rule : Text → ℕ → Rule
needed_rule id letter = record (new_rule id) { short = Some letter; required = true }

-- a word that must be there
abbrev pub one_rule : Text → Rule
one_rule id = record (new_rule id) { required = true }

-- one such word or more
abbrev pub many_rule : Text → Rule
many_rule id = record (new_rule id) {
  required = true;
  range = Some (record { start_inclusive = 1; end_inclusive = usize_max });
}

-- any number of such words
abbrev pub any_rule : Text → Rule
any_rule id = record (new_rule id) { range = Some (record { start_inclusive = 0; end_inclusive = usize_max }) }

-- the rule of an argument that is given so
abbrev pub rule_by : Text → Kind → Rule
rule_by id (Value letter) = option_rule id letter
rule_by id (Needed letter) = needed_rule id letter
rule_by id (Flag letter) = flag_rule id letter
rule_by id One = one_rule id
rule_by id Many = many_rule id
rule_by id Any = any_rule id

-- the rule of an argument, under the name by which it is found
abbrev pub rule_for : Argument → Rule
rule_for argument = rule_by argument.id.now argument.kind

-- a form with rules behind its own
abbrev pub with_rules : App → List Rule → App
with_rules form [] = form
with_rules form (rule ∷ rules) = with_rules (with_rule form rule) rules

-- the form of a command by its name and its arguments
abbrev pub form_for : CommandForm → App
form_for form = with_rules (new_app form.name.now) (map rule_for form.arguments.now)

-- commands share no argument
abbrev pub are_plain : List CommandForm → Bool
are_plain [] = true
are_plain (form ∷ forms) = (form_for form).top.is_plain && are_plain forms

-- a form with commands below it
abbrev pub with_forms : App → List CommandForm → App
with_forms whole [] = whole
with_forms whole (form ∷ forms) = with_forms (with_subcommand whole (form_for form).top) forms

-- list [-l] [-b SIZE] IMAGE [NAME ..]
unfoldable pub list_form : App
list_form =
    with_rule (with_rule (with_rule (with_rule (new_app (codes "list"))
    (flag_rule (codes "LONG") 108))
    (option_rule (codes "SIZE") 98))
    (one_rule (codes "IMAGE")))
    (any_rule (codes "NAME"))

-- info [-b SIZE] IMAGE
unfoldable pub info_form : App
info_form =
    with_rule (with_rule (new_app (codes "info"))
    (option_rule (codes "SIZE") 98))
    (one_rule (codes "IMAGE"))

-- get [-b SIZE] [-f FORM] [-r] [-v] [-o FILE | -d DIR] IMAGE NAME ..
unfoldable pub get_form : App
get_form =
    with_rule (with_rule (with_rule (with_rule (with_rule (with_rule (with_rule (with_rule (new_app (codes "get"))
    (option_rule (codes "SIZE") 98))
    (option_rule (codes "FORM") 102))
    (flag_rule (codes "REPLACE") 114))
    (flag_rule (codes "SAY") 118))
    (option_rule (codes "FILE") 111))
    (option_rule (codes "DIR") 100))
    (one_rule (codes "IMAGE")))
    (many_rule (codes "NAME"))

-- put [-b SIZE] [-f FORM] [-L N] [-m DIGIT] [-n NAME] [-r] [-v] [-z ZONE] IMAGE FILE ..
unfoldable pub put_form : App
put_form =
    with_rule (with_rule (with_rule (with_rule (with_rule (with_rule (with_rule (with_rule (with_rule (with_rule (new_app (codes "put"))
    (option_rule (codes "SIZE") 98))
    (option_rule (codes "FORM") 102))
    (option_rule (codes "N") 76))
    (option_rule (codes "DIGIT") 109))
    (option_rule (codes "NAME") 110))
    (flag_rule (codes "REPLACE") 114))
    (flag_rule (codes "SAY") 118))
    (option_rule (codes "ZONE") 122))
    (one_rule (codes "IMAGE")))
    (many_rule (codes "FILE"))

-- erase [-b SIZE] [-v] [-z ZONE] IMAGE NAME ..
unfoldable pub erase_form : App
erase_form =
    with_rule (with_rule (with_rule (with_rule (with_rule (new_app (codes "erase"))
    (option_rule (codes "SIZE") 98))
    (flag_rule (codes "SAY") 118))
    (option_rule (codes "ZONE") 122))
    (one_rule (codes "IMAGE")))
    (many_rule (codes "NAME"))

-- rename [-b SIZE] [-v] [-z ZONE] IMAGE NAME NEW
unfoldable pub rename_form : App
rename_form =
    with_rule (with_rule (with_rule (with_rule (with_rule (with_rule (new_app (codes "rename"))
    (option_rule (codes "SIZE") 98))
    (flag_rule (codes "SAY") 118))
    (option_rule (codes "ZONE") 122))
    (one_rule (codes "IMAGE")))
    (one_rule (codes "NAME")))
    (one_rule (codes "NEW"))

-- make -b SIZE -n BLOCKS -l LABEL [-z ZONE] IMAGE
unfoldable pub make_form : App
make_form =
    with_rule (with_rule (with_rule (with_rule (with_rule (new_app (codes "make"))
    (needed_rule (codes "SIZE") 98))
    (needed_rule (codes "BLOCKS") 110))
    (needed_rule (codes "LABEL") 108))
    (option_rule (codes "ZONE") 122))
    (one_rule (codes "IMAGE"))

-- check [-b SIZE] IMAGE ..
unfoldable pub check_form : App
check_form =
    with_rule (with_rule (new_app (codes "check"))
    (option_rule (codes "SIZE") 98))
    (many_rule (codes "IMAGE"))

-- dump [-b SIZE] IMAGE [BLOCK ..]
unfoldable pub dump_form : App
dump_form =
    with_rule (with_rule (with_rule (new_app (codes "dump"))
    (option_rule (codes "SIZE") 98))
    (one_rule (codes "IMAGE")))
    (any_rule (codes "BLOCK"))

-- minidisk COMMAND ..
abbrev pub top_form : App
top_form =
    let a = new_app (codes "minidisk") in
    record { top = record a.top { has_version = true; subcommand_required = true; disable_help_subcommand = true }; subs = a.subs }

-- with the forms of all its commands
unfoldable pub minidisk : App
minidisk =
    with_subcommand (with_subcommand (with_subcommand (with_subcommand (with_subcommand (with_subcommand (with_subcommand (with_subcommand (with_subcommand top_form
    list_form.top) info_form.top) get_form.top) put_form.top) erase_form.top) rename_form.top) make_form.top) check_form.top) dump_form.top

-- a command has this form
pub record HasForm (c : Command) (form : App) : Type 0 where
  pub app : app_of c ≡ form

-- clap's definition of these commands takes the words, the program's name first
unfoldable pub are_taken : List Text → Bool
are_taken words = is_empty (fault_of minidisk words)

-- the command that they name, and what clap finds of its words
unfoldable pub command_in : List Text → Option (Text × List Row)
command_in words = subcommand_of minidisk words

-- the value of an option or of a word that stands alone
unfoldable pub value_in : Text → List Row → Option Text
value_in id rows = first_of id rows

-- a word that must be there
abbrev pub text_in : Text → List Row → Text
text_in id rows = unwrap_or (value_in id rows) []

-- the words that may be many, in their order
unfoldable pub values_in : Text → List Row → List Text
values_in id rows = unwrap_or (all_of id rows) []

-- an option without a value was given
abbrev pub is_set : Text → List Row → Bool
is_set id rows = option_map_or (λ text. bytes_eq text (codes "true")) (value_in id rows) false

-- what clap found
abbrev pub rows_in : ArgMatches → List Row
rows_in matches = rows_of (found_of matches)
