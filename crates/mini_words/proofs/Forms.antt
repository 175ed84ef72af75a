-- Commands that get arguments and subcommands.
use Rattle.std.proofs.Common.{◌≡◌, ◌∙◌, ℕ, Bor, ◌+◌, ◌<◌, ◌≤◌, Bool, false, true, List, [], ◌∷◌, ◌++◌, length, get_or, map, take, ap, ap₂, refl, subst}
use Rattle.std.specs.Prelude.{◌&&◌, not, Some}
use Rattle.std.proofs.lemmas.Bool.{and_parts}
use Rattle.std.proofs.lemmas.List.{map-append, take_all}
use Rattle.clap.specs.Simple.{app_of_fields, on_top}
use Rattle.clap.specs.Words.{AddsArg, AddsInTurn, AddsSubcommand, App, Rule, Text, app_of, new_app, rule_of, with_rule, with_subcommand}
use Rattle.clap.specs.declared.builder.command.Command.TheViews.{out-Command}
use Rattle.clap.specs.declared.builder.action.ArgAction.TheVariants.{SetTrue}
use Rattle.clap.specs.declared.builder.arg.Arg.{Arg}
use Rattle.clap.specs.declared.builder.command.Command.{Command}
use Rattle.mini_words.proofs.Each.{one_taken}
use Rattle.mini_words.specs.Commands.{HasForm, are_plain, form_for, rule_for, with_forms, with_rules}
use Rattle.mini_words.specs.declared.command_form.Argument.{Argument}
use Rattle.mini_words.specs.declared.command_form.CommandForm.{CommandForm}

pub arg_added : (old new : Command) (arg : Arg) (rule : Rule) (form : App) → AddsArg old arg new → arg.global ≡ false → rule_of arg ≡ rule
    → HasForm old form → HasForm new (with_rule form rule)
arg_added old new arg rule form adds local is has = record { app = adds.shape local ∙ ap₂ with_rule has.app is }

-- what a command takes of an argument: its rule, and whether all commands below share it
abbrev pub taken_of : Arg → Rule × Bool
taken_of a = (rule_of a, a.global)

abbrev pub taken_for : Argument → Rule × Bool
taken_for argument = (rule_for argument, false)

pub args_added : (args : List Arg) (arguments : List Argument) (old new : Command) (form : App) → AddsInTurn AddsArg old args new → map taken_of args ≡ map taken_for arguments
    → HasForm old form → HasForm new (with_rules form (map rule_for arguments))
args_added [] [] old new form adds same has = subst (λ (c : Command). HasForm c form) adds has
args_added [] (argument ∷ arguments) old new form adds same has = absurd (cc)
args_added (arg ∷ args) [] old new form adds same has = absurd (cc)
args_added (arg ∷ args) (argument ∷ arguments) old new form adds same has =
    let first : taken_of arg ≡ taken_for argument = cc in
    let more : map taken_of args ≡ map taken_for arguments = cc in
    args_added args arguments adds.0 new (with_rule form (rule_for argument)) adds.2 more
    (arg_added old adds.0 arg (rule_for argument) form adds.1 (ap (λ (t : Rule × Bool). t.1) first) (ap (λ (t : Rule × Bool). t.0) first) has)

-- of a plain command nothing is shared with others
third : (groups external globals rest : Bool) → (groups && (not external && (not globals && rest))) ≡ true → globals ≡ false
third true false false rest h = refl
third true false true rest h = absurd (cc)
third true true globals rest h = absurd (cc)
third false external globals rest h = absurd (cc)

pub command_added : (old other new : Command) (form below : App) → AddsSubcommand old other new → HasForm old form → HasForm other below
    → below.top.is_plain ≡ true → HasForm new (with_subcommand form below.top)
command_added old other new form below adds has under plain =
    let is : (app_of other).top.is_plain ≡ true = ap (λ (a : App). a.top.is_plain) under.app ∙ plain in
    record { app = adds.shape (third _ _ _ _ is) ∙ ap₂ with_subcommand has.app (ap (λ (a : App). a.top) under.app) }

pub commands_added : (commands : List Command) (forms : List CommandForm) (old new : Command) (whole : App) → AddsInTurn AddsSubcommand old commands new
    → map app_of commands ≡ map form_for forms → are_plain forms ≡ true → HasForm old whole → HasForm new (with_forms whole forms)
commands_added [] [] old new whole adds same plain has = subst (λ (c : Command). HasForm c whole) adds has
commands_added [] (form ∷ forms) old new whole adds same plain has = absurd (cc)
commands_added (command ∷ commands) [] old new whole adds same plain has = absurd (cc)
commands_added (command ∷ commands) (form ∷ forms) old new whole adds same plain has =
    let first : app_of command ≡ form_for form = cc in
    let more : map app_of commands ≡ map form_for forms = cc in
    let both = and_parts (form_for form).top.is_plain (are_plain forms) plain in
    commands_added commands forms adds.0 new (with_subcommand whole (form_for form).top) adds.2 more both.1
    (command_added old command adds.0 whole (form_for form) adds.1 has (record { app = first }) both.0)

-- one more, of a list that is made in turn
pub one_made : {A B C : Type 0} (g : C → B) (f : A → B) (ys zs : List C) (y : C) (xs : List A) (i : ℕ) (d : A) → zs ≡ ys ++ y ∷ [] → i < length xs → g y ≡ f (get_or xs i d)
    → map g ys ≡ map f (take i xs) → map g zs ≡ map f (take (i + 1) xs)
one_made g f ys zs y xs i d made inside is so_far = ap (map g) made ∙ map-append g ys (y ∷ []) ∙ one_taken f (map g ys) xs i d (g y) inside is so_far

pub all_made : {A B C : Type 0} (g : C → B) (f : A → B) (ys : List C) (xs : List A) (i : ℕ) → length xs ≤ i → map g ys ≡ map f (take i xs) → map g ys ≡ map f xs
all_made g f ys xs i all is = is ∙ ap (map f) (take_all i xs all)

-- the settings of a command
pub has_version : (old new : Command) (version : Bor Text) → out-Command new ≡ record (out-Command old) { version = Some version }
    → app_of new ≡ on_top (λ s. record s { has_version = true }) (app_of old)
has_version old new version e = ap app_of_fields e

pub requires_subcommand : (old new : Command) → out-Command new ≡ record (out-Command old) { subcommand_required = true }
    → app_of new ≡ on_top (λ s. record s { subcommand_required = true }) (app_of old)
requires_subcommand old new e = ap app_of_fields e

pub has_no_help : (old new : Command) → out-Command new ≡ record (out-Command old) { disable_help_subcommand = true }
    → app_of new ≡ on_top (λ s. record s { disable_help_subcommand = true }) (app_of old)
has_no_help old new e = ap app_of_fields e

pub set_top : (named versioned required whole : Command) (name : Text) → HasForm named (new_app name)
    → app_of versioned ≡ on_top (λ s. record s { has_version = true }) (app_of named)
    → app_of required ≡ on_top (λ s. record s { subcommand_required = true }) (app_of versioned)
    → app_of whole ≡ on_top (λ s. record s { disable_help_subcommand = true }) (app_of required)
    → HasForm whole (on_top (λ s. record s { has_version = true; subcommand_required = true; disable_help_subcommand = true }) (new_app name))
set_top named versioned required whole name has one two three = record {
  app = three ∙ ap (on_top (λ s. record s { disable_help_subcommand = true }))
      (two ∙ ap (on_top (λ s. record s { subcommand_required = true })) (one ∙ ap (on_top (λ s. record s { has_version = true })) has.app));
}

-- the settings of an argument
pub has_letter : (old new : Arg) (letter : ℕ) → new ≡ record old { short = Some letter } → rule_of new ≡ record (rule_of old) { short = Some letter }
has_letter old new letter e = ap rule_of e

pub is_needed : (old new : Arg) → new ≡ record old { required = true } → rule_of new ≡ record (rule_of old) { required = true }
is_needed old new e = ap rule_of e

pub is_flag : (old new : Arg) → new ≡ record old { action = Some SetTrue } → rule_of new ≡ record (rule_of old) { action = Some SetTrue }
is_flag old new e = ap rule_of e

pub has_help : (old new : Arg) (help : Bor Text) → new ≡ record old { help = Some help } → rule_of new ≡ rule_of old
has_help old new help e = ap rule_of e
