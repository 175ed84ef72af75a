-- What clap says of the words, in the words of the commands' forms.
use Rattle.std.proofs.Common.{◌≡◌, ◌∙◌, ◌⊎◌, List, [], true, false, refl, sym, ap, ap₂, inl, inr}
use Rattle.std.specs.Prelude.{Option, None, Some, Err}
use Rattle.std.specs.Option.{option_map}
use Rattle.clap.specs.Walk.{is_empty}
use Rattle.clap.specs.Words.{HasKind, Row, Text, fault_of, is_simple, is_simple_and_free, kind_of, subcommand_name_of, subcommand_of, subcommand_rows_of}
use Rattle.clap.specs.declared.error.Error.{Error}
use Rattle.clap.specs.declared.error.kind.ErrorKind.TheVariants.{OutOfMemory}
use Rattle.clap.specs.declared.parser.matches.ArgMatches.{ArgMatches}
use Rattle.cms_words.proofs.CommandLemmas.{some_kind}
use Rattle.mini_words.specs.Commands.{are_taken, check_form, command_in, dump_form, erase_form, get_form, info_form, list_form, make_form, minidisk, put_form, rename_form}
use Rattle.mini_words.specs.Requests.{all_asked_by, requests_of}
use Rattle.mini_words.specs.declared.fault.WordFault.TheVariants.{NoCommand}

pub simple : is_simple minidisk ≡ true
unfolding minidisk list_form info_form get_form put_form erase_form rename_form make_form check_form dump_form
simple = refl

pub free : is_simple_and_free minidisk ≡ true
unfolding minidisk list_form info_form get_form put_form erase_form rename_form make_form check_form dump_form
free = refl

pub taken : (ws : List Text) → fault_of minidisk ws ≡ [] → are_taken ws ≡ true
unfolding are_taken
taken ws e = ap is_empty e

pub found : (ws : List Text) → subcommand_of minidisk ws ≡ command_in ws
unfolding command_in
found ws = refl

pub refused : (ws : List Text) (e : Error) → HasKind (fault_of minidisk ws) e → (kind_of e ≡ OutOfMemory) ⊎ (are_taken ws ≡ false)
unfolding are_taken
refused ws e (inl m) = inl m
refused ws e (inr k) = inr (some_kind (kind_of e) (fault_of minidisk ws) k)

-- ---- the command below

same_name : {X : Type 0} (name : X → Text) (rows : X → List Row) (o : Option X) → option_map name o ≡ option_map (λ (q : Text × List Row). q.0) (option_map (λ x. (name x, rows x)) o)
same_name name rows None = refl
same_name name rows (Some x) = refl

named : (m : ArgMatches) → subcommand_name_of m ≡ option_map (λ (q : Text × List Row). q.0) (subcommand_rows_of m)
named m = same_name _ _ _

both_of : (o : Option (Text × List Row)) (name : Text) (rows : List Row) → Some name ≡ option_map (λ (q : Text × List Row). q.0) o → Some rows ≡ option_map (λ (q : Text × List Row). q.1) o → o ≡ Some (name, rows)
both_of None name rows n r = absurd (cc)
both_of (Some q) name rows n r =
    let one : q.0 ≡ name = cc in
    let two : q.1 ≡ rows = cc in
    ap₂ (λ (a : Text) (b : List Row). Some (a, b)) one two

none_of : (o : Option (Text × List Row)) → None ≡ option_map (λ (q : Text × List Row). q.1) o → o ≡ None
none_of None r = refl
none_of (Some q) r = absurd (cc)

-- what a command is asked for, by its name and what clap found of its words
pub asked_below : (ws : List Text) (m : ArgMatches) (name : Text) (rows : List Row) → subcommand_rows_of m ≡ command_in ws → Some name ≡ subcommand_name_of m
    → Some rows ≡ option_map (λ (q : Text × List Row). q.1) (subcommand_rows_of m) → requests_of ws ≡ all_asked_by name rows
unfolding requests_of
asked_below ws m name rows is n r = rw (sym is ∙ both_of (subcommand_rows_of m) name rows (n ∙ named m) r) refl

-- none is named
pub nothing_below : (ws : List Text) (m : ArgMatches) → subcommand_rows_of m ≡ command_in ws → None ≡ option_map (λ (q : Text × List Row). q.1) (subcommand_rows_of m) → requests_of ws ≡ Err NoCommand
unfolding requests_of
nothing_below ws m is r = rw (sym is ∙ none_of (subcommand_rows_of m) r) refl
