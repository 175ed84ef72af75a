-- What a place in a list gives, and what is said of it.
use Rattle.std.proofs.Common.{◌≡◌, ◌∙◌, ◌<◌, ◌≤◌, ℕ, true, false, nat_lt, List, [], length, get_or, slice_get, Option, Some, None, Result, Ok, Err, IfOk, option_map, ap, sym, arith}
use Rattle.std.proofs.lemmas.Bool.Decides.{nat_tests}
use Rattle.std.proofs.lemmas.Option.{slice_get-get_or, slice_get_past}
use Rattle.std.specs.Option.{option_map_or}
use Rattle.std.specs.Result.{IsErrAnd}
use Rattle.cms_line.specs.declared.token.Token.{Token}
use Rattle.cms_line.specs.declared.choices.Choice.{Choice}
use Rattle.cms_operands.specs.Choices.{valued, valued_by, chosen_with, setting_in}
use Rattle.cms_operands.specs.Operands.{given, or_refused}
use Rattle.cms_operands.specs.Refusals.{text_at}
use Rattle.cms_operands.specs.declared.options.OptionForm.{OptionForm}
use Rattle.cms_operands.specs.declared.options.Setting.{Setting}
use Rattle.cms_operands.specs.declared.refusal.Refusal.TheVariants.{UnknownOption, BadParameter}

pub inside : (i n : ℕ) → true ≡ nat_lt i n → i < n
inside i n h = grind (arith, nat_tests)

pub outside : (i n : ℕ) → false ≡ nat_lt i n → n ≤ i
outside i n h = grind (arith, nat_tests)

pub gotten : {X : Type 0} (xs : List X) (i : ℕ) (x : X) → true ≡ nat_lt i (length xs) → x ≡ get_or xs i x → slice_get xs i ≡ Some x
gotten xs i x there is = slice_get-get_or xs i x (inside i (length xs) there) ∙ ap Some (sym is)

pub past : {X : Type 0} (xs : List X) (i : ℕ) → false ≡ nat_lt i (length xs) → slice_get xs i ≡ None
past xs i gone = slice_get_past xs i (outside i (length xs) gone)

-- the text of a word
pub text_there : (words : List Token) (place : ℕ) (word : Token) → true ≡ nat_lt place (length words) → word ≡ get_or words place word → word.text ≡ text_at words place
text_there words place word there is = sym (ap (λ (o : Option Token). option_map_or (λ (w : Token). w.text) o []) (gotten words place word there is))

pub no_text : (words : List Token) (place : ℕ) → false ≡ nat_lt place (length words) → [] ≡ text_at words place
no_text words place gone = sym (ap (λ (o : Option Token). option_map_or (λ (w : Token). w.text) o []) (past words place gone))

pub given_there : (words : List Token) (place : ℕ) (word : Token) → true ≡ nat_lt place (length words) → word ≡ get_or words place word → Some word.text ≡ given words place
unfolding given
given_there words place word there is = sym (ap (option_map (λ (w : Token). w.text)) (gotten words place word there is))

pub none_given : (words : List Token) (place : ℕ) → false ≡ nat_lt place (length words) → None ≡ given words place
unfolding given
none_given words place gone = sym (ap (option_map (λ (w : Token). w.text)) (past words place gone))

-- an option by its form
valued_as : {O : Type 0} (forms : List (OptionForm O)) (words : List Token) (choice : Choice) (form : OptionForm O) → true ≡ nat_lt choice.nth (length forms) → form ≡ get_or forms choice.nth form
    → valued_by words choice.next form ≡ valued forms words choice
unfolding valued
valued_as {O} forms words choice form there is = sym (ap (λ (o : Option (OptionForm O)). option_map_or (valued_by words choice.next) o (Err (UnknownOption choice.next))) (gotten forms choice.nth form there is))

pub valued_with : {O : Type 0} (forms : List (OptionForm O)) (words : List Token) (choice : Choice) (form : OptionForm O) (text : List ℕ) (setting : Setting)
    → true ≡ nat_lt choice.nth (length forms) → form ≡ get_or forms choice.nth form → text ≡ text_at words choice.next → Some setting ≡ setting_in form.parameter text
    → Ok (record { option = form.option; setting = setting }) ≡ valued forms words choice
valued_with forms words choice form text setting there is text_is setting_is =
    ap (λ (s : Option Setting). or_refused (option_map (chosen_with form.option) s) (BadParameter choice.next)) (setting_is ∙ ap (setting_in form.parameter) text_is)
    ∙ valued_as forms words choice form there is

pub valued_badly : {O : Type 0} (forms : List (OptionForm O)) (words : List Token) (choice : Choice) (form : OptionForm O) (text : List ℕ)
    → true ≡ nat_lt choice.nth (length forms) → form ≡ get_or forms choice.nth form → text ≡ text_at words choice.next → None ≡ setting_in form.parameter text
    → Err (BadParameter choice.next) ≡ valued forms words choice
valued_badly forms words choice form text there is text_is setting_is =
    ap (λ (s : Option Setting). or_refused (option_map (chosen_with form.option) s) (BadParameter choice.next)) (setting_is ∙ ap (setting_in form.parameter) text_is)
    ∙ valued_as forms words choice form there is

pub valued_past : {O : Type 0} (forms : List (OptionForm O)) (words : List Token) (choice : Choice) → false ≡ nat_lt choice.nth (length forms) → Err (UnknownOption choice.next) ≡ valued forms words choice
unfolding valued
valued_past {O} forms words choice gone = sym (ap (λ (o : Option (OptionForm O)). option_map_or (valued_by words choice.next) o (Err (UnknownOption choice.next))) (past forms choice.nth gone))

-- ---- results

pub ok_at_err : {T E : Type 0} (Q : E → Type 0) (r : Result T E) (P : T → Type 0) → IsErrAnd r Q → IfOk r P
ok_at_err Q (Ok x) P h = absurd h
ok_at_err Q (Err e) P h = tt

pub ok_same : {T E : Type 0} (r : Result T E) (a b : T) → IfOk r (λ x. x ≡ a) → a ≡ b → IfOk r (λ x. x ≡ b)
ok_same (Ok x) a b h is = h ∙ is
ok_same (Err e) a b h is = tt
