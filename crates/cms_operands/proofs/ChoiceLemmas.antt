-- Options with their values, one after another.
use Rattle.std.proofs.Common.{◌≡◌, ℕ, ◌+◌, ◌<◌, ◌≤◌, List, [], ◌∷◌, ◌++◌, length, drop, get_or, map, Option, Some, None, Result, Ok, Err, refl, ap, sym, ◌∙◌, append_assoc, append-nil}
use Rattle.std.specs.Prelude.{⊤, IsErrAnd}
use Rattle.std.proofs.lemmas.List.{drop_all, drop_more}
use Rattle.cms_fields.specs.Steps.{◌>>=◌}
use Rattle.cms_line.specs.declared.choices.Choice.{Choice}
use Rattle.cms_line.specs.Options.{options_of}
use Rattle.cms_line.specs.declared.choices.OptionFault.{OptionFault}
use Rattle.cms_line.specs.declared.choices.OptionRule.{OptionRule}
use Rattle.cms_line.specs.declared.token.Token.{Token}
use Rattle.cms_operands.specs.Choices.{AnswersLine, without_options, all_valued, chosen_of, no_forms, read_by, refusal_of, rule_of, unless_refused, valued}
use Rattle.cms_operands.specs.declared.options.ChosenOption.{ChosenOption}
use Rattle.cms_operands.specs.declared.options.CommandFault.{CommandFault}
use Rattle.cms_operands.specs.declared.options.CommandFault.TheVariants as line
use Rattle.cms_operands.specs.declared.options.OptionForm.{OptionForm}
use Rattle.cms_operands.specs.declared.refusal.Refusal.{Refusal}

-- behind options that were read
abbrev pub behind : {O : Type 0} → List (ChosenOption O) → Result (List (ChosenOption O)) Refusal → Result (List (ChosenOption O)) Refusal
behind chosen (Ok more) = Ok (chosen ++ more)
behind chosen (Err why) = Err why

behind_none : {O : Type 0} (r : Result (List (ChosenOption O)) Refusal) → r ≡ behind [] r
behind_none (Ok more) = refl
behind_none (Err why) = refl

behind_one : {O : Type 0} (chosen : List (ChosenOption O)) (o : ChosenOption O) (r : Result (List (ChosenOption O)) Refusal)
    → behind chosen (r >>= (λ more. Ok (o ∷ more))) ≡ behind (chosen ++ o ∷ []) r
behind_one chosen o (Ok more) = ap Ok (sym (append_assoc chosen (o ∷ []) more))
behind_one chosen o (Err why) = refl

-- the whole, where the options up to a place were read
abbrev pub IsWhole : {O : Type 0} → List (OptionForm O) → List Token → Option OptionFault → Result (List (ChosenOption O)) Refusal → List (ChosenOption O) → List Choice → Type 0
IsWhole forms words refused whole chosen left = whole ≡ behind chosen (all_valued forms words refused left)

one_more : {O : Type 0} (forms : List (OptionForm O)) (words : List Token) (refused : Option OptionFault) (c : Choice) (left : List Choice) (o : ChosenOption O) → valued forms words c ≡ Ok o
    → all_valued forms words refused (c ∷ left) ≡ (all_valued forms words refused left >>= (λ more. Ok (o ∷ more)))
unfolding all_valued
one_more forms words refused c left o is = rw is refl

none_more : {O : Type 0} (forms : List (OptionForm O)) (words : List Token) (refused : Option OptionFault) (c : Choice) (left : List Choice) (why : Refusal) → valued forms words c ≡ Err why
    → all_valued forms words refused (c ∷ left) ≡ Err why
unfolding all_valued
none_more forms words refused c left why is = rw is refl

nothing_left : {O : Type 0} (forms : List (OptionForm O)) (words : List Token) (refused : Option OptionFault) → all_valued forms words refused [] ≡ unless_refused (refusal_of refused)
unfolding all_valued
nothing_left forms words refused = refl

abbrev choice_at : List Choice → ℕ → Choice
choice_at all i = get_or all i (record { nth = 0; next = 0 })

left_at : (all : List Choice) (i : ℕ) → i < length all → drop i all ≡ choice_at all i ∷ drop (i + 1) all
left_at all i here = drop_more all i (record { nth = 0; next = 0 }) here

module _ {O : Type 0} (forms : List (OptionForm O)) (words : List Token) (refused : Option OptionFault) (whole : Result (List (ChosenOption O)) Refusal) (chosen : List (ChosenOption O))
    (all : List Choice) (i : ℕ) (so : IsWhole forms words refused whole chosen (drop i all)) where
  here_is : i < length all → whole ≡ behind chosen (all_valued forms words refused (choice_at all i ∷ drop (i + 1) all))
  here_is here = so ∙ ap (λ (cs : List Choice). behind chosen (all_valued forms words refused cs)) (left_at all i here)

  -- an option more
  pub went_on : (chosen' : List (ChosenOption O)) (o : ChosenOption O) → i < length all → valued forms words (choice_at all i) ≡ Ok o → chosen' ≡ chosen ++ o ∷ []
      → IsWhole forms words refused whole chosen' (drop (i + 1) all)
  went_on chosen' o here is now =
      here_is here
      ∙ ap (behind chosen) (one_more forms words refused (choice_at all i) (drop (i + 1) all) o is)
      ∙ behind_one chosen o (all_valued forms words refused (drop (i + 1) all))
      ∙ ap (λ (xs : List (ChosenOption O)). behind xs (all_valued forms words refused (drop (i + 1) all))) (sym now)

  -- an option whose parameter is refused
  pub stopped : (why : Refusal) → i < length all → valued forms words (choice_at all i) ≡ Err why → whole ≡ Err why
  stopped why here is = here_is here ∙ ap (behind chosen) (none_more forms words refused (choice_at all i) (drop (i + 1) all) why is)

  nothing_more : length all ≤ i → whole ≡ behind chosen (unless_refused (refusal_of refused))
  nothing_more past = so ∙ ap (λ (cs : List Choice). behind chosen (all_valued forms words refused cs)) (drop_all i all past) ∙ ap (behind chosen) (nothing_left forms words refused)

  -- all were read
  pub ended : length all ≤ i → refusal_of refused ≡ None → whole ≡ Ok chosen
  ended past none = nothing_more past ∙ ap (λ (r : Option Refusal). behind chosen (unless_refused r)) none ∙ ap Ok (append-nil chosen)

  pub ended_refused : (why : Refusal) → length all ≤ i → refusal_of refused ≡ Some why → whole ≡ Err why
  ended_refused why past is = nothing_more past ∙ ap (λ (r : Option Refusal). behind chosen (unless_refused r)) is

-- the line's options, by what was accepted
pub as_read : {O : Type 0} (forms : List (OptionForm O)) (words : List Token) (rules : List OptionRule) (chosen : List Choice) (refused : Option OptionFault) → rules ≡ map rule_of forms
    → options_of rules words ≡ record { chosen = chosen; refused = refused } → chosen_of forms words ≡ all_valued forms words refused chosen
unfolding chosen_of
as_read forms words rules chosen refused are is =
    ap (λ (rs : List OptionRule). read_by forms words (options_of rs words)) (sym are) ∙ ap (read_by forms words) is

-- ---- answers

pub is_refused : {O : Type 0} (whole : Result (List (ChosenOption O)) Refusal) (r : Result (List (ChosenOption O)) CommandFault) (why : Refusal)
    → IsErrAnd r (λ e. e ≡ line.Refused why) → whole ≡ Err why → AnswersLine whole r
is_refused whole (Ok chosen) why err is = absurd err
is_refused whole (Err (line.Refused w)) why err is = let e : w ≡ why = cc in is ∙ ap Err (sym e)
is_refused whole (Err line.Memory) why err is = tt

pub answers_same : {O : Type 0} (whole whole' : Result (List (ChosenOption O)) Refusal) (r : Result (List (ChosenOption O)) CommandFault) → whole ≡ whole' → AnswersLine whole r → AnswersLine whole' r
answers_same whole whole' (Ok chosen) same is = sym same ∙ is
answers_same whole whole' (Err (line.Refused why)) same is = sym same ∙ is
answers_same whole whole' (Err line.Memory) same is = tt

-- ---- lines without options

pub said_so : {A : Type 0} (words : List Token) (operands : Result A Refusal) (x : A) (chosen : List (ChosenOption ⊤)) → operands ≡ Ok x → chosen_of no_forms words ≡ Ok chosen
    → without_options words operands ≡ Ok x
said_so words operands x chosen is none = rw (is, none) refl
