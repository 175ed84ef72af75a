-- The numbers of a line's options lie where the options' forms say.
use Rattle.std.proofs.Common.{◌≡◌, ℕ, zero, suc, ◌≤◌, List, [], ◌∷◌, Bool, true, false, map, Option, None, Some, Result, Ok, Err, refl, rules, sym, subst, ap}
use Rattle.std.specs.Prelude.{IfSome, fold, if◌then◌else◌, slice_get}
use Rattle.std.specs.List.{All}
use Rattle.std.specs.Option.{option_map, option_map_or, option_and_then, unwrap_or}
use Rattle.std.proofs.lemmas.List.Elements.{All-cons, All-head, All-tail}
use Rattle.cms_fields.specs.Steps.{◌>>=◌}
use Rattle.cms_fields.specs.Limits.{longest_record}
use Rattle.cms_model.proofs.TreeFrame.{between}
use Rattle.cms_names.specs.Names.{is_between}
use Rattle.cms_line.specs.Options.{options_of}
use Rattle.cms_line.specs.declared.choices.Choice.{Choice}
use Rattle.cms_line.specs.declared.choices.OptionFault.{OptionFault}
use Rattle.cms_line.specs.declared.token.Token.{Token}
use Rattle.cms_operands.specs.Choices.{all_valued, chosen_of, chosen_with, refusal_of, rule_of, setting_in, unless_refused, valued, valued_by}
use Rattle.cms_operands.specs.Operands.{largest, number_in, number_within, or_refused}
use Rattle.cms_operands.specs.Refusals.{text_at}
use Rattle.cms_operands.specs.declared.options.ChosenOption.{ChosenOption}
use Rattle.cms_operands.specs.declared.options.OptionForm.{OptionForm}
use Rattle.cms_operands.specs.declared.options.Parameter.{Parameter}
use Rattle.cms_operands.specs.declared.options.Parameter.TheVariants as takes
use Rattle.cms_operands.specs.declared.options.Setting.{Setting}
use Rattle.cms_operands.specs.declared.options.Setting.TheVariants as says
use Rattle.cms_operands.specs.declared.refusal.Refusal.{Refusal}
use Rattle.cms_operands.specs.declared.refusal.Refusal.TheVariants.{BadParameter, UnknownOption}
use Rattle.cms_copyfile.specs.Lines as lines
use Rattle.cms_copyfile.specs.Lines.{IsCopyStyle, options, plain, style_by, style_of, style_with}
use Rattle.cms_copyfile.specs.declared.line.CopyOption.{CopyOption}
use Rattle.cms_copyfile.specs.declared.line.CopyOption.TheVariants as option
use Rattle.cms_copyfile.specs.declared.line.CopyStyle.{CopyStyle}
use Rattle.cms_copyfile.specs.declared.line.Existing.{Existing}

-- ---- each value is said by a word

-- what an option takes
abbrev taken_by : CopyOption → Parameter
taken_by option.From = takes.Number 1 largest
taken_by option.For = takes.Number 1 largest
taken_by option.Fill = takes.Fill
taken_by option.Recfm = takes.Format
taken_by option.Lrecl = takes.Number 1 longest_record
taken_by _ = takes.Nothing

abbrev IsForm : OptionForm CopyOption → Type 0
IsForm f = f.parameter ≡ taken_by f.option

are_forms : All IsForm options
are_forms = search rules

form_at : (fs : List (OptionForm CopyOption)) (k : ℕ) → All IsForm fs → IfSome (slice_get fs k) IsForm
form_at [] k all = tt
form_at (f ∷ fs) zero all = All-head IsForm f fs all
form_at (f ∷ fs) (suc k) all = form_at fs k (All-tail IsForm f fs all)

abbrev IsSaid : ChosenOption CopyOption → Type 0
IsSaid o = (text : List ℕ) × (setting_in (taken_by o.option) text ≡ Some o.setting)

said_by : (option : CopyOption) (text : List ℕ) (s : Option Setting) (why : Refusal) (o : ChosenOption CopyOption)
    → setting_in (taken_by option) text ≡ s → or_refused (option_map (chosen_with option) s) why ≡ Ok o → IsSaid o
said_by option text None why o at is = absurd (cc is)
said_by option text (Some x) why o at is = let same : chosen_with option x ≡ o = cc is in subst IsSaid same (text, at)

form_said : (words : List Token) (place : ℕ) (f : OptionForm CopyOption) (o : ChosenOption CopyOption) → IsForm f → valued_by words place f ≡ Ok o → IsSaid o
form_said words place f o form is =
    said_by f.option (text_at words place) (setting_in f.parameter (text_at words place)) (BadParameter place) o
    (ap (λ (p : Parameter). setting_in p (text_at words place)) (sym form)) is

found_said : (words : List Token) (place : ℕ) (f : Option (OptionForm CopyOption)) (o : ChosenOption CopyOption) → IfSome f IsForm
    → option_map_or (valued_by words place) f (Err (UnknownOption place)) ≡ Ok o → IsSaid o
found_said words place None o form is = absurd (cc is)
found_said words place (Some f) o form is = form_said words place f o form is

valued_said : (words : List Token) (c : Choice) (o : ChosenOption CopyOption) → valued options words c ≡ Ok o → IsSaid o
unfolding valued
valued_said words c o is = found_said words c.next (slice_get options c.nth) o (form_at options c.nth are_forms) is

none_said : (r : Option Refusal) (chosen : List (ChosenOption CopyOption)) → unless_refused r ≡ Ok chosen → All IsSaid chosen
none_said None chosen is = let same : [] ≡ chosen = cc is in subst (All IsSaid) same (search rules)
none_said (Some why) chosen is = absurd (cc is)

more_said : (first : Result (ChosenOption CopyOption) Refusal) (more : Result (List (ChosenOption CopyOption)) Refusal) (chosen : List (ChosenOption CopyOption))
    → ((o : ChosenOption CopyOption) → first ≡ Ok o → IsSaid o) → ((os : List (ChosenOption CopyOption)) → more ≡ Ok os → All IsSaid os)
    → (first >>= λ o. more >>= λ os. Ok (o ∷ os)) ≡ Ok chosen → All IsSaid chosen
more_said (Err e) more chosen one rest is = absurd (cc is)
more_said (Ok o) (Err e) chosen one rest is = absurd (cc is)
more_said (Ok o) (Ok os) chosen one rest is =
    let same : o ∷ os ≡ chosen = cc is in subst (All IsSaid) same (All-cons IsSaid o os (one o refl) (rest os refl))

all_said : (words : List Token) (refused : Option OptionFault) (cs : List Choice) (chosen : List (ChosenOption CopyOption))
    → all_valued options words refused cs ≡ Ok chosen → All IsSaid chosen
unfolding all_valued
all_said words refused [] chosen is = none_said (refusal_of refused) chosen is
all_said words refused (c ∷ cs) chosen is =
    more_said (valued options words c) (all_valued options words refused cs) chosen (valued_said words c) (all_said words refused cs) is

chosen_said : (words : List Token) (chosen : List (ChosenOption CopyOption)) → chosen_of options words ≡ Ok chosen → All IsSaid chosen
unfolding chosen_of
chosen_said words chosen is =
    let r = options_of (map rule_of options) words in
    all_said words r.refused r.chosen chosen is

-- ---- a number

abbrev IsWithin : ℕ → ℕ → Option ℕ → Type 0
IsWithin from to n = IfSome n (λ n. (from ≤ n) × (n ≤ to))

tested : (from to n : ℕ) (b : Bool) (s : Setting) → is_between from to n ≡ b → option_map (λ (n : ℕ). says.Number n) (if b then Some n else None) ≡ Some s
    → IsWithin from to (lines.number_in s)
tested from to n true s at is =
    let same : says.Number n ≡ s = cc is in subst (λ (z : Setting). IsWithin from to (lines.number_in z)) same (between from to n at)
tested from to n false s at is = absurd (cc is)

read : (from to : ℕ) (r : Option ℕ) (s : Setting)
    → option_map (λ (n : ℕ). says.Number n) (option_and_then (λ (n : ℕ). if is_between from to n then Some n else None) r) ≡ Some s
    → IsWithin from to (lines.number_in s)
read from to None s is = absurd (cc is)
read from to (Some n) s is = tested from to n (is_between from to n) s refl is

said_number : (from to : ℕ) (text : List ℕ) (s : Setting) → setting_in (takes.Number from to) text ≡ Some s → IsWithin from to (lines.number_in s)
unfolding setting_in number_within
said_number from to text s is = read from to (number_in text) s is

-- ---- COPYFILE's options

at_least : (n : Option ℕ) (first most : ℕ) → IsWithin 1 most n → 1 ≤ first → 1 ≤ unwrap_or n first
at_least None first most is so = so
at_least (Some n) first most is so = is.0

abbrev Keeps : CopyStyle → CopyOption → Setting → Type 0
Keeps style option says = IsCopyStyle style → IsCopyStyle (style_by style option says)

-- a style whose numbers stay
same_numbers : (style style' : CopyStyle) → style'.first ≡ style.first → style'.most ≡ style.most → style'.length ≡ style.length → IsCopyStyle style → IsCopyStyle style'
same_numbers style style' first most length is = record {
  first = subst (λ (n : ℕ). 1 ≤ n) (sym first) is.first;
  most = subst (λ (n : Option ℕ). IsWithin 1 largest n) (sym most) is.most;
  length = subst (λ (n : Option ℕ). IsWithin 1 longest_record n) (sym length) is.length;
}

kept : (style : CopyStyle) (o : CopyOption) (s : Setting) (text : List ℕ) → setting_in (taken_by o) text ≡ Some s → Keeps style o s
kept style option.NewFile s text at is = same_numbers style (style_by style option.NewFile s) refl refl refl is
kept style option.Replace s text at is = same_numbers style (style_by style option.Replace s) refl refl refl is
kept style option.Append s text at is = same_numbers style (style_by style option.Append s) refl refl refl is
kept style option.Upcase s text at is = same_numbers style (style_by style option.Upcase s) refl refl refl is
kept style option.Lowcase s text at is = same_numbers style (style_by style option.Lowcase s) refl refl refl is
kept style option.Trunc s text at is = same_numbers style (style_by style option.Trunc s) refl refl refl is
kept style option.NoTrunc s text at is = same_numbers style (style_by style option.NoTrunc s) refl refl refl is
kept style option.Fill s text at is = same_numbers style (style_by style option.Fill s) refl refl refl is
kept style option.Recfm s text at is = same_numbers style (style_by style option.Recfm s) refl refl refl is
kept style option.OldDate s text at is = same_numbers style (style_by style option.OldDate s) refl refl refl is
kept style option.NewDate s text at is = same_numbers style (style_by style option.NewDate s) refl refl refl is
kept style option.TypeFiles s text at is = same_numbers style (style_by style option.TypeFiles s) refl refl refl is
kept style option.NoType s text at is = same_numbers style (style_by style option.NoType s) refl refl refl is
kept style option.From s text at is = record { first = at_least (lines.number_in s) style.first largest (said_number 1 largest text s at) is.first; most = is.most; length = is.length }
kept style option.For s text at is = record { first = is.first; most = said_number 1 largest text s at; length = is.length }
kept style option.Lrecl s text at is = record { first = is.first; most = is.most; length = said_number 1 longest_record text s at }

all_kept : (style : CopyStyle) (chosen : List (ChosenOption CopyOption)) → IsCopyStyle style → All IsSaid chosen → IsCopyStyle (fold style_with style chosen)
all_kept style [] is all = is
all_kept style (o ∷ os) is all =
    let said = All-head IsSaid o os all in
    all_kept (style_with style o) os (kept style o.option o.setting said.0 said.1 is) (All-tail IsSaid o os all)

is_plain : (default : Existing) → IsCopyStyle (plain default)
is_plain default = record { first = search rules; most = tt; length = tt }

pub style_said : (default : Existing) (words : List Token) (chosen : List (ChosenOption CopyOption)) → chosen_of options words ≡ Ok chosen → IsCopyStyle (style_of default chosen)
style_said default words chosen is = all_kept (plain default) chosen (is_plain default) (chosen_said words chosen is)
