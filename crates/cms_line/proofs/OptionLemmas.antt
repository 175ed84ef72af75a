-- Options, word by word.
use Rattle.std.proofs.Common.{◌≡◌, ℕ, zero, suc, ◌+◌, ◌<◌, true, false, List, [], ◌∷◌, ◌++◌, length, drop, get_or, Option, Some, None, refl, ap, sym, ◌∙◌, subst, append_assoc, append-nil, arith}
use Rattle.std.proofs.lemmas.List.{drop_more, drop-drop}
use Rattle.std.proofs.lemmas.Grind.{common_steps}
use Rattle.std.specs.Prelude.{nat_lt}
use Rattle.std.specs.List.{position}
use Rattle.cms_line.specs.declared.token.Token.{Token}
use Rattle.cms_line.specs.declared.choices.OptionRule.{OptionRule}
use Rattle.cms_line.specs.declared.choices.Choice.{Choice}
use Rattle.cms_line.specs.declared.choices.OptionFault.{OptionFault}
use Rattle.cms_line.specs.declared.choices.OptionFault.TheVariants.{Unknown, Missing, After}
use Rattle.cms_line.specs.Options.{Reading, options_from, missing, is_right, is_named, takes_of, closed, option_named, with_parameters, chooses}

-- the parameters of an option are passed
pub passed : (rules : List OptionRule) (n place : ℕ) (words : List Token) → options_from rules n place words ≡ options_from rules 0 (place + n) (drop n words)
unfolding options_from
passed rules zero place words = let z : place + 0 ≡ place = omega arith in rw z refl
passed rules (suc n) place [] = refl
passed rules (suc n) place (word ∷ words) =
    let z : place + 1 + n ≡ place + suc n = omega arith in
    passed rules n (place + 1) words ∙ ap (λ (k : ℕ). options_from rules 0 k (drop n words)) z

-- ---- one word more

at_end : (rules : List OptionRule) (place : ℕ) (words : List Token) → words ≡ [] → options_from rules 0 place words ≡ record { chosen = []; refused = None }
unfolding options_from
at_end rules place words e = ap (λ (z : List Token). options_from rules 0 place z) e

right_closes : (rules : List OptionRule) (place : ℕ) (word : Token) (words : List Token) → is_right word.text ≡ true → options_from rules 0 place (word ∷ words) ≡ closed (place + 1) words
unfolding options_from
right_closes rules place word words e = rw e refl

option_here : (rules : List OptionRule) (place : ℕ) (word : Token) (words : List Token) → is_right word.text ≡ false
    → options_from rules 0 place (word ∷ words) ≡ option_named rules place words (λ parameters. options_from rules parameters (place + 1) words) (position (is_named word.text) rules)
unfolding options_from
option_here rules place word words e = rw e refl

-- the options of whole words, so far: what was chosen, and the rest from a place on
pub record SoFar (rules : List OptionRule) (whole : Reading) (chosen : List Choice) (place : ℕ) (rest : List Token) : Type 0 where
  pub chosen_are : whole.chosen ≡ chosen ++ (options_from rules 0 place rest).chosen
  pub refused_is : whole.refused ≡ (options_from rules 0 place rest).refused

-- the word at a place stands before the others of the rest
pub at_word : (rules : List OptionRule) (whole : Reading) (chosen : List Choice) (place : ℕ) (words : List Token) (word : Token) → true ≡ nat_lt place (length words) → word ≡ get_or words place word
    → SoFar rules whole chosen place (drop place words) → SoFar rules whole chosen place (word ∷ drop (place + 1) words)
at_word rules whole chosen place words word is_in is s =
    let lt : place < length words = grind (arith, common_steps) in
    subst (λ (z : List Token). SoFar rules whole chosen place z) (drop_more words place word lt ∙ ap (λ (w : Token). w ∷ drop (place + 1) words) (sym is)) s

pub begun : (rules : List OptionRule) (chosen : List Choice) (place : ℕ) (rest : List Token) → chosen ≡ [] → SoFar rules (options_from rules 0 place rest) chosen place rest
begun rules chosen place rest none = record { chosen_are = ap (λ (z : List Choice). z ++ (options_from rules 0 place rest).chosen) (sym none); refused_is = refl }

same_reading : (r : Reading) (chosen : List Choice) (refused : Option OptionFault) → r.chosen ≡ chosen → r.refused ≡ refused → r ≡ record { chosen = chosen; refused = refused }
same_reading r chosen refused c f = ap (λ (x : List Choice). (let y : Reading = record { chosen = x; refused = r.refused } in y)) c
    ∙ ap (λ (x : Option OptionFault). (let y : Reading = record { chosen = chosen; refused = x } in y)) f

finished : (rules : List OptionRule) (whole : Reading) (chosen : List Choice) (place : ℕ) (rest : List Token) (refused : Option OptionFault) → SoFar rules whole chosen place rest
    → options_from rules 0 place rest ≡ record { chosen = []; refused = refused } → whole ≡ record { chosen = chosen; refused = refused }
finished rules whole chosen place rest refused s is =
    let c : whole.chosen ≡ chosen = s.chosen_are ∙ ap (λ (r : Reading). chosen ++ r.chosen) is ∙ append-nil chosen in
    let f : whole.refused ≡ refused = s.refused_is ∙ ap (λ (r : Reading). r.refused) is in
    same_reading whole chosen refused c f

pub no_more : (rules : List OptionRule) (whole : Reading) (chosen : List Choice) (place : ℕ) (rest : List Token) → SoFar rules whole chosen place rest → rest ≡ []
    → whole ≡ record { chosen = chosen; refused = None }
no_more rules whole chosen place rest s e = finished rules whole chosen place rest None s (at_end rules place rest e)

pub closes : (rules : List OptionRule) (whole : Reading) (chosen : List Choice) (place : ℕ) (word : Token) (behind : List Token) → SoFar rules whole chosen place (word ∷ behind)
    → is_right word.text ≡ true → behind ≡ [] → whole ≡ record { chosen = chosen; refused = None }
closes rules whole chosen place word behind s right e = finished rules whole chosen place (word ∷ behind) None s (right_closes rules place word behind right ∙ ap (closed (place + 1)) e)

closed_some : (place : ℕ) (words : List Token) → 0 < length words → closed place words ≡ record { chosen = []; refused = Some (After place) }
closed_some place [] some = absurd (omega arith)
closed_some place (word ∷ words) some = refl

pub stands_after : (rules : List OptionRule) (whole : Reading) (chosen : List Choice) (place at : ℕ) (word : Token) (behind : List Token) → SoFar rules whole chosen place (word ∷ behind)
    → is_right word.text ≡ true → 0 < length behind → at ≡ place + 1 → whole ≡ record { chosen = chosen; refused = Some (After at) }
stands_after rules whole chosen place at word behind s right some is =
    finished rules whole chosen place (word ∷ behind) (Some (After at)) s
    (right_closes rules place word behind right ∙ closed_some (place + 1) behind some ∙ ap (λ (n : ℕ). (let y : Reading = record { chosen = []; refused = Some (After n) } in y)) (sym is))

pub is_unknown : (rules : List OptionRule) (whole : Reading) (chosen : List Choice) (place at : ℕ) (word : Token) (behind : List Token) → SoFar rules whole chosen place (word ∷ behind)
    → is_right word.text ≡ false → position (is_named word.text) rules ≡ None → at ≡ place → whole ≡ record { chosen = chosen; refused = Some (Unknown at) }
is_unknown rules whole chosen place at word behind s right none is =
    finished rules whole chosen place (word ∷ behind) (Some (Unknown at)) s
    (option_here rules place word behind right ∙ ap (option_named rules place behind (λ parameters. options_from rules parameters (place + 1) behind)) none
    ∙ ap (λ (n : ℕ). (let y : Reading = record { chosen = []; refused = Some (Unknown n) } in y)) (sym is))

pub lacks : (rules : List OptionRule) (whole : Reading) (chosen : List Choice) (place nth takes gone at : ℕ) (word : Token) (behind : List Token) → SoFar rules whole chosen place (word ∷ behind)
    → is_right word.text ≡ false
    → position (is_named word.text) rules ≡ Some nth → takes ≡ takes_of rules nth → missing takes behind ≡ Some gone → at ≡ place + 1 + gone
    → whole ≡ record { chosen = chosen; refused = Some (Missing at) }
lacks rules whole chosen place nth takes gone at word behind s right some takes_is miss is =
    let m : missing (takes_of rules nth) behind ≡ Some gone = ap (λ (n : ℕ). missing n behind) (sym takes_is) ∙ miss in
    finished rules whole chosen place (word ∷ behind) (Some (Missing at)) s
    (option_here rules place word behind right ∙ ap (option_named rules place behind (λ parameters. options_from rules parameters (place + 1) behind)) some
    ∙ ap (λ (o : Option ℕ). with_parameters place nth o (options_from rules (takes_of rules nth) (place + 1) behind)) m
    ∙ ap (λ (n : ℕ). (let y : Reading = record { chosen = []; refused = Some (Missing n) } in y)) (sym is))

same_choice : (choice : Choice) (nth next : ℕ) → choice.nth ≡ nth → choice.next ≡ next → choice ≡ record { nth = nth; next = next }
same_choice choice nth next a b = ap (λ (n : ℕ). (let y : Choice = record { nth = n; next = choice.next } in y)) a ∙ ap (λ (n : ℕ). (let y : Choice = record { nth = nth; next = n } in y)) b

pub goes_on : (rules : List OptionRule) (whole : Reading) (chosen new : List Choice) (place nth takes next : ℕ) (choice : Choice) (word : Token) (words : List Token)
    → SoFar rules whole chosen place (word ∷ drop (place + 1) words) → is_right word.text ≡ false
    → position (is_named word.text) rules ≡ Some nth → takes ≡ takes_of rules nth → missing takes (drop (place + 1) words) ≡ None → choice.nth ≡ nth → choice.next ≡ place + 1
    → new ≡ chosen ++ choice ∷ [] → next ≡ place + 1 + takes
    → SoFar rules whole new next (drop next words)
goes_on rules whole chosen new place nth takes next choice word words s right some takes_is all nth_is choice_next new_is next_is =
    let behind : List Token = drop (place + 1) words in
    let rest_is : drop takes behind ≡ drop next words = drop-drop takes (place + 1) words ∙ ap (λ (n : ℕ). drop n words) (sym next_is) in
    let m : missing (takes_of rules nth) behind ≡ None = ap (λ (n : ℕ). missing n behind) (sym takes_is) ∙ all in
    let here : options_from rules 0 place (word ∷ behind) ≡ chooses choice (options_from rules 0 next (drop next words)) =
    option_here rules place word behind right ∙ ap (option_named rules place behind (λ parameters. options_from rules parameters (place + 1) behind)) some
    ∙ ap (λ (o : Option ℕ). with_parameters place nth o (options_from rules (takes_of rules nth) (place + 1) behind)) m
    ∙ ap (λ (c : Choice). chooses c (options_from rules (takes_of rules nth) (place + 1) behind)) (sym (same_choice choice nth (place + 1) nth_is choice_next))
    ∙ ap (λ (n : ℕ). chooses choice (options_from rules n (place + 1) behind)) (sym takes_is)
    ∙ ap (chooses choice) (passed rules takes (place + 1) behind)
    ∙ ap (λ (n : ℕ). chooses choice (options_from rules 0 n (drop takes behind))) (sym next_is)
    ∙ ap (λ (z : List Token). chooses choice (options_from rules 0 next z)) rest_is
    in
    let more : Reading = options_from rules 0 next (drop next words) in
    record {
      chosen_are = s.chosen_are ∙ ap (λ (r : Reading). chosen ++ r.chosen) here ∙ sym (append_assoc chosen (choice ∷ []) more.chosen) ∙ ap (λ (z : List Choice). z ++ more.chosen) (sym new_is);
      refused_is = s.refused_is ∙ ap (λ (r : Reading). r.refused) here;
    }
