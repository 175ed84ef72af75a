-- The places of words.
use Rattle.std.proofs.Common.{◌≡◌, ◌<◌, ◌∙◌, ℕ, true, List, [], length, Option, Some, None, sym}
use Rattle.std.specs.Option.{option_and_then}
use Rattle.std.specs.Str.{bytes_eq}
use Rattle.std.proofs.lemmas.List.Quantifiers.{position-Some}
use Rattle.cms_model.specs.Objects.{Object}
use Rattle.cms_line.specs.declared.token.Token.{Token}
use Rattle.cms_names.specs.Names.{part_of}
use Rattle.cms_operands.specs.Operands.{given}
use Rattle.cms_exec.specs.Searches.{valid_name}
use Rattle.cms_ext.specs.Objects.{place_of}
use Rattle.cms_session.specs.Lines.{extension_named, extension_of}

some_object : Object
some_object = record { word = []; does = λ before reply want after. true; content = [] }

-- a place that was found is one of the list
pub place_there : (os : List Object) (word : List ℕ) (place : ℕ) → place_of word os ≡ Some place → place < length os
place_there os word place is = (position-Some (λ (o : Object). bytes_eq word o.word) os place some_object is).0

of_name_there : (os : List Object) (name : Option (List ℕ)) (place : ℕ) → option_and_then (λ (word : List ℕ). place_of word os) name ≡ Some place → place < length os
of_name_there os None place is = absurd (cc is)
of_name_there os (Some word) place is = place_there os word place is

pub named_there : (os : List Object) (word : List ℕ) (found : Option ℕ) (place : ℕ) → found ≡ extension_named os word → found ≡ Some place → place < length os
named_there os word found place is some = of_name_there os (valid_name (part_of word)) place (sym is ∙ some)

of_first_there : (os : List Object) (first : Option (List ℕ)) (place : ℕ) → option_and_then (λ (word : List ℕ). extension_named os word) first ≡ Some place → place < length os
of_first_there os None place is = absurd (cc is)
of_first_there os (Some word) place is = of_name_there os (valid_name (part_of word)) place is

pub extension_there : (os : List Object) (ts : List Token) (found : Option ℕ) (place : ℕ) → found ≡ extension_of os ts → found ≡ Some place → place < length os
extension_there os ts found place is some = of_first_there os (given ts 0) place (sym is ∙ some)
