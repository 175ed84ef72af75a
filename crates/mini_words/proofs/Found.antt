-- What clap's matches hold, in the words of its definitions.
use Rattle.std.proofs.Common.{◌≡◌, ◌∙◌, List, [], Bor, map, ap, refl}
use Rattle.std.specs.Prelude.{Option, None, Some, option_map, unwrap_or}
use Rattle.clap.proofs.WalkLemmas.{first_value-rows, raw_values-rows}
use Rattle.clap.specs.Words.{Text, first_value, matched_of, raw_values, rows_of}
use Rattle.clap.specs.declared.parser.matches.Found.{Found}
use Rattle.mini_words.specs.Commands.{value_in, values_in}

pub value_found : (f : Found) (id : Text) → first_value f id ≡ value_in id (rows_of f)
unfolding value_in
value_found f id = first_value-rows f id

-- the words that were found, or none
pub words_found : (f : Found) (id : Text) (found : Option (Bor (List (Bor Text)))) (none : Bor (List (Bor Text))) → none.now ≡ []
    → option_map (λ words. map (λ s. s.now) words.now) found ≡ option_map raw_values (matched_of f id)
    → map (λ s. s.now) (unwrap_or found none).now ≡ values_in id (rows_of f)
unfolding values_in
words_found f id None none empty e = ap (λ (words : List (Bor Text)). map (λ s. s.now) words) empty ∙ ap (λ (o : Option (List Text)). unwrap_or o []) (e ∙ raw_values-rows f id)
words_found f id (Some words) none empty e = ap (λ (o : Option (List Text)). unwrap_or o []) (e ∙ raw_values-rows f id)

-- the text that was found, or another
pub text_found : (found : Option (Bor Text)) (default : Bor Text) → (unwrap_or found default).now ≡ unwrap_or (option_map (λ s. s.now) found) default.now
text_found None default = refl
text_found (Some text) default = refl
