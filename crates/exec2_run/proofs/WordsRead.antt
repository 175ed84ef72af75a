-- Words that are read one after another: the names that &READ asks for, and the values of a statement's words.
use Rattle.std.proofs.Common.{◌≡◌, ◌∙◌, ◌∷◌, [], ◌++◌, ◌+◌, ◌<◌, ◌≤◌, ℕ, Bool, true, false, List, length, drop, get_or, refl, sym, ap}
use Rattle.std.specs.Prelude.{Result, Ok, Err}
use Rattle.std.proofs.Math.ListN.{drop_of_length-le}
use Rattle.std.proofs.lemmas.List.{append_assoc, append-nil, drop_more}
use Rattle.cms_fields.specs.Steps.{◌>>=◌}
use Rattle.cms_text.specs.Texts.{Text}
use Rattle.exec2_parse.specs.Expansion.{Binding, expanded}
use Rattle.exec2_parse.specs.declared.expansion.ExpandFault.{ExpandFault}
use Rattle.exec2_run.specs.Readings as readings
use Rattle.exec2_run.specs.Values as spec
use Rattle.exec2_run.specs.Variables.{target}
use Rattle.exec2_run.specs.declared.fault.Fault.{Fault}
use Rattle.exec2_run.specs.declared.values.Operands.{Operands}

pub here_on : (words : List Text) (i : ℕ) (word : Text) → i < length words → word ≡ get_or words i word → drop i words ≡ word ∷ drop (i + 1) words
here_on words i word here is = drop_more words i word here ∙ ap (λ (w : Text). w ∷ drop (i + 1) words) (sym is)

-- ---- names

pub no_front : (r : Result (List Text) Fault) → readings.in_front [] r ≡ r
no_front (Ok more) = refl
no_front (Err why) = refl

one_front : (front : List Text) (name : Text) (r : Result (List Text) Fault) → readings.in_front (front ++ name ∷ []) r ≡ readings.in_front front (r >>= (λ others. Ok (name ∷ others)))
one_front front name (Ok more) = ap Ok (append_assoc front (name ∷ []) more)
one_front front name (Err why) = refl

module _ (b : Binding) (words : List Text) (i : ℕ) (word : Text) (here : i < length words) (is : word ≡ get_or words i word) (front : List Text)
    (so_far : readings.in_front front (readings.names b (drop i words)) ≡ readings.names b words) where
  pub bad_name : (why : Fault) → target b word ≡ Err why → readings.names b words ≡ Err why
  unfolding readings.names
  bad_name why bad = sym so_far ∙ rw (here_on words i word here is, bad) refl

  pub good_name : (name : Text) (more : List Text) → target b word ≡ Ok name → more ≡ front ++ name ∷ []
      → readings.in_front more (readings.names b (drop (i + 1) words)) ≡ readings.names b words
  unfolding readings.names
  good_name name more good added =
      let rest = readings.names b (drop (i + 1) words) in
      let step : readings.names b (drop i words) ≡ (rest >>= (λ others. Ok (name ∷ others))) = rw (here_on words i word here is, good) refl in
      ap (λ (f : List Text). readings.in_front f rest) added ∙ (one_front front name rest ∙ (sym (ap (readings.in_front front) step) ∙ so_far))

pub all_names : (b : Binding) (words : List Text) (i : ℕ) (front : List Text) → length words ≤ i → readings.in_front front (readings.names b (drop i words)) ≡ readings.names b words
    → readings.names b words ≡ Ok front
unfolding readings.names
all_names b words i front past so_far = sym so_far ∙ rw (drop_of_length-le words past) (ap Ok (append-nil front))

-- ---- values

cut_front : (keeps : Bool) (why : ExpandFault) (more : Operands) → spec.in_front keeps (Err why) more ≡ record { words = []; is_cut = true }
cut_front true why more = refl
cut_front false why more = refl

module _ (keeps : Bool) (b : Binding) (words : List Text) (i : ℕ) (word text : Text) (here : i < length words) (is : word ≡ get_or words i word) (same : text ≡ word) (front : List Text)
    (so_far : spec.behind front (spec.values keeps b (drop i words)) ≡ spec.values keeps b words) where
  step : spec.values keeps b (drop i words) ≡ spec.in_front keeps (expanded b text) (spec.values keeps b (drop (i + 1) words))
  unfolding spec.values
  step = rw (here_on words i word here is) (ap (λ (w : Text). spec.in_front keeps (expanded b w) (spec.values keeps b (drop (i + 1) words))) (sym same))

  pub cut_value : (why : ExpandFault) → expanded b text ≡ Err why → record { words = front; is_cut = true } ≡ spec.values keeps b words
  cut_value why bad =
      let rest = spec.values keeps b (drop (i + 1) words) in
      let ends : spec.values keeps b (drop i words) ≡ record { words = []; is_cut = true } = step ∙ (ap (λ (r : Result Text ExpandFault). spec.in_front keeps r rest) bad ∙ cut_front keeps why rest) in
      sym (ap (spec.behind front) ends ∙ ap (λ (ws : List Text). record { words = ws; is_cut = true }) (append-nil front)) ∙ so_far

  pub kept_value : (value : Text) (new : List Text) → expanded b text ≡ Ok value
      → ((more : Operands) → spec.behind new more ≡ spec.behind front (spec.in_front keeps (Ok value) more))
      → spec.behind new (spec.values keeps b (drop (i + 1) words)) ≡ spec.values keeps b words
  kept_value value new good kept =
      let rest = spec.values keeps b (drop (i + 1) words) in
      kept rest ∙ (sym (ap (spec.behind front) (step ∙ ap (λ (r : Result Text ExpandFault). spec.in_front keeps r rest) good)) ∙ so_far)

pub all_values : (keeps : Bool) (b : Binding) (words : List Text) (i : ℕ) (front : List Text) → length words ≤ i → spec.behind front (spec.values keeps b (drop i words)) ≡ spec.values keeps b words
    → record { words = front; is_cut = false } ≡ spec.values keeps b words
unfolding spec.values
all_values keeps b words i front past so_far =
    ap (λ (ws : List Text). record { words = ws; is_cut = false }) (sym (append-nil front)) ∙ (sym (rw (drop_of_length-le words past) refl) ∙ so_far)
