-- Records are measured, and others behind them.
use Rattle.std.proofs.Common.{◌≡◌, ◌∙◌, ℕ, ◌+◌, max, List, [], ◌∷◌, ◌++◌, length, refl, sym, ap, arith, length-append}
use Rattle.cms_names.specs.declared.name.Format.{Format}
use Rattle.cms_names.specs.declared.name.Format.TheVariants.{F, V}
use Rattle.cms_model.specs.Records.{longest, stored}
use Rattle.cms_model.proofs.Records.{longest_both, stored_append}
use Rattle.cms_copyfile.specs.Measures.{measured}
use Rattle.cms_copyfile.specs.declared.measure.Measure.{Measure}

pub none_measured : (format : Format) → record { count = 0; bytes = 0; longest = 0 } ≡ measured format []
unfolding longest
none_measured F = refl
none_measured V = refl

-- what is told of records and of others behind them
abbrev joined : Measure → Measure → Measure
joined a b = record { count = a.count + b.count; bytes = a.bytes + b.bytes; longest = max a.longest b.longest }

measured_both : (format : Format) (a b : List (List ℕ)) → joined (measured format a) (measured format b) ≡ measured format (a ++ b)
measured_both format a b =
    let count = length-append a b in
    let bytes = ap length (stored_append format a b) ∙ length-append (stored format a) (stored format b) in
    let long = longest_both a b in
    rw (count, bytes, long) refl

pub both_measured : (format : Format) (front behind : List (List ℕ)) (a b : Measure) (count bytes long : ℕ) → count ≡ a.count + b.count → bytes ≡ a.bytes + b.bytes
    → long ≡ max a.longest b.longest → a ≡ measured format front → b ≡ measured format behind
    → record { count = count; bytes = bytes; longest = long } ≡ measured format (front ++ behind)
both_measured format front behind a b count bytes long count_is bytes_is long_is is is' = rw (count_is, bytes_is, long_is, is, is') (measured_both format front behind)

longest_one : (text : List ℕ) → longest (text ∷ []) ≡ length text
unfolding longest
longest_one text = omega arith

-- with one record more, in front of which so many bytes are stored
pub one_measured : (format : Format) (records : List (List ℕ)) (text : List ℕ) (head : ℕ) (m : Measure) → m ≡ measured format records
    → length (stored format (text ∷ [])) ≡ head + length text
    → record { count = m.count + 1; bytes = m.bytes + (head + length text); longest = max m.longest (length text) } ≡ measured format (records ++ (text ∷ []))
one_measured format records text head m is size =
    both_measured format records (text ∷ []) m (measured format (text ∷ [])) (m.count + 1) (m.bytes + (head + length text)) (max m.longest (length text)) refl
    (ap (λ (n : ℕ). m.bytes + n) (sym size)) (ap (max m.longest) (sym (longest_one text))) is refl
