-- Records that are gathered, one after another.
use Rattle.std.proofs.Common.{◌≡◌, ℕ, ◌+◌, ◌≤◌, List, [], ◌∷◌, ◌++◌, length, refl, sym, ◌∙◌, ap, arith, append-nil}
use Rattle.std.specs.Prelude.{All, max}
use Rattle.std.proofs.lemmas.Grind.{common_steps}
use Rattle.std.proofs.lemmas.List.{length_push}
use Rattle.std.proofs.lemmas.List.Elements.{All-append, All-cons, All-head, All-nil, All-tail}
use Rattle.cms_names.specs.declared.name.Format.{Format}
use Rattle.cms_names.specs.declared.name.Format.TheVariants.{F, V}
use Rattle.cms_fields.specs.Limits.{longest_record}
use Rattle.cms_model.specs.Records.{Fits, length_of, longest, stored, with_length}
use Rattle.cms_model.proofs.Records.{stored_append}
use Rattle.cms_records.specs.Views.{fitted}
use Rattle.cms_disk.proofs.RecordsGathered.{longest_append}
use Rattle.cms_files.specs.Gathered.{AreFile, IsGathered, record_in}
use Rattle.cms_files.specs.declared.gathered.Gathered.{Gathered}

-- ---- none so far

no_length : (format : Format) (size : ℕ) → [] ≡ stored format []
no_length F size = refl
no_length V size = refl

pub gathered_none : (format : Format) (size : ℕ) (g : Gathered) → g.format ≡ format → g.length ≡ length_of format size [] → g.count ≡ 0 → g.bytes.items ≡ [] → IsGathered format size [] g
gathered_none format size g is long none bytes = record {
  format_is = is;
  length_is = long;
  count_is = none;
  bytes_are = bytes ∙ no_length format size;
  each = All-nil (Fits format size);
}

-- ---- one more

-- what was stored behind them is the record
pub gathered_more : (format : Format) (size : ℕ) (records : List (List ℕ)) (g g' : Gathered) (text : List ℕ) → IsGathered format size records g → g'.format ≡ g.format → g'.count ≡ g.count + 1
    → g'.length ≡ length_of format size (records ++ text ∷ []) → Fits format size text → g'.bytes.items ≡ g.bytes.items ++ stored format (text ∷ [])
    → IsGathered format size (records ++ text ∷ []) g'
gathered_more format size records g g' text is same count long fits bytes =
    let was = is.count_is in
    let push = length_push records text in
    record {
      format_is = same ∙ is.format_is;
      length_is = long;
      count_is = omega arith;
      bytes_are = bytes ∙ ap (λ (l : List ℕ). l ++ stored format (text ∷ [])) is.bytes_are ∙ sym (stored_append format records (text ∷ []));
      each = All-append (Fits format size) records (text ∷ []) is.each (All-cons (Fits format size) text [] fits (All-nil (Fits format size)));
    }

-- at F it is cut or filled to their length
fitted_length : (text : List ℕ) (size : ℕ) → length (fitted text size 0x40) ≡ size
fitted_length text size = grind (arith, common_steps)

pub gathered_fixed : (format : Format) (size : ℕ) (records : List (List ℕ)) (g g' : Gathered) (text : List ℕ) → IsGathered format size records g → g.format ≡ F → g'.format ≡ g.format
    → g'.count ≡ g.count + 1 → g'.length ≡ g.length → g'.bytes.items ≡ g.bytes.items ++ fitted text g.length 0x40
    → IsGathered format size (records ++ record_in format size text ∷ []) g'
gathered_fixed F size records g g' text is fixed same count long bytes =
    let size_is : g.length ≡ size = is.length_is in
    let record' = fitted text size 0x40 in
    gathered_more F size records g g' record' is same count (long ∙ size_is) (fitted_length text size)
    (bytes ∙ ap (λ (n : ℕ). g.bytes.items ++ fitted text n 0x40) size_is ∙ ap (λ (l : List ℕ). g.bytes.items ++ l) (sym (append-nil record')))
gathered_fixed V size records g g' text is fixed same count long bytes = absurd (cc (sym is.format_is ∙ fixed))

-- at V it may be the longest
pub gathered_varying : (format : Format) (size : ℕ) (records : List (List ℕ)) (g g' : Gathered) (text : List ℕ) → IsGathered format size records g → g.format ≡ V → g'.format ≡ g.format
    → g'.count ≡ g.count + 1 → g'.length ≡ max g.length (length text) → g'.bytes.items ≡ g.bytes.items ++ with_length text → 1 ≤ length text → length text ≤ longest_record
    → IsGathered format size (records ++ record_in format size text ∷ []) g'
gathered_varying F size records g g' text is varies same count long bytes some short = absurd (cc (sym is.format_is ∙ varies))
gathered_varying V size records g g' text is varies same count long bytes some short =
    gathered_more V size records g g' text is same count (long ∙ ap (λ (n : ℕ). max n (length text)) is.length_is ∙ sym (longest_append records text)) (some, short)
    (bytes ∙ ap (λ (l : List ℕ). g.bytes.items ++ l) (sym (append-nil (with_length text))))

pub no_longest : longest [] ≡ 0
unfolding longest
no_longest = refl

-- ---- there is one

longest_high : (size : ℕ) (records : List (List ℕ)) → All (Fits V size) records → longest records ≤ longest_record
unfolding longest
longest_high size [] each = omega arith
longest_high size (text ∷ records) each =
    let here = All-head (Fits V size) text records each in
    let rest = longest_high size records (All-tail (Fits V size) text records each) in
    let short = here.1 in
    omega (arith, rest, short)

longest_low : (size : ℕ) (records : List (List ℕ)) → 1 ≤ length records → All (Fits V size) records → 1 ≤ longest records
unfolding longest
longest_low size [] some each = absurd (omega (arith, some))
longest_low size (text ∷ records) some each =
    let here = All-head (Fits V size) text records each in
    let least = here.0 in
    omega (arith, least)

-- records that were gathered, of which there is one, are a file's
pub are_file : (format : Format) (size : ℕ) (records : List (List ℕ)) (g : Gathered) → IsGathered format size records g → 1 ≤ length records
    → (format ≡ F → (1 ≤ size) × (size ≤ longest_record)) → AreFile format size records
are_file F size records g is some sized = let fits = sized refl in record { some = some; low = fits.0; high = fits.1 }
are_file V size records g is some sized = record { some = some; low = longest_low size records some is.each; high = longest_high size records is.each }
