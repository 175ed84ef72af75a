-- Copies whose lengths are known before a record is read.
use Rattle.std.proofs.Common.{◌≡◌, ◌∙◌, ℕ, zero, suc, ◌+◌, ◌*◌, ◌<◌, ◌≤◌, ◌^◌, max, List, [], ◌∷◌, ◌++◌, All, drop, length, map, take, Option, Some, Result, Ok, Err, refl, sym, ap, subst, arith, length-append}
use Rattle.std.specs.Prelude.{None, IfSome, OnOk}
use Rattle.std.proofs.lemmas.List.{length-map}
use Rattle.std.proofs.lemmas.List.Elements.{All-nil, All-cons, All-drop, All-head, All-tail, All-take, All-weaker}
use Rattle.std.proofs.lemmas.Nat.{mul-le}
use Rattle.cms_fields.specs.Limits.{longest_record, most_records}
use Rattle.cms_names.specs.declared.name.Format.{Format}
use Rattle.cms_names.specs.declared.name.Format.TheVariants.{F, V}
use Rattle.cms_model.specs.Records.{Fits, length_of, longest, stored, with_length}
use Rattle.cms_model.proofs.Records.{length-with_length, stored_append}
use Rattle.cms_search.specs.Machine.{Machine}
use Rattle.cms_files.specs.Files.{UnitFile}
use Rattle.cms_files.specs.Told.{HasStored}
use Rattle.cms_disk.proofs.RecordsPut.{stored_none as none_stored}
use Rattle.cms_copyfile.specs.Copyfile.{file_at}
use Rattle.cms_copyfile.specs.Measures.{measured}
use Rattle.cms_copyfile.specs.Outputs.{copies_in}
use Rattle.cms_copyfile.specs.Records.{copied}
use Rattle.cms_copyfile.specs.Told.{IsFoundAs}
use Rattle.cms_copyfile.specs.declared.copy.FileCopy.{FileCopy}
use Rattle.cms_copyfile.specs.declared.measure.Measure.{Measure}
use Rattle.cms_copyfile.specs.declared.output.CopyPlan.{CopyPlan}

-- ---- records of one length

equal_low : (n : ℕ) (rs : List (List ℕ)) → All (Fits F n) rs → longest rs ≤ n
unfolding longest
equal_low n [] each = omega arith
equal_low n (r ∷ rs) each =
    let here : length r ≡ n = All-head (Fits F n) r rs each in
    let rest = equal_low n rs (All-tail (Fits F n) r rs each) in
    omega (arith, rest)

equal_longest : (n : ℕ) (rs : List (List ℕ)) → All (Fits F n) rs → 1 ≤ length rs → longest rs ≡ n
unfolding longest
equal_longest n [] each some = absurd (omega arith)
equal_longest n (r ∷ rs) each some =
    let here : length r ≡ n = All-head (Fits F n) r rs each in
    let rest = equal_low n rs (All-tail (Fits F n) r rs each) in
    omega (arith, rest)

equal_stored : (format : Format) (n head : ℕ) (rs : List (List ℕ)) → All (Fits F n) rs → ((text : List ℕ) → length (stored format (text ∷ [])) ≡ head + length text)
    → length (stored format rs) ≡ length rs * (head + n)
equal_stored format n head [] each one = let none = none_stored format in omega (arith, none)
equal_stored format n head (r ∷ rs) each one =
    let here : length r ≡ n = All-head (Fits F n) r rs each in
    let first : length (stored format (r ∷ [])) ≡ head + n = one r ∙ ap (λ (k : ℕ). head + k) here in
    let rest = equal_stored format n head rs (All-tail (Fits F n) r rs each) one in
    let both = ap length (stored_append format (r ∷ []) rs) ∙ length-append (stored format (r ∷ [])) (stored format rs) in
    let all : length (stored format (r ∷ rs)) ≡ (head + n) + length rs * (head + n) = both ∙ (ap (λ (k : ℕ). k + length (stored format rs)) first ∙ ap (λ (k : ℕ). (head + n) + k) rest) in
    all ∙ omega arith

none_longest : (rs : List (List ℕ)) → length rs ≡ 0 → longest rs ≡ 0
unfolding longest
none_longest [] none = refl
none_longest (r ∷ rs) none = absurd (omega arith)

-- what is told of so many
pub equal_measure : (format : Format) (n count head bytes long : ℕ) (rs : List (List ℕ)) → All (Fits F n) rs → length rs ≡ count
    → ((text : List ℕ) → length (stored format (text ∷ [])) ≡ head + length text) → bytes ≡ count * (head + n) → long ≡ longest rs
    → record { count = count; bytes = bytes; longest = long } ≡ measured format rs
equal_measure format n count head bytes long rs each many one bytes_are long_is =
    let all = bytes_are ∙ (ap (λ (k : ℕ). k * (head + n)) (sym many) ∙ sym (equal_stored format n head rs each one)) in
    rw (← many, all, long_is) refl

pub none_measure : (format : Format) (n count head bytes : ℕ) (rs : List (List ℕ)) → All (Fits F n) rs → length rs ≡ count
    → ((text : List ℕ) → length (stored format (text ∷ [])) ≡ head + length text) → bytes ≡ count * (head + n) → count ≡ 0
    → record { count = count; bytes = bytes; longest = 0 } ≡ measured format rs
none_measure format n count head bytes rs each many one bytes_are none =
    equal_measure format n count head bytes 0 rs each many one bytes_are (sym (none_longest rs (many ∙ none)))

pub some_measure : (format : Format) (n count head bytes : ℕ) (rs : List (List ℕ)) → All (Fits F n) rs → length rs ≡ count
    → ((text : List ℕ) → length (stored format (text ∷ [])) ≡ head + length text) → bytes ≡ count * (head + n) → 1 ≤ count
    → record { count = count; bytes = bytes; longest = n } ≡ measured format rs
some_measure format n count head bytes rs each many one bytes_are some =
    equal_measure format n count head bytes n rs each many one bytes_are (sym (equal_longest n rs each (omega arith)))

-- the copies of a file's records
equal_copies : (plan : CopyPlan) (n : ℕ) (P : List ℕ → Type 0) (rs : List (List ℕ)) → ((text : List ℕ) → P text → length (copied plan.style text) ≡ n) → All P rs
    → All (Fits F n) (map (copied plan.style) rs)
equal_copies plan n P [] one each = All-nil (Fits F n)
equal_copies plan n P (r ∷ rs) one each =
    All-cons (Fits F n) (copied plan.style r) (map (copied plan.style) rs) (one r (All-head P r rs each)) (equal_copies plan n P rs one (All-tail P r rs each))

pub told_copies : (plan : CopyPlan) (n : ℕ) (P : List ℕ → Type 0) (rs : List (List ℕ)) → ((text : List ℕ) → P text → length (copied plan.style text) ≡ n) → All P rs
    → All (Fits F n) (copies_in plan rs)
told_copies plan n P rs one each = equal_copies plan n P (drop plan.skipped (take plan.wanted rs)) one (All-drop P plan.skipped (take plan.wanted rs) (All-take P plan.wanted rs each))

-- ---- records that keep their lengths

-- each is no longer than the longest
all_low : (most : ℕ) (rs : List (List ℕ)) → longest rs ≤ most → All (λ text. length text ≤ most) rs
unfolding longest
all_low most [] low = All-nil (λ text. length text ≤ most)
all_low most (r ∷ rs) low = All-cons (λ text. length text ≤ most) r rs (omega arith) (all_low most rs (omega arith))

abbrev AreAsLong : (List ℕ → List ℕ) → List (List ℕ) → Type 0
AreAsLong f rs = All (λ text. length (f text) ≡ length text) rs

kept_stored : (f : List ℕ → List ℕ) (rs : List (List ℕ)) → AreAsLong f rs → length (stored V (map f rs)) ≡ length (stored V rs)
kept_stored f [] each = refl
kept_stored f (r ∷ rs) each =
    let here : length (f r) ≡ length r = All-head (λ text. length (f text) ≡ length text) r rs each in
    let rest = kept_stored f rs (All-tail (λ text. length (f text) ≡ length text) r rs each) in
    length-append (with_length (f r)) (stored V (map f rs))
    ∙ (ap (λ (k : ℕ). k + length (stored V (map f rs))) (length-with_length (f r) ∙ (ap (λ (k : ℕ). 2 + k) here ∙ sym (length-with_length r)))
    ∙ (ap (λ (k : ℕ). length (with_length r) + k) rest ∙ sym (length-append (with_length r) (stored V rs))))

kept_longest : (f : List ℕ → List ℕ) (rs : List (List ℕ)) → AreAsLong f rs → longest (map f rs) ≡ longest rs
unfolding longest
kept_longest f [] each = refl
kept_longest f (r ∷ rs) each =
    let here : length (f r) ≡ length r = All-head (λ text. length (f text) ≡ length text) r rs each in
    let rest = kept_longest f rs (All-tail (λ text. length (f text) ≡ length text) r rs each) in
    ap (λ (k : ℕ). max k (longest (map f rs))) here ∙ ap (λ (k : ℕ). max (length r) k) rest

pub kept_measure : (f : List ℕ → List ℕ) (most : ℕ) (rs : List (List ℕ)) → ((text : List ℕ) → length text ≤ most → length (f text) ≡ length text) → longest rs ≤ most
    → measured V rs ≡ measured V (map f rs)
kept_measure f most rs keeps low =
    let each : AreAsLong f rs = All-weaker (λ text. length text ≤ most) (λ text. length (f text) ≡ length text) keeps rs (all_low most rs low) in
    let count = length-map rs f in
    let bytes = kept_stored f rs each in
    let long = kept_longest f rs each in
    rw (count, bytes, long) refl

-- a file's records fill few bytes, however long each gets
pub few_bytes : (count size head bytes : ℕ) → count ≤ most_records → size < 2 ^ 32 → head ≤ 2 → bytes ≡ count * (head + size) → bytes < 2 ^ 63
few_bytes count size head bytes few short low is =
    let most = mul-le count (head + size) 1048576 4294967298 few (omega (arith, short, low)) in
    omega (arith, most, is)

-- ---- each is a record

pub fit_varying : (format : Format) (size : ℕ) (rs : List (List ℕ)) → 1 ≤ size → size ≤ longest_record → All (Fits format size) rs → All (Fits V longest_record) rs
fit_varying F size rs some short each = All-weaker (Fits F size) (Fits V longest_record) (λ text is. (omega arith, omega arith)) rs each
fit_varying V size rs some short each = each

-- ---- the file that is copied

-- the copies have one length
pub equal_told : (s : Machine) (c : FileCopy) (plan : CopyPlan) (n count : ℕ) (m : Measure) (x : UnitFile)
    → ((text : List ℕ) → Fits c.input.format c.input.length text → length (copied plan.style text) ≡ n)
    → ((records : List (List ℕ)) → c.input.count ≡ length records → count ≡ length (copies_in plan records))
    → ((records : List (List ℕ)) → All (Fits F n) records → length records ≡ count → m ≡ measured plan.format records) → IsFoundAs s c x
    → m ≡ measured plan.format (copies_in plan x.file.records)
equal_told s c plan n count m x one many measures found =
    let rs = x.file.records in
    let each : All (Fits c.input.format c.input.length) rs =
    subst (λ (k : Format). All (Fits k c.input.length) rs) (sym found.info.format) (subst (λ (k : ℕ). All (Fits x.file.format k) rs) (sym found.info.size) found.stands.each) in
    measures (copies_in plan rs) (told_copies plan n (Fits c.input.format c.input.length) rs one each) (sym (many rs found.info.count))

-- the copies are as long as its records
pub whole_told : (s : Machine) (c : FileCopy) (plan : CopyPlan) (bytes : ℕ) (x : UnitFile) → (c.input.format ≡ V) × (plan.format ≡ V)
    → ((records : List (List ℕ)) → c.input.count ≡ length records → copies_in plan records ≡ map (copied plan.style) records)
    → ((text : List ℕ) → length text ≤ c.input.length → length (copied plan.style text) ≡ length text) → HasStored bytes (file_at s c.found) → IsFoundAs s c x
    → record { count = c.input.count; bytes = bytes; longest = c.input.length } ≡ measured plan.format (copies_in plan x.file.records)
whole_told s c plan bytes x formats all keeps has found =
    let f = x.file in
    let rs = f.records in
    let format : f.format ≡ V = sym found.info.format ∙ formats.0 in
    let held : bytes ≡ length (stored f.format rs) = subst (HasStored bytes) found.found has in
    let bytes_are : bytes ≡ length (stored V rs) = held ∙ ap (λ (k : Format). length (stored k rs)) format in
    let long : c.input.length ≡ longest rs = found.info.size ∙ (found.stands.long ∙ ap (λ (k : Format). length_of k f.length rs) format) in
    let count = found.info.count in
    let told : record { count = c.input.count; bytes = bytes; longest = c.input.length } ≡ measured V rs = rw (count, bytes_are, long) refl in
    told
    ∙ (kept_measure (copied plan.style) c.input.length rs keeps (omega arith)
    ∙ (ap (measured V) (sym (all rs count)) ∙ ap (λ (k : Format). measured k (copies_in plan rs)) (sym formats.1)))

-- each of its records is one
pub each_told : (s : Machine) (c : FileCopy) (x : UnitFile) → 1 ≤ c.input.length → c.input.length ≤ longest_record → IsFoundAs s c x → All (Fits V longest_record) x.file.records
each_told s c x some short found =
    let size = found.info.size in
    fit_varying x.file.format x.file.length x.file.records (omega arith) (omega arith) found.stands.each

-- ---- what holds of an answer

pub if_some : {A : Type 0} (r : Option A) (P : Type 0) → P → IfSome r (λ x. P)
if_some None P is = tt
if_some (Some x) P is = is

pub on_ok_maps : {A E : Type 0} (r : Result A E) (P Q : Type 0) → (P → Q) → OnOk r P → OnOk r Q
on_ok_maps (Ok x) P Q go is = go is
on_ok_maps (Err e) P Q go is = tt
