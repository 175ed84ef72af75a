-- Copies are measured as a file of records may be, in every world.
use Rattle.std.proofs.Common.{◌≡◌, ◌∙◌, ℕ, ◌+◌, ◌-◌, ◌*◌, ◌≤◌, ◌<◌, min, Bool, true, false, List, [], ◌∷◌, All, drop, length, map, replicate, take, Option, Some, refl, sym, ap, subst, arith}
use Rattle.std.specs.Prelude.{◌↔◌, None, IfSome, IsTrue}
use Rattle.std.specs.Option.{option_map_or}
use Rattle.std.proofs.lemmas.Bool.{false≢true}
use Rattle.std.proofs.lemmas.List.{length-drop, length-map, length-replicate, length-take, take_all}
use Rattle.std.proofs.lemmas.List.Elements.{All-head, All-replicate, All-tail, All-weaker}
use Rattle.cms_fields.specs.Limits.{longest_record}
use Rattle.cms_journal.specs.Told.{Told}
use Rattle.cms_names.specs.declared.name.Format.{Format}
use Rattle.cms_names.specs.declared.name.Format.TheVariants.{F, V}
use Rattle.cms_model.specs.Records.{Fits, longest, stored}
use Rattle.cms_held.specs.Kept.{IsSized}
use Rattle.cms_operands.specs.Operands.{largest}
use Rattle.cms_disk.specs.Cursors.{Cursor}
use Rattle.cms_disk.specs.Disks.{IsFileInfo}
use Rattle.cms_disk.proofs.FilePut.{sized_at}
use Rattle.cms_copyfile.specs.Lines.{IsCopyStyle}
use Rattle.cms_copyfile.specs.Measures.{IsMeasure, length_by, measured}
use Rattle.cms_copyfile.specs.Outputs.{IsPlan, copies_in, plan_of, record_style, wanted_of}
use Rattle.cms_copyfile.specs.Records.{copied}
use Rattle.cms_copyfile.specs.declared.copy.FileCopy.{FileCopy}
use Rattle.cms_copyfile.specs.declared.line.CopyStyle.{CopyStyle}
use Rattle.cms_copyfile.specs.declared.measure.Measure.{Measure}
use Rattle.cms_copyfile.specs.declared.output.CopyPlan.{CopyPlan}
use Rattle.cms_copyfile.specs.declared.output.FileForm.{FileForm}
use Rattle.cms_copyfile.proofs.CopiesFit.{IsRecord, copies_fit}
use Rattle.cms_copyfile.proofs.Passes.{MeasuredTo}
use Rattle.cms_copyfile.proofs.TablesTold.{wanted_few}
use Rattle.cms_copyfile.proofs.ToldLengths.{told_copies}

-- ---- records that fit

some_longest : (size : ℕ) (rs : List (List ℕ)) → All (Fits V size) rs → 1 ≤ length rs → 1 ≤ longest rs
unfolding longest
some_longest size [] each some = omega arith
some_longest size (r ∷ rs) each some = let here = (All-head (Fits V size) r rs each).0 in omega arith

short_longest : (size : ℕ) (rs : List (List ℕ)) → All (Fits V size) rs → longest rs ≤ longest_record
unfolding longest
short_longest size [] each = omega arith
short_longest size (r ∷ rs) each =
    let here = (All-head (Fits V size) r rs each).1 in
    let rest = short_longest size rs (All-tail (Fits V size) r rs each) in
    omega arith

low_in : (format : Format) (size : ℕ) (rs : List (List ℕ)) → All (Fits format size) rs → 1 ≤ length rs → 1 ≤ size → 1 ≤ length_by format size (longest rs)
low_in F size rs each some low = low
low_in V size rs each some low = some_longest size rs each some

high_in : (format : Format) (size : ℕ) (rs : List (List ℕ)) → All (Fits format size) rs → size ≤ longest_record → length_by format size (longest rs) ≤ longest_record
high_in F size rs each high = high
high_in V size rs each high = short_longest size rs each

sized_in : (format : Format) (size : ℕ) (rs : List (List ℕ)) → All (Fits format size) rs → IsSized format (length_by format size (longest rs)) (length rs) (length (stored format rs))
sized_in F size rs each = sized_at F size (length rs) (length (stored F rs)) rs each refl refl
sized_in V size rs each = sized_at V size (length rs) (length (stored V rs)) rs each refl refl

pub records_sound : (form : FileForm) (m : Measure) (rs : List (List ℕ)) → m ≡ measured form.format rs → All (Fits form.format form.length) rs → 1 ≤ length rs → 1 ≤ form.length
    → form.length ≤ longest_record → IsMeasure form m
records_sound form m rs is each some low high =
    subst (IsMeasure form) (sym is)
    (record {
      some = some;
      low = low_in form.format form.length rs each some low;
      high = high_in form.format form.length rs each high;
      sized = sized_in form.format form.length rs each;
    })

-- ---- the copies of records

first_wanted : (first count : ℕ) (most : Option ℕ) → 1 ≤ first → first ≤ count → IfSome most (λ n. (1 ≤ n) × (n ≤ largest))
    → first ≤ option_map_or (λ (n : ℕ). min (first - 1 + n) count) most count
first_wanted first count None one low is = low
first_wanted first count (Some n) one low is = let some = is.0 in omega (arith, some)

some_left : (f : List ℕ → List ℕ) (skipped wanted : ℕ) (rs : List (List ℕ)) → skipped < wanted → wanted ≤ length rs → 1 ≤ length (map f (drop skipped (take wanted rs)))
some_left f skipped wanted rs less enough =
    let taken = length-take wanted rs in
    let left = length-drop skipped (take wanted rs) in
    let all = length-map (drop skipped (take wanted rs)) f in
    omega (arith, taken, left, all)

some_copies : (style : CopyStyle) (form : FileForm) (count : ℕ) (rs : List (List ℕ)) → IsCopyStyle style → style.first ≤ count → wanted_of style count ≤ length rs
    → 1 ≤ length (copies_in (plan_of style form count) rs)
some_copies style form count rs can low enough =
    let one = can.first in
    let first : style.first ≤ wanted_of style count = first_wanted style.first count style.most one low can.most in
    let less : style.first - 1 < wanted_of style count = omega (arith, one, first) in
    some_left (copied (record_style style form)) (style.first - 1) (wanted_of style count) rs less enough

pub plan_sound : (form : FileForm) (count : ℕ) (plan : CopyPlan) (m : Measure) (rs : List (List ℕ)) → IsPlan form count plan → All IsRecord rs → plan.wanted ≤ length rs
    → m ≡ measured plan.format (copies_in plan rs) → IsMeasure form m
plan_sound form count plan m rs p all enough is =
    let made = plan_of p.style form count in
    let same : m ≡ measured form.format (copies_in made rs) = is ∙ ap (λ (q : CopyPlan). measured q.format (copies_in q rs)) p.plan_is in
    let many : wanted_of p.style count ≤ length rs = subst (λ (q : CopyPlan). q.wanted ≤ length rs) p.plan_is enough in
    records_sound form m (copies_in made rs) same (copies_fit p.style form count rs p.sound all) (some_copies p.style form count rs p.sound p.first many) p.low p.high

plan_few : (form : FileForm) (count : ℕ) (plan : CopyPlan) → IsPlan form count plan → plan.wanted ≤ count
plan_few form count plan p = subst (λ (q : CopyPlan). q.wanted ≤ count) (sym p.plan_is) (wanted_few p.style count)

-- ---- copies that were read

-- all that are wanted were read
pub read_sound : (told : Told) (plan : CopyPlan) (first c : Cursor) (place : ℕ) (m : Measure) (form : FileForm) (count : ℕ) → MeasuredTo told plan first c place m → place ≡ plan.wanted
    → IsPlan form count plan → IsMeasure form m
read_sound told plan first c place m form count to is p =
    let long = to.long in
    let all = take_all plan.wanted to.front (omega (arith, long, is)) in
    let records = All-weaker (Fits V longest_record) IsRecord (λ text fits. record { some = fits.0; short = fits.1 }) to.front to.each in
    plan_sound form count plan m to.front p records (omega (arith, long, is))
    (to.measure ∙ ap (λ (l : List (List ℕ)). measured plan.format (map (copied plan.style) (drop plan.skipped l))) (sym all))

-- before that there is one more to read
pub never_ended : (form : FileForm) (plan : CopyPlan) (first left place : ℕ) (more : Bool) → IsPlan form first plan → left + place ≡ first → place < plan.wanted
    → (IsTrue more ↔ (1 ≤ left)) → more ≡ false → ⊥
never_ended form plan first left place more p is less tells off =
    let few = plan_few form first plan p in
    let some : 1 ≤ left = omega (arith, few) in
    false≢true (sym off ∙ tells.1 some)

-- ---- copies that are told

some_text : (format : Format) (size : ℕ) → 1 ≤ size → size ≤ longest_record → Fits format size (replicate size 0)
some_text F size low high = length-replicate {A = ℕ} size 0
some_text V size low high = let long : length (replicate size 0) ≡ size = length-replicate {A = ℕ} size 0 in (omega (arith, long), omega (arith, long))

-- all have one length, since a file could have such records
pub equal_sound : (form : FileForm) (c : FileCopy) (plan : CopyPlan) (n count : ℕ) (m : Measure) → IsFileInfo c.input
    → ((text : List ℕ) → Fits c.input.format c.input.length text → length (copied plan.style text) ≡ n)
    → ((records : List (List ℕ)) → c.input.count ≡ length records → count ≡ length (copies_in plan records))
    → ((records : List (List ℕ)) → All (Fits F n) records → length records ≡ count → m ≡ measured plan.format records) → IsPlan form c.input.count plan → IsMeasure form m
equal_sound form c plan n count m sound one many measures p =
    let info = c.input in
    let some = sound.some in
    let short = sound.short in
    let text = replicate info.length 0 in
    let records = replicate info.count text in
    let long : length text ≡ info.length = length-replicate info.length 0 in
    let all : length records ≡ info.count = length-replicate info.count text in
    let few = plan_few form info.count plan p in
    let each : All (Fits info.format info.length) records = All-replicate (Fits info.format info.length) info.count text (some_text info.format info.length some short) in
    let are : All IsRecord records = All-replicate IsRecord info.count text (record { some = omega (arith, long, some); short = omega (arith, long, short) }) in
    plan_sound form info.count plan m records p are (omega (arith, all, few))
    (measures (copies_in plan records) (told_copies plan n (Fits info.format info.length) records one each) (sym (many records (sym all))))

-- the copies are as long as a file's records
pub whole_sound : (form : FileForm) (c : FileCopy) (plan : CopyPlan) (bytes : ℕ) → IsFileInfo c.input → (c.input.format ≡ V) × (plan.format ≡ V)
    → IsSized c.input.format c.input.length c.input.count bytes → IsPlan form c.input.count plan → IsMeasure form (record { count = c.input.count; bytes = bytes; longest = c.input.length })
whole_sound form c plan bytes sound formats sized p =
    let format : form.format ≡ V = sym (ap (λ (q : CopyPlan). q.format) p.plan_is) ∙ formats.1 in
    let fill : 3 * c.input.count ≤ bytes = subst (λ (k : Format). IsSized k c.input.length c.input.count bytes) formats.0 sized in
    record {
      some = sound.records;
      low = subst (λ (k : Format). 1 ≤ length_by k form.length c.input.length) (sym format) sound.some;
      high = subst (λ (k : Format). length_by k form.length c.input.length ≤ longest_record) (sym format) sound.short;
      sized = subst (λ (k : Format). IsSized k (length_by k form.length c.input.length) c.input.count bytes) (sym format) fill;
    }
