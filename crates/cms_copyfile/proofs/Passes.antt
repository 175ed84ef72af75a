-- The first pass over a file, record by record.
use Rattle.std.proofs.Common.{◌≡◌, ℕ, ◌+◌, ◌<◌, ◌≤◌, Bool, true, false, List, [], ◌∷◌, ◌++◌, drop, length, map, take, Ok, Err, refl, sym, ◌∙◌, ap, subst, arith, append_assoc, append-nil}
use Rattle.std.proofs.Math.Seq.{take-append_seam}
use Rattle.std.proofs.lemmas.List.{drop-append-le, drop_all, length_push, take_all}
use Rattle.std.specs.Prelude.{All}
use Rattle.std.proofs.lemmas.List.Elements.{All-nil, All-push}
use Rattle.cms_journal.specs.Journal.{contents_of}
use Rattle.cms_journal.specs.Told.{Told}
use Rattle.cms_fields.specs.Limits.{longest_record}
use Rattle.cms_names.specs.declared.name.Format.TheVariants.{V}
use Rattle.cms_model.specs.Records.{Fits}
use Rattle.cms_model.specs.Trees.{image_of}
use Rattle.cms_edf.specs.OpeningSteps.{OfImage}
use Rattle.cms_disk.specs.Cursors.{HandsOut, HasLeft, Cursor, text_of}
use Rattle.cms_disk.specs.declared.fault.DiskFault.{DiskFault}
use Rattle.cms_disk.specs.declared.fault.DiskFault.TheVariants.{Altered}
use Rattle.cms_copyfile.specs.Measures.{measured}
use Rattle.cms_copyfile.specs.Outputs.{copies_in}
use Rattle.cms_copyfile.specs.Records.{copied, longest_fit}
use Rattle.cms_copyfile.specs.declared.measure.Measure.{Measure}
use Rattle.cms_copyfile.specs.declared.output.CopyPlan.{CopyPlan}
use Rattle.cms_copyfile.specs.declared.record.Fit.{Fit}
use Rattle.cms_copyfile.specs.declared.record.Fit.TheVariants.{AtMost, Exactly, Whole}

-- ---- one record more

-- it is copied, or it is one of those in front
pub drop_last : (n : ℕ) (front : List (List ℕ)) (text : List ℕ) → n ≤ length front → drop n (front ++ (text ∷ [])) ≡ drop n front ++ (text ∷ [])
drop_last n front text low = drop-append-le n front (text ∷ []) low

pub drop_none : (n : ℕ) (front : List (List ℕ)) (text : List ℕ) → length front < n → drop n (front ++ (text ∷ [])) ≡ drop n front
drop_none n front text high =
    let long = length_push front text in
    drop_all n (front ++ (text ∷ [])) (omega arith) ∙ sym (drop_all n front (omega arith))

-- the room that a shorter record takes
pub fit_below : (fit : Fit) (size most : ℕ) → size ≤ most → longest_fit fit size ≤ longest_fit fit most
fit_below (Exactly n) size most low = omega arith
fit_below (AtMost n) size most low = low
fit_below Whole size most low = low

-- ---- so many records

-- so many of the records that were left at first were read, and their copies are measured
pub record MeasuredTo (told : Told) (plan : CopyPlan) (first c : Cursor) (place : ℕ) (m : Measure) : Type 0 where
  pub front : List (List ℕ)
  pub long : length front ≡ place
  pub each : All (Fits V longest_record) front
  pub measure : m ≡ measured plan.format (map (copied plan.style) (drop plan.skipped front))
  pub left : OfImage told first.unit (λ image. (all : List (List ℕ)) → HasLeft image first all
      → (rest : List (List ℕ)) × (all ≡ front ++ rest) × HasLeft image c rest)

pub measured_first : (told : Told) (plan : CopyPlan) (c : Cursor) (m : Measure) → m ≡ measured plan.format [] → MeasuredTo told plan c c 0 m
measured_first told plan c m is = record {
  front = [];
  long = refl;
  each = All-nil (Fits V longest_record);
  measure = is ∙ ap (λ (l : List (List ℕ)). measured plan.format (map (copied plan.style) l)) (sym (drop_all plan.skipped [] (omega arith)));
  left = λ j at all has. (all, refl, has);
}

-- what the next read hands out
abbrev pub Hands : Told → ℕ → Cursor → Cursor → Bool → Type 0
Hands told unit c next more = OfImage told unit (λ image. (all : List (List ℕ)) → HasLeft image c all → HandsOut image next all (Ok more))

pub measured_next : (told : Told) (plan : CopyPlan) (first c next : Cursor) (place : ℕ) (m m' : Measure) (text : List ℕ) → MeasuredTo told plan first c place m
    → Hands told first.unit c next true → text ≡ text_of next → Fits V longest_record text
    → ((front : List (List ℕ)) → length front ≡ place → m ≡ measured plan.format (map (copied plan.style) (drop plan.skipped front))
    → m' ≡ measured plan.format (map (copied plan.style) (drop plan.skipped (front ++ (text ∷ []))))) → MeasuredTo told plan first next (place + 1) m'
measured_next told plan first c next place m m' text to hands is_text fits adds =
    let push = length_push to.front text in
    let long = to.long in
    record {
      front = to.front ++ (text ∷ []);
      long = omega arith;
      each = All-push (Fits V longest_record) to.front text to.each fits;
      measure = adds to.front to.long to.measure;
      left = λ j at all has.
          (let old = to.left j at all has in
          let new = hands j at old.0 old.2 in
          (new.0, old.1 ∙ (ap (λ (l : List (List ℕ)). to.front ++ l) (new.1 ∙ ap (λ (t : List ℕ). t ∷ new.0) (sym is_text)) ∙ sym (append_assoc to.front (text ∷ []) new.0)), new.2));
    }

abbrev pub IsMeasured : Told → CopyPlan → Cursor → Measure → Type 0
IsMeasured told plan first m = OfImage told first.unit (λ image. (all : List (List ℕ)) → HasLeft image first all → m ≡ measured plan.format (copies_in plan all))

taken : (front rest : List (List ℕ)) (n : ℕ) (all : List (List ℕ)) → all ≡ front ++ rest → length front ≡ n → take n all ≡ front
taken front rest n all split long = ap (λ (k : ℕ). take k all) (sym long) ∙ (ap (take (length front)) split ∙ take-append_seam front rest)

-- all that are wanted were read
pub measured_wanted : (told : Told) (plan : CopyPlan) (first c : Cursor) (place : ℕ) (m : Measure) → MeasuredTo told plan first c place m → place ≡ plan.wanted → IsMeasured told plan first m
measured_wanted told plan first c place m to is j at all has =
    let old = to.left j at all has in
    to.measure ∙ ap (λ (l : List (List ℕ)). measured plan.format (map (copied plan.style) (drop plan.skipped l))) (sym (taken to.front old.0 plan.wanted all old.1 (to.long ∙ is)))

-- each of which is a record
abbrev pub AreRecords : Told → CopyPlan → Cursor → Type 0
AreRecords told plan first = OfImage told first.unit (λ image. (all : List (List ℕ)) → HasLeft image first all → All (Fits V longest_record) (take plan.wanted all))

pub records_wanted : (told : Told) (plan : CopyPlan) (first c : Cursor) (place : ℕ) (m : Measure) → MeasuredTo told plan first c place m → place ≡ plan.wanted → AreRecords told plan first
records_wanted told plan first c place m to is j at all has =
    let old = to.left j at all has in
    subst (All (Fits V longest_record)) (sym (taken to.front old.0 plan.wanted all old.1 (to.long ∙ is))) to.each

-- there is none more
pub measured_all : (told : Told) (plan : CopyPlan) (first c next : Cursor) (place : ℕ) (m : Measure) → MeasuredTo told plan first c place m → place ≤ plan.wanted
    → Hands told first.unit c next false → IsMeasured told plan first m
measured_all told plan first c next place m to low hands j at all has =
    let old = to.left j at all has in
    let none = hands j at old.0 old.2 in
    let whole : all ≡ to.front = old.1 ∙ (ap (λ (l : List (List ℕ)). to.front ++ l) none.0 ∙ append-nil to.front) in
    let long = ap length whole in
    let long' = to.long in
    to.measure ∙ ap (λ (l : List (List ℕ)). measured plan.format (map (copied plan.style) (drop plan.skipped l))) (sym (take_all plan.wanted all (omega arith) ∙ whole))

pub records_all : (told : Told) (plan : CopyPlan) (first c next : Cursor) (place : ℕ) (m : Measure) → MeasuredTo told plan first c place m → place ≤ plan.wanted
    → Hands told first.unit c next false → AreRecords told plan first
records_all told plan first c next place m to low hands j at all has =
    let old = to.left j at all has in
    let none = hands j at old.0 old.2 in
    let whole : all ≡ to.front = old.1 ∙ (ap (λ (l : List (List ℕ)). to.front ++ l) none.0 ∙ append-nil to.front) in
    let long = ap length whole in
    let long' = to.long in
    subst (All (Fits V longest_record)) (sym (take_all plan.wanted all (omega arith) ∙ whole)) to.each

-- records that are left are never found altered
pub never_altered : (told : Told) (plan : CopyPlan) (first c next : Cursor) (place : ℕ) (m : Measure) (e : DiskFault) → MeasuredTo told plan first c place m
    → OfImage told first.unit (λ image. (all : List (List ℕ)) → HasLeft image c all → HandsOut image next all (Err e)) → e ≡ Altered
    → OfImage told first.unit (λ image. (all : List (List ℕ)) → HasLeft image first all → ⊥)
never_altered told plan first c next place m e to hands is j at all has =
    let old = to.left j at all has in
    subst (λ (x : DiskFault). HandsOut (image_of (contents_of j first.unit)) next old.0 (Err x)) is (hands j at old.0 old.2)
