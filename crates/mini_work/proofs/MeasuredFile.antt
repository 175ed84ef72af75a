-- The records of a host file that are measured while it is read.
use Rattle.std.proofs.Common.{◌≡◌, ◌∙◌, ℕ, ◌*◌, ◌≤◌, List, [], ◌∷◌, ◌++◌, length, take, drop, Option, None, Some, Err, refl, ap, sym, subst, true, arith}
use Rattle.std.proofs.Math.Nat.{mul_comm}
use Rattle.std.specs.Prelude.{All}
use Rattle.std.proofs.lemmas.List.{take-append-drop, length-append}
use Rattle.std.proofs.lemmas.List.Elements.{All-append, All-head, All-nil, All-tail}
use Rattle.cms_fields.specs.Limits.{longest_record}
use Rattle.cms_fields.specs.Stamps.{is_stamp}
use Rattle.cms_names.specs.declared.name.Format.{Format}
use Rattle.cms_names.specs.declared.name.Format.TheVariants.{F, V}
use Rattle.cms_model.specs.Records.{Fits, length_of, longest, stored, with_length}
use Rattle.cms_model.proofs.Records.{length-with_length, length_stored_fixed}
use Rattle.cms_fields.specs.declared.time.Stamp.{Stamp}
use Rattle.cms_held.specs.Kept.{IsSized}
use Rattle.cms_edf.specs.FileDrafts.{CanDraft}
use Rattle.cms_held.specs.FileWriters.{HaveShape}
use Rattle.cms_held.specs.declared.shape.DraftShape.{DraftShape}
use Rattle.cms_copyfile.specs.Measures.{measured}
use Rattle.cms_copyfile.specs.declared.measure.Measure.{Measure}
use Rattle.mini_forms.specs.Readers.{IsSize}
use Rattle.mini_forms.specs.RecordReads.{Reader, read_from, size_in, start_of, unread}
use Rattle.mini_forms.specs.declared.form.FormFault.{FormFault}
use Rattle.mini_forms.specs.declared.form.Layout.{Layout}
use Rattle.mini_forms.specs.declared.form.Layout.TheVariants.{Binary, Records, Text}
use Rattle.mini_host.specs.Files.{Files}
use Rattle.mini_work.specs.Drafts.{IsShapeOf}
use Rattle.mini_work.specs.HostRecords.{AreSized, IsCounted, IsMeasured, IsNoFile, IsReadOn, MeasuresLast, MeasuresTo, Reads, with_left}
use Rattle.mini_work.specs.Layouts.{format_of, size_of, size_or, sized}
use Rattle.mini_work.proofs.Fed.{fault_behind, reads_none, reads_then, records_behind}

-- ---- what a layout says

pub format_is : (layout : Layout) → format_of layout ≡ sized (size_in (start_of layout))
format_is (Text size) = refl
format_is (Binary size) = refl
format_is (Records size) = refl

pub size_is : (layout : Layout) → size_of layout ≡ size_or (size_in (start_of layout))
size_is (Text size) = refl
size_is (Binary size) = refl
size_is (Records size) = refl

-- ---- as far as the file was read

-- the records that came were measured, and where the host tells its files, the open one is read as far
pub record MeasuredTo (told now : Option Files) (layout : Layout) (s : Reader) (m : Measure) : Type 0 where
  pub came : List (List ℕ)
  pub measure : m ≡ measured (sized (size_in (start_of layout))) came
  pub each : AreSized (size_in (start_of layout)) came
  pub counted : IsCounted s m
  pub size : size_in s.place ≡ size_in (start_of layout)
  pub reads : (h : Files) (bytes : List ℕ) → told ≡ Some h → h.left ≡ Some bytes
      → (left : List ℕ) × (now ≡ Some (with_left left h)) × Reads (unread layout) bytes s left came

pub left_same : (h : Files) (bytes : List ℕ) → h.left ≡ Some bytes → h ≡ with_left bytes h
left_same h bytes is =
    ap (λ (z : Option (List ℕ)). record { files = h.files; folders = h.folders; left = z; draft = h.draft; notes = h.notes }) is

pub measured_first : (told : Option Files) (layout : Layout) (m : Measure) → m ≡ measured (sized (size_in (start_of layout))) [] → (m.count ≡ 0) × (m.bytes ≡ 0)
    → MeasuredTo told told layout (unread layout) m
measured_first told layout m is none =
    let a = none.0 in
    let b = none.1 in
    record {
      came = [];
      measure = is;
      each = All-nil (Fits (sized (size_in (start_of layout))) (size_or (size_in (start_of layout))));
      counted = record { count = a; few = omega arith; bytes = omega arith };
      size = refl;
      reads = λ h bytes at left. (bytes, at ∙ ap (λ (z : Files). Some z) (left_same h bytes left), reads_none (unread layout) bytes);
    }

-- what the host reads
abbrev pub ReadsMore : Option Files → Option Files → ℕ → List ℕ → Type 0
ReadsMore mid new n into = (h : Files) (left : List ℕ) → mid ≡ Some h → h.left ≡ Some left → IsReadOn n left into h new

-- the bytes that were read stand before those that are left
pub split_at : (n : ℕ) (left into text : List ℕ) → take n into ≡ take n left → text ≡ take n into → text ++ drop n left ≡ left
split_at n left into text same is = ap (λ (x : List ℕ). x ++ drop n left) (is ∙ same) ∙ take-append-drop n left

pub measured_more : (told mid new : Option Files) (layout : Layout) (s t : Reader) (m o : Measure) (n : ℕ) (into text : List ℕ)
    → MeasuredTo told mid layout s m → ReadsMore mid new n into → text ≡ take n into → MeasuresTo s t m o text [] → MeasuredTo told new layout t o
measured_more told mid new layout s t m o n into text p more is q = record {
  came = p.came ++ q.came;
  measure = subst (λ (z : Option ℕ). m ≡ measured (sized z) p.came → o ≡ measured (sized z) (p.came ++ q.came)) p.size (q.measure p.came) p.measure;
  each = All-append (Fits (sized (size_in (start_of layout))) (size_or (size_in (start_of layout)))) p.came q.came p.each
      (subst (λ (z : Option ℕ). AreSized z q.came) p.size q.each);
  counted = q.counted;
  size = q.size ∙ p.size;
  reads = λ h bytes at left.
      (let r = p.reads h bytes at left in
      let on = more (with_left r.0 h) r.0 r.1 refl in (
        drop n r.0,
        on.told,
        reads_then (unread layout) s t bytes r.0 (drop n r.0) p.came q.came r.2
            (subst (λ (x : List ℕ). Reads s x t (drop n r.0) q.came) (split_at n r.0 into text on.bytes is) (q.reads (drop n r.0))),
      ));
}

-- a fault is one of the file
pub measured_fault : (told mid new : Option Files) (layout : Layout) (s : Reader) (m : Measure) (n : ℕ) (into text : List ℕ) (why : FormFault)
    → MeasuredTo told mid layout s m → ReadsMore mid new n into → text ≡ take n into → ((rest : List ℕ) → read_from s (text ++ rest) ≡ Err why)
    → IsNoFile told layout why
measured_fault told mid new layout s m n into text why p more is fault = λ h bytes at left.
    let r = p.reads h bytes at left in
    let on = more (with_left r.0 h) r.0 r.1 refl in
    fault_behind (unread layout) s bytes r.0 p.came why r.2
    (subst (λ (x : List ℕ). read_from s x ≡ Err why) (split_at n r.0 into text on.bytes is) (fault (drop n r.0)))

-- ---- at its end

-- nothing is left
none_left : (told mid new : Option Files) (layout : Layout) (s : Reader) (m : Measure) (n : ℕ) (into : List ℕ) (p : MeasuredTo told mid layout s m)
    → ReadsMore mid new n into → n ≡ 0 → (h : Files) (bytes : List ℕ) → told ≡ Some h → h.left ≡ Some bytes → Reads (unread layout) bytes s [] p.came
none_left told mid new layout s m n into p more is h bytes at left =
    let r = p.reads h bytes at left in
    let on = more (with_left r.0 h) r.0 r.1 refl in
    subst (λ (x : List ℕ). Reads (unread layout) bytes s x p.came) (on.ended is) r.2

some_of : (m : Measure) (format : Format) (records : List (List ℕ)) → m ≡ measured format records → 1 ≤ m.count → 1 ≤ length records
some_of m format records is some = subst (λ (n : ℕ). 1 ≤ n) (ap (λ (x : Measure). x.count) is) some

pub measured_all : (told mid new : Option Files) (layout : Layout) (s : Reader) (m o : Measure) (n : ℕ) (into : List ℕ) → MeasuredTo told mid layout s m
    → ReadsMore mid new n into → n ≡ 0 → MeasuresLast s m o → IsMeasured told layout o
measured_all told mid new layout s m o n into p more is q =
    let measure = subst (λ (z : Option ℕ). m ≡ measured (sized z) p.came → o ≡ measured (sized z) (p.came ++ q.last)) p.size (q.measure p.came) p.measure in
    let each = All-append (Fits (sized (size_in (start_of layout))) (size_or (size_in (start_of layout)))) p.came q.last p.each
    (subst (λ (z : Option ℕ). AreSized z q.last) p.size q.each) in
    let same = subst (λ (f : Format). o ≡ measured f (p.came ++ q.last)) (sym (format_is layout)) measure in
    record {
      records = p.came ++ q.last;
      measure = same;
      each = subst (λ (f : Format). All (Fits f (size_of layout)) (p.came ++ q.last)) (sym (format_is layout))
          (subst (λ (z : ℕ). All (Fits (sized (size_in (start_of layout))) z) (p.came ++ q.last)) (sym (size_is layout)) each);
      some = some_of o (format_of layout) (p.came ++ q.last) same q.some;
      are = λ h bytes at left.
          records_behind (unread layout) s bytes [] p.came q.last (none_left told mid new layout s m n into p more is h bytes at left) q.reads;
    }

pub ended_fault : (told mid new : Option Files) (layout : Layout) (s : Reader) (m : Measure) (n : ℕ) (into : List ℕ) (why : FormFault)
    → MeasuredTo told mid layout s m → ReadsMore mid new n into → n ≡ 0 → read_from s [] ≡ Err why → IsNoFile told layout why
ended_fault told mid new layout s m n into why p more is fault = λ h bytes at left.
    fault_behind (unread layout) s bytes [] p.came why (none_left told mid new layout s m n into p more is h bytes at left) fault

-- ---- a file may have such a shape

-- each record at V fills three bytes at least
stored_three : (records : List (List ℕ)) (size : ℕ) → All (Fits V size) records → 3 * length records ≤ length (stored V records)
stored_three [] size all = omega arith
stored_three (text ∷ more) size all =
    let rest = stored_three more size (All-tail (Fits V size) text more all) in
    let long = length-append (with_length text) (stored V more) in
    let head = length-with_length text in
    let some = (All-head (Fits V size) text more all).0 in
    omega arith

longest_least : (records : List (List ℕ)) (size : ℕ) → All (Fits V size) records → 1 ≤ length records → 1 ≤ longest records
unfolding longest
longest_least [] size all some = omega arith
longest_least (text ∷ more) size all some = let here = (All-head (Fits V size) text more all).0 in omega arith

longest_most : (records : List (List ℕ)) (size : ℕ) → All (Fits V size) records → longest records ≤ longest_record
unfolding longest
longest_most [] size all = omega arith
longest_most (text ∷ more) size all =
    let here = (All-head (Fits V size) text more all).1 in
    let rest = longest_most more size (All-tail (Fits V size) text more all) in
    omega arith

-- the length of records, and how many bytes they fill
record HasLengths (format : Format) (size : ℕ) (records : List (List ℕ)) : Type 0 where
  low : 1 ≤ length_of format size records
  high : length_of format size records ≤ longest_record
  sized : IsSized format (length_of format size records) (length records) (length (stored format records))

lengths : (size : Option ℕ) (records : List (List ℕ)) → IsSize size → AreSized size records → 1 ≤ length records
    → HasLengths (sized size) (size_or size) records
lengths None records fits each some = record {
  low = longest_least records 0 each some;
  high = longest_most records 0 each;
  sized = stored_three records 0 each;
}
lengths (Some n) records fits each some =
    let is = length_stored_fixed n records each in
    record { low = fits.0; high = fits.1; sized = is ∙ mul_comm (length records) n }

-- what is asked for where it is drafted
pub can_draft : (layout : Layout) (records : List (List ℕ)) (stamp : Stamp) (shape : DraftShape) → IsSize (size_in (start_of layout))
    → All (Fits (format_of layout) (size_of layout)) records → 1 ≤ length records → shape.number ≤ 6 → is_stamp stamp ≡ true
    → IsShapeOf layout records stamp shape → CanDraft shape
can_draft layout records stamp shape size each some few valid is =
    let format = format_is layout in
    let long = size_is layout in
    let all = subst (λ (f : Format). All (Fits f (size_or (size_in (start_of layout)))) records) format
    (subst (λ (z : ℕ). All (Fits (format_of layout) z) records) long each) in
    let has = subst (λ (z : ℕ). HasLengths (format_of layout) z records) (sym long)
    (subst (λ (f : Format). HasLengths f (size_or (size_in (start_of layout))) records) (sym format)
    (lengths (size_in (start_of layout)) records size all some)) in
    let low = has.low in
    let high = has.high in
    let same = is.long in
    let count = is.counts.count in
    record {
      number = few;
      stamp = ap is_stamp is.stamped ∙ valid;
      some = omega arith;
      low = omega arith;
      high = omega arith;
      sized = subst (λ (b : ℕ). IsSized shape.format shape.length shape.count b) is.counts.bytes
          (subst (λ (c : ℕ). IsSized shape.format shape.length c (length (stored shape.format records))) count
          (subst (λ (n : ℕ). IsSized shape.format n (length records) (length (stored shape.format records))) (sym same)
          (subst (λ (f : Format). IsSized f (length_of (format_of layout) (size_of layout) records) (length records) (length (stored f records)))
          (sym is.format) has.sized)));
    }

-- and so the records are those of such a shape
pub has_shape : (layout : Layout) (records : List (List ℕ)) (stamp : Stamp) (shape : DraftShape) → All (Fits (format_of layout) (size_of layout)) records
    → IsShapeOf layout records stamp shape → HaveShape shape records
has_shape layout records stamp shape each is = record {
  count = is.counts.count;
  bytes = is.counts.bytes;
  each = subst (λ (f : Format). All (Fits f shape.length) records) (sym is.format)
      (subst (λ (n : ℕ). All (Fits (format_of layout) n) records) (sym is.long) (fits_long (format_of layout) (size_of layout) records each));
}
  where
    fits_long : (format : Format) (size : ℕ) (rs : List (List ℕ)) → All (Fits format size) rs → All (Fits format (length_of format size rs)) rs
    fits_long F size rs all = all
    fits_long V size rs all = all

pub long_same : (layout : Layout) (records : List (List ℕ)) (stamp : Stamp) (shape : DraftShape) → IsShapeOf layout records stamp shape
    → length_of shape.format shape.length records ≡ shape.length
long_same layout records stamp shape is =
    ap (λ (f : Format). length_of f shape.length records) is.format
    ∙ (ap (λ (n : ℕ). length_of (format_of layout) n records) is.long ∙ (twice (format_of layout) (size_of layout) records ∙ sym is.long))
  where
    twice : (format : Format) (size : ℕ) (rs : List (List ℕ)) → length_of format (length_of format size rs) rs ≡ length_of format size rs
    twice F size rs = refl
    twice V size rs = refl
