-- Bytes of a host file that are read, and the records that come.
use Rattle.std.proofs.Common.{◌≡◌, ◌∙◌, ℕ, ◌+◌, ◌≤◌, true, false, List, [], ◌∷◌, ◌++◌, length, drop, get_or, Option, None, Some, Result, Ok, Err, refl, ap, sym, subst, arith, append_assoc, append-nil, add-one, drop-cons, ◌<◌}
use Rattle.std.proofs.lemmas.List.Elements.{All-nil, All-push, All-append}
use Rattle.cms_fields.specs.Limits.{longest_record, most_records}
use Rattle.cms_fields.specs.Steps.{◌>>=◌}
use Rattle.cms_model.specs.Records.{Fits}
use Rattle.cms_copyfile.specs.Measures.{measured}
use Rattle.cms_copyfile.specs.declared.measure.Measure.{Measure}
use Rattle.mini_forms.specs.Readers.{IsLength}
use Rattle.mini_forms.specs.RecordReads.{Reader, Skips, ended, fed, read_from, size_in, whole_in}
use Rattle.mini_forms.specs.declared.form.FormFault.{FormFault}
use Rattle.mini_forms.proofs.Sizes.{ended_next, fed_next}
use Rattle.mini_work.specs.HostRecords.{AreSized, IsCounted, MeasuresLast, MeasuresTo, Reads}
use Rattle.mini_work.specs.Layouts.{size_or, sized}

-- ---- what reading on gives

-- what comes behind records
abbrev pub behind : List (List ℕ) → Result (List (List ℕ)) FormFault → Result (List (List ℕ)) FormFault
behind came r = r >>= λ more. Ok (came ++ more)

behind_none : (r : Result (List (List ℕ)) FormFault) → r ≡ behind [] r
behind_none (Ok x) = refl
behind_none (Err e) = refl

behind_both : (a b : List (List ℕ)) (r : Result (List (List ℕ)) FormFault) → behind a (behind b r) ≡ behind (a ++ b) r
behind_both a b (Ok x) = ap (λ (l : List (List ℕ)). Ok l) (sym (append_assoc a b x))
behind_both a b (Err e) = refl

pub reads_none : (s : Reader) (bytes : List ℕ) → Reads s bytes s bytes []
reads_none s bytes = behind_none (read_from s bytes)

pub reads_then : (s t u : Reader) (xs ys zs : List ℕ) (came more : List (List ℕ)) → Reads s xs t ys came → Reads t ys u zs more
    → Reads s xs u zs (came ++ more)
reads_then s t u xs ys zs came more p q = p ∙ ap (behind came) q ∙ behind_both came more (read_from u zs)

abbrev go : List ℕ → Reader → Result (List (List ℕ)) FormFault
go rest next = read_from next rest >>= λ more. Ok (whole_in next ++ more)

next_byte : (s : Reader) (b : ℕ) (rest : List ℕ) → read_from s (b ∷ rest) ≡ (fed s b >>= go rest)
unfolding read_from
next_byte s b rest = refl

-- with one byte
pub reads_one : (s t : Reader) (b : ℕ) (rest : List ℕ) → fed s b ≡ Ok t → Reads s (b ∷ rest) t rest (whole_in t)
reads_one s t b rest is = next_byte s b rest ∙ ap (λ (r : Result Reader FormFault). r >>= go rest) is

pub reads_fault : (s : Reader) (b : ℕ) (rest : List ℕ) (why : FormFault) → fed s b ≡ Err why → read_from s (b ∷ rest) ≡ Err why
reads_fault s b rest why is = next_byte s b rest ∙ ap (λ (r : Result Reader FormFault). r >>= go rest) is

no_byte : (s : Reader) → read_from s [] ≡ (ended s >>= λ last. Ok (whole_in last))
unfolding read_from
no_byte s = refl

-- at the end
pub reads_end : (s t : Reader) → ended s ≡ Ok t → read_from s [] ≡ Ok (whole_in t)
reads_end s t is = no_byte s ∙ ap (λ (r : Result Reader FormFault). r >>= λ last. Ok (whole_in last)) is

pub end_fault : (s : Reader) (why : FormFault) → ended s ≡ Err why → read_from s [] ≡ Err why
end_fault s why is = no_byte s ∙ ap (λ (r : Result Reader FormFault). r >>= λ last. Ok (whole_in last)) is

-- a fault behind records is a fault of the whole
pub fault_behind : (s t : Reader) (xs ys : List ℕ) (came : List (List ℕ)) (why : FormFault) → Reads s xs t ys came → read_from t ys ≡ Err why
    → read_from s xs ≡ Err why
fault_behind s t xs ys came why p is = p ∙ ap (behind came) is

-- and records behind others are those of the whole
pub records_behind : (s t : Reader) (xs ys : List ℕ) (came more : List (List ℕ)) → Reads s xs t ys came → read_from t ys ≡ Ok more
    → read_from s xs ≡ Ok (came ++ more)
records_behind s t xs ys came more p is = p ∙ ap (behind came) is

pub whole_here : (t : Reader) → t.whole ≡ true → whole_in t ≡ t.bytes ∷ []
whole_here t is = rw is refl

pub none_here : (t : Reader) → t.whole ≡ false → whole_in t ≡ []
none_here t is = rw is refl

-- ---- records that are measured

-- a record with a length that is allowed
pub text_fits : (size : Option ℕ) (text : List ℕ) → IsLength size (length text) → length text ≤ longest_record → Fits (sized size) (size_or size) text
text_fits None text long short = (long, short)
text_fits (Some n) text long short = long

-- no record was whole
pub measures_still : (s t : Reader) (m : Measure) (b : ℕ) → IsCounted s m → fed s b ≡ Ok t → t.whole ≡ false → MeasuresTo s t m m (b ∷ []) []
measures_still s t m b counted is fresh =
    let next = fed_next s t b is in
    let same = next.still fresh in
    record {
      came = [];
      measure = λ done e. e ∙ ap (λ (l : List (List ℕ)). measured (sized (size_in s.place)) l) (sym (append-nil done));
      each = All-nil (Fits (sized (size_in s.place)) (size_or (size_in s.place)));
      reads = λ rest. subst (λ (l : List (List ℕ)). Reads s (b ∷ rest) t rest l) (none_here t fresh) (reads_one s t b rest is);
      counted = record { count = counted.count ∙ sym same.0; few = subst (λ (n : ℕ). n ≤ most_records) (sym same.0) counted.few; bytes = counted.bytes };
      size = next.size;
    }

-- what a measure says with one record more
pub record Adds (m n : Measure) (text : List ℕ) (size : Option ℕ) : Type 0 where
  pub measure : (records : List (List ℕ)) → m ≡ measured (sized size) records → n ≡ measured (sized size) (records ++ text ∷ [])
  pub one : n.count ≡ m.count + 1
  pub few : n.bytes ≤ m.bytes + 2 + length text

pub counted_more : (s t : Reader) (m n : Measure) (text : List ℕ) (size : Option ℕ) → IsCounted s m → Adds m n text size → length text ≤ longest_record
    → t.count ≡ s.count + 1 → t.count ≤ most_records → IsCounted t n
counted_more s t m n text size counted adds short more few =
    let a = counted.count in
    let b = counted.bytes in
    let one = adds.one in
    let bytes = adds.few in
    record { count = omega arith; few = few; bytes = omega arith }

pub measures_more : (s t : Reader) (m n : Measure) (b : ℕ) (text : List ℕ) → IsCounted s m → fed s b ≡ Ok t → t.whole ≡ true → text ≡ t.bytes
    → IsLength (size_in t.place) (length text) → length text ≤ longest_record → Adds m n text (size_in s.place) → MeasuresTo s t m n (b ∷ []) []
measures_more s t m n b text counted is whole same long short adds =
    let next = fed_next s t b is in
    let more = next.more whole in
    record {
      came = text ∷ [];
      measure = adds.measure;
      each = All-push (Fits (sized (size_in s.place)) (size_or (size_in s.place))) [] text
          (All-nil (Fits (sized (size_in s.place)) (size_or (size_in s.place))))
          (text_fits (size_in s.place) text (subst (λ (z : Option ℕ). IsLength z (length text)) next.size long) short);
      reads = λ rest. subst (λ (l : List (List ℕ)). Reads s (b ∷ rest) t rest l) (whole_here t whole ∙ ap (λ (x : List ℕ). x ∷ []) (sym same)) (reads_one s t b rest is);
      counted = counted_more s t m n text (size_in s.place) counted adds short more.0 more.1;
      size = next.size;
    }

pub measures_none : (s : Reader) (m : Measure) (bytes : List ℕ) → IsCounted s m → MeasuresTo s s m m bytes bytes
measures_none s m bytes counted = record {
  came = [];
  measure = λ done e. e ∙ ap (λ (l : List (List ℕ)). measured (sized (size_in s.place)) l) (sym (append-nil done));
  each = All-nil (Fits (sized (size_in s.place)) (size_or (size_in s.place)));
  reads = λ rest. reads_none s (bytes ++ rest);
  counted = counted;
  size = refl;
}

-- one byte of those that are left
pub measures_next : (s t u : Reader) (m n o : Measure) (bytes left more : List ℕ) (b : ℕ) → MeasuresTo s t m n bytes left → left ≡ b ∷ more
    → MeasuresTo t u n o (b ∷ []) [] → MeasuresTo s u m o bytes more
measures_next s t u m n o bytes left more b p is q = record {
  came = p.came ++ q.came;
  measure = λ done e.
      subst (λ (l : List (List ℕ)). o ≡ measured (sized (size_in s.place)) l) (append_assoc done p.came q.came)
      (subst (λ (z : Option ℕ). n ≡ measured (sized z) (done ++ p.came) → o ≡ measured (sized z) ((done ++ p.came) ++ q.came)) p.size
      (q.measure (done ++ p.came)) (p.measure done e));
  each = All-append (Fits (sized (size_in s.place)) (size_or (size_in s.place))) p.came q.came p.each (subst (λ (z : Option ℕ). AreSized z q.came) p.size q.each);
  reads = λ rest. reads_then s t u (bytes ++ rest) (b ∷ (more ++ rest)) (more ++ rest) p.came q.came
      (subst (λ (l : List ℕ). Reads s (bytes ++ rest) t (l ++ rest) p.came) is (p.reads rest)) (q.reads (more ++ rest));
  counted = q.counted;
  size = q.size ∙ p.size;
}

-- bytes that only go on with the record that is begun
pub counted_same : (s t : Reader) (m : Measure) → t.count ≡ s.count → IsCounted s m → IsCounted t m
counted_same s t m same p = record { count = p.count ∙ sym same; few = subst (λ (n : ℕ). n ≤ most_records) (sym same) p.few; bytes = p.bytes }

pub measures_skip : (s t u : Reader) (m n : Measure) (bytes : List ℕ) (from to : ℕ) → MeasuresTo s t m n bytes (drop from bytes)
    → Skips t u bytes from to → MeasuresTo s u m n bytes (drop to bytes)
measures_skip s t u m n bytes from to p q = record {
  came = p.came;
  measure = p.measure;
  each = p.each;
  reads = λ rest. p.reads rest ∙ ap (behind p.came) (q.reads rest);
  counted = counted_same t u n q.count p.counted;
  size = q.size ∙ p.size;
}

-- ---- the last record

pub last_still : (s t : Reader) (m : Measure) → IsCounted s m → ended s ≡ Ok t → t.whole ≡ false → MeasuresLast s m m
last_still s t m counted is fresh =
    let next = ended_next s t is in
    let same = next.0.still fresh in
    let a = same.0 in
    let some = next.1 in
    let count = counted.count in
    record {
      last = [];
      measure = λ done e. e ∙ ap (λ (l : List (List ℕ)). measured (sized (size_in s.place)) l) (sym (append-nil done));
      each = All-nil (Fits (sized (size_in s.place)) (size_or (size_in s.place)));
      reads = reads_end s t is ∙ ap (λ (l : List (List ℕ)). Ok l) (none_here t fresh);
      some = omega arith;
    }

pub last_more : (s t : Reader) (m n : Measure) (text : List ℕ) → ended s ≡ Ok t → t.whole ≡ true → text ≡ t.bytes
    → IsLength (size_in t.place) (length text) → length text ≤ longest_record → Adds m n text (size_in s.place) → MeasuresLast s m n
last_more s t m n text is whole same long short adds =
    let next = ended_next s t is in
    let one = adds.one in
    record {
      last = text ∷ [];
      measure = adds.measure;
      each = All-push (Fits (sized (size_in s.place)) (size_or (size_in s.place))) [] text
          (All-nil (Fits (sized (size_in s.place)) (size_or (size_in s.place))))
          (text_fits (size_in s.place) text (subst (λ (z : Option ℕ). IsLength z (length text)) next.0.size long) short);
      reads = reads_end s t is ∙ ap (λ (l : List (List ℕ)). Ok l) (whole_here t whole ∙ ap (λ (x : List ℕ). x ∷ []) (sym same));
      some = omega arith;
    }

-- ---- bytes one after another

pub drop_next : (xs : List ℕ) (i : ℕ) → i < length xs → drop i xs ≡ get_or xs i 0 ∷ drop (i + 1) xs
drop_next xs i here = rw (add-one, drop-cons xs i 0)
