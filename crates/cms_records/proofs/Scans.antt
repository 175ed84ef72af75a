-- Records of varying lengths, whose bytes come in pieces.
use Rattle.std.proofs.Common.{◌≡◌, ◌⊎◌, ⊎_elim, inl, inr, ℕ, zero, suc, ◌+◌, ◌-◌, ◌*◌, ◌≤◌, ◌<◌, true, false, List, [], ◌∷◌, ◌++◌, length, take, drop, map, slice_index, Option, None, Some, Result, Ok, Err, refl, sym, ◌∙◌, ap, subst, arith, append-nil, append_assoc, length-append}
use Rattle.std.specs.Prelude.{max, nat_le, nat_lt}
use Rattle.std.specs.List.{concat}
use Rattle.std.proofs.lemmas.List.{drop-drop, length-drop, length-take-le, get_or_append_left, get_or-append-add}
use Rattle.std.proofs.lemmas.Bool.{le-leb, lt-leb, lt-ltb, le-ltb, cases_lt}
use Rattle.cms_fields.specs.Steps.{◌>>=◌}
use Rattle.cms_text.specs.Bytes.{half}
use Rattle.cms_model.specs.Records.{varying, longest, with_length}
use Rattle.cms_model.specs.declared.fault.VarFault.{VarFault}
use Rattle.cms_model.specs.declared.fault.VarFault.TheVariants.{Zero, PastEnd, Left}
use Rattle.cms_records.specs.declared.sizes.VarSizes.{VarSizes}
use Rattle.cms_records.specs.Views.{first_size}
use Rattle.cms_records.specs.Scans.{filled_by, sizes_in, sizes_of, with_before, VarScan, Holds, IsSizeAt, EndWithin, IsFed, IsPast, Passes, IsCut}
use Rattle.cms_records.specs.Starts.{begins, last_start, start_in, with_place}
use Rattle.cms_records.proofs.Lengths.{behind, varying_next, first_begins}
use Rattle.cms_records.proofs.Starts.{none_began, more_began, next_began, start_is}

abbrev Records : Type 0
Records = Result (List (List ℕ)) VarFault

-- ---- bytes of pieces that are joined

half_at : (bytes : List ℕ) (place : ℕ) → place + 2 ≤ length bytes → half (drop place bytes) 0 ≡ slice_index bytes place * 256 + slice_index bytes (place + 1)
unfolding half
half_at [] place fits = absurd (omega arith)
half_at (x ∷ []) place fits = absurd (omega arith)
half_at (x ∷ y ∷ rest) zero fits = omega arith
half_at (x ∷ y ∷ rest) (suc p) fits = let next : suc p + 1 ≡ suc (p + 1) = omega arith in rw next (half_at (y ∷ rest) p (omega arith))

left_byte : (before piece : List ℕ) (p : ℕ) → p < length before → slice_index (before ++ piece) p ≡ slice_index before p
left_byte before piece p less = get_or_append_left before piece 0 p less

right_byte : (before piece : List ℕ) (p start d : ℕ) → length before ≡ start → p ≡ start + d → slice_index (before ++ piece) p ≡ slice_index piece d
right_byte before piece p start d long is = let e : p ≡ length before + d = omega arith in rw e (get_or-append-add before piece d 0)

pub half_front : (bytes rest : List ℕ) (place : ℕ) → place + 2 ≤ length bytes → half (drop place (bytes ++ rest)) 0 ≡ half (drop place bytes) 0
half_front bytes rest place fits =
    half_at (bytes ++ rest) place (omega (arith, length-append bytes rest))
    ∙ (ap (λ (n : ℕ). n * 256 + slice_index (bytes ++ rest) (place + 1)) (left_byte bytes rest place (omega arith))
    ∙ (ap (λ (n : ℕ). slice_index bytes place * 256 + n) (left_byte bytes rest (place + 1) (omega arith)) ∙ sym (half_at bytes place fits)))

-- the length of a record, of which the first byte may be the one that is kept
pub length_at : (before piece : List ℕ) (place high start b0 b1 : ℕ) → length before ≡ start → place + 2 ≤ start + length piece → IsPast before place high None
    → (place < start → b0 ≡ high) → ((d : ℕ) → place ≡ start + d → b0 ≡ slice_index piece d) → ((d : ℕ) → place + 1 ≡ start + d → b1 ≡ slice_index piece d)
    → half (drop place (before ++ piece)) 0 ≡ b0 * 256 + b1
length_at before piece place high start b0 b1 long fits (inl past) kept first second =
    let d = place - start in
    let at0 : place ≡ start + d = omega arith in
    let at1 : place + 1 ≡ start + (d + 1) = omega arith in
    let e0 = first d at0 in
    let e1 = second (d + 1) at1 in
    half_at (before ++ piece) place (omega (arith, length-append before piece))
    ∙ (ap (λ (n : ℕ). n * 256 + slice_index (before ++ piece) (place + 1)) (right_byte before piece place start d long at0 ∙ sym e0)
    ∙ ap (λ (n : ℕ). b0 * 256 + n) (right_byte before piece (place + 1) start (d + 1) long at1 ∙ sym e1))
length_at before piece place high start b0 b1 long fits (inr one) kept first second =
    let end = one.0 in
    let at1 : place + 1 ≡ start + 0 = omega arith in
    let e0 = kept (omega arith) in
    let e1 = second 0 at1 in
    half_at (before ++ piece) place (omega (arith, length-append before piece))
    ∙ (ap (λ (n : ℕ). n * 256 + slice_index (before ++ piece) (place + 1)) (left_byte before piece place (omega arith) ∙ (one.1 ∙ sym e0))
    ∙ ap (λ (n : ℕ). b0 * 256 + n) (right_byte before piece (place + 1) start 0 long at1 ∙ sym e1))

-- ---- the first record

pub first_is : (place : ℕ) (bytes : List ℕ) (n : ℕ) → 2 ≤ length bytes → half bytes 0 ≡ n → 1 ≤ n → 2 + n ≤ length bytes → first_size place bytes ≡ Ok n
unfolding first_size
first_is place bytes n two is some fits =
    let a : nat_le 2 (length bytes) ≡ true = le-leb 2 (length bytes) two in
    let b : nat_le 1 n ≡ true = le-leb 1 n some in
    let c : nat_le (2 + n) (length bytes) ≡ true = le-leb (2 + n) (length bytes) fits in
    rw (is, a, b, c) refl

first_zero : (place : ℕ) (bytes : List ℕ) → 2 ≤ length bytes → half bytes 0 ≡ 0 → first_size place bytes ≡ Err (Zero place)
unfolding first_size
first_zero place bytes two is =
    let a : nat_le 2 (length bytes) ≡ true = le-leb 2 (length bytes) two in
    rw (is, a) refl

first_past : (place : ℕ) (bytes : List ℕ) → length bytes < 2 → first_size place bytes ≡ Err (PastEnd place)
unfolding first_size
first_past place bytes few =
    let a : nat_le 2 (length bytes) ≡ false = lt-leb 2 (length bytes) few in
    rw a refl

first_cut : (place : ℕ) (bytes : List ℕ) (n : ℕ) → 2 ≤ length bytes → half bytes 0 ≡ n → 1 ≤ n → length bytes < 2 + n → first_size place bytes ≡ Err (PastEnd place)
unfolding first_size
first_cut place bytes n two is some few =
    let a : nat_le 2 (length bytes) ≡ true = le-leb 2 (length bytes) two in
    let b : nat_le 1 n ≡ true = le-leb 1 n some in
    let c : nat_le (2 + n) (length bytes) ≡ false = lt-leb (2 + n) (length bytes) few in
    rw (is, a, b, c) refl

-- ---- what is told of all

pub with_none : (read : Records) → (read >>= λ records. Ok (record { longest = longest records; stored = filled_by records })) ≡ with_before 0 0 read
with_none (Ok records) = let e : longest records ≡ max 0 (longest records) = omega arith in let f : filled_by records ≡ 0 + filled_by records = omega arith in
    ap (λ (n : ℕ). Ok (record { longest = n; stored = filled_by records })) e ∙ ap (λ (n : ℕ). Ok (record { longest = max 0 (longest records); stored = n })) f
with_none (Err e) = refl

pub filled_next : (text : List ℕ) (more : List (List ℕ)) (long : ℕ) → length text ≡ long → filled_by (text ∷ more) ≡ 2 + long + filled_by more
filled_next text more long is =
    let two : length (with_length text) ≡ 2 + length text = omega arith in
    length-append (with_length text) (concat (map with_length more)) ∙ omega (arith, two)

with_next : (size place long : ℕ) (text : List ℕ) (read : Records) → length text ≡ long
    → with_before size place (read >>= λ more. Ok (text ∷ more)) ≡ with_before (max size long) (place + (2 + long)) read
unfolding longest
with_next size place long text (Ok records) is =
    let e : max size (max (length text) (longest records)) ≡ max (max size long) (longest records) = omega arith in
    let f : place + filled_by (text ∷ records) ≡ place + (2 + long) + filled_by records = omega (arith, filled_next text records long is) in
    ap (λ (n : ℕ). Ok (record { longest = n; stored = place + filled_by (text ∷ records) })) e ∙ ap (λ (n : ℕ). Ok (record { longest = max (max size long) (longest records); stored = n })) f
with_next size place long text (Err e) is = refl

-- a first record, and those behind it
step_next : (bsize left place size : ℕ) (all : List ℕ) (long : ℕ) → 1 ≤ left → first_size place (drop place all) ≡ Ok long
    → with_before size place (varying bsize left place (drop place all))
    ≡ with_before (max size long) (place + (2 + long)) (varying bsize (left - 1) (place + (2 + long)) (drop (place + (2 + long)) all))
step_next bsize zero place size all long some is = absurd (omega arith)
step_next bsize (suc n) place size all long some is =
    let rest = drop place all in
    let within = (first_begins place rest long is).within in
    let text : length (take long (drop 2 rest)) ≡ long = length-take-le long (drop 2 rest) (omega (arith, length-drop 2 rest)) in
    let down : suc n - 1 ≡ n = omega arith in
    let further : drop (2 + long) rest ≡ drop (place + (2 + long)) all = drop-drop (2 + long) place all in
    let first : varying bsize (suc n) place rest ≡ behind bsize n place rest long = varying_next bsize n place rest ∙ ap (λ (r : Result ℕ VarFault). r >>= behind bsize n place rest) is in
    rw (down, ← further)
    (ap (with_before size place) first ∙ with_next size place long (take long (drop 2 rest)) (varying bsize n (place + (2 + long)) (drop (2 + long) rest)) text)

step_fault : (bsize left place size : ℕ) (all : List ℕ) (fault : VarFault) → 1 ≤ left → first_size place (drop place all) ≡ Err fault
    → with_before size place (varying bsize left place (drop place all)) ≡ Err fault
step_fault bsize zero place size all fault some is = absurd (omega arith)
step_fault bsize (suc n) place size all fault some is =
    let rest = drop place all in
    ap (with_before size place) (varying_next bsize n place rest ∙ ap (λ (r : Result ℕ VarFault). r >>= behind bsize n place rest) is)

-- ---- the state

pub none_fed : (bsize count high : ℕ) → IsFed count [] (record { bsize = bsize; left = count; place = 0; size = None; high = high; fed = 0; longest = 0; first = None })
none_fed bsize count high = record {
  holds = record { fed = refl; within = omega arith; comes = λ rest. with_none (varying bsize count 0 rest); size = tt; began = none_began bsize count };
  waits = inr (inl refl);
}

-- more bytes come
pub holds_more : (count : ℕ) (bytes piece : List ℕ) (s : VarScan) (fed : ℕ) → fed ≡ s.fed + length piece → Holds count bytes s → Holds count (bytes ++ piece) (record s { fed = fed })
holds_more count bytes piece s fed is h =
    let long = length-append bytes piece in
    let was = h.fed in
    let in' = h.within in
    record {
      fed = omega arith;
      within = omega arith;
      comes = λ rest. subst (λ (l : List ℕ). sizes_in s.bsize count l ≡ with_before s.longest s.place (varying s.bsize s.left s.place (drop s.place l))) (sym (append_assoc bytes piece rest))
          (h.comes (piece ++ rest));
      size = sized s.size h.size;
      began = more_began count s.bsize s.left s.place s.first bytes piece h.began;
    }
  where
    sized : (o : Option ℕ) → IsSizeAt bytes s.place o → IsSizeAt (bytes ++ piece) s.place o
    sized None x = tt
    sized (Some n) x = let fits = x.1 in let long = length-append bytes piece in (x.0, omega arith, half_front bytes piece s.place fits ∙ x.2)

-- a record is passed
pub holds_next : (count : ℕ) (bytes : List ℕ) (s : VarScan) (n : ℕ) → 0 < s.bsize → Holds count bytes s → 1 ≤ s.left → half (drop s.place bytes) 0 ≡ n → 1 ≤ n → s.place + 2 + n ≤ s.fed
    → Holds count bytes (record s { left = s.left - 1; place = s.place + (2 + n); longest = max s.longest n; size = None; first = Some (with_place s.bsize s.first s.place) })
holds_next count bytes s n wide h some is one fits =
    let was = h.fed in
    let sized = λ (rest : List ℕ).
    let long = length-drop s.place (bytes ++ rest) in
    let joined = length-append bytes rest in
    first_is s.place (drop s.place (bytes ++ rest)) n (omega arith) (half_front bytes rest s.place (omega arith) ∙ is) one (omega arith) in
    record {
      fed = was;
      within = omega arith;
      comes = λ rest.
          h.comes rest ∙ step_next s.bsize s.left s.place s.longest (bytes ++ rest) n some (sized rest);
      size = tt;
      began = next_began count s.bsize s.left s.place n s.first bytes wide some sized h.began;
    }

-- a length of 0
pub holds_zero : (count : ℕ) (bytes : List ℕ) (s : VarScan) → Holds count bytes s → 1 ≤ s.left → half (drop s.place bytes) 0 ≡ 0 → s.place + 2 ≤ s.fed → (rest : List ℕ)
    → sizes_in s.bsize count (bytes ++ rest) ≡ Err (Zero s.place)
holds_zero count bytes s h some is fits rest =
    let was = h.fed in
    let long = length-drop s.place (bytes ++ rest) in
    let joined = length-append bytes rest in
    h.comes rest ∙ step_fault s.bsize s.left s.place s.longest (bytes ++ rest) (Zero s.place) some
    (first_zero s.place (drop s.place (bytes ++ rest)) (omega arith) (half_front bytes rest s.place (omega arith) ∙ is))

-- a length is known
pub holds_size : (count : ℕ) (bytes : List ℕ) (s : VarScan) (n : ℕ) → Holds count bytes s → half (drop s.place bytes) 0 ≡ n → 1 ≤ n → s.place + 2 ≤ s.fed → Holds count bytes (record s { size = Some n })
holds_size count bytes s n h is one fits = let was = h.fed in record { fed = was; within = h.within; comes = h.comes; size = (one, omega arith, is); began = h.began }

-- none is past a kept byte any more
pub past_next : (before : List ℕ) (place high n : ℕ) (size : Option ℕ) → IsPast before place high size → (size ≡ None) ⊎ (size ≡ Some n) → length before ≤ place + (2 + n)
past_next before place high n None past which = go past
  where
    go : (length before ≤ place) ⊎ ((length before ≡ place + 1) × (slice_index before place ≡ high)) → length before ≤ place + (2 + n)
    go (inl p) = omega arith
    go (inr p) = let e = p.0 in omega arith
past_next before place high n (Some m) past (inl other) = absurd (cc)
past_next before place high n (Some m) past (inr same) = let e : m ≡ n = cc in omega arith

pub waits_past : (before : List ℕ) (place high : ℕ) (size : Option ℕ) → EndWithin before place high size → IsPast before place high size
waits_past before place high None (inl e) = inl (omega arith)
waits_past before place high None (inr e) = inr e
waits_past before place high (Some n) less = omega arith

-- all bytes of a piece were looked at
pub keeps : (count : ℕ) (before piece : List ℕ) (s : VarScan) (start high : ℕ) → length before ≡ start → Holds count (before ++ piece) s → (s.left ≡ 0) ⊎ (Passes before s × IsCut s.fed s.place s.size)
    → ((d : ℕ) → s.place ≡ start + d → s.place + 1 ≡ s.fed → high ≡ slice_index piece d) → (s.place < start → high ≡ s.high) → IsFed count (before ++ piece) (record s { high = high })
keeps count before piece s start high long h which here kept = record {
  holds = record { fed = h.fed; within = h.within; comes = h.comes; size = h.size; began = h.began };
  waits = waits which;
}
  where
    cut : (o : Option ℕ) → IsPast before s.place s.high o → IsCut s.fed s.place o → EndWithin (before ++ piece) s.place high o
    cut (Some n) past is = let was = h.fed in omega arith
    cut None past is = by_end (slice_end s.place s.fed is)
      where
        slice_end : (p f : ℕ) → f < p + 2 → (f ≡ p) ⊎ (p + 1 ≡ f) ⊎ (f < p)
        slice_end p f less = grind arith

        one_more : IsPast before s.place s.high None → s.place + 1 ≡ s.fed → (length (before ++ piece) ≡ s.place + 1) × (slice_index (before ++ piece) s.place ≡ high)
        one_more (inl low) last =
            let was = h.fed in
            let d = s.place - start in
            let at : s.place ≡ start + d = omega arith in
            (omega arith, right_byte before piece s.place start d long at ∙ sym (here d at last))
        one_more (inr one) last =
            let was = h.fed in
            let e = one.0 in
            (omega arith, left_byte before piece s.place (omega arith) ∙ (one.1 ∙ sym (kept (omega arith))))

        by_end : (s.fed ≡ s.place) ⊎ (s.place + 1 ≡ s.fed) ⊎ (s.fed < s.place) → EndWithin (before ++ piece) s.place high None
        by_end (inl e) = let was = h.fed in inl (omega arith)
        by_end (inr (inl e)) = inr (one_more past e)
        by_end (inr (inr e)) = let was = h.fed in let in' = h.within in absurd (omega arith)

    waits : (s.left ≡ 0) ⊎ (Passes before s × IsCut s.fed s.place s.size) → (s.left ≡ 0) ⊎ EndWithin (before ++ piece) s.place high s.size
    waits (inl none) = inl none
    waits (inr both) = inr (cut s.size both.0 both.1)

-- ---- the end

whole : (count : ℕ) (bytes : List ℕ) (s : VarScan) → Holds count bytes s → sizes_in s.bsize count bytes ≡ with_before s.longest s.place (varying s.bsize s.left s.place (drop s.place bytes))
whole count bytes s h = subst (λ (l : List ℕ). sizes_in s.bsize count l ≡ with_before s.longest s.place (varying s.bsize s.left s.place (drop s.place l))) (append-nil bytes) (h.comes [])

pub ends_past : (count : ℕ) (bytes : List ℕ) (s : VarScan) → IsFed count bytes s → 0 < s.left → sizes_in s.bsize count bytes ≡ Err (PastEnd s.place)
ends_past count bytes s f some = whole count bytes s f.holds ∙ step_fault s.bsize s.left s.place s.longest bytes (PastEnd s.place) some (first s.size f.holds.size (other f.waits))
  where
    other : (s.left ≡ 0) ⊎ EndWithin bytes s.place s.high s.size → EndWithin bytes s.place s.high s.size
    other (inl none) = absurd (omega arith)
    other (inr e) = e

    first : (o : Option ℕ) → IsSizeAt bytes s.place o → EndWithin bytes s.place s.high o → first_size s.place (drop s.place bytes) ≡ Err (PastEnd s.place)
    first None sized (inl e) = let long = length-drop s.place bytes in first_past s.place (drop s.place bytes) (omega arith)
    first None sized (inr e) = let one = e.0 in let long = length-drop s.place bytes in first_past s.place (drop s.place bytes) (omega arith)
    first (Some n) sized less = let fits = sized.1 in let long = length-drop s.place bytes in first_cut s.place (drop s.place bytes) n (omega arith) (sized.2) (sized.0) (omega arith)

pub ends_left : (count : ℕ) (bytes : List ℕ) (s : VarScan) → IsFed count bytes s → s.left ≡ 0 → s.bsize ≤ s.fed - s.place → sizes_in s.bsize count bytes ≡ Err (Left s.place)
unfolding varying
ends_left count bytes s f none much =
    let was = f.holds.fed in
    let long = length-drop s.place bytes in
    let over : nat_lt (length (drop s.place bytes)) s.bsize ≡ false = le-ltb _ _ (omega arith) in
    let here : with_before s.longest s.place (varying s.bsize s.left s.place (drop s.place bytes)) ≡ Err (Left s.place) = rw (none, over) refl in
    whole count bytes s f.holds ∙ here

pub ends_well : (count : ℕ) (bytes : List ℕ) (s : VarScan) → IsFed count bytes s → s.left ≡ 0 → s.fed - s.place < s.bsize
    → sizes_in s.bsize count bytes ≡ Ok (record { longest = s.longest; stored = s.place })
unfolding varying longest
ends_well count bytes s f none few =
    let was = f.holds.fed in
    let long = length-drop s.place bytes in
    let fits : nat_lt (length (drop s.place bytes)) s.bsize ≡ true = lt-ltb _ _ (omega arith) in
    let e : max s.longest 0 ≡ s.longest = omega arith in
    let g : s.place + 0 ≡ s.place = omega arith in
    let here : with_before s.longest s.place (varying s.bsize s.left s.place (drop s.place bytes)) ≡ Ok (record { longest = max s.longest 0; stored = s.place + 0 }) = rw (none, fits) refl in
    whole count bytes s f.holds ∙ (here ∙ (ap (λ (n : ℕ). Ok (record { longest = n; stored = s.place + 0 })) e ∙ ap (λ (n : ℕ). Ok (record { longest = s.longest; stored = n })) g))

-- where the last records begin
pub starts_well : (count : ℕ) (bytes : List ℕ) (s : VarScan) (records : List (List ℕ)) → 0 < s.bsize → IsFed count bytes s → varying s.bsize count 0 bytes ≡ Ok records
    → start_in s.bsize s.place s.first ≡ last_start s.bsize (filled_by records) (begins 0 records)
starts_well count bytes s records wide f is = ⊎_elim
    (λ (some : 0 < s.left). absurd (cc (sym told ∙ ends_past count bytes s f some)))
    (λ (none : s.left ≤ 0). ⊎_elim
    (λ (few : s.fed - s.place < s.bsize).
    let ends : ◌≡◌ {A = Result VarSizes VarFault} (Ok (sizes_of records)) (Ok (record { longest = s.longest; stored = s.place })) = sym told ∙ ends_well count bytes s f (omega arith) few in
    let filled : filled_by records ≡ s.place = stored_same (sizes_of records) (record { longest = s.longest; stored = s.place }) ends in
    rw filled (start_is count s.bsize s.left s.place s.first bytes records wide (omega arith) f.holds.began is))
    (λ (much : s.bsize ≤ s.fed - s.place). absurd (cc (sym told ∙ ends_left count bytes s f (omega arith) much)))
    (cases_lt (s.fed - s.place) s.bsize))
    (cases_lt 0 s.left)
  where
    told : sizes_in s.bsize count bytes ≡ Ok (sizes_of records)
    told = ap (λ (r : Records). r >>= λ records. Ok (sizes_of records)) is

    stored_same : (a b : VarSizes) → ◌≡◌ {A = Result VarSizes VarFault} (Ok a) (Ok b) → a.stored ≡ b.stored
    stored_same a b same = let is : a ≡ b = cc same in ap (λ (v : VarSizes). v.stored) is
