-- Bytes are taken for the next record.
use Rattle.std.proofs.Common.{◌≡◌, ⊎_elim, ℕ, suc, ◌+◌, ◌≤◌, ◌<◌, Bool, true, false, if◌then◌else◌, List, [], ◌∷◌, ◌++◌, length, take, drop, Option, None, Some, Result, Ok, Err, refl, sym, ◌∙◌, ap, subst, arith, append_assoc, append-nil, length-append, length-drop}
use Rattle.std.specs.Prelude.{nat_le, nat_lt, IfSome}
use Rattle.std.proofs.lemmas.List.{length-take-le, take-append-le, drop-append-le, take_all}
use Rattle.std.proofs.Math.Seq.{drop-length, take-append_seam, drop-append-add}
use Rattle.std.proofs.lemmas.Bool.{cases_lt, leb-true, leb-false, ltb-true, ltb-false}
use Rattle.cms_fields.specs.Steps.{◌>>◌, want}
use Rattle.cms_text.specs.Bytes.{half}
use Rattle.cms_model.specs.Lists.{cut}
use Rattle.cms_model.specs.Records.{varying, longest}
use Rattle.cms_model.specs.declared.fault.VarFault.{VarFault}
use Rattle.cms_model.specs.declared.fault.VarFault.TheVariants.{Zero, PastEnd, Left}
use Rattle.cms_records.specs.Views.{first_size}
use Rattle.cms_records.specs.Pieces.{RecordState, Takes, bytes_so_far, next_place, record_size, record_bytes, is_whole, text_in}
use Rattle.cms_records.proofs.Lengths.{behind, varying_next, bind_ok}
use Rattle.cms_records.proofs.Feeds.{size_front, size_least, size_most}
use Rattle.cms_records.proofs.FirstTold.{first_is_told}
use Rattle.cms_disk.specs.Cursors.{HoldLeft, IsShort}

-- ---- fronts

-- the bytes behind a record that ends in a piece
behind_piece : (before more later : List ℕ) (taken size : ℕ) → length before + taken ≡ size → taken ≤ length more → drop size (before ++ (more ++ later)) ≡ drop taken more ++ later
behind_piece before more later taken size is within =
    ap (λ (n : ℕ). drop n (before ++ (more ++ later))) (sym is) ∙ (drop-append-add before (more ++ later) taken ∙ drop-append-le taken more later within)

-- the record that ends in a piece
front_of : (before more later : List ℕ) (size : ℕ) → size ≤ length (before ++ more) → take size (before ++ (more ++ later)) ≡ take size (before ++ more)
front_of before more later size within = ap (take size) (sym (append_assoc before more later)) ∙ take-append-le size (before ++ more) later within

-- ---- the size of a record stays

size_stays : (fixed : Option ℕ) (most place : ℕ) (xs later : List ℕ) (r : Result (Option ℕ) VarFault) → record_size fixed most place xs ≡ r → (r ≡ Ok None → ⊥)
    → record_size fixed most place (xs ++ later) ≡ r
size_stays (Some n) most place xs later r is known = is
size_stays None most place xs later r is known = go (nat_lt (length xs) 2) refl
  where
    go : (b : Bool) → nat_lt (length xs) 2 ≡ b → record_size None most place (xs ++ later) ≡ r
    go true e = let none : record_size None most place xs ≡ Ok None = rw e refl in absurd (known (sym is ∙ none))
    go false e =
        let two = ltb-false (length xs) 2 e in
        sym (size_front None most place (xs ++ later) (length xs) (λ none. two)) ∙ (ap (record_size None most place) (take-append_seam xs later) ∙ is)

known_size : (n : ℕ) → ◌≡◌ {A = Result (Option ℕ) VarFault} (Ok (Some n)) (Ok None) → ⊥
known_size n e = cc

known_fault : (why : VarFault) → ◌≡◌ {A = Result (Option ℕ) VarFault} (Err why) (Ok None) → ⊥
known_fault why e = cc

same_size : (m n : ℕ) → ◌≡◌ {A = Result (Option ℕ) VarFault} (Ok (Some m)) (Ok (Some n)) → m ≡ n
same_size m n e = cc

-- ---- the first of the records that are left

no_record : (bsize n place : ℕ) (bytes : List ℕ) → varying bsize (suc n) place bytes ≡ Ok [] → ⊥
no_record bsize n place bytes is =
    bind_ok (first_size place bytes) (behind bsize n place bytes) [] (sym (varying_next bsize n place bytes) ∙ is) (λ size is_size e1.
    bind_ok (varying bsize n (place + (2 + size)) (drop (2 + size) bytes)) _ [] e1 (λ more is_more e2. absurd (cc e2)))

longest_first : (most : ℕ) (text : List ℕ) (rest : List (List ℕ)) → longest (text ∷ rest) ≤ most → (length text ≤ most) × (longest rest ≤ most)
unfolding longest
longest_first most text rest le = (omega arith, omega arith)

cut_first : (n size : ℕ) (bytes : List ℕ) → cut (suc n) size bytes ≡ take size bytes ∷ cut n size (drop size bytes)
unfolding cut
cut_first n size bytes = refl

-- the first record of bytes, with its length in them, and what stands behind it
pub record First (bsize : ℕ) (fixed : Option ℕ) (most n place : ℕ) (bytes : List ℕ) (records : List (List ℕ)) : Type 0 where
  pub size : ℕ
  pub size_is : record_size fixed most place bytes ≡ Ok (Some size)
  pub fits : size ≤ length bytes
  pub more : List (List ℕ)
  pub records_are : records ≡ text_in fixed (take size bytes) ∷ more
  pub rest : HoldLeft bsize fixed most n (place + size) (drop size bytes) more

text_within : (bytes text : List ℕ) → 1 ≤ length text → text_in None (take (2 + length text) bytes) ≡ text → 2 + length text ≤ length bytes
text_within bytes text some is =
    let k = 2 + length text in
    ⊎_elim
    (λ (short : length bytes < k).
    let all : take k bytes ≡ bytes = take_all k bytes (omega arith) in
    let e : length (drop 2 bytes) ≡ length text = ap (λ (l : List ℕ). length (drop 2 l)) (sym all) ∙ ap length is in
    let d = length-drop 2 bytes in
    absurd (omega arith))
    (λ (long : k ≤ length bytes). long)
    (cases_lt (length bytes) k)

pub first_left : (bsize : ℕ) (fixed : Option ℕ) (most n place : ℕ) (bytes : List ℕ) (records : List (List ℕ)) → HoldLeft bsize fixed most (suc n) place bytes records
    → First bsize fixed most n place bytes records
first_left bsize (Some size) most n place bytes records held =
    let long = held.1 in
    let d = length-drop size bytes in
    record {
      size = size;
      size_is = refl;
      fits = grind arith;
      more = cut n size (drop size bytes);
      records_are = held.0 ∙ cut_first n size bytes;
      rest = (refl, omega arith);
    }
first_left bsize None most n place bytes [] held = absurd (no_record bsize n place bytes held.0)
first_left bsize None most n place bytes (text ∷ rest) held =
    let few = longest_first most text rest held.1 in
    let told = first_is_told bsize n place most bytes text rest held.0 few.0 in
    let least = size_least most place bytes (2 + length text) told.0 in
    record {
      size = 2 + length text;
      size_is = told.0;
      fits = text_within bytes text (omega arith) told.1;
      more = rest;
      records_are = ap (λ (t : List ℕ). t ∷ rest) (sym told.1);
      rest = (told.2, few.1);
    }

pub none_left : (bsize : ℕ) (fixed : Option ℕ) (most place : ℕ) (bytes : List ℕ) (records : List (List ℕ)) → HoldLeft bsize fixed most 0 place bytes records → records ≡ []
unfolding cut varying
none_left bsize (Some size) most place bytes records held = held.0
none_left bsize None most place bytes records held = go (nat_lt (length bytes) bsize) held.0
  where
    go : (b : Bool) → (want b (Left place) >> Ok []) ≡ Ok records → records ≡ []
    go true e = cc
    go false e = absurd (cc)

-- ---- bytes are taken

-- a record that is whole in a piece
record Ends (old new : RecordState) (more : List ℕ) (taken : ℕ) : Type 0 where
  size : ℕ
  size_is : record_size old.fixed old.longest (next_place old) (bytes_so_far old ++ more) ≡ Ok (Some size)
  bytes : new.bytes ≡ take size (bytes_so_far old ++ more)
  fits : size ≤ length (bytes_so_far old ++ more)
  long : length new.bytes ≡ size

ends : (old new : RecordState) (more : List ℕ) (taken : ℕ) → Takes old new more taken true → Ends old new more taken
ends old new more taken t = go t.size t.size_is t.bytes t.whole_is
  where
    all : List ℕ
    all = bytes_so_far old ++ more

    go : (size : Option ℕ) → record_size old.fixed old.longest (next_place old) (bytes_so_far old ++ more) ≡ Ok size → new.bytes ≡ record_bytes size (bytes_so_far old ++ more)
        → true ≡ is_whole size (bytes_so_far old ++ more) → Ends old new more taken
    go None is bytes whole = absurd (cc)
    go (Some n) is bytes whole =
        let fits = leb-true n (length (bytes_so_far old ++ more)) (sym whole) in
        record { size = n; size_is = is; bytes = bytes; fits = fits; long = ap length bytes ∙ length-take-le n (bytes_so_far old ++ more) fits }

-- one that isn't has all of the piece
record Goes (old new : RecordState) (more : List ℕ) (taken : ℕ) : Type 0 where
  bytes : new.bytes ≡ bytes_so_far old ++ more
  all_taken : taken ≡ length more
  short : IsShort new

goes : (old new : RecordState) (more : List ℕ) (taken : ℕ) → Takes old new more taken false → Goes old new more taken
goes old new more taken t = go t.size t.size_is t.bytes t.whole_is
  where
    all : List ℕ
    all = bytes_so_far old ++ more

    done : (size : Option ℕ) → record_size old.fixed old.longest (next_place old) (bytes_so_far old ++ more) ≡ Ok size → new.bytes ≡ bytes_so_far old ++ more
        → false ≡ is_whole size (bytes_so_far old ++ more) → Goes old new more taken
    done size is bytes whole =
        let told = t.told in
        let long = ap length bytes ∙ length-append (bytes_so_far old) more in
        let count = t.taken_is in
        record {
          bytes = bytes;
          all_taken = omega arith;
          short = record { size = size; size_is = rw (told.2, told.3, told.1, bytes) is; short = rw bytes (sym whole); begun = told.0 };
        }

    go : (size : Option ℕ) → record_size old.fixed old.longest (next_place old) (bytes_so_far old ++ more) ≡ Ok size → new.bytes ≡ record_bytes size (bytes_so_far old ++ more)
        → false ≡ is_whole size (bytes_so_far old ++ more) → Goes old new more taken
    go None is bytes whole = done None is bytes whole
    go (Some n) is bytes whole =
        let few = leb-false n (length (bytes_so_far old ++ more)) (sym whole) in
        done (Some n) is (bytes ∙ take_all n (bytes_so_far old ++ more) (omega arith)) whole

-- a record that is whole is the first of those that are left, and the others are left then
pub record Handed (bsize left : ℕ) (new : RecordState) (later : List ℕ) (records : List (List ℕ)) : Type 0 where
  pub more : List (List ℕ)
  pub records_are : records ≡ text_in new.fixed new.bytes ∷ more
  pub rest : HoldLeft bsize new.fixed new.longest left (next_place new) (bytes_so_far new ++ later) more

pub hands_out : (bsize left : ℕ) (old new : RecordState) (more later : List ℕ) (taken : ℕ) (records : List (List ℕ)) → Takes old new more taken true
    → HoldLeft bsize old.fixed old.longest (suc left) (next_place old) (bytes_so_far old ++ (more ++ later)) records → Handed bsize left new (drop taken more ++ later) records
hands_out bsize left old new more later taken records t held =
    let e = ends old new more taken t in
    let before = bytes_so_far old in
    let first = first_left bsize old.fixed old.longest left (next_place old) (before ++ (more ++ later)) records held in
    let wide : record_size old.fixed old.longest (next_place old) (before ++ (more ++ later)) ≡ Ok (Some e.size) =
    ap (record_size old.fixed old.longest (next_place old)) (sym (append_assoc before more later))
    ∙ size_stays old.fixed old.longest (next_place old) (before ++ more) later (Ok (Some e.size)) e.size_is (known_size e.size) in
    let same : first.size ≡ e.size = same_size first.size e.size (sym first.size_is ∙ wide) in
    let told = t.told in
    let whole : new.whole ≡ true = told.0 in
    let count = t.taken_is in
    let fits = e.fits in
    let long = e.long in
    let total = length-append before more in
    let taken_few : taken ≤ length more = omega arith in
    let text : take first.size (before ++ (more ++ later)) ≡ new.bytes = ap (λ (n : ℕ). take n (before ++ (more ++ later))) same ∙ (front_of before more later e.size fits ∙ sym e.bytes) in
    let behind' : drop first.size (before ++ (more ++ later)) ≡ drop taken more ++ later = behind_piece before more later taken first.size (omega (arith, same)) taken_few in
    let place : next_place old + first.size ≡ next_place new = rw whole (omega (arith, same, told.1)) in
    let none : bytes_so_far new ≡ [] = rw whole refl in
    record {
      more = first.more;
      records_are = first.records_are ∙ rw (text, told.2) refl;
      rest = rw (told.2, told.3, none) (subst (λ (p : ℕ). HoldLeft bsize old.fixed old.longest left p (drop taken more ++ later) first.more) place
          (subst (λ (l : List ℕ). HoldLeft bsize old.fixed old.longest left (next_place old + first.size) l first.more) behind' first.rest));
    }

-- while it isn't whole, the same are left
pub keeps_left : (bsize left : ℕ) (old new : RecordState) (more later : List ℕ) (taken : ℕ) (records : List (List ℕ)) → Takes old new more taken false
    → HoldLeft bsize old.fixed old.longest left (next_place old) (bytes_so_far old ++ (more ++ later)) records
    → HoldLeft bsize new.fixed new.longest left (next_place new) (bytes_so_far new ++ (drop taken more ++ later)) records
keeps_left bsize left old new more later taken records t held =
    let g = goes old new more taken t in
    let told = t.told in
    let whole : new.whole ≡ false = told.0 in
    let before = bytes_so_far old in
    let so_far : bytes_so_far new ≡ before ++ more = rw whole g.bytes in
    let place : next_place new ≡ next_place old = rw whole told.1 in
    let rest : drop taken more ≡ [] = ap (λ (n : ℕ). drop n more) g.all_taken ∙ drop-length more in
    let bytes : bytes_so_far new ++ (drop taken more ++ later) ≡ before ++ (more ++ later) = rw (so_far, rest) (append_assoc before more later) in
    rw (told.2, told.3, place, bytes) held

-- and all of the piece is taken
pub takes_all : (old new : RecordState) (more : List ℕ) (taken : ℕ) → Takes old new more taken false → (taken ≡ length more) × IsShort new
takes_all old new more taken t = let g = goes old new more taken t in (g.all_taken, g.short)

-- records that are left are not found altered
pub not_altered : (bsize left : ℕ) (old : RecordState) (more later : List ℕ) (records : List (List ℕ)) (why : VarFault)
    → record_size old.fixed old.longest (next_place old) (bytes_so_far old ++ more) ≡ Err why
    → HoldLeft bsize old.fixed old.longest (suc left) (next_place old) (bytes_so_far old ++ (more ++ later)) records → ⊥
not_altered bsize left old more later records why is held =
    let before = bytes_so_far old in
    let first = first_left bsize old.fixed old.longest left (next_place old) (before ++ (more ++ later)) records held in
    let wide = size_stays old.fixed old.longest (next_place old) (before ++ more) later (Err why) is (known_fault why) in
    clash first.size (sym first.size_is ∙ (ap (record_size old.fixed old.longest (next_place old)) (sym (append_assoc before more later)) ∙ wide))
  where
    clash : (n : ℕ) → ◌≡◌ {A = Result (Option ℕ) VarFault} (Ok (Some n)) (Err why) → ⊥
    clash n e = cc

-- nor do their bytes end before the next of them
pub not_ended : (bsize left : ℕ) (s : RecordState) (records : List (List ℕ)) → IsShort s → HoldLeft bsize s.fixed s.longest (suc left) (next_place s) (bytes_so_far s ++ ([] ++ [])) records → ⊥
not_ended bsize left s records short held =
    let whole = short.begun in
    let so_far : bytes_so_far s ++ ([] ++ []) ≡ s.bytes = append-nil (bytes_so_far s) ∙ rw whole refl in
    let place : next_place s ≡ s.place = rw whole refl in
    let first = first_left bsize s.fixed s.longest left s.place s.bytes records (subst (λ (l : List ℕ). HoldLeft bsize s.fixed s.longest (suc left) s.place l records) so_far
    (subst (λ (p : ℕ). HoldLeft bsize s.fixed s.longest (suc left) p (bytes_so_far s ++ ([] ++ [])) records) place held)) in
    go short.size (sym first.size_is ∙ short.size_is) short.short first.fits
  where
    go : {n : ℕ} (size : Option ℕ) → ◌≡◌ {A = Result (Option ℕ) VarFault} (Ok (Some n)) (Ok size) → is_whole size s.bytes ≡ false → n ≤ length s.bytes → ⊥
    go None e w fits = cc
    go {n} (Some m) e w fits = let same = same_size n m e in let few = leb-false m (length s.bytes) w in omega arith

-- ---- what is taken

-- a record that isn't whole in bytes is longer than they are
longer : (fixed : Option ℕ) (most place n : ℕ) (xs more : List ℕ) (size : Option ℕ) → record_size fixed most place xs ≡ Ok size → is_whole size xs ≡ false
    → record_size fixed most place (xs ++ more) ≡ Ok (Some n) → length xs < n
longer fixed most place n xs more (Some m) is short wide =
    let stays = size_stays fixed most place xs more (Ok (Some m)) is (known_size m) in
    let same = same_size m n (sym stays ∙ wide) in
    let few = leb-false m (length xs) short in
    omega arith
longer (Some k) most place n xs more None is short wide = absurd (cc)
longer None most place n xs more None is short wide = go (nat_lt (length xs) 2) (nat_le 1 (half xs 0)) (nat_le (half xs 0) most) refl is
  where
    go : (a b d : Bool) → nat_lt (length xs) 2 ≡ a → (if a then Ok None else (want b (Zero place) >> (want d (PastEnd place) >> Ok (Some (2 + half xs 0))))) ≡ Ok None → length xs < n
    go true b d e is = let few = ltb-true (length xs) 2 e in let least = size_least most place (xs ++ more) n wide in omega arith
    go false false d e is = absurd (cc)
    go false true false e is = absurd (cc)
    go false true true e is = absurd (cc)

-- of a block from which nothing was taken yet, something is taken for a record that is begun
pub takes_some : (old new : RecordState) (more : List ℕ) (taken : ℕ) (whole : Bool) → IsShort old → 1 ≤ length more → Takes old new more taken whole → 1 ≤ taken
takes_some old new more taken true short some t =
    let e = ends old new more taken t in
    let begun = short.begun in
    let so_far : bytes_so_far old ≡ old.bytes = rw begun refl in
    let place : next_place old ≡ old.place = rw begun refl in
    let wide = subst (λ (p : ℕ). record_size old.fixed old.longest p (old.bytes ++ more) ≡ Ok (Some e.size)) place
    (subst (λ (l : List ℕ). record_size old.fixed old.longest (next_place old) (l ++ more) ≡ Ok (Some e.size)) so_far e.size_is) in
    let more_than = longer old.fixed old.longest old.place e.size old.bytes more short.size short.size_is short.short wide in
    let count = t.taken_is in
    let long = e.long in
    let same = ap length so_far in
    omega arith
takes_some old new more taken false short some t = let g = goes old new more taken t in let e = g.all_taken in omega arith

-- the text of a record has at least one byte and no more than the longest, and where all have one length, that
pub text_fits : (old new : RecordState) (more : List ℕ) (taken : ℕ) → IfSome old.fixed (λ n. (1 ≤ n) × (n ≤ old.longest)) → Takes old new more taken true
    → (1 ≤ length (text_in new.fixed new.bytes)) × (length (text_in new.fixed new.bytes) ≤ new.longest) × IfSome new.fixed (λ n. length (text_in new.fixed new.bytes) ≡ n)
text_fits old new more taken lengths t =
    let e = ends old new more taken t in
    let told = t.told in
    rw (told.2, told.3) (go old.fixed lengths e.size_is)
  where
    go : (fixed : Option ℕ) → IfSome fixed (λ n. (1 ≤ n) × (n ≤ old.longest)) → record_size fixed old.longest (next_place old) (bytes_so_far old ++ more) ≡ Ok (Some (ends old new more taken t).size)
        → (1 ≤ length (text_in fixed new.bytes)) × (length (text_in fixed new.bytes) ≤ old.longest) × IfSome fixed (λ n. length (text_in fixed new.bytes) ≡ n)
    go (Some m) fits is =
        let e = ends old new more taken t in
        let same = same_size m e.size is in
        let long = e.long in
        (omega (arith, fits.0), omega (arith, fits.1), omega arith)
    go None fits is =
        let e = ends old new more taken t in
        let low = size_least old.longest (next_place old) (bytes_so_far old ++ more) e.size is in
        let high = size_most None old.longest (next_place old) (bytes_so_far old ++ more) e.size tt is in
        let long = e.long in
        let d = length-drop 2 new.bytes in
        (omega arith, omega arith, tt)
