-- Records in bytes, both ways.
use Rattle.std.proofs.Common.{◌≡◌, ◌↔◌, ℕ, zero, suc, ◌+◌, ◌*◌, ◌/◌, ◌%◌, ◌<◌, ◌≤◌, max, List, [], ◌∷◌, ◌++◌, length, take, drop, All, Ok, true, refl, sym, ◌∙◌, ap, subst, arith, append_assoc, length-append, take-append-drop, length-take-le, length-drop, get_or-drop, drop-drop, take_at, drop_at}
use Rattle.std.specs.List.{concat}
use Rattle.std.specs.Prelude.{nat_le, nat_lt}
use Rattle.std.proofs.lemmas.Bool.{le-leb, leb-true, lt-ltb, ltb-true}
use Rattle.std.proofs.lemmas.List.Elements.{All-nil, All-cons, All-head, All-tail}
use Rattle.std.proofs.lemmas.List.Sums.{sum_by-cons}
use Rattle.byteorder.specs.Endian.{big_bytes}
use Rattle.byteorder.specs.Numbers.{big_number-reads_back, length-bytes_high_first}
use Rattle.cms_names.specs.declared.name.Format.{Format}
use Rattle.cms_names.specs.declared.name.Format.TheVariants.{F, V}
use Rattle.cms_text.specs.Bytes.{half}
use Rattle.cms_model.specs.Lists.{cut}
use Rattle.cms_model.specs.Sizes.{stored_size}
use Rattle.cms_model.specs.Records.{with_length, longest, stored, Fits, HoldRecords, varying, records_of, StandsFor}
use Rattle.cms_model.specs.LawsRecords.{AreBytes, ValidHasRecords}
use Rattle.cms_model.specs.declared.fault.VarFault.TheVariants.{Zero, PastEnd, Left}
use Rattle.cms_model.specs.declared.file.FileData.{FileData}
use Rattle.cms_model.proofs.Results.{ok_same, want_ok, bind_then}

-- ---- records one after another

pub stored_append : (format : Format) (a b : List (List ℕ)) → stored format (a ++ b) ≡ stored format a ++ stored format b
stored_append F [] b = refl
stored_append F (x ∷ xs) b = ap (λ (l : List ℕ). x ++ l) (stored_append F xs b) ∙ sym (append_assoc x (concat xs) (concat b))
stored_append V [] b = refl
stored_append V (x ∷ xs) b = ap (λ (l : List ℕ). with_length x ++ l) (stored_append V xs b) ∙ sym (append_assoc (with_length x) (stored V xs) (stored V b))

pub longest_both : (a b : List (List ℕ)) → longest (a ++ b) ≡ max (longest a) (longest b)
unfolding longest
longest_both [] b = omega arith
longest_both (x ∷ xs) b = let rest = longest_both xs b in omega (arith, rest)

-- ---- records of one length

-- what stands in front is cut again
pub cut_stored : (size : ℕ) (records : List (List ℕ)) (rest : List ℕ) → All (Fits F size) records → cut (length records) size (concat records ++ rest) ≡ records
unfolding cut
cut_stored size [] rest all = refl
cut_stored size (r ∷ rs) rest all =
    let here : length r ≡ size = All-head (Fits F size) r rs all in
    let regroup : (r ++ concat rs) ++ rest ≡ r ++ (concat rs ++ rest) = append_assoc r (concat rs) rest in
    rw (regroup, take_at r (concat rs ++ rest) size here, drop_at r (concat rs ++ rest) size here, cut_stored size rs rest (All-tail (Fits F size) r rs all)) refl

pub length_stored_fixed : (size : ℕ) (records : List (List ℕ)) → All (Fits F size) records → length (concat records) ≡ length records * size
length_stored_fixed size [] all = omega arith
length_stored_fixed size (r ∷ rs) all =
    let here : length r ≡ size = All-head (Fits F size) r rs all in
    let deeper = length_stored_fixed size rs (All-tail (Fits F size) r rs all) in
    length-append r (concat rs) ∙ (omega arith)

pub fits_cut : (count size : ℕ) (bytes : List ℕ) → count * size ≤ length bytes → All (Fits F size) (cut count size bytes)
unfolding cut
fits_cut zero size bytes room = All-nil (Fits F size)
fits_cut (suc n) size bytes room =
    All-cons (Fits F size) (take size bytes) (cut n size (drop size bytes)) (length-take-le size bytes (omega arith)) (fits_cut n size (drop size bytes) (omega (arith, length-drop size bytes)))

-- bytes are the pieces that are cut, and what is left
pub stored_cut : (count size : ℕ) (bytes : List ℕ) → count * size ≤ length bytes → bytes ≡ concat (cut count size bytes) ++ drop (count * size) bytes
unfolding cut
stored_cut zero size bytes room = let none : 0 * size ≡ 0 = omega arith in rw none refl
stored_cut (suc n) size bytes room =
    let front : List ℕ = take size bytes in
    let more : List ℕ = concat (cut n size (drop size bytes)) in
    let deeper = stored_cut n size (drop size bytes) (omega (arith, length-drop size bytes)) in
    let whole : suc n * size ≡ size + n * size = omega arith in
    let behind : drop (n * size) (drop size bytes) ≡ drop (size + n * size) bytes = drop-drop (n * size) size bytes in
    let joined : (front ++ more) ++ drop (size + n * size) bytes ≡ front ++ (more ++ drop (n * size) (drop size bytes)) =
    append_assoc front more (drop (size + n * size) bytes) ∙ ap (λ (l : List ℕ). front ++ (more ++ l)) (sym behind) in
    rw whole (sym (joined ∙ ap (λ (l : List ℕ). front ++ l) (sym deeper) ∙ take-append-drop size bytes))

pub fixed_cut : (bsize size count : ℕ) (bytes : List ℕ) (records : List (List ℕ)) → length records ≡ count
    → HoldRecords bsize F size bytes records
    ↔ ((records_of bsize F size count bytes ≡ Ok records) × (count * size ≤ length bytes) × (length bytes < count * size + bsize))
unfolding records_of
fixed_cut bsize size count bytes records is = (forth, back)
  where
    forth : HoldRecords bsize F size bytes records → ((records_of bsize F size count bytes ≡ Ok records) × (count * size ≤ length bytes) × (length bytes < count * size + bsize))
    forth h =
        let wide : length (concat records) ≡ count * size = length_stored_fixed size records h.each ∙ ap (λ (n : ℕ). n * size) is in
        let all : length bytes ≡ length (concat records) + length h.rest = ap length h.bytes_are ∙ length-append (concat records) h.rest in
        let short = h.short in
        let again : cut count size bytes ≡ records = rw (h.bytes_are, ← is) (cut_stored size records h.rest h.each) in
        (ap Ok again, omega arith, omega arith)

    back : ((records_of bsize F size count bytes ≡ Ok records) × (count * size ≤ length bytes) × (length bytes < count * size + bsize)) → HoldRecords bsize F size bytes records
    back (e, low, high) =
        let same : cut count size bytes ≡ records = ok_same (cut count size bytes) records e in
        record {
          rest = drop (count * size) bytes;
          bytes_are = subst (λ (l : List (List ℕ)). bytes ≡ concat l ++ drop (count * size) bytes) same (stored_cut count size bytes low);
          each = subst (All (Fits F size)) same (fits_cut count size bytes low);
          short = omega (arith, length-drop (count * size) bytes);
        }

-- ---- records with their lengths

half_stored : (text rest : List ℕ) → length text ≤ 65535 → half (with_length text ++ rest) 0 ≡ length text
unfolding half
half_stored text rest fits = big_number-reads_back 2 (length text) (text ++ rest) (omega arith)

pub length-with_length : (text : List ℕ) → length (with_length text) ≡ 2 + length text
length-with_length text = length-append (big_bytes 2 (length text)) text ∙ ap (λ (n : ℕ). n + length text) (length-bytes_high_first 2 (length text))

-- one record more
read_step : (bsize n place len : ℕ) (bytes text : List ℕ) (more : List (List ℕ)) → half bytes 0 ≡ len → 1 ≤ len → 2 + len ≤ length bytes → take len (drop 2 bytes) ≡ text
    → varying bsize n (place + (2 + len)) (drop (2 + len) bytes) ≡ Ok more
    → varying bsize (suc n) place bytes ≡ Ok (text ∷ more)
unfolding varying
read_step bsize n place len bytes text more half_is some room text_is more_is =
    let t1 : nat_le 2 (length bytes) ≡ true = le-leb 2 (length bytes) (omega arith) in
    let t2 : nat_le 1 len ≡ true = le-leb 1 len some in
    let t3 : nat_le (2 + len) (length bytes) ≡ true = le-leb (2 + len) (length bytes) room in
    rw (half_is, t1, t2, t3, more_is, text_is) refl

-- what stands in front is read again
pub read_stored : (bsize size place : ℕ) (records : List (List ℕ)) (rest : List ℕ) → All (Fits V size) records → length rest < bsize
    → varying bsize (length records) place (stored V records ++ rest) ≡ Ok records
unfolding varying
read_stored bsize size place [] rest all short = rw (lt-ltb (length rest) bsize short) refl
read_stored bsize size place (r ∷ rs) rest all short =
    let here : (1 ≤ length r) × (length r ≤ 65535) = All-head (Fits V size) r rs all in
    let more : List ℕ = stored V rs ++ rest in
    let regroup : (with_length r ++ stored V rs) ++ rest ≡ with_length r ++ more = append_assoc (with_length r) (stored V rs) rest in
    let wide : length (with_length r ++ more) ≡ 2 + length r + length more = length-append (with_length r) more ∙ ap (λ (n : ℕ). n + length more) (length-with_length r) in
    let behind : drop (2 + length r) (with_length r ++ more) ≡ more = drop_at (with_length r) more (2 + length r) (length-with_length r) in
    let deeper = read_stored bsize size (place + (2 + length r)) rs rest (All-tail (Fits V size) r rs all) short in
    ap (varying bsize (suc (length rs)) place) regroup
    ∙ read_step bsize (length rs) place (length r) (with_length r ++ more) r rs (half_stored r more here.1) here.0 (omega arith) (take_at r more (length r) refl)
    (ap (varying bsize (length rs) (place + (2 + length r))) behind ∙ deeper)

abbrev pub Held : ℕ → ℕ → ℕ → List ℕ → List (List ℕ) → Type 0
Held bsize size count bytes records = HoldRecords bsize V size bytes records × (length records ≡ count)

held_more : (bsize size n : ℕ) (bytes text behind : List ℕ) (more : List (List ℕ)) → bytes ≡ with_length text ++ behind → 1 ≤ length text → length text ≤ 65535 → Held bsize size n behind more
    → Held bsize size (suc n) bytes (text ∷ more)
held_more bsize size n bytes text behind more is some fits (h, count) = (
  record {
    rest = h.rest;
    bytes_are = is ∙ ap (λ (l : List ℕ). with_length text ++ l) h.bytes_are ∙ sym (append_assoc (with_length text) (stored V more) h.rest);
    each = All-cons (Fits V size) text more (some, fits) h.each;
    short = h.short;
  },
  ap suc count,
)

-- the bytes of a length, and what stands behind
first_bytes : (a b : ℕ) (text behind : List ℕ) → a < 256 → b < 256 → length text ≡ a * 256 + b → with_length text ++ behind ≡ a ∷ b ∷ (text ++ behind)
first_bytes a b text behind low high is =
    let first : length text / 256 % 256 ≡ a = omega arith in
    let second : length text % 256 ≡ b = omega arith in
    rw (first, second) refl

-- what is read stands in front
pub held_varying : (bsize size count place : ℕ) (bytes : List ℕ) (records : List (List ℕ)) → AreBytes bytes → varying bsize count place bytes ≡ Ok records → Held bsize size count bytes records
unfolding varying half
held_varying bsize size zero place bytes records fits e =
    let r = want_ok (nat_lt (length bytes) bsize) (Left place) (Ok []) records e in
    subst (Held bsize size 0 bytes) (ok_same [] records r.1)
    (record { rest = bytes; bytes_are = refl; each = All-nil (Fits V size); short = ltb-true (length bytes) bsize r.0 }, refl)
held_varying bsize size (suc n) place [] records fits e = absurd (cc)
held_varying bsize size (suc n) place (a ∷ []) records fits e = absurd (cc)
held_varying bsize size (suc n) place (a ∷ b ∷ tail) records fits e =
    let bytes : List ℕ = a ∷ b ∷ tail in
    let p1 = want_ok (nat_le 2 (length bytes)) (PastEnd place) _ records e in
    let p2 = want_ok (nat_le 1 (half bytes 0)) (Zero place) _ records p1.1 in
    let p3 = want_ok (nat_le (2 + half bytes 0) (length bytes)) (PastEnd place) _ records p2.1 in
    bind_then (varying bsize n (place + (2 + half bytes 0)) (drop (2 + half bytes 0) bytes)) _ records p3.1 (λ more is_more done.
    joined (λ place' bytes' more' fits' e'. held_varying bsize size n place' bytes' more' fits' e') (half bytes 0) (omega arith) (leb-true 1 (half bytes 0) p2.0)
    (leb-true (2 + half bytes 0) (length bytes) p3.0) more is_more (ok_same _ records done))
  where
    joined : ((place' : ℕ) (bytes' : List ℕ) (more' : List (List ℕ)) → AreBytes bytes' → varying bsize n place' bytes' ≡ Ok more' → Held bsize size n bytes' more') → (len : ℕ) → len ≡ a * 256 + b
        → 1 ≤ len → 2 + len ≤ suc (suc (length tail)) → (more : List (List ℕ)) → varying bsize n (place + (2 + len)) (drop (2 + len) (a ∷ b ∷ tail)) ≡ Ok more
        → ◌≡◌ {A = List (List ℕ)} (take len (drop 2 (a ∷ b ∷ tail)) ∷ more) records → Held bsize size (suc n) (a ∷ b ∷ tail) records
    joined again len is some room more is_more done =
        let low : a < 256 = fits 0 in
        let high : b < 256 = fits 1 in
        let two : 2 + len ≡ suc (suc len) = omega arith in
        let long : length (take len tail) ≡ len = length-take-le len tail (omega arith) in
        let is_more' : varying bsize n (place + (2 + len)) (drop len tail) ≡ Ok more = subst (λ (k : ℕ). varying bsize n (place + (2 + len)) (drop k (a ∷ b ∷ tail)) ≡ Ok more) two is_more in
        let behind : Held bsize size n (drop len tail) more = again (place + (2 + len)) (drop len tail) more (λ k. rw get_or-drop (fits (suc (suc (len + k))))) is_more' in
        let whole : a ∷ b ∷ tail ≡ with_length (take len tail) ++ drop len tail =
        sym (first_bytes a b (take len tail) (drop len tail) low high (long ∙ is) ∙ ap (λ (l : List ℕ). a ∷ b ∷ l) (take-append-drop len tail)) in
        subst (Held bsize size (suc n) (a ∷ b ∷ tail)) done (held_more bsize size n (a ∷ b ∷ tail) (take len tail) (drop len tail) more whole (omega arith) (omega arith) behind)

pub varying_read : (bsize size count : ℕ) (bytes : List ℕ) (records : List (List ℕ)) → AreBytes bytes
    → (HoldRecords bsize V size bytes records × (length records ≡ count)) ↔ (records_of bsize V size count bytes ≡ Ok records)
unfolding records_of
varying_read bsize size count bytes records fits = (forth, held_varying bsize size count 0 bytes records fits)
  where
    forth : HoldRecords bsize V size bytes records × (length records ≡ count) → varying bsize count 0 bytes ≡ Ok records
    forth (h, is) = rw (h.bytes_are, ← is) (read_stored bsize size 0 records h.rest h.each h.short)

-- ---- stored bytes

pub length_stored : (format : Format) (records : List (List ℕ)) → length (stored format records) ≡ stored_size format records
unfolding stored_size
length_stored F [] = refl
length_stored F (r ∷ rs) = length-append r (concat rs) ∙ ap (λ (n : ℕ). length r + n) (length_stored F rs) ∙ sym (sum_by-cons length r rs)
length_stored V [] = refl
length_stored V (r ∷ rs) =
    length-append (with_length r) (stored V rs) ∙ ap (λ (n : ℕ). length (with_length r) + n) (length_stored V rs) ∙ ap (λ (n : ℕ). n + stored_size V rs) (length-with_length r)
    ∙ sym (sum_by-cons (λ (text : List ℕ). 2 + length text) r rs)

-- records of one list of bytes, of a format, length and count, are the same
same_stored : (format : Format) (size : ℕ) (some others : List (List ℕ)) → stored format some ≡ stored format others → All (Fits format size) some → All (Fits format size) others
    → length some ≡ length others → some ≡ others
same_stored F size some others same all all' count =
    let again = cut_stored size some [] all in
    let again' = cut_stored size others [] all' in
    sym again ∙ ap (λ (l : List ℕ). cut (length some) size (l ++ [])) same ∙ ap (λ (n : ℕ). cut n size (concat others ++ [])) count ∙ again'
same_stored V size some others same all all' count =
    let again = read_stored 1 size 0 some [] all (omega arith) in
    let again' = read_stored 1 size 0 others [] all' (omega arith) in
    ok_same some others (sym again ∙ ap (λ (l : List ℕ). varying 1 (length some) 0 (l ++ [])) same ∙ ap (λ (n : ℕ). varying 1 n 0 (stored V others ++ [])) count ∙ again')

pub stands_for_one : (f : FileData) (some others : List (List ℕ)) → StandsFor f some → StandsFor f others → some ≡ others
stands_for_one f some others s o = same_stored f.format f.length some others (sym s.bytes_are ∙ o.bytes_are) s.each o.each (sym s.count_is ∙ o.count_is)

-- ---- at least one record

some_stored : (format : Format) (size : ℕ) (records : List (List ℕ)) → 1 ≤ size → All (Fits format size) records → 1 ≤ length records → 1 ≤ length (stored format records)
some_stored format size [] wide all some = absurd (omega arith)
some_stored F size (r ∷ rs) wide all some =
    let one : length r ≡ size = All-head (Fits F size) r rs all in
    let long : length (r ++ concat rs) ≡ length r + length (concat rs) = length-append r (concat rs) in
    omega arith
some_stored V size (r ∷ rs) wide all some =
    let one : length (with_length r) ≡ 2 + length r = length-with_length r in
    let long : length (with_length r ++ stored V rs) ≡ length (with_length r) + length (stored V rs) = length-append (with_length r) (stored V rs) in
    omega arith

pub valid_has_records : ValidHasRecords
valid_has_records f valid =
    let s = valid.stands in
    let some = s.some in
    let count = s.count_is in
    let bytes = some_stored f.format f.length valid.records s.length_fits.0 s.each some in
    (omega arith, subst (λ (l : List ℕ). 1 ≤ length l) (sym s.bytes_are) bytes)
