-- Records of varying lengths, one after another.
use Rattle.std.proofs.Common.{◌≡◌, ℕ, zero, suc, ◌+◌, ◌-◌, ◌≤◌, ◌<◌, Bool, true, false, List, [], ◌∷◌, length, take, drop, Result, Ok, Err, refl, sym, ◌∙◌, ap, subst, arith}
use Rattle.std.specs.Prelude.{max, nat_le, nat_lt}
use Rattle.std.proofs.lemmas.List.{drop-drop, length-drop, length-take-le}
use Rattle.std.proofs.lemmas.Bool.{leb-true}
use Rattle.cms_fields.specs.Steps.{◌>>=◌, ◌>>◌, want}
use Rattle.cms_text.specs.Bytes.{half}
use Rattle.cms_model.specs.Records.{varying, longest}
use Rattle.cms_model.specs.declared.fault.VarFault.{VarFault}
use Rattle.cms_model.specs.declared.fault.VarFault.TheVariants.{Zero, PastEnd, Left}
use Rattle.cms_records.specs.Views.{first_size, longest_in, front, BeginWith}

abbrev Records : Type 0
Records = Result (List (List ℕ)) VarFault

-- the records behind the first
abbrev pub behind : ℕ → ℕ → ℕ → List ℕ → ℕ → Records
behind bsize n place bytes size = varying bsize n (place + (2 + size)) (drop (2 + size) bytes) >>= λ more. Ok (take size (drop 2 bytes) ∷ more)

tests_then : {B : Type 0} (a b c : Bool) (d e f : VarFault) (size : ℕ) (rest : ℕ → Result B VarFault)
    → (want a d >> (want b e >> (want c f >> rest size))) ≡ ((want a d >> (want b e >> (want c f >> Ok size))) >>= rest)
tests_then false b c d e f size rest = refl
tests_then true false c d e f size rest = refl
tests_then true true false d e f size rest = refl
tests_then true true true d e f size rest = refl

-- the first record, and those behind it
pub varying_next : (bsize n place : ℕ) (bytes : List ℕ) → varying bsize (suc n) place bytes ≡ (first_size place bytes >>= behind bsize n place bytes)
unfolding varying first_size
varying_next bsize n place bytes = tests_then (nat_le 2 (length bytes)) (nat_le 1 (half bytes 0)) (nat_le (2 + half bytes 0) (length bytes)) (PastEnd place) (Zero place) (PastEnd place) (half bytes 0)
    (behind bsize n place bytes)

-- what the length of a first record tells
pub record Begins (bytes : List ℕ) (size : ℕ) : Type 0 where
  pub is : half bytes 0 ≡ size
  pub two : 2 ≤ length bytes
  pub some : 1 ≤ size
  pub within : 2 + size ≤ length bytes

tests_ok : (a b c : Bool) (d e f : VarFault) (half' size : ℕ) → (want a d >> (want b e >> (want c f >> Ok half'))) ≡ Ok size → (a ≡ true) × (b ≡ true) × (c ≡ true) × (half' ≡ size)
tests_ok false b c d e f half' size is = absurd (cc)
tests_ok true false c d e f half' size is = absurd (cc)
tests_ok true true false d e f half' size is = absurd (cc)
tests_ok true true true d e f half' size is = (refl, refl, refl, cc)

pub first_begins : (place : ℕ) (bytes : List ℕ) (size : ℕ) → first_size place bytes ≡ Ok size → Begins bytes size
unfolding first_size
first_begins place bytes size is =
    let all = tests_ok (nat_le 2 (length bytes)) (nat_le 1 (half bytes 0)) (nat_le (2 + half bytes 0) (length bytes)) (PastEnd place) (Zero place) (PastEnd place) (half bytes 0) size is in
    let same = all.3 in
    record {
      is = same;
      two = leb-true 2 (length bytes) all.0;
      some = subst (λ (n : ℕ). 1 ≤ n) same (leb-true 1 (half bytes 0) all.1);
      within = subst (λ (n : ℕ). 2 + n ≤ length bytes) same (leb-true (2 + half bytes 0) (length bytes) all.2);
    }

pub first_within : (place : ℕ) (bytes : List ℕ) (size : ℕ) → first_size place bytes ≡ Ok size → 2 + size ≤ length bytes
first_within place bytes size is = (first_begins place bytes size is).within

-- ---- the longest

-- the longest of a length and of records
abbrev pub with_longest : ℕ → Records → Result ℕ VarFault
with_longest size read = read >>= λ records. Ok (max size (longest records))

-- so many records are left from a place on, and the longest so far has this length
abbrev pub Comes : ℕ → ℕ → List ℕ → ℕ → ℕ → ℕ → Type 0
Comes bsize count bytes left place size = longest_in bsize count bytes ≡ with_longest size (varying bsize left place (drop place bytes))

with_none : (read : Records) → (read >>= λ records. Ok (longest records)) ≡ with_longest 0 read
with_none (Ok records) = let e : longest records ≡ max 0 (longest records) = omega arith in ap (λ (n : ℕ). Ok n) e
with_none (Err e) = refl

pub comes_first : (bsize count : ℕ) (bytes : List ℕ) → Comes bsize count bytes count 0 0
comes_first bsize count bytes = with_none (varying bsize count 0 bytes)

with_next : (size long : ℕ) (text : List ℕ) (read : Records) → length text ≡ long → with_longest size (read >>= λ more. Ok (text ∷ more)) ≡ with_longest (max size long) read
unfolding longest
with_next size long text (Ok records) is = let e : max size (max (length text) (longest records)) ≡ max (max size long) (longest records) = omega arith in ap (λ (n : ℕ). Ok n) e
with_next size long text (Err e) is = refl

pub comes_next : (bsize count : ℕ) (bytes : List ℕ) (left place size long : ℕ) → Comes bsize count bytes left place size → 0 < left → first_size place (drop place bytes) ≡ Ok long
    → Comes bsize count bytes (left - 1) (place + (2 + long)) (max size long)
comes_next bsize count bytes zero place size long comes some is = absurd (omega arith)
comes_next bsize count bytes (suc n) place size long comes some is =
    let rest = drop place bytes in
    let begins = first_begins place rest long is in
    let within = begins.within in
    let text : length (take long (drop 2 rest)) ≡ long = length-take-le long (drop 2 rest) (omega (arith, length-drop 2 rest)) in
    let down : suc n - 1 ≡ n = omega arith in
    let further : drop (2 + long) rest ≡ drop (place + (2 + long)) bytes = drop-drop (2 + long) place bytes in
    let first : varying bsize (suc n) place rest ≡ behind bsize n place rest long = varying_next bsize n place rest ∙ ap (λ (r : Result ℕ VarFault). r >>= behind bsize n place rest) is in
    rw (down, ← further)
    (comes ∙ ap (with_longest size) first ∙ with_next size long (take long (drop 2 rest)) (varying bsize n (place + (2 + long)) (drop (2 + long) rest)) text)

pub comes_to_fault : (bsize count : ℕ) (bytes : List ℕ) (left place size : ℕ) (fault : VarFault) → Comes bsize count bytes left place size → 0 < left → first_size place (drop place bytes) ≡ Err fault
    → longest_in bsize count bytes ≡ Err fault
comes_to_fault bsize count bytes zero place size fault comes some is = absurd (omega arith)
comes_to_fault bsize count bytes (suc n) place size fault comes some is =
    let rest = drop place bytes in
    let first : varying bsize (suc n) place rest ≡ Err fault = varying_next bsize n place rest ∙ ap (λ (r : Result ℕ VarFault). r >>= behind bsize n place rest) is in
    comes ∙ ap (with_longest size) first

pub comes_to_end : (bsize count : ℕ) (bytes : List ℕ) (left place size : ℕ) → Comes bsize count bytes left place size → left ≡ 0 → nat_lt (length (drop place bytes)) bsize ≡ true
    → longest_in bsize count bytes ≡ Ok size
unfolding varying longest
comes_to_end bsize count bytes left place size comes none fits =
    let e : max size 0 ≡ size = omega arith in
    let here : with_longest size (varying bsize left place (drop place bytes)) ≡ Ok size = rw (none, fits) (ap (λ (n : ℕ). Ok n) e) in
    comes ∙ here

pub comes_to_left : (bsize count : ℕ) (bytes : List ℕ) (left place size : ℕ) → Comes bsize count bytes left place size → left ≡ 0 → nat_lt (length (drop place bytes)) bsize ≡ false
    → longest_in bsize count bytes ≡ Err (Left place)
unfolding varying
comes_to_left bsize count bytes left place size comes none over =
    let here : with_longest size (varying bsize left place (drop place bytes)) ≡ Err (Left place) = rw (none, over) refl in
    comes ∙ here

-- ---- the records themselves

pub bind_ok : {A B C : Type 0} (r : Result A VarFault) (f : A → Result B VarFault) (y : B) → (r >>= f) ≡ Ok y → ((x : A) → r ≡ Ok x → f x ≡ Ok y → C) → C
bind_ok (Ok x) f y is go = go x refl is
bind_ok (Err e) f y is go = absurd (cc)

pub record Reads (n : ℕ) (bytes : List ℕ) (records : List (List ℕ)) : Type 0 where
  pub begin : BeginWith n bytes
  pub front_is : front n bytes ≡ records

pub varying_reads : (bsize n place : ℕ) (bytes : List ℕ) (records : List (List ℕ)) → varying bsize n place bytes ≡ Ok records → Reads n bytes records
unfolding varying front BeginWith
varying_reads bsize zero place bytes records is = record { begin = tt; front_is = none (nat_lt (length bytes) bsize) is }
  where
    none : (b : Bool) → (want b (Left place) >> Ok []) ≡ Ok records → [] ≡ records
    none true e = cc
    none false e = absurd (cc)
varying_reads bsize (suc n) place bytes records is =
    bind_ok (first_size place bytes) (behind bsize n place bytes) records (sym (varying_next bsize n place bytes) ∙ is) (λ size is_size e1.
    bind_ok (varying bsize n (place + (2 + size)) (drop (2 + size) bytes)) _ records e1 (λ more is_more e2.
    both size more (first_begins place bytes size is_size) (varying_reads bsize n (place + (2 + size)) (drop (2 + size) bytes) more is_more) (cc e2)))
  where
    both : (size : ℕ) (more : List (List ℕ)) → Begins bytes size → Reads n (drop (2 + size) bytes) more → take size (drop 2 bytes) ∷ more ≡ records → Reads (suc n) bytes records
    both size more b r done =
        record {
          begin = (
            b.two,
            subst (λ (m : ℕ). 1 ≤ m) (sym b.is) b.some,
            subst (λ (m : ℕ). 2 + m ≤ length bytes) (sym b.is) b.within,
            subst (λ (m : ℕ). BeginWith n (drop (2 + m) bytes))
                (sym b.is) r.begin,
          );
          front_is = rw (b.is, r.front_is) done;
        }

-- where the longest is found, so are the records
pub longest_reads : (bsize count : ℕ) (bytes : List ℕ) (size : ℕ) → longest_in bsize count bytes ≡ Ok size → (varying bsize count 0 bytes ≡ Ok (front count bytes)) × BeginWith count bytes
longest_reads bsize count bytes size is =
    bind_ok (varying bsize count 0 bytes) _ size is (λ records is_read e.
    let reads = varying_reads bsize count 0 bytes records is_read in
    (is_read ∙ ap (λ (l : List (List ℕ)). Ok l) (sym reads.front_is), reads.begin))

pub longest_fails : (bsize count : ℕ) (bytes : List ℕ) (fault : VarFault) → longest_in bsize count bytes ≡ Err fault → varying bsize count 0 bytes ≡ Err fault
longest_fails bsize count bytes fault is = go (varying bsize count 0 bytes) is
  where
    go : (read : Records) → (read >>= λ records. Ok (longest records)) ≡ Err fault → read ≡ Err fault
    go (Ok records) e = absurd (cc)
    go (Err d) e = cc

pub begin_next : (n : ℕ) (bytes : List ℕ) → BeginWith n bytes → 0 < n
    → (2 ≤ length bytes) × (2 + half bytes 0 ≤ length bytes) × BeginWith (n - 1) (drop (2 + half bytes 0) bytes)
    × (front n bytes ≡ take (half bytes 0) (drop 2 bytes) ∷ front (n - 1) (drop (2 + half bytes 0) bytes))
unfolding front BeginWith
begin_next zero bytes begin some = absurd (omega arith)
begin_next (suc n) bytes begin some = let down : suc n - 1 ≡ n = omega arith in rw down (begin.0, begin.2, begin.3, refl)

pub begin_none : (n : ℕ) (bytes : List ℕ) → n ≡ 0 → front n bytes ≡ []
unfolding front
begin_none n bytes none = rw none refl

pub length-front : (n : ℕ) (bytes : List ℕ) → length (front n bytes) ≡ n
unfolding front
length-front zero bytes = refl
length-front (suc n) bytes = ap suc (length-front n (drop (2 + half bytes 0) bytes))
