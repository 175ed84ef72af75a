-- Bytes that only go on with the record that is begun.
use Rattle.std.proofs.Common.{◌≡◌, ◌∙◌, ℕ, suc, ◌+◌, ◌<◌, ◌≤◌, Bool, true, false, ◌==◌, ◌&&◌, not, if◌then◌else◌, List, [], ◌∷◌, ◌++◌, length, map, take, drop, Option, Ok, refl, ap, sym, subst, arith, append-nil, append_assoc, nat_lt}
use Rattle.std.specs.List.{list_all}
use Rattle.std.proofs.lemmas.Bool.{and_parts, lt-ltb}
use Rattle.std.proofs.lemmas.List.{drop-drop, length-drop, length_push, length-take-le, take-append-drop}
use Rattle.cms_text.proofs.Numerals.{same_false as unequal}
use Rattle.mini_forms.specs.Page.{code_of}
use Rattle.mini_forms.specs.Lines.{fresh_step, is_simple, step_of}
use Rattle.mini_forms.specs.RecordReads.{Reader, Skips, SkipsFront, begun, block_fed, fed, line_fed, most_of, read_from}
use Rattle.mini_forms.specs.declared.place.Place.{Place}
use Rattle.mini_forms.specs.declared.place.Place.TheVariants.{Line, Block}
use Rattle.mini_forms.specs.declared.step.Begun.TheVariants.{Fresh, LowHalf, HighHalf, Return}
use Rattle.mini_forms.specs.declared.step.Step.{Step}
use Rattle.mini_forms.specs.declared.step.Step.TheVariants.{Adds, Goes, Ends, NoCharacter}
use Rattle.mini_forms.proofs.Steps.{goes_on, midway}

-- ---- nothing is skipped

same_begun : (s : Reader) (bytes : List ℕ) → read_from s bytes ≡ read_from (begun s) bytes
unfolding read_from
same_begun s [] = refl
same_begun s (b ∷ rest) = refl

-- behind a whole record the next one begins
pub skips_from : (s b t : Reader) (bytes : List ℕ) (from n : ℕ) → b ≡ begun s → from < length bytes → SkipsFront b t (drop from bytes) n
    → Skips s t bytes from (from + n)
skips_from s b t bytes from n is here p =
    let q = subst (λ (x : Reader). SkipsFront x t (drop from bytes) n) is p in
    let long = length-drop from bytes in
    let few = q.few in
    record {
      after = omega arith;
      few = omega arith;
      reads = λ rest. same_begun s (drop from bytes ++ rest) ∙ q.reads rest
          ∙ ap (λ (l : List ℕ). read_from t (l ++ rest)) (drop-drop n from bytes);
      size = q.size;
      count = q.count;
    }

pub skips_none : (s : Reader) (bytes : List ℕ) → 0 < length bytes → SkipsFront s s bytes 0
skips_none s bytes some = record { few = some; reads = λ rest. refl; size = refl; count = refl }

-- a reading within a record is one of its place
within_one : (s : Reader) (place : Place) → s.place ≡ place → s.whole ≡ false → s ≡ midway place s.bytes s.count s.stored
within_one s place at fresh =
    ap (λ (x : Place). record { place = x; bytes = s.bytes; whole = s.whole; count = s.count; stored = s.stored }) at
    ∙ ap (λ (x : Bool). record { place = place; bytes = s.bytes; whole = x; count = s.count; stored = s.stored }) fresh

-- the same reading, but for its bytes
pub record IsMore (s t : Reader) (bytes : List ℕ) : Type 0 where
  pub place : t.place ≡ s.place
  pub bytes_are : t.bytes ≡ s.bytes ++ bytes
  pub whole : t.whole ≡ s.whole
  pub count : t.count ≡ s.count
  pub stored : t.stored ≡ s.stored

more_is : (s t : Reader) (place : Place) (bytes : List ℕ) → s.place ≡ place → s.whole ≡ false → IsMore s t bytes
    → t ≡ midway place (s.bytes ++ bytes) s.count s.stored
more_is s t place bytes at fresh p =
    within_one t place (p.place ∙ at) (p.whole ∙ fresh)
    ∙ ap (λ (x : List ℕ). midway place x t.count t.stored) p.bytes_are
    ∙ ap (λ (x : ℕ). midway place (s.bytes ++ bytes) x t.stored) p.count
    ∙ ap (λ (x : ℕ). midway place (s.bytes ++ bytes) s.count x) p.stored

skips_as : (s t : Reader) (place : Place) (bytes more : List ℕ) (n : ℕ) → s.place ≡ place → s.whole ≡ false → IsMore s t more
    → SkipsFront (midway place s.bytes s.count s.stored) (midway place (s.bytes ++ more) s.count s.stored) bytes n → SkipsFront s t bytes n
skips_as s t place bytes more n at fresh p q =
    subst (λ (x : Reader). SkipsFront x t bytes n) (sym (within_one s place at fresh))
    (subst (λ (x : Reader). SkipsFront (midway place s.bytes s.count s.stored) x bytes n) (sym (more_is s t place more at fresh p)) q)

-- ---- characters of a line

simple_step : (b : ℕ) → is_simple b ≡ true → step_of Fresh b ≡ Adds b
unfolding step_of fresh_step
simple_step b is = at (b == 10) (b == 13) (nat_lt b 128) is
  where
    at : (x y z : Bool) → (not x && (not y && z)) ≡ true
        → (if x then Ends else if y then Goes Return else if z then Adds b else if b == 0xC2 then Goes LowHalf else if b == 0xC3 then Goes HighHalf else NoCharacter)
        ≡ Adds b
    at true y z e = absurd (cc e)
    at false true z e = absurd (cc e)
    at false false true e = refl
    at false false false e = absurd (cc e)

added : (size : Option ℕ) (x : ℕ) (came : List ℕ) (count stored : ℕ) → length came < most_of size
    → line_fed size (Adds x) (midway (Line size Fresh) came count stored) ≡ Ok (midway (Line size Fresh) (came ++ code_of x ∷ []) count stored)
unfolding line_fed
added size x came count stored room =
    let less : nat_lt (length came) (most_of size) ≡ true = lt-ltb (length came) (most_of size) room in
    rw less refl

one_simple : (size : Option ℕ) (x : ℕ) (rest came : List ℕ) (count stored : ℕ) → is_simple x ≡ true → length came < most_of size
    → read_from (midway (Line size Fresh) came count stored) (x ∷ rest) ≡ read_from (midway (Line size Fresh) (came ++ code_of x ∷ []) count stored) rest
one_simple size x rest came count stored is room =
    goes_on (midway (Line size Fresh) came count stored) x rest (Line size Fresh) (came ++ code_of x ∷ []) count stored
    (ap (λ (step : Step). line_fed size step (midway (Line size Fresh) came count stored)) (simple_step x is) ∙ added size x came count stored room)

all_simple : (size : Option ℕ) (xs rest came : List ℕ) (count stored : ℕ) → list_all is_simple xs ≡ true → length came + length xs ≤ most_of size
    → read_from (midway (Line size Fresh) came count stored) (xs ++ rest) ≡ read_from (midway (Line size Fresh) (came ++ map code_of xs) count stored) rest
all_simple size [] rest came count stored all room =
    ap (λ (l : List ℕ). read_from (midway (Line size Fresh) l count stored) rest) (sym (append-nil came))
all_simple size (x ∷ xs) rest came count stored all room =
    let both = and_parts (is_simple x) (list_all is_simple xs) all in
    let long = length_push came (code_of x) in
    one_simple size x (xs ++ rest) came count stored both.0 (omega arith)
    ∙ all_simple size xs rest (came ++ code_of x ∷ []) count stored both.1 (omega arith)
    ∙ ap (λ (l : List ℕ). read_from (midway (Line size Fresh) l count stored) rest) (append_assoc came (code_of x ∷ []) (map code_of xs))

split : (n : ℕ) (bytes rest : List ℕ) → bytes ++ rest ≡ take n bytes ++ (drop n bytes ++ rest)
split n bytes rest =
    ap (λ (l : List ℕ). l ++ rest) (sym (take-append-drop n bytes)) ∙ append_assoc (take n bytes) (drop n bytes) rest

skips_simple : (size : Option ℕ) (came bytes : List ℕ) (count stored n : ℕ) → n < length bytes → list_all is_simple (take n bytes) ≡ true
    → length came + n ≤ most_of size
    → SkipsFront (midway (Line size Fresh) came count stored) (midway (Line size Fresh) (came ++ map code_of (take n bytes)) count stored) bytes n
skips_simple size came bytes count stored n few all room =
    let long = length-take-le n bytes (omega arith) in
    record {
      few = few;
      reads = λ rest. ap (λ (l : List ℕ). read_from (midway (Line size Fresh) came count stored) l) (split n bytes rest)
          ∙ all_simple size (take n bytes) (drop n bytes ++ rest) came count stored all (omega arith);
      size = refl;
      count = refl;
    }

pub skips_characters : (s t : Reader) (size : Option ℕ) (bytes : List ℕ) (n : ℕ) → s.place ≡ Line size Fresh → s.whole ≡ false → n < length bytes
    → list_all is_simple (take n bytes) ≡ true → length s.bytes + n ≤ most_of size → IsMore s t (map code_of (take n bytes)) → SkipsFront s t bytes n
skips_characters s t size bytes n at fresh few all room p =
    skips_as s t (Line size Fresh) bytes (map code_of (take n bytes)) n at fresh p (skips_simple size s.bytes bytes s.count s.stored n few all room)

-- ---- bytes of a record of one size

within : (n x : ℕ) (came : List ℕ) (count stored : ℕ) → length came + 1 < n
    → block_fed n x (midway (Block n) came count stored) ≡ Ok (midway (Block n) (came ++ x ∷ []) count stored)
unfolding block_fed
within n x came count stored room =
    let apart : (length came + 1 == n) ≡ false = unequal (length came + 1) n (λ (e : length came + 1 ≡ n). omega arith) in
    rw apart refl

one_within : (n x : ℕ) (rest came : List ℕ) (count stored : ℕ) → length came + 1 < n
    → read_from (midway (Block n) came count stored) (x ∷ rest) ≡ read_from (midway (Block n) (came ++ x ∷ []) count stored) rest
one_within n x rest came count stored room =
    goes_on (midway (Block n) came count stored) x rest (Block n) (came ++ x ∷ []) count stored (within n x came count stored room)

all_within : (n : ℕ) (xs rest came : List ℕ) (count stored : ℕ) → length came + length xs < n
    → read_from (midway (Block n) came count stored) (xs ++ rest) ≡ read_from (midway (Block n) (came ++ xs) count stored) rest
all_within n [] rest came count stored room = ap (λ (l : List ℕ). read_from (midway (Block n) l count stored) rest) (sym (append-nil came))
all_within n (x ∷ xs) rest came count stored room =
    let long = length_push came x in
    one_within n x (xs ++ rest) came count stored (omega arith)
    ∙ all_within n xs rest (came ++ x ∷ []) count stored (omega arith)
    ∙ ap (λ (l : List ℕ). read_from (midway (Block n) l count stored) rest) (append_assoc came (x ∷ []) xs)

skips_within : (size : ℕ) (came bytes : List ℕ) (count stored n : ℕ) → n < length bytes → length came + n < size
    → SkipsFront (midway (Block size) came count stored) (midway (Block size) (came ++ take n bytes) count stored) bytes n
skips_within size came bytes count stored n few room =
    let long = length-take-le n bytes (omega arith) in
    record {
      few = few;
      reads = λ rest. ap (λ (l : List ℕ). read_from (midway (Block size) came count stored) l) (split n bytes rest)
          ∙ all_within size (take n bytes) (drop n bytes ++ rest) came count stored (omega arith);
      size = refl;
      count = refl;
    }

pub skips_bytes : (s t : Reader) (size : ℕ) (bytes : List ℕ) (n : ℕ) → s.place ≡ Block size → s.whole ≡ false → n < length bytes → length s.bytes + n < size
    → IsMore s t (take n bytes) → SkipsFront s t bytes n
skips_bytes s t size bytes n at fresh few room p =
    skips_as s t (Block size) bytes (take n bytes) n at fresh p (skips_within size s.bytes bytes s.count s.stored n few room)
