-- What is written of records is read as these records.
use Rattle.std.proofs.Common.{◌≡◌, ◌∙◌, ℕ, suc, ◌+◌, ◌-◌, ◌*◌, ◌/◌, ◌%◌, ◌^◌, ◌<◌, ◌≤◌, Bool, true, false, ◌==◌, if◌then◌else◌, List, [], ◌∷◌, ◌++◌, length, map, replicate, All, Option, None, Result, Ok, refl, ap, sym, subst, arith, append-nil, append_assoc, nat_le, nat_lt, ⊎_elim}
use Rattle.std.specs.List.{AllByRecursion, concat, list_all}
use Rattle.std.specs.Str.{bytes_eq}
use Rattle.std.proofs.lemmas.Bool.{and_parts, cases_lt, eq-eqb, le-leb, le-ltb, lt-ltb}
use Rattle.std.proofs.lemmas.List.{length_push, take_all}
use Rattle.std.proofs.lemmas.List.Elements.{All-head, All-tail}
use Rattle.std.proofs.lemmas.Slice.Eq.{bytes_eq-Decides}
use Rattle.std.specs.Int.{bytes_high_first}
use Rattle.cms_fields.specs.Limits.{longest_record, most_bytes, most_records}
use Rattle.cms_fields.specs.Steps.{◌>>=◌}
use Rattle.cms_names.specs.declared.name.Format.{Format}
use Rattle.cms_names.specs.declared.name.Format.TheVariants.{F, V}
use Rattle.cms_model.specs.Records.{Fits, with_length}
use Rattle.cms_records.specs.Views.{fitted}
use Rattle.cms_text.proofs.Numerals.{same_false as unequal}
use Rattle.mini_forms.specs.Page.{character_of, code_of}
use Rattle.mini_forms.specs.Lines.{text_of, utf8, step_of, fresh_step, second_byte}
use Rattle.mini_forms.specs.Output.{is_line, is_plain, line_of, shown}
use Rattle.mini_forms.specs.RecordReads.{Reader, block_fed, ended, ended_at, is_length, line_fed, most_of, read_from, record_of, size_in, stored_fed, stored_size, whole_in}
use Rattle.mini_forms.specs.Laws.{size_of}
use Rattle.mini_forms.specs.declared.form.FormFault.{FormFault}
use Rattle.mini_forms.specs.declared.place.Head.TheVariants.{Start, High, Left}
use Rattle.mini_forms.specs.declared.place.Place.{Place}
use Rattle.mini_forms.specs.declared.place.Place.TheVariants.{Line, Block, Stored}
use Rattle.mini_forms.specs.declared.step.Begun.TheVariants.{Fresh, LowHalf, HighHalf}
use Rattle.mini_forms.proofs.Tables.{character_fits, plain_character, there}
use Rattle.mini_forms.proofs.TrailingBytes.{is_stripped, kept_before, replaced, strip, strip_few}
use Rattle.mini_forms.proofs.Steps.{counts, ends_one, goes_on, in_front, midway, behind}

-- ---- lines

-- a code whose character stands within a line
abbrev pub IsWithin : ℕ → Type 0
IsWithin code = (code < 256) × (is_plain code ≡ true)

pub within_from : (codes : List ℕ) → All (λ x. x < 256) codes → is_line codes ≡ true → AllByRecursion IsWithin codes
within_from [] bytes plain = tt
within_from (x ∷ xs) bytes plain =
    let both = and_parts (is_plain x) (list_all is_plain xs) plain in
    ((All-head (λ y. y < 256) x xs bytes, both.0), within_from xs (All-tail (λ y. y < 256) x xs bytes) both.1)

-- a character goes to the line as its code
pub character_back : (size : Option ℕ) (line : List ℕ) (count stored c : ℕ) (rest : List ℕ) → c < 256 → (c == 10) ≡ false → (c == 13) ≡ false → length line < most_of size
    → read_from (midway (Line size Fresh) line count stored) (utf8 c ++ rest)
    ≡ read_from (midway (Line size Fresh) (line ++ code_of c ∷ []) count stored) rest
unfolding utf8 step_of fresh_step second_byte line_fed
character_back size line count stored c rest fits no_feed no_return room =
    let r : nat_lt (length line) (most_of size) ≡ true = lt-ltb (length line) (most_of size) room in
    ⊎_elim
    (λ (low : c < 128). let a : nat_lt c 128 ≡ true = lt-ltb c 128 low in
    rw a (goes_on (midway (Line size Fresh) line count stored) c rest (Line size Fresh) (line ++ code_of c ∷ []) count stored (rw (no_feed, no_return, a, r) refl)))
    (λ (high : 128 ≤ c). let a : nat_lt c 128 ≡ false = le-ltb c 128 high in
    ⊎_elim
    (λ (mid : c < 192). let b : nat_lt c 192 ≡ true = lt-ltb c 192 mid in
    let d : nat_le 0x80 c ≡ true = le-leb 0x80 c high in
    let e : nat_le c 0xBF ≡ true = le-leb c 0xBF (omega arith) in
    let s : c + 0 ≡ c = omega arith in
    rw (a, b) (goes_on (midway (Line size Fresh) line count stored) 0xC2 (c ∷ rest) (Line size LowHalf) line count stored refl
    ∙ goes_on (midway (Line size LowHalf) line count stored) c rest (Line size Fresh) (line ++ code_of c ∷ []) count stored (rw (d, e, s, r) refl)))
    (λ (top : 192 ≤ c). let b : nat_lt c 192 ≡ false = le-ltb c 192 top in
    let d : nat_le 0x80 (c - 64) ≡ true = le-leb 0x80 (c - 64) (omega arith) in
    let e : nat_le (c - 64) 0xBF ≡ true = le-leb (c - 64) 0xBF (omega arith) in
    let s : (c - 64) + 64 ≡ c = omega arith in
    rw (a, b) (goes_on (midway (Line size Fresh) line count stored) 0xC3 ((c - 64) ∷ rest) (Line size HighHalf) line count stored refl
    ∙ goes_on (midway (Line size HighHalf) line count stored) (c - 64) rest (Line size Fresh) (line ++ code_of c ∷ []) count stored (rw (d, e, s, r) refl)))
    (cases_lt c 192))
    (cases_lt c 128)

pub line_back : (size : Option ℕ) (line codes : List ℕ) (count stored : ℕ) (rest : List ℕ) → AllByRecursion IsWithin codes → length line + length codes ≤ most_of size
    → read_from (midway (Line size Fresh) line count stored) (text_of codes ++ rest) ≡ read_from (midway (Line size Fresh) (line ++ codes) count stored) rest
line_back size line [] count stored rest a room =
    ap (λ (l : List ℕ). read_from (midway (Line size Fresh) l count stored) rest) (sym (append-nil line))
line_back size line (x ∷ xs) count stored rest a room =
    let p = plain_character x a.0.0 a.0.1 in
    let l = length_push line x in
    ap (λ (l : List ℕ). read_from (midway (Line size Fresh) line count stored) l) (append_assoc (utf8 (character_of x)) (text_of xs) rest)
    ∙ character_back size line count stored (character_of x) (text_of xs ++ rest) (character_fits x a.0.0) p.0 p.1 (omega arith)
    ∙ ap (λ (y : ℕ). read_from (midway (Line size Fresh) (line ++ y ∷ []) count stored) (text_of xs ++ rest)) (there x a.0.0)
    ∙ line_back size (line ++ x ∷ []) xs count stored rest a.1 (omega arith)
    ∙ ap (λ (l : List ℕ). read_from (midway (Line size Fresh) l count stored) rest) (append_assoc line (x ∷ []) xs)

pub end_back : (size : Option ℕ) (codes : List ℕ) (count stored : ℕ) (rest : List ℕ) → count < most_records
    → stored + stored_size size (length (record_of size codes)) ≤ most_bytes
    → read_from (midway (Line size Fresh) codes count stored) (10 ∷ rest)
    ≡ in_front (record_of size codes) (read_from (midway (Line size Fresh) [] (count + 1) (stored + stored_size size (length (record_of size codes)))) rest)
unfolding step_of fresh_step line_fed
end_back size codes count stored rest few short =
    ends_one (midway (Line size Fresh) codes count stored) 10 rest (Line size Fresh) (record_of size codes) (count + 1)
    (stored + stored_size size (length (record_of size codes))) (counts (Line size Fresh) (record_of size codes) count stored few short)

within_more : (b x : ℕ) (t : List ℕ) → IsWithin x → AllByRecursion IsWithin t → AllByRecursion IsWithin (kept_before b x t)
within_more b x [] is all = alone (x == b)
  where
    alone : (c : Bool) → AllByRecursion IsWithin (if c then [] else x ∷ [])
    alone true = tt
    alone false = (is, tt)
within_more b x (y ∷ ys) is all = (is, all)

strip_within : (b : ℕ) (xs : List ℕ) → AllByRecursion IsWithin xs → AllByRecursion IsWithin (strip b xs)
strip_within b [] all = tt
strip_within b (x ∷ xs) all = within_more b x (strip b xs) all.0 (strip_within b xs all.1)

shown_within : (format : Format) (codes : List ℕ) → AllByRecursion IsWithin codes → AllByRecursion IsWithin (shown format codes)
unfolding shown
shown_within F codes all = subst (AllByRecursion IsWithin) (sym (is_stripped 0x40 codes)) (strip_within 0x40 codes all)
shown_within V codes all = alone (bytes_eq codes (0x40 ∷ []))
  where
    alone : (c : Bool) → AllByRecursion IsWithin (if c then [] else codes)
    alone true = tt
    alone false = all

shown_few : (format : Format) (codes : List ℕ) → length (shown format codes) ≤ length codes
unfolding shown
shown_few F codes = let few = strip_few 0x40 codes in subst (λ (l : List ℕ). length l ≤ length codes) (sym (is_stripped 0x40 codes)) few
shown_few V codes = alone (bytes_eq codes (0x40 ∷ []))
  where
    alone : (c : Bool) → length (if c then [] else codes) ≤ length codes
    alone true = omega arith
    alone false = omega arith

-- the record of what a line shows of a record is this record
pub shown_back : (format : Format) (size : ℕ) (codes : List ℕ) → Fits format size codes → record_of (size_of format size) (shown format codes) ≡ codes
unfolding shown record_of
shown_back F size codes fits =
    let t = strip 0x40 codes in
    let few = strip_few 0x40 codes in
    ap (λ (l : List ℕ). fitted l size 0x40) (is_stripped 0x40 codes)
    ∙ ap (λ (l : List ℕ). l ++ replicate (size - length t) 0x40) (take_all size t (omega arith))
    ∙ ap (λ (n : ℕ). t ++ replicate (n - length t) 0x40) (sym fits)
    ∙ sym (replaced 0x40 codes)
shown_back V size [] fits = absurd (let some = fits.0 in omega arith)
shown_back V size (x ∷ xs) fits = alone (bytes_eq (x ∷ xs) (0x40 ∷ [])) refl
  where
    alone : (c : Bool) → bytes_eq (x ∷ xs) (0x40 ∷ []) ≡ c → record_of None (if c then [] else x ∷ xs) ≡ x ∷ xs
    alone true e = sym ((bytes_eq-Decides (x ∷ xs) (0x40 ∷ [])).0 e)
    alone false e = refl

fits_most : (format : Format) (size : ℕ) (codes : List ℕ) → Fits format size codes → length codes ≤ most_of (size_of format size)
fits_most F size codes fits = omega arith
fits_most V size codes fits = fits.1

-- ---- each record, behind those before

abbrev pub ReadsOne : Place → (List ℕ → List ℕ) → List ℕ → Type 0
ReadsOne place one codes =
    (count stored : ℕ) (rest : List ℕ) → count < most_records → stored + stored_size (size_in place) (length codes) ≤ most_bytes
    → read_from (midway place [] count stored) (one codes ++ rest)
    ≡ in_front codes (read_from (midway place [] (count + 1) (stored + stored_size (size_in place) (length codes))) rest)

pub text_back : (format : Format) (size : ℕ) (codes : List ℕ) → AllByRecursion IsWithin codes → Fits format size codes
    → ReadsOne (Line (size_of format size) Fresh) (line_of format) codes
unfolding line_of
text_back format size codes within fits count stored rest few short =
    let n = size_of format size in
    let line = shown format codes in
    let back = shown_back format size codes fits in
    let a = shown_few format codes in
    let b = fits_most format size codes fits in
    ap (λ (l : List ℕ). read_from (midway (Line n Fresh) [] count stored) l) (append_assoc (text_of line) (10 ∷ []) rest)
    ∙ line_back n [] line count stored (10 ∷ rest) (shown_within format codes within) (omega arith)
    ∙ end_back n line count stored rest few (subst (λ (l : List ℕ). stored + stored_size n (length l) ≤ most_bytes) (sym back) short)
    ∙ ap (λ (l : List ℕ). in_front l (read_from (midway (Line n Fresh) [] (count + 1) (stored + stored_size n (length l))) rest)) back

block_more : (n : ℕ) (came bytes : List ℕ) (count stored : ℕ) (rest : List ℕ) → length came + length bytes ≡ n → 0 < length bytes → count < most_records → stored + n ≤ most_bytes
    → read_from (midway (Block n) came count stored) (bytes ++ rest) ≡ in_front (came ++ bytes) (read_from (midway (Block n) [] (count + 1) (stored + n)) rest)
unfolding block_fed
block_more n came [] count stored rest whole some few short = absurd (omega arith)
block_more n came (b ∷ []) count stored rest whole some few short =
    let last : (length came + 1 == n) ≡ true = eq-eqb (length came + 1) n (omega arith) in
    let push = length_push came b in
    let long : length (came ++ b ∷ []) ≡ n = omega arith in
    ends_one (midway (Block n) came count stored) b rest (Block n) (came ++ b ∷ []) (count + 1) (stored + n)
    (rw last (counts (Block n) (came ++ b ∷ []) count stored few (omega arith) ∙ ap (λ (k : ℕ). Ok (behind (Block n) (came ++ b ∷ []) (count + 1) (stored + k))) long))
block_more n came (b ∷ y ∷ ys) count stored rest whole some few short =
    let more : (length came + 1 == n) ≡ false = unequal (length came + 1) n (λ (same : length came + 1 ≡ n). omega arith) in
    let push = length_push came b in
    goes_on (midway (Block n) came count stored) b ((y ∷ ys) ++ rest) (Block n) (came ++ b ∷ []) count stored (rw more refl)
    ∙ block_more n (came ++ b ∷ []) (y ∷ ys) count stored rest (omega arith) (omega arith) few short
    ∙ ap (λ (l : List ℕ). in_front l (read_from (midway (Block n) [] (count + 1) (stored + n)) rest)) (append_assoc came (b ∷ []) (y ∷ ys))

pub block_back : (n : ℕ) (codes : List ℕ) → 1 ≤ n → length codes ≡ n → ReadsOne (Block n) (λ l. l) codes
block_back n codes some whole count stored rest few short =
    block_more n [] codes count stored rest (omega arith) (omega arith) few (omega arith)
    ∙ ap (λ (k : ℕ). in_front codes (read_from (midway (Block n) [] (count + 1) (stored + k)) rest)) (sym whole)

left_more : (size : Option ℕ) (came bytes : List ℕ) (count stored : ℕ) (rest : List ℕ) → 0 < length bytes → count < most_records
    → stored + stored_size size (length (came ++ bytes)) ≤ most_bytes
    → read_from (midway (Stored size (Left (length bytes))) came count stored) (bytes ++ rest)
    ≡ in_front (came ++ bytes) (read_from (midway (Stored size Start) [] (count + 1) (stored + stored_size size (length (came ++ bytes)))) rest)
unfolding stored_fed
left_more size came [] count stored rest some few short = absurd (omega arith)
left_more size came (b ∷ []) count stored rest some few short =
    ends_one (midway (Stored size (Left 1)) came count stored) b rest (Stored size Start) (came ++ b ∷ []) (count + 1)
    (stored + stored_size size (length (came ++ b ∷ []))) (counts (Stored size Start) (came ++ b ∷ []) count stored few short)
left_more size came (b ∷ y ∷ ys) count stored rest some few short =
    let more : (suc (suc (length ys)) == 1) ≡ false = unequal (suc (suc (length ys))) 1 (λ (same : suc (suc (length ys)) ≡ 1). omega arith) in
    let less : suc (suc (length ys)) - 1 ≡ suc (length ys) = omega arith in
    let joined = append_assoc came (b ∷ []) (y ∷ ys) in
    goes_on (midway (Stored size (Left (suc (suc (length ys))))) came count stored) b ((y ∷ ys) ++ rest) (Stored size (Left (suc (length ys)))) (came ++ b ∷ []) count stored
    (rw (more, less) refl)
    ∙ left_more size (came ++ b ∷ []) (y ∷ ys) count stored rest (omega arith) few (subst (λ (l : List ℕ). stored + stored_size size (length l) ≤ most_bytes) (sym joined) short)
    ∙ ap (λ (l : List ℕ). in_front l (read_from (midway (Stored size Start) [] (count + 1) (stored + stored_size size (length l))) rest)) joined

pub stored_back : (size : Option ℕ) (codes : List ℕ) → 1 ≤ length codes → length codes ≤ longest_record → is_length size (length codes) ≡ true
    → ReadsOne (Stored size Start) with_length codes
unfolding stored_fed
stored_back size codes some short_ is count stored rest few short =
    let n = length codes in
    let high = n / 256 ^ 1 % 256 in
    let low = n % 256 in
    let whole : high * 256 + low ≡ n = omega arith in
    ap (λ (l : List ℕ). read_from (midway (Stored size Start) [] count stored) l) (append_assoc (bytes_high_first 2 n) codes rest)
    ∙ goes_on (midway (Stored size Start) [] count stored) high (low ∷ (codes ++ rest)) (Stored size (High high)) [] count stored refl
    ∙ goes_on (midway (Stored size (High high)) [] count stored) low (codes ++ rest) (Stored size (Left n)) [] count stored (rw (whole, is) refl)
    ∙ left_more size [] codes count stored rest (omega arith) few short

-- ---- all of them

abbrev pub filled : Option ℕ → List (List ℕ) → ℕ
filled size [] = 0
filled size (codes ∷ more) = stored_size size (length codes) + filled size more

abbrev pub EndsThere : Place → Type 0
EndsThere place = (count stored : ℕ) → 0 < count → ended (midway place [] count stored) ≡ Ok (midway place [] count stored)

pub line_ends : (size : Option ℕ) → EndsThere (Line size Fresh)
unfolding ended_at
line_ends size count stored some = let e : (count == 0) ≡ false = unequal count 0 (λ (same : count ≡ 0). omega arith) in rw e refl

pub block_ends : (n : ℕ) → EndsThere (Block n)
unfolding ended_at
block_ends n count stored some = let e : (count == 0) ≡ false = unequal count 0 (λ (same : count ≡ 0). omega arith) in rw e refl

pub stored_ends : (size : Option ℕ) → EndsThere (Stored size Start)
unfolding ended_at
stored_ends size count stored some = let e : (count == 0) ≡ false = unequal count 0 (λ (same : count ≡ 0). omega arith) in rw e refl

pub all_back : (place : Place) (one : List ℕ → List ℕ) (records : List (List ℕ)) (count stored : ℕ) → EndsThere place → AllByRecursion (ReadsOne place one) records
    → 0 < count + length records → count + length records ≤ most_records → stored + filled (size_in place) records ≤ most_bytes
    → read_from (midway place [] count stored) (concat (map one records)) ≡ Ok records
unfolding read_from
all_back place one [] count stored last each some few short =
    ap (λ (r : Result Reader FormFault). r >>= λ s. Ok (whole_in s)) (last count stored (omega arith))
all_back place one (codes ∷ more) count stored last each some few short =
    each.0 count stored (concat (map one more)) (omega arith) (omega arith)
    ∙ ap (in_front codes) (all_back place one more (count + 1) (stored + stored_size (size_in place) (length codes)) last each.1 (omega arith) (omega arith) (omega arith))
