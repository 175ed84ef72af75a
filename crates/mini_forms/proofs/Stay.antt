-- What is written of the records of a host file is that file: of a text its lines.
use Rattle.std.proofs.Common.{◌≡◌, ◌⊎◌, inl, inr, ◌∙◌, ℕ, suc, ◌+◌, ◌-◌, ◌<◌, ◌≤◌, Bool, true, false, ◌==◌, ◌&&◌, cond, if◌then◌else◌, List, [], ◌∷◌, ◌++◌, length, map, replicate, Result, Ok, Err, refl, ap, sym, arith, append-nil, append_assoc, nat_le, nat_lt, slice_index, ⊎_elim}
use Rattle.std.specs.List.{AllByRecursion, concat, slice_split, onto_first}
use Rattle.std.specs.Str.{bytes_eq}
use Rattle.std.specs.Str.Lines.{lines, lines_of_parts, strip_carriage_return}
use Rattle.std.proofs.lemmas.Bool.{and_parts, eq-eqb, eqb-true, leb-true, lt-ltb, le-ltb, ltb-true, ltb-false}
use Rattle.std.proofs.lemmas.List.{length_push, take_all, get_or_push, take-append-le}
use Rattle.std.proofs.lemmas.List.Splits.{length-slice_split}
use Rattle.std.proofs.lemmas.Grind.{flat_map-append}
use Rattle.std.proofs.lemmas.Slice.Eq.{bytes_eq-Decides}
use Rattle.cms_fields.specs.Limits.{most_bytes, most_records}
use Rattle.cms_fields.specs.Steps.{◌>>=◌}
use Rattle.cms_names.specs.declared.name.Format.{Format}
use Rattle.cms_names.specs.declared.name.Format.TheVariants.{F, V}
use Rattle.cms_records.specs.Views.{fitted}
use Rattle.cms_text.proofs.Numerals.{same_false as not_equal}
use Rattle.mini_forms.specs.Page.{character_of, code_of, code_page}
use Rattle.mini_forms.specs.Lines.{text_of, utf8, step_of, fresh_step, return_step, second_byte}
use Rattle.mini_forms.specs.Output.{line_of, shown, written}
use Rattle.mini_forms.specs.RecordReads.{counted, ended_at, ends, line_fed, most_of, read_from, record_of, size_in, stored_size, whole_in}
use Rattle.mini_forms.specs.Laws.{kept, size_of}
use Rattle.mini_forms.specs.declared.form.Form.TheVariants as form
use Rattle.mini_forms.specs.declared.form.FormFault.{FormFault}
use Rattle.mini_forms.specs.declared.form.FormFault.TheVariants.{Empty, LongLine, TooLarge}
use Rattle.mini_forms.specs.declared.place.Place.{Place}
use Rattle.mini_forms.specs.declared.place.Place.TheVariants.{Line}
use Rattle.mini_forms.specs.declared.step.Begun.{Begun}
use Rattle.mini_forms.specs.declared.step.Begun.TheVariants.{Fresh, LowHalf, HighHalf, Return}
use Rattle.mini_forms.specs.declared.step.Step.{Step}
use Rattle.mini_forms.specs.declared.step.Step.TheVariants.{Adds, Goes, Ends, NoCharacter, LoneReturn}
use Rattle.mini_forms.proofs.Tables.{blank_character, code_fits, here, plain_character, plain_code}
use Rattle.mini_forms.proofs.TrailingBytes.{is_stripped, kept_before, kept_front, strip, strip_behind}
use Rattle.mini_forms.proofs.Steps.{begins_next, behind, go, in_front, midway, next_byte, same_bound}
use Rattle.mini_forms.proofs.Back.{IsWithin}

-- ---- a record that is counted, and what comes behind it

pub record OneThen (place : Place) (bytes : List ℕ) (count stored : ℕ) (rest : List ℕ) (records : List (List ℕ)) : Type 0 where
  pub more : List (List ℕ)
  pub reads : read_from (midway place [] (count + 1) (stored + stored_size (size_in place) (length bytes))) rest ≡ Ok more
  pub are : bytes ∷ more ≡ records

pub ok_same : (x y : List (List ℕ)) → ◌≡◌ {A = Result (List (List ℕ)) FormFault} (Ok x) (Ok y) → x ≡ y
ok_same x y is = cc

pub one_then : (place : Place) (bytes : List ℕ) (count stored : ℕ) (rest : List ℕ) (records : List (List ℕ))
    → (counted (behind place bytes count stored) >>= go rest) ≡ Ok records → OneThen place bytes count stored rest records
one_then place bytes count stored rest records is = first (nat_lt count most_records && nat_le (stored + stored_size (size_in place) (length bytes)) most_bytes) is
  where
    then_ : (r : Result (List (List ℕ)) FormFault) → read_from (midway place [] (count + 1) (stored + stored_size (size_in place) (length bytes))) rest ≡ r → in_front bytes r ≡ Ok records
        → OneThen place bytes count stored rest records
    then_ (Ok more) reads all = record { more = more; reads = reads; are = ok_same (bytes ∷ more) records all }
    then_ (Err e) reads all = absurd (cc all)

    first : (t : Bool) → ((if t then Ok (behind place bytes (count + 1) (stored + stored_size (size_in place) (length bytes))) else Err TooLarge) >>= go rest) ≡ Ok records
        → OneThen place bytes count stored rest records
    first true all = then_ (read_from (midway place [] (count + 1) (stored + stored_size (size_in place) (length bytes))) rest) refl
        (sym (ap (in_front bytes) (begins_next place bytes (count + 1) (stored + stored_size (size_in place) (length bytes)) rest)) ∙ all)
    first false all = absurd (cc all)

-- the host file ends with a record
pub one_last : (place : Place) (bytes : List ℕ) (count stored : ℕ) (records : List (List ℕ))
    → (counted (behind place bytes count stored) >>= λ s. Ok (whole_in s)) ≡ Ok records → records ≡ bytes ∷ []
one_last place bytes count stored records is = first (nat_lt count most_records && nat_le (stored + stored_size (size_in place) (length bytes)) most_bytes) is
  where
    first : (t : Bool) → ((if t then Ok (behind place bytes (count + 1) (stored + stored_size (size_in place) (length bytes))) else Err TooLarge) >>= λ s. Ok (whole_in s)) ≡ Ok records
        → records ≡ bytes ∷ []
    first true all = sym (ok_same (bytes ∷ []) records all)
    first false all = absurd (cc all)

-- or between two
pub none_last : (place : Place) (count stored : ℕ) (records : List (List ℕ))
    → (ends (midway place [] count stored) >>= λ s. Ok (whole_in s)) ≡ Ok records → records ≡ []
none_last place count stored records is = first (count == 0) is
  where
    first : (t : Bool) → ((if t then Err Empty else Ok (midway place [] count stored)) >>= λ s. Ok (whole_in s)) ≡ Ok records → records ≡ []
    first true all = absurd (cc all)
    first false all = sym (ok_same [] records all)

-- ---- lines

abbrev is_feed : ℕ → Bool
is_feed b = b == 10

-- a byte that ends no line, and is no carriage return
abbrev pub IsInner : ℕ → Type 0
IsInner b = ((b == 10) ≡ false) × ((b == 13) ≡ false)

cut_at : (xs bs : List ℕ) → AllByRecursion IsInner xs → slice_split is_feed (xs ++ 10 ∷ bs) ≡ xs ∷ slice_split is_feed bs
cut_at [] bs all = refl
cut_at (x ∷ xs) bs all =
    ap (λ (t : Bool). cond t ([] ∷ slice_split is_feed (xs ++ 10 ∷ bs)) (onto_first x (slice_split is_feed (xs ++ 10 ∷ bs)))) all.0.0
    ∙ ap (onto_first x) (cut_at xs bs all.1)

no_cut : (xs : List ℕ) → AllByRecursion IsInner xs → slice_split is_feed xs ≡ xs ∷ []
no_cut [] all = refl
no_cut (x ∷ xs) all =
    ap (λ (t : Bool). cond t ([] ∷ slice_split is_feed xs) (onto_first x (slice_split is_feed xs))) all.0.0
    ∙ ap (onto_first x) (no_cut xs all.1)

parts_next : (x : List ℕ) (parts : List (List ℕ)) → 0 < length parts → lines_of_parts (x ∷ parts) ≡ strip_carriage_return x ∷ lines_of_parts parts
parts_next x [] some = absurd (omega arith)
parts_next x (y ∷ more) some = refl

last_inner : (xs : List ℕ) → AllByRecursion IsInner xs → (slice_index xs (length xs - 1) == 13) ≡ false
last_inner [] all = refl
last_inner (x ∷ []) all = all.0.1
last_inner (x ∷ y ∷ ys) all =
    let n : suc (suc (length ys)) - 1 ≡ suc (suc (length ys) - 1) = omega arith in
    rw n (last_inner (y ∷ ys) all.1)

unstripped : (xs : List ℕ) → AllByRecursion IsInner xs → strip_carriage_return xs ≡ xs
unstripped xs all = let apart = last_inner xs all in rw apart refl

stripped_one : (xs : List ℕ) → strip_carriage_return (xs ++ 13 ∷ []) ≡ xs
stripped_one xs =
    let long = length_push xs 13 in
    let n : length (xs ++ 13 ∷ []) - 1 ≡ length xs = omega arith in
    let last : slice_index (xs ++ 13 ∷ []) (length xs) ≡ 13 = get_or_push xs 13 0 (length xs) refl in
    let is : (slice_index (xs ++ 13 ∷ []) (length xs) == 13) ≡ true = eq-eqb (slice_index (xs ++ 13 ∷ []) (length xs)) 13 last in
    rw (n, is) (take-append-le (length xs) xs (13 ∷ []) (omega arith) ∙ take_all (length xs) xs (omega arith))

above : (d : ℕ) → 14 ≤ d → IsInner d
above d high = (not_equal d 10 (λ (e : d ≡ 10). omega arith), not_equal d 13 (λ (e : d ≡ 13). omega arith))

character_inner : (c : ℕ) (rest : List ℕ) → IsInner c → AllByRecursion IsInner rest → AllByRecursion IsInner (utf8 c ++ rest)
unfolding utf8
character_inner c rest inner all = one (nat_lt c 128) (nat_lt c 192) refl refl
  where
    one : (t u : Bool) → nat_lt c 128 ≡ t → nat_lt c 192 ≡ u
        → AllByRecursion IsInner ((if t then c ∷ [] else (if u then 0xC2 ∷ c ∷ [] else 0xC3 ∷ (c - 64) ∷ [])) ++ rest)
    one true u e f = (inner, all)
    one false true e f = ((refl, refl), (inner, all))
    one false false e f = let high = ltb-false c 192 f in ((refl, refl), (above (c - 64) (omega arith), all))

text_inner : (codes : List ℕ) → AllByRecursion IsWithin codes → AllByRecursion IsInner (text_of codes)
text_inner [] all = tt
text_inner (x ∷ xs) all = character_inner (character_of x) (text_of xs) (plain_character x all.0.0 all.0.1) (text_inner xs all.1)

lines_next : (xs bs : List ℕ) → AllByRecursion IsInner xs → lines (xs ++ 10 ∷ bs) ≡ xs ∷ lines bs
lines_next xs bs all =
    let some = length-slice_split is_feed bs in
    ap lines_of_parts (cut_at xs bs all) ∙ parts_next xs (slice_split is_feed bs) (omega arith)
    ∙ ap (λ (l : List ℕ). l ∷ lines_of_parts (slice_split is_feed bs)) (unstripped xs all)

-- a carriage return before the line feed is no part of the line
cut_return : (xs bs : List ℕ) → AllByRecursion IsInner xs → slice_split is_feed ((xs ++ 13 ∷ []) ++ 10 ∷ bs) ≡ (xs ++ 13 ∷ []) ∷ slice_split is_feed bs
cut_return [] bs all = refl
cut_return (x ∷ xs) bs all =
    ap (λ (t : Bool). cond t ([] ∷ slice_split is_feed ((xs ++ 13 ∷ []) ++ 10 ∷ bs)) (onto_first x (slice_split is_feed ((xs ++ 13 ∷ []) ++ 10 ∷ bs)))) all.0.0
    ∙ ap (onto_first x) (cut_return xs bs all.1)

lines_return : (xs bs : List ℕ) → AllByRecursion IsInner xs → lines ((xs ++ 13 ∷ []) ++ 10 ∷ bs) ≡ xs ∷ lines bs
lines_return xs bs all =
    let some = length-slice_split is_feed bs in
    ap lines_of_parts (cut_return xs bs all) ∙ parts_next (xs ++ 13 ∷ []) (slice_split is_feed bs) (omega arith)
    ∙ ap (λ (l : List ℕ). l ∷ lines_of_parts (slice_split is_feed bs)) (stripped_one xs)

-- the last line may lack its line feed
lines_last : (x : ℕ) (xs : List ℕ) → AllByRecursion IsInner (x ∷ xs) → lines (x ∷ xs) ≡ (x ∷ xs) ∷ []
lines_last x xs all =
    let some : (suc (length xs) == 0) ≡ false = not_equal (suc (length xs)) 0 (λ (e : suc (length xs) ≡ 0). omega arith) in
    ap lines_of_parts (no_cut (x ∷ xs) all) ∙ ap (λ (t : Bool). cond t [] ((x ∷ xs) ∷ [])) some

-- ---- a line as it comes back

text_some : (c : ℕ) (rest : List ℕ) → 0 < length (utf8 c ++ rest)
unfolding utf8
text_some c rest = one (nat_lt c 128) (nat_lt c 192)
  where
    one : (t u : Bool) → 0 < length ((if t then c ∷ [] else (if u then 0xC2 ∷ c ∷ [] else 0xC3 ∷ (c - 64) ∷ [])) ++ rest)
    one true u = omega arith
    one false true = omega arith
    one false false = omega arith

strip_unblank : (x : ℕ) (t : List ℕ) → (x == 0x20) ≡ false → kept_before 0x20 x t ≡ x ∷ t
strip_unblank x [] apart = ap (λ (c : Bool). cond c [] (x ∷ [])) apart
strip_unblank x (y ∷ ys) apart = refl

-- blanks are left out in front of bytes as in front of codes
stripped_before : (x : ℕ) (t rest : List ℕ) → x < 256 → strip 0x20 rest ≡ text_of t → strip 0x20 (utf8 (character_of x) ++ rest) ≡ text_of (kept_before 0x40 x t)
unfolding utf8
stripped_before x t rest fits is = one (nat_lt (character_of x) 128) (nat_lt (character_of x) 192) refl refl
  where
    blank : (character_of x == 0x20) ≡ (x == 0x40)
    blank = blank_character x fits

    low : (t : List ℕ) → strip 0x20 rest ≡ text_of t → utf8 (character_of x) ≡ character_of x ∷ [] → kept_before 0x20 (character_of x) (strip 0x20 rest) ≡ text_of (kept_before 0x40 x t)
    low [] e u = ap (kept_before 0x20 (character_of x)) e ∙ ap (λ (b : Bool). cond b [] (character_of x ∷ [])) blank ∙ alone (x == 0x40)
      where
        alone : (b : Bool) → cond b [] (character_of x ∷ []) ≡ text_of (cond b [] (x ∷ []))
        alone true = refl
        alone false = ap (λ (l : List ℕ). l ++ []) (sym u)
    low (y ∷ ys) e u =
        ap (kept_before 0x20 (character_of x)) e ∙ kept_front 0x20 (character_of x) (text_of (y ∷ ys)) (text_some (character_of y) (text_of ys))
        ∙ ap (λ (l : List ℕ). l ++ text_of (y ∷ ys)) (sym u)

    wide : (a d : ℕ) (t : List ℕ) → strip 0x20 rest ≡ text_of t → (a == 0x20) ≡ false → (d == 0x20) ≡ false → (x == 0x40) ≡ false → utf8 (character_of x) ≡ a ∷ d ∷ []
        → kept_before 0x20 a (kept_before 0x20 d (strip 0x20 rest)) ≡ text_of (kept_before 0x40 x t)
    wide a d t e not_a not_d not_x u =
        ap (λ (l : List ℕ). kept_before 0x20 a (kept_before 0x20 d l)) e
        ∙ ap (kept_before 0x20 a) (strip_unblank d (text_of t) not_d) ∙ strip_unblank a (d ∷ text_of t) not_a
        ∙ ap (λ (l : List ℕ). l ++ text_of t) (sym u) ∙ ap text_of (sym (kept_code t))
      where
        kept_code : (t : List ℕ) → kept_before 0x40 x t ≡ x ∷ t
        kept_code [] = ap (λ (b : Bool). cond b [] (x ∷ [])) not_x
        kept_code (y ∷ ys) = refl

    unblank : (d : ℕ) → 33 ≤ d → (d == 0x20) ≡ false
    unblank d high = not_equal d 0x20 (λ (e : d ≡ 0x20). omega arith)

    one : (p q : Bool) → nat_lt (character_of x) 128 ≡ p → nat_lt (character_of x) 192 ≡ q
        → strip 0x20 ((if p then character_of x ∷ [] else (if q then 0xC2 ∷ character_of x ∷ [] else 0xC3 ∷ (character_of x - 64) ∷ [])) ++ rest) ≡ text_of (kept_before 0x40 x t)
    one true q e f = low t is (rw e refl)
    one false true e f =
        let high = ltb-false (character_of x) 128 e in
        wide 0xC2 (character_of x) t is refl (unblank (character_of x) (omega arith)) (sym blank ∙ unblank (character_of x) (omega arith)) (rw (e, f) refl)
    one false false e f =
        let high = ltb-false (character_of x) 192 f in
        wide 0xC3 (character_of x - 64) t is refl (unblank (character_of x - 64) (omega arith)) (sym blank ∙ unblank (character_of x) (omega arith)) (rw (e, f) refl)

text_stripped : (codes : List ℕ) → AllByRecursion IsWithin codes → strip 0x20 (text_of codes) ≡ text_of (strip 0x40 codes)
text_stripped [] all = refl
text_stripped (x ∷ xs) all = stripped_before x (strip 0x40 xs) (text_of xs) all.0.0 (text_stripped xs all.1)

blank_line : text_of (0x40 ∷ []) ≡ 0x20 ∷ []
unfolding utf8 character_of code_page
blank_line = refl

differ : (a b : ℕ) → (a == b) ≡ false → a ≡ b → ⊥
differ a b apart same = let e : (a == b) ≡ true = eq-eqb a b same in cc

only : (c : ℕ) (rest : List ℕ) → utf8 c ++ rest ≡ 0x20 ∷ [] → (c ≡ 0x20) × (rest ≡ [])
unfolding utf8
only c rest e = one (nat_lt c 128) (nat_lt c 192) e
  where
    one : (p q : Bool) → (if p then c ∷ [] else (if q then 0xC2 ∷ c ∷ [] else 0xC3 ∷ (c - 64) ∷ [])) ++ rest ≡ 0x20 ∷ [] → (c ≡ 0x20) × (rest ≡ [])
    one true q e = (cc, cc)
    one false true e = absurd (differ 0xC2 0x20 refl cc)
    one false false e = absurd (differ 0xC3 0x20 refl cc)

-- one blank alone is so in codes and in characters
one_blank : (codes : List ℕ) → AllByRecursion IsWithin codes → bytes_eq codes (0x40 ∷ []) ≡ bytes_eq (text_of codes) (0x20 ∷ [])
one_blank codes all =
    let there = bytes_eq-Decides codes (0x40 ∷ []) in
    let here_ = bytes_eq-Decides (text_of codes) (0x20 ∷ []) in
    same_bool (bytes_eq codes (0x40 ∷ [])) (bytes_eq (text_of codes) (0x20 ∷ []))
    (λ sure. here_.1 (ap text_of (there.0 sure) ∙ blank_text))
    (λ sure. there.1 (back codes all (here_.0 sure)))
  where
    same_bool : (a b : Bool) → (a ≡ true → b ≡ true) → (b ≡ true → a ≡ true) → a ≡ b
    same_bool true b to from = sym (to refl)
    same_bool false true to from = from refl
    same_bool false false to from = refl

    blank_text : text_of (0x40 ∷ []) ≡ 0x20 ∷ []
    blank_text = blank_line

    none : (xs : List ℕ) → text_of xs ≡ [] → xs ≡ []
    none [] e = refl
    none (y ∷ ys) e = let some = text_some (character_of y) (text_of ys) in let l = ap length e in absurd (omega arith)

    back : (codes : List ℕ) → AllByRecursion IsWithin codes → text_of codes ≡ 0x20 ∷ [] → codes ≡ 0x40 ∷ []
    back [] all e = cc
    back (x ∷ xs) all e = first_is x xs all.0.0 (only (character_of x) (text_of xs) e)
      where
        first_is : (x : ℕ) (xs : List ℕ) → x < 256 → (character_of x ≡ 0x20) × (text_of xs ≡ []) → x ∷ xs ≡ 0x40 ∷ []
        first_is x xs fits h =
            let same : x ≡ 0x40 = eqb-true x 0x40 (sym (blank_character x fits) ∙ eq-eqb (character_of x) 0x20 h.0) in
            let apart = none xs h.1 in
            cc

-- what a line's record shows are its characters as they come back
line_kept : (format : Format) (size : ℕ) (codes : List ℕ) → AllByRecursion IsWithin codes → length codes ≤ most_of (size_of format size)
    → text_of (shown format (record_of (size_of format size) codes)) ≡ kept format (text_of codes)
unfolding shown record_of
line_kept F size codes all few =
    let behind_ = size - length codes in
    ap text_of (is_stripped 0x40 (fitted codes size 0x40)
    ∙ ap (λ (l : List ℕ). strip 0x40 (l ++ replicate behind_ 0x40)) (take_all size codes few)
    ∙ strip_behind 0x40 behind_ codes)
    ∙ sym (text_stripped codes all) ∙ sym (is_stripped 0x20 (text_of codes))
line_kept V size [] all few = refl
line_kept V size (x ∷ xs) all few = one (bytes_eq (x ∷ xs) (0x40 ∷ [])) (one_blank (x ∷ xs) all)
  where
    one : (b : Bool) → b ≡ bytes_eq (text_of (x ∷ xs)) (0x20 ∷ []) → text_of (if b then [] else x ∷ xs) ≡ (if bytes_eq (text_of (x ∷ xs)) (0x20 ∷ []) then [] else text_of (x ∷ xs))
    one true e = ap (λ (b : Bool). if b then [] else text_of (x ∷ xs)) e
    one false e = ap (λ (b : Bool). if b then [] else text_of (x ∷ xs)) e

abbrev kept_lines : Format → List ℕ → List ℕ
kept_lines format bytes = concat (map (λ line. kept format line ++ 10 ∷ []) (lines bytes))

-- ---- what a byte tells

-- the bytes of what is begun
abbrev pending : Begun → List ℕ
pending Fresh = []
pending LowHalf = 0xC2 ∷ []
pending HighHalf = 0xC3 ∷ []
pending Return = 13 ∷ []

abbrev StepTells : Begun → ℕ → Step → Type 0
StepTells b x (Adds c) = (c < 256) × IsInner c × (pending b ++ x ∷ [] ≡ utf8 c)
StepTells b x (Goes to) = pending b ++ x ∷ [] ≡ pending to
StepTells b x Ends = (x ≡ 10) × ((b ≡ Fresh) ⊎ (b ≡ Return))
StepTells b x NoCharacter = Unit {0}
StepTells b x LoneReturn = Unit {0}

low_utf8 : (c : ℕ) → c < 128 → c ∷ [] ≡ utf8 c
unfolding utf8
low_utf8 c low = let a : nat_lt c 128 ≡ true = lt-ltb c 128 low in rw a refl

middle_utf8 : (c : ℕ) → 128 ≤ c → c < 192 → 0xC2 ∷ c ∷ [] ≡ utf8 c
unfolding utf8
middle_utf8 c high low = let a : nat_lt c 128 ≡ false = le-ltb c 128 high in let b : nat_lt c 192 ≡ true = lt-ltb c 192 low in rw (a, b) refl

top_utf8 : (c : ℕ) → 192 ≤ c → 0xC3 ∷ (c - 64) ∷ [] ≡ utf8 c
unfolding utf8
top_utf8 c high = let a : nat_lt c 128 ≡ false = le-ltb c 128 (omega arith) in let b : nat_lt c 192 ≡ false = le-ltb c 192 high in rw (a, b) refl

fresh_tells : (x : ℕ) → x < 256 → StepTells Fresh x (fresh_step x)
unfolding fresh_step
fresh_tells x fits = one (x == 10) refl
  where
    five : (t : Bool) → (x == 0xC3) ≡ t → StepTells Fresh x (if t then Goes HighHalf else NoCharacter)
    five true e = ap (λ (y : ℕ). y ∷ []) (eqb-true x 0xC3 e)
    five false e = tt

    four : (t : Bool) → (x == 0xC2) ≡ t → StepTells Fresh x (if t then Goes LowHalf else (if x == 0xC3 then Goes HighHalf else NoCharacter))
    four true e = ap (λ (y : ℕ). y ∷ []) (eqb-true x 0xC2 e)
    four false e = five (x == 0xC3) refl

    three : (t : Bool) → nat_lt x 128 ≡ t → IsInner x → StepTells Fresh x (if t then Adds x else (if x == 0xC2 then Goes LowHalf else (if x == 0xC3 then Goes HighHalf else NoCharacter)))
    three true e inner = (fits, inner, low_utf8 x (ltb-true x 128 e))
    three false e inner = four (x == 0xC2) refl

    two : (t : Bool) → (x == 13) ≡ t → (x == 10) ≡ false
        → StepTells Fresh x (if t then Goes Return else (if nat_lt x 128 then Adds x else (if x == 0xC2 then Goes LowHalf else (if x == 0xC3 then Goes HighHalf else NoCharacter))))
    two true e apart = ap (λ (y : ℕ). y ∷ []) (eqb-true x 13 e)
    two false e apart = three (nat_lt x 128) refl (apart, e)

    one : (t : Bool) → (x == 10) ≡ t
        → StepTells Fresh x (if t then Ends else (if x == 13 then Goes Return else (if nat_lt x 128 then Adds x else (if x == 0xC2 then Goes LowHalf else (if x == 0xC3 then Goes HighHalf else NoCharacter)))))
    one true e = (eqb-true x 10 e, inl refl)
    one false e = two (x == 13) refl e

step_tells : (b : Begun) (x : ℕ) → x < 256 → StepTells b x (step_of b x)
unfolding step_of second_byte return_step
step_tells Fresh x fits = fresh_tells x fits
step_tells LowHalf x fits = one (nat_le 0x80 x && nat_le x 0xBF) refl
  where
    one : (t : Bool) → (nat_le 0x80 x && nat_le x 0xBF) ≡ t → StepTells LowHalf x (if t then Adds (x + 0) else NoCharacter)
    one true e =
        let both = and_parts (nat_le 0x80 x) (nat_le x 0xBF) e in
        let low = leb-true 0x80 x both.0 in
        let high = leb-true x 0xBF both.1 in
        let s : x ≡ x + 0 = omega arith in
        (omega arith, above (x + 0) (omega arith), ap (λ (y : ℕ). 0xC2 ∷ y ∷ []) s ∙ middle_utf8 (x + 0) (omega arith) (omega arith))
    one false e = tt
step_tells HighHalf x fits = one (nat_le 0x80 x && nat_le x 0xBF) refl
  where
    one : (t : Bool) → (nat_le 0x80 x && nat_le x 0xBF) ≡ t → StepTells HighHalf x (if t then Adds (x + 64) else NoCharacter)
    one true e =
        let both = and_parts (nat_le 0x80 x) (nat_le x 0xBF) e in
        let low = leb-true 0x80 x both.0 in
        let high = leb-true x 0xBF both.1 in
        let s : x ≡ (x + 64) - 64 = omega arith in
        (omega arith, above (x + 64) (omega arith), ap (λ (y : ℕ). 0xC3 ∷ y ∷ []) s ∙ top_utf8 (x + 64) (omega arith))
    one false e = tt
step_tells Return x fits = one (x == 10) refl
  where
    one : (t : Bool) → (x == 10) ≡ t → StepTells Return x (if t then Ends else LoneReturn)
    one true e = (eqb-true x 10 e, inr refl)
    one false e = tt

-- ---- the bytes of a text, from a place within a line on

abbrev Stays : Format → ℕ → List ℕ → Type 0
Stays format size bytes =
    (b : Begun) (codes : List ℕ) (count stored : ℕ) (records : List (List ℕ)) → AllByRecursion (λ x. x < 256) bytes
    → AllByRecursion IsWithin codes → length codes ≤ most_of (size_of format size)
    → read_from (midway (Line (size_of format size) b) codes count stored) bytes ≡ Ok records
    → written form.Text format records ≡ kept_lines format ((text_of codes ++ pending b) ++ bytes)

-- a record of a line in front of others
line_first : (format : Format) (size : ℕ) (codes : List ℕ) (more : List (List ℕ)) (bytes : List ℕ) → AllByRecursion IsWithin codes → length codes ≤ most_of (size_of format size)
    → written form.Text format more ≡ bytes
    → written form.Text format (record_of (size_of format size) codes ∷ more) ≡ (kept format (text_of codes) ++ 10 ∷ []) ++ bytes
unfolding line_of
line_first format size codes more bytes all few is =
    ap (λ (l : List ℕ). (l ++ 10 ∷ []) ++ written form.Text format more) (line_kept format size codes all few)
    ∙ ap (λ (l : List ℕ). (kept format (text_of codes) ++ 10 ∷ []) ++ l) is

ends_none : (format : Format) (size : ℕ) → Stays format size []
unfolding read_from ended_at
ends_none format size Fresh [] count stored records fits all few is =
    ap (written form.Text format) (none_last (Line (size_of format size) Fresh) count stored records is)
ends_none format size Fresh (x ∷ xs) count stored records fits all few is =
    let n = size_of format size in
    let codes = x ∷ xs in
    let some : (suc (length xs) == 0) ≡ false = not_equal (suc (length xs)) 0 (λ (e : suc (length xs) ≡ 0). omega arith) in
    let now = midway (Line n Fresh) codes count stored in
    let one = one_last (Line n Fresh) (record_of n codes) count stored records
    (sym (ap (λ (t : Bool). (if t then ends now else counted (behind (Line n Fresh) (record_of n codes) count stored)) >>= λ s. Ok (whole_in s)) some) ∙ is) in
    let last = last_line (text_of codes) (text_some (character_of x) (text_of xs)) (text_inner codes all) in
    ap (written form.Text format) one
    ∙ line_first format size codes [] [] all few refl
    ∙ ap (λ (l : List (List ℕ)). concat (map (λ line. kept format line ++ 10 ∷ []) l)) (sym last)
    ∙ ap (kept_lines format) (sym (append-nil (text_of codes)) ∙ sym (append-nil (text_of codes ++ [])))
  where
    last_line : (l : List ℕ) → 0 < length l → AllByRecursion IsInner l → lines l ≡ l ∷ []
    last_line [] some inner = absurd (omega arith)
    last_line (y ∷ ys) some inner = lines_last y ys inner
ends_none format size LowHalf codes count stored records fits all few is = absurd (cc is)
ends_none format size HighHalf codes count stored records fits all few is = absurd (cc is)
ends_none format size Return codes count stored records fits all few is = absurd (cc is)

joined : (t p bs : List ℕ) (x : ℕ) → (t ++ p) ++ x ∷ bs ≡ (t ++ (p ++ x ∷ [])) ++ bs
joined t p bs x =
    append_assoc t p (x ∷ bs) ∙ ap (λ (l : List ℕ). t ++ l) (sym (append_assoc p (x ∷ []) bs)) ∙ sym (append_assoc t (p ++ x ∷ []) bs)

within_push : (codes : List ℕ) (x : ℕ) → AllByRecursion IsWithin codes → IsWithin x → AllByRecursion IsWithin (codes ++ x ∷ [])
within_push [] x all is = (is, tt)
within_push (y ∷ ys) x all is = (all.0, within_push ys x all.1 is)

goes_more : (format : Format) (size x : ℕ) (bytes : List ℕ) → Stays format size bytes → Stays format size (x ∷ bytes)
unfolding line_fed
goes_more format size x bytes behind_ b codes count stored records fits all few is =
    next (step_of b x) (step_tells b x fits.0) (sym (next_byte (midway (Line (size_of format size) b) codes count stored) x bytes) ∙ is)
  where
    next : (t : Step) → StepTells b x t → (line_fed (size_of format size) t (midway (Line (size_of format size) b) codes count stored) >>= go bytes) ≡ Ok records
        → written form.Text format records ≡ kept_lines format ((text_of codes ++ pending b) ++ x ∷ bytes)
    next NoCharacter tells is = absurd (cc is)
    next LoneReturn tells is = absurd (cc is)
    next (Goes to) tells is =
        behind_ to codes count stored records fits.1 all few (sym (same_bound (read_from (midway (Line (size_of format size) to) codes count stored) bytes)) ∙ is)
        ∙ ap (kept_lines format) (ap (λ (l : List ℕ). (text_of codes ++ l) ++ bytes) (sym tells) ∙ sym (joined (text_of codes) (pending b) bytes x))
    next (Adds c) tells is = added (nat_lt (length codes) (most_of (size_of format size))) refl is
      where
        more_text : text_of (codes ++ code_of c ∷ []) ++ [] ≡ text_of codes ++ (pending b ++ x ∷ [])
        more_text =
            append-nil (text_of (codes ++ code_of c ∷ [])) ∙ flat_map-append (λ code. utf8 (character_of code)) codes (code_of c ∷ [])
            ∙ ap (λ (l : List ℕ). text_of codes ++ l) (append-nil (utf8 (character_of (code_of c))) ∙ ap utf8 (here c tells.0) ∙ sym tells.2)

        added : (t : Bool) → nat_lt (length codes) (most_of (size_of format size)) ≡ t
            → ((if t then Ok (midway (Line (size_of format size) Fresh) (codes ++ code_of c ∷ []) count stored) else Err (LongLine (count + 1))) >>= go bytes) ≡ Ok records
            → written form.Text format records ≡ kept_lines format ((text_of codes ++ pending b) ++ x ∷ bytes)
        added false room is = absurd (cc is)
        added true room is =
            let within : IsWithin (code_of c) = (code_fits c tells.0, plain_code c tells.0 tells.1.0 tells.1.1) in
            let long = length_push codes (code_of c) in
            let less = ltb-true (length codes) (most_of (size_of format size)) room in
            behind_ Fresh (codes ++ code_of c ∷ []) count stored records fits.1 (within_push codes (code_of c) all within) (omega arith)
            (sym (same_bound (read_from (midway (Line (size_of format size) Fresh) (codes ++ code_of c ∷ []) count stored) bytes)) ∙ is)
            ∙ ap (kept_lines format) (ap (λ (l : List ℕ). l ++ bytes) more_text ∙ sym (joined (text_of codes) (pending b) bytes x))
    next Ends tells is =
        let then_ = one_then (Line (size_of format size) Fresh) (record_of (size_of format size) codes) count stored bytes records is in
        let rest = behind_ Fresh [] (count + 1) (stored + stored_size (size_of format size) (length (record_of (size_of format size) codes))) then_.more fits.1 tt (omega arith) then_.reads in
        ap (written form.Text format) (sym then_.are)
        ∙ line_first format size codes then_.more (kept_lines format bytes) all few rest
        ∙ ap (λ (l : List (List ℕ)). concat (map (λ line. kept format line ++ 10 ∷ []) l)) (sym (split b tells.1))
        ∙ ap (λ (y : ℕ). kept_lines format ((text_of codes ++ pending b) ++ y ∷ bytes)) (sym tells.0)
      where
        split : (b : Begun) → (b ≡ Fresh) ⊎ (b ≡ Return) → lines ((text_of codes ++ pending b) ++ 10 ∷ bytes) ≡ text_of codes ∷ lines bytes
        split Fresh h = ap (λ (l : List ℕ). lines (l ++ 10 ∷ bytes)) (append-nil (text_of codes)) ∙ lines_next (text_of codes) bytes (text_inner codes all)
        split Return h = lines_return (text_of codes) bytes (text_inner codes all)
        split LowHalf h = absurd (⊎_elim (λ (e : LowHalf ≡ Fresh). cc) (λ (e : LowHalf ≡ Return). cc) h)
        split HighHalf h = absurd (⊎_elim (λ (e : HighHalf ≡ Fresh). cc) (λ (e : HighHalf ≡ Return). cc) h)

pub text_stays : (format : Format) (size : ℕ) (bytes : List ℕ) → Stays format size bytes
text_stays format size [] = ends_none format size
text_stays format size (x ∷ bytes) = goes_more format size x bytes (text_stays format size bytes)
