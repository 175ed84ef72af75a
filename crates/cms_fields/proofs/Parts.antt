-- Parts of names in fields of 8 bytes.
use Rattle.std.proofs.Common.{◌≡◌, ℕ, zero, suc, ◌+◌, ◌-◌, ◌≤◌, List, [], ◌∷◌, ◌++◌, length, take, drop, replicate, refl, ◌∙◌, ap, arith, Bool, true, false, ⊎_elim, length-append, length-drop, take_all}
use Rattle.std.specs.Prelude.{◌==◌, nat_le, nat_lt, ◌&&◌, not, cond, take_while, Result, Ok, Err}
use Rattle.std.specs.List.{list_all, prefix_len}
use Rattle.std.specs.Result.{result_ok}
use Rattle.std.specs.Option.{is_some, IfSome}
use Rattle.std.proofs.lemmas.Bool.{le-leb, leb-true, eqb-true, eqb-false, and_parts, and_from, cases_Bool}
use Rattle.std.proofs.lemmas.List.{length-replicate}
use Rattle.std.proofs.lemmas.List.Sums.{prefix_len-le-length}
use Rattle.std.proofs.lemmas.List.Folds.{length-prefix_len}
use Rattle.std.proofs.Math.Seq.{take-append_seam, drop-append_seam}
use Rattle.cms_names.specs.Names.{is_part, is_text_of, text_of, part_of, filled, is_name_character}
use Rattle.cms_names.specs.declared.fault.NameFault.{NameFault}
use Rattle.cms_names.specs.declared.fault.NameFault.TheVariants.{Empty}
use Rattle.cms_fields.specs.Entries.{part_in, is_part_field}

-- a filled text has 8 bytes
pub length-filled : (text : List ℕ) → is_part text ≡ true → length (filled text) ≡ 8
unfolding filled is_text_of
length-filled text is =
    let few : length text ≤ 8 = leb-true (length text) 8 (and_parts _ _ (and_parts _ _ is).0).1 in
    length-append text (replicate (8 - length text) 0x40) ∙ (rw (length-replicate {A = ℕ} (8 - length text) 0x40) (omega arith))

-- characters that pass, and then blanks, are taken up to the blanks
prefix-blanks : (p : ℕ → Bool) (text : List ℕ) (n : ℕ) → p 0x40 ≡ false → list_all p text ≡ true
    → prefix_len p (text ++ replicate n 0x40) ≡ length text
prefix-blanks p [] zero blank all = refl
prefix-blanks p [] (suc n) blank all = rw blank refl
prefix-blanks p (c ∷ text) n blank all =
    let both = and_parts (p c) (list_all p text) all in
    rw (both.0, prefix-blanks p text n blank both.1) (omega arith)

not_blank : is_name_character 0x40 ≡ false
unfolding is_name_character
not_blank = refl

all_blank : (n : ℕ) → list_all (λ x. x == 0x40) (replicate n 0x40) ≡ true
all_blank zero = refl
all_blank (suc n) = all_blank n

-- a part is found in its field
pub part_in-filled : (text : List ℕ) → is_part text ≡ true → part_in (filled text) ≡ text
unfolding filled is_text_of
part_in-filled text is =
    let all = (and_parts _ _ is).1 in
    rw (prefix-blanks is_name_character text (8 - length text) not_blank all) (take-append_seam text (replicate (8 - length text) 0x40))

behind-filled : (text : List ℕ) → drop (length text) (filled text) ≡ replicate (8 - length text) 0x40
unfolding filled
behind-filled text = drop-append_seam text (replicate (8 - length text) 0x40)

not_empty : (text : List ℕ) → is_part text ≡ true → nat_le 1 (length text) ≡ true
unfolding is_text_of
not_empty text is = (and_parts _ _ (and_parts _ _ is).0).0

-- and that field is one
pub is_part_field-filled : (text : List ℕ) → is_part text ≡ true → is_part_field (filled text) ≡ true
unfolding is_part_field
is_part_field-filled text is =
    let some : nat_le 1 (length text) ≡ true = not_empty text is in
    rw (part_in-filled text is, behind-filled text) (and_from _ _ some (all_blank (8 - length text)))

-- where all pass no place is the first that doesn't
pub none_bad : (p : ℕ → Bool) (text : List ℕ) → list_all p text ≡ true → prefix_len (λ c. not (not (p c))) text ≡ length text
none_bad p [] all = refl
none_bad p (c ∷ text) all =
    let both = and_parts (p c) (list_all p text) all in
    rw (both.0, none_bad p text both.1) (omega arith)

-- what passes at the front passes
pub front_passes : (p : ℕ → Bool) (field : List ℕ) → list_all p (take_while p field) ≡ true
front_passes p [] = refl
front_passes p (c ∷ field) = ⊎_elim
    (λ (yes : p c ≡ true).
    let next : 1 + prefix_len p field ≡ suc (prefix_len p field) = omega arith in
    rw (yes, next, yes) (front_passes p field))
    (λ (no : p c ≡ false). rw no refl)
    (cases_Bool (p c))

-- a text of few characters that pass is read, unless it is empty
read_front : (is_allowed : ℕ → Bool) (text : List ℕ) → length text ≤ 8 → list_all is_allowed text ≡ true
    → text_of is_allowed text ≡ cond (length text == 0) (Err Empty) (Ok text)
unfolding text_of
read_front is_allowed text few all =
    let short : nat_lt 8 (length text) ≡ false = grind (arith, few) in
    let none = none_bad is_allowed text all in
    let itself : nat_lt (length text) (length text) ≡ false = grind arith in
    rw (short, none, itself) refl

and_true : (b : Bool) → (b && true) ≡ b
and_true true = refl
and_true false = refl

read_answer : (text : List ℕ) (is : Bool) → is ≡ nat_le 1 (length text) → (read : Result (List ℕ) NameFault) → read ≡ cond (length text == 0) (Err Empty) (Ok text)
    → (is_some (result_ok read) ≡ is) × IfSome (result_ok read) (λ part. part ≡ text)
read_answer text is so read answer = ⊎_elim
    (λ (none : (length text == 0) ≡ true).
    let e : length text ≡ 0 = eqb-true (length text) 0 none in
    rw (so, answer, none, e) (refl, tt))
    (λ (some : (length text == 0) ≡ false).
    let ne : length text ≡ 0 → ⊥ = eqb-false (length text) 0 some in
    let one : nat_le 1 (length text) ≡ true = le-leb 1 (length text) (omega arith) in
    rw (so, answer, some, one) (refl, refl))
    (cases_Bool (length text == 0))

-- what reading the front of a field tells of the field
pub field_read : (field : List ℕ) (n : ℕ) (read : Result (List ℕ) NameFault) → length field ≡ 8 → n ≡ length (part_in field)
    → read ≡ part_of (take n field) → list_all (λ x. x == 0x40) (take (length field - n) (drop n field)) ≡ true
    → (is_some (result_ok read) ≡ is_part_field field) × IfSome (result_ok read) (λ part. part ≡ part_in field)
unfolding is_part_field
field_read field n read long front is blank =
    let within = prefix_len-le-length is_name_character field in
    let size : n ≡ prefix_len is_name_character field = front ∙ length-prefix_len is_name_character field in
    let text : take n field ≡ part_in field = ap (λ k. take k field) size in
    let few : length (part_in field) ≤ 8 = omega (arith, within, front, size, long) in
    let answer = read_front is_name_character (part_in field) few (front_passes is_name_character field) in
    let rest : take (length field - n) (drop n field) ≡ drop (length (part_in field)) field =
    ap (λ k. take (length field - k) (drop k field)) front ∙ take_all (length field - length (part_in field)) (drop (length (part_in field)) field)
    (omega (arith, length-drop (length (part_in field)) field)) in
    read_answer (part_in field) (is_part_field field) (rw (rw rest at blank) (and_true (nat_le 1 (length (part_in field))))) read (is ∙ ap part_of text ∙ answer)
