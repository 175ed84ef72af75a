-- LISTFILE's lines have room in a text.
use Rattle.std.proofs.Common.{◌≡◌, ◌+◌, ◌-◌, ◌<◌, ◌≤◌, ◌^◌, ℕ, suc, true, List, [], ◌∷◌, ◌++◌, length, replicate, take, pos, subst, sym, arith}
use Rattle.std.specs.Prelude.{Option, Some, None, nat_le}
use Rattle.std.specs.List.{cons_option, filter_map, list_all}
use Rattle.std.specs.Fmt.{signed_decimal}
use Rattle.std.proofs.lemmas.Bool.{and_parts, leb-true}
use Rattle.std.proofs.lemmas.Fmt.{length-decimal-le}
use Rattle.std.proofs.lemmas.List.{length-append, length-replicate, length-take}
use Rattle.cms_ebcdic.specs.CodePage.{code_of}
use Rattle.cms_names.specs.Names.{is_between, is_name_character, is_part, is_text_of}
use Rattle.cms_text.specs.Limits.{longest_text}
use Rattle.cms_text.specs.Numbers.{decimal_of, written}
use Rattle.cms_text.specs.Texts.{ebcdic, without_trailing_blanks}
use Rattle.cms_search.specs.Texts.{left_in, right_in}
use Rattle.cms_listfile.specs.Lines.{years_of}
use Rattle.cms_listfile.specs.Told.{full_header, width}
use Rattle.cms_listfile.specs.declared.columns.Columns.{Columns}
use Rattle.cms_listfile.specs.declared.columns.Columns.TheVariants as to
use Rattle.cms_listfile.specs.declared.columns.Years.TheVariants.{Short, Whole}

-- ---- columns

pub part_short : (part : List ℕ) → is_part part ≡ true → length part ≤ 8
unfolding is_text_of
part_short part is =
    let range = and_parts (is_between 1 8 (length part)) (list_all is_name_character part) is in
    leb-true (length part) 8 (and_parts (nat_le 1 (length part)) (nat_le (length part) 8) range.0).1

length-filter_map : (h : ℕ → Option ℕ) (bytes : List ℕ) → length (filter_map h bytes) ≤ length bytes
length-filter_map h [] = omega arith
length-filter_map h (byte ∷ more) = elim (h byte) as (λ o. length (cons_option o (filter_map h more)) ≤ suc (length more)) [
  | None ↦ omega (arith, length-filter_map h more)
  | Some x ↦ omega (arith, length-filter_map h more)
]

-- a number of 32 bits has ten digits at most
digits_few : (n : ℕ) → n < 2 ^ 32 → length (decimal_of n) ≤ 10
unfolding decimal_of written ebcdic
digits_few n small =
    let digits : length (signed_decimal (pos n)) ≤ 10 = length-decimal-le 10 n (omega arith) (omega (arith, small)) (omega (arith, small)) in
    omega (arith, length-filter_map code_of (signed_decimal (pos n)), digits)

left_long : (width : ℕ) (text : List ℕ) → length text ≤ width → length (left_in width text) ≡ width
left_long width text short =
    let filled = length-append text (replicate (width - length text) 0x40) in
    let blanks = length-replicate {A = ℕ} (width - length text) 0x40 in
    omega (arith, filled, blanks, short)

right_short : (width most : ℕ) (text : List ℕ) → width ≤ most → length text ≤ most → length (right_in width text) ≤ most
right_short width most text room short =
    let filled = length-append (replicate (width - length text) 0x40) text in
    let blanks = length-replicate {A = ℕ} (width - length text) 0x40 in
    omega (arith, filled, blanks, room, short)

-- ---- lines

pub name_short : (line text part : List ℕ) → line ≡ left_in 8 text → text ≡ part → is_part part ≡ true → length line ≤ 8
name_short line text part is same part_is =
    let short : length text ≤ 8 = subst (λ (t : List ℕ). length t ≤ 8) (sym same) (part_short part part_is) in
    subst (λ (l : List ℕ). length l ≤ 8) (sym is) (omega (arith, left_long 8 text short))

pub text_added : (old new text : List ℕ) (width : ℕ) → length text ≤ width → new ≡ old ++ 0x40 ∷ left_in width text → length new ≤ length old + 1 + width
text_added old new text width short is =
    let joined = length-append old (0x40 ∷ left_in width text) in
    let long = left_long width text short in
    subst (λ (l : List ℕ). length l ≤ length old + 1 + width) (sym is) (omega (arith, joined, long))

pub number_added : (old new text : List ℕ) (width n : ℕ) → n < 2 ^ 32 → width ≤ 10 → text ≡ decimal_of n → new ≡ old ++ 0x40 ∷ right_in width text → length new ≤ length old + 11
number_added old new text width n small room digits is =
    let short : length text ≤ 10 = subst (λ (t : List ℕ). length t ≤ 10) (sym digits) (digits_few n small) in
    let joined = length-append old (0x40 ∷ right_in width text) in
    let long = right_short width 10 text room short in
    subst (λ (l : List ℕ). length l ≤ length old + 11) (sym is) (omega (arith, joined, long))

-- without its blanks at the end a line is no longer
pub trailing_short : (line text : List ℕ) (most : ℕ) → line ≡ without_trailing_blanks text → length text ≤ most → length line ≤ most
trailing_short line text most is short =
    subst (λ (l : List ℕ). length l ≤ most) (sym is) (omega (arith, length-take {A = ℕ}, short))

-- ---- the header

width_few : (last : Columns) → width last ≤ 73
width_few to.Name = omega arith
width_few to.Kind = omega arith
width_few to.Mode = omega arith
width_few to.Format = omega arith
width_few to.Alloc = omega arith
width_few (to.Date Short) = omega arith
width_few (to.Date Whole) = omega arith
width_few (to.Label Short) = omega arith
width_few (to.Label Whole) = omega arith

pub header_short : (last : Columns) (line : List ℕ) → line ≡ without_trailing_blanks (take (width last) (full_header (years_of last))) → length line ≤ longest_text
header_short last line is =
    trailing_short line (take (width last) (full_header (years_of last))) longest_text is (omega (arith, length-take (width last) (full_header (years_of last)), width_few last))
