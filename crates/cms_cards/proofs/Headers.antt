-- A header is read back from its bytes, and one that is read is that of a file.
use Rattle.std.proofs.Common.{◌≡◌, ℕ, ◌+◌, ◌-◌, ◌^◌, ◌<◌, ◌≤◌, Bool, true, false, List, [], ◌∷◌, ◌++◌, length, take, drop, replicate, refl, sym, ◌∙◌, ap, subst, arith, Option, Some, None, Result}
use Rattle.std.specs.Prelude.{◌==◌, ◌&&◌, IfSome, cond, is_some, nat_le}
use Rattle.std.specs.List.{list_all}
use Rattle.std.specs.Result.{result_ok}
use Rattle.std.proofs.lemmas.Bool.{le-leb, leb-true, and_parts, and_from}
use Rattle.std.proofs.lemmas.Option.{cond_some, option_and_then_some}
use Rattle.std.proofs.lemmas.List.{length-take, take_rest}
use Rattle.std.proofs.lemmas.List.Folds.{length-prefix_len}
use Rattle.std.proofs.lemmas.List.Sums.{prefix_len-le-length}
use Rattle.byteorder.specs.Endian.{big_bytes}
use Rattle.byteorder.specs.Numbers.{big_from-lt, big_number-reads_back}
use Rattle.cms_names.specs.Modes.{mode_number_of}
use Rattle.cms_names.specs.Names.{filled, is_between, is_name_character, is_part, is_text_of, part_of}
use Rattle.cms_names.specs.declared.fault.NameFault.{NameFault}
use Rattle.cms_names.specs.declared.name.Format.{Format}
use Rattle.cms_names.specs.declared.name.Format.TheVariants.{F, V}
use Rattle.cms_names.specs.declared.name.Name.{Name}
use Rattle.cms_text.specs.Bytes.{byte, word}
use Rattle.cms_fields.specs.Entries.{filled_in, format_byte, is_part_field, part_in}
use Rattle.cms_fields.specs.Limits.{longest_record}
use Rattle.cms_fields.specs.Stamps.{has_stamp, is_stamp, stamp_at, stamp_bytes, stamp_flags, stamp_in}
use Rattle.cms_fields.specs.declared.time.Stamp.{Stamp}
use Rattle.cms_fields.proofs.Parts.{field_read, front_passes, is_part_field-filled, length-filled, part_in-filled}
use Rattle.cms_fields.proofs.StampBytes.{written_spells}
use Rattle.cms_model.specs.LawsRecords.{AreBytes}
use Rattle.cms_fields.proofs.WrittenEntry.{of_eight}
use Rattle.cms_cards.specs.Headers.{field_part, fields_in, format_of, header_bytes, header_in, header_stamp, header_table, name_in, sizes_fit, with_sizes}
use Rattle.cms_cards.specs.declared.header.Header.{Header}

-- what is known of a file's header
pub record IsHeader (h : Header) : Type 0 where
  pub file : is_part h.name.file ≡ true
  pub kind : is_part h.name.kind ≡ true
  pub number : h.number ≤ 6
  pub low : 1 ≤ h.length
  pub high : h.length ≤ longest_record
  pub some : 1 ≤ h.count
  pub stamp : is_stamp h.stamp ≡ true

-- ---- a header that is written

-- a part is read from its field
part_again : (part : List ℕ) → is_part part ≡ true → field_part (filled part) ≡ Some part
part_again part is = rw (is_part_field-filled part is, part_in-filled part is) refl

-- what stands in its bytes, place by place, with names of 8 bytes
record Says (file kind : List ℕ) (h : Header) (text : List ℕ) : Type 0 where
  file_at : take 8 text ≡ file
  kind_at : take 8 (drop 8 text) ≡ kind
  mode_at : byte text 16 ≡ 0xF0 + h.number
  form_at : byte text 17 ≡ format_byte h.format
  length_at : word text 18 ≡ h.length
  count_at : word text 22 ≡ h.count
  stored_at : word text 26 ≡ h.stored
  date_at : take 6 (drop 30 text) ≡ stamp_bytes h.stamp
  flags_at : byte text 36 ≡ stamp_flags h.stamp
  long : nat_le 37 (length text) ≡ true

abbrev bytes_of : List ℕ → List ℕ → Header → List ℕ
bytes_of file kind h =
    filled_in ((0, file) ∷ (8, kind) ∷ (16, (0xF0 + h.number) ∷ []) ∷ (17, format_byte h.format ∷ [])
    ∷ (18, big_bytes 4 h.length) ∷ (22, big_bytes 4 h.count) ∷ (26, big_bytes 4 h.stored)
    ∷ (30, stamp_bytes h.stamp) ∷ (36, stamp_flags h.stamp ∷ []) ∷ []) (replicate 37 0)

-- numbers that fit four bytes
record AreWords (h : Header) : Type 0 where
  wide : h.length < 2 ^ 32
  count : h.count < 2 ^ 32
  stored : h.stored < 2 ^ 32

says : (file kind rest : List ℕ) (h : Header) → length file ≡ 8 → length kind ≡ 8 → AreWords h → Says file kind h (bytes_of file kind h ++ rest)
unfolding word stamp_bytes
says file kind rest h file_long kind_long are =
    of_eight (λ f. Says f kind h (bytes_of f kind h ++ rest)) file file_long (λ a b c d e f g h'.
    of_eight (λ k. Says (a ∷ b ∷ c ∷ d ∷ e ∷ f ∷ g ∷ h' ∷ []) k h (bytes_of (a ∷ b ∷ c ∷ d ∷ e ∷ f ∷ g ∷ h' ∷ []) k h ++ rest)) kind kind_long (λ i j k l m n o p.
    let text : List ℕ = bytes_of (a ∷ b ∷ c ∷ d ∷ e ∷ f ∷ g ∷ h' ∷ []) (i ∷ j ∷ k ∷ l ∷ m ∷ n ∷ o ∷ p ∷ []) h ++ rest in
    record {
      file_at = refl;
      kind_at = refl;
      mode_at = refl;
      form_at = refl;
      length_at = big_number-reads_back 4 h.length (drop 22 text) are.wide;
      count_at = big_number-reads_back 4 h.count (drop 26 text) are.count;
      stored_at = big_number-reads_back 4 h.stored (drop 30 text) are.stored;
      date_at = refl;
      flags_at = refl;
      long = le-leb 37 (length text) (omega arith);
    }))

format_again : (format : Format) → format_of (format_byte format) ≡ Some format
unfolding format_of
format_again F = refl
format_again V = refl

number_again : (number : ℕ) → number ≤ 6 → mode_number_of (0xF0 + number) ≡ Some number
unfolding mode_number_of
number_again number few =
    let is : is_between 0xF0 0xF6 (0xF0 + number) ≡ true = and_from _ _ (le-leb 0xF0 (0xF0 + number) (omega arith)) (le-leb (0xF0 + number) 0xF6 (omega arith)) in
    let back : 0xF0 + number - 0xF0 ≡ number = omega arith in
    rw (is, back) refl

sizes_again : (h : Header) → IsHeader h → sizes_fit h ≡ true
sizes_again h is = and_from _ _ (and_from _ _ (le-leb 1 h.length is.low) (le-leb h.length longest_record is.high)) (le-leb 1 h.count is.some)

read_again : (text : List ℕ) (h : Header) → IsHeader h → Says (filled h.name.file) (filled h.name.kind) h text → header_in text ≡ Some h
unfolding fields_in name_in
read_again text h is s =
    let file : field_part (take 8 text) ≡ Some h.name.file = ap field_part s.file_at ∙ part_again h.name.file is.file in
    let kind : field_part (take 8 (drop 8 text)) ≡ Some h.name.kind = ap field_part s.kind_at ∙ part_again h.name.kind is.kind in
    let number : mode_number_of (byte text 16) ≡ Some h.number = ap mode_number_of s.mode_at ∙ number_again h.number is.number in
    let format : format_of (byte text 17) ≡ Some h.format = ap format_of s.form_at ∙ format_again h.format in
    let stamp : stamp_in (take 6 (drop 30 text)) (byte text 36) ≡ Some h.stamp =
    ap (λ (l : List ℕ). stamp_in l (byte text 36)) s.date_at ∙ ap (stamp_in (stamp_bytes h.stamp)) s.flags_at ∙ written_spells h.stamp is.stamp in
    let length_at = s.length_at in
    let count_at = s.count_at in
    let stored_at = s.stored_at in
    let fit = sizes_again h is in
    rw (s.long, file, kind, number, format, stamp, length_at, count_at, stored_at, fit) refl

-- a header that is written is read again, whatever follows it
pub header_back : (h : Header) (rest : List ℕ) → IsHeader h → h.count < 2 ^ 32 → h.stored < 2 ^ 32 → header_in (header_bytes h ++ rest) ≡ Some h
unfolding header_table
header_back h rest is count stored =
    let high = is.high in
    read_again (header_bytes h ++ rest) h is (says (filled h.name.file) (filled h.name.kind) rest h (length-filled h.name.file is.file) (length-filled h.name.kind is.kind)
    (record { wide = omega arith; count = count; stored = stored }))

-- a header has 37 bytes
pub length-header : (h : Header) → is_part h.name.file ≡ true → is_part h.name.kind ≡ true → length (header_bytes h) ≡ 37
unfolding header_table stamp_bytes
length-header h file kind =
    of_eight (λ f. length (bytes_of f (filled h.name.kind) h) ≡ 37) (filled h.name.file) (length-filled h.name.file file) (λ a b c d e f g i.
    of_eight (λ k. length (bytes_of (a ∷ b ∷ c ∷ d ∷ e ∷ f ∷ g ∷ i ∷ []) k h) ≡ 37) (filled h.name.kind) (length-filled h.name.kind kind) (λ j k l m n o p q. refl))

-- ---- a field that is read

field_is : (o : Option (List ℕ)) (b : Bool) (part : List ℕ) → is_some o ≡ b → IfSome o (λ p. p ≡ part) → o ≡ cond b (Some part) None
field_is None b part is value = subst (λ (c : Bool). None ≡ cond c (Some part) None) is refl
field_is (Some p) b part is value = subst (λ (c : Bool). Some p ≡ cond c (Some part) None) is (ap (λ (q : List ℕ). Some q) value)

-- its front, which blanks follow
pub field_taken : (field : List ℕ) (n : ℕ) (read : Result (List ℕ) NameFault) → length field ≡ 8 → n ≡ length (part_in field) → read ≡ part_of (take n field)
    → list_all (λ x. x == 0x40) (take (length field - n) (drop n field)) ≡ true → result_ok read ≡ field_part field
field_taken field n read long front is blank =
    let both = field_read field n read long front is blank in
    field_is (result_ok read) (is_part_field field) (part_in field) both.0 both.1

and_false : (b : Bool) → (b && false) ≡ false
and_false true = refl
and_false false = refl

-- what follows is no blanks
pub field_left : (field : List ℕ) (n : ℕ) (blank : Bool) → n ≡ length (part_in field) → blank ≡ list_all (λ x. x == 0x40) (take (length field - n) (drop n field))
    → blank ≡ false → None ≡ field_part field
unfolding is_part_field
field_left field n blank front is other_than =
    let rest : take (length field - n) (drop n field) ≡ drop (length (part_in field)) field = take_rest field n ∙ ap (λ (k : ℕ). drop k field) front in
    let other : list_all (λ x. x == 0x40) (drop (length (part_in field)) field) ≡ false =
    ap (λ (l : List ℕ). list_all (λ x. x == 0x40) l) (sym rest) ∙ sym is ∙ other_than in
    let none : (nat_le 1 (length (part_in field)) && list_all (λ x. x == 0x40) (drop (length (part_in field)) field)) ≡ false =
    ap (λ (b : Bool). nat_le 1 (length (part_in field)) && b) other ∙ and_false (nat_le 1 (length (part_in field))) in
    rw none refl

-- ---- a header that is read

part_read : (field part : List ℕ) → length field ≤ 8 → field_part field ≡ Some part → is_part part ≡ true
unfolding is_part_field is_text_of
part_read field part long is =
    let both = cond_some (is_part_field field) (part_in field) part is in
    let some = (and_parts _ _ both.0).0 in
    let within = prefix_len-le-length is_name_character field in
    let size = length-prefix_len is_name_character field in
    let few : length (part_in field) ≤ 8 = omega (arith, size, within) in
    subst (λ (p : List ℕ). is_part p ≡ true) both.1 (and_from _ _ (and_from _ _ some (le-leb (length (part_in field)) 8 few)) (front_passes is_name_character field))

name_read : (text : List ℕ) (name : Name) → name_in text ≡ Some name → (is_part name.file ≡ true) × (is_part name.kind ≡ true)
unfolding name_in
name_read text name is =
    option_and_then_some _ (field_part (take 8 text)) name is (λ file file_is e.
    option_and_then_some _ (field_part (take 8 (drop 8 text))) name e (λ kind kind_is e'.
    let same : ◌≡◌ {A = Name} (record { file = file; kind = kind }) name = (cc) in
    subst (λ (n : Name). (is_part n.file ≡ true) × (is_part n.kind ≡ true)) same (part_read (take 8 text) file (omega (arith, length-take 8 text)) file_is, part_read (take 8 (drop 8 text)) kind (omega (arith, length-take 8 (drop 8 text))) kind_is)))

number_read : (digit number : ℕ) → mode_number_of digit ≡ Some number → number ≤ 6
unfolding mode_number_of
number_read digit number is =
    let both = cond_some (is_between 0xF0 0xF6 digit) (digit - 0xF0) number is in
    let high : digit ≤ 0xF6 = leb-true digit 0xF6 (and_parts _ _ both.0).1 in
    let same = both.1 in
    omega arith

stamp_read : (date : List ℕ) (flags : ℕ) (stamp : Stamp) → stamp_in date flags ≡ Some stamp → is_stamp stamp ≡ true
unfolding stamp_in has_stamp
stamp_read date flags stamp is =
    let both = cond_some (has_stamp date 0 flags) (stamp_at date 0 flags) stamp is in
    subst (λ (s : Stamp). is_stamp s ≡ true) both.1 (and_parts _ _ both.0).1

-- what a text says is a file's header, and its words are those of the text
pub record IsRead (text : List ℕ) (h : Header) : Type 0 where
  pub is : IsHeader h
  pub count_is : word text 22 ≡ h.count
  pub stored_is : word text 26 ≡ h.stored
  pub long : 37 ≤ length text

cond_then : (b : Bool) (o : Option Header) (h : Header) → cond b o None ≡ Some h → (b ≡ true) × (o ≡ Some h)
cond_then true o h e = (refl, e)
cond_then false o h e = absurd (cc)

pub header_read : (text : List ℕ) (h : Header) → header_in text ≡ Some h → IsRead text h
unfolding fields_in
header_read text h is =
    let front = cond_then (nat_le 37 (length text)) (fields_in text) h is in
    option_and_then_some _ (name_in text) h front.1 (λ name name_is e1.
    option_and_then_some _ (mode_number_of (byte text 16)) h e1 (λ number number_is e2.
    option_and_then_some _ (format_of (byte text 17)) h e2 (λ format format_is e3.
    option_and_then_some _ (header_stamp text) h e3 (λ stamp stamp_is e4.
    let made : Header = with_sizes text name number format stamp in
    let both = cond_some (sizes_fit made) made h e4 in
    let names = name_read text name name_is in
    let sizes = and_parts _ _ both.0 in
    let around = and_parts _ _ sizes.0 in
    subst (IsRead text) both.1 (record {
      is = record {
        file = names.0;
        kind = names.1;
        number = number_read (byte text 16) number number_is;
        low = leb-true 1 (word text 18) around.0;
        high = leb-true (word text 18) longest_record around.1;
        some = leb-true 1 (word text 22) sizes.1;
        stamp = stamp_read (take 6 (drop 30 text)) (byte text 36) stamp stamp_is;
      };
      count_is = refl;
      stored_is = refl;
      long = leb-true 37 (length text) front.0;
    })))))

-- four bytes
pub word_few : (text : List ℕ) (at : ℕ) → AreBytes (drop at text) → word text at < 2 ^ 32
unfolding word
word_few text at are = big_from-lt 0 4 (drop at text) are
