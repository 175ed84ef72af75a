-- An entry whose fields pass the tests is read back from the bytes written for it.
use Rattle.std.proofs.Common.{◌≡◌, ℕ, suc, ◌+◌, ◌-◌, ◌/◌, ◌%◌, ◌^◌, ◌<◌, ◌≤◌, List, [], ◌∷◌, length, take, drop, get_or, replicate, refl, sym, ◌∙◌, ap, subst, arith, true, drop-cons}
use Rattle.std.specs.Prelude.{Ok, ◌==◌}
use Rattle.std.proofs.lemmas.Bool.{le-leb, leb-true, lt-ltb, eq-eqb, and_parts, and_from}
use Rattle.std.proofs.lemmas.List.{drop_all}
use Rattle.std.proofs.Math.Bool.{or-true}
use Rattle.byteorder.specs.Endian.{big_bytes}
use Rattle.byteorder.specs.Numbers.{big_number-reads_back}
use Rattle.cms_names.specs.Names.{filled, is_part}
use Rattle.cms_names.specs.declared.name.Format.{Format}
use Rattle.cms_names.specs.declared.name.Format.TheVariants.{F, V}
use Rattle.cms_text.specs.Bytes.{word, byte}
use Rattle.cms_fields.specs.Stamps.{stamp_bytes, stamp_flags, stamp_at, are_packed, has_stamp, is_stamp}
use Rattle.cms_fields.specs.Entries.{entry_of, entry_bytes, entry_table, filled_in, entry_fields, passes, has_name, has_mode, has_format, has_pointer_size, name_at, format_at, format_byte, pointer_size, length_fits, counts_fit, levels_fit, part_in}
use Rattle.cms_fields.specs.declared.entry.Entry.{Entry}
use Rattle.cms_fields.proofs.Parts.{length-filled, part_in-filled, is_part_field-filled}
use Rattle.cms_fields.proofs.Dates.{stamp_small, IsSmall}
use Rattle.cms_fields.proofs.StampBytes.{Spells, stamp_back, has_back}

-- what an entry's type says of its fields
pub record IsEntry (e : Entry) : Type 0 where
  pub file : is_part e.name.file ≡ true
  pub kind : is_part e.name.kind ≡ true
  pub length_fits : e.length < 2 ^ 32
  pub root_fits : e.root < 2 ^ 32
  pub blocks_fits : e.blocks < 2 ^ 32
  pub count_fits : e.count < 2 ^ 32

-- a list that is long enough begins with the item there
next_item : (k : ℕ) (xs : List ℕ) → k < length xs → drop k xs ≡ get_or xs k 0 ∷ drop (suc k) xs
next_item k xs lt = drop-cons xs k 0 lt

-- what holds of each list of eight items written out holds of each list of eight
pub of_eight : (P : List ℕ → Type 0) (xs : List ℕ) → length xs ≡ 8
    → ((a b c d e f g h : ℕ) → P (a ∷ b ∷ c ∷ d ∷ e ∷ f ∷ g ∷ h ∷ [])) → P xs
of_eight P xs long each =
    let e0 : drop 0 xs ≡ get_or xs 0 0 ∷ drop 1 xs = next_item 0 xs (omega arith) in
    let e1 : drop 1 xs ≡ get_or xs 1 0 ∷ drop 2 xs = next_item 1 xs (omega arith) in
    let e2 : drop 2 xs ≡ get_or xs 2 0 ∷ drop 3 xs = next_item 2 xs (omega arith) in
    let e3 : drop 3 xs ≡ get_or xs 3 0 ∷ drop 4 xs = next_item 3 xs (omega arith) in
    let e4 : drop 4 xs ≡ get_or xs 4 0 ∷ drop 5 xs = next_item 4 xs (omega arith) in
    let e5 : drop 5 xs ≡ get_or xs 5 0 ∷ drop 6 xs = next_item 5 xs (omega arith) in
    let e6 : drop 6 xs ≡ get_or xs 6 0 ∷ drop 7 xs = next_item 6 xs (omega arith) in
    let e7 : drop 7 xs ≡ get_or xs 7 0 ∷ drop 8 xs = next_item 7 xs (omega arith) in
    let e8 : drop 8 xs ≡ [] = drop_all 8 xs (omega arith) in
    let whole : xs ≡ get_or xs 0 0 ∷ get_or xs 1 0 ∷ get_or xs 2 0 ∷ get_or xs 3 0 ∷ get_or xs 4 0 ∷ get_or xs 5 0 ∷ get_or xs 6 0 ∷ get_or xs 7 0 ∷ [] =
    e0 ∙ ap (λ t. get_or xs 0 0 ∷ t) (e1 ∙ ap (λ t. get_or xs 1 0 ∷ t) (e2 ∙ ap (λ t. get_or xs 2 0 ∷ t) (e3 ∙ ap (λ t. get_or xs 3 0 ∷ t)
    (e4 ∙ ap (λ t. get_or xs 4 0 ∷ t) (e5 ∙ ap (λ t. get_or xs 5 0 ∷ t) (e6 ∙ ap (λ t. get_or xs 6 0 ∷ t) (e7 ∙ ap (λ t. get_or xs 7 0 ∷ t) e8))))))) in
    subst P (sym whole) (each (get_or xs 0 0) (get_or xs 1 0) (get_or xs 2 0) (get_or xs 3 0) (get_or xs 4 0) (get_or xs 5 0) (get_or xs 6 0) (get_or xs 7 0))

-- the bytes of an entry with these fields in place of its names
abbrev bytes_of : List ℕ → List ℕ → Entry → List ℕ
bytes_of file kind e =
    filled_in ((0, file) ∷ (8, kind)
    ∷ (24, 0xC1 ∷ (0xF0 + e.number) ∷ []) ∷ (30, format_byte e.format ∷ []) ∷ (31, stamp_flags e.stamp ∷ [])
    ∷ (32, big_bytes 4 e.length) ∷ (40, big_bytes 4 e.root) ∷ (44, big_bytes 4 e.blocks) ∷ (48, big_bytes 4 e.count)
    ∷ (52, e.levels ∷ []) ∷ (53, pointer_size e.format ∷ [])
    ∷ (54, stamp_bytes e.stamp) ∷ [])
    (replicate 64 0)

-- what such bytes say, place by place
record Says (file kind : List ℕ) (e : Entry) (bytes : List ℕ) : Type 0 where
  file_at : take 8 bytes ≡ file
  kind_at : take 8 (drop 8 bytes) ≡ kind
  mode_at : byte bytes 25 ≡ 0xF0 + e.number
  form_at : byte bytes 30 ≡ format_byte e.format
  length_at : word bytes 32 ≡ e.length
  root_at : word bytes 40 ≡ e.root
  blocks_at : word bytes 44 ≡ e.blocks
  count_at : word bytes 48 ≡ e.count
  levels_at : byte bytes 52 ≡ e.levels
  size_at : byte bytes 53 ≡ pointer_size e.format
  flags_at : byte bytes 31 ≡ stamp_flags e.stamp
  date_at : Spells bytes 54 e.stamp

says : (file kind : List ℕ) (e : Entry) → length file ≡ 8 → length kind ≡ 8 → IsEntry e → Says file kind e (bytes_of file kind e)
unfolding word stamp_bytes
says file kind e file_long kind_long is =
    of_eight (λ f. Says f kind e (bytes_of f kind e)) file file_long (λ a b c d e' f g h.
    of_eight (λ k. Says (a ∷ b ∷ c ∷ d ∷ e' ∷ f ∷ g ∷ h ∷ []) k e (bytes_of (a ∷ b ∷ c ∷ d ∷ e' ∷ f ∷ g ∷ h ∷ []) k e)) kind kind_long (λ i j k l m n o p. record {
      file_at = refl;
      kind_at = refl;
      mode_at = refl;
      form_at = refl;
      length_at = big_number-reads_back 4 e.length [] is.length_fits;
      root_at = big_number-reads_back 4 e.root [] is.root_fits;
      blocks_at = big_number-reads_back 4 e.blocks [] is.blocks_fits;
      count_at = big_number-reads_back 4 e.count [] is.count_fits;
      levels_at = refl;
      size_at = refl;
      flags_at = refl;
      date_at = record { year = refl; month = refl; day = refl; hour = refl; minute = refl; second = refl };
    }))

-- the tests that bytes pass which spell an entry
pub record Passed (bsize : ℕ) (bytes : List ℕ) (found : Entry) : Type 0 where
  pub name_so : has_name bytes ≡ true
  pub mode_so : has_mode bytes ≡ true
  pub format_so : has_format bytes ≡ true
  pub length_so : length_fits found ≡ true
  pub counts_so : counts_fit bsize found ≡ true
  pub levels_so : levels_fit bsize found ≡ true
  pub size_so : has_pointer_size bytes ≡ true
  pub date_so : has_stamp bytes 54 (byte bytes 31) ≡ true
  pub entry_so : entry_fields bytes ≡ found

-- bytes that pass each test spell what they say
pub entry_spelled : (bsize : ℕ) (bytes : List ℕ) (found : Entry) → Passed bsize bytes found → entry_of bsize bytes ≡ Ok found
unfolding entry_of
entry_spelled bsize bytes found p =
    rw (p.name_so, p.mode_so, p.format_so, p.entry_so, p.length_so, p.counts_so, p.levels_so, p.size_so, p.date_so) refl

format_back : (format : Format) (bytes : List ℕ) → byte bytes 30 ≡ format_byte format → (has_format bytes ≡ true) × (format_at bytes ≡ format)
unfolding has_format format_at
format_back F bytes is = rw is (refl, refl)
format_back V bytes is = rw is (refl, refl)

name_back : (file kind : List ℕ) (bytes : List ℕ) → take 8 bytes ≡ filled file → take 8 (drop 8 bytes) ≡ filled kind
    → is_part file ≡ true → is_part kind ≡ true → has_name bytes ≡ true
unfolding has_name
name_back file kind bytes f k file_is kind_is = rw (f, k) (and_from _ _ (is_part_field-filled file file_is) (is_part_field-filled kind kind_is))

fields_back : (e : Entry) (bytes : List ℕ) → IsEntry e → IsSmall e.stamp → Says (filled e.name.file) (filled e.name.kind) e bytes → entry_fields bytes ≡ e
unfolding entry_fields name_at
fields_back e bytes is small s =
    let number : 0xF0 + e.number - 0xF0 ≡ e.number = omega arith in
    λ i. record {
      name = record {
        file = (ap part_in s.file_at ∙ part_in-filled e.name.file is.file) i;
        kind = (ap part_in s.kind_at ∙ part_in-filled e.name.kind is.kind) i;
      };
      number = (ap (λ b. b - 0xF0) s.mode_at ∙ number) i;
      format = (format_back e.format bytes s.form_at).1 i;
      length = s.length_at i;
      root = s.root_at i;
      blocks = s.blocks_at i;
      count = s.count_at i;
      levels = s.levels_at i;
      stamp = (ap (stamp_at bytes 54) s.flags_at ∙ stamp_back bytes 54 e.stamp s.date_at small) i;
    }

-- the tests that an entry's fields pass
record Fits (bsize : ℕ) (e : Entry) : Type 0 where
  number : e.number ≤ 6
  length_so : length_fits e ≡ true
  counts_so : counts_fit bsize e ≡ true
  levels_so : levels_fit bsize e ≡ true
  stamp_so : is_stamp e.stamp ≡ true

fits : (bsize : ℕ) (e : Entry) → passes bsize e ≡ true → Fits bsize e
unfolding passes
fits bsize e pass =
    let a = and_parts _ _ pass in
    let b = and_parts _ _ a.0 in
    let c = and_parts _ _ b.0 in
    let d = and_parts _ _ c.0 in
    record { number = leb-true e.number 6 d.0; length_so = d.1; counts_so = c.1; levels_so = b.1; stamp_so = a.1 }

mode_back : (e : Entry) (bytes : List ℕ) → e.number ≤ 6 → byte bytes 25 ≡ 0xF0 + e.number → has_mode bytes ≡ true
unfolding has_mode
mode_back e bytes few is = rw is (and_from _ _ (le-leb 0xF0 (0xF0 + e.number) (omega arith)) (le-leb (0xF0 + e.number) 0xF6 (omega arith)))

size_back : (e : Entry) (bytes : List ℕ) → format_at bytes ≡ e.format → byte bytes 53 ≡ pointer_size e.format → has_pointer_size bytes ≡ true
unfolding has_pointer_size
size_back e bytes form size = rw (form, size, eq-eqb (pointer_size e.format) (pointer_size e.format) refl) (or-true (byte bytes 52 == 0))

written_says : (e : Entry) → IsEntry e → Says (filled e.name.file) (filled e.name.kind) e (entry_bytes e)
unfolding entry_table
written_says e is = says (filled e.name.file) (filled e.name.kind) e (length-filled e.name.file is.file) (length-filled e.name.kind is.kind) is

pub entry_written : (bsize : ℕ) (e : Entry) → IsEntry e → passes bsize e ≡ true → entry_of bsize (entry_bytes e) ≡ Ok e
entry_written bsize e is pass =
    let f = fits bsize e pass in
    let small = stamp_small e.stamp f.stamp_so in
    let s = written_says e is in
    let form = format_back e.format (entry_bytes e) s.form_at in
    entry_spelled bsize (entry_bytes e) e (record {
      name_so = name_back e.name.file e.name.kind (entry_bytes e) s.file_at s.kind_at is.file is.kind;
      mode_so = mode_back e (entry_bytes e) f.number s.mode_at;
      format_so = form.0;
      length_so = f.length_so;
      counts_so = f.counts_so;
      levels_so = f.levels_so;
      size_so = size_back e (entry_bytes e) form.1 s.size_at;
      date_so = ap (has_stamp (entry_bytes e) 54) s.flags_at ∙ has_back (entry_bytes e) 54 e.stamp s.date_at f.stamp_so;
      entry_so = fields_back e (entry_bytes e) is small s;
    })
