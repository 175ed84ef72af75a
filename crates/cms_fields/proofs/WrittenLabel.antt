-- A label that is written over one of the same block size and count of blocks is read back.
use Rattle.std.proofs.Common.{◌≡◌, ℕ, ◌<◌, ◌≤◌, ◌^◌, List, length, take, drop, refl, ◌∙◌, ap, arith, Bool, true, false}
use Rattle.std.specs.Prelude.{Ok, ◌==◌, Result}
use Rattle.std.proofs.lemmas.Bool.{le-leb, leb-true, eqb-true, eq-eqb, and_parts, and_from}
use Rattle.byteorder.specs.Endian.{big_bytes}
use Rattle.cms_names.specs.Names.{is_between}
use Rattle.cms_fields.specs.Steps.{◌>>◌, want}
use Rattle.cms_text.specs.Bytes.{word, overwritten}
use Rattle.cms_fields.specs.Labels.{label_of, label_fields, with_label, has_identifier, is_origin, SpellsSame}
use Rattle.cms_fields.specs.declared.label.Label.{Label}
use Rattle.cms_fields.specs.declared.label.LabelFault.{LabelFault}
use Rattle.cms_fields.specs.declared.label.LabelFault.TheVariants.{Id, BlockSize, Origin, Count, EntrySize}
use Rattle.cms_text.proofs.Overwritten.{word_at, word_before, word_behind, field_at, field_before, length_over}

-- what a label's type says of its fields
pub record IsLabel (l : Label) : Type 0 where
  pub volid : length l.volid ≡ 6
  pub origin : l.origin < 2 ^ 32
  pub in_use : l.in_use < 2 ^ 32

-- the tests of a label in their order
abbrev tested : Bool → Bool → Bool → Bool → Bool → Label → Result Label LabelFault
tested id size origin count entry label = do
  want id Id
  want size BlockSize
  want origin Origin
  want count Count
  want entry EntrySize
  Ok label

pub record Passed (id size origin count entry : Bool) (label found : Label) : Type 0 where
  pub id_so : id ≡ true
  pub size_so : size ≡ true
  pub origin_so : origin ≡ true
  pub count_so : count ≡ true
  pub entry_so : entry ≡ true
  pub label_so : label ≡ found

passed : (id size origin count entry : Bool) (label found : Label) → tested id size origin count entry label ≡ Ok found
    → Passed id size origin count entry label found
passed false size origin count entry label found is = (cc)
passed true false origin count entry label found is = (cc)
passed true true false count entry label found is = (cc)
passed true true true false entry label found is = (cc)
passed true true true true false label found is = (cc)
passed true true true true true label found is = record { id_so = refl; size_so = refl; origin_so = refl; count_so = refl; entry_so = refl; label_so = cc }

-- bytes that spell a label pass each test, and the label is what they say
pub label_passed : (bsize blocks : ℕ) (bytes : List ℕ) (found : Label) → label_of bsize blocks bytes ≡ Ok found
    → Passed (has_identifier bytes) (word bytes 12 == bsize) (is_origin (word bytes 16)) (is_between 6 blocks (word bytes 28)) (word bytes 36 == 64) (label_fields bytes) found
unfolding label_of
label_passed bsize blocks bytes found is = passed _ _ _ _ _ _ _ is

-- and bytes that pass each test spell it
pub label_spelled : (bsize blocks : ℕ) (bytes : List ℕ) (found : Label)
    → Passed (has_identifier bytes) (word bytes 12 == bsize) (is_origin (word bytes 16)) (is_between 6 blocks (word bytes 28)) (word bytes 36 == 64) (label_fields bytes) found
    → label_of bsize blocks bytes ≡ Ok found
unfolding label_of
label_spelled bsize blocks bytes found p = rw (p.id_so, p.size_so, p.origin_so, p.count_so, p.entry_so, p.label_so) refl

-- what a label's bytes say after the writing
pub record Says (l : Label) (old new : List ℕ) : Type 0 where
  pub id : word new 0 ≡ word old 0
  pub volid : take 6 (drop 4 new) ≡ l.volid
  pub size : word new 12 ≡ word old 12
  pub origin : word new 16 ≡ l.origin
  pub blocks : word new 28 ≡ word old 28
  pub in_use : word new 32 ≡ l.in_use
  pub entry : word new 36 ≡ word old 36

says : (l : Label) (old : List ℕ) → IsLabel l → 80 ≤ length old → Says l old (with_label l old)
unfolding with_label
says l old is long =
    let b1 = overwritten 4 l.volid old in
    let b2 = overwritten 16 (big_bytes 4 l.origin) b1 in
    let v : length l.volid ≡ 6 = is.volid in
    let o = big_bytes 4 l.origin in
    let u = big_bytes 4 l.in_use in
    let l1 : length b1 ≡ length old = length_over 4 l.volid old (omega arith) in
    let l2 : length b2 ≡ length b1 = length_over 16 (big_bytes 4 l.origin) b1 (omega arith) in
    record {
      id = word_before 32 0 u b2 (omega arith) (omega arith) ∙ word_before 16 0 o b1 (omega arith) (omega arith) ∙ word_before 4 0 l.volid old (omega arith) (omega arith);
      volid = field_before 32 4 6 u b2 (omega arith) (omega arith) ∙ field_before 16 4 6 o b1 (omega arith) (omega arith) ∙ field_at 4 6 l.volid old (omega arith) v;
      size = word_before 32 12 u b2 (omega arith) (omega arith) ∙ word_before 16 12 o b1 (omega arith) (omega arith) ∙ word_behind 4 12 l.volid old (omega arith) (omega arith);
      origin = word_before 32 16 u b2 (omega arith) (omega arith) ∙ word_at 16 l.origin b1 (omega arith) is.origin;
      blocks = word_before 32 28 u b2 (omega arith) (omega arith) ∙ word_behind 16 28 o b1 (omega arith) (omega arith) ∙ word_behind 4 28 l.volid old (omega arith) (omega arith);
      in_use = word_at 32 l.in_use b2 (omega arith) is.in_use;
      entry = word_behind 32 36 u b2 (omega arith) (omega arith) ∙ word_behind 16 36 o b1 (omega arith) (omega arith) ∙ word_behind 4 36 l.volid old (omega arith) (omega arith);
    }

pub label_written : (l : Label) (old : List ℕ) → IsLabel l → 80 ≤ length old → SpellsSame l old → is_origin l.origin ≡ true
    → (blocks : ℕ) → l.blocks ≤ blocks → label_of l.bsize blocks (with_label l old) ≡ Ok l
unfolding label_fields has_identifier
label_written l old is long (found, spelled, same) origin blocks le =
    let s = says l old is long in
    let p = label_passed l.bsize l.blocks old found spelled in
    let size : word old 12 ≡ l.bsize = eqb-true (word old 12) l.bsize p.size_so in
    let count : word old 28 ≡ l.blocks = ap (λ (x : Label). x.blocks) p.label_so ∙ same in
    let between = and_parts _ _ p.count_so in
    let low : 6 ≤ word old 28 = leb-true 6 _ between.0 in
    label_spelled l.bsize blocks (with_label l old) l (record {
      id_so = rw s.id p.id_so;
      size_so = rw (s.size, size) (eq-eqb l.bsize l.bsize refl);
      origin_so = rw s.origin origin;
      count_so = rw (s.blocks, count) (and_from _ _ (le-leb 6 l.blocks (omega arith)) (le-leb l.blocks blocks le));
      entry_so = rw s.entry p.entry_so;
      label_so = λ i. record { volid = s.volid i; bsize = (s.size ∙ size) i; origin = s.origin i; blocks = (s.blocks ∙ count) i; in_use = s.in_use i };
    })
