-- The label of an update.
use Rattle.std.proofs.Common.{◌≡◌, ⊎_elim, ℕ, ◌-◌, ◌^◌, ◌<◌, ◌≤◌, List, length, drop, Ok, true, refl, sym, ◌∙◌, ap, subst, arith, length-drop, length-take-le}
use Rattle.std.specs.Prelude.{nat_le}
use Rattle.std.proofs.lemmas.Bool.{and_from, le-leb, eqb-true, cases_lt}
use Rattle.byteorder.specs.Endian.{big_bytes}
use Rattle.cms_text.specs.Bytes.{word, overwritten}
use Rattle.cms_text.proofs.Overwritten.{length_over}
use Rattle.cms_fields.specs.Labels.{label_of, label_fields, with_label, is_origin, SpellsSame}
use Rattle.cms_fields.specs.declared.label.Label.{Label}
use Rattle.cms_fields.proofs.WrittenLabel.{label_passed, label_spelled, label_written}
use Rattle.cms_model.proofs.TreeFrame.{between}

pub label_size : (bsize count : ℕ) (bytes : List ℕ) (label : Label) → label_of bsize count bytes ≡ Ok label → label.bsize ≡ bsize
unfolding label_fields
label_size bsize count bytes label is =
    let p = label_passed bsize count bytes label is in
    ap (λ (l : Label). l.bsize) (sym p.label_so) ∙ eqb-true (word bytes 12) bsize p.size_so

pub spells_same : (bsize count : ℕ) (bytes : List ℕ) (label new : Label) → label_of bsize count bytes ≡ Ok label → new.bsize ≡ label.bsize → new.blocks ≡ label.blocks → SpellsSame new bytes
unfolding label_fields
spells_same bsize count bytes label new is same_size same_blocks =
    let p = label_passed bsize count bytes label is in
    let size : new.bsize ≡ bsize = same_size ∙ label_size bsize count bytes label is in
    let blocks : word bytes 28 ≡ new.blocks = ap (λ (l : Label). l.blocks) p.label_so ∙ sym same_blocks in
    let low = (between 6 count (word bytes 28) p.count_so).0 in
    let again : label_of bsize new.blocks bytes ≡ Ok label = label_spelled bsize new.blocks bytes label (record {
      id_so = p.id_so;
      size_so = p.size_so;
      origin_so = p.origin_so;
      count_so = and_from (nat_le 6 (word bytes 28)) (nat_le (word bytes 28) new.blocks) (le-leb 6 (word bytes 28) low) (le-leb (word bytes 28) new.blocks (omega arith));
      entry_so = p.entry_so;
      label_so = p.label_so;
    }) in
    (label, subst (λ (n : ℕ). label_of n new.blocks bytes ≡ Ok label) (sym size) again, sym same_blocks)

pub other_origin : (n : ℕ) → 4 ≤ n → n ≤ 5 → is_origin (9 - n) ≡ true
unfolding is_origin
other_origin n low high = ⊎_elim
    (λ (four : n < 5). let is : n ≡ 4 = omega arith in rw is refl)
    (λ (five : 5 ≤ n). let is : n ≡ 5 = omega arith in rw is refl)
    (cases_lt n 5)

-- a label has a volume id of six bytes
pub volid_long : (bsize count : ℕ) (bytes : List ℕ) (label : Label) → label_of bsize count bytes ≡ Ok label → 80 ≤ length bytes → length label.volid ≡ 6
unfolding label_fields
volid_long bsize count bytes label is long =
    let p = label_passed bsize count bytes label is in
    let rest = length-drop 4 bytes in
    ap (λ (l : Label). length l.volid) (sym p.label_so) ∙ length-take-le 6 (drop 4 bytes) (omega arith)

-- the old bytes with the new fields spell the new label, which has another origin and count of blocks in use
pub new_label : (bsize count : ℕ) (bytes : List ℕ) (old new : Label) → label_of bsize count bytes ≡ Ok old → 80 ≤ length bytes → length new.volid ≡ 6 → new.bsize ≡ old.bsize → new.blocks ≡ old.blocks
    → is_origin new.origin ≡ true → new.origin ≤ 5 → new.in_use < 2 ^ 32 → old.blocks ≤ count → label_of bsize count (with_label new bytes) ≡ Ok new
new_label bsize count bytes old new is long volid size blocks origin low in_use most =
    let spells = spells_same bsize count bytes old new is size blocks in
    let written = label_written new bytes (record { volid = volid; origin = omega arith; in_use = in_use }) long spells origin count (omega arith) in
    subst (λ (n : ℕ). label_of n count (with_label new bytes) ≡ Ok new) (size ∙ label_size bsize count bytes old is) written

-- they are as many as before
pub label_length : (label : Label) (bytes : List ℕ) → length label.volid ≡ 6 → 80 ≤ length bytes → length (with_label label bytes) ≡ length bytes
unfolding with_label
label_length label bytes volid long =
    let v = length_over 4 label.volid bytes (omega arith) in
    let o = length_over 16 (big_bytes 4 label.origin) (overwritten 4 label.volid bytes) (omega arith) in
    let u = length_over 32 (big_bytes 4 label.in_use) (overwritten 16 (big_bytes 4 label.origin) (overwritten 4 label.volid bytes)) (omega arith) in
    u ∙ (o ∙ v)
