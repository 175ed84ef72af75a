-- The label that is written for a new volume is read.
use Rattle.std.proofs.Common.{◌≡◌, ℕ, ◌+◌, ◌^◌, ◌<◌, ◌≤◌, true, List, [], ◌∷◌, ◌++◌, length, take, drop, Ok, refl, ◌∙◌, ap, subst, arith}
use Rattle.std.specs.Prelude.{nat_le}
use Rattle.std.proofs.lemmas.Bool.{le-leb, eq-eqb, and_from}
use Rattle.byteorder.specs.Numbers.{big_number-reads_back}
use Rattle.cms_text.specs.Bytes.{word}
use Rattle.cms_fields.specs.Stamps.{stamp_bytes}
use Rattle.cms_fields.specs.Labels.{label_of, label_fields, has_identifier, is_origin}
use Rattle.cms_fields.specs.NewLabels.{first_fields}
use Rattle.cms_fields.specs.declared.label.Label.{Label}
use Rattle.cms_fields.specs.declared.time.Stamp.{Stamp}
use Rattle.cms_fields.proofs.WrittenLabel.{label_spelled}

-- what holds of each list of six items written out holds of each list of six
pub of_six : (P : List ℕ → Type 0) (xs : List ℕ) → length xs ≡ 6 → ((a b c d e f : ℕ) → P (a ∷ b ∷ c ∷ d ∷ e ∷ f ∷ [])) → P xs
of_six P [] long each = absurd (omega arith)
of_six P (a ∷ []) long each = absurd (omega arith)
of_six P (a ∷ b ∷ []) long each = absurd (omega arith)
of_six P (a ∷ b ∷ c ∷ []) long each = absurd (omega arith)
of_six P (a ∷ b ∷ c ∷ d ∷ []) long each = absurd (omega arith)
of_six P (a ∷ b ∷ c ∷ d ∷ e ∷ []) long each = absurd (omega arith)
of_six P (a ∷ b ∷ c ∷ d ∷ e ∷ f ∷ []) long each = each a b c d e f
of_six P (a ∷ b ∷ c ∷ d ∷ e ∷ f ∷ g ∷ xs) long each = absurd (omega arith)

-- its numbers fit in a word
pub record FitsWords (l : Label) : Type 0 where
  pub volid : length l.volid ≡ 6
  pub bsize : l.bsize < 2 ^ 32
  pub origin : l.origin < 2 ^ 32
  pub blocks : l.blocks < 2 ^ 32
  pub in_use : l.in_use < 2 ^ 32

-- what the bytes say, place by place
record Says (l : Label) (bytes : List ℕ) : Type 0 where
  id : has_identifier bytes ≡ true
  volid : take 6 (drop 4 bytes) ≡ l.volid
  size : word bytes 12 ≡ l.bsize
  origin : word bytes 16 ≡ l.origin
  blocks : word bytes 28 ≡ l.blocks
  in_use : word bytes 32 ≡ l.in_use
  entry : word bytes 36 ≡ 64

says : (l : Label) (stamp : Stamp) (rest : List ℕ) → FitsWords l → Says l (first_fields l stamp ++ rest)
unfolding first_fields stamp_bytes word has_identifier
says l stamp rest fits =
    of_six (λ (volid : List ℕ). Says (record l { volid = volid }) (first_fields (record l { volid = volid }) stamp ++ rest)) l.volid fits.volid (λ a b c d e f. record {
      id = refl;
      volid = refl;
      size = big_number-reads_back 4 l.bsize [] fits.bsize;
      origin = big_number-reads_back 4 l.origin [] fits.origin;
      blocks = big_number-reads_back 4 l.blocks [] fits.blocks;
      in_use = big_number-reads_back 4 l.in_use [] fits.in_use;
      entry = refl;
    })

-- they are 80 bytes
pub length_fields : (l : Label) (stamp : Stamp) → FitsWords l → length (first_fields l stamp) ≡ 80
unfolding first_fields stamp_bytes
length_fields l stamp fits = of_six (λ (volid : List ℕ). length (first_fields (record l { volid = volid }) stamp) ≡ 80) l.volid fits.volid (λ a b c d e f. refl)

-- they spell the label, whatever follows
pub first_spelled : (l : Label) (stamp : Stamp) (rest : List ℕ) (blocks : ℕ) → FitsWords l → is_origin l.origin ≡ true → 6 ≤ l.blocks → l.blocks ≤ blocks
    → label_of l.bsize blocks (first_fields l stamp ++ rest) ≡ Ok l
unfolding label_fields
first_spelled l stamp rest blocks fits origin low most =
    let s = says l stamp rest fits in
    label_spelled l.bsize blocks (first_fields l stamp ++ rest) l (record {
      id_so = s.id;
      size_so = eq-eqb (word (first_fields l stamp ++ rest) 12) l.bsize s.size;
      origin_so = ap is_origin s.origin ∙ origin;
      count_so = rw s.blocks (and_from (nat_le 6 l.blocks) (nat_le l.blocks blocks) (le-leb 6 l.blocks low) (le-leb l.blocks blocks most));
      entry_so = eq-eqb (word (first_fields l stamp ++ rest) 36) 64 s.entry;
      label_so = λ i. record { volid = s.volid i; bsize = s.size i; origin = s.origin i; blocks = s.blocks i; in_use = s.in_use i };
    })
