use Rattle.std.proofs.Common.{◌≡◌, ◌∙◌, ◌/◌, ◌++◌, List, ℕ, ◌∷◌, [], refl, ap, arith}
use Rattle.byteorder.specs.Endian.{big_bytes}
use Rattle.cms_text.specs.Bytes.{overwritten}
use Rattle.cms_fields.specs.Stamps.{stamp_bytes}
use Rattle.cms_fields.specs.Labels.{label_of}
use Rattle.cms_fields.specs.NewLabels.{first_fields}
use Rattle.cms_fields.proofs.NewLabel.{first_spelled}
use Rattle.cms_fields.proofs.new_label.first_fields.Goals as goal

-- a field over bytes, by what the bytes are known to be
over : (at : ℕ) (field f bytes b new : List ℕ) → new ≡ overwritten at field bytes → field ≡ f → bytes ≡ b → new ≡ overwritten at f b
over at field f bytes b new is field_is bytes_is = rw (← field_is, ← bytes_is) is

pub returns-clause-bytes : goal.returns-clause-bytes
unfolding first_fields
returns-clause-bytes c =
    let l = c.args.label.now in
    over 44 _ (stamp_bytes c.args.stamp.now) _ _ _ c.put-2.ensures c.packed_stamp.ensures
    (over 40 (big_bytes 4 (l.bsize / 64)) (big_bytes 4 (l.bsize / 64)) _ _ _ c.put_word-9.ensures refl
    (over 36 (big_bytes 4 64) (big_bytes 4 64) _ _ _ c.put_word-8.ensures refl
    (over 32 (big_bytes 4 l.in_use) (big_bytes 4 l.in_use) _ _ _ c.put_word-7.ensures refl
    (over 28 (big_bytes 4 l.blocks) (big_bytes 4 l.blocks) _ _ _ c.put_word-6.ensures refl
    (over 24 (big_bytes 4 l.blocks) (big_bytes 4 l.blocks) _ _ _ c.put_word-5.ensures refl
    (over 20 (big_bytes 4 l.blocks) (big_bytes 4 l.blocks) _ _ _ c.put_word-4.ensures refl
    (over 16 (big_bytes 4 l.origin) (big_bytes 4 l.origin) _ _ _ c.put_word-3.ensures refl
    (over 12 (big_bytes 4 l.bsize) (big_bytes 4 l.bsize) _ _ _ c.put_word-2.ensures refl
    (over 4 l.volid l.volid _ _ _ c.put.ensures refl c.put_word.ensures)))))))))

pub returns-clause-spells : goal.returns-clause-spells
returns-clause-spells c = λ origin low rest blocks most.
    let l = c.args.label.now in
    ap (λ (b : List ℕ). label_of l.bsize blocks (b ++ rest)) (returns-clause-bytes c)
    ∙ first_spelled l c.args.stamp.now rest blocks (record { volid = omega arith; bsize = omega arith; origin = omega arith; blocks = omega arith; in_use = omega arith }) origin low most
