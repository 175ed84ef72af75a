use Rattle.std.proofs.Common.{◌+◌, ◌∷◌, [], ap, refl, replicate, ◌≡◌, ◌∙◌, ◌≤◌, ℕ, List, length, arith, sym, Fits, w8}
use Rattle.byteorder.specs.Endian.{big_bytes}
use Rattle.cms_cards.specs.Headers.{header_table}
use Rattle.cms_cards.proofs.Cards.{over}
use Rattle.cms_fields.proofs.Parts.{length-filled}
use Rattle.cms_cards.proofs.header.Header.bytes.Goals as goal

pub returns : goal.returns
unfolding header_table
returns c =
    let h = c.args.self.now in
    over 36 _ _ _ _ _ c.put-6.ensures (ap (λ b. b ∷ []) c.write_stamp-flags.ensures.flags)
    (over 30 _ _ _ _ _ c.put-5.ensures c.write_stamp-flags.ensures.written
    (over 26 (big_bytes 4 h.stored) (big_bytes 4 h.stored) _ _ _ c.put_word-3.ensures refl
    (over 22 (big_bytes 4 h.count) (big_bytes 4 h.count) _ _ _ c.put_word-2.ensures refl
    (over 18 (big_bytes 4 h.length) (big_bytes 4 h.length) _ _ _ c.put_word.ensures refl
    (over 17 _ _ _ _ _ c.put-4.ensures (ap (λ b. b ∷ []) c.format_byte.ensures)
    (over 16 ((0xF0 + h.number) ∷ []) ((0xF0 + h.number) ∷ []) _ _ _ c.put-3.ensures refl
    (over 8 _ _ _ _ _ c.put-2.ensures c.padded-2.ensures.value
    (over 0 _ _ _ (replicate 37 0) _ c.put.ensures c.padded.ensures.value refl))))))))

-- a field stands within the header
within : (end more now : ℕ) → end + more ≡ 37 → now ≡ 37 → end ≤ now
within end more now whole long = omega arith

-- a field of so many bytes does
field_within : (at size more count now : ℕ) → at + size + more ≡ 37 → count ≡ size → now ≡ 37 → at + count ≤ now
field_within at size more count now whole is long = omega arith

pub write_stamp-flags-requires-clause-valid : goal.write_stamp-flags-requires-clause-valid
write_stamp-flags-requires-clause-valid c = c.requires.stamp

pub put-requires : goal.put-requires
put-requires c = field_within 0 8 29 _ 37 refl (ap (λ (z : List ℕ). length z) c.padded.ensures.value ∙ length-filled c.args.self.now.name.file c.padded.ensures.part) refl

pub put-requires-2 : goal.put-requires-2
put-requires-2 c = field_within 8 8 21 _ _ refl (ap (λ (z : List ℕ). length z) c.padded-2.ensures.value ∙ length-filled c.args.self.now.name.kind c.padded-2.ensures.part) c.put.auto.into

pub put-requires-3 : goal.put-requires-3
put-requires-3 c = within 17 20 _ refl (c.put-2.auto.into ∙ c.put.auto.into)

pub put-requires-4 : goal.put-requires-4
put-requires-4 c = within 18 19 _ refl (c.put-3.auto.into ∙ c.put-2.auto.into ∙ c.put.auto.into)

pub put_word-requires : goal.put_word-requires
put_word-requires c = within 22 15 _ refl (c.put-4.auto.into ∙ c.put-3.auto.into ∙ c.put-2.auto.into ∙ c.put.auto.into)

pub put_word-requires-2 : goal.put_word-requires-2
put_word-requires-2 c = within 26 11 _ refl (c.put_word.auto.into ∙ c.put-4.auto.into ∙ c.put-3.auto.into ∙ c.put-2.auto.into ∙ c.put.auto.into)

pub put_word-requires-3 : goal.put_word-requires-3
put_word-requires-3 c = within 30 7 _ refl (c.put_word-2.auto.into ∙ c.put_word.auto.into ∙ c.put-4.auto.into ∙ c.put-3.auto.into ∙ c.put-2.auto.into ∙ c.put.auto.into)

pub put-requires-5 : goal.put-requires-5
put-requires-5 c = field_within 30 6 1 _ _ refl c.write_stamp-flags.auto.date (c.put_word-3.auto.into ∙ c.put_word-2.auto.into ∙ c.put_word.auto.into ∙ c.put-4.auto.into ∙ c.put-3.auto.into ∙ c.put-2.auto.into ∙ c.put.auto.into)

pub put-requires-6 : goal.put-requires-6
put-requires-6 c = within 37 0 _ refl (c.put-5.auto.into ∙ c.put_word-3.auto.into ∙ c.put_word-2.auto.into ∙ c.put_word.auto.into ∙ c.put-4.auto.into ∙ c.put-3.auto.into ∙ c.put-2.auto.into ∙ c.put.auto.into)

digit_fits : (number : ℕ) → number ≤ 6 → Fits w8 (240 + number)
digit_fits number few = omega arith

pub slice_bounds-put-end-3 : goal.slice_bounds-put-end-3
slice_bounds-put-end-3 c = sym c.put.auto.into

pub slice_bounds-put-end-5 : goal.slice_bounds-put-end-5
slice_bounds-put-end-5 c = sym (c.put-2.auto.into ∙ c.put.auto.into)

pub slice_bounds-put-end-7 : goal.slice_bounds-put-end-7
slice_bounds-put-end-7 c = sym (c.put-3.auto.into ∙ c.put-2.auto.into ∙ c.put.auto.into)

pub slice_bounds-put_word-end : goal.slice_bounds-put_word-end
slice_bounds-put_word-end c = sym (c.put-4.auto.into ∙ c.put-3.auto.into ∙ c.put-2.auto.into ∙ c.put.auto.into)

pub slice_bounds-put_word-end-2 : goal.slice_bounds-put_word-end-2
slice_bounds-put_word-end-2 c = sym (c.put_word.auto.into ∙ c.put-4.auto.into ∙ c.put-3.auto.into ∙ c.put-2.auto.into ∙ c.put.auto.into)

pub slice_bounds-put_word-end-3 : goal.slice_bounds-put_word-end-3
slice_bounds-put_word-end-3 c = sym (c.put_word-2.auto.into ∙ c.put_word.auto.into ∙ c.put-4.auto.into ∙ c.put-3.auto.into ∙ c.put-2.auto.into ∙ c.put.auto.into)

pub slice_bounds-put-end-9 : goal.slice_bounds-put-end-9
slice_bounds-put-end-9 c = sym (c.put_word-3.auto.into ∙ c.put_word-2.auto.into ∙ c.put_word.auto.into ∙ c.put-4.auto.into ∙ c.put-3.auto.into ∙ c.put-2.auto.into ∙ c.put.auto.into)

pub slice_bounds-put-end-11 : goal.slice_bounds-put-end-11
slice_bounds-put-end-11 c = sym (c.put-5.auto.into ∙ c.put_word-3.auto.into ∙ c.put_word-2.auto.into ∙ c.put_word.auto.into ∙ c.put-4.auto.into ∙ c.put-3.auto.into ∙ c.put-2.auto.into ∙ c.put.auto.into)

pub slice_bounds-put-end-10 : goal.slice_bounds-put-end-10
slice_bounds-put-end-10 c = sym c.write_stamp-flags.auto.date

pub overflow_add-self : goal.overflow_add-self
overflow_add-self c = digit_fits c.args.self.now.number c.requires.number
