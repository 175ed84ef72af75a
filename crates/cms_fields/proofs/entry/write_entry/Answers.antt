use Rattle.std.proofs.Common.{◌≡◌, ◌∙◌, ap, arith, replicate, List, ℕ, ◌+◌, ◌∷◌, [], refl}
use Rattle.byteorder.specs.Endian.{big_bytes}
use Rattle.cms_text.specs.Bytes.{overwritten}
use Rattle.cms_fields.specs.Entries.{entry_table}
use Rattle.cms_fields.proofs.WrittenEntry.{entry_written}
use Rattle.cms_fields.proofs.entry.write_entry.Goals as goal

-- a field over bytes, by what both are known to be
over : (at : ℕ) (field f bytes b new : List ℕ) → new ≡ overwritten at field bytes → field ≡ f → bytes ≡ b → new ≡ overwritten at f b
over at field f bytes b new is field_is bytes_is = rw (← field_is, ← bytes_is) is

pub returns-clause-written : goal.returns-clause-written
unfolding entry_table
returns-clause-written c =
    let zero : c.fill.new.self ≡ replicate 64 0 = c.fill.ensures.after (λ y e. e) ∙ ap (λ n. replicate n 0) c.requires.long in
    let e = c.args.entry.now in
    over 54 _ _ _ _ _ c.put-8.ensures c.packed_stamp.ensures
    (over 53 _ _ _ _ _ c.put-7.ensures (ap (λ b. b ∷ []) c.pointer_size.ensures)
    (over 52 (e.levels ∷ []) (e.levels ∷ []) _ _ _ c.put-6.ensures refl
    (over 48 (big_bytes 4 e.count) (big_bytes 4 e.count) _ _ _ c.put_word-4.ensures refl
    (over 44 (big_bytes 4 e.blocks) (big_bytes 4 e.blocks) _ _ _ c.put_word-3.ensures refl
    (over 40 (big_bytes 4 e.root) (big_bytes 4 e.root) _ _ _ c.put_word-2.ensures refl
    (over 32 (big_bytes 4 e.length) (big_bytes 4 e.length) _ _ _ c.put_word.ensures refl
    (over 31 _ _ _ _ _ c.put-5.ensures (ap (λ b. b ∷ []) c.stamp_flags.ensures)
    (over 30 _ _ _ _ _ c.put-4.ensures (ap (λ b. b ∷ []) c.format_byte.ensures)
    (over 24 (0xC1 ∷ (0xF0 + e.number) ∷ []) (0xC1 ∷ (0xF0 + e.number) ∷ []) _ _ _ c.put-3.ensures refl
    (over 8 _ _ _ _ _ c.put-2.ensures c.padded-2.ensures.value
    (over 0 _ _ _ _ _ c.put.ensures c.padded.ensures.value zero)))))))))))

pub returns-clause-spells : goal.returns-clause-spells
returns-clause-spells c = λ bsize pass. rw (returns-clause-written c) (entry_written bsize c.args.entry.now (record {
  file = c.padded.ensures.part;
  kind = c.padded-2.ensures.part;
  length_fits = omega arith;
  root_fits = omega arith;
  blocks_fits = omega arith;
  count_fits = omega arith;
}) pass)
