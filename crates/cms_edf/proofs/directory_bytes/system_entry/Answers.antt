use Rattle.std.proofs.Common.{◌≡◌, List, ℕ, ◌∷◌, [], refl, ap}
use Rattle.byteorder.specs.Endian.{big_bytes}
use Rattle.cms_text.specs.Bytes.{overwritten}
use Rattle.cms_fields.specs.Stamps.{stamp_flags}
use Rattle.cms_held.specs.Systems.{system_entry}
use Rattle.cms_edf.proofs.directory_bytes.system_entry.Goals as goal

-- a field over bytes, by what both are known to be
over : (at : ℕ) (field f bytes b new : List ℕ) → new ≡ overwritten at field bytes → field ≡ f → bytes ≡ b → new ≡ overwritten at f b
over at field f bytes b new is field_is bytes_is = rw (← field_is, ← bytes_is) is

pub returns : goal.returns
unfolding system_entry
returns c =
    let f = c.file.inside in
    let flags : c.write_stamp-flags.result ≡ stamp_flags c.args.stamp.now = c.write_stamp-flags.ensures.flags in
    rw (← c.file.view_is) (over 54 _ _ _ _ _ c.put-6.ensures c.write_stamp-flags.ensures.written
    (over 52 (f.levels ∷ 4 ∷ []) (f.levels ∷ 4 ∷ []) _ _ _ c.put-5.ensures refl
    (over 48 (big_bytes 4 f.count) (big_bytes 4 f.count) _ _ _ c.put_word-4.ensures refl
    (over 44 (big_bytes 4 f.blocks) (big_bytes 4 f.blocks) _ _ _ c.put_word-3.ensures refl
    (over 40 (big_bytes 4 f.root) (big_bytes 4 f.root) _ _ _ c.put_word-2.ensures refl
    (over 32 (big_bytes 4 c.args.size) (big_bytes 4 c.args.size) _ _ _ c.put_word.ensures refl
    (over 31 _ _ _ _ _ c.put-4.ensures (ap (λ b. b ∷ []) flags)
    (over 30 (0xC6 ∷ []) (0xC6 ∷ []) _ _ _ c.put-3.ensures refl
    (over 24 (0xC1 ∷ 0xF1 ∷ []) (0xC1 ∷ 0xF1 ∷ []) _ _ _ c.put-2.ensures refl
    (over 0 c.args.name.now c.args.name.now _ _ _ c.put.ensures refl refl))))))))))
