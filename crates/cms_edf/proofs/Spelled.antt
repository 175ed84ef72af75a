-- The bytes that are written for an entry spell it.
use Rattle.std.proofs.Common.{◌≡◌, ℕ, ◌+◌, ◌≤◌, List, ◌∷◌, [], ◌++◌, length, take, drop, replicate, refl, ◌∙◌, arith, length-append, length-take-le}
use Rattle.std.proofs.lemmas.List.{length-drop}
use Rattle.byteorder.specs.Endian.{big_bytes}
use Rattle.cms_names.specs.Names.{filled}
use Rattle.cms_text.specs.Bytes.{overwritten}
use Rattle.cms_fields.specs.Stamps.{stamp_bytes, stamp_flags}
use Rattle.cms_fields.specs.Entries.{entry_bytes, entry_table, format_byte, pointer_size}
use Rattle.cms_fields.specs.declared.entry.Entry.{Entry}
use Rattle.cms_fields.proofs.Parts.{length-filled}
use Rattle.cms_fields.proofs.WrittenEntry.{IsEntry, entry_written}
use Rattle.cms_held.specs.Written.{ReadsBack}

-- a field that is written over 64 bytes within them leaves 64
long_over : (at : ℕ) (field bytes : List ℕ) → at + length field ≤ 64 → length bytes ≡ 64 → length (overwritten at field bytes) ≡ 64
long_over at field bytes within long =
    length-append (take at bytes) (field ++ drop (at + length field) bytes)
    ∙ omega (
      arith,
      within,
      long,
      length-take-le at bytes (omega (arith, within, long)),
      length-append field (drop (at + length field) bytes),
      length-drop (at + length field) bytes,
    )

long_entry : (e : Entry) → IsEntry e → length (entry_bytes e) ≡ 64
unfolding entry_table stamp_bytes
long_entry e is =
    let file = length-filled e.name.file is.file in
    let kind = length-filled e.name.kind is.kind in
    let b0 = long_over 0 (filled e.name.file) (replicate 64 0) (omega (arith, file)) refl in
    let b1 = long_over 8 (filled e.name.kind) _ (omega (arith, kind)) b0 in
    let b2 = long_over 24 (0xC1 ∷ (0xF0 + e.number) ∷ []) _ (omega arith) b1 in
    let b3 = long_over 30 (format_byte e.format ∷ []) _ (omega arith) b2 in
    let b4 = long_over 31 (stamp_flags e.stamp ∷ []) _ (omega arith) b3 in
    let b5 = long_over 32 (big_bytes 4 e.length) _ (omega arith) b4 in
    let b6 = long_over 40 (big_bytes 4 e.root) _ (omega arith) b5 in
    let b7 = long_over 44 (big_bytes 4 e.blocks) _ (omega arith) b6 in
    let b8 = long_over 48 (big_bytes 4 e.count) _ (omega arith) b7 in
    let b9 = long_over 52 (e.levels ∷ []) _ (omega arith) b8 in
    let b10 = long_over 53 (pointer_size e.format ∷ []) _ (omega arith) b9 in
    long_over 54 (stamp_bytes e.stamp) _ (omega arith) b10

pub reads_back : (e : Entry) → IsEntry e → ReadsBack e
reads_back e is = (long_entry e is, λ bsize pass. entry_written bsize e is pass)
