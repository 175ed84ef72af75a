-- Bytes cut into records of one length are a valid file.
use Rattle.std.proofs.Common.{◌≡◌, ◌∙◌, ◌++◌, ◌∷◌, [], ◌*◌, ◌≤◌, ℕ, List, length, refl, sym, ap, arith, lit≤, true}
use Rattle.std.specs.List.{concat}
use Rattle.std.proofs.lemmas.List.{append-nil, drop_all}
use Rattle.std.proofs.lemmas.List.Elements.{All-cons, All-nil}
use Rattle.cms_names.specs.declared.name.Format.TheVariants.{F, V}
use Rattle.cms_fields.specs.Stamps.{is_stamp}
use Rattle.cms_model.specs.Lists.{cut}
use Rattle.cms_model.specs.Records.{Fits, IsValid, longest}
use Rattle.cms_model.specs.declared.file.FileData.{FileData}
use Rattle.cms_model.proofs.Cuts.{length_cut}
use Rattle.cms_model.proofs.Records.{fits_cut, stored_cut}

-- bytes that are cut and nothing behind
whole_cut : (n size : ℕ) (bytes : List ℕ) → length bytes ≡ n * size → concat (cut n size bytes) ≡ bytes
whole_cut n size bytes whole =
    sym (stored_cut n size bytes (omega arith) ∙ ap (λ (rest : List ℕ). concat (cut n size bytes) ++ rest) (drop_all (n * size) bytes (omega arith)) ∙ append-nil (concat (cut n size bytes)))

pub cards_are_valid : (f : FileData) → f.format ≡ F → (1 ≤ f.length) × (f.length ≤ 65535) → length f.bytes ≡ f.count * f.length → 1 ≤ f.count → f.number ≤ 6 → is_stamp f.stamp ≡ true → IsValid f
cards_are_valid f is_f size whole some number stamp = record {
  records = cut f.count f.length f.bytes;
  stands = record {
    bytes_are = rw is_f (sym (whole_cut f.count f.length f.bytes whole));
    each = rw is_f (fits_cut f.count f.length f.bytes (omega arith));
    length_is = rw is_f refl;
    length_fits = size;
    count_is = sym (length_cut f.count f.length f.bytes);
    some = rw (length_cut f.count f.length f.bytes) some;
    number_fits = number;
    stamp_is = stamp;
  };
}

-- ---- two records with lengths of their own

first : List ℕ
first = 0x50 ∷ 0xE3 ∷ 0xD9 ∷ 0xC1 ∷ 0xC3 ∷ 0xC5 ∷ 0x40 ∷ 0xD6 ∷ 0xD5 ∷ []

second : List ℕ
second = 0x50 ∷ 0xC5 ∷ 0xE7 ∷ 0xC9 ∷ 0xE3 ∷ 0x40 ∷ 0x40 ∷ []

pub two_are_valid : (f : FileData) → f.format ≡ V → f.length ≡ 9 → f.count ≡ 2 → f.number ≡ 1 → is_stamp f.stamp ≡ true
    → f.bytes ≡ 0x00 ∷ 0x09 ∷ 0x50 ∷ 0xE3 ∷ 0xD9 ∷ 0xC1 ∷ 0xC3 ∷ 0xC5 ∷ 0x40 ∷ 0xD6 ∷ 0xD5 ∷ 0x00 ∷ 0x07 ∷ 0x50 ∷ 0xC5 ∷ 0xE7 ∷ 0xC9 ∷ 0xE3 ∷ 0x40 ∷ 0x40 ∷ [] → IsValid f
unfolding longest first second
two_are_valid f is_v size count number stamp bytes = record {
  records = first ∷ second ∷ [];
  stands = record {
    bytes_are = rw (is_v, bytes) refl;
    each = rw is_v (All-cons (Fits V f.length) first (second ∷ []) (lit≤ tt, lit≤ tt) (All-cons (Fits V f.length) second [] (lit≤ tt, lit≤ tt) (All-nil (Fits V f.length))));
    length_is = rw (is_v, size) refl;
    length_fits = rw size (lit≤ tt, lit≤ tt);
    count_is = count;
    some = lit≤ tt;
    number_fits = rw number (lit≤ tt);
    stamp_is = stamp;
  };
}
