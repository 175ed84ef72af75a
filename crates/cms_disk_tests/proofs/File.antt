-- A file of one record is valid.
use Rattle.std.proofs.Common.{◌≡◌, ◌≤◌, ℕ, true, List, [], ◌∷◌, length, replicate, refl, sym, ◌∙◌, ap, append-nil, lit≤}
use Rattle.std.proofs.lemmas.List.{length-replicate}
use Rattle.std.proofs.lemmas.List.Elements.{All-cons, All-nil}
use Rattle.cms_names.specs.declared.name.Format.TheVariants.{F}
use Rattle.cms_fields.specs.Stamps.{is_stamp}
use Rattle.cms_model.specs.Records.{Fits, IsValid}
use Rattle.cms_model.specs.declared.file.FileData.{FileData}

of_one : (f : FileData) (size : ℕ) → f.format ≡ F → f.length ≡ size → f.count ≡ 1 → f.number ≡ 1 → is_stamp f.stamp ≡ true → length f.bytes ≡ size → 1 ≤ size → size ≤ 65535
    → IsValid f
of_one f size is_f is_size count number stamp long some few = record {
  records = f.bytes ∷ [];
  stands = record {
    bytes_are = rw is_f (sym (append-nil f.bytes));
    each = rw is_f (All-cons (Fits F f.length) f.bytes [] (long ∙ sym is_size) (All-nil (Fits F f.length)));
    length_is = rw is_f refl;
    length_fits = rw is_size (some, few);
    count_is = count;
    some = lit≤ tt;
    number_fits = rw number (lit≤ tt);
    stamp_is = stamp;
  };
}

pub page : (f : FileData) → f.format ≡ F → f.length ≡ 2048 → f.count ≡ 1 → f.number ≡ 1 → is_stamp f.stamp ≡ true → f.bytes ≡ replicate 2048 64 → IsValid f
page f is_f size count number stamp bytes = of_one f 2048 is_f size count number stamp (ap length bytes ∙ length-replicate {A = ℕ} 2048 64) (lit≤ tt) (lit≤ tt)

pub byte : (f : FileData) → f.format ≡ F → f.length ≡ 1 → f.count ≡ 1 → f.number ≡ 1 → is_stamp f.stamp ≡ true → length f.bytes ≡ 1 → IsValid f
byte f is_f size count number stamp long = of_one f 1 is_f size count number stamp long (lit≤ tt) (lit≤ tt)
