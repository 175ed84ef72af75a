-- What is known of bytes that spell an entry.
use Rattle.std.proofs.Common.{◌≡◌, ℕ, List, Result, Ok, Bool, true, false, refl}
use Rattle.cms_fields.specs.Steps.{◌>>◌, want}
use Rattle.cms_text.specs.Bytes.{byte}
use Rattle.cms_fields.specs.Stamps.{has_stamp}
use Rattle.cms_fields.specs.Entries.{entry_fields, has_name, has_mode, has_format, length_fits, counts_fit, levels_fit, has_pointer_size, entry_of}
use Rattle.cms_fields.specs.declared.entry.Entry.{Entry}
use Rattle.cms_fields.specs.declared.entry.EntryFault.TheVariants as failed

-- a test that passed, and what follows it
pub want_ok : {B E : Type 0} (b : Bool) (d : E) (r : Result B E) (y : B) → (want b d >> r) ≡ Ok y → (b ≡ true) × (r ≡ Ok y)
want_ok true d r y e = (refl, e)
want_ok false d r y e = absurd (cc)

pub ok_same : {B E : Type 0} (x y : B) → ◌≡◌ {A = Result B E} (Ok x) (Ok y) → x ≡ y
ok_same x y e = cc

-- each test passes, and the fields are what the bytes say
pub record EntryIs (bsize : ℕ) (bytes : List ℕ) (e : Entry) : Type 0 where
  pub name : has_name bytes ≡ true
  pub mode : has_mode bytes ≡ true
  pub format : has_format bytes ≡ true
  pub long : length_fits (entry_fields bytes) ≡ true
  pub counts : counts_fit bsize (entry_fields bytes) ≡ true
  pub levels : levels_fit bsize (entry_fields bytes) ≡ true
  pub pointers : has_pointer_size bytes ≡ true
  pub stamp : has_stamp bytes 54 (byte bytes 31) ≡ true
  pub fields : entry_fields bytes ≡ e

pub entry_is : (bsize : ℕ) (bytes : List ℕ) (e : Entry) → entry_of bsize bytes ≡ Ok e → EntryIs bsize bytes e
unfolding entry_of
entry_is bsize bytes e is =
    let a = want_ok (has_name bytes) failed.Name _ e is in
    let b = want_ok (has_mode bytes) failed.Mode _ e a.1 in
    let c = want_ok (has_format bytes) failed.Format _ e b.1 in
    let d = want_ok (length_fits (entry_fields bytes)) failed.Length _ e c.1 in
    let f = want_ok (counts_fit bsize (entry_fields bytes)) failed.Counts _ e d.1 in
    let g = want_ok (levels_fit bsize (entry_fields bytes)) failed.Levels _ e f.1 in
    let h = want_ok (has_pointer_size bytes) failed.PointerSize _ e g.1 in
    let i = want_ok (has_stamp bytes 54 (byte bytes 31)) failed.Date _ e h.1 in
    record { name = a.0; mode = b.0; format = c.0; long = d.0; counts = f.0; levels = g.0; pointers = h.0; stamp = i.0; fields = ok_same (entry_fields bytes) e i.1 }
