-- Stored bytes that are filled by records.
use Rattle.std.proofs.Common.{◌≡◌, ℕ, ◌*◌, ◌<◌, true, List, [], ◌∷◌, ◌++◌, length, drop, All, refl, sym, ◌∙◌, ap, subst, arith, Some, Ok, Err, Result}
use Rattle.std.specs.Prelude.{◌==◌}
use Rattle.std.specs.List.{concat}
use Rattle.std.specs.Result.{result_ok}
use Rattle.std.proofs.lemmas.Bool.{eq-eqb, eqb-true}
use Rattle.std.proofs.lemmas.List.{append-nil, drop_all}
use Rattle.std.proofs.lemmas.Option.{cond_some, option_and_then_some}
use Rattle.cms_names.specs.declared.name.Format.{Format}
use Rattle.cms_names.specs.declared.name.Format.TheVariants.{F, V}
use Rattle.cms_model.specs.Lists.{cut}
use Rattle.cms_model.specs.LawsRecords.{AreBytes}
use Rattle.cms_model.specs.Records.{Fits, length_of, longest, stored, varying}
use Rattle.cms_model.specs.declared.fault.VarFault.{VarFault}
use Rattle.cms_model.proofs.Cuts.{length_cut}
use Rattle.cms_model.proofs.Records.{cut_stored, fits_cut, held_varying, length_stored_fixed, read_stored, stored_cut}
use Rattle.cms_cards.specs.Stored.{filling, with_longest}

-- bytes are these records, so many of a format and length
pub record Filled (format : Format) (size count : ℕ) (bytes : List ℕ) (records : List (List ℕ)) : Type 0 where
  pub bytes_are : bytes ≡ stored format records
  pub each : All (Fits format size) records
  pub length_is : size ≡ length_of format size records
  pub count_is : length records ≡ count

-- ---- records that fill bytes

fixed_filled : (size count : ℕ) (bytes : List ℕ) (records : List (List ℕ)) → filling F size count bytes ≡ Some records → Filled F size count bytes records
unfolding filling
fixed_filled size count bytes records is =
    let both = cond_some (count * size == length bytes) (cut count size bytes) records is in
    let full : count * size ≡ length bytes = eqb-true (count * size) (length bytes) both.0 in
    let none : drop (count * size) bytes ≡ [] = drop_all (count * size) bytes (omega arith) in
    let all : bytes ≡ concat (cut count size bytes) =
    stored_cut count size bytes (omega arith) ∙ ap (λ (l : List ℕ). concat (cut count size bytes) ++ l) none ∙ append-nil (concat (cut count size bytes)) in
    subst (Filled F size count bytes) both.1 (record {
      bytes_are = all;
      each = fits_cut count size bytes (omega arith);
      length_is = refl;
      count_is = length_cut count size bytes;
    })

ok_read : {A : Type 0} (r : Result A VarFault) (x : A) → result_ok r ≡ Some x → r ≡ Ok x
ok_read (Ok y) x e = cc
ok_read (Err y) x e = absurd (cc)

nothing : (rest : List ℕ) → length rest < 1 → rest ≡ []
nothing [] few = refl
nothing (c ∷ rest) few = absurd (omega arith)

varying_filled : (size count : ℕ) (bytes : List ℕ) (records : List (List ℕ)) → AreBytes bytes → filling V size count bytes ≡ Some records → Filled V size count bytes records
unfolding filling
varying_filled size count bytes records are is =
    option_and_then_some (with_longest size) (result_ok (varying 1 count 0 bytes)) records is (λ read read_is e.
    let both = cond_some (longest read == size) read records e in
    let long : longest read ≡ size = eqb-true (longest read) size both.0 in
    let held = held_varying 1 size count 0 bytes read are (ok_read (varying 1 count 0 bytes) read read_is) in
    let h = held.0 in
    let none : h.rest ≡ [] = nothing h.rest h.short in
    subst (Filled V size count bytes) both.1 (record {
      bytes_are = h.bytes_are ∙ ap (λ (l : List ℕ). stored V read ++ l) none ∙ append-nil (stored V read);
      each = h.each;
      length_is = sym long;
      count_is = held.1;
    }))

pub filling_filled : (format : Format) (size count : ℕ) (bytes : List ℕ) (records : List (List ℕ)) → AreBytes bytes → filling format size count bytes ≡ Some records → Filled format size count bytes records
filling_filled F size count bytes records are is = fixed_filled size count bytes records is
filling_filled V size count bytes records are is = varying_filled size count bytes records are is

-- ---- stored records fill their bytes

pub stored_filling : (format : Format) (size : ℕ) (records : List (List ℕ)) → All (Fits format size) records → size ≡ length_of format size records
    → filling format size (length records) (stored format records) ≡ Some records
unfolding filling
stored_filling F size records each is =
    let wide : length records * size ≡ length (concat records) = sym (length_stored_fixed size records each) in
    let full : (length records * size == length (concat records)) ≡ true = eq-eqb _ _ wide in
    let again : cut (length records) size (concat records) ≡ records = ap (cut (length records) size) (sym (append-nil (concat records))) ∙ cut_stored size records [] each in
    rw (full, again) refl
stored_filling V size records each is =
    let again : varying 1 (length records) 0 (stored V records) ≡ Ok records =
    ap (varying 1 (length records) 0) (sym (append-nil (stored V records))) ∙ read_stored 1 size 0 records [] each (omega arith) in
    let long : (longest records == size) ≡ true = eq-eqb _ _ (sym is) in
    rw (again, long) refl
