-- An entry as it is read: at V the length of records that it tells is passed over.
use Rattle.std.proofs.Common.{◌≡◌, ℕ, ◌+◌, List, [], ◌∷◌, All, Ok, refl, ◌∙◌, ap, subst}
use Rattle.std.proofs.lemmas.List.Elements.{All-nil, All-cons}
use Rattle.cms_names.specs.declared.name.Format.{Format}
use Rattle.cms_names.specs.declared.name.Format.TheVariants.{F, V}
use Rattle.cms_fields.specs.Entries.{is_fixed, length_fits, counts_fit, levels_fit, passes, entry_of}
use Rattle.cms_fields.specs.declared.entry.Entry.{Entry}
use Rattle.cms_model.specs.Records.{Fits, records_of, length_of}
use Rattle.cms_model.specs.Volumes.{as_read, blamed, entries_of, length_read}
use Rattle.cms_model.specs.declared.fault.OpenFault.TheVariants as failed
use Rattle.cms_model.proofs.Results.{ok_same, bind_then}

-- whatever does not look at the length at V is the same
at_formats : {A : Type 0} (f : Format → ℕ → A) → ((size other : ℕ) → f V size ≡ f V other) → (format : Format) (size : ℕ)
    → f format (length_read format size) ≡ f format size
at_formats f same F size = refl
at_formats f same V size = same 0 size

-- the tests of an entry
pub fits_so : (e : Entry) → length_fits (as_read e) ≡ length_fits e
unfolding length_fits
fits_so e = at_formats (λ (format : Format) (size : ℕ). length_fits (record e { format = format; length = size })) (λ size other. refl) e.format e.length

pub counts_so : (bsize : ℕ) (e : Entry) → counts_fit bsize (as_read e) ≡ counts_fit bsize e
unfolding counts_fit
counts_so bsize e = at_formats (λ (format : Format) (size : ℕ). counts_fit bsize (record e { format = format; length = size })) (λ size other. refl) e.format e.length

pub passes_so : (bsize : ℕ) (e : Entry) → passes bsize (as_read e) ≡ passes bsize e
unfolding passes length_fits counts_fit levels_fit
passes_so bsize e = at_formats (λ (format : Format) (size : ℕ). passes bsize (record e { format = format; length = size })) (λ size other. refl) e.format e.length

-- its records, and their length
pub records_so : (bsize : ℕ) (format : Format) (size count : ℕ) (bytes : List ℕ) → records_of bsize format (length_read format size) count bytes ≡ records_of bsize format size count bytes
unfolding records_of
records_so bsize format size count bytes = at_formats (λ (y : Format) (n : ℕ). records_of bsize y n count bytes) (λ n other. refl) format size

pub length_so : (format : Format) (size : ℕ) (records : List (List ℕ)) → length_of format (length_read format size) records ≡ length_of format size records
length_so format size records = at_formats (λ (y : Format) (n : ℕ). length_of y n records) (λ n other. refl) format size

-- what was read is as it is read
pub read_again : (e : Entry) → as_read (as_read e) ≡ as_read e
read_again e = at_formats (λ (format : Format) (size : ℕ). as_read (record e { format = format; length = size })) (λ size other. refl) e.format e.length

-- so it is with the length of the records at V
told_so : (format : Format) (size : ℕ) (records : List (List ℕ)) → length_read format (length_of format size records) ≡ length_read format size
told_so F size records = refl
told_so V size records = refl

pub told_read : (e : Entry) (records : List (List ℕ)) → as_read e ≡ e → as_read (record e { length = length_of e.format e.length records }) ≡ e
told_read e records is = ap (λ (n : ℕ). record e { length = n }) (told_so e.format e.length records) ∙ is

pub entries_read : (bsize number : ℕ) (pieces : List (List ℕ)) (es : List Entry) → entries_of bsize number pieces ≡ Ok es → All (λ e. as_read e ≡ e) es
unfolding entries_of
entries_read bsize number [] es e = subst (λ (l : List Entry). All (λ x. as_read x ≡ x) l) (ok_same [] es e) (All-nil (λ (x : Entry). as_read x ≡ x))
entries_read bsize number (bytes ∷ rest) es e =
    bind_then (blamed (failed.Entry number) (entry_of bsize bytes)) _ es e (λ one is_one e1.
    bind_then (entries_of bsize (number + 1) rest) _ es e1 (λ more is_more e2.
    subst (λ (l : List Entry). All (λ x. as_read x ≡ x) l) (ok_same (as_read one ∷ more) es e2)
    (All-cons (λ (x : Entry). as_read x ≡ x) (as_read one) more (read_again one) (entries_read bsize (number + 1) rest more is_more))))
