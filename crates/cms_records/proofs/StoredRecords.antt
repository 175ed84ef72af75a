-- What a file stands for is what its stored bytes hold.
use Rattle.std.proofs.Common.{◌≡◌, ◌∙◌, ◌*◌, ◌≤◌, ◌++◌, ℕ, List, [], length, sym, ap, subst, arith, lit≤}
use Rattle.std.specs.Prelude.{All}
use Rattle.std.specs.List.{concat}
use Rattle.std.proofs.lemmas.List.{append-nil}
use Rattle.cms_names.specs.declared.name.Format.{Format}
use Rattle.cms_names.specs.declared.name.Format.TheVariants.{F, V}
use Rattle.cms_model.specs.Lists.{cut}
use Rattle.cms_model.specs.Records.{Fits, IsValid, StandsFor, stored}
use Rattle.cms_model.specs.declared.file.FileData.{FileData}
use Rattle.cms_model.proofs.Cuts.{length_cut}
use Rattle.cms_model.proofs.Records.{cut_stored, length_stored_fixed, read_stored}
use Rattle.cms_records.specs.Views.{BeginWith}
use Rattle.cms_records.specs.Stored.{records_at, records_in}
use Rattle.cms_records.proofs.Lengths.{Reads, length-front, varying_reads}

-- what is read at V of stored records
stored_reads : (size : ℕ) (records : List (List ℕ)) → All (Fits V size) records → Reads (length records) (stored V records) records
stored_reads size records each =
    subst (λ (bytes : List ℕ). Reads (length records) bytes records) (append-nil (stored V records))
    (varying_reads 1 (length records) 0 (stored V records ++ []) records (read_stored 1 size 0 records [] each (lit≤ tt)))

stored_are : (format : Format) (size : ℕ) (records : List (List ℕ)) → All (Fits format size) records → records_at format size (length records) (stored format records) ≡ records
stored_are F size records each = ap (cut (length records) size) (sym (append-nil (concat records))) ∙ cut_stored size records [] each
stored_are V size records each = (stored_reads size records each).front_is

pub records_are : (f : FileData) (records : List (List ℕ)) → StandsFor f records → records_in f ≡ records
records_are f records stands = rw (stands.bytes_are, stands.count_is) (stored_are f.format f.length records stands.each)

-- the bytes have room for all records of one size
pub has_room : (f : FileData) → IsValid f → f.format ≡ F → f.length * f.count ≤ length f.bytes
has_room f valid is_f =
    let stands = valid.stands in
    let each : All (Fits F f.length) valid.records = subst (λ (x : Format). All (Fits x f.length) valid.records) is_f stands.each in
    let bytes : f.bytes ≡ concat valid.records = stands.bytes_are ∙ ap (λ (x : Format). stored x valid.records) is_f in
    let wide : length f.bytes ≡ length valid.records * f.length = ap length bytes ∙ length_stored_fixed f.length valid.records each in
    let many : length valid.records * f.length ≡ f.length * f.count = rw (← stands.count_is) (omega arith) in
    omega arith

-- the bytes begin with all records of varying lengths
pub has_begun : (f : FileData) → IsValid f → f.format ≡ V → BeginWith f.count f.bytes
has_begun f valid is_v =
    let stands = valid.stands in
    let each : All (Fits V f.length) valid.records = subst (λ (x : Format). All (Fits x f.length) valid.records) is_v stands.each in
    rw (stands.bytes_are, is_v, stands.count_is) (stored_reads f.length valid.records each).begin

pub length-records_at : (format : Format) (size count : ℕ) (bytes : List ℕ) → length (records_at format size count bytes) ≡ count
length-records_at F size count bytes = length_cut count size bytes
length-records_at V size count bytes = length-front count bytes
