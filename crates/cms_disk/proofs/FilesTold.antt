-- What is told of a file is what a file may have.
use Rattle.std.proofs.Common.{◌≡◌, ◌≤◌, ℕ, zero, suc, List, [], ◌∷◌, Some, All, map, sym, ap, subst, slice_get}
use Rattle.std.specs.Prelude.{IfSome}
use Rattle.std.proofs.lemmas.Bool.{and_parts}
use Rattle.std.proofs.lemmas.List.Elements.{All-head, All-tail}
use Rattle.cms_names.specs.Names.{is_between}
use Rattle.cms_fields.specs.Entries.{counts_fit}
use Rattle.cms_fields.specs.Limits.{longest_record, most_records}
use Rattle.cms_fields.specs.declared.entry.Entry.{Entry}
use Rattle.cms_model.proofs.FileSizes.{EntryFits, passing}
use Rattle.cms_model.proofs.TreeFrame.{between}
use Rattle.cms_records.specs.Pieces.{RecordState}
use Rattle.cms_held.specs.HeldVolumes.{HeldFile, HeldVolume}
use Rattle.cms_held.specs.Kept.{IsKeptFile, IsSized, Keeps}
use Rattle.cms_edf.specs.FilesTold.{info_of}
use Rattle.cms_edf.specs.declared.held.FileInfo.{FileInfo}
use Rattle.cms_disk.specs.Cursors.{Cursor}
use Rattle.cms_disk.specs.Disks.{FirstIn, IsFileInfo}
use Rattle.cms_disk.proofs.FilesFound.{kept_at}

counted : (bsize : ℕ) (e : Entry) → EntryFits bsize e → (1 ≤ e.count) × (e.count ≤ most_records)
unfolding counts_fit
counted bsize e fits = between 1 most_records e.count (and_parts (is_between 1 most_records e.count) _ fits.counts).0

kept_told : (bsize total : ℕ) (f : HeldFile) → IsKeptFile bsize total f → IsFileInfo (info_of f)
kept_told bsize total f kept =
    let p = passing bsize f.entry kept.entry in
    let records = counted bsize f.entry p.fits in
    record { number = p.number; stamp = p.stamp; some = kept.some; short = kept.short; records = records.0; few = records.1 }

pub told_sound : (bsize total : ℕ) (files : List HeldFile) (k : ℕ) (info : FileInfo) → All (IsKeptFile bsize total) files → slice_get (map info_of files) k ≡ Some info → IsFileInfo info
told_sound bsize total [] k info each at = absurd (cc at)
told_sound bsize total (f ∷ fs) zero info each at =
    let is : info_of f ≡ info = cc at in
    subst IsFileInfo is (kept_told bsize total f (All-head (IsKeptFile bsize total) f fs each))
told_sound bsize total (f ∷ fs) (suc k) info each at = told_sound bsize total fs k info (All-tail (IsKeptFile bsize total) f fs each) at

-- how many bytes are stored of it are those of its records
pub told_sized : (bsize total : ℕ) (files : List HeldFile) (k bytes : ℕ) → All (IsKeptFile bsize total) files → slice_get (map (λ (f : HeldFile). f.size) files) k ≡ Some bytes
    → IfSome (slice_get (map info_of files) k) (λ info. IsSized info.format info.length info.count bytes)
told_sized bsize total [] k bytes each at = absurd (cc at)
told_sized bsize total (f ∷ fs) zero bytes each at =
    let is : f.size ≡ bytes = cc at in
    subst (IsSized f.entry.format f.length f.entry.count) is (All-head (IsKeptFile bsize total) f fs each).sized
told_sized bsize total (f ∷ fs) (suc k) bytes each at = told_sized bsize total fs k bytes (All-tail (IsKeptFile bsize total) f fs each) at

-- no record of a file is longer than a record may be
pub first_short : (v : HeldVolume) (k : ℕ) (c : Cursor) → Keeps v → FirstIn v k c → c.begun.longest ≤ longest_record
first_short v k c keeps first = subst (λ (n : ℕ). n ≤ longest_record) (sym (ap (λ (b : RecordState). b.longest) first.2.begun)) (kept_at v k first.0 keeps first.1).short
