-- A file can become the one that it is with valid records behind its own.
use Rattle.std.proofs.Common.{◌≡◌, ℕ, ◌+◌, ◌*◌, List, length, max, refl, sym, subst, arith}
use Rattle.std.proofs.Math.Nat.{mul-add}
use Rattle.cms_names.specs.declared.name.Format.{Format}
use Rattle.cms_names.specs.declared.name.Format.TheVariants.{F, V}
use Rattle.cms_model.specs.Records.{IsValid}
use Rattle.cms_model.specs.declared.file.FileData.{FileData}
use Rattle.cms_held.specs.Kept.{IsSized}
use Rattle.cms_held.specs.declared.shape.DraftShape.{DraftShape}
use Rattle.cms_edf.specs.declared.held.FileInfo.{FileInfo}
use Rattle.cms_edf.proofs.DraftPlanned.{some_bytes}
use Rattle.cms_disk.specs.Additions.{CanExtend, FitsInfo, shape_with}
use Rattle.cms_disk.specs.Disks.{IsFileInfo}
use Rattle.cms_disk.proofs.FilePut.{sized_so}

-- the bytes of all are those of so many records
pub sized_with : (format : Format) (size count bytes most more added : ℕ) → IsSized format size count bytes → IsSized format most more added → (format ≡ F → most ≡ size)
    → IsSized format (max size most) (count + more) (bytes + added)
sized_with F size count bytes most more added own behind fixed =
    let same = fixed refl in
    let long : max size most ≡ size = omega (arith, same) in
    rw (long, own, behind, same) (sym (mul-add size count more))
sized_with V size count bytes most more added own behind fixed = omega arith

can_become : (info : FileInfo) (bytes : ℕ) (more : FileData) → IsFileInfo info → IsSized info.format info.length info.count bytes → IsValid more → FitsInfo info more
    → CanExtend info bytes (shape_with info bytes more)
can_become info bytes more told sized valid fits =
    let s = valid.stands in
    let count = s.count_is in
    let some = s.some in
    let own = told.some in
    let short = told.short in
    let records = told.records in
    let most = s.length_fits.1 in
    let behind = subst (λ (k : Format). IsSized k more.length more.count (length more.bytes)) fits.0 (sized_so more valid.records s) in
    let added = some_bytes info.format more.length more.count (length more.bytes) behind s.length_fits.0 (omega (arith, count, some)) in
    record {
      can = record {
        number = told.number;
        stamp = s.stamp_is;
        some = omega arith;
        low = omega arith;
        high = omega arith;
        sized = sized_with info.format info.length info.count bytes more.length more.count (length more.bytes) sized behind fits.1;
      };
      format_is = refl;
      number_is = refl;
      fixed = λ is. (let same = fits.1 is in omega (arith, same));
      longer = omega arith;
      records = omega (arith, count, some);
      more = omega arith;
    }

pub can_extend : (info : FileInfo) (bytes : ℕ) (more : FileData) (shape : DraftShape) → shape ≡ shape_with info bytes more → IsFileInfo info → IsSized info.format info.length info.count bytes
    → IsValid more → FitsInfo info more → CanExtend info bytes shape
can_extend info bytes more shape is told sized valid fits = subst (CanExtend info bytes) (sym is) (can_become info bytes more told sized valid fits)
