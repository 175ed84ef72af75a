-- The file that is extended, as its disk tells it and as the machine has it.
use Rattle.std.proofs.Common.{◌≡◌, Option, Some, None, refl, subst}
use Rattle.cms_edf.specs.declared.held.FileInfo.{FileInfo}
use Rattle.cms_model.specs.Minidisks.{File}
use Rattle.cms_files.specs.Told.{IsInfo}
use Rattle.cms_copyfile.specs.FileCopies.{IsInfoOf}
use Rattle.cms_copyfile.specs.Outputs.{extended}
use Rattle.cms_copyfile.specs.declared.line.Existing.{Existing}
use Rattle.cms_copyfile.specs.declared.line.Existing.TheVariants.{Extended, Refused, Replaced}

pub extended_there : {A : Type 0} (existing : Existing) (y : Option A) (f : A) → extended existing y ≡ Some f → y ≡ Some f
extended_there Extended y f is = is
extended_there Refused y f is = absurd (cc is)
extended_there Replaced y f is = absurd (cc is)

-- what is told of it is so
pub record IsExtended (existing : Existing) (own : FileInfo) (y : Option File) : Type 0 where
  pub file : File
  pub extends : extended existing y ≡ Some file
  pub info : IsInfo own file

pub extended_so : (existing : Existing) (x : Option FileInfo) (y : Option File) (own : FileInfo) → IsInfoOf x y → extended existing x ≡ Some own → IsExtended existing own y
extended_so Refused x y own is e = absurd (cc e)
extended_so Replaced x y own is e = absurd (cc e)
extended_so Extended None y own is e = absurd (cc e)
extended_so Extended (Some i) None own is e = absurd is
extended_so Extended (Some i) (Some f) own is e = record { file = f; extends = refl; info = subst (λ (z : FileInfo). IsInfo z f) (one i own e) is }
  where
    one : (a b : FileInfo) → Some a ≡ Some b → a ≡ b
    one a b e = cc e
