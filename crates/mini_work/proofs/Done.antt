-- What was done by a request: by its parts, and whatever is said of it then.
use Rattle.std.proofs.Common.{◌≡◌, ℕ, ℤ, Bool, List, Option, Result, Err, subst, sym}
use Rattle.cms_journal.specs.declared.event.Access.{Access}
use Rattle.cms_journal.specs.declared.event.Access.TheVariants.{ReadOnly, ReadWrite}
use Rattle.cms_journal.specs.Told.{Told}
use Rattle.cms_model.specs.Minidisks.{Minidisk}
use Rattle.mini_host.specs.Files.{Files}
use Rattle.cms_names.specs.declared.name.Name.{Name}
use Rattle.mini_words.specs.declared.names.NamePattern.{NamePattern}
use Rattle.mini_words.specs.declared.request.Image.{Image}
use Rattle.mini_words.specs.declared.request.Request.{Request}
use Rattle.mini_words.specs.declared.request.Request.TheVariants as ask
use Rattle.mini_work.specs.CommandActs.{Act}
use Rattle.mini_work.specs.Commands.{IsErasing, IsListing, IsRenaming, IsWorked, opened, shut}
use Rattle.mini_work.specs.NewImages.{IsMaking}
use Rattle.mini_work.specs.Requests.{IsDone}
use Rattle.mini_work.specs.declared.fault.Fault.{Fault}
use Rattle.mini_work.specs.declared.status.Status.{Status}

worked_failed : (name : List ℕ) (access : Access) (P Q : Status → Minidisk → List Act → Minidisk → List Act → Type 0) (told : Told) (why : Fault)
    → IsWorked name access P told (Err why) → IsWorked name access Q told (Err why)
worked_failed name access P Q told why (shut unwritten is) = shut unwritten is
worked_failed name access P Q told why (opened size start d e o leads) = opened size start d e o leads

pub done_failed : (request : Request) (host k l : Option Files) (told : Told) (why : Fault) → IsDone request host k told (Err why)
    → IsDone request host l told (Err why)
done_failed (ask.List image long names) host k l told why done = done
done_failed (ask.Info image) host k l told why done = done
done_failed (ask.Get get) host k l told why done = worked_failed get.image.name _ _ _ told why done
done_failed (ask.Put put) host k l told why done = done
done_failed (ask.Erase image says offset names) host k l told why done = done
done_failed (ask.Rename image says offset from to) host k l told why done = done
done_failed (ask.Make image size blocks label offset) host k l told why done = done
done_failed (ask.Check image) host k l told why done = done
done_failed (ask.Dump image blocks) host k l told why done = done

-- ---- the parts of a request are handed on

pub done_list : (request : Request) (image : Image) (long : Bool) (names slice : List NamePattern) (host k : Option Files) (told : Told)
    (r : Result Status Fault) → request ≡ ask.List image long names → slice ≡ names
    → IsWorked image.name ReadOnly (IsListing long slice) told r → IsDone request host k told r
done_list request image long names slice host k told r is same worked =
    subst (λ (q : Request). IsDone q host k told r) (sym is)
    (subst (λ (xs : List NamePattern). IsWorked image.name ReadOnly (IsListing long xs) told r) same worked)

pub done_erase : (request : Request) (image : Image) (says : Bool) (offset x : ℤ) (names slice : List NamePattern) (host k : Option Files)
    (told : Told) (r : Result Status Fault) → request ≡ ask.Erase image says offset names → x ≡ offset → slice ≡ names
    → IsWorked image.name ReadWrite (IsErasing says x slice) told r → IsDone request host k told r
done_erase request image says offset x names slice host k told r is same all worked =
    subst (λ (q : Request). IsDone q host k told r) (sym is)
    (subst (λ (xs : List NamePattern). IsWorked image.name ReadWrite (IsErasing says offset xs) told r) all
    (subst (λ (y : ℤ). IsWorked image.name ReadWrite (IsErasing says y slice) told r) same worked))

pub done_rename : (request : Request) (image : Image) (says : Bool) (offset x : ℤ) (from to : Name) (host k : Option Files) (told : Told)
    (r : Result Status Fault) → request ≡ ask.Rename image says offset from to → x ≡ offset
    → IsWorked image.name ReadWrite (IsRenaming says x from to) told r → IsDone request host k told r
done_rename request image says offset x from to host k told r is same worked =
    subst (λ (q : Request). IsDone q host k told r) (sym is)
    (subst (λ (y : ℤ). IsWorked image.name ReadWrite (IsRenaming says y from to) told r) same worked)

pub done_make : (request : Request) (image text : List ℕ) (size blocks : ℕ) (label : List ℕ) (offset x : ℤ) (host k : Option Files) (told : Told)
    (r : Result Status Fault) → request ≡ ask.Make image size blocks label offset → text ≡ image → x ≡ offset
    → IsMaking text size blocks label x told r → IsDone request host k told r
done_make request image text size blocks label offset x host k told r is named same making =
    subst (λ (q : Request). IsDone q host k told r) (sym is)
    (subst (λ (name : List ℕ). IsMaking name size blocks label offset told r) named
    (subst (λ (y : ℤ). IsMaking text size blocks label y told r) same making))
