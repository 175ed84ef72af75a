-- What images are found to be.
use Rattle.std.proofs.Common.{◌≡◌, ◌∙◌, ℕ, true, List, [], Option, None, Result, Ok, Err, IfOk, ap, inr, refl, subst, sym}
use Rattle.std.specs.Option.{ForSome}
use Rattle.cms_journal.specs.Told.{Told}
use Rattle.cms_journal.specs.declared.event.Access.TheVariants.{ReadOnly}
use Rattle.cms_model.specs.LawsUpdates.{now}
use Rattle.cms_model.specs.Trees.{Image, image_of}
use Rattle.cms_model.specs.Volumes.{Disk, Opened, open_of}
use Rattle.cms_model.specs.declared.fault.OpenFault.{OpenFault}
use Rattle.cms_model.specs.declared.fault.OpenFault.TheVariants as open_fault
use Rattle.cms_held.specs.HeldVolumes.{AnswersOpening, HeldVolume, Held, IsFaultOf, held_of}
use Rattle.cms_disk.specs.Disks.{disk_on}
use Rattle.cms_disk.specs.declared.unit.UnitInfo.{UnitInfo}
use Rattle.mini_work.specs.Checks.{Fails, Holds, IsShowing, IsShut, Shows, failed, is_test, shut, sound}
use Rattle.mini_work.specs.OpenedImages.{Attaches, IsNew, IsUnwritten}
use Rattle.mini_work.specs.declared.fault.Fault.{Fault}
use Rattle.mini_work.specs.declared.status.Status.{Status}
use Rattle.mini_work.specs.declared.status.Status.TheVariants as status
use Rattle.mini_work.proofs.LoneUnit.{alone, starts}

-- what the opening answers, of the image of the unit
abbrev pub Answers : Told → UnitInfo → Result Held OpenFault → Type 0
Answers told info r = ForSome told (λ j. AnswersOpening info.unit.number (disk_on info) (now j info.unit.number) r)

-- the volume that opens
pub holds_on : (name : List ℕ) (size : ℕ) (old new : Told) (info : UnitInfo) (h : Held) → Attaches name size ReadOnly old info
    → Answers old info (Ok h) → new ≡ old → Holds name new h.volume
holds_on name size old new info h a answers same = subst (λ (t : Told). Holds name t h.volume) (sym same) found
  where
    found : Holds name old h.volume
    found =
        let unit = a.alone.unit in
        let j = alone unit [] in
        let s = starts name size ReadOnly old info a [] tt in
        let x = answers j a.alone.told_is in
        record {
          size = size;
          alone = a.alone;
          opened = x.0;
          opens = subst (λ (k : Disk). open_of k (image_of unit.start) ≡ Ok x.0) s.looked
              (subst (λ (i : Image). open_of (disk_on info) i ≡ Ok x.0) s.contents x.1);
          held = x.2 ∙ ap (λ (n : ℕ). held_of n (disk_on info) (now j info.unit.number) x.0) a.unit.number
              ∙ ap (λ (i : Image). held_of 0 (disk_on info) i x.0) s.contents ∙ ap (λ (k : Disk). held_of 0 k (image_of unit.start) x.0) s.looked;
        }

-- the first test that fails
test_fails : (found : Result Opened OpenFault) (why : OpenFault) → is_test why ≡ true → IsFaultOf found why → found ≡ Err why
test_fails found open_fault.Device is f = absurd (cc is)
test_fails found open_fault.Memory is f = absurd (cc is)
test_fails found (open_fault.Label k) is f = f
test_fails found (open_fault.Entry n k) is f = f
test_fails found (open_fault.Pointer holder value) is f = f
test_fails found (open_fault.Crossed n) is f = f
test_fails found (open_fault.MapMissing n) is f = f
test_fails found (open_fault.Var n k) is f = f
test_fails found (open_fault.Twice n) is f = f
test_fails found (open_fault.System n) is f = f

pub fails_on : (name : List ℕ) (size : ℕ) (old new : Told) (info : UnitInfo) (why : OpenFault) → Attaches name size ReadOnly old info
    → Answers old info (Err why) → is_test why ≡ true → new ≡ old → IsShut name new
fails_on name size old new info why a answers test same = subst (IsShut name) (sym same) (inr (why, found))
  where
    found : Fails name old why
    found =
        let unit = a.alone.unit in
        let j = alone unit [] in
        let s = starts name size ReadOnly old info a [] tt in
        record {
          size = size;
          alone = a.alone;
          fails = subst (λ (k : Disk). open_of k (image_of unit.start) ≡ Err why) s.looked
              (subst (λ (i : Image). open_of (disk_on info) i ≡ Err why) s.contents
              (test_fails (open_of (disk_on info) (now j info.unit.number)) why test (answers j a.alone.told_is)));
        }

pub shut_on : {T : Type 0} (r : Result (Option T) Fault) (old new : Told) (info : UnitInfo) (why : OpenFault) → IfOk r (λ found. is_test why ≡ true)
    → Answers old info (Err why) → new ≡ old
    → IfOk r (λ found. found ≡ None → (name : List ℕ) (size : ℕ) → Attaches name size ReadOnly old info → IsShut name new)
shut_on (Ok x) old new info why test answers same = λ none name size a. fails_on name size old new info why a answers test same
shut_on (Err e) old new info why test answers same = tt

pub shut_new : {T : Type 0} (name : List ℕ) (size : ℕ) (old mid new : Told) (info : UnitInfo) (r : Result (Option T) Fault)
    → (IsNew old → Attaches name size ReadOnly mid info)
    → IfOk r (λ found. found ≡ None → (n : List ℕ) (s : ℕ) → Attaches n s ReadOnly mid info → IsShut n new)
    → IfOk r (λ found. found ≡ None → IsNew old → IsShut name new)
shut_new name size old mid new info (Ok x) a told = λ none is. told none name size (a is)
shut_new name size old mid new info (Err why) a told = tt

-- ---- what a command says of it

pub showing_on : (name : List ℕ) (text : HeldVolume → List ℕ) (start new : Told) (v : HeldVolume) (r : Result Status Fault) → Holds name start v
    → Shows start new (text v) r → IsUnwritten new → IsShowing name text new r
showing_on name text start new v (Ok s) holds shows unwritten = sound start v holds shows.1 (ap Ok shows.0)
showing_on name text start new v (Err why) holds shows unwritten = failed unwritten tt

pub showing_err : (name : List ℕ) (text : HeldVolume → List ℕ) (new : Told) (r : Result Status Fault) (why : Fault) → r ≡ Err why → IsUnwritten new
    → IsShowing name text new r
showing_err name text new r why is unwritten = subst (λ (x : Result Status Fault). IsShowing name text new x) (sym is) (failed unwritten tt)

pub showing_shut : (name : List ℕ) (text : HeldVolume → List ℕ) (new : Told) → IsShut name new → IsShowing name text new (Ok status.Refused)
showing_shut name text new is = shut is refl
