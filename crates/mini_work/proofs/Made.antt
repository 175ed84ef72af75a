-- The making of a volume on a unit that was attached.
use Rattle.std.proofs.Common.{◌≡◌, ◌∙◌, inl, inr, ℕ, ℤ, List, [], ◌∷◌, Some, Result, Ok, Err, refl, ap, sym, subst}
use Rattle.std.specs.Prelude.{⊤}
use Rattle.cms_journal.specs.declared.event.Access.{Access}
use Rattle.cms_journal.specs.declared.event.Access.TheVariants.{New}
use Rattle.cms_journal.specs.declared.event.Event.TheVariants.{Now}
use Rattle.cms_journal.specs.Journal.{Journal, adds}
use Rattle.cms_journal.specs.Told.{Told}
use Rattle.cms_fields.specs.declared.time.Stamp.{Stamp}
use Rattle.cms_model.specs.Minidisks.{State}
use Rattle.cms_model.specs.Trees.{image_of}
use Rattle.cms_model.specs.Volumes.{Disk, state_of}
use Rattle.cms_disk.specs.Disks.{Accessed, disk_on}
use Rattle.cms_disk.specs.EmptyMinidisks.{Formats, IsReady}
use Rattle.cms_disk.specs.declared.fault.DiskFault.{DiskFault}
use Rattle.cms_disk.specs.declared.unit.UnitInfo.{UnitInfo}
use Rattle.mini_work.specs.Changes.{Asks, stamp_at}
use Rattle.mini_work.specs.NewImages.{IsMaking, Makes, first_state, made, shut}
use Rattle.mini_work.specs.OpenedImages.{Attaches, IsUnwritten}
use Rattle.mini_work.specs.declared.fault.Fault.{Fault}
use Rattle.mini_work.specs.declared.status.Status.{Status}
use Rattle.mini_work.specs.declared.status.Status.TheVariants as status
use Rattle.mini_work.proofs.LoneUnit.{alone, starts}

-- behind the clock the unit is as it was attached
pub formats_on : (name : List ℕ) (size : ℕ) (access : Access) (old mid new : Told) (info : UnitInfo) (a : Attaches name size access old info)
    (label : List ℕ) (stamp : Stamp) (moment offset : ℤ) (r : Result Accessed DiskFault) → stamp ≡ stamp_at moment offset → mid ≡ adds (Now moment) old
    → ((j : Journal) (before : State) → mid ≡ Some j → IsReady j info before → Formats mid new info before label stamp r)
    → Formats (adds (Now moment) old) new info (first_state a.alone.unit) label (stamp_at moment offset) r
formats_on name size access old mid new info a label stamp moment offset r is told formats =
    let unit = a.alone.unit in
    let j = alone unit (Now moment ∷ []) in
    let s = starts name size access old info a (Now moment ∷ []) (tt, tt) in
    let at : mid ≡ Some j = told ∙ ap (adds (Now moment)) a.alone.told_is in
    let ready : IsReady j info (first_state unit) = record {
      whole = s.whole;
      quiet = s.quiet;
      state = ap (state_of (disk_on info)) s.contents ∙ ap (λ (k : Disk). state_of k (image_of unit.start)) s.looked;
    } in
    subst (λ (t : Told). Formats t new info (first_state unit) label (stamp_at moment offset) r) told
    (subst (λ (st : Stamp). Formats mid new info (first_state unit) label st r) is (formats j (first_state unit) at ready))

pub makes_done : (name : List ℕ) (size : ℕ) (access : Access) (old mid new : Told) (info : UnitInfo) (a : Attaches name size access old info)
    (label : List ℕ) (stamp : Stamp) (offset : ℤ) (d : Accessed) (x : ⊤) → Asks offset old mid (Ok stamp)
    → ((j : Journal) (before : State) → mid ≡ Some j → IsReady j info before → Formats mid new info before label stamp (Ok d))
    → Makes info (first_state a.alone.unit) label offset old new (Ok x)
makes_done name size access old mid new info a label stamp offset d x asks formats =
    (asks.0, (d, formats_on name size access old mid new info a label stamp asks.0 offset (Ok d) asks.1 asks.2 formats))

pub makes_cut : (name : List ℕ) (size : ℕ) (access : Access) (old mid new : Told) (info : UnitInfo) (a : Attaches name size access old info)
    (label : List ℕ) (stamp : Stamp) (offset : ℤ) (e : DiskFault) (why : Fault) (r : Result ⊤ Fault) → r ≡ Err why → Asks offset old mid (Ok stamp)
    → ((j : Journal) (before : State) → mid ≡ Some j → IsReady j info before → Formats mid new info before label stamp (Err e))
    → Makes info (first_state a.alone.unit) label offset old new r
makes_cut name size access old mid new info a label stamp offset e why r is asks formats =
    subst (λ (x : Result ⊤ Fault). Makes info (first_state a.alone.unit) label offset old new x) (sym is)
    (inr (asks.0, (e, formats_on name size access old mid new info a label stamp asks.0 offset (Err e) asks.1 asks.2 formats)))

pub makes_unasked : (info : UnitInfo) (first : State) (label : List ℕ) (offset : ℤ) (old new : Told) (why : Fault) (r : Result ⊤ Fault)
    → r ≡ Err why → new ≡ old → Makes info first label offset old new r
makes_unasked info first label offset old new why r is same =
    subst (λ (x : Result ⊤ Fault). Makes info first label offset old new x) (sym is) (inl same)

-- ---- an image that is made

pub making_err : (name : List ℕ) (size blocks : ℕ) (label : List ℕ) (offset : ℤ) (told : Told) (why : Fault) (r : Result Status Fault) → r ≡ Err why
    → IsUnwritten told → IsMaking name size blocks label offset told r
making_err name size blocks label offset told why r is unwritten =
    subst (λ (x : Result Status Fault). IsMaking name size blocks label offset told x) (sym is) (shut unwritten tt)

pub making_cut : (name : List ℕ) (size blocks : ℕ) (label : List ℕ) (offset : ℤ) (old new : Told) (info : UnitInfo) (why last : Fault)
    (r : Result Status Fault) → r ≡ Err last → (a : Attaches name size (New blocks) old info)
    → Makes info (first_state a.alone.unit) label offset old new (Err why) → IsMaking name size blocks label offset new r
making_cut name size blocks label offset old new info why last r is a makes =
    subst (λ (x : Result Status Fault). IsMaking name size blocks label offset new x) (sym is) (made old info a (Err why) makes tt)

pub making_done : (name : List ℕ) (size blocks : ℕ) (label : List ℕ) (offset : ℤ) (old new : Told) (info : UnitInfo) (x : ⊤)
    (a : Attaches name size (New blocks) old info) → Makes info (first_state a.alone.unit) label offset old new (Ok x)
    → IsMaking name size blocks label offset new (Ok status.Done)
making_done name size blocks label offset old new info x a makes = made old info a (Ok x) makes refl
