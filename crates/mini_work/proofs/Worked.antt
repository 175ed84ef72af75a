-- What commands do with an image, of the calls that they make.
use Rattle.std.proofs.Common.{◌≡◌, ◌∙◌, ℕ, zero, suc, ℤ, Bool, true, List, [], ◌∷◌, Option, Some, None, map, slice_get, Result, Ok, Err, IfOk, refl, ap, sym, subst}
use Rattle.std.specs.Prelude.{IfSome, option_map}
use Rattle.cms_journal.specs.declared.event.Access.{Access}
use Rattle.cms_journal.specs.Told.{Told}
use Rattle.cms_fields.specs.declared.time.Stamp.{Stamp}
use Rattle.cms_names.specs.declared.name.Name.{Name}
use Rattle.cms_model.specs.Changes.{Rename}
use Rattle.cms_model.specs.LawsUpdates.{now}
use Rattle.cms_model.specs.Minidisks.{File, Minidisk}
use Rattle.cms_model.specs.Acts.{typed_line}
use Rattle.cms_held.specs.HeldVolumes.{HeldFile, names_in}
use Rattle.cms_edf.proofs.Planned.{named_at as named_in}
use Rattle.cms_edf.specs.FilesTold.{info_of, infos_in}
use Rattle.cms_edf.specs.declared.held.FileInfo.{FileInfo}
use Rattle.cms_disk.specs.Disks.{Accessed, place_of}
use Rattle.cms_disk.proofs.DisksTold.{named_at}
use Rattle.cms_disk.proofs.FilesFound.{none_found, stands_tells}
use Rattle.cms_listfile.proofs.Infos.{infos_told}
use Rattle.mini_words.specs.declared.names.NamePattern.{NamePattern}
use Rattle.cms_disk.specs.declared.fault.DiskFault.TheVariants as disk_fault
use Rattle.mini_work.specs.Changes.{IsAsked, IsChange, IsTimed, IsTold, is_denial, stamp_at}
use Rattle.mini_work.specs.ChosenFiles.{chosen, idle_status}
use Rattle.mini_work.specs.CommandActs.{Act, Came, Continues, Goes, Went, both}
use Rattle.mini_work.specs.Commands.{IsErasing, IsErasingAll, IsListing, IsRenamed, IsRenaming, IsWorked, names_of, opened, shut}
use Rattle.mini_work.specs.Listing.{file_line, is_listed}
use Rattle.mini_work.specs.OpenedImages.{IsUnwritten, Opens}
use Rattle.mini_work.specs.Output.{name_line}
use Rattle.mini_work.specs.Stands.{Stands}
use Rattle.mini_work.proofs.PartsJoined.{ended_on, then_on}
use Rattle.mini_work.specs.declared.fault.Fault.{Fault}
use Rattle.mini_work.specs.declared.status.Status.{Status}
use Rattle.mini_work.specs.declared.status.Status.TheVariants as status

-- a command goes on from the minidisk that was opened
came_first : (told : Told) (d : Accessed) (m : Minidisk) → Stands told d m → Came told m [] told d m
unfolding Went
came_first told d m stands = record { went = (refl, refl); stands = stands }

pub worked_on : (name : List ℕ) (size : ℕ) (access : Access) (goes : Status → Minidisk → List Act → Minidisk → List Act → Type 0)
    (start new : Told) (d e : Accessed) (r : Result Status Fault) → Opens name size access start d → Continues goes start d new e r
    → IsWorked name access goes new r
worked_on name size access goes start new d e r o p =
    opened size start d e o (p start o.first o.first [] (came_first start d o.first o.stands))

-- the names that are held are the minidisk's
pub names_told : (told : Told) (d : Accessed) (m : Minidisk) → Stands told d m → names_in d.volume.files ≡ names_of m
names_told told d m s = (stands_tells (now s.at d.volume.unit) d m s.minidisk.stands).held.names_are

-- the clock was asked before
pub timed_on : (offset : ℤ) (P : Stamp → Status → Minidisk → List Act → Minidisk → List Act → Type 0) (stamp : Stamp) (old mid new : Told)
    (d e : Accessed) (r : Result Status Fault) → Continues (IsAsked offset) old d mid d (Ok stamp) → Continues (P stamp) mid d new e r
    → Continues (IsTimed offset P) old d new e r
timed_on offset P stamp old mid new d e r asked goes =
    then_on (IsAsked offset) (P stamp) (IsTimed offset P) old mid new d d e stamp r asked goes
    (λ s m acts between some after more a p.
    let moment = a.1.0 in
    let q = subst (λ (st : Stamp). P st s between some after more) a.1.1 p in
    let t = subst (λ (x : Minidisk). P (stamp_at moment offset) s x some after more) a.0 q in
    (moment, subst (λ (xs : List Act). P (stamp_at moment offset) s m xs after more) a.1.2 t))

pub erasing_on : (says : Bool) (offset : ℤ) (patterns : List NamePattern) (t idle r : Status) (all some : List Name) (old new : Told) (d e : Accessed)
    → Continues (IsErasingAll says offset some) old d new e (Ok t) → all ≡ names_in d.volume.files → some ≡ chosen [] patterns all
    → idle ≡ idle_status patterns all → r ≡ both t idle → Continues (IsErasing says offset patterns) old d new e (Ok r)
erasing_on says offset patterns t idle r all some old new d e goes all_is some_is idle_is r_is = λ start first m acts came.
    let n : all ≡ names_of m = all_is ∙ names_told old d m came.stands in
    let k = goes start first m acts came in
    let g = subst (λ (xs : List Name). IsErasingAll says offset xs t m acts k.0 k.1)
    (some_is ∙ ap (λ (xs : List Name). chosen [] patterns xs) n) k.2 in
    (k.0, k.1, (t, r_is ∙ ap (both t) (idle_is ∙ ap (λ (xs : List Name). idle_status patterns xs) n), g), k.3)

pub listing_on : (long : Bool) (patterns : List NamePattern) (t idle r : Status) (all : List Name) (old new : Told) (d : Accessed)
    → Continues (Goes (λ info. IsTold (is_listed patterns info) (typed_line (file_line long info))) (infos_in d.volume)) old d new d (Ok t)
    → all ≡ names_in d.volume.files → idle ≡ idle_status patterns all → r ≡ both t idle → Continues (IsListing long patterns) old d new d (Ok r)
listing_on long patterns t idle r all old new d goes all_is idle_is r_is = λ start first m acts came.
    let s = came.stands in
    let n : all ≡ names_of m = all_is ∙ names_told old d m s in
    let infos = infos_told (now s.at d.volume.unit) d m s.minidisk.stands in
    let k = goes start first m acts came in
    let g = subst (λ (xs : List FileInfo). Goes (λ info. IsTold (is_listed patterns info) (typed_line (file_line long info))) xs t m acts k.0 k.1)
    infos k.2 in
    (k.0, k.1, (t, r_is ∙ ap (both t) (idle_is ∙ ap (λ (xs : List Name). idle_status patterns xs) n), g), k.3)

-- ---- an image that wasn't opened

pub shut_err : (name : List ℕ) (access : Access) (goes : Status → Minidisk → List Act → Minidisk → List Act → Type 0) (new : Told)
    (r : Result Status Fault) (why : Fault) → r ≡ Err why → IsUnwritten new → IsWorked name access goes new r
shut_err name access goes new r why is unwritten =
    subst (λ (x : Result Status Fault). IsWorked name access goes new x) (sym is) (shut unwritten tt)

pub shut_none : (name : List ℕ) (access : Access) (goes : Status → Minidisk → List Act → Minidisk → List Act → Type 0) (new : Told)
    → IsUnwritten new → IsWorked name access goes new (Ok status.Refused)
shut_none name access goes new unwritten = shut unwritten refl

pub worked_open : (name : List ℕ) (access : Access) (goes : Status → Minidisk → List Act → Minidisk → List Act → Type 0)
    (start new : Told) (d e : Accessed) (r : Result Status Fault) → ((size : ℕ) × Opens name size access start d) → Continues goes start d new e r
    → IsWorked name access goes new r
worked_open name access goes start new d e r o p = worked_on name o.0 access goes start new d e r o.1 p

-- ---- another name

pub renamed_none : (says : Bool) (offset : ℤ) (from to : Name) (told : Told) (d : Accessed) (r : Result Status Fault) → place_of from d.volume ≡ None
    → IfOk r (λ s. (s ≡ status.Refused) × (is_denial disk_fault.NotFound ≡ true)) → Continues (IsRenaming says offset from to) told d told d r
renamed_none says offset from to told d (Ok s) none refused = λ start first m acts came.
    let at = came.stands in
    let gone = none_found d from none (now at.at d.volume.unit) m at.minidisk.stands in
    (m, acts, subst (λ (o : Option File). IsRenamed says offset from to o s m acts m acts) (sym gone) (refused.0, (refl, refl)), came)
renamed_none says offset from to told d (Err why) none refused = ended_on (IsRenaming says offset from to) told d why

told_there : (hs : List HeldFile) (k : ℕ) → slice_get (map info_of hs) k ≡ option_map info_of (slice_get hs k)
told_there [] k = refl
told_there (h ∷ hs) zero = refl
told_there (h ∷ hs) (suc k) = told_there hs k

pub renamed_some : (says : Bool) (offset : ℤ) (from to : Name) (k number : ℕ) (old new : Told) (d e : Accessed) (r : Result Status Fault)
    → place_of from d.volume ≡ Some k → IfSome (slice_get (infos_in d.volume) k) (λ info. number ≡ info.number)
    → Continues (IsTimed offset (λ stamp. IsChange (Rename from to number) stamp says (name_line to))) old d new e r
    → Continues (IsRenaming says offset from to) old d new e r
renamed_some says offset from to k number old new d e (Ok s) place told p = λ start first m acts came.
    let at = came.stands in
    let h = named_in d.volume.files from k place in
    let info : slice_get (infos_in d.volume) k ≡ Some (info_of h.file) = told_there d.volume.files k ∙ ap (λ (o : Option HeldFile). option_map info_of o) h.there in
    let number_is : number ≡ h.file.entry.number = subst (λ (o : Option FileInfo). IfSome o (λ i. number ≡ i.number)) info told in
    let n = named_at (now at.at d.volume.unit) from d m k h.file at.minidisk.stands place h.there in
    let l = p start first m acts came in (
      l.0,
      l.1,
      subst (λ (o : Option File). IsRenamed says offset from to o s m acts l.0 l.1) (sym n.named)
          (subst (λ (x : ℕ). IsTimed offset (λ stamp. IsChange (Rename from to x) stamp says (name_line to)) s m acts l.0 l.1)
          (number_is ∙ n.is.number_is) l.2),
      l.3,
    )
renamed_some says offset from to k number old new d e (Err why) place told p = p
