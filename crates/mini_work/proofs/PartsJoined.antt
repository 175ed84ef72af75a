-- How parts of a command join.
use Rattle.std.proofs.Common.{◌≡◌, ◌∙◌, ℤ, Bool, true, List, [], ◌∷◌, ◌++◌, Some, Result, Ok, Err, IfOk, refl, ap, sym, subst}
use Rattle.std.specs.Prelude.{⊤, ℕ}
use Rattle.cms_journal.specs.declared.event.Event.{Event}
use Rattle.cms_journal.specs.declared.event.Event.TheVariants.{Now}
use Rattle.cms_journal.specs.Journal.{Journal, adds}
use Rattle.cms_journal.specs.Told.{Grown, Told}
use Rattle.cms_fields.specs.Moments.{moment_of, stamp_of}
use Rattle.cms_fields.specs.declared.time.Stamp.{Stamp}
use Rattle.cms_model.specs.Changes.{Change, Changed}
use Rattle.cms_model.specs.Minidisks.{Minidisk}
use Rattle.cms_line.specs.Typed.{TypedPart, TypedTo}
use Rattle.cms_disk.specs.Changes.{Alters, IsOnSame}
use Rattle.cms_disk.specs.Disks.{Accessed, IsLookedAt, IsMinidisk}
use Rattle.cms_disk.specs.declared.fault.DiskFault.{DiskFault}
use Rattle.cms_disk.specs.declared.fault.DiskFault.TheVariants as disk
use Rattle.mini_work.specs.Changes.{IsAsked, IsChange, IsDone, IsTold, is_denial, said_if}
use Rattle.mini_work.specs.CommandActs.{Act, Asked, Continues, Denied, Did, Goes, Said, both, none, one}
use Rattle.mini_work.specs.declared.fault.Fault.{Fault}
use Rattle.mini_work.specs.declared.status.Status.{Status}
use Rattle.mini_work.specs.declared.status.Status.TheVariants as status
use Rattle.mini_work.proofs.UnitStands.{came_asked, came_denied, came_on, came_said, came_still, cut_change, cut_here, cut_typing, denied_is}

-- and then it ended
pub ended_on : {A : Type 0} (P : A → Minidisk → List Act → Minidisk → List Act → Type 0) (told : Told) (d : Accessed) (why : Fault)
    → Continues P told d told d (Err why)
ended_on P told d why = λ start first m acts came. (acts, cut_here start first m acts told d came)

-- a part behind another
pub then_on : {A B : Type 0} (P : A → Minidisk → List Act → Minidisk → List Act → Type 0) (Q R : B → Minidisk → List Act → Minidisk → List Act → Type 0)
    (old mid new : Told) (d e f : Accessed) (x : A) (r : Result B Fault) → Continues P old d mid e (Ok x) → Continues Q mid e new f r
    → ((y : B) (m : Minidisk) (acts : List Act) (between : Minidisk) (some : List Act) (after : Minidisk) (more : List Act)
    → P x m acts between some → Q y between some after more → R y m acts after more)
    → Continues R old d new f r
then_on P Q R old mid new d e f x (Ok y) p q join = λ start first m acts came.
    let l = p start first m acts came in
    let k = q start first l.0 l.1 l.3 in
    (k.0, k.1, join y m acts l.0 l.1 k.0 k.1 l.2 k.2, k.3)
then_on P Q R old mid new d e f x (Err why) p q join = λ start first m acts came.
    let l = p start first m acts came in
    q start first l.0 l.1 l.3

-- one more of several
pub goes_more : {A : Type 0} (P : A → Status → Minidisk → List Act → Minidisk → List Act → Type 0) (xs : List A) (x : A) (s : Status)
    (old mid new : Told) (d e f : Accessed) (t : Status) → Continues (Goes P xs) old d mid e (Ok s) → Continues (P x) mid e new f (Ok t)
    → Continues (Goes P (xs ++ x ∷ [])) old d new f (Ok (both s t))
goes_more P xs x s old mid new d e f t p q = λ start first m acts came.
    let l = p start first m acts came in
    let k = q start first l.0 l.1 l.3 in
    (k.0, k.1, one xs x s t m l.0 k.0 acts l.1 k.1 l.2 k.2, k.3)

pub goes_none : {A : Type 0} (P : A → Status → Minidisk → List Act → Minidisk → List Act → Type 0) (told : Told) (d : Accessed)
    → Continues (Goes P []) told d told d (Ok status.Done)
goes_none P told d = λ start first m acts came. (m, acts, none m acts, came)

-- one of several that was cut off
pub goes_cut : {A B C : Type 0} (P : A → Minidisk → List Act → Minidisk → List Act → Type 0) (Q : B → Minidisk → List Act → Minidisk → List Act → Type 0)
    (R : C → Minidisk → List Act → Minidisk → List Act → Type 0) (x : A) (old mid new : Told) (d e f : Accessed) (why last : Fault)
    → Continues P old d mid e (Ok x) → Continues Q mid e new f (Err why) → Continues R old d new f (Err last)
goes_cut P Q R x old mid new d e f why last p q = λ start first m acts came.
    let l = p start first m acts came in
    q start first l.0 l.1 l.3

-- ---- what is typed

-- ---- what is changed

-- the answer of a change, wherever the unit stands
abbrev pub AltersEach : Told → Told → Accessed → Accessed → Change → Stamp → Result ⊤ DiskFault → Type 0
AltersEach old new d e change stamp r =
    (j : Journal) (m : Minidisk) → old ≡ Some j → IsMinidisk j d m → IsLookedAt j d → Alters old new d e m change stamp r

pub change_done : (old new : Told) (d e : Accessed) (change : Change) (stamp : Stamp) (x : ⊤) → AltersEach old new d e change stamp (Ok x)
    → IsOnSame d e → Continues {A = ⊤} (IsDone change stamp) old d new e (Ok x)
change_done old new d e change stamp x alters same = λ start first m acts came.
    let s = came.stands in
    let a = alters s.at m s.told_is s.minidisk s.looked in
    (a.after, Did change stamp ∷ acts, (a.answer, refl), came_on start first m acts old new d e change stamp came a same)

-- and that was said
pub change_told : {A : Type 0} (change : Change) (stamp : Stamp) (says : Bool) (bytes : List ℕ) (old mid new : Told) (d e : Accessed) (x : A)
    (r : Result Status Fault) → Continues {A = A} (IsDone change stamp) old d mid e (Ok x) → Continues (IsTold says bytes) mid e new e r
    → Continues (IsChange change stamp says bytes) old d new e r
change_told change stamp says bytes old mid new d e x r p q =
    then_on (IsDone change stamp) (IsTold says bytes) (IsChange change stamp says bytes) old mid new d e e x r p q
    (λ y m acts between some after more done told.
    subst (λ (s : Status). IsChange change stamp says bytes s m acts after more) (sym told.0)
    (done.0 ∙ ap Changed (sym told.1), told.2 ∙ ap (said_if says bytes) done.1))

-- it is refused, or was cut off
denied_kept : (d e : Accessed) (why : DiskFault) → is_denial why ≡ true → ((why ≡ disk.InDoubt → ⊥) → e ≡ record d { spare = e.spare })
    → e.volume ≡ d.volume
denied_kept d e why is kept =
    ap (λ (x : Accessed). x.volume)
    (kept (λ doubt. let no : is_denial disk.InDoubt ≡ true = subst (λ (w : DiskFault). is_denial w ≡ true) doubt is in cc no))

pub change_refused : (change : Change) (stamp : Stamp) (says : Bool) (bytes : List ℕ) (old new : Told) (d e : Accessed) (why : DiskFault)
    (r : Result Status Fault) → IfOk r (λ s. (s ≡ status.Refused) × (is_denial why ≡ true)) → AltersEach old new d e change stamp (Err why)
    → ((why ≡ disk.InDoubt → ⊥) → e ≡ record d { spare = e.spare }) → IsOnSame d e → Continues (IsChange change stamp says bytes) old d new e r
change_refused change stamp says bytes old new d e why (Ok s) refused alters kept same = λ start first m acts came.
    let t = came.stands in
    let a = denied_is old new d e m change stamp why refused.1 (alters t.at m t.told_is t.minidisk t.looked) in
    let still = came_still start first m acts old new d e came a.0 (denied_kept d e why refused.1 kept) in (
      m,
      Denied change ∷ acts,
      subst (λ (x : Status). IsChange change stamp says bytes x m acts m (Denied change ∷ acts)) (sym refused.0) (refl, refl),
      came_denied start first m acts new e change still a.1,
    )
change_refused change stamp says bytes old new d e why (Err f) refused alters kept same = λ start first m acts came.
    let t = came.stands in (acts, cut_change start first m acts old new d e change stamp why came same (alters t.at m t.told_is t.minidisk t.looked))

-- ---- what is typed where that is asked for

pub said_on : (says : Bool) (bytes : List ℕ) (old new : Told) (d : Accessed) → says ≡ true → TypedTo old new bytes []
    → Continues (IsTold says bytes) old d new d (Ok status.Done)
said_on says bytes old new d is typed = λ start first m acts came. (
  m,
  Said bytes ∷ acts,
  (refl, refl, subst (λ (b : Bool). Said bytes ∷ acts ≡ said_if b bytes acts) (sym is) refl),
  came_said start first m acts old new d bytes came typed,
)

pub typing_cut : {A : Type 0} (P : A → Minidisk → List Act → Minidisk → List Act → Type 0) (bytes : List ℕ) (old new : Told) (d : Accessed) (why : Fault)
    → TypedPart old new bytes → Continues P old d new d (Err why)
typing_cut P bytes old new d why part = λ start first m acts came. (acts, cut_typing start first m acts old new d bytes came part)

pub grown_typed : (old new : Told) (bytes rest : List ℕ) → TypedTo old new bytes rest → Grown old new
grown_typed old new bytes rest typed = record { events = typed.events; told = typed.told }

pub grown_part : (old new : Told) (bytes : List ℕ) → TypedPart old new bytes → Grown old new
grown_part old new bytes part = grown_typed old new bytes part.0 part.1

-- ---- the clock

pub asked_on : (offset : ℤ) (stamp : Stamp) (moment : ℤ) (old new : Told) (d : Accessed) → new ≡ adds (Now moment) old
    → stamp ≡ stamp_of (moment_of moment offset) → Continues (IsAsked offset) old d new d (Ok stamp)
asked_on offset stamp moment old new d told is = λ start first m acts came.
    (m, Asked moment ∷ acts, (refl, (moment, is, refl)), came_asked start first m acts old new d moment came told)

pub grown_adds : (old new : Told) (e : Event) → new ≡ adds e old → Grown old new
grown_adds old new e told = record { events = e ∷ []; told = told }

-- ---- where it ended

-- nothing was told
pub ended_same : {A : Type 0} (P : A → Minidisk → List Act → Minidisk → List Act → Type 0) (old new : Told) (d : Accessed) (why : Fault)
    → new ≡ old → Continues P old d new d (Err why)
ended_same P old new d why same = subst (λ (t : Told). Continues P old d t d (Err why)) (sym same) (ended_on P old d why)

-- in an answer that is no value
pub ended_any : {A : Type 0} (P : A → Minidisk → List Act → Minidisk → List Act → Type 0) (told : Told) (d : Accessed) (why : Fault) (r : Result A Fault)
    → r ≡ Err why → Continues P told d told d r
ended_any {A} P told d why r is = subst (λ (x : Result A Fault). Continues P told d told d x) (sym is) (ended_on P told d why)

pub cut_any : {A B : Type 0} (Q : B → Minidisk → List Act → Minidisk → List Act → Type 0) (P : A → Minidisk → List Act → Minidisk → List Act → Type 0)
    (old new : Told) (d e : Accessed) (why last : Fault) (r : Result A Fault) → r ≡ Err last → Continues Q old d new e (Err why) → Continues P old d new e r
cut_any {A} Q P old new d e why last r is cut = subst (λ (x : Result A Fault). Continues P old d new e x) (sym is) cut
