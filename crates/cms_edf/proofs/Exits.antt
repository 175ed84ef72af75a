-- What is said of a result where a `?` leaves, and of the reads of one part behind another.
use Rattle.std.proofs.Common.{◌≡◌, ◌≤◌, ℕ, Result, Ok, Err, refl, sym, ◌∙◌, subst, arith}
use Rattle.std.specs.Result.{IfErr, IfOk, IsErrAnd}
use Rattle.std.proofs.lemmas.Result.{IfErr-weaker}
use Rattle.cms_journal.specs.Causes.{Rose}
use Rattle.cms_model.specs.declared.fault.OpenFault.{OpenFault}
use Rattle.cms_model.specs.declared.fault.OpenFault.TheVariants as failed
use Rattle.cms_world.specs.Seen.{OnlyReads, Seen}

-- there is no value
pub ok_at_err : {T E : Type 0} (Q : E → Type 0) (r : Result T E) (P : T → Type 0) → IsErrAnd r Q → IfOk r P
ok_at_err Q (Ok x) P h = absurd h
ok_at_err Q (Err e) P h = tt

-- the fault is what is said of it
pub err_at_err : {T E : Type 0} (Q : E → Type 0) (r : Result T E) (P : E → Type 0) → IsErrAnd r Q → ((e : E) → Q e → P e) → IfErr r P
err_at_err Q (Ok x) P h f = tt
err_at_err Q (Err e) P h f = f e h

-- the fault is that of a part
pub same_at_err : {T E : Type 0} (r : Result T E) (P : E → Type 0) (why : E) → IsErrAnd r (λ e. e ≡ why) → P why → IfErr r P
same_at_err (Ok x) P why h p = tt
same_at_err (Err e) P why h p = subst P (sym h) p

rose_later : (a b c : ℕ) → a ≤ b → Rose b c → Rose a c
rose_later a b c later rose = omega (arith, later, rose)

-- a part failed that read units alone
pub reads_at_err : {A B E : Type 0} {before now : Seen} {device : E} (r : Result B E) (why : E) → IsErrAnd r (λ e. e ≡ why) → OnlyReads {T = A} before now device (Err why)
    → OnlyReads before now device r
reads_at_err {before = before} {now = now} {device = device} r why h reads = record {
  told = reads.told;
  faults = reads.faults;
  edges = reads.edges;
  cause = same_at_err r (λ e. e ≡ device → Rose before.faults now.faults) why h reads.cause;
}

-- units were read, and then a part failed that calls no device
pub plain_at_err : {A B D E : Type 0} {before now : Seen} {there : D} {device : E} {part : Result A D} (Q : E → Type 0) (r : Result B E) → IsErrAnd r Q
    → ((e : E) → Q e → e ≡ device → ⊥) → OnlyReads before now there part → OnlyReads before now device r
plain_at_err {before = before} {now = now} {device = device} Q r h other reads = record {
  told = reads.told;
  faults = reads.faults;
  edges = reads.edges;
  cause = err_at_err Q r (λ e. e ≡ device → Rose before.faults now.faults) h (λ e q is. absurd (other e q is));
}

-- units were read, and nothing failed
pub reads_at_ok : {A B D E : Type 0} {before now : Seen} {there : D} {device : E} {part : Result A D} (x : B) → OnlyReads before now there part
    → OnlyReads before now device (Ok x)
reads_at_ok x reads = record { told = reads.told; faults = reads.faults; edges = reads.edges; cause = tt }

-- units were read before a part that reads units alone
pub reads_behind : {T E : Type 0} (before : Seen) {mid now : Seen} {device : E} {r : Result T E} → mid.told ≡ before.told → before.faults ≤ mid.faults → mid.edges ≡ before.edges
    → OnlyReads mid now device r → OnlyReads before now device r
reads_behind before {mid} {now} {device} {r} told faults edges reads = record {
  told = reads.told ∙ told;
  faults = (let later = reads.faults in omega (arith, faults, later));
  edges = reads.edges ∙ edges;
  cause = IfErr-weaker r (λ e. e ≡ device → Rose mid.faults now.faults) (λ e. e ≡ device → Rose before.faults now.faults)
      (λ e rose is. rose_later before.faults mid.faults now.faults faults (rose is)) reads.cause;
}

-- one part behind another
pub reads_then : {A B D E : Type 0} {before mid now : Seen} {there : D} {device : E} {first : Result A D} {r : Result B E} → OnlyReads before mid there first
    → OnlyReads mid now device r → OnlyReads before now device r
reads_then {before = before} first reads = reads_behind before first.told first.faults first.edges reads

-- nothing was read
pub reads_none : {T E : Type 0} (s : Seen) {device : E} (r : Result T E) → IfErr r (λ e. e ≡ device → ⊥) → OnlyReads s s device r
reads_none s {device} r other = record {
  told = refl;
  faults = omega arith;
  edges = refl;
  cause = IfErr-weaker r (λ e. e ≡ device → ⊥) (λ e. e ≡ device → Rose s.faults s.faults) (λ e no is. absurd (no is)) other;
}

-- so much was read, and nothing failed
pub reads_so_far : {T E : Type 0} (before now : Seen) {device : E} (x : T) → now.told ≡ before.told → before.faults ≤ now.faults → now.edges ≡ before.edges
    → OnlyReads before now device (Ok x)
reads_so_far before now x told faults edges = record { told = told; faults = faults; edges = edges; cause = tt }

-- the fault of a part that read units alone is passed on as another
pub turned_at_err : {A B D E : Type 0} {before now : Seen} {there : D} {device : E} (Q : E → Type 0) (r : Result B E) (why : D) → IsErrAnd r Q
    → ((e : E) → Q e → e ≡ device → why ≡ there) → OnlyReads {T = A} before now there (Err why) → OnlyReads before now device r
turned_at_err {before = before} {now = now} {device = device} Q r why h same reads = record {
  told = reads.told;
  faults = reads.faults;
  edges = reads.edges;
  cause = err_at_err Q r (λ e. e ≡ device → Rose before.faults now.faults) h (λ e q is. reads.cause (same e q is));
}

-- ---- the faults of opening

not_device : (e why : OpenFault) → e ≡ why → why ≡ failed.Memory → e ≡ failed.Device → ⊥
not_device e why is memory device = cc

-- units were read, and then there was no memory
pub memory_at_err : {A B D : Type 0} {before now : Seen} {there : D} {part : Result A D} (r : Result B OpenFault) (why : OpenFault) → IsErrAnd r (λ e. e ≡ why)
    → why ≡ failed.Memory → OnlyReads before now there part → OnlyReads before now failed.Device r
memory_at_err r why h memory reads = plain_at_err (λ e. e ≡ why) r h (λ e is device. not_device e why is memory device) reads

-- units were read, and then a part failed whose fault is no device's
pub other_at_err : {A B D : Type 0} {before now : Seen} {there : D} {part : Result A D} (r : Result B OpenFault) (why : OpenFault) → IsErrAnd r (λ e. e ≡ why)
    → (why ≡ failed.Device → ⊥) → OnlyReads before now there part → OnlyReads before now failed.Device r
other_at_err r why h other reads = plain_at_err (λ e. e ≡ why) r h (λ e is device. other (sym is ∙ device)) reads

-- so much was read, and then a part failed whose fault is no device's
pub other_so_far : {B : Type 0} (before now : Seen) (r : Result B OpenFault) (why : OpenFault) → IsErrAnd r (λ e. e ≡ why) → (why ≡ failed.Device → ⊥) → now.told ≡ before.told
    → before.faults ≤ now.faults → now.edges ≡ before.edges → OnlyReads before now failed.Device r
other_so_far before now r why h other told faults edges = record {
  told = told;
  faults = faults;
  edges = edges;
  cause = err_at_err (λ e. e ≡ why) r (λ e. e ≡ failed.Device → Rose before.faults now.faults) h (λ e is device. absurd (other (sym is ∙ device)));
}

pub memory_is_none : (why : OpenFault) → why ≡ failed.Memory → why ≡ failed.Device → ⊥
memory_is_none why memory device = cc

pub pointer_is_none : {holder value : ℕ} → failed.Pointer holder value ≡ failed.Device → ⊥
pointer_is_none is = cc
