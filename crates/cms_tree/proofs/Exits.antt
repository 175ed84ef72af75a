-- What is said of a result where a `?` leaves, and of calls on units alone.
use Rattle.std.proofs.Common.{◌≡◌, ◌≤◌, ℕ, Bool, List, Result, Ok, Err, refl, sym, ◌∙◌, subst, arith}
use Rattle.std.specs.Prelude.{⊤}
use Rattle.std.specs.Result.{IfErr, IfOk, IsErrAnd, OnErr, OnOk}
use Rattle.std.proofs.lemmas.Result.{IfErr-weaker}
use Rattle.cms_journal.specs.Causes.{Rose}
use Rattle.cms_journal.specs.declared.event.Failed.{Failed}
use Rattle.cms_world.specs.Seen.{OnlyReads, OnUnits, Seen}
use Rattle.cms_tree.specs.declared.types.ResumeFault.{ResumeFault}
use Rattle.cms_tree.specs.declared.types.ResumeFault.TheVariants as resume
use Rattle.cms_tree.specs.declared.types.TreeFault.{TreeFault}
use Rattle.cms_tree.specs.declared.types.TreeFault.TheVariants.{Device, Memory, Pointer}
use Rattle.cms_tree.specs.declared.types.TreeAt.{TreeAt}
use Rattle.cms_tree.specs.declared.types.Walked.{Walked}
use Rattle.cms_tree.specs.declared.read.MetBlocks.{MetBlocks}
use Rattle.cms_tree.specs.Parts.{IsRefusal, JoinsLeaf, Reading}
use Rattle.cms_tree.specs.Walks.{Appends, Reads}
use Rattle.cms_model.specs.Trees.{Image}

-- there is no value
pub ok_at_err : {T E : Type 0} (Q : E → Type 0) (r : Result T E) (P : T → Type 0) → IsErrAnd r Q → IfOk r P
ok_at_err Q (Ok x) P h = absurd h
ok_at_err Q (Err e) P h = tt

-- the fault is what is said of it
pub err_at_err : {T E : Type 0} (Q : E → Type 0) (r : Result T E) (P : E → Type 0) → IsErrAnd r Q → ((e : E) → Q e → P e) → IfErr r P
err_at_err Q (Ok x) P h f = tt
err_at_err Q (Err e) P h f = f e h

-- the fault is that of a part
pub same_at_err : {T E : Type 0} (r : Result T E) (P : E → Type 0) (why : E) → IsErrAnd r (λ e. e ≡ why) → P why → IfErr r P
same_at_err (Ok x) P why h p = tt
same_at_err (Err e) P why h p = subst P (sym h) p

-- what holds in any case holds where there is a fault
pub holds_at_err : {T E : Type 0} {P : Type 0} (r : Result T E) → P → OnErr r P
holds_at_err (Ok x) p = tt
holds_at_err (Err e) p = p

rose_later : (a b c : ℕ) → a ≤ b → Rose b c → Rose a c
rose_later a b c later rose = omega (arith, later, rose)

-- a part failed that read units alone
pub reads_at_err : {A B E : Type 0} {before now : Seen} {device : E} (r : Result B E) (why : E) → IsErrAnd r (λ e. e ≡ why) → OnlyReads {T = A} before now device (Err why)
    → OnlyReads before now device r
reads_at_err {before = before} {now = now} {device = device} r why h reads = record {
  told = reads.told;
  faults = reads.faults;
  edges = reads.edges;
  cause = same_at_err r (λ e. e ≡ device → Rose before.faults now.faults) why h reads.cause;
}

-- units were read, and then a part failed that calls no device
pub plain_at_err : {A B D E : Type 0} {before now : Seen} {there : D} {device : E} {part : Result A D} (Q : E → Type 0) (r : Result B E) → IsErrAnd r Q
    → ((e : E) → Q e → e ≡ device → ⊥) → OnlyReads before now there part → OnlyReads before now device r
plain_at_err {before = before} {now = now} {device = device} Q r h other reads = record {
  told = reads.told;
  faults = reads.faults;
  edges = reads.edges;
  cause = err_at_err Q r (λ e. e ≡ device → Rose before.faults now.faults) h (λ e q is. absurd (other e q is));
}

-- units were read, and nothing failed
pub reads_at_ok : {A B D E : Type 0} {before now : Seen} {there : D} {device : E} {part : Result A D} (x : B) → OnlyReads before now there part
    → OnlyReads before now device (Ok x)
reads_at_ok x reads = record { told = reads.told; faults = reads.faults; edges = reads.edges; cause = tt }

-- units were read before a part that reads units alone
pub reads_behind : {T E : Type 0} (before : Seen) {mid now : Seen} {device : E} {r : Result T E} → mid.told ≡ before.told → before.faults ≤ mid.faults → mid.edges ≡ before.edges
    → OnlyReads mid now device r → OnlyReads before now device r
reads_behind before {mid} {now} {device} {r} told faults edges reads = record {
  told = reads.told ∙ told;
  faults = (let later = reads.faults in omega (arith, faults, later));
  edges = reads.edges ∙ edges;
  cause = IfErr-weaker r (λ e. e ≡ device → Rose mid.faults now.faults) (λ e. e ≡ device → Rose before.faults now.faults)
      (λ e rose is. rose_later before.faults mid.faults now.faults faults (rose is)) reads.cause;
}

-- nothing was read
pub reads_none : {T E : Type 0} (s : Seen) {device : E} (r : Result T E) → IfErr r (λ e. e ≡ device → ⊥) → OnlyReads s s device r
reads_none s {device} r other = record {
  told = refl;
  faults = omega arith;
  edges = refl;
  cause = IfErr-weaker r (λ e. e ≡ device → ⊥) (λ e. e ≡ device → Rose s.faults s.faults) (λ e no is. absurd (no is)) other;
}

-- so much was read, and nothing failed
pub reads_so_far : {T E : Type 0} (before now : Seen) {device : E} (x : T) → now.told ≡ before.told → before.faults ≤ now.faults → now.edges ≡ before.edges
    → OnlyReads before now device (Ok x)
reads_so_far before now x told faults edges = record { told = told; faults = faults; edges = edges; cause = tt }

-- ---- calls on units alone

-- nothing was called
pub counts_none : {T : Type 0} (s : Seen) {x : T} → OnUnits {T = T} {E = Failed} s s (Ok x)
counts_none s = record { cause = record { later = omega arith; failed = tt }; edges = refl }

-- a call went well
pub counts_ok : {A B : Type 0} {a b : Seen} {r : Result A Failed} {x : B} → OnUnits a b r → OnUnits {T = B} {E = Failed} a b (Ok x)
counts_ok h = record { cause = record { later = h.cause.later; failed = tt }; edges = h.edges }

-- a call failed, and its fault is passed on
pub counts_err : {A B : Type 0} {a b : Seen} {e : Failed} (r : Result B Failed) → OnUnits {T = A} a b (Err e) → OnUnits a b r
counts_err r h = record { cause = record { later = h.cause.later; failed = holds_at_err r h.cause.failed }; edges = h.edges }

-- one part behind another
pub counts_on : {A B : Type 0} {a b c : Seen} {q : Result A Failed} {r : Result B Failed} → OnUnits a b q → OnUnits b c r → OnUnits a c r
counts_on {a = a} {b = b} {c = c} {r = r} first more =
    let later = first.cause.later in
    let last = more.cause.later in
    record {
      cause = record {
        later = omega (arith, later, last);
        failed = IfErr-weaker r (λ _. Rose b.faults c.faults) (λ _. Rose a.faults c.faults) (λ e rose. rose_later a.faults b.faults c.faults later rose) more.cause.failed;
      };
      edges = more.edges ∙ first.edges;
    }

-- ---- the faults of reading a tree

pub no_device : {T : Type 0} (r : Result T TreeFault) → (r ≡ Err Device → ⊥) → IfErr r (λ e. e ≡ Device → ⊥)
no_device (Ok x) other = tt
no_device (Err e) other = λ is. other (rw is refl)

pub memory_only : (e : TreeFault) → e ≡ Memory → e ≡ Device → ⊥
memory_only e memory device = cc

pub memory_resumes : (e : ResumeFault) → e ≡ resume.Memory → e ≡ resume.Device → ⊥
memory_resumes e memory device = cc

-- a walk ended with the fault of a part
pub tree_at_err : (image : Image) (at : TreeAt) (r : Result Walked TreeFault) (why : TreeFault) → IsErrAnd r (λ e. e ≡ why) → Reads image at (Err why) → Reads image at r
tree_at_err image at (Ok x) why h reads = absurd h
tree_at_err image at (Err e) why h reads = subst (λ (f : TreeFault). Reads image at (Err f)) (sym h) reads

-- the blocks of a walk are appended, or not, with the fault of a part
pub appends_at_err : (image : Image) (at : TreeAt) (p p' l l' : List ℕ) (r : Result ⊤ TreeFault) (why : TreeFault) → IsErrAnd r (λ e. e ≡ why) → Reads image at (Err why)
    → Appends image at p p' l l' r
appends_at_err image at p p' l l' (Ok x) why h reads = absurd h
appends_at_err image at p p' l l' (Err e) why h reads = subst (λ (f : TreeFault). Appends image at p p' l l' (Err f)) (sym h) (go why reads)
  where
    go : (f : TreeFault) → Reads image at (Err f) → Appends image at p p' l l' (Err f)
    go Device r = tt
    go Memory r = tt
    go (Pointer holder value) r = r

-- ---- a block that was met isn't noted, for there is no memory

pub none_taken : {T : Type 0} (P : Type 0) (r : Result T TreeFault) → IsErrAnd r (λ e. e ≡ Memory) → OnOk r P
none_taken P (Ok x) h = absurd h
none_taken P (Err e) h = tt

pub not_device : {T : Type 0} (r : Result T TreeFault) → IsErrAnd r (λ e. e ≡ Memory) → r ≡ Err Device → ⊥
not_device (Ok x) h is = absurd h
not_device (Err e) h is = cc

pub leaf_at_err : (old new : MetBlocks) (r : Result ⊤ TreeFault) (read : Reading) → IsErrAnd r (λ e. e ≡ Memory) → JoinsLeaf old new r read
leaf_at_err old new (Ok x) read h = absurd h
leaf_at_err old new (Err e) read h = rw h tt

pub refused_at_err : {T : Type 0} (r : Result T TreeFault) (holder root : ℕ) (allowed : Bool) → IsErrAnd r (λ e. e ≡ Memory) → IfErr r (λ fault. IsRefusal fault holder root allowed)
refused_at_err (Ok x) holder root allowed h = absurd h
refused_at_err (Err e) holder root allowed h = rw h tt
