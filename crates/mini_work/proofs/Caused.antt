-- Causes, one after another.
use Rattle.std.proofs.Common.{◌≡◌, ◌⊎◌, ⊎_elim, inl, inr, ℕ, Bool, true, false, ◌≤◌, Result, Ok, Err, arith, refl, subst, sym, ap, ◌∙◌, Option, None, Some}
use Rattle.std.specs.Result.{IsErrAnd}
use Rattle.std.specs.Prelude.{IfOk}
use Rattle.cms_journal.specs.Causes.{Rose}
use Rattle.cms_world.specs.Seen.{ChangesUnits, OnlyReads, Seen}
use Rattle.cms_names.specs.declared.name.Name.{Name}
use Rattle.cms_held.specs.declared.shape.DraftShape.{DraftShape}
use Rattle.cms_held.specs.HeldVolumes.{HeldVolume}
use Rattle.cms_disk.specs.Changes.{IsChangeFault, IsDevices}
use Rattle.cms_disk.specs.Disks.{Accessed}
use Rattle.cms_disk.specs.Drafts.{IsDraftFault}
use Rattle.cms_disk.specs.EmptyMinidisks.{IsMakeFault}
use Rattle.cms_disk.specs.declared.fault.DiskFault.{DiskFault}
use Rattle.cms_disk.specs.declared.fault.DiskFault.TheVariants as disk
use Rattle.mini_work.specs.Causes.{AreLater, Counts, HasCause, HasEnd, HasFileCause, OneRose, is_broken, is_failed, is_failure, is_file_failure, on_host, on_seen}
use Rattle.mini_work.specs.CommandActs.{both}
use Rattle.mini_work.specs.Faults.{fault_of}
use Rattle.mini_work.specs.declared.fault.Fault.{Fault}
use Rattle.mini_work.specs.declared.fault.Fault.TheVariants as fault
use Rattle.mini_work.specs.declared.host_records.FileFault.{FileFault}
use Rattle.mini_work.specs.declared.status.Status.{Status}
use Rattle.mini_work.specs.declared.status.Status.TheVariants as status

pub later_same : (a : Counts) → AreLater a a
later_same a = record { faults = omega arith; edges = omega arith; host = omega arith }

pub later_then : (a b c : Counts) → AreLater a b → AreLater b c → AreLater a c
later_then a b c p q = record { faults = omega (arith, p.faults, q.faults); edges = omega (arith, p.edges, q.edges); host = omega (arith, p.host, q.host) }

rose_later : (m n k : ℕ) → m ≤ n → Rose n k → Rose m k
rose_later m n k first rose = omega (arith, first, rose)

rose_kept : (m n k : ℕ) → Rose m n → n ≤ k → Rose m k
rose_kept m n k rose last = omega (arith, rose, last)

pub one_later : (a b c : Counts) → AreLater a b → OneRose b c → OneRose a c
one_later a b c p (inl x) = inl (rose_later a.faults b.faults c.faults p.faults x)
one_later a b c p (inr (inl x)) = inr (inl (rose_later a.edges b.edges c.edges p.edges x))
one_later a b c p (inr (inr x)) = inr (inr (rose_later a.host b.host c.host p.host x))

pub one_kept : (a b c : Counts) → OneRose a b → AreLater b c → OneRose a c
one_kept a b c (inl x) p = inl (rose_kept a.faults b.faults c.faults x p.faults)
one_kept a b c (inr (inl x)) p = inr (inl (rose_kept a.edges b.edges c.edges x p.edges))
one_kept a b c (inr (inr x)) p = inr (inr (rose_kept a.host b.host c.host x p.host))

-- behind calls that ended well
pub cause_then : {A : Type 0} (a b c : Counts) (r : Result A Fault) → AreLater a b → HasCause b c r → HasCause a c r
cause_then a b c (Ok x) p q = record { later = later_then a b c p q.later; failed = tt }
cause_then a b c (Err why) p q = record { later = later_then a b c p q.later; failed = λ is. one_later a b c p (q.failed is) }

-- a failure that is handed on
pub cause_on : {A B : Type 0} (a b : Counts) (why : Fault) (r : Result B Fault) → IsErrAnd r (λ last. last ≡ why) → HasCause {A = A} a b (Err why)
    → HasCause a b r
cause_on a b why (Ok x) is cause = absurd is
cause_on a b why (Err last) is cause = record { later = cause.later; failed = subst (λ (w : Fault). is_failure w ≡ true → OneRose a b) (sym is) cause.failed }

-- there is no memory
pub cause_memory : {A : Type 0} (a b : Counts) (r : Result A Fault) → IsErrAnd r (λ last. last ≡ fault.Memory) → AreLater a b → HasCause a b r
cause_memory a b (Ok x) is later = absurd is
cause_memory a b (Err last) is later =
    record { later = later; failed = subst (λ (w : Fault). is_failure w ≡ true → OneRose a b) (sym is) (λ e. absurd (cc e)) }

pub cause_done : {A : Type 0} (a b : Counts) (x : A) → AreLater a b → HasCause a b (Ok x)
cause_done a b x later = record { later = later; failed = tt }

-- ---- a call of the host alone

pub host_later : (c : Counts) (m n : ℕ) → m ≤ n → AreLater (on_host c m) (on_host c n)
host_later c m n later = record { faults = omega arith; edges = omega arith; host = later }

pub host_failed : {A : Type 0} (c : Counts) (m n : ℕ) (why : Fault) → m ≤ n → Rose m n → HasCause {A = A} (on_host c m) (on_host c n) (Err why)
host_failed c m n why later rose = record { later = host_later c m n later; failed = λ is. inr (inr rose) }

-- ---- a call on units alone, and another call of the world

pub edges_failed : {A : Type 0} (a b : Counts) (why : Fault) → AreLater a b → Rose a.edges b.edges → HasCause {A = A} a b (Err why)
edges_failed a b why later rose = record { later = later; failed = λ is. inr (inl rose) }

-- only the count of these rose
pub edges_later : (f m n h : ℕ) (g : ℕ) → g ≡ f → m ≤ n
    → AreLater (record { faults = f; edges = m; host = h }) (record { faults = g; edges = n; host = h })
edges_later f m n h g same later = record { faults = omega (arith, same); edges = later; host = omega arith }

-- ---- what is said of it

-- a failure, unless there was no memory
pub failure_left : (why : Fault) → (why ≡ fault.Memory → ⊥) → is_failure why ≡ true
failure_left fault.Memory not = absurd (not refl)
failure_left fault.Image not = refl
failure_left fault.Host not = refl
failure_left fault.Output not = refl
failure_left fault.Clock not = refl
failure_left fault.Said not = refl

-- of any counts
pub no_counts : Counts
no_counts = record { faults = 0; edges = 0; host = 0 }

-- behind calls that ended well, a failure that is handed on
pub cause_fails : {A : Type 0} (a b c : Counts) (why : Fault) (r : Result A Fault) → AreLater a b → IsErrAnd r (λ last. last ≡ why) → AreLater b c
    → (is_failure why ≡ true → OneRose b c) → HasCause a c r
cause_fails a b c why (Ok x) before is later failed = absurd is
cause_fails a b c why (Err last) before is later failed = record {
  later = later_then a b c before later;
  failed = subst (λ (w : Fault). is_failure w ≡ true → OneRose a c) (sym is) (λ e. one_later a b c before (failed e));
}

-- ---- calls on units

pub reads_later : {T E : Type 0} (before now : Seen) (device : E) (r : Result T E) (h : ℕ) → OnlyReads before now device r
    → AreLater (on_seen before h) (on_seen now h)
reads_later before now device r h p = record { faults = p.faults; edges = omega (arith, p.edges); host = omega arith }

pub units_later : {T E : Type 0} (before now : Seen) (D : E → Type 0) (r : Result T E) (h : ℕ) → ChangesUnits before now D r
    → AreLater (on_seen before h) (on_seen now h)
units_later before now D r h p = record { faults = p.faults; edges = omega (arith, p.edges); host = omega arith }

pub units_failed : {T : Type 0} (before now : Seen) (why : DiskFault) (h : ℕ) → ChangesUnits {T = T} before now IsDevices (Err why)
    → (is_failure (fault_of why) ≡ true → IsDevices why) → is_failure (fault_of why) ≡ true → OneRose (on_seen before h) (on_seen now h)
units_failed before now why h p devices is = inl (p.cause (devices is))

pub made_devices : (why : DiskFault) → IsMakeFault why → is_failure (fault_of why) ≡ true → IsDevices why
made_devices disk.Device made is = inl refl
made_devices disk.InDoubt made is = inr refl
made_devices disk.Memory made is = absurd (cc is)
made_devices disk.NotFound made is = absurd made
made_devices disk.Exists made is = absurd made
made_devices disk.ReadOnly made is = absurd made
made_devices disk.Altered made is = absurd made
made_devices (disk.Limit k) made is = absurd made
made_devices (disk.Full need free) made is = absurd made

-- a change of a minidisk that may be written fails by its device
broken_devices : (w : Bool) (why : DiskFault) → w ≡ true → (why ≡ disk.ReadOnly → w ≡ false) → (why ≡ disk.Altered → ⊥) → is_broken why ≡ true
    → IsDevices why
broken_devices w disk.ReadOnly may locked sound is = let e : true ≡ false = sym may ∙ locked refl in absurd (cc e)
broken_devices w disk.Device may locked sound is = inl refl
broken_devices w disk.InDoubt may locked sound is = inr refl
broken_devices w disk.Altered may locked sound is = absurd (sound refl)
broken_devices w disk.NotFound may locked sound is = absurd (cc is)
broken_devices w disk.Exists may locked sound is = absurd (cc is)
broken_devices w (disk.Limit k) may locked sound is = absurd (cc is)
broken_devices w (disk.Full need free) may locked sound is = absurd (cc is)
broken_devices w disk.Memory may locked sound is = absurd (cc is)

pub erase_rose : {T : Type 0} (before now : Seen) (v : HeldVolume) (n : ℕ) (w : Bool) (why : DiskFault) (h : ℕ) → ChangesUnits {T = T} before now IsDevices (Err why)
    → (why ≡ disk.NotFound) ⊎ (why ≡ disk.ReadOnly) ⊎ IsChangeFault v n why → (why ≡ disk.ReadOnly → w ≡ false) → w ≡ true → is_broken why ≡ true
    → OneRose (on_seen before h) (on_seen now h)
erase_rose before now v n w why h p fault locked may is = inl (p.cause (broken_devices w why may locked (sound fault) is))
  where
    sound : (why ≡ disk.NotFound) ⊎ (why ≡ disk.ReadOnly) ⊎ IsChangeFault v n why → why ≡ disk.Altered → ⊥
    sound (inl x) altered = let e : disk.NotFound ≡ disk.Altered = sym x ∙ altered in cc e
    sound (inr (inl x)) altered = let e : disk.ReadOnly ≡ disk.Altered = sym x ∙ altered in cc e
    sound (inr (inr x)) altered = subst (IsChangeFault v n) altered x

pub rename_rose : {T : Type 0} (before now : Seen) (v : HeldVolume) (n : ℕ) (w : Bool) (why : DiskFault) (h : ℕ) → ChangesUnits {T = T} before now IsDevices (Err why)
    → (why ≡ disk.NotFound) ⊎ (why ≡ disk.Exists) ⊎ (why ≡ disk.ReadOnly) ⊎ IsChangeFault v n why → (why ≡ disk.ReadOnly → w ≡ false) → w ≡ true
    → is_broken why ≡ true → OneRose (on_seen before h) (on_seen now h)
rename_rose before now v n w why h p fault locked may is = inl (p.cause (broken_devices w why may locked (sound fault) is))
  where
    sound : (why ≡ disk.NotFound) ⊎ (why ≡ disk.Exists) ⊎ (why ≡ disk.ReadOnly) ⊎ IsChangeFault v n why → why ≡ disk.Altered → ⊥
    sound (inl x) altered = let e : disk.NotFound ≡ disk.Altered = sym x ∙ altered in cc e
    sound (inr (inl x)) altered = let e : disk.Exists ≡ disk.Altered = sym x ∙ altered in cc e
    sound (inr (inr (inl x))) altered = let e : disk.ReadOnly ≡ disk.Altered = sym x ∙ altered in cc e
    sound (inr (inr (inr x))) altered = subst (IsChangeFault v n) altered x

-- a draft of one is refused for no failure
pub draft_whole : (d : Accessed) (name : Name) (shape : DraftShape) (why : DiskFault) → IsDraftFault d name shape why → d.writable ≡ true → is_broken why ≡ true → ⊥
draft_whole d name shape disk.ReadOnly fault may is = let e : true ≡ false = sym may ∙ fault in cc e
draft_whole d name shape disk.Device fault may is = fault
draft_whole d name shape disk.InDoubt fault may is = fault
draft_whole d name shape disk.Altered fault may is = fault
draft_whole d name shape disk.NotFound fault may is = fault
draft_whole d name shape disk.Exists fault may is = fault
draft_whole d name shape (disk.Limit k) fault may is = cc is
draft_whole d name shape (disk.Full need free) fault may is = cc is
draft_whole d name shape disk.Memory fault may is = cc is

-- a read that failed, where the records that were left aren't altered
pub read_failed : {T : Type 0} (before now : Seen) (why : DiskFault) (h : ℕ) → OnlyReads {T = T} before now disk.Device (Err why)
    → (why ≡ disk.Device) ⊎ (why ≡ disk.Altered) → (why ≡ disk.Altered → ⊥) → is_failure (fault_of why) ≡ true
    → OneRose (on_seen before h) (on_seen now h)
read_failed before now why h p (inl device) sound is = inl (p.cause device)
read_failed before now why h p (inr altered) sound is = absurd (sound altered)

-- ---- with a status

pub end_then : (a b c : Counts) (r : Result Status Fault) → AreLater a b → HasEnd b c r → HasEnd a c r
end_then a b c r before end = record { later = later_then a b c before end.later; failed = λ is. one_later a b c before (end.failed is) }

pub end_done : (a b : Counts) → AreLater a b → HasEnd a b (Ok status.Done)
end_done a b later = record { later = later; failed = λ is. absurd (cc is) }

pub end_refused : (a b : Counts) → AreLater a b → HasEnd a b (Ok status.Refused)
end_refused a b later = record { later = later; failed = λ is. absurd (cc is) }

pub end_fails : (a b c : Counts) (why : Fault) (r : Result Status Fault) → AreLater a b → IsErrAnd r (λ last. last ≡ why) → AreLater b c
    → (is_failure why ≡ true → OneRose b c) → HasEnd a c r
end_fails a b c why (Ok x) before is later failed = absurd is
end_fails a b c why (Err last) before is later failed = record {
  later = later_then a b c before later;
  failed = subst (λ (w : Fault). is_failure w ≡ true → OneRose a c) (sym is) (λ e. one_later a b c before (failed e));
}

pub end_lacks : (a b : Counts) (r : Result Status Fault) → IsErrAnd r (λ last. last ≡ fault.Memory) → AreLater a b → HasEnd a b r
end_lacks a b (Ok x) is later = absurd is
end_lacks a b (Err last) is later =
    record { later = later; failed = subst (λ (w : Fault). is_failure w ≡ true → OneRose a b) (sym is) (λ e. absurd (cc e)) }

-- of a refusal that is said
pub end_refuse : (a b : Counts) (r : Result Status Fault) → HasCause a b r → IfOk r (λ s. s ≡ status.Refused) → HasEnd a b r
end_refuse a b (Ok s) cause is = subst (λ (t : Status). HasEnd a b (Ok t)) (sym is) (end_refused a b cause.later)
end_refuse a b (Err why) cause is = record { later = cause.later; failed = cause.failed }

-- a failure that is said
pub end_said : (a b : Counts) (n : ℕ) (why last : Fault) → AreLater a b → (is_failure why ≡ true → OneRose a b) → b.host ≤ n
    → (is_failure last ≡ true → is_failure why ≡ true) → HasEnd a (on_host b n) (Err last)
end_said a b n why last later failed more of =
    let then_ : AreLater b (on_host b n) = record { faults = omega arith; edges = omega arith; host = more } in
    record { later = later_then a b (on_host b n) later then_; failed = λ is. one_kept a b (on_host b n) (failed (of is)) then_ }

-- of two parts
both_failed : (s t : Status) → is_failed (Ok (both s t)) ≡ true → (is_failed (Ok s) ≡ true) ⊎ (is_failed (Ok t) ≡ true)
unfolding both
both_failed status.Failed t e = inl refl
both_failed status.Done t e = inr e
both_failed status.Refused status.Failed e = inr refl
both_failed status.Refused status.Done e = absurd (cc e)
both_failed status.Refused status.Refused e = absurd (cc e)

pub end_both : (a b c : Counts) (s t r : Status) → HasEnd a b (Ok s) → HasEnd b c (Ok t) → r ≡ both s t → HasEnd a c (Ok r)
end_both a b c s t r p q is = record {
  later = later_then a b c p.later q.later;
  failed = λ e. ⊎_elim (λ x. one_kept a b c (p.failed x) q.later) (λ y. one_later a b c p.later (q.failed y))
      (both_failed s t (subst (λ (x : Status). is_failed (Ok x) ≡ true) is e));
}

-- ---- of records of host files

pub file_done : {A : Type 0} (a b : Counts) (x : A) → AreLater a b → HasFileCause a b (Ok x)
file_done a b x later = record { later = later; failed = tt }

pub file_then : {A : Type 0} (a b c : Counts) (r : Result A FileFault) → AreLater a b → HasFileCause b c r → HasFileCause a c r
file_then a b c (Ok x) before q = record { later = later_then a b c before q.later; failed = tt }
file_then a b c (Err why) before q = record { later = later_then a b c before q.later; failed = λ is. one_later a b c before (q.failed is) }

pub file_fails : {A : Type 0} (a b c : Counts) (why : FileFault) (r : Result A FileFault) → AreLater a b → IsErrAnd r (λ last. last ≡ why) → AreLater b c
    → (is_file_failure why ≡ true → OneRose b c) → HasFileCause a c r
file_fails a b c why (Ok x) before is later failed = absurd is
file_fails a b c why (Err last) before is later failed = record {
  later = later_then a b c before later;
  failed = subst (λ (w : FileFault). is_file_failure w ≡ true → OneRose a c) (sym is) (λ e. one_later a b c before (failed e));
}

-- since they aren't records, or there is no memory
pub file_stops : {A : Type 0} (a b : Counts) (why : FileFault) (r : Result A FileFault) → IsErrAnd r (λ last. last ≡ why) → is_file_failure why ≡ false
    → AreLater a b → HasFileCause a b r
file_stops a b why (Ok x) is none later = absurd is
file_stops a b why (Err last) is none later = record {
  later = later;
  failed = λ e. let no : false ≡ true = sym none ∙ (sym (ap is_file_failure is) ∙ e) in absurd (cc no);
}

-- what failed before, while more was done
pub end_err : (a b c : Counts) (why : Fault) → AreLater a b → (is_failure why ≡ true → OneRose a b) → AreLater b c → HasEnd a c (Err why)
end_err a b c why before failed later = record { later = later_then a b c before later; failed = λ is. one_kept a b c (failed is) later }

pub end_keeps : (a b c : Counts) (s : Status) → HasEnd a b (Ok s) → AreLater b c → HasEnd a c (Ok s)
end_keeps a b c s end later = record { later = later_then a b c end.later later; failed = λ is. one_kept a b c (end.failed is) later }

-- a file is there, so that nothing failed but for want of memory
pub never_missing : {A : Type 0} (why : DiskFault) (found : Option A) (x : A) → (why ≡ disk.NotFound) ⊎ (why ≡ disk.Memory) → (why ≡ disk.NotFound → found ≡ None)
    → found ≡ Some x → is_failure (fault_of why) ≡ true → ⊥
never_missing why found x (inl missing) none there is = let e : None ≡ Some x = sym (none missing) ∙ there in cc e
never_missing why found x (inr memory) none there is =
    let e : false ≡ true = subst (λ (w : DiskFault). is_failure (fault_of w) ≡ true) memory is in cc e

pub only_device : (why : DiskFault) → (why ≡ disk.Device) ⊎ (why ≡ disk.Altered) → (why ≡ disk.Altered → ⊥) → why ≡ disk.Device
only_device why (inl device) sound = device
only_device why (inr altered) sound = absurd (sound altered)
