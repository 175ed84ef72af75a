-- Changes that are refused, and an access of which a part fails.
use Rattle.std.proofs.Common.{◌≡◌, inl, inr, ℕ, ◌≤◌, Bool, true, false, [], Option, Some, None, Result, Ok, Err, IsErrAnd, refl, sym, ◌∙◌, ap, subst, arith}
use Rattle.std.specs.Prelude.{◌↔◌, IfErr, IsSome, IsTrue, OnOk, ⊤}
use Rattle.std.proofs.lemmas.Bool.{true≢false}
use Rattle.cms_journal.proofs.Pieces.{grown_same}
use Rattle.cms_journal.specs.Causes.{Rose}
use Rattle.cms_journal.specs.Told.{Told}
use Rattle.cms_names.specs.declared.name.Name.{Name}
use Rattle.cms_model.specs.declared.fault.OpenFault.TheVariants as unopened
use Rattle.cms_world.specs.Seen.{ChangesUnits, OnlyReads, Seen}
use Rattle.cms_held.specs.declared.shape.DraftShape.{DraftShape}
use Rattle.cms_disk.specs.Changes.{ChangesDisk, IsDevices}
use Rattle.cms_disk.specs.Disks.{Accessed, synced, told_with}
use Rattle.cms_disk.specs.Disks as access
use Rattle.cms_disk.specs.Drafts.{IsDraftFault}
use Rattle.cms_disk.specs.declared.fault.AccessFault.{AccessFault}
use Rattle.cms_disk.specs.declared.fault.AccessFault.TheVariants.{Open, Sync}
use Rattle.cms_disk.specs.declared.fault.DiskFault.{DiskFault}
use Rattle.cms_disk.specs.declared.fault.DiskFault.TheVariants as failed
use Rattle.cms_disk.proofs.ReadSteps.{err_is}

pub not_found_none : IsDevices failed.NotFound → ⊥
not_found_none (inl is) = cc
not_found_none (inr is) = cc

pub exists_none : IsDevices failed.Exists → ⊥
exists_none (inl is) = cc
exists_none (inr is) = cc

pub read_only_none : IsDevices failed.ReadOnly → ⊥
read_only_none (inl is) = cc
read_only_none (inr is) = cc

pub draft_none : (d : Accessed) (name : Name) (shape : DraftShape) (e : DiskFault) → IsDraftFault d name shape e → IsDevices e → ⊥
draft_none d name shape e fault (inl is) = subst (IsDraftFault d name shape) is fault
draft_none d name shape e fault (inr is) = subst (IsDraftFault d name shape) is fault

-- the fault of a part is that of all
pub passed_on : {T U E : Type 0} (r : Result U E) (why e : E) → IsErrAnd r (λ x. x ≡ why) → ◌≡◌ {A = Result T E} (Err why) (Err e) → r ≡ Err e
passed_on r why e h is = let same : why ≡ e = cc in err_is r why h ∙ ap Err same

-- nothing was done
pub nothing_changed : (s : Seen) (d : Accessed) (why : DiskFault) → (IsDevices why → ⊥) → ChangesDisk s s d d (Err why)
nothing_changed s d why other = record {
  units = record { grown = grown_same s.told s.told refl; faults = omega arith; edges = refl; cause = λ device. absurd (other device) };
  same = record { vdev = refl; writable = refl; unit = refl; disk = refl };
  kept = λ sure. refl;
}

-- the disk has other spare places
pub changed_places : (a b : Seen) (d e : Accessed) (r : Result ⊤ DiskFault) → ChangesUnits a b IsDevices r → e ≡ record d { spare = e.spare } → ChangesDisk a b d e r
changed_places a b d e (Ok u) units kept = record {
  units = units;
  same = record {
    vdev = ap (λ (x : Accessed). x.vdev) kept;
    writable = ap (λ (x : Accessed). x.writable) kept;
    unit = ap (λ (x : Accessed). x.volume.unit) kept;
    disk = ap (λ (x : Accessed). x.volume.disk) kept;
  };
  kept = tt;
}
changed_places a b d e (Err why) units kept = record {
  units = units;
  same = record {
    vdev = ap (λ (x : Accessed). x.vdev) kept;
    writable = ap (λ (x : Accessed). x.writable) kept;
    unit = ap (λ (x : Accessed). x.volume.unit) kept;
    disk = ap (λ (x : Accessed). x.volume.disk) kept;
  };
  kept = λ sure. kept;
}

pub no_unit_changed : (s : Seen) (r : Result ⊤ DiskFault) (why : DiskFault) → IsErrAnd r (λ x. x ≡ why) → (IsDevices why → ⊥) → ChangesUnits s s IsDevices r
no_unit_changed s (Ok u) why h other = absurd h
no_unit_changed s (Err e) why h other =
    record { grown = grown_same s.told s.told refl; faults = omega arith; edges = refl; cause = λ device. absurd (other (subst IsDevices h device)) }

-- ---- whether a file has a name

pub none_named : (r : Bool) (o : Option ℕ) → (IsTrue r ↔ IsSome o) → r ≡ false → o ≡ None
none_named r None is none = refl
none_named r (Some k) is none = absurd (true≢false (sym (is.1 refl) ∙ none))

pub some_named : (r : Bool) (o : Option ℕ) → (IsTrue r ↔ IsSome o) → r ≡ true → o ≡ None → ⊥
some_named r None is there none = absurd (true≢false (sym (is.0 there)))
some_named r (Some k) is there none = cc

pub not_there : (o : Option ℕ) → o ≡ None → IsSome o → ⊥
not_there None none some = absurd (true≢false (sym some))
not_there (Some k) none some = cc

pub same_places : (n : ℕ) → n ≤ n
same_places n = omega arith

-- ---- an access

pub always : {T E P : Type 0} (r : Result T E) → P → OnOk r P
always (Ok x) p = p
always (Err e) p = tt

pub opened_told : (r : Result Accessed AccessFault) (new old : Told) (doubt : Bool) (u : ℕ) → IfErr r (λ e. e ≡ Sync → ⊥) → new ≡ synced doubt u old
    → IfErr r (λ e. new ≡ told_with e doubt u old)
opened_told (Ok d) new old doubt u none is = tt
opened_told (Err Sync) new old doubt u none is = absurd (none refl)
opened_told (Err (Open why)) new old doubt u none is = is

pub opened_units : (a b : Seen) (r : Result Accessed AccessFault) → IfErr r (λ e. e ≡ Sync → ⊥) → OnlyReads a b (Open unopened.Device) r → ChangesUnits a b access.IsDevices r
opened_units a b r none reads = record {
  grown = record { events = []; told = reads.told };
  faults = reads.faults;
  edges = reads.edges;
  cause = cause r none reads.cause;
}
  where
    cause : (x : Result Accessed AccessFault) → IfErr x (λ e. e ≡ Sync → ⊥) → IfErr x (λ e. e ≡ Open unopened.Device → Rose a.faults b.faults)
        → IfErr x (λ e. access.IsDevices e → Rose a.faults b.faults)
    cause (Ok d) n c = tt
    cause (Err e) n c = λ device. either e n c device
      where
        either : (e : AccessFault) → (e ≡ Sync → ⊥) → (e ≡ Open unopened.Device → Rose a.faults b.faults) → access.IsDevices e → Rose a.faults b.faults
        either e n c (inl is) = absurd (n is)
        either e n c (inr is) = c is
