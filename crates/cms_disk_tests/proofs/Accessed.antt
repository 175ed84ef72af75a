-- A minidisk that was accessed on a unit that was attached: its blocks may be read, and written where it may be.
use Rattle.std.proofs.Common.{◌≡◌, ℕ, true, Some, Result, Ok, Err, refl, sym, ◌∙◌, ap, subst}
use Rattle.std.specs.Prelude.{IfOk, IsTrue, OnOk}
use Rattle.std.specs.Option.{ForSome}
use Rattle.std.specs.Result.{result_ok}
use Rattle.std.proofs.lemmas.Option.{same_Some}
use Rattle.cms_journal.specs.declared.event.Access.{Access}
use Rattle.cms_journal.specs.declared.event.Access.TheVariants.{ReadWrite}
use Rattle.cms_journal.specs.Journal.{HasBlocks, IsWritable, may_write}
use Rattle.cms_journal.specs.Told.{Told}
use Rattle.cms_model.specs.Volumes.{Disk}
use Rattle.cms_disk.specs.Disks.{Accessed, IsOn, IsReadable}
use Rattle.cms_disk.specs.declared.unit.UnitInfo.{UnitInfo}

pub ok_if : {A E : Type 0} (r : Result A E) (x : A) (P : A → Type 0) → result_ok r ≡ Some x → IfOk r P → P x
ok_if (Ok y) x P is p = subst P (same_Some y x is) p
ok_if (Err e) x P is p = absurd (cc is)

ok_on : {A E : Type 0} (r : Result A E) (x : A) (P : Type 0) → result_ok r ≡ Some x → OnOk r P → P
ok_on (Ok y) x P is p = p
ok_on (Err e) x P is p = absurd (cc is)

blocks_moved : (before now : Told) (u v n m size long : ℕ) → now ≡ before → u ≡ v → n ≡ m → size ≡ long → ForSome before (λ j. HasBlocks j.units v m long) → ForSome now (λ j. HasBlocks j.units u n size)
blocks_moved before now u v n m size long told same_unit same_count same_size held = rw told (rw same_unit (rw same_count (rw same_size held)))

writing_moved : (before now : Told) (u v : ℕ) → now ≡ before → u ≡ v → ForSome before (λ j. IsWritable j.units v) → ForSome now (λ j. IsWritable j.units u)
writing_moved before now u v told same_unit held = rw told (rw same_unit held)

pub readable : {E : Type 0} (before now : Told) (number blocks : ℕ) (info : UnitInfo) (r : Result Accessed E) (d : Accessed) → result_ok r ≡ Some d → IfOk r (IsOn info) → OnOk r (now ≡ before)
    → info.unit.number ≡ number → info.unit.blocks ≡ blocks → info.bsize ≡ 512 → ForSome before (λ j. HasBlocks j.units number blocks 512) → ForSome now (λ j. IsReadable j d)
readable before now number blocks info r d is on told numbered counted sized held =
    let o = ok_if r d (IsOn info) is on in
    blocks_moved before now d.volume.unit number d.volume.disk.count blocks d.volume.disk.bsize 512 (ok_on r d (now ≡ before) is told) (o.number ∙ numbered)
    (ap (λ (x : Disk). x.count) o.disk ∙ counted) (ap (λ (x : Disk). x.bsize) o.disk ∙ sized) held

pub writable : {E : Type 0} (before now : Told) (number : ℕ) (access : Access) (info : UnitInfo) (r : Result Accessed E) (d : Accessed) → result_ok r ≡ Some d → IfOk r (IsOn info) → OnOk r (now ≡ before)
    → info.unit.number ≡ number → (IsTrue info.writable → access ≡ ReadWrite) → (IsTrue (may_write access) → ForSome before (λ j. IsWritable j.units number)) → d.writable ≡ true
    → ForSome now (λ j. IsWritable j.units d.volume.unit)
writable before now number access info r d is on told numbered granted held can =
    let o = ok_if r d (IsOn info) is on in
    let whole : access ≡ ReadWrite = granted (sym o.writable ∙ can) in
    writing_moved before now d.volume.unit number (ok_on r d (now ≡ before) is told) (o.number ∙ numbered) (held (rw whole refl))
