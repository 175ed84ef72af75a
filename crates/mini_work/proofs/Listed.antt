-- Lists that are gone over place by place.
use Rattle.std.proofs.Common.{◌≡◌, ℕ, zero, suc, ◌+◌, ◌≤◌, List, [], ◌∷◌, ◌++◌, length, Some, Ok, map, ap, sym, subst, take, slice_get, add-one}
use Rattle.std.proofs.lemmas.List.{take_all}
use Rattle.std.proofs.lemmas.Option.{same_Some}
use Rattle.cms_held.specs.HeldVolumes.{HeldFile, HeldVolume, names_in}
use Rattle.cms_edf.specs.FilesTold.{info_of, infos_in}
use Rattle.cms_edf.specs.declared.held.FileInfo.{FileInfo}
use Rattle.cms_journal.specs.Told.{Told}
use Rattle.cms_model.specs.Minidisks.{Minidisk}
use Rattle.cms_disk.specs.Disks.{Accessed}
use Rattle.mini_work.specs.CommandActs.{Act, Continues, Goes, both}
use Rattle.mini_work.specs.declared.status.Status.{Status}
use Rattle.mini_work.proofs.PartsJoined.{goes_more}

-- one item more
take_next : {A : Type 0} (xs : List A) (n : ℕ) (x : A) → slice_get xs n ≡ Some x → take (suc n) xs ≡ take n xs ++ x ∷ []
take_next [] zero x e = absurd (cc e)
take_next [] (suc n) x e = absurd (cc e)
take_next (y ∷ ys) zero x e = ap (λ z. z ∷ []) (same_Some y x e)
take_next (y ∷ ys) (suc n) x e = ap (λ zs. y ∷ zs) (take_next ys n x e)

pub take_more : {A : Type 0} (xs : List A) (n : ℕ) (x : A) → slice_get xs n ≡ Some x → take (n + 1) xs ≡ take n xs ++ x ∷ []
take_more {A} xs n x e = subst (λ (k : ℕ). take k xs ≡ take n xs ++ x ∷ []) (sym (add-one n)) (take_next xs n x e)

-- the name in a place is that of what is told of the file there
named_there : (hs : List HeldFile) (k : ℕ) (i : FileInfo) → slice_get (map info_of hs) k ≡ Some i → slice_get (names_in hs) k ≡ Some i.name
named_there [] zero i e = absurd (cc e)
named_there [] (suc k) i e = absurd (cc e)
named_there (h ∷ hs) zero i e = ap (λ (x : FileInfo). Some x.name) (same_Some (info_of h) i e)
named_there (h ∷ hs) (suc k) i e = named_there hs k i e

pub name_told : (v : HeldVolume) (k : ℕ) (i : FileInfo) → slice_get (infos_in v) k ≡ Some i → slice_get (names_in v.files) k ≡ Some i.name
name_told v k i e = named_there v.files k i e

-- ---- parts that go one after another over a list

pub goes_next : {A : Type 0} (P : A → Status → Minidisk → List Act → Minidisk → List Act → Type 0) (xs : List A) (k : ℕ) (x : A) (s t u : Status)
    (old mid new : Told) (d e f : Accessed) → slice_get xs k ≡ Some x → Continues (Goes P (take k xs)) old d mid e (Ok s)
    → Continues (P x) mid e new f (Ok t) → u ≡ both s t → Continues (Goes P (take (k + 1) xs)) old d new f (Ok u)
goes_next {A} P xs k x s t u old mid new d e f at before next is =
    subst (λ (v : Status). Continues (Goes P (take (k + 1) xs)) old d new f (Ok v)) (sym is)
    (subst (λ (ys : List A). Continues (Goes P ys) old d new f (Ok (both s t))) (sym (take_more xs k x at))
    (goes_more P (take k xs) x s old mid new d e f t before next))

pub goes_done : {A : Type 0} (P : A → Status → Minidisk → List Act → Minidisk → List Act → Type 0) (xs : List A) (k : ℕ) (s : Status)
    (old new : Told) (d e : Accessed) → length xs ≤ k → Continues (Goes P (take k xs)) old d new e (Ok s) → Continues (Goes P xs) old d new e (Ok s)
goes_done {A} P xs k s old new d e few goes =
    subst (λ (ys : List A). Continues (Goes P ys) old d new e (Ok s)) (take_all k xs few) goes
