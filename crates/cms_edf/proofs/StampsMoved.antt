-- Files under their names, whose stamps are moved one by one.
use Rattle.std.proofs.Common.{◌≡◌, ℕ, zero, suc, ◌+◌, ◌≤◌, List, [], ◌∷◌, ◌++◌, length, map, take, drop, set, slice_get, Some, refl, sym, ◌∙◌, ap, add-one, arith}
use Rattle.std.specs.Map.{values_of}
use Rattle.std.proofs.lemmas.Option.{same_Some}
use Rattle.indexmap.specs.IndexMap.{set_value_at}
use Rattle.cms_names.specs.declared.name.Name.{Name}
use Rattle.cms_held.specs.HeldVolumes.{HeldFile, by_name}
use Rattle.cms_held.specs.Renewals.{moved_file}
use Rattle.cms_edf.proofs.FilesNamed.{values_named}
use Rattle.cms_edf.proofs.FilesRenamed.{Pair, Renames}

-- ---- one file

-- in the place of a file another of its name
set_named : (fs : List HeldFile) (k : ℕ) (f g : HeldFile) → slice_get fs k ≡ Some f → g.entry.name ≡ f.entry.name → set_value_at (by_name fs) k g ≡ by_name (set fs k g)
set_named [] k f g is same = absurd (cc is)
set_named (h ∷ fs) zero f g is same =
    let own : h ≡ f = same_Some h f is in
    ap (λ (n : Name). (n, g) ∷ by_name fs) (ap (λ (x : HeldFile). x.entry.name) own ∙ sym same)
set_named (h ∷ fs) (suc k) f g is same = ap (λ (l : List Pair). (h.entry.name, h) ∷ l) (set_named fs k f g is same)

-- the file at a place has its stamp moved
pub stamped : (es es' : List Pair) (k pivot : ℕ) (f g : HeldFile) → es ≡ by_name (values_of es) → slice_get (values_of es) k ≡ Some f → g ≡ moved_file pivot f → es' ≡ set_value_at es k g
    → Renames es es' k (moved_file pivot f)
stamped es es' k pivot f g named there same written =
    let fs = values_of es in
    let e : es' ≡ by_name (set fs k (moved_file pivot f)) =
    written ∙ ((λ i. set_value_at (named i) k (same i)) ∙ set_named fs k f (moved_file pivot f) there refl) in
    let values = ap values_of e ∙ values_named (set fs k (moved_file pivot f)) in
    record { values = values; named = e ∙ ap by_name (sym values) }

-- ---- one after the other

-- the stamps of the first so many are moved
abbrev pub moved_below : ℕ → List HeldFile → ℕ → List HeldFile
moved_below pivot fs k = map (moved_file pivot) (take k fs) ++ drop k fs

-- the next is as it was
pub below_at : (pivot : ℕ) (fs : List HeldFile) (k : ℕ) (f : HeldFile) → slice_get fs k ≡ Some f → slice_get (moved_below pivot fs k) k ≡ Some f
below_at pivot [] k f is = absurd (cc is)
below_at pivot (g ∷ fs) zero f is = is
below_at pivot (g ∷ fs) (suc k) f is = below_at pivot fs k f is

below_suc : (pivot : ℕ) (fs : List HeldFile) (k : ℕ) (f : HeldFile) → slice_get fs k ≡ Some f → set (moved_below pivot fs k) k (moved_file pivot f) ≡ moved_below pivot fs (suc k)
below_suc pivot [] k f is = absurd (cc is)
below_suc pivot (g ∷ fs) zero f is = ap (λ (h : HeldFile). moved_file pivot h ∷ fs) (sym (same_Some g f is))
below_suc pivot (g ∷ fs) (suc k) f is = ap (λ (l : List HeldFile). moved_file pivot g ∷ l) (below_suc pivot fs k f is)

pub below_next : (pivot : ℕ) (fs now next : List HeldFile) (k : ℕ) (f : HeldFile) → slice_get fs k ≡ Some f → now ≡ moved_below pivot fs k → next ≡ set now k (moved_file pivot f)
    → next ≡ moved_below pivot fs (k + 1)
below_next pivot fs now next k f is are written =
    written ∙ (ap (λ (l : List HeldFile). set l k (moved_file pivot f)) are ∙ (below_suc pivot fs k f is ∙ ap (moved_below pivot fs) (sym (add-one k))))

-- at last all are
pub below_all : (pivot : ℕ) (fs : List HeldFile) (k : ℕ) → length fs ≤ k → moved_below pivot fs k ≡ map (moved_file pivot) fs
below_all pivot [] zero few = refl
below_all pivot [] (suc k) few = refl
below_all pivot (f ∷ fs) zero few = absurd (omega arith)
below_all pivot (f ∷ fs) (suc k) few = ap (λ (l : List HeldFile). moved_file pivot f ∷ l) (below_all pivot fs k (omega arith))
