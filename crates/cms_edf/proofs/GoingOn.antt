-- The directory of an update goes on from the one that is held.
use Rattle.std.proofs.Common.{◌≡◌, ⊎_elim, ℕ, ◌+◌, ◌*◌, ◌<◌, ◌≤◌, List, [], ◌∷◌, length, position, Option, None, Some, sym, ◌∙◌, ap, subst, arith, length-append, mul-le-mul_right}
use Rattle.std.proofs.lemmas.Bool.{cases_lt}
use Rattle.std.proofs.lemmas.List.{length-set}
use Rattle.cms_journal.proofs.Sizes.{block_bounds}
use Rattle.cms_fields.specs.Numbers.{up}
use Rattle.cms_fields.specs.declared.time.Stamp.{Stamp}
use Rattle.cms_model.specs.Changes.{Change}
use Rattle.cms_model.specs.DirectoryParts.{directory_count}
use Rattle.cms_model.specs.Minidisks.{same_name}
use Rattle.cms_model.specs.SharedTrees.{MayBeWritten}
use Rattle.cms_model.proofs.Quotients.{up_spec}
use Rattle.cms_held.specs.HeldVolumes.{HeldFile, HeldVolume, names_in}
use Rattle.cms_held.specs.MinidiskUpdates.{IsReadyFor}
use Rattle.cms_held.specs.Renewals.{Edit, entries_held}
use Rattle.cms_held.specs.Systems.{Systems}
use Rattle.cms_edf.specs.ChangePlans.{IsEditFor, count_after}
use Rattle.cms_edf.specs.FileDrafts.{Draft, IsSomeDraft, file_for, list_with, tree_of}
use Rattle.cms_edf.specs.NewDirectories.{GoesOn, directory_in}
use Rattle.cms_edf.specs.declared.change.FileEdit.{FileEdit}
use Rattle.cms_edf.specs.declared.change.FileEdit.TheVariants as does
use Rattle.cms_edf.proofs.Planned.{count_is, entries_count}

up_step : (x y b : ℕ) → 0 < b → x ≤ y + b → up x b ≤ up y b + 1
up_step x y b some fits = ⊎_elim
    (λ (less : up x b < up y b + 2). omega arith)
    (λ (more : up y b + 2 ≤ up x b).
    let above = (up_spec x b some).1 in
    let below = (up_spec y b some).0 in
    let wide : (up y b + 2) * b ≤ up x b * b = mul-le-mul_right b more in
    absurd (omega (arith, above, below, wide, fits)))
    (cases_lt (up x b) (up y b + 2))

pub goes_on : (v : HeldVolume) (edit : Edit) (stamp : Stamp) (s : Systems) → IsReadyFor v edit stamp s → length edit.files ≤ length v.files + 1 → GoesOn v.directory.leaves (directory_in s)
goes_on v edit stamp s r few =
    let a = r.planned.blocks in
    let k = r.kept in
    let bsize = v.disk.bsize in
    let low = (block_bounds bsize k.sized).0 in
    let old_is : directory_count bsize (length (entries_held v.files)) ≡ length v.directory.leaves = ap (directory_count bsize) (entries_count v.files) ∙ sym k.directory_is in
    let new_is : directory_count bsize (length (entries_held edit.files)) ≡ length s.directory.leaves = ap (directory_count bsize) (entries_count edit.files) ∙ sym a.directory_is in
    let step = up_step (64 * (length edit.files + 2)) (64 * (length v.files + 2)) bsize (omega (arith, low)) (omega (arith, low, few)) in
    let old = k.directory_is in
    let new = a.directory_is in
    record {
      may = subst (λ (n : ℕ). MayBeWritten n (length s.directory.leaves) s.directory_part.leaves) old_is
          (subst (λ (n : ℕ). MayBeWritten (directory_count bsize (length (entries_held v.files))) n s.directory_part.leaves) new_is a.enough.may);
      same = a.directory.leaves;
      few = omega (arith, step, old, new);
    }

-- an edit leaves no more files than there are
count_most : (fs : List HeldFile) (e : FileEdit) → count_after fs e ≤ length fs + 1
count_most fs (does.Drop place) = omega arith
count_most fs (does.Rename place to number) = omega arith
count_most fs (does.Century pivot) = omega arith

pub edit_goes_on : (v : HeldVolume) (change : Change) (stamp : Stamp) (e : FileEdit) (s s' : Systems) → s' ≡ s → IsEditFor v change stamp e s → GoesOn v.directory.leaves (directory_in s')
edit_goes_on v change stamp e s s' same p =
    subst (λ (x : Systems). GoesOn v.directory.leaves (directory_in x)) (sym same)
    (goes_on v p.edit stamp s p.ready (let count = count_is v.files e p.edit p.done in let most = count_most v.files e in omega (arith, count, most)))

-- and a file that is put is one more at most
with_few : (fs : List HeldFile) (place : Option ℕ) (f : HeldFile) → length (list_with fs place f) ≤ length fs + 1
with_few fs None f = let long = length-append fs (f ∷ []) in omega arith
with_few fs (Some place) f = let long = length-set fs place f in omega arith

pub draft_goes_on : (v : HeldVolume) (d : Draft) → IsSomeDraft v d → GoesOn v.directory.leaves (directory_in d.systems)
draft_goes_on v d some =
    let few = with_few v.files (position (same_name some.name) (names_in v.files)) (file_for v.disk.bsize some.name some.shape (tree_of d) 0) in
    let count = ap (λ (fs : List HeldFile). length fs) (some.files_are 0) in
    goes_on v (some.edit 0) some.stamp d.systems (some.ready 0) (omega (arith, few, count))
