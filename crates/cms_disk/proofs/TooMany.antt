-- More records than a file may have are added to the file of a name.
use Rattle.std.proofs.Common.{◌≡◌, ℕ, ◌+◌, ◌<◌, ◌≤◌, List, length, Some, None, Err, refl, sym, ◌∙◌, ap, subst, arith, slice_get}
use Rattle.std.specs.Prelude.{Option, nat_lt, if◌then◌else◌, ⊤}
use Rattle.std.proofs.lemmas.Bool.{cond-false, cond-true, le-ltb, lt-ltb}
use Rattle.std.proofs.lemmas.Option.{same_Some}
use Rattle.cms_journal.specs.Journal.{Journal}
use Rattle.cms_names.specs.declared.name.Name.{Name}
use Rattle.cms_fields.specs.Limits.{most_bytes, most_files, most_records}
use Rattle.cms_model.specs.Changes.{Add, Limited, answer_of}
use Rattle.cms_model.specs.LawsUpdates.{now}
use Rattle.cms_model.specs.Minidisks.{Minidisk}
use Rattle.cms_model.specs.Records.{StandsFor}
use Rattle.cms_model.specs.declared.file.FileData.{FileData}
use Rattle.cms_held.specs.HeldVolumes.{HeldVolume}
use Rattle.cms_held.specs.Kept.{Keeps}
use Rattle.cms_held.specs.Puts.{limit_put}
use Rattle.cms_held.specs.declared.shape.DraftShape.{DraftShape}
use Rattle.cms_edf.specs.FilesTold.{info_of, infos_in}
use Rattle.cms_edf.specs.Growths.{IsFileOf}
use Rattle.cms_edf.specs.declared.growth.MoreFault.TheVariants as refused
use Rattle.cms_edf.specs.declared.held.FileInfo.{FileInfo}
use Rattle.cms_edf.proofs.Planned.{named_at as named_in}
use Rattle.cms_disk.specs.Additions.{FitsFile, IsAddFault, shape_with}
use Rattle.cms_disk.specs.Changes.{ChangesDisk}
use Rattle.cms_disk.specs.Disks.{Accessed, IsMinidisk, IsReadable, place_of}
use Rattle.cms_disk.specs.declared.fault.DiskFault.TheVariants as failed
use Rattle.cms_disk.proofs.AddAnswered.{added_to, more_answered}
use Rattle.cms_disk.proofs.DisksTold.{named_at}
use Rattle.cms_disk.proofs.MoreDrafts.{found_in, has_behind, told_of}

-- with them the file of the name, which stands at this place, has more than that
abbrev pub AreTooMany : HeldVolume → ℕ → FileData → Type 0
AreTooMany v place more = (info : FileInfo) → slice_get (infos_in v) place ≡ Some info → most_records < info.count + more.count

limit_is : (v : HeldVolume) (count bytes : ℕ) → length v.files ≤ most_files → most_records < count → limit_put (length v.files) count bytes ≡ Some 2
limit_is v count bytes few many =
    let rest : Option ℕ = if nat_lt most_bytes bytes then Some 3 else None in
    cond-false (nat_lt most_files (length v.files)) (Some 1) (if nat_lt most_records count then Some 2 else rest) (le-ltb most_files (length v.files) few)
    ∙ cond-true (nat_lt most_records count) (Some 2) rest (lt-ltb most_records count many)

-- that limit is why they aren't added
pub no_room : (d : Accessed) (name : Name) (place : ℕ) (more : FileData) → Keeps d.volume → place_of name d.volume ≡ Some place → AreTooMany d.volume place more
    → IsAddFault d name more (failed.Limit 2)
no_room d name place more keeps there many info bytes told f at =
    let same : told.place ≡ place = same_Some told.place place (sym told.place_is ∙ there) in
    let here = subst (λ (k : ℕ). slice_get (infos_in d.volume) k ≡ Some info) same told.info_is in
    limit_is d.volume (info.count + more.count) (bytes + length more.bytes) keeps.few (many info here)

-- and so the change is answered
pub limited : (j : Journal) (d : Accessed) (m : Minidisk) (name : Name) (place : ℕ) (more : FileData) (records : List (List ℕ)) → Keeps d.volume → IsMinidisk j d m → IsReadable j d
    → StandsFor more records → FitsFile d.volume name more → place_of name d.volume ≡ Some place → AreTooMany d.volume place more
    → answer_of m (Add name records more.stamp) ≡ Limited 2
limited j d m name place more records keeps x has stands fits there many =
    let h = named_in d.volume.files name place there in
    let f = h.file in
    let at : IsFileOf d.volume name f = record { place = place; there = there; is = h.there } in
    let told = told_of d.volume name f at in
    let fit = fits place (info_of f) there told.info_is in
    let n = named_at (now j d.volume.unit) name d m place f x.stands there h.there in
    let found = found_in j d m name n.file place f x n.named there h.there in
    let shape : DraftShape = shape_with (info_of f) f.size more in
    let have = has_behind n.file f more records shape refl stands fit.0 fit.1 found.is.format_is found.is.length_is found.is.count_is found.stored_is.size_is in
    more_answered j d m name shape n.file records f at (added_to j d m name shape n.file records f at keeps x has n.named have.counts refl) ⊤ (refused.Limit 2)
    (limit_is d.volume shape.count shape.bytes keeps.few (many (info_of f) told.info_is))
