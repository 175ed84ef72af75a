-- What a draft is answered is what the change is that puts its file.
use Rattle.std.proofs.Common.{◌≡◌, ℕ, ◌<◌, ◌≤◌, List, length, Option, Some, None, Err, sym, ◌∙◌, ap}
use Rattle.std.specs.Prelude.{nat_lt}
use Rattle.std.proofs.lemmas.Bool.{cond-false, cond-true, le-ltb, lt-ltb}
use Rattle.cms_journal.specs.Journal.{Journal}
use Rattle.cms_names.specs.declared.name.Name.{Name}
use Rattle.cms_model.specs.Changes.{Changed, Full, Limited, Put, answer_of, changed}
use Rattle.cms_model.specs.Minidisks.{Minidisk}
use Rattle.cms_model.specs.Records.{stored}
use Rattle.cms_map.specs.Bits.{free_blocks}
use Rattle.cms_held.specs.Kept.{Keeps}
use Rattle.cms_held.specs.Puts.{answer_put, count_put, limit_put, need_put}
use Rattle.cms_held.proofs.PutAsides.{put_is_answered}
use Rattle.cms_held.specs.declared.shape.DraftShape.{DraftShape}
use Rattle.cms_edf.specs.FileDrafts.{IsRefused}
use Rattle.cms_edf.specs.declared.allotment.PlanFault.{PlanFault}
use Rattle.cms_edf.specs.declared.allotment.PlanFault.TheVariants as unplanned
use Rattle.cms_disk.specs.Changes.{refusal_of}
use Rattle.cms_disk.specs.Disks.{Accessed, IsMinidisk, IsReadable}
use Rattle.cms_disk.specs.Drafts.{HaveCounts, IsAnsweredBy, IsDraftFault, file_with}
use Rattle.cms_disk.proofs.Courses.{held_minidisk}

abbrev limit_in : Accessed → Name → DraftShape → Option ℕ
limit_in d name shape = limit_put (count_put d.volume name) shape.count shape.bytes

abbrev need_in : Accessed → Name → DraftShape → ℕ
need_in d name shape = need_put d.volume name shape.format shape.bytes

answer_is : (j : Journal) (d : Accessed) (m : Minidisk) (name : Name) (shape : DraftShape) (records : List (List ℕ)) → IsMinidisk j d m → IsReadable j d → Keeps d.volume → HaveCounts shape records
    → answer_of m (Put (file_with name shape records))
    ≡ answer_put (limit_in d name shape) (need_in d name shape) (length (free_blocks d.volume.bits)) (changed m (Put (file_with name shape records)))
answer_is j d m name shape records is has kept counts =
    let v = d.volume in
    let after = changed m (Put (file_with name shape records)) in
    let free = length (free_blocks v.bits) in
    put_is_answered j v m (file_with name shape records) (held_minidisk j d m is has) kept
    ∙ ap (λ (n : ℕ). answer_put (limit_put (count_put v name) n (length (stored shape.format records))) (need_put v name shape.format (length (stored shape.format records))) free after) counts.count
    ∙ ap (λ (n : ℕ). answer_put (limit_put (count_put v name) shape.count n) (need_put v name shape.format n) free after) counts.bytes

draft_limited : (j : Journal) (d : Accessed) (m : Minidisk) (name : Name) (shape : DraftShape) (records : List (List ℕ)) (k : ℕ) → IsMinidisk j d m → IsReadable j d → Keeps d.volume
    → HaveCounts shape records → limit_in d name shape ≡ Some k → answer_of m (Put (file_with name shape records)) ≡ Limited k
draft_limited j d m name shape records k is has kept counts limit =
    answer_is j d m name shape records is has kept counts
    ∙ ap (λ (o : Option ℕ). answer_put o (need_in d name shape) (length (free_blocks d.volume.bits)) (changed m (Put (file_with name shape records)))) limit

draft_full : (j : Journal) (d : Accessed) (m : Minidisk) (name : Name) (shape : DraftShape) (records : List (List ℕ)) (needs free : ℕ) → IsMinidisk j d m → IsReadable j d → Keeps d.volume
    → HaveCounts shape records → limit_in d name shape ≡ None → needs ≡ need_in d name shape → free ≡ length (free_blocks d.volume.bits) → free < needs
    → answer_of m (Put (file_with name shape records)) ≡ Full needs free
draft_full j d m name shape records needs free is has kept counts limit need_is free_is short =
    let after = changed m (Put (file_with name shape records)) in
    answer_is j d m name shape records is has kept counts
    ∙ ap (λ (o : Option ℕ). answer_put o (need_in d name shape) (length (free_blocks d.volume.bits)) after) limit
    ∙ ap (λ (n : ℕ). answer_put None n (length (free_blocks d.volume.bits)) after) (sym need_is)
    ∙ ap (λ (n : ℕ). answer_put None needs n after) (sym free_is)
    ∙ cond-true (nat_lt free needs) (Full needs free) (Changed after) (lt-ltb free needs short)

pub draft_made : (j : Journal) (d : Accessed) (m : Minidisk) (name : Name) (shape : DraftShape) (records : List (List ℕ)) → IsMinidisk j d m → IsReadable j d → Keeps d.volume
    → HaveCounts shape records
    → limit_in d name shape ≡ None → need_in d name shape ≤ length (free_blocks d.volume.bits)
    → answer_of m (Put (file_with name shape records)) ≡ Changed (changed m (Put (file_with name shape records)))
draft_made j d m name shape records is has kept counts limit room =
    let after = changed m (Put (file_with name shape records)) in
    answer_is j d m name shape records is has kept counts
    ∙ ap (λ (o : Option ℕ). answer_put o (need_in d name shape) (length (free_blocks d.volume.bits)) after) limit
    ∙ cond-false (nat_lt (length (free_blocks d.volume.bits)) (need_in d name shape)) (Full (need_in d name shape) (length (free_blocks d.volume.bits))) (Changed after)
    (le-ltb (length (free_blocks d.volume.bits)) (need_in d name shape) room)

-- what a draft that isn't planned is answered
pub draft_refused : (T : Type 0) (j : Journal) (d : Accessed) (m : Minidisk) (name : Name) (shape : DraftShape) (records : List (List ℕ)) (why : PlanFault) → IsMinidisk j d m → IsReadable j d
    → Keeps d.volume → HaveCounts shape records → IsRefused d.volume name shape why
    → IsAnsweredBy {T = T} (answer_of m (Put (file_with name shape records))) (changed m (Put (file_with name shape records))) (Err (refusal_of why))
draft_refused T j d m name shape records (unplanned.Limit which) is has kept counts refused = draft_limited j d m name shape records which is has kept counts refused
draft_refused T j d m name shape records (unplanned.Full needs free) is has kept counts refused =
    draft_full j d m name shape records needs free is has kept counts refused.0 refused.1 refused.2 refused.3
draft_refused T j d m name shape records unplanned.Memory is has kept counts refused = tt

pub draft_fault : (d : Accessed) (name : Name) (shape : DraftShape) (why : PlanFault) → IsRefused d.volume name shape why → IsDraftFault d name shape (refusal_of why)
draft_fault d name shape (unplanned.Limit which) refused = refused
draft_fault d name shape (unplanned.Full needs free) refused = refused
draft_fault d name shape unplanned.Memory refused = tt
