-- What a draft of added records is answered is what the change is that adds them.
use Rattle.std.proofs.Common.{◌≡◌, ℕ, ◌+◌, ◌/◌, ◌<◌, ◌≤◌, List, ◌++◌, length, Option, Some, None, Ok, Err, sym, ◌∙◌, ap, subst, arith, length-append}
use Rattle.std.specs.Prelude.{IsSome, nat_lt}
use Rattle.std.proofs.lemmas.Option.{same_Some}
use Rattle.std.proofs.lemmas.Bool.{cond-false, cond-true, le-ltb, lt-ltb}
use Rattle.cms_journal.specs.Journal.{Journal}
use Rattle.cms_names.specs.declared.name.Format.{Format}
use Rattle.cms_names.specs.declared.name.Name.{Name}
use Rattle.cms_fields.specs.Entries.{fan_of}
use Rattle.cms_fields.specs.Numbers.{up}
use Rattle.cms_fields.specs.declared.time.Stamp.{Stamp}
use Rattle.cms_model.specs.Changes.{Add, Changed, Full, Limited, answer_of, changed, file_named}
use Rattle.cms_model.specs.Growth.{growth_taken}
use Rattle.cms_model.specs.LawsUpdates.{now}
use Rattle.cms_model.specs.Minidisks.{File, Minidisk}
use Rattle.cms_model.specs.Records.{stored}
use Rattle.cms_model.specs.SharedTrees.{fresh_count}
use Rattle.cms_model.proofs.Records.{stored_append}
use Rattle.cms_map.specs.Bits.{free_blocks}
use Rattle.cms_held.specs.Additions.{need_add}
use Rattle.cms_held.specs.Growths.{places_behind}
use Rattle.cms_held.specs.HeldVolumes.{HeldFile, HeldVolume}
use Rattle.cms_held.specs.Kept.{Keeps}
use Rattle.cms_held.specs.Puts.{answer_put, limit_put}
use Rattle.cms_held.specs.Renewals.{made_at, needed}
use Rattle.cms_held.proofs.AddAnswered.{add_is_answered}
use Rattle.cms_held.proofs.AddCarried.{leaves_are}
use Rattle.cms_held.specs.declared.shape.DraftShape.{DraftShape}
use Rattle.cms_edf.specs.FileDrafts.{Draft}
use Rattle.cms_edf.specs.FilesTold.{info_of}
use Rattle.cms_edf.specs.Growths.{IsFileOf, IsMoreFor, IsMoreRefused, need_more}
use Rattle.cms_edf.specs.declared.growth.MoreFault.{MoreFault}
use Rattle.cms_edf.specs.declared.growth.MoreFault.TheVariants as unmade
use Rattle.cms_edf.proofs.Planned.{named_at as named_in}
use Rattle.cms_disk.specs.Additions.{AnswersMore, HasRoomFor, IsMoreFault, MayExtend}
use Rattle.cms_disk.specs.Changes.{more_refusal_of}
use Rattle.cms_disk.specs.Disks.{Accessed, IsMinidisk, IsReadable, place_of}
use Rattle.cms_disk.specs.Drafts.{HaveCounts, IsAnsweredBy}
use Rattle.cms_disk.specs.declared.fault.DiskFault.{DiskFault}
use Rattle.cms_disk.proofs.Courses.{held_minidisk}
use Rattle.cms_disk.proofs.FilesFound.{kept_at, none_found}
use Rattle.cms_disk.proofs.MoreDrafts.{file_there, found_in, told_of}

-- why it is refused
pub more_fault : (d : Accessed) (name : Name) (shape : DraftShape) (why : MoreFault) → ((f : HeldFile) → (at : IsFileOf d.volume name f) → IsMoreRefused d.volume at.place f shape why)
    → IsMoreFault d name shape (more_refusal_of why)
more_fault d name shape (unmade.Limit which) refused = refused
more_fault d name shape (unmade.Full needs free) refused = refused
more_fault d name shape unmade.Device refused = refused
more_fault d name shape unmade.Memory refused = tt

-- what it needs
need_is : (v : HeldVolume) (place : ℕ) (h : HeldFile) (shape : DraftShape) (bytes : ℕ) → shape.format ≡ h.entry.format → h.size + bytes ≡ shape.bytes → length h.tree.leaves ≡ up h.size v.disk.bsize
    → need_add v place h bytes ≡ need_more v place h shape
unfolding growth_taken
need_is v place h shape bytes format size leaves =
    let b = v.disk.bsize in
    let rest = needed v (length v.files) (made_at place) in
    let taken : Format → ℕ → ℕ → ℕ = λ k before after. fresh_count (fan_of b k) before (up after b) (places_behind (h.size / b) (up after b)) + rest in
    ap (λ (k : Format). taken k (up h.size b) (h.size + bytes)) (sym format)
    ∙ (ap (taken shape.format (up h.size b)) size ∙ ap (λ (n : ℕ). taken shape.format n shape.bytes) (sym leaves))

-- the file of the name, to which records are added
pub record IsAdded (j : Journal) (d : Accessed) (m : Minidisk) (name : Name) (shape : DraftShape) (file : File) (records : List (List ℕ)) (h : HeldFile) (at : IsFileOf d.volume name h) : Type 0 where
  pub minidisk : IsMinidisk j d m
  pub readable : IsReadable j d
  pub named : file_named name m.files ≡ Some file
  pub counts : HaveCounts shape (file.records ++ records)
  pub name_is : h.entry.name ≡ name
  pub format_is : shape.format ≡ h.entry.format
  pub leaves_are : length h.tree.leaves ≡ up h.size d.volume.disk.bsize

module _ (j : Journal) (d : Accessed) (m : Minidisk) (name : Name) (shape : DraftShape) (file : File) (records : List (List ℕ)) (h : HeldFile) (at : IsFileOf d.volume name h)
    (x : IsAdded j d m name shape file records h at) where
  abbrev v : HeldVolume
  v = d.volume

  abbrev after : Minidisk
  after = changed m (Add name records shape.stamp)

  abbrev free_in : ℕ
  free_in = length (free_blocks v.bits)

  answer_is : answer_of m (Add name records shape.stamp) ≡ answer_put (limit_put (length v.files) shape.count shape.bytes) (need_more v at.place h shape) free_in after
  answer_is =
      let bytes = length (stored h.entry.format records) in
      let found = found_in j d m name file at.place h x.minidisk x.named at.there at.is in
      let facts = found.is in
      let all = length-append file.records records in
      let own = facts.count_is in
      let count_is = x.counts.count in
      let count : h.entry.count + length records ≡ shape.count = omega (arith, all, own, count_is) in
      let parts = ap length (stored_append shape.format file.records records) ∙ length-append (stored shape.format file.records) (stored shape.format records) in
      let front : length (stored shape.format file.records) ≡ h.size = ap (λ (k : Format). length (stored k file.records)) (x.format_is ∙ facts.format_is) ∙ sym found.stored_is.size_is in
      let added : length (stored shape.format records) ≡ bytes = ap (λ (k : Format). length (stored k records)) x.format_is in
      let bytes_are = x.counts.bytes in
      let size : h.size + bytes ≡ shape.bytes = omega (arith, parts, front, added, bytes_are) in
      let named = ap (λ (n : Name). answer_of m (Add n records shape.stamp)) (sym x.name_is) in
      let law = add_is_answered j v m at.place h records shape.stamp (held_minidisk j d m x.minidisk x.readable) at.is in
      named ∙ (law
      ∙ (ap (λ (n : Name). answer_put (limit_put (length v.files) (h.entry.count + length records) (h.size + bytes)) (need_add v at.place h bytes) free_in (changed m (Add n records shape.stamp))) x.name_is
      ∙ (ap (λ (n : ℕ). answer_put (limit_put (length v.files) n (h.size + bytes)) (need_add v at.place h bytes) free_in after) count
      ∙ (ap (λ (n : ℕ). answer_put (limit_put (length v.files) shape.count n) (need_add v at.place h bytes) free_in after) size
      ∙ ap (λ (n : ℕ). answer_put (limit_put (length v.files) shape.count shape.bytes) n free_in after) (need_is v at.place h shape bytes x.format_is size x.leaves_are)))))

  -- it passes no limit, and there is room
  pub more_made : limit_put (length v.files) shape.count shape.bytes ≡ None → need_more v at.place h shape ≤ free_in → answer_of m (Add name records shape.stamp) ≡ Changed after
  more_made limit room =
      answer_is
      ∙ (ap (λ (o : Option ℕ). answer_put o (need_more v at.place h shape) free_in after) limit
      ∙ cond-false (nat_lt free_in (need_more v at.place h shape)) (Full (need_more v at.place h shape) free_in) (Changed after) (le-ltb free_in (need_more v at.place h shape) room))

  more_limited : (k : ℕ) → limit_put (length v.files) shape.count shape.bytes ≡ Some k → answer_of m (Add name records shape.stamp) ≡ Limited k
  more_limited k limit = answer_is ∙ ap (λ (o : Option ℕ). answer_put o (need_more v at.place h shape) free_in after) limit

  more_full : (needs free : ℕ) → limit_put (length v.files) shape.count shape.bytes ≡ None → needs ≡ need_more v at.place h shape → free ≡ free_in → free < needs
      → answer_of m (Add name records shape.stamp) ≡ Full needs free
  more_full needs free limit need_is' free_is short =
      answer_is
      ∙ (ap (λ (o : Option ℕ). answer_put o (need_more v at.place h shape) free_in after) limit
      ∙ (ap (λ (n : ℕ). answer_put None n free_in after) (sym need_is')
      ∙ (ap (λ (n : ℕ). answer_put None needs n after) (sym free_is)
      ∙ cond-true (nat_lt free needs) (Full needs free) (Changed after) (lt-ltb free needs short))))

  -- what an addition that isn't planned is answered
  pub more_answered : (T : Type 0) (why : MoreFault) → IsMoreRefused v at.place h shape why
      → IsAnsweredBy {T = T} (answer_of m (Add name records shape.stamp)) after (Err (more_refusal_of why))
  more_answered T (unmade.Limit which) refused = more_limited which refused
  more_answered T (unmade.Full needs free) refused = more_full needs free refused.0 refused.1 refused.2 refused.3
  more_answered T unmade.Device refused = more_made refused.0 refused.1
  more_answered T unmade.Memory refused = tt

-- ---- of the file of a name

pub added_to : (j : Journal) (d : Accessed) (m : Minidisk) (name : Name) (shape : DraftShape) (file : File) (records : List (List ℕ)) (h : HeldFile) (at : IsFileOf d.volume name h) → Keeps d.volume
    → IsMinidisk j d m → IsReadable j d → file_named name m.files ≡ Some file → HaveCounts shape (file.records ++ records) → shape.format ≡ h.entry.format
    → IsAdded j d m name shape file records h at
added_to j d m name shape file records h at keeps x has named counts format =
    let n = named_in d.volume.files name at.place at.there in
    record {
      minidisk = x;
      readable = has;
      named = named;
      counts = counts;
      name_is = ap (λ (g : HeldFile). g.entry.name) (same_Some h n.file (sym at.is ∙ n.there)) ∙ n.named;
      format_is = format;
      leaves_are = leaves_are d.volume.disk.bsize d.volume.label.blocks h keeps.sized (kept_at d.volume at.place h keeps at.is);
    }

-- a draft of it that is planned
pub planned_so : {T : Type 0} (made : T) (d : Accessed) (name : Name) (shape : DraftShape) (stamp : Stamp) (draft : Draft) → Keeps d.volume → IsSome (place_of name d.volume)
    → ((f : HeldFile) → IsFileOf d.volume name f → IsMoreFor d.volume name f shape stamp draft) → AnswersMore d name shape (Ok made)
planned_so made d name shape stamp draft keeps some planned j m file more x has named counts =
    let there = file_there d.volume name some in
    let p = (planned there.0 there.1).file 0 in
    let at : IsFileOf d.volume name there.0 = record { place = p.place; there = p.there; is = p.is } in
    more_made j d m name shape file more there.0 at (added_to j d m name shape file more there.0 at keeps x has named counts p.grows.format_is) p.unlimited p.room

-- it passes no limit, and has room
pub room_for : (v : HeldVolume) (name : Name) (shape : DraftShape) (stamp : Stamp) (draft : Draft) → ((f : HeldFile) → IsFileOf v name f → IsMoreFor v name f shape stamp draft)
    → HasRoomFor v name shape
room_for v name shape stamp draft planned f at =
    let p = (planned f at).file 0 in
    let same : p.place ≡ at.place = same_Some p.place at.place (sym p.there ∙ at.there) in
    (p.unlimited, subst (λ (k : ℕ). need_more v k f shape ≤ length (free_blocks v.bits)) same p.room)

-- one that isn't planned
pub refused_so : (T : Type 0) (d : Accessed) (name : Name) (shape : DraftShape) (why : MoreFault) → Keeps d.volume → MayExtend d.volume name shape → IsSome (place_of name d.volume)
    → ((f : HeldFile) → (at : IsFileOf d.volume name f) → IsMoreRefused d.volume at.place f shape why) → AnswersMore {T = T} d name shape (Err (more_refusal_of why))
refused_so T d name shape why keeps may some refused j m file more x has named counts =
    let there = file_there d.volume name some in
    let h = there.0 in
    let at = there.1 in
    let can = may (info_of h) h.size (told_of d.volume name h at) in
    more_answered j d m name shape file more h at (added_to j d m name shape file more h at keeps x has named counts can.format_is) T why (refused h at)

-- and where none has the name
pub none_so : (T : Type 0) (d : Accessed) (name : Name) (shape : DraftShape) (why : DiskFault) → place_of name d.volume ≡ None → AnswersMore {T = T} d name shape (Err why)
none_so T d name shape why none j m file more x has named counts = absurd (nothing (sym (none_found d name none (now j d.volume.unit) m x.stands) ∙ named))
  where
    nothing : None ≡ Some file → ⊥
    nothing e = cc
