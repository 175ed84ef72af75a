-- A file whose records were put becomes the volume's.
use Rattle.std.proofs.Common.{◌≡◌, ◌⊎◌, inl, inr, ⊎_elim, ℕ, ◌+◌, ◌*◌, ◌≤◌, List, [], ◌∷◌, ◌++◌, length, position, All, Some, Result, Ok, Err, OnOk, OnErr, refl, sym, ◌∙◌, ap, subst, arith, append_assoc, append-nil, zero-add, ◌/◌, ◌%◌, ◌<◌, div-add-mod', mod-lt}
use Rattle.std.specs.Prelude.{⊤}
use Rattle.std.proofs.lemmas.List.Elements.{All-nil, All-cons, All-head, All-tail}
use Rattle.cms_journal.specs.Causes.{HasCause, Rose}
use Rattle.cms_journal.specs.declared.event.Event.{Event}
use Rattle.cms_journal.specs.declared.event.Attached.{Attached}
use Rattle.cms_journal.specs.declared.event.Failed.{Failed}
use Rattle.cms_journal.specs.Journal.{HasBlock, HasBlocks, IsBlockSize, IsWritable, Journal}
use Rattle.cms_journal.specs.Told.{Grown, Told, plus}
use Rattle.cms_journal.proofs.Pieces.{plus_plus}
use Rattle.cms_journal.proofs.Sizes.{block_bounds}
use Rattle.cms_names.specs.declared.name.Name.{Name}
use Rattle.cms_names.specs.declared.name.Format.{Format}
use Rattle.cms_names.specs.declared.name.Format.TheVariants.{F, V}
use Rattle.cms_fields.specs.Entries.{pointer_size}
use Rattle.cms_fields.specs.Limits.{most_bytes}
use Rattle.cms_fields.specs.Numbers.{up}
use Rattle.cms_fields.specs.declared.entry.Entry.{Entry}
use Rattle.cms_fields.specs.declared.label.Label.{Label}
use Rattle.cms_fields.specs.declared.time.Stamp.{Stamp}
use Rattle.cms_model.specs.Minidisks.{Minidisk, State, Volume, same_name}
use Rattle.cms_model.specs.Changes.{Change, Put, changed, need}
use Rattle.cms_model.specs.Records.{Fits, length_of, stored}
use Rattle.cms_model.specs.Settled.{Write, update, writes}
use Rattle.cms_model.specs.Stands.{opened}
use Rattle.cms_model.specs.LawsUpdates.{AddsFront, HasEither, IsFront, after, now, to_label, with_label}
use Rattle.cms_model.proofs.Fronts.{Cut, after_append, cons_front, cut_front, none_front}
use Rattle.cms_model.proofs.Quotients.{up_below, up_some, up_spec}
use Rattle.cms_model.proofs.Renewed.{minidisk_is}
use Rattle.cms_model.proofs.SettledUnits.{settled_is_firm}
use Rattle.cms_tree.specs.declared.types.Mark.{Mark}
use Rattle.cms_tree.specs.Builds.{IsBuildable}
use Rattle.cms_tree.specs.Climbs.{AreOwn, HasEach}
use Rattle.cms_held.specs.Kept.{IsKeptFile, Keeps}
use Rattle.cms_held.specs.Marks.{mark_of, start_of, starts_from}
use Rattle.cms_held.specs.HeldVolumes.{HeldFile, HeldTree, HeldVolume, names_in}
use Rattle.cms_held.specs.Systems.{system_writes}
use Rattle.cms_held.specs.Drafts.{Front, HasAll, HasDraft, draft_writes, no_front, stored_on}
use Rattle.cms_held.specs.Renewals.{Edit, entries_held, renewed}
use Rattle.cms_held.specs.Written.{ReadsBack}
use Rattle.cms_held.specs.LawsRenewals.{writes_of}
use Rattle.cms_held.specs.MinidiskUpdates.{Carries, IsHeldMinidisk, written_count}
use Rattle.cms_held.specs.Puts.{GoesOn, IsPutAs, IsPutReady}
use Rattle.cms_held.proofs.DraftBlocks.{draft_has_all}
use Rattle.cms_held.proofs.DraftOwn.{part_own}
use Rattle.cms_held.proofs.Fronts.{failed_before}
use Rattle.cms_held.proofs.PutAsides.{free_is_aside}
use Rattle.cms_held.proofs.PutCarried.{put_is_carried}
use Rattle.cms_held.proofs.PutSmall.{put_is_small}
use Rattle.cms_held.specs.BlockWriters.{CanWrite, Streams, its_blocks, came}
use Rattle.cms_held.specs.FileWriters.{Drafts, IsDrafting, marks_in, IsMarkedSo, start_in, start_on}
use Rattle.cms_held.specs.declared.block_writer.BlockWriter.{BlockWriter}
use Rattle.cms_held.specs.declared.shape.DraftShape.{DraftShape}
use Rattle.cms_edf.specs.Doubts.{IsCutOff, Updates, UpdatesSystems}
use Rattle.cms_edf.specs.EntryShapes.{EndsIn}
use Rattle.cms_edf.specs.FileDrafts.{CommitEvents, Commits, DraftStands, Draft, IsCommitted, IsCommittedAt, IsDraftFor, IsLeft, IsSomeDraft, MakesChange, commit_writes, file_for, list_with, put_in, put_writes, tree_of}
use Rattle.cms_edf.specs.declared.doubt.Doubt.{Doubt}
use Rattle.cms_edf.specs.declared.doubt.Doubt.TheVariants.{Old, Either}
use Rattle.cms_edf.proofs.CutOff.{to_label_behind, update_behind, updates_behind}
use Rattle.cms_edf.proofs.DraftPlanned.{all_with, limits, place_within, some_stored, whole_blocks, with_back}
use Rattle.cms_edf.proofs.DraftPut.{goes_on, new_is_some, plan_of}
use Rattle.cms_edf.proofs.EntryTests.{ends_last}
use Rattle.cms_edf.proofs.Finished.{to_front, told_so, with_front, writes_to}
use Rattle.cms_edf.proofs.Listings.{fewer_on, on_unit}
use Rattle.cms_edf.proofs.RecordStarts.{same_quotient}
use Rattle.cms_edf.proofs.Planned.{all_in, left_of, ready_keeps, right_of}

-- ---- the volume after it is kept

kept_file : (v : HeldVolume) (d : Draft) (some : IsSomeDraft v d) → IsBlockSize v.disk.bsize
    → IsKeptFile v.disk.bsize v.label.blocks (file_for v.disk.bsize some.name some.shape (tree_of d) (start_in d.writer))
kept_file v d some size =
    let shape = some.shape in
    let file = file_for v.disk.bsize some.name shape (tree_of d) 0 in
    let back = with_back v.files (position (same_name some.name) (names_in v.files)) file (place_within some.name v.files _ refl)
    (subst (λ (fs : List HeldFile). All ReadsBack (entries_held fs)) (some.files_are 0) (some.ready 0).back) in
    let l = limits some.count shape.count shape.bytes some.unlimited in
    let whole = whole_blocks v.disk.bsize shape.bytes size l.2 in
    let low = (block_bounds v.disk.bsize size).0 in
    let bytes = some_stored shape some.asked in
    let few = l.2 in
    let leaves = some.leaves_are in
    let one = up_some shape.bytes v.disk.bsize (omega arith) bytes in
    let below = up_below shape.bytes v.disk.bsize (omega arith) in
    let spec = up_spec shape.bytes v.disk.bsize (omega arith) in
    let ends = subst (λ (n : ℕ). EndsIn v.disk.bsize n shape.bytes) (sym leaves) (ends_last (up shape.bytes v.disk.bsize) v.disk.bsize shape.bytes one spec.0 spec.1) in
    record {
      entry = some.passes_all;
      spells = back;
      count = refl;
      within =
          all_in (λ n. (6 ≤ n) × (n ≤ v.label.blocks)) (tree_of d).leaves (left_of (λ n. (6 ≤ n) × (n ≤ v.label.blocks)) (tree_of d).leaves (tree_of d).pointers some.within);
      nodes_within =
          all_in (λ n. (6 ≤ n) × (n ≤ v.label.blocks)) (tree_of d).pointers (right_of (λ n. (6 ≤ n) × (n ≤ v.label.blocks)) (tree_of d).leaves (tree_of d).pointers some.within);
      room = subst (λ (n : ℕ). n * v.disk.bsize ≤ most_bytes) (sym leaves) whole;
      some = some.asked.low;
      short = some.asked.high;
      told = refl;
      size = l.2;
      sized = some.asked.sized;
      shape = record { some = omega arith; few = omega arith; nodes = some.pointers_are };
      low = ends.0;
      high = ends.1;
    }

pub commit_keeps : (v : HeldVolume) (d : Draft) (some : IsSomeDraft v d) (edit : Edit) → IsBlockSize v.disk.bsize
    → edit.files ≡ list_with v.files (position (same_name some.name) (names_in v.files)) (file_for v.disk.bsize some.name some.shape (tree_of d) (start_in d.writer)) → Keeps (renewed v edit d.systems)
commit_keeps v d some edit size files =
    let start = start_in d.writer in
    let ready = some.ready start in
    let count = ap (λ (l : List HeldFile). length l) (files ∙ sym (some.files_are start)) in
    ready_keeps v edit (some.edit start) some.stamp d.systems ready some.label_long (some.few start) count
    (subst (All (IsKeptFile v.disk.bsize v.label.blocks)) (sym files)
    (all_with (IsKeptFile v.disk.bsize v.label.blocks) v.files (position (same_name some.name) (names_in v.files)) (file_for v.disk.bsize some.name some.shape (tree_of d) start) ready.kept.each
    (kept_file v d some size)))

-- ---- the unit has its blocks

each_there : (units : List Attached) (u total count size : ℕ) (ns : List ℕ) → total ≤ count → HasBlocks units u count size → All (λ n. (6 ≤ n) × (n ≤ total)) ns → HasEach units u size ns
each_there units u total count size [] top has all = All-nil (λ n. HasBlock units u n size)
each_there units u total count size (n ∷ ns) top has all =
    let here = All-head (λ n. (6 ≤ n) × (n ≤ total)) n ns all in
    let low = here.0 in
    let high = here.1 in
    All-cons (λ n. HasBlock units u n size) n ns (on_unit units u count size n (omega arith) (omega arith) has)
    (each_there units u total count size ns top has (All-tail (λ n. (6 ≤ n) × (n ≤ total)) n ns all))

pub can_write : (units : List Attached) (v : HeldVolume) (d : Draft) → IsSomeDraft v d → HasBlocks units v.unit v.disk.count v.disk.bsize → IsWritable units v.unit → CanWrite units d.writer.writer
can_write units v d some has may =
    let P = λ (n : ℕ). (6 ≤ n) × (n ≤ v.label.blocks) in
    let top = (some.ready (start_in d.writer)).kept.within in
    let leaves = each_there units v.unit v.label.blocks v.disk.count v.disk.bsize (tree_of d).leaves top has (left_of P (tree_of d).leaves (tree_of d).pointers some.within) in
    let nodes = each_there units v.unit v.label.blocks v.disk.count v.disk.bsize (tree_of d).pointers top has (right_of P (tree_of d).leaves (tree_of d).pointers some.within) in
    record {
      leaves = rw (some.unit_is, some.bsize_is) leaves;
      nodes = rw (some.unit_is, some.bsize_is) nodes;
      writable = subst (λ (u : ℕ). IsWritable units u) (sym some.unit_is) may;
    }

pub system_there : (units : List Attached) (v : HeldVolume) (d : Draft) → IsSomeDraft v d → HasBlocks units v.unit v.disk.count v.disk.bsize
    → HasBlocks units v.unit d.systems.label.blocks (length d.systems.label_bytes)
system_there units v d some has =
    let ready = some.ready (start_in d.writer) in
    let blocks : d.systems.label.blocks ≡ v.label.blocks = ap (λ (l : Label). l.blocks) ready.planned.label in
    let top = ready.kept.within in
    subst (λ (n : ℕ). HasBlocks units v.unit d.systems.label.blocks n) (sym some.label_long) (fewer_on units v.unit d.systems.label.blocks v.disk.count v.disk.bsize (omega arith) has)

-- ---- the events

-- all that is left of the file was written, and then the update
pub events_behind : (old mid new : Told) (v : HeldVolume) (d : Draft) (rest : List Write) (r : Result ⊤ Doubt) → IsSomeDraft v d → mid ≡ plus old (writes d.writer.writer.unit rest)
    → UpdatesSystems mid new v.unit d.systems r → CommitEvents old new v d rest r
events_behind old mid new v d rest r some before ups =
    let size : system_writes (length d.systems.label_bytes) d.systems ≡ writes_of v d.systems = ap (λ (n : ℕ). system_writes n d.systems) some.label_long in
    updates_behind old mid new v.unit rest (writes_of v d.systems) d.systems.label_bytes r (before ∙ ap (λ (u : ℕ). plus old (writes u rest)) some.unit_is)
    (subst (λ (ws : List Write). Updates mid new v.unit ws d.systems.label_bytes r) size ups)

-- a part of what is left failed
pub events_failed : (old new : Told) (v : HeldVolume) (d : Draft) (rest : List Write) → IsSomeDraft v d → AddsFront old new (writes d.writer.writer.unit rest)
    → CommitEvents old new v d rest (Err Old)
events_failed old new v d rest some f = failed_before old new v.unit rest (writes_of v d.systems) (subst (λ (u : ℕ). AddsFront old new (writes u rest)) some.unit_is f)

-- ---- what it comes to

record Behind (a b p : List Event) : Type 0 where
  more : List Event
  is : p ≡ a ++ more
  front : IsFront more b

front_split : (p a b : List Event) → IsFront p (a ++ b) → IsFront p a ⊎ Behind a b p
front_split p [] b f = inr (record { more = p; is = refl; front = f })
front_split p (e ∷ a) b f = ⊎_elim
    (λ (none : p ≡ []). inl (subst (λ (l : List Event). IsFront l (e ∷ a)) (sym none) (none_front (e ∷ a))))
    (λ (c : Cut p e (a ++ b)). ⊎_elim
    (λ (in' : IsFront c.piece a). inl (subst (λ (l : List Event). IsFront l (e ∷ a)) (sym c.is) (cons_front c.piece e a in')))
    (λ (past : Behind a b c.piece). inr (record { more = past.more; is = c.is ∙ ap (λ (l : List Event). e ∷ l) past.is; front = past.front }))
    (front_split c.piece a b c.front))
    (cut_front p e (a ++ b) f)

held_either : (k : Journal) (v : HeldVolume) (m : Minidisk) (other : State) → IsHeldMinidisk k v m → HasEither v.disk k v.unit (Volume m) other
held_either k v m other held image may =
    let firm = (settled_is_firm v.disk k v.unit (opened held.layout) held.at.settled).1 in
    inl (firm image may ∙ ap Volume (minidisk_is v.disk held.layout ∙ sym held.minidisk_is))

-- the change is made, and the new minidisk is held then
pub record Whole (j : Journal) (v : HeldVolume) (m : Minidisk) (d : Draft) (edit : Edit) (done rest : List Write) (change : Change) : Type 0 where
  pub makes : MakesChange j v d done rest m change
  pub held : IsHeldMinidisk (after j (update v.unit (commit_writes v d rest) d.systems.label_bytes)) (renewed v edit d.systems) (changed m change)

-- an update that is carried out behind the blocks of the file that were left, with what it writes in all
pub record CarriesBehind (j : Journal) (v : HeldVolume) (m : Minidisk) (d : Draft) (edit : Edit) (done rest : List Write) (change : Change) : Type 0 where
  pub carries : Carries (after j (writes v.unit rest)) v edit d.systems m change
  pub small : written_count (update v.unit (done ++ commit_writes v d rest) d.systems.label_bytes) ≤ need m change + 2

-- all of its bytes and marks are those of the records
pub all_streams : (d : Draft) (front : Front) (records : List (List ℕ)) → Drafts d.writer front records []
    → Streams d.writer.writer front.nodes (stored_on d.writer.shape.format front records) (marks_in d.writer front records)
all_streams d front records h =
    subst (λ (l : List (List ℕ)). Streams d.writer.writer front.nodes (stored_on d.writer.shape.format front l) (marks_in d.writer front l)) (append-nil records) h.streams

-- what is left of a draft is written to its own blocks
pub left_own : (d : Draft) (front : Front) (records : List (List ℕ)) (rest : List Write) → IsDrafting d.writer → Drafts d.writer front records [] → IsLeft d front records rest
    → AreOwn d.writer.writer.bsize (its_blocks d.writer.writer) rest
left_own d front records rest kept h left =
    let w = d.writer.writer in
    let bytes = stored_on d.writer.shape.format front records in
    let marks = marks_in d.writer front records in
    let streams = all_streams d front records h in
    let plan = plan_of w front.nodes bytes marks kept.writer streams in
    part_own w.bsize w.psize w.tree.leaves marks w.tree.pointers w.kept front.nodes bytes w.whole (length w.tree.leaves) rest plan streams.keeps (omega arith) left.is

-- the blocks of the file were all written, and the minidisk stands
pub record AllStands (j : Journal) (v : HeldVolume) (m : Minidisk) (d : Draft) (front : Front) (records : List (List ℕ)) (rest : List Write) : Type 0 where
  pub aside : (q : List Event) → IsFront q (writes v.unit rest) → IsHeldMinidisk (after j q) v m
  pub held : IsHeldMinidisk (after j (writes v.unit rest)) v m
  pub has : HasDraft (now (after j (writes v.unit rest)) v.unit) v.disk.bsize d.writer.writer.psize (tree_of d).leaves (marks_in d.writer front records) (tree_of d).pointers d.writer.writer.kept
      front.nodes (stored_on d.writer.shape.format front records) (length (tree_of d).leaves)

pub all_stands : (j : Journal) (v : HeldVolume) (m : Minidisk) (d : Draft) (some : IsSomeDraft v d) (front : Front) (records : List (List ℕ)) (rest : List Write) → IsHeldMinidisk j v m
    → IsDrafting d.writer → Drafts d.writer front records [] → DraftStands j d.writer front records → IsLeft d front records rest → AllStands j v m d front records rest
all_stands j v m d some front records rest held kept h stands left = record {
  aside = aside;
  held = aside (writes v.unit rest) (record { rest = []; is = append-nil (writes v.unit rest) });
  has = subst (λ (b : ℕ). HasDraft (now (after j (writes v.unit rest)) v.unit) b w.psize w.tree.leaves marks w.tree.pointers w.kept front.nodes bytes (length w.tree.leaves)) some.bsize_is
      (subst (λ (u : ℕ). HasDraft (now (after j (writes u rest)) u) w.bsize w.psize w.tree.leaves marks w.tree.pointers w.kept front.nodes bytes (length w.tree.leaves)) some.unit_is g.stands);
}
  where
    w : BlockWriter
    w = d.writer.writer

    bytes : List ℕ
    bytes = stored_on d.writer.shape.format front records

    marks : List Mark
    marks = marks_in d.writer front records

    g : GoesOn j w.unit w.bsize w.psize w.tree.leaves marks w.tree.pointers w.kept front.nodes bytes w.whole (length w.tree.leaves) rest
    g = goes_on j v m d front.nodes bytes marks w.whole (length w.tree.leaves) rest held some (plan_of w front.nodes bytes marks kept.writer (all_streams d front records h)) (omega arith) left.is
        stands

    aside : (q : List Event) → IsFront q (writes v.unit rest) → IsHeldMinidisk (after j q) v m
    aside q front' = free_is_aside j v m (its_blocks w) rest q held some.own
        (subst (λ (n : ℕ). AreOwn n (its_blocks w) rest) some.bsize_is (left_own d front records rest kept h left)) front'

-- behind the blocks that were left the update is the change
pub whole_behind : (j : Journal) (v : HeldVolume) (m : Minidisk) (d : Draft) (edit : Edit) (done rest : List Write) (change : Change)
    → ((q : List Event) → IsFront q (writes v.unit rest) → IsHeldMinidisk (after j q) v m) → CarriesBehind j v m d edit done rest change → Whole j v m d edit done rest change
whole_behind j v m d edit done rest change aside c = record {
  makes = record { answer = c.carries.answer; before = before; either = either; small = c.small };
  held = subst (λ (k : Journal). IsHeldMinidisk k (renewed v edit d.systems) (changed m change)) (sym (joined (update v.unit (writes_of v d.systems) d.systems.label_bytes)
      (update v.unit (commit_writes v d rest) d.systems.label_bytes) (update_behind v.unit rest (writes_of v d.systems) d.systems.label_bytes))) c.carries.done;
}
  where
    joined : (more whole : List Event) → whole ≡ writes v.unit rest ++ more → after j whole ≡ after (after j (writes v.unit rest)) more
    joined more whole is = ap (after j) is ∙ after_append j (writes v.unit rest) more

    before : (q : List Event) → IsFront q (to_label v.unit (commit_writes v d rest)) → IsHeldMinidisk (after j q) v m
    before q front = ⊎_elim (λ (in' : IsFront q (writes v.unit rest)). aside q in')
        (λ (past : Behind (writes v.unit rest) (to_label v.unit (writes_of v d.systems)) q).
        subst (λ (k : Journal). IsHeldMinidisk k v m) (sym (joined past.more q past.is)) (c.carries.before past.more past.front))
        (front_split q (writes v.unit rest) (to_label v.unit (writes_of v d.systems)) (subst (IsFront q) (to_label_behind v.unit rest (writes_of v d.systems)) front))

    either : (q : List Event) → IsFront q (update v.unit (commit_writes v d rest) d.systems.label_bytes) → HasEither v.disk (after j q) v.unit (Volume m) (Volume (changed m change))
    either q front = ⊎_elim (λ (in' : IsFront q (writes v.unit rest)). held_either (after j q) v m (Volume (changed m change)) (aside q in'))
        (λ (past : Behind (writes v.unit rest) (update v.unit (writes_of v d.systems) d.systems.label_bytes) q).
        subst (λ (k : Journal). HasEither v.disk k v.unit (Volume m) (Volume (changed m change))) (sym (joined past.more q past.is)) (c.carries.either past.more past.front))
        (front_split q (writes v.unit rest) (update v.unit (writes_of v d.systems) d.systems.label_bytes)
        (subst (IsFront q) (update_behind v.unit rest (writes_of v d.systems) d.systems.label_bytes) front))

-- ---- a file that is put

-- the start of a file all of whose records were put
start_so : (format : Format) (w : BlockWriter) (records : List (List ℕ)) → IsMarkedSo format w no_front records → came w ≡ length (stored format records) → w.filled < w.bsize
    → start_on format w ≡ start_of w.bsize format records
start_so F w records mark came_is less = refl
start_so V w records mark came_is less =
    let s = length (stored V records) in
    let split : s / w.bsize * w.bsize + s % w.bsize ≡ s = div-add-mod' s w.bsize in
    let small : s % w.bsize < w.bsize = mod-lt s (omega arith) in
    let whole : w.whole ≡ s / w.bsize = same_quotient w.bsize w.whole (s / w.bsize) s w.filled (s % w.bsize) came_is less split small in
    ap (λ (m : Mark). m.place) mark ∙ ap (λ (k : ℕ). (mark_of w.bsize (starts_from 0 records) k).place) whole

-- the file with these records
put_as : (v : HeldVolume) (d : Draft) (name : Name) (shape : DraftShape) (stamp : Stamp) (p : IsDraftFor v name shape stamp d) (records : List (List ℕ)) → IsDrafting d.writer
    → Drafts d.writer no_front records [] → length_of shape.format shape.length records ≡ shape.length → IsPutAs v.disk.bsize (file_for v.disk.bsize name shape (tree_of d) (start_in d.writer)) (put_in d records)
put_as v d name shape stamp p records kept h longest =
    let at = p.file (start_in d.writer) in
    let e = p.entry_is in
    let same : shape ≡ d.writer.shape = sym p.shape_is in
    let l = limits _ shape.count shape.bytes at.unlimited in
    let all : records ++ [] ≡ records = append-nil records in
    let format : d.entry.format ≡ d.writer.shape.format = ap (λ (x : Entry). x.format) e ∙ ap (λ (s : DraftShape). s.format) same in
    let size : d.entry.length ≡ d.writer.shape.length = ap (λ (x : Entry). x.length) e ∙ ap (λ (s : DraftShape). s.length) same in
    let count : shape.count ≡ length records = ap (λ (s : DraftShape). s.count) same ∙ h.count ∙ zero-add (length (records ++ [])) ∙ ap (λ (r : List (List ℕ)). length r) all in
    let bytes : shape.bytes ≡ length (stored d.entry.format records) =
    ap (λ (s : DraftShape). s.bytes) same ∙ sym kept.size ∙ sym h.streams.size ∙ ap (λ (r : List (List ℕ)). length (stored d.writer.shape.format r)) all
    ∙ ap (λ (f : Format). length (stored f records)) (sym format) in
    let many = l.1 in
    let small = l.2 in
    record {
      name_is = ap (λ (x : Entry). x.name) (sym e);
      number_is = ap (λ (x : Entry). x.number) (sym e);
      format_is = ap (λ (x : Entry). x.format) (sym e);
      entry_length = ap (λ (x : Entry). x.length) (sym e);
      stamp_is = ap (λ (x : Entry). x.stamp) (sym e);
      count_is = count;
      root_is = refl;
      blocks_are = refl;
      levels_are = refl;
      length_is = ap (λ (x : Entry). x.length) (sym e);
      size_is = bytes;
      few = omega arith;
      small = omega arith;
      each = rw (format, size) (subst (All (Fits d.writer.shape.format d.writer.shape.length)) all h.each);
      start_is = start_so d.writer.shape.format d.writer.writer records h.mark h.came_is kept.unfilled
          ∙ (ap (λ (b : ℕ). start_of b d.writer.shape.format records) p.bsize_is ∙ ap (λ (f : Format). start_of v.disk.bsize f records) (sym format));
      longest_is = rw (ap (λ (x : Entry). x.format) e, ap (λ (x : Entry). x.length) e) longest;
      leaves_are = at.leaves_are ∙ ap (λ (n : ℕ). up n v.disk.bsize) bytes;
      passes_all = at.passes_all;
    }

pub put_whole : (j : Journal) (v : HeldVolume) (m : Minidisk) (d : Draft) (name : Name) (shape : DraftShape) (stamp : Stamp) (p : IsDraftFor v name shape stamp d) (records : List (List ℕ))
    (rest : List Write) → IsHeldMinidisk j v m → IsDrafting d.writer → Drafts d.writer no_front records [] → length_of shape.format shape.length records ≡ shape.length
    → DraftStands j d.writer no_front records → IsLeft d no_front records rest
    → Whole j v m d (p.file (start_in d.writer)).edit (put_writes d no_front records) rest (Put (put_in d records))
put_whole j v m d name shape stamp p records rest held kept h longest stands left =
    whole_behind j v m d (p.file start).edit (put_writes d no_front records) rest (Put (put_in d records)) all.aside
    (record { carries = put_is_carried j1 v (p.file start).edit stamp d.systems file marks (put_in d records) m all.held ready; small = small })
  where
    start : ℕ
    start = start_in d.writer

    w : BlockWriter
    w = d.writer.writer

    bytes : List ℕ
    bytes = stored d.writer.shape.format records

    marks : List Mark
    marks = marks_in d.writer no_front records

    file : HeldFile
    file = file_for v.disk.bsize name shape (tree_of d) start

    all : AllStands j v m d no_front records rest
    all = all_stands j v m d (new_is_some v name shape stamp d p) no_front records rest held kept h stands left

    j1 : Journal
    j1 = after j (writes v.unit rest)

    plan : IsBuildable w.bsize w.psize w.tree.leaves marks w.tree.pointers
    plan = plan_of w [] bytes marks kept.writer (all_streams d no_front records h)

    plan_on : IsBuildable v.disk.bsize w.psize w.tree.leaves marks w.tree.pointers
    plan_on = subst (λ (b : ℕ). IsBuildable b w.psize w.tree.leaves marks w.tree.pointers) p.bsize_is plan

    has : HasAll (now j1 v.unit) v.disk.bsize w.psize w.tree.leaves marks w.tree.pointers bytes
    has = draft_has_all (now j1 v.unit) v.disk.bsize w.psize w.tree.leaves marks w.tree.pointers bytes plan_on
        (subst (λ (k : ℕ). HasDraft (now j1 v.unit) v.disk.bsize w.psize w.tree.leaves marks w.tree.pointers k [] bytes (length w.tree.leaves)) p.new all.has)

    pointer : w.psize ≡ pointer_size shape.format
    pointer = kept.pointer ∙ ap (λ (s : DraftShape). pointer_size s.format) p.shape_is

    bytes_same : bytes ≡ stored shape.format records
    bytes_same = ap (λ (s : DraftShape). stored s.format records) p.shape_is

    format_is : d.entry.format ≡ shape.format
    format_is = ap (λ (x : Entry). x.format) p.entry_is

    ready : IsPutReady j1 v (p.file start).edit stamp d.systems file marks (put_in d records)
    ready = record {
      put = (p.file start).put;
      few = (p.file start).few;
      ready = (p.file start).ready;
      file = put_as v d name shape stamp p records kept h longest;
      plan = subst (λ (k : ℕ). IsBuildable v.disk.bsize k w.tree.leaves marks w.tree.pointers) pointer plan_on;
      has = subst (λ (b : List ℕ). HasAll (now j1 v.unit) v.disk.bsize (pointer_size shape.format) w.tree.leaves marks w.tree.pointers b) bytes_same
          (subst (λ (k : ℕ). HasAll (now j1 v.unit) v.disk.bsize k w.tree.leaves marks w.tree.pointers bytes) pointer has);
    }

    -- the data blocks and the pointer blocks, those that were written before and those that are left
    draft_is : draft_writes v.disk.bsize (pointer_size shape.format) w.tree.leaves marks w.tree.pointers 0 [] (stored d.entry.format records) (length w.tree.leaves) ≡ put_writes d no_front records ++ rest
    draft_is = ap (λ (b : ℕ). draft_writes b (pointer_size shape.format) w.tree.leaves marks w.tree.pointers 0 [] (stored d.entry.format records) (length w.tree.leaves)) (sym p.bsize_is)
        ∙ ap (λ (k : ℕ). draft_writes w.bsize k w.tree.leaves marks w.tree.pointers 0 [] (stored d.entry.format records) (length w.tree.leaves)) (sym pointer)
        ∙ ap (λ (k : ℕ). draft_writes w.bsize w.psize w.tree.leaves marks w.tree.pointers k [] (stored d.entry.format records) (length w.tree.leaves)) (sym p.new)
        ∙ ap (λ (b : List ℕ). draft_writes w.bsize w.psize w.tree.leaves marks w.tree.pointers w.kept [] b (length w.tree.leaves)) (sym (bytes_same ∙ ap (λ (f : Format). stored f records) (sym format_is)))
        ∙ sym left.is

    small : written_count (update v.unit (put_writes d no_front records ++ commit_writes v d rest) d.systems.label_bytes) ≤ need m (Put (put_in d records)) + 2
    small = subst (λ (ws : List Write). written_count (update v.unit ws d.systems.label_bytes) ≤ need m (Put (put_in d records)) + 2)
        (ap (λ (ws : List Write). ws ++ writes_of v d.systems) draft_is ∙ append_assoc (put_writes d no_front records) rest (writes_of v d.systems))
        (put_is_small j1 v (p.file start).edit stamp d.systems file marks (put_in d records) m all.held ready)

-- ---- what it comes to

commits_of : (j : Journal) (new : Told) (v w : HeldVolume) (m : Minidisk) (d : Draft) (edit : Edit) (done rest : List Write) (change : Change) (r : Result ⊤ Doubt)
    → Whole j v m d edit done rest change
    → CommitEvents (Some j) new v d rest r → OnOk r (w ≡ renewed v edit d.systems) → Commits j new v w m d done rest change r
commits_of j new v w m d edit done rest change (Ok x) whole told leads = (
  whole.makes,
  told_so j new (update v.unit (commit_writes v d rest) d.systems.label_bytes) (λ k. IsHeldMinidisk k w (changed m change)) told
      (subst (λ (x : HeldVolume). IsHeldMinidisk (after j (update v.unit (commit_writes v d rest) d.systems.label_bytes)) x (changed m change)) (sym leads) whole.held),
)
commits_of j new v w m d edit done rest change (Err Old) whole cut leads = (
  whole.makes,
  told_so j new cut.front (λ k. IsHeldMinidisk k v m) cut.told (whole.makes.before cut.front (writes_to v.unit (commit_writes v d rest) cut.front cut.is)),
)
commits_of j new v w m d edit done rest change (Err Either) whole (inl told) leads = (
  whole.makes,
  told_so j new (to_label v.unit (commit_writes v d rest)) (λ k. HasEither v.disk k v.unit (Volume m) (Volume (changed m change))) told
      (whole.makes.either (to_label v.unit (commit_writes v d rest)) (to_front v.unit (commit_writes v d rest) d.systems.label_bytes)),
)
commits_of j new v w m d edit done rest change (Err Either) whole (inr told) leads = (
  whole.makes,
  told_so j new (with_label v.unit (commit_writes v d rest) d.systems.label_bytes) (λ k. HasEither v.disk k v.unit (Volume m) (Volume (changed m change))) told
      (whole.makes.either (with_label v.unit (commit_writes v d rest) d.systems.label_bytes) (with_front v.unit (commit_writes v d rest) d.systems.label_bytes)),
)

-- at a told journal, where all of it is this change
pub committed_at : (j : Journal) (old new : Told) (v w : HeldVolume) (m : Minidisk) (d : Draft) (edit : Edit) (front : Front) (records : List (List ℕ)) (change : Change) (r : Result ⊤ Doubt)
    → old ≡ Some j → (c : IsCommitted old new v d front records r) → Whole j v m d edit (put_writes d front records) c.rest change → OnOk r (w ≡ renewed v edit d.systems)
    → IsCommittedAt j new v w m d front records change r
committed_at j old new v w m d edit front records change r is c whole leads = record {
  rest = c.rest;
  left = c.left;
  commits = commits_of j new v w m d edit (put_writes d front records) c.rest change r whole (subst (λ (t : Told). CommitEvents t new v d c.rest r) is c.events) leads;
}

-- two calls in a row
pub both_cause : {A B E : Type 0} (a b c : ℕ) (x : A) (first : Result A Failed) (r : Result B E) → HasCause a b first → HasCause b c r → HasCause a c r
both_cause {B = B} {E = E} a b c x first r one two = record { later = (let u = one.later in let v = two.later in omega arith); failed = raised r two.failed }
  where
    raised : (r : Result B E) → OnErr r (Rose b c) → OnErr r (Rose a c)
    raised (Ok y) rose = tt
    raised (Err e) rose = let u = one.later in omega arith

-- ---- for the code

-- the file as it is made
built : (g : HeldFile) (e : Entry) (t : HeldTree) (long bytes start : ℕ) → e ≡ g.entry → t ≡ g.tree → long ≡ g.length → bytes ≡ g.size → start ≡ g.start
    → record { entry = e; tree = t; length = long; size = bytes; start = start } ≡ g
built g e t long bytes start a b c d s = λ i. record { entry = a i; tree = b i; length = c i; size = d i; start = s i }

-- an edit of these files is one that puts it
pub same_files : (v : HeldVolume) (d : Draft) (some : IsSomeDraft v d) (t : HeldTree) (long bytes start : ℕ) → t ≡ tree_of d → long ≡ d.writer.shape.length → bytes ≡ d.writer.shape.bytes → start ≡ start_in d.writer
    → list_with v.files (position (same_name d.entry.name) (names_in v.files)) (record { entry = d.entry; tree = t; length = long; size = bytes; start = start })
    ≡ list_with v.files (position (same_name some.name) (names_in v.files)) (file_for v.disk.bsize some.name some.shape (tree_of d) (start_in d.writer))
same_files v d some t long bytes start tree size count begun =
    let p = some in
    let g = file_for v.disk.bsize some.name some.shape (tree_of d) (start_in d.writer) in
    let name : d.entry.name ≡ some.name = ap (λ (x : Entry). x.name) p.entry_is in
    ap (λ (n : Name). list_with v.files (position (same_name n) (names_in v.files)) (record { entry = d.entry; tree = t; length = long; size = bytes; start = start })) name
    ∙ ap (list_with v.files (position (same_name some.name) (names_in v.files)))
    (built g d.entry t long bytes start p.entry_is tree (size ∙ ap (λ (x : DraftShape). x.length) p.shape_is) (count ∙ ap (λ (x : DraftShape). x.bytes) p.shape_is) begun)

-- ---- in every world

cut_grown : (old new : Told) (u : ℕ) (ws : List Write) (label : List ℕ) (why : Doubt) → IsCutOff old new u ws label why → Grown old new
cut_grown old new u ws label Old cut = record { events = cut.front; told = cut.told }
cut_grown old new u ws label Either (inl told) = record { events = to_label u ws; told = told }
cut_grown old new u ws label Either (inr told) = record { events = with_label u ws label; told = told }

-- a piece was added, and that of an update behind it
pub grown_behind : (old mid new : Told) (piece : List Event) (u : ℕ) (ws : List Write) (label : List ℕ) (r : Result ⊤ Doubt) → mid ≡ plus old piece → Updates mid new u ws label r → Grown old new
grown_behind old mid new piece u ws label r before ups =
    let g = answer r ups in
    record { events = piece ++ g.events; told = g.told ∙ (ap (λ (t : Told). plus t g.events) before ∙ plus_plus old piece g.events) }
  where
    answer : (r : Result ⊤ Doubt) → Updates mid new u ws label r → Grown mid new
    answer (Ok x) done = record { events = update u ws label; told = done }
    answer (Err why) cut = cut_grown mid new u ws label why cut
