-- Records that are added to a file become the volume's.
use Rattle.std.proofs.Common.{◌≡◌, ℕ, ◌+◌, ◌/◌, ◌≤◌, List, [], ◌++◌, length, All, Some, Result, Ok, Err, refl, sym, ◌∙◌, ap, subst, arith, append_assoc, append-nil, length-append}
use Rattle.std.specs.Prelude.{slice_set}
use Rattle.std.proofs.lemmas.List.{length-take-le, map-set}
use Rattle.std.proofs.lemmas.List.Elements.{All-get_or}
use Rattle.std.proofs.lemmas.Option.{get_or_from_slice_get, slice_get_within}
use Rattle.cms_journal.specs.Journal.{Journal}
use Rattle.cms_names.specs.declared.name.Name.{Name}
use Rattle.cms_names.specs.declared.name.Format.{Format}
use Rattle.cms_names.specs.declared.name.Format.TheVariants.{V}
use Rattle.cms_fields.specs.Entries.{fan_of, pointer_size}
use Rattle.cms_fields.specs.Numbers.{up}
use Rattle.cms_fields.specs.declared.entry.Entry.{Entry}
use Rattle.cms_fields.specs.declared.time.Stamp.{Stamp}
use Rattle.cms_model.specs.Changes.{Add, need}
use Rattle.cms_model.specs.LawsUpdates.{after, now}
use Rattle.cms_model.specs.Minidisks.{Minidisk}
use Rattle.cms_model.specs.Records.{Fits, records_of, stored}
use Rattle.cms_model.specs.Settled.{Write, update, writes}
use Rattle.cms_model.specs.Sizes.{levels}
use Rattle.cms_model.specs.Stands.{Layout, layout_blocks}
use Rattle.cms_model.specs.Trees.{Image, bytes_at}
use Rattle.cms_model.specs.declared.fault.VarFault.{VarFault}
use Rattle.cms_model.proofs.EntriesRead.{records_so}
use Rattle.cms_tree.specs.declared.types.Mark.{Mark}
use Rattle.cms_tree.specs.Builds.{IsBuildable}
use Rattle.cms_tree.specs.Climbs.{AreOwn}
use Rattle.cms_tree.specs.Tiers.{AllKeep, lowest}
use Rattle.cms_held.specs.Additions.{IsAddReady}
use Rattle.cms_held.specs.Drafts.{Front, HasDraft, draft_writes, stored_on}
use Rattle.cms_held.specs.Growths.{GrowsHeld, IsGrownAs, KeepsFront, form_on, last_leaf, length_with, places_behind}
use Rattle.cms_held.specs.HeldTrees.{FileStands, StartsSo}
use Rattle.cms_held.specs.HeldVolumes.{HeldFile, HeldTree, HeldVolume, size_of}
use Rattle.cms_held.specs.Kept.{IsKeptFile}
use Rattle.cms_held.specs.LawsRenewals.{writes_of}
use Rattle.cms_held.specs.Marks.{start_of}
use Rattle.cms_held.specs.MinidiskUpdates.{Carries, IsHeldMinidisk, written_count}
use Rattle.cms_held.specs.Puts.{AreFree}
use Rattle.cms_held.specs.Renewals.{Edit, entries_held}
use Rattle.cms_held.specs.SharedBlocks.{fresh_of}
use Rattle.cms_held.specs.SharedTrees.{HasShape, StandsByLevels}
use Rattle.cms_held.specs.Written.{ReadsBack}
use Rattle.cms_tree.specs.Resumes.{kept_of}
use Rattle.cms_held.proofs.AddCarried.{add_is_carried, add_is_small, add_writes, kept_at}
use Rattle.cms_held.proofs.BlockBytes.{all_long}
use Rattle.cms_held.proofs.Drafted.{fan_is}
use Rattle.cms_held.proofs.Edits.{AtPlace, Old, at_place, files_old}
use Rattle.cms_held.proofs.PlannedWrites.{WritesBlocks}
use Rattle.cms_held.specs.BlockWriters.{Streams, its_blocks}
use Rattle.cms_held.specs.FileWriters.{Drafts, IsDrafting, marks_in, start_in}
use Rattle.cms_held.specs.declared.block_writer.BlockWriter.{BlockWriter}
use Rattle.cms_held.specs.declared.shape.DraftShape.{DraftShape}
use Rattle.cms_edf.specs.FileDrafts.{DraftStands, Draft, IsLeft, commit_writes, file_for, put_writes, tree_of}
use Rattle.cms_edf.specs.Growths.{IsFrontOf, IsGrowthPlanned, IsMoreFor, kept_in}
use Rattle.cms_edf.proofs.AddedFront.{front_behind}
use Rattle.cms_edf.proofs.AddedRecords.{grown_records, start_behind}
use Rattle.cms_edf.proofs.Committed.{AllStands, Whole, all_stands, all_streams, left_own, whole_behind}
use Rattle.cms_edf.proofs.DraftPlanned.{limits}
use Rattle.cms_edf.proofs.DraftPut.{more_edit, more_is_some, plan_of}
use Rattle.cms_edf.proofs.Planned.{named_at}

-- the start that records have, where some are read
start_read : ℕ → Format → Result (List (List ℕ)) VarFault → ℕ
start_read bsize format (Ok records) = start_of bsize format records
start_read bsize format (Err why) = 0

same_ok : (a b : List (List ℕ)) → ◌≡◌ {A = Result (List (List ℕ)) VarFault} (Ok a) (Ok b) → a ≡ b
same_ok a b e = cc

same_file : (a b : HeldFile) → Some a ≡ Some b → a ≡ b
same_file a b e = cc

-- an addition whose records were all put, where the blocks that were left were written too
record Added (j : Journal) (v : HeldVolume) (m : Minidisk) (d : Draft) (name : Name) (f : HeldFile) (shape : DraftShape) (stamp : Stamp) (front : Front) (records : List (List ℕ)) : Type 0 where
  held : IsHeldMinidisk j v m
  kept : IsDrafting d.writer
  planned : IsMoreFor v name f shape stamp d
  read : IsFrontOf j v f (tree_of d) front
  drafts : Drafts d.writer front records []
  longest : length_with shape.format f.length records ≡ shape.length
  has : HasDraft (now j v.unit) v.disk.bsize d.writer.writer.psize (tree_of d).leaves (marks_in d.writer front records) (tree_of d).pointers d.writer.writer.kept front.nodes
      (stored_on d.writer.shape.format front records) (length (tree_of d).leaves)

module _ (j : Journal) (v : HeldVolume) (m : Minidisk) (d : Draft) (name : Name) (f : HeldFile) (shape : DraftShape) (stamp : Stamp) (front : Front) (records : List (List ℕ))
    (x : Added j v m d name f shape stamp front records) where
  abbrev bsize : ℕ
  bsize = v.disk.bsize

  abbrev psize : ℕ
  psize = pointer_size shape.format

  abbrev image : Image
  image = now j v.unit

  abbrev w : BlockWriter
  w = d.writer.writer

  abbrev tree : HeldTree
  tree = tree_of d

  abbrev marks : List Mark
  marks = marks_in d.writer front records

  abbrev start : ℕ
  start = start_in d.writer

  abbrev grown : ℕ → HeldFile
  grown at = file_for bsize name shape tree at

  abbrev old : Layout
  old = x.held.layout

  abbrev plan_at : IsGrowthPlanned v name f shape stamp tree d.systems start
  plan_at = x.planned.file start

  kept_file : IsKeptFile bsize v.label.blocks f
  kept_file = kept_at v plan_at.place f plan_at.ready.kept plan_at.is

  abbrev here : AtPlace old.files plan_at.place f
  here = at_place old.files v.files x.held.at.held.files_are plan_at.place f plan_at.is

  stands_file : FileStands bsize v.label.blocks image f
  stands_file = subst (FileStands bsize v.label.blocks image) (get_or_from_slice_get v.files plan_at.place f f plan_at.is)
      (All-get_or (FileStands bsize v.label.blocks image) v.files plan_at.place f (slice_get_within v.files plan_at.place f plan_at.is) x.held.at.trees.files)

  same_shape : shape ≡ d.writer.shape
  same_shape = sym x.planned.shape_is

  format_is : shape.format ≡ f.entry.format
  format_is = plan_at.grows.format_is

  pointer : w.psize ≡ psize
  pointer = x.kept.pointer ∙ ap (λ (s : DraftShape). pointer_size s.format) x.planned.shape_is

  named : f.entry.name ≡ name
  named =
      let n = named_at v.files name plan_at.place plan_at.there in
      ap (λ (g : HeldFile). g.entry.name) (same_file f n.file (sym plan_at.is ∙ n.there)) ∙ n.named

  streams : Streams w front.nodes (stored_on d.writer.shape.format front records) marks
  streams = all_streams d front records x.drafts

  front_long : length front.bytes ≡ f.size
  front_long =
      let room = kept_file.high in
      ap (λ (l : List ℕ). length l) x.read.bytes_are ∙ length-take-le f.size (bytes_at image f.tree.leaves) (omega (arith, room, all_long bsize image f.tree.leaves x.read.long))

  whole_bytes : shape.bytes ≡ length (stored_on shape.format front records)
  whole_bytes = ap (λ (s : DraftShape). s.bytes) same_shape ∙ sym x.kept.size ∙ sym streams.size
      ∙ ap (λ (s : DraftShape). length (stored_on s.format front records)) (sym same_shape)

  -- the file that it is then
  is_grown : (at' : ℕ) → IsGrownAs bsize f (grown at') records shape.stamp
  is_grown at' =
      let all : records ++ [] ≡ records = append-nil records in
      let l = limits _ shape.count shape.bytes plan_at.unlimited in
      record {
        name_is = sym named;
        number_is = plan_at.grows.number_is;
        format_is = format_is;
        fixed = λ is. plan_at.grows.fixed is ∙ sym kept_file.told;
        stamp_is = refl;
        count_is = ap (λ (s : DraftShape). s.count) same_shape ∙ x.drafts.count ∙ ap (λ (l : List (List ℕ)). front.count + length l) all
            ∙ ap (λ (n : ℕ). n + length records) x.read.count_is;
        root_is = refl;
        blocks_are = refl;
        levels_are = refl;
        length_is = sym x.longest;
        told_is = refl;
        size_is = whole_bytes ∙ length-append front.bytes (stored shape.format records) ∙ ap (λ (n : ℕ). n + length (stored shape.format records)) front_long;
        few = l.1;
        small = l.2;
        each = subst (λ (s : DraftShape). All (Fits s.format s.length) records) x.planned.shape_is (subst (All (Fits d.writer.shape.format d.writer.shape.length)) all x.drafts.each);
        passes_all = plan_at.passes_all;
      }

  plan : IsBuildable bsize psize tree.leaves marks tree.pointers
  plan = subst (λ (k : ℕ). IsBuildable bsize k tree.leaves marks tree.pointers) pointer
      (subst (λ (b : ℕ). IsBuildable b w.psize tree.leaves marks tree.pointers) x.planned.bsize_is
      (plan_of w front.nodes (stored_on d.writer.shape.format front records) marks x.kept.writer streams))

  fan_same : fan_of bsize f.entry.format ≡ bsize / psize
  fan_same = ap (fan_of bsize) (sym format_is) ∙ sym (fan_is bsize shape.format)

  tree_stands : StandsByLevels (form_on bsize psize v.label.blocks) image f.tree
  tree_stands = subst (λ (k : Format). StandsByLevels (form_on bsize (pointer_size k) v.label.blocks) image f.tree) (sym format_is)
      (rw (fan_is bsize f.entry.format) stands_file.tree.stands)

  fits : AllKeep psize (bsize / psize) tree.pointers (lowest (f.size / bsize) tree.leaves) front.nodes (levels (bsize / psize) (length tree.leaves))
  fits = subst (λ (k : ℕ). AllKeep psize (bsize / psize) tree.pointers (lowest k tree.leaves) front.nodes (levels (bsize / psize) (length tree.leaves))) x.planned.kept
      (subst (λ (p : ℕ). AllKeep p (bsize / p) tree.pointers (lowest w.kept tree.leaves) front.nodes (levels (bsize / p) (length tree.leaves))) pointer
      (subst (λ (b : ℕ). AllKeep w.psize (b / w.psize) tree.pointers (lowest w.kept tree.leaves) front.nodes (levels (b / w.psize) (length tree.leaves))) x.planned.bsize_is streams.keeps))

  has : HasDraft image bsize psize tree.leaves marks tree.pointers (f.size / bsize) front.nodes (stored_on shape.format front records) (length tree.leaves)
  has = subst (λ (s : DraftShape). HasDraft image bsize psize tree.leaves marks tree.pointers (f.size / bsize) front.nodes (stored_on s.format front records) (length tree.leaves)) x.planned.shape_is
      (subst (λ (k : ℕ). HasDraft image bsize psize tree.leaves marks tree.pointers k front.nodes (stored_on d.writer.shape.format front records) (length tree.leaves)) x.planned.kept
      (subst (λ (p : ℕ). HasDraft image bsize p tree.leaves marks tree.pointers w.kept front.nodes (stored_on d.writer.shape.format front records) (length tree.leaves)) pointer x.has))

  -- with a start that is right it grows
  grows_at : (at' : ℕ) → StartsSo bsize image (grown at') → GrowsHeld v image image f (grown at') marks front (record { last = f.entry.count; place = f.start }) records shape.stamp
  grows_at at' starts = record {
    file = is_grown at';
    plan = plan;
    old_shape = subst (λ (n : ℕ). HasShape n f.tree) fan_same kept_file.shape;
    keeps = subst (λ (n : ℕ). KeepsFront n (kept_in bsize f) f.tree tree) (sym (fan_is bsize shape.format)) plan_at.keeps;
    stands = tree_stands;
    same = λ n there. refl;
    es_is = subst (λ (k : Format). front.nodes ≡ kept_of (bsize / pointer_size k) (pointer_size k) image (length f.tree.leaves) f.tree.pointers (last_leaf f.tree)
        (record { last = f.entry.count; place = f.start }) (kept_in bsize f) (length tree.leaves)) (sym format_is) x.read.nodes_are;
    fits = fits;
    has = has;
    size_room = kept_file.high;
    front_is = x.read.bytes_are;
    leaves_are = plan_at.leaves_are ∙ ap (λ (n : ℕ). up n bsize) whole_bytes;
    free = subst (λ (n : ℕ). AreFree v (fresh_of n (places_behind (kept_in bsize f) (length tree.leaves)) f.tree tree)) (sym (fan_is bsize shape.format)) plan_at.free;
    start_is = starts;
  }

  -- so what is read of it is known
  reads : records_of bsize shape.format shape.length shape.count (bytes_at image tree.leaves) ≡ Ok (here.file.records ++ records)
  unfolding start_read
  reads =
      let read = records_of bsize shape.format shape.length shape.count (bytes_at image tree.leaves) in
      let trial = start_read bsize shape.format read in
      let entries : entries_held (slice_set v.files plan_at.place (grown trial)) ≡ entries_held (slice_set v.files plan_at.place (grown start)) =
      map-set (λ (g : HeldFile). g.entry) v.files plan_at.place (grown trial) ∙ sym (map-set (λ (g : HeldFile). g.entry) v.files plan_at.place (grown start)) in
      grown_records j v old plan_at.place f (grown trial) marks front (record { last = f.entry.count; place = f.start }) records shape.stamp x.held.at plan_at.ready.kept plan_at.is
      (grows_at trial (λ rs is. ap (start_read bsize shape.format) is)) (subst (All ReadsBack) (sym entries) plan_at.ready.back)

  -- and its start is right
  old_records : records_of bsize f.entry.format f.entry.length f.entry.count (bytes_at image f.tree.leaves) ≡ Ok here.file.records
  old_records =
      let h = here.file in
      let P = Old v.disk v.label.blocks image (layout_blocks old) in
      let holds : P h = subst P (here.is h) (All-get_or P old.files plan_at.place h here.within (files_old j v old x.held.at)) in
      sym (records_so bsize f.entry.format f.entry.length f.entry.count (bytes_at image f.tree.leaves))
      ∙ ap (λ (e : Entry). records_of bsize e.format e.length e.count (bytes_at image f.tree.leaves)) here.held.entry_is
      ∙ ap (λ (l : List ℕ). records_of bsize h.entry.format h.entry.length h.entry.count (bytes_at image l)) here.held.tree_is.leaves ∙ holds.0.records

  starts : StartsSo bsize image (grown start)
  starts rs is =
      let h = here.file in
      let right : start ≡ start_of w.bsize d.writer.shape.format (h.records ++ records) =
      start_behind d.writer.shape.format w front h.records records x.kept.writer.size x.drafts.mark x.drafts.came_is x.kept.unfilled
      (λ v'. front_long ∙ here.held.size_is ∙ ap (λ (k : Format). size_of k h.entry.length h.entry.count h.records) (old_format v'))
      (λ v'. x.read.place_is ∙ stands_file.start h.records old_records ∙ ap (λ (k : Format). start_of bsize k h.records) (file_format v')
      ∙ ap (λ (b : ℕ). start_of b V h.records) (sym x.planned.bsize_is)) in
      right ∙ ap (λ (b : ℕ). start_of b d.writer.shape.format (h.records ++ records)) x.planned.bsize_is
      ∙ ap (λ (s : DraftShape). start_of bsize s.format (h.records ++ records)) x.planned.shape_is
      ∙ ap (start_of bsize shape.format) (same_ok (h.records ++ records) rs (sym reads ∙ is))
    where
      file_format : d.writer.shape.format ≡ V → f.entry.format ≡ V
      file_format is = sym format_is ∙ ap (λ (s : DraftShape). s.format) same_shape ∙ is

      old_format : d.writer.shape.format ≡ V → here.file.entry.format ≡ V
      old_format is = ap (λ (e : Entry). e.format) (sym here.held.entry_is) ∙ file_format is

  add_grows : GrowsHeld v image image f (grown start) marks front (record { last = f.entry.count; place = f.start }) records shape.stamp
  add_grows = grows_at start starts

  is_ready : IsAddReady j v stamp d.systems plan_at.place f (grown start) marks front (record { last = f.entry.count; place = f.start }) records shape.stamp
  is_ready = record { there = plan_at.is; ready = plan_at.ready; grows = add_grows }

-- an addition is ready once its blocks that were left are written
pub add_ready : (j : Journal) (v : HeldVolume) (m : Minidisk) (d : Draft) (name : Name) (f : HeldFile) (shape : DraftShape) (stamp : Stamp) (p : IsMoreFor v name f shape stamp d) (front : Front)
    (records : List (List ℕ)) (rest : List Write) → IsHeldMinidisk j v m → IsDrafting d.writer → IsFrontOf j v f (tree_of d) front → Drafts d.writer front records []
    → length_with shape.format f.length records ≡ shape.length → DraftStands j d.writer front records → IsLeft d front records rest
    → IsAddReady (after j (writes v.unit rest)) v stamp d.systems (p.file (start_in d.writer)).place f (file_for v.disk.bsize name shape (tree_of d) (start_in d.writer)) (marks_in d.writer front records)
    front (record { last = f.entry.count; place = f.start }) records shape.stamp
add_ready j v m d name f shape stamp p front records rest held kept read h longest stands left =
    let all = all_stands j v m d (more_is_some v name f shape stamp d p) front records rest held kept h stands left in
    let own = subst (λ (n : ℕ). AreOwn n (its_blocks d.writer.writer) rest) p.bsize_is (left_own d front records rest kept h left) in
    is_ready (after j (writes v.unit rest)) v m d name f shape stamp front records (record {
      held = all.held;
      kept = kept;
      planned = p;
      read = front_behind j v m name f shape stamp d front rest held p own read;
      drafts = h;
      longest = longest;
      has = all.has;
    })

pub add_whole : (j : Journal) (v : HeldVolume) (m : Minidisk) (d : Draft) (name : Name) (f : HeldFile) (shape : DraftShape) (stamp : Stamp) (p : IsMoreFor v name f shape stamp d) (front : Front)
    (records : List (List ℕ)) (rest : List Write) → IsHeldMinidisk j v m → IsDrafting d.writer → IsFrontOf j v f (tree_of d) front → Drafts d.writer front records []
    → length_with shape.format f.length records ≡ shape.length → DraftStands j d.writer front records → IsLeft d front records rest
    → Whole j v m d (more_edit v name f shape stamp d p (start_in d.writer)) (put_writes d front records) rest (Add name records shape.stamp)
add_whole j v m d name f shape stamp p front records rest held kept read h longest stands left =
    whole_behind j v m d edit (put_writes d front records) rest (Add name records shape.stamp) all.aside (record { carries = carries; small = small })
  where
    start : ℕ
    start = start_in d.writer

    edit : Edit
    edit = more_edit v name f shape stamp d p start

    w : BlockWriter
    w = d.writer.writer

    place : ℕ
    place = (p.file start).place

    file : HeldFile
    file = file_for v.disk.bsize name shape (tree_of d) start

    marks : List Mark
    marks = marks_in d.writer front records

    mark : Mark
    mark = record { last = f.entry.count; place = f.start }

    all : AllStands j v m d front records rest
    all = all_stands j v m d (more_is_some v name f shape stamp d p) front records rest held kept h stands left

    j1 : Journal
    j1 = after j (writes v.unit rest)

    ready : IsAddReady j1 v stamp d.systems place f file marks front mark records shape.stamp
    ready = add_ready j v m d name f shape stamp p front records rest held kept read h longest stands left

    name_is : f.entry.name ≡ name
    name_is = sym ready.grows.file.name_is

    carries : Carries j1 v edit d.systems m (Add name records shape.stamp)
    carries = subst (λ (n : Name). Carries j1 v edit d.systems m (Add n records shape.stamp)) name_is
        (add_is_carried j1 v stamp d.systems place f file marks front mark records shape.stamp m all.held ready)

    pointer : w.psize ≡ pointer_size shape.format
    pointer = kept.pointer ∙ ap (λ (s : DraftShape). pointer_size s.format) p.shape_is

    -- what was written of it before, and what is left
    draft_is : draft_writes v.disk.bsize (pointer_size shape.format) w.tree.leaves marks w.tree.pointers (kept_in v.disk.bsize f) front.nodes (stored_on shape.format front records)
        (length w.tree.leaves) ≡ put_writes d front records ++ rest
    draft_is = ap (λ (b : ℕ). draft_writes b (pointer_size shape.format) w.tree.leaves marks w.tree.pointers (kept_in v.disk.bsize f) front.nodes (stored_on shape.format front records)
        (length w.tree.leaves)) (sym p.bsize_is)
        ∙ ap (λ (k : ℕ). draft_writes w.bsize k w.tree.leaves marks w.tree.pointers (kept_in v.disk.bsize f) front.nodes (stored_on shape.format front records) (length w.tree.leaves)) (sym pointer)
        ∙ ap (λ (k : ℕ). draft_writes w.bsize w.psize w.tree.leaves marks w.tree.pointers k front.nodes (stored_on shape.format front records) (length w.tree.leaves)) (sym p.kept)
        ∙ ap (λ (s : DraftShape). draft_writes w.bsize w.psize w.tree.leaves marks w.tree.pointers w.kept front.nodes (stored_on s.format front records) (length w.tree.leaves)) (sym p.shape_is)
        ∙ sym left.is

    small : written_count (update v.unit (put_writes d front records ++ commit_writes v d rest) d.systems.label_bytes) ≤ need m (Add name records shape.stamp) + 2
    small = subst (λ (ws : List Write). written_count (update v.unit ws d.systems.label_bytes) ≤ need m (Add name records shape.stamp) + 2)
        (ap (λ (ws : List Write). ws ++ writes_of v d.systems) draft_is ∙ append_assoc (put_writes d front records) rest (writes_of v d.systems))
        (subst (λ (n : Name). written_count (update v.unit (draft_writes v.disk.bsize (pointer_size shape.format) w.tree.leaves marks w.tree.pointers (kept_in v.disk.bsize f) front.nodes
        (stored_on shape.format front records) (length w.tree.leaves) ++ writes_of v d.systems) d.systems.label_bytes) ≤ need m (Add n records shape.stamp) + 2) name_is
        (add_is_small j1 v stamp d.systems place f file marks front mark records shape.stamp m all.held ready))

-- what its update writes of directory and map are blocks, and none but the first begins a directory
pub added_blocks : (j : Journal) (v : HeldVolume) (m : Minidisk) (d : Draft) (name : Name) (f : HeldFile) (shape : DraftShape) (stamp : Stamp) (p : IsMoreFor v name f shape stamp d) (front : Front)
    (records : List (List ℕ)) (rest : List Write) → IsHeldMinidisk j v m → IsDrafting d.writer → IsFrontOf j v f (tree_of d) front → Drafts d.writer front records []
    → length_with shape.format f.length records ≡ shape.length → DraftStands j d.writer front records → IsLeft d front records rest
    → WritesBlocks v (more_edit v name f shape stamp d p (start_in d.writer)) stamp d.systems
added_blocks j v m d name f shape stamp p front records rest held kept read h longest stands left =
    add_writes (after j (writes v.unit rest)) v stamp d.systems (p.file (start_in d.writer)).place f (file_for v.disk.bsize name shape (tree_of d) (start_in d.writer)) (marks_in d.writer front records)
    front (record { last = f.entry.count; place = f.start }) records shape.stamp m
    (all_stands j v m d (more_is_some v name f shape stamp d p) front records rest held kept h stands left).held
    (add_ready j v m d name f shape stamp p front records rest held kept read h longest stands left)
