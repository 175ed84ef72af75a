-- A record of a draft is put, and the volume stays.
use Rattle.std.proofs.Common.{◌≡◌, ⊎_elim, ℕ, ◌+◌, ◌*◌, ◌/◌, ◌<◌, ◌≤◌, List, [], ◌∷◌, ◌++◌, length, Some, Result, Ok, Err, refl, sym, ◌∙◌, ap, subst, arith, mul-le-mul_right}
use Rattle.std.specs.Prelude.{⊤, All, Option, position, true}
use Rattle.std.proofs.lemmas.List.{length-set}
use Rattle.std.proofs.lemmas.Bool.{cases_lt}
use Rattle.cms_journal.specs.declared.event.Failed.{Failed}
use Rattle.cms_journal.specs.Journal.{Journal}
use Rattle.cms_journal.specs.Told.{Told, plus}
use Rattle.cms_names.specs.declared.name.Name.{Name}
use Rattle.cms_fields.specs.Entries.{fan_of, passes}
use Rattle.cms_fields.specs.Numbers.{up}
use Rattle.cms_fields.specs.declared.time.Stamp.{Stamp}
use Rattle.cms_model.specs.Lists.{times}
use Rattle.cms_model.specs.Minidisks.{Minidisk, same_name}
use Rattle.cms_model.specs.Sizes.{pointer_count}
use Rattle.cms_model.specs.Records.{stored}
use Rattle.cms_model.specs.Settled.{Write, writes}
use Rattle.cms_model.specs.LawsUpdates.{IsFront, now}
use Rattle.cms_model.proofs.Quotients.{up_spec}
use Rattle.cms_tree.specs.declared.types.Mark.{Mark}
use Rattle.cms_tree.specs.Builds.{IsBuildable}
use Rattle.cms_tree.specs.Climbs.{AreOwn}
use Rattle.cms_held.specs.Growths.{growing}
use Rattle.cms_held.specs.HeldVolumes.{HeldFile, HeldTree, HeldVolume, names_in}
use Rattle.cms_held.specs.MinidiskUpdates.{IsHeldMinidisk}
use Rattle.cms_tree.specs.Kept.{Kept}
use Rattle.cms_held.specs.Drafts.{Front, HasDraft, draft_writes, own_blocks, stored_on}
use Rattle.cms_held.specs.Renewals.{Edit, blocks_in}
use Rattle.cms_held.specs.Puts.{AreFree, GoesOn, count_put}
use Rattle.cms_held.specs.declared.shape.DraftShape.{DraftShape}
use Rattle.cms_edf.proofs.GrownOnce.{grown_once}
use Rattle.cms_held.proofs.MapMarks.{free_once}
use Rattle.cms_held.proofs.PutAsides.{draft_goes_on, free_is_aside}
use Rattle.cms_held.specs.BlockWriters.{AddsOwnBlocks, IsSame, IsWriter, Streams, came, its_blocks, written_with}
use Rattle.cms_held.specs.FileWriters.{FileWriter, Drafts, IsDrafting, Puts, marks_in}
use Rattle.cms_held.specs.declared.block_writer.BlockWriter.{BlockWriter}
use Rattle.cms_edf.specs.FileDrafts.{DraftStands, Draft, IsDraftFor, IsFilePlanned, IsSomeDraft, StandsThen, StaysHeld, entry_for, file_for, list_with, tree_of}
use Rattle.cms_edf.specs.Growths.{IsGrowthPlanned, IsMoreFor, kept_in}
use Rattle.cms_edf.proofs.Finished.{told_so}

-- what a draft adds leaves the volume held
pub stays_held : (j : Journal) (old new : Told) (v : HeldVolume) (m : Minidisk) (d : Draft) → old ≡ Some j → IsHeldMinidisk j v m → IsSomeDraft v d → AddsOwnBlocks old new d.writer.writer
    → StaysHeld j new v m
stays_held j old new v m d is held some own =
    let p = some in
    let blocks = its_blocks d.writer.writer in
    record {
      events = writes d.writer.writer.unit own.part;
      told = own.told ∙ ap (λ (t : Told). plus t (writes d.writer.writer.unit own.part)) is;
      each = λ q front. free_is_aside j v m blocks own.part q held p.own
          (subst (λ (n : ℕ). AreOwn n blocks own.part) p.bsize_is own.own) (subst (λ (u : ℕ). IsFront q (writes u own.part)) p.unit_is front);
    }

-- the tree that is written is one that can be built
pub plan_of : (w : BlockWriter) (es : List Kept) (bytes : List ℕ) (marks : List Mark) → IsWriter w → Streams w es bytes marks → IsBuildable w.bsize w.psize w.tree.leaves marks w.tree.pointers
plan_of w es bytes marks is s = subst (λ (b : ℕ). IsBuildable b w.psize w.tree.leaves marks w.tree.pointers) is.climb_size
    (subst (λ (p : ℕ). IsBuildable w.climb.bsize p w.tree.leaves marks w.tree.pointers) is.climb_pointer s.climbs.plan)

-- a part of a draft that is written
pub goes_on : (j : Journal) (v : HeldVolume) (m : Minidisk) (d : Draft) (es : List Kept) (bytes : List ℕ) (marks : List Mark) (from to : ℕ) (part : List Write) → IsHeldMinidisk j v m
    → IsSomeDraft v d
    → IsBuildable d.writer.writer.bsize d.writer.writer.psize d.writer.writer.tree.leaves marks d.writer.writer.tree.pointers → to ≤ length d.writer.writer.tree.leaves
    → written_with d.writer.writer es bytes marks from ++ part ≡ written_with d.writer.writer es bytes marks to
    → HasDraft (now j d.writer.writer.unit) d.writer.writer.bsize d.writer.writer.psize d.writer.writer.tree.leaves marks d.writer.writer.tree.pointers d.writer.writer.kept es bytes from
    → GoesOn j d.writer.writer.unit d.writer.writer.bsize d.writer.writer.psize d.writer.writer.tree.leaves marks d.writer.writer.tree.pointers d.writer.writer.kept es bytes from to part
goes_on j v m d es bytes marks from to part held some =
    subst (λ (u : ℕ). IsBuildable d.writer.writer.bsize psize leaves marks pointers → to ≤ length leaves
    → draft_writes d.writer.writer.bsize psize leaves marks pointers kept es bytes from ++ part ≡ draft_writes d.writer.writer.bsize psize leaves marks pointers kept es bytes to
    → HasDraft (now j u) d.writer.writer.bsize psize leaves marks pointers kept es bytes from
    → GoesOn j u d.writer.writer.bsize psize leaves marks pointers kept es bytes from to part) (sym p.unit_is)
    (subst (λ (b : ℕ). IsBuildable b psize leaves marks pointers → to ≤ length leaves
    → draft_writes b psize leaves marks pointers kept es bytes from ++ part ≡ draft_writes b psize leaves marks pointers kept es bytes to
    → HasDraft (now j v.unit) b psize leaves marks pointers kept es bytes from → GoesOn j v.unit b psize leaves marks pointers kept es bytes from to part) (sym p.bsize_is)
    (λ plan low is has. draft_goes_on j v m psize leaves marks pointers kept es bytes from to part held (some.once j m held) own plan low is has))
  where
    p : IsSomeDraft v d
    p = some

    psize : ℕ
    psize = d.writer.writer.psize

    leaves : List ℕ
    leaves = d.writer.writer.tree.leaves

    pointers : List ℕ
    pointers = d.writer.writer.tree.pointers

    kept : ℕ
    kept = d.writer.writer.kept

    own : AreFree v (own_blocks (v.disk.bsize / psize) leaves pointers kept)
    own = subst (λ (b : ℕ). AreFree v (own_blocks (b / psize) leaves pointers kept)) p.bsize_is p.own

-- as many blocks as bytes fill are there
pub blocks_there : (w : BlockWriter) (to upto : ℕ) → IsWriter w → to * w.bsize ≤ upto → upto ≤ w.size → to ≤ length w.tree.leaves
blocks_there w to upto is low room = ⊎_elim
    (λ (less : length w.tree.leaves < to).
    let one : length w.tree.leaves + 1 ≤ to = omega arith in
    let wide = mul-le-mul_right w.bsize one in
    let size = is.size in
    let count = is.count in
    let enough = (up_spec w.size w.bsize (omega arith)).0 in
    let same : length w.tree.leaves * w.bsize ≡ up w.size w.bsize * w.bsize = ap (λ (n : ℕ). n * w.bsize) is.count in
    let more : (length w.tree.leaves + 1) * w.bsize ≡ length w.tree.leaves * w.bsize + w.bsize = next (length w.tree.leaves) w.bsize in
    absurd (omega arith))
    (λ (within : to ≤ length w.tree.leaves). within)
    (cases_lt (length w.tree.leaves) to)
  where
    next : (a b : ℕ) → (a + 1) * b ≡ a * b + b
    next a b = grind arith

-- what is written of it stands
pub stands_then : (j : Journal) (old new : Told) (v : HeldVolume) (m : Minidisk) (d : Draft) (d' : FileWriter) (front : Front) (records more : List (List ℕ)) (text : List ℕ) (r : Result ⊤ Failed)
    → old ≡ Some j
    → IsHeldMinidisk j v m → IsSomeDraft v d → IsDrafting d.writer → IsDrafting d' → IsSame d.writer.writer d'.writer → d'.shape ≡ d.writer.shape
    → came d.writer.writer + length (stored d.writer.shape.format (text ∷ [])) ≤ d.writer.writer.size
    → length (stored_on d.writer.shape.format front (records ++ text ∷ [])) ≡ came d.writer.writer + length (stored d.writer.shape.format (text ∷ []))
    → Drafts d.writer front records (text ∷ more) → Puts old new d.writer d' front records text more r
    → DraftStands j d.writer front (records ++ (text ∷ more)) → StandsThen new d.writer d' front (records ++ (text ∷ more)) r
stands_then j old new v m d d' front records more text (Ok x) is held some kept kept' same shape room long h puts has =
    let w = d.writer.writer in
    let all = records ++ (text ∷ more) in
    let wrote = puts.0 in
    let bytes = stored_on d.writer.shape.format front all in
    let marks = marks_in d.writer front all in
    let tree = ap (λ (t : HeldTree). length t.leaves) same.tree in
    let within = kept'.writer.within in
    let g = goes_on j v m d front.nodes bytes marks w.whole d'.writer.whole wrote.part held some (plan_of w front.nodes bytes marks kept.writer h.streams) (omega arith) wrote.is has in
    let marks_same : marks_in d' front all ≡ marks = rw (shape, same.bsize, same.tree) refl in
    told_so j new (writes w.unit wrote.part) (λ k. DraftStands k d' front all) (wrote.told ∙ ap (λ (t : Told). plus t (writes w.unit wrote.part)) is)
    (rw (marks_same, shape, same.unit, same.bsize, same.psize, same.tree, same.kept) g.stands)
stands_then j old new v m d d' front records more text (Err e) is held some kept kept' same shape room long h stops has =
    let w = d.writer.writer in
    let all = records ++ (text ∷ more) in
    let bytes = stored_on d.writer.shape.format front all in
    let marks = marks_in d.writer front all in
    let low = blocks_there w stops.to (length (stored_on d.writer.shape.format front (records ++ text ∷ []))) kept.writer stops.within (omega arith) in
    let g = goes_on j v m d front.nodes bytes marks w.whole stops.to stops.part held some (plan_of w front.nodes bytes marks kept.writer h.streams) low stops.is has in
    told_so j new stops.front.front (λ k. DraftStands k d.writer front all) (stops.front.told ∙ ap (λ (t : Told). plus t stops.front.front) is) (g.stays stops.front.front stops.front.is)

-- it stays the draft of its file
pub planned_still : (v : HeldVolume) (d : Draft) (d' : FileWriter) → IsSame d.writer.writer d'.writer → d'.shape ≡ d.writer.shape → IsSomeDraft v d
    → IsSomeDraft v (record { entry = d.entry; writer = d'; systems = d.systems })
planned_still v d d' same shape some =
    let tree = same.tree in
    record {
      name = some.name;
      shape = some.shape;
      stamp = some.stamp;
      asked = some.asked;
      count = some.count;
      unlimited = some.unlimited;
      entry_is = subst (λ (t : HeldTree). d.entry ≡ entry_for v.disk.bsize some.name some.shape t) (sym tree) some.entry_is;
      shape_is = shape ∙ some.shape_is;
      unit_is = same.unit ∙ some.unit_is;
      bsize_is = same.bsize ∙ some.bsize_is;
      passes_all = subst (λ (t : HeldTree). passes v.disk.bsize (entry_for v.disk.bsize some.name some.shape t) ≡ true) (sym tree) some.passes_all;
      leaves_are = subst (λ (t : HeldTree). length t.leaves ≡ up some.shape.bytes v.disk.bsize) (sym tree) some.leaves_are;
      pointers_are = subst (λ (t : HeldTree). length t.pointers ≡ pointer_count (fan_of v.disk.bsize some.shape.format) (length t.leaves)) (sym tree) some.pointers_are;
      own = rw (same.bsize, same.psize, same.tree, same.kept) some.own;
      once = subst (λ (t : HeldTree). (j : Journal) (m : Minidisk) → IsHeldMinidisk j v m → (n : ℕ) → times n (blocks_in t) ≤ 1) (sym tree) some.once;
      within = subst (λ (t : HeldTree). All (λ n. (6 ≤ n) × (n ≤ v.label.blocks)) (blocks_in t)) (sym tree) some.within;
      edit = some.edit;
      files_are = subst (λ (t : HeldTree). (start : ℕ) → (some.edit start).files
          ≡ list_with v.files (position (same_name some.name) (names_in v.files)) (file_for v.disk.bsize some.name some.shape t start)) (sym tree) some.files_are;
      few = some.few;
      ready = some.ready;
      label_long = some.label_long;
    }

-- so does one of a file that is put
pub new_still : (v : HeldVolume) (name : Name) (shape : DraftShape) (stamp : Stamp) (d : Draft) (d' : FileWriter) → IsSame d.writer.writer d'.writer → d'.shape ≡ d.writer.shape
    → IsDraftFor v name shape stamp d → IsDraftFor v name shape stamp (record { entry = d.entry; writer = d'; systems = d.systems })
new_still v name shape stamp d d' same shaped p =
    let tree = same.tree in
    record {
      entry_is = subst (λ (t : HeldTree). d.entry ≡ entry_for v.disk.bsize name shape t) (sym tree) p.entry_is;
      shape_is = shaped ∙ p.shape_is;
      unit_is = same.unit ∙ p.unit_is;
      bsize_is = same.bsize ∙ p.bsize_is;
      new = same.kept ∙ p.new;
      own = rw (same.bsize, same.psize, same.tree, same.kept) p.own;
      file = λ start. subst (λ (t : HeldTree). IsFilePlanned v name shape stamp t d.systems start) (sym tree) (p.file start);
    }

-- and one of records that are added to a file
pub more_still : (v : HeldVolume) (name : Name) (f : HeldFile) (shape : DraftShape) (stamp : Stamp) (d : Draft) (d' : FileWriter) → IsSame d.writer.writer d'.writer → d'.shape ≡ d.writer.shape
    → IsMoreFor v name f shape stamp d → IsMoreFor v name f shape stamp (record { entry = d.entry; writer = d'; systems = d.systems })
more_still v name f shape stamp d d' same shaped p =
    let tree = same.tree in
    record {
      entry_is = subst (λ (t : HeldTree). d.entry ≡ entry_for v.disk.bsize name shape t) (sym tree) p.entry_is;
      shape_is = shaped ∙ p.shape_is;
      unit_is = same.unit ∙ p.unit_is;
      bsize_is = same.bsize ∙ p.bsize_is;
      kept = same.kept ∙ p.kept;
      own = rw (same.bsize, same.psize, same.tree, same.kept) p.own;
      file = λ start. subst (λ (t : HeldTree). IsGrowthPlanned v name f shape stamp t d.systems start) (sym tree) (p.file start);
    }

-- ---- the draft of either kind is one that is planned

pub new_is_some : (v : HeldVolume) (name : Name) (shape : DraftShape) (stamp : Stamp) (d : Draft) → IsDraftFor v name shape stamp d → IsSomeDraft v d
new_is_some v name shape stamp d p =
    let at = p.file 0 in
    record {
      name = name;
      shape = shape;
      stamp = stamp;
      asked = at.asked;
      count = count_put v name;
      unlimited = at.unlimited;
      entry_is = p.entry_is;
      shape_is = p.shape_is;
      unit_is = p.unit_is;
      bsize_is = p.bsize_is;
      passes_all = at.passes_all;
      leaves_are = at.leaves_are;
      pointers_are = at.pointers_are;
      own = p.own;
      once = λ j m held n. (let fewer = at.free n in let one = free_once 1 v.bits n in omega arith);
      within = at.within;
      edit = λ start. (p.file start).edit;
      files_are = λ start. (p.file start).files_are;
      few = λ start. (p.file start).few;
      ready = λ start. (p.file start).ready;
      label_long = at.label_long;
    }

-- its edit is the planned one
pub new_edit_is : (v : HeldVolume) (name : Name) (shape : DraftShape) (stamp : Stamp) (d : Draft) (p : IsDraftFor v name shape stamp d) (start : ℕ)
    → (new_is_some v name shape stamp d p).edit start ≡ (p.file start).edit
unfolding new_is_some
new_edit_is v name shape stamp d p start = refl

-- the edit of a file that grows
abbrev pub more_edit : (v : HeldVolume) (name : Name) (f : HeldFile) (shape : DraftShape) (stamp : Stamp) (d : Draft) → IsMoreFor v name f shape stamp d → ℕ → Edit
more_edit v name f shape stamp d p start =
    growing v.disk.bsize v.files (p.file start).place f (file_for v.disk.bsize name shape (tree_of d) start)

pub more_is_some : (v : HeldVolume) (name : Name) (f : HeldFile) (shape : DraftShape) (stamp : Stamp) (d : Draft) → IsMoreFor v name f shape stamp d → IsSomeDraft v d
more_is_some v name f shape stamp d p =
    let at = p.file 0 in
    record {
      name = name;
      shape = shape;
      stamp = stamp;
      asked = at.grows.can;
      count = length v.files;
      unlimited = at.unlimited;
      entry_is = p.entry_is;
      shape_is = p.shape_is;
      unit_is = p.unit_is;
      bsize_is = p.bsize_is;
      passes_all = at.passes_all;
      leaves_are = at.leaves_are;
      pointers_are = at.pointers_are;
      own = p.own;
      once = λ j m held. grown_once j v m at.place (fan_of v.disk.bsize shape.format) (kept_in v.disk.bsize f) f (tree_of d) held at.is at.keeps at.free at.within;
      within = at.within;
      edit = more_edit v name f shape stamp d p;
      files_are = λ start. (let there = (p.file start).there in
          subst (λ (o : Option ℕ). (more_edit v name f shape stamp d p start).files ≡ list_with v.files o (file_for v.disk.bsize name shape (tree_of d) start)) (sym there) refl);
      few = λ start. (let n = length-set v.files (p.file start).place (file_for v.disk.bsize name shape (tree_of d) start) in let few = (p.file start).few in omega arith);
      ready = λ start. (p.file start).ready;
      label_long = at.label_long;
    }

-- its edit is that of the growth
pub more_edit_is : (v : HeldVolume) (name : Name) (f : HeldFile) (shape : DraftShape) (stamp : Stamp) (d : Draft) (p : IsMoreFor v name f shape stamp d) (start : ℕ)
    → (more_is_some v name f shape stamp d p).edit start ≡ more_edit v name f shape stamp d p start
unfolding more_is_some
more_edit_is v name f shape stamp d p start = refl
