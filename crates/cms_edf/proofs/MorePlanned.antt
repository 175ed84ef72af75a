-- A draft of records that are added, as it was planned and begun.
use Rattle.std.proofs.Common.{◌≡◌, ℕ, ◌+◌, ◌*◌, ◌/◌, ◌%◌, ◌<◌, ◌≤◌, length, Some, sym, ◌∙◌, ap, subst, arith, div-add-mod', mod-lt}
use Rattle.std.specs.Prelude.{slice_get}
use Rattle.cms_journal.specs.Journal.{IsBlockSize}
use Rattle.cms_journal.proofs.Sizes.{block_bounds}
use Rattle.cms_names.specs.declared.name.Name.{Name}
use Rattle.cms_fields.specs.Entries.{fan_of, pointer_size}
use Rattle.cms_fields.specs.declared.time.Stamp.{Stamp}
use Rattle.cms_model.specs.Sizes.{pointer_count}
use Rattle.cms_map.specs.Bits.{free_blocks}
use Rattle.cms_tree.proofs.BuiltTrees.{fan_wide}
use Rattle.cms_held.specs.Drafts.{own_blocks}
use Rattle.cms_held.specs.Growths.{KeepsFront, places_behind}
use Rattle.cms_held.specs.HeldVolumes.{HeldFile, HeldTree, HeldVolume}
use Rattle.cms_held.specs.Puts.{AreFree}
use Rattle.cms_held.specs.SharedBlocks.{fresh_of}
use Rattle.cms_held.specs.SharedTrees.{HasShape}
use Rattle.cms_held.proofs.Drafted.{fan_is}
use Rattle.cms_held.proofs.GrownBlocks.{own_is_fresh}
use Rattle.cms_held.specs.BegunFiles.{IsContinued}
use Rattle.cms_held.specs.BlockWriters.{came, its_blocks}
use Rattle.cms_held.specs.FileWriters.{IsDrafting}
use Rattle.cms_held.specs.declared.begun.Begun.{Begun}
use Rattle.cms_held.specs.declared.shape.DraftShape.{DraftShape}
use Rattle.cms_held.proofs.FilePuts.{both_sizes as pointer_kind}
use Rattle.cms_held.proofs.AddCarried.{kept_at}
use Rattle.cms_edf.specs.FileDrafts.{Draft, entry_for, tree_of}
use Rattle.cms_edf.specs.Growths.{IsBehind, IsGrowthPlanned, IsGrownPlan, IsMoreFor, IsMoreRefused, IsReadFault, kept_in, need_more}
use Rattle.cms_edf.specs.declared.growth.Growth.{Growth}
use Rattle.cms_edf.specs.declared.growth.GrownPlan.{GrownPlan}
use Rattle.cms_edf.specs.declared.growth.MoreFault.{MoreFault}
use Rattle.cms_edf.specs.declared.growth.MoreFault.TheVariants as more
use Rattle.cms_edf.proofs.RecordStarts.{same_quotient}

-- the blocks that the draft of a grown tree writes are free
own_free : (v : HeldVolume) (name : Name) (f : HeldFile) (asked : DraftShape) (stamp : Stamp) (d : Draft) → IsGrowthPlanned v name f asked stamp (tree_of d) d.systems 0
    → d.writer.writer.bsize ≡ v.disk.bsize → d.writer.writer.psize ≡ pointer_size asked.format → d.writer.writer.kept ≡ kept_in v.disk.bsize f → AreFree v (its_blocks d.writer.writer)
own_free v name f asked stamp d at size pointer kept =
    let w = d.writer.writer in
    let bsize = v.disk.bsize in
    let psize = pointer_size asked.format in
    let fan = bsize / psize in
    let wider : fan ≡ fan_of bsize asked.format = fan_is bsize asked.format in
    let k = kept_at v at.place f at.ready.kept at.is in
    let shape : HasShape fan f.tree = subst (λ (n : ℕ). HasShape n f.tree) (ap (fan_of bsize) (sym at.grows.format_is) ∙ sym wider) k.shape in
    let pointers : length w.tree.pointers ≡ pointer_count fan (length w.tree.leaves) = at.pointers_are ∙ ap (λ (n : ℕ). pointer_count n (length w.tree.leaves)) (sym wider) in
    let keeps : KeepsFront fan (kept_in bsize f) f.tree w.tree = subst (λ (n : ℕ). KeepsFront n (kept_in bsize f) f.tree w.tree) (sym wider) at.keeps in
    let own = own_is_fresh fan (kept_in bsize f) f.tree w.tree (fan_wide bsize psize at.ready.kept.sized (pointer_kind asked.format)) shape pointers keeps in
    let is : its_blocks w ≡ fresh_of (fan_of bsize asked.format) (places_behind (kept_in bsize f) (length w.tree.leaves)) f.tree w.tree =
    (λ i. own_blocks (size i / pointer i) w.tree.leaves w.tree.pointers (kept i)) ∙ own ∙ ap (λ (n : ℕ). fresh_of n (places_behind (kept_in bsize f) (length w.tree.leaves)) f.tree w.tree) wider in
    subst (AreFree v) (sym is) at.free

pub more_planned : (v : HeldVolume) (name : Name) (place : ℕ) (f : HeldFile) (asked : DraftShape) (stamp : Stamp) (plan : GrownPlan) (b : Begun) (put : ℕ) (d : Draft)
    → IsGrownPlan v name place asked stamp plan → slice_get v.files place ≡ Some f → IsContinued v.unit v.disk.bsize put asked plan.tree b d.writer → IsDrafting d.writer
    → d.entry ≡ plan.entry → d.systems ≡ plan.systems → b.kept ≡ plan.growth.kept → IsMoreFor v name f asked stamp d
more_planned v name place f asked stamp plan b put d planned is on kept entry systems kept_is =
    let file : (start : ℕ) → IsGrowthPlanned v name f asked stamp (tree_of d) d.systems start =
    λ start. subst (λ (t : HeldTree). IsGrowthPlanned v name f asked stamp t d.systems start) (sym on.tree_is)
    (subst (λ s. IsGrowthPlanned v name f asked stamp plan.tree s start) (sym systems) (planned.file f is start)) in
    let front : d.writer.writer.kept ≡ kept_in v.disk.bsize f = on.kept ∙ kept_is ∙ (planned.growth f is).kept_is in
    record {
      entry_is = entry ∙ planned.entry_is ∙ ap (entry_for v.disk.bsize name asked) (sym on.tree_is);
      shape_is = on.shape_is;
      unit_is = on.unit_is;
      bsize_is = on.bsize_is;
      kept = front;
      own = own_free v name f asked stamp d (file 0) on.bsize_is (kept.pointer ∙ ap (λ (s : DraftShape). pointer_size s.format) on.shape_is) front;
      file = file;
    }

-- none of its new records is put yet
pub more_behind : (v : HeldVolume) (f : HeldFile) (asked : DraftShape) (g : Growth) (tree : HeldTree) (b : Begun) (put : ℕ) (d : Draft) → IsBlockSize v.disk.bsize
    → IsContinued v.unit v.disk.bsize put asked tree b d.writer → IsDrafting d.writer → put ≡ f.entry.count → b.kept ≡ kept_in v.disk.bsize f → b.filled ≡ f.size % v.disk.bsize → IsBehind f asked d
more_behind v f asked g tree b put d size on kept count kept_is filled =
    let w = d.writer.writer in
    let bsize = v.disk.bsize in
    let low = (block_bounds bsize size).0 in
    let whole : f.size / bsize * bsize + f.size % bsize ≡ f.size = div-add-mod' f.size bsize in
    let less : f.size % bsize < bsize = mod-lt f.size (omega arith) in
    let is : came w ≡ f.size = on.came_is ∙ (λ i. kept_is i * bsize + filled i) ∙ whole in
    let parts : w.whole * bsize + w.filled ≡ f.size = (λ i. w.whole * sym on.bsize_is i + w.filled) ∙ is in
    let unfilled : w.filled < bsize = subst (λ (n : ℕ). w.filled < n) on.bsize_is kept.unfilled in
    record {
      put = on.put_is ∙ count;
      came_is = is;
      size_is = kept.size ∙ ap (λ (s : DraftShape). s.bytes) on.shape_is;
      whole = same_quotient bsize w.whole (f.size / bsize) f.size w.filled (f.size % bsize) parts unfilled whole less ∙ sym (on.kept ∙ kept_is);
    }

-- a fault of reading is none where it would pass a limit, or has no room
pub read_refused : (v : HeldVolume) (name : Name) (place : ℕ) (f : HeldFile) (asked : DraftShape) (stamp : Stamp) (plan : GrownPlan) (why : MoreFault) → IsGrownPlan v name place asked stamp plan
    → slice_get v.files place ≡ Some f → (at : IsGrowthPlanned v name f asked stamp plan.tree plan.systems 0) → need_more v place f asked ≤ length (free_blocks v.bits) → IsReadFault why
    → IsMoreRefused v place f asked why
read_refused v name place f asked stamp plan (more.Limit which) planned is at room fault = absurd fault
read_refused v name place f asked stamp plan (more.Full needs free) planned is at room fault = absurd fault
read_refused v name place f asked stamp plan more.Device planned is at room fault = (at.unlimited, room)
read_refused v name place f asked stamp plan more.Memory planned is at room fault = tt
