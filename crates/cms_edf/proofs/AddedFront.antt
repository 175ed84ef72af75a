-- What comes in front of records that are added stays as blocks of the draft are written.
use Rattle.std.proofs.Common.{◌≡◌, inl, inr, ℕ, ◌/◌, ◌≤◌, List, [], ◌∷◌, length, take, Some, refl, sym, ◌∙◌, ap, subst, arith}
use Rattle.std.specs.Prelude.{slice_get}
use Rattle.std.proofs.lemmas.List.Elements.{All-cons, All-head, All-nil, All-tail}
use Rattle.cms_journal.specs.Journal.{Journal, start_of}
use Rattle.std.specs.Option.{ForSome}
use Rattle.cms_journal.specs.Told.{Told, plus}
use Rattle.cms_names.specs.declared.name.Name.{Name}
use Rattle.cms_fields.specs.Entries.{pointer_size}
use Rattle.cms_fields.specs.declared.time.Stamp.{Stamp}
use Rattle.cms_model.specs.Lists.{In}
use Rattle.cms_model.specs.LawsUpdates.{AreWithin, after, now}
use Rattle.cms_model.specs.Minidisks.{Minidisk}
use Rattle.cms_model.specs.Settled.{Apart, Write, writes}
use Rattle.cms_model.specs.Trees.{Image}
use Rattle.cms_model.proofs.Members.{In-left, In-right}
use Rattle.cms_model.proofs.Repeats.{held, in_held}
use Rattle.cms_model.proofs.VolumeFrame.{bytes_keep}
use Rattle.cms_model.proofs.WritesPut.{apart_is_kept, writes_put}
use Rattle.cms_map.specs.Bits.{free_blocks}
use Rattle.cms_tree.specs.Climbs.{AreOwn}
use Rattle.cms_tree.proofs.BuiltTrees.{fan_wide}
use Rattle.cms_held.specs.Drafts.{Front}
use Rattle.cms_held.specs.HeldVolumes.{HeldFile, HeldVolume}
use Rattle.cms_held.specs.Kept.{IsKeptFile}
use Rattle.cms_held.specs.MinidiskUpdates.{IsHeldMinidisk}
use Rattle.cms_held.specs.Puts.{AreFree}
use Rattle.cms_held.specs.Renewals.{blocks_in}
use Rattle.cms_held.specs.SharedBlocks.{AreLong}
use Rattle.cms_held.specs.SharedTrees.{HasShape}
use Rattle.cms_held.proofs.Drafted.{fan_is}
use Rattle.cms_held.proofs.GrownFronts.{front_stays}
use Rattle.cms_held.proofs.OldBlocks.{old_blocks}
use Rattle.cms_held.proofs.PutAsides.{free_aside, free_of}
use Rattle.cms_held.specs.BlockWriters.{AddsOwnBlocks, its_blocks}
use Rattle.cms_held.specs.declared.shape.DraftShape.{DraftShape}
use Rattle.cms_held.proofs.FilePuts.{both_sizes as pointer_kind}
use Rattle.cms_held.proofs.AddCarried.{kept_at}
use Rattle.cms_edf.specs.FileDrafts.{Draft, tree_of}
use Rattle.cms_edf.specs.Growths.{IsFrontOf, IsGrowthPlanned, IsMoreFor, kept_in}
use Rattle.cms_edf.proofs.Finished.{told_so}
use Rattle.cms_edf.proofs.GrownOnce.{file_blocks_of}

-- blocks that have their bytes in one image have them in one that is the same there
long_moves : (bsize : ℕ) (before later : Image) (ns : List ℕ) → ((n : ℕ) → In n ns → before n ≡ later n) → AreLong bsize before ns → AreLong bsize later ns
long_moves bsize before later [] same long = All-nil (λ n. length (later n) ≡ bsize)
long_moves bsize before later (n ∷ ns) same long =
    let P = λ (m : ℕ). length (before m) ≡ bsize in
    All-cons (λ m. length (later m) ≡ bsize) n ns (ap (λ (l : List ℕ). length l) (sym (same n (inl refl))) ∙ All-head P n ns long)
    (long_moves bsize before later ns (λ m there. same m (inr there)) (All-tail P n ns long))

-- writes of blocks of one's own are apart from others
own_apart : (size : ℕ) (blocks ns : List ℕ) (ws : List Write) → AreOwn size blocks ws → ((n : ℕ) → In n blocks → In n ns → ⊥) → Apart ws ns
own_apart size blocks ns [] own apart = tt
own_apart size blocks ns (w ∷ ws) own apart = (apart w.block own.0, own_apart size blocks ns ws own.2 apart)

own_within : (size count : ℕ) (blocks : List ℕ) (ws : List Write) → AreOwn size blocks ws → ((n : ℕ) → In n blocks → (1 ≤ n) × (n ≤ count)) → AreWithin count ws
own_within size count blocks [] own within = tt
own_within size count blocks (w ∷ ws) own within = let here = within w.block own.0 in (here.0, here.1, own_within size count blocks ws own.2 within)

-- writes to free blocks leave the blocks of a file as they are
pub file_stays : (j : Journal) (v : HeldVolume) (m : Minidisk) (place : ℕ) (f : HeldFile) (blocks : List ℕ) (ws : List Write) → IsHeldMinidisk j v m → slice_get v.files place ≡ Some f
    → AreFree v blocks → AreOwn v.disk.bsize blocks ws → (n : ℕ) → In n (blocks_in f.tree) → now j v.unit n ≡ now (after j (writes v.unit ws)) v.unit n
file_stays j v m place f blocks ws is_held there are_free own n in' =
    apart_is_kept (now j v.unit) ws (blocks_in f.tree) (own_apart v.disk.bsize blocks (blocks_in f.tree) ws own apart) n in'
    ∙ sym (writes_put j v.unit ws n (own_within v.disk.bsize (length (start_of j.units v.unit)) blocks ws own within)
    ((file_blocks_of j v m place f is_held there n).low (held n (blocks_in f.tree) (in_held n (blocks_in f.tree) in'))))
  where
    apart : (k : ℕ) → In k blocks → In k (blocks_in f.tree) → ⊥
    apart k mine its =
        let taken = free_of v blocks are_free k mine in
        let gone = (file_blocks_of j v m place f is_held there k).used (held k (free_blocks v.bits) (in_held k (free_blocks v.bits) taken)) in
        let some = held k (blocks_in f.tree) (in_held k (blocks_in f.tree) its) in
        omega arith

    within : (k : ℕ) → In k blocks → (1 ≤ k) × (k ≤ length (start_of j.units v.unit))
    within k mine =
        let a = free_aside j v is_held.layout is_held.at k (free_of v blocks are_free k mine) in
        let six = a.low in
        let high = a.high in
        let top = (old_blocks j v is_held.layout is_held.at).top in
        let attached = is_held.at.attached in
        (omega arith, omega arith)

-- what comes in front is then what the unit has
pub front_behind : (j : Journal) (v : HeldVolume) (m : Minidisk) (name : Name) (f : HeldFile) (shape : DraftShape) (stamp : Stamp) (d : Draft) (front : Front) (ws : List Write)
    → IsHeldMinidisk j v m → IsMoreFor v name f shape stamp d → AreOwn v.disk.bsize (its_blocks d.writer.writer) ws → IsFrontOf j v f (tree_of d) front
    → IsFrontOf (after j (writes v.unit ws)) v f (tree_of d) front
front_behind j v m name f shape stamp d front ws is_held p own read = record {
  long = long_moves bsize before later f.tree.leaves (λ n there. same n (In-left n f.tree.leaves f.tree.pointers there)) read.long;
  begins = read.begins;
  bytes_are = read.bytes_are ∙ ap (take f.size) (bytes_keep before later f.tree.leaves (λ n there. same n (In-left n f.tree.leaves f.tree.pointers there)));
  count_is = read.count_is;
  place_is = read.place_is;
  nodes_are = read.nodes_are ∙ front_stays (bsize / pointer_size f.entry.format) (pointer_size f.entry.format) before later f.tree (record { last = f.entry.count; place = f.start }) (kept_in bsize f)
      (length (tree_of d).leaves) (fan_wide bsize (pointer_size f.entry.format) at.ready.kept.sized (pointer_kind f.entry.format))
      (subst (λ (n : ℕ). HasShape n f.tree) (sym (fan_is bsize f.entry.format)) kept.shape) at.keeps.kept_old (λ n there. same n (In-right n f.tree.leaves f.tree.pointers there));
}
  where
    bsize : ℕ
    bsize = v.disk.bsize

    before : Image
    before = now j v.unit

    later : Image
    later = now (after j (writes v.unit ws)) v.unit

    at : IsGrowthPlanned v name f shape stamp (tree_of d) d.systems 0
    at = p.file 0

    kept : IsKeptFile bsize v.label.blocks f
    kept = kept_at v at.place f at.ready.kept at.is

    same : (n : ℕ) → In n (blocks_in f.tree) → before n ≡ later n
    same n there = file_stays j v m at.place f (its_blocks d.writer.writer) ws is_held at.is p.own own n there

-- so it is what the unit has where blocks of the draft were added
pub front_told : (j : Journal) (old new : Told) (v : HeldVolume) (m : Minidisk) (name : Name) (f : HeldFile) (shape : DraftShape) (stamp : Stamp) (d : Draft) (front : Front) → old ≡ Some j
    → IsHeldMinidisk j v m → IsMoreFor v name f shape stamp d → AddsOwnBlocks old new d.writer.writer → IsFrontOf j v f (tree_of d) front
    → ForSome new (λ k. IsFrontOf k v f (tree_of d) front)
front_told j old new v m name f shape stamp d front is is_held p own read =
    told_so j new (writes v.unit own.part) (λ k. IsFrontOf k v f (tree_of d) front)
    (own.told ∙ ap (λ (t : Told). plus t (writes d.writer.writer.unit own.part)) is ∙ ap (λ (u : ℕ). plus (Some j) (writes u own.part)) p.unit_is)
    (front_behind j v m name f shape stamp d front own.part is_held p (subst (λ (n : ℕ). AreOwn n (its_blocks d.writer.writer) own.part) p.bsize_is own.own) read)
