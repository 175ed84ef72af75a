-- A volume is held as before as long as its label isn't written.
use Rattle.std.proofs.Common.{◌≡◌, inl, inr, ⊎_elim, ℕ, ◌≤◌, Bool, true, false, not, List, [], ◌∷◌, ◌++◌, length, None, refl, sym, ◌∙◌, ap, subst, arith}
use Rattle.std.specs.Prelude.{◌&&◌, ◌||◌}
use Rattle.cms_journal.specs.Journal.{Journal, start_of}
use Rattle.cms_journal.specs.declared.event.Event.{Event}
use Rattle.cms_journal.specs.declared.event.Event.TheVariants.{Wrote, Synced}
use Rattle.cms_names.specs.declared.name.Format.TheVariants.{F}
use Rattle.cms_fields.specs.declared.label.Label.{Label}
use Rattle.cms_model.specs.Lists.{In, holds}
use Rattle.cms_model.specs.Trees.{Image, bytes_at, form_of}
use Rattle.cms_model.specs.Maps.{is_marked}
use Rattle.cms_model.specs.Volumes.{Disk, HoldsSystem}
use Rattle.cms_model.specs.Stands.{Comes, Layout, Stands, file_blocks, layout_blocks, opened}
use Rattle.cms_model.specs.Settled.{Write, Apart, frame, writes}
use Rattle.cms_model.specs.LawsUpdates.{AreWithin, IsFront, after, now, to_label}
use Rattle.cms_model.proofs.Fronts.{Cut, cut_front, front_nil}
use Rattle.cms_model.proofs.Images.{wrote_other}
use Rattle.cms_model.proofs.Members.{In-left, In-right}
use Rattle.cms_model.proofs.OpenedVolumes.{open_ok}
use Rattle.cms_model.proofs.Renewed.{renewed_stands}
use Rattle.cms_model.proofs.Repeats.{held, in_held}
use Rattle.cms_model.proofs.SettledUnits.{keeps_old, synced_now}
use Rattle.cms_model.proofs.TreeFrame.{tree_inside}
use Rattle.cms_model.proofs.VolumeFrame.{bytes_keep}
use Rattle.cms_model.proofs.WritesPut.{writes_put}
use Rattle.cms_map.specs.Bits.{bits_in}
use Rattle.cms_held.specs.LawsRenewals.{AreBlocks, FrontKeepsHeld}
use Rattle.cms_held.proofs.OldBlocks.{old_blocks, past_label, same_blocks}
use Rattle.cms_held.proofs.Renewals.{comes_from}
use Rattle.cms_held.proofs.Edits.{come_all, old_all}
use Rattle.cms_held.proofs.TreesStay.{trees_stay}
use Rattle.cms_held.proofs.WritesPut.{put_long}

-- ---- an image with the same bytes in a volume's blocks

pub same_map : (disk : Disk) (before later : Image) (old : Layout) → Stands disk before old → ((n : ℕ) → In n (layout_blocks old) → before n ≡ later n)
    → bytes_at before old.map_met.leaves ≡ bytes_at later old.map_met.leaves
same_map disk before later old stands same =
    let form = form_of disk.bsize old.label.blocks F in
    bytes_keep before later old.map_met.leaves (λ n in'. same n
    (In-right n old.directory_met.blocks (old.map_met.blocks ++ file_blocks old.files) (In-left n old.map_met.blocks (file_blocks old.files)
    (tree_inside form before old.map.levels None old.label.origin old.map.root old.map.blocks old.map_met stands.system.map_met n in'))))

either : (b : Bool) → b ≡ ((b && not false) || false)
either true = refl
either false = refl

-- with a label of as many blocks the volume stands in it
pub same_stands : (disk : Disk) (before later : Image) (old : Layout) (label : Label) → label.blocks ≡ old.label.blocks → Stands disk before old
    → HoldsSystem disk later (opened (record old { label = label }))
    → ((n : ℕ) → In n (layout_blocks old) → before n ≡ later n) → Stands disk later (record old { label = label })
same_stands disk before later old label blocks stands system same =
    let map_same = same_map disk before later old stands same in
    let total = old.label.blocks in
    let come = come_all disk total before later (layout_blocks old) old.files (old_all disk total before (layout_blocks old) old.files stands.files
    (λ n in'. In-right n old.directory_met.blocks (old.map_met.blocks ++ file_blocks old.files) (In-right n old.map_met.blocks (file_blocks old.files) in'))) in
    renewed_stands disk before later old (record old { label = label }) (λ (n : ℕ). false) (λ (n : ℕ). false) (record {
      old_stands = stands;
      system = system;
      total = blocks;
      lost = refl;
      names = stands.names;
      files = subst (λ (n : ℕ). Comes disk n before later old.files) (sym blocks) (comes_from disk total before later (layout_blocks old) old.files same come);
      apart = stands.apart;
      exchange = record {
        blocks = λ n late high. either (holds (layout_blocks old) n);
        marks = λ n late high. ap (λ (b : List ℕ). is_marked b n) (sym map_same) ∙ either (is_marked (bytes_at before old.map_met.leaves) n);
        free = λ n is. absurd (clash is);
        had = λ n is. absurd (clash is);
      };
    })
  where
    clash : false ≡ true → ⊥
    clash e = cc

-- ---- a front of writes

-- blocks that aren't written stay
agree_front : (j : Journal) (u : ℕ) (ws : List Write) (p : List Event) (ns : List ℕ) → Apart ws ns → IsFront p (to_label u ws) → (n : ℕ) → In n ns → 1 ≤ n → now (after j p) u n ≡ now j u n
unfolding writes
agree_front j u [] p ns apart f n in' some = ⊎_elim
    (λ (none : p ≡ []). ap (λ (q : List Event). now (after j q) u n) none)
    (λ (cut : Cut p (Synced u) []).
    let none = front_nil cut.piece cut.front in
    ap (λ (q : List Event). now (after j q) u n) (cut.is ∙ ap (λ (q : List Event). Synced u ∷ q) none) ∙ ap (λ (i : Image). i n) (synced_now j u))
    (cut_front p (Synced u) [] f)
agree_front j u (w ∷ ws) p ns apart f n in' some = ⊎_elim
    (λ (none : p ≡ []). ap (λ (q : List Event). now (after j q) u n) none)
    (λ (cut : Cut p (Wrote u w.block w.bytes) (to_label u ws)).
    ap (λ (q : List Event). now (after j q) u n) cut.is
    ∙ (agree_front (after j (Wrote u w.block w.bytes ∷ [])) u ws cut.piece ns apart.1 cut.front n in' some
    ∙ wrote_other j.events u w.block n w.bytes (start_of j.units u) some (λ is. apart.0 (subst (λ (k : ℕ). In k ns) (sym is) in'))))
    (cut_front p (Wrote u w.block w.bytes) (to_label u ws) f)

-- and each stays a block
long_front : (j : Journal) (u bsize count : ℕ) (ws : List Write) (p : List Event) → AreBlocks bsize ws → AreWithin (length (start_of j.units u)) ws → IsFront p (to_label u ws)
    → ((n : ℕ) → 1 ≤ n → n ≤ count → length (now j u n) ≡ bsize) → (n : ℕ) → 1 ≤ n → n ≤ count → length (now (after j p) u n) ≡ bsize
unfolding writes
long_front j u bsize count [] p blocks within f long n from to = ⊎_elim
    (λ (none : p ≡ []). ap (λ (q : List Event). length (now (after j q) u n)) none ∙ long n from to)
    (λ (cut : Cut p (Synced u) []).
    let none = front_nil cut.piece cut.front in
    ap (λ (q : List Event). length (now (after j q) u n)) (cut.is ∙ ap (λ (q : List Event). Synced u ∷ q) none) ∙ (ap (λ (i : Image). length (i n)) (synced_now j u) ∙ long n from to))
    (cut_front p (Synced u) [] f)
long_front j u bsize count (w ∷ ws) p blocks within f long n from to = ⊎_elim
    (λ (none : p ≡ []). ap (λ (q : List Event). length (now (after j q) u n)) none ∙ long n from to)
    (λ (cut : Cut p (Wrote u w.block w.bytes) (to_label u ws)).
    let later = after j (Wrote u w.block w.bytes ∷ []) in
    ap (λ (q : List Event). length (now (after j q) u n)) cut.is
    ∙ long_front later u bsize count ws cut.piece blocks.1 within.2 cut.front (λ m low high. one m low high) n from to)
    (cut_front p (Wrote u w.block w.bytes) (to_label u ws) f)
  where
    one : (m : ℕ) → 1 ≤ m → m ≤ count → length (now (after j (Wrote u w.block w.bytes ∷ [])) u m) ≡ bsize
    one m low high = ap (λ (l : List ℕ). length l) (writes_put j u (w ∷ []) m (within.0, within.1, tt) low) ∙ put_long bsize (now j u) (w ∷ []) m (blocks.0, tt) (long m low high)

pub front_keeps_held : FrontKeepsHeld
front_keeps_held j v old ws p x blocks within apart front =
    let u = v.unit in
    let before = now j u in
    let later = now (after j p) u in
    let settled = keeps_old v.disk j u ws p (opened old) x.settled apart front in
    let system = (open_ok v.disk later (opened old) settled.opens).system in
    let same : (n : ℕ) → In n (layout_blocks old) → before n ≡ later n = λ n in'. sym (agree_front j u ws p (frame (opened old)) apart front n
    (inr (inr (subst (In n) (sym (same_blocks old)) in'))) (low n in')) in
    record {
      whole = record { size = x.whole.size; small = x.whole.small; each = long_front j u v.disk.bsize v.disk.count ws p blocks within front x.whole.each };
      attached = x.attached;
      settled = settled;
      stands = same_stands v.disk before later old old.label refl x.stands system same;
      held = record {
        unit_is = refl;
        disk_is = refl;
        label_is = x.held.label_is;
        bytes_are = x.held.bytes_are ∙ sym (agree_front j u ws p (frame (opened old)) apart front 3 (inl refl) (omega arith));
        directory_is = x.held.directory_is;
        map_is = x.held.map_is;
        bits_are = x.held.bits_are ∙ ap (λ (b : List ℕ). bits_in old.label.blocks b) (same_map v.disk before later old x.stands same);
        files_are = x.held.files_are;
        lost_is = x.held.lost_is;
      };
      trees = trees_stay u v.disk before later old v x.held same x.trees;
    }
  where
    low : (n : ℕ) → In n (layout_blocks old) → 1 ≤ n
    low n in' =
        let four = past_label (old_blocks j v old x) n (held n (layout_blocks old) (in_held n (layout_blocks old) in')) in
        omega arith
