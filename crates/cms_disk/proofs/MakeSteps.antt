-- The making of an empty minidisk is two device steps of a machine.
use Rattle.std.proofs.Common.{◌≡◌, ◌≢◌, ◌⊎◌, inl, inr, ⊎_elim, ℕ, ◌+◌, ◌≤◌, List, [], ◌∷◌, length, map, take, drop, replicate, slice_get, Some, None, Result, Ok, Err, refl, sym, ◌∙◌, ap, subst, arith, length-append}
use Rattle.std.proofs.lemmas.Bool.{cases_eq}
use Rattle.std.proofs.lemmas.List.{length-map, length-replicate}
use Rattle.std.proofs.lemmas.List.FromFn.{length-range_with_len}
use Rattle.std.specs.List.{range_with_len}
use Rattle.cms_journal.specs.declared.event.Event.{Event}
use Rattle.cms_journal.specs.declared.event.Event.TheVariants.{Wrote, Synced}
use Rattle.cms_journal.specs.Journal.{Journal, HasBlocks, contents, start_of}
use Rattle.cms_journal.specs.Told.{Told, plus, syncs, IsOfUnit, OnlyOf}
use Rattle.cms_journal.proofs.Crashes.{length-contents}
use Rattle.cms_journal.proofs.Events.{all_front}
use Rattle.cms_journal.proofs.Steps.{contents_wrote}
use Rattle.cms_fields.specs.declared.time.Stamp.{Stamp}
use Rattle.cms_model.specs.LawsUpdates.{AddsFront, IsFront, after, now, to_label, wipe, with_label}
use Rattle.cms_model.specs.LawsUpdates as law
use Rattle.cms_model.specs.Lists.{cut, times}
use Rattle.cms_model.specs.Minidisks.{Minidisk, State, Volume, Not}
use Rattle.cms_model.specs.Settled.{IsFirm, IsSettled, Write, update, writes}
use Rattle.cms_model.specs.Sizes.{map_size}
use Rattle.cms_model.specs.Stands.{opened}
use Rattle.cms_model.specs.Trees.{image_of}
use Rattle.cms_model.specs.Volumes.{Disk, Opened, minidisk_of, state_of}
use Rattle.cms_model.proofs.Fronts.{front_of_front}
use Rattle.cms_model.proofs.Images.{contents_have, put_same, synced_contents, wrote_other}
use Rattle.cms_model.proofs.Renewed.{minidisk_is}
use Rattle.cms_model.proofs.SettledUnits.{settled_is_firm}
use Rattle.cms_model.proofs.Wipes.{wipe_is_whole, wiped_is_none}
use Rattle.cms_model.specs.Slots.{Side, Before, After, Settled, named, set_of, state_in}
use Rattle.cms_model.specs.Steps.{Outcome, Good, OldFault, EitherFault, Make, MayMake, slot_after, update_syncs}
use Rattle.cms_model.specs.Beats.{AreStamped, HasStamp, IsStamped, written_count}
use Rattle.cms_model.proofs.Aside.{of_disk}
use Rattle.cms_model.proofs.StepsFit.{syncs_counted, update_count as two_syncs}
use Rattle.cms_held.specs.MinidiskUpdates.{IsHeldMinidisk}
use Rattle.cms_held.specs.EmptyVolumes.{MakePlan, IsEmptyVolume, IsReadyUnit, MakesEmpty, made_volume, made_writes}
use Rattle.cms_held.specs.HeldVolumes.{HeldVolume}
use Rattle.cms_held.specs.Systems.{Systems, block_writes, directory_pieces, map_pieces, node_writes}
use Rattle.cms_held.specs.LawsRenewals.{AreBlocks}
use Rattle.cms_held.proofs.Made.{all_written, directory_long, facts, laid_out, made_empty, made_placed, map_times}
use Rattle.cms_held.proofs.NewMap.{row_within}
use Rattle.cms_held.proofs.WritesLong.{system_blocks}
use Rattle.cms_edf.specs.Doubts.{IsCutOff}
use Rattle.cms_edf.proofs.Finished.{to_front, with_front}
use Rattle.cms_edf.specs.declared.doubt.Doubt.{Doubt}
use Rattle.cms_edf.specs.declared.doubt.Doubt.TheVariants.{Old, Either}
use Rattle.cms_disk.specs.Disks.{Accessed, IsQuiet, disk_on}
use Rattle.cms_disk.specs.Changes.{fault_of}
use Rattle.cms_disk.specs.CrashStates.{CoversOn}
use Rattle.cms_disk.specs.EmptyMinidisks.{DoesBoth, DoesWipe, Doubted, Emptied, Formats, GrownOf, IsMakeFault, IsReady, LeavesQuiet, Made, empty_on}
use Rattle.cms_disk.specs.declared.fault.DiskFault.{DiskFault}
use Rattle.cms_disk.specs.declared.fault.DiskFault.TheVariants as failed
use Rattle.cms_disk.specs.declared.unit.UnitInfo.{UnitInfo}
use Rattle.cms_disk.proofs.DisksTold.{is_minidisk}
use Rattle.cms_disk.proofs.StepPieces.{AreWhole, covered, first_stamped, front_has_stamp, front_whole, grown_front, grown_of, grown_then, has_state, has_whole, high_stamped, label_aside, one_sync, only_update, only_writes, stamped_behind, start_has, told_after, update_stamped, update_whole, whole_after, whole_front, written_front, written_update}

-- ---- the wiping

-- a quiet unit has the state of its contents in every crash image
quiet_firm : (disk : Disk) (j : Journal) (u : ℕ) (before : State) → IsQuiet disk j u → state_of disk (now j u) ≡ before → IsFirm disk j u before
quiet_firm disk j u before quiet same = ⊎_elim
    (λ (s : (v : Opened) × IsSettled disk j u v). from (Volume (minidisk_of disk s.0)) (settled_is_firm disk j u s.0 s.1).1)
    (λ (n : (k : ℕ) × IsFirm disk j u (Not k)). from (Not n.0) n.1)
    quiet
  where
    from : (state : State) → IsFirm disk j u state → IsFirm disk j u before
    from state firm = subst (IsFirm disk j u) (sym (contents_have j u (λ image. state_of disk image ≡ state) firm) ∙ same) firm

zeroed : (j : Journal) (unit : UnitInfo) (before : State) → IsReady j unit before → law.Wipes (disk_on unit) j unit.unit.number unit.bsize before
zeroed j unit before r = wipe_is_whole (disk_on unit) j unit.unit.number unit.bsize before (quiet_firm (disk_on unit) j unit.unit.number before r.quiet r.state)

only_wipe : (u size : ℕ) → OnlyOf u (wipe u size)
only_wipe u size = (refl, (refl, tt))

stamped_wipe : (u size : ℕ) → AreStamped u None (wipe u size)
stamped_wipe u size = ((λ same at. label_aside at), (tt, tt))

wipe_whole : (u size : ℕ) → AreWhole u size (wipe u size)
wipe_whole u size = ((refl, length-replicate {A = ℕ} size 0), (refl, tt))

-- it was whole
pub wiped : (j : Journal) (old mid : Told) (unit : UnitInfo) (before : State) → old ≡ Some j → IsReady j unit before → mid ≡ plus old (wipe unit.unit.number unit.bsize)
    → DoesWipe old mid unit before Good
wiped j old mid unit before is r told =
    let u = unit.unit.number in
    let disk = disk_on unit in
    let events = wipe u unit.bsize in
    let z = zeroed j unit before r in
    let none = wiped_is_none disk (after j events) u z.whole in
    record {
      events = events;
      told = told;
      of_unit = only_wipe u unit.bsize;
      fits = record { disk = of_disk u events (only_wipe u unit.bsize); synced = refl; stamped = stamped_wipe u unit.bsize; few = omega arith; outcome = tt };
      covers = covered j old u disk is events (before ∷ []) (Not 2 ∷ [])
          (λ p front image left. ⊎_elim (λ (a : state_of disk (image_of image) ≡ before). inl (inl a)) (λ (b : state_of disk (image_of image) ≡ Not 2). inr (inl b)) (z.either p front image left))
          (λ image left. inl (none image left));
      left = has_state j old mid events disk u (Not 2) is told (contents_have (after j events) u (λ image. state_of disk image ≡ Not 2) none);
      whole = has_whole j old mid events disk u is told (whole_after j u disk events (wipe_whole u unit.bsize) r.whole);
    }

-- it was cut off
cut_wipe : (j : Journal) (old new : Told) (unit : UnitInfo) (before : State) (side : Side) (p : List Event) → old ≡ Some j → IsReady j unit before → new ≡ plus old p
    → IsFront p (wipe unit.unit.number unit.bsize) → syncs p ≡ 0 → state_of (disk_on unit) (now (after j p) unit.unit.number) ≡ named before (Not 2) side
    → DoesWipe old new unit before (EitherFault side)
cut_wipe j old new unit before side p is r told front none state =
    let u = unit.unit.number in
    let disk = disk_on unit in
    let events = wipe u unit.bsize in
    let z = zeroed j unit before r in
    let only = all_front (IsOfUnit u) p front.rest (subst (OnlyOf u) (sym front.is) (only_wipe u unit.bsize)) in
    record {
      events = p;
      told = told;
      of_unit = only;
      fits = record {
        disk = of_disk u p only;
        synced = none;
        stamped = all_front (IsStamped u None) p front.rest (subst (AreStamped u None) (sym front.is) (stamped_wipe u unit.bsize));
        few = written_front p events front;
        outcome = tt;
      };
      covers = covered j old u disk is p (before ∷ []) (before ∷ Not 2 ∷ [])
          (λ q inner image left. ⊎_elim (λ (a : state_of disk (image_of image) ≡ before). inl (inl a)) (λ (b : state_of disk (image_of image) ≡ Not 2). inr (inr (inl b)))
          (z.either q (front_of_front q p events inner front) image left))
          (λ image left. ⊎_elim (λ (a : state_of disk (image_of image) ≡ before). inl a) (λ (b : state_of disk (image_of image) ≡ Not 2). inr (inl b)) (z.either p front image left));
      left = has_state j old new p disk u (named before (Not 2) side) is told state;
      whole = has_whole j old new p disk u is told (whole_after j u disk p (front_whole u unit.bsize p events front (wipe_whole u unit.bsize)) r.whole);
    }

pub wipe_doubted : (j : Journal) (old new : Told) (unit : UnitInfo) (before : State) (volid : List ℕ) (stamp : Stamp) → old ≡ Some j → IsReady j unit before
    → (new ≡ old) ⊎ (new ≡ plus old (Wrote unit.unit.number 3 (replicate unit.bsize 0) ∷ [])) → Doubted old new unit before volid stamp
wipe_doubted j old new unit before volid stamp is r (inl same) =
    let u = unit.unit.number in
    record { side = Before; step = inl (cut_wipe j old new unit before Before [] is r same (record { rest = wipe u unit.bsize; is = refl }) refl r.state) }
wipe_doubted j old new unit before volid stamp is r (inr more) =
    let u = unit.unit.number in
    record {
      side = After;
      step = inl (cut_wipe j old new unit before After (Wrote u 3 (replicate unit.bsize 0) ∷ []) is r more (record { rest = Synced u ∷ []; is = refl }) refl (zeroed j unit before r).zeroed);
    }

-- ---- the wiped unit

wiped_other : (j : Journal) (u size n : ℕ) → 1 ≤ n → n ≢ 3 → now (after j (wipe u size)) u n ≡ now j u n
wiped_other j u size n low other =
    let start = start_of j.units u in
    let zeros = replicate size 0 in
    ap (λ (blocks : List (List ℕ)). image_of blocks n) (synced_contents u (Wrote u 3 zeros ∷ j.events) u start) ∙ wrote_other j.events u 3 n zeros start low (λ same. other (sym same))

wiped_label : (j : Journal) (u size : ℕ) → 3 ≤ length (start_of j.units u) → now (after j (wipe u size)) u 3 ≡ replicate size 0
wiped_label j u size room =
    let start = start_of j.units u in
    let zeros : List ℕ = replicate size 0 in
    let long = length-contents j.events u start in
    ap (λ (blocks : List (List ℕ)). image_of blocks 3) (synced_contents u (Wrote u 3 zeros ∷ j.events) u start ∙ contents_wrote j.events u 3 zeros start (omega arith))
    ∙ put_same (contents j.events u start) zeros (omega arith)

-- what is made on a unit
abbrev made_on : UnitInfo → Systems → MakePlan
made_on unit s = record { unit = unit.unit.number; disk = disk_on unit; systems = s }

abbrev made_events : UnitInfo → Systems → List Event
made_events unit s = update unit.unit.number (made_writes (made_on unit s)) s.label_bytes

ready_unit : (j : Journal) (unit : UnitInfo) (before : State) (s : Systems) → IsReady j unit before → HasBlocks j.units unit.unit.number unit.unit.blocks unit.bsize → 8 ≤ unit.unit.blocks
    → IsReadyUnit (after j (wipe unit.unit.number unit.bsize)) (made_on unit s)
ready_unit j unit before s r has least = record {
  whole = record { size = r.whole.size; small = r.whole.small; each = λ n from to. long n from to (cases_eq n 3) };
  attached = room;
  wiped = (zeroed j unit before r).whole;
}
  where
    room : unit.unit.blocks ≤ length (start_of j.units unit.unit.number)
    room = start_has unit.unit.blocks unit.bsize (slice_get j.units unit.unit.number) has

    long : (n : ℕ) → 1 ≤ n → n ≤ unit.unit.blocks → (n ≡ 3) ⊎ (n ≢ 3) → length (now (after j (wipe unit.unit.number unit.bsize)) unit.unit.number n) ≡ unit.bsize
    long n from to (inl is) =
        ap (λ (k : ℕ). length (now (after j (wipe unit.unit.number unit.bsize)) unit.unit.number k)) is
        ∙ (ap (λ (l : List ℕ). length l) (wiped_label j unit.unit.number unit.bsize (let all = room in omega arith)) ∙ length-replicate {A = ℕ} unit.bsize 0)
    long n from to (inr other) = ap (λ (l : List ℕ). length l) (wiped_other j unit.unit.number unit.bsize n from other) ∙ r.whole.each n from to

-- ---- the events of the making

-- its writes have its stamp
stamped_made : {volid : List ℕ} (m : MakePlan) (stamp : Stamp) → IsEmptyVolume m volid stamp → AreStamped m.unit (Some stamp) (update m.unit (made_writes m) m.systems.label_bytes)
unfolding times
stamped_made m stamp e =
    let u = m.unit in
    let b = m.disk.bsize in
    let s = m.systems in
    let f = facts m e in
    let pieces = directory_pieces b s in
    let low = f.low in
    let row = λ (n : ℕ). map_times m e n in
    let in_map : (n : ℕ) → 1 ≤ times n s.map.leaves + times n s.map.pointers → 6 ≤ n =
    λ n some. (row_within 6 (map_size b m.disk.count) n (let same = row n in omega arith)).0 in
    let no_more : (n : ℕ) → times n (drop 1 s.directory.leaves) ≡ 0 = λ n. ap (λ (l : List ℕ). times n (drop 1 l)) f.leaves in
    let no_nodes : (n : ℕ) → times n s.directory.pointers ≡ 0 = λ n. ap (times n) f.pointers in
    let first : take 1 s.directory.leaves ≡ 4 ∷ [] = ap (take 1) f.leaves in
    let stamps : HasStamp (take b s.directory_bytes) stamp = subst (λ (l : List ℕ). HasStamp (take b l) stamp) (sym e.directory_bytes) (front_has_stamp b s [] stamp low) in
    update_stamped u stamp (made_writes m) s.label_bytes
    (subst (λ (ws : List Write). AreStamped u (Some stamp) (writes u ws)) (all_written m e)
    (stamped_behind u stamp (block_writes (drop 1 s.directory.leaves) (drop 1 pieces)) _
    (high_stamped u stamp (drop 1 s.directory.leaves) (drop 1 pieces) (λ n some. absurd (omega (arith, no_more n))))
    (stamped_behind u stamp (node_writes b s.directory) _ (high_stamped u stamp s.directory.pointers _ (λ n some. absurd (omega (arith, no_nodes n))))
    (stamped_behind u stamp (block_writes s.map.leaves (map_pieces b s)) _ (high_stamped u stamp s.map.leaves _ (λ n some. in_map n (omega arith)))
    (stamped_behind u stamp (node_writes b s.map) _ (high_stamped u stamp s.map.pointers _ (λ n some. in_map n (omega arith)))
    (subst (λ (ns : List ℕ). AreStamped u (Some stamp) (writes u (block_writes ns (take 1 pieces)))) (sym first)
    (first_stamped u stamp b 4 (length s.directory.leaves) s.directory_bytes stamps)))))))

-- ---- the making

-- a volume that was planned for a unit, which was wiped
record Setting (j : Journal) (old mid : Told) (unit : UnitInfo) (before : State) (volid : List ℕ) (stamp : Stamp) (s : Systems) : Type 0 where
  told_is : old ≡ Some j
  ready : IsReady j unit before
  has : HasBlocks j.units unit.unit.number unit.unit.blocks unit.bsize
  least : 8 ≤ unit.unit.blocks
  wiped_is : mid ≡ plus old (wipe unit.unit.number unit.bsize)
  empty : IsEmptyVolume (made_on unit s) volid stamp

moves : (j : Journal) (old mid : Told) (unit : UnitInfo) (before : State) (volid : List ℕ) (stamp : Stamp) (s : Systems) → Setting j old mid unit before volid stamp s
    → MakesEmpty (after j (wipe unit.unit.number unit.bsize)) (made_on unit s) (empty_on unit volid)
moves j old mid unit before volid stamp s x =
    made_empty (after j (wipe unit.unit.number unit.bsize)) (made_on unit s) volid stamp x.empty (ready_unit j unit before s x.ready x.has x.least)

made_whole : {volid : List ℕ} {stamp : Stamp} (unit : UnitInfo) (s : Systems) → IsEmptyVolume (made_on unit s) volid stamp → AreWhole unit.unit.number unit.bsize (made_events unit s)
made_whole unit s e =
    update_whole unit.unit.number unit.bsize (made_writes (made_on unit s)) s.label_bytes (subst (AreBlocks unit.bsize) (all_written (made_on unit s) e) (system_blocks unit.bsize s (directory_long (made_on unit s) e))) (laid_out (made_on unit s) e).label_long

-- it writes the map, the directory's one block and the label
made_count : {volid : List ℕ} {stamp : Stamp} (unit : UnitInfo) (s : Systems) → IsEmptyVolume (made_on unit s) volid stamp
    → written_count (made_events unit s) ≡ map_size unit.bsize unit.unit.blocks + 2
made_count {volid = volid} {stamp = stamp} unit s e =
    let ws = made_writes (made_on unit s) in
    let places = ap (λ (l : List ℕ). length l) (made_placed (made_on unit s) volid stamp e) in
    let each = length-map ws (λ (w : Write). w.block) in
    let row = length-range_with_len 6 (map_size unit.bsize unit.unit.blocks) in
    let both = length-append (range_with_len 6 (map_size unit.bsize unit.unit.blocks)) (4 ∷ []) in
    let all = written_update unit.unit.number ws s.label_bytes in
    omega (arith, places, each, row, both, all)

-- the piece that it made, with its outcome
making : (j : Journal) (old mid new : Told) (unit : UnitInfo) (before : State) (volid : List ℕ) (stamp : Stamp) (s : Systems) → Setting j old mid unit before volid stamp s
    → (o : Outcome) (p : List Event) → new ≡ plus mid p → IsFront p (made_events unit s) → syncs p ≡ update_syncs o → MayMake o
    → CoversOn (disk_on unit) mid p unit.unit.number (Not 2 ∷ []) (set_of (slot_after (Settled (Not 2)) (Make unit.unit.number (Not 2) (empty_on unit volid) stamp) o))
    → state_of (disk_on unit) (now (after (after j (wipe unit.unit.number unit.bsize)) p) unit.unit.number)
    ≡ state_in (slot_after (Settled (Not 2)) (Make unit.unit.number (Not 2) (empty_on unit volid) stamp) o)
    → DoesBoth old new unit before volid stamp o
making j old mid new unit before volid stamp s x o p told front synced may covers state =
    let u = unit.unit.number in
    let events = made_events unit s in
    let later = after j (wipe u unit.bsize) in
    let only = all_front (IsOfUnit u) p front.rest (subst (OnlyOf u) (sym front.is) (only_update u (made_writes (made_on unit s)) s.label_bytes)) in
    record {
      wiped = mid;
      wipes = wiped j old mid unit before x.told_is x.ready x.wiped_is;
      makes = record {
        events = p;
        told = told;
        of_unit = only;
        fits = record {
          disk = of_disk u p only;
          synced = synced;
          stamped = all_front (IsStamped u (Some stamp)) p front.rest (subst (AreStamped u (Some stamp)) (sym front.is) (stamped_made (made_on unit s) stamp x.empty));
          few = (let less = written_front p events front in let all = made_count unit s x.empty in omega (arith, less, all));
          outcome = may;
        };
        covers = covers;
        left = has_state later mid new p (disk_on unit) u (state_in (slot_after (Settled (Not 2)) (Make u (Not 2) (empty_on unit volid) stamp) o))
            (told_after j old mid (wipe u unit.bsize) x.told_is x.wiped_is) told state;
        whole = has_whole later mid new p (disk_on unit) u (told_after j old mid (wipe u unit.bsize) x.told_is x.wiped_is) told
            (whole_after later u (disk_on unit) p (front_whole u unit.bsize p events front (made_whole unit s x.empty))
            (whole_after j u (disk_on unit) (wipe u unit.bsize) (wipe_whole u unit.bsize) x.ready.whole));
      };
    }

-- where its unit is settled at a minidisk, each crash image has that
held_firm : (j : Journal) (v : HeldVolume) (m : Minidisk) → IsHeldMinidisk j v m → IsFirm v.disk j v.unit (Volume m)
held_firm j v m h image left =
    (settled_is_firm v.disk j v.unit (opened h.layout) h.at.settled).1 image left ∙ ap Volume (minidisk_is v.disk h.layout ∙ sym h.minidisk_is)

-- all was done
made_at : (j : Journal) (old mid new : Told) (unit : UnitInfo) (before : State) (volid : List ℕ) (stamp : Stamp) (s : Systems) (d : Accessed) → Setting j old mid unit before volid stamp s
    → new ≡ plus mid (made_events unit s) → d.volume ≡ made_volume (made_on unit s) → Made old new unit before volid stamp d
made_at j old mid new unit before volid stamp s d x told volume =
    let u = unit.unit.number in
    let disk = disk_on unit in
    let events = made_events unit s in
    let later = after j (wipe u unit.bsize) in
    let mid_is = told_after j old mid (wipe u unit.bsize) x.told_is x.wiped_is in
    let made = empty_on unit volid in
    let m = moves j old mid unit before volid stamp s x in
    let firm : IsFirm disk (after later events) u (Volume made) = held_firm (after later events) (made_volume (made_on unit s)) made m.done in
    record {
      both = making j old mid new unit before volid stamp s x Good events told (whole_front events) (two_syncs u (made_writes (made_on unit s)) s.label_bytes) tt
          (covered later mid u disk mid_is events (Not 2 ∷ []) (Volume made ∷ [])
          (λ p front image left. ⊎_elim (λ (a : state_of disk (image_of image) ≡ Not 2). inl (inl a)) (λ (b : state_of disk (image_of image) ≡ Volume made). inr (inl b)) (m.either p front image left))
          (λ image left. inl (firm image left)))
          (contents_have (after later events) u (λ image. state_of disk image ≡ Volume made) firm);
      later = after later events;
      told = told_after later mid new events mid_is told;
      minidisk = is_minidisk (after later events) d made (subst (λ (v : HeldVolume). IsHeldMinidisk (after later events) v made) (sym volume) m.done);
    }

-- it was cut off before its first sync
emptied_at : (j : Journal) (old mid new : Told) (unit : UnitInfo) (before : State) (volid : List ℕ) (stamp : Stamp) (s : Systems) → Setting j old mid unit before volid stamp s
    → AddsFront mid new (writes unit.unit.number (made_writes (made_on unit s))) → Emptied old new unit before volid stamp
emptied_at j old mid new unit before volid stamp s x cut =
    let u = unit.unit.number in
    let disk = disk_on unit in
    let ws = made_writes (made_on unit s) in
    let later = after j (wipe u unit.bsize) in
    let mid_is = told_after j old mid (wipe u unit.bsize) x.told_is x.wiped_is in
    let m = moves j old mid unit before volid stamp s x in
    let p = cut.front in
    let safe : IsFront p (to_label u ws) = front_of_front p (writes u ws) (to_label u ws) cut.is (record { rest = Synced u ∷ []; is = refl }) in
    let firm : (q : List Event) → IsFront q p → IsFirm disk (after later q) u (Not 2) =
    λ q inner. wiped_is_none disk (after later q) u (m.before q (front_of_front q p (to_label u ws) inner safe)) in
    let none = firm p (whole_front p) in
    record {
      both = making j old mid new unit before volid stamp s x OldFault p cut.told (front_of_front p (to_label u ws) (made_events unit s) safe (to_front u ws s.label_bytes))
          ((syncs_counted u ws s.label_bytes 0).update_old p cut.is) tt
          (covered later mid u disk mid_is p (Not 2 ∷ []) (Not 2 ∷ []) (λ q inner image left. inl (inl (firm q inner image left))) (λ image left. inl (none image left)))
          (contents_have (after later p) u (λ image. state_of disk image ≡ Not 2) none);
      later = after later p;
      told = told_after later mid new p mid_is cut.told;
      none = none;
    }

-- it was cut off then
cut_make : (j : Journal) (old mid new : Told) (unit : UnitInfo) (before : State) (volid : List ℕ) (stamp : Stamp) (s : Systems) (side : Side) (p : List Event)
    → Setting j old mid unit before volid stamp s → new ≡ plus mid p → IsFront p (made_events unit s) → syncs p ≡ 1
    → state_of (disk_on unit) (now (after (after j (wipe unit.unit.number unit.bsize)) p) unit.unit.number) ≡ named (Not 2) (Volume (empty_on unit volid)) side
    → Doubted old new unit before volid stamp
cut_make j old mid new unit before volid stamp s side p x told front one state =
    let u = unit.unit.number in
    let disk = disk_on unit in
    let later = after j (wipe u unit.bsize) in
    let mid_is = told_after j old mid (wipe u unit.bsize) x.told_is x.wiped_is in
    let made = empty_on unit volid in
    let m = moves j old mid unit before volid stamp s x in
    record {
      side = side;
      step = inr (making j old mid new unit before volid stamp s x (EitherFault side) p told front one tt
          (covered later mid u disk mid_is p (Not 2 ∷ []) (Not 2 ∷ Volume made ∷ [])
          (λ q inner image left. ⊎_elim (λ (a : state_of disk (image_of image) ≡ Not 2). inl (inl a)) (λ (b : state_of disk (image_of image) ≡ Volume made). inr (inr (inl b)))
          (m.either q (front_of_front q p (made_events unit s) inner front) image left))
          (λ image left. ⊎_elim (λ (a : state_of disk (image_of image) ≡ Not 2). inl a) (λ (b : state_of disk (image_of image) ≡ Volume made). inr (inl b)) (m.either p front image left)))
          state);
    }

doubted_at : (j : Journal) (old mid new : Told) (unit : UnitInfo) (before : State) (volid : List ℕ) (stamp : Stamp) (s : Systems) → Setting j old mid unit before volid stamp s
    → (new ≡ plus mid (to_label unit.unit.number (made_writes (made_on unit s)))) ⊎ (new ≡ plus mid (with_label unit.unit.number (made_writes (made_on unit s)) s.label_bytes))
    → Doubted old new unit before volid stamp
doubted_at j old mid new unit before volid stamp s x (inl told) =
    let u = unit.unit.number in
    let ws = made_writes (made_on unit s) in
    let later = after j (wipe u unit.bsize) in
    let m = moves j old mid unit before volid stamp s x in
    cut_make j old mid new unit before volid stamp s Before (to_label u ws) x told (to_front u ws s.label_bytes) (one_sync u ws)
    (contents_have (after later (to_label u ws)) u (λ image. state_of (disk_on unit) image ≡ Not 2)
    (wiped_is_none (disk_on unit) (after later (to_label u ws)) u (m.before (to_label u ws) (whole_front (to_label u ws)))))
doubted_at j old mid new unit before volid stamp s x (inr told) =
    let u = unit.unit.number in
    let ws = made_writes (made_on unit s) in
    let m = moves j old mid unit before volid stamp s x in
    cut_make j old mid new unit before volid stamp s After (with_label u ws s.label_bytes) x told (with_front u ws s.label_bytes) ((syncs_counted u ws s.label_bytes 0).update_either After)
    m.labelled

-- ---- the same of a plan

-- a plan for a unit, which was wiped
pub record IsPlanned (j : Journal) (old mid : Told) (unit : UnitInfo) (before : State) (volid : List ℕ) (stamp : Stamp) (m : MakePlan) : Type 0 where
  pub told_is : old ≡ Some j
  pub ready : IsReady j unit before
  pub has : HasBlocks j.units unit.unit.number unit.unit.blocks unit.bsize
  pub least : 8 ≤ unit.unit.blocks
  pub wiped_is : mid ≡ plus old (wipe unit.unit.number unit.bsize)
  pub unit_is : m.unit ≡ unit.unit.number
  pub disk_is : m.disk ≡ disk_on unit
  pub empty : IsEmptyVolume m volid stamp

plan_is : (unit : UnitInfo) (m : MakePlan) → m.unit ≡ unit.unit.number → m.disk ≡ disk_on unit → made_on unit m.systems ≡ m
plan_is unit m is_unit is_disk = sym (λ i. record { unit = is_unit i; disk = is_disk i; systems = m.systems })

setting : (j : Journal) (old mid : Told) (unit : UnitInfo) (before : State) (volid : List ℕ) (stamp : Stamp) (m : MakePlan) → IsPlanned j old mid unit before volid stamp m
    → Setting j old mid unit before volid stamp m.systems
setting j old mid unit before volid stamp m x = record {
  told_is = x.told_is;
  ready = x.ready;
  has = x.has;
  least = x.least;
  wiped_is = x.wiped_is;
  empty = subst (λ (k : MakePlan). IsEmptyVolume k volid stamp) (sym (plan_is unit m x.unit_is x.disk_is)) x.empty;
}

pub made : (j : Journal) (old mid new : Told) (unit : UnitInfo) (before : State) (volid : List ℕ) (stamp : Stamp) (m : MakePlan) (d : Accessed) → IsPlanned j old mid unit before volid stamp m
    → new ≡ plus mid (update m.unit (made_writes m) m.systems.label_bytes) → d.volume ≡ made_volume m → Made old new unit before volid stamp d
made j old mid new unit before volid stamp m d x told volume =
    let same = plan_is unit m x.unit_is x.disk_is in
    made_at j old mid new unit before volid stamp m.systems d (setting j old mid unit before volid stamp m x)
    (told ∙ ap (λ (k : MakePlan). plus mid (update k.unit (made_writes k) k.systems.label_bytes)) (sym same)) (volume ∙ ap made_volume (sym same))

emptied : (j : Journal) (old mid new : Told) (unit : UnitInfo) (before : State) (volid : List ℕ) (stamp : Stamp) (m : MakePlan) → IsPlanned j old mid unit before volid stamp m
    → AddsFront mid new (writes m.unit (made_writes m)) → Emptied old new unit before volid stamp
emptied j old mid new unit before volid stamp m x cut =
    emptied_at j old mid new unit before volid stamp m.systems (setting j old mid unit before volid stamp m x)
    (subst (λ (k : MakePlan). AddsFront mid new (writes k.unit (made_writes k))) (sym (plan_is unit m x.unit_is x.disk_is)) cut)

make_doubted : (j : Journal) (old mid new : Told) (unit : UnitInfo) (before : State) (volid : List ℕ) (stamp : Stamp) (m : MakePlan) → IsPlanned j old mid unit before volid stamp m
    → (new ≡ plus mid (to_label m.unit (made_writes m))) ⊎ (new ≡ plus mid (with_label m.unit (made_writes m) m.systems.label_bytes)) → Doubted old new unit before volid stamp
make_doubted j old mid new unit before volid stamp m x cut =
    doubted_at j old mid new unit before volid stamp m.systems (setting j old mid unit before volid stamp m x)
    (subst (λ (k : MakePlan). (new ≡ plus mid (to_label k.unit (made_writes k))) ⊎ (new ≡ plus mid (with_label k.unit (made_writes k) k.systems.label_bytes)))
    (sym (plan_is unit m x.unit_is x.disk_is)) cut)

-- it failed
pub make_failed : (j : Journal) (old mid new : Told) (unit : UnitInfo) (before : State) (volid : List ℕ) (stamp : Stamp) (m : MakePlan) (why : Doubt) → IsPlanned j old mid unit before volid stamp m
    → IsCutOff mid new m.unit (made_writes m) m.systems.label_bytes why → Formats old new unit before volid stamp (Err (fault_of why))
make_failed j old mid new unit before volid stamp m Old x cut = emptied j old mid new unit before volid stamp m x cut
make_failed j old mid new unit before volid stamp m Either x cut = make_doubted j old mid new unit before volid stamp m x cut

pub make_fault : (why : Doubt) → IsMakeFault (fault_of why)
make_fault Old = tt
make_fault Either = tt

pub not_memory : (why : Doubt) → fault_of why ≡ failed.Memory → ⊥
not_memory Old is = cc
not_memory Either is = cc

-- ---- the unit then

leaves_at : (told : Told) (later : Journal) (unit : UnitInfo) (r : Result Accessed DiskFault) → told ≡ Some later → LeavesQuiet (Some later) unit r → LeavesQuiet told unit r
leaves_at told later unit r is quiet = subst (λ (t : Told). LeavesQuiet t unit r) (sym is) quiet

pub made_quiet : (old new : Told) (unit : UnitInfo) (before : State) (volid : List ℕ) (stamp : Stamp) (d : Accessed) → d.volume.unit ≡ unit.unit.number → d.volume.disk ≡ disk_on unit
    → Made old new unit before volid stamp d → LeavesQuiet new unit (Ok d)
made_quiet old new unit before volid stamp d is_unit is_disk x =
    let settled = x.minidisk.settled in
    let there = subst (λ (k : Disk). IsSettled k x.later unit.unit.number x.minidisk.stands.opened) is_disk
    (subst (λ (u : ℕ). IsSettled d.volume.disk x.later u x.minidisk.stands.opened) is_unit settled) in
    leaves_at new x.later unit (Ok d) x.told (inl (x.minidisk.stands.opened, there))

emptied_quiet : (old new : Told) (unit : UnitInfo) (before : State) (volid : List ℕ) (stamp : Stamp) → Emptied old new unit before volid stamp → LeavesQuiet new unit (Err failed.Device)
emptied_quiet old new unit before volid stamp x = leaves_at new x.later unit (Err failed.Device) x.told (inr (2, x.none))

pub failed_quiet : (old new : Told) (unit : UnitInfo) (before : State) (volid : List ℕ) (stamp : Stamp) (why : Doubt) → Formats old new unit before volid stamp (Err (fault_of why))
    → LeavesQuiet new unit (Err (fault_of why))
failed_quiet old new unit before volid stamp Old x = emptied_quiet old new unit before volid stamp x
failed_quiet old new unit before volid stamp Either x = tt

-- ---- its events are of its unit alone

pub wipe_grown : (u size : ℕ) (old mid : Told) → mid ≡ plus old (wipe u size) → GrownOf u old mid
wipe_grown u size old mid told = grown_of u old mid (wipe u size) told (only_wipe u size)

pub grown_cut_wipe : (u size : ℕ) (old new : Told) → (new ≡ old) ⊎ (new ≡ plus old (Wrote u 3 (replicate size 0) ∷ [])) → GrownOf u old new
grown_cut_wipe u size old new (inl same) = grown_of u old new [] same tt
grown_cut_wipe u size old new (inr more) = grown_of u old new (Wrote u 3 (replicate size 0) ∷ []) more (refl, tt)

-- behind a wiping
pub made_grown : (u v size : ℕ) (ws : List Write) (label : List ℕ) (old mid new : Told) → v ≡ u → mid ≡ plus old (wipe u size) → new ≡ plus mid (update v ws label) → GrownOf u old new
made_grown u v size ws label old mid new same wiped_is told =
    grown_then u old mid new (wipe_grown u size old mid wiped_is)
    (grown_of u mid new (update u ws label) (told ∙ ap (λ (w : ℕ). plus mid (update w ws label)) same) (only_update u ws label))

front_grown : (u v size : ℕ) (ws : List Write) (old mid new : Told) → v ≡ u → mid ≡ plus old (wipe u size) → AddsFront mid new (writes v ws) → GrownOf u old new
front_grown u v size ws old mid new same wiped_is cut =
    grown_then u old mid new (wipe_grown u size old mid wiped_is)
    (grown_front u mid new (writes u ws) (only_writes u ws) (subst (λ (w : ℕ). AddsFront mid new (writes w ws)) same cut))

cut_grown : (u v size : ℕ) (ws : List Write) (label : List ℕ) (old mid new : Told) → v ≡ u → mid ≡ plus old (wipe u size)
    → (new ≡ plus mid (to_label v ws)) ⊎ (new ≡ plus mid (with_label v ws label)) → GrownOf u old new
cut_grown u v size ws label old mid new same wiped_is (inl told) =
    grown_then u old mid new (wipe_grown u size old mid wiped_is)
    (grown_front u mid new (update u ws label) (only_update u ws label)
    (record { front = to_label u ws; told = told ∙ ap (λ (w : ℕ). plus mid (to_label w ws)) same; is = to_front u ws label }))
cut_grown u v size ws label old mid new same wiped_is (inr told) =
    grown_then u old mid new (wipe_grown u size old mid wiped_is)
    (grown_front u mid new (update u ws label) (only_update u ws label)
    (record { front = with_label u ws label; told = told ∙ ap (λ (w : ℕ). plus mid (with_label w ws label)) same; is = with_front u ws label }))

pub failed_grown : (u v size : ℕ) (ws : List Write) (label : List ℕ) (why : Doubt) (old mid new : Told) → v ≡ u → mid ≡ plus old (wipe u size) → IsCutOff mid new v ws label why → GrownOf u old new
failed_grown u v size ws label Old old mid new same wiped_is cut = front_grown u v size ws old mid new same wiped_is cut
failed_grown u v size ws label Either old mid new same wiped_is cut = cut_grown u v size ws label old mid new same wiped_is cut
