-- Records of a draft are put beside a minidisk, and the draft becomes its file.
use Rattle.std.proofs.Common.{◌≡◌, inl, inr, ℕ, zero, suc, ◌+◌, ◌*◌, ◌/◌, ◌≤◌, List, [], ◌∷◌, ◌++◌, length, length-append, Some, None, Result, Ok, Err, refl, sym, ◌∙◌, ap, subst, arith, append-nil}
use Rattle.std.specs.Prelude.{OnErr, OnOk, Option, ⊤}
use Rattle.std.specs.Option.{ForSome}
use Rattle.std.proofs.lemmas.List.{append_assoc, append_cancel_left}
use Rattle.cms_journal.specs.declared.event.Event.{Event}
use Rattle.cms_journal.specs.Journal.{HasBlocks, Journal}
use Rattle.cms_journal.specs.Told.{Told, plus, syncs}
use Rattle.cms_journal.proofs.Sizes.{block_bounds}
use Rattle.cms_names.specs.declared.name.Name.{Name}
use Rattle.cms_fields.specs.declared.entry.Entry.{Entry}
use Rattle.cms_fields.specs.declared.time.Stamp.{Stamp}
use Rattle.cms_model.specs.Lists.{In}
use Rattle.cms_model.specs.LawsUpdates.{IsFront, after, now, to_label, with_label}
use Rattle.cms_model.specs.Minidisks.{File, Minidisk, Volume}
use Rattle.cms_model.specs.Records.{length_of, stored}
use Rattle.cms_model.specs.Settled.{Write, update, writes}
use Rattle.cms_model.specs.Changes.{Add, Century, Change, Changed, Drop, Put, Relabel, Rename, changed, need}
use Rattle.cms_model.proofs.Fronts.{front_nil}
use Rattle.cms_model.specs.Beats.{AreStamped, written_count}
use Rattle.cms_model.proofs.StepsFit.{syncs_counted, no_syncs}
use Rattle.cms_tree.specs.Climbs.{AreOwn}
use Rattle.cms_held.specs.HeldVolumes.{HeldFile, HeldVolume, Held}
use Rattle.cms_held.specs.MinidiskUpdates.{IsHeldMinidisk}
use Rattle.cms_held.specs.Drafts.{Front, HasDraft, draft_writes, no_front, stored_on}
use Rattle.cms_held.specs.Growths.{length_with}
use Rattle.cms_held.specs.LawsRenewals.{AreBlocks, writes_of}
use Rattle.cms_held.specs.Renewals.{blocks_in}
use Rattle.cms_held.proofs.DraftBlocks.{none_written}
use Rattle.cms_held.proofs.DraftOwn.{own_among}
use Rattle.cms_held.proofs.PutAsides.{free_is_aside}
use Rattle.cms_held.specs.BlockWriters.{AddsOwnBlocks, Stops, Wrote, came, its_blocks, written_with}
use Rattle.cms_held.specs.FileWriters.{FileWriter, Drafts, IsDrafting, IsFresh, Puts, marks_in, start_in}
use Rattle.cms_held.proofs.FilePuts.{stored_long}
use Rattle.cms_held.specs.declared.shape.DraftShape.{DraftShape}
use Rattle.cms_edf.specs.FileDrafts.{CommitEvents, Commits, DraftStands, Draft, IsCommitted, IsCommittedAt, IsDraftFor, IsLeft, IsSomeDraft, LeadsToFile, MakesChange, commit_writes, file_for, put_in, put_writes, tree_of}
use Rattle.cms_edf.specs.Growths.{IsFrontOf, IsMoreFor}
use Rattle.cms_edf.specs.declared.doubt.Doubt.{Doubt}
use Rattle.cms_edf.specs.declared.doubt.Doubt.TheVariants.{Old, Either}
use Rattle.cms_edf.proofs.Added.{added_blocks}
use Rattle.cms_edf.proofs.Committed.{left_own}
use Rattle.cms_edf.proofs.DraftPut.{blocks_there, more_edit}
use Rattle.cms_edf.proofs.Finished.{to_front, with_front, writes_to}
use Rattle.cms_edf.proofs.Planned.{all_in}
use Rattle.cms_model.specs.Slots.{Side}
use Rattle.cms_model.specs.Steps.{EitherFault, Good, MayPut, OldFault, put_stamp, put_syncs, update_syncs}
use Rattle.cms_disk.specs.Changes.{Altered, Alters, IsDevices, fault_of}
use Rattle.cms_disk.specs.declared.fault.DiskFault.{DiskFault}
use Rattle.cms_disk.specs.Disks.{Accessed, IsMinidisk, IsReadable}
use Rattle.cms_disk.specs.Drafts.{BeginsPut, GoesOn, IsFor, IsGivenUp, IsSameDraft, IsToAdd, IsToPut, Stands, WritesAside, file_with}
use Rattle.cms_disk.proofs.RecordsPut.{for_still, some_for}
use Rattle.cms_disk.proofs.Beside.{aside_behind, behind_events, stamped_any}
use Rattle.cms_disk.specs.CrashStates.{CoversOn}
use Rattle.cms_disk.proofs.Courses.{Course, HasRoom, covers_old, doubt_behind, held_minidisk, made_behind, stamped_writes, unmade_behind}
use Rattle.cms_disk.proofs.DisksTold.{is_minidisk, minidisk_same}
use Rattle.cms_disk.proofs.FewWritten.{put_so_far}
use Rattle.cms_held.proofs.PutCarried.{put_writes as held_put_writes}
use Rattle.cms_held.proofs.WritesLong.{both_blocks}
use Rattle.cms_disk.proofs.StepPieces.{no_directory, one_sync, only_update, only_writes, own_blocks, stamped_behind, told_after, update_stamped, update_whole, whole_front, written_append, written_front, written_held, written_same, written_update, written_writes}

-- ---- writes of blocks of its own

-- none of them begins a directory
own_stamped : (u size : ℕ) (blocks : List ℕ) (ws : List Write) → AreOwn size blocks ws → ((n : ℕ) → In n blocks → 6 ≤ n) → AreStamped u None (writes u ws)
unfolding writes
own_stamped u size blocks [] own low = tt
own_stamped u size blocks (w ∷ ws) own low = ((λ same. no_directory w.block (low w.block own.0)), own_stamped u size blocks ws own.2 low)

-- blocks of a draft lie from 6 on
draft_high : (v : HeldVolume) (d : Draft) → IsSomeDraft v d → (n : ℕ) → In n (its_blocks d.writer.writer) → 6 ≤ n
draft_high v d some n there =
    let w = d.writer.writer in
    (all_in (λ k. (6 ≤ k) × (k ≤ v.label.blocks)) (blocks_in (tree_of d)) some.within n (own_among (w.bsize / w.psize) n w.tree.leaves w.tree.pointers w.kept there)).0

-- what a draft adds is written beside the minidisk, which stands
pub record Written (old new : Told) (d : Accessed) (m : Minidisk) (draft : Draft) (ws : List Write) : Type 0 where
  pub stands : Stands new d m
  pub aside : WritesAside old new d.volume.disk d.volume.unit m

pub written_aside : (j : Journal) (old new : Told) (d : Accessed) (m : Minidisk) (draft : Draft) → old ≡ Some j → IsMinidisk j d m → IsReadable j d → IsSomeDraft d.volume draft
    → (own : AddsOwnBlocks old new draft.writer.writer) → Written old new d m draft own.part
written_aside j old new d m draft is at has some own =
    let p = some in
    let u = d.volume.unit in
    let ws = own.part in
    let blocks = its_blocks draft.writer.writer in
    let held = held_minidisk j d m at has in
    let mine : AreOwn d.volume.disk.bsize blocks ws = subst (λ (n : ℕ). AreOwn n blocks ws) p.bsize_is own.own in
    let each : (q : List Event) → IsFront q (writes u ws) → IsHeldMinidisk (after j q) d.volume m =
    λ q front. free_is_aside j d.volume m blocks ws q held p.own mine front in
    let told : new ≡ plus old (writes u ws) = own.told ∙ ap (λ (n : ℕ). plus old (writes n ws)) p.unit_is in
    record {
      stands = record {
        at = after j (writes u ws);
        told_is = told_after j old new (writes u ws) is told;
        minidisk = is_minidisk (after j (writes u ws)) d m (each (writes u ws) (whole_front (writes u ws)));
        readable = has;
      };
      aside = record {
        events = writes u ws;
        told = told;
        of_unit = only_writes u ws;
        unsynced = no_syncs u ws;
        aside = own_stamped u d.volume.disk.bsize blocks ws mine (draft_high d.volume draft some);
        covers = subst (λ (t : Told). CoversOn d.volume.disk t (writes u ws) u (Volume m ∷ []) (Volume m ∷ [])) (sym is) (covers_old j d m (writes u ws) each);
      };
    }

-- as many blocks as these events say, whichever they are
pub written_told : (j : Journal) (old new : Told) (d : Accessed) (m : Minidisk) (draft : Draft) (own : AddsOwnBlocks old new draft.writer.writer) (w : Written old new d m draft own.part)
    → (es : List Event) → old ≡ Some j → new ≡ plus old es → written_count w.aside.events ≡ written_count es
written_told j old new d m draft own w es is told =
    written_same j w.aside.events es
    (ap (λ (t : Told). plus t w.aside.events) (sym is) ∙ (sym w.aside.told ∙ (told ∙ ap (λ (t : Told). plus t es) is)))

-- ---- the start

-- nothing was written
pub none_aside : (j : Journal) (old : Told) (d : Accessed) (m : Minidisk) → old ≡ Some j → IsMinidisk j d m → IsReadable j d → WritesAside old old d.volume.disk d.volume.unit m
none_aside j old d m is at has = record {
  events = [];
  told = refl;
  of_unit = tt;
  unsynced = refl;
  aside = tt;
  covers = subst (λ (t : Told). CoversOn d.volume.disk t [] d.volume.unit (Volume m ∷ []) (Volume m ∷ [])) (sym is)
      (covers_old j d m [] (λ q front. subst (λ (l : List Event). IsHeldMinidisk (after j l) d.volume m) (sym (front_nil q front)) (held_minidisk j d m at has)));
}

pub none_written_yet : (j : Journal) (old : Told) (d : Accessed) (m : Minidisk) (is : old ≡ Some j) (at : IsMinidisk j d m) (has : IsReadable j d)
    → written_count (none_aside j old d m is at has).events ≡ 0
unfolding none_aside
none_written_yet j old d m is at has = refl

no_blocks : (whole bsize filled : ℕ) → 1 ≤ bsize → whole * bsize + filled ≡ 0 → whole ≡ 0
no_blocks zero bsize filled some none = refl
no_blocks (suc n) bsize filled some none = absurd (go (n * bsize) (more n bsize))
  where
    more : (a b : ℕ) → suc a * b ≡ b + a * b
    more a b = grind arith

    go : (rest : ℕ) → suc n * bsize ≡ bsize + rest → ⊥
    go rest is = omega (arith, some, none, is)

nothing_stands : (image : ℕ → List ℕ) (bsize psize whole : ℕ) (leaves : List ℕ) (draft : FileWriter) (fresh : List ℕ) (kept : ℕ) (bytes : List ℕ) (records : List (List ℕ)) → whole ≡ 0
    → HasDraft image bsize psize leaves (marks_in draft no_front records) fresh kept [] bytes whole
unfolding draft_writes
nothing_stands image bsize psize whole leaves draft fresh kept bytes records none =
    subst (λ (k : ℕ). HasDraft image bsize psize leaves (marks_in draft no_front records) fresh kept [] bytes k) (sym none) tt

-- a draft of a whole file begins for the change that puts it
pub begins_put : (d e : Accessed) (name : Name) (shape : DraftShape) (stamp : Stamp) (draft : Draft) → e.volume ≡ d.volume → IsDraftFor d.volume name shape stamp draft
    → IsFresh d.volume.unit d.volume.disk.bsize shape (tree_of draft) draft.writer → BeginsPut d e name shape stamp draft
begins_put d e name shape stamp draft volume planned fresh j m records is has have long =
    let w = draft.writer.writer in
    let low = (block_bounds d.volume.disk.bsize is.stands.whole.size).0 in
    let size = fresh.bsize_is in
    let at = minidisk_same j d e m volume is in
    let readable = subst (λ (v : HeldVolume). HasBlocks j.units v.unit v.disk.count v.disk.bsize) (sym volume) has in
    let none : w.whole ≡ 0 = no_blocks w.whole w.bsize w.filled (omega (arith, low, size)) fresh.came_is in
    let nothing = none_written_yet j (Some j) e m refl at readable in
    record {
      stands = record { at = j; told_is = refl; minidisk = at; readable = readable };
      aside = none_aside j (Some j) e m refl at readable;
      front = no_front;
      is_for = record {
        shape = shape;
        planned = subst (λ (v : HeldVolume). IsDraftFor v name shape stamp draft) (sym volume) planned;
        new_is = refl;
        nothing = refl;
        long = long;
      };
      drafts = fresh.drafts records have;
      written = nothing_stands (now j w.unit) w.bsize w.psize w.whole w.tree.leaves draft.writer w.tree.pointers w.kept (stored draft.writer.shape.format records) records none;
      count = nothing ∙ sym (ap (λ (ws : List Write). length ws)
          (none_written w.bsize w.psize w.tree.leaves (marks_in draft.writer no_front records) w.tree.pointers w.kept [] (stored_on draft.writer.shape.format no_front records) w.whole (omega (arith, none))));
      few = omega (arith, nothing);
    }

-- ---- a record is put

-- the draft that it is then has written these blocks too
counted_on : (start old new : Told) (d : Accessed) (m : Minidisk) (draft draft' : Draft) (change : Change) (stamp : Stamp) (done more : List (List ℕ)) (text : List ℕ)
    → (g : GoesOn start old d m draft change stamp done (text ∷ more)) (own : AddsOwnBlocks old new draft.writer.writer) → IsSameDraft draft draft'
    → Wrote old new draft.writer.writer draft'.writer.writer g.front.nodes (stored_on draft.writer.shape.format g.front (done ++ (text ∷ more))) (marks_in draft.writer g.front (done ++ (text ∷ more)))
    → (w : Written old new d m draft own.part)
    → written_count (aside_behind start old new d.volume.disk d.volume.unit m g.aside w.aside).events ≡ length (put_writes draft' g.front ((done ++ text ∷ []) ++ more))
counted_on start old new d m draft draft' change stamp done more text g own same wrote w =
    let s = g.stands in
    let all = done ++ (text ∷ more) in
    let v = draft.writer.writer in
    let before = g.count in
    let both = ap written_count (behind_events start old new d.volume.disk d.volume.unit m g.aside w.aside) ∙ written_append g.aside.events w.aside.events in
    let here = written_told s.at old new d m draft own w (writes v.unit wrote.part) s.told_is wrote.told in
    let one = written_writes v.unit wrote.part in
    let part : length (put_writes draft g.front all) + length wrote.part
    ≡ length (written_with v g.front.nodes (stored_on draft.writer.shape.format g.front all) (marks_in draft.writer g.front all) draft'.writer.writer.whole) =
    sym (length-append (put_writes draft g.front all) wrote.part) ∙ ap (λ (ws : List Write). length ws) wrote.is in
    let to = same.writer in
    let then' : length (put_writes draft' g.front all)
    ≡ length (written_with v g.front.nodes (stored_on draft.writer.shape.format g.front all) (marks_in draft.writer g.front all) draft'.writer.writer.whole) =
    rw (same.shape, to.bsize, to.psize, to.tree, to.kept) refl in
    let together = ap (λ (l : List (List ℕ)). length (put_writes draft' g.front l)) (append_assoc done (text ∷ []) more) in
    omega (arith, before, both, here, one, part, then', together)

pub goes_on : (start old new : Told) (d : Accessed) (m : Minidisk) (draft draft' : Draft) (change : Change) (stamp : Stamp) (done more : List (List ℕ)) (text : List ℕ)
    → (g : GoesOn start old d m draft change stamp done (text ∷ more)) → AddsOwnBlocks old new draft.writer.writer → IsSameDraft draft draft' → IsDrafting draft'.writer
    → Puts old new draft.writer draft'.writer g.front done text more (Ok tt) → ForSome new (λ k. DraftStands k draft'.writer g.front (done ++ (text ∷ more)))
    → ((name : Name) (f : HeldFile) (shape : DraftShape) → IsMoreFor d.volume name f shape stamp draft → IsFrontOf g.stands.at d.volume f (tree_of draft) g.front
    → ForSome new (λ k. IsFrontOf k d.volume f (tree_of draft) g.front))
    → GoesOn start new d m draft' change stamp (done ++ text ∷ []) more
goes_on start old new d m draft draft' change stamp done more text g own same sound puts written stays =
    let s = g.stands in
    let some = some_for s.at d draft change stamp g.front (done ++ (text ∷ more)) g.is_for in
    let w = written_aside s.at old new d m draft s.told_is s.minidisk s.readable some own in
    let k = w.stands.at in
    let together = append_assoc done (text ∷ []) more in
    let is_for = subst (IsFor k d draft' change stamp g.front) (sym together)
    (for_still s.at k d draft draft' change stamp g.front (done ++ (text ∷ more)) same (λ name f shape planned read. stays name f shape planned read k w.stands.told_is) g.is_for) in
    let counts = counted_on start old new d m draft draft' change stamp done more text g own same puts.0 w in
    let held = held_minidisk k d m w.stands.minidisk w.stands.readable in
    let low = put_so_far k d m draft' change stamp g.front (done ++ text ∷ []) more draft'.writer.writer.whole held sound puts.1 is_for sound.writer.within in
    record {
      stands = w.stands;
      aside = aside_behind start old new d.volume.disk d.volume.unit m g.aside w.aside;
      front = g.front;
      is_for = is_for;
      drafts = puts.1;
      written = subst (DraftStands k draft'.writer g.front) (sym together) (written k w.stands.told_is);
      count = counts;
      few = omega (arith, counts, low);
    }

pub gives_up : (start old new : Told) (d : Accessed) (m : Minidisk) (draft : Draft) (change : Change) (stamp : Stamp) (done more : List (List ℕ)) (text : List ℕ)
    → (g : GoesOn start old d m draft change stamp done (text ∷ more)) → AddsOwnBlocks old new draft.writer.writer → IsDrafting draft.writer
    → came draft.writer.writer + length (stored draft.writer.shape.format (text ∷ [])) ≤ draft.writer.writer.size
    → Stops old new draft.writer.writer g.front.nodes (stored_on draft.writer.shape.format g.front (done ++ (text ∷ more))) (marks_in draft.writer g.front (done ++ (text ∷ more)))
    (length (stored_on draft.writer.shape.format g.front (done ++ text ∷ []))) → IsGivenUp start new d m change
gives_up start old new d m draft change stamp done more text g own sound room stops =
    let s = g.stands in
    let all = done ++ (text ∷ more) in
    let some = some_for s.at d draft change stamp g.front all g.is_for in
    let w = written_aside s.at old new d m draft s.told_is s.minidisk s.readable some own in
    let v = draft.writer.writer in
    let long = stored_long draft.writer.shape.format g.front done text (came v) g.drafts.came_is in
    let low = blocks_there v stops.to (length (stored_on draft.writer.shape.format g.front (done ++ text ∷ []))) sound.writer stops.within (omega (arith, long, room)) in
    let held = held_minidisk s.at d m s.minidisk s.readable in
    let most = put_so_far s.at d m draft change stamp g.front done (text ∷ more) stops.to held sound g.drafts g.is_for low in
    let before = g.count in
    let part : length (put_writes draft g.front all) + length stops.part
    ≡ length (written_with v g.front.nodes (stored_on draft.writer.shape.format g.front all) (marks_in draft.writer g.front all) stops.to) =
    sym (length-append (put_writes draft g.front all) stops.part) ∙ ap (λ (ws : List Write). length ws) stops.is in
    let same = written_told s.at old new d m draft own w stops.front.front s.told_is stops.front.told in
    let less = written_front stops.front.front (writes v.unit stops.part) stops.front.is in
    let one = written_writes v.unit stops.part in
    let both = ap written_count (behind_events start old new d.volume.disk d.volume.unit m g.aside w.aside) ∙ written_append g.aside.events w.aside.events in
    record {
      stands = w.stands;
      aside = aside_behind start old new d.volume.disk d.volume.unit m g.aside w.aside;
      few = omega (arith, most, before, part, same, less, one, both);
    }

-- ---- the draft becomes the minidisk's file

-- what is answered where a result of the update below is
abbrev pub answered : Result ⊤ Doubt → Result ⊤ DiskFault
answered (Ok x) = Ok x
answered (Err why) = Err (fault_of why)

pub commit_fault : (why : Doubt) → IsDevices (fault_of why)
commit_fault Old = inl refl
commit_fault Either = inr refl

-- a change of a file: it makes the syncs of an update, and may leave the unit as before
record IsOfFile (change : Change) (after : Minidisk) : Type 0 where
  whole : (u : ℕ) (ws : List Write) (label : List ℕ) → syncs (update u ws label) ≡ put_syncs change (Changed after) Good
  old : put_syncs change (Changed after) OldFault ≡ update_syncs OldFault
  either : (side : Side) → put_syncs change (Changed after) (EitherFault side) ≡ update_syncs (EitherFault side)
  may : MayPut change (Changed after) OldFault
  stamped : (stamp : Stamp) → put_stamp change stamp ≡ Some stamp

put_of_file : (new : File) (after : Minidisk) → IsOfFile (Put new) after
put_of_file new after = record {
  whole = λ u ws label. (syncs_counted u ws label 0).whole (Put new) after;
  old = refl;
  either = λ side. refl;
  may = (refl, refl);
  stamped = λ stamp. refl;
}

add_of_file : (name : Name) (more : List (List ℕ)) (added : Stamp) (after : Minidisk) → IsOfFile (Add name more added) after
add_of_file name more added after = record {
  whole = λ u ws label. (syncs_counted u ws label 0).whole (Add name more added) after;
  old = refl;
  either = λ side. refl;
  may = (refl, refl);
  stamped = λ stamp. refl;
}

-- what its commit comes to, which is this change; what it writes of directory and map are blocks, of which the directory's first has the
-- stamp
record Committing (j : Journal) (start old : Told) (d : Accessed) (m : Minidisk) (draft : Draft) (change : Change) (stamp : Stamp) (front : Front) (records : List (List ℕ)) (rest : List Write) :
    Type 0 where
  told_is : old ≡ Some j
  aside : WritesAside start old d.volume.disk d.volume.unit m
  count : written_count aside.events ≡ length (put_writes draft front records)
  some : IsSomeDraft d.volume draft
  sound : IsDrafting draft.writer
  drafts : Drafts draft.writer front records []
  left : IsLeft draft front records rest
  makes : MakesChange j d.volume draft (put_writes draft front records) rest m change
  stamped : AreStamped d.volume.unit (Some stamp) (writes d.volume.unit (writes_of d.volume draft.systems))
  blocks : AreBlocks d.volume.disk.bsize (writes_of d.volume draft.systems)
  of_file : IsOfFile change (changed m change)

module _ (j : Journal) (start old : Told) (d : Accessed) (m : Minidisk) (draft : Draft) (change : Change) (stamp : Stamp) (front : Front) (records : List (List ℕ)) (rest : List Write)
    (x : Committing j start old d m draft change stamp front records rest) where
  abbrev u : ℕ
  u = d.volume.unit

  abbrev ws : List Write
  ws = commit_writes d.volume draft rest

  abbrev label : List ℕ
  label = draft.systems.label_bytes

  -- with what was written of the draft they are no more than the change has room for
  commit_few : length (put_writes draft front records) + written_count (update u ws label) ≤ need m change + 2
  commit_few =
      let done = put_writes draft front records in
      let small = x.makes.small in
      let same = written_held (update u (done ++ ws) label) in
      let all = written_update u (done ++ ws) label in
      let own = written_update u ws label in
      let both = length-append done ws in
      omega (arith, small, same, all, own, both)

  before_it : HasRoom start old d.volume.disk u m change (update u ws label)
  before_it = record { aside = x.aside; few = (let count = x.count in let few = commit_few in omega (arith, count, few)) }

  -- its events are those of the change
  commit_course : Course j d m change stamp (to_label u ws) (update u ws label)
  commit_course =
      let own = left_own draft front records rest x.sound x.drafts x.left in
      let blocks = its_blocks draft.writer.writer in
      let first = stamped_any u (Some stamp) (writes u rest) (own_stamped u draft.writer.writer.bsize blocks rest own (draft_high d.volume draft x.some)) in
      record {
        answer = x.makes.answer;
        before = x.makes.before;
        either = x.makes.either;
        only = only_update u ws label;
        stamped = subst (λ (o : Option Stamp). AreStamped d.volume.unit o (update d.volume.unit ws label)) (sym (x.of_file.stamped stamp))
            (update_stamped u stamp ws label (stamped_behind u stamp rest (writes_of d.volume draft.systems) first x.stamped));
        front = to_front u ws label;
        sized = update_whole u d.volume.disk.bsize ws label
            (both_blocks d.volume.disk.bsize rest (writes_of d.volume draft.systems) (own_blocks d.volume.disk.bsize blocks rest
            (subst (λ (n : ℕ). AreOwn n blocks rest) x.some.bsize_is own)) x.blocks)
            x.some.label_long;
        small = (let few = commit_few in omega (arith, few));
      }

  commits_ok : (new : Told) (e : Accessed) → new ≡ plus old (update u ws label) → ForSome new (λ k. IsHeldMinidisk k e.volume (changed m change)) → LeadsToFile d.volume draft e.volume
      → Altered start new e m change stamp
  commits_ok new e told held leads =
      let is = leads x.some in
      made_behind j start old new d e m change stamp (to_label u ws) (update u ws label) x.told_is commit_course before_it told (x.of_file.whole u ws label)
      (ap (λ (w : HeldVolume). w.unit) is) (ap (λ (w : HeldVolume). w.disk) is)
      (held (after j (update u ws label)) (told_after j old new (update u ws label) x.told_is told))

  commits_err : (new : Told) (e : Accessed) (why : Doubt) → CommitEvents old new d.volume draft rest (Err why) → e.volume ≡ d.volume → Alters start new d e m change stamp (Err (fault_of why))
  commits_err new e Old cut same =
      unmade_behind j start old new d e m change stamp (to_label u ws) (update u ws label) cut.front x.told_is commit_course before_it cut.told (writes_to u ws cut.front cut.is)
      ((syncs_counted u ws label 0).update_old cut.front cut.is ∙ sym x.of_file.old) x.of_file.may same
  commits_err new e Either (inl told) same =
      doubt_behind j start old new d m change stamp (to_label u ws) (update u ws label) (to_label u ws) x.told_is commit_course before_it told (to_front u ws label)
      (λ side. one_sync u ws ∙ sym (x.of_file.either side))
  commits_err new e Either (inr told) same =
      doubt_behind j start old new d m change stamp (to_label u ws) (update u ws label) (with_label u ws label) x.told_is commit_course before_it told (with_front u ws label)
      (λ side. (syncs_counted u ws label 0).update_either side ∙ sym (x.of_file.either side))

  commits_to : (new : Told) (e : Accessed) (r : Result ⊤ Doubt) → CommitEvents old new d.volume draft rest r
      → Commits j new d.volume e.volume m draft (put_writes draft front records) rest change r → OnOk r (LeadsToFile d.volume draft e.volume) → OnErr r (e.volume ≡ d.volume)
      → Alters start new d e m change stamp (answered r)
  commits_to new e (Ok y) told to leads same = commits_ok new e told to.1 leads
  commits_to new e (Err why) cut to leads same = commits_err new e why cut same

-- the blocks that were left are the same ones
same_rest : (draft : Draft) (front : Front) (records : List (List ℕ)) (a b : List Write) → IsLeft draft front records a → IsLeft draft front records b → a ≡ b
same_rest draft front records a b one two = append_cancel_left _ a b (one.is ∙ sym two.is)

makes_change : (j : Journal) (new : Told) (v w : HeldVolume) (m : Minidisk) (draft : Draft) (done rest : List Write) (change : Change) (r : Result ⊤ Doubt)
    → Commits j new v w m draft done rest change r → MakesChange j v draft done rest m change
makes_change j new v w m draft done rest change (Ok x) c = c.0
makes_change j new v w m draft done rest change (Err Old) c = c.0
makes_change j new v w m draft done rest change (Err Either) c = c.0

-- the volume stays on its unit
pub stays_on : (v w : HeldVolume) (draft : Draft) (r : Result ⊤ Doubt) → IsSomeDraft v draft → OnOk r (LeadsToFile v draft w) → OnErr r (w ≡ v) → (w.unit ≡ v.unit) × (w.disk ≡ v.disk)
stays_on v w draft (Ok x) some leads same =
    let is = leads some in
    (ap (λ (x : HeldVolume). x.unit) is, ap (λ (x : HeldVolume). x.disk) is)
stays_on v w draft (Err why) some leads same = (ap (λ (x : HeldVolume). x.unit) same, ap (λ (x : HeldVolume). x.disk) same)

pub on_volume : (h k : Held) (r : Result ⊤ Doubt) → OnErr r (h ≡ k) → OnErr r (h.volume ≡ k.volume)
on_volume h k (Ok x) same = tt
on_volume h k (Err why) same = ap (λ (x : Held). x.volume) same

-- ---- what a commit says

-- of the events of any draft, of a file that is put, and of records that are added
pub record CommitSays (old new : Told) (v w : HeldVolume) (draft : Draft) (r : Result ⊤ Doubt) : Type 0 where
  pub events : (front : Front) (records : List (List ℕ)) → Drafts draft.writer front records [] → IsCommitted old new v draft front records r
  pub puts : (j : Journal) (m : Minidisk) (name : Name) (shape : DraftShape) (stamp : Stamp) (records : List (List ℕ)) → old ≡ Some j → IsHeldMinidisk j v m → IsDraftFor v name shape stamp draft
      → Drafts draft.writer no_front records [] → length_of shape.format shape.length records ≡ shape.length → DraftStands j draft.writer no_front records
      → IsCommittedAt j new v w m draft no_front records (Put (put_in draft records)) r
  pub adds : (j : Journal) (m : Minidisk) (name : Name) (f : HeldFile) (shape : DraftShape) (stamp : Stamp) (front : Front) (records : List (List ℕ)) → old ≡ Some j → IsHeldMinidisk j v m
      → IsMoreFor v name f shape stamp draft → IsFrontOf j v f (tree_of draft) front → Drafts draft.writer front records [] → length_with shape.format f.length records ≡ shape.length
      → DraftStands j draft.writer front records → IsCommittedAt j new v w m draft front records (Add name records shape.stamp) r
  pub leads : OnOk r (LeadsToFile v draft w)
  pub kept : OnErr r (w ≡ v)

-- the setting of a commit
pub record Ending (start old : Told) (d : Accessed) (m : Minidisk) (draft : Draft) (change : Change) (stamp : Stamp) (records : List (List ℕ)) : Type 0 where
  pub goes : GoesOn start old d m draft change stamp records []
  pub sound : IsDrafting draft.writer

-- it is the file that was asked for
file_is : (v : HeldVolume) (name : Name) (shape : DraftShape) (stamp : Stamp) (d : Draft) (records : List (List ℕ)) → IsDraftFor v name shape stamp d
    → put_in d records ≡ file_with name shape records
file_is v name shape stamp d records is =
    ap (λ (e : Entry). record { name = e.name; number = e.number; format = e.format; length = e.length; stamp = e.stamp; records = records }) is.entry_is

-- what a change that is committed comes to, and what was written for it
record Comes (j : Journal) (new : Told) (d e : Accessed) (m : Minidisk) (draft : Draft) (front : Front) (records : List (List ℕ)) (change : Change) (stamp : Stamp) (r : Result ⊤ Doubt) :
    Type 0 where
  at : IsCommittedAt j new d.volume e.volume m draft front records change r
  stamped : AreStamped d.volume.unit (Some stamp) (writes d.volume.unit (writes_of d.volume draft.systems))
  blocks : AreBlocks d.volume.disk.bsize (writes_of d.volume draft.systems)
  of_file : IsOfFile change (changed m change)

put_comes : (j : Journal) (old new : Told) (d e : Accessed) (m : Minidisk) (draft : Draft) (front : Front) (records : List (List ℕ)) (new_file : File) (stamp : Stamp) (r : Result ⊤ Doubt)
    → CommitSays old new d.volume e.volume draft r → old ≡ Some j → IsHeldMinidisk j d.volume m → Drafts draft.writer front records [] → DraftStands j draft.writer front records
    → IsToPut d draft new_file stamp front records → Comes j new d e m draft front records (Put new_file) stamp r
put_comes j old new d e m draft front records file stamp r says told held drafts stands is =
    let v = d.volume in
    let none : no_front ≡ front = sym is.nothing in
    let same : put_in draft records ≡ file = file_is v file.name is.shape stamp draft records is.planned ∙ sym is.new_is in
    let edit = (is.planned.file 0).edit in
    let own = held_put_writes j v edit stamp draft.systems (file_for v.disk.bsize file.name is.shape (tree_of draft) 0) m held (is.planned.file 0).put (is.planned.file 0).ready (is.planned.file 0).few in
    record {
      at = subst (λ (f : File). IsCommittedAt j new v e.volume m draft front records (Put f) r) same
          (subst (λ (x : Front). IsCommittedAt j new v e.volume m draft x records (Put (put_in draft records)) r) none
          (says.puts j m file.name is.shape stamp records told held is.planned (subst (λ (x : Front). Drafts draft.writer x records []) is.nothing drafts) is.long
          (subst (λ (x : Front). DraftStands j draft.writer x records) is.nothing stands)));
      stamped = stamped_writes v edit stamp draft.systems held.at.whole.size own.aside;
      blocks = own.long;
      of_file = put_of_file file (changed m (Put file));
    }

add_comes : (j : Journal) (old new : Told) (d e : Accessed) (m : Minidisk) (draft : Draft) (front : Front) (records : List (List ℕ)) (name : Name) (added stamp : Stamp) (r : Result ⊤ Doubt)
    → CommitSays old new d.volume e.volume draft r → old ≡ Some j → IsHeldMinidisk j d.volume m → IsDrafting draft.writer → Drafts draft.writer front records []
    → DraftStands j draft.writer front records → IsToAdd j d draft name added stamp front records → Comes j new d e m draft front records (Add name records added) stamp r
add_comes j old new d e m draft front records name added stamp r says told held sound drafts stands is =
    let v = d.volume in
    let at = says.adds j m name is.file is.shape stamp front records told held is.planned is.front_is drafts is.long stands in
    let edit = more_edit v name is.file is.shape stamp draft is.planned (start_in draft.writer) in
    let own = added_blocks j v m draft name is.file is.shape stamp is.planned front records at.rest held sound is.front_is drafts is.long stands at.left in
    record {
      at = subst (λ (s : Stamp). IsCommittedAt j new v e.volume m draft front records (Add name records s) r) (sym is.added_is) at;
      stamped = stamped_writes v edit stamp draft.systems held.at.whole.size own.aside;
      blocks = own.long;
      of_file = add_of_file name records added (changed m (Add name records added));
    }

comes_as : (j : Journal) (old new : Told) (d e : Accessed) (m : Minidisk) (draft : Draft) (front : Front) (records : List (List ℕ)) (change : Change) (stamp : Stamp) (r : Result ⊤ Doubt)
    → CommitSays old new d.volume e.volume draft r → old ≡ Some j → IsHeldMinidisk j d.volume m → IsDrafting draft.writer → Drafts draft.writer front records []
    → DraftStands j draft.writer front records → IsFor j d draft change stamp front records → Comes j new d e m draft front records change stamp r
comes_as j old new d e m draft front records (Put file) stamp r says told held sound drafts stands is = put_comes j old new d e m draft front records file stamp r says told held drafts stands is
comes_as j old new d e m draft front records (Add name more added) stamp r says told held sound drafts stands is =
    subst (λ (l : List (List ℕ)). Comes j new d e m draft front records (Add name l added) stamp r) (sym is.0)
    (add_comes j old new d e m draft front records name added stamp r says told held sound drafts stands is.1)
comes_as j old new d e m draft front records (Drop name) stamp r says told held sound drafts stands is = absurd is
comes_as j old new d e m draft front records (Rename from to number) stamp r says told held sound drafts stands is = absurd is
comes_as j old new d e m draft front records (Relabel volid) stamp r says told held sound drafts stands is = absurd is
comes_as j old new d e m draft front records (Century pivot) stamp r says told held sound drafts stands is = absurd is

pub ends_so : (start old new : Told) (d e : Accessed) (m : Minidisk) (draft : Draft) (change : Change) (stamp : Stamp) (records : List (List ℕ)) (r : Result ⊤ Doubt)
    → Ending start old d m draft change stamp records → CommitSays old new d.volume e.volume draft r → Alters start new d e m change stamp (answered r)
ends_so start old new d e m draft change stamp records r x says =
    let g = x.goes in
    let s = g.stands in
    let j = s.at in
    let front = g.front in
    let held = held_minidisk j d m s.minidisk s.readable in
    let all : records ++ [] ≡ records = append-nil records in
    let some = some_for j d draft change stamp front (records ++ []) g.is_for in
    let comes = comes_as j old new d e m draft front records change stamp r says s.told_is held x.sound g.drafts (subst (DraftStands j draft.writer front) all g.written)
    (subst (IsFor j d draft change stamp front) all g.is_for) in
    let events = says.events front records g.drafts in
    let rest = same_rest draft front records events.rest comes.at.rest events.left comes.at.left in
    let c : Committing j start old d m draft change stamp front records comes.at.rest = record {
      told_is = s.told_is;
      aside = g.aside;
      count = g.count ∙ ap (λ (l : List (List ℕ)). length (put_writes draft front l)) all;
      some = some;
      sound = x.sound;
      drafts = g.drafts;
      left = comes.at.left;
      makes = makes_change j new d.volume e.volume m draft (put_writes draft front records) comes.at.rest change r comes.at.commits;
      stamped = comes.stamped;
      blocks = comes.blocks;
      of_file = comes.of_file;
    } in
    commits_to j start old d m draft change stamp front records comes.at.rest c new e r
    (subst (λ (l : List Write). CommitEvents old new d.volume draft l r) rest events.events) comes.at.commits says.leads says.kept
