-- A change that was planned and is carried out.
use Rattle.std.proofs.Common.{◌≡◌, inl, inr, ⊎_elim, ℕ, ◌+◌, ◌≤◌, List, [], ◌∷◌, ◌++◌, All, length, Some, Ok, Err, Result, OnOk, OnErr, Vec, Global, refl, sym, ◌∙◌, ap, subst, append_assoc, arith}
use Rattle.std.specs.Prelude.{IfErr, ⊤}
use Rattle.std.specs.Option.{ForSome}
use Rattle.std.proofs.lemmas.Option.{same_Some}
use Rattle.cms_journal.specs.declared.event.Event.{Event}
use Rattle.cms_journal.specs.declared.event.Event.TheVariants.{Wrote, Synced}
use Rattle.cms_journal.specs.declared.event.Attached.{Attached}
use Rattle.cms_journal.specs.Journal.{HasBlocks, Journal, MayAdd}
use Rattle.cms_journal.specs.Told.{Told, plus}
use Rattle.cms_fields.specs.Numbers.{up}
use Rattle.cms_fields.specs.declared.label.Label.{Label}
use Rattle.cms_fields.specs.declared.time.Stamp.{Stamp}
use Rattle.cms_model.specs.Changes.{Change, Changed, Relabel, answer_of, changed, need}
use Rattle.cms_model.specs.Minidisks.{Minidisk, Volume}
use Rattle.cms_model.specs.Volumes.{open_of}
use Rattle.cms_model.specs.Trees.{image_of}
use Rattle.cms_model.specs.Settled.{Write, update, writes}
use Rattle.cms_model.specs.Stands.{Layout, minidisk_in, opened}
use Rattle.cms_model.specs.LawsUpdates.{HasEither, IsFront, after, relabel, to_label, with_label}
use Rattle.cms_model.proofs.Fronts.{after_is_told}
use Rattle.cms_model.proofs.OpenedVolumes.{state_opens}
use Rattle.cms_model.proofs.Renewed.{minidisk_is}
use Rattle.cms_held.specs.HeldVolumes.{HeldVolume}
use Rattle.cms_held.specs.Kept.{IsKeptFile, Keeps}
use Rattle.cms_held.specs.MinidiskUpdates.{Carries, IsHeldMinidisk, written_count}
use Rattle.cms_held.specs.LawsEdits.{relabelled, with_volid}
use Rattle.cms_held.specs.LawsRenewals.{writes_of}
use Rattle.cms_edf.specs.ChangePlans.{DoesTo, IsEditFor, IsPlanFor, IsReadyLabel}
use Rattle.cms_edf.specs.Updates.{CarriesOut, IsStopped, LeadsTo, Moves, step_events, with_label_bytes}
use Rattle.cms_held.specs.Renewals.{Edit, renewed}
use Rattle.cms_held.specs.Systems.{Systems, system_writes}
use Rattle.cms_edf.specs.Doubts.{Updates, UpdatesSystems}
use Rattle.cms_edf.proofs.CutOff.{updates_cut, updates_done}
use Rattle.cms_edf.proofs.Listings.{fewer_on}
use Rattle.cms_edf.proofs.Planned.{one_edit, renewed_keeps}
use Rattle.cms_edf.specs.declared.change.FileEdit.{FileEdit}
use Rattle.cms_edf.specs.declared.doubt.Doubt.{Doubt}
use Rattle.cms_edf.specs.declared.doubt.Doubt.TheVariants.{Old, Either}
use Rattle.cms_edf.specs.declared.step.Step.{Step}
use Rattle.cms_edf.specs.declared.step.Step.TheVariants as step
use Rattle.cms_held.proofs.Carried.{planned_is_carried, update_is_small}
use Rattle.cms_held.proofs.Relabelled.{changed_is, relabel_is_held}

-- what holds of a told journal
pub told_so : (j : Journal) (new : Told) (p : List Event) (P : Journal → Type 0) → new ≡ plus (Some j) p → P (after j p) → ForSome new P
told_so j new p P is has = λ k told. subst P (same_Some (after j p) k (sym (is ∙ after_is_told j p) ∙ told)) has

-- ---- fronts

pub writes_to : (u : ℕ) (ws : List Write) (p : List Event) → IsFront p (writes u ws) → IsFront p (to_label u ws)
writes_to u ws p f = record { rest = f.rest ++ Synced u ∷ []; is = sym (append_assoc p f.rest (Synced u ∷ [])) ∙ ap (λ (l : List Event). l ++ Synced u ∷ []) f.is }

pub to_front : (u : ℕ) (ws : List Write) (label : List ℕ) → IsFront (to_label u ws) (update u ws label)
unfolding update
to_front u ws label = record { rest = Wrote u 3 label ∷ Synced u ∷ []; is = append_assoc (writes u ws) (Synced u ∷ []) (Wrote u 3 label ∷ Synced u ∷ []) }

pub with_front : (u : ℕ) (ws : List Write) (label : List ℕ) → IsFront (with_label u ws label) (update u ws label)
unfolding update
with_front u ws label = record { rest = Synced u ∷ []; is = append_assoc (writes u ws) (Synced u ∷ Wrote u 3 label ∷ []) (Synced u ∷ []) }

-- ---- an edit

carries : (j : Journal) (v : HeldVolume) (m : Minidisk) (change : Change) (stamp : Stamp) (e : FileEdit) (s : Systems) → IsHeldMinidisk j v m → (p : IsEditFor v change stamp e s)
    → Carries j v p.edit s m change
carries j v m change stamp e s held p = planned_is_carried j v p.edit stamp s m change held p.is p.ready

-- ---- a relabelling

record Relabelled (j : Journal) (v : HeldVolume) (m : Minidisk) (volid : List ℕ) : Type 0 where
  answer : answer_of m (Relabel volid) ≡ Changed (changed m (Relabel volid))
  either : (p : List Event) → IsFront p (relabel v.unit (relabelled v volid).label_bytes) → HasEither v.disk (after j p) v.unit (Volume m) (Volume (changed m (Relabel volid)))
  done : IsHeldMinidisk (after j (relabel v.unit (relabelled v volid).label_bytes)) (relabelled v volid) (changed m (Relabel volid))

relabels : (j : Journal) (v : HeldVolume) (m : Minidisk) (volid : List ℕ) (label : Label) (bytes : List ℕ) → Keeps v → IsHeldMinidisk j v m → IsReadyLabel v volid label bytes → Relabelled j v m volid
relabels j v m volid label bytes kept held r =
    let old = held.layout in
    let h = relabel_is_held j v old volid held.at kept r.long r.small in
    let new : Layout = record old { label = with_volid v.label volid } in
    let before : minidisk_in v.disk (record old { label = v.label }) ≡ m = ap (λ (l : Label). minidisk_in v.disk (record old { label = l })) held.at.held.label_is ∙ sym held.minidisk_is in
    let after_it : minidisk_in v.disk new ≡ changed m (Relabel volid) = changed_is v.disk old volid v.label ∙ ap (λ (k : Minidisk). changed k (Relabel volid)) before in
    record {
      answer = ap (λ (k : Minidisk). answer_of k (Relabel volid)) held.minidisk_is ∙ (h.answered ∙ ap Changed after_it);
      either = λ p front image may. ⊎_elim
          (λ (was : open_of v.disk (image_of image) ≡ Ok (opened old)). inl (state_opens v.disk (image_of image) (opened old) was ∙ ap Volume (minidisk_is v.disk old ∙ sym held.minidisk_is)))
          (λ (is : open_of v.disk (image_of image) ≡ Ok (opened new)). inr (state_opens v.disk (image_of image) (opened new) is ∙ ap Volume (minidisk_is v.disk new ∙ after_it)))
          (h.updates.either p front image may);
      done = record { layout = new; at = h.at; minidisk_is = sym after_it };
    }

one_block : (u : ℕ) (label : List ℕ) (n : ℕ) → written_count (relabel u label) ≤ n + 2
unfolding written_count
one_block u label n = omega arith

-- ---- both

pub moves : (j : Journal) (v : HeldVolume) (m : Minidisk) (change : Change) (stamp : Stamp) (s : Step) → Keeps v → IsHeldMinidisk j v m → IsPlanFor v change stamp s → Moves j v s m change
moves j v m change stamp (step.Edit e s) kept held p =
    let c = carries j v m change stamp e s held p in
    record { answer = c.answer; before = c.before; either = c.either; small = update_is_small j v p.edit stamp s m change held p.is p.ready }
moves j v m change stamp (step.Relabel label bytes) kept held (volid, is, r) =
    let c = relabels j v m volid label bytes.items kept held r in
    let same : bytes.items ≡ (relabelled v volid).label_bytes = r.bytes_are in
    subst (λ (k : Change). Moves j v (step.Relabel label bytes) m k) (sym is)
    (record {
      answer = c.answer;
      before = λ p front. unmoved p front.rest front.is;
      either = λ p front. c.either p (subst (λ (l : List ℕ). IsFront p (relabel v.unit l)) same front);
      small =
          one_block v.unit bytes.items (need m (Relabel volid));
    })
  where
    unmoved : (p rest : List Event) → p ++ rest ≡ [] → IsHeldMinidisk (after j p) v m
    unmoved [] rest none = held
    unmoved (e ∷ p) rest none = absurd (cc none)

-- all was done
pub carried : (j : Journal) (new : Told) (v w : HeldVolume) (m : Minidisk) (change : Change) (stamp : Stamp) (s : Step) → Keeps v → IsHeldMinidisk j v m → IsPlanFor v change stamp s
    → new ≡ plus (Some j) (step_events v s) → LeadsTo v s w → ForSome new (λ k. IsHeldMinidisk k w (changed m change))
carried j new v w m change stamp (step.Edit e s) kept held p told leads =
    let c = carries j v m change stamp e s held p in
    told_so j new (step_events v (step.Edit e s)) (λ k. IsHeldMinidisk k w (changed m change)) told
    (subst (λ (x : HeldVolume). IsHeldMinidisk (after j (step_events v (step.Edit e s))) x (changed m change)) (sym (leads p.edit p.done)) c.done)
carried j new v w m change stamp (step.Relabel label bytes) kept held (volid, is, r) told leads =
    let c = relabels j v m volid label bytes.items kept held r in
    let same : bytes.items ≡ (relabelled v volid).label_bytes = r.bytes_are in
    let whole : w ≡ relabelled v volid = leads ∙ (ap (λ (l : Label). with_label_bytes v l bytes.items) r.label_is ∙ ap (λ (b : List ℕ). with_label_bytes v (relabelled v volid).label b) same) in
    told_so j new (relabel v.unit bytes.items) (λ k. IsHeldMinidisk k w (changed m change)) told
    (subst (λ (k : Change). IsHeldMinidisk (after j (relabel v.unit bytes.items)) w (changed m k)) (sym is)
    (subst (λ (x : HeldVolume). IsHeldMinidisk (after j (relabel v.unit bytes.items)) x (changed m (Relabel volid))) (sym whole)
    (subst (λ (b : List ℕ). IsHeldMinidisk (after j (relabel v.unit b)) (relabelled v volid) (changed m (Relabel volid))) (sym same) c.done)))

-- it was cut off
pub stopped : (j : Journal) (new : Told) (v w : HeldVolume) (m : Minidisk) (change : Change) (stamp : Stamp) (s : Step) (why : Doubt) → Keeps v → IsHeldMinidisk j v m → IsPlanFor v change stamp s
    → IsStopped (Some j) new v s why → CarriesOut j new v w m change s (Err why)
stopped j new v w m change stamp (step.Edit e s) Old kept held p f =
    let c = carries j v m change stamp e s held p in (
      moves j v m change stamp (step.Edit e s) kept held p,
      told_so j new f.front (λ k. IsHeldMinidisk k v m) f.told (c.before f.front (writes_to v.unit (writes_of v s) f.front f.is)),
    )
stopped j new v w m change stamp (step.Edit e s) Either kept held p (inl told) =
    let c = carries j v m change stamp e s held p in (
      moves j v m change stamp (step.Edit e s) kept held p,
      told_so j new (to_label v.unit (writes_of v s)) (λ k. HasEither v.disk k v.unit (Volume m) (Volume (changed m change))) told
          (c.either (to_label v.unit (writes_of v s)) (to_front v.unit (writes_of v s) s.label_bytes)),
    )
stopped j new v w m change stamp (step.Edit e s) Either kept held p (inr told) =
    let c = carries j v m change stamp e s held p in (
      moves j v m change stamp (step.Edit e s) kept held p,
      told_so j new (with_label v.unit (writes_of v s) s.label_bytes) (λ k. HasEither v.disk k v.unit (Volume m) (Volume (changed m change))) told
          (c.either (with_label v.unit (writes_of v s) s.label_bytes) (with_front v.unit (writes_of v s) s.label_bytes)),
    )
stopped j new v w m change stamp (step.Relabel label bytes) Old kept held p (is, may) = absurd (cc is)
stopped j new v w m change stamp (step.Relabel label bytes) Either kept held p (is, may) =
    let c = moves j v m change stamp (step.Relabel label bytes) kept held p in
    let P = λ (k : Journal). HasEither v.disk k v.unit (Volume m) (Volume (changed m change)) in (
      c,
      ⊎_elim
          (λ same. told_so j new [] P same (c.either [] (record { rest = relabel v.unit bytes.items; is = refl })))
          (λ more. told_so j new (Wrote v.unit 3 bytes.items ∷ []) P more (c.either (Wrote v.unit 3 bytes.items ∷ []) (record { rest = Synced v.unit ∷ []; is = refl })))
          may,
    )

-- ---- what is known of a plan as it is carried out

-- a volume that an edit or a label leaves is kept
pub edit_keeps : (v : HeldVolume) (change : Change) (stamp : Stamp) (e e' : FileEdit) (s s' : Systems) → e' ≡ e → s' ≡ s → IsEditFor v change stamp e s → (x : Edit) → DoesTo v.files e' x
    → Keeps (renewed v x s')
edit_keeps v change stamp e e' s s' same_e same_s p x done =
    let has = renewed_keeps v e p.edit stamp s p.may p.done p.ready p.label_long in
    subst (λ (y : Systems). Keeps (renewed v x y)) (sym same_s)
    (subst (λ (y : Edit). Keeps (renewed v y s)) (one_edit v.files e p.edit x p.done (subst (λ (y : FileEdit). DoesTo v.files y x) same_e done)) has)

pub label_keeps : (v : HeldVolume) (volid : List ℕ) (label : Label) (bytes bytes' : List ℕ) → bytes' ≡ bytes → IsReadyLabel v volid label bytes → Keeps (with_label_bytes v label bytes')
label_keeps v volid label bytes bytes' same r =
    let k = r.kept in
    let at = k.within in let size = k.size in let small = k.small in let low = k.origin_low in let high = k.origin_high in
    let blocks = ap (λ (l : Label). l.blocks) r.label_is in
    let origin = ap (λ (l : Label). l.origin) r.label_is in
    record {
      within = omega arith;
      size = omega arith;
      small = omega arith;
      sized = k.sized;
      origin_low = omega arith;
      origin_high = omega arith;
      label_long = ap (λ (l : List ℕ). length l) same ∙ r.bytes_long;
      directory_shape = k.directory_shape;
      directory_is = k.directory_is;
      map_shape = k.map_shape;
      map_is = k.map_is ∙ ap (λ (n : ℕ). up (up n 8) v.disk.bsize) (sym blocks);
      bits_are = k.bits_are ∙ sym blocks;
      few = k.few;
      each = subst (λ (n : ℕ). All (IsKeptFile v.disk.bsize n) v.files) (sym blocks) k.each;
    }

-- and its block is one of the unit's
pub label_blocks : (units : List Attached) (v : HeldVolume) (volid : List ℕ) (label : Label) (bytes bytes' : List ℕ) → bytes' ≡ bytes → IsReadyLabel v volid label bytes
    → HasBlocks units v.unit v.disk.count v.disk.bsize → HasBlocks units v.unit 3 (length bytes')
label_blocks units v volid label bytes bytes' same r has =
    let k = r.kept in
    let at = k.within in let size = k.size in
    let long : length bytes' ≡ v.disk.bsize = ap (λ (l : List ℕ). length l) same ∙ r.bytes_long in
    subst (λ (n : ℕ). HasBlocks units v.unit 3 n) (sym long) (fewer_on units v.unit 3 v.disk.count v.disk.bsize (omega arith) has)

-- the blocks of an edit's volume are the unit's
pub edit_blocks : (units : List Attached) (v : HeldVolume) (change : Change) (stamp : Stamp) (e e' : FileEdit) (s s' : Systems) → e' ≡ e → s' ≡ s → IsEditFor v change stamp e s
    → HasBlocks units v.unit v.disk.count v.disk.bsize → HasBlocks units v.unit s'.label.blocks (length s'.label_bytes)
edit_blocks units v change stamp e e' s s' same_e same_s p has =
    let k = edit_keeps v change stamp e e' s s' same_e same_s p p.edit (subst (λ (y : FileEdit). DoesTo v.files y p.edit) (sym same_e) p.done) in
    let at = k.within in
    let long : length s'.label_bytes ≡ v.disk.bsize = ap (λ (y : Systems). length y.label_bytes) same_s ∙ p.label_long in
    subst (λ (n : ℕ). HasBlocks units v.unit s'.label.blocks n) (sym long) (fewer_on units v.unit s'.label.blocks v.disk.count v.disk.bsize (omega (arith, at)) has)

-- the volume of a plan is kept
pub plan_keeps : (v : HeldVolume) (change : Change) (stamp : Stamp) (s : Step) → IsPlanFor v change stamp s → Keeps v
plan_keeps v change stamp (step.Edit e s) p = p.ready.kept
plan_keeps v change stamp (step.Relabel label bytes) (volid, is, r) = r.kept

-- what a plan that was carried out, or cut off, comes to
pub carries_out : (j : Journal) (old new : Told) (v w : HeldVolume) (m : Minidisk) (change : Change) (stamp : Stamp) (s : Step) (r : Result ⊤ Doubt) → old ≡ Some j → IsHeldMinidisk j v m
    → IsPlanFor v change stamp s → OnOk r (new ≡ plus old (step_events v s)) → OnOk r (LeadsTo v s w) → IfErr r (IsStopped old new v s) → CarriesOut j new v w m change s r
carries_out j old new v w m change stamp s (Ok x) is held p done leads stop =
    let kept = plan_keeps v change stamp s p in
    (moves j v m change stamp s kept held p, carried j new v w m change stamp s kept held p (done ∙ ap (λ (t : Told). plus t (step_events v s)) is) leads)
carries_out j old new v w m change stamp s (Err why) is held p done leads stop =
    stopped j new v w m change stamp s why (plan_keeps v change stamp s p) held p (subst (λ (t : Told). IsStopped t new v s why) is stop)

-- what is told of an edit that was taken out of its plan
pub record IsCarried (old new : Told) (v w : HeldVolume) (plan : Step) (r : Result ⊤ Doubt) : Type 0 where
  pub done : OnOk r (new ≡ plus old (step_events v plan))
  pub cut_off : IfErr r (IsStopped old new v plan)
  pub volume : OnOk r (LeadsTo v plan w)

pub edit_carried : (old new : Told) (v w : HeldVolume) (change : Change) (stamp : Stamp) (plan : Step) (e e' : FileEdit) (s s' : Systems) (r : Result ⊤ Doubt) → IsPlanFor v change stamp plan
    → plan ≡ step.Edit e s → e' ≡ e → s' ≡ s → UpdatesSystems old new v.unit s' r
    → OnOk r ((x : Edit) → DoesTo v.files e' x → w ≡ renewed v x s') → IsCarried old new v w plan r
edit_carried old new v w change stamp plan e e' s s' r p there same_e same_s ups leads =
    let q : IsEditFor v change stamp e s = subst (IsPlanFor v change stamp) there p in
    let size : system_writes (length s.label_bytes) s ≡ writes_of v s = ap (λ (n : ℕ). system_writes n s) q.label_long in
    let ups' : Updates old new v.unit (writes_of v s) s.label_bytes r = subst (λ (ws : List Write). Updates old new v.unit ws s.label_bytes r) size
    (subst (λ (x : Systems). UpdatesSystems old new v.unit x r) same_s ups) in
    let leads' = subst (λ (y : FileEdit). OnOk r ((x : Edit) → DoesTo v.files y x → w ≡ renewed v x s)) same_e
    (subst (λ (y : Systems). OnOk r ((x : Edit) → DoesTo v.files e' x → w ≡ renewed v x y)) same_s leads) in
    subst (λ (x : Step). IsCarried old new v w x r) (sym there) (record {
      done = updates_done old new v.unit (writes_of v s) s.label_bytes r ups';
      cut_off = updates_cut old new v.unit (writes_of v s) s.label_bytes r ups';
      volume = leads';
    })

-- and of a label
pub label_out : (j : Journal) (old new : Told) (v w : HeldVolume) (m : Minidisk) (change : Change) (stamp : Stamp) (plan : Step) (label : Label) (bytes : Vec ℕ Global) (bytes' : List ℕ)
    (r : Result ⊤ Doubt)
    → old ≡ Some j → IsHeldMinidisk j v m → IsPlanFor v change stamp plan → plan ≡ step.Relabel label bytes → OnOk r (new ≡ plus old (relabel v.unit bytes'))
    → OnOk r (w ≡ with_label_bytes v label bytes') → IfErr r (λ why. why ≡ Either) → OnErr r (MayAdd (Wrote v.unit 3 bytes') old new) → bytes' ≡ bytes.items → CarriesOut j new v w m change plan r
label_out j old new v w m change stamp plan label bytes bytes' r is held p there done leads either may same =
    let q = subst (IsPlanFor v change stamp) there p in
    let done' = subst (λ (l : List ℕ). OnOk r (new ≡ plus old (relabel v.unit l))) same done in
    let leads' = subst (λ (l : List ℕ). OnOk r (w ≡ with_label_bytes v label l)) same leads in
    let may' = subst (λ (l : List ℕ). OnErr r (MayAdd (Wrote v.unit 3 l) old new)) same may in
    subst (λ (x : Step). CarriesOut j new v w m change x r) (sym there) (carries_out j old new v w m change stamp (step.Relabel label bytes) r is held q done' leads' (both r either may'))
  where
    both : (r : Result ⊤ Doubt) → IfErr r (λ why. why ≡ Either) → OnErr r (MayAdd (Wrote v.unit 3 bytes.items) old new) → IfErr r (λ why. (why ≡ Either) × MayAdd (Wrote v.unit 3 bytes.items) old new)
    both (Ok x) a b = tt
    both (Err why) a b = (a, b)
