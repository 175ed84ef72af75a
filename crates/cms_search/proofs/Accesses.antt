-- What an access of a volume comes to.
use Rattle.std.proofs.Common.{◌≡◌, ◌≢◌, ◌<◌, ◌∙◌, ⊎_elim, inl, inr, ℕ, List, [], ◌∷◌, Bool, true, false, Option, Some, None, Result, Ok, Err, length, slice_get, refl, sym, ap, subst, arith}
use Rattle.std.specs.Prelude.{⊤, ◌==◌, ◌||◌, ◌↔◌, if◌then◌else◌, IfErr, IfSome, OnErr, not, is_some, option_map}
use Rattle.std.specs.Option.{ForSome, option_and_then, option_map_or}
use Rattle.std.proofs.lemmas.Bool.{eqb-true}
use Rattle.std.proofs.lemmas.List.Quantifiers.{position-Some}
use Rattle.std.proofs.lemmas.Option.{get_or_from_slice_get, same_Some, slice_get_within}
use Rattle.std.proofs.lemmas.List.{length-set}
use Rattle.cms_journal.specs.Causes.{Counted}
use Rattle.cms_journal.specs.Journal.{HasBlocks, Journal}
use Rattle.cms_journal.specs.Told.{Told, plus}
use Rattle.cms_journal.proofs.Counts.{counted_none, counted_one}
use Rattle.cms_journal.proofs.Pieces.{plus-some}
use Rattle.cms_model.specs.Trees.{Image}
use Rattle.cms_model.specs.Minidisks as model
use Rattle.cms_model.specs.Minidisks.{Minidisk, Not, Volume}
use Rattle.cms_model.specs.Volumes.{Disk, reason, state_of}
use Rattle.cms_model.specs.LawsSizes.{IsWhole}
use Rattle.cms_model.specs.LawsUpdates.{after, now}
use Rattle.cms_model.specs.declared.fault.OpenFault.{OpenFault}
use Rattle.cms_model.specs.declared.fault.OpenFault.TheVariants as failed
use Rattle.cms_model.specs.Slots.{After, Before, Doubt, IsAmong, Settled, Slot, set_of, state_in}
use Rattle.cms_model.specs.Steps.{Access, Outcome, Good, MayAccess, ReadFault, SyncFault, access_syncs, after_access, faults_in}
use Rattle.cms_model.specs.Acts.{Act, Done, Does}
use Rattle.cms_model.specs.Runs.{Ran}
use Rattle.cms_model.proofs.Single.{ran_still}
use Rattle.cms_model.proofs.Units.{get_other, get_same, other_slot, units_put}
use Rattle.cms_world.specs.Seen.{ChangesUnits, Seen}
use Rattle.cms_disk.specs.Disks.{Accessed, IsLeft, IsMinidisk, IsOn, IsQuiet, disk_on, synced}
use Rattle.cms_disk.specs.declared.fault.AccessFault.{AccessFault}
use Rattle.cms_disk.specs.declared.fault.AccessFault.TheVariants.{Sync, Open}
use Rattle.cms_disk.specs.declared.unit.UnitInfo.{UnitInfo}
use Rattle.cms_disk.proofs.DisksTold.{state_stands}
use Rattle.cms_disk.proofs.QuietUnits.{firm_now}
use Rattle.cms_search.specs.Access.{IsOfAccess, accessing_tree, disk_for, forgetting, opened, refused_as}
use Rattle.cms_search.specs.Calls.{Acts, Holds, IsSeatOf, IsUsable, IsUsableTable, Spot, Usable, at, beside, holds, itself, machine_of, spot_at}
use Rattle.cms_search.specs.Held.{HoldsTable, HoldsUnit, StandsAs, disk_of as disk_of_unit}
use Rattle.cms_search.specs.Machine.{Letter, Machine, Places, after_step}
use Rattle.cms_search.specs.Searches.{has, item_at}
use Rattle.cms_search.specs.Shows.{device_of}
use Rattle.cms_search.specs.Tables.{AccessTable, EndsAccess, IsTable, LooksAt, Seated, answer_for, letter_for, letters_in, marked, missing_parent, place_of_device, put_on, released, seated, table_after, told_after, unit_of_device, wanted_unit, without}
use Rattle.cms_search.specs.Units as releasing
use Rattle.cms_search.specs.declared.access.AccessEnd.{AccessEnd}
use Rattle.cms_search.specs.declared.access.AccessEnd.TheVariants as ends
use Rattle.cms_search.specs.declared.fault.SearchFault.{SearchFault}
use Rattle.cms_search.specs.declared.fault.SearchFault.TheVariants as why
use Rattle.cms_search.specs.declared.state.Device.{Device}
use Rattle.cms_search.specs.declared.state.End.{End}
use Rattle.cms_search.specs.declared.state.End.TheVariants.{Memory}
use Rattle.cms_search.specs.declared.state.State.{State}
use Rattle.cms_search.specs.declared.table.Seat.{Seat}
use Rattle.cms_search.proofs.Frames.{holds_touched, same_unit}
use Rattle.cms_search.proofs.IdleEvents.{holds_some, usable_grown}
use Rattle.cms_search.proofs.Released.{disk_none, get_map, holds_left, letter_told, quiet_seated, unit_told, vdev_is}
use Rattle.cms_search.proofs.Seats.{item_here}
use Rattle.cms_search.proofs.SeatsTaken.{disk_beside, disk_seated, letters_seated}
use Rattle.cms_search.proofs.StateCalls.{acts_stayed}
use Rattle.cms_search.proofs.Stepped.{later_changes}
use Rattle.cms_search.proofs.Sure.{IsMarked, IsSure, IsSureOutcome, marked_as, refused_firm, state_now, sure, sure_broke, sure_line, sure_ran, sync_of, sync_own, synced_is, there_then, units_then}
use Rattle.cms_search.proofs.Tables.{item_put, item_without, table_accessed, table_marked}

-- ---- devices and letters

-- the unit in the place of a device has it
placed_device : (vdev : ℕ) (units : List UnitInfo) (u : ℕ) (unit : UnitInfo) → place_of_device vdev units ≡ Some u → slice_get units u ≡ Some unit → unit.vdev ≡ vdev
placed_device vdev units u unit place has =
    let h = position-Some (λ (x : UnitInfo). x.vdev == vdev) units u unit place in
    eqb-true unit.vdev vdev (subst (λ (x : UnitInfo). (x.vdev == vdev) ≡ true) (get_or_from_slice_get units u unit unit has) h.1)

-- its blocks may be read
pub blocks_there : (told : Told) (t : AccessTable) (vdev : ℕ) → Usable told t
    → ForSome told (λ j. IfSome (unit_of_device vdev t.units) (λ unit. HasBlocks j.units unit.unit.number unit.unit.blocks unit.bsize))
blocks_there told t vdev usable j is = cases (place_of_device vdev t.units)
  where
    at_place : (u : ℕ) (x : Option UnitInfo) → slice_get t.units u ≡ x → IfSome x (λ unit. HasBlocks j.units unit.unit.number unit.unit.blocks unit.bsize)
    at_place u None at = tt
    at_place u (Some unit) at = ((usable j is).units u unit at).blocks

    cases : (p : Option ℕ) → IfSome (option_and_then (λ u. slice_get t.units u) p) (λ unit. HasBlocks j.units unit.unit.number unit.unit.blocks unit.bsize)
    cases None = tt
    cases (Some u) = at_place u (slice_get t.units u) refl

-- the parent that is missing is the machine's
missing_told : (seats : List (Option Seated)) (n : ℕ) (ext : Option ℕ) → missing_parent (letters_in seats) n ext ≡ missing_parent seats n ext
missing_told seats n None = refl
missing_told seats n (Some p) = ap (λ (b : Bool). if (p == n) || b then None else Some p) (ap (λ (x : Option Letter). is_some x) (letter_told seats p) ∙ same (item_at seats p))
  where
    same : (x : Option Seated) → is_some (option_map (λ (s : Seated). s.letter) x) ≡ is_some x
    same None = refl
    same (Some s) = refl

-- the letter of the unit is the machine's
letter_made : (st : State) (units : List Slot) (u n : ℕ) (ext : Option ℕ) (unit : UnitInfo) → slice_get st.table.units u ≡ Some unit
    → disk_for (machine_of st units) u n ext ≡ letter_for u unit.writable n ext
letter_made st units u n ext unit has =
    ap (λ (x : Option Device). letter_for u (option_map_or (λ d. d.writable) x false) n ext) (get_map device_of st.table.units u ∙ ap (λ (x : Option UnitInfo). option_map device_of x) has)

-- ---- the unit that is looked at

-- a unit was looked at behind these calls, and this was found
pub record Looked (old : Spot) (w : Seen) (vdev n : ℕ) (ext : Option ℕ) (u : ℕ) (found : Result Accessed AccessFault) : Type 0 where
  pub place : place_of_device vdev old.state.table.units ≡ Some u
  pub free : missing_parent old.state.table.seats n ext ≡ None
  pub unit : UnitInfo
  pub has : slice_get old.state.table.units u ≡ Some unit
  pub doubt : Bool
  pub mark : slice_get old.state.table.doubts u ≡ Some doubt
  pub looks : LooksAt old.world.told w.told unit doubt found
  pub changes : ChangesUnits old.world w (λ e. e ≡ why.Volume failed.Device) (answer_for found)

-- what is held of it
record Line (old : Spot) (units : List Slot) (u : ℕ) (unit : UnitInfo) (doubt : Bool) : Type 0 where
  journal : Journal
  told : old.world.told ≡ Some journal
  table : HoldsTable journal units old.state.table
  line : HoldsUnit journal units old.state.table u unit
  stands : StandsAs journal u unit line.slot doubt (disk_of_unit u old.state.table.seats)
  marked : IsMarked doubt line.slot
  sure : IsSure journal (sync_of doubt u) u line.slot

line_of : (old : Spot) (units : List Slot) (u : ℕ) (unit : UnitInfo) (doubt : Bool) → slice_get old.state.table.units u ≡ Some unit → slice_get old.state.table.doubts u ≡ Some doubt
    → holds old units → Line old units u unit doubt
line_of old units u unit doubt has mark h =
    let held = holds_some old.world.told old.state.table units h in
    let line = held.2.each u unit has in
    let same : line.doubt ≡ doubt = same_Some line.doubt doubt (sym line.marked ∙ mark) in
    let stands : StandsAs held.0 u unit line.slot doubt (disk_of_unit u old.state.table.seats) =
    subst (λ (b : Bool). StandsAs held.0 u unit line.slot b (disk_of_unit u old.state.table.seats)) same line.stands in
    let is = marked_as held.0 u unit line.slot doubt (disk_of_unit u old.state.table.seats) stands in
    record { journal = held.0; told = held.1; table = held.2; line = line; stands = stands; marked = is; sure = sure held.0 units old.state.table u unit line doubt is }

-- the tree is that of a step
tree_is : (old : Spot) (w : Seen) (vdev n : ℕ) (ext : Option ℕ) (u : ℕ) (found : Result Accessed AccessFault) (l : Looked old w vdev n ext u found) (units : List Slot)
    (d : Line old units u l.unit l.doubt)
    → accessing_tree old.state vdev n ext units
    ≡ Does (Access u d.line.slot) (λ o. Done (opened (after_step (machine_of old.state units) (Access u d.line.slot) o) n (letter_for u l.unit.writable n ext) d.line.slot o))
tree_is old w vdev n ext u found l units d =
    let placed = unit_told vdev old.state.table.units ∙ l.place in
    let free = missing_told old.state.table.seats n ext ∙ l.free in
    let letter = letter_made old.state units u n ext l.unit l.has in
    let there = d.line.there in
    rw (placed, free, letter, there) refl

-- ---- a unit whose device failed in the sync, or that wasn't in doubt

-- how a step ends that does nothing
record Still (slot : Slot) (o : Outcome) : Type 0 where
  may : MayAccess slot o
  synced : access_syncs slot o ≡ 0
  none : after_access slot o ≡ None
  fails : (s : Machine) (n : ℕ) (letter : Letter) → opened s n letter slot o ≡ (s, ends.Failed)
  counts : faults_in (o ∷ []) ≡ 1

still : (doubt : Bool) (slot : Slot) → IsMarked doubt slot → (o : Outcome) × Still slot o
still true (Settled state) is = absurd is
still true (Doubt before later side) is = (SyncFault, record { may = refl; synced = refl; none = refl; fails = λ s n letter. refl; counts = refl })
still false (Settled state) is = (ReadFault 0, record { may = refl; synced = refl; none = refl; fails = λ s n letter. refl; counts = refl })
still false (Doubt before later side) is = absurd is

not_synced : (old : Spot) (w : Seen) (vdev n : ℕ) (ext : Option ℕ) (u : ℕ) (l : Looked old w vdev n ext u (Err Sync))
    → Acts old (spot_at w old.state) (accessing_tree old.state vdev n ext) (Ok ends.Failed) (beside old.state itself)
not_synced old w vdev n ext u l = record {
  each = λ units h.
      let d = line_of old units u l.unit l.doubt l.has l.mark h in
      let letter = letter_for u l.unit.writable n ext in
      let o = still l.doubt d.line.slot d.marked in
      let told : w.told ≡ old.world.told = l.looks.tells in
      let none = o.1.none in
      let k = λ (x : Outcome). Done (opened (after_step (machine_of old.state units) (Access u d.line.slot) x) n letter d.line.slot x) in
      let counted : Counted old.world.faults (faults_in (o.0 ∷ [])) w.faults = let one = o.1.counts in rw one (counted_one old.world.faults w.faults l.changes.faults (l.changes.cause refl)) in
      let ran : Ran (at old units) (at (spot_at w old.state) units) (Does (Access u d.line.slot) k) (k o.0) =
      ran_still (at old units) (at (spot_at w old.state) units) (Access u d.line.slot) o.0 k told counted o.1.synced o.1.may d.line.there refl none (record { unread = refl; ended = refl }) refl in
      let same : after_step (machine_of old.state units) (Access u d.line.slot) o.0 ≡ machine_of old.state units = rw none refl in
      let end' : k o.0 ≡ Done (machine_of old.state units, ends.Failed) =
      ap (λ (x : Machine × AccessEnd). Done x) (o.1.fails (after_step (machine_of old.state units) (Access u d.line.slot) o.0) n letter ∙ ap (λ (s : Machine). (s, ends.Failed)) same) in
      let tree = tree_is old w vdev n ext u (Err Sync) l units d in (
        units,
        (
          rw told h,
          rw tree (subst (λ (t : Act (Machine × AccessEnd)). Ran (at old units) (at (spot_at w old.state) units) (Does (Access u d.line.slot) k) t) end' ran),
        ),
      );
  later = later_changes old.world w l.changes;
  usable = λ usable. usable_grown old.world.told w.told old.state.table l.changes.grown usable;
  cause = tt;
}

-- ---- the unit is sure then

-- the volume was looked for
abbrev IsRead : Result Accessed AccessFault → Type 0
IsRead (Ok d) = ⊤
IsRead (Err (Open fault)) = ⊤
IsRead (Err Sync) = ⊥

told_read : (doubt : Bool) (u : ℕ) (told : Told) (found : Result Accessed AccessFault) → IsRead found → told_after doubt u told found ≡ synced doubt u told
told_read doubt u told (Ok d) read = refl
told_read doubt u told (Err (Open fault)) read = refl
told_read doubt u told (Err Sync) read = absurd read

grown_to : (old : Spot) (w : Seen) (vdev n : ℕ) (ext : Option ℕ) (u : ℕ) (found : Result Accessed AccessFault) (l : Looked old w vdev n ext u found) (units : List Slot)
    (d : Line old units u l.unit l.doubt)
    → IsRead found → w.told ≡ plus old.world.told (sync_of l.doubt u)
grown_to old w vdev n ext u found l units d read =
    l.looks.tells ∙ told_read l.doubt l.unit.unit.number old.world.told found read ∙ ap (λ (k : ℕ). synced l.doubt k old.world.told) d.line.number ∙ synced_is l.doubt u old.world.told

quiet_then : (j : Journal) (u : ℕ) (unit : UnitInfo) (slot : Slot) (doubt : Bool) (seat : Option Seated) → unit.unit.number ≡ u → StandsAs j u unit slot doubt seat → doubt ≡ false
    → IsQuiet (disk_on unit) (after j (sync_of doubt u)) u
quiet_then j u unit slot true seat number stands sure = absurd (cc sure)
quiet_then j u unit slot false None number stands sure = stands.1
quiet_then j u unit slot false (Some s) number stands sure = (quiet_seated j u unit slot s number stands).1

-- what is known of it at the journal then
record Then (old : Spot) (w : Seen) (units : List Slot) (u : ℕ) (unit : UnitInfo) (doubt : Bool) (found : Result Accessed AccessFault) (d : Line old units u unit doubt) : Type 0 where
  grown : w.told ≡ plus old.world.told (sync_of doubt u)
  told : w.told ≡ Some (after d.journal (sync_of doubt u))
  left : IsLeft (disk_on unit) (after d.journal (sync_of doubt u)) u found

then_of : (old : Spot) (w : Seen) (vdev n : ℕ) (ext : Option ℕ) (u : ℕ) (found : Result Accessed AccessFault) (l : Looked old w vdev n ext u found) (units : List Slot)
    (d : Line old units u l.unit l.doubt)
    → IsRead found → Then old w units u l.unit l.doubt found d
then_of old w vdev n ext u found l units d read =
    let j' = after d.journal (sync_of l.doubt u) in
    let grown = grown_to old w vdev n ext u found l units d read in
    let told : w.told ≡ Some j' = grown ∙ ap (λ (t : Told). plus t (sync_of l.doubt u)) d.told ∙ plus-some d.journal (sync_of l.doubt u) in
    let number = d.line.number in
    let whole : IsWhole (disk_on l.unit) (now j' u) = subst (λ (i : Image). IsWhole (disk_on l.unit) i) (sym d.sure.image) d.line.whole in
    let left = l.looks.left j' told (subst (λ (k : ℕ). IsWhole (disk_on l.unit) (now j' k)) (sym number) whole)
    (λ sure. subst (λ (k : ℕ). IsQuiet (disk_on l.unit) j' k) (sym number) (quiet_then d.journal u l.unit d.line.slot l.doubt (disk_of_unit u old.state.table.seats) number d.stands sure)) in
    record { grown = grown; told = told; left = subst (λ (k : ℕ). IsLeft (disk_on l.unit) j' k found) number left }

-- ---- the volume isn't accessed

-- a unit in doubt has no letter
unseated : (t : AccessTable) (u : ℕ) → IsTable t → slice_get t.doubts u ≡ Some true → disk_of_unit u t.seats ≡ None
unseated t u is mark = disk_none u t.seats (λ a x at' same.
    let sure : slice_get t.doubts u ≡ Some false = subst (λ (v : ℕ). slice_get t.doubts v ≡ Some false) same (is.sure a x at') in
    let clash : Some true ≡ Some false = sym mark ∙ sure in
    absurd (cc clash))

settled_slot : (slot : Slot) → IsMarked false slot → slot ≡ Settled (state_in slot)
settled_slot (Settled state) is = refl
settled_slot (Doubt before later side) is = absurd is

stands_refused : (j : Journal) (t : AccessTable) (u : ℕ) (unit : UnitInfo) (slot : Slot) (doubt : Bool) → IsTable t → slice_get t.doubts u ≡ Some doubt → IsMarked doubt slot
    → StandsAs j u unit slot doubt (disk_of_unit u t.seats) → IsQuiet (disk_on unit) (after j (sync_of doubt u)) u
    → StandsAs (after j (sync_of doubt u)) u unit (Settled (state_in slot)) false (disk_of_unit u t.seats)
stands_refused j t u unit slot true is mark in_doubt stands quiet =
    subst (λ (x : Option Seated). StandsAs (after j (sync_of true u)) u unit (Settled (state_in slot)) false x) (sym (unseated t u is mark)) (tt, quiet)
stands_refused j t u unit slot false is mark settled stands quiet =
    subst (λ (x : Slot). StandsAs j u unit x false (disk_of_unit u t.seats)) (settled_slot slot settled) stands

doubt_within : (t : AccessTable) (u : ℕ) (unit : UnitInfo) → IsTable t → slice_get t.units u ≡ Some unit → u < length t.doubts
doubt_within t u unit is has = let long = is.doubts in let less = slice_get_within t.units u unit has in omega (arith, long, less)

holds_refused : (j : Journal) (units : List Slot) (t : AccessTable) (u : ℕ) (unit : UnitInfo) (doubt : Bool) (o : Outcome) (line : HoldsUnit j units t u unit) → HoldsTable j units t
    → slice_get t.units u ≡ Some unit
    → IsSure j (sync_of doubt u) u line.slot → IsSureOutcome o
    → StandsAs (after j (sync_of doubt u)) u unit (Settled (state_in line.slot)) false (disk_of_unit u t.seats)
    → HoldsTable (after j (sync_of doubt u)) (units_then units u line.slot o) (marked u false t)
holds_refused j units t u unit doubt o line h has s is stands =
    let units' = units_then units u line.slot o in
    let t' = marked u false t in
    holds_touched j (sync_of doubt u) units units' t t' u unit (sync_own doubt u) (table_marked t u h.table) refl (units_put units u (after_access line.slot o)) has
    (λ v apart. record {
      slot = other_slot units u v (after_access line.slot o) apart;
      doubt = get_other t.doubts u v false (λ same. apart (sym same));
      disk = refl;
    })
    (sure_line j (sync_of doubt u) units units' t t' u unit line s (there_then units u line.slot o line.there is) (get_same t.doubts u u false (doubt_within t u unit h.table has) refl) stands)
    h

abbrev state_refused : State → ℕ → State
state_refused st u = record st { table = marked u false st.table }

-- how the step ends then
record Refuses (old : Spot) (w : Seen) (n : ℕ) (letter : Letter) (slot : Slot) (e : AccessEnd) : Type 0 where
  outcome : Outcome
  sure : IsSureOutcome outcome
  counted : Counted old.world.faults (faults_in (outcome ∷ [])) w.faults
  ends : (s : Machine) → opened s n letter slot outcome ≡ (s, e)

not_accessed : (old : Spot) (w : Seen) (vdev n : ℕ) (ext : Option ℕ) (u : ℕ) (fault : OpenFault) (l : Looked old w vdev n ext u (Err (Open fault))) (e : AccessEnd)
    → ((units : List Slot) (d : Line old units u l.unit l.doubt) → IsLeft (disk_on l.unit) (after d.journal (sync_of l.doubt u)) u (Err (Open fault))
    → Refuses old w n (letter_for u l.unit.writable n ext) d.line.slot e × IsQuiet (disk_on l.unit) (after d.journal (sync_of l.doubt u)) u)
    → Acts old (spot_at w (state_refused old.state u)) (accessing_tree old.state vdev n ext) (Ok e) (beside (state_refused old.state u) itself)
not_accessed old w vdev n ext u fault l e ends_so = record {
  each = λ units h.
      let d = line_of old units u l.unit l.doubt l.has l.mark h in
      let slot = d.line.slot in
      let letter = letter_for u l.unit.writable n ext in
      let then' = then_of old w vdev n ext u (Err (Open fault)) l units d tt in
      let so = ends_so units d then'.left in
      let o = so.0.outcome in
      let units' = units_then units u slot o in
      let new = spot_at w (state_refused old.state u) in
      let k = λ (x : Outcome). Done (opened (after_step (machine_of old.state units) (Access u slot) x) n letter slot x) in
      let ran : Ran (at old units) (at new units') (Does (Access u slot) k) (k o) =
      sure_ran (at old units) (at new units') d.journal l.doubt u slot o k d.told then'.grown d.line.there refl d.marked d.sure so.0.sure so.0.counted (record { unread = refl; ended = refl }) refl in
      let end' : k o ≡ Done (machine_of (state_refused old.state u) units', e) =
      ap (λ (x : Machine × AccessEnd). Done x) (so.0.ends (after_step (machine_of old.state units) (Access u slot) o)) in
      let stands = stands_refused d.journal old.state.table u l.unit slot l.doubt d.table.table l.mark d.marked d.stands so.1 in
      let held = holds_refused d.journal units old.state.table u l.unit l.doubt o d.line d.table l.has d.sure so.0.sure stands in
      let told = then'.told in
      let tree = tree_is old w vdev n ext u (Err (Open fault)) l units d in (
        units',
        (
          subst (λ (t : Told). Holds t (state_refused old.state u).table units') (sym told) held,
          rw tree (subst (λ (t : Act (Machine × AccessEnd)). Ran (at old units) (at new units') (Does (Access u slot) k) t) end' ran),
        ),
      );
  later = later_changes old.world w l.changes;
  usable = λ usable.
      let grown = usable_grown old.world.told w.told old.state.table l.changes.grown usable in
      λ j is. (let b = grown j is in record { units = b.units; seats = b.seats });
  cause = tt;
}

-- the device failed in a read
unread : (old : Spot) (w : Seen) (vdev n : ℕ) (ext : Option ℕ) (u : ℕ) (l : Looked old w vdev n ext u (Err (Open failed.Device)))
    → Acts old (spot_at w (state_refused old.state u)) (accessing_tree old.state vdev n ext) (Ok ends.Failed) (beside (state_refused old.state u) itself)
unread old w vdev n ext u l = not_accessed old w vdev n ext u failed.Device l ends.Failed (λ units d left. (
  record {
    outcome = ReadFault 0;
    sure = refl;
    counted = counted_one old.world.faults w.faults l.changes.faults (l.changes.cause refl);
    ends = λ s. refl;
  },
  left,
))

-- the unit is no volume, for this reason
volumeless : (old : Spot) (w : Seen) (vdev n : ℕ) (ext : Option ℕ) (u : ℕ) (fault : OpenFault) (l : Looked old w vdev n ext u (Err (Open fault))) → (fault ≡ failed.Device → ⊥)
    → (fault ≡ failed.Memory → ⊥)
    → Acts old (spot_at w (state_refused old.state u)) (accessing_tree old.state vdev n ext) (Ok (ends.NoVolume (reason fault))) (beside (state_refused old.state u) itself)
volumeless old w vdev n ext u fault l device memory = not_accessed old w vdev n ext u fault l (ends.NoVolume (reason fault)) (λ units d left.
    let j' = after d.journal (sync_of l.doubt u) in
    let firm = refused_firm (disk_on l.unit) j' u fault device memory left in
    let state = state_now d.journal (sync_of l.doubt u) units old.state.table u l.unit d.line d.sure (Not (reason fault)) (firm_now (disk_on l.unit) j' u (Not (reason fault)) firm) in (
      record {
        outcome = Good;
        sure = tt;
        counted = counted_none old.world.faults w.faults l.changes.faults;
        ends = λ s. rw state refl;
      },
      inr (reason fault, firm),
    ))

-- ---- the letter has the disk then

abbrev seat_of : ℕ → UnitInfo → ℕ → Option ℕ → Accessed → Seated
seat_of u unit n ext disk = record { letter = letter_for u unit.writable n ext; disk = disk; reading = None }

-- what is held behind a step that settled the unit at the minidisk which its new disk is
pub holds_seated : (j : Journal) (units : List Slot) (t : AccessTable) (n u : ℕ) (unit : UnitInfo) (doubt : Bool) (letter : Letter) (disk : Accessed) (m : Minidisk) (o : Outcome)
    (line : HoldsUnit j units t u unit)
    → HoldsTable j units t → slice_get t.units u ≡ Some unit → n < 26 → letter.unit ≡ u → IsSure j (sync_of doubt u) u line.slot → IsSureOutcome o → IsOn unit disk
    → IsMinidisk (after j (sync_of doubt u)) disk m
    → state_in line.slot ≡ Volume m
    → HoldsTable (after j (sync_of doubt u)) (units_then units u line.slot o) (seated n (record { letter = letter; disk = disk; reading = None }) (marked u false t))
holds_seated j units t n u unit doubt letter disk m o line h has below own s is on there state =
    let units' = units_then units u line.slot o in
    let seat : Seated = record { letter = letter; disk = disk; reading = None } in
    let t' = seated n seat (marked u false t) in
    let less : n < length t.seats = let long = h.table.letters in omega (arith, long, below) in
    let within = slice_get_within t.units u unit has in
    let table = table_accessed t u n seat h.table within own refl in
    let disk_is : disk_of_unit u t'.seats ≡ Some seat = subst (λ (v : ℕ). disk_of_unit v t'.seats ≡ Some seat) own (disk_seated (marked u false t) n seat less table) in
    let stands : StandsAs (after j (sync_of doubt u)) u unit (Settled (state_in line.slot)) false (disk_of_unit u t'.seats) =
    subst (λ (x : Option Seated). StandsAs (after j (sync_of doubt u)) u unit (Settled (state_in line.slot)) false x) (sym disk_is) (m, ap Settled state, on, there, tt) in
    holds_touched j (sync_of doubt u) units units' (released n t) t' u unit (sync_own doubt u) table refl (units_put units u (after_access line.slot o)) has
    (λ v apart. record {
      slot = other_slot units u v (after_access line.slot o) apart;
      doubt = get_other t.doubts u v false (λ same. apart (sym same));
      disk = disk_beside v n seat t.seats (λ same. apart (sym own ∙ same));
    })
    (sure_line j (sync_of doubt u) units units' t t' u unit line s (there_then units u line.slot o line.there is) (get_same t.doubts u u false (doubt_within t u unit h.table has) refl) stands)
    (holds_left j units t n h)

-- it may be used
usable_seated : (j : Journal) (t : AccessTable) (n u : ℕ) (unit : UnitInfo) (ext : Option ℕ) (disk : Accessed) → slice_get t.units u ≡ Some unit → IsOn unit disk → IsUsableTable j t
    → IsUsableTable j (seated n (seat_of u unit n ext disk) (marked u false t))
usable_seated j t n u unit ext disk has on usable = record {
  units = usable.units;
  seats = λ a x other at' there. ⊎_elim
      (λ (h : (a ≡ n) × (Some (seat_of u unit n ext disk) ≡ Some x)).
      let same = same_Some (seat_of u unit n ext disk) x h.1 in
      let place : slice_get t.units u ≡ Some other = subst (λ (y : Seated). slice_get t.units y.letter.unit ≡ Some other) (sym same) there in
      let unit_is : unit ≡ other = same_Some unit other (sym has ∙ place) in
      subst (λ (y : Seated). IsSeatOf other y) same (subst (λ (i : UnitInfo). IsSeatOf i (seat_of u unit n ext disk)) unit_is (record { on = on; marked = read_only ext })))
      (λ (h : (a ≢ n) × (item_at (without (λ e. e.letter.unit == u) t.seats) a ≡ Some x)). usable.seats a x other (item_without _ t.seats a x h.1).0 there)
      (item_put (without (λ e. e.letter.unit == u) t.seats) n (Some (seat_of u unit n ext disk)) a x at');
}
  where
    read_only : (x : Option ℕ) → unit.writable ≡ false → (is_some x || not unit.writable) ≡ true
    read_only None is = rw is refl
    read_only (Some p) is = refl

-- the state with the disk on its letter, and without the reading places that are forgotten
abbrev pub state_seated : State → ℕ → ℕ → Seated → State
state_seated st n u s = record st { table = seated n s (marked u false st.table); places = (releasing.seated n s.letter (machine_of st [])).places }

machine_seated : (st : State) (units : List Slot) (n u : ℕ) (s : Seated) → machine_of (state_seated st n u s) units ≡ releasing.seated n s.letter (machine_of st units)
machine_seated st units n u s =
    ap (λ (ls : List (Option Letter)). record (machine_of st units) { letters = ls; places = (releasing.seated n s.letter (machine_of st [])).places }) (letters_seated st.table.seats n s)
    ∙ forgot (item_at (letters_in st.table.seats) n) (put_on (λ (d : Letter). d.unit) s.letter n (letters_in st.table.seats))
  where
    forgot : (x : Option Letter) (ls : List (Option Letter)) → ◌≡◌ {A = Machine}
        (record (machine_of st units) { letters = ls; places = (releasing.forgotten x (releasing.forgotten (Some s.letter) (machine_of st []))).places })
        (record (releasing.forgotten x (releasing.forgotten (Some s.letter) (machine_of st units))) { letters = ls })
    forgot None ls = refl
    forgot (Some d) ls = refl

disk_found : (old : Spot) (w : Seen) (vdev n : ℕ) (ext : Option ℕ) (u : ℕ) (disk : Accessed) (l : Looked old w vdev n ext u (Ok disk)) → n < 26
    → Acts old (spot_at w (state_seated old.state n u (seat_of u l.unit n ext disk))) (accessing_tree old.state vdev n ext) (Ok (ends.Done (letter_for u l.unit.writable n ext).read_only))
    (beside (state_seated old.state n u (seat_of u l.unit n ext disk)) itself)
disk_found old w vdev n ext u disk l below = record {
  each = λ units h.
      let d = line_of old units u l.unit l.doubt l.has l.mark h in
      let slot = d.line.slot in
      let seat = seat_of u l.unit n ext disk in
      let letter = seat.letter in
      let state' = state_seated old.state n u seat in
      let then' = then_of old w vdev n ext u (Ok disk) l units d tt in
      let j' = after d.journal (sync_of l.doubt u) in
      let m = then'.left.0 in
      let on = l.looks.on in
      let own : disk.volume.unit ≡ u = on.number ∙ d.line.number in
      let stands : state_of disk.volume.disk (now j' disk.volume.unit) ≡ Volume m = state_stands (now j' disk.volume.unit) disk m then'.left.1.stands in
      let there : state_of (disk_on l.unit) (now j' u) ≡ Volume m =
      ap (λ (x : Disk). state_of x (now j' u)) (sym on.disk) ∙ (ap (λ (k : ℕ). state_of disk.volume.disk (now j' k)) (sym own) ∙ stands) in
      let state = state_now d.journal (sync_of l.doubt u) units old.state.table u l.unit d.line d.sure (Volume m) there in
      let units' = units_then units u slot Good in
      let new = spot_at w state' in
      let k = λ (x : Outcome). Done (opened (after_step (machine_of old.state units) (Access u slot) x) n letter slot x) in
      let ran : Ran (at old units) (at new units') (Does (Access u slot) k) (k Good) =
      sure_ran (at old units) (at new units') d.journal l.doubt u slot Good k d.told then'.grown d.line.there refl d.marked d.sure tt (counted_none old.world.faults w.faults l.changes.faults)
      (record { unread = refl; ended = refl }) refl in
      let end' : k Good ≡ Done (machine_of state' units', ends.Done letter.read_only) =
      let machine = machine_seated old.state units' n u seat in
      rw (state, machine) refl in
      let held = holds_seated d.journal units old.state.table n u l.unit l.doubt letter disk m Good d.line d.table l.has below refl d.sure tt on then'.left.1 state in
      let told = then'.told in
      let tree = tree_is old w vdev n ext u (Ok disk) l units d in (
        units',
        (
          subst (λ (t : Told). Holds t state'.table units') (sym told) held,
          rw tree (subst (λ (t : Act (Machine × AccessEnd)). Ran (at old units) (at new units') (Does (Access u slot) k) t) end' ran),
        ),
      );
  later = later_changes old.world w l.changes;
  usable = λ usable.
      let grown = usable_grown old.world.told w.told old.state.table l.changes.grown usable in
      λ j is. usable_seated j old.state.table n u l.unit ext disk l.has l.looks.on (grown j is);
  cause = tt;
}

-- ---- there was no memory

own_state : (slot : Slot) → IsAmong (state_in slot) (set_of slot)
own_state (Settled state) = inl refl
own_state (Doubt before later Before) = inl refl
own_state (Doubt before later After) = inr (inl refl)

stands_starved : (j : Journal) (u : ℕ) (unit : UnitInfo) (slot : Slot) (doubt : Bool) (seat : Option Seated) → StandsAs j u unit slot doubt seat
    → StandsAs (after j (sync_of doubt u)) u unit slot doubt seat
stands_starved j u unit slot true seat stands = stands
stands_starved j u unit slot false seat stands = stands

-- a unit in doubt stays so behind a good sync, whose slot has the state still
holds_starved : (j : Journal) (units : List Slot) (t : AccessTable) (u : ℕ) (unit : UnitInfo) (doubt : Bool) (line : HoldsUnit j units t u unit) → HoldsTable j units t
    → slice_get t.units u ≡ Some unit → slice_get t.doubts u ≡ Some doubt → StandsAs j u unit line.slot doubt (disk_of_unit u t.seats) → IsSure j (sync_of doubt u) u line.slot
    → HoldsTable (after j (sync_of doubt u)) units t
holds_starved j units t u unit doubt line h has mark stands s =
    holds_touched j (sync_of doubt u) units units t t u unit (sync_own doubt u) h.table refl refl has (λ v apart. same_unit units t v)
    (record {
      number = line.number;
      blocks = line.blocks;
      writable = line.writable;
      seen = line.seen;
      whole = subst (λ (i : Image). IsWhole (disk_on unit) i) (sym s.image) line.whole;
      slot = line.slot;
      there = line.there;
      doubt = doubt;
      marked = mark;
      stands = stands_starved j u unit line.slot doubt (disk_of_unit u t.seats) stands;
      crash = λ x left. subst (λ (y : model.State). IsAmong y (set_of line.slot)) (sym (s.crash x left)) (own_state line.slot);
      has = s.has;
    })
    h

starved : (old : Spot) (w : Seen) (vdev n : ℕ) (ext : Option ℕ) (u : ℕ) (l : Looked old w vdev n ext u (Err (Open failed.Memory)))
    → Acts {T = AccessEnd} old (spot_at w old.state) (accessing_tree old.state vdev n ext) (Err Memory) (beside old.state itself)
starved old w vdev n ext u l = record {
  each = λ units h.
      let d = line_of old units u l.unit l.doubt l.has l.mark h in
      let then' = then_of old w vdev n ext u (Err (Open failed.Memory)) l units d tt in
      let tree = tree_is old w vdev n ext u (Err (Open failed.Memory)) l units d in
      let held = holds_starved d.journal units old.state.table u l.unit l.doubt d.line d.table l.has l.mark d.stands d.sure in (
        units,
        (
          subst (λ (t : Told). Holds t old.state.table units) (sym then'.told) held,
          rw tree (sure_broke (at old units) (at (spot_at w old.state) units) d.journal l.doubt u d.line.slot _ d.told then'.grown d.line.there refl d.marked d.sure l.changes.faults),
        ),
      );
  later = later_changes old.world w l.changes;
  usable = λ usable. usable_grown old.world.told w.told old.state.table l.changes.grown usable;
  cause = λ edge. absurd (cc);
}

-- ---- an access that was refused

abbrev Comes : Spot → Seen → State → ℕ → ℕ → Option ℕ → SearchFault → Type 0
Comes old w st vdev n ext fault = Acts old (spot_at w st) (accessing_tree old.state vdev n ext) (refused_as fault) (beside st itself)

fault_is : (x fault : SearchFault) → ◌≡◌ {A = Result ⊤ SearchFault} (Err x) (Err fault) → x ≡ fault
fault_is x fault is = cc is

abbrev wanted_in : AccessTable → ℕ → ℕ → Option ℕ → Result ℕ SearchFault
wanted_in t vdev n ext = wanted_unit vdev (place_of_device vdev t.units) (missing_parent t.seats n ext)

-- no access is refused for a letter that may only be read, or a file that isn't found
answers_access : (found : Result Accessed AccessFault) → IfErr (answer_for found) IsOfAccess
answers_access (Ok disk) = tt
answers_access (Err Sync) = tt
answers_access (Err (Open failed.Device)) = tt
answers_access (Err (Open failed.Memory)) = tt
answers_access (Err (Open (failed.Label k))) = tt
answers_access (Err (Open (failed.Entry m k))) = tt
answers_access (Err (Open (failed.Pointer holder value))) = tt
answers_access (Err (Open (failed.Crossed m))) = tt
answers_access (Err (Open (failed.MapMissing m))) = tt
answers_access (Err (Open (failed.Var m k))) = tt
answers_access (Err (Open (failed.Twice m))) = tt
answers_access (Err (Open (failed.System m))) = tt

pub is_of_access : (told told' : Told) (t t' : AccessTable) (vdev n : ℕ) (ext : Option ℕ) (fault : SearchFault) → EndsAccess told told' t t' n ext (Err fault) (wanted_in t vdev n ext)
    → IsOfAccess fault
is_of_access told told' t t' vdev n ext fault ends' =
    cases (place_of_device vdev t.units) (missing_parent t.seats n ext) ends'
  where
    told_so : (r : Result ⊤ SearchFault) → Err fault ≡ r → IfErr r IsOfAccess → IsOfAccess fault
    told_so r is of = subst (λ (x : Result ⊤ SearchFault). IfErr x IsOfAccess) (sym is) of

    cases : (place missing : Option ℕ) → EndsAccess told told' t t' n ext (Err fault) (wanted_unit vdev place missing) → IsOfAccess fault
    cases None missing e = told_so (Err (why.NoUnit vdev)) e.0 tt
    cases (Some u) (Some parent) e = told_so (Err (why.NotAccessed parent)) e.0 tt
    cases (Some u) None e = told_so (answer_for e.2) e.6 (answers_access e.2)

-- with this table
refused_to : (old : Spot) (w : Seen) (vdev n : ℕ) (ext : Option ℕ) (u : ℕ) (found : Result Accessed AccessFault) (l : Looked old w vdev n ext u found) (fault : SearchFault)
    → Err fault ≡ answer_for found
    → Comes old w (record old.state { table = table_after old.state.table u (letter_for u l.unit.writable n ext) n found }) vdev n ext fault
refused_to old w vdev n ext u (Ok disk) l fault is = absurd (cc is)
refused_to old w vdev n ext u (Err Sync) l fault is = subst (Comes old w old.state vdev n ext) (fault_is (why.Volume failed.Device) fault (sym is)) (not_synced old w vdev n ext u l)
refused_to old w vdev n ext u (Err (Open failed.Device)) l fault is =
    subst (Comes old w (state_refused old.state u) vdev n ext) (fault_is (why.Volume failed.Device) fault (sym is)) (unread old w vdev n ext u l)
refused_to old w vdev n ext u (Err (Open failed.Memory)) l fault is = subst (Comes old w old.state vdev n ext) (fault_is why.Memory fault (sym is)) (starved old w vdev n ext u l)
refused_to old w vdev n ext u (Err (Open (failed.Label k))) l fault is =
    subst (Comes old w (state_refused old.state u) vdev n ext) (fault_is (why.Volume (failed.Label k)) fault (sym is)) (volumeless old w vdev n ext u (failed.Label k) l (λ e. cc e) (λ e. cc e))
refused_to old w vdev n ext u (Err (Open (failed.Entry m k))) l fault is =
    subst (Comes old w (state_refused old.state u) vdev n ext) (fault_is (why.Volume (failed.Entry m k)) fault (sym is))
    (volumeless old w vdev n ext u (failed.Entry m k) l (λ e. cc e) (λ e. cc e))
refused_to old w vdev n ext u (Err (Open (failed.Pointer holder value))) l fault is =
    subst (Comes old w (state_refused old.state u) vdev n ext) (fault_is (why.Volume (failed.Pointer holder value)) fault (sym is))
    (volumeless old w vdev n ext u (failed.Pointer holder value) l (λ e. cc e) (λ e. cc e))
refused_to old w vdev n ext u (Err (Open (failed.Crossed m))) l fault is =
    subst (Comes old w (state_refused old.state u) vdev n ext) (fault_is (why.Volume (failed.Crossed m)) fault (sym is))
    (volumeless old w vdev n ext u (failed.Crossed m) l (λ e. cc e) (λ e. cc e))
refused_to old w vdev n ext u (Err (Open (failed.MapMissing m))) l fault is =
    subst (Comes old w (state_refused old.state u) vdev n ext) (fault_is (why.Volume (failed.MapMissing m)) fault (sym is))
    (volumeless old w vdev n ext u (failed.MapMissing m) l (λ e. cc e) (λ e. cc e))
refused_to old w vdev n ext u (Err (Open (failed.Var m k))) l fault is =
    subst (Comes old w (state_refused old.state u) vdev n ext) (fault_is (why.Volume (failed.Var m k)) fault (sym is)) (volumeless old w vdev n ext u (failed.Var m k) l (λ e. cc e) (λ e. cc e))
refused_to old w vdev n ext u (Err (Open (failed.Twice m))) l fault is =
    subst (Comes old w (state_refused old.state u) vdev n ext) (fault_is (why.Volume (failed.Twice m)) fault (sym is)) (volumeless old w vdev n ext u (failed.Twice m) l (λ e. cc e) (λ e. cc e))
refused_to old w vdev n ext u (Err (Open (failed.System m))) l fault is =
    subst (Comes old w (state_refused old.state u) vdev n ext) (fault_is (why.Volume (failed.System m)) fault (sym is)) (volumeless old w vdev n ext u (failed.System m) l (λ e. cc e) (λ e. cc e))

-- nothing was done
stayed : (old : Spot) (w : Seen) (vdev n : ℕ) (ext : Option ℕ) (e : AccessEnd) → w ≡ old.world
    → ((units : List Slot) → accessing_tree old.state vdev n ext units ≡ Done (machine_of old.state units, e))
    → Acts old (spot_at w old.state) (accessing_tree old.state vdev n ext) (Ok e) (beside old.state itself)
stayed old w vdev n ext e world tree =
    acts_stayed old (spot_at w old.state) (accessing_tree old.state vdev n ext) e (beside old.state itself) world refl
    (λ units h. (subst (λ (x : Seen). holds (spot_at x old.state) units) (sym world) h, tree units))
    (λ usable. subst (λ (x : Seen). IsUsable (spot_at x old.state)) (sym world) usable)

-- no unit has the device
no_unit : (old : Spot) (w : Seen) (vdev n : ℕ) (ext : Option ℕ) → w ≡ old.world → place_of_device vdev old.state.table.units ≡ None
    → Acts old (spot_at w old.state) (accessing_tree old.state vdev n ext) (Ok ends.NoUnit) (beside old.state itself)
no_unit old w vdev n ext world none =
    stayed old w vdev n ext ends.NoUnit world (λ units. (let placed = unit_told vdev old.state.table.units ∙ none in rw placed refl))

-- or the parent is missing
no_parent : (old : Spot) (w : Seen) (vdev n : ℕ) (ext : Option ℕ) (u parent : ℕ) → w ≡ old.world → place_of_device vdev old.state.table.units ≡ Some u
    → missing_parent old.state.table.seats n ext ≡ Some parent
    → Acts old (spot_at w old.state) (accessing_tree old.state vdev n ext) (Ok (ends.NoParent parent)) (beside old.state itself)
no_parent old w vdev n ext u parent world place missing =
    stayed old w vdev n ext (ends.NoParent parent) world (λ units.
    let placed = unit_told vdev old.state.table.units ∙ place in
    let missing' = missing_told old.state.table.seats n ext ∙ missing in
    rw (placed, missing') refl)

abbrev looked_so : (old : Spot) (w : Seen) (t' : AccessTable) (vdev n : ℕ) (ext : Option ℕ) (u : ℕ) (r : Result ⊤ SearchFault) → place_of_device vdev old.state.table.units ≡ Some u
    → missing_parent old.state.table.seats n ext ≡ None → (e : EndsAccess old.world.told w.told old.state.table t' n ext r (Ok u)) → ChangesUnits old.world w (λ f. f ≡ why.Volume failed.Device) r
    → Looked old w vdev n ext u e.2
looked_so old w t' vdev n ext u r place free e changes = record {
  place = place;
  free = free;
  unit = e.0;
  has = e.3;
  doubt = e.1;
  mark = e.4;
  looks = e.5;
  changes = subst (λ (x : Result ⊤ SearchFault). ChangesUnits old.world w (λ f. f ≡ why.Volume failed.Device) x) e.6 changes;
}

-- the table refused it
pub access_refused : (old : Spot) (w : Seen) (t' : AccessTable) (vdev n : ℕ) (ext : Option ℕ) (fault : SearchFault) (r : Result AccessEnd End) → r ≡ refused_as fault
    → EndsAccess old.world.told w.told old.state.table t' n ext (Err fault) (wanted_in old.state.table vdev n ext)
    → ChangesUnits {T = ⊤} old.world w (λ f. f ≡ why.Volume failed.Device) (Err fault) → OnErr (wanted_in old.state.table vdev n ext) (w ≡ old.world)
    → Acts old (spot_at w (record old.state { table = t' })) (accessing_tree old.state vdev n ext) r (beside (record old.state { table = t' }) itself)
access_refused old w t' vdev n ext fault r is ends' changes unlooked =
    rw is (cases (place_of_device vdev old.state.table.units) refl (missing_parent old.state.table.seats n ext) refl ends' unlooked)
  where
    same_table : (f : SearchFault) → t' ≡ old.state.table → Comes old w old.state vdev n ext f → ◌≡◌ {A = Result ⊤ SearchFault} (Err fault) (Err f)
        → Comes old w (record old.state { table = t' }) vdev n ext fault
    same_table f table done is' =
        subst (λ (x : SearchFault). Comes old w (record old.state { table = t' }) vdev n ext x) (sym (fault_is fault f is'))
        (subst (λ (t : AccessTable). Comes old w (record old.state { table = t }) vdev n ext f) (sym table) done)

    cases : (place : Option ℕ) → place_of_device vdev old.state.table.units ≡ place → (missing : Option ℕ) → missing_parent old.state.table.seats n ext ≡ missing
        → EndsAccess old.world.told w.told old.state.table t' n ext (Err fault) (wanted_unit vdev place missing) → OnErr (wanted_unit vdev place missing) (w ≡ old.world)
        → Comes old w (record old.state { table = t' }) vdev n ext fault
    cases None place missing free e world = same_table (why.NoUnit vdev) e.1 (no_unit old w vdev n ext world place) e.0
    cases (Some u) place (Some parent) free e world = same_table (why.NotAccessed parent) e.1 (no_parent old w vdev n ext u parent world place free) e.0
    cases (Some u) place None free e world =
        let l = looked_so old w t' vdev n ext u (Err fault) place free e changes in
        subst (λ (t : AccessTable). Comes old w (record old.state { table = t }) vdev n ext fault) (sym e.7) (refused_to old w vdev n ext u e.2 l fault e.6)

-- ---- an access that was done

-- the reading places that are forgotten
places_seated : (st : State) (n u vdev : ℕ) (letter : Letter) (left : Option Seat) → letter.unit ≡ u → option_map (λ (x : UnitInfo). x.vdev) (slice_get st.table.units u) ≡ Some vdev
    → ((left ≡ None) ↔ (item_at st.table.seats n ≡ None))
    → IfSome left (λ told. ForSome (item_at st.table.seats n) (λ s. (told.parent ≡ s.letter.parent) × (told.read_only ≡ s.letter.read_only)
    × (option_map (λ (x : UnitInfo). x.vdev) (slice_get st.table.units s.letter.unit) ≡ Some told.vdev)))
    → forgetting left vdev st.places ≡ (releasing.seated n letter (machine_of st [])).places
places_seated st n u vdev letter left own device none some = cases (item_at st.table.seats n) refl left none some
  where
    own_device : releasing.vdev_of (machine_of st []) letter.unit ≡ vdev
    own_device = ap (λ (v : ℕ). releasing.vdev_of (machine_of st []) v) own ∙ vdev_is st [] u vdev device

    cases : (x : Option Seated) → item_at st.table.seats n ≡ x → (left : Option Seat) → ((left ≡ None) ↔ (x ≡ None))
        → IfSome left (λ told. ForSome x (λ s. (told.parent ≡ s.letter.parent) × (told.read_only ≡ s.letter.read_only)
        × (option_map (λ (y : UnitInfo). y.vdev) (slice_get st.table.units s.letter.unit) ≡ Some told.vdev)))
        → forgetting left vdev st.places ≡ (releasing.seated n letter (machine_of st [])).places
    cases None at' None none some =
        let l = letter_told st.table.seats n ∙ ap (λ (y : Option Seated). option_map (λ s. s.letter) y) at' in
        rw (l, own_device) refl
    cases (Some s) at' (Some told) none some =
        let l = letter_told st.table.seats n ∙ ap (λ (y : Option Seated). option_map (λ s. s.letter) y) at' in
        let other = vdev_is st [] s.letter.unit told.vdev (some s refl).2 in
        rw (l, own_device, other) refl
    cases None at' (Some told) none some = let clash : Some told ≡ None = none.1 refl in absurd (cc clash)
    cases (Some s) at' None none some = let clash : Some s ≡ None = none.0 refl in absurd (cc clash)

-- the disk's letter may only be read as it says
letter_there : (t : AccessTable) (n : ℕ) (s : Seated) → n < length (seated n s t).seats → has (λ x. x.letter.read_only) (item_at (seated n s t).seats n) ≡ s.letter.read_only
letter_there t n s less =
    let xs = without (λ e. e.letter.unit == s.letter.unit) t.seats in
    let there : item_at (seated n s t).seats n ≡ Some s = item_here xs n (Some s) (subst (λ (k : ℕ). n < k) (length-set xs n (Some s)) less) in
    rw there refl

pub access_done : (old : Spot) (w : Seen) (t' : AccessTable) (places : Places) (vdev n : ℕ) (ext : Option ℕ) (x : ⊤) (left : Option Seat) (read_only : Bool) → n < 26
    → EndsAccess old.world.told w.told old.state.table t' n ext (Ok x) (wanted_in old.state.table vdev n ext)
    → ChangesUnits {T = ⊤} old.world w (λ f. f ≡ why.Volume failed.Device) (Ok x)
    → IsTable t'
    → ((left ≡ None) ↔ (item_at old.state.table.seats n ≡ None))
    → IfSome left (λ told. ForSome (item_at old.state.table.seats n) (λ s. (told.parent ≡ s.letter.parent) × (told.read_only ≡ s.letter.read_only)
    × (option_map (λ (y : UnitInfo). y.vdev) (slice_get old.state.table.units s.letter.unit) ≡ Some told.vdev)))
    → places ≡ forgetting left vdev old.state.places → read_only ≡ has (λ s. s.letter.read_only) (item_at t'.seats n)
    → Acts old (spot_at w (record old.state { table = t'; places = places })) (accessing_tree old.state vdev n ext) (Ok (ends.Done read_only))
    (beside (record old.state { table = t'; places = places }) itself)
access_done old w t' places vdev n ext x left read_only below ends' changes is_table none some forgot marks =
    cases (place_of_device vdev old.state.table.units) refl (missing_parent old.state.table.seats n ext) refl ends'
  where
    found_so : (u : ℕ) (found : Result Accessed AccessFault) (l : Looked old w vdev n ext u found) → Ok x ≡ answer_for found
        → t' ≡ table_after old.state.table u (letter_for u l.unit.writable n ext) n found
        → Acts old (spot_at w (record old.state { table = t'; places = places })) (accessing_tree old.state vdev n ext) (Ok (ends.Done read_only))
        (beside (record old.state { table = t'; places = places }) itself)
    found_so u (Err Sync) l is table = absurd (cc is)
    found_so u (Err (Open failed.Device)) l is table = absurd (cc is)
    found_so u (Err (Open failed.Memory)) l is table = absurd (cc is)
    found_so u (Err (Open (failed.Label k))) l is table = absurd (cc is)
    found_so u (Err (Open (failed.Entry m k))) l is table = absurd (cc is)
    found_so u (Err (Open (failed.Pointer holder value))) l is table = absurd (cc is)
    found_so u (Err (Open (failed.Crossed m))) l is table = absurd (cc is)
    found_so u (Err (Open (failed.MapMissing m))) l is table = absurd (cc is)
    found_so u (Err (Open (failed.Var m k))) l is table = absurd (cc is)
    found_so u (Err (Open (failed.Twice m))) l is table = absurd (cc is)
    found_so u (Err (Open (failed.System m))) l is table = absurd (cc is)
    found_so u (Ok disk) l is table =
        let seat = seat_of u l.unit n ext disk in
        let device : option_map (λ (y : UnitInfo). y.vdev) (slice_get old.state.table.units u) ≡ Some vdev =
        ap (λ (y : Option UnitInfo). option_map (λ (z : UnitInfo). z.vdev) y) l.has ∙ ap (λ (v : ℕ). Some v) (placed_device vdev old.state.table.units u l.unit l.place l.has) in
        let places_are = forgot ∙ places_seated old.state n u vdev seat.letter left refl device none some in
        let state : record old.state { table = t'; places = places } ≡ state_seated old.state n u seat =
        ap (λ (t : AccessTable). record old.state { table = t; places = places }) table
        ∙ ap (λ (p : Places). record old.state { table = seated n seat (marked u false old.state.table); places = p }) places_are in
        let marks' : read_only ≡ seat.letter.read_only =
        marks ∙ ap (λ (t : AccessTable). has (λ (s : Seated). s.letter.read_only) (item_at t.seats n)) table
        ∙ letter_there (marked u false old.state.table) n seat (subst (λ (t : AccessTable). n < length t.seats) table (let long = is_table.letters in omega (arith, long, below))) in
        rw (state, marks') (disk_found old w vdev n ext u disk l below)

    cases : (place : Option ℕ) → place_of_device vdev old.state.table.units ≡ place → (missing : Option ℕ) → missing_parent old.state.table.seats n ext ≡ missing
        → EndsAccess old.world.told w.told old.state.table t' n ext (Ok x) (wanted_unit vdev place missing)
        → Acts old (spot_at w (record old.state { table = t'; places = places })) (accessing_tree old.state vdev n ext) (Ok (ends.Done read_only))
        (beside (record old.state { table = t'; places = places }) itself)
    cases None place missing free e = let clash = e.0 in absurd (cc clash)
    cases (Some u) place (Some parent) free e = let clash = e.0 in absurd (cc clash)
    cases (Some u) place None free e =
        let l = looked_so old w t' vdev n ext u (Ok x) place free e changes in
        found_so u e.2 l e.6 e.7
