-- The pieces of a journal that device steps make: what a crash leaves of them, and the stamps of what they write.
use Rattle.std.proofs.Common.{◌≡◌, ◌≢◌, ◌⊎◌, ⊎_elim, inl, inr, ℕ, zero, suc, ◌+◌, ◌-◌, ◌<◌, ◌≤◌, List, [], ◌∷◌, ◌++◌, length, take, drop, get_or-set_same, append-nil, Option, Some, None, refl, sym, ◌∙◌, ap, subst, arith, add-suc, suc-add, zero-add}
use Rattle.std.specs.Prelude.{IsSomeAnd, slice_set}
use Rattle.std.specs.Option.{option_map_or}
use Rattle.std.specs.List.{AllByRecursion}
use Rattle.std.proofs.lemmas.Bool.{cases_eq, cases_lt}
use Rattle.std.proofs.lemmas.List.{drop-take, take-take}
use Rattle.std.proofs.lemmas.Option.{same_Some}
use Rattle.cms_journal.specs.declared.event.Attached.{Attached}
use Rattle.cms_journal.specs.declared.event.Event.{Event}
use Rattle.cms_journal.specs.declared.event.Event.TheVariants.{Read, Now, Typed, Wrote, Synced, Missed}
use Rattle.cms_journal.specs.Journal.{Journal, contents, start_of}
use Rattle.cms_journal.specs.Told.{Grown, Told, back, plus, syncs, IsOfUnit, OnlyOf}
use Rattle.cms_journal.proofs.Crashes.{length-contents}
use Rattle.cms_journal.proofs.Events.{all_front, all_join}
use Rattle.cms_journal.proofs.Pieces.{plus_plus, plus-some}
use Rattle.cms_journal.proofs.Sizes.{block_bounds}
use Rattle.cms_journal.proofs.Steps.{contents_wrote}
use Rattle.cms_fields.specs.Stamps.{stamp_bytes}
use Rattle.cms_fields.specs.declared.entry.Entry.{Entry}
use Rattle.cms_fields.specs.declared.time.Stamp.{Stamp}
use Rattle.cms_model.specs.Lists.{cut, times}
use Rattle.cms_model.specs.LawsSizes.{IsWhole}
use Rattle.cms_model.specs.LawsUpdates.{AddsFront, IsFront, after, now, to_label}
use Rattle.cms_model.specs.Minidisks.{State}
use Rattle.cms_model.specs.Settled.{EachCrash, Write, update, writes}
use Rattle.cms_model.specs.Trees.{image_of}
use Rattle.cms_model.specs.Volumes.{Disk, state_of}
use Rattle.cms_model.proofs.Fronts.{after_is_told}
use Rattle.cms_model.proofs.Images.{image_past, synced_contents, wrote_other}
use Rattle.cms_model.proofs.Repeats.{times_first, times_later}
use Rattle.cms_tree.specs.Climbs.{AreOwn}
use Rattle.cms_tree.proofs.Own.{writes_append}
use Rattle.cms_model.specs.Beats.{AreStamped, HasStamp, IsStamped, written_count}
use Rattle.cms_model.specs.Slots.{IsAmong}
use Rattle.cms_held.specs.LawsRenewals.{AreBlocks}
use Rattle.cms_held.specs.MinidiskUpdates as held
use Rattle.cms_held.specs.Systems.{Systems, block_writes, directory_bytes_of, system_entry}
use Rattle.cms_held.proofs.WritesAside.{IsAside}
use Rattle.cms_disk.specs.Changes.{HasState, IsWholeAt}
use Rattle.cms_disk.specs.CrashStates.{CoversOn}
use Rattle.cms_disk.specs.EmptyMinidisks.{GrownOf}
use Rattle.cms_disk.proofs.CrashStates.{leaves_state}

-- ---- the journal then

pub told_after : (j : Journal) (old new : Told) (p : List Event) → old ≡ Some j → new ≡ plus old p → new ≡ Some (after j p)
told_after j old new p is told = told ∙ (ap (λ (t : Told). plus t p) is ∙ after_is_told j p)

pub has_state : (j : Journal) (old new : Told) (p : List Event) (disk : Disk) (u : ℕ) (state : State) → old ≡ Some j → new ≡ plus old p → state_of disk (now (after j p) u) ≡ state
    → HasState new disk u state
has_state j old new p disk u state is told same = subst (λ (t : Told). HasState t disk u state) (sym (told_after j old new p is told)) same

pub start_has : (n size : ℕ) (o : Option Attached) → IsSomeAnd o (λ unit. (unit.bsize ≡ size) × (n ≤ length unit.start)) → n ≤ length (option_map_or (λ (a : Attached). a.start) o [])
start_has n size None has = absurd has
start_has n size (Some unit) has = has.1

-- ---- what a crash leaves

pub covered : (j : Journal) (old : Told) (u : ℕ) (disk : Disk) → old ≡ Some j → (es : List Event) (before later : List State)
    → ((p : List Event) → IsFront p es → EachCrash (after j p) u (λ image. IsAmong (state_of disk image) before ⊎ IsAmong (state_of disk image) later))
    → EachCrash (after j es) u (λ image. IsAmong (state_of disk image) later) → CoversOn disk old es u before later
covered j old u disk is es before later inside whole = subst (λ (t : Told). CoversOn disk t es u before later) (sym is) (record {
  inside = λ front rest same x leaves.
      leaves_state j u disk front (λ (y : State). IsAmong y before ⊎ IsAmong y later) (inside front (record { rest = rest; is = same })) x leaves;
  whole = λ x leaves. leaves_state j u disk es (λ (y : State). IsAmong y later) whole x leaves;
})

-- ---- events of one unit

pub whole_front : (p : List Event) → IsFront p p
whole_front p = record { rest = []; is = append-nil p }

pub only_writes : (u : ℕ) (ws : List Write) → OnlyOf u (writes u ws)
unfolding writes
only_writes u [] = tt
only_writes u (w ∷ ws) = (refl, only_writes u ws)

pub only_update : (u : ℕ) (ws : List Write) (label : List ℕ) → OnlyOf u (update u ws label)
unfolding update
only_update u ws label = all_join (IsOfUnit u) (writes u ws) (Synced u ∷ Wrote u 3 label ∷ Synced u ∷ []) (only_writes u ws) (refl, (refl, (refl, tt)))

-- an update up to its label has one sync
pub one_sync : (u : ℕ) (ws : List Write) → syncs (to_label u ws) ≡ 1
unfolding writes
one_sync u [] = refl
one_sync u (w ∷ ws) = one_sync u ws

-- ---- how many blocks are written

pub written_append : (p q : List Event) → written_count (p ++ q) ≡ written_count p + written_count q
written_append [] q = sym (zero-add (written_count q))
written_append (Wrote u k bytes ∷ p) q = ap suc (written_append p q) ∙ sym (suc-add (written_count p) (written_count q))
written_append (Synced u ∷ p) q = written_append p q
written_append (Read bytes ∷ p) q = written_append p q
written_append (Now seconds ∷ p) q = written_append p q
written_append (Typed bytes ∷ p) q = written_append p q
written_append (Missed name size access ∷ p) q = written_append p q

-- no more in a part of a piece than in all of it
pub written_front : (p whole : List Event) → IsFront p whole → written_count p ≤ written_count whole
written_front p whole front =
    let all : written_count p + written_count front.rest ≡ written_count whole = sym (written_append p front.rest) ∙ ap written_count front.is in
    omega (arith, all)

pub written_writes : (u : ℕ) (ws : List Write) → written_count (writes u ws) ≡ length ws
unfolding writes
written_writes u [] = refl
written_writes u (w ∷ ws) = ap suc (written_writes u ws)

pub written_update : (u : ℕ) (ws : List Write) (label : List ℕ) → written_count (update u ws label) ≡ length ws + 1
unfolding update
written_update u ws label =
    written_append (writes u ws) (Synced u ∷ Wrote u 3 label ∷ Synced u ∷ []) ∙ ap (λ (n : ℕ). n + 1) (written_writes u ws)

-- a journal tells how many it was that were added to it
written_back : (p older : List Event) → written_count (back p older) ≡ written_count p + written_count older
written_back [] older = sym (zero-add (written_count older))
written_back (Wrote u k bytes ∷ p) older =
    written_back p (Wrote u k bytes ∷ older) ∙ add-suc (written_count p) (written_count older) ∙ sym (suc-add (written_count p) (written_count older))
written_back (Synced u ∷ p) older = written_back p (Synced u ∷ older)
written_back (Read bytes ∷ p) older = written_back p (Read bytes ∷ older)
written_back (Now seconds ∷ p) older = written_back p (Now seconds ∷ older)
written_back (Typed bytes ∷ p) older = written_back p (Typed bytes ∷ older)
written_back (Missed name size access ∷ p) older = written_back p (Missed name size access ∷ older)

pub written_same : (j : Journal) (p q : List Event) → plus (Some j) p ≡ plus (Some j) q → written_count p ≡ written_count q
written_same j p q same =
    let a : Journal = record { units = j.units; events = back p j.events } in
    let b : Journal = record { units = j.units; events = back q j.events } in
    let here : a ≡ b = same_Some a b (sym (plus-some j p) ∙ (same ∙ plus-some j q)) in
    let all : written_count p + written_count j.events ≡ written_count q + written_count j.events =
    sym (written_back p j.events) ∙ (ap (λ (k : Journal). written_count k.events) here ∙ written_back q j.events) in
    omega (arith, all)

-- the laws of updates below count so too
pub written_held : (es : List Event) → held.written_count es ≡ written_count es
unfolding held.written_count
written_held [] = refl
written_held (Wrote u k bytes ∷ es) = ap suc (written_held es)
written_held (Synced u ∷ es) = written_held es
written_held (Read bytes ∷ es) = written_held es
written_held (Now seconds ∷ es) = written_held es
written_held (Typed bytes ∷ es) = written_held es
written_held (Missed name size access ∷ es) = written_held es

-- ---- the stamps of what is written

-- no block from 6 on begins a directory, nor does the label
pub no_directory : (n : ℕ) → 6 ≤ n → (n ≡ 4) ⊎ (n ≡ 5) → ⊥
no_directory n low (inl is) = omega (arith, low, is)
no_directory n low (inr is) = omega (arith, low, is)

pub label_aside : (◌≡◌ {A = ℕ} 3 4) ⊎ (◌≡◌ {A = ℕ} 3 5) → ⊥
label_aside (inl is) = omega (arith, is)
label_aside (inr is) = omega (arith, is)

pub high_stamped : (u : ℕ) (stamp : Stamp) (ns : List ℕ) (pieces : List (List ℕ)) → ((n : ℕ) → 1 ≤ times n ns → 6 ≤ n) → AreStamped u (Some stamp) (writes u (block_writes ns pieces))
unfolding writes block_writes
high_stamped u stamp [] pieces low = tt
high_stamped u stamp (n ∷ ns) [] low = tt
high_stamped u stamp (n ∷ ns) (bytes ∷ pieces) low =
    ((λ same at. absurd (no_directory n (low n (omega (arith, times_first n ns))) at)), high_stamped u stamp ns pieces (λ k some. low k (omega (arith, some, times_later k n ns))))

-- a part of the bytes before a place
part_before : (a n m : ℕ) (xs : List ℕ) → a + n ≤ m → take n (drop a (take m xs)) ≡ take n (drop a xs)
part_before a n m xs fits =
    let e : m ≡ a + (m - a) = omega arith in
    ap (λ (k : ℕ). take n (drop a (take k xs))) e ∙ (ap (take n) (drop-take a (m - a) xs) ∙ take-take n (m - a) (drop a xs) (omega arith))

has_stamp : (bsize : ℕ) (s : Systems) (entries : List Entry) (stamp : Stamp) → HasStamp (directory_bytes_of bsize s entries stamp) stamp
unfolding directory_bytes_of system_entry stamp_bytes
has_stamp bsize s entries stamp = record { directory = refl; directory_flags = refl; map = refl; map_flags = refl }

-- the first block of a directory has its stamp
pub front_has_stamp : (bsize : ℕ) (s : Systems) (entries : List Entry) (stamp : Stamp) → 512 ≤ bsize → HasStamp (take bsize (directory_bytes_of bsize s entries stamp)) stamp
front_has_stamp bsize s entries stamp low =
    let bytes = directory_bytes_of bsize s entries stamp in
    let h = has_stamp bsize s entries stamp in
    record {
      directory = part_before 54 6 bsize bytes (omega arith) ∙ h.directory;
      directory_flags = part_before 31 1 bsize bytes (omega arith) ∙ h.directory_flags;
      map = part_before 118 6 bsize bytes (omega arith) ∙ h.map;
      map_flags = part_before 95 1 bsize bytes (omega arith) ∙ h.map_flags;
    }

pub first_stamped : (u : ℕ) (stamp : Stamp) (bsize n k : ℕ) (bytes : List ℕ) → HasStamp (take bsize bytes) stamp
    → AreStamped u (Some stamp) (writes u (block_writes (n ∷ []) (take 1 (cut k bsize bytes))))
unfolding writes block_writes cut
first_stamped u stamp bsize n zero bytes h = tt
first_stamped u stamp bsize n (suc k) bytes h = (λ same at. h, tt)

-- writes of which each lies from block 6 on or has the stamp
pub stamped_aside : (u : ℕ) (stamp : Stamp) (first : List ℕ) (ws : List Write) → HasStamp first stamp → AllByRecursion (IsAside first) ws → AreStamped u (Some stamp) (writes u ws)
unfolding writes
stamped_aside u stamp first [] h all = tt
stamped_aside u stamp first (w ∷ ws) h (inl late, more) = ((λ same at. absurd (no_directory w.block late at)), stamped_aside u stamp first ws h more)
stamped_aside u stamp first (w ∷ ws) h (inr is, more) = ((λ same at. subst (λ (bytes : List ℕ). HasStamp bytes stamp) (sym is) h), stamped_aside u stamp first ws h more)

-- writes that are stamped, one list behind another
pub stamped_behind : (u : ℕ) (stamp : Stamp) (ws more : List Write) → AreStamped u (Some stamp) (writes u ws) → AreStamped u (Some stamp) (writes u more)
    → AreStamped u (Some stamp) (writes u (ws ++ more))
stamped_behind u stamp ws more one two =
    subst (AreStamped u (Some stamp)) (sym (writes_append u ws more)) (all_join (IsStamped u (Some stamp)) (writes u ws) (writes u more) one two)

-- an update whose writes are
pub update_stamped : (u : ℕ) (stamp : Stamp) (ws : List Write) (label : List ℕ) → AreStamped u (Some stamp) (writes u ws) → AreStamped u (Some stamp) (update u ws label)
unfolding update
update_stamped u stamp ws label all =
    all_join (IsStamped u (Some stamp)) (writes u ws) (Synced u ∷ Wrote u 3 label ∷ Synced u ∷ []) all (tt, ((λ same at. absurd (label_aside at)), (tt, tt)))

-- ---- a piece of one unit

pub grown_of : (u : ℕ) (old new : Told) (events : List Event) → new ≡ plus old events → OnlyOf u events → GrownOf u old new
grown_of u old new events told only = record { events = events; told = told; of_unit = only }

pub grown_then : (u : ℕ) (old mid new : Told) → GrownOf u old mid → GrownOf u mid new → GrownOf u old new
grown_then u old mid new a b = record {
  events = a.events ++ b.events;
  told = b.told ∙ (ap (λ (t : Told). plus t b.events) a.told ∙ plus_plus old a.events b.events);
  of_unit = all_join (IsOfUnit u) a.events b.events a.of_unit b.of_unit;
}

pub grown_front : (u : ℕ) (old new : Told) (events : List Event) → OnlyOf u events → AddsFront old new events → GrownOf u old new
grown_front u old new events only f =
    record { events = f.front; told = f.told; of_unit = all_front (IsOfUnit u) f.front f.is.rest (subst (OnlyOf u) (sym f.is.is) only) }

pub grown_some : {u : ℕ} {old new : Told} → GrownOf u old new → Grown old new
grown_some g = record { events = g.events; told = g.told }

-- ---- the size of each block

-- the event writes a whole block of this unit, or syncs it
abbrev pub IsWholeOf : ℕ → ℕ → Event → Type 0
IsWholeOf u size (Wrote v k bytes) = (v ≡ u) × (length bytes ≡ size)
IsWholeOf u size (Synced v) = v ≡ u
IsWholeOf u size e = ⊥

abbrev pub AreWhole : ℕ → ℕ → List Event → Type 0
AreWhole u size es = AllByRecursion (IsWholeOf u size) es

put_there : (blocks : List (List ℕ)) (k : ℕ) (bytes : List ℕ) → 1 ≤ k → k ≤ length blocks → image_of (slice_set blocks (k - 1) bytes) k ≡ bytes
unfolding image_of
put_there blocks k bytes some within = get_or-set_same blocks (k - 1) bytes [] (omega arith)

written_there : (j : Journal) (u k : ℕ) (bytes : List ℕ) → 1 ≤ k → k ≤ length (start_of j.units u) → now (after j (Wrote u k bytes ∷ [])) u k ≡ bytes
written_there j u k bytes some within =
    let start = start_of j.units u in
    let long = length-contents j.events u start in
    ap (λ (blocks : List (List ℕ)). image_of blocks k) (contents_wrote j.events u k bytes start some) ∙ put_there (contents j.events u start) k bytes some (omega arith)

-- a block that isn't empty is one of the contents
has_room : (j : Journal) (u n size : ℕ) → 1 ≤ size → length (now j u n) ≡ size → n ≤ length (start_of j.units u)
has_room j u n size some long = ⊎_elim
    (λ (past : length (start_of j.units u) < n).
    let none : now j u n ≡ [] = image_past (contents j.events u (start_of j.units u)) n (omega (arith, length-contents j.events u (start_of j.units u))) in
    absurd (let zero : length (now j u n) ≡ 0 = ap (λ (l : List ℕ). length l) none in omega (arith, zero, long, some)))
    (λ (within : n ≤ length (start_of j.units u)). within)
    (cases_lt (length (start_of j.units u)) n)

long_wrote : (j : Journal) (u k size count : ℕ) (bytes : List ℕ) → 1 ≤ size → length bytes ≡ size → ((n : ℕ) → 1 ≤ n → n ≤ count → length (now j u n) ≡ size)
    → (n : ℕ) → 1 ≤ n → n ≤ count → length (now (after j (Wrote u k bytes ∷ [])) u n) ≡ size
long_wrote j u k size count bytes some sized long n from to = ⊎_elim
    (λ (is : n ≡ k).
    let room = has_room j u n size some (long n from to) in
    ap (λ (m : ℕ). length (now (after j (Wrote u k bytes ∷ [])) u m)) is
    ∙ (ap (λ (l : List ℕ). length l) (written_there j u k bytes (omega (arith, is, from)) (omega (arith, is, room))) ∙ sized))
    (λ (other : n ≢ k). ap (λ (l : List ℕ). length l) (wrote_other j.events u k n bytes (start_of j.units u) from (λ same. other (sym same))) ∙ long n from to)
    (cases_eq n k)

long_after : (j : Journal) (u size count : ℕ) (p : List Event) → 1 ≤ size → AreWhole u size p → ((n : ℕ) → 1 ≤ n → n ≤ count → length (now j u n) ≡ size)
    → (n : ℕ) → 1 ≤ n → n ≤ count → length (now (after j p) u n) ≡ size
long_after j u size count [] some all long n from to = long n from to
long_after j u size count (Wrote v k bytes ∷ p) some all long n from to =
    let later = after j (Wrote v k bytes ∷ []) in
    long_after later u size count p some all.1
    (subst (λ (w : ℕ). (m : ℕ) → 1 ≤ m → m ≤ count → length (now (after j (Wrote w k bytes ∷ [])) u m) ≡ size) (sym all.0.0) (long_wrote j u k size count bytes some all.0.1 long)) n from to
long_after j u size count (Synced v ∷ p) some all long n from to =
    let later = after j (Synced v ∷ []) in
    long_after later u size count p some all.1
    (λ m low high. ap (λ (blocks : List (List ℕ)). length (image_of blocks m)) (synced_contents v j.events u (start_of j.units u)) ∙ long m low high) n from to
long_after j u size count (Read bytes ∷ p) some all long n from to = absurd all.0
long_after j u size count (Now seconds ∷ p) some all long n from to = absurd all.0
long_after j u size count (Typed bytes ∷ p) some all long n from to = absurd all.0
long_after j u size count (Missed name bsize access ∷ p) some all long n from to = absurd all.0

pub whole_after : (j : Journal) (u : ℕ) (disk : Disk) (p : List Event) → AreWhole u disk.bsize p → IsWhole disk (now j u) → IsWhole disk (now (after j p) u)
whole_after j u disk p all whole = record {
  size = whole.size;
  small = whole.small;
  each = (let low = (block_bounds disk.bsize whole.size).0 in long_after j u disk.bsize disk.count p (omega (arith, low)) all whole.each);
}

pub has_whole : (j : Journal) (old new : Told) (p : List Event) (disk : Disk) (u : ℕ) → old ≡ Some j → new ≡ plus old p → IsWhole disk (now (after j p) u) → IsWholeAt new disk u
has_whole j old new p disk u is told whole = subst (λ (t : Told). IsWholeAt t disk u) (sym (told_after j old new p is told)) whole

pub front_whole : (u size : ℕ) (p whole : List Event) → IsFront p whole → AreWhole u size whole → AreWhole u size p
front_whole u size p whole front all = all_front (IsWholeOf u size) p front.rest (subst (AreWhole u size) (sym front.is) all)

writes_whole : (u size : ℕ) (ws : List Write) → AreBlocks size ws → AreWhole u size (writes u ws)
unfolding writes
writes_whole u size [] blocks = tt
writes_whole u size (w ∷ ws) blocks = ((refl, blocks.0), writes_whole u size ws blocks.1)

pub own_blocks : (size : ℕ) (blocks : List ℕ) (ws : List Write) → AreOwn size blocks ws → AreBlocks size ws
own_blocks size blocks [] own = tt
own_blocks size blocks (w ∷ ws) own = (own.1, own_blocks size blocks ws own.2)

pub update_whole : (u size : ℕ) (ws : List Write) (label : List ℕ) → AreBlocks size ws → length label ≡ size → AreWhole u size (update u ws label)
unfolding update
update_whole u size ws label blocks long = all_join (IsWholeOf u size) (writes u ws) (Synced u ∷ Wrote u 3 label ∷ Synced u ∷ []) (writes_whole u size ws blocks) (refl, ((refl, long), (refl, tt)))
