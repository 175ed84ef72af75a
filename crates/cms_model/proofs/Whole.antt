-- A run from a point, cut off or not: what it adds up to, and the machine on all that was told.
use Rattle.std.proofs.Common.{◌≡◌, ◌⊎◌, inl, inr, ℕ, ℤ, ◌+◌, ◌-◌, ◌≤◌, Bool, true, false, ◌||◌, List, [], ◌∷◌, ◌++◌, length, if◌then◌else◌, ◌==◌, Option, Some, None, refl, ap, sym, ◌∙◌, subst, arith, append_assoc, append-nil, length-append, ⊎_elim}
use Rattle.std.proofs.Math.Bool.{or-false, or_assoc}
use Rattle.cms_journal.specs.declared.event.Event.{Event}
use Rattle.cms_journal.specs.declared.event.Event.TheVariants.{Read, Now, Typed, Wrote, Synced, Missed}
use Rattle.cms_journal.specs.Journal.{IsUntouched}
use Rattle.cms_journal.specs.Causes.{Counted}
use Rattle.cms_journal.specs.Told.{Told, plus, typed, script, is_over, moments}
use Rattle.cms_model.specs.Minidisks.{State}
use Rattle.cms_model.specs.Slots.{Slot, unit_set, unit_state, IsAmong}
use Rattle.cms_model.specs.Steps.{Outcome, Good, ReadFault, SyncFault, OldFault, EitherFault, unit_of, new_slot, faults_in}
use Rattle.cms_model.specs.Items.{Item, extended, items, Goes}
use Rattle.cms_model.specs.Acts.{Act, Done, Out, Take, Turn, Does, Asks, Drops}
use Rattle.cms_model.specs.Objects.{Back}
use Rattle.cms_model.specs.Traces.{TraceItem, Shown, Spent, States, bytes_of, turns_of, states_in, last_set, AreOnes, Within}
use Rattle.cms_model.specs.Feeds.{Fed, Over, WaitsForScript, feed, prepend, Waits}
use Rattle.cms_model.specs.Points.{Leaves, HasNow, Point, with_events, Sound}
use Rattle.cms_model.specs.Beats.{Deed, Said, Turned, Took, Did, Asked, Dropped, Beat, pieces, shown_by, trace, outcome_of, outcomes, backs, Fits, OnConsole, IsTyped, IsRead, IsDiskOf, OnlyTyped, OnlyRead, OnlyDisk, units_by, AreWellOn, Chain}
use Rattle.cms_model.specs.Runs.{Ran, Part, Broke, events_of, fed}
use Rattle.cms_model.specs.LawsRuns.{AddsUp, FollowsTree, ComesTo}
use Rattle.cms_model.proofs.Lists.{lt_or_le, split, split_at, empty_front, no_element, typed-append, script-append, moments-append, over-append}
use Rattle.cms_journal.proofs.Events.{all_front}
use Rattle.cms_journal.proofs.Counts.{counted_then}
use Rattle.cms_model.proofs.Pieces.{plus_plus, plus-nil, syncs_front, typed_silent, read_silent, disk_silent, read_not_typed, read_not_disk}
use Rattle.cms_model.proofs.Units.{beat_sets, units_put}
use Rattle.cms_model.proofs.Aside.{leaves_aside, sound_aside, typed_aside, read_aside}
use Rattle.cms_model.proofs.LawOfBeats.{here, here_states, past_beat, chain_sound, law}
use Rattle.cms_model.proofs.Feed.{feed_beats}
use Rattle.cms_model.proofs.Ones.{ones_append, ones_beats, ones_feed}
use Rattle.cms_model.proofs.Waits.{no_read, waits, waits_early, bytes_chain, bytes-append}

-- ---- what a chain adds up to

pub chain_told : (p q : Point) (bs : List Beat) → Chain p bs q → q.journal ≡ plus p.journal (pieces bs)
chain_told p q [] chain = ap (λ (z : Point). z.journal) (sym chain) ∙ sym (plus-nil p.journal)
chain_told p q (b ∷ bs) chain =
    let m = chain.0 in
    chain_told m q bs chain.2 ∙ ap (λ (j : Told). plus j (pieces bs)) chain.1.journal ∙ plus_plus p.journal b.piece (pieces bs)

pub faults-append : (a b : List Outcome) → faults_in (a ++ b) ≡ faults_in a + faults_in b
faults-append [] b = omega arith
faults-append (Good ∷ a) b = faults-append a b
faults-append (ReadFault j ∷ a) b = let h = faults-append a b in omega (arith, h)
faults-append (SyncFault ∷ a) b = let h = faults-append a b in omega (arith, h)
faults-append (OldFault ∷ a) b = let h = faults-append a b in omega (arith, h)
faults-append (EitherFault side ∷ a) b = let h = faults-append a b in omega (arith, h)

pub counted_later : (a b c n : ℕ) → Counted a n b → b ≤ c → Counted a n c
counted_later a b c n x le = record { later = omega (arith, x.later, le); rose = ⊎_elim (λ e. inl (omega (arith, e, le))) (λ e. inr (omega (arith, e, le))) x.rose }

pub chain_faults : (p q : Point) (bs : List Beat) → Chain p bs q → Counted p.faults (faults_in (outcomes bs)) q.faults
chain_faults p q [] chain = let e : p.faults ≡ q.faults = ap (λ (z : Point). z.faults) chain in record { later = omega (arith, e); rose = inl (omega (arith, e)) }
chain_faults p q (b ∷ bs) chain =
    let sum : faults_in (outcome_of b.deed ++ outcomes bs) ≡ faults_in (outcome_of b.deed) + faults_in (outcomes bs) = faults-append (outcome_of b.deed) (outcomes bs) in
    rw sum (counted_then p.faults chain.0.faults q.faults (faults_in (outcome_of b.deed)) (faults_in (outcomes bs)) chain.1.faults (chain_faults chain.0 q bs chain.2))

pub last-append : (u : ℕ) (set : List State) (a b : List TraceItem) → last_set u set (a ++ b) ≡ last_set u (last_set u set a) b
last-append u set [] b = refl
last-append u set (Shown c ∷ a) b = last-append u set a b
last-append u set (Spent ∷ a) b = last-append u set a b
last-append u set (States v new ∷ a) b = last-append u (if v == u then new else set) a b

-- the sets after all beats are the last of their trace
pub chain_last : (p q : Point) (bs : List Beat) → Chain p bs q → (u : ℕ) → unit_set q.units u ≡ last_set u (unit_set p.units u) (trace bs)
chain_last p q [] chain u = ap (λ (z : Point). unit_set z.units u) (sym chain)
chain_last p q (b ∷ bs) chain u =
    chain_last chain.0 q bs chain.2 u ∙ ap (λ (s : List State). last_set u s (trace bs)) (beat_sets p chain.0 b chain.1 u) ∙ sym (last-append u (unit_set p.units u) (shown_by b.deed) (trace bs))

ended_is : (d : Deed) (es : List Event) (p m : Point) → Fits d es → OnConsole d es p m → m.ended ≡ (p.ended || is_over es)
ended_is (Said c) es p m fits console = console.ended ∙ sym (ap (λ (z : Bool). p.ended || z) (typed_silent es fits.0).over_not ∙ or-false p.ended)
ended_is (Turned t) es p m fits console = console.ended ∙ sym (ap (λ (z : List Event). p.ended || is_over z) fits ∙ or-false p.ended)
ended_is (Asked n o r b) es p m fits console = console.ended ∙ sym (ap (λ (z : List Event). p.ended || is_over z) fits.0 ∙ or-false p.ended)
ended_is (Dropped n) es p m fits console = console.ended ∙ sym (ap (λ (z : List Event). p.ended || is_over z) fits ∙ or-false p.ended)
ended_is (Took i) es p m fits console = console.over
ended_is (Did s o) es p m fits console = console.ended ∙ sym (ap (λ (z : Bool). p.ended || z) (disk_silent (unit_of s) es fits.disk).over_not ∙ or-false p.ended)

pub chain_ended : (p q : Point) (bs : List Beat) → Chain p bs q → q.ended ≡ (p.ended || is_over (pieces bs))
chain_ended p q [] chain = ap (λ (z : Point). z.ended) (sym chain) ∙ sym (or-false p.ended)
chain_ended p q (b ∷ bs) chain =
    chain_ended chain.0 q bs chain.2 ∙ ap (λ (z : Bool). z || is_over (pieces bs)) (ended_is b.deed b.piece p chain.0 chain.1.fits chain.1.console)
    ∙ or_assoc p.ended (is_over b.piece) (is_over (pieces bs))
    ∙ ap (λ (z : Bool). p.ended || z) (sym (over-append b.piece (pieces bs)))

false_true : (b : Bool) → b ≡ false → b ≡ true → ⊥
false_true b f t = let e : false ≡ true = sym f ∙ t in cc

pub or_first : (a b : Bool) → (a || b) ≡ false → a ≡ false
or_first true b e = e
or_first false b e = refl

-- a mark past all beats
pub past_chain : (p q : Point) (bs : List Beat) → Chain p bs q → (tr : List TraceItem) (t n u : ℕ) (x : State) → Within tr t n u (unit_set q.units u) x
    → Within (trace bs ++ tr) (length (typed (pieces bs)) + t) (length (moments (pieces bs)) + n) u (unit_set p.units u) x
past_chain p q [] chain tr t n u x w =
    let a : 0 + t ≡ t = omega arith in
    let b : 0 + n ≡ n = omega arith in
    rw (a, b) (subst (λ (z : Point). Within tr t n u (unit_set z.units u) x) (sym chain) w)
past_chain p q (b ∷ bs) chain tr t n u x w =
    let on = past_chain chain.0 q bs chain.2 tr t n u x w in
    let set_on = subst (λ (s : List State). Within (trace bs ++ tr) (length (typed (pieces bs)) + t) (length (moments (pieces bs)) + n) u s x) (beat_sets p chain.0 b chain.1 u) on in
    let past = past_beat b.deed b.piece chain.1.fits (trace bs ++ tr) (length (typed (pieces bs)) + t) (length (moments (pieces bs)) + n) u (unit_set p.units u) x set_on in
    let et : length (typed (b.piece ++ pieces bs)) + t ≡ length (typed b.piece) + (length (typed (pieces bs)) + t) = rw (typed-append, length-append) (omega arith) in
    let en : length (moments (b.piece ++ pieces bs)) + n ≡ length (moments b.piece) + (length (moments (pieces bs)) + n) = rw (moments-append, length-append) (omega arith) in
    rw (append_assoc, et, en) past

-- ---- as many moments as turns

pub turns-append : (a b : List TraceItem) → turns_of (a ++ b) ≡ turns_of a + turns_of b
turns-append [] b = omega arith
turns-append (Shown c ∷ a) b = turns-append a b
turns-append (Spent ∷ a) b = let h = turns-append a b in omega (arith, h)
turns-append (States u s ∷ a) b = turns-append a b

turns_states : (u : ℕ) (new : Option Slot) → turns_of (states_in u new) ≡ 0
turns_states u None = refl
turns_states u (Some slot) = refl

turns_beat : (d : Deed) (es : List Event) → Fits d es → turns_of (shown_by d) ≡ length (moments es)
turns_beat (Said c) es fits = sym (ap length (typed_silent es fits.0).moments_none)
turns_beat (Turned m) es fits = sym (ap (λ (z : List Event). length (moments z)) fits)
turns_beat (Asked n o r b) es fits = sym (ap (λ (z : List Event). length (moments z)) fits.0)
turns_beat (Dropped n) es fits = sym (ap (λ (z : List Event). length (moments z)) fits)
turns_beat (Took i) es fits = sym (ap length (read_silent es fits).moments_none)
turns_beat (Did s o) es fits = turns_states (unit_of s) (new_slot s o) ∙ sym (ap length (disk_silent (unit_of s) es fits.disk).moments_none)

pub turns_chain : (p q : Point) (bs : List Beat) → Chain p bs q → turns_of (trace bs) ≡ length (moments (pieces bs))
turns_chain p q [] chain = refl
turns_chain p q (b ∷ bs) chain =
    turns-append (shown_by b.deed) (trace bs) ∙ ap (λ (n : ℕ). n + turns_of (trace bs)) (turns_beat b.deed b.piece chain.1.fits)
    ∙ ap (λ (n : ℕ). length (moments b.piece) + n) (turns_chain chain.0 q bs chain.2)
    ∙ sym (ap length (moments-append b.piece (pieces bs)) ∙ length-append (moments b.piece) (moments (pieces bs)))

-- ---- as many units

units_beat : (units : List Slot) (d : Deed) → length (units_by units d) ≡ length units
units_beat units (Said b) = refl
units_beat units (Turned m) = refl
units_beat units (Took i) = refl
units_beat units (Asked n o r b) = refl
units_beat units (Dropped n) = refl
units_beat units (Did s o) = units_put units (unit_of s) (new_slot s o)

pub units_chain : (p q : Point) (bs : List Beat) → Chain p bs q → length q.units ≡ length p.units
units_chain p q [] chain = ap (λ (z : Point). length z.units) (sym chain)
units_chain p q (b ∷ bs) chain = units_chain chain.0 q bs chain.2 ∙ ap (λ (z : List Slot). length z) chain.1.units ∙ units_beat p.units b.deed

-- ---- the events at the end, of a beat that was cut off

-- they tell no moment
pub part_moments : {R : Type 0} (p : Point) (t : Act R) (es : List Event) → Part p t es → moments es ≡ []
part_moments p (Done a) es h = ap moments h
part_moments p (Out b t) es h = (typed_silent es h.0).moments_none
part_moments p (Take k) es h = (read_silent es h.0).moments_none
part_moments p (Turn k) es h = ap moments h
part_moments p (Asks n o r k) es h = ap moments h
part_moments p (Drops n t) es h = ap moments h
part_moments p (Does s k) es h = (disk_silent (unit_of s) es h.disk).moments_none

read_past_end : (p : Point) (es c : List Event) (b : List ℕ) → ((p.ended || false) ≡ false) → p.ended ≡ true → ⊥
read_past_end p es c b f e = let g : (p.ended || false) ≡ true = ap (λ (z : Bool). z || false) e in cc

-- and nothing of the script, once its end is told
pub part_no_script : {R : Type 0} (p : Point) (t : Act R) (es : List Event) → Part p t es → p.ended ≡ true → script es ≡ []
part_no_script p (Done a) es h e = ap script h
part_no_script p (Out b t) es h e = (typed_silent es h.0).script_none
part_no_script p (Turn k) es h e = ap script h
part_no_script p (Asks n o r k) es h e = ap script h
part_no_script p (Drops n t) es h e = ap script h
part_no_script p (Does s k) es h e = (disk_silent (unit_of s) es h.disk).script_none
part_no_script p (Take k) [] h e = refl
part_no_script p (Take k) (Read b ∷ es) h e = absurd (read_past_end p es es b (h.1 [] es b refl).0 e)
part_no_script p (Take k) (Typed b ∷ es) h e = absurd h.0.0
part_no_script p (Take k) (Now b ∷ es) h e = absurd h.0.0
part_no_script p (Take k) (Missed name size access ∷ es) h e = absurd h.0.0
part_no_script p (Take k) (Wrote u k' b ∷ es) h e = absurd h.0.0
part_no_script p (Take k) (Synced u ∷ es) h e = absurd h.0.0

-- their bytes are the first of those of the rest of the tree
pub part_bytes : {R : Type 0} (p : Point) (t : Act R) (es : List Event) → Part p t es → (is : List Item) (e : Bool) (ms : List ℤ) (os : List Outcome) (back : List Back)
    → (more : List ℕ) × (typed es ++ more ≡ bytes_of (feed t is e ms os back).trace)
part_bytes p (Done a) es h is e ms os back = (bytes_of (feed (Done a) is e ms os back).trace, let z : typed es ≡ [] = ap typed h in rw z refl)
part_bytes p (Out b t) es h is e ms os back = (
  h.1.0 ++ bytes_of (feed t is e ms os back).trace,
  sym (append_assoc (typed es) h.1.0 (bytes_of (feed t is e ms os back).trace))
      ∙ ap (λ (z : List ℕ). z ++ bytes_of (feed t is e ms os back).trace) h.1.1,
)
part_bytes p (Take k) es h is e ms os back = (bytes_of (feed (Take k) is e ms os back).trace, let z : typed es ≡ [] = (read_silent es h.0).typed_none in rw z refl)
part_bytes p (Turn k) es h is e ms os back = (bytes_of (feed (Turn k) is e ms os back).trace, let z : typed es ≡ [] = ap typed h in rw z refl)
part_bytes p (Does s k) es h is e ms os back = (bytes_of (feed (Does s k) is e ms os back).trace, let z : typed es ≡ [] = (disk_silent (unit_of s) es h.disk).typed_none in rw z refl)
part_bytes p (Asks n o r k) es h is e ms os back = (bytes_of (feed (Asks n o r k) is e ms os back).trace, let z : typed es ≡ [] = ap typed h in rw z refl)
part_bytes p (Drops n t) es h is e ms os back = (bytes_of (feed (Drops n t) is e ms os back).trace, let z : typed es ≡ [] = ap typed h in rw z refl)

-- a front of them is such too
pub part_front : {R : Type 0} (p : Point) (t : Act R) (a b : List Event) → Part p t (a ++ b) → Part p t a
part_front p (Done c) a b h = empty_front a b h
part_front p (Out c t) a b h = (all_front IsTyped a b h.0, (typed b ++ h.1.0, sym (append_assoc (typed a) (typed b) h.1.0) ∙ ap (λ (z : List ℕ). z ++ h.1.0) (sym (typed-append a b)) ∙ h.1.1))
part_front p (Take k) a b h = (
  all_front IsRead a b h.0,
  λ x y c e. h.1 x (y ++ b) c
      (let z : (x ++ Read c ∷ y) ++ b ≡ a ++ b = ap (λ (w : List Event). w ++ b) e in sym (append_assoc x (Read c ∷ y) b) ∙ z),
)
part_front p (Turn k) a b h = empty_front a b h
part_front p (Asks n o r k) a b h = empty_front a b h
part_front p (Drops n t) a b h = empty_front a b h
part_front p (Does s k) a b h = record {
  disk = all_front (IsDiskOf (unit_of s)) a b h.disk;
  synced = omega (arith, syncs_front a b, h.synced);
  kept = λ sound front rest e. h.kept sound front (rest ++ b) (sym (append_assoc front rest b) ∙ ap (λ (w : List Event). w ++ b) e);
}

-- of a tree that does no step next they leave the units alone
part_keeps : (p : Point) (es : List Event) (u : ℕ) (x : State) → IsUntouched es u → Sound p → Leaves (plus p.journal es) u x → IsAmong x (unit_set p.units u)
part_keeps p es u x aside sound leaves = sound.each u x (leaves_aside p.journal es u x aside leaves)

none_untouched : (es : List Event) (u : ℕ) → es ≡ [] → IsUntouched es u
none_untouched es u e = subst (λ (z : List Event). IsUntouched z u) (sym e) tt

-- behind them what is known of the units holds still
pub part_sound : {R : Type 0} (p : Point) (t : Act R) (es : List Event) → Part p t es → Sound p → Sound (with_events p es)
part_sound p (Done c) es h sound = sound_aside p es (λ u. none_untouched es u h) sound
part_sound p (Out b t) es h sound = sound_aside p es (λ u. typed_aside es u h.0) sound
part_sound p (Take k) es h sound = sound_aside p es (λ u. read_aside es u h.0) sound
part_sound p (Turn k) es h sound = sound_aside p es (λ u. none_untouched es u h) sound
part_sound p (Asks n o r k) es h sound = sound_aside p es (λ u. none_untouched es u h) sound
part_sound p (Drops n t) es h sound = sound_aside p es (λ u. none_untouched es u h) sound
part_sound p (Does s k) es h sound = h.kept sound es [] (append-nil es)

sound_same : (a q : Point) → q.journal ≡ a.journal → q.units ≡ a.units → Sound a → Sound q
sound_same a q journal units sound = record {
  each = λ u x leaves. subst (λ (z : List Slot). IsAmong x (unit_set z u)) (sym units) (sound.each u x (subst (λ (j : Told). Leaves j u x) journal leaves));
  now = λ u x has. ap (λ (z : List Slot). unit_state z u) units ∙ sound.now u x (subst (λ (j : Told). HasNow j u x) journal has);
}

-- a mark among them
pub part_within : {R : Type 0} (p : Point) (t : Act R) (es : List Event) → Part p t es → Sound p → (u : ℕ) (x : State) → Leaves (plus p.journal es) u x → (is : List Item) (e : Bool) (ms : List ℤ) (back : List Back)
    → Within (feed t is e ms [] back).trace (length (typed es)) 0 u (unit_set p.units u) x
part_within p (Done c) es h sound u x leaves is e ms back = part_keeps p es u x (none_untouched es u h) sound leaves
part_within p (Out b t) es h sound u x leaves is e ms back =
    let among = part_keeps p es u x (typed_aside es u h.0) sound leaves in
    let total : length (typed es) + length h.1.0 ≡ length b = sym (length-append (typed es) h.1.0) ∙ ap length h.1.1 in
    ⊎_elim
    (λ lt. inl (lt, refl, among))
    (λ le. inr (le, (let z : length (typed es) - length b ≡ 0 = omega (arith, total, le) in rw z (here (feed t is e ms [] back).trace u (unit_set p.units u) x among))))
    (lt_or_le (length (typed es)) (length b))
part_within p (Take k) es h sound u x leaves is e ms back =
    let among = part_keeps p es u x (read_aside es u h.0) sound leaves in
    let z : typed es ≡ [] = (read_silent es h.0).typed_none in
    rw z (here (feed (Take k) is e ms [] back).trace u (unit_set p.units u) x among)
part_within p (Turn k) es h sound u x leaves is e ms back =
    let among = part_keeps p es u x (none_untouched es u h) sound leaves in
    let z : typed es ≡ [] = ap typed h in
    rw z (here (feed (Turn k) is e ms [] back).trace u (unit_set p.units u) x among)
part_within p (Does s k) es h sound u x leaves is e ms back =
    let among = (h.kept sound es [] (append-nil es)).each u x leaves in
    let z : typed es ≡ [] = (disk_silent (unit_of s) es h.disk).typed_none in
    rw z (here_states (unit_of s) (new_slot s Good) (feed (k Good) is e ms [] back).trace u (unit_set p.units u) x (inl among))
part_within p (Asks n o r k) es h sound u x leaves is e ms back =
    let among = part_keeps p es u x (none_untouched es u h) sound leaves in
    let z : typed es ≡ [] = ap typed h in
    rw z (here (feed (Asks n o r k) is e ms [] back).trace u (unit_set p.units u) x among)
part_within p (Drops n t) es h sound u x leaves is e ms back =
    let among = part_keeps p es u x (none_untouched es u h) sound leaves in
    let z : typed es ≡ [] = ap typed h in
    rw z (here (feed (Drops n t) is e ms [] back).trace u (unit_set p.units u) x among)

-- a read among them comes where the machine waits
pub part_waits : {R : Type 0} (p : Point) (t : Act R) (es a c : List Event) (b : List ℕ) → Part p t es → a ++ Read b ∷ c ≡ es → (ms : List ℤ) (os : List Outcome) (back : List Back)
    → (p.ended ≡ false) × (typed a ≡ []) × (moments a ≡ []) × (feed t (items (extended p.unread (script a)) false) false ms os back ≡ record { trace = []; close = WaitsForScript })
part_waits p (Take k) es a c b h e ms os back =
    let lazy = h.1 a c b e in
    let silent = read_silent a (all_front IsRead a (Read b ∷ c) (subst OnlyRead (sym e) h.0)) in
    let l : items (extended p.unread (script a)) false ≡ [] = lazy.1 in
    (or_first p.ended (is_over a) lazy.0, silent.typed_none, silent.moments_none, rw l refl)
part_waits p (Done x) es a c b h e ms os back = absurd (no_element a c (Read b) (e ∙ h))
part_waits p (Out x t) es a c b h e ms os back = absurd (read_not_typed a c b (subst OnlyTyped (sym e) h.0))
part_waits p (Turn k) es a c b h e ms os back = absurd (no_element a c (Read b) (e ∙ h))
part_waits p (Does s k) es a c b h e ms os back = absurd (read_not_disk (unit_of s) a c b (subst (OnlyDisk (unit_of s)) (sym e) h.disk))
part_waits p (Asks n o r k) es a c b h e ms os back = absurd (no_element a c (Read b) (e ∙ h))
part_waits p (Drops n t) es a c b h e ms os back = absurd (no_element a c (Read b) (e ∙ h))

-- ---- a run that was cut off, on all that was told

-- what was told since the point
pub told_all : {R : Type 0} (p q : Point) (t : Act R) (b : Broke p q t) → q.journal ≡ plus p.journal (events_of b)
told_all p q t b = b.journal ∙ ap (λ (z : Told). plus z b.loose) (chain_told p b.mid b.ran.beats b.ran.chain) ∙ plus_plus p.journal (pieces b.ran.beats) b.loose

-- the faults among the outcomes are counted
pub counted_all : {R : Type 0} (p q : Point) (t : Act R) (b : Broke p q t) → Counted p.faults (faults_in (outcomes b.ran.beats)) q.faults
counted_all p q t b = counted_later p.faults b.mid.faults q.faults (faults_in (outcomes b.ran.beats)) (chain_faults p b.mid b.ran.beats b.ran.chain) b.faults

module _ {R : Type 0} (p q : Point) (t : Act R) (b : Broke p q t) where
  mid_over : (p.ended || is_over (pieces b.ran.beats ++ b.loose)) ≡ (b.mid.ended || is_over b.loose)
  mid_over =
      ap (λ (z : Bool). p.ended || z) (over-append (pieces b.ran.beats) b.loose) ∙ sym (or_assoc p.ended (is_over (pieces b.ran.beats)) (is_over b.loose))
      ∙ ap (λ (z : Bool). z || is_over b.loose) (sym (chain_ended p b.mid b.ran.beats b.ran.chain))

  mid_goes : Goes b.mid.ended (script b.loose) (p.ended || is_over (pieces b.ran.beats ++ b.loose))
  mid_goes ended = (part_no_script b.mid b.rest b.loose b.part ended, mid_over ∙ ap (λ (z : Bool). z || is_over b.loose) ended)

  -- where it was cut off what is known of the units holds
  pub all_sound : Sound p → Sound q
  all_sound sound = sound_same (with_events b.mid b.loose) q b.journal b.units (part_sound b.mid b.rest b.loose b.part (chain_sound p b.mid b.ran.beats b.ran.chain sound))

  -- the tree on all that was told is the beats' trace, and then the rest of the tree on what the last events told
  pub fed_all : fed p t (events_of b) (outcomes b.ran.beats) (backs b.ran.beats) ≡ prepend (trace b.ran.beats) (fed b.mid b.rest b.loose [] [])
  fed_all =
      let e : Bool = p.ended || is_over (pieces b.ran.beats ++ b.loose) in
      let on = feed_beats t b.rest p b.mid b.ran.beats b.ran.chain b.ran.leads (script b.loose) e mid_goes (moments b.loose) [] [] in
      let o : outcomes b.ran.beats ++ [] ≡ outcomes b.ran.beats = append-nil (outcomes b.ran.beats) in
      let k : backs b.ran.beats ++ [] ≡ backs b.ran.beats = append-nil (backs b.ran.beats) in
      let s : script (pieces b.ran.beats ++ b.loose) ≡ script (pieces b.ran.beats) ++ script b.loose = script-append (pieces b.ran.beats) b.loose in
      let m : moments (pieces b.ran.beats ++ b.loose) ≡ moments (pieces b.ran.beats) ++ moments b.loose = moments-append (pieces b.ran.beats) b.loose in
      let there = rw (o, k) at on in
      rw (s, m) (there ∙ ap (λ (z : Bool). prepend (trace b.ran.beats) (feed b.rest (items (extended b.mid.unread (script b.loose)) z) z (moments b.loose) [] [])) mid_over)

  -- the bytes typed are the first of the machine's
  pub bytes_all : (more : List ℕ) × (typed (events_of b) ++ more ≡ bytes_of (fed p t (events_of b) (outcomes b.ran.beats) (backs b.ran.beats)).trace)
  bytes_all =
      let over = b.mid.ended || is_over b.loose in
      let part = part_bytes b.mid b.rest b.loose b.part (items (extended b.mid.unread (script b.loose)) over) over (moments b.loose) [] [] in
      let bytes : bytes_of (trace b.ran.beats) ≡ typed (pieces b.ran.beats) = bytes_chain p b.mid b.ran.beats b.ran.chain in
      let all : bytes_of (fed p t (events_of b) (outcomes b.ran.beats) (backs b.ran.beats)).trace ≡ bytes_of (trace b.ran.beats ++ (fed b.mid b.rest b.loose [] []).trace) = ap (λ (z : Fed R). bytes_of z.trace) fed_all in
      (part.0, rw (all, typed-append, bytes-append, bytes, append_assoc) (ap (λ (z : List ℕ). typed (pieces b.ran.beats) ++ z) part.1))

  -- a crash at any moment leaves what is within the machine's trace there
  pub crashes : Sound p → (front rest : List Event) → front ++ rest ≡ events_of b → (u : ℕ) (x : State) → Leaves (plus p.journal front) u x
      → Within (fed p t (events_of b) (outcomes b.ran.beats) (backs b.ran.beats)).trace (length (typed front)) (length (moments front)) u (unit_set p.units u) x
  crashes sound front rest e u x leaves =
      let within : Within (trace b.ran.beats ++ (fed b.mid b.rest b.loose [] []).trace) (length (typed front)) (length (moments front)) u (unit_set p.units u) x =
      ⊎_elim
      (λ i. law p b.mid b.ran.beats b.ran.chain sound front i.0 i.1 u x leaves (fed b.mid b.rest b.loose [] []).trace)
      (λ i.
      let over = b.mid.ended || is_over b.loose in
      let part : Part b.mid b.rest i.0 = part_front b.mid b.rest i.0 rest (subst (Part b.mid b.rest) (sym i.2) b.part) in
      let there : Leaves (plus b.mid.journal i.0) u x = subst (λ (j : Told). Leaves j u x)
      (ap (plus p.journal) i.1 ∙ sym (plus_plus p.journal (pieces b.ran.beats) i.0) ∙ ap (λ (j : Told). plus j i.0) (sym (chain_told p b.mid b.ran.beats b.ran.chain))) leaves in
      let now = part_within b.mid b.rest i.0 part (chain_sound p b.mid b.ran.beats b.ran.chain sound) u x there (items (extended b.mid.unread (script b.loose)) over) over (moments b.loose) [] in
      let past = past_chain p b.mid b.ran.beats b.ran.chain (fed b.mid b.rest b.loose [] []).trace (length (typed i.0)) 0 u x now in
      let n : moments i.0 ≡ [] = part_moments b.mid b.rest i.0 part in
      let et : length (typed front) ≡ length (typed (pieces b.ran.beats)) + length (typed i.0) =
      ap (λ (z : List Event). length (typed z)) i.1 ∙ ap length (typed-append (pieces b.ran.beats) i.0) ∙ length-append (typed (pieces b.ran.beats)) (typed i.0) in
      let en : length (moments front) ≡ length (moments (pieces b.ran.beats)) + 0 =
      ap (λ (z : List Event). length (moments z)) i.1 ∙ ap length (moments-append (pieces b.ran.beats) i.0) ∙ length-append (moments (pieces b.ran.beats)) (moments i.0)
      ∙ ap (λ (z : List ℤ). length (moments (pieces b.ran.beats)) + length z) n in
      rw (et, en) past)
      (split front rest (pieces b.ran.beats) b.loose e)
      in subst (λ (z : Fed R). Within z.trace (length (typed front)) (length (moments front)) u (unit_set p.units u) x) (sym fed_all) within

  -- at each read the machine, on what was told before it, waits
  pub all_wait : (front rest : List Event) (c : List ℕ) → front ++ Read c ∷ rest ≡ events_of b
      → Waits (feed t (items (extended p.unread (script front)) false) false (moments front) (outcomes b.ran.beats) (backs b.ran.beats)) (typed front)
  all_wait front rest c e =
      let o : outcomes b.ran.beats ++ [] ≡ outcomes b.ran.beats = append-nil (outcomes b.ran.beats) in
      let k : backs b.ran.beats ++ [] ≡ backs b.ran.beats = append-nil (backs b.ran.beats) in
      ⊎_elim
      (λ i. let w = waits t b.rest p b.mid b.ran.beats b.ran.chain b.ran.leads front i.0 c i.1 [] [] in rw (o, k) at w)
      (λ i.
      let w = part_waits b.mid b.rest b.loose i.0 rest c b.part i.2 [] [] [] in
      let goes : Goes b.mid.ended (script i.0) false = λ ended. absurd (false_true b.mid.ended w.0 ended) in
      let on = feed_beats t b.rest p b.mid b.ran.beats b.ran.chain b.ran.leads (script i.0) false goes [] [] [] in
      let there = rw (o, k) at on in
      let s : script front ≡ script (pieces b.ran.beats) ++ script i.0 = ap script i.1 ∙ script-append (pieces b.ran.beats) i.0 in
      let n : moments i.0 ≡ [] = w.2 in
      let m : moments front ≡ moments (pieces b.ran.beats) ++ [] = ap moments i.1 ∙ moments-append (pieces b.ran.beats) i.0 ∙ ap (λ (z : List ℤ). moments (pieces b.ran.beats) ++ z) n in
      let none : typed i.0 ≡ [] = w.1 in
      let ty : typed front ≡ typed (pieces b.ran.beats) = ap typed i.1 ∙ typed-append (pieces b.ran.beats) i.0 ∙ ap (λ (z : List ℕ). typed (pieces b.ran.beats) ++ z) none
      ∙ append-nil (typed (pieces b.ran.beats)) in
      let run : feed t (items (extended p.unread (script front)) false) false (moments front) (outcomes b.ran.beats) (backs b.ran.beats) ≡ record { trace = trace b.ran.beats ++ []; close = WaitsForScript } =
      rw (s, m) (there ∙ ap (prepend (trace b.ran.beats)) w.3) in
      let bytes : bytes_of (trace b.ran.beats ++ []) ≡ typed front = ap bytes_of (append-nil (trace b.ran.beats)) ∙ bytes_chain p b.mid b.ran.beats b.ran.chain ∙ sym ty in
      record { close = ap (λ (z : Fed R). z.close) run; bytes_are = ap (λ (z : Fed R). bytes_of z.trace) run ∙ bytes })
      (split_at front (Read c) rest (pieces b.ran.beats) b.loose e)

  -- none comes where the script had ended
  pub no_reads : p.ended ≡ true → (front rest : List Event) (c : List ℕ) → front ++ Read c ∷ rest ≡ events_of b → ⊥
  no_reads ended front rest c e =
      ⊎_elim
      (λ i. no_read p b.mid b.ran.beats b.ran.chain ended front i.0 c i.1)
      (λ i.
      let w = part_waits b.mid b.rest b.loose i.0 rest c b.part i.2 [] [] [] in
      let kept : b.mid.ended ≡ true = chain_ended p b.mid b.ran.beats b.ran.chain ∙ ap (λ (z : Bool). z || is_over (pieces b.ran.beats)) ended in
      false_true b.mid.ended w.0 kept)
      (split_at front (Read c) rest (pieces b.ran.beats) b.loose e)

-- ---- a run that came to its end

-- as one that is cut off behind its last beat
abbrev pub whole : {R : Type 0} (p q : Point) (t : Act R) (a : R) → Ran p q t (Done a) → Broke p q t
whole p q t a r = record { mid = q; rest = Done a; ran = r; loose = []; part = refl; journal = sym (plus-nil q.journal); faults = omega arith; units = refl }

-- the tree on all that was told comes to its result, with the beats' trace
pub fed_whole : {R : Type 0} (p q : Point) (t : Act R) (a : R) (r : Ran p q t (Done a)) → fed p t (pieces r.beats) (outcomes r.beats) (backs r.beats) ≡ record { trace = trace r.beats; close = Over a }
fed_whole {R = R} p q t a r =
    let all = fed_all p q t (whole p q t a r) in
    let pieces_nil : pieces r.beats ++ [] ≡ pieces r.beats = append-nil (pieces r.beats) in
    let trace_nil : trace r.beats ++ [] ≡ trace r.beats = append-nil (trace r.beats) in
    let there : fed p t (pieces r.beats) (outcomes r.beats) (backs r.beats) ≡ record { trace = trace r.beats ++ []; close = Over a } =
    subst (λ (es : List Event). fed p t es (outcomes r.beats) (backs r.beats) ≡ record { trace = trace r.beats ++ []; close = Over a }) pieces_nil all in
    there ∙ ap (λ (tr : List TraceItem). record { trace = tr; close = Over a }) trace_nil

pub comes_to : {R : Type 0} (p q : Point) (t : Act R) (a : R) (r : Ran p q t (Done a)) → ComesTo p q t a r (backs r.beats)
comes_to {R = R} p q t a r =
    let run = fed_whole p q t a r in
    let same : (fed p t (pieces r.beats) (outcomes r.beats) (backs r.beats)).trace ≡ trace r.beats = ap (λ (z : Fed R). z.trace) run in
    let told = chain_told p q r.beats r.chain in
    let sets : (u : ℕ) → unit_set q.units u ≡ last_set u (unit_set p.units u) (fed p t (pieces r.beats) (outcomes r.beats) (backs r.beats)).trace =
    λ u. chain_last p q r.beats r.chain u ∙ ap (last_set u (unit_set p.units u)) (sym same) in
    record {
      journal = told;
      close = ap (λ (z : Fed R). z.close) run;
      bytes = ap bytes_of same ∙ bytes_chain p q r.beats r.chain;
      turns = ap turns_of same ∙ turns_chain p q r.beats r.chain;
      sets = sets;
      states = λ sound u x leaves. subst (IsAmong x) (sets u) ((chain_sound p q r.beats r.chain sound).each u x (subst (λ (j : Told). Leaves j u x) (sym told) leaves));
    }

-- ---- in one

pub adds_up : (p q : Point) (bs : List Beat) → Chain p bs q → AddsUp p q bs
adds_up p q bs chain = record {
  journal = chain_told p q bs chain;
  faults = chain_faults p q bs chain;
  sets = chain_last p q bs chain;
  bytes = bytes_chain p q bs chain;
  turns = turns_chain p q bs chain;
  as_many = units_chain p q bs chain;
}

ones_all : {R : Type 0} (p q : Point) (t : Act R) (b : Broke p q t) (u : ℕ) → AreWellOn u b.ran.beats
    → AreOnes u (fed p t (events_of b) (outcomes b.ran.beats) (backs b.ran.beats)).trace
ones_all {R = R} p q t b u well =
    let rest : Fed R = fed b.mid b.rest b.loose [] [] in
    subst (λ (z : Fed R). AreOnes u z.trace) (sym (fed_all p q t b))
    (ones_append u (trace b.ran.beats) rest.trace (ones_beats u b.ran.beats well)
    (ones_feed u b.rest (items (extended b.mid.unread (script b.loose)) (b.mid.ended || is_over b.loose)) (b.mid.ended || is_over b.loose) (moments b.loose) []))

pub follows_tree : {R : Type 0} (p q : Point) (t : Act R) (b : Broke p q t) → FollowsTree p q t b (backs b.ran.beats)
follows_tree p q t b = record {
  journal = told_all p q t b;
  faults = counted_all p q t b;
  bytes = bytes_all p q t b;
  crash = crashes p q t b;
  ones = ones_all p q t b;
  sound = all_sound p q t b;
  as_many = ap (λ (z : List Slot). length z) b.units ∙ units_chain p b.mid b.ran.beats b.ran.chain;
  waits = all_wait p q t b;
  given = no_reads p q t b;
  waits_before = λ front rest bytes e early later cut.
      waits_early t p.unread early later (moments front) (outcomes b.ran.beats) (backs b.ran.beats) (typed front)
      (subst (λ (told : List ℕ). Waits (feed t (items (extended p.unread told) false) false (moments front) (outcomes b.ran.beats) (backs b.ran.beats)) (typed front)) (sym cut) (all_wait p q t b front rest bytes e));
}
