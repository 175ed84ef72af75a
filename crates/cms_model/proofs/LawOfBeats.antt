-- The law of beats: a crash at any moment leaves what the trace has there.
use Rattle.std.proofs.Common.{◌≡◌, ◌⊎◌, inl, inr, ℕ, ◌+◌, ◌-◌, List, [], ◌∷◌, ◌++◌, length, Option, Some, None, refl, ap, sym, ◌∙◌, subst, arith, append_assoc, length-append, ⊎_elim}
use Rattle.cms_journal.specs.declared.event.Event.{Event}
use Rattle.cms_journal.specs.declared.event.Event.TheVariants.{Now}
use Rattle.cms_journal.specs.Told.{Told, plus, typed, moments}
use Rattle.cms_model.specs.Minidisks.{State}
use Rattle.cms_model.specs.Slots.{Slot, unit_set, IsAmong}
use Rattle.cms_model.specs.Steps.{unit_of, new_slot}
use Rattle.cms_model.specs.Traces.{TraceItem, Shown, Spent, States, states_in, last_set, At, Within}
use Rattle.cms_model.specs.Points.{Leaves, Point, Sound}
use Rattle.cms_model.specs.Beats.{Deed, Said, Turned, Took, Did, Asked, Dropped, Beat, pieces, shown_by, trace, Fits, IsTyped, IsRead, IsDiskOf, OnlyTyped, OnlyRead, OnlyDisk, Beats, Chain}
use Rattle.cms_model.proofs.Lists.{lt_or_le, split, empty_front, typed-append, moments-append}
use Rattle.cms_journal.proofs.Events.{all_front}
use Rattle.cms_model.proofs.Pieces.{plus_plus, plus-nil, typed_silent, read_silent, disk_silent}
use Rattle.cms_model.proofs.Units.{beat_sets}

-- at the start of a trace
pub here : (tr : List TraceItem) (u : ℕ) (set : List State) (x : State) → IsAmong x set → Within tr 0 0 u set x
here [] u set x a = a
here (Shown [] ∷ tr) u set x a = inr (omega arith, here tr u set x a)
here (Shown (b ∷ bs) ∷ tr) u set x a = inl (omega arith, refl, a)
here (Spent ∷ tr) u set x a = inl (refl, refl, a)
here (States v new ∷ tr) u set x a = inl (refl, refl, a)

-- at the start of a unit's set
pub here_states : (v : ℕ) (new : Option Slot) (tr : List TraceItem) (u : ℕ) (set : List State) (x : State) → IsAmong x set ⊎ IsAmong x (last_set u set (states_in v new))
    → Within (states_in v new ++ tr) 0 0 u set x
here_states v None tr u set x a = here tr u set x (⊎_elim (λ h. h) (λ h. h) a)
here_states v (Some new) tr u set x (inl a) = inl (refl, refl, a)
here_states v (Some new) tr u set x (inr a) = inr (here tr u _ x a)

-- a mark inside a beat's piece
pub inside_beat : (d : Deed) (es p q : List Event) → Fits d es → p ++ q ≡ es → (tr : List TraceItem) (u : ℕ) (set : List State) (x : State) → IsAmong x set ⊎ IsAmong x (last_set u set (shown_by d))
    → Within (shown_by d ++ tr) (length (typed p)) (length (moments p)) u set x
inside_beat (Said b) es p q fits e tr u set x a =
    let only : OnlyTyped p = all_front IsTyped p q (subst OnlyTyped (sym e) fits.0) in
    let none : length (moments p) ≡ 0 = ap length (typed_silent p only).moments_none in
    let total : typed p ++ typed q ≡ b = sym (typed-append p q) ∙ ap typed e ∙ fits.1 in
    let sum : length (typed p) + length (typed q) ≡ length b = sym (length-append (typed p) (typed q)) ∙ ap length total in
    let among : IsAmong x set = ⊎_elim (λ h. h) (λ h. h) a in
    ⊎_elim
    (λ lt. inl (lt, none, among))
    (λ le. inr (le, (let z : length (typed p) - length b ≡ 0 = omega (arith, sum, le) in rw (z, none) (here tr u set x among))))
    (lt_or_le (length (typed p)) (length b))
inside_beat (Turned m) es [] q fits e tr u set x a = inl (refl, refl, ⊎_elim (λ h. h) (λ h. h) a)
inside_beat (Turned m) es (y ∷ p) q fits e tr u set x a =
    let all : y ∷ (p ++ q) ≡ Now m ∷ [] = e ∙ fits in
    let first : y ≡ Now m = cc in
    let rest : p ++ q ≡ [] = cc in
    let none : p ≡ [] = empty_front p q rest in
    let among : IsAmong x set = ⊎_elim (λ h. h) (λ h. h) a in
    rw (first, none) (inr (0, refl, here tr u set x among))
inside_beat (Took i) es p q fits e tr u set x a =
    let silent = read_silent p (all_front IsRead p q (subst OnlyRead (sym e) fits)) in
    let t : typed p ≡ [] = silent.typed_none in
    let n : moments p ≡ [] = silent.moments_none in
    rw (t, n) (here tr u set x (⊎_elim (λ h. h) (λ h. h) a))
inside_beat (Did s o) es p q fits e tr u set x a =
    let silent = disk_silent (unit_of s) p (all_front (IsDiskOf (unit_of s)) p q (subst (OnlyDisk (unit_of s)) (sym e) fits.disk)) in
    let t : typed p ≡ [] = silent.typed_none in
    let n : moments p ≡ [] = silent.moments_none in
    rw (t, n) (here_states (unit_of s) (new_slot s o) tr u set x a)
inside_beat (Asked n o r b) es p q fits e tr u set x a =
    let none : p ≡ [] = empty_front p q (e ∙ fits.0) in rw none (here tr u set x (⊎_elim (λ h. h) (λ h. h) a))
inside_beat (Dropped n) es p q fits e tr u set x a =
    let none : p ≡ [] = empty_front p q (e ∙ fits) in rw none (here tr u set x (⊎_elim (λ h. h) (λ h. h) a))

-- a mark past a unit's set
past_states : (v : ℕ) (new : Option Slot) (tr : List TraceItem) (t n u : ℕ) (set : List State) (x : State) → Within tr t n u (last_set u set (states_in v new)) x
    → Within (states_in v new ++ tr) t n u set x
past_states v None tr t n u set x w = w
past_states v (Some new) tr t n u set x w = inr w

-- a mark past a beat's piece
pub past_beat : (d : Deed) (es : List Event) → Fits d es → (tr : List TraceItem) (t n u : ℕ) (set : List State) (x : State) → Within tr t n u (last_set u set (shown_by d)) x
    → Within (shown_by d ++ tr) (length (typed es) + t) (length (moments es) + n) u set x
past_beat (Said b) es fits tr t n u set x w =
    let none : moments es ≡ [] = (typed_silent es fits.0).moments_none in
    let all : typed es ≡ b = fits.1 in
    let back : length b + t - length b ≡ t = omega arith in
    rw (all, none) (inr (omega arith, rw back (let z : 0 + n ≡ n = omega arith in rw z w)))
past_beat (Turned m) es fits tr t n u set x w = rw fits (inr (n, omega arith, (let z : 0 + t ≡ t = omega arith in rw z w)))
past_beat (Took i) es fits tr t n u set x w =
    let silent = read_silent es fits in
    let a : typed es ≡ [] = silent.typed_none in
    let b : moments es ≡ [] = silent.moments_none in
    let zt : 0 + t ≡ t = omega arith in
    let zn : 0 + n ≡ n = omega arith in
    rw (a, b, zt, zn) w
past_beat (Did s o) es fits tr t n u set x w =
    let silent = disk_silent (unit_of s) es fits.disk in
    let a : typed es ≡ [] = silent.typed_none in
    let b : moments es ≡ [] = silent.moments_none in
    let zt : 0 + t ≡ t = omega arith in
    let zn : 0 + n ≡ n = omega arith in
    rw (a, b, zt, zn) (past_states (unit_of s) (new_slot s o) tr t n u set x w)
past_beat (Asked n o r b) es fits tr t k u set x w = let zt : 0 + t ≡ t = omega arith in let zk : 0 + k ≡ k = omega arith in rw (fits.0, zt, zk) w
past_beat (Dropped n) es fits tr t k u set x w = let zt : 0 + t ≡ t = omega arith in let zk : 0 + k ≡ k = omega arith in rw (fits, zt, zk) w

-- after a beat what is known of the units holds again
pub sound_beat : (p m : Point) (b : Beat) → Beats p b m → Sound p → Sound m
sound_beat p m b beat sound = record { each = λ u x leaves. (beat.covered sound u).whole x (subst (λ (j : Told). Leaves j u x) beat.journal leaves); now = beat.now sound }

-- and after any number of beats
pub chain_sound : (p q : Point) (bs : List Beat) → Chain p bs q → Sound p → Sound q
chain_sound p q [] chain sound = subst Sound chain sound
chain_sound p q (b ∷ bs) chain sound = chain_sound chain.0 q bs chain.2 (sound_beat p chain.0 b chain.1 sound)

-- at every front of the journal of beats a crash leaves what is within the trace there, whatever the trace goes on with
pub law : (p q : Point) (bs : List Beat) → Chain p bs q → Sound p → (e r : List Event) → e ++ r ≡ pieces bs → (u : ℕ) (x : State) → Leaves (plus p.journal e) u x → (more : List TraceItem)
    → Within (trace bs ++ more) (length (typed e)) (length (moments e)) u (unit_set p.units u) x
law p q [] chain sound e r eq u x leaves more =
    let none : e ≡ [] = empty_front e r eq in
    let now : Leaves p.journal u x = subst (λ (j : Told). Leaves j u x) (ap (plus p.journal) none ∙ plus-nil p.journal) leaves in
    rw none (here more u (unit_set p.units u) x (sound.each u x now))
law p q (b ∷ bs) chain sound e r eq u x leaves more =
    let m = chain.0 in
    let beat = chain.1 in
    let sets = beat_sets p m b beat u in
    ⊎_elim
    (λ i. rw append_assoc (inside_beat b.deed b.piece e i.0 beat.fits i.1 (trace bs ++ more) u (unit_set p.units u) x
    (⊎_elim inl (λ h. inr (subst (IsAmong x) sets h)) ((beat.covered sound u).inside e i.0 i.1 x leaves))))
    (λ i.
    let there : Leaves (plus m.journal i.0) u x = subst (λ (j : Told). Leaves j u x)
    (ap (plus p.journal) i.1 ∙ sym (plus_plus p.journal b.piece i.0) ∙ ap (λ (j : Told). plus j i.0) (sym beat.journal)) leaves in
    let on : Within (trace bs ++ more) (length (typed i.0)) (length (moments i.0)) u (unit_set m.units u) x = law m q bs chain.2 (sound_beat p m b beat sound) i.0 r i.2 u x there more in
    let set_on = subst (λ (s : List State). Within (trace bs ++ more) (length (typed i.0)) (length (moments i.0)) u s x) sets on in
    let past = past_beat b.deed b.piece beat.fits (trace bs ++ more) (length (typed i.0)) (length (moments i.0)) u (unit_set p.units u) x set_on in
    let et : length (typed e) ≡ length (typed b.piece) + length (typed i.0) =
    ap (λ (z : List Event). length (typed z)) i.1 ∙ ap length (typed-append b.piece i.0) ∙ length-append (typed b.piece) (typed i.0) in
    let en : length (moments e) ≡ length (moments b.piece) + length (moments i.0) =
    ap (λ (z : List Event). length (moments z)) i.1 ∙ ap length (moments-append b.piece i.0) ∙ length-append (moments b.piece) (moments i.0) in
    rw append_assoc (rw (et, en) past))
    (split e r b.piece (pieces bs) eq)

-- ---- one mark

at_here : (tr : List TraceItem) (u : ℕ) (set : List State) (x : State) → IsAmong x set → At tr 0 u set x
at_here [] u set x a = a
at_here (Shown [] ∷ tr) u set x a = inr (omega arith, at_here tr u set x a)
at_here (Shown (b ∷ bs) ∷ tr) u set x a = inl (omega arith, a)
at_here (Spent ∷ tr) u set x a = at_here tr u set x a
at_here (States v new ∷ tr) u set x a = inl (refl, a)

-- without the second mark
pub at_of_within : (tr : List TraceItem) (t n u : ℕ) (set : List State) (x : State) → Within tr t n u set x → At tr t u set x
at_of_within [] t n u set x w = w
at_of_within (Shown b ∷ tr) t n u set x (inl a) = inl (a.0, a.2)
at_of_within (Shown b ∷ tr) t n u set x (inr w) = inr (w.0, at_of_within tr (t - length b) n u set x w.1)
at_of_within (Spent ∷ tr) t n u set x (inl a) = rw a.1 (at_here tr u set x a.2)
at_of_within (Spent ∷ tr) t n u set x (inr w) = at_of_within tr t w.0 u set x w.2
at_of_within (States v new ∷ tr) t n u set x (inl a) = inl (a.0, a.2)
at_of_within (States v new ∷ tr) t n u set x (inr w) = inr (at_of_within tr t n u _ x w)
