-- Pieces of a journal, joined and taken apart.
use Rattle.std.proofs.Common.{◌≡◌, ℕ, ◌+◌, List, [], ◌∷◌, ◌++◌, None, Some, ◌||◌, ◌↔◌, refl, ap, sym, ◌∙◌, append_assoc, append-nil, arith}
use Rattle.cms_journal.specs.declared.event.Event.{Event}
use Rattle.cms_journal.specs.declared.event.Event.TheVariants.{Read, Now, Typed, Wrote, Synced, Missed}
use Rattle.cms_journal.specs.Journal.{Journal, adds, typed_of, contents, IsCrashImage}
use Rattle.cms_journal.proofs.Crashes.{changes_nothing}
use Rattle.cms_journal.specs.Told.{Told, plus, back, typed, script, is_over, moments, syncs, TouchesNone, NoDisk, Idle, Grown}
use Rattle.cms_journal.proofs.Events.{all_join, none_is_aside}

-- one piece after another
pub plus_plus : (t : Told) (p q : List Event) → plus (plus t p) q ≡ plus t (p ++ q)
plus_plus t [] q = refl
plus_plus t (e ∷ p) q = plus_plus (adds e t) p q

pub back_back : (p q older : List Event) → back q (back p older) ≡ back (p ++ q) older
back_back [] q older = refl
back_back (e ∷ p) q older = back_back p q (e ∷ older)

-- a journal that isn't told stays so
pub plus-none : (p : List Event) → plus None p ≡ None
plus-none [] = refl
plus-none (e ∷ p) = plus-none p

-- one that is told has the events of the piece, the newest first
pub plus-some : (j : Journal) (p : List Event) → plus (Some j) p ≡ Some (record { units = j.units; events = back p j.events })
plus-some j [] = refl
plus-some j (e ∷ p) = plus-some (record { units = j.units; events = e ∷ j.events }) p

pub typed-append : (p q : List Event) → typed (p ++ q) ≡ typed p ++ typed q
typed-append [] q = refl
typed-append (Typed b ∷ p) q = ap (λ (xs : List ℕ). b ++ xs) (typed-append p q) ∙ sym (append_assoc b (typed p) (typed q))
typed-append (Read b ∷ p) q = typed-append p q
typed-append (Now m ∷ p) q = typed-append p q
typed-append (Wrote u k v ∷ p) q = typed-append p q
typed-append (Synced u ∷ p) q = typed-append p q
typed-append (Missed name size access ∷ p) q = typed-append p q

pub script-append : (p q : List Event) → script (p ++ q) ≡ script p ++ script q
script-append [] q = refl
script-append (Read b ∷ p) q = ap (λ (xs : List ℕ). b ++ xs) (script-append p q) ∙ sym (append_assoc b (script p) (script q))
script-append (Typed b ∷ p) q = script-append p q
script-append (Now m ∷ p) q = script-append p q
script-append (Wrote u k v ∷ p) q = script-append p q
script-append (Synced u ∷ p) q = script-append p q
script-append (Missed name size access ∷ p) q = script-append p q

pub is_over-append : (p q : List Event) → is_over (p ++ q) ≡ (is_over p || is_over q)
is_over-append [] q = refl
is_over-append (Read [] ∷ p) q = refl
is_over-append (Read (x ∷ xs) ∷ p) q = is_over-append p q
is_over-append (Typed b ∷ p) q = is_over-append p q
is_over-append (Now m ∷ p) q = is_over-append p q
is_over-append (Wrote u k v ∷ p) q = is_over-append p q
is_over-append (Synced u ∷ p) q = is_over-append p q
is_over-append (Missed name size access ∷ p) q = is_over-append p q

pub moments-append : (p q : List Event) → moments (p ++ q) ≡ moments p ++ moments q
moments-append [] q = refl
moments-append (Now m ∷ p) q = ap (λ xs. m ∷ xs) (moments-append p q)
moments-append (Read b ∷ p) q = moments-append p q
moments-append (Typed b ∷ p) q = moments-append p q
moments-append (Wrote u k v ∷ p) q = moments-append p q
moments-append (Synced u ∷ p) q = moments-append p q
moments-append (Missed name size access ∷ p) q = moments-append p q

pub syncs-append : (p q : List Event) → syncs (p ++ q) ≡ syncs p + syncs q
syncs-append [] q = omega arith
syncs-append (Synced u ∷ p) q = let ih = syncs-append p q in omega (arith, ih)
syncs-append (Read b ∷ p) q = syncs-append p q
syncs-append (Now m ∷ p) q = syncs-append p q
syncs-append (Typed b ∷ p) q = syncs-append p q
syncs-append (Wrote u k v ∷ p) q = syncs-append p q
syncs-append (Missed name size access ∷ p) q = syncs-append p q

pub idle_same : (old new : Told) → new ≡ old → Idle old new
idle_same old new same = record { events = []; told = same; none = tt }

pub idle_then : (old mid new : Told) → Idle old mid → Idle mid new → Idle old new
idle_then old mid new a b = record {
  events = a.events ++ b.events;
  told = b.told ∙ ap (λ (t : Told). plus t b.events) a.told ∙ plus_plus old a.events b.events;
  none = all_join TouchesNone a.events b.events a.none b.none;
}

pub grown_same : (old new : Told) → new ≡ old → Grown old new
grown_same old new same = record { events = []; told = same }

pub grown_idle : (old new : Told) → Idle old new → Grown old new
grown_idle old new idle = record { events = idle.events; told = idle.told }

pub grown_then : (old mid new : Told) → Grown old mid → Grown mid new → Grown old new
grown_then old mid new a b = record {
  events = a.events ++ b.events;
  told = b.told ∙ ap (λ (t : Told). plus t b.events) a.told ∙ plus_plus old a.events b.events;
}

-- where nothing happened to any unit, its contents are the same, and so is what a crash may leave of it
pub idle_contents : (p older : List Event) (u : ℕ) (start : List (List ℕ)) → NoDisk p → contents (back p older) u start ≡ contents older u start
idle_contents [] older u start none = refl
idle_contents (e ∷ p) older u start none = idle_contents p (e ∷ older) u start none.1 ∙ (changes_nothing e older u start (none_is_aside u e none.0)).contents_same

pub idle_crash : (p older : List Event) (u : ℕ) (start image : List (List ℕ)) → NoDisk p → IsCrashImage (back p older) u start image ↔ IsCrashImage older u start image
idle_crash [] older u start image none = ((λ crash. crash), (λ crash. crash))
idle_crash (e ∷ p) older u start image none =
    let more = idle_crash p (e ∷ older) u start image none.1 in
    let same = (changes_nothing e older u start (none_is_aside u e none.0)).crash_same image in
    ((λ crash. same.0 (more.0 crash)), (λ crash. more.1 (same.1 crash)))

-- all that a journal typed, by what it typed before
pub typed_of-back : (p older : List Event) → typed_of (back p older) ≡ typed_of older ++ typed p
typed_of-back [] older = sym (append-nil (typed_of older))
typed_of-back (Typed b ∷ p) older = typed_of-back p (Typed b ∷ older) ∙ append_assoc (typed_of older) b (typed p)
typed_of-back (Read b ∷ p) older = typed_of-back p (Read b ∷ older)
typed_of-back (Now m ∷ p) older = typed_of-back p (Now m ∷ older)
typed_of-back (Wrote u k v ∷ p) older = typed_of-back p (Wrote u k v ∷ older)
typed_of-back (Synced u ∷ p) older = typed_of-back p (Synced u ∷ older)
typed_of-back (Missed name size access ∷ p) older = typed_of-back p (Missed name size access ∷ older)
