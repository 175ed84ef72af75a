-- Events that leave a unit alone.
use Rattle.std.proofs.Common.{◌≡◌, inl, ℕ, List, [], ◌∷◌, Some, None, sym, ap, ◌∙◌, subst}
use Rattle.cms_journal.specs.declared.event.Event.{Event}
use Rattle.cms_journal.specs.declared.event.Event.TheVariants.{Read, Now, Typed, Wrote, Synced, Missed}
use Rattle.cms_journal.specs.Journal.{IsAside, IsUntouched, adds}
use Rattle.cms_journal.specs.Told.{Told, plus, IsOfUnit, OnlyOf}
use Rattle.cms_journal.proofs.Crashes.{changes_nothing}
use Rattle.cms_journal.proofs.Events.{all_front, all_weaker}
use Rattle.cms_model.specs.Minidisks.{State}
use Rattle.cms_model.specs.Trees.{image_of}
use Rattle.cms_model.specs.Volumes.{disk_of, state_of}
use Rattle.cms_journal.specs.Journal.{start_of}
use Rattle.cms_model.specs.Slots.{unit_set, IsAmong}
use Rattle.cms_model.specs.Points.{Leaves, HasNow, Point, with_events, Sound}
use Rattle.cms_model.specs.Beats.{IsTyped, IsRead, IsDiskOf, OnlyTyped, OnlyRead, OnlyDisk, Covers}

typed_is_aside : (u : ℕ) (e : Event) → IsTyped e → IsAside e u
typed_is_aside u (Typed b) is = tt
typed_is_aside u (Read b) is = absurd is
typed_is_aside u (Now m) is = absurd is
typed_is_aside u (Missed name size access) is = absurd is
typed_is_aside u (Wrote v k b) is = absurd is
typed_is_aside u (Synced v) is = absurd is

read_is_aside : (u : ℕ) (e : Event) → IsRead e → IsAside e u
read_is_aside u (Read b) is = tt
read_is_aside u (Typed b) is = absurd is
read_is_aside u (Now m) is = absurd is
read_is_aside u (Missed name size access) is = absurd is
read_is_aside u (Wrote v k b) is = absurd is
read_is_aside u (Synced v) is = absurd is

pub typed_aside : (p : List Event) (u : ℕ) → OnlyTyped p → IsUntouched p u
typed_aside p u only = all_weaker IsTyped (λ e. IsAside e u) (typed_is_aside u) p only

pub read_aside : (p : List Event) (u : ℕ) → OnlyRead p → IsUntouched p u
read_aside p u only = all_weaker IsRead (λ e. IsAside e u) (read_is_aside u) p only

-- those of a unit alone are writes and its syncs
of_is_disk : (u : ℕ) (e : Event) → IsOfUnit u e → IsDiskOf u e
of_is_disk u (Wrote v k b) of = tt
of_is_disk u (Synced v) of = of
of_is_disk u (Read b) of = absurd of
of_is_disk u (Typed b) of = absurd of
of_is_disk u (Now m) of = absurd of
of_is_disk u (Missed name size access) of = absurd of

pub of_disk : (u : ℕ) (p : List Event) → OnlyOf u p → OnlyDisk u p
of_disk u p only = all_weaker (IsOfUnit u) (IsDiskOf u) (of_is_disk u) p only

leaves_one : (t : Told) (e : Event) (u : ℕ) (x : State) → IsAside e u → Leaves (adds e t) u x → Leaves t u x
leaves_one None e u x aside l = l
leaves_one (Some j) e u x aside l = record {
  unit = l.unit;
  attached = l.attached;
  image = l.image;
  crash = ((changes_nothing e j.events u l.unit.start aside).crash_same l.image).0 l.crash;
  state = l.state;
}

-- what a crash leaves of the unit is what it left before them
pub leaves_aside : (t : Told) (es : List Event) (u : ℕ) (x : State) → IsUntouched es u → Leaves (plus t es) u x → Leaves t u x
leaves_aside t [] u x aside l = l
leaves_aside t (e ∷ es) u x aside l = leaves_one t e u x aside.0 (leaves_aside (adds e t) es u x aside.1 l)

now_one : (t : Told) (e : Event) (u : ℕ) (x : State) → IsAside e u → HasNow (adds e t) u x → HasNow t u x
now_one None e u x aside h = h
now_one (Some j) e u x aside h = record {
  unit = h.unit;
  attached = h.attached;
  state = ap (λ (blocks : List (List ℕ)). state_of (disk_of h.unit) (image_of blocks)) (sym (changes_nothing e j.events u (start_of j.units u) aside).contents_same) ∙ h.state;
}

-- the state of its contents is what it was before them
pub now_aside : (t : Told) (es : List Event) (u : ℕ) (x : State) → IsUntouched es u → HasNow (plus t es) u x → HasNow t u x
now_aside t [] u x aside h = h
now_aside t (e ∷ es) u x aside h = now_one t e u x aside.0 (now_aside (adds e t) es u x aside.1 h)

-- and so is all that is known of the units, where they leave each unit alone
pub sound_aside : (p : Point) (es : List Event) → ((u : ℕ) → IsUntouched es u) → Sound p → Sound (with_events p es)
sound_aside p es aside sound = record {
  each = λ u x leaves. sound.each u x (leaves_aside p.journal es u x (aside u) leaves);
  now = λ u x has. sound.now u x (now_aside p.journal es u x (aside u) has);
}

-- a piece of such events is covered, where the unit keeps its set
pub covers_aside : (p : Point) (es : List Event) (u : ℕ) (after : List State) → IsUntouched es u → after ≡ unit_set p.units u → Sound p → Covers p.journal es u (unit_set p.units u) after
covers_aside p es u after aside same sound = record {
  inside = λ front rest eq x l. inl (sound.each u x (leaves_aside p.journal front u x (all_front (λ e. IsAside e u) front rest (subst (λ (z : List Event). IsUntouched z u) (sym eq) aside)) l));
  whole = λ x l. subst (IsAmong x) (sym same) (sound.each u x (leaves_aside p.journal es u x aside l));
}
