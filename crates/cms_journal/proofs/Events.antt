-- Events by what they may be, and pieces of such events.
use Rattle.std.proofs.Common.{◌≡◌, ◌≢◌, ◌∙◌, ℕ, List, [], ◌∷◌, ◌++◌, sym}
use Rattle.std.specs.List.{AllByRecursion}
use Rattle.cms_journal.specs.declared.event.Event.{Event}
use Rattle.cms_journal.specs.declared.event.Event.TheVariants.{Read, Now, Typed, Wrote, Synced, Missed}
use Rattle.cms_journal.specs.Journal.{IsAside, IsUntouched}
use Rattle.cms_journal.specs.Told.{TouchesNone, NoDisk, IsOfUnit, OnlyOf}

-- ---- what holds of each event

-- of those of a front
pub all_front : (P : Event → Type 0) (p q : List Event) → AllByRecursion P (p ++ q) → AllByRecursion P p
all_front P [] q all = tt
all_front P (e ∷ p) q all = (all.0, all_front P p q all.1)

-- of those of two pieces that are joined
pub all_join : (P : Event → Type 0) (p q : List Event) → AllByRecursion P p → AllByRecursion P q → AllByRecursion P (p ++ q)
all_join P [] q all more = more
all_join P (e ∷ p) q all more = (all.0, all_join P p q all.1 more)

-- of one in the middle
pub all_middle : (P : Event → Type 0) (p q : List Event) (e : Event) → AllByRecursion P (p ++ e ∷ q) → P e
all_middle P [] q e all = all.0
all_middle P (x ∷ p) q e all = all_middle P p q e all.1

-- and what follows of each
pub all_weaker : (P Q : Event → Type 0) → ((e : Event) → P e → Q e) → (p : List Event) → AllByRecursion P p → AllByRecursion Q p
all_weaker P Q follows [] all = tt
all_weaker P Q follows (e ∷ p) all = (follows e all.0, all_weaker P Q follows p all.1)

-- ---- events that leave a unit alone

-- those that touch none
pub none_is_aside : (u : ℕ) (e : Event) → TouchesNone e → IsAside e u
none_is_aside u (Read b) none = tt
none_is_aside u (Typed b) none = tt
none_is_aside u (Now m) none = tt
none_is_aside u (Missed name size access) none = tt
none_is_aside u (Wrote v k b) none = absurd none
none_is_aside u (Synced v) none = absurd none

-- and those of another unit
pub other_is_aside : (w u : ℕ) → w ≢ u → (e : Event) → IsOfUnit w e → IsAside e u
other_is_aside w u other (Wrote v k b) of = λ e. other (sym of ∙ e)
other_is_aside w u other (Synced v) of = λ e. other (sym of ∙ e)
other_is_aside w u other (Read b) of = absurd of
other_is_aside w u other (Typed b) of = absurd of
other_is_aside w u other (Now m) of = absurd of
other_is_aside w u other (Missed name size access) of = absurd of

pub no_disk_aside : (p : List Event) (u : ℕ) → NoDisk p → IsUntouched p u
no_disk_aside p u none = all_weaker TouchesNone (λ e. IsAside e u) (none_is_aside u) p none

pub of_aside : (w : ℕ) (p : List Event) (u : ℕ) → w ≢ u → OnlyOf w p → IsUntouched p u
of_aside w p u other only = all_weaker (IsOfUnit w) (λ e. IsAside e u) (other_is_aside w u other) p only
