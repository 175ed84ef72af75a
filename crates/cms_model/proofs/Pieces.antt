-- Pieces of the journal by what they may have.
use Rattle.std.proofs.Common.{◌≡◌, ℕ, ℤ, ◌≤◌, false, List, [], ◌∷◌, ◌++◌, refl, arith}
use Rattle.cms_journal.specs.declared.event.Event.{Event}
use Rattle.cms_journal.specs.declared.event.Event.TheVariants.{Read, Now, Typed, Wrote, Synced, Missed}
use Rattle.cms_journal.specs.Told.{Told, plus, typed, moments, script, is_over, syncs}
use Rattle.cms_journal.proofs.Events.{all_middle}
use Rattle.cms_model.specs.Beats.{IsTyped, IsDiskOf, OnlyTyped, OnlyRead, OnlyDisk}
use Rattle.cms_journal.proofs.Pieces.{syncs-append}
pub use Rattle.cms_journal.proofs.Pieces.{plus_plus}

pub plus-nil : (j : Told) → plus j [] ≡ j
plus-nil j = refl

-- ---- fronts

pub syncs_front : (p q : List Event) → syncs p ≤ syncs (p ++ q)
syncs_front p q = let h = syncs-append p q in omega (arith, h)

-- ---- what a piece doesn't tell

-- nothing of the script, of the clock, of the terminal
pub record TellsNothing (p : List Event) : Type 0 where
  pub typed_none : typed p ≡ []
  pub moments_none : moments p ≡ []
  pub script_none : script p ≡ []
  pub over_not : is_over p ≡ false

pub disk_silent : (w : ℕ) (p : List Event) → OnlyDisk w p → TellsNothing p
disk_silent w [] o = record { typed_none = refl; moments_none = refl; script_none = refl; over_not = refl }
disk_silent w (Wrote u k b ∷ p) o = let on = disk_silent w p o.1 in record { typed_none = on.typed_none; moments_none = on.moments_none; script_none = on.script_none; over_not = on.over_not }
disk_silent w (Synced u ∷ p) o = let on = disk_silent w p o.1 in record { typed_none = on.typed_none; moments_none = on.moments_none; script_none = on.script_none; over_not = on.over_not }
disk_silent w (Typed b ∷ p) o = absurd o.0
disk_silent w (Read b ∷ p) o = absurd o.0
disk_silent w (Now m ∷ p) o = absurd o.0
disk_silent w (Missed name size access ∷ p) o = absurd o.0

-- nothing of the script and of the clock
pub record TellsTyped (p : List Event) : Type 0 where
  pub moments_none : moments p ≡ []
  pub script_none : script p ≡ []
  pub over_not : is_over p ≡ false

pub typed_silent : (p : List Event) → OnlyTyped p → TellsTyped p
typed_silent [] o = record { moments_none = refl; script_none = refl; over_not = refl }
typed_silent (Typed b ∷ p) o = let on = typed_silent p o.1 in record { moments_none = on.moments_none; script_none = on.script_none; over_not = on.over_not }
typed_silent (Read b ∷ p) o = absurd o.0
typed_silent (Now m ∷ p) o = absurd o.0
typed_silent (Missed name size access ∷ p) o = absurd o.0
typed_silent (Wrote u k b ∷ p) o = absurd o.0
typed_silent (Synced u ∷ p) o = absurd o.0

-- nothing of the clock and of the terminal
pub record TellsRead (p : List Event) : Type 0 where
  pub typed_none : typed p ≡ []
  pub moments_none : moments p ≡ []

pub read_silent : (p : List Event) → OnlyRead p → TellsRead p
read_silent [] o = record { typed_none = refl; moments_none = refl }
read_silent (Read b ∷ p) o = let on = read_silent p o.1 in record { typed_none = on.typed_none; moments_none = on.moments_none }
read_silent (Typed b ∷ p) o = absurd o.0
read_silent (Now m ∷ p) o = absurd o.0
read_silent (Missed name size access ∷ p) o = absurd o.0
read_silent (Wrote u k b ∷ p) o = absurd o.0
read_silent (Synced u ∷ p) o = absurd o.0

-- ---- a read stands only in the piece of a taking

pub read_not_typed : (p q : List Event) (b : List ℕ) → OnlyTyped (p ++ Read b ∷ q) → ⊥
read_not_typed p q b only = all_middle IsTyped p q (Read b) only

pub read_not_disk : (w : ℕ) (p q : List Event) (b : List ℕ) → OnlyDisk w (p ++ Read b ∷ q) → ⊥
read_not_disk w p q b only = all_middle (IsDiskOf w) p q (Read b) only

pub read_not_now : (p q : List Event) (b : List ℕ) (m : ℤ) → p ++ Read b ∷ q ≡ Now m ∷ [] → ⊥
read_not_now [] q b m e = cc
read_not_now (y ∷ []) q b m e = cc
read_not_now (y ∷ z ∷ p) q b m e = cc
