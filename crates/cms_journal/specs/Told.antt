-- A journal that may not be told, and the pieces that calls add to it.
use Rattle.std.specs.Prelude.{◌≡◌, ℕ, suc, ℤ, Bool, true, false, List, [], ◌∷◌, ◌++◌, Option, ⊤}
use Rattle.std.specs.List.{AllByRecursion}
use Rattle.cms_journal.specs.declared.event.Event.{Event}
use Rattle.cms_journal.specs.declared.event.Event.TheVariants.{Read, Now, Typed, Wrote, Synced}
use Rattle.cms_journal.specs.Journal.{Journal, adds}

-- the journal of a world, or none where the world doesn't tell it
abbrev pub Told : Type 0
Told = Option Journal

-- ---- a piece is a list of events, the oldest first

-- the journal with the events of a piece added one after another
abbrev pub plus : Told → List Event → Told
plus t [] = t
plus t (e ∷ es) = plus (adds e t) es

-- the same on the events of a journal, which has the newest first
abbrev pub back : List Event → List Event → List Event
back [] older = older
back (e ∷ es) older = back es (e ∷ older)

-- the bytes typed in a piece
abbrev pub typed : List Event → List ℕ
typed [] = []
typed (Typed b ∷ es) = b ++ typed es
typed (e ∷ es) = typed es

-- the bytes of the script read in a piece
abbrev pub script : List Event → List ℕ
script [] = []
script (Read b ∷ es) = b ++ script es
script (e ∷ es) = script es

-- a read of a piece had no bytes, so that the script's end is told
abbrev pub is_over : List Event → Bool
is_over [] = false
is_over (Read [] ∷ es) = true
is_over (e ∷ es) = is_over es

-- what the clock gave in a piece
abbrev pub moments : List Event → List ℤ
moments [] = []
moments (Now m ∷ es) = m ∷ moments es
moments (e ∷ es) = moments es

-- how many syncs a piece has
abbrev pub syncs : List Event → ℕ
syncs [] = 0
syncs (Synced w ∷ es) = suc (syncs es)
syncs (e ∷ es) = syncs es

-- the event is neither a write nor a sync
abbrev pub TouchesNone : Event → Type 0
TouchesNone (Wrote u k bytes) = ⊥
TouchesNone (Synced u) = ⊥
TouchesNone e = ⊤

-- a piece has no write and no sync of any unit
abbrev pub NoDisk : List Event → Type 0
NoDisk es = AllByRecursion TouchesNone es

-- the event is a write to this unit or a sync of it
abbrev pub IsOfUnit : ℕ → Event → Type 0
IsOfUnit u (Wrote v k bytes) = v ≡ u
IsOfUnit u (Synced v) = v ≡ u
IsOfUnit u e = ⊥

-- a piece has writes to this unit and syncs of it alone
abbrev pub OnlyOf : ℕ → List Event → Type 0
OnlyOf u es = AllByRecursion (IsOfUnit u) es

-- nothing happened to any unit
pub record Idle (old new : Told) : Type 0 where
  pub events : List Event
  pub told : new ≡ plus old events
  pub none : NoDisk events

-- a piece was added
pub record Grown (old new : Told) : Type 0 where
  pub events : List Event
  pub told : new ≡ plus old events
