-- What follows for every journal: what a crash may leave, event by event.
use Rattle.std.specs.Prelude.{◌≡◌, ◌≢◌, ◌⊎◌, ◌↔◌, ℕ, ◌+◌, ◌-◌, ◌<◌, ◌≤◌, List, [], ◌∷◌, ◌++◌, length, slice_index_or, slice_set, ⊤}
use Rattle.cms_journal.specs.declared.event.Event.{Event}
use Rattle.cms_journal.specs.declared.event.Event.TheVariants.{Wrote, Synced}
use Rattle.cms_journal.specs.Journal.{WroteSince, IsCrashImage, IsAside, base, contents}

-- a crash may leave what is there
abbrev pub LeavesContents : Type 0
LeavesContents = (events : List Event) (u : ℕ) (start : List (List ℕ)) → IsCrashImage events u start (contents events u start)

-- none of the events is a write to the unit
abbrev pub NoneWrote : List Event → ℕ → Type 0
NoneWrote [] u = ⊤
NoneWrote (Wrote v w bytes ∷ older) u = (v ≢ u) × NoneWrote older u
NoneWrote (event ∷ older) u = NoneWrote older u

-- after a sync with no later write a crash leaves what is there, and nothing else
abbrev pub LeavesOnlyContents : Type 0
LeavesOnlyContents =
    (later events : List Event) (u : ℕ) (start image : List (List ℕ)) → NoneWrote later u
    → IsCrashImage (later ++ Synced u ∷ events) u start image → image ≡ contents (later ++ Synced u ∷ events) u start

-- where nothing was written to the unit yet, a crash leaves its starting blocks alone
abbrev pub LeavesOnlyStart : Type 0
LeavesOnlyStart =
    (events : List Event) (u : ℕ) (start image : List (List ℕ)) → NoneWrote events u
    → IsCrashImage events u start image → image ≡ start

-- an event that is neither a write to the unit nor a sync of it changes neither its contents nor what a crash may leave of it
pub record ChangesNothing (event : Event) (events : List Event) (u : ℕ) (start : List (List ℕ)) : Type 0 where
  pub contents_same : contents (event ∷ events) u start ≡ contents events u start
  pub base_same : base (event ∷ events) u start ≡ base events u start
  pub crash_same : (image : List (List ℕ)) → IsCrashImage (event ∷ events) u start image ↔ IsCrashImage events u start image

-- an event that is no write to a unit and no sync of it changes nothing of the unit
abbrev pub IsApart : Type 0
IsApart = (event : Event) (events : List Event) (u : ℕ) (start : List (List ℕ)) → IsAside event u → ChangesNothing event events u start

-- an image is a crash image exactly where it has as many blocks and each, by itself, is the base's or as one write since the
-- last sync made it
pub record IsBlockwise (events : List Event) (u : ℕ) (start image : List (List ℕ)) : Type 0 where
  pub same_length : length image ≡ length (base events u start)
  pub each :
      (k : ℕ) → k < length (base events u start)
      → (slice_index_or image k [] ≡ slice_index_or (base events u start) k []) ⊎ WroteSince events u (k + 1) (slice_index_or image k [])

-- an image may be left by a crash exactly where each of its blocks may be
abbrev pub AreBlockwise : Type 0
AreBlockwise = (events : List Event) (u : ℕ) (start image : List (List ℕ)) → IsCrashImage events u start image
    ↔ IsBlockwise events u start image

-- a write puts its bytes in the place of its block; a crash after it leaves what it might have left before, there with these
-- bytes or not
pub record PutsBlock (events : List Event) (u k : ℕ) (bytes : List ℕ) (start : List (List ℕ)) : Type 0 where
  pub contents_new : contents (Wrote u k bytes ∷ events) u start ≡ slice_set (contents events u start) (k - 1) bytes
  pub base_same : base (Wrote u k bytes ∷ events) u start ≡ base events u start
  pub crash_either :
      (image : List (List ℕ)) → IsCrashImage (Wrote u k bytes ∷ events) u start image
      → IsCrashImage events u start image ⊎ ((old : List (List ℕ)) × IsCrashImage events u start old
      × (image ≡ slice_set old (k - 1) bytes))
  pub crash_old : (image : List (List ℕ)) → IsCrashImage events u start image → IsCrashImage (Wrote u k bytes ∷ events) u start image
  pub crash_new : (image : List (List ℕ)) → IsCrashImage events u start image
      → IsCrashImage (Wrote u k bytes ∷ events) u start (slice_set image (k - 1) bytes)

-- a write changes that block of the contents and no other
abbrev pub ArePut : Type 0
ArePut = (events : List Event) (u k : ℕ) (bytes : List ℕ) (start : List (List ℕ)) → 1 ≤ k → PutsBlock events u k bytes start
