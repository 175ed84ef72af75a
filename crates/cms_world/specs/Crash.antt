-- The crash image that a number chooses.
use Rattle.std.specs.Prelude.{◌≡◌, ◌&&◌, ℕ, ◌+◌, ◌/◌, ◌%◌, ◌^◌, Bool, true, false, List, [], ◌∷◌, if◌then◌else◌, ◌==◌}
use Rattle.std.specs.List.{concat}
use Rattle.cms_journal.specs.declared.event.Event.{Event}
use Rattle.cms_journal.specs.declared.event.Event.TheVariants.{Wrote, Synced}
use Rattle.cms_journal.specs.Journal.{block_after, block_at_sync, IsCrashImage}

-- the block was written since the last sync of its unit
abbrev pub was_written : List Event → ℕ → ℕ → Bool
was_written [] u k = false
was_written (Wrote v w bytes ∷ older) u k = if (v == u) && (w == k) then true else was_written older u k
was_written (Synced v ∷ older) u k = if v == u then false else was_written older u k
was_written (event ∷ older) u k = was_written older u k

-- bit n of a number of 64 bits, which are taken round and round
abbrev pub has_bit : ℕ → ℕ → Bool
has_bit choice n = choice / 2 ^ (n % 64) % 2 == 1

-- these blocks, from block k on, of which those that were written since the sync are numbered from n: such a block is as last
-- written where its bit of the choice is 1, and each other block as at the sync
abbrev pub chosen : List Event → ℕ → ℕ → ℕ → ℕ → List (List ℕ) → List (List ℕ)
chosen events u choice k n [] = []
chosen events u choice k n (first ∷ rest) =
    (if was_written events u k && has_bit choice n then block_after events u k first else block_at_sync events u k first)
    ∷ chosen events u choice (k + 1) (if was_written events u k then n + 1 else n) rest

-- the blocks of a unit that the choice leaves
abbrev pub chosen_image : List Event → ℕ → ℕ → List (List ℕ) → List (List ℕ)
chosen_image events u choice start = chosen events u choice 1 0 start

-- these bytes are blocks that a crash may leave
pub record HoldsCrashImage (events : List Event) (u : ℕ) (start : List (List ℕ)) (bytes : List ℕ) : Type 0 where
  pub image : List (List ℕ)
  pub held : bytes ≡ concat image
  pub crash : IsCrashImage events u start image
