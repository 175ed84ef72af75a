-- A world's journal: the attached units and what happened, and what they make of a unit.
use Rattle.std.specs.Prelude.{◌≡◌, ◌≢◌, ◌⊎◌, ◌&&◌, ℕ, ◌+◌, ◌-◌, ◌<◌, ◌≤◌, Bool, true, false, List, [], ◌∷◌, ◌++◌, length, drop, slice_get, slice_index_or, if◌then◌else◌, ◌==◌, Option, Some, option_map, IsSomeAnd, IsSome, IsTrue, All, replicate, ⊤}
use Rattle.std.specs.List.{AllByRecursion}
use Rattle.std.specs.Option.{option_map_or}
use Rattle.cms_journal.specs.declared.event.Event.{Event}
use Rattle.cms_journal.specs.declared.event.Event.TheVariants.{Typed, Wrote, Synced}
use Rattle.cms_journal.specs.declared.event.Attached.{Attached}
use Rattle.cms_journal.specs.declared.event.Access.{Access}
use Rattle.cms_journal.specs.declared.event.Access.TheVariants.{ReadOnly, ReadWrite, New}

-- the attached units, in the order of their numbers, and the events, the newest first
pub record Journal : Type 0 where
  pub units : List Attached
  pub events : List Event

-- ---- one block at a journal: u is its unit's number, k its own, first its bytes when the unit was attached

-- the block with all that was written to it
abbrev pub block_after : List Event → ℕ → ℕ → List ℕ → List ℕ
block_after [] u k first = first
block_after (Wrote v w bytes ∷ older) u k first = if (v == u) && (w == k) then bytes else block_after older u k first
block_after (event ∷ older) u k first = block_after older u k first

-- what happened up to the last sync of the unit
abbrev pub to_sync : List Event → ℕ → List Event
to_sync [] u = []
to_sync (Synced v ∷ older) u = if v == u then older else to_sync older u
to_sync (event ∷ older) u = to_sync older u

-- since the last sync of the unit one write made the block so
abbrev pub WroteSince : List Event → ℕ → ℕ → List ℕ → Type 0
WroteSince [] u k block = ⊥
WroteSince (Wrote v w bytes ∷ older) u k block = ((v ≡ u) × (w ≡ k) × (bytes ≡ block)) ⊎ WroteSince older u k block
WroteSince (Synced v ∷ older) u k block = (v ≢ u) × WroteSince older u k block
WroteSince (event ∷ older) u k block = WroteSince older u k block

-- the block at the last sync, or as it was attached where there was none
abbrev pub block_at_sync : List Event → ℕ → ℕ → List ℕ → List ℕ
block_at_sync events u k first = block_after (to_sync events u) u k first

-- a crash may leave this block: that of the last sync, or as one write since then made it
abbrev pub MayBeLeft : List Event → ℕ → ℕ → List ℕ → List ℕ → Type 0
MayBeLeft events u k first block = (block ≡ block_at_sync events u k first) ⊎ WroteSince events u k block

-- ---- a whole unit: u is its number, start its blocks as it was attached, of which the first is block 1

-- these blocks, numbered from k, with all that was written to them
abbrev pub blocks_after : List Event → ℕ → ℕ → List (List ℕ) → List (List ℕ)
blocks_after events u k [] = []
blocks_after events u k (first ∷ rest) = block_after events u k first ∷ blocks_after events u (k + 1) rest

-- its blocks with all that was written to it
abbrev pub contents : List Event → ℕ → List (List ℕ) → List (List ℕ)
contents events u start = blocks_after events u 1 start

-- its contents at the last sync, or its starting blocks where there was none
abbrev pub base : List Event → ℕ → List (List ℕ) → List (List ℕ)
base events u start = contents (to_sync events u) u start

-- a crash may leave these blocks
pub record IsCrashImage (events : List Event) (u : ℕ) (start image : List (List ℕ)) : Type 0 where
  pub same_length : length image ≡ length start
  pub each : (k : ℕ) → k < length start → MayBeLeft events u (k + 1) (slice_index_or start k []) (slice_index_or image k [])

-- the first n events
abbrev pub first_events : ℕ → List Event → List Event
first_events n events = drop (length events - n) events

-- all that was typed
abbrev pub typed_of : List Event → List ℕ
typed_of [] = []
typed_of (Typed bytes ∷ older) = typed_of older ++ bytes
typed_of (event ∷ older) = typed_of older

-- ---- the units of a journal

-- the blocks of a unit as it was attached
abbrev pub start_of : List Attached → ℕ → List (List ℕ)
start_of units u = option_map_or (λ unit. unit.start) (slice_get units u) []

-- block k of a unit
abbrev pub block_of : Journal → ℕ → ℕ → List ℕ
block_of j u k = block_after j.events u k (slice_index_or (start_of j.units u) (k - 1) [])

-- the blocks of a unit
abbrev pub contents_of : Journal → ℕ → List (List ℕ)
contents_of j u = contents j.events u (start_of j.units u)

-- ---- what the calls need

-- a block size
abbrev pub IsBlockSize : ℕ → Type 0
IsBlockSize size = (size ≡ 512) ⊎ (size ≡ 1024) ⊎ (size ≡ 2048) ⊎ (size ≡ 4096)

-- the unit is attached
abbrev pub HasUnit : List Attached → ℕ → Type 0
HasUnit units u = IsSome (slice_get units u)

-- the unit is attached with this block size, and has this block
abbrev pub HasBlock : List Attached → ℕ → ℕ → ℕ → Type 0
HasBlock units u k size = IsSomeAnd (slice_get units u) (λ unit. (unit.bsize ≡ size) × (1 ≤ k) × (k ≤ length unit.start))

-- the unit is attached with this block size and has at least n blocks
abbrev pub HasBlocks : List Attached → ℕ → ℕ → ℕ → Type 0
HasBlocks units u n size = IsSomeAnd (slice_get units u) (λ unit. (unit.bsize ≡ size) × (n ≤ length unit.start))

-- the unit may be written
abbrev pub IsWritable : List Attached → ℕ → Type 0
IsWritable units u = IsSomeAnd (slice_get units u) (λ unit. IsTrue unit.writable)

-- ---- what the calls do

-- the event is neither a write to unit u nor a sync of it
abbrev pub IsAside : Event → ℕ → Type 0
IsAside (Wrote v k bytes) u = v ≢ u
IsAside (Synced v) u = v ≢ u
IsAside event u = ⊤

-- nothing happened to unit u
abbrev pub IsUntouched : List Event → ℕ → Type 0
IsUntouched events u = AllByRecursion (λ event. IsAside event u) events

-- a unit that is attached so may be written
abbrev pub may_write : Access → Bool
may_write ReadOnly = false
may_write ReadWrite = true
may_write (New n) = true

-- a unit that is made has so many blocks of zeros
abbrev pub IsMade : Access → ℕ → List (List ℕ) → Type 0
IsMade ReadOnly size start = ⊤
IsMade ReadWrite size start = ⊤
IsMade (New n) size start = start ≡ replicate n (replicate size 0)

-- none of the units has this name
abbrev pub NoneIsNamed : List Attached → List ℕ → Type 0
NoneIsNamed [] name = ⊤
NoneIsNamed (unit ∷ units) name = (unit.name ≢ name) × NoneIsNamed units name

-- a unit that is made has a name that no other has
abbrev pub IsFresh : Access → List Attached → List ℕ → Type 0
IsFresh ReadOnly units name = ⊤
IsFresh ReadWrite units name = ⊤
IsFresh (New n) units name = NoneIsNamed units name

-- a journal has one more unit, to which nothing happened yet
pub record IsAttached (old : Journal) (new : Option Journal) (name : List ℕ) (size : ℕ) (access : Access) (number blocks : ℕ) : Type 0 where
  pub start : List (List ℕ)
  pub told : new ≡ Some (record {
    units = old.units ++ record { name = name; bsize = size; writable = may_write access; start = start }
        ∷ [];
    events = old.events;
  })
  pub number_is : number ≡ length old.units
  pub blocks_is : blocks ≡ length start
  pub sizes : All (λ block. length block ≡ size) start
  pub made : IsMade access size start
  pub fresh : IsFresh access old.units name
  pub untouched : IsUntouched old.events number

-- a journal that is told has one more event
abbrev pub adds : Event → Option Journal → Option Journal
adds event told = option_map (λ j. record { units = j.units; events = event ∷ j.events }) told

-- one more event, or none
abbrev pub MayAdd : Event → Option Journal → Option Journal → Type 0
MayAdd event old new = (new ≡ old) ⊎ (new ≡ adds event old)
