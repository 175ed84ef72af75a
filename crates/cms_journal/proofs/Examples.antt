-- A unit of two blocks, by the definitions: block 1 is written and synced, then block 2 is written twice, and one is of another unit.
use Rattle.std.proofs.Common.{◌≡◌, inl, inr, ℕ, List, [], ◌∷◌, refl}
use Rattle.cms_journal.specs.declared.event.Event.{Event}
use Rattle.cms_journal.specs.declared.event.Event.TheVariants.{Read, Typed, Wrote, Synced}
use Rattle.cms_journal.specs.Blocks.{cut}
use Rattle.cms_journal.specs.Journal.{WroteSince, contents, base, first_events, typed_of}
use Rattle.cms_journal.specs.Told.{back, typed, script, syncs}

-- the oldest first
happened : List Event
happened = Wrote 0 1 (10 ∷ []) ∷ Synced 0 ∷ Wrote 0 2 (21 ∷ []) ∷ Wrote 1 1 (99 ∷ []) ∷ Wrote 0 2 (22 ∷ []) ∷ []

start : List (List ℕ)
start = (1 ∷ []) ∷ (2 ∷ []) ∷ []

contents_now : contents (back happened []) 0 start ≡ (10 ∷ []) ∷ (22 ∷ []) ∷ []
unfolding happened start
contents_now = refl

base_now : base (back happened []) 0 start ≡ (10 ∷ []) ∷ (2 ∷ []) ∷ []
unfolding happened start
base_now = refl

-- after the first event nothing was synced yet
base_first : base (first_events 1 (back happened [])) 0 start ≡ start
unfolding happened start
base_first = refl

contents_first : contents (first_events 1 (back happened [])) 0 start ≡ (10 ∷ []) ∷ (2 ∷ []) ∷ []
unfolding happened start
contents_first = refl

-- either write of block 2 may be left, and that of block 1 is sure
first_write : WroteSince (back happened []) 0 2 (21 ∷ [])
unfolding happened
first_write = inr (inr (inl (refl, refl, refl)))

sure_write : WroteSince (back happened []) 0 1 (10 ∷ []) → ⊥
unfolding happened
sure_write since = elim since [
  | inl here ↦ cc here.1
  | inr more ↦ elim more [
    | inl here ↦ cc here.0
    | inr other ↦ elim other [ inl here ↦ cc here.1 | inr synced ↦ synced.0 refl ]
  ]
]

syncs_now : syncs happened ≡ 1
unfolding happened
syncs_now = refl

-- what the console took and gave
console : List Event
console = Typed (65 ∷ []) ∷ Read (66 ∷ 67 ∷ []) ∷ Typed (68 ∷ 69 ∷ []) ∷ Read [] ∷ []

console_typed : typed console ≡ 65 ∷ 68 ∷ 69 ∷ []
unfolding console
console_typed = refl

console_typed_of : typed_of (back console []) ≡ 65 ∷ 68 ∷ 69 ∷ []
unfolding console
console_typed_of = refl

console_script : script console ≡ 66 ∷ 67 ∷ []
unfolding console
console_script = refl

-- a rest that is shorter than a block is left off
cut_rest : cut 2 (1 ∷ 2 ∷ 3 ∷ 4 ∷ 5 ∷ []) ≡ (1 ∷ 2 ∷ []) ∷ (3 ∷ 4 ∷ []) ∷ []
cut_rest = refl
