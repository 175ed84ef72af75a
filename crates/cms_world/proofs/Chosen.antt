-- The crash image that a number chooses is one.
use Rattle.std.proofs.Common.{◌≡◌, ◌&&◌, ℕ, zero, suc, ◌+◌, ◌-◌, ◌<◌, ◌≤◌, Bool, true, List, [], ◌∷◌, ◌++◌, length, reverse, take, drop, refl, sym, ap, ◌∙◌, cond, slice_index_or, add_comm, add-zero, arith}
use Rattle.std.proofs.lemmas.Bool.Decides.{nat_tests, eqb_tells}
use Rattle.std.proofs.lemmas.List.{length-reverse, reverse-append, take-append-drop}
use Rattle.std.proofs.Common.{length-drop}
use Rattle.std.proofs.Math.Seq.{drop-append_seam}
use Rattle.std.specs.List.{concat}
use Rattle.cms_journal.specs.declared.event.Event.{Event}
use Rattle.cms_journal.specs.declared.event.Event.TheVariants.{Read, Now, Typed, Wrote, Synced, Missed}
use Rattle.cms_journal.specs.Journal.{block_after, block_at_sync, WroteSince, MayBeLeft, first_events, start_of}
use Rattle.cms_journal.specs.declared.event.Attached.{Attached}
use Rattle.std.proofs.lemmas.Option.{slice_get_read}
use Rattle.cms_world.specs.Crash.{was_written, has_bit, chosen, HoldsCrashImage}

-- what the test says
pub written_so : (events : List Event) (u k : ℕ) (first : List ℕ) → was_written events u k ≡ true → WroteSince events u k (block_after events u k first)
written_so [] u k first is = grind arith
written_so (Wrote v w bytes ∷ older) u k first is = let ih = written_so older u k first in grind (arith, nat_tests, eqb_tells v u, eqb_tells w k, ih)
written_so (Synced v ∷ older) u k first is = let ih = written_so older u k first in grind (arith, nat_tests, eqb_tells v u, ih)
written_so (Read bytes ∷ older) u k first is = written_so older u k first is
written_so (Now t ∷ older) u k first is = written_so older u k first is
written_so (Typed bytes ∷ older) u k first is = written_so older u k first is
written_so (Missed name size access ∷ older) u k first is = written_so older u k first is

-- either choice may be left
pub choice_left : (events : List Event) (u k : ℕ) (first : List ℕ) (b : Bool)
    → MayBeLeft events u k first (cond (was_written events u k && b) (block_after events u k first) (block_at_sync events u k first))
choice_left events u k first b = let so = written_so events u k first in grind (arith, nat_tests, so)

pub length-chosen : (events : List Event) (u choice k n : ℕ) (start : List (List ℕ)) → length (chosen events u choice k n start) ≡ length start
length-chosen events u choice k n [] = refl
length-chosen events u choice k n (first ∷ rest) = ap suc (length-chosen events u choice (k + 1) _ rest)

pub get-chosen : (events : List Event) (u choice k n : ℕ) (start : List (List ℕ)) (i : ℕ) → i < length start
    → MayBeLeft events u (k + i) (slice_index_or start i []) (slice_index_or (chosen events u choice k n start) i [])
get-chosen events u choice k n [] i within = grind arith
get-chosen events u choice k n (first ∷ rest) zero within = rw add-zero (choice_left events u k first (has_bit choice n))
get-chosen events u choice k n (first ∷ rest) (suc i) within =
    let less : i < length rest = omega arith in
    let e : (k + 1) + i ≡ k + suc i = omega arith in
    rw e at (get-chosen events u choice (k + 1) (cond (was_written events u k) (n + 1) n) rest i less)

pub chosen_holds : (events : List Event) (u choice : ℕ) (start : List (List ℕ)) (bytes : List ℕ) → bytes ≡ concat (chosen events u choice 1 0 start) → HoldsCrashImage events u start bytes
chosen_holds events u choice start bytes is = record {
  image = chosen events u choice 1 0 start;
  held = is;
  crash = record {
    same_length = length-chosen events u choice 1 0 start;
    each = λ k within. rw (add_comm k 1) (get-chosen events u choice 1 0 start k within);
  };
}

-- the first n of a list's elements, where the list is held in reverse
pub first_events-reverse : (n : ℕ) (events : List Event) → n ≤ length events → first_events n (reverse events) ≡ reverse (take n events)
first_events-reverse n events within =
    let split : reverse events ≡ reverse (drop n events) ++ reverse (take n events) =
    ap reverse (sym (take-append-drop n events)) ∙ reverse-append (take n events) (drop n events) in
    let count : length (reverse events) - n ≡ length (reverse (drop n events)) =
    omega (arith, length-reverse events, length-reverse (drop n events), length-drop n events) in
    ap (λ m. drop m (reverse events)) count ∙ ap (drop (length (reverse (drop n events)))) split ∙ drop-append_seam (reverse (drop n events)) (reverse (take n events))

pub ruleset crash_lemmas = (first_events-reverse, chosen_holds)

-- a unit's starting blocks, read by an index
pub start_of_read : (units : List Attached) (u : ℕ) (unit : Attached) → u < length units → unit ≡ slice_index_or units u unit → start_of units u ≡ unit.start
start_of_read units u unit within is = rw (slice_get_read units (length units) u unit refl within is) refl
