-- What a crash may leave of a block, event by event.
use Rattle.std.proofs.Common.{◌≡◌, ◌↔◌, inl, inr, ℕ, zero, suc, ◌+◌, ◌<◌, List, [], ◌∷◌, ◌++◌, length, refl, ap, sym, ◌∙◌, slice_index_or, add_comm, arith}
use Rattle.std.proofs.lemmas.Bool.Decides.{nat_tests, eqb_tells}
use Rattle.std.proofs.lemmas.List.{ext_get_or}
use Rattle.cms_journal.specs.declared.event.Event.{Event}
use Rattle.cms_journal.specs.declared.event.Event.TheVariants.{Read, Now, Typed, Wrote, Synced, Missed}
use Rattle.cms_journal.specs.Journal.{block_after, blocks_after, to_sync, WroteSince, MayBeLeft, IsCrashImage, IsAside, IsUntouched, contents, base}
use Rattle.cms_journal.specs.Laws.{NoneWrote, IsBlockwise, ChangesNothing}

-- it may leave what is there
pub left_now : (events : List Event) (u k : ℕ) (first : List ℕ) → MayBeLeft events u k first (block_after events u k first)
left_now [] u k first = inl refl
left_now (Wrote v w bytes ∷ older) u k first = let ih = left_now older u k first in grind (arith, nat_tests, eqb_tells v u, eqb_tells w k, ih)
left_now (Synced v ∷ older) u k first = let ih = left_now older u k first in grind (arith, nat_tests, eqb_tells v u, ih)
left_now (Read bytes ∷ older) u k first = left_now older u k first
left_now (Now t ∷ older) u k first = left_now older u k first
left_now (Typed bytes ∷ older) u k first = left_now older u k first
left_now (Missed name size access ∷ older) u k first = left_now older u k first

-- after a sync and no later write it leaves nothing else
pub left_only : (later events : List Event) (u k : ℕ) (first block : List ℕ) → NoneWrote later u → MayBeLeft (later ++ Synced u ∷ events) u k first block
    → block ≡ block_after (later ++ Synced u ∷ events) u k first
left_only [] events u k first block none left = grind (arith, nat_tests, eqb_tells u u, left)
left_only (Wrote v w bytes ∷ later) events u k first block none left = let ih = left_only later events u k first block none.1 in grind (arith, nat_tests, eqb_tells v u, eqb_tells w k, ih, left)
left_only (Synced v ∷ later) events u k first block none left = let ih = left_only later events u k first block none in grind (arith, nat_tests, eqb_tells v u, ih, left)
left_only (Read bytes ∷ later) events u k first block none left = left_only later events u k first block none left
left_only (Now t ∷ later) events u k first block none left = left_only later events u k first block none left
left_only (Typed bytes ∷ later) events u k first block none left = left_only later events u k first block none left
left_only (Missed name size access ∷ later) events u k first block none left = left_only later events u k first block none left

-- events that write nothing to the unit leave its blocks
pub unwritten_since : (later events : List Event) (u k : ℕ) (first : List ℕ) → NoneWrote later u → block_after (later ++ events) u k first ≡ block_after events u k first
unwritten_since [] events u k first none = refl
unwritten_since (Wrote v w bytes ∷ later) events u k first none = let ih = unwritten_since later events u k first none.1 in grind (arith, nat_tests, eqb_tells v u, ih)
unwritten_since (Synced v ∷ later) events u k first none = unwritten_since later events u k first none
unwritten_since (Read bytes ∷ later) events u k first none = unwritten_since later events u k first none
unwritten_since (Now t ∷ later) events u k first none = unwritten_since later events u k first none
unwritten_since (Typed bytes ∷ later) events u k first none = unwritten_since later events u k first none
unwritten_since (Missed name size access ∷ later) events u k first none = unwritten_since later events u k first none

-- a block of a unit to which nothing was written is as at the start
pub unwritten_now : (events : List Event) (u k : ℕ) (first : List ℕ) → NoneWrote events u → block_after events u k first ≡ first
unwritten_now [] u k first none = refl
unwritten_now (Wrote v w bytes ∷ older) u k first none = let ih = unwritten_now older u k first none.1 in grind (arith, nat_tests, eqb_tells v u, ih)
unwritten_now (Synced v ∷ older) u k first none = unwritten_now older u k first none
unwritten_now (Read bytes ∷ older) u k first none = unwritten_now older u k first none
unwritten_now (Now t ∷ older) u k first none = unwritten_now older u k first none
unwritten_now (Typed bytes ∷ older) u k first none = unwritten_now older u k first none
unwritten_now (Missed name size access ∷ older) u k first none = unwritten_now older u k first none

-- and a crash leaves it so
pub unwritten_left : (events : List Event) (u k : ℕ) (first block : List ℕ) → NoneWrote events u → MayBeLeft events u k first block → block ≡ first
unwritten_left [] u k first block none left = grind (arith, left)
unwritten_left (Wrote v w bytes ∷ older) u k first block none left = let ih = unwritten_left older u k first block none.1 in grind (arith, nat_tests, eqb_tells v u, ih, left)
unwritten_left (Synced v ∷ older) u k first block none left = let ih = unwritten_left older u k first block none in let now = unwritten_now older u k first none in
    grind (arith, nat_tests, eqb_tells v u, ih, now, left)
unwritten_left (Read bytes ∷ older) u k first block none left = unwritten_left older u k first block none left
unwritten_left (Now t ∷ older) u k first block none left = unwritten_left older u k first block none left
unwritten_left (Typed bytes ∷ older) u k first block none left = unwritten_left older u k first block none left
unwritten_left (Missed name size access ∷ older) u k first block none left = unwritten_left older u k first block none left

-- the blocks of a unit, one by one
pub length-blocks_after : (events : List Event) (u k : ℕ) (start : List (List ℕ)) → length (blocks_after events u k start) ≡ length start
length-blocks_after events u k [] = refl
length-blocks_after events u k (first ∷ rest) = ap suc (length-blocks_after events u (k + 1) rest)

pub get-blocks_after : (events : List Event) (u k : ℕ) (start : List (List ℕ)) (i : ℕ) → i < length start
    → slice_index_or (blocks_after events u k start) i [] ≡ block_after events u (k + i) (slice_index_or start i [])
get-blocks_after events u k [] i within = grind arith
get-blocks_after events u k (first ∷ rest) zero within = grind arith
get-blocks_after events u k (first ∷ rest) (suc i) within = let ih = get-blocks_after events u (k + 1) rest i in grind (arith, ih)

pub length-contents : (events : List Event) (u : ℕ) (start : List (List ℕ)) → length (contents events u start) ≡ length start
length-contents events u start = length-blocks_after events u 1 start

-- block k + 1 of the contents
pub get-contents : (events : List Event) (u : ℕ) (start : List (List ℕ)) (k : ℕ) → k < length start
    → slice_index_or (contents events u start) k [] ≡ block_after events u (k + 1) (slice_index_or start k [])
get-contents events u start k within = rw (add_comm k 1) (get-blocks_after events u 1 start k within)

-- blocks that are as the unit's, one by one, are its contents
pub contents_are : (events : List Event) (u : ℕ) (start image : List (List ℕ)) → length image ≡ length start
    → ((k : ℕ) → k < length start → slice_index_or image k [] ≡ block_after events u (k + 1) (slice_index_or start k [])) → image ≡ contents events u start
contents_are events u start image same_length each =
    ext_get_or [] image (contents events u start) (same_length ∙ sym (length-contents events u start))
    (λ k below. let within : k < length start = omega (arith, same_length) in each k within ∙ sym (get-contents events u start k within))

-- events that write nothing to the unit leave its contents
contents_unwritten_from : (later events : List Event) (u k : ℕ) (start : List (List ℕ)) → NoneWrote later u → blocks_after (later ++ events) u k start ≡ blocks_after events u k start
contents_unwritten_from later events u k [] none = refl
contents_unwritten_from later events u k (first ∷ rest) none =
    let one = unwritten_since later events u k first none in
    let ih = contents_unwritten_from later events u (k + 1) rest none in
    rw (one, ih) refl

pub contents_unwritten : (later events : List Event) (u : ℕ) (start : List (List ℕ)) → NoneWrote later u → contents (later ++ events) u start ≡ contents events u start
contents_unwritten later events u start none = contents_unwritten_from later events u 1 start none

-- the contents of a unit to which nothing was written are its starting blocks
contents_start_from : (events : List Event) (u k : ℕ) (start : List (List ℕ)) → NoneWrote events u → blocks_after events u k start ≡ start
contents_start_from events u k [] none = refl
contents_start_from events u k (first ∷ rest) none =
    let one = unwritten_now events u k first none in
    let ih = contents_start_from events u (k + 1) rest none in
    rw (one, ih) refl

pub contents_start : (events : List Event) (u : ℕ) (start : List (List ℕ)) → NoneWrote events u → contents events u start ≡ start
contents_start events u start none = contents_start_from events u 1 start none

-- where nothing happened, nothing was written
pub untouched_unwritten : (events : List Event) (u : ℕ) → IsUntouched events u → NoneWrote events u
untouched_unwritten [] u none = tt
untouched_unwritten (Wrote v w bytes ∷ older) u none = (none.0, untouched_unwritten older u none.1)
untouched_unwritten (Synced v ∷ older) u none = untouched_unwritten older u none.1
untouched_unwritten (Read bytes ∷ older) u none = untouched_unwritten older u none.1
untouched_unwritten (Now t ∷ older) u none = untouched_unwritten older u none.1
untouched_unwritten (Typed bytes ∷ older) u none = untouched_unwritten older u none.1
untouched_unwritten (Missed name size access ∷ older) u none = untouched_unwritten older u none.1

-- an event that leaves the unit alone, by itself
pub aside_now : (event : Event) (events : List Event) (u k : ℕ) (first : List ℕ) → IsAside event u → block_after (event ∷ events) u k first ≡ block_after events u k first
aside_now (Wrote v w bytes) events u k first aside = grind (arith, nat_tests, eqb_tells v u)
aside_now (Synced v) events u k first aside = refl
aside_now (Read bytes) events u k first aside = refl
aside_now (Now t) events u k first aside = refl
aside_now (Typed bytes) events u k first aside = refl
aside_now (Missed name size access) events u k first aside = refl

pub aside_sync : (event : Event) (events : List Event) (u : ℕ) → IsAside event u → to_sync (event ∷ events) u ≡ to_sync events u
aside_sync (Wrote v w bytes) events u aside = refl
aside_sync (Synced v) events u aside = grind (arith, nat_tests, eqb_tells v u)
aside_sync (Read bytes) events u aside = refl
aside_sync (Now t) events u aside = refl
aside_sync (Typed bytes) events u aside = refl
aside_sync (Missed name size access) events u aside = refl

pub aside_since : (event : Event) (events : List Event) (u k : ℕ) (block : List ℕ) → IsAside event u → WroteSince (event ∷ events) u k block ↔ WroteSince events u k block
aside_since (Wrote v w bytes) events u k block aside = ((λ w. elim w [ inl here ↦ absurd (aside here.0) | inr since ↦ since ]), (λ since. inr since))
aside_since (Synced v) events u k block aside = ((λ w. w.1), (λ since. (aside, since)))
aside_since (Read bytes) events u k block aside = ((λ w. w), (λ w. w))
aside_since (Now t) events u k block aside = ((λ w. w), (λ w. w))
aside_since (Typed bytes) events u k block aside = ((λ w. w), (λ w. w))
aside_since (Missed name size access) events u k block aside = ((λ w. w), (λ w. w))

aside_contents : (event : Event) (events : List Event) (u k : ℕ) (start : List (List ℕ)) → IsAside event u → blocks_after (event ∷ events) u k start ≡ blocks_after events u k start
aside_contents event events u k [] aside = refl
aside_contents event events u k (first ∷ rest) aside = let one = aside_now event events u k first aside in let ih = aside_contents event events u (k + 1) rest aside in rw (one, ih) refl

aside_left : (event : Event) (events : List Event) (u k : ℕ) (first block : List ℕ) → IsAside event u → MayBeLeft (event ∷ events) u k first block ↔ MayBeLeft events u k first block
aside_left event events u k first block aside =
    let sync = ap (λ (es : List Event). block_after es u k first) (aside_sync event events u aside) in
    let since = aside_since event events u k block aside in (
      (λ left. elim left [ inl e ↦ inl (e ∙ sync) | inr w ↦ inr (since.0 w) ]),
      (λ left. elim left [ inl e ↦ inl (e ∙ sym sync) | inr w ↦ inr (since.1 w) ]),
    )

pub changes_nothing : (event : Event) (events : List Event) (u : ℕ) (start : List (List ℕ)) → IsAside event u → ChangesNothing event events u start
changes_nothing event events u start aside = record {
  contents_same = aside_contents event events u 1 start aside;
  base_same = ap (λ (es : List Event). contents es u start) (aside_sync event events u aside);
  crash_same = λ image. (
    (λ crash. record { same_length = crash.same_length; each = λ k within. (aside_left event events u (k + 1) _ _ aside).0 (crash.each k within) }),
    (λ crash. record { same_length = crash.same_length; each = λ k within. (aside_left event events u (k + 1) _ _ aside).1 (crash.each k within) }),
  );
}

-- a crash image, block by block
pub blockwise : (events : List Event) (u : ℕ) (start image : List (List ℕ)) → IsCrashImage events u start image ↔ IsBlockwise events u start image
blockwise events u start image =
    let same = length-contents (to_sync events u) u start in (
      (λ crash. record {
        same_length = crash.same_length ∙ sym same;
        each = λ k below. let within : k < length start = omega (arith, same) in
            elim (crash.each k within) [ inl e ↦ inl (e ∙ sym (get-contents (to_sync events u) u start k within)) | inr w ↦ inr w ];
      }),
      (λ each. record {
        same_length = each.same_length ∙ same;
        each = λ k within. let below : k < length (base events u start) = omega (arith, same) in
            elim (each.each k below) [ inl e ↦ inl (e ∙ get-contents (to_sync events u) u start k within) | inr w ↦ inr w ];
      }),
    )
