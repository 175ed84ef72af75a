-- The blocks of a unit's images, one by one, and what a write, a sync and other events do to them.
use Rattle.std.proofs.Common.{◌≡◌, ◌≢◌, ◌⊎◌, ◌↔◌, inl, inr, ⊎_elim, ℕ, zero, suc, ◌+◌, ◌-◌, ◌<◌, ◌≤◌, List, [], ◌∷◌, length, refl, sym, ◌∙◌, ap, arith, slice_index_or, slice_set, get_or-set_same, get_or-set_other, ext_get_or}
use Rattle.std.proofs.lemmas.Bool.{cases_lt}
use Rattle.std.proofs.lemmas.Bool.Decides.{nat_tests, eqb_tells}
use Rattle.std.proofs.lemmas.Option.{slice_get_cases}
use Rattle.cms_journal.specs.declared.event.Event.{Event}
use Rattle.cms_journal.specs.declared.event.Event.TheVariants.{Read, Now, Typed, Wrote, Synced, Missed}
use Rattle.cms_journal.specs.Journal.{Journal, HasBlock, block_of, block_after, blocks_after, block_at_sync, WroteSince, IsCrashImage, IsUntouched, contents, contents_of, start_of}
use Rattle.cms_journal.specs.Told.{back}
use Rattle.cms_journal.specs.Laws.{NoneWrote}
use Rattle.cms_journal.proofs.Crashes.{left_now, unwritten_left, untouched_unwritten, length-contents, get-contents, aside_since, changes_nothing}
use Rattle.cms_model.specs.Trees.{Image, image_of}
use Rattle.cms_model.specs.Settled.{EachCrash}

-- past its end a list has nothing
pub past_end : (xs : List (List ℕ)) (i : ℕ) → length xs ≤ i → slice_index_or xs i [] ≡ []
past_end [] i past = refl
past_end (x ∷ xs) zero past = absurd (omega arith)
past_end (x ∷ xs) (suc i) past = past_end xs i (omega arith)

pub image_past : (blocks : List (List ℕ)) (n : ℕ) → length blocks < n → image_of blocks n ≡ []
unfolding image_of
image_past blocks n past = past_end blocks (n - 1) (omega arith)

-- block n of the contents
pub contents_at : (events : List Event) (u : ℕ) (start : List (List ℕ)) (n : ℕ) → 1 ≤ n → n ≤ length start
    → image_of (contents events u start) n ≡ block_after events u n (slice_index_or start (n - 1) [])
unfolding image_of
contents_at events u start n low high =
    let same : n - 1 + 1 ≡ n = omega arith in
    let got = get-contents events u start (n - 1) (omega arith) in
    rw same at got

-- a block of a unit is that of its image
pub block_in_image : (j : Journal) (u k size : ℕ) → HasBlock j.units u k size → image_of (contents_of j u) k ≡ block_of j u k
block_in_image j u k size has =
    let within : (1 ≤ k) × (k ≤ length (start_of j.units u)) = grind (arith, slice_get_cases j.units u) in
    contents_at j.events u (start_of j.units u) k within.0 within.1

pub crash_now : (events : List Event) (u : ℕ) (start : List (List ℕ)) → IsCrashImage events u start (contents events u start)
crash_now events u start = record {
  same_length = length-contents events u start;
  each = λ k within. rw (get-contents events u start k within) (left_now events u (k + 1) (slice_index_or start k []));
}

-- what each crash leaves, the contents have
pub contents_have : (j : Journal) (u : ℕ) (P : Image → Type 0) → EachCrash j u P → P (image_of (contents_of j u))
contents_have j u P each = each (contents_of j u) (crash_now j.events u (start_of j.units u))

-- ---- a write

there : (events : List Event) (u k n : ℕ) (bytes first : List ℕ) → k ≢ n → block_after (Wrote u k bytes ∷ events) u n first ≡ block_after events u n first
there events u k n bytes first other = grind (arith, nat_tests, eqb_tells u u, eqb_tells k n, other)

-- the contents but for the block written
pub wrote_other : (events : List Event) (u k n : ℕ) (bytes : List ℕ) (start : List (List ℕ)) → 1 ≤ n → k ≢ n
    → image_of (contents (Wrote u k bytes ∷ events) u start) n ≡ image_of (contents events u start) n
wrote_other events u k n bytes start low other = ⊎_elim
    (λ (past : length start < n).
    image_past (contents (Wrote u k bytes ∷ events) u start) n (omega (arith, length-contents (Wrote u k bytes ∷ events) u start))
    ∙ sym (image_past (contents events u start) n (omega (arith, length-contents events u start))))
    (λ (within : n ≤ length start).
    contents_at (Wrote u k bytes ∷ events) u start n low within ∙ there events u k n bytes (slice_index_or start (n - 1) []) other ∙ sym (contents_at events u start n low within))
    (cases_lt (length start) n)

-- an image with another block in one place
pub put_other : (image : List (List ℕ)) (k n : ℕ) (bytes : List ℕ) → 1 ≤ n → 3 ≤ n ⊎ (1 ≤ k) → k ≢ n → image_of (slice_set image (k - 1) bytes) n ≡ image_of image n
unfolding image_of
put_other image k n bytes low some other = get_or-set_other image (k - 1) (n - 1) bytes []
    (λ e. ⊎_elim (λ (far : 3 ≤ n). other (omega (arith, e, far))) (λ (one : 1 ≤ k). other (omega (arith, e, one))) some)

pub put_same : (image : List (List ℕ)) (bytes : List ℕ) → 3 ≤ length image → image_of (slice_set image 2 bytes) 3 ≡ bytes
unfolding image_of
put_same image bytes room = get_or-set_same image 2 bytes [] (omega arith)

-- ---- a sync

synced_blocks : (v : ℕ) (events : List Event) (u k : ℕ) (start : List (List ℕ)) → blocks_after (Synced v ∷ events) u k start ≡ blocks_after events u k start
synced_blocks v events u k [] = refl
synced_blocks v events u k (first ∷ rest) = ap (λ (l : List (List ℕ)). block_after events u k first ∷ l) (synced_blocks v events u (k + 1) rest)

pub synced_contents : (v : ℕ) (events : List Event) (u : ℕ) (start : List (List ℕ)) → contents (Synced v ∷ events) u start ≡ contents events u start
synced_contents v events u start = synced_blocks v events u 1 start

-- ---- a block that wasn't written since the last sync

-- no write since the last sync was to this block
abbrev pub Unwritten : List Event → ℕ → ℕ → Type 0
Unwritten events u k = (bytes : List ℕ) → WroteSince events u k bytes → ⊥

pub unwritten : (events : List Event) (u k : ℕ) (first : List ℕ) → Unwritten events u k → block_after events u k first ≡ block_at_sync events u k first
unwritten [] u k first none = refl
unwritten (Wrote v w bytes ∷ older) u k first none =
    let ih = unwritten older u k first (λ b h. none b (inr h)) in
    let other : (v ≡ u) × (w ≡ k) → ⊥ = λ is. none bytes (inl (is.0, is.1, refl)) in
    grind (arith, nat_tests, eqb_tells v u, eqb_tells w k, ih, other)
unwritten (Synced v ∷ older) u k first none = elim (eqb_tells v u) [
  | inl same ↦ let at = same.0 in rw at refl
  | inr other ↦ let at = other.0 in rw at (unwritten older u k first (λ b h. none b (other.1, h)))
]
unwritten (Read bytes ∷ older) u k first none = unwritten older u k first none
unwritten (Now t ∷ older) u k first none = unwritten older u k first none
unwritten (Typed bytes ∷ older) u k first none = unwritten older u k first none
unwritten (Missed name size access ∷ older) u k first none = unwritten older u k first none

-- a crash leaves such a block as it is
pub left_unwritten : (events : List Event) (u : ℕ) (start image : List (List ℕ)) → IsCrashImage events u start image → (n : ℕ) → 1 ≤ n → Unwritten events u n
    → image_of (contents events u start) n ≡ image_of image n
unfolding image_of
left_unwritten events u start image crash n low none = ⊎_elim
    (λ (past : length start < n).
    image_past (contents events u start) n (omega (arith, length-contents events u start)) ∙ sym (image_past image n (let same = crash.same_length in omega arith)))
    (λ (within : n ≤ length start).
    let first : List ℕ = slice_index_or start (n - 1) [] in
    let at : n - 1 + 1 ≡ n = omega arith in
    let left = crash.each (n - 1) (omega arith) in
    let left' = rw at at left in
    contents_at events u start n low within ∙ unwritten events u n first none
    ∙ ⊎_elim (λ (same : slice_index_or image (n - 1) [] ≡ block_at_sync events u n first). sym same) (λ wrote. absurd (none (slice_index_or image (n - 1) []) wrote)) left')
    (cases_lt (length start) n)

-- ---- events aside

-- a unit is the same after further events
pub record SameUnit (older newer : List Event) (u : ℕ) (start : List (List ℕ)) : Type 0 where
  pub contents_same : contents newer u start ≡ contents older u start
  pub crash_same : (image : List (List ℕ)) → IsCrashImage newer u start image ↔ IsCrashImage older u start image
  pub since : (k : ℕ) (bytes : List ℕ) → WroteSince newer u k bytes → WroteSince older u k bytes

pub aside_same : (piece events : List Event) (u : ℕ) (start : List (List ℕ)) → IsUntouched piece u → SameUnit events (back piece events) u start
aside_same [] events u start h = record { contents_same = refl; crash_same = λ image. (λ c. c, λ c. c); since = λ k bytes w. w }
aside_same (e ∷ es) events u start h =
    let rest = aside_same es (e ∷ events) u start h.1 in
    let one = changes_nothing e events u start h.0 in
    record {
      contents_same = rest.contents_same ∙ one.contents_same;
      crash_same = λ image. (λ c. (one.crash_same image).0 ((rest.crash_same image).0 c), λ c. (rest.crash_same image).1 ((one.crash_same image).1 c));
      since = λ k bytes w. (aside_since e events u k bytes h.0).0 (rest.since k bytes w);
    }

none_since : (events : List Event) (u k : ℕ) (bytes : List ℕ) → NoneWrote events u → WroteSince events u k bytes → ⊥
none_since [] u k bytes none w = w
none_since (Wrote v x b ∷ older) u k bytes none (inl here) = none.0 here.0
none_since (Wrote v x b ∷ older) u k bytes none (inr more) = none_since older u k bytes none.1 more
none_since (Synced v ∷ older) u k bytes none w = none_since older u k bytes none w.1
none_since (Read b ∷ older) u k bytes none w = none_since older u k bytes none w
none_since (Now t ∷ older) u k bytes none w = none_since older u k bytes none w
none_since (Typed b ∷ older) u k bytes none w = none_since older u k bytes none w
none_since (Missed name size access ∷ older) u k bytes none w = none_since older u k bytes none w

-- a unit to which nothing happened is as it was attached
pub record AsStart (events : List Event) (u : ℕ) (start : List (List ℕ)) : Type 0 where
  pub contents_are : contents events u start ≡ start
  pub crash_is : (image : List (List ℕ)) → IsCrashImage events u start image → image ≡ start
  pub none : (k : ℕ) → Unwritten events u k

pub untouched_start : (events : List Event) (u : ℕ) (start : List (List ℕ)) → IsUntouched events u → AsStart events u start
untouched_start events u start h =
    let none = untouched_unwritten events u h in
    let only : (image : List (List ℕ)) → IsCrashImage events u start image → image ≡ start =
    λ image crash. ext_get_or [] image start crash.same_length (λ k below. unwritten_left events u (k + 1) (slice_index_or start k []) (slice_index_or image k []) none
    (crash.each k (let same = crash.same_length in omega arith))) in
    record {
      contents_are = only (contents events u start) (crash_now events u start);
      crash_is = only;
      none = λ k bytes w. none_since events u k bytes none w;
    }
