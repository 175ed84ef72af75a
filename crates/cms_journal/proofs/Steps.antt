-- What a write and a sync do to the contents of a unit and to what a crash may leave of it.
use Rattle.std.proofs.Common.{◌≡◌, ◌≢◌, ◌⊎◌, inl, inr, ℕ, zero, suc, ◌+◌, ◌-◌, ◌<◌, ◌≤◌, List, [], ◌∷◌, length, refl, ap, sym, subst, ◌∙◌, slice_index_or, slice_set, arith}
use Rattle.std.proofs.lemmas.Bool.Decides.{nat_tests, eqb_tells}
use Rattle.std.proofs.lemmas.Grind.{get_or-set_at}
use Rattle.std.proofs.Common.{nat_eq, true, false}
use Rattle.std.proofs.lemmas.List.{ext_get_or, length-set, get_or-set_same, set-get_or, set-set, get_or-set_other as get-set_other}
use Rattle.std.proofs.lemmas.Bool.{cases_lt}
use Rattle.cms_journal.specs.declared.event.Event.{Event}
use Rattle.cms_journal.specs.declared.event.Event.TheVariants.{Wrote, Synced}
use Rattle.cms_journal.specs.Journal.{block_after, block_at_sync, MayBeLeft, IsCrashImage, contents}
use Rattle.cms_journal.specs.Laws.{PutsBlock}
use Rattle.cms_journal.proofs.Crashes.{left_only, length-blocks_after, get-contents}

-- a write to another block changes nothing for this one
other_block : (events : List Event) (u k l : ℕ) (bytes first block : List ℕ) → k ≢ l → MayBeLeft (Wrote u k bytes ∷ events) u l first block → MayBeLeft events u l first block
other_block events u k l bytes first block ne left = grind (arith, ne, left)

-- where the block itself is as before, so is the image
kept : (events : List Event) (u i : ℕ) (bytes : List ℕ) (start image : List (List ℕ)) → IsCrashImage (Wrote u (i + 1) bytes ∷ events) u start image
    → (i < length start → MayBeLeft events u (i + 1) (slice_index_or start i []) (slice_index_or image i [])) → IsCrashImage events u start image
kept events u i bytes start image crash here = record {
  same_length = crash.same_length;
  each = λ j within. elim (eqb_tells j i) [
    | inl same ↦ subst (λ (m : ℕ). m < length start → MayBeLeft events u (m + 1) (slice_index_or start m []) (slice_index_or image m [])) (sym same.1) here within
    | inr other ↦ let ne : i + 1 ≢ j + 1 = (λ e. other.1 (omega (arith, e))) in other_block events u (i + 1) (j + 1) bytes _ _ ne (crash.each j within)
  ];
}

-- where the block is what was written, the image is one from before with these bytes in the block
changed : (events : List Event) (u i : ℕ) (bytes : List ℕ) (start image : List (List ℕ)) → IsCrashImage (Wrote u (i + 1) bytes ∷ events) u start image → i < length start
    → bytes ≡ slice_index_or image i [] → (old : List (List ℕ)) × IsCrashImage events u start old × (image ≡ slice_set old i bytes)
changed events u i bytes start image crash inside is =
    let before : List ℕ = block_at_sync events u (i + 1) (slice_index_or start i []) in (
      slice_set image i before,
      record {
        same_length = length-set image i before ∙ crash.same_length;
        each = λ j within. elim (eqb_tells j i) [
          | inl same ↦
              subst (λ (m : ℕ). MayBeLeft events u (m + 1) (slice_index_or start m []) (slice_index_or (slice_set image i before) m [])) (sym same.1)
              (let room : i < length image = omega (arith, crash.same_length) in rw (get_or-set_same image i before [] room) (inl refl))
          | inr other ↦
              let ne : i + 1 ≢ j + 1 = (λ e. other.1 (omega (arith, e))) in
              rw (get-set_other image i j before [] other.1) (other_block events u (i + 1) (j + 1) bytes _ _ ne (crash.each j within))
        ];
      },
      sym (set-set image i before bytes ∙ (rw is (set-get_or image i []))),
    )

-- after a write: what might have been left before it, or the same with the bytes in the block
pub crash_wrote : (events : List Event) (u k : ℕ) (bytes : List ℕ) (start image : List (List ℕ)) → IsCrashImage (Wrote u k bytes ∷ events) u start image
    → IsCrashImage events u start image ⊎ ((old : List (List ℕ)) × IsCrashImage events u start old × (image ≡ slice_set old (k - 1) bytes))
crash_wrote events u zero bytes start image crash = inl (record {
  same_length = crash.same_length;
  each = λ j within. let ne : 0 ≢ j + 1 = (λ e. absurd (omega (arith, e))) in other_block events u 0 (j + 1) bytes _ _ ne (crash.each j within);
})
crash_wrote events u (suc i) bytes start image crash =
    let same : suc i ≡ i + 1 = omega arith in
    let minus : suc i - 1 ≡ i = omega arith in
    rw minus (let crash' : IsCrashImage (Wrote u (i + 1) bytes ∷ events) u start image = rw same at crash in
    elim (cases_lt i (length start)) [
      | inl inside ↦ elim (crash'.each i inside) [
        | inl base ↦ inl (kept events u i bytes start image crash' (λ within. inl base))
        | inr wrote ↦ elim wrote [
          | inl here ↦ inr (changed events u i bytes start image crash' inside here.2)
          | inr since ↦ inl (kept events u i bytes start image crash' (λ within. inr since))
        ]
      ]
      | inr past ↦ inl (kept events u i bytes start image crash' (λ within. absurd (omega (arith, within, past))))
    ])

-- after a sync: what is there
pub crash_synced : (events : List Event) (u : ℕ) (start image : List (List ℕ)) → IsCrashImage (Synced u ∷ events) u start image → image ≡ contents events u start
crash_synced events u start image crash =
    ext_get_or [] image (contents events u start) (crash.same_length ∙ sym (length-blocks_after events u 1 start))
    (λ k below. let within : k < length start = omega (arith, crash.same_length) in
    left_only [] events u (k + 1) _ _ tt (crash.each k within) ∙ sym (get-contents events u start k within))

-- the block that was written
block_here : (events : List Event) (u k l : ℕ) (bytes first : List ℕ) → k ≡ l → block_after (Wrote u k bytes ∷ events) u l first ≡ bytes
block_here events u k l bytes first same = grind (arith, nat_tests, eqb_tells u u, eqb_tells k l, same)

-- any other block
block_there : (events : List Event) (u k l : ℕ) (bytes first : List ℕ) → k ≢ l → block_after (Wrote u k bytes ∷ events) u l first ≡ block_after events u l first
block_there events u k l bytes first other = grind (arith, nat_tests, eqb_tells u u, eqb_tells k l, other)

-- an element of a list with one element replaced, by whether it is that one
set_read : (xs : List (List ℕ)) (i j : ℕ) (y new old : List ℕ) {one : List ℕ} → one ≡ new → slice_index_or xs j [] ≡ old → j < length xs
    → ((nat_eq j i ≡ true) × (j ≡ i)) ⊎ ((nat_eq j i ≡ false) × (j ≢ i)) → (j ≡ i → new ≡ y) → (j ≢ i → new ≡ old) → one ≡ slice_index_or (slice_set xs i y) j []
set_read xs i j y new old p q within (inl same) here there = let e = here same.1 in let s = get_or-set_at xs i j y [] same.1 in grind (arith, e, s, p, within)
set_read xs i j y new old p q within (inr other) here there = let e = there other.1 in p ∙ e ∙ sym q ∙ sym (get-set_other xs i j y [] other.1)

-- what is there after a write
pub contents_wrote : (events : List Event) (u k : ℕ) (bytes : List ℕ) (start : List (List ℕ)) → 1 ≤ k → contents (Wrote u k bytes ∷ events) u start ≡ slice_set (contents events u start) (k - 1) bytes
contents_wrote events u k bytes start first =
    ext_get_or [] (contents (Wrote u k bytes ∷ events) u start) (slice_set (contents events u start) (k - 1) bytes)
    (length-blocks_after (Wrote u k bytes ∷ events) u 1 start ∙ sym (length-set (contents events u start) (k - 1) bytes ∙ length-blocks_after events u 1 start))
    (λ j below.
    let within : j < length start = omega (arith, length-blocks_after (Wrote u k bytes ∷ events) u 1 start) in
    let one = get-contents (Wrote u k bytes ∷ events) u start j within in
    let two = get-contents events u start j within in
    let len = length-blocks_after events u 1 start in
    set_read (contents events u start) (k - 1) j bytes _ _ one two (omega (arith, len, within)) (eqb_tells j (k - 1)) (λ same. block_here events u k (j + 1) bytes _ (omega (arith, same)))
    (λ other. block_there events u k (j + 1) bytes _ (λ e. other (omega (arith, e)))))

-- a crash after a write may leave what it might have left before
pub crash_old : (events : List Event) (u k : ℕ) (bytes : List ℕ) (start image : List (List ℕ)) → IsCrashImage events u start image → IsCrashImage (Wrote u k bytes ∷ events) u start image
crash_old events u k bytes start image crash = record {
  same_length = crash.same_length;
  each = λ j within. elim (crash.each j within) [ inl e ↦ inl e | inr w ↦ inr (inr w) ];
}

-- and the same with the bytes in the block
crash_new_at : (events : List Event) (u i : ℕ) (bytes : List ℕ) (start image : List (List ℕ)) → IsCrashImage events u start image
    → IsCrashImage (Wrote u (i + 1) bytes ∷ events) u start (slice_set image i bytes)
crash_new_at events u i bytes start image crash = record {
  same_length = length-set image i bytes ∙ crash.same_length;
  each = λ j within. elim (eqb_tells j i) [
    | inl same ↦
        let room : i < length image = omega (arith, crash.same_length, within, same) in
        let here : slice_index_or (slice_set image i bytes) i [] ≡ bytes = get_or-set_same image i bytes [] room in
        inr (inl (refl, omega (arith, same), sym (ap (λ (m : ℕ). slice_index_or (slice_set image i bytes) m []) same.1 ∙ here)))
    | inr other ↦ rw (get-set_other image i j bytes [] other.1) ((crash_old events u (i + 1) bytes start image crash).each j within)
  ];
}

pub crash_new : (events : List Event) (u k : ℕ) (bytes : List ℕ) (start image : List (List ℕ)) → 1 ≤ k → IsCrashImage events u start image
    → IsCrashImage (Wrote u k bytes ∷ events) u start (slice_set image (k - 1) bytes)
crash_new events u k bytes start image first crash =
    let same : (k - 1) + 1 ≡ k = omega arith in
    subst (λ (m : ℕ). IsCrashImage (Wrote u m bytes ∷ events) u start (slice_set image (k - 1) bytes)) same (crash_new_at events u (k - 1) bytes start image crash)

pub puts_block : (events : List Event) (u k : ℕ) (bytes : List ℕ) (start : List (List ℕ)) → 1 ≤ k → PutsBlock events u k bytes start
puts_block events u k bytes start first = record {
  contents_new = contents_wrote events u k bytes start first;
  base_same = refl;
  crash_either = λ image. crash_wrote events u k bytes start image;
  crash_old = λ image. crash_old events u k bytes start image;
  crash_new = λ image. crash_new events u k bytes start image first;
}
