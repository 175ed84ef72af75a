-- The lines of a block, one after another.
use Rattle.std.proofs.Common.{◌≡◌, ◌∙◌, ◌∷◌, [], ◌++◌, ◌+◌, ◌-◌, ◌<◌, ◌≤◌, ℕ, Bool, List, length, drop, refl, sym, ap, true, false, arith, Fits, w32}
use Rattle.std.specs.Prelude.{Some, None, Result, Ok, Err, slice_get}
use Rattle.std.proofs.lemmas.List.{append-nil, append_assoc, drop_all}
use Rattle.cms_text.specs.Texts.{Text}
use Rattle.exec2_run.specs.Outputs.{block, block_from, in_front, is_end}
use Rattle.exec2_run.specs.State.{Exec}
use Rattle.exec2_run.specs.declared.fault.Fault.{Fault}
use Rattle.exec2_run.specs.declared.output.Block.{Block}
use Rattle.exec2_run.proofs.Places.{from_place, past_end}
use Rattle.exec2_run.specs.declared.fault.Fault.TheVariants.{NoEnd}

pub block_ends : (front lines : List Text) (k : ℕ) (line : Text) → Some line ≡ slice_get lines k → is_end line ≡ true
    → in_front front (block_from k (drop k lines)) ≡ Ok (record { lines = front; past = k + 1 })
unfolding block_from
block_ends front lines k line e h = rw (from_place lines k line e, h) (ap (λ (l : List Text). Ok (record { lines = l; past = k + 1 })) (append-nil front))

joined : (front : List Text) (line : Text) (more : Result Block Fault) → in_front front (in_front (line ∷ []) more) ≡ in_front (front ++ line ∷ []) more
joined front line (Ok b) = ap (λ (l : List Text). Ok (record { lines = l; past = b.past })) (sym (append_assoc front (line ∷ []) b.lines))
joined front line (Err fault) = refl

pub block_goes_on : (front lines : List Text) (k : ℕ) (line : Text) → Some line ≡ slice_get lines k → is_end line ≡ false
    → in_front front (block_from k (drop k lines)) ≡ in_front (front ++ line ∷ []) (block_from (k + 1) (drop (k + 1) lines))
unfolding block_from
block_goes_on front lines k line e h = rw (from_place lines k line e, h) (joined front line (block_from (k + 1) (drop (k + 1) lines)))

pub block_none : (front lines : List Text) (k : ℕ) → None ≡ slice_get lines k → in_front front (block_from k (drop k lines)) ≡ Err NoEnd
unfolding block_from
block_none front lines k e = rw (past_end lines k e) refl

-- ---- the loop over them

none_in_front : (b : Result Block Fault) → in_front [] b ≡ b
none_in_front (Ok b) = refl
none_in_front (Err fault) = refl

pub block_begins : (s : Exec) (front : List Text) (next : ℕ) → front ≡ [] → next ≡ s.next → in_front front (block_from next (drop next s.lines)) ≡ block s
block_begins s front next none here = rw (none, here) (none_in_front (block_from s.next (drop s.next s.lines)))

pub block_kept : (front lines new : List Text) (k : ℕ) (line text : Text) (b : Result Block Fault) → Some line ≡ slice_get lines k → is_end line ≡ false → text ≡ line → new ≡ front ++ text ∷ []
    → in_front front (block_from k (drop k lines)) ≡ b → in_front new (block_from (k + 1) (drop (k + 1) lines)) ≡ b
block_kept front lines new k line text b e h same more is = rw (more, same) (sym (block_goes_on front lines k line e h) ∙ is)

pub block_over : (front lines : List Text) (k : ℕ) → length lines ≤ k → in_front front (block_from k (drop k lines)) ≡ Err NoEnd
unfolding block_from
block_over front lines k over = rw (drop_all k lines over) refl

pub told_end : (line there : Text) (r v : Bool) → there ≡ line → r ≡ is_end there → r ≡ v → is_end line ≡ v
told_end line there r v same said is = ap is_end (sym same) ∙ (sym said ∙ is)

pub count_fits : (n m : ℕ) → n ≡ m → m ≤ 4096 → Fits w32 n
count_fits n m same most = omega (arith, same, most)

pub next_fits : (k n m : ℕ) → k < n → n ≡ m → m ≤ 4096 → Fits w32 (k + 1)
next_fits k n m less same most = omega (arith, less, same, most)

pub fewer_left : (n k : ℕ) → k < n → n - (k + 1) < n - k
fewer_left n k less = omega (arith, less)
