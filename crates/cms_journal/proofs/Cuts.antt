-- Bytes that are cut into blocks.
use Rattle.std.proofs.Common.{◌≡◌, ℕ, ◌+◌, ◌-◌, ◌*◌, List, [], ◌∷◌, ◌++◌, take, drop, sym, ap, ◌∙◌, append-nil, arith, zero, suc, refl}
use Rattle.std.specs.List.{concat}
use Rattle.std.proofs.lemmas.List.Folds.{concat-append}
use Rattle.std.proofs.Math.Seq.{take-add}
use Rattle.std.proofs.lemmas.List.{drop-drop}
use Rattle.cms_journal.specs.Blocks.{first_blocks}

-- one block more
pub cut_more : (bytes : List ℕ) (blocks : List (List ℕ)) (block : List ℕ) (place size : ℕ) → concat blocks ≡ take (place * size) bytes
    → block ≡ take ((place + 1) * size - place * size) (drop (place * size) bytes) → concat (blocks ++ block ∷ []) ≡ take ((place + 1) * size) bytes
cut_more bytes blocks block place size so_far is =
    let sum : (place + 1) * size ≡ place * size + size = omega arith in
    let minus : (place + 1) * size - place * size ≡ size = omega arith in
    let last : block ≡ take size (drop (place * size) bytes) = rw minus at is in
    concat-append blocks (block ∷ []) ∙ (rw (append-nil block, so_far, last, sum) (sym (take-add (place * size) size bytes)))

-- the same among the blocks
first_more : (n size : ℕ) (bytes : List ℕ) → first_blocks (n + 1) size bytes ≡ first_blocks n size bytes ++ take size (drop (n * size) bytes) ∷ []
first_more zero size bytes = let e : zero * size ≡ 0 = omega arith in rw e refl
first_more (suc n) size bytes =
    let e : suc n + 1 ≡ suc (n + 1) = omega arith in
    let m : suc n * size ≡ size + n * size = omega arith in
    let ih = first_more n size (drop size bytes) in
    let d : drop (n * size) (drop size bytes) ≡ drop (suc n * size) bytes = rw m (drop-drop (n * size) size bytes) in
    rw e (ap (λ (xs : List (List ℕ)). take size bytes ∷ xs) (rw d at ih))

pub first_blocks_more : (bytes : List ℕ) (blocks : List (List ℕ)) (block : List ℕ) (place size : ℕ) → blocks ≡ first_blocks place size bytes
    → block ≡ take ((place + 1) * size - place * size) (drop (place * size) bytes) → blocks ++ block ∷ [] ≡ first_blocks (place + 1) size bytes
first_blocks_more bytes blocks block place size so_far is =
    let minus : (place + 1) * size - place * size ≡ size = omega arith in
    let last : block ≡ take size (drop (place * size) bytes) = rw minus at is in
    rw (so_far, last) (sym (first_more place size bytes))
