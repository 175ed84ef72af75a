-- The writes of blocks at places, one by one.
use Rattle.std.proofs.Common.{◌≡◌, ℕ, zero, suc, ◌<◌, List, [], ◌∷◌, length, map, take, drop, get_or, All, refl, sym, ◌∙◌, ap, subst, arith}
use Rattle.std.proofs.lemmas.List.{length-map, take_all, length-take}
use Rattle.std.proofs.lemmas.List.Elements.{All-map, All-weaker}
use Rattle.cms_model.specs.Lists.{cut}
use Rattle.cms_model.specs.Settled.{Write}
use Rattle.cms_model.proofs.Cuts.{length_cut}
use Rattle.cms_held.specs.Systems.{block_writes, data_writes, leaf_writes}
use Rattle.cms_held.proofs.Fronts.{IsWriteAt}
use Rattle.cms_held.proofs.PiecesWritten.{length_writes}
use Rattle.cms_edf.specs.BlockWrites.{IsBlockOf}
use Rattle.cms_edf.specs.Doubts.{AreAt}

-- a write of a list of places
pub leaf_at : (blocks : List ℕ) (piece : ℕ → List ℕ) (places : List ℕ) (k : ℕ) → k < length places
    → IsWriteAt (leaf_writes blocks piece places) k (record { block = get_or blocks (get_or places k 0) 0; bytes = piece (get_or places k 0) })
leaf_at blocks piece places k less = record {
  within = (let long : length (leaf_writes blocks piece places) ≡ length places = length-map places (λ (j : ℕ). record { block = get_or blocks j 0; bytes = piece j }) in omega (arith, long, less));
  is = λ d. one places k less d;
}
  where
    one : (ps : List ℕ) (i : ℕ) → i < length ps → (d : Write) → get_or (leaf_writes blocks piece ps) i d ≡ record { block = get_or blocks (get_or ps i 0) 0; bytes = piece (get_or ps i 0) }
    one [] i less' d = absurd (omega arith)
    one (p ∷ ps) zero less' d = refl
    one (p ∷ ps) (suc i) less' d = one ps i (omega arith) d

pub leaf_count : (blocks : List ℕ) (piece : ℕ → List ℕ) (places : List ℕ) → length (leaf_writes blocks piece places) ≡ length places
leaf_count blocks piece places = length-map places (λ (j : ℕ). record { block = get_or blocks j 0; bytes = piece j })

-- blocks with bytes of their own are as many
pub data_count : (size : ℕ) (blocks bytes : List ℕ) → length (block_writes blocks (cut (length blocks) size bytes)) ≡ length blocks
data_count size blocks bytes = length_writes blocks (cut (length blocks) size bytes) (length_cut (length blocks) size bytes)

-- the blocks at places are blocks of the volume
pub blocks_at : (total : ℕ) (blocks places numbers : List ℕ) → AreAt total blocks places → numbers ≡ map (λ j. get_or blocks j 0) places → All (IsBlockOf total) numbers
blocks_at total blocks places numbers all is =
    subst (All (IsBlockOf total)) (sym is)
    (All-map (IsBlockOf total) (λ (j : ℕ). get_or blocks j 0) places (All-weaker (λ j. (j < length blocks) × IsBlockOf total (get_or blocks j 0)) (λ j. IsBlockOf total (get_or blocks j 0)) (λ j both. both.1) places all))

-- ---- the first, and those behind it

rest_of : (size : ℕ) (ns bytes : List ℕ) → block_writes (drop 1 ns) (cut (length (drop 1 ns)) size (drop size bytes)) ≡ drop 1 (block_writes ns (cut (length ns) size bytes))
unfolding block_writes cut
rest_of size [] bytes = refl
rest_of size (n ∷ ns) bytes = refl

first_of : (size : ℕ) (ns bytes : List ℕ) → block_writes (take 1 ns) (cut (length (take 1 ns)) size (take size bytes)) ≡ take 1 (block_writes ns (cut (length ns) size bytes))
unfolding block_writes cut
first_of size [] bytes = refl
first_of size (n ∷ ns) bytes =
    let long = length-take size bytes in
    rw (take_all size (take size bytes) (omega arith)) refl

pub rest_is : (size : ℕ) (blocks places numbers bytes ns more : List ℕ) → numbers ≡ map (λ j. get_or blocks j 0) places → ns ≡ drop 1 numbers → more ≡ drop size bytes
    → block_writes ns (cut (length ns) size more) ≡ drop 1 (data_writes size blocks places bytes)
rest_is size blocks places numbers bytes ns more are is_ns is_more =
    let f : ℕ → ℕ = λ (j : ℕ). get_or blocks j 0 in
    let all : ns ≡ drop 1 (map f places) = is_ns ∙ ap (drop 1) are in
    (λ i. block_writes (all i) (cut (length (all i)) size (is_more i)))
    ∙ (rest_of size (map f places) bytes ∙ ap (λ (n : ℕ). drop 1 (block_writes (map f places) (cut n size bytes))) (length-map places f))

pub first_is : (size : ℕ) (blocks places numbers bytes ns piece : List ℕ) → numbers ≡ map (λ j. get_or blocks j 0) places → ns ≡ take 1 numbers → piece ≡ take size bytes
    → block_writes ns (cut (length ns) size piece) ≡ take 1 (data_writes size blocks places bytes)
first_is size blocks places numbers bytes ns piece are is_ns is_piece =
    let f : ℕ → ℕ = λ (j : ℕ). get_or blocks j 0 in
    let all : ns ≡ take 1 (map f places) = is_ns ∙ ap (take 1) are in
    (λ i. block_writes (all i) (cut (length (all i)) size (is_piece i)))
    ∙ (first_of size (map f places) bytes ∙ ap (λ (n : ℕ). take 1 (block_writes (map f places) (cut n size bytes))) (length-map places f))
