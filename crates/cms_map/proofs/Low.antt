-- The mark up to which no block is free.
use Rattle.std.proofs.Common.{◌≡◌, ℕ, zero, suc, ◌+◌, ◌-◌, ◌≤◌, ◌<◌, Bool, true, false, List, [], ◌∷◌, length, take, drop, get_or, set, refl, sym, ◌∙◌, ap, arith}
use Rattle.std.proofs.lemmas.List.{append-nil, drop-set-lt}
use Rattle.cms_map.specs.Bits.{free_from, with_marked, NoneIsFree}
use Rattle.cms_map.proofs.Free.{free_above, Marking}

-- all free blocks stand behind the mark
pub behind_mark : (k low : ℕ) (bits : List Bool) → free_from k (take low bits) ≡ [] → free_from k bits ≡ free_from (k + low) (drop low bits)
unfolding free_from
behind_mark k zero bits none = let e : k ≡ k + 0 = omega arith in ap (λ (n : ℕ). free_from n bits) e
behind_mark k (suc low) [] none = refl
behind_mark k (suc low) (true ∷ bits) none = let e : k + 1 + low ≡ k + suc low = omega arith in rw (← e) (behind_mark (k + 1) low bits none)
behind_mark k (suc low) (false ∷ bits) none = absurd (cc none)

-- where all free blocks stand behind a block, it may be the mark
up_to_mark : (k low : ℕ) (bits : List Bool) → free_from k bits ≡ free_from (k + low) (drop low bits) → free_from k (take low bits) ≡ []
unfolding free_from
up_to_mark k zero bits same = refl
up_to_mark k (suc low) [] same = refl
up_to_mark k (suc low) (true ∷ bits) same = let e : k + 1 + low ≡ k + suc low = omega arith in up_to_mark (k + 1) low bits (rw (← e) at same)
up_to_mark k (suc low) (false ∷ bits) same =
    let long = ap length same in
    let first = ap (λ (l : List ℕ). get_or l 0 0) same in
    absurd (omega (arith, long, first, free_above (k + suc low) (drop low bits) 0 (omega (arith, long))))

-- the mark may be lowered
lower_mark : (k low lower : ℕ) (bits : List Bool) → lower ≤ low → free_from k (take low bits) ≡ [] → free_from k (take lower bits) ≡ []
unfolding free_from
lower_mark k low zero bits le none = refl
lower_mark k zero (suc lower) bits le none = absurd (omega arith)
lower_mark k (suc low) (suc lower) [] le none = refl
lower_mark k (suc low) (suc lower) (true ∷ bits) le none = lower_mark (k + 1) low lower bits (omega arith) none
lower_mark k (suc low) (suc lower) (false ∷ bits) le none = absurd (cc none)

-- a bit behind the mark may change
unchanged_front : (low place : ℕ) (bit : Bool) (bits : List Bool) → low ≤ place → take low (set bits place bit) ≡ take low bits
unchanged_front zero place bit bits le = refl
unchanged_front (suc low) place bit [] le = refl
unchanged_front (suc low) zero bit (b ∷ bits) le = absurd (omega arith)
unchanged_front (suc low) (suc place) bit (b ∷ bits) le = ap (λ (l : List Bool). b ∷ l) (unchanged_front low place bit bits (omega arith))

pub mark_lowered : (low lower place : ℕ) (bit : Bool) (bits : List Bool) → lower ≤ low → lower ≤ place → NoneIsFree low bits → NoneIsFree lower (set bits place bit)
mark_lowered low lower place bit bits le before none = ap (free_from 1) (unchanged_front lower place bit bits before) ∙ lower_mark 1 low lower bits le none

-- a block that is marked isn't free
marked_front : (k low place : ℕ) (bits : List Bool) → free_from k (take low bits) ≡ [] → free_from k (take low (set bits place true)) ≡ []
unfolding free_from
marked_front k zero place bits none = refl
marked_front k (suc low) place [] none = refl
marked_front k (suc low) zero (true ∷ bits) none = none
marked_front k (suc low) (suc place) (true ∷ bits) none = marked_front (k + 1) low place bits none
marked_front k (suc low) place (false ∷ bits) none = absurd (cc none)

pub mark_kept : (low place : ℕ) (bits : List Bool) → NoneIsFree low bits → NoneIsFree low (set bits place true)
mark_kept low place bits none = marked_front 1 low place bits none

-- once the lowest free block is marked, the others are the free ones
first_marked : (k place : ℕ) (bits : List Bool) (rest : List ℕ) → free_from k bits ≡ (k + place) ∷ rest → free_from k (set bits place true) ≡ rest
unfolding free_from
first_marked k place [] rest is = absurd (cc is)
first_marked k zero (true ∷ bits) rest is =
    let long = ap length is in
    let first = ap (λ (l : List ℕ). get_or l 0 0) is in
    absurd (omega (arith, first, free_above (k + 1) bits 0 (omega (arith, long))))
first_marked k zero (false ∷ bits) rest is = cc is
first_marked k (suc place) (true ∷ bits) rest is = let e : k + 1 + place ≡ k + suc place = omega arith in first_marked (k + 1) place bits rest (rw (← e) at is)
first_marked k (suc place) (false ∷ bits) rest is = let first : k ≡ k + suc place = cc is in absurd (omega arith)

-- a block that is marked as the next behind the mark is the mark itself
pub mark_raised : (low next : ℕ) (bits : List Bool) → NoneIsFree low bits → free_from (low + 1) (drop low bits) ≡ next ∷ free_from (next + 1) (drop next bits) → low < next
    → NoneIsFree next (set bits (next - 1) true)
mark_raised low next bits none is later =
    let one : 1 + low ≡ low + 1 = omega arith in
    let all : free_from 1 bits ≡ next ∷ free_from (next + 1) (drop next bits) = rw one at (behind_mark 1 low bits none) ∙ is in
    let back : next ≡ 1 + (next - 1) = omega arith in
    let left : free_from 1 (set bits (next - 1) true) ≡ free_from (next + 1) (drop next bits) = first_marked 1 (next - 1) bits (free_from (next + 1) (drop next bits)) (all ∙ ap (λ (n : ℕ). n ∷ free_from (next + 1) (drop next bits)) back) in
    let unset : drop next (set bits (next - 1) true) ≡ drop next bits = drop-set-lt next bits (next - 1) true (omega arith) in
    let up : next + 1 ≡ 1 + next = omega arith in
    up_to_mark 1 next (set bits (next - 1) true) (left ∙ (ap (λ (n : ℕ). free_from n (drop next bits)) up ∙ ap (free_from (1 + next)) (sym unset)))

-- the marking begins behind the mark
pub starts : (old : List Bool) (had : List ℕ) (low : ℕ) → NoneIsFree low old → Marking old had old had low 0
unfolding with_marked
starts old had low none =
    let one : 1 + low ≡ low + 1 = omega arith in
    record { marks = refl; blocks = sym (append-nil had); same = refl; left = sym (rw one at (behind_mark 1 low old none)) }
