-- The pointers in a block.
use Rattle.std.proofs.Common.{◌≡◌, ◌⊎◌, inl, inr, ℕ, zero, suc, ◌+◌, ◌-◌, ◌*◌, ◌^◌, ◌<◌, ◌≤◌, List, [], ◌∷◌, ◌++◌, length, take, drop, map, All, Option, None, refl, sym, ◌∙◌, ap, arith, append_assoc, length-append, drop_at}
use Rattle.std.specs.List.{concat}
use Rattle.std.proofs.lemmas.Bool.{cases_lt}
use Rattle.std.proofs.lemmas.List.Elements.{All-head, All-tail}
use Rattle.byteorder.specs.Endian.{big_bytes}
use Rattle.byteorder.specs.Numbers.{big_number-reads_back, length-bytes_high_first}
use Rattle.cms_text.specs.Bytes.{word}
use Rattle.cms_fields.specs.Numbers.{up}
use Rattle.cms_model.specs.Trees.{children, pointers}
use Rattle.cms_model.specs.LawsTrees.{Cell, cell_bytes, FitsCell}
use Rattle.cms_model.proofs.Quotients.{up_spec, up_unique, up_zero}
use Rattle.cms_model.proofs.TreeFrame.{Walk}

pub up_less : (c size : ℕ) → 0 < size → 0 < c → up c size ≡ suc (up (c - size) size)
up_less c size room some =
    let s = up_spec (c - size) size room in
    let s0 = s.0 in let s1 = s.1 in
    sym (up_unique c size (suc (up (c - size) size)) room (omega arith) (go (cases_lt c size)))
  where
    go : (c < size) ⊎ (size ≤ c) → suc (up (c - size) size) * size < c + size
    go (inl less) =
        let none : c - size ≡ 0 = omega arith in
        let z : up (c - size) size ≡ 0 = ap (λ (x : ℕ). up x size) none ∙ up_zero size room in
        let e : suc (up (c - size) size) * size ≡ size = ap (λ (x : ℕ). suc x * size) z ∙ (omega arith) in
        omega arith
    go (inr le) = let t = (up_spec (c - size) size room).1 in omega arith

-- the further words aren't looked at
pub only_pointers : (f : Walk) (size holder : ℕ) (ps : List ℕ) (count : ℕ) (first : Option ℕ) → 1 ≤ size
    → children f size holder (take (up count size) ps) count first ≡ children f size holder ps count first
only_pointers f size holder [] count first room = ap (λ (l : List ℕ). children f size holder l count first) (nothing (up count size))
  where
    nothing : (n : ℕ) → take {A = ℕ} n [] ≡ []
    nothing zero = refl
    nothing (suc n) = refl
only_pointers f size holder (p ∷ ps) zero first room = let none : up 0 size ≡ 0 = up_zero size room in rw none refl
only_pointers f size holder (p ∷ ps) (suc n) first room =
    let more = up_less (suc n) size room (omega arith) in
    rw (more, only_pointers f size holder ps (suc n - size) None room) refl

word_cell : (c : Cell) (rest : List ℕ) → c.block < 2 ^ 32 → word (cell_bytes c ++ rest) 0 ≡ c.block
unfolding word
word_cell c rest fits = big_number-reads_back 4 c.block (c.beside ++ rest) (omega arith)

pub pointers_read : (stride more : ℕ) (cells : List Cell) (rest : List ℕ) → All (FitsCell stride) cells
    → pointers (length cells + more) stride (concat (map cell_bytes cells) ++ rest) ≡ map (λ c. c.block) cells ++ pointers more stride rest
unfolding pointers
pointers_read stride more [] rest all = let none : 0 + more ≡ more = omega arith in rw none refl
pointers_read stride more (c ∷ cs) rest all =
    let fits = All-head (FitsCell stride) c cs all in
    let next : suc (length cs) + more ≡ suc (length cs + more) = omega arith in
    let behind : List ℕ = concat (map cell_bytes cs) ++ rest in
    let regroup : (cell_bytes c ++ concat (map cell_bytes cs)) ++ rest ≡ cell_bytes c ++ behind = append_assoc (cell_bytes c) (concat (map cell_bytes cs)) rest in
    let here : word (cell_bytes c ++ behind) 0 ≡ c.block = word_cell c behind fits.word in
    let wide : length (cell_bytes c) ≡ stride = length-append (big_bytes 4 c.block) c.beside ∙ ap (λ (n : ℕ). n + length c.beside) (length-bytes_high_first 4 c.block) ∙ fits.wide in
    let past : drop stride (cell_bytes c ++ behind) ≡ behind = drop_at (cell_bytes c) behind stride wide in
    ap (λ (n : ℕ). pointers n stride ((cell_bytes c ++ concat (map cell_bytes cs)) ++ rest)) next ∙ ap (pointers (suc (length cs + more)) stride) regroup
    ∙ step (length cs + more) (cell_bytes c ++ behind) c.block behind here past ∙ ap (λ (l : List ℕ). c.block ∷ l) (pointers_read stride more cs rest (All-tail (FitsCell stride) c cs all))
  where
    step : (n : ℕ) (bytes : List ℕ) (block : ℕ) (behind : List ℕ) → word bytes 0 ≡ block → drop stride bytes ≡ behind → pointers (suc n) stride bytes ≡ block ∷ pointers n stride behind
    step n bytes block behind here past = rw (here, past) refl
