-- Quotients rounded up.
use Rattle.std.proofs.Common.{◌≡◌, ⊎_elim, ℕ, suc, ◌+◌, ◌-◌, ◌*◌, ◌/◌, ◌%◌, ◌<◌, ◌≤◌, sym, ◌∙◌, ap, arith, div-add-mod', mod-lt, mul-le-mul_right, mul-pos, mul_comm, mul_assoc}
use Rattle.std.proofs.Math.Nat.{div-eq_of_lt-le}
use Rattle.std.proofs.lemmas.Bool.{cases_lt}
use Rattle.cms_fields.specs.Numbers.{up}

-- the least number of pieces with room
pub up_spec : (a b : ℕ) → 0 < b → (a ≤ up a b * b) × (up a b * b < a + b)
up_spec a b some =
    let whole : (a + (b - 1)) / b * b + (a + (b - 1)) % b ≡ a + (b - 1) = div-add-mod' (a + (b - 1)) b in
    let rest : (a + (b - 1)) % b < b = mod-lt (a + (b - 1)) some in
    (omega arith, omega arith)

pub up_unique : (a b m : ℕ) → 0 < b → a ≤ m * b → m * b < a + b → m ≡ up a b
up_unique a b m some low high = sym (div-eq_of_lt-le {k = m} b {m = a + (b - 1)} (omega arith) (omega arith))

-- rounding up twice
pub up_up : (c a b : ℕ) → 0 < a → 0 < b → up (up c a) b ≡ up c (a * b)
up_up c a b pa pb =
    let s = up_spec c a pa in
    let t = up_spec (up c a) b pb in
    let s0 = s.0 in let s1 = s.1 in let t0 = t.0 in let t1 = t.1 in
    let u = up c a in
    let w = up (up c a) b in
    let e : w * b * a ≡ w * (a * b) = mul_assoc w b a ∙ ap (λ (x : ℕ). w * x) (mul_comm b a) in
    let low : u * a ≤ w * b * a = mul-le-mul_right a t0 in
    let high : suc (w * b) * a ≤ (u + b) * a = mul-le-mul_right a t1 in
    up_unique c (a * b) w (mul-pos pa pb) (omega arith) (omega arith)

pub up_zero : (b : ℕ) → 0 < b → up 0 b ≡ 0
up_zero b some = sym (up_unique 0 b 0 some (omega arith) (omega arith))

-- something needs a piece
pub up_some : (a b : ℕ) → 0 < b → 1 ≤ a → 1 ≤ up a b
up_some a b some more =
    let s = (up_spec a b some).0 in
    ⊎_elim (λ (none : up a b < 1). let z : up a b ≡ 0 = omega arith in let y : up a b * b ≡ 0 = ap (λ (x : ℕ). x * b) z ∙ (omega arith) in absurd (omega arith)) (λ (le : 1 ≤ up a b). le)
    (cases_lt (up a b) 1)

-- no more pieces than things
pub up_below : (a b : ℕ) → 0 < b → up a b ≤ a
up_below a b some =
    let s = (up_spec a b some).1 in
    ⊎_elim (λ (more : a < up a b). let wide : suc a * b ≤ up a b * b = mul-le-mul_right b more in let one : a * 1 ≤ a * b = mul-le-mul_left' a b some in absurd (omega arith)) (λ (le : up a b ≤ a). le)
    (cases_lt a (up a b))
  where
    mul-le-mul_left' : (a b : ℕ) → 0 < b → a * 1 ≤ a * b
    mul-le-mul_left' a b some = let c = mul-le-mul_right {m = 1} {n = b} a some in omega (arith, mul_comm a b, mul_comm a 1)

-- whole pieces are taken off
pub up_more : (q r b : ℕ) → 0 < b → up (q * b + r) b ≡ q + up r b
up_more q r b some =
    let s = up_spec r b some in
    let s0 = s.0 in let s1 = s.1 in
    sym (up_unique (q * b + r) b (q + up r b) some (omega arith) (omega arith))
