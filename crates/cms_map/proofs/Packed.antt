-- The bits of a byte as a number, and those of a map as its bytes.
use Rattle.std.proofs.Common.{◌≡◌, ℕ, zero, suc, ◌+◌, ◌-◌, ◌*◌, ◌^◌, ◌≤◌, ◌<◌, ⊎_elim, Bool, true, false, List, [], ◌∷◌, length, drop, get_or, refl, sym, ◌∙◌, ap, subst, arith}
use Rattle.std.specs.Prelude.{if◌then◌else◌}
use Rattle.std.specs.List.{range_with_len}
use Rattle.std.specs.Prelude.{◌==◌, map, ◌/◌, ◌%◌}
use Rattle.std.proofs.lemmas.List.{get_or-drop, same_lists, get_or_default}
use Rattle.std.proofs.lemmas.List.FromFn.{length-map-range_with_len, get_or-map-range_with_len}
use Rattle.std.proofs.lemmas.Nat.{div-mul-add}
use Rattle.std.proofs.Math.Nat.{mul-add-div_right, mul-add-mod_self_right}
use Rattle.std.proofs.Common.{pow-add}
use Rattle.std.proofs.lemmas.Bool.{le-leb, lt-leb, cases_lt}
use Rattle.std.specs.Prelude.{nat_le}
use Rattle.cms_model.specs.Maps.{is_marked, is_used}
use native.Mathlib.Nat.{pow-suc, one-le-pow, mul-le-mul_right, zero-div}
use Rattle.cms_map.specs.Bits.{number_of, byte_at, bytes_from, bits_in, HasFixed, ReadsBack}

-- the number of a bit
abbrev pub worth : Bool → ℕ
worth b = if b then 1 else 0

pub worth_at : (b : Bool) (k : ℕ) → (if b then 2 ^ k else 0) ≡ worth b * 2 ^ k
worth_at true k = omega arith
worth_at false k = omega arith

worth-le : (b : Bool) → worth b ≤ 1
worth-le true = omega arith
worth-le false = omega arith

pub bytes_filled : (from count : ℕ) (bits : List Bool) (bytes : List ℕ) → length bytes ≡ count → ((k : ℕ) → k < count → get_or bytes k 0 ≡ byte_at bits (from + k)) → bytes ≡ bytes_from from count bits
unfolding bytes_from
bytes_filled from count bits bytes long each =
    same_lists bytes (map (byte_at bits) (range_with_len from count)) (long ∙ sym (length-map-range_with_len (byte_at bits) from count))
    (λ k d less.
    let within : k < count = subst (λ (n : ℕ). k < n) long less in
    get_or_default bytes k d 0 less ∙ each k within ∙ sym (get_or-map-range_with_len (byte_at bits) from count k (from + k) d within refl))

pub number_of-small : (k : ℕ) (bits : List Bool) → number_of k bits < 2 ^ k
unfolding number_of
number_of-small zero bits = omega arith
number_of-small (suc k) [] = let some = one-le-pow (suc k) 2 (omega arith) in omega arith
number_of-small (suc k) (bit ∷ bits) =
    let low = number_of-small k bits in
    let double : 2 ^ suc k ≡ 2 ^ k * 2 = pow-suc 2 k in
    let le : worth bit * 2 ^ k ≤ 1 * 2 ^ k = mul-le-mul_right (2 ^ k) (worth-le bit) in
    let is = worth_at bit k in
    omega arith

is_one : (b : Bool) → (worth b % 2 == 1) ≡ b
is_one true = refl
is_one false = refl

-- an even part of a quotient
lower : (bit high low rest : ℕ) → 0 < low → (bit * (high * 2 * low) + rest) / low % 2 ≡ rest / low % 2
lower bit high low rest some =
    let regroup : bit * (high * 2 * low) ≡ bit * high * 2 * low = omega arith in
    rw (regroup, mul-add-div_right some (bit * high * 2) rest) (mul-add-mod_self_right (bit * high) 2 (rest / low))

-- the bit at a place of a number of so many bits
pub bit_of_number : (k j : ℕ) (bits : List Bool) → j < k → (number_of k bits / 2 ^ (k - 1 - j) % 2 == 1) ≡ get_or bits j false
unfolding number_of
bit_of_number zero j bits less = absurd (omega arith)
bit_of_number (suc k) j [] less = let some = one-le-pow (suc k - 1 - j) 2 (omega arith) in let none : 0 / 2 ^ (suc k - 1 - j) ≡ 0 = zero-div (2 ^ (suc k - 1 - j)) in rw none refl
bit_of_number (suc k) zero (bit ∷ bits) less =
    let power : suc k - 1 - 0 ≡ k = omega arith in
    let low = number_of-small k bits in
    let is = worth_at bit k in
    let top : (worth bit * 2 ^ k + number_of k bits) / 2 ^ k ≡ worth bit = div-mul-add (worth bit) (2 ^ k) (number_of k bits) low in
    rw (power, is, top) (is_one bit)
bit_of_number (suc k) (suc j) (bit ∷ bits) less =
    let power : suc k - 1 - suc j ≡ k - 1 - j = omega arith in
    let e = k - 1 - j in
    let sum : k ≡ suc j + e = omega arith in
    let split : 2 ^ k ≡ 2 ^ j * 2 * 2 ^ e = ap (λ (n : ℕ). 2 ^ n) sum ∙ pow-add 2 (suc j) e ∙ ap (λ (n : ℕ). n * 2 ^ e) (pow-suc 2 j) in
    rw (power, worth_at bit k, split, lower (worth bit) (2 ^ j) (2 ^ e) (number_of k bits) (one-le-pow e 2 (omega arith))) (bit_of_number k j bits (omega arith))

byte_bit : (bits : List Bool) (place : ℕ) → (byte_at bits (place / 8) / 2 ^ (7 - place % 8) % 2 == 1) ≡ get_or bits place false
unfolding byte_at
byte_bit bits place =
    let within : place % 8 < 8 = omega arith in
    let power : 8 - 1 - place % 8 ≡ 7 - place % 8 = omega arith in
    let whole : 8 * (place / 8) + place % 8 ≡ place = omega arith in
    let is = bit_of_number 8 (place % 8) (drop (8 * (place / 8)) bits) within in
    let there = get_or-drop (8 * (place / 8)) bits (place % 8) false in
    subst (λ (n : ℕ). (number_of 8 (drop (8 * (place / 8)) bits) / 2 ^ n % 2 == 1) ≡ get_or bits place false) power (is ∙ there ∙ ap (λ (n : ℕ). get_or bits n false) whole)

pub marked_bit : (bits : List Bool) (count place : ℕ) → place < 8 * count → is_marked (bytes_from 0 count bits) (place + 1) ≡ get_or bits place false
unfolding is_marked bytes_from
marked_bit bits count place less =
    let same : place + 1 - 1 ≡ place = omega arith in
    let there : get_or (map (byte_at bits) (range_with_len 0 count)) (place / 8) 0 ≡ byte_at bits (place / 8) =
    get_or-map-range_with_len (byte_at bits) 0 count (place / 8) (place / 8) 0 (omega arith) (omega arith) in
    rw (same, there) (byte_bit bits place)

used_bit : (bits : List Bool) (count place : ℕ) → HasFixed bits → place < length bits → place < 8 * count → is_used (bytes_from 0 count bits) (place + 1) ≡ get_or bits place false
unfolding is_used
used_bit bits count place fixed within less =
    let is = marked_bit bits count place less in
    let back : place + 1 - 1 ≡ place = omega arith in
    ⊎_elim
    (λ (high : 5 < place + 1). let not_five : nat_le (place + 1) 5 ≡ false = lt-leb (place + 1) 5 high in rw (not_five, is) refl)
    (λ (low : place + 1 ≤ 5).
    let five : nat_le (place + 1) 5 ≡ true = le-leb (place + 1) 5 low in
    let set' : get_or bits (place + 1 - 1) false ≡ true = fixed (place + 1) (omega arith) low (omega arith) in
    rw (five, sym (rw back at set')) refl)
    (cases_lt 5 (place + 1))

pub reads_back : ReadsBack
unfolding bits_in
reads_back bits count room fixed =
    let used = is_used (bytes_from 0 count bits) in
    same_lists (map used (range_with_len 1 (length bits))) bits (length-map-range_with_len used 1 (length bits))
    (λ k d less.
    let within : k < length bits = subst (λ (n : ℕ). k < n) (length-map-range_with_len used 1 (length bits)) less in
    get_or-map-range_with_len used 1 (length bits) k (k + 1) d within (omega arith) ∙ used_bit bits count k fixed within (omega arith) ∙ get_or_default bits k false d within)
