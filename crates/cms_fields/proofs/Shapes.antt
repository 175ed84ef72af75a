-- The levels of a tree, tested by powers that are held at the greatest number of 64 bits.
use Rattle.std.proofs.Common.{◌≡◌, ⊎_elim, ℕ, zero, suc, ◌+◌, ◌-◌, ◌^◌, ◌<◌, ◌≤◌, true, false, min, refl, sym, ◌∙◌, ap, arith}
use Rattle.std.specs.Prelude.{nat_lt, nat_le, ◌&&◌}
use Rattle.std.proofs.lemmas.Bool.{cases_lt}
use Rattle.std.proofs.lemmas.Bool.Decides.{nat_tests}
use Rattle.cms_fields.specs.Numbers.{is_shape}

held_above : (power count : ℕ) → count < 2 ^ 32 → nat_lt (min power (2 ^ 64 - 1)) count ≡ nat_lt power count
held_above power count small = grind (arith, nat_tests, small)

held_below : (power count : ℕ) → count < 2 ^ 32 → nat_le count (min power (2 ^ 64 - 1)) ≡ nat_le count power
held_below power count small = grind (arith, nat_tests, small)

pub some_levels : (fan count levels fewer : ℕ) → count < 2 ^ 32 → levels ≡ suc fewer
    → (nat_lt (min (fan ^ fewer) (2 ^ 64 - 1)) count && nat_le count (min (fan ^ levels) (2 ^ 64 - 1))) ≡ is_shape fan count levels
some_levels fan count levels fewer small is =
    rw (is, held_above (fan ^ fewer) count small, held_below (fan ^ suc fewer) count small) refl

pub no_level : (fan count levels : ℕ) → levels ≡ 0 → nat_le count 1 ≡ is_shape fan count levels
no_level fan count levels none = rw none refl
