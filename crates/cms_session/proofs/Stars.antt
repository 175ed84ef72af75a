-- Comments of the console.
use Rattle.std.proofs.Common.{◌≡◌, ℕ, ◌≤◌, true, false, List, [], ◌∷◌, length, refl, arith}
use Rattle.std.specs.Prelude.{slice_index, ◌==◌}
use Rattle.std.specs.List.{list_all}
use Rattle.cms_session.specs.Commands.{is_comment}

pub starred : (line : List ℕ) → 1 ≤ length line → slice_index line 0 ≡ 0x5C → is_comment line ≡ true
unfolding is_comment
starred [] some star = absurd (omega (arith, some))
starred (c ∷ line) some star = rw star refl

pub not_starred : (line : List ℕ) → 1 ≤ length line → (slice_index line 0 ≡ 0x5C → ⊥) → is_comment line ≡ list_all (λ x. x == 0x40) line
unfolding is_comment
not_starred [] some other = absurd (omega (arith, some))
not_starred (c ∷ line) some other = let e : (c == 0x5C) ≡ false = grind (arith, other) in rw e refl
