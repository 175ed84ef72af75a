use Rattle.std.proofs.Common.{◌≡◌, ◌≤◌, ◌<◌, ℕ, length, take, get_or, false}
use Rattle.exec2_parse.specs.Expansion.{is_ampersand, ampersands}
use Rattle.exec2_parse.proofs.expansion.split_at_last_ampersand.Given as goal

abbrev pub invariant-loop-left : goal.invariant-loop-left
invariant-loop-left l =
    (length l.left ≤ length l.word) × (l.left ≡ take (length l.left) l.word) × (ampersands l.left ≡ ampersands l.word)
    × ((k : ℕ) → length l.left ≤ k → k < length l.word → is_ampersand (get_or l.word k 0) ≡ false)

abbrev pub decreases-loop-left : goal.decreases-loop-left
decreases-loop-left l = length l.left
