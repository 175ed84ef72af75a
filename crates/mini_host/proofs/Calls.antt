-- What is said of a call that is done, and of one that isn't.
use Rattle.std.proofs.Common.{◌≡◌, ◌∙◌, ℕ, ◌≤◌, Bool, true, false, not, refl, sym, arith}
use Rattle.std.proofs.lemmas.Bool.{true≢false}

-- a call that is done isn't planned to fail
pub unplanned : (goes planned : Bool) → goes ≡ not planned → goes ≡ true → planned ≡ false
unplanned goes true is done = absurd (true≢false (sym done ∙ is))
unplanned goes false is done = refl

-- a count that stays hasn't fallen
pub same_count : (n : ℕ) → n ≤ n
same_count n = omega arith
