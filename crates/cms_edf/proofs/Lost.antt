-- Blocks that are met twice, not marked or lost.
use Rattle.std.proofs.Common.{◌≡◌, ℕ, zero, suc, ◌-◌, false, List, [], replicate, Some, None, Ok, Err, refl, sym}
use Rattle.cms_model.specs.Lists.{first_repeat}
use Rattle.cms_model.specs.Maps.{lowest_unmarked, lost_count}
use Rattle.cms_model.specs.declared.fault.OpenFault.TheVariants as failed
use Rattle.cms_edf.specs.OpeningSteps.{AreClear, lost_in}

pub clear : (n : ℕ) → AreClear (replicate n false)
clear zero i = refl
clear (suc n) zero = refl
clear (suc n) (suc i) = clear n i

pub crossed : (bytes : List ℕ) (total : ℕ) (blocks : List ℕ) (n : ℕ) → Some n ≡ first_repeat [] blocks → lost_in bytes total blocks ≡ Err (failed.Crossed n)
unfolding lost_in
crossed bytes total blocks n is = rw (sym is) refl

pub missing : (bytes : List ℕ) (total : ℕ) (blocks : List ℕ) (n : ℕ) → None ≡ first_repeat [] blocks → Some n ≡ lowest_unmarked bytes blocks 6 (total - 5)
    → lost_in bytes total blocks ≡ Err (failed.MapMissing n)
unfolding lost_in
missing bytes total blocks n once is = rw (sym once, sym is) refl

pub counted : (bytes : List ℕ) (total : ℕ) (blocks : List ℕ) (n : ℕ) → None ≡ first_repeat [] blocks → None ≡ lowest_unmarked bytes blocks 6 (total - 5) → n ≡ lost_count bytes blocks 6 (total - 5)
    → lost_in bytes total blocks ≡ Ok n
unfolding lost_in
counted bytes total blocks n once marked is = rw (sym once, sym marked, is) refl
