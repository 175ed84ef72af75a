-- The letter of a file.
use Rattle.std.proofs.Common.{◌≡◌, ◌<◌, ℕ, List}
use Rattle.std.specs.Prelude.{Ok}
use Rattle.cms_operands.specs.Operands.{letter}
use Rattle.cms_search.proofs.Letters.{letter_read}

pub letter_below : (place : ℕ) (text : List ℕ) (n : ℕ) → letter place text ≡ Ok n → n < 26
letter_below place text n is = letter_read place text n is
