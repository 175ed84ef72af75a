-- Worlds that never fail.
use Rattle.std.specs.Prelude.{ℕ, List, Result, IsOk}
use Rattle.std.specs.String.{string_bytes}
use Rattle.cms_journal.specs.Causes.{HasCause}
use Rattle.cms_journal.specs.declared.event.Failed.{Failed}
use Rattle.cms_world.specs.declared.quiet.Image.{Image}

-- an image's name and bytes
abbrev pub named_bytes : Image → List ℕ × List ℕ
named_bytes image = (string_bytes image.name, image.bytes.items)

-- a call that answers by this count, from any world to any other, doesn't fail
abbrev pub NeverFails : {W : Type 0} → (W → ℕ) → Type 0 → Type 0
NeverFails {W} count T = (before now : W) (result : Result T Failed) → HasCause (count before) (count now) result → IsOk result
