-- What a console holds.
use Rattle.std.specs.Prelude.{ℕ, Bool, true, false, List, [], Option, Some, None, Vec}
use Rattle.std.specs.declared.alloc.Global.{Global}
use Rattle.cms_model.specs.Items.{Unread}

-- what was read and not taken, and whether the script's end was found
pub record Console : Type 0 where
  pub unread : Unread
  pub ended : Bool

-- a console with so many bytes of a piece taken, these bytes unread, and whether the script has
-- ended
abbrev pub state : ℕ → List ℕ → Bool → Console
state within bytes ended = record { unread = record { within = within; bytes = bytes }; ended = ended }

-- nothing was read yet; or all of a given script was
abbrev pub fresh : Option (Vec ℕ Global) → Console
fresh None = state 0 [] false
fresh (Some script) = state 0 script.items true
