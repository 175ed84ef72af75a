-- What an extension is told, what it wants, and what a call of it says.
use Rattle.std.specs.Prelude.{◌≡◌, ℤ, pos, negsuc, ◌<◌, ◌≤◌, nat_le, nat_lt, Bool, true, length, Result, IfOk, OnErr, ⊤}
use Rattle.std.specs.declared.alloc.AllocError.{AllocError}
use Rattle.cms_model.specs.Objects.{Content, Reply, Test, Want}
use Rattle.cms_model.specs.Objects as machine
use Rattle.cms_ext.specs.declared.extension.ExtReply.{ExtReply}
use Rattle.cms_ext.specs.declared.extension.ExtReply.TheVariants as told
use Rattle.cms_ext.specs.declared.extension.ExtWant.{ExtWant}
use Rattle.cms_ext.specs.declared.extension.ExtWant.TheVariants as wants

-- what it is told, as the machine's
abbrev pub reply_of : ExtReply → Reply
reply_of (told.Start line) = machine.Start line
reply_of (told.Sub text) = machine.Sub text
reply_of told.Went = machine.Went
reply_of (told.Got line) = machine.Got line
reply_of (told.File records) = machine.Records records
reply_of (told.Refused code) = machine.Refused code

-- what it wants, as the machine's
abbrev pub want_of : ExtWant → Want
want_of (wants.Say lines) = machine.Say lines
want_of wants.Ask = machine.Ask
want_of (wants.Get name letter) = machine.Get name letter
want_of (wants.Put name letter records) = machine.Put name letter records
want_of (wants.Done code) = machine.Ended code

-- a return code: -9999 to 99999
abbrev pub is_code : ℤ → Bool
is_code (pos n) = nat_le n 99999
is_code (negsuc n) = nat_lt n 9999

-- a want that may be met: one of the 26 letters, a file of some records, a return code
abbrev pub MayBe : ExtWant → Type 0
MayBe (wants.Say lines) = ⊤
MayBe wants.Ask = ⊤
MayBe (wants.Get name letter) = letter < 26
MayBe (wants.Put name letter records) = (letter < 26) × (1 ≤ length records)
MayBe (wants.Done code) = is_code code ≡ true

-- it wants what it may by its test, and what may be met; without memory it holds what it held
pub record Answers (does : Test) (before : Content) (reply : ExtReply) (after : Content)
    (result : Result ExtWant AllocError) : Type 0 where
  pub wants : IfOk result (λ want. does before (reply_of reply) (want_of want) after ≡ true)
  pub may : IfOk result MayBe
  pub kept : OnErr result (after ≡ before)
