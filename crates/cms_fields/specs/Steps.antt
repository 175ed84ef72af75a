-- Tests in order: the first that fails is the answer.
use Rattle.std.specs.Prelude.{Bool, true, false, Result, Ok, Err}

infixl 10 ◌>>=◌
infixl 10 ◌>>◌
-- goes on with the value
abbrev pub ◌>>=◌ : {A B E : Type 0} → Result A E → (A → Result B E) → Result B E
(Ok x) >>= f = f x
(Err e) >>= f = Err e

-- goes on
abbrev pub ◌>>◌ : {A B E : Type 0} → Result A E → Result B E → Result B E
(Ok x) >> r = r
(Err e) >> r = Err e

-- goes on where the test holds
abbrev pub want : {E : Type 0} → Bool → E → Result (Unit {0}) E
want true e = Ok tt
want false e = Err e
