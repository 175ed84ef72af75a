-- What a line's parts say, where all of it is read.
use Rattle.std.proofs.Common.{◌≡◌, Result, Ok, Err, refl}
use Rattle.cms_fields.specs.Steps.{◌>>=◌, ◌>>◌}

pub bind_ok : {A B E : Type 0} (r : Result A E) (f : A → Result B E) (y : B) → (r >>= f) ≡ Ok y → (x : A) × (r ≡ Ok x) × (f x ≡ Ok y)
bind_ok (Ok x) f y is = (x, refl, is)
bind_ok (Err e) f y is = absurd (cc is)

pub then_ok : {A B E : Type 0} (r : Result A E) (s : Result B E) (y : B) → (r >> s) ≡ Ok y → s ≡ Ok y
then_ok (Ok x) s y is = is
then_ok (Err e) s y is = absurd (cc is)
