-- Tests in order that went well, step by step.
use Rattle.std.proofs.Common.{◌≡◌, Result, Ok, Err, refl}
use Rattle.cms_fields.specs.Steps.{◌>>=◌}
pub use Rattle.cms_fields.proofs.ReadEntry.{ok_same, want_ok}

-- a value, and what follows it: goes on with the value as a variable
pub bind_then : {A B E C : Type 0} (r : Result A E) (f : A → Result B E) (y : B) → (r >>= f) ≡ Ok y → ((x : A) → r ≡ Ok x → f x ≡ Ok y → C) → C
bind_then (Ok x) f y e go = go x refl e
bind_then (Err d) f y e go = absurd (cc)

-- a step that goes well goes well again, where its parts do
pub bind_keep : {A B E : Type 0} (r s : Result A E) (f g : A → Result B E) (y : B) → (r >>= f) ≡ Ok y → ((x : A) → r ≡ Ok x → f x ≡ Ok y → (s ≡ Ok x) × (g x ≡ Ok y)) → (s >>= g) ≡ Ok y
bind_keep (Ok x) s f g y e again = let both = again x refl e in rw (both.0, both.1) refl
bind_keep (Err d) s f g y e again = absurd (cc)
