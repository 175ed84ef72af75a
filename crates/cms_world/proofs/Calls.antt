-- What the calls of a world in memory say where they go well.
use Rattle.std.proofs.Common.{◌≡◌, ℕ, true, Some, None, Result, Ok, Err, is_ok, OnOk, sym, subst, arith}
use Rattle.std.specs.Prelude.{⊤}
use Rattle.std.proofs.lemmas.Bool.{true≢false}
use Rattle.cms_journal.specs.Causes.{HasCause}
use Rattle.cms_journal.specs.declared.event.Failed.{Failed}

some_is : {A : Type 0} (a x : A) → Some a ≡ Some x → a ≡ x
some_is a x is = cc

-- what holds of a journal holds where it is told
pub for_some : {A : Type 0} (a : A) (P : A → Type 0) → P a → (x : A) → Some a ≡ Some x → P x
for_some a P p x is = subst P (some_is a x is) p

pub none_some : {A : Type 0} {a : A} → Some a ≡ None → ⊥
none_some is = cc

-- a call that went well has no cause
pub cause_none : {T : Type 0} (n : ℕ) {x : T} → HasCause {T = T} {E = Failed} n n (Ok x)
cause_none n = record { later = omega arith; failed = tt }

-- what is said of a part that went well
pub ok_holds : {E P : Type 0} (r : Result ⊤ E) → is_ok r ≡ true → OnOk r P → P
ok_holds (Ok x) ok p = p
ok_holds (Err e) ok p = absurd (true≢false (sym ok))
