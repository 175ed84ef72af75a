-- What a function answers where one of its parts failed.
use Rattle.std.proofs.Common.{◌≡◌, ◌∙◌, ◌⊎◌, inl, inr, ap, sym}
use Rattle.std.specs.Prelude.{Result, Ok, Err}
use Rattle.std.specs.Result.{IfErr, IsErrAnd}
use Rattle.exec2_funcs.specs.Calls.{Answers}
use Rattle.exec2_funcs.specs.declared.fault.FuncFault.{FuncFault}
use Rattle.exec2_funcs.specs.declared.fault.FuncFault.TheVariants.{Memory, TooLong}

-- there was no memory
pub no_memory : {A : Type 0} (defined r : Result A FuncFault) → IsErrAnd r (λ e. e ≡ Memory) → Answers defined r
no_memory defined (Ok x) h = absurd h
no_memory defined (Err e) h = inl h

-- the fault is the one that is defined
pub fails_so : {A : Type 0} (defined r : Result A FuncFault) (why : FuncFault) → IsErrAnd r (λ e. e ≡ why) → defined ≡ Err why → Answers defined r
fails_so defined (Ok x) why h is = absurd h
fails_so defined (Err e) why h is = inr (is ∙ ap Err (sym h))

-- the same of what is said of a fault alone
pub memory_at_err : {A : Type 0} (r : Result A FuncFault) (P : Type 0) → IsErrAnd r (λ e. e ≡ Memory) → IfErr r (λ fault. (fault ≡ Memory) ⊎ ((fault ≡ TooLong) × P))
memory_at_err (Ok x) P h = tt
memory_at_err (Err e) P h = inl h

-- a fault that a part of a text has, the whole text has
pub fault_at_err : {A : Type 0} (r : Result A FuncFault) (f : FuncFault) (P Q : Type 0) → IsErrAnd r (λ e. e ≡ f) → (f ≡ Memory) ⊎ ((f ≡ TooLong) × P) → (P → Q)
    → IfErr r (λ fault. (fault ≡ Memory) ⊎ ((fault ≡ TooLong) × Q))
fault_at_err (Ok x) f P Q h said led = tt
fault_at_err (Err e) f P Q h (inl want) led = inl (h ∙ want)
fault_at_err (Err e) f P Q h (inr long) led = inr (h ∙ long.0, led long.1)

pub fault_led : {A : Type 0} (r : Result A FuncFault) (P Q : Type 0) → (P → Q) → IfErr r (λ fault. (fault ≡ Memory) ⊎ ((fault ≡ TooLong) × P))
    → IfErr r (λ fault. (fault ≡ Memory) ⊎ ((fault ≡ TooLong) × Q))
fault_led (Ok x) P Q led h = tt
fault_led (Err e) P Q led (inl want) = inl want
fault_led (Err e) P Q led (inr long) = inr (long.0, led long.1)
