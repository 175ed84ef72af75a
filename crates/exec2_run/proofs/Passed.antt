-- What is answered where a part of a function failed.
use Rattle.std.proofs.Common.{◌≡◌, ◌∙◌, ◌⊎◌, inl, inr, Result, Ok, Err, sym, ap, subst}
use Rattle.std.specs.Result.{IsErrAnd, MatchResult}
use Rattle.exec2_run.specs.Faults.{Answers, Does, Leads}
use Rattle.exec2_run.specs.declared.fault.Fault.{Fault}
use Rattle.exec2_run.specs.declared.fault.Fault.TheVariants.{Memory}

-- there was no memory
pub no_memory : {A : Type 0} (defined r : Result A Fault) → IsErrAnd r (λ e. e ≡ Memory) → Answers defined r
no_memory defined (Ok x) h = absurd h
no_memory defined (Err e) h = inl h

-- the fault is the one that is defined
pub fails_so : {A : Type 0} (defined r : Result A Fault) (why : Fault) → IsErrAnd r (λ e. e ≡ why) → defined ≡ Err why → Answers defined r
fails_so defined (Ok x) why h is = absurd h
fails_so defined (Err e) why h is = inr (is ∙ ap Err (sym h))

-- the fault of a part, or want of memory there
pub part_fails : {A : Type 0} (defined r : Result A Fault) (why : Fault) (P : Type 0) → IsErrAnd r (λ e. e ≡ why) → (why ≡ Memory) ⊎ P → (P → defined ≡ Err why) → Answers defined r
part_fails defined (Ok x) why P h said led = absurd h
part_fails defined (Err e) why P h (inl want) led = inl (h ∙ want)
part_fails defined (Err e) why P h (inr is) led = inr (led is ∙ ap Err (sym h))

-- ---- and an object stays as it was

pub leads_no_memory : {S A : Type 0} (defined : Result S Fault) (old new : S) (r : Result A Fault) → new ≡ old → IsErrAnd r (λ e. e ≡ Memory) → Leads defined old new r
leads_no_memory defined old new (Ok x) same h = absurd h
leads_no_memory defined old new (Err e) same h = (same, inl h)

pub does_no_memory : {S A : Type 0} (defined : Result (S × A) Fault) (old new : S) (r : Result A Fault) → new ≡ old → IsErrAnd r (λ e. e ≡ Memory) → Does defined old new r
does_no_memory defined old new (Ok x) same h = absurd h
does_no_memory defined old new (Err e) same h = (same, inl h)

pub leads_part_fail : {S A : Type 0} (defined : Result S Fault) (old new : S) (r : Result A Fault) (why : Fault) (P : Type 0) → new ≡ old → IsErrAnd r (λ e. e ≡ why)
    → (why ≡ Memory) ⊎ P → (P → defined ≡ Err why) → Leads defined old new r
leads_part_fail defined old new (Ok x) why P same h said led = absurd h
leads_part_fail defined old new (Err e) why P same h (inl want) led = (same, inl (h ∙ want))
leads_part_fail defined old new (Err e) why P same h (inr is) led = (same, inr (led is ∙ ap Err (sym h)))

-- ---- and what is said of a value is something else

pub match_fails : {A B : Type 0} (defined : Result B Fault) (r : Result A Fault) (P : A → Type 0) (why : Fault) (Part : Type 0) → IsErrAnd r (λ e. e ≡ why) → (why ≡ Memory) ⊎ Part
    → (Part → defined ≡ Err why) → MatchResult r P (λ fault. (fault ≡ Memory) ⊎ (defined ≡ Err fault))
match_fails defined (Ok x) P why Part h said led = absurd h
match_fails defined (Err e) P why Part h (inl want) led = inl (h ∙ want)
match_fails defined (Err e) P why Part h (inr is) led = inr (led is ∙ ap Err (sym h))

pub match_fails_so : {A B : Type 0} (defined : Result B Fault) (r : Result A Fault) (P : A → Type 0) (why : Fault) → IsErrAnd r (λ e. e ≡ why) → defined ≡ Err why
    → MatchResult r P (λ fault. defined ≡ Err fault)
match_fails_so defined (Ok x) P why h is = absurd h
match_fails_so defined (Err e) P why h is = is ∙ ap Err (sym h)

-- the answer is what is defined, which has this fault
pub equals_so : {A : Type 0} (defined r : Result A Fault) (why : Fault) → IsErrAnd r (λ e. e ≡ why) → defined ≡ Err why → r ≡ defined
equals_so defined (Ok x) why h is = absurd h
equals_so defined (Err e) why h is = ap Err h ∙ sym is

pub does_fails_so : {S A : Type 0} (defined : Result (S × A) Fault) (old new : S) (r : Result A Fault) (why : Fault) → new ≡ old → IsErrAnd r (λ e. e ≡ why) → defined ≡ Err why → Does defined old new r
does_fails_so defined old new (Ok x) why same h is = absurd h
does_fails_so defined old new (Err e) why same h is = (same, inr (is ∙ ap Err (sym h)))

pub does_part_fail : {S A : Type 0} (defined : Result (S × A) Fault) (old new : S) (r : Result A Fault) (why : Fault) (P : Type 0) → new ≡ old → IsErrAnd r (λ e. e ≡ why)
    → (why ≡ Memory) ⊎ P → (P → defined ≡ Err why) → Does defined old new r
does_part_fail defined old new (Ok x) why P same h said led = absurd h
does_part_fail defined old new (Err e) why P same h (inl want) led = (same, inl (h ∙ want))
does_part_fail defined old new (Err e) why P same h (inr is) led = (same, inr (led is ∙ ap Err (sym h)))

-- what the last part says of its answer is said of all
pub match_as : {A B : Type 0} (d e : Result B Fault) (r : Result A Fault) (f : A → B) → d ≡ e → MatchResult r (λ a. e ≡ Ok (f a)) (λ fault. e ≡ Err fault)
    → MatchResult r (λ a. d ≡ Ok (f a)) (λ fault. (fault ≡ Memory) ⊎ (d ≡ Err fault))
match_as d e (Ok a) f same h = same ∙ h
match_as d e (Err fault) f same h = inr (same ∙ h)

-- the last part answers for all
pub answers_as : {A : Type 0} (d e r : Result A Fault) → d ≡ e → Answers e r → Answers d r
answers_as {A} d e r same h = subst (λ (x : Result A Fault). Answers x r) (sym same) h
