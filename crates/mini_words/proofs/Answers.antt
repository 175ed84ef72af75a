-- Readings one behind another.
use Rattle.std.proofs.Common.{◌≡◌, ◌∙◌, ◌⊎◌, ap, sym, inl, inr}
use Rattle.std.specs.Prelude.{Result, Ok, Err}
use Rattle.std.specs.Result.{IsErrAnd}
use Rattle.mini_words.specs.Readings.{IsAnswer}
use Rattle.mini_words.specs.declared.fault.WordFault.{WordFault}
use Rattle.mini_words.specs.declared.fault.WordFault.TheVariants.{Memory}

-- a value that was given is the one that was said
pub said_so : {A : Type 0} (value : A) (said : Result A WordFault) → IsAnswer (Ok value) said → said ≡ Ok value
said_so value said (inl is) = sym is
said_so value said (inr is) = absurd (cc)

-- a reading that answers exactly was refused, so all is
pub exact_stops : {B : Type 0} (r : Result B WordFault) (e : WordFault) (whole : Result B WordFault) → IsErrAnd r (λ y. y ≡ e) → whole ≡ Err e → IsAnswer r whole
exact_stops (Ok x) e whole h is = absurd h
exact_stops (Err y) e whole h is = inl (ap (λ (g : WordFault). Err g) h ∙ sym is)

-- one that may find no memory was refused, so all is
pub answer_stops : {A B : Type 0} (r : Result B WordFault) (e : WordFault) (said : Result A WordFault) (whole : Result B WordFault)
    → IsErrAnd r (λ y. y ≡ e) → IsAnswer (Err e) said → (said ≡ Err e → whole ≡ Err e) → IsAnswer r whole
answer_stops (Ok x) e said whole h is step = absurd h
answer_stops (Err y) e said whole h (inl is) step = exact_stops (Err y) e whole h (step (sym is))
answer_stops (Err y) e said whole h (inr is) step = inr (cc)

-- a reading that was refused, where more is known of the words
pub refused_so : {A : Type 0} (fault : WordFault) (said whole : Result A WordFault) (More : Type 0) → More → whole ≡ said → IsAnswer (Err fault) said
    → (fault ≡ Memory) ⊎ (More × (whole ≡ Err fault))
refused_so fault said whole More more same (inl is) = inr (more, same ∙ sym is)
refused_so fault said whole More more same (inr is) = inl (cc)
