-- What is said of a result where a `?` leaves.
use Rattle.std.proofs.Common.{◌≡◌, ◌<◌, ◌≤◌, ◌+◌, ◌-◌, ℕ, Bool, true, false, not, if◌then◌else◌, Result, Ok, Err, sym, subst, arith}
use Rattle.std.proofs.lemmas.Bool.{false≢true, true≢false}
use Rattle.std.specs.Prelude.{Option, None, Some, IfSome, OnOk, OnErr}
use Rattle.std.specs.Result.{IfOk, IsErrAnd, MatchResult}

-- there is no value
pub ok_at_err : {T E : Type 0} (Q : E → Type 0) (r : Result T E) (P : T → Type 0) → IsErrAnd r Q → IfOk r P
ok_at_err Q (Ok x) P h = absurd h
ok_at_err Q (Err e) P h = tt

-- and so nothing is said of one
pub on_ok_at_err : {T E : Type 0} (Q : E → Type 0) (r : Result T E) (P : Type 0) → IsErrAnd r Q → OnOk r P
on_ok_at_err Q (Ok x) P h = absurd h
on_ok_at_err Q (Err e) P h = tt

-- what holds in any case
pub on_err : {T E : Type 0} (r : Result T E) (P : Type 0) → P → OnErr r P
on_err (Ok x) P p = tt
on_err (Err e) P p = p

-- what a call ensures of its value, where the value went on
pub went_ok : {T E D : Type 0} (r : Result T E) (q : Result T D) (x : T) (P : T → Type 0) → q ≡ Ok x → MatchResult r (λ y. q ≡ Ok y) (λ e. ⊥) → IfOk r P → P x
went_ok (Ok y) q x P is same holds = let e : x ≡ y = cc in subst P (sym e) holds
went_ok (Err e) q x P is same holds = absurd same

pub went_on : {T E D : Type 0} (r : Result T E) (q : Result T D) (x : T) (P : Type 0) → q ≡ Ok x → MatchResult r (λ y. q ≡ Ok y) (λ e. ⊥) → OnOk r P → P
went_on (Ok y) q x P is same holds = holds
went_on (Err e) q x P is same holds = absurd same

-- what stays where a call failed
pub same_failed : {A : Type 0} (ok err : Bool) (x y z : A) → ok ≡ not err → err ≡ true → x ≡ (if ok then y else z) → x ≡ z
same_failed true true x y z is failed same = absurd (true≢false is)
same_failed false true x y z is failed same = same
same_failed ok false x y z is failed same = absurd (false≢true failed)

-- and where it went
pub same_went : {A : Type 0} (ok err : Bool) (x y z : A) → ok ≡ not err → err ≡ false → x ≡ (if ok then y else z) → x ≡ y
same_went true false x y z is went same = same
same_went false false x y z is went same = absurd (false≢true is)
same_went ok true x y z is went same = absurd (true≢false went)

pub most_of : (n m : ℕ) → m ≡ n → n ≤ m
most_of n m is = omega arith

pub none_most : (n : ℕ) → 0 ≤ n
none_most n = omega arith

pub same_most : (n : ℕ) → n ≤ n
same_most n = omega arith

-- what holds of each value
pub some_always : {A : Type 0} {P : A → Type 0} (o : Option A) → ((x : A) → P x) → IfSome o P
some_always None all = tt
some_always (Some x) all = all x

pub counts_down : (n i : ℕ) → i < n → n - (i + 1) < n - i
counts_down n i inside = omega arith
