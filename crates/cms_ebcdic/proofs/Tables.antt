-- The program's tables against the code page, code by code.
use Rattle.std.proofs.Common.{◌≡◌, ℕ, suc, zero, ◌+◌, ◌-◌, ◌<◌, ◌≤◌, Bool, true, false, ◌&&◌, ◌==◌, List, length, get_or, Option, Some, None, refl, ap, sym, ◌∙◌, arith, nat_le, if◌then◌else◌, ⊎_elim, subst, is_some, IsSome, slice_get}
use Rattle.std.proofs.lemmas.Bool.Decides.{nat_tests}
use Rattle.std.proofs.lemmas.Bool.{and_parts, cases_lt, eqb-true, leb-true}
use Rattle.std.proofs.lemmas.Option.{slice_get_past, slice_get_read}
use Rattle.std.specs.Borrow.{Bor}
use Rattle.std.specs.Slice.{IsItemAt}
use Rattle.std.specs.Option.{option_copied}
use Rattle.cms_ebcdic.specs.CodePage.{host_of, code_of, upper_of, lower_of, is_small, is_capital, character_of, code_page}
use Rattle.cms_ebcdic.specs.declared.TheConstants.{TO_HOST, FROM_HOST}

-- a test of n numbers, from k on
all_from : ℕ → ℕ → (ℕ → Bool) → Bool
all_from k zero p = true
all_from k (suc n) p = p k && all_from (k + 1) n p

all_at : (k n : ℕ) (p : ℕ → Bool) → all_from k n p ≡ true → (x : ℕ) → k ≤ x → x < k + n → p x ≡ true
unfolding all_from
all_at k zero p e x low high = absurd (omega arith)
all_at k (suc n) p e x low high =
    let both = and_parts (p k) (all_from (k + 1) n p) e in
    ⊎_elim
    (λ (lt : k < x). all_at (k + 1) n p both.1 x (omega arith) (omega arith))
    (λ (le : x ≤ k). let same : k ≡ x = omega arith in subst (λ (y : ℕ). p y ≡ true) same both.0)
    (cases_lt k x)

-- two functions of a byte are the same where a test of all 256 says so
same : (f g : ℕ → ℕ) → all_from 0 256 (λ x. f x == g x) ≡ true → (x : ℕ) → x < 256 → f x ≡ g x
same f g e x fits = eqb-true (f x) (g x) (all_at 0 256 (λ y. f y == g y) e x (omega arith) (omega arith))

pub typed_by_table : (x : ℕ) → x < 256 → get_or TO_HOST x 0 ≡ host_of x
unfolding all_from host_of character_of code_page
typed_by_table x fits = same (λ y. get_or TO_HOST y 0) host_of refl x fits

pub typed_at : (place x : ℕ) → place ≡ x → x < 256 → get_or TO_HOST place 0 ≡ host_of x
typed_at place x same fits = rw same (typed_by_table x fits)

-- the item that a look-up by a place lends
pub lent_at : (xs : List ℕ) (i : ℕ) (r : Option (Bor ℕ)) → IsItemAt xs i r → option_copied r ≡ slice_get xs i
lent_at xs i None h = sym (slice_get_past xs i h.3)
lent_at xs i (Some x) h = sym (slice_get_read xs (length xs) i x.now refl h.3.0 h.1)

pub code_below : (x : ℕ) → (32 ≤ x → ⊥) → code_of x ≡ None
unfolding code_of
code_below x low = let no_place : nat_le 32 x ≡ false = grind (arith, nat_tests, low) in rw no_place refl

pub code_from : (place x : ℕ) → 32 ≤ x → place ≡ x - 32 → slice_get FROM_HOST place ≡ code_of x
unfolding code_of code_page
code_from place x low same = let placed : nat_le 32 x ≡ true = grind (arith, nat_tests) in rw (same, placed) refl

pub raised : ℕ → ℕ
raised x = if is_small x then x + 64 else x

pub lowered : ℕ → ℕ
lowered x = if is_capital x then x - 64 else x

pub raised_is_upper : (x : ℕ) → x < 256 → raised x ≡ upper_of x
unfolding all_from raised upper_of code_of character_of code_page
raised_is_upper x fits = same raised upper_of refl x fits

pub lowered_is_lower : (x : ℕ) → x < 256 → lowered x ≡ lower_of x
unfolding all_from lowered lower_of code_of character_of code_page
lowered_is_lower x fits = same lowered lower_of refl x fits

pub upper_by_runs : (x : ℕ) → x < 256 → upper_of x ≡ (if is_small x then x + 64 else x)
unfolding raised
upper_by_runs x fits = sym (raised_is_upper x fits)

pub lower_by_runs : (x : ℕ) → x < 256 → lower_of x ≡ (if is_capital x then x - 64 else x)
unfolding lowered
lower_by_runs x fits = sym (lowered_is_lower x fits)

-- a value of an option, where it has one, passes
holds_if : (ℕ → Bool) → Option ℕ → Bool
holds_if p None = true
holds_if p (Some x) = p x

-- an option has this value
has_value : Option ℕ → ℕ → Bool
has_value None x = false
has_value (Some y) x = y == x

value_held : (o : Option ℕ) (x : ℕ) → has_value o x ≡ true → o ≡ Some x
unfolding has_value
value_held None x e = cc
value_held (Some y) x e = ap Some (eqb-true y x e)

held_at : (p : ℕ → Bool) (o : Option ℕ) (x : ℕ) → holds_if p o ≡ true → o ≡ Some x → p x ≡ true
unfolding holds_if
held_at p None x h e = cc
held_at p (Some y) x h e = let s : y ≡ x = cc in subst (λ (z : ℕ). p z ≡ true) s h

comes_back : (f g : ℕ → Option ℕ) → all_from 0 256 (λ x. holds_if (λ y. has_value (g y) x) (f x)) ≡ true → (x y : ℕ) → x < 256 → f x ≡ Some y → g y ≡ Some x
comes_back f g e x y fits is = value_held (g y) x (held_at (λ z. has_value (g z) x) (f x) y (all_at 0 256 (λ z. holds_if (λ w. has_value (g w) z) (f z)) e x (omega arith) (omega arith)) is)

pub code_comes_back : (character code : ℕ) → character < 256 → code_of character ≡ Some code → character_of code ≡ Some character
unfolding all_from holds_if has_value character_of code_of code_page
code_comes_back character code fits is = comes_back code_of character_of refl character code fits is

pub character_comes_back : (character code : ℕ) → code < 256 → character_of code ≡ Some character → code_of character ≡ Some code
unfolding all_from holds_if has_value character_of code_of code_page
character_comes_back character code fits is = comes_back character_of code_of refl code character fits is

agree : Bool → Bool → Bool
agree true b = b
agree false true = false
agree false false = true

agreed : (a b : Bool) → agree a b ≡ true → a ≡ b
unfolding agree
agreed true true e = refl
agreed true false e = cc
agreed false true e = cc
agreed false false e = refl

pub is_printable : (x : ℕ) → x < 256 → is_some (code_of x) ≡ (nat_le 32 x && nat_le x 126)
unfolding all_from agree code_of code_page
is_printable x fits = agreed (is_some (code_of x)) (nat_le 32 x && nat_le x 126) (all_at 0 256 (λ y. agree (is_some (code_of y)) (nat_le 32 y && nat_le y 126)) refl x (omega arith) (omega arith))

some_is : (o : Option ℕ) → IsSome o → is_some o ≡ true
some_is None s = cc
some_is (Some x) s = refl

is_then : (o : Option ℕ) → is_some o ≡ true → IsSome o
is_then None e = cc
is_then (Some x) e = refl

pub printable_bounds : (x : ℕ) → x < 256 → IsSome (code_of x) → (32 ≤ x) × (x ≤ 126)
printable_bounds x fits s =
    let both : (nat_le 32 x && nat_le x 126) ≡ true = sym (is_printable x fits) ∙ some_is (code_of x) s in
    let parts = and_parts (nat_le 32 x) (nat_le x 126) both in
    (leb-true 32 x parts.0, leb-true x 126 parts.1)

pub bounds_printable : (x : ℕ) → x < 256 → 32 ≤ x → x ≤ 126 → IsSome (code_of x)
bounds_printable x fits low high =
    let both : (nat_le 32 x && nat_le x 126) ≡ true = grind (arith, nat_tests) in
    is_then (code_of x) (is_printable x fits ∙ both)
