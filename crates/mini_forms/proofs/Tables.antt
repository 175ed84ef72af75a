-- The program's tables against the code page, code by code.
use Rattle.std.proofs.Common.{◌≡◌, ℕ, suc, zero, ◌+◌, ◌<◌, ◌≤◌, Bool, true, false, ◌&&◌, ◌==◌, get_or, Option, Some, None, refl, arith, nat_lt, not, ⊎_elim, subst}
use Rattle.std.proofs.lemmas.Bool.{and_parts, cases_lt, eqb-true, ltb-true}
use Rattle.cms_ebcdic.specs.CodePage as printable
use Rattle.mini_forms.specs.Output.{is_plain}
use Rattle.mini_forms.specs.Page.{character_of, code_of, code_page}
use Rattle.mini_forms.specs.declared.page.TheConstants.{CHARACTERS, CODES}

-- a test of n numbers, from k on
pub all_from : ℕ → ℕ → (ℕ → Bool) → Bool
all_from k zero p = true
all_from k (suc n) p = p k && all_from (k + 1) n p

all_at : (k n : ℕ) (p : ℕ → Bool) → all_from k n p ≡ true → (x : ℕ) → k ≤ x → x < k + n → p x ≡ true
unfolding all_from
all_at k zero p e x low high = absurd (omega arith)
all_at k (suc n) p e x low high =
    let both = and_parts (p k) (all_from (k + 1) n p) e in
    ⊎_elim
    (λ (lt : k < x). all_at (k + 1) n p both.1 x (omega arith) (omega arith))
    (λ (le : x ≤ k). let same : k ≡ x = omega arith in subst (λ (y : ℕ). p y ≡ true) same both.0)
    (cases_lt k x)

-- what a test of all 256 says of one
byte_at : (p : ℕ → Bool) → all_from 0 256 p ≡ true → (x : ℕ) → x < 256 → p x ≡ true
byte_at p e x fits = all_at 0 256 p e x (omega arith) (omega arith)

-- two functions of a byte are the same where a test of all 256 says so
same : (f g : ℕ → ℕ) → all_from 0 256 (λ x. f x == g x) ≡ true → (x : ℕ) → x < 256 → f x ≡ g x
same f g e x fits = eqb-true (f x) (g x) (byte_at (λ y. f y == g y) e x fits)

pub characters_are : (x : ℕ) → x < 256 → get_or CHARACTERS x 0 ≡ character_of x
unfolding all_from character_of code_page
characters_are x fits = same (λ y. get_or CHARACTERS y 0) character_of refl x fits

pub codes_are : (x : ℕ) → x < 256 → get_or CODES x 0 ≡ code_of x
unfolding all_from code_of code_page
codes_are x fits = same (λ y. get_or CODES y 0) code_of refl x fits

pub characters_at : (place x : ℕ) → place ≡ x → x < 256 → get_or CHARACTERS place 0 ≡ character_of x
characters_at place x same fits = rw same (characters_are x fits)

pub codes_at : (place x : ℕ) → place ≡ x → x < 256 → get_or CODES place 0 ≡ code_of x
codes_at place x same fits = rw same (codes_are x fits)

pub there : (x : ℕ) → x < 256 → code_of (character_of x) ≡ x
unfolding all_from code_of character_of code_page
there x fits = same (λ y. code_of (character_of y)) (λ y. y) refl x fits

pub here : (x : ℕ) → x < 256 → character_of (code_of x) ≡ x
unfolding all_from code_of character_of code_page
here x fits = same (λ y. character_of (code_of y)) (λ y. y) refl x fits

pub character_fits : (x : ℕ) → x < 256 → character_of x < 256
unfolding all_from character_of code_page
character_fits x fits = ltb-true (character_of x) 256 (byte_at (λ y. nat_lt (character_of y) 256) refl x fits)

pub code_fits : (x : ℕ) → x < 256 → code_of x < 256
unfolding all_from code_of code_page
code_fits x fits = ltb-true (code_of x) 256 (byte_at (λ y. nat_lt (code_of y) 256) refl x fits)

-- a code, where a character has one, is that of the whole page
agrees : Option ℕ → ℕ → Bool
agrees None code = true
agrees (Some y) code = code == y

agreed : (o : Option ℕ) (code whole : ℕ) → agrees o whole ≡ true → o ≡ Some code → whole ≡ code
unfolding agrees
agreed None code whole e is = cc
agreed (Some y) code whole e is = let at : whole ≡ y = eqb-true whole y e in cc

pub printable_agrees : (character code : ℕ) → character < 256 → printable.code_of character ≡ Some code → code_of character ≡ code
unfolding all_from agrees code_of code_page printable.code_of printable.code_page
printable_agrees character code fits is =
    agreed (printable.code_of character) code (code_of character) (byte_at (λ y. agrees (printable.code_of y) (code_of y)) refl character fits) is

-- one test holds wherever another does
implies : Bool → Bool → Bool
implies true b = b
implies false b = true

implied : (a b : Bool) → implies a b ≡ true → a ≡ true → b ≡ true
unfolding implies
implied true b e sure = e
implied false b e sure = cc

off : (b : Bool) → not b ≡ true → b ≡ false
off true e = cc
off false e = refl

on : (b : Bool) → b ≡ false → not b ≡ true
on true e = cc
on false e = refl

both_on : (a b : Bool) → a ≡ true → b ≡ true → (a && b) ≡ true
both_on true b e f = f
both_on false b e f = cc

-- the character of a plain code ends no line, and the code of such a character is plain
pub plain_character : (x : ℕ) → x < 256 → is_plain x ≡ true → ((character_of x == 10) ≡ false) × ((character_of x == 13) ≡ false)
unfolding all_from implies character_of code_page
plain_character x fits plain =
    let both = and_parts (not (character_of x == 10)) (not (character_of x == 13))
    (implied (is_plain x) (not (character_of x == 10) && not (character_of x == 13))
    (byte_at (λ y. implies (is_plain y) (not (character_of y == 10) && not (character_of y == 13))) refl x fits) plain) in
    (off (character_of x == 10) both.0, off (character_of x == 13) both.1)

pub plain_code : (c : ℕ) → c < 256 → (c == 10) ≡ false → (c == 13) ≡ false → is_plain (code_of c) ≡ true
unfolding all_from implies code_of code_page
plain_code c fits no_feed no_return =
    implied (not (c == 10) && not (c == 13)) (is_plain (code_of c))
    (byte_at (λ y. implies (not (y == 10) && not (y == 13)) (is_plain (code_of y))) refl c fits)
    (both_on (not (c == 10)) (not (c == 13)) (on (c == 10) no_feed) (on (c == 13) no_return))

-- two tests say the same
agree : Bool → Bool → Bool
agree true b = b
agree false b = not b

agreed_on : (a b : Bool) → agree a b ≡ true → a ≡ b
unfolding agree
agreed_on true true e = refl
agreed_on true false e = cc
agreed_on false true e = cc
agreed_on false false e = refl

-- the blank's code is that of the blank
pub blank_character : (x : ℕ) → x < 256 → (character_of x == 0x20) ≡ (x == 0x40)
unfolding all_from agree character_of code_page
blank_character x fits = agreed_on (character_of x == 0x20) (x == 0x40) (byte_at (λ y. agree (character_of y == 0x20) (y == 0x40)) refl x fits)
