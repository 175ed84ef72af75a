-- A keyword, letter by letter.
use Rattle.std.proofs.Common.{◌≡◌, ◌∙◌, ◌∷◌, [], ◌-◌, ◌<◌, ◌≤◌, ℕ, suc, List, length, take, drop, get_or, refl, sym, ap, arith, true, false}
use Rattle.std.specs.Prelude.{Some, None, ◌==◌}
use Rattle.std.proofs.Math.ListN.{drop_of_length-le}
use Rattle.std.proofs.lemmas.List.{take_all}
use Rattle.std.proofs.lemmas.Bool.Decides.{nat_tests}
use Rattle.cms_ebcdic.specs.CodePage.{code_of, upper_of}
use Rattle.cms_text.specs.Texts.{Text, ebcdic, is_keyword}

-- a character without a code doesn't count
pub uncoded : (letter : ℕ) (more : List ℕ) (word : Text) → code_of letter ≡ None → is_keyword (letter ∷ more) word ≡ is_keyword more word
unfolding is_keyword ebcdic
uncoded letter more word none = rw none refl

behind_first : (word : Text) → 1 ≤ length word → get_or word 0 0 ∷ take (length word - 1) (drop 1 word) ≡ word
behind_first [] some = absurd (omega arith)
behind_first (byte ∷ rest) some = let e : suc (length rest) - 1 ≡ length rest = omega arith in rw e (ap (λ r. byte ∷ r) (take_all (length rest) rest (omega arith)))

same_first : (letter code byte : ℕ) (more : List ℕ) (rest : Text) → code_of letter ≡ Some code → (upper_of byte == code) ≡ true → is_keyword (letter ∷ more) (byte ∷ rest) ≡ is_keyword more rest
unfolding is_keyword ebcdic
same_first letter code byte more rest is same = rw (is, same) refl

other_first : (letter code byte : ℕ) (more : List ℕ) (rest : Text) → code_of letter ≡ Some code → (upper_of byte == code) ≡ false → is_keyword (letter ∷ more) (byte ∷ rest) ≡ false
unfolding is_keyword ebcdic
other_first letter code byte more rest is other = rw (is, other) refl

pub no_first : (letter code : ℕ) (more : List ℕ) → code_of letter ≡ Some code → is_keyword (letter ∷ more) [] ≡ false
unfolding is_keyword ebcdic
no_first letter code more is = rw is refl

pub same_letter : (letter code : ℕ) (more : List ℕ) (word : Text) → code_of letter ≡ Some code → 1 ≤ length word → (upper_of (get_or word 0 0) == code) ≡ true
    → is_keyword (letter ∷ more) word ≡ is_keyword more (take (length word - 1) (drop 1 word))
same_letter letter code more word is some same = ap (is_keyword (letter ∷ more)) (sym (behind_first word some))
    ∙ same_first letter code (get_or word 0 0) more (take (length word - 1) (drop 1 word)) is same

pub other_letter : (letter code : ℕ) (more : List ℕ) (word : Text) → code_of letter ≡ Some code → 1 ≤ length word → (upper_of (get_or word 0 0) == code) ≡ false
    → is_keyword (letter ∷ more) word ≡ false
other_letter letter code more word is some other = ap (is_keyword (letter ∷ more)) (sym (behind_first word some))
    ∙ other_first letter code (get_or word 0 0) more (take (length word - 1) (drop 1 word)) is other

pub past_end : (letter code : ℕ) (more : List ℕ) (word : Text) → code_of letter ≡ Some code → length word < 1 → is_keyword (letter ∷ more) word ≡ false
past_end letter code more [] is none = no_first letter code more is
past_end letter code more (byte ∷ rest) is none = absurd (omega arith)

nothing_left : (word : Text) → (length word == 0) ≡ is_keyword [] word
unfolding is_keyword ebcdic
nothing_left [] = refl
nothing_left (byte ∷ rest) = let e : (suc (length rest) == 0) ≡ false = grind (arith, nat_tests) in e

-- behind the last letter
pub ends_here : (name : List ℕ) (n : ℕ) (word : Text) → length name ≤ n → (length word == 0) ≡ is_keyword (drop n name) word
ends_here name n word past = rw (drop_of_length-le name past) (nothing_left word)
