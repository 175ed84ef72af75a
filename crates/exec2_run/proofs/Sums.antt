-- The sum of two numbers with a sign between them.
use Rattle.std.proofs.Common.{◌≡◌, ◌≤◌, ◌<◌, ◌∷◌, [], ℕ, List, length, get_or, refl, Bool, true, false, cond, arith, ℤ}
use Rattle.std.specs.Prelude.{◌==◌, codes, Option, Some, None, Ok}
use Rattle.std.proofs.lemmas.Bool.Decides.{nat_tests}
use Rattle.cms_ebcdic.specs.CodePage.{code_of, code_page}
use Rattle.cms_text.specs.Numbers.{magnitude_of, negative_of, number_of, positive_of, written}
use Rattle.cms_text.specs.Texts.{Text, ebcdic, is_keyword}
use Rattle.exec2_parse.proofs.Keywords.{other_length}
use Rattle.exec2_parse.specs.Expansion.{Binding, ampersands, expanded}
use Rattle.exec2_run.proofs.Borrows.{plain_word}
use Rattle.exec2_run.specs.Assignments.{added, applied, plain_value, right_side, sign_of}
use Rattle.exec2_run.specs.Values.{in_front, values}
use Rattle.exec2_run.specs.declared.assignment.Sign.{Sign}
use Rattle.exec2_run.specs.declared.assignment.Sign.TheVariants.{Plus, Minus}
use Rattle.exec2_run.specs.declared.values.Operands.{Operands}

-- a word with a number is kept
kept : (text : Text) (z : ℤ) (more : Operands) → number_of text ≡ Some z → in_front false (Ok text) more ≡ record { words = text ∷ more.words; is_cut = more.is_cut }
unfolding number_of
kept [] z more is = absurd (cc)
kept (byte ∷ bytes) z more is = refl

lone : (minus plus : Bool) (o : Option ℤ) (z : ℤ) → cond minus (negative_of []) (cond plus (positive_of []) o) ≡ Some z
    → cond plus (Some Plus) (cond minus (Some Minus) None) ≡ None
unfolding magnitude_of
lone true plus o z is = absurd (cc)
lone false true o z is = absurd (cc)
lone false false o z is = refl

-- and it is no sign
no_sign : (text : Text) (z : ℤ) → number_of text ≡ Some z → sign_of text ≡ None
unfolding number_of
no_sign [] z is = refl
no_sign (byte ∷ []) z is = lone (byte == 0x60) (byte == 0x4E) _ z is
no_sign (byte ∷ second ∷ bytes) z is = refl

one_sign : (plus minus : Bool) (byte : ℕ) (s : Sign) → (byte == 0x4E) ≡ plus → (byte == 0x60) ≡ minus → cond plus (Some Plus) (cond minus (Some Minus) None) ≡ Some s
    → ampersands (byte ∷ []) ≡ 0
one_sign true minus byte s p m is = let e : byte ≡ 0x4E = grind (arith, nat_tests) in rw e refl
one_sign false true byte s p m is = let e : byte ≡ 0x60 = grind (arith, nat_tests) in rw e refl
one_sign false false byte s p m is = absurd (cc)

record IsSign (word : Text) : Type 0 where
  stays : (names : Binding) → expanded names word ≡ Ok word
  full : (more : Operands) → in_front false (Ok word) more ≡ record { words = word ∷ more.words; is_cut = more.is_cut }
  apart : is_keyword (codes "OF") word ≡ false

signs : (word : Text) (s : Sign) → sign_of word ≡ Some s → IsSign word
unfolding ebcdic code_of code_page
signs [] s is = absurd (cc)
signs (byte ∷ []) s is = record {
  stays = λ names. plain_word names (byte ∷ []) (one_sign (byte == 0x4E) (byte == 0x60) byte s refl refl is);
  full = λ more. refl;
  apart = other_length (codes "OF") (byte ∷ []) refl (omega arith);
}
signs (byte ∷ second ∷ bytes) s is = absurd (cc)

two_numbers : (names : Binding) (first sign second a c : Text) (s : Sign) (x y total : ℤ) → expanded names first ≡ Ok a → sign_of sign ≡ Some s → expanded names second ≡ Ok c
    → number_of a ≡ Some x → number_of c ≡ Some y → applied s x y ≡ Ok total → right_side names (first ∷ sign ∷ second ∷ []) ≡ Ok (written total)
unfolding right_side values plain_value added
two_numbers names first sign second a c s x y total ea is ec na nc sum =
    let w = signs sign s is in
    rw (w.apart, ea, ec, w.stays names, kept c y _ nc, w.full, kept a x _ na, no_sign a x na, na, is, nc, sum) refl

three : (words : List Text) (a b c : Text) → 3 ≤ length words → length words < 4 → a ≡ get_or words 0 a → b ≡ get_or words 1 b → c ≡ get_or words 2 c → words ≡ a ∷ b ∷ c ∷ []
three [] a b c low high ea eb ec = absurd (omega arith)
three (x ∷ []) a b c low high ea eb ec = absurd (omega arith)
three (x ∷ y ∷ []) a b c low high ea eb ec = absurd (omega arith)
three (x ∷ y ∷ z ∷ []) a b c low high ea eb ec = cc
three (x ∷ y ∷ z ∷ w ∷ words) a b c low high ea eb ec = absurd (omega arith)

-- the right side whose words are such a sum
pub sum_is : (names : Binding) (words : List Text) (first sign second f s t a c : Text) (g : Sign) (x y total : ℤ) → 3 ≤ length words → length words < 4
    → first ≡ get_or words 0 first → sign ≡ get_or words 1 sign → second ≡ get_or words 2 second → f ≡ first → s ≡ sign → t ≡ second
    → expanded names f ≡ Ok a → sign_of s ≡ Some g → expanded names t ≡ Ok c → number_of a ≡ Some x → number_of c ≡ Some y → applied g x y ≡ Ok total
    → right_side names words ≡ Ok (written total)
sum_is names words first sign second f s t a c g x y total low high e0 e1 e2 ef es et ea is ec na nc sum =
    rw (three words first sign second low high e0 e1 e2)
    (two_numbers names first sign second a c g x y total (rw (← ef) ea) (rw (← es) is) (rw (← et) ec) na nc sum)
