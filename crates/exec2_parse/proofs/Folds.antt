-- Texts without small letters.
use Rattle.std.proofs.Common.{◌≡◌, ◌∙◌, ◌∷◌, [], ◌++◌, ℕ, List, length, refl, ap, Bool, true, false, cond, rules, arith}
use Rattle.std.specs.Prelude.{map, ◌==◌, ◌&&◌}
use Rattle.std.specs.List.{list_all}
use Rattle.std.proofs.lemmas.Bool.Decides.{nat_tests}
use Rattle.std.proofs.lemmas.List.{append-nil}
use Rattle.cms_ebcdic.specs.CodePage.{upper_of}
use Rattle.cms_text.specs.Texts.{Text}
use Rattle.exec2_parse.specs.Expansion.{name_of}

first_folded : (b : Bool) (byte : ℕ) (bytes : Text) → (upper_of byte == byte) ≡ b → (b && list_all (λ other. upper_of other == other) bytes) ≡ true
    → (list_all (λ other. upper_of other == other) bytes ≡ true → map upper_of bytes ≡ bytes) → map upper_of (byte ∷ bytes) ≡ byte ∷ bytes
first_folded true byte bytes same all rest =
    let e : upper_of byte ≡ byte = grind (arith, nat_tests) in
    ap (λ (x : ℕ). x ∷ map upper_of bytes) e ∙ ap (λ (xs : Text). byte ∷ xs) (rest all)
first_folded false byte bytes same all rest = cc

-- a text without small letters is the same in capital letters
pub same_folded : (text : Text) → list_all (λ byte. upper_of byte == byte) text ≡ true → map upper_of text ≡ text
same_folded [] h = refl
same_folded (byte ∷ bytes) h = first_folded (upper_of byte == byte) byte bytes refl h (same_folded bytes)

-- such a text alone is a name
pub plain_name : (first second : Text) → length second ≡ 0 → list_all (λ byte. upper_of byte == byte) first ≡ true → name_of first second ≡ first
plain_name first [] none folded = ap (map upper_of) (append-nil first) ∙ same_folded first folded
plain_name first (byte ∷ bytes) none folded = absurd (omega (arith, none))
