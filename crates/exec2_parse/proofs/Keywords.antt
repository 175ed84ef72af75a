-- A word of another length is no keyword.
use Rattle.std.proofs.Common.{◌≡◌, ◌≢◌, ◌∙◌, ℕ, List, length, refl, sym, ap, Bool, true, false}
use Rattle.std.specs.Prelude.{map}
use Rattle.std.specs.Str.{bytes_eq}
use Rattle.std.proofs.lemmas.List.{length-map}
use Rattle.std.proofs.lemmas.Slice.Eq.{bytes_eq-Decides}
use Rattle.cms_ebcdic.specs.CodePage.{upper_of}
use Rattle.cms_text.specs.Texts.{Text, ebcdic, is_keyword}

apart : (xs ys : List ℕ) (b : Bool) → bytes_eq xs ys ≡ b → length xs ≢ length ys → b ≡ false
apart xs ys true same other = absurd (other (ap (λ (zs : List ℕ). length zs) ((bytes_eq-Decides xs ys).0 same)))
apart xs ys false same other = refl

pub other_length : (name word : List ℕ) → length (ebcdic name) ≡ length name → length word ≢ length name → is_keyword name word ≡ false
unfolding is_keyword
other_length name word coded other =
    apart (map upper_of word) (ebcdic name) (bytes_eq (map upper_of word) (ebcdic name)) refl
    (λ same. other (sym (length-map word upper_of) ∙ same ∙ coded))
