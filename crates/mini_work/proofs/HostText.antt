-- The characters that codes are on a terminal of the host.
use Rattle.std.proofs.Common.{◌≡◌, ◌∙◌, ℕ, ◌+◌, ◌<◌, lit<, List, [], ◌∷◌, ◌++◌, length, map, take, get_or, Option, Some, None, position, refl, ap, sym, arith}
use Rattle.std.proofs.lemmas.List.{map-append, take_more}
use Rattle.std.specs.Prelude.{option_map, unwrap_or, ◌==◌}
use Rattle.std.proofs.lemmas.List.Quantifiers.{position-Some}
use Rattle.cms_ebcdic.specs.CodePage.{character_of, code_page, host_of}

codes_length : length code_page ≡ 95
unfolding code_page
codes_length = refl

pub host_small : (x : ℕ) → host_of x < 128
unfolding host_of character_of
host_small x = small (position (λ y. y == x) code_page) refl
  where
    small : (p : Option ℕ) → position (λ y. y == x) code_page ≡ p → unwrap_or (option_map (λ k. 32 + k) p) 46 < 128
    small None is = lit< tt
    small (Some k) is =
        let low = (position-Some (λ (y : ℕ). y == x) code_page k 0 is).0 in
        let long = codes_length in
        omega arith

-- one code more
pub more_text : (text : List ℕ) (i : ℕ) → i < length text → map host_of (take i text) ++ host_of (get_or text i 0) ∷ [] ≡ map host_of (take (i + 1) text)
more_text text i here =
    sym (ap (map host_of) (take_one text i here) ∙ map-append host_of (take i text) (get_or text i 0 ∷ []))
  where
    take_one : (xs : List ℕ) (k : ℕ) → k < length xs → take (k + 1) xs ≡ take k xs ++ get_or xs k 0 ∷ []
    take_one xs k low = take_more xs k 0 low
