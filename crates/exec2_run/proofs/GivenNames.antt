-- The names that are given, by their lengths.
use Rattle.std.proofs.Common.{◌≡◌, ◌≢◌, ◌∷◌, [], ℕ, List, length, refl, sym, Bool, true, false, cond}
use Rattle.std.specs.Prelude.{◌==◌, filter, find}
use Rattle.std.proofs.lemmas.Bool.{eqb-false, ne_eqb}
use Rattle.cms_ebcdic.specs.CodePage.{code_of, code_page}
use Rattle.cms_text.specs.Texts.{Text, ebcdic, is_keyword}
use Rattle.exec2_parse.proofs.Keywords.{other_length}
use Rattle.exec2_run.specs.Given.{all_given, given_of, name_of}
use Rattle.exec2_run.specs.declared.given.Predefined.{Predefined}
use Rattle.exec2_run.specs.declared.given.Predefined.TheVariants as given

coded : (g : Predefined) → length (ebcdic (name_of g)) ≡ length (name_of g)
unfolding ebcdic code_of code_page
coded given.Procedure = refl
coded given.Count = refl
coded given.Index = refl
coded given.Rc = refl
coded given.Retcode = refl
coded given.Line = refl
coded given.Linenum = refl
coded given.Depth = refl
coded given.From = refl
coded given.Filename = refl
coded given.Filetype = refl
coded given.Filemode = refl
coded given.Date = refl
coded given.Time = refl
coded given.Blank = refl
coded given.Argstring = refl
coded given.Cmdstring = refl

-- where a test fails with another, it finds among those that pass the other what it finds among all
find_filter : {X : Type 0} (p q : X → Bool) (xs : List X) → ((x : X) → q x ≡ false → p x ≡ false) → find p (filter q xs) ≡ find p xs
find_filter p q [] fails = refl
find_filter p q (x ∷ xs) fails =
    elim (q x) as (λ b. q x ≡ b → find p (cond b (x ∷ filter q xs) (filter q xs)) ≡ find p (x ∷ xs)) [
      | true ↦ λ is. rw (find_filter p q xs fails) refl
      | false ↦ λ is. rw (fails x is) (find_filter p q xs fails)
    ] refl

other : (g : Predefined) (name : Text) → (length (name_of g) == length name) ≡ false → is_keyword (name_of g) name ≡ false
other g name is = other_length (name_of g) name (coded g) (λ same. eqb-false (length (name_of g)) (length name) is (sym same))

-- a name is looked for among those of its length
pub among_its_length : (name : Text) → find (λ g. is_keyword (name_of g) name) (filter (λ g. length (name_of g) == length name) all_given) ≡ given_of name
unfolding given_of
among_its_length name = find_filter (λ g. is_keyword (name_of g) name) (λ g. length (name_of g) == length name) all_given (λ g is. other g name is)

none_passes : {X : Type 0} (q : X → Bool) (xs : List X) → ((x : X) → q x ≡ false) → filter q xs ≡ []
none_passes q [] fails = refl
none_passes q (x ∷ xs) fails = rw (fails x) (none_passes q xs fails)

-- there are none of other lengths
pub of_no_length : (n : ℕ) → n ≢ 1 → n ≢ 2 → n ≢ 4 → n ≢ 5 → n ≢ 7 → n ≢ 8 → n ≢ 9 → filter (λ g. length (name_of g) == n) all_given ≡ []
of_no_length n a b c d e f g = none_passes (λ x. length (name_of x) == n) all_given apart
  where
    not_so : (k : ℕ) → n ≢ k → (k == n) ≡ false
    not_so k ne = ne_eqb k n (λ same. ne (sym same))

    apart : (x : Predefined) → (length (name_of x) == n) ≡ false
    apart given.Procedure = not_so 1 a
    apart given.Count = not_so 1 a
    apart given.Index = not_so 5 d
    apart given.Rc = not_so 2 b
    apart given.Retcode = not_so 7 e
    apart given.Line = not_so 4 c
    apart given.Linenum = not_so 7 e
    apart given.Depth = not_so 5 d
    apart given.From = not_so 4 c
    apart given.Filename = not_so 8 f
    apart given.Filetype = not_so 8 f
    apart given.Filemode = not_so 8 f
    apart given.Date = not_so 4 c
    apart given.Time = not_so 4 c
    apart given.Blank = not_so 5 d
    apart given.Argstring = not_so 9 g
    apart given.Cmdstring = not_so 9 g
