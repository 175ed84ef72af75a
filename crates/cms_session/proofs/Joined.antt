-- The pieces of the script joined.
use Rattle.std.proofs.Common.{◌≡◌, ℕ, List, [], ◌∷◌, ◌++◌, refl}
use Rattle.std.proofs.lemmas.List.{append_assoc}
use Rattle.std.specs.Prelude.{codes}
use Rattle.std.specs.Fmt.{decimal}
use Rattle.cms_session.specs.Generator.{as_text, lines_of, writes}
use Rattle.cms_session.specs.Pieces.{before_passes, before_records, behind_records}

-- any lines, with a number in two of them
in_lines : (first : List (List ℕ)) (a p b : List ℕ) (c r d : List ℕ) (last : List (List ℕ)) → (front : List ℕ) → front ≡ as_text first
    → ((((front ++ a) ++ p) ++ (10 ∷ ((b ++ 10 ∷ []) ++ c))) ++ r) ++ (d ++ (10 ∷ as_text last))
    ≡ front ++ (((a ++ p) ++ 10 ∷ []) ++ ((b ++ 10 ∷ []) ++ (((c ++ (r ++ d)) ++ 10 ∷ []) ++ as_text last)))
in_lines first a p b c r d last front is = simp append_assoc refl

pub joined : (passes records : ℕ) → ((((before_passes ++ decimal passes) ++ before_records) ++ decimal records) ++ behind_records) ≡ as_text (lines_of passes records)
joined passes records = in_lines (codes "FORMAT 191 A" ∷ codes "YES" ∷ codes "GEN001" ∷ writes (codes "&TRACE OFF") ∷ []) (writes (codes "&LOOP 4 ")) (decimal passes) (writes (codes "&I = &I + 1"))
    (writes (codes "EXECIO ")) (decimal records) (codes " DISKW F&I DATA A (STRING RECORD &I OF THE RUN")
    (writes (codes "COPYFILE F&I DATA A = COPY A (RECFM F LRECL 80") ∷ writes (codes "ERASE F&I DATA A") ∷ codes "EXEC GEN" ∷ codes "QUERY DISK A" ∷ []) _ refl
