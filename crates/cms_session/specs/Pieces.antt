-- The script around its two numbers.
use Rattle.std.specs.Prelude.{ℕ, List, [], ◌∷◌, ◌++◌, codes}
use Rattle.cms_session.specs.Generator.{as_text, writes}

-- the lines up to the number of passes
abbrev pub before_passes : List ℕ
before_passes =
    as_text (codes "FORMAT 191 A" ∷ codes "YES" ∷ codes "GEN001" ∷ writes (codes "&TRACE OFF") ∷ [])
    ++ writes (codes "&LOOP 4 ")

-- from there to the number of records
abbrev pub before_records : List ℕ
before_records = 10 ∷ (as_text (writes (codes "&I = &I + 1") ∷ []) ++ writes (codes "EXECIO "))

-- from there to the end
abbrev pub behind_records : List ℕ
behind_records =
    codes " DISKW F&I DATA A (STRING RECORD &I OF THE RUN"
    ++ (10 ∷ as_text (
    writes (codes "COPYFILE F&I DATA A = COPY A (RECFM F LRECL 80")
    ∷ writes (codes "ERASE F&I DATA A")
    ∷ codes "EXEC GEN"
    ∷ codes "QUERY DISK A"
    ∷ []))
