-- The script of a generated session.
use Rattle.std.specs.Prelude.{ℕ, ◌+◌, ◌*◌, ◌/◌, ◌%◌, ◌^◌, List, [], ◌∷◌, ◌++◌, codes}
use Rattle.std.specs.List.{flat_map}
use Rattle.std.specs.Fmt.{decimal}

-- the state behind this one
abbrev pub next_of : ℕ → ℕ
next_of state = (state * 1103515245 + 12345) % 2 ^ 31

-- a draw goes on to the next state, and gives the bits of it above the low 16
abbrev pub draw_of : ℕ → ℕ
draw_of state = next_of state / 65536

-- how often the loop of the procedure runs, by the first draw
abbrev pub passes_of : ℕ → ℕ
passes_of seed = 50 + draw_of seed % 151

-- how many records it writes each time, by the second
abbrev pub records_of : ℕ → ℕ
records_of seed = 1 + draw_of (next_of seed) % 100

-- the line that writes a line of the procedure
abbrev pub writes : List ℕ → List ℕ
writes text = codes "EXECIO 1 DISKW GEN EXEC A (STRING " ++ text

-- the lines of the script
abbrev pub lines_of : ℕ → ℕ → List (List ℕ)
lines_of passes records =
    codes "FORMAT 191 A"
    ∷ codes "YES"
    ∷ codes "GEN001"
    ∷ writes (codes "&TRACE OFF")
    ∷ writes (codes "&LOOP 4 " ++ decimal passes)
    ∷ writes (codes "&I = &I + 1")
    ∷ writes (codes "EXECIO " ++ (decimal records ++ codes " DISKW F&I DATA A (STRING RECORD &I OF THE RUN"))
    ∷ writes (codes "COPYFILE F&I DATA A = COPY A (RECFM F LRECL 80")
    ∷ writes (codes "ERASE F&I DATA A")
    ∷ codes "EXEC GEN"
    ∷ codes "QUERY DISK A"
    ∷ []

-- lines, each with a line feed
abbrev pub as_text : List (List ℕ) → List ℕ
as_text lines = flat_map (λ line. line ++ 10 ∷ []) lines

-- the script of a seed
unfoldable pub script_of : ℕ → List ℕ
script_of seed = as_text (lines_of (passes_of seed) (records_of seed))
