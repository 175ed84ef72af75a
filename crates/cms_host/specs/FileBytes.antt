-- What is known of the bytes of files.
use Rattle.std.specs.Prelude.{◌≡◌, ℕ, ◌+◌, ◌≤◌, ◌⊎◌, List, length, take, drop, Option, IfSome}

-- a file has these bytes from a place on, where its bytes are told
abbrev pub HasBytes : Option (List ℕ) → ℕ → List ℕ → Type 0
HasBytes told place bytes = IfSome told (λ all. bytes ≡ take (length bytes) (drop place all))

-- so many bytes from one place on stand before or behind so many from another
abbrev pub IsApart : ℕ → ℕ → ℕ → ℕ → Type 0
IsApart place count other size = (place + count ≤ other) ⊎ (other + size ≤ place)

-- all files have the bytes that they had, but for so many of one file from a place on
abbrev pub KeepsBut : ℕ → ℕ → ℕ → (ℕ → Option (List ℕ)) → (ℕ → Option (List ℕ)) → Type 0
KeepsBut file place count before after =
    (other from : ℕ) (bytes : List ℕ)
    → (other ≡ file → IsApart from (length bytes) place count)
    → HasBytes (before other) from bytes → HasBytes (after other) from bytes
