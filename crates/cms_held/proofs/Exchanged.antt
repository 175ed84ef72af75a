-- The blocks that an update gives back and takes.
use Rattle.std.proofs.Common.{◌≡◌, ◌≢◌, ◌⊎◌, inl, inr, ⊎_elim, ℕ, ◌+◌, ◌-◌, ◌<◌, ◌≤◌, not, List, ◌∷◌, ◌++◌, refl, arith}
use Rattle.std.specs.Prelude.{◌==◌, ◌&&◌, ◌||◌}
use Rattle.std.proofs.lemmas.Bool.{cases_lt}
use Rattle.cms_model.specs.Lists.{holds, times}
use Rattle.cms_model.specs.Stands.{Kept, file_blocks}
use Rattle.cms_model.proofs.Repeats.{bit, held_from, not_held, times_append}
use Rattle.cms_held.specs.Systems.{Systems}

-- ---- counts

pub first_bit : (n x : ℕ) (xs : List ℕ) → times n (x ∷ xs) ≡ bit (n == x) + times n xs
unfolding times
first_bit n x xs = refl

-- ---- the exchange, by counts

-- these blocks without those that are freed, and with those that are taken
pub record Counts (old new freed taken : List ℕ) (n : ℕ) : Type 0 where
  pub sum : times n new + times n freed ≡ times n old + times n taken
  pub part : times n freed ≤ times n old
  pub once : times n old ≤ 1
  pub apart : 1 ≤ times n taken → times n old ≡ 0

pub exchanged : (old new freed taken : List ℕ) (n : ℕ) → Counts old new freed taken n → holds new n ≡ ((holds old n && not (holds freed n)) || holds taken n)
exchanged old new freed taken n c =
    let sum = c.sum in let part = c.part in let most = c.once in
    ⊎_elim
    (λ (none : times n taken < 1). ⊎_elim
    (λ (kept : times n freed < 1). same_there (cases_lt (times n old) 1) kept none)
    (λ (goes : 1 ≤ times n freed).
    let gone = not_held n new (omega arith) in
    let was = held_from n old (omega arith) in
    let out = held_from n freed goes in
    let no' = not_held n taken (omega arith) in
    rw (gone, was, out, no') refl)
    (cases_lt (times n freed) 1))
    (λ (some : 1 ≤ times n taken).
    let none = c.apart some in
    let is = held_from n new (omega arith) in
    let was = not_held n old none in
    let yes' = held_from n taken some in
    rw (is, was, yes') refl)
    (cases_lt (times n taken) 1)
  where
    same_there : (times n old < 1) ⊎ (1 ≤ times n old) → times n freed < 1 → times n taken < 1 → holds new n ≡ ((holds old n && not (holds freed n)) || holds taken n)
    same_there (inl absent) kept none =
        let sum = c.sum in
        let a = not_held n new (omega arith) in
        let b = not_held n old (omega arith) in
        let d = not_held n taken (omega arith) in
        rw (a, b, d) refl
    same_there (inr there) kept none =
        let sum = c.sum in
        let a = held_from n new (omega arith) in
        let b = held_from n old there in
        let d = not_held n taken (omega arith) in
        let f = not_held n freed (omega arith) in
        rw (a, b, d, f) refl

-- ---- an update

-- the blocks of the new trees
abbrev pub new_blocks : Systems → List Kept → List ℕ
new_blocks s files = s.directory.leaves ++ (s.directory.pointers ++ (s.map.leaves ++ (s.map.pointers ++ file_blocks files)))

pub new_times : (s : Systems) (files : List Kept) (n : ℕ) → times n (new_blocks s files)
    ≡ times n s.directory.leaves + (times n s.directory.pointers + (times n s.map.leaves + (times n s.map.pointers + times n (file_blocks files))))
new_times s files n =
    omega (
      arith,
      times_append n s.directory.leaves (s.directory.pointers ++ (s.map.leaves ++ (s.map.pointers ++ file_blocks files))),
      times_append n s.directory.pointers (s.map.leaves ++ (s.map.pointers ++ file_blocks files)),
      times_append n s.map.leaves (s.map.pointers ++ file_blocks files),
      times_append n s.map.pointers (file_blocks files),
    )

-- the other one of blocks 4 and 5
pub record Other (old new : ℕ) : Type 0 where
  pub low : 4 ≤ new
  pub high : new ≤ 5
  pub old_low : 4 ≤ old
  pub old_high : old ≤ 5
  pub differs : new ≢ old

pub other : (o : ℕ) → (o ≡ 4) ⊎ (o ≡ 5) → Other o (9 - o)
other o (inl four) = record { low = omega arith; high = omega arith; old_low = omega arith; old_high = omega arith; differs = λ e. omega (arith, e) }
other o (inr five) = record { low = omega arith; high = omega arith; old_low = omega arith; old_high = omega arith; differs = λ e. omega (arith, e) }
