-- Two lists that meet behind the current line.
use Rattle.std.proofs.Common.{◌≡◌, ◌≢◌, ◌∙◌, ◌⊎◌, inl, inr, ◌+◌, ◌-◌, ◌<◌, ◌≤◌, ◌++◌, ℕ, suc, min, List, [], ◌∷◌, length, reverse, set, take, drop, get_or, refl, sym, ap, subst, arith}
use Rattle.std.specs.List.{insert}
use Rattle.std.proofs.lemmas.Bool.{cases_lt}
use Rattle.std.proofs.lemmas.List.{append_assoc, drop_all, drop_at, length-append, length-drop, length-reverse, length-set, length-take, length_push, reverse-append, reverse-reverse, set-append_left, set_at, take-append-drop, take-append-le, take_all, take_at, take_more}
use Rattle.cms_text.specs.Texts.{Text}
use Rattle.cms_edit.specs.Buffers.{Buffer, at, inserted, lines_from, lines_without, moved_down, moved_up, removed, replaced}

-- the last of one becomes the last of the other
pub handed : {X : Type 0} (to from : List X) (x : X) → (to ++ x ∷ []) ++ reverse from ≡ to ++ reverse (from ++ x ∷ [])
handed to from x = append_assoc to (x ∷ []) (reverse from) ∙ ap (λ r. to ++ r) (sym (reverse-append from (x ∷ [])))

twice : {X : Type 0} (a b : List X) → reverse (b ++ reverse a) ≡ a ++ reverse b
twice a b = reverse-append b (reverse a) ∙ ap (λ x. x ++ reverse b) (reverse-reverse a)

-- the other way round
pub turned : {X : Type 0} (to from to' from' : List X) → to' ++ reverse from' ≡ to ++ reverse from → from' ++ reverse to' ≡ from ++ reverse to
turned to from to' from' same = sym (twice from' to') ∙ ap reverse same ∙ twice from to

-- what a buffer of two lists holds
abbrev pub meeting : List Text → List Text → Buffer
meeting above below = record { lines = above ++ reverse below; current = length above }

same_buffers : (xs ys : List Text) (i j : ℕ) → xs ≡ ys → i ≡ j
    → ◌≡◌ {A = Buffer} (record { lines = xs; current = i }) (record { lines = ys; current = j })
same_buffers xs ys i j p q = λ k. record { lines = p k; current = q k }

all_lines : (a b : List Text) → length (a ++ reverse b) ≡ length a + length b
all_lines a b = length-append a (reverse b) ∙ ap (λ (n : ℕ). length a + n) (length-reverse b)

-- the same lines are so many
same_count : (a b a' b' : List Text) → a' ++ reverse b' ≡ a ++ reverse b → length a' + length b' ≡ length a + length b
same_count a b a' b' same = sym (all_lines a' b') ∙ ap length same ∙ all_lines a b

module _ (a b a' b' : List Text) where
  pub down_is : (count : ℕ) → a' ++ reverse b' ≡ a ++ reverse b → length a' ≡ length a + min count (length b)
      → meeting a' b' ≡ moved_down count (meeting a b)
  down_is count same moved =
      let size = all_lines a b in
      same_buffers (a' ++ reverse b') (a ++ reverse b) (length a') (min (length (a ++ reverse b)) (length a + count)) same
      (omega (arith, moved, size))

  pub up_is : (count : ℕ) → b' ++ reverse a' ≡ b ++ reverse a → length b' ≡ length b + min count (length a)
      → meeting a' b' ≡ moved_up count (meeting a b)
  up_is count same moved =
      let back = turned b a b' a' same in
      let sizes = same_count a b a' b' back in
      same_buffers (a' ++ reverse b') (a ++ reverse b) (length a') (length a - count) back (omega (arith, moved, sizes))

  pub top_is : b' ++ reverse a' ≡ b ++ reverse a → length b' ≡ length b + length a → meeting a' b' ≡ at 0 (meeting a b)
  top_is same moved =
      let back = turned b a b' a' same in
      let sizes = same_count a b a' b' back in
      same_buffers (a' ++ reverse b') (a ++ reverse b) (length a') 0 back (omega (arith, moved, sizes))

  pub bottom_is : a' ++ reverse b' ≡ a ++ reverse b → length a' ≡ length a + length b
      → meeting a' b' ≡ at (length (a ++ reverse b)) (meeting a b)
  bottom_is same moved =
      same_buffers (a' ++ reverse b') (a ++ reverse b) (length a') (length (a ++ reverse b)) same (moved ∙ sym (all_lines a b))

  -- nothing has moved
  pub kept_down : a' ++ reverse b' ≡ a ++ reverse b → a' ≡ a → meeting a' b' ≡ meeting a b
  kept_down same kept = same_buffers (a' ++ reverse b') (a ++ reverse b) (length a') (length a) same (ap length kept)

  pub kept_up : b' ++ reverse a' ≡ b ++ reverse a → b' ≡ b → meeting a' b' ≡ meeting a b
  kept_up same kept =
      let back = turned b a b' a' same in
      let sizes = same_count a b a' b' back in
      let size : length b' ≡ length b = ap length kept in
      same_buffers (a' ++ reverse b') (a ++ reverse b) (length a') (length a) back (omega (arith, sizes, size))

module _ (a b : List Text) where
  pub inserted_is : (line : Text) → meeting (a ++ line ∷ []) b ≡ inserted line (meeting a b)
  inserted_is line =
      same_buffers ((a ++ line ∷ []) ++ reverse b) (insert (a ++ reverse b) (length a) line) (length (a ++ line ∷ [])) (length a + 1)
      (append_assoc a (line ∷ []) (reverse b)
      ∙ sym (ap (λ (xs : List Text). xs ++ line ∷ drop (length a) (a ++ reverse b)) (take_at a (reverse b) (length a) refl)
      ∙ ap (λ (ys : List Text). a ++ line ∷ ys) (drop_at a (reverse b) (length a) refl)))
      (length_push a line)

  pub replaced_is : (line : Text) → length a ≢ 0 → meeting (set a (length a - 1) line) b ≡ replaced line (meeting a b)
  replaced_is line some =
      same_buffers (set a (length a - 1) line ++ reverse b) (set (a ++ reverse b) (length a - 1) line)
      (length (set a (length a - 1) line)) (length a)
      (sym (set-append_left a (reverse b) (length a - 1) line (omega (arith, some)))) (length-set a (length a - 1) line)

  pub found_is : drop (length a) (a ++ reverse b) ≡ reverse b
  found_is = drop_at a (reverse b) (length a) refl

-- ---- lines that are gone

-- a list of some lines ends by its last
ends_by : {X : Type 0} (a : List X) (d : X) → length a ≢ 0 → a ≡ take (length a - 1) a ++ get_or a (length a - 1) d ∷ []
ends_by a d some =
    let e : length a - 1 + 1 ≡ length a = omega (arith, some) in
    sym (take_all (length a) a (omega arith)) ∙ ap (λ (n : ℕ). take n a) (sym e) ∙ take_more a (length a - 1) d (omega (arith, some))

-- the end of a reversed list
pub drop_reverse : {X : Type 0} (n : ℕ) (b : List X) → drop n (reverse b) ≡ reverse (take (length b - n) b)
drop_reverse {X} n b = go (cases_lt n (length b))
  where
    go : (n < length b) ⊎ (length b ≤ n) → drop n (reverse b) ≡ reverse (take (length b - n) b)
    go (inl within) =
        let m = length b - n in
        let whole : reverse b ≡ reverse (drop m b) ++ reverse (take m b) =
        ap reverse (sym (take-append-drop m b)) ∙ reverse-append (take m b) (drop m b) in
        let size : length (reverse (drop m b)) ≡ n = length-reverse (drop m b) ∙ length-drop m b ∙ omega (arith, within) in
        ap (λ (xs : List X). drop n xs) whole ∙ drop_at (reverse (drop m b)) (reverse (take m b)) n size
    go (inr past) =
        let none : length b - n ≡ 0 = omega (arith, past) in
        drop_all n (reverse b) (subst (λ (k : ℕ). k ≤ n) (sym (length-reverse b)) past) ∙ ap (λ (k : ℕ). reverse (take k b)) (sym none)

-- what is left of the lines: those in front of the current one, and those behind so many
without_is : (a b : List Text) (count : ℕ) → length a ≢ 0 → 1 ≤ count
    → lines_without count (meeting a b) ≡ take (length a - 1) a ++ drop (count - 1) (reverse b)
without_is a b count some counted =
    let e : length a + count - 1 ≡ length a + (count - 1) = omega (arith, counted) in
    ap (λ (xs : List Text). xs ++ drop (length a + count - 1) (a ++ reverse b)) (take-append-le (length a - 1) a (reverse b) (omega arith))
    ∙ ap (λ (n : ℕ). take (length a - 1) a ++ drop n (a ++ reverse b)) e
    ∙ ap (λ (xs : List Text). take (length a - 1) a ++ xs) (drop_past a (reverse b) (count - 1))
  where
    drop_past : (xs ys : List Text) (n : ℕ) → drop (length xs + n) (xs ++ ys) ≡ drop n ys
    drop_past [] ys n = ap (λ (k : ℕ). drop k ys) (omega arith)
    drop_past (x ∷ xs) ys n =
        let e : suc (length xs) + n ≡ suc (length xs + n) = omega arith in
        ap (λ (k : ℕ). drop k (x ∷ (xs ++ ys))) e ∙ drop_past xs ys n

module _ (a b : List Text) (count : ℕ) (some : length a ≢ 0) where
  -- none are gone
  pub none_removed : count ≡ 0 → meeting a b ≡ removed count (meeting a b)
  none_removed none =
      let lines : lines_without count (meeting a b) ≡ a ++ reverse b =
      ap (λ (n : ℕ). take (length a - 1) (a ++ reverse b) ++ drop n (a ++ reverse b)) (omega (arith, none))
      ∙ take-append-drop (length a - 1) (a ++ reverse b) in
      let size : length (lines_without count (meeting a b)) ≡ length a + length b = ap length lines ∙ all_lines a b in
      same_buffers (a ++ reverse b) (lines_without count (meeting a b)) (length a) (min (length a) (length (lines_without count (meeting a b))))
      (sym lines) (omega (arith, size))

  -- one behind them becomes current
  pub some_removed : (b' : List Text) (line : Text) → 1 ≤ count → take (length b - (count - 1)) b ≡ b' ++ line ∷ []
      → replaced line (meeting a b') ≡ removed count (meeting a b)
  some_removed b' line counted left =
      let tail : drop (count - 1) (reverse b) ≡ line ∷ reverse b' =
      drop_reverse (count - 1) b ∙ ap reverse left ∙ reverse-append b' (line ∷ []) in
      let lines : lines_without count (meeting a b) ≡ take (length a - 1) a ++ line ∷ reverse b' =
      without_is a b count some counted ∙ ap (λ (xs : List Text). take (length a - 1) a ++ xs) tail in
      let front : set (a ++ reverse b') (length a - 1) line ≡ take (length a - 1) a ++ line ∷ reverse b' =
      ap (λ (xs : List Text). set (xs ++ reverse b') (length a - 1) line) (ends_by a [] some)
      ∙ ap (λ (xs : List Text). set xs (length a - 1) line)
      (append_assoc (take (length a - 1) a) (get_or a (length a - 1) [] ∷ []) (reverse b'))
      ∙ set_at (take (length a - 1) a) (get_or a (length a - 1) []) (reverse b') line (length a - 1)
      (length-take (length a - 1) a ∙ omega arith) in
      let size : length (lines_without count (meeting a b)) ≡ length a - 1 + (1 + length b') =
      ap length lines ∙ length-append (take (length a - 1) a) (line ∷ reverse b')
      ∙ omega (arith, length-take (length a - 1) a, length-reverse b') in
      same_buffers (set (a ++ reverse b') (length a - 1) line) (lines_without count (meeting a b)) (length a)
      (min (length a) (length (lines_without count (meeting a b)))) (front ∙ sym lines) (omega (arith, size, some))

  -- none is behind them
  pub last_removed : (b' : List Text) → 1 ≤ count → take (length b - (count - 1)) b ≡ b' → length b' ≡ 0
      → meeting (take (length a - 1) a) b' ≡ removed count (meeting a b)
  last_removed b' counted left none =
      let tail : drop (count - 1) (reverse b) ≡ reverse b' = drop_reverse (count - 1) b ∙ ap reverse left in
      let lines : lines_without count (meeting a b) ≡ take (length a - 1) a ++ reverse b' =
      without_is a b count some counted ∙ ap (λ (xs : List Text). take (length a - 1) a ++ xs) tail in
      let size : length (lines_without count (meeting a b)) ≡ length a - 1 =
      ap length lines ∙ length-append (take (length a - 1) a) (reverse b')
      ∙ omega (arith, length-take (length a - 1) a, length-reverse b', none) in
      same_buffers (take (length a - 1) a ++ reverse b') (lines_without count (meeting a b)) (length (take (length a - 1) a))
      (min (length a) (length (lines_without count (meeting a b)))) (sym lines)
      (length-take (length a - 1) a ∙ omega (arith, size))

-- ---- lines from the current one on

-- those of the first list and of the second
pub from_is : (a b : List Text) (count : ℕ) → count ≢ 0
    → take 1 (reverse a) ++ take (count - 1) (reverse b) ≡ lines_from count (meeting a b)
from_is a b count some = go (cases_lt 0 (length a))
  where
    nil : (xs : List Text) → length xs ≤ 0 → xs ≡ []
    nil [] none = refl
    nil (x ∷ xs) none = absurd (omega (arith, none))

    take_past : (xs ys : List Text) (n : ℕ) → take (length xs + n) (xs ++ ys) ≡ xs ++ take n ys
    take_past [] ys n = ap (λ (k : ℕ). take k ys) (omega arith)
    take_past (x ∷ xs) ys n =
        let e : suc (length xs) + n ≡ suc (length xs + n) = omega arith in
        ap (λ (k : ℕ). take k (x ∷ (xs ++ ys))) e ∙ ap (λ (zs : List Text). x ∷ zs) (take_past xs ys n)

    taken : take (length a + count - 1) (a ++ reverse b) ≡ a ++ take (count - 1) (reverse b)
    taken =
        let e : length a + count - 1 ≡ length a + (count - 1) = omega (arith, some) in
        ap (λ (k : ℕ). take k (a ++ reverse b)) e ∙ take_past a (reverse b) (count - 1)

    go : (0 < length a) ⊎ (length a ≤ 0) → take 1 (reverse a) ++ take (count - 1) (reverse b) ≡ lines_from count (meeting a b)
    go (inl there) =
        let ne : length a ≢ 0 = (λ z. absurd (omega (arith, there, z))) in
        let front = take (length a - 1) a in
        let last = get_or a (length a - 1) [] in
        let by = ends_by a [] ne in
        let first : take 1 (reverse a) ≡ last ∷ [] =
        ap (λ (xs : List Text). take 1 (reverse xs)) by ∙ ap (λ (xs : List Text). take 1 xs) (reverse-append front (last ∷ [])) in
        let rest : drop (length a - 1) (a ++ take (count - 1) (reverse b)) ≡ last ∷ take (count - 1) (reverse b) =
        ap (λ (xs : List Text). drop (length a - 1) (xs ++ take (count - 1) (reverse b))) by
        ∙ ap (λ (xs : List Text). drop (length a - 1) xs) (append_assoc front (last ∷ []) (take (count - 1) (reverse b)))
        ∙ drop_at front (last ∷ take (count - 1) (reverse b)) (length a - 1) (length-take (length a - 1) a ∙ omega arith) in
        ap (λ (xs : List Text). xs ++ take (count - 1) (reverse b)) first
        ∙ sym (ap (λ (xs : List Text). drop (length a - 1) xs) taken ∙ rest)
    go (inr none) =
        let e : a ≡ [] = nil a none in
        let z : length a - 1 ≡ 0 = omega (arith, none) in
        ap (λ (xs : List Text). take 1 (reverse xs) ++ take (count - 1) (reverse b)) e
        ∙ sym (ap (λ (k : ℕ). drop k (take (length a + count - 1) (a ++ reverse b))) z ∙ taken
        ∙ ap (λ (xs : List Text). xs ++ take (count - 1) (reverse b)) e)
