-- Tests of objects that do exactly one thing.
use Rattle.std.specs.Prelude.{ℕ, Bool, true, false, ◌&&◌, ◌==◌, List, [], ◌∷◌}
use Rattle.std.specs.Str.{bytes_eq}
use Rattle.std.specs.Ordering.{int_eq}
use Rattle.cms_model.specs.Minidisks.{same_name}
use Rattle.cms_model.specs.Objects.{Content, Reply, Test, Want, Say, Ask, Get, Put, Ended}

-- two lists have the same lines, in the same order
abbrev pub same_lines : List (List ℕ) → List (List ℕ) → Bool
same_lines [] [] = true
same_lines (x ∷ xs) (y ∷ ys) = bytes_eq x y && same_lines xs ys
same_lines _ _ = false

-- two wants are of one kind, with the same lines, file and code
abbrev pub same_want : Want → Want → Bool
same_want (Say xs) (Say ys) = same_lines xs ys
same_want Ask Ask = true
same_want (Get name n) (Get other m) = same_name name other && (n == m)
same_want (Put name n xs) (Put other m ys) = same_name name other && ((n == m) && same_lines xs ys)
same_want (Ended a) (Ended b) = int_eq a b
same_want _ _ = false

-- a want, and what is held then
pub record Move : Type 0 where
  pub want : Want
  pub after : Content

-- the object does exactly what this says
abbrev pub exactly : (Content → Reply → Move) → Test
exactly step before reply want after =
    same_want want (step before reply).want && same_lines after (step before reply).after
