-- The loops that are left, from one place on.
use Rattle.std.proofs.Common.{◌≡◌, ◌∙◌, [], ◌+◌, ◌⊎◌, inl, inr, ℕ, List, drop, refl, ap, true, false}
use Rattle.std.proofs.lemmas.Bool.{eq-eqb, ne_eqb}
use Rattle.std.specs.Prelude.{Some, slice_get, Ok, Err}
use Rattle.cms_fields.specs.declared.time.Moment.{Moment}
use Rattle.exec2_run.specs.Loops.{begins, has, left_open, settled_from}
use Rattle.exec2_run.specs.State.{Exec}
use Rattle.exec2_run.specs.declared.fault.Fault.{Fault}
use Rattle.exec2_run.specs.declared.loops.Loop.{Loop}
use Rattle.exec2_run.proofs.Places.{from_place}

pub or_else : {A B C : Type 0} → A ⊎ B → (B → C) → A ⊎ C
or_else (inl a) f = inl a
or_else (inr b) f = inr (f b)

pub all_over : (moment : Moment) (s : Exec) (xs : List Loop) (k n : ℕ) → settled_from moment s xs ≡ settled_from moment s (drop k xs) → drop k xs ≡ [] → drop n xs ≡ []
    → settled_from moment s xs ≡ Ok (left_open s false (drop n xs))
unfolding settled_from
all_over moment s xs k n here none also = here ∙ ap (settled_from moment s) none ∙ rw also refl

module _ (moment : Moment) (s : Exec) (xs : List Loop) (k : ℕ) (top : Loop) (here : Some top ≡ slice_get xs k) where
  pub more_passes : s.next ≡ top.past → begins moment s top ≡ Ok true → settled_from moment s (drop k xs) ≡ Ok (left_open s true (drop k xs))
  unfolding settled_from
  more_passes at b = rw (from_place xs k top here, eq-eqb s.next top.past at, b) refl

  pub test_fails : (fault : Fault) → s.next ≡ top.past → begins moment s top ≡ Err fault → settled_from moment s (drop k xs) ≡ Err (fault, top.line)
  unfolding settled_from
  test_fails fault at b = rw (from_place xs k top here, eq-eqb s.next top.past at, b) refl

  pub pass_over : s.next ≡ top.past → begins moment s top ≡ Ok false → settled_from moment s (drop k xs) ≡ settled_from moment s (drop (k + 1) xs)
  unfolding settled_from
  pass_over at b = ap (settled_from moment s) (from_place xs k top here) ∙ rw (eq-eqb s.next top.past at, b) refl

  pub stays_open : (s.next ≡ top.past → ⊥) → has top s.next ≡ true → settled_from moment s (drop k xs) ≡ Ok (left_open s false (drop k xs))
  unfolding settled_from
  stays_open at inside = rw (from_place xs k top here, ne_eqb s.next top.past at, inside) refl

  pub left_behind : (s.next ≡ top.past → ⊥) → has top s.next ≡ false → settled_from moment s (drop k xs) ≡ settled_from moment s (drop (k + 1) xs)
  unfolding settled_from
  left_behind at out = ap (settled_from moment s) (from_place xs k top here) ∙ rw (ne_eqb s.next top.past at, out) refl
