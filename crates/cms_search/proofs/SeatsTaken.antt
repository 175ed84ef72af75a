-- A disk takes a letter: what the units are then, and the machine.
use Rattle.std.proofs.Common.{◌≡◌, ◌≢◌, ◌<◌, ◌∙◌, inl, inr, ℕ, zero, suc, List, [], ◌∷◌, length, refl, sym, ap, subst}
use Rattle.std.specs.Prelude.{Bool, true, false, cond, ◌==◌, Option, Some, None, slice_get, slice_set}
use Rattle.std.specs.Option.{option_and_then, option_map}
use Rattle.std.proofs.lemmas.Bool.{ne_eqb}
use Rattle.std.proofs.lemmas.Bool.Decides.{eqb_tells}
use Rattle.std.proofs.lemmas.List.{length-map}
use Rattle.cms_journal.specs.Journal.{Journal}
use Rattle.cms_model.specs.Slots.{Slot}
use Rattle.cms_disk.specs.declared.unit.UnitInfo.{UnitInfo}
use Rattle.cms_search.specs.Held.{StandsAs, disk_of}
use Rattle.cms_search.specs.Machine.{Letter}
use Rattle.cms_search.specs.Tables.{AccessTable, IsTable, Seated, cleared, letters_in, put_on, seated, without}
use Rattle.cms_search.proofs.Released.{stands_left}
use Rattle.cms_search.proofs.Seats.{disk_there, item_here}

-- ---- the disk of a unit

-- another unit's leaving its letter says nothing of this one
pub disk_without : (u v : ℕ) (seats : List (Option Seated)) → u ≢ v → disk_of v (without (λ e. e.letter.unit == u) seats) ≡ disk_of v seats
disk_without u v [] apart = refl
disk_without u v (None ∷ seats) apart = disk_without u v seats apart
disk_without u v (Some x ∷ seats) apart = elim (eqb_tells x.letter.unit u) [
  | inl own ↦
      let other = ne_eqb x.letter.unit v (λ same. apart (sym own.1 ∙ same)) in
      rw (own.0, other) (disk_without u v seats apart)
  | inr free ↦ rw free.0 (ap (λ (d : Option Seated). cond (x.letter.unit == v) (Some x) d) (disk_without u v seats apart))
]

-- nor does another unit's disk that takes a letter, but for what was there
disk_put : (v n : ℕ) (s : Seated) (seats : List (Option Seated)) → s.letter.unit ≢ v → disk_of v (slice_set seats n (Some s)) ≡ disk_of v (cleared n seats)
disk_put v n s [] apart = refl
disk_put v zero s (x ∷ seats) apart = let other = ne_eqb s.letter.unit v apart in rw other refl
disk_put v (suc n) s (None ∷ seats) apart = disk_put v n s seats apart
disk_put v (suc n) s (Some x ∷ seats) apart = ap (λ (d : Option Seated). cond (x.letter.unit == v) (Some x) d) (disk_put v n s seats apart)

cleared_without : (p : Seated → Bool) (n : ℕ) (seats : List (Option Seated)) → cleared n (without p seats) ≡ without p (cleared n seats)
cleared_without p n [] = refl
cleared_without p zero (x ∷ seats) = refl
cleared_without p (suc n) (x ∷ seats) = ap (λ (l : List (Option Seated)). option_and_then (λ d. cond (p d) None (Some d)) x ∷ l) (cleared_without p n seats)

pub disk_beside : (v n : ℕ) (s : Seated) (seats : List (Option Seated)) → s.letter.unit ≢ v → disk_of v (put_on (λ e. e.letter.unit) s n seats) ≡ disk_of v (cleared n seats)
disk_beside v n s seats apart =
    disk_put v n s (without (λ e. e.letter.unit == s.letter.unit) seats) apart
    ∙ ap (λ (l : List (Option Seated)). disk_of v l) (cleared_without (λ e. e.letter.unit == s.letter.unit) n seats)
    ∙ disk_without s.letter.unit v (cleared n seats) apart

-- ---- what is held

-- another unit is settled still, where it leaves the letter too
pub stands_beside : (j : Journal) (v : ℕ) (unit : UnitInfo) (slot : Slot) (doubt : Bool) (t : AccessTable) (n : ℕ) (s : Seated) → unit.unit.number ≡ v → IsTable t
    → slice_get t.doubts v ≡ Some doubt → s.letter.unit ≢ v → StandsAs j v unit slot doubt (disk_of v t.seats) → StandsAs j v unit slot doubt (disk_of v (seated n s t).seats)
stands_beside j v unit slot doubt t n s number is mark apart stands =
    subst (λ (d : Option Seated). StandsAs j v unit slot doubt d) (sym (disk_beside v n s t.seats apart)) (stands_left j v unit slot doubt t n number is mark stands)

-- the unit of the disk has it
pub disk_seated : (t : AccessTable) (n : ℕ) (s : Seated) → n < length t.seats → IsTable (seated n s t) → disk_of s.letter.unit (seated n s t).seats ≡ Some s
disk_seated t n s less is =
    let xs = without (λ e. e.letter.unit == s.letter.unit) t.seats in
    let long : length xs ≡ length t.seats = length-map t.seats _ in
    disk_there (seated n s t).seats n s is.once (item_here xs n (Some s) (subst (λ (k : ℕ). n < k) (sym long) less))

-- ---- the machine

letters_set : (seats : List (Option Seated)) (n : ℕ) (s : Seated) → letters_in (slice_set seats n (Some s)) ≡ slice_set (letters_in seats) n (Some s.letter)
letters_set [] n s = refl
letters_set (x ∷ seats) zero s = refl
letters_set (x ∷ seats) (suc n) s = ap (λ (l : List (Option Letter)). option_map (λ (z : Seated). z.letter) x ∷ l) (letters_set seats n s)

pub letters_without : (u : ℕ) (seats : List (Option Seated)) → letters_in (without (λ e. e.letter.unit == u) seats) ≡ without (λ d. d.unit == u) (letters_in seats)
letters_without u [] = refl
letters_without u (None ∷ seats) = ap (λ (l : List (Option Letter)). None ∷ l) (letters_without u seats)
letters_without u (Some x ∷ seats) = cases (x.letter.unit == u) (letters_without u seats)
  where
    cases : (b : Bool) → letters_in (without (λ e. e.letter.unit == u) seats) ≡ without (λ d. d.unit == u) (letters_in seats)
        → option_map (λ (z : Seated). z.letter) (cond b None (Some x)) ∷ letters_in (without (λ e. e.letter.unit == u) seats) ≡ cond b None (Some x.letter) ∷ without (λ d. d.unit == u)
        (letters_in seats)
    cases true h = ap (λ (l : List (Option Letter)). None ∷ l) h
    cases false h = ap (λ (l : List (Option Letter)). Some x.letter ∷ l) h

-- its letters are the machine's
pub letters_seated : (seats : List (Option Seated)) (n : ℕ) (s : Seated) → letters_in (put_on (λ e. e.letter.unit) s n seats) ≡ put_on (λ d. d.unit) s.letter n (letters_in seats)
letters_seated seats n s =
    letters_set (without (λ e. e.letter.unit == s.letter.unit) seats) n s
    ∙ ap (λ (l : List (Option Letter)). slice_set l n (Some s.letter)) (letters_without s.letter.unit seats)
