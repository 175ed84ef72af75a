-- The disks of units among the letters of a table.
use Rattle.std.proofs.Common.{◌≡◌, ◌≢◌, ⊎_elim, ℕ, zero, suc, ◌<◌, List, [], ◌∷◌, get_or, length, refl, sym, ap, subst, ◌∙◌, arith}
use Rattle.std.specs.Prelude.{Bool, true, false, cond, ◌==◌, Option, Some, None, IfSome, option_map, slice_get, slice_set}
use Rattle.std.specs.Option.{ForSome, IsSome, option_and_then}
use Rattle.std.proofs.lemmas.Bool.{eq-eqb, eqb-true, ne_eqb}
use Rattle.std.proofs.lemmas.List.{length-set}
use Rattle.std.proofs.lemmas.Option.{same_Some}
use Rattle.cms_model.proofs.Units.{get_other}
use Rattle.cms_disk.specs.Disks.{Accessed}
use Rattle.cms_search.specs.Held.{disk_of}
use Rattle.cms_search.specs.Machine.{Letter}
use Rattle.cms_search.specs.Searches.{item_at}
use Rattle.cms_search.specs.Seats.{HasDisk}
use Rattle.cms_search.specs.Tables.{AccessTable, IsReadingOf, IsTable, KeepsItsOwn, Seated, StandOnce, cleared, letters_in, reading_on, seat_with, with_disk, with_reading}
use Rattle.cms_search.specs.declared.readings.KeptReading.{KeptReading}
use Rattle.cms_search.proofs.Tables.{item_put}

-- ---- options

-- what is said of each of some is said of this
pub some_maps : {A : Type 0} (x : Option A) (P Q : A → Type 0) → ((a : A) → P a → Q a) → IfSome x P → IfSome x Q
some_maps None P Q maps h = tt
some_maps (Some a) P Q maps h = maps a h

-- ---- places in lists

pub item_kept : {A : Type 0} (xs : List (Option A)) (n : ℕ) (v : Option A) (a : ℕ) (e : A) → a ≢ n → item_at xs a ≡ Some e → item_at (slice_set xs n v) a ≡ Some e
item_kept {A = A} xs n v a e apart is = ap (λ (x : Option (Option A)). option_and_then (λ y. y) x) (get_other xs n a v apart) ∙ is

pub item_here : {A : Type 0} (xs : List (Option A)) (n : ℕ) (v : Option A) → n < length xs → item_at (slice_set xs n v) n ≡ v
item_here [] n v less = absurd (omega (arith, less))
item_here (x ∷ xs) zero v less = refl
item_here (x ∷ xs) (suc n) v less = item_here xs n v (omega (arith, less))

pub item_within : {A : Type 0} (xs : List (Option A)) (n : ℕ) (e : A) → item_at xs n ≡ Some e → n < length xs
item_within [] n e is = absurd (cc is)
item_within (x ∷ xs) zero e is = omega arith
item_within (x ∷ xs) (suc n) e is = let h = item_within xs n e is in omega (arith, h)

set_twice : {A : Type 0} (xs : List A) (n : ℕ) (v w : A) → slice_set (slice_set xs n v) n w ≡ slice_set xs n w
set_twice [] n v w = refl
set_twice (x ∷ xs) zero v w = refl
set_twice (x ∷ xs) (suc n) v w = ap (λ (l : List _). x ∷ l) (set_twice xs n v w)

-- ---- the disk of a unit

-- a disk of the unit has a letter
pub record Stands (seats : List (Option Seated)) (u : ℕ) (s : Seated) : Type 0 where
  pub place : ℕ
  pub at : item_at seats place ≡ Some s
  pub of_unit : s.letter.unit ≡ u

stands_on : (x : Option Seated) (seats : List (Option Seated)) (u : ℕ) (s : Seated) → Stands seats u s → Stands (x ∷ seats) u s
stands_on x seats u s h = record { place = suc h.place; at = h.at; of_unit = h.of_unit }

pub disk_found : (seats : List (Option Seated)) (u : ℕ) (s : Seated) → disk_of u seats ≡ Some s → Stands seats u s
disk_found [] u s is = absurd (cc is)
disk_found (None ∷ seats) u s is = stands_on None seats u s (disk_found seats u s is)
disk_found (Some x ∷ seats) u s is = cases (x.letter.unit == u) refl (λ rest. disk_found seats u s rest) is
  where
    cases : (b : Bool) → (x.letter.unit == u) ≡ b → (disk_of u seats ≡ Some s → Stands seats u s) → cond b (Some x) (disk_of u seats) ≡ Some s → Stands (Some x ∷ seats) u s
    cases true tells behind is =
        record { place = 0; at = is; of_unit = subst (λ (y : Seated). y.letter.unit ≡ u) (same_Some x s is) (eqb-true x.letter.unit u tells) }
    cases false tells behind is = stands_on (Some x) seats u s (behind is)

once_behind : (x : Option Seated) (seats : List (Option Seated)) → StandOnce (x ∷ seats) → StandOnce seats
once_behind x seats once a b s t is_s is_t same = let e = once (suc a) (suc b) s t is_s is_t same in omega (arith, e)

pub disk_there : (seats : List (Option Seated)) (n : ℕ) (s : Seated) → StandOnce seats → item_at seats n ≡ Some s → disk_of s.letter.unit seats ≡ Some s
disk_there [] n s once is = absurd (cc is)
disk_there (None ∷ seats) zero s once is = absurd (cc is)
disk_there (None ∷ seats) (suc n) s once is = disk_there seats n s (once_behind None seats once) is
disk_there (Some x ∷ seats) zero s once is =
    let tells = eq-eqb s.letter.unit s.letter.unit refl in
    subst (λ (y : Seated). disk_of s.letter.unit (Some y ∷ seats) ≡ Some s) (sym (same_Some x s is)) (rw tells refl)
disk_there (Some x ∷ seats) (suc n) s once is =
    let tells = ne_eqb x.letter.unit s.letter.unit (λ same. let e = once 0 (suc n) x s refl is same in omega (arith, e)) in
    rw tells (disk_there seats n s (once_behind (Some x) seats once) is)

-- it is the same among letters that have the same disks of the unit
pub disk_same : (seats seats' : List (Option Seated)) (u : ℕ) → StandOnce seats → StandOnce seats'
    → ((n : ℕ) (s : Seated) → item_at seats n ≡ Some s → s.letter.unit ≡ u → (m : ℕ) × (item_at seats' m ≡ Some s))
    → ((n : ℕ) (s : Seated) → item_at seats' n ≡ Some s → s.letter.unit ≡ u → (m : ℕ) × (item_at seats m ≡ Some s)) → disk_of u seats' ≡ disk_of u seats
disk_same seats seats' u once once' there back = cases (disk_of u seats) refl (disk_of u seats') refl
  where
    cases : (x : Option Seated) → disk_of u seats ≡ x → (y : Option Seated) → disk_of u seats' ≡ y → y ≡ x
    cases None is None is' = refl
    cases (Some s) is y is' =
        let f = disk_found seats u s is in
        let m = there f.place s f.at f.of_unit in
        sym is' ∙ subst (λ (v : ℕ). disk_of v seats' ≡ Some s) f.of_unit (disk_there seats' m.0 s once' m.1)
    cases None is (Some s) is' =
        let f = disk_found seats' u s is' in
        let m = back f.place s f.at f.of_unit in
        sym (subst (λ (v : ℕ). disk_of v seats ≡ Some s) f.of_unit (disk_there seats m.0 s once m.1)) ∙ is

-- where the letter of another unit has another disk of that unit now, or none
pub disk_elsewhere : (seats : List (Option Seated)) (n : ℕ) (s : Seated) (x : Option Seated) (u : ℕ) → StandOnce seats → StandOnce (slice_set seats n x)
    → item_at seats n ≡ Some s → ((e : Seated) → x ≡ Some e → e.letter.unit ≡ s.letter.unit) → s.letter.unit ≢ u → disk_of u (slice_set seats n x) ≡ disk_of u seats
disk_elsewhere seats n s x u once once' at own apart = disk_same seats (slice_set seats n x) u once once' there back
  where
    there : (a : ℕ) (e : Seated) → item_at seats a ≡ Some e → e.letter.unit ≡ u → (m : ℕ) × (item_at (slice_set seats n x) m ≡ Some e)
    there a e is of_unit =
        let other : a ≢ n = λ same.
        let here : item_at seats a ≡ Some s = subst (λ (k : ℕ). item_at seats k ≡ Some s) (sym same) at in
        apart (ap (λ (y : Seated). y.letter.unit) (same_Some s e (sym here ∙ is)) ∙ of_unit) in
        (a, item_kept seats n x a e other is)

    back : (a : ℕ) (e : Seated) → item_at (slice_set seats n x) a ≡ Some e → e.letter.unit ≡ u → (m : ℕ) × (item_at seats m ≡ Some e)
    back a e is of_unit = ⊎_elim
        (λ (h : (a ≡ n) × (x ≡ Some e)). absurd (apart (sym (own e h.1) ∙ of_unit)))
        (λ (h : (a ≢ n) × (item_at seats a ≡ Some e)). (a, h.1))
        (item_put seats n x a e is)

-- ---- a letter's disk is another, or keeps another reading

-- the same marks, with this disk and reading
abbrev pub seat_as : Seated → Accessed → Option KeptReading → Seated
seat_as s d r = record s { disk = d; reading = r }

abbrev pub table_as : AccessTable → ℕ → Seated → Accessed → Option KeptReading → AccessTable
table_as t n s d r = record t { seats = slice_set t.seats n (Some (seat_as s d r)) }

-- each seat then was there with the same marks
was : (t : AccessTable) (n : ℕ) (s : Seated) (d : Accessed) (r : Option KeptReading) → item_at t.seats n ≡ Some s → (a : ℕ) (x : Seated)
    → item_at (slice_set t.seats n (Some (seat_as s d r))) a ≡ Some x → (y : Seated) × (item_at t.seats a ≡ Some y) × (x.letter ≡ y.letter)
was t n s d r at a x is = ⊎_elim
    (λ (h : (a ≡ n) × (Some (seat_as s d r) ≡ Some x)).
    (s, subst (λ (k : ℕ). item_at t.seats k ≡ Some s) (sym h.0) at, ap (λ (y : Seated). y.letter) (sym (same_Some (seat_as s d r) x h.1))))
    (λ (h : (a ≢ n) × (item_at t.seats a ≡ Some x)). (x, h.1, refl))
    (item_put t.seats n (Some (seat_as s d r)) a x is)

-- with another disk no reading is kept
abbrev pub table_with : AccessTable → ℕ → Seated → Accessed → AccessTable
table_with t n s d = table_as t n s d None

abbrev pub table_reading : AccessTable → ℕ → Seated → Option KeptReading → AccessTable
table_reading t n s r = table_as t n s s.disk r

pub with_disk_is : (t : AccessTable) (n : ℕ) (s : Seated) (d : Accessed) → item_at t.seats n ≡ Some s → with_disk n d t ≡ table_with t n s d
with_disk_is t n s d at = rw at refl

pub with_reading_is : (t : AccessTable) (n : ℕ) (s : Seated) (r : Option KeptReading) → item_at t.seats n ≡ Some s → with_reading n r t ≡ table_reading t n s r
with_reading_is t n s r at = rw at refl

pub is_table_as : (t : AccessTable) (n : ℕ) (s : Seated) (d : Accessed) (r : Option KeptReading) → IsTable t → item_at t.seats n ≡ Some s → IfSome r (IsReadingOf d)
    → IsTable (table_as t n s d r)
is_table_as t n s d r is at own = record {
  distinct = is.distinct;
  doubts = is.doubts;
  letters = length-set t.seats n (Some (seat_as s d r)) ∙ is.letters;
  once = λ a b x y is_x is_y same.
      let p = was t n s d r at a x is_x in
      let q = was t n s d r at b y is_y in
      is.once a b p.0 q.0 p.1 q.1 (sym (ap (λ (l : Letter). l.unit) p.2) ∙ same ∙ ap (λ (l : Letter). l.unit) q.2);
  sure = λ a x is_x.
      let p = was t n s d r at a x is_x in
      subst (λ (u : ℕ). slice_get t.doubts u ≡ Some false) (sym (ap (λ (l : Letter). l.unit) p.2)) (is.sure a p.0 p.1);
  readings = λ a x is_x. ⊎_elim
      (λ (h : (a ≡ n) × (Some (seat_as s d r) ≡ Some x)). subst (λ (y : Seated). KeepsItsOwn y) (same_Some (seat_as s d r) x h.1) own)
      (λ (h : (a ≢ n) × (item_at t.seats a ≡ Some x)). is.readings a x h.1)
      (item_put t.seats n (Some (seat_as s d r)) a x is_x);
}

pub is_table_with : (t : AccessTable) (n : ℕ) (s : Seated) (d : Accessed) → IsTable t → item_at t.seats n ≡ Some s → IsTable (table_with t n s d)
is_table_with t n s d is at = is_table_as t n s d None is at tt

-- the letters are the same
pub letters_as : (seats : List (Option Seated)) (n : ℕ) (s : Seated) (d : Accessed) (r : Option KeptReading) → item_at seats n ≡ Some s
    → letters_in (slice_set seats n (Some (seat_as s d r))) ≡ letters_in seats
letters_as [] n s d r at = refl
letters_as (x ∷ seats) zero s d r at = ap (λ (y : Option Seated). option_map (λ (z : Seated). z.letter) y ∷ letters_in seats) (sym at)
letters_as (x ∷ seats) (suc n) s d r at = ap (λ (l : List (Option Letter)). option_map (λ (z : Seated). z.letter) x ∷ l) (letters_as seats n s d r at)

pub letters_with : (seats : List (Option Seated)) (n : ℕ) (s : Seated) (d : Accessed) → item_at seats n ≡ Some s → letters_in (slice_set seats n (Some (seat_with s d))) ≡ letters_in seats
letters_with seats n s d at = letters_as seats n s d None at

pub letters_cleared : (seats : List (Option Seated)) (n : ℕ) → letters_in (cleared n seats) ≡ cleared n (letters_in seats)
letters_cleared [] n = refl
letters_cleared (x ∷ seats) zero = refl
letters_cleared (x ∷ seats) (suc n) = ap (λ (l : List (Option Letter)). option_map (λ (z : Seated). z.letter) x ∷ l) (letters_cleared seats n)

-- a letter that is cleared then is cleared before
pub cleared_with : (t : AccessTable) (n : ℕ) (s : Seated) (d : Accessed) → cleared n (table_with t n s d).seats ≡ cleared n t.seats
cleared_with t n s d = set_twice t.seats n (Some (seat_with s d)) None

-- ---- a seat that is read and changed in its place

read_seat : (xs : List (Option Seated)) (n : ℕ) (x : Option Seated) → IsSome (item_at xs n) → x ≡ get_or xs n x → item_at xs n ≡ x
read_seat [] n x some is = absurd (cc some)
read_seat (y ∷ ys) zero x some is = sym is
read_seat (y ∷ ys) (suc n) x some is = read_seat ys n x some is

-- a place of the list has what is read there
pub item_read : (xs : List (Option Seated)) (n : ℕ) (x : Option Seated) → n < length xs → x ≡ get_or xs n x → item_at xs n ≡ x
item_read [] n x less is = absurd (omega (arith, less))
item_read (y ∷ ys) zero x less is = sym is
item_read (y ∷ ys) (suc n) x less is = item_read ys n x (omega (arith, less)) is

no_seat : (x : Option Seated) → x ≡ None → IsSome x → ⊥
no_seat None is some = absurd (cc some)
no_seat (Some s) is some = absurd (cc is)

has_disk : (IsSo : Seated → Accessed → Type 0) (t new : AccessTable) (n : ℕ) (s : Seated) (disk : Accessed) → item_at t.seats n ≡ Some s → new ≡ table_with t n s disk → IsSo s disk
    → IfSome (item_at t.seats n) (λ x. HasDisk t new n (IsSo x))
has_disk IsSo t new n s disk at is does = rw at (record { disk = disk; table = is ∙ sym (with_disk_is t n s disk at); does = does })

some_within : (xs : List (Option Seated)) (n : ℕ) → IsSome (item_at xs n) → n < length xs
some_within [] n some = absurd (cc some)
some_within (y ∷ ys) zero some = omega arith
some_within (y ∷ ys) (suc n) some = let h = some_within ys n some in omega (arith, h)

-- the list of a table's seats, which has this length, has the place of an accessed letter
pub seat_within : (t shown : AccessTable) (n size : ℕ) → t ≡ shown → IsSome (item_at shown.seats n) → size ≡ length t.seats → n < size
seat_within t shown n size view accessed is =
    subst (λ (l : ℕ). n < l) (sym is) (some_within t.seats n (subst (λ (y : AccessTable). IsSome (item_at y.seats n)) (sym view) accessed))

-- the place of letter n, which is accessed, has x; the table of these parts is the one shown
module _ (t shown : AccessTable) (n : ℕ) (x : Option Seated) (view : t ≡ shown) (accessed : IsSome (item_at shown.seats n)) (value : x ≡ get_or t.seats n x) where
  some_there : IsSome (item_at t.seats n)
  some_there = subst (λ (y : AccessTable). IsSome (item_at y.seats n)) (sym view) accessed

  -- so it is no empty place
  pub seat_lost : x ≡ None → ⊥
  seat_lost none = no_seat (item_at t.seats n) (read_seat t.seats n x some_there value ∙ none) some_there

  pub seat_at : (s has : Seated) → x ≡ Some has → s ≡ has → item_at t.seats n ≡ Some s
  seat_at s has is same = read_seat t.seats n x some_there value ∙ is ∙ ap (λ (y : Seated). Some y) (sym same)

  -- with another disk it is a table still
  pub table_kept : (s has : Seated) (d : Accessed) → IsTable t → x ≡ Some has → s ≡ has → IsTable (table_with t n s d)
  table_kept s has d table is same = is_table_with t n s d table (seat_at s has is same)

  -- and the letter has that disk
  pub seat_changed : (IsSo : Seated → Accessed → Type 0) (new : AccessTable) (s has : Seated) (d : Accessed) → x ≡ Some has → s ≡ has → new ≡ table_with t n s d → IsSo s d
      → IfSome (item_at shown.seats n) (λ y. HasDisk shown new n (IsSo y))
  seat_changed IsSo new s has d is same put does =
      subst (λ (y : AccessTable). IfSome (item_at y.seats n) (λ z. HasDisk y new n (IsSo z))) view (has_disk IsSo t new n s d (seat_at s has is same) put does)

  -- or it keeps another reading, and is a table still
  pub table_reads : (s has : Seated) (r : Option KeptReading) → IsTable t → x ≡ Some has → s ≡ has → IfSome r (IsReadingOf s.disk) → IsTable (table_reading t n s r)
  table_reads s has r table is same own = is_table_as t n s s.disk r table (seat_at s has is same) own

  pub reading_set : (new : AccessTable) (s has : Seated) (r : Option KeptReading) → x ≡ Some has → s ≡ has → new ≡ table_reading t n s r → new ≡ with_reading n r shown
  reading_set new s has r is same put = put ∙ (sym (with_reading_is t n s r (seat_at s has is same)) ∙ ap (λ (y : AccessTable). with_reading n r y) view)

  -- the one that it kept
  pub reading_was : (s has : Seated) → x ≡ Some has → s ≡ has → reading_on shown n ≡ s.reading
  reading_was s has is same =
      ap (λ (y : AccessTable). reading_on y n) (sym view) ∙ ap (λ (y : Option Seated). option_and_then (λ (z : Seated). z.reading) y) (seat_at s has is same)

  -- which was of its own
  pub reading_own : (s has : Seated) (r : KeptReading) → IsTable t → x ≡ Some has → s ≡ has → s.reading ≡ Some r → ForSome (item_at shown.seats n) (λ y. IsReadingOf y.disk r)
  reading_own s has r table is same keeps y there =
      let at = seat_at s has is same in
      let here : item_at t.seats n ≡ Some y = subst (λ (z : AccessTable). item_at z.seats n ≡ Some y) (sym view) there in
      let own : IsReadingOf s.disk r = subst (λ (z : Option KeptReading). IfSome z (IsReadingOf s.disk)) keeps (table.readings n s at) in
      subst (λ (z : Seated). IsReadingOf z.disk r) (same_Some s y (sym at ∙ here)) own

-- it has the same disk where that is put in its own place
set_same : {A : Type 0} (xs : List (Option A)) (n : ℕ) (e : A) → item_at xs n ≡ Some e → slice_set xs n (Some e) ≡ xs
set_same [] n e is = refl
set_same (x ∷ xs) zero e is = ap (λ (y : Option _). y ∷ xs) (sym is)
set_same (x ∷ xs) (suc n) e is = ap (λ (l : List (Option _)). x ∷ l) (set_same xs n e is)

-- where it keeps no reading
pub has_same : (IsSo : Accessed → Type 0) (t : AccessTable) (n : ℕ) (s : Seated) → item_at t.seats n ≡ Some s → s.reading ≡ None → IsSo s.disk → HasDisk t t n IsSo
has_same IsSo t n s at none does = record {
  disk = s.disk;
  table = sym (with_disk_is t n s s.disk at
      ∙ (ap (λ (r : Option KeptReading). table_reading t n s r) (sym none) ∙ ap (λ (l : List (Option Seated)). record t { seats = l }) (set_same t.seats n s at)));
  does = does;
}

-- and the last of two disks
pub with_disk_twice : (t : AccessTable) (n : ℕ) (s : Seated) (d e : Accessed) → item_at t.seats n ≡ Some s → with_disk n e (with_disk n d t) ≡ with_disk n e t
with_disk_twice t n s d e at =
    let there = item_here t.seats n (Some (seat_with s d)) (item_within t.seats n s at) in
    ap (with_disk n e) (with_disk_is t n s d at)
    ∙ (with_disk_is (table_with t n s d) n (seat_with s d) e there
    ∙ (ap (λ (l : List (Option Seated)). record t { seats = l }) (set_twice t.seats n (Some (seat_with s d)) (Some (seat_with s e))) ∙ sym (with_disk_is t n s e at)))

-- and is accessed still, as the same unit
pub seat_there : {IsSo : Accessed → Type 0} (t new : AccessTable) (n : ℕ) (s : Seated) → item_at t.seats n ≡ Some s → (h : HasDisk t new n IsSo)
    → item_at new.seats n ≡ Some (seat_with s h.disk)
seat_there t new n s at h =
    ap (λ (x : AccessTable). item_at x.seats n) (h.table ∙ with_disk_is t n s h.disk at)
    ∙ item_here t.seats n (Some (seat_with s h.disk)) (item_within t.seats n s at)
