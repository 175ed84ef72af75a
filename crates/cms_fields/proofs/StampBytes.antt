-- A stamp is read back from the date and the flags that are written for it, and these from the stamp that they spell.
use Rattle.std.proofs.Common.{◌≡◌, ◌⊎◌, ⊎_elim, ℕ, suc, ◌+◌, ◌*◌, ◌/◌, ◌%◌, ◌<◌, ◌≤◌, List, [], ◌∷◌, length, drop, get_or, refl, sym, ◌∙◌, ap, subst, arith, Bool, true, false, Some, None, Option, drop-cons, cond}
use Rattle.std.specs.Prelude.{◌==◌, nat_le, nat_lt, bit_and}
use Rattle.std.proofs.lemmas.Bool.{le-leb, lt-leb, lt-ltb, ltb-true, and_parts, and_from, cases_Bool, cases_lt}
use Rattle.std.proofs.lemmas.List.{drop_all}
use Rattle.cms_text.specs.Bytes.{byte}
use Rattle.cms_fields.specs.Stamps.{packed, unpacked, is_packed, century, stamp_at, are_packed, has_stamp, is_stamp, stamp_in, stamp_bytes, stamp_flags}
use Rattle.cms_fields.specs.declared.time.Stamp.{Stamp}
use Rattle.cms_fields.proofs.NewLabel.{of_six}
use Rattle.cms_fields.proofs.Dates.{stamp_small, IsSmall}

-- the six bytes at a place are those of a stamp's date
pub record Spells (bytes : List ℕ) (at : ℕ) (s : Stamp) : Type 0 where
  pub year : byte bytes at ≡ packed (s.year % 100)
  pub month : byte bytes (at + 1) ≡ packed s.month
  pub day : byte bytes (at + 2) ≡ packed s.day
  pub hour : byte bytes (at + 3) ≡ packed s.hour
  pub minute : byte bytes (at + 4) ≡ packed s.minute
  pub second : byte bytes (at + 5) ≡ packed s.second

-- ---- a stamp that is written

-- a number of two digits is read back
unpacked_back : (n : ℕ) → n ≤ 99 → unpacked (packed n) ≡ n
unpacked_back n few = omega arith

packed_is : (n : ℕ) → n ≤ 99 → is_packed (packed n) ≡ true
packed_is n few =
    let high : packed n / 16 < 10 = omega arith in
    let low : packed n % 16 < 10 = omega arith in
    and_from _ _ (lt-ltb (packed n / 16) 10 high) (lt-ltb (packed n % 16) 10 low)

short : (n : ℕ) → n % 100 ≤ 99
short n = omega arith

-- a year is its century and its last two digits
year_back : (s : Stamp) → 1900 ≤ s.year → s.year ≤ 2099 → century (stamp_flags s) + s.year % 100 ≡ s.year
unfolding stamp_flags
year_back s low high = ⊎_elim
    (λ (early : s.year < 2000). let no : nat_le 2000 s.year ≡ false = lt-leb 2000 s.year early in rw no (omega arith))
    (λ (late : 2000 ≤ s.year). rw (le-leb 2000 s.year late) (omega arith))
    (cases_lt s.year 2000)

pub stamp_back : (bytes : List ℕ) (at : ℕ) (s : Stamp) → Spells bytes at s → IsSmall s → stamp_at bytes at (stamp_flags s) ≡ s
unfolding stamp_at
stamp_back bytes at s spells small = λ i. record {
  year = (ap (λ b. century (stamp_flags s) + unpacked b) spells.year ∙ ap (λ n. century (stamp_flags s) + n) (unpacked_back (s.year % 100) (short s.year))
      ∙ year_back s small.first_year small.last_year) i;
  month = (ap unpacked spells.month ∙ unpacked_back s.month small.month) i;
  day = (ap unpacked spells.day ∙ unpacked_back s.day small.day) i;
  hour = (ap unpacked spells.hour ∙ unpacked_back s.hour small.hour) i;
  minute = (ap unpacked spells.minute ∙ unpacked_back s.minute small.minute) i;
  second = (ap unpacked spells.second ∙ unpacked_back s.second small.second) i;
}

packed_back : (bytes : List ℕ) (at : ℕ) (s : Stamp) → Spells bytes at s → IsSmall s → are_packed bytes at ≡ true
unfolding are_packed
packed_back bytes at s spells small =
    let year : is_packed (byte bytes at) ≡ true = rw spells.year (packed_is (s.year % 100) (short s.year)) in
    let month : is_packed (byte bytes (at + 1)) ≡ true = rw spells.month (packed_is s.month small.month) in
    let day : is_packed (byte bytes (at + 2)) ≡ true = rw spells.day (packed_is s.day small.day) in
    let hour : is_packed (byte bytes (at + 3)) ≡ true = rw spells.hour (packed_is s.hour small.hour) in
    let minute : is_packed (byte bytes (at + 4)) ≡ true = rw spells.minute (packed_is s.minute small.minute) in
    let second : is_packed (byte bytes (at + 5)) ≡ true = rw spells.second (packed_is s.second small.second) in
    and_from _ _ (and_from _ _ (and_from _ _ (and_from _ _ (and_from _ _ year month) day) hour) minute) second

pub has_back : (bytes : List ℕ) (at : ℕ) (s : Stamp) → Spells bytes at s → is_stamp s ≡ true → has_stamp bytes at (stamp_flags s) ≡ true
unfolding has_stamp
has_back bytes at s spells is =
    let small = stamp_small s is in
    rw (packed_back bytes at s spells small, stamp_back bytes at s spells small) is

-- what is written for a stamp spells it
pub written_spells : (s : Stamp) → is_stamp s ≡ true → stamp_in (stamp_bytes s) (stamp_flags s) ≡ Some s
unfolding stamp_in stamp_bytes
written_spells s is =
    let spells : Spells (stamp_bytes s) 0 s = record { year = refl; month = refl; day = refl; hour = refl; minute = refl; second = refl } in
    rw (has_back (stamp_bytes s) 0 s spells is, stamp_back (stamp_bytes s) 0 s spells (stamp_small s is)) refl

-- ---- a stamp that is read

-- a byte of two digits is the one that is written for its number
packed_again : (b : ℕ) → is_packed b ≡ true → packed (unpacked b) ≡ b
packed_again b is =
    let parts = and_parts (nat_lt (b / 16) 10) (nat_lt (b % 16) 10) is in
    let high = ltb-true (b / 16) 10 parts.0 in
    let low = ltb-true (b % 16) 10 parts.1 in
    omega arith

unpacked_few : (b : ℕ) → is_packed b ≡ true → unpacked b ≤ 99
unpacked_few b is =
    let parts = and_parts (nat_lt (b / 16) 10) (nat_lt (b % 16) 10) is in
    let high = ltb-true (b / 16) 10 parts.0 in
    let low = ltb-true (b % 16) 10 parts.1 in
    omega arith

-- the last two digits of a year of either century
digits_again : (flags n : ℕ) → n ≤ 99 → (century flags + n) % 100 ≡ n
digits_again flags n few = ⊎_elim
    (λ (old : (bit_and flags 0x08 == 0) ≡ true). rw old (omega arith))
    (λ (new : (bit_and flags 0x08 == 0) ≡ false). rw new (omega arith))
    (cases_Bool (bit_and flags 0x08 == 0))

-- its flags tell the same century
same_century : (flags n : ℕ) (s : Stamp) → s.year ≡ century flags + n → n ≤ 99 → century (stamp_flags s) ≡ century flags
unfolding stamp_flags
same_century flags n s is few = ⊎_elim
    (λ (old : (bit_and flags 0x08 == 0) ≡ true).
    let year : s.year ≡ 1900 + n = rw old at is in
    rw (lt-leb 2000 s.year (omega arith), old) refl)
    (λ (new : (bit_and flags 0x08 == 0) ≡ false).
    let year : s.year ≡ 2000 + n = rw new at is in
    rw (le-leb 2000 s.year (omega arith), new) refl)
    (cases_Bool (bit_and flags 0x08 == 0))

-- a date and flags that spell a stamp: the bytes are those that are written for it, and it is of the century that the flags tell
record IsSpelled (date : List ℕ) (flags : ℕ) : Type 0 where
  bytes : stamp_bytes (stamp_at date 0 flags) ≡ date
  same : century (stamp_flags (stamp_at date 0 flags)) ≡ century flags

six_spelled : (a b c d e f flags : ℕ) → has_stamp (a ∷ b ∷ c ∷ d ∷ e ∷ f ∷ []) 0 flags ≡ true → IsSpelled (a ∷ b ∷ c ∷ d ∷ e ∷ f ∷ []) flags
unfolding has_stamp are_packed stamp_at stamp_bytes
six_spelled a b c d e f flags is =
    let p = and_parts _ _ (and_parts _ _ is).0 in
    let q = and_parts _ _ p.0 in
    let r = and_parts _ _ q.0 in
    let s = and_parts _ _ r.0 in
    let t = and_parts _ _ s.0 in
    let few = unpacked_few a t.0 in
    let year : packed ((century flags + unpacked a) % 100) ≡ a = ap packed (digits_again flags (unpacked a) few) ∙ packed_again a t.0 in
    record {
      bytes = rw (year, packed_again b t.1, packed_again c s.1, packed_again d r.1, packed_again e q.1, packed_again f p.1) refl;
      same = same_century flags (unpacked a) (stamp_at (a ∷ b ∷ c ∷ d ∷ e ∷ f ∷ []) 0 flags) refl few;
    }

is_spelled : (date : List ℕ) (flags : ℕ) → length date ≡ 6 → has_stamp date 0 flags ≡ true → IsSpelled date flags
is_spelled date flags long = of_six (λ (l : List ℕ). has_stamp l 0 flags ≡ true → IsSpelled l flags) date long (λ a b c d e f. six_spelled a b c d e f flags)

pub bytes_spelled : (date : List ℕ) (flags : ℕ) → length date ≡ 6 → has_stamp date 0 flags ≡ true → stamp_bytes (stamp_at date 0 flags) ≡ date
bytes_spelled date flags long is = (is_spelled date flags long is).bytes

pub century_told : (date : List ℕ) (flags : ℕ) → length date ≡ 6 → has_stamp date 0 flags ≡ true → century (stamp_flags (stamp_at date 0 flags)) ≡ century flags
century_told date flags long is = (is_spelled date flags long is).same
