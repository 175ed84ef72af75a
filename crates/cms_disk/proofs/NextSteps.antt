-- What taking bytes and reading blocks keep of a cursor, until a record is whole.
use Rattle.std.proofs.Common.{◌≡◌, ◌⊎◌, inl, inr, ℕ, ◌+◌, ◌-◌, ◌*◌, ◌<◌, ◌≤◌, Bool, true, false, List, length, drop, Result, Err, IsErrAnd, sym, ◌∙◌, ap, subst, arith, length-drop, mul-le-mul_right, Fits, w32, w64, [], Option}
use Rattle.cms_journal.specs.Journal.{Journal, contents_of}
use Rattle.cms_model.specs.Trees.{Image, image_of}
use Rattle.cms_fields.specs.Limits.{longest_record, most_bytes}
use Rattle.cms_records.specs.Pieces.{RecordState, Takes}
use Rattle.cms_records.proofs.Feeds.{begun_sum}
use Rattle.std.specs.Prelude.{IfSome}
use Rattle.cms_disk.specs.Cursors.{AreOn, Cursor, HandsOut, HasLeft, HasLengths, HoldsLittle, IsNeeded, IsReading, IsShort, SameFile, TextFits, Waits, WaitsFor}
use Rattle.cms_disk.specs.declared.fault.DiskFault.{DiskFault}
use Rattle.cms_disk.specs.declared.fault.DiskFault.TheVariants.{Device, Altered, Memory}
use Rattle.cms_disk.proofs.BytesTaken.{takes_all, text_fits}
use Rattle.cms_disk.proofs.ReadMoves.{BegunAt}
use Rattle.cms_disk.proofs.ReadSteps.{err_is}

-- ---- a record is handed out, so that fewer are left

pub held_left : (r : Cursor) (n : ℕ) → HoldsLittle r → HoldsLittle (record r { left = n })
held_left r n h = record { block = h.block; begun = h.begun }

pub reading_left : (r : Cursor) (n : ℕ) → IsReading r → IsReading (record r { left = n })
reading_left r n i = record {
  held = held_left r n i.held;
  lengths = i.lengths;
  leaves = i.leaves;
  taken = i.taken;
  over = i.over;
  done = i.done;
  few = i.few;
  within = i.within;
  some = i.some;
}

pub text_left : (r : Cursor) (n : ℕ) → TextFits r → TextFits (record r { left = n })
text_left r n t = record { some = t.some; short = t.short; fixed = t.fixed }

pub file_left : (a b : Cursor) (n : ℕ) → SameFile a b → SameFile a (record b { left = n })
file_left a b n same = record { unit = same.unit; total = same.total; bsize = same.bsize; leaves = same.leaves; fixed = same.fixed; longest = same.longest }

pub one_less : (n m : ℕ) → 1 ≤ n → m ≡ n → n ≡ m - 1 + 1
one_less n m some same = omega (arith, some, same)

pub some_as : (n m : ℕ) → n ≡ m → 1 ≤ m → 1 ≤ n
some_as n m same some = omega (arith, same, some)

-- ---- bytes were taken, and then a block was read

module _ (first a b : Cursor) (begun : BegunAt first a) (same : b ≡ record a { begun = b.begun; from = b.from; altered = b.altered }) where
  done_on : b.done ≡ a.done
  done_on = ap (λ (r : Cursor). r.done) same

  over_on : b.over ≡ a.over
  over_on = ap (λ (r : Cursor). r.over) same

  needed_by : BegunAt first a → (IsShort a.begun → a.from < b.bsize → a.from < b.from) → IsNeeded first b
  needed_by (inl (d, o)) moved = inl (done_on ∙ d)
  needed_by (inr (short, less, later, behind)) moved =
      let more = moved short (let s = ap (λ (r : Cursor). r.bsize) same in omega (arith, less, s)) in
      inr (omega (arith, more), λ is. (let o = behind (sym done_on ∙ is) in omega (arith, o, more)))

  -- no block was read that isn't needed
  pub needed_taken : (n : ℕ) → (IsShort a.begun → a.from < a.bsize → a.from < b.from) → IsNeeded first (record b { left = n })
  needed_taken n moved = needed_by begun (λ short less. moved short (let s = ap (λ (r : Cursor). r.bsize) same in omega (arith, less, s)))

  begun_by : (c : Cursor) → BegunAt first a → Waits b → c ≡ record b { done = c.done; block = c.block; from = c.from; over = c.over; altered = c.altered } → c.done ≡ b.done + 1 → c.from ≡ b.over
      → c.from < c.bsize → BegunAt first c
  begun_by c (inl (d, o)) waits read next from less =
      let e = done_on in
      let f = over_on in
      inr (subst IsShort (sym (ap (λ (r : Cursor). r.begun) read)) waits.0, less, omega (arith, d, e, next), λ is. omega (arith, o, f, from))
  begun_by c (inr (short, within, later, behind)) waits read next from less =
      let e = done_on in
      inr (subst IsShort (sym (ap (λ (r : Cursor). r.begun) read)) waits.0, less, omega (arith, later, e, next), λ is. absurd (omega (arith, later, e, next, is)))

  pub begun_next : (c : Cursor) → Waits b → c ≡ record b { done = c.done; block = c.block; from = c.from; over = c.over; altered = c.altered } → c.done ≡ b.done + 1 → c.from ≡ b.over
      → c.from < c.bsize → BegunAt first c
  begun_next c waits read next from less = begun_by c begun waits read next from less

  later_by : BegunAt first a → first.done ≤ a.done
  later_by (inl (d, o)) = omega (arith, d)
  later_by (inr (short, within, later, behind)) = omega (arith, later)

  -- the next block was not read
  pub waits_for : (c : Cursor) → a.left ≡ first.left → a.altered ≡ first.altered → b.altered ≡ a.altered → Waits b → c ≡ record b { block = c.block } → WaitsFor first c
  waits_for c left sound kept waits unread = record {
    left = ap (λ (r : Cursor). r.left) unread ∙ (ap (λ (r : Cursor). r.left) same ∙ left);
    sound = ap (λ (r : Cursor). r.altered) unread ∙ (kept ∙ sound);
    waits = (subst IsShort (sym (ap (λ (r : Cursor). r.begun) unread)) waits.0, ap (λ (r : Cursor). r.from) unread ∙ (waits.1 ∙ sym (ap (λ (r : Cursor). r.bsize) unread)));
    later = (let later = later_by begun in let d = ap (λ (r : Cursor). r.done) unread in let e = done_on in omega (arith, later, d, e));
  }

-- ---- the records that are left

-- what is said of the unit that was read is said of that of the file
pub left_on : (j : Journal) (there unit : ℕ) (old new : Cursor) (records : List (List ℕ)) → there ≡ unit
    → (HasLeft (image_of (contents_of j there)) old records → HasLeft (image_of (contents_of j there)) new records) → HasLeft (image_of (contents_of j unit)) old records
    → HasLeft (image_of (contents_of j unit)) new records
left_on j there unit old new records same moved = subst (λ (n : ℕ). HasLeft (image_of (contents_of j n)) old records → HasLeft (image_of (contents_of j n)) new records) same moved

-- they stay where a device failed, and the file is never found altered
pub hands_none : (image : Image) (c : Cursor) (records : List (List ℕ)) (r : Result Bool DiskFault) (why : DiskFault) → IsErrAnd r (λ e. e ≡ why) → (why ≡ Device) ⊎ (why ≡ Altered)
    → (why ≡ Device → HasLeft image c records) → (why ≡ Altered → ⊥) → HandsOut image c records r
hands_none image c records r why h (inl device) stays never = subst (HandsOut image c records) (sym (err_is r why h ∙ ap Err device)) (stays device)
hands_none image c records r why h (inr altered) stays never = absurd (never altered)

-- ---- bytes are taken of the block

pub taken_in : (from bsize : ℕ) (xs ys : List ℕ) → xs ≡ ys → length ys ≡ bsize → from ≤ bsize → from ≤ length xs
taken_in from bsize xs ys there long within = let same = ap length there in omega (arith, same, long, within)

most_few : (place bytes bsize done from leaves : ℕ) → place + bytes + bsize ≤ done * bsize + from → done ≤ leaves → leaves * bsize ≤ most_bytes → place + bytes + bsize ≤ most_bytes + from
most_few place bytes bsize done from leaves within read few = let all : done * bsize ≤ leaves * bsize = mul-le-mul_right bsize read in omega (arith, within, all, few)

pub few_taken : (r : Cursor) (xs : List ℕ) → xs ≡ r.block → r.altered ≡ false → IsReading r → r.begun.place + length r.begun.bytes + length xs ≤ most_bytes + r.from
few_taken r xs there sound i =
    let same = ap length there in
    let long = i.held.block in
    let few = most_few r.begun.place (length r.begun.bytes) r.bsize r.done r.from (length r.leaves) (i.within sound) i.done i.few in
    omega (arith, same, long, few)

same_lengths : (old new : RecordState) → HasLengths old → (new.fixed ≡ old.fixed) × (new.longest ≡ old.longest) → HasLengths new
same_lengths old new l rules = record { fixed = rw (rules.0, rules.1) l.fixed; short = rw rules.1 l.short }

still_within : (old new : RecordState) (more : List ℕ) (bsize done from next : ℕ) (whole : Bool) → Takes old new more (next - from) whole → from ≤ next
    → old.place + length old.bytes + bsize ≤ done * bsize + from → new.place + length new.bytes + bsize ≤ done * bsize + next
still_within old new more bsize done from next whole t later within =
    let place = t.told.1 in
    let count = t.taken_is in
    let sum = begun_sum old in
    omega (arith, place, count, sum, later, within)

-- a piece of it was taken
pub reading_taken : (r : Cursor) (b : RecordState) (next : ℕ) (xs : List ℕ) (whole : Bool) → xs ≡ r.block → Takes r.begun b (drop r.from xs) (next - r.from) whole
    → (r.from ≤ next) × (next ≤ length xs) → length b.bytes ≤ b.longest + 2 → (b.fixed ≡ r.begun.fixed) × (b.longest ≡ r.begun.longest) → IsReading r
    → IsReading (record r { begun = b; from = next })
reading_taken r b next xs whole there t within held rules i = record {
  held = record { block = i.held.block; begun = held };
  lengths = same_lengths r.begun b i.lengths rules;
  leaves = i.leaves;
  taken = (let same = ap length there in let long = i.held.block in omega (arith, within.1, same, long));
  over = i.over;
  done = i.done;
  few = i.few;
  within = λ sound. still_within r.begun b (drop r.from xs) r.bsize r.done r.from next whole t within.0 (i.within sound);
  some = i.some;
}

-- a record is whole
pub text_taken : (r : Cursor) (b : RecordState) (next : ℕ) (xs : List ℕ) → Takes r.begun b (drop r.from xs) (next - r.from) true → IsReading r → TextFits (record r { begun = b; from = next })
text_taken r b next xs t i =
    let f = text_fits r.begun b (drop r.from xs) (next - r.from) i.lengths.fixed t in
    record { some = f.0; short = f.1; fixed = f.2 }

-- all of the block was taken, and more bytes are wanted
pub waits_taken : (r : Cursor) (b : RecordState) (next : ℕ) (xs : List ℕ) → xs ≡ r.block → Takes r.begun b (drop r.from xs) (next - r.from) false → (r.from ≤ next) × (next ≤ length xs) → IsReading r
    → IsShort b × (next ≡ r.bsize)
waits_taken r b next xs there t within i =
    let all = takes_all r.begun b (drop r.from xs) (next - r.from) t in
    let d = length-drop r.from xs in
    let e = all.0 in
    let same = ap length there in
    let long = i.held.block in
    (all.1, omega (arith, d, e, same, long, within.0, within.1))

pub after_both : (a b c : ℕ) → a ≤ b → b ≤ c → a ≤ c
after_both a b c first more = omega (arith, first, more)

-- fewer blocks are left
pub fewer_blocks : (a b c : Cursor) → b ≡ record a { begun = b.begun; from = b.from; altered = b.altered }
    → c ≡ record b { done = c.done; block = c.block; from = c.from; over = c.over; altered = c.altered } → c.done ≡ b.done + 1 → b.done < length b.leaves
    → length c.leaves - c.done < length a.leaves - a.done
fewer_blocks a b c taken read next less =
    let l = ap (λ (r : Cursor). length r.leaves) read in
    let m = ap (λ (r : Cursor). length r.leaves) taken in
    let d = ap (λ (r : Cursor). r.done) taken in
    omega (arith, l, m, d, next, less)

-- ---- records are gathered

pub within_all : (n m k most : ℕ) → n ≤ m → m ≡ k → k ≤ most → n ≤ most
within_all n m k most first same more = omega (arith, first, same, more)

pub record_fits : (n : ℕ) → n ≤ longest_record → Fits w32 n
record_fits n few = omega (arith, few)

pub one_fewer : (n m : ℕ) → m ≡ n + 1 → n < m
one_fewer n m same = omega (arith, same)

pub device_or : (e : DiskFault) → (e ≡ Device) ⊎ (e ≡ Altered) → (e ≡ Device) ⊎ ((e ≡ Altered) ⊎ (e ≡ Memory))
device_or e (inl is) = inl is
device_or e (inr is) = inr (inl is)

pub memory_altered : (e : DiskFault) → e ≡ Memory → e ≡ Altered → ⊥
memory_altered e is altered = cc

pub memory_device : (e : DiskFault) → e ≡ Memory → e ≡ Device → ⊥
memory_device e is device = cc

-- ---- before the first record

pub size_fits : (n : ℕ) → n ≤ 4096 → Fits w64 n
size_fits n most = omega (arith, most)

pub some_size : (n m : ℕ) → n ≡ m → 512 ≤ n → 1 ≤ m
some_size n m same least = omega (arith, same, least)

pub reading_first : (number total bsize size left longest : ℕ) (leaves block : List ℕ) (fixed : Option ℕ) (b : RecordState)
    → b ≡ record { fixed = fixed; longest = longest; place = 0; bytes = []; whole = false } → length block ≡ bsize → IfSome fixed (λ n. (1 ≤ n) × (n ≤ longest)) → longest ≤ longest_record
    → AreOn total leaves → size ≡ bsize → 1 ≤ bsize → length leaves * bsize ≤ most_bytes
    → IsReading (record { unit = number; total = total; bsize = bsize; leaves = leaves; done = 0; block = block; from = size; over = 0; left = left; begun = b; altered = false })
reading_first number total bsize size left longest leaves block fixed b is long lengths short on same some few = rw is (record {
  held = record { block = long; begun = omega arith };
  lengths = record { fixed = lengths; short = short };
  leaves = on;
  taken = omega (arith, same);
  over = omega (arith, some);
  done = omega arith;
  few = few;
  within = λ sound. omega (arith, same);
  some = some;
})
