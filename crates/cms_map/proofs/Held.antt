-- What a change of one bit is in a map's bytes, and what its bytes say of whole bytes in use and of the count of free blocks.
use Rattle.std.proofs.Common.{◌≡◌, ℕ, zero, suc, ◌+◌, ◌-◌, ◌*◌, ◌/◌, ◌%◌, ◌^◌, ◌≤◌, ◌<◌, ⊎_elim, Bool, true, false, List, [], ◌∷◌, ◌++◌, length, take, drop, get_or, set, bit_and, bit_or, refl, sym, ◌∙◌, ap, subst, arith, pow-add, length-set, length-append}
use Rattle.std.specs.Prelude.{◌≢◌, ◌==◌, if◌then◌else◌, map, nat_le, ◌||◌}
use Rattle.std.specs.List.{range_with_len}
use Rattle.std.specs.Int.{div_ceil}
use Rattle.std.specs.Int.RustNames.{count_ones}
use Rattle.std.proofs.lemmas.Bool.{cases_eq, cases_lt, le-leb, lt-leb, eq-eqb, eqb-true, ne_eqb}
use Rattle.std.proofs.lemmas.List.{get_or-set_same, get_or-set_other, get_or-drop, get_or_past, get_or_default, get_or_read, drop-set-lt, drop-set-add, drop-map, length-drop, same_lists, drop_all, take_all}
use Rattle.std.proofs.lemmas.List.FromFn.{length-map-range_with_len, get_or-map-range_with_len, map-range_with_len_more}
use Rattle.std.proofs.Math.Seq.{take-add}
use Rattle.std.proofs.lemmas.Nat.{ones_cat, ones_le_self, zero_from_ones, or_disjoint, and-not, and_comm, pow_below, shr_split, mod_below, div_below}
use Rattle.std.proofs.lemmas.Nat.Bits.{and_pow, bit_at_cat_low}
use Rattle.std.proofs.Math.Nat.{mul-add-div_right, div-eq_of_lt}
use native.Mathlib.Nat.{pow-suc, one-le-pow}
use Rattle.cms_model.specs.Maps.{is_marked, is_used}
use Rattle.cms_map.specs.Bits.{bits_in, free_from, number_of, byte_at, bytes_from, HasFixed, IsHeld}
use Rattle.cms_map.proofs.Free.{free_from-append, free_from-marked, free_from-released, free_from-le}
use Rattle.cms_map.proofs.Packed.{worth, worth_at, number_of-small, marked_bit, reads_back}

pub bits_count : (n : ℕ) (bytes : List ℕ) → length (bits_in n bytes) ≡ n
unfolding bits_in
bits_count n bytes = length-map-range_with_len (is_used bytes) 1 n

pub bytes_count : (bits : List Bool) (count : ℕ) → length (bytes_from 0 count bits) ≡ count
unfolding bytes_from
bytes_count bits count = length-map-range_with_len (byte_at bits) 0 count

-- a number of bits where one bit is changed
number_of-set : (k j : ℕ) (bits : List Bool) (bit : Bool) → j < k → j < length bits
    → number_of k (set bits j bit) + worth (get_or bits j false) * 2 ^ (k - 1 - j) ≡ number_of k bits + worth bit * 2 ^ (k - 1 - j)
unfolding number_of
number_of-set zero j bits bit less within = absurd (omega arith)
number_of-set (suc k) j [] bit less within = absurd (omega arith)
number_of-set (suc k) zero (old ∷ bits) bit less within =
    let power : suc k - 1 - 0 ≡ k = omega arith in
    let a = worth_at old k in
    let b = worth_at bit k in
    rw (power, a, b) (omega arith)
number_of-set (suc k) (suc j) (old ∷ bits) bit less within =
    let power : suc k - 1 - suc j ≡ k - 1 - j = omega arith in
    let deeper = number_of-set k j bits bit (omega arith) (omega arith) in
    rw power (omega arith)

number_of-set_past : (k j : ℕ) (bits : List Bool) (bit : Bool) → k ≤ j → number_of k (set bits j bit) ≡ number_of k bits
unfolding number_of
number_of-set_past zero j bits bit over = refl
number_of-set_past (suc k) j [] bit over = refl
number_of-set_past (suc k) zero (old ∷ bits) bit over = absurd (omega arith)
number_of-set_past (suc k) (suc j) (old ∷ bits) bit over = let deeper = number_of-set_past k j bits bit (omega arith) in omega arith

-- a change of one bit leaves the other bytes
byte_at-set_other : (bits : List Bool) (place at : ℕ) (bit : Bool) → at ≢ place / 8 → byte_at (set bits place bit) at ≡ byte_at bits at
unfolding byte_at
byte_at-set_other bits place at bit other = ⊎_elim
    (λ (below : place < 8 * at). let same : drop (8 * at) (set bits place bit) ≡ drop (8 * at) bits = drop-set-lt (8 * at) bits place bit below in ap (number_of 8) same)
    (λ (above : 8 * at ≤ place).
    let there : place ≡ 8 * at + (place - 8 * at) = omega arith in
    let behind : 8 ≤ place - 8 * at = omega arith in
    let same : drop (8 * at) (set bits place bit) ≡ set (drop (8 * at) bits) (place - 8 * at) bit =
    ap (λ (n : ℕ). drop (8 * at) (set bits n bit)) there ∙ drop-set-add (8 * at) bits (place - 8 * at) bit in
    ap (number_of 8) same ∙ number_of-set_past 8 (place - 8 * at) (drop (8 * at) bits) bit behind)
    (cases_lt place (8 * at))

byte_at-set_same : (bits : List Bool) (place : ℕ) (bit : Bool) → place < length bits
    → byte_at (set bits place bit) (place / 8) + worth (get_or bits place false) * 2 ^ (7 - place % 8) ≡ byte_at bits (place / 8) + worth bit * 2 ^ (7 - place % 8)
unfolding byte_at
byte_at-set_same bits place bit within =
    let at = 8 * (place / 8) in
    let there : place ≡ at + place % 8 = omega arith in
    let low : place % 8 < 8 = omega arith in
    let power : 8 - 1 - place % 8 ≡ 7 - place % 8 = omega arith in
    let same : drop at (set bits place bit) ≡ set (drop at bits) (place % 8) bit = ap (λ (n : ℕ). drop at (set bits n bit)) there ∙ drop-set-add at bits (place % 8) bit in
    let was : get_or (drop at bits) (place % 8) false ≡ get_or bits place false = get_or-drop at bits (place % 8) false ∙ ap (λ (n : ℕ). get_or bits n false) (sym there) in
    let long : place % 8 < length (drop at bits) = omega (arith, length-drop at bits) in
    let is = number_of-set 8 (place % 8) (drop at bits) bit low long in
    rw same (rw (power, was) at is)

byte_within : (bits : List Bool) (count at : ℕ) → at < count → get_or (bytes_from 0 count bits) at 0 ≡ byte_at bits at
unfolding bytes_from
byte_within bits count at within = get_or-map-range_with_len (byte_at bits) 0 count at at 0 within (omega arith)

-- past the last bit a byte is 0
byte_past : (bits : List Bool) (at : ℕ) → length bits ≤ 8 * at → byte_at bits at ≡ 0
unfolding byte_at number_of
byte_past bits at past = let none : drop (8 * at) bits ≡ [] = drop_all (8 * at) bits past in rw none refl

-- what the map holds at a place, and 0 where it holds nothing
pub byte_held : (blocks free : ℕ) (bytes : List ℕ) (at : ℕ) → IsHeld blocks free bytes → get_or bytes at 0 ≡ byte_at (bits_in blocks bytes) at
byte_held blocks free bytes at held =
    let bits = bits_in blocks bytes in
    let count = div_ceil blocks 8 in
    let long : length bits ≡ blocks = bits_count blocks bytes in
    ⊎_elim
    (λ (within : at < count). ap (λ (l : List ℕ). get_or l at 0) held.bits ∙ byte_within bits count at within)
    (λ (past : count ≤ at).
    let whole : length bytes ≡ count = ap length held.bits ∙ bytes_count bits count in
    get_or_past bytes at 0 (omega arith) ∙ sym (byte_past bits at (omega arith)))
    (cases_lt at count)

pub bytes_more : (bits : List Bool) (count : ℕ) → bytes_from 0 (count + 1) bits ≡ bytes_from 0 count bits ++ byte_at bits count ∷ []
unfolding bytes_from
bytes_more bits count = map-range_with_len_more (byte_at bits) 0 count count (omega arith)

pub bytes_length : (blocks free : ℕ) (bytes : List ℕ) → IsHeld blocks free bytes → length bytes ≡ div_ceil blocks 8
bytes_length blocks free bytes held = ap length held.bits ∙ bytes_count (bits_in blocks bytes) (div_ceil blocks 8)

-- a map's bytes with one byte written over
bytes_from-set : (bits : List Bool) (count place byte : ℕ) (bit : Bool) → byte ≡ byte_at (set bits place bit) (place / 8)
    → set (bytes_from 0 count bits) (place / 8) byte ≡ bytes_from 0 count (set bits place bit)
unfolding bytes_from
bytes_from-set bits count place byte bit is =
    let old = map (byte_at bits) (range_with_len 0 count) in
    let new = map (byte_at (set bits place bit)) (range_with_len 0 count) in
    let long : length old ≡ count = length-map-range_with_len (byte_at bits) 0 count in
    let long' : length (set old (place / 8) byte) ≡ count = length-set old (place / 8) byte ∙ long in
    same_lists (set old (place / 8) byte) new (long' ∙ sym (length-map-range_with_len (byte_at (set bits place bit)) 0 count))
    (λ k d less.
    let within : k < count = subst (λ (n : ℕ). k < n) long' less in
    let zero_less : 0 + k ≡ k = omega arith in
    let right : get_or new k d ≡ byte_at (set bits place bit) k = get_or-map-range_with_len (byte_at (set bits place bit)) 0 count k k d within zero_less in
    ⊎_elim
    (λ (here : k ≡ place / 8).
    let left : get_or (set old (place / 8) byte) (place / 8) d ≡ byte = get_or-set_same old (place / 8) byte d (omega arith) in
    ap (λ (n : ℕ). get_or (set old (place / 8) byte) n d) here ∙ left ∙ is ∙ ap (byte_at (set bits place bit)) (sym here) ∙ sym right)
    (λ (other : k ≢ place / 8).
    get_or-set_other old (place / 8) k byte d other
    ∙ get_or-map-range_with_len (byte_at bits) 0 count k k d within zero_less
    ∙ sym (byte_at-set_other bits place k bit other)
    ∙ sym right)
    (cases_eq k (place / 8)))

pub fixed_in : (n : ℕ) (bytes : List ℕ) → HasFixed (bits_in n bytes)
unfolding bits_in is_used
fixed_in n bytes block first low within =
    let long : length (map (is_used bytes) (range_with_len 1 n)) ≡ n = length-map-range_with_len (is_used bytes) 1 n in
    let is : get_or (map (is_used bytes) (range_with_len 1 n)) (block - 1) false ≡ is_used bytes block =
    get_or-map-range_with_len (is_used bytes) 1 n (block - 1) block false (omega arith) (omega arith) in
    let five : nat_le block 5 ≡ true = le-leb block 5 low in
    is ∙ rw five refl

fixed_set : (bits : List Bool) (place : ℕ) (bit : Bool) → 5 ≤ place → HasFixed bits → HasFixed (set bits place bit)
fixed_set bits place bit high fixed block first low within =
    let other : block - 1 ≢ place = omega arith in
    get_or-set_other bits place (block - 1) bit false other ∙ fixed block first low (omega (arith, length-set bits place bit))

-- the byte where one bit is changed gives the map where that bit is changed
pub record Changed (blocks : ℕ) (bytes : List ℕ) (place byte : ℕ) (bit : Bool) : Type 0 where
  pub view : bits_in blocks (set bytes (place / 8) byte) ≡ set (bits_in blocks bytes) place bit
  pub bits : set bytes (place / 8) byte ≡ bytes_from 0 (div_ceil blocks 8) (bits_in blocks (set bytes (place / 8) byte))

pub changes : (blocks free : ℕ) (bytes : List ℕ) (place byte : ℕ) (bit : Bool) → IsHeld blocks free bytes → 5 ≤ place → place < blocks
    → byte + worth (get_or (bits_in blocks bytes) place false) * 2 ^ (7 - place % 8) ≡ get_or bytes (place / 8) 0 + worth bit * 2 ^ (7 - place % 8) → Changed blocks bytes place byte bit
changes blocks free bytes place byte bit held high within is =
    let old = bits_in blocks bytes in
    let count = div_ceil blocks 8 in
    let long : length old ≡ blocks = bits_count blocks bytes in
    let was = byte_held blocks free bytes (place / 8) held in
    let step = byte_at-set_same old place bit (omega arith) in
    let new : byte ≡ byte_at (set old place bit) (place / 8) = omega arith in
    let whole : set bytes (place / 8) byte ≡ bytes_from 0 count (set old place bit) = ap (λ (l : List ℕ). set l (place / 8) byte) held.bits ∙ bytes_from-set old count place byte bit new in
    let long' : length (set old place bit) ≡ blocks = length-set old place bit ∙ long in
    let again : bits_in (length (set old place bit)) (bytes_from 0 count (set old place bit)) ≡ set old place bit =
    reads_back (set old place bit) count (omega arith) (fixed_set old place bit high (fixed_in blocks bytes)) in
    let view : bits_in blocks (set bytes (place / 8) byte) ≡ set old place bit =
    ap (bits_in blocks) whole ∙ subst (λ (n : ℕ). bits_in n (bytes_from 0 count (set old place bit)) ≡ set old place bit) long' again in
    record { view = view; bits = whole ∙ ap (bytes_from 0 count) (sym view) }

-- ---- what the calls change

pub marked_held : (blocks free : ℕ) (bytes : List ℕ) (block : ℕ) → IsHeld blocks free bytes → 1 ≤ block → block ≤ blocks → is_marked bytes block ≡ get_or (bits_in blocks bytes) (block - 1) false
marked_held blocks free bytes block held first last =
    let bits = bits_in blocks bytes in
    let count = div_ceil blocks 8 in
    let next : block - 1 + 1 ≡ block = omega arith in
    let long = bits_count blocks bytes in
    ap (λ (l : List ℕ). is_marked l block) held.bits
    ∙ subst (λ (n : ℕ). is_marked (bytes_from 0 count bits) n ≡ get_or bits (block - 1) false) next (marked_bit bits count (block - 1) (omega arith))

not_one : (n : ℕ) → (n == 1) ≡ false → n < 2 → n ≡ 0
not_one zero is less = refl
not_one (suc zero) is less = absurd (cc)
not_one (suc (suc n)) is less = absurd (omega arith)

-- the bit of a block in its byte
bit_held : (blocks free : ℕ) (bytes : List ℕ) (block : ℕ) (bit : Bool) → IsHeld blocks free bytes → 1 ≤ block → block ≤ blocks → get_or (bits_in blocks bytes) (block - 1) false ≡ bit
    → get_or bytes ((block - 1) / 8) 0 / 2 ^ (7 - (block - 1) % 8) % 2 ≡ worth bit
unfolding is_marked
bit_held blocks free bytes block true held first last is = eqb-true _ _ (marked_held blocks free bytes block held first last ∙ is)
bit_held blocks free bytes block false held first last is = not_one _ (marked_held blocks free bytes block held first last ∙ is) (omega arith)

byte_small : (blocks free : ℕ) (bytes : List ℕ) (at : ℕ) → IsHeld blocks free bytes → get_or bytes at 0 < 256
unfolding byte_at
byte_small blocks free bytes at held =
    let e : 2 ^ 8 ≡ 256 = refl in
    omega (arith, byte_held blocks free bytes at held, number_of-small 8 (drop (8 * at) (bits_in blocks bytes)))

-- the map is held so
pub record Held (blocks free : ℕ) (bytes : List ℕ) (bits : List Bool) : Type 0 where
  pub view : bits_in blocks bytes ≡ bits
  pub held : IsHeld blocks free bytes

pub place_within : (blocks free : ℕ) (bytes : List ℕ) (bits : List Bool) (block at : ℕ) → bits_in blocks bytes ≡ bits → IsHeld blocks free bytes
    → 1 ≤ block → block ≤ length bits → at ≡ (block - 1) / 8 → at < length bytes
place_within blocks free bytes bits block at view held first last is_at = omega (arith, bytes_length blocks free bytes held, ap length view, bits_count blocks bytes)

pub record Marked (blocks free : ℕ) (bytes : List ℕ) (bits : List Bool) (block at byte : ℕ) : Type 0 where
  pub some : 1 ≤ free
  pub held : Held blocks (free - 1) (set bytes at byte) (set bits (block - 1) true)

pub marks : (blocks free : ℕ) (bytes : List ℕ) (bits : List Bool) (block at byte bit : ℕ) → bits_in blocks bytes ≡ bits → IsHeld blocks free bytes
    → 1 ≤ block → block ≤ length bits → get_or bits (block - 1) true ≡ false
    → at ≡ (block - 1) / 8 → byte ≡ get_or bytes at byte → bit ≡ 2 ^ (7 - (block - 1) % 8) → Marked blocks free bytes bits block at (bit_or byte bit)
marks blocks free bytes bits block at byte bit view held first last is is_at read is_bit =
    let old = bits_in blocks bytes in
    let place = block - 1 in
    let e = 7 - place % 8 in
    let long : length old ≡ blocks = bits_count blocks bytes in
    let long' : length bits ≡ blocks = ap length (sym view) ∙ long in
    let is_byte : byte ≡ get_or bytes at 0 = get_or_read bytes at byte (place_within blocks free bytes bits block at view held first last is_at) read 0 in
    let is_old : get_or old place true ≡ false = ap (λ (l : List Bool). get_or l place true) view ∙ is in
    let clear : get_or old place false ≡ false = get_or_default old place false true (omega arith) ∙ is_old in
    let high : 5 ≤ place = ⊎_elim
    (λ (low : place < 5). let set' : get_or old place false ≡ true = fixed_in blocks bytes block first (omega arith) (omega arith) in absurd (cc))
    (λ (h : 5 ≤ place). h)
    (cases_lt place 5) in
    let zero' : byte / 2 ^ e % 2 ≡ 0 = rw (is_byte, is_at) (bit_held blocks free bytes block false held first (omega arith) clear) in
    let apart : bit_and byte (2 ^ e) ≡ 0 = and_pow byte e ∙ rw zero' (omega arith) in
    let sum : bit_or byte bit ≡ byte + 2 ^ e = rw is_bit (or_disjoint byte (2 ^ e) apart) in
    let total : bit_or byte bit + worth (get_or old place false) * 2 ^ e ≡ get_or bytes (place / 8) 0 + worth true * 2 ^ e = rw (clear, sum, is_byte, is_at) (omega arith) in
    let changed = changes blocks free bytes place (bit_or byte bit) true held high (omega arith) total in
    let fewer = free_from-marked 1 place old is_old in
    let count = held.count in
    record {
      some = omega arith;
      held = rw is_at (record { view = changed.view ∙ ap (λ (l : List Bool). set l place true) view; held = record { bits = changed.bits; count = rw changed.view (omega arith) } });
    }

pub record Released (blocks free : ℕ) (bytes : List ℕ) (bits : List Bool) (block at byte : ℕ) : Type 0 where
  pub fits : free < blocks
  pub held : Held blocks (free + 1) (set bytes at byte) (set bits (block - 1) false)

pub releases : (blocks free : ℕ) (bytes : List ℕ) (bits : List Bool) (block at byte bit : ℕ) → bits_in blocks bytes ≡ bits → IsHeld blocks free bytes
    → 6 ≤ block → block ≤ length bits → get_or bits (block - 1) false ≡ true
    → at ≡ (block - 1) / 8 → byte ≡ get_or bytes at byte → bit ≡ 2 ^ (7 - (block - 1) % 8) → Released blocks free bytes bits block at (bit_and byte (255 - bit))
releases blocks free bytes bits block at byte bit view held first last is is_at read is_bit =
    let old = bits_in blocks bytes in
    let place = block - 1 in
    let e = 7 - place % 8 in
    let long : length old ≡ blocks = bits_count blocks bytes in
    let long' : length bits ≡ blocks = ap length (sym view) ∙ long in
    let is_byte : byte ≡ get_or bytes at 0 = get_or_read bytes at byte (place_within blocks free bytes bits block at view held (omega arith) last is_at) read 0 in
    let is_old : get_or old place false ≡ true = ap (λ (l : List Bool). get_or l place false) view ∙ is in
    let one : byte / 2 ^ e % 2 ≡ 1 = rw (is_byte, is_at) (bit_held blocks free bytes block true held (omega arith) (omega arith) is_old) in
    let small : byte < 2 ^ 8 = rw is_byte (byte_small blocks free bytes at held) in
    let low : 2 ^ e < 2 ^ 8 = pow_below e 8 (omega arith) in
    let has : bit_and byte (2 ^ e) ≡ 2 ^ e = and_pow byte e ∙ rw one (omega arith) in
    let parts : bit_and (255 - 2 ^ e) byte + bit_and (2 ^ e) byte ≡ byte = and-not 8 (2 ^ e) byte low small in
    let sum : bit_and byte (255 - bit) + 2 ^ e ≡ byte = rw is_bit (omega (arith, parts, and_comm (255 - 2 ^ e) byte, and_comm (2 ^ e) byte, has)) in
    let total : bit_and byte (255 - bit) + worth (get_or old place false) * 2 ^ e ≡ get_or bytes (place / 8) 0 + worth false * 2 ^ e = rw (is_old, ← is_at, ← is_byte) (omega arith) in
    let changed = changes blocks free bytes place (bit_and byte (255 - bit)) false held (omega arith) (omega arith) total in
    let more = free_from-released 1 place old (omega arith) is_old in
    let count = held.count in
    record {
      fits = omega (arith, free_from-le 1 (set old place false), length-set old place false);
      held = rw is_at (record { view = changed.view ∙ ap (λ (l : List Bool). set l place false) view; held = record { bits = changed.bits; count = rw changed.view (omega arith) } });
    }

-- ---- the map that is read

-- how many bits are 1, beside how many are 0
ones_in : (k n : ℕ) (bits : List Bool) → count_ones (number_of k bits) + length (free_from n (take k bits)) ≡ length (take k bits)
unfolding number_of free_from
ones_in zero n bits = omega (arith, ones_le_self 0)
ones_in (suc k) n [] = omega (arith, ones_le_self 0)
ones_in (suc k) n (true ∷ bits) =
    let split = ones_cat k 1 (number_of k bits) (number_of-small k bits) in
    let one : 2 ^ k ≡ 1 * 2 ^ k = omega arith in
    let ones_one : count_ones 1 ≡ 1 = ⊎_elim
    (λ (none : count_ones 1 ≡ 0). absurd (omega (arith, zero_from_ones 1 none)))
    (λ (some : count_ones 1 ≢ 0). omega (arith, ones_le_self 1))
    (cases_eq (count_ones 1) 0) in
    rw (one, split, ones_one) (omega (arith, ones_in k (n + 1) bits))
ones_in (suc k) n (false ∷ bits) = let none : 0 + number_of k bits ≡ number_of k bits = omega arith in rw none (omega (arith, ones_in k (n + 1) bits))

-- one more byte, and the count of blocks in use with it
pub ones_more : (bits : List Bool) (at byte used : ℕ) → byte ≡ byte_at bits at → used + length (free_from 1 (take (8 * at) bits)) ≡ length (take (8 * at) bits)
    → used + count_ones byte + length (free_from 1 (take (8 * (at + 1)) bits)) ≡ length (take (8 * (at + 1)) bits)
unfolding byte_at
ones_more bits at byte used is before =
    let front = take (8 * at) bits in
    let rest = drop (8 * at) bits in
    let more : 8 * (at + 1) ≡ 8 * at + 8 = omega arith in
    let split : take (8 * (at + 1)) bits ≡ front ++ take 8 rest = ap (λ (n : ℕ). take n bits) more ∙ take-add (8 * at) 8 bits in
    let ones = ones_in 8 (1 + length front) rest in
    let same : count_ones byte ≡ count_ones (number_of 8 rest) = ap count_ones is in
    rw (split, free_from-append 1 front (take 8 rest), same)
    (omega (arith, ones, before, length-append front (take 8 rest), length-append (free_from 1 front) (free_from (1 + length front) (take 8 rest))))

pub reads : (blocks used : ℕ) (bytes held : List ℕ) → held ≡ bytes_from 0 (div_ceil blocks 8) (bits_in blocks bytes)
    → used + length (free_from 1 (take (8 * div_ceil blocks 8) (bits_in blocks bytes))) ≡ length (take (8 * div_ceil blocks 8) (bits_in blocks bytes))
    → Held blocks (blocks - used) held (bits_in blocks bytes)
reads blocks used bytes held is ones =
    let bits = bits_in blocks bytes in
    let count = div_ceil blocks 8 in
    let long : length bits ≡ blocks = bits_count blocks bytes in
    let again : bits_in (length bits) (bytes_from 0 count bits) ≡ bits = reads_back bits count (omega arith) (fixed_in blocks bytes) in
    let view : bits_in blocks held ≡ bits = ap (bits_in blocks) is ∙ subst (λ (n : ℕ). bits_in n (bytes_from 0 count bits) ≡ bits) long again in
    let whole : take (8 * count) bits ≡ bits = take_all (8 * count) bits (omega arith) in
    let all : used + length (free_from 1 bits) ≡ length bits = rw whole at ones in
    record { view = view; held = record { bits = is ∙ ap (bytes_from 0 count) (sym view); count = rw view (omega arith) } }

spread : (high a b low : ℕ) → high * (a * b) + low * b ≡ (high * a + low) * b
spread high a b low = omega arith

bit_worth : (bit power : ℕ) → bit < 2 → (if bit % 2 == 1 then power else 0) ≡ bit * power
bit_worth zero power less = omega arith
bit_worth (suc zero) power less = omega arith
bit_worth (suc (suc bit)) power less = absurd (omega arith)

-- the high bit of a number beside the rest of it, both without the low bits
joins : (k p high low r : ℕ) → p ≤ k → high * 2 ^ k + low ≡ r → high < 2 → (if high % 2 == 1 then 2 ^ k else 0) + low / 2 ^ p * 2 ^ p ≡ r / 2 ^ p * 2 ^ p
joins k p high low r within whole less =
    let sum : k ≡ k - p + p = omega arith in
    let power : 2 ^ k ≡ 2 ^ (k - p) * 2 ^ p = ap (λ (n : ℕ). 2 ^ n) sum ∙ pow-add 2 (k - p) p in
    let regroup : high * (2 ^ (k - p) * 2 ^ p) ≡ high * 2 ^ (k - p) * 2 ^ p = omega arith in
    let is : r ≡ high * 2 ^ (k - p) * 2 ^ p + low = sym whole ∙ ap (λ (n : ℕ). high * n + low) power ∙ ap (λ (n : ℕ). n + low) regroup in
    let part : r / 2 ^ p ≡ high * 2 ^ (k - p) + low / 2 ^ p = ap (λ (n : ℕ). n / 2 ^ p) is ∙ mul-add-div_right (one-le-pow p 2 (omega arith)) (high * 2 ^ (k - p)) low in
    ap (λ (n : ℕ). n + low / 2 ^ p * 2 ^ p) (bit_worth high (2 ^ k) less ∙ ap (λ (n : ℕ). high * n) power)
    ∙ spread high (2 ^ (k - p)) (2 ^ p) (low / 2 ^ p)
    ∙ ap (λ (n : ℕ). n * 2 ^ p) (sym part)

-- one byte of a map, whose bits past the last are 0
bits_number : (k m r s : ℕ) (f : ℕ → Bool) → r < 2 ^ k → ((j : ℕ) → j < k → j < m → f (s + j) ≡ (r / 2 ^ (k - 1 - j) % 2 == 1))
    → number_of k (map f (range_with_len s m)) ≡ r / 2 ^ (k - m) * 2 ^ (k - m)
unfolding number_of
bits_number zero m r s f small each =
    let none : r ≡ 0 = omega arith in
    let power : zero - m ≡ 0 = omega arith in
    rw (power, none) refl
bits_number (suc k) zero r s f small each =
    let all : suc k - 0 ≡ suc k = omega arith in
    let none : r / 2 ^ suc k ≡ 0 = div-eq_of_lt small in
    rw (all, none) (omega arith)
bits_number (suc k) (suc m) r s f small each =
    let double : 2 ^ suc k ≡ 2 ^ k * 2 = pow-suc 2 k in
    let high = r / 2 ^ k in
    let low = r % 2 ^ k in
    let power : suc k - suc m ≡ k - m = omega arith in
    let whole : high * 2 ^ k + low ≡ r = shr_split r k in
    let some : 0 < 2 ^ k = one-le-pow k 2 (omega arith) in
    let less : low < 2 ^ k = mod_below r (2 ^ k) some in
    let here : s + 0 ≡ s = omega arith in
    let top : suc k - 1 - 0 ≡ k = omega arith in
    let first : f s ≡ (high % 2 == 1) = rw (here, top) at (each 0 (omega arith) (omega arith)) in
    let rest = bits_number k m low (s + 1) f less
    (λ j a b.
    let place : s + suc j ≡ s + 1 + j = omega arith in
    let down : suc k - 1 - suc j ≡ k - 1 - j = omega arith in
    let is : f (s + 1 + j) ≡ (r / 2 ^ (k - 1 - j) % 2 == 1) = rw (place, down) at (each (suc j) (omega arith) (omega arith)) in
    let same : r / 2 ^ (k - 1 - j) % 2 ≡ low / 2 ^ (k - 1 - j) % 2 = ap (λ (n : ℕ). n / 2 ^ (k - 1 - j) % 2) (sym whole) ∙ bit_at_cat_low high k low (k - 1 - j) (omega arith) in
    is ∙ ap (λ (n : ℕ). n == 1) same) in
    rw (power, first, rest) (joins k (k - m) high low r (omega arith) whole (div_below r (2 ^ k) 2 some (omega arith)))

drop_range : (k a n : ℕ) → drop k (range_with_len a n) ≡ range_with_len (a + k) (n - k)
drop_range zero a n = let e : a + 0 ≡ a = omega arith in let e' : n - 0 ≡ n = omega arith in rw (e, e') refl
drop_range (suc k) a zero = let none : 0 - suc k ≡ 0 = omega arith in rw none refl
drop_range (suc k) a (suc n) = let e : a + 1 + k ≡ a + suc k = omega arith in let e' : suc n - suc k ≡ n - k = omega arith in rw (e', ← e) (drop_range k (a + 1) n)

-- in the first byte five bits are set
first_bit : (b j : ℕ) → j < 8 → (nat_le (1 + j) 5 || (b / 2 ^ (7 - j) % 2 == 1)) ≡ ((31 * 8 + b % 8) / 2 ^ (7 - j) % 2 == 1)
first_bit b zero less = sym (eq-eqb _ _ (omega arith))
first_bit b (suc zero) less = sym (eq-eqb _ _ (omega arith))
first_bit b (suc (suc zero)) less = sym (eq-eqb _ _ (omega arith))
first_bit b (suc (suc (suc zero))) less = sym (eq-eqb _ _ (omega arith))
first_bit b (suc (suc (suc (suc zero)))) less = sym (eq-eqb _ _ (omega arith))
first_bit b (suc (suc (suc (suc (suc zero))))) less = let same : b / 4 % 2 ≡ (248 + b % 8) / 4 % 2 = omega arith in ap (λ (n : ℕ). n == 1) same
first_bit b (suc (suc (suc (suc (suc (suc zero)))))) less = let same : b / 2 % 2 ≡ (248 + b % 8) / 2 % 2 = omega arith in ap (λ (n : ℕ). n == 1) same
first_bit b (suc (suc (suc (suc (suc (suc (suc zero))))))) less = let same : b / 1 % 2 ≡ (248 + b % 8) / 1 % 2 = omega arith in ap (λ (n : ℕ). n == 1) same
first_bit b (suc (suc (suc (suc (suc (suc (suc (suc j)))))))) less = absurd (omega arith)

-- the byte with the bits of blocks 1 to 5 set, where it is the first
unfoldable pub with_fixed : ℕ → ℕ → ℕ
with_fixed at byte = if at == 0 then 31 * 8 + byte % 8 else byte

pub with_fixed_first : (at byte : ℕ) → at ≡ 0 → with_fixed at byte ≡ 31 * 8 + byte % 8
unfolding with_fixed
with_fixed_first at byte is = rw (eq-eqb at 0 is) refl

pub with_fixed_later : (at byte : ℕ) → (at ≡ 0 → ⊥) → with_fixed at byte ≡ byte
unfolding with_fixed
with_fixed_later at byte other = rw (ne_eqb at 0 other) refl

byte_bits : (bytes : List ℕ) (at j : ℕ) → j < 8 → is_used bytes (8 * at + 1 + j) ≡ (with_fixed at (get_or bytes at 0) / 2 ^ (8 - 1 - j) % 2 == 1)
unfolding is_used is_marked with_fixed
byte_bits bytes at j less =
    let place : (8 * at + 1 + j - 1) / 8 ≡ at = omega arith in
    let within : (8 * at + 1 + j - 1) % 8 ≡ j = omega arith in
    let power : 8 - 1 - j ≡ 7 - j = omega arith in
    rw (place, within, power) (by_place at)
  where
    by_place : (at : ℕ) → (nat_le (8 * at + 1 + j) 5 || (get_or bytes at 0 / 2 ^ (7 - j) % 2 == 1)) ≡ ((if at == 0 then 31 * 8 + get_or bytes at 0 % 8 else get_or bytes at 0) / 2 ^ (7 - j) % 2 == 1)
    by_place zero = first_bit (get_or bytes 0 0) j less
    by_place (suc at) =
        let high : nat_le (8 * suc at + 1 + j) 5 ≡ false = lt-leb (8 * suc at + 1 + j) 5 (omega arith) in
        let later : (suc at == 0) ≡ false = ne_eqb (suc at) 0 (λ is. absurd (omega arith)) in
        rw (high, later) refl

-- the byte at a place of the map of so many blocks in these bytes
pub byte_is : (bytes : List ℕ) (blocks at byte past : ℕ) → byte ≡ with_fixed at (get_or bytes at 0) → byte < 256 → past ≡ 8 - (blocks - 8 * at)
    → byte / 2 ^ past * 2 ^ past ≡ byte_at (bits_in blocks bytes) at
unfolding byte_at bits_in
byte_is bytes blocks at byte past is small is_past =
    let f = is_used bytes in
    let first : 1 + 8 * at ≡ 8 * at + 1 = omega arith in
    let rest : drop (8 * at) (map f (range_with_len 1 blocks)) ≡ map f (range_with_len (8 * at + 1) (blocks - 8 * at)) =
    drop-map f (8 * at) (range_with_len 1 blocks) ∙ ap (map f) (drop_range (8 * at) 1 blocks) ∙ ap (λ (n : ℕ). map f (range_with_len n (blocks - 8 * at))) first in
    let e : 2 ^ 8 ≡ 256 = refl in
    let number = bits_number 8 (blocks - 8 * at) byte (8 * at + 1) f (omega arith) (λ j a b. byte_bits bytes at j a ∙ ap (λ (n : ℕ). n / 2 ^ (8 - 1 - j) % 2 == 1) (sym is)) in
    rw is_past (sym (ap (number_of 8) rest ∙ number))
