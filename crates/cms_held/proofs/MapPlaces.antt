-- A map of which some data blocks are written says the new bits.
use Rattle.std.proofs.Common.{◌≡◌, ⊎_elim, ℕ, ◌+◌, ◌-◌, ◌*◌, ◌/◌, ◌%◌, ◌<◌, ◌≤◌, Bool, true, false, List, length, drop, map, get_or, refl, sym, ◌∙◌, ap, subst, arith, div-add-mod', mod-lt}
use Rattle.std.specs.Prelude.{nat_le}
use Rattle.std.specs.List.{range_with_len}
use Rattle.std.proofs.lemmas.Bool.{cases_Bool, cases_lt, le-leb}
use Rattle.std.proofs.lemmas.List.{get_or-drop, drop-drop, get_or_default, same_lists}
use Rattle.std.proofs.lemmas.List.Elements.{All-from_get_or}
use Rattle.std.proofs.lemmas.List.FromFn.{length-map-range_with_len, get_or-map-range_with_len}
use Rattle.std.proofs.Math.Nat.{div-lt_iff_lt-mul, mul-add-div_right, mul-add-mod_self_right}
use Rattle.cms_fields.specs.Numbers.{up}
use Rattle.cms_model.specs.Lists.{In, holds}
use Rattle.cms_model.specs.Maps.{is_marked, is_used}
use Rattle.cms_model.specs.Trees.{bytes_at}
use Rattle.cms_model.proofs.Repeats.{in_from, in_held}
use Rattle.cms_model.proofs.Quotients.{up_spec}
use Rattle.cms_map.specs.Bits.{number_of, byte_at, bits_in, bytes_from}
use Rattle.cms_map.specs.Touched.{data_block}
use Rattle.cms_map.proofs.Held.{bits_count, bytes_count}
use Rattle.cms_map.proofs.Packed.{marked_bit}
use Rattle.cms_held.proofs.MapMarks.{bit_read, used_marked}
use Rattle.cms_held.specs.SharedBlocks.{AreLong}
use Rattle.cms_held.specs.MapPlaces.{MapByPlace, MapIsShared, bit_place}
use Rattle.cms_held.proofs.BlockBytes.{byte_by_place, leaf_long}

clash : true ≡ false → ⊥
clash e = cc

-- ---- the place of a bit

-- a bit's byte and its place there, by the data block in which it stands
record Place (bsize n : ℕ) : Type 0 where
  byte : (n - 1) / 8 ≡ data_block bsize n * bsize + (bit_place bsize n - 1) / 8
  rest : (n - 1) % 8 ≡ (bit_place bsize n - 1) % 8
  within : (bit_place bsize n - 1) / 8 < bsize
  some : 1 ≤ bit_place bsize n
  less : bit_place bsize n ≤ 8 * bsize
  whole : n ≡ data_block bsize n * (8 * bsize) + bit_place bsize n

place : (bsize n : ℕ) → 1 ≤ bsize → 1 ≤ n → Place bsize n
place bsize n some first =
    let j = data_block bsize n in
    let size = 8 * bsize in
    let whole : j * size + (n - 1) % size ≡ n - 1 = div-add-mod' (n - 1) size in
    let small : (n - 1) % size < size = mod-lt (n - 1) (omega arith) in
    let r = (n - 1) % size in
    let is : bit_place bsize n - 1 ≡ r = omega arith in
    let turned : j * size + r ≡ j * bsize * 8 + r = (let e : j * size ≡ j * bsize * 8 = omega arith in omega arith) in
    record {
      byte = ap (λ (k : ℕ). k / 8) (sym whole ∙ turned) ∙ mul-add-div_right (omega arith) (j * bsize) r ∙ ap (λ (k : ℕ). j * bsize + k / 8) (sym is);
      rest = ap (λ (k : ℕ). k % 8) (sym whole ∙ turned) ∙ mul-add-mod_self_right (j * bsize) 8 r ∙ ap (λ (k : ℕ). k % 8) (sym is);
      within = let a : r / 8 < bsize = (div-lt_iff_lt-mul {k = 8} {x = r} {y = bsize} (omega arith)).1 (omega arith) in rw is a;
      some = omega arith;
      less = omega arith;
      whole = omega arith;
    }

-- its data block is one of the map's
pub block_within : (bsize count n : ℕ) → 1 ≤ bsize → 1 ≤ n → n ≤ 8 * (count * bsize) → data_block bsize n < count
block_within bsize count n some first within =
    let e : count * (8 * bsize) ≡ 8 * (count * bsize) = omega arith in
    (div-lt_iff_lt-mul {k = 8 * bsize} {x = n - 1} {y = count} (omega arith)).1 (omega arith)

pub map_by_place : MapByPlace
unfolding is_marked
map_by_place bsize image leaves n some long first within =
    let p = place bsize n some first in
    let less = block_within bsize (length leaves) n some first within in
    let there : get_or (bytes_at image leaves) ((n - 1) / 8) 0 ≡ get_or (image (get_or leaves (data_block bsize n) 0)) ((bit_place bsize n - 1) / 8) 0 =
    ap (λ (k : ℕ). get_or (bytes_at image leaves) k 0) p.byte ∙ byte_by_place bsize image leaves (data_block bsize n) ((bit_place bsize n - 1) / 8) long less p.within in
    rw (there, p.rest) refl

-- ---- the bits in a data block that is written

fixed_used : (bytes : List ℕ) (n : ℕ) → n ≤ 5 → is_used bytes n ≡ true
unfolding is_used
fixed_used bytes n low = let yes' : nat_le n 5 ≡ true = le-leb n 5 low in rw yes' refl

bytes_behind : (at count : ℕ) (bits : List Bool) → bytes_from at count bits ≡ bytes_from 0 count (drop (8 * at) bits)
unfolding bytes_from byte_at
bytes_behind at count bits =
    same_lists (map (byte_at bits) (range_with_len at count)) (map (byte_at (drop (8 * at) bits)) (range_with_len 0 count))
    (length-map-range_with_len (byte_at bits) at count ∙ sym (length-map-range_with_len (byte_at (drop (8 * at) bits)) 0 count))
    (λ k d less.
    let within : k < count = subst (λ (n : ℕ). k < n) (length-map-range_with_len (byte_at bits) at count) less in
    let e : 8 * at + 8 * k ≡ 8 * (at + k) = omega arith in
    get_or-map-range_with_len (byte_at bits) at count k (at + k) d within refl
    ∙ (ap (λ (l : List Bool). number_of 8 l) (sym (drop-drop (8 * k) (8 * at) bits ∙ ap (λ (n : ℕ). drop n bits) e))
    ∙ sym (get_or-map-range_with_len (byte_at (drop (8 * at) bits)) 0 count k k d within (omega arith))))

pub bytes_long : (at size : ℕ) (bits : List Bool) → length (bytes_from at size bits) ≡ size
bytes_long at size bits = ap length (bytes_behind at size bits) ∙ bytes_count (drop (8 * at) bits) size

marked_there : (bsize n : ℕ) (bits : List Bool) → 1 ≤ bsize → 1 ≤ n
    → is_marked (bytes_from (data_block bsize n * bsize) bsize bits) (bit_place bsize n) ≡ get_or bits (n - 1) false
marked_there bsize n bits some first =
    let p = place bsize n some first in
    let low = p.some in
    let high = p.less in
    let whole = p.whole in
    let at = data_block bsize n * bsize in
    let m = bit_place bsize n - 1 in
    let e : m + 1 ≡ bit_place bsize n = omega arith in
    let f : 8 * at + m ≡ n - 1 = (let g : 8 * at ≡ data_block bsize n * (8 * bsize) = omega arith in omega arith) in
    ap (λ (l : List ℕ). is_marked l (bit_place bsize n)) (bytes_behind at bsize bits)
    ∙ (ap (λ (k : ℕ). is_marked (bytes_from 0 bsize (drop (8 * at) bits)) k) (sym e)
    ∙ (marked_bit (drop (8 * at) bits) bsize m (omega arith)
    ∙ (get_or-drop (8 * at) bits m false ∙ ap (λ (k : ℕ). get_or bits k false) f)))

-- ---- the whole map

pub map_is_shared : MapIsShared
unfolding bits_in
map_is_shared bsize total before later olds leaves written old bits some count old_count long reads whole fixed stay shares =
    record {
      bits_are = same_lists (bits_in total (bytes_at later leaves)) bits (bits_count total (bytes_at later leaves) ∙ sym whole)
          (λ k d less.
          let within : k < total = subst (λ (n : ℕ). k < n) (bits_count total (bytes_at later leaves)) less in
          let e : k + 1 - 1 ≡ k = omega arith in
          let there = bit_read total (bytes_at later leaves) (k + 1) d (omega arith) (omega arith) in
          let is = used (k + 1) (omega arith) (omega arith) in
          subst (λ (n : ℕ). get_or (bits_in total (bytes_at later leaves)) n d ≡ get_or bits n false) e (there ∙ is)
          ∙ get_or_default bits k false d (omega arith));
      marked = λ n late within. marked n (omega arith) within;
    }
  where
    room : total ≤ 8 * (length leaves * bsize)
    room =
        let a = (up_spec total 8 (omega arith)).0 in
        let b = (up_spec (up total 8) bsize some).0 in
        let c : up total 8 ≤ length leaves * bsize = subst (λ (n : ℕ). up total 8 ≤ n * bsize) (sym count) b in
        omega arith

    same_count : length olds ≡ length leaves
    same_count = old_count ∙ sym count

    old_room : total ≤ 8 * (length olds * bsize)
    old_room = subst (λ (n : ℕ). total ≤ 8 * (n * bsize)) (sym same_count) room

    new_long : AreLong bsize later leaves
    new_long = All-from_get_or (λ (n : ℕ). length (later n) ≡ bsize) leaves 0 (λ j less. ⊎_elim
        (λ (is : holds written j ≡ true). ap length (shares.anew j less (in_from j written is)) ∙ bytes_long (j * bsize) bsize bits)
        (λ (no : holds written j ≡ false).
        let isnt = λ (h : In j written). clash (sym (in_held j written h) ∙ no) in
        ap length (shares.same j less isnt) ∙ leaf_long bsize before olds j long (shares.had j less isnt))
        (cases_Bool (holds written j)))

    marked : (n : ℕ) → 6 ≤ n → n ≤ total → is_marked (bytes_at later leaves) n ≡ get_or bits (n - 1) false
    marked n late within =
        let j = data_block bsize n in
        let less = block_within bsize (length leaves) n some (omega arith) (let r = room in omega arith) in
        map_by_place bsize later leaves n some new_long (omega arith) (let r = room in omega arith)
        ∙ ⊎_elim
        (λ (is : holds written j ≡ true).
        ap (λ (l : List ℕ). is_marked l (bit_place bsize n)) (shares.anew j less (in_from j written is)) ∙ marked_there bsize n bits some (omega arith))
        (λ (no : holds written j ≡ false).
        let isnt = λ (h : In j written). clash (sym (in_held j written h) ∙ no) in
        ap (λ (l : List ℕ). is_marked l (bit_place bsize n)) (shares.same j less isnt)
        ∙ (sym (map_by_place bsize before olds n some long (omega arith) (let r = old_room in omega arith))
        ∙ (sym (used_marked (bytes_at before olds) n late)
        ∙ (sym (bit_read total (bytes_at before olds) n false (omega arith) within)
        ∙ (ap (λ (l : List Bool). get_or l (n - 1) false) reads ∙ sym (stay n (omega arith) within isnt))))))
        (cases_Bool (holds written j))

    used : (n : ℕ) → 1 ≤ n → n ≤ total → is_used (bytes_at later leaves) n ≡ get_or bits (n - 1) false
    used n first within = ⊎_elim
        (λ (low : n < 6). fixed_used (bytes_at later leaves) n (omega arith) ∙ sym (fixed n first (omega arith) (omega arith)))
        (λ (late : 6 ≤ n). used_marked (bytes_at later leaves) n late ∙ marked n late within)
        (cases_lt n 6)
