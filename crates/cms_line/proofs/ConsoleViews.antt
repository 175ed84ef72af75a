-- The unread bytes in a console's buffer.
use Rattle.std.proofs.Common.{◌≡◌, ℕ, ◌+◌, ◌-◌, ◌<◌, ◌≤◌, List, [], Vec, length-append, ◌++◌, length, take, drop, refl, ap, sym, ◌∙◌, arith, append-nil}
use Rattle.std.proofs.lemmas.Grind.{common_steps}
use borrow.Rule.Slice.PartMut.{put_mid, post_of}
use Rattle.std.specs.Vec.{with_items}
use Rattle.std.specs.declared.alloc.Global.{Global}
use Rattle.std.specs.List.{copy_within}
use Rattle.std.proofs.lemmas.List.{drop-drop, drop-take, take-append-le, with_items_is}
use Rattle.std.proofs.Math.Seq.{take-append-add}

-- without the first of them
pub moved : (buffer : List ℕ) (start end count : ℕ) → start ≤ end → count ≤ length (take (end - start) (drop start buffer))
    → take (end - (start + count)) (drop (start + count) buffer) ≡ drop count (take (end - start) (drop start buffer))
moved buffer start end count ordered within =
    let short : length (take (end - start) (drop start buffer)) ≤ end - start = grind (arith, common_steps) in
    let rest : ℕ = end - (start + count) in
    let all : end - start ≡ count + rest = omega arith in
    sym (ap (λ (n : ℕ). drop count (take n (drop start buffer))) all ∙ drop-take count rest (drop start buffer) ∙ ap (take rest) (drop-drop count start buffer))

pub unread_length : (buffer : List ℕ) (start end : ℕ) → start ≤ end → end ≤ length buffer → length (take (end - start) (drop start buffer)) ≡ end - start
unread_length buffer start end ordered inside = grind (arith, common_steps)

take_two : (a b c : List ℕ) (m : ℕ) → m ≤ length b → take (length a + m) (a ++ (b ++ c)) ≡ a ++ take m b
take_two a b c m le = take-append-add a (b ++ c) m ∙ ap (λ (z : List ℕ). a ++ z) (take-append-le m b c le)

copied_front : (old : List ℕ) (start end : ℕ) → start ≤ end → end ≤ length old → take (end - start) (copy_within old start end 0) ≡ take (end - start) (drop start old)
copied_front old start end ordered inside =
    let part : List ℕ = take (end - start) (drop start old) in
    let n : end - start ≡ length part + 0 = omega (arith, unread_length old start end ordered inside) in
    ap (λ (k : ℕ). take k (part ++ drop (0 + (end - start)) old)) n ∙ take_two part [] (drop (0 + (end - start)) old) 0 (omega arith) ∙ append-nil part

-- the unread bytes were copied to the front, and as many read behind them
pub read_behind : (old copied into post : List ℕ) (start end count : ℕ) → start ≤ end → end ≤ length old → copied ≡ copy_within old start end 0 → count ≤ length into
    → take (end - start + count) (take (end - start) copied ++ (into ++ post)) ≡ take (end - start) (drop start old) ++ take count into
read_behind old copied into post start end count ordered inside is within =
    let front : take (end - start) copied ≡ take (end - start) (drop start old) = rw is (copied_front old start end ordered inside) in
    let n : length (take (end - start) (drop start old)) ≡ end - start = unread_length old start end ordered inside in
    rw front (ap (λ (k : ℕ). take (k + count) (take (end - start) (drop start old) ++ (into ++ post))) (sym n) ∙ take_two (take (end - start) (drop start old)) into post count within)

length_front : (n : ℕ) (xs : List ℕ) → n ≤ length xs → length (take n xs) ≡ n
length_front n xs le = grind (arith, common_steps)

mid_length : (n k : ℕ) (xs ys : List ℕ) → length (put_mid n k xs ys) ≡ length (take n xs) + (length ys + length (post_of n k xs))
mid_length n k xs ys = length-append (take n xs) (ys ++ post_of n k xs) ∙ ap (λ (m : ℕ). length (take n xs) + m) (length-append ys (post_of n k xs))

nothing_behind : (n : ℕ) (xs : List ℕ) → length (post_of n (length xs - n) xs) ≡ 0
nothing_behind n xs = grind (arith, common_steps)

mid_read : (n k : ℕ) (old copied into : List ℕ) (start end count : ℕ) → n ≡ end - start → start ≤ end → end ≤ length old → copied ≡ copy_within old start end 0 → count ≤ length into
    → take (n + count) (put_mid n k copied into) ≡ take (end - start) (drop start old) ++ take count into
mid_read n k old copied into start end count is ordered inside copy within =
    rw is (read_behind old copied into (post_of (end - start) k copied) start end count ordered inside copy within)

pub filled_items : (v : Vec ℕ Global) (old copied into : List ℕ) (start end count : ℕ) → start ≤ end → end ≤ length old → length old ≡ v.len → copied ≡ v.items → v.items ≡ copy_within old start end 0
    → length into ≡ length copied - (end - start) → count ≤ length into
    → take (end - start + count) (with_items v (put_mid (end - start) (length copied - (end - start)) copied into)).items ≡ take (end - start) (drop start old) ++ take count into
filled_items v old copied into start end count ordered inside long same is all within =
    let n : ℕ = end - start in
    let k : ℕ = length copied - n in
    let held : v.len ≡ length v.items = v.ok.0 in
    let size : length copied ≡ length v.items = ap length same in
    let front : length (take n copied) ≡ n = length_front n copied (omega (arith, held, size, long)) in
    let behind : length (post_of n k copied) ≡ 0 = nothing_behind n copied in
    let len : length (put_mid n k copied into) ≡ v.len = omega (arith, mid_length n k copied into, front, behind, all, size, held, long) in
    ap (λ (z : List ℕ). take (n + count) z) (with_items_is v (put_mid n k copied into) len)
    ∙ mid_read n k old copied into start end count refl ordered inside (same ∙ is) within

pub rest_length : (xs : List ℕ) (n : ℕ) → length (take (length xs - n) (drop n xs)) ≡ length xs - n
rest_length xs n = grind (arith, common_steps)

-- where nothing is read the unread bytes stay
pub kept_items : (v : Vec ℕ Global) (old copied into : List ℕ) (start end : ℕ) → start ≤ end → end ≤ length old → length old ≡ v.len → copied ≡ v.items → v.items ≡ copy_within old start end 0
    → length into ≡ length copied - (end - start)
    → take (end - start - 0) (drop 0 (with_items v (put_mid (end - start) (length copied - (end - start)) copied into)).items) ≡ take (end - start) (drop start old)
kept_items v old copied into start end ordered inside long same is all =
    let buffer : List ℕ = (with_items v (put_mid (end - start) (length copied - (end - start)) copied into)).items in
    let whole : end - start - 0 ≡ end - start + 0 = omega arith in
    ap (λ (n : ℕ). take n buffer) whole ∙ filled_items v old copied into start end 0 ordered inside long same is all (omega arith) ∙ append-nil (take (end - start) (drop start old))

-- the buffer keeps its length
pub as_long : (v : Vec ℕ Global) (xs : List ℕ) (n : ℕ) → n ≤ v.len → n ≤ length (with_items v xs).items
as_long v xs n within =
    let len : v.len ≡ length (with_items v xs).items = (with_items v xs).ok.0 in
    omega (arith, len, within)

-- the bytes that were read have room
pub read_fits : (v : Vec ℕ Global) (old copied into : List ℕ) (start end count : ℕ) → end ≤ length old → length old ≡ v.len → copied ≡ v.items
    → length into ≡ length copied - (end - start) → count ≤ length into → end - start + count ≤ v.len
read_fits v old copied into start end count inside long same all within =
    let held : v.len ≡ length v.items = v.ok.0 in
    let size : length copied ≡ length v.items = ap length same in
    omega (arith, held, size, long, all, within, inside)

-- there is room for more
pub room_left : (old copied : List ℕ) (start end : ℕ) → start ≤ end → end ≤ length old → 4096 ≤ length old → length copied ≡ length old → length (take (end - start) (drop start old)) ≤ 256
    → 0 < length (take (length copied - (end - start)) (drop (end - start) copied))
room_left old copied start end ordered inside roomy same few = omega (arith, unread_length old start end ordered inside, rest_length copied (end - start))

pub moved_within : (buffer : List ℕ) (start end count : ℕ) → start ≤ end → count ≤ length (take (end - start) (drop start buffer)) → start + count ≤ end
moved_within buffer start end count ordered within =
    let short : length (take (end - start) (drop start buffer)) ≤ end - start = grind (arith, common_steps) in
    omega (arith, short, within, ordered)

pub at_least_none : (n : ℕ) → 0 ≤ n
at_least_none n = omega arith

pub fewer_than_held : (old : List ℕ) (len start end : ℕ) → end ≤ length old → length old ≡ len → end - start ≤ len
fewer_than_held old len start end inside size = omega arith

pub moved_past : (buffer : List ℕ) (start end place : ℕ) → start ≤ end → place < length (take (end - start) (drop start buffer)) → start + place + 1 ≤ end
moved_past buffer start end place ordered within =
    let short : length (take (end - start) (drop start buffer)) ≤ end - start = grind (arith, common_steps) in
    omega (arith, short, within, ordered)
