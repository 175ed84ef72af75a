-- What bytes say after others are written over them at a place.
use Rattle.std.proofs.Common.{◌≡◌, ℕ, ◌+◌, ◌-◌, ◌^◌, ◌<◌, ◌≤◌, List, [], ◌∷◌, ◌++◌, length, take, drop, get_or, refl, sym, ◌∙◌, ap, subst, arith, add-zero, length-append, length-take-le, get_or-drop, get_or-take}
use Rattle.std.proofs.lemmas.List.{get_or_append_left, get_or-append_right, length-drop, drop-append-le, take-append-le, drop-take, take-take}
use Rattle.std.proofs.Math.Seq.{drop-append_seam, take-append_seam}
use Rattle.byteorder.specs.Endian.{big_bytes, big_number}
use Rattle.byteorder.specs.Numbers.{big_number-reads_back}
use Rattle.cms_text.specs.Bytes.{word, byte, overwritten}

-- from the place on the field stands there, and then what stood behind
pub drop_at : (at : ℕ) (field bytes : List ℕ) → at ≤ length bytes → drop at (overwritten at field bytes) ≡ field ++ drop (at + length field) bytes
drop_at at field bytes le =
    let long : length (take at bytes) ≡ at = length-take-le at bytes le in
    subst (λ n. drop n (overwritten at field bytes) ≡ field ++ drop (at + length field) bytes) long (drop-append_seam (take at bytes) (field ++ drop (at + length field) bytes))

-- the field is read where it was written
pub field_at : (at n : ℕ) (field bytes : List ℕ) → at ≤ length bytes → length field ≡ n → take n (drop at (overwritten at field bytes)) ≡ field
field_at at n field bytes le long = rw drop_at (subst (λ k. take k (field ++ drop (at + length field) bytes) ≡ field) long (take-append_seam field (drop (at + length field) bytes)))

-- a number is read where its bytes were written
pub word_at : (at x : ℕ) (bytes : List ℕ) → at ≤ length bytes → x < 2 ^ 32 → word (overwritten at (big_bytes 4 x) bytes) at ≡ x
unfolding word
word_at at x bytes le fits = rw drop_at (big_number-reads_back 4 x (drop (at + 4) bytes) fits)

-- before the field nothing changes
pub byte_before : (at k : ℕ) (field bytes : List ℕ) → at ≤ length bytes → k < at → byte (overwritten at field bytes) k ≡ byte bytes k
byte_before at k field bytes le lt =
    let long : length (take at bytes) ≡ at = length-take-le at bytes le in
    let near : k < length (take at bytes) = omega arith in
    get_or_append_left (take at bytes) (field ++ drop (at + length field) bytes) 0 k near ∙ get_or-take at bytes k 0 lt

-- behind the field nothing changes
pub byte_behind : (at k : ℕ) (field bytes : List ℕ) → at ≤ length bytes → at + length field ≤ k → byte (overwritten at field bytes) k ≡ byte bytes k
byte_behind at k field bytes le ge =
    let long : length (take at bytes) ≡ at = length-take-le at bytes le in
    let e : at + length field + (k - at - length field) ≡ k = omega arith in
    get_or-append_right (take at bytes) (field ++ drop (at + length field) bytes) at k 0 long (omega arith)
    ∙ get_or-append_right field (drop (at + length field) bytes) (length field) (k - at) 0 refl (omega arith)
    ∙ get_or-drop (at + length field) bytes (k - at - length field) 0
    ∙ ap (λ i. get_or bytes i 0) e

-- a number is that of its bytes
word_bytes : (bytes : List ℕ) (k : ℕ) → word bytes k ≡ big_number 4 (byte bytes k ∷ byte bytes (k + 1) ∷ byte bytes (k + 2) ∷ byte bytes (k + 3) ∷ [])
unfolding word
word_bytes bytes k = simp get_or-drop (rw add-zero refl)

-- a number whose bytes don't change stays
word_same : (old new : List ℕ) (k : ℕ) → ((i : ℕ) → k ≤ i → i < k + 4 → byte new i ≡ byte old i) → word new k ≡ word old k
word_same old new k same =
    let a = same k (omega arith) (omega arith) in
    let b = same (k + 1) (omega arith) (omega arith) in
    let c = same (k + 2) (omega arith) (omega arith) in
    let d = same (k + 3) (omega arith) (omega arith) in
    word_bytes new k ∙ rw (a, b, c, d) (sym (word_bytes old k))

pub word_before : (at k : ℕ) (field bytes : List ℕ) → at ≤ length bytes → k + 4 ≤ at → word (overwritten at field bytes) k ≡ word bytes k
word_before at k field bytes le near = word_same bytes (overwritten at field bytes) k (λ i ge lt. byte_before at i field bytes le (omega arith))

pub word_behind : (at k : ℕ) (field bytes : List ℕ) → at ≤ length bytes → at + length field ≤ k → word (overwritten at field bytes) k ≡ word bytes k
word_behind at k field bytes le far = word_same bytes (overwritten at field bytes) k (λ i ge lt. byte_behind at i field bytes le (omega arith))

pub length_over : (at : ℕ) (field bytes : List ℕ) → at + length field ≤ length bytes → length (overwritten at field bytes) ≡ length bytes
length_over at field bytes le =
    let long : length (take at bytes) ≡ at = length-take-le at bytes (omega arith) in
    simp (length-append, length-drop) (omega arith)

-- what stands before the field stays, also as a field
pub field_before : (at k n : ℕ) (field bytes : List ℕ) → k + n ≤ at → at ≤ length bytes → take n (drop k (overwritten at field bytes)) ≡ take n (drop k bytes)
field_before at k n field bytes near le =
    let long : length (take at bytes) ≡ at = length-take-le at bytes le in
    let front : length (drop k (take at bytes)) ≡ at - k = length-drop k (take at bytes) ∙ ap (λ m. m - k) long in
    rw (drop-append-le k (take at bytes) (field ++ drop (at + length field) bytes) (omega arith), take-append-le n (drop k (take at bytes)) (field ++ drop (at + length field) bytes) (omega arith))
    (subst (λ m. take n (drop k (take m bytes)) ≡ take n (drop k bytes)) (let e : k + (at - k) ≡ at = omega arith in e) (rw drop-take (take-take n (at - k) (drop k bytes) (omega arith))))
