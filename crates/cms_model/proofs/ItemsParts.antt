-- How a script falls into lines, part by part.
use Rattle.std.proofs.Common.{◌≡◌, ℕ, suc, ◌+◌, ◌-◌, ◌/◌, ◌<◌, ◌≤◌, ◌==◌, nat_le, Bool, true, false, List, [], ◌∷◌, ◌++◌, length, replicate, refl, ap, sym, ◌∙◌, append-nil, arith}
use Rattle.std.specs.List.{slice_split, onto_first}
use Rattle.std.proofs.lemmas.Bool.Decides.{nat_tests, eqb_tells}
use Rattle.cms_fields.specs.Numbers.{up}
use Rattle.cms_model.specs.Items.{Item, Long, Rest, Unread, items, part_items, last_items, items_left, line_items, short_line, rests, without_return}

abbrev pub feed : ℕ → Bool
feed b = b == 10

abbrev pub NoFeed : List ℕ → Type 0
NoFeed [] = Unit {0}
NoFeed (b ∷ bytes) = ((b == 10) ≡ false) × NoFeed bytes

abbrev pub unread : ℕ → List ℕ → Unread
unread within bytes = record { within = within; bytes = bytes }

-- ---- the parts between line feeds

pub record Parts (bytes : List ℕ) : Type 0 where
  pub first : List ℕ
  pub others : List (List ℕ)
  pub are : slice_split feed bytes ≡ first ∷ others

onto : (b : ℕ) (xs : List (List ℕ)) (first : List ℕ) (others : List (List ℕ)) → xs ≡ first ∷ others → onto_first b xs ≡ (b ∷ first) ∷ others
onto b xs first others e = ap (onto_first b) e

pub split_other : (b : ℕ) (bytes first : List ℕ) (others : List (List ℕ)) → (b == 10) ≡ false → slice_split feed bytes ≡ first ∷ others → slice_split feed (b ∷ bytes) ≡ (b ∷ first) ∷ others
split_other b bytes first others not_feed are = rw not_feed (onto b (slice_split feed bytes) first others are)

pub split_at_feed : (b : ℕ) (bytes : List ℕ) → (b == 10) ≡ true → slice_split feed (b ∷ bytes) ≡ [] ∷ slice_split feed bytes
split_at_feed b bytes is_feed = rw is_feed refl

-- there is always a first part
pub parts : (bytes : List ℕ) → Parts bytes
parts [] = record { first = []; others = []; are = refl }
parts (b ∷ bytes) =
    let further = parts bytes in
    elim (b == 10) as (λ t. (b == 10) ≡ t → Parts (b ∷ bytes)) [
      | true ↦ λ e. record { first = []; others = slice_split feed bytes; are = split_at_feed b bytes e }
      | false ↦ λ e. record { first = b ∷ further.first; others = further.others; are = split_other b bytes further.first further.others e further.are }
    ] refl

-- a line and its line feed are the first part
pub split_line : (line further : List ℕ) → NoFeed line → slice_split feed (line ++ 10 ∷ further) ≡ line ∷ slice_split feed further
split_line [] further none = refl
split_line (b ∷ line) further none = split_other b (line ++ 10 ∷ further) line (slice_split feed further) none.0 (split_line line further none.1)

-- bytes without a line feed are the one part
pub split_open : (line : List ℕ) → NoFeed line → slice_split feed line ≡ line ∷ []
split_open [] none = refl
split_open (b ∷ line) none = split_other b line line [] none.0 (split_open line none.1)

-- and in front of others they begin the first part
pub split_front : (front bytes first : List ℕ) (others : List (List ℕ)) → NoFeed front → slice_split feed bytes ≡ first ∷ others → slice_split feed (front ++ bytes) ≡ (front ++ first) ∷ others
split_front [] bytes first others none are = are
split_front (b ∷ front) bytes first others none are = split_other b (front ++ bytes) (front ++ first) others none.0 (split_front front bytes first others none.1 are)

-- ---- the carriage return at a line's end

pub return_behind : (front : List ℕ) (b : ℕ) (bytes : List ℕ) → without_return (front ++ b ∷ bytes) ≡ front ++ without_return (b ∷ bytes)
return_behind [] b bytes = refl
return_behind (a ∷ []) b bytes = refl
return_behind (a ∷ c ∷ front) b bytes = ap (λ (z : List ℕ). a ∷ z) (return_behind (c ∷ front) b bytes)

pub return_short : (bytes : List ℕ) → length (without_return bytes) ≤ length bytes
return_short [] = omega arith
return_short (b ∷ []) = grind (arith, nat_tests, eqb_tells b 13)
return_short (b ∷ c ∷ bytes) = let h = return_short (c ∷ bytes) in omega (arith, h)

pub return_one : (bytes : List ℕ) → length bytes ≤ length (without_return bytes) + 1
return_one [] = omega arith
return_one (b ∷ []) = grind (arith, nat_tests, eqb_tells b 13)
return_one (b ∷ c ∷ bytes) = let h = return_one (c ∷ bytes) in omega (arith, h)

-- ---- items by parts

part_rest : (within : ℕ) (part : List ℕ) (parts : List (List ℕ)) (first : List ℕ) (others : List (List ℕ)) (e : Bool) → parts ≡ first ∷ others
    → part_items within (part ∷ parts) e ≡ items_left within (without_return part) ++ part_items 0 parts e
part_rest within part parts first others e are = rw are refl

-- a line with its line feed
pub items_line : (within : ℕ) (line further : List ℕ) (e : Bool) → NoFeed line → items (unread within (line ++ 10 ∷ further)) e ≡ items_left within (without_return line) ++ items (unread 0 further) e
unfolding items
items_line within line further e none =
    let p = parts further in
    ap (λ (z : List (List ℕ)). part_items within z e) (split_line line further none) ∙ part_rest within line (slice_split feed further) p.first p.others e p.are

-- the bytes behind the last line feed
pub items_open : (within : ℕ) (line : List ℕ) (e : Bool) → NoFeed line → items (unread within line) e ≡ last_items within line e
unfolding items
items_open within line e none = ap (λ (z : List (List ℕ)). part_items within z e) (split_open line none)

-- ---- what surely belongs to the first line: its part, or all but a carriage return that a line feed follows or may follow

abbrev pub content : List ℕ → List (List ℕ) → Bool → List ℕ
content part [] true = part
content part [] false = without_return part
content part (next ∷ others) e = without_return part

abbrev pub behind : List (List ℕ) → Bool → List Item
behind [] e = []
behind (next ∷ others) e = part_items 0 (next ∷ others) e

pub items_within : (within : ℕ) (part : List ℕ) (others : List (List ℕ)) (e : Bool) → part_items (suc within) (part ∷ others) e ≡ rests (suc within) (length (content part others e)) ++ behind others e
items_within within part [] true = sym (append-nil (rests (suc within) (length part)))
items_within within part [] false = sym (append-nil (rests (suc within) (length (without_return part))))
items_within within part (next ∷ others) e = refl

pub long_items : (bytes : List ℕ) → 255 < length bytes → line_items bytes ≡ Long ∷ rests 0 (length bytes)
long_items bytes long = let t : nat_le (length bytes) 255 ≡ false = grind (arith, nat_tests) in rw t refl

pub short_items : (bytes : List ℕ) → length bytes ≤ 255 → line_items bytes ≡ short_line bytes ∷ []
short_items bytes short = let t : nat_le (length bytes) 255 ≡ true = grind (arith, nat_tests) in rw t refl

pub items_beyond : (part : List ℕ) (others : List (List ℕ)) (e : Bool) → 255 < length (content part others e)
    → part_items 0 (part ∷ others) e ≡ (Long ∷ rests 0 (length (content part others e))) ++ behind others e
items_beyond [] [] true long = absurd (omega arith)
items_beyond (b ∷ part) [] true long = long_items (b ∷ part) long ∙ sym (append-nil (Long ∷ rests 0 (length (b ∷ part))))
items_beyond part [] false long =
    let t : nat_le (length (without_return part)) 255 ≡ false = grind (arith, nat_tests) in
    rw t (sym (append-nil (Long ∷ rests 0 (length (without_return part)))))
items_beyond part (next ∷ others) e long = ap (λ (z : List Item). z ++ part_items 0 (next ∷ others) e) (long_items (without_return part) long)

-- a front of the line that is followed by a byte of it belongs to it
pub content_front : (front : List ℕ) (b : ℕ) (part : List ℕ) (others : List (List ℕ)) (e : Bool) → content (front ++ b ∷ part) others e ≡ front ++ content (b ∷ part) others e
content_front front b part [] true = refl
content_front front b part [] false = return_behind front b part
content_front front b part (next ∷ others) e = return_behind front b part

pub rest_first : (count : ℕ) → replicate (up (suc count) 255) Rest ≡ Rest ∷ replicate (up (count - 254) 255) Rest
rest_first count = let n : (suc count + (255 - 1)) / 255 ≡ suc ((count - 254 + (255 - 1)) / 255) = omega arith in rw n refl
