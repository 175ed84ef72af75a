-- Which items a part of a script tells.
use Rattle.std.proofs.Common.{◌≡◌, ℕ, zero, suc, ◌+◌, ◌-◌, ◌/◌, ◌<◌, ◌≤◌, ◌==◌, nat_le, Bool, true, false, List, [], ◌∷◌, ◌++◌, length, replicate, Option, Some, None, refl, ap, sym, ◌∙◌, subst, append_assoc, append-nil, arith, length-append, slice_get, ⊎_elim, ◌↔◌}
use Rattle.std.specs.List.{slice_split, onto_first}
use Rattle.std.specs.Option.{option_map_or}
use Rattle.std.proofs.lemmas.Option.{slice_get_within}
use Rattle.std.proofs.lemmas.Bool.{cases_lt}
use Rattle.std.proofs.lemmas.Bool.Decides.{nat_tests}
use Rattle.cms_model.specs.Items.{Item, Text, Bad, Long, Rest, Unread, extended, items, part_items, items_left, items_sure, line_items, short_line, rests, without_return, IsTold, coded_line}
use Rattle.cms_model.proofs.ItemsParts.{feed, parts, split_other, split_at_feed, content, behind, items_within, items_beyond, content_front, long_items, short_items, return_short}

-- ---- lists

record IsFront (front whole : List Item) : Type 0 where
  further : List Item
  is : whole ≡ front ++ further

same_front : (front xs ys : List Item) → IsFront xs ys → IsFront (front ++ xs) (front ++ ys)
same_front front xs ys f = record { further = f.further; is = ap (λ (z : List Item). front ++ z) f.is ∙ sym (append_assoc front xs f.further) }

no_front : (ys : List Item) → IsFront [] ys
no_front ys = record { further = ys; is = refl }

times_more : (m n : ℕ) → replicate (m + n) Rest ≡ replicate m Rest ++ replicate n Rest
times_more zero n = let z : 0 + n ≡ n = omega arith in rw z refl
times_more (suc m) n = let z : suc m + n ≡ suc (m + n) = omega arith in rw z (ap (λ (y : List Item). Rest ∷ y) (times_more m n))

-- more bytes of a line have no fewer pieces
rests_front : (within m n : ℕ) (behind_it : List Item) → m ≤ n → IsFront (rests within m) (rests within n ++ behind_it)
rests_front within m n behind_it le =
    let a : ℕ = (m - (255 - within) + (255 - 1)) / 255 in
    let b : ℕ = (n - (255 - within) + (255 - 1)) / 255 in
    let d : b ≡ a + (b - a) = omega arith in
    record {
      further = replicate (b - a) Rest ++ behind_it;
      is =
          ap (λ (z : ℕ). replicate z Rest ++ behind_it) d ∙ ap (λ (z : List Item). z ++ behind_it) (times_more a (b - a)) ∙ append_assoc (replicate a Rest) (replicate (b - a) Rest) behind_it;
    }

-- ---- parts of bytes that go on

join : List (List ℕ) → List (List ℕ) → List (List ℕ)
join [] ys = ys
join (x ∷ []) [] = x ∷ []
join (x ∷ []) (y ∷ ys) = (x ++ y) ∷ ys
join (x ∷ z ∷ xs) ys = x ∷ join (z ∷ xs) ys

join_onto : (b : ℕ) (xs ys : List (List ℕ)) (x : List ℕ) → join ((b ∷ x) ∷ xs) ys ≡ onto_first b (join (x ∷ xs) ys)
unfolding join
join_onto b [] [] x = refl
join_onto b [] (y ∷ ys) x = refl
join_onto b (z ∷ xs) ys x = refl

join_end : (xs ys : List (List ℕ)) (x : List ℕ) (zs : List (List ℕ)) → zs ≡ x ∷ xs → join ([] ∷ zs) ys ≡ [] ∷ join zs ys
unfolding join
join_end xs ys x zs e = rw e refl

split_join : (bytes more : List ℕ) → slice_split feed (bytes ++ more) ≡ join (slice_split feed bytes) (slice_split feed more)
unfolding join
split_join [] more = let p = parts more in rw p.are refl
split_join (b ∷ bytes) more =
    let p = parts bytes in
    let ih : slice_split feed (bytes ++ more) ≡ join (slice_split feed bytes) (slice_split feed more) = split_join bytes more in
    elim (b == 10) as (λ t. (b == 10) ≡ t → slice_split feed (b ∷ (bytes ++ more)) ≡ join (slice_split feed (b ∷ bytes)) (slice_split feed more)) [
      | true ↦ λ e. split_at_feed b (bytes ++ more) e ∙ ap (λ (z : List (List ℕ)). [] ∷ z) ih
          ∙ sym (ap (λ (z : List (List ℕ)). join z (slice_split feed more)) (split_at_feed b bytes e) ∙ join_end p.others (slice_split feed more) p.first (slice_split feed bytes) p.are)
      | false ↦ λ e.
          let q = parts (bytes ++ more) in
          split_other b (bytes ++ more) q.first q.others e q.are ∙ sym (ap (onto_first b) q.are) ∙ ap (onto_first b) (ih ∙ ap (λ (z : List (List ℕ)). join z (slice_split feed more)) p.are)
          ∙ sym (join_onto b p.others (slice_split feed more) p.first) ∙ sym (ap (λ (z : List (List ℕ)). join z (slice_split feed more)) (split_other b bytes p.first p.others e p.are))
    ] refl

-- ---- what is told stays

content_grows : (part first : List ℕ) (others : List (List ℕ)) (e : Bool) → length (without_return part) ≤ length (content (part ++ first) others e)
content_grows part [] [] true = let n : part ++ [] ≡ part = append-nil part in rw n (return_short part)
content_grows part [] [] false = let n : part ++ [] ≡ part = append-nil part in rw n (omega arith)
content_grows part [] (next ∷ others) e = let n : part ++ [] ≡ part = append-nil part in rw n (omega arith)
content_grows part (b ∷ first) others e =
    let c : content (part ++ b ∷ first) others e ≡ part ++ content (b ∷ first) others e = content_front part b first others e in
    let l : length (part ++ content (b ∷ first) others e) ≡ length part + length (content (b ∷ first) others e) = length-append part (content (b ∷ first) others e) in
    let s : length (without_return part) ≤ length part = return_short part in
    rw (c, l) (omega (arith, s))

long_sure : (bytes : List ℕ) → 255 < length bytes → items_sure 0 bytes ≡ Long ∷ rests 0 (length bytes)
long_sure bytes long = let t : nat_le (length bytes) 255 ≡ false = grind (arith, nat_tests) in rw t refl

short_sure : (bytes : List ℕ) → length bytes ≤ 255 → items_sure 0 bytes ≡ []
short_sure bytes short = let t : nat_le (length bytes) 255 ≡ true = grind (arith, nat_tests) in rw t refl

long_front : (m n : ℕ) (behind_it : List Item) → m ≤ n → IsFront (Long ∷ rests 0 m) ((Long ∷ rests 0 n) ++ behind_it)
long_front m n behind_it le = same_front (Long ∷ []) (rests 0 m) (rests 0 n ++ behind_it) (rests_front 0 m n behind_it le)

last_front : (within : ℕ) (part first : List ℕ) (others : List (List ℕ)) (e : Bool) → IsFront (items_sure within (without_return part)) (part_items within ((part ++ first) ∷ others) e)
last_front zero part first others e =
    let grows : length (without_return part) ≤ length (content (part ++ first) others e) = content_grows part first others e in
    ⊎_elim
    (λ (long : 255 < length (without_return part)).
    let l : items_sure 0 (without_return part) ≡ Long ∷ rests 0 (length (without_return part)) = long_sure (without_return part) long in
    let b : part_items 0 ((part ++ first) ∷ others) e ≡ (Long ∷ rests 0 (length (content (part ++ first) others e))) ++ behind others e = items_beyond (part ++ first) others e (omega arith) in
    subst (λ (z : List Item). IsFront (items_sure 0 (without_return part)) z) (sym b)
    (subst (λ (z : List Item). IsFront z ((Long ∷ rests 0 (length (content (part ++ first) others e))) ++ behind others e)) (sym l)
    (long_front (length (without_return part)) (length (content (part ++ first) others e)) (behind others e) grows)))
    (λ (short : length (without_return part) ≤ 255). subst (λ (z : List Item). IsFront z (part_items 0 ((part ++ first) ∷ others) e)) (sym (short_sure (without_return part) short))
    (no_front (part_items 0 ((part ++ first) ∷ others) e)))
    (cases_lt 255 (length (without_return part)))
last_front (suc within) part first others e =
    let grows : length (without_return part) ≤ length (content (part ++ first) others e) = content_grows part first others e in
    subst (λ (z : List Item). IsFront (rests (suc within) (length (without_return part))) z) (sym (items_within within (part ++ first) others e))
    (rests_front (suc within) (length (without_return part)) (length (content (part ++ first) others e)) (behind others e) grows)

record Joined (xs ys : List (List ℕ)) : Type 0 where
  first : List ℕ
  others : List (List ℕ)
  are : join xs ys ≡ first ∷ others

joined : (x : List ℕ) (xs : List (List ℕ)) (y : List ℕ) (ys : List (List ℕ)) → Joined (x ∷ xs) (y ∷ ys)
unfolding join
joined x [] y ys = record { first = x ++ y; others = ys; are = refl }
joined x (z ∷ xs) y ys = record { first = x; others = join (z ∷ xs) (y ∷ ys); are = refl }

-- a whole line, and the items of the others
whole_first : (within : ℕ) (x z : List ℕ) (xs : List (List ℕ)) (y : List ℕ) (ys : List (List ℕ)) (e : Bool)
    → part_items within (join (x ∷ z ∷ xs) (y ∷ ys)) e ≡ items_left within (without_return x) ++ part_items 0 (join (z ∷ xs) (y ∷ ys)) e
unfolding join
whole_first within x z xs y ys e = let j = joined z xs y ys in let a : join (z ∷ xs) (y ∷ ys) ≡ j.first ∷ j.others = j.are in rw a refl

parts_front : (within : ℕ) (x : List ℕ) (xs : List (List ℕ)) (y : List ℕ) (ys : List (List ℕ)) (e : Bool) → IsFront (part_items within (x ∷ xs) false) (part_items within (join (x ∷ xs) (y ∷ ys)) e)
unfolding join
parts_front zero x [] y ys e = last_front 0 x y ys e
parts_front (suc within) x [] y ys e = last_front (suc within) x y ys e
parts_front within x (z ∷ xs) y ys e =
    subst (λ (w : List Item). IsFront (items_left within (without_return x) ++ part_items 0 (z ∷ xs) false) w) (sym (whole_first within x z xs y ys e))
    (same_front (items_left within (without_return x)) (part_items 0 (z ∷ xs) false) (part_items 0 (join (z ∷ xs) (y ∷ ys)) e) (parts_front 0 z xs y ys e))

pub told_front : (u : Unread) (more : List ℕ) (e : Bool) → (further : List Item) × (items (extended u more) e ≡ items u false ++ further)
unfolding items
told_front u more e =
    let p = parts u.bytes in
    let q = parts more in
    let f = parts_front u.within p.first p.others q.first q.others e in
    let s : slice_split feed (u.bytes ++ more) ≡ join (p.first ∷ p.others) (q.first ∷ q.others) =
    split_join u.bytes more ∙ ap (λ (z : List (List ℕ)). join z (slice_split feed more)) p.are ∙ ap (join (p.first ∷ p.others)) q.are in
    (f.further, ap (λ (z : List (List ℕ)). part_items u.within z e) s ∙ f.is ∙ ap (λ (z : List (List ℕ)). part_items u.within z false ++ f.further) (sym p.are))

-- ---- and nothing else is told: two ways to go on have no further item in common

-- a line that makes any line long
letters : List ℕ
letters = replicate 256 65

letters_split : slice_split feed letters ≡ letters ∷ []
unfolding letters
letters_split = refl

letters_length : length letters ≡ 256
unfolding letters
letters_length = refl

coded_short : (o : Option (List ℕ)) → option_map_or Text o Bad ≡ Long → ⊥
coded_short None e = cc
coded_short (Some text) e = cc

short_not_long : (bytes : List ℕ) → short_line bytes ≡ Long → ⊥
short_not_long bytes e = coded_short (coded_line bytes) e

get_behind : (front xs ys zs : List Item) (k : ℕ) (item : Item)
    → ((j : ℕ) → slice_get xs j ≡ Some item → slice_get ys j ≡ Some item → j < length zs)
    → slice_get (front ++ xs) k ≡ Some item → slice_get (front ++ ys) k ≡ Some item → k < length (front ++ zs)
get_behind [] xs ys zs k item f a b = f k a b
get_behind (x ∷ front) xs ys zs zero item f a b = omega arith
get_behind (x ∷ front) xs ys zs (suc k) item f a b = let h : k < length (front ++ zs) = get_behind front xs ys zs k item f a b in omega (arith, h)

-- a line feed behind the last part
ended_line : (within : ℕ) (x : List ℕ) → part_items within ((x ++ []) ∷ [] ∷ []) true ≡ items_left within (without_return x)
ended_line within x = let n : x ++ [] ≡ x = append-nil x in rw n (append-nil (items_left within (without_return x)))

same_within : (xs ys : List Item) (k : ℕ) (item : Item) → xs ≡ ys → slice_get xs k ≡ Some item → k < length ys
same_within xs ys k item same got = slice_get_within ys k item (ap (λ (z : List Item). slice_get z k) (sym same) ∙ got)

one_only : (x y item : Item) (k : ℕ) (more : List Item) → (x ≡ y → ⊥) → slice_get (x ∷ []) k ≡ Some item → slice_get (y ∷ more) k ≡ Some item → ⊥
one_only x y item zero more differ a b = differ (cc)
one_only x y item (suc k) more differ a b = cc

last_only : (within : ℕ) (x : List ℕ) (k : ℕ) (item : Item) → slice_get (part_items within ((x ++ []) ∷ [] ∷ []) true) k ≡ Some item
    → slice_get (part_items within ((x ++ letters) ∷ []) true) k ≡ Some item → k < length (items_sure within (without_return x))
last_only zero x k item a b =
    let line : part_items 0 ((x ++ []) ∷ [] ∷ []) true ≡ line_items (without_return x) = ended_line 0 x in
    ⊎_elim
    (λ (long : 255 < length (without_return x)). same_within (part_items 0 ((x ++ []) ∷ [] ∷ []) true) (items_sure 0 (without_return x)) k item
    (line ∙ long_items (without_return x) long ∙ sym (long_sure (without_return x) long)) a)
    (λ (short : length (without_return x) ≤ 255).
    let l : 255 < length (x ++ letters) = omega (arith, length-append x letters, letters_length) in
    absurd (one_only (short_line (without_return x)) Long item k (rests 0 (length (x ++ letters)) ++ []) (short_not_long (without_return x))
    (ap (λ (z : List Item). slice_get z k) (sym (line ∙ short_items (without_return x) short)) ∙ a)
    (ap (λ (z : List Item). slice_get z k) (sym (items_beyond (x ++ letters) [] true l)) ∙ b)))
    (cases_lt 255 (length (without_return x)))
last_only (suc within) x k item a b = same_within (part_items (suc within) ((x ++ []) ∷ [] ∷ []) true) (rests (suc within) (length (without_return x))) k item (ended_line (suc within) x) a

parts_only : (within : ℕ) (x : List ℕ) (xs : List (List ℕ)) (k : ℕ) (item : Item)
    → slice_get (part_items within (join (x ∷ xs) ([] ∷ [] ∷ [])) true) k ≡ Some item → slice_get (part_items within (join (x ∷ xs) (letters ∷ [])) true) k ≡ Some item
    → k < length (part_items within (x ∷ xs) false)
unfolding join
parts_only zero x [] k item a b = last_only 0 x k item a b
parts_only (suc within) x [] k item a b = last_only (suc within) x k item a b
parts_only within x (z ∷ xs) k item a b =
    get_behind (items_left within (without_return x)) (part_items 0 (join (z ∷ xs) ([] ∷ [] ∷ [])) true) (part_items 0 (join (z ∷ xs) (letters ∷ [])) true) (part_items 0 (z ∷ xs) false) k item
    (λ j p q. parts_only 0 z xs j item p q)
    (ap (λ (w : List Item). slice_get w k) (sym (whole_first within x z xs [] ([] ∷ []) true)) ∙ a)
    (ap (λ (w : List Item). slice_get w k) (sym (whole_first within x z xs letters [] true)) ∙ b)

told_only : (u : Unread) (place : ℕ) (item : Item) → IsTold u place item → place < length (items u false)
unfolding items
told_only u place item told =
    let p = parts u.bytes in
    let feed_split : slice_split feed (u.bytes ++ 10 ∷ []) ≡ join (p.first ∷ p.others) ([] ∷ [] ∷ []) = split_join u.bytes (10 ∷ []) ∙ ap (λ (z : List (List ℕ)). join z ([] ∷ [] ∷ [])) p.are in
    let long_split : slice_split feed (u.bytes ++ letters) ≡ join (p.first ∷ p.others) (letters ∷ []) =
    split_join u.bytes letters ∙ ap (λ (z : List (List ℕ)). join z (slice_split feed letters)) p.are ∙ ap (join (p.first ∷ p.others)) letters_split in
    let at = λ (z : List (List ℕ)). slice_get (part_items u.within z true) place in
    let h : place < length (part_items u.within (p.first ∷ p.others) false) =
    parts_only u.within p.first p.others place item (ap at (sym feed_split) ∙ told (10 ∷ [])) (ap at (sym long_split) ∙ told letters) in
    subst (λ (z : List (List ℕ)). place < length (part_items u.within z false)) (sym p.are) h

get_front : (front further : List Item) (k : ℕ) → k < length front → slice_get (front ++ further) k ≡ slice_get front k
get_front [] further k h = absurd (omega arith)
get_front (x ∷ front) further zero h = refl
get_front (x ∷ front) further (suc k) h = get_front front further k (omega arith)

-- what is told by a part of a script is exactly what every script that begins so has
pub told_are_sure : (u : Unread) (place : ℕ) (item : Item) → IsTold u place item ↔ (slice_get (items u false) place ≡ Some item)
told_are_sure u place item = (
  λ told.
      let within = told_only u place item told in
      let f = told_front u [] true in
      sym (get_front (items u false) f.0 place within) ∙ ap (λ (z : List Item). slice_get z place) (sym f.1) ∙ told [],
  λ got more.
      let f = told_front u more true in
      ap (λ (z : List Item). slice_get z place) f.1 ∙ get_front (items u false) f.0 place (slice_get_within (items u false) place item got) ∙ got,
)
