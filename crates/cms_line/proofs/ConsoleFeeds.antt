-- The first line feed of bytes, and whether a line goes on past its next bytes.
use Rattle.std.proofs.Common.{◌≡◌, ◌⊎◌, inl, inr, ℕ, zero, suc, ◌+◌, ◌-◌, ◌<◌, ◌≤◌, ◌==◌, nat_lt, not, Bool, true, false, ◌&&◌, ◌||◌, List, [], ◌∷◌, ◌++◌, length, take, drop, get_or, Option, Some, None, refl, ap, sym, ◌∙◌, subst, arith, add-one, ⊎_elim, drop-cons, cond}
use Rattle.std.proofs.lemmas.Bool.{and_parts}
use Rattle.std.specs.List.{position, position_or_len}
use Rattle.std.specs.Option.{option_map}
use Rattle.std.proofs.lemmas.Bool.Decides.{nat_tests, eqb_tells}
use Rattle.std.proofs.lemmas.Grind.{common_steps}
use Rattle.std.proofs.lemmas.List.{take-append-drop}
use Rattle.cms_model.specs.Items.{Goes, without_return}
use Rattle.cms_model.proofs.ItemsParts.{feed, NoFeed}
use Rattle.cms_model.proofs.Whole.{or_first as or_left}
use Rattle.cms_line.specs.ConsoleSteps.{has_feed, goes_past, begins_in_line}

-- ---- the place of the first line feed

position_here : (x : ℕ) (xs : List ℕ) → (x == 10) ≡ true → position feed (x ∷ xs) ≡ Some 0
position_here x xs is_feed = let t : nat_lt 0 (suc (length xs)) ≡ true = grind (arith, nat_tests) in rw is_feed (rw t refl)

shifted : (n : ℕ) (t : Bool) → cond t (Some (1 + n)) None ≡ option_map (λ k. k + 1) (cond t (Some n) None)
shifted n true = ap Some (omega arith)
shifted n false = refl

position_further : (x : ℕ) (xs : List ℕ) → (x == 10) ≡ false → position feed (x ∷ xs) ≡ option_map (λ n. n + 1) (position feed xs)
position_further x xs not_feed =
    let n : ℕ = position_or_len feed xs in
    let t : nat_lt (1 + n) (suc (length xs)) ≡ nat_lt n (length xs) = grind (arith, nat_tests) in
    rw not_feed (ap (λ (b : Bool). cond b (Some (1 + n)) None) t ∙ shifted n (nat_lt n (length xs)))

option_cases : (o : Option ℕ) → (o ≡ None) ⊎ ((m : ℕ) × (o ≡ Some m))
option_cases None = inl refl
option_cases (Some m) = inr (m, refl)

bool_cases : (b : Bool) → (b ≡ true) ⊎ (b ≡ false)
bool_cases true = inl refl
bool_cases false = inr refl

pub record FeedAt (bytes : List ℕ) (n : ℕ) : Type 0 where
  pub within : n < length bytes
  pub none : has_feed (take n bytes) ≡ false
  pub is : get_or bytes n 0 ≡ 10

feed_first : (x : ℕ) (xs : List ℕ) → (x == 10) ≡ true → FeedAt (x ∷ xs) 0
feed_first x xs e = record { within = omega arith; none = refl; is = grind (arith, nat_tests, eqb_tells x 10) }

feed_next : (x : ℕ) (xs : List ℕ) (m n : ℕ) → (x == 10) ≡ false → m + 1 ≡ n → FeedAt xs m → FeedAt (x ∷ xs) n
feed_next x xs m n e is f =
    let s : suc m ≡ n = omega arith in
    subst (λ (k : ℕ). FeedAt (x ∷ xs) k) s (record { within = omega (arith, f.within); none = rw e f.none; is = f.is })

pub feed_found : (xs : List ℕ) (n : ℕ) → position feed xs ≡ Some n → FeedAt xs n
feed_found [] n e = cc
feed_found (x ∷ xs) n e =
    ⊎_elim
    (λ (is_feed : (x == 10) ≡ true). let z : 0 ≡ n = (let h = position_here x xs is_feed in cc) in subst (λ (k : ℕ). FeedAt (x ∷ xs) k) z (feed_first x xs is_feed))
    (λ (not_feed : (x == 10) ≡ false).
    let h : position feed (x ∷ xs) ≡ option_map (λ k. k + 1) (position feed xs) = position_further x xs not_feed in
    ⊎_elim
    (λ (none : position feed xs ≡ None). let g : option_map (λ k. k + 1) (position feed xs) ≡ None = ap (option_map (λ k. k + 1)) none in cc)
    (λ (some : (m : ℕ) × (position feed xs ≡ Some m)).
    let g : option_map (λ k. k + 1) (position feed xs) ≡ Some (some.0 + 1) = ap (option_map (λ k. k + 1)) some.1 in
    let is : some.0 + 1 ≡ n = cc in
    feed_next x xs some.0 n not_feed is (feed_found xs some.0 some.1))
    (option_cases (position feed xs)))
    (bool_cases (x == 10))

pub feed_none : (xs : List ℕ) → position feed xs ≡ None → has_feed xs ≡ false
feed_none [] e = refl
feed_none (x ∷ xs) e =
    ⊎_elim
    (λ (is_feed : (x == 10) ≡ true). let h = position_here x xs is_feed in cc)
    (λ (not_feed : (x == 10) ≡ false).
    let h : position feed (x ∷ xs) ≡ option_map (λ k. k + 1) (position feed xs) = position_further x xs not_feed in
    ⊎_elim
    (λ (none : position feed xs ≡ None). rw not_feed (feed_none xs none))
    (λ (some : (m : ℕ) × (position feed xs ≡ Some m)). let g : option_map (λ k. k + 1) (position feed xs) ≡ Some (some.0 + 1) = ap (option_map (λ k. k + 1)) some.1 in cc)
    (option_cases (position feed xs)))
    (bool_cases (x == 10))

or_true : (b : Bool) → (b || true) ≡ true
or_true true = refl
or_true false = refl

feed_in : (xs : List ℕ) (n : ℕ) → n < length xs → get_or xs n 0 ≡ 10 → has_feed xs ≡ true
feed_in [] n lt e = absurd (omega arith)
feed_in (x ∷ xs) zero lt e = let t : (x == 10) ≡ true = grind (arith, nat_tests, eqb_tells x 10) in rw t refl
feed_in (x ∷ xs) (suc n) lt e = let h : has_feed xs ≡ true = feed_in xs n (omega arith) e in rw h (or_true (x == 10))

or_right : (a b : Bool) → (a || b) ≡ false → b ≡ false
or_right true b e = cc
or_right false b e = e

pub no_feed : (xs : List ℕ) → has_feed xs ≡ false → NoFeed xs
no_feed [] e = tt
no_feed (x ∷ xs) e = (or_left (x == 10) (has_feed xs) e, no_feed xs (or_right (x == 10) (has_feed xs) e))

-- a line, its line feed, and what is behind
pub cut_at : (xs : List ℕ) (n : ℕ) → FeedAt xs n → xs ≡ take n xs ++ 10 ∷ drop (n + 1) xs
cut_at xs n f =
    let d : drop n xs ≡ 10 ∷ drop (n + 1) xs = rw add-one (drop-cons xs n 0 f.within ∙ ap (λ (z : ℕ). z ∷ drop (suc n) xs) f.is) in
    sym (ap (λ (z : List ℕ). take n xs ++ z) (sym d) ∙ take-append-drop n xs)

-- ---- going on past bytes

not_true : (b : Bool) → not b ≡ true → b ≡ false
not_true true e = cc
not_true false e = refl

pub past_none : (count : ℕ) (bytes : List ℕ) (e : Bool) → goes_past count bytes e ≡ true → has_feed (take count bytes) ≡ false
unfolding goes_past
past_none count bytes e h = not_true (has_feed (take count bytes)) (and_parts (not (has_feed (take count bytes))) (begins_in_line (drop count bytes) e) h).0

pub past_begins : (count : ℕ) (bytes : List ℕ) (e : Bool) → goes_past count bytes e ≡ true → begins_in_line (drop count bytes) e ≡ true
unfolding goes_past
past_begins count bytes e h = (and_parts (not (has_feed (take count bytes))) (begins_in_line (drop count bytes) e) h).1

pub past_is : (count : ℕ) (bytes : List ℕ) (e : Bool) → has_feed (take count bytes) ≡ false → begins_in_line (drop count bytes) e ≡ goes_past count bytes e
unfolding goes_past
past_is count bytes e none = rw none refl

pub past_not : (count : ℕ) (bytes : List ℕ) (e : Bool) → has_feed (take count bytes) ≡ true → false ≡ goes_past count bytes e
unfolding goes_past
past_not count bytes e some = rw some refl

and_false : (a : Bool) → false ≡ (a && false)
and_false true = refl
and_false false = refl

drop_none : (count : ℕ) → drop {A = ℕ} count [] ≡ []
drop_none zero = refl
drop_none (suc count) = refl

drop_all : (count : ℕ) (bytes : List ℕ) → length bytes ≤ count → drop count bytes ≡ []
drop_all count [] h = drop_none count
drop_all zero (b ∷ bytes) h = absurd (omega arith)
drop_all (suc count) (b ∷ bytes) h = drop_all count bytes (omega arith)

pub past_end : (count : ℕ) (bytes : List ℕ) (e : Bool) → length bytes ≤ count → false ≡ goes_past count bytes e
unfolding goes_past
past_end count bytes e short = let d : drop count bytes ≡ [] = drop_all count bytes short in rw d (and_false (not (has_feed (take count bytes))))

pub rest_of : (count : ℕ) (bytes : List ℕ) → take (length bytes - count) (drop count bytes) ≡ drop count bytes
rest_of count bytes = grind (arith, common_steps)

pub feed_within : (xs : List ℕ) (n : ℕ) → FeedAt xs n → has_feed xs ≡ true
feed_within xs n f = feed_in xs n f.within f.is

past_next : (count b : ℕ) (bytes : List ℕ) (e : Bool) → (b == 10) ≡ false → goes_past (suc count) (b ∷ bytes) e ≡ goes_past count bytes e
unfolding goes_past
past_next count b bytes e not_feed = rw not_feed refl

past_zero : (bytes : List ℕ) (e : Bool) → goes_past 0 bytes e ≡ begins_in_line bytes e
unfolding goes_past
past_zero bytes e = refl

-- a line that has more bytes goes on past them
begins_line : (b : ℕ) (line behind : List ℕ) (e : Bool) → NoFeed (b ∷ line) → 0 < length (without_return (b ∷ line)) → begins_in_line ((b ∷ line) ++ 10 ∷ behind) e ≡ true
begins_line b [] behind e none some = grind (arith, nat_tests, eqb_tells b 13, none.0)
begins_line b (c ∷ line) behind e none some = grind (arith, nat_tests, eqb_tells b 13, none.0, none.1.0)

pub past_line : (count : ℕ) (line behind : List ℕ) (e : Bool) → NoFeed line → count < length (without_return line) → goes_past count (line ++ 10 ∷ behind) e ≡ true
past_line count [] behind e none more = absurd (omega arith)
past_line zero (b ∷ line) behind e none more = past_zero ((b ∷ line) ++ 10 ∷ behind) e ∙ begins_line b line behind e none more
past_line (suc count) (b ∷ []) behind e none more = absurd (grind (arith, nat_tests, eqb_tells b 13, more))
past_line (suc count) (b ∷ c ∷ line) behind e none more = past_next count b ((c ∷ line) ++ 10 ∷ behind) e none.0 ∙ past_line count (c ∷ line) behind e none.1 (omega (arith, more))

begins_open : (b : ℕ) (line : List ℕ) → NoFeed (b ∷ line) → 0 < length (without_return (b ∷ line)) → begins_in_line (b ∷ line) false ≡ true
begins_open b [] none some = grind (arith, nat_tests, eqb_tells b 13, none.0)
begins_open b (c ∷ line) none some = grind (arith, nat_tests, eqb_tells b 13, none.0, none.1.0)

pub past_open : (count : ℕ) (line : List ℕ) → NoFeed line → count < length (without_return line) → goes_past count line false ≡ true
past_open count [] none more = absurd (omega arith)
past_open zero (b ∷ line) none more = past_zero (b ∷ line) false ∙ begins_open b line none more
past_open (suc count) (b ∷ []) none more = absurd (grind (arith, nat_tests, eqb_tells b 13, more))
past_open (suc count) (b ∷ c ∷ line) none more = past_next count b (c ∷ line) false none.0 ∙ past_open count (c ∷ line) none.1 (omega (arith, more))

begins_last : (b : ℕ) (line : List ℕ) → NoFeed (b ∷ line) → begins_in_line (b ∷ line) true ≡ true
begins_last b [] none = grind (arith, nat_tests, eqb_tells b 13, none.0)
begins_last b (c ∷ line) none = grind (arith, nat_tests, eqb_tells b 13, none.0, none.1.0)

pub past_last : (count : ℕ) (line : List ℕ) → NoFeed line → count < length line → goes_past count line true ≡ true
past_last count [] none more = absurd (omega arith)
past_last zero (b ∷ line) none more = past_zero (b ∷ line) true ∙ begins_last b line none
past_last (suc count) (b ∷ line) none more = past_next count b line true none.0 ∙ past_last count line none.1 (omega (arith, more))

-- what begins in a line does so however it goes on
pub begins_more : (bytes more : List ℕ) (ended e : Bool) → begins_in_line bytes ended ≡ true → Goes ended more e → begins_in_line (bytes ++ more) e ≡ true
begins_more [] more ended e h goes = cc
begins_more (b ∷ []) more true e h goes = let g = goes refl in let m : more ≡ [] = g.0 in let t : e ≡ true = g.1 in rw (m, t) h
begins_more (b ∷ []) [] false e h goes = grind (arith, nat_tests, eqb_tells b 13, h)
begins_more (b ∷ []) (c ∷ more) false e h goes = grind (arith, nat_tests, eqb_tells b 13, h)
begins_more (b ∷ c ∷ bytes) more ended e h goes = h
