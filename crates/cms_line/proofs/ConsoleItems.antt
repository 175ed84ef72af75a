-- The items of what a console has read, step by step.
use Rattle.std.proofs.Common.{◌≡◌, ℕ, zero, suc, ◌+◌, ◌-◌, ◌/◌, ◌<◌, ◌≤◌, ◌==◌, nat_le, Bool, true, false, List, [], ◌∷◌, ◌++◌, length, take, drop, replicate, refl, ap, sym, ◌∙◌, arith, append_assoc, append-nil, length-append, ⊎_elim}
use Rattle.std.specs.List.{slice_split}
use Rattle.std.proofs.lemmas.Grind.{common_steps}
use Rattle.std.proofs.lemmas.List.{take-append-drop, drop-drop}
use Rattle.std.proofs.lemmas.Bool.Decides.{nat_tests, eqb_tells}
use Rattle.std.proofs.lemmas.Bool.{cases_lt}
use Rattle.cms_model.specs.Items.{Item, Long, Rest, items, part_items, items_left, items_sure, last_items, line_items, short_line, rests, without_return}
use Rattle.cms_model.proofs.ItemsParts.{feed, NoFeed, unread, parts, split_other, split_at_feed, split_front, content, behind, items_within, items_beyond, content_front, rest_first, items_line, items_open, short_items, return_one}
use Rattle.cms_line.specs.ConsoleState.{state}
use Rattle.cms_line.specs.ConsoleSteps.{has_feed, goes_past, begins_in_line, Gives}
use Rattle.cms_line.proofs.ConsoleFeeds.{FeedAt, no_feed, cut_at, past_none, past_begins, past_line, past_open, past_last, begins_more}

-- ---- pieces of a long line

-- the parts of bytes whose first belongs to the line
record Begun (b : ℕ) (bytes : List ℕ) (e : Bool) : Type 0 where
  first : List ℕ
  others : List (List ℕ)
  behind_it : slice_split feed bytes ≡ first ∷ others
  whole : slice_split feed (b ∷ bytes) ≡ (b ∷ first) ∷ others
  belongs : content (b ∷ first) others e ≡ b ∷ content first others e

not_feed : (b : ℕ) (bytes : List ℕ) (e : Bool) → begins_in_line (b ∷ bytes) e ≡ true → (b == 10) ≡ false
not_feed b [] e h = grind (arith, nat_tests, eqb_tells b 13, eqb_tells b 10, h)
not_feed b (c ∷ bytes) e h = grind (arith, nat_tests, eqb_tells b 13, eqb_tells b 10, h)

no_return : (b : ℕ) → begins_in_line (b ∷ []) false ≡ true → without_return (b ∷ []) ≡ b ∷ []
no_return b h = let t : (b == 13) ≡ false = grind (arith, nat_tests, eqb_tells b 13, h) in rw t refl

no_return_here : (b c : ℕ) (bytes : List ℕ) (e : Bool) → begins_in_line (b ∷ c ∷ bytes) e ≡ true → (c == 10) ≡ true → without_return (b ∷ []) ≡ b ∷ []
no_return_here b c bytes e h is_feed = let t : (b == 13) ≡ false = grind (arith, nat_tests, eqb_tells b 13, h, is_feed) in rw t refl

behind_feed : (b : ℕ) (others : List (List ℕ)) (q : List ℕ) (qs : List (List ℕ)) (e : Bool) → others ≡ q ∷ qs → without_return (b ∷ []) ≡ b ∷ [] → content (b ∷ []) others e ≡ b ∷ content [] others e
behind_feed b others q qs e are alone = rw are alone

begun : (b : ℕ) (bytes : List ℕ) (e : Bool) → begins_in_line (b ∷ bytes) e ≡ true → Begun b bytes e
begun b [] true h = record { first = []; others = []; behind_it = refl; whole = split_other b [] [] [] (not_feed b [] true h) refl; belongs = refl }
begun b [] false h = record { first = []; others = []; behind_it = refl; whole = split_other b [] [] [] (not_feed b [] false h) refl; belongs = no_return b h }
begun b (c ∷ bytes) e h =
    let other : (b == 10) ≡ false = not_feed b (c ∷ bytes) e h in
    let p = parts bytes in
    elim (c == 10) as (λ t. (c == 10) ≡ t → Begun b (c ∷ bytes) e) [
      | true ↦ λ is_feed.
          let s : slice_split feed (c ∷ bytes) ≡ [] ∷ slice_split feed bytes = split_at_feed c bytes is_feed in
          record {
            first = [];
            others = slice_split feed bytes;
            behind_it = s;
            whole = split_other b (c ∷ bytes) [] (slice_split feed bytes) other s;
            belongs = behind_feed b (slice_split feed bytes) p.first p.others e p.are (no_return_here b c bytes e h is_feed);
          }
      | false ↦ λ is_other.
          let s : slice_split feed (c ∷ bytes) ≡ (c ∷ p.first) ∷ p.others = split_other c bytes p.first p.others is_other p.are in
          record {
            first = c ∷ p.first;
            others = p.others;
            behind_it = s;
            whole = split_other b (c ∷ bytes) (c ∷ p.first) p.others other s;
            belongs = content_front (b ∷ []) c p.first p.others e;
          }
    ] refl

same_rests : (m n : ℕ) → m ≡ n → replicate ((m + (255 - 1)) / 255) Rest ≡ replicate ((n + (255 - 1)) / 255) Rest
same_rests m n e = ap (λ (k : ℕ). replicate ((k + (255 - 1)) / 255) Rest) e

-- the length of a line that begins with a front and goes on behind it
front_length : (front : List ℕ) (b : ℕ) (bytes : List ℕ) (e : Bool) (p : Begun b bytes e)
    → length (content (front ++ b ∷ p.first) p.others e) ≡ length front + suc (length (content p.first p.others e))
front_length front b bytes e p =
    ap length (content_front front b p.first p.others e ∙ ap (λ (z : List ℕ). front ++ z) p.belongs)
    ∙ length-append front (b ∷ content p.first p.others e)

items_front : (within : ℕ) (front : List ℕ) (b : ℕ) (bytes : List ℕ) (e : Bool) → NoFeed front → (p : Begun b bytes e)
    → items (unread within (front ++ b ∷ bytes)) e ≡ part_items within ((front ++ b ∷ p.first) ∷ p.others) e
unfolding items
items_front within front b bytes e none p = ap (λ (z : List (List ℕ)). part_items within z e) (split_front front (b ∷ bytes) (b ∷ p.first) p.others none p.whole)

items_behind : (within : ℕ) (b : ℕ) (bytes : List ℕ) (e : Bool) (p : Begun b bytes e)
    → items (unread (suc within) bytes) e ≡ rests (suc within) (length (content p.first p.others e)) ++ behind p.others e
unfolding items
items_behind within b bytes e p = ap (λ (z : List (List ℕ)). part_items (suc within) z e) p.behind_it ∙ items_within within p.first p.others e

items_here : (b : ℕ) (bytes : List ℕ) (e : Bool) (p : Begun b bytes e) → items (unread 255 (b ∷ bytes)) e ≡ rests 255 (suc (length (content p.first p.others e))) ++ behind p.others e
unfolding items
items_here b bytes e p = ap (λ (z : List (List ℕ)). part_items 255 z e) p.whole ∙ items_within 254 (b ∷ p.first) p.others e ∙ ap (λ (z : List ℕ). rests 255 (length z) ++ behind p.others e) p.belongs

-- a long line's beginning
long_begins : (front : List ℕ) (b : ℕ) (bytes : List ℕ) (e : Bool) → NoFeed front → length front ≡ 255 → begins_in_line (b ∷ bytes) e ≡ true
    → items (unread 0 (front ++ b ∷ bytes)) e ≡ Long ∷ items (unread 255 (b ∷ bytes)) e
long_begins front b bytes e none is begins =
    let p = begun b bytes e begins in
    let m : ℕ = length (content p.first p.others e) in
    let n : length (content (front ++ b ∷ p.first) p.others e) ≡ length front + suc m = front_length front b bytes e p in
    let here : items (unread 255 (b ∷ bytes)) e ≡ rests 255 (suc m) ++ behind p.others e = items_here b bytes e p in
    items_front 0 front b bytes e none p
    ∙ items_beyond (front ++ b ∷ p.first) p.others e (omega arith)
    ∙ ap (λ (z : List Item). (Long ∷ z) ++ behind p.others e) (same_rests (length (content (front ++ b ∷ p.first) p.others e) - (255 - 0)) (suc m - (255 - 255)) (omega arith))
    ∙ sym (ap (λ (z : List Item). Long ∷ z) here)

-- its next piece
rest_begins : (within : ℕ) (front : List ℕ) (b : ℕ) (bytes : List ℕ) (e : Bool) → NoFeed front → length front ≡ 255 - suc within → begins_in_line (b ∷ bytes) e ≡ true
    → items (unread (suc within) (front ++ b ∷ bytes)) e ≡ Rest ∷ items (unread 1 bytes) e
rest_begins within front b bytes e none is begins =
    let p = begun b bytes e begins in
    let m : ℕ = length (content p.first p.others e) in
    let n : length (content (front ++ b ∷ p.first) p.others e) ≡ length front + suc m = front_length front b bytes e p in
    items_front (suc within) front b bytes e none p
    ∙ items_within within (front ++ b ∷ p.first) p.others e
    ∙ ap (λ (z : List Item). z ++ behind p.others e) (same_rests (length (content (front ++ b ∷ p.first) p.others e) - (255 - suc within)) (suc m) (omega arith) ∙ rest_first m)
    ∙ sym (ap (λ (z : List Item). Rest ∷ z) (items_behind 0 b bytes e p))

-- ---- what a console takes of its bytes

-- the bytes from a place on, of which the first belongs to the line
record Piece (count : ℕ) (bytes : List ℕ) (ended : Bool) : Type 0 where
  first : ℕ
  further : List ℕ
  behind_it : drop count bytes ≡ first ∷ further
  next : drop (count + 1) bytes ≡ further
  begins : begins_in_line (first ∷ further) ended ≡ true
  none : NoFeed (take count bytes)
  front : length (take count bytes) ≡ count

drop_more : (count : ℕ) (bytes : List ℕ) → drop (count + 1) bytes ≡ drop 1 (drop count bytes)
drop_more count bytes = rw drop-drop refl

piece_of : (count : ℕ) (bytes rest : List ℕ) (ended : Bool) → drop count bytes ≡ rest → goes_past count bytes ended ≡ true → Piece count bytes ended
piece_of count bytes [] ended is past = let h = past_begins count bytes ended past in let g = rw is at h in cc
piece_of count bytes (b ∷ rest) ended is past =
    let h = past_begins count bytes ended past in
    let l : length (drop count bytes) ≡ suc (length rest) = ap length is in
    record {
      first = b;
      further = rest;
      behind_it = is;
      next = drop_more count bytes ∙ ap (λ (z : List ℕ). drop 1 z) is;
      begins = rw is at h;
      none = no_feed (take count bytes) (past_none count bytes ended past);
      front = grind (arith, common_steps, l);
    }

piece : (count : ℕ) (bytes : List ℕ) (ended : Bool) → goes_past count bytes ended ≡ true → Piece count bytes ended
piece count bytes ended past = piece_of count bytes (drop count bytes) ended refl past

-- however it goes on
piece_more : (count : ℕ) (bytes more : List ℕ) (ended : Bool) (p : Piece count bytes ended) → bytes ++ more ≡ take count bytes ++ p.first ∷ (p.further ++ more)
piece_more count bytes more ended p =
    ap (λ (z : List ℕ). z ++ more) (sym (take-append-drop count bytes) ∙ ap (λ (z : List ℕ). take count bytes ++ z) p.behind_it)
    ∙ append_assoc (take count bytes) (p.first ∷ p.further) more

pub gives_long : (count : ℕ) (bytes : List ℕ) (ended : Bool) → count ≡ 255 → goes_past count bytes ended ≡ true → Gives (state 0 bytes ended) (state 255 (drop count bytes) ended) (Long ∷ [])
gives_long count bytes ended is past =
    let p = piece count bytes ended past in
    record {
      ended = refl;
      told = λ more e goes.
          let begins : begins_in_line (p.first ∷ (p.further ++ more)) e ≡ true = begins_more (p.first ∷ p.further) more ended e p.begins goes in
          ap (λ (z : List ℕ). items (unread 0 z) e) (piece_more count bytes more ended p)
          ∙ long_begins (take count bytes) p.first (p.further ++ more) e p.none (p.front ∙ is) begins
          ∙ ap (λ (z : List ℕ). Long ∷ items (unread 255 (z ++ more)) e) (sym p.behind_it);
    }

pub gives_rest : (within count : ℕ) (bytes : List ℕ) (ended : Bool) → count ≡ 255 - suc within → goes_past count bytes ended ≡ true
    → Gives (state (suc within) bytes ended) (state 1 (drop (count + 1) bytes) ended) (Rest ∷ [])
gives_rest within count bytes ended is past =
    let p = piece count bytes ended past in
    record {
      ended = refl;
      told = λ more e goes.
          let begins : begins_in_line (p.first ∷ (p.further ++ more)) e ≡ true = begins_more (p.first ∷ p.further) more ended e p.begins goes in
          ap (λ (z : List ℕ). items (unread (suc within) z) e) (piece_more count bytes more ended p)
          ∙ rest_begins within (take count bytes) p.first (p.further ++ more) e p.none (p.front ∙ is) begins
          ∙ ap (λ (z : List ℕ). Rest ∷ items (unread 1 (z ++ more)) e) (sym p.next);
    }

not_more : (count : ℕ) (line further : List ℕ) (e : Bool) → NoFeed line → goes_past count (line ++ 10 ∷ further) e ≡ false → length (without_return line) ≤ count
not_more count line further e none past =
    ⊎_elim
    (λ (lt : count < length (without_return line)). let h = past_line count line further e none lt in cc)
    (λ (le : length (without_return line) ≤ count). le)
    (cases_lt count (length (without_return line)))

-- a line with its line feed, behind which the bytes go on
line_more : (n within : ℕ) (bytes more : List ℕ) (e : Bool) → FeedAt bytes n
    → items (unread within (bytes ++ more)) e ≡ items_left within (without_return (take n bytes)) ++ items (unread 0 (drop (n + 1) bytes ++ more)) e
line_more n within bytes more e f =
    ap (λ (z : List ℕ). items (unread within z) e) (ap (λ (z : List ℕ). z ++ more) (cut_at bytes n f) ∙ append_assoc (take n bytes) (10 ∷ drop (n + 1) bytes) more)
    ∙ items_line within (take n bytes) (drop (n + 1) bytes ++ more) e (no_feed (take n bytes) f.none)

short_of : (n count : ℕ) (bytes : List ℕ) (ended : Bool) → FeedAt bytes n → goes_past count bytes ended ≡ false → length (without_return (take n bytes)) ≤ count
short_of n count bytes ended f past =
    not_more count (take n bytes) (drop (n + 1) bytes) ended (no_feed (take n bytes) f.none) (ap (λ (z : List ℕ). goes_past count z ended) (sym (cut_at bytes n f)) ∙ past)

pub gives_line : (n count : ℕ) (bytes : List ℕ) (ended : Bool) → count ≡ 255 → FeedAt bytes n → goes_past count bytes ended ≡ false
    → Gives (state 0 bytes ended) (state 0 (drop (n + 1) bytes) ended) (short_line (without_return (take n bytes)) ∷ [])
gives_line n count bytes ended is f past = record {
  ended = refl;
  told = λ more e goes.
      let short : length (without_return (take n bytes)) ≤ count = short_of n count bytes ended f past in
      line_more n 0 bytes more e f ∙ ap (λ (z : List Item). z ++ items (unread 0 (drop (n + 1) bytes ++ more)) e) (short_items (without_return (take n bytes)) (omega arith));
}

no_rests : (within count : ℕ) → count ≤ 255 - within → rests within count ≡ []
no_rests within count le = let z : (count - (255 - within) + (255 - 1)) / 255 ≡ 0 = omega arith in rw z refl

pub gives_none : (n within count : ℕ) (bytes : List ℕ) (ended : Bool) → count ≡ 255 - suc within → FeedAt bytes n → goes_past count bytes ended ≡ false
    → Gives (state (suc within) bytes ended) (state 0 (drop (n + 1) bytes) ended) []
gives_none n within count bytes ended is f past = record {
  ended = refl;
  told = λ more e goes.
      let short : length (without_return (take n bytes)) ≤ count = short_of n count bytes ended f past in
      line_more n (suc within) bytes more e f ∙ ap (λ (z : List Item). z ++ items (unread 0 (drop (n + 1) bytes ++ more)) e)
      (no_rests (suc within) (length (without_return (take n bytes))) (omega arith));
}

-- ---- bytes without a line feed

last_short : (count : ℕ) (bytes : List ℕ) → NoFeed bytes → goes_past count bytes true ≡ false → length bytes ≤ count
last_short count bytes none past =
    ⊎_elim
    (λ (lt : count < length bytes). let h = past_last count bytes none lt in cc)
    (λ (le : length bytes ≤ count). le)
    (cases_lt count (length bytes))

last_line : (bytes : List ℕ) → 0 < length bytes → last_items 0 bytes true ≡ line_items bytes
last_line [] some = absurd (omega arith)
last_line (b ∷ bytes) some = refl

none_left : items (unread 0 []) true ≡ []
unfolding items
none_left = refl

pub gives_last : (count : ℕ) (bytes : List ℕ) (ended : Bool) → count ≡ 255 → ended ≡ true → has_feed bytes ≡ false → 0 < length bytes → goes_past count bytes ended ≡ false
    → Gives (state 0 bytes ended) (state 0 [] ended) (short_line bytes ∷ [])
gives_last count bytes ended is over none some past = record {
  ended = refl;
  told = λ more e goes.
      let g = goes over in
      let m : more ≡ [] = g.0 in
      let t : e ≡ true = g.1 in
      let n : bytes ++ [] ≡ bytes = append-nil bytes in
      let short : length bytes ≤ count = last_short count bytes (no_feed bytes none) (rw over at past) in
      let one : items (unread 0 bytes) true ≡ short_line bytes ∷ [] = items_open 0 bytes true (no_feed bytes none) ∙ last_line bytes some ∙ short_items bytes (omega arith) in
      rw (m, t, n, none_left) one;
}

pub none_at_end : (within count : ℕ) (bytes : List ℕ) → count ≡ 255 - suc within → has_feed bytes ≡ false → goes_past count bytes true ≡ false → items (unread (suc within) bytes) true ≡ []
none_at_end within count bytes is none past =
    let short : length bytes ≤ count = last_short count bytes (no_feed bytes none) past in
    items_open (suc within) bytes true (no_feed bytes none) ∙ no_rests (suc within) (length bytes) (omega arith)

open_short : (count : ℕ) (bytes : List ℕ) → NoFeed bytes → goes_past count bytes false ≡ false → length (without_return bytes) ≤ count
open_short count bytes none past =
    ⊎_elim
    (λ (lt : count < length (without_return bytes)). let h = past_open count bytes none lt in cc)
    (λ (le : length (without_return bytes) ≤ count). le)
    (cases_lt count (length (without_return bytes)))

none_sure : (within : ℕ) (bytes : List ℕ) → length bytes ≤ 255 - within → items_sure within bytes ≡ []
none_sure zero bytes short = let t : nat_le (length bytes) 255 ≡ true = grind (arith, nat_tests) in rw t refl
none_sure (suc within) bytes short = no_rests (suc within) (length bytes) short

last_of_open : (within : ℕ) (bytes : List ℕ) → last_items within bytes false ≡ items_sure within (without_return bytes)
last_of_open zero [] = refl
last_of_open zero (b ∷ bytes) = refl
last_of_open (suc within) bytes = refl

pub none_yet : (within count : ℕ) (bytes : List ℕ) → count ≡ 255 - within → has_feed bytes ≡ false → goes_past count bytes false ≡ false
    → (items (unread within bytes) false ≡ []) × (length bytes ≤ 256)
none_yet within count bytes is none past =
    let short : length (without_return bytes) ≤ count = open_short count bytes (no_feed bytes none) past in
    let one : length bytes ≤ length (without_return bytes) + 1 = return_one bytes in
    (items_open within bytes false (no_feed bytes none) ∙ last_of_open within bytes ∙ none_sure within (without_return bytes) (omega arith), omega arith)

pub none_in_nothing : (within : ℕ) → items (unread within []) true ≡ []
none_in_nothing zero = none_left
none_in_nothing (suc within) = items_open (suc within) [] true tt ∙ no_rests (suc within) 0 (omega arith)

-- ---- lengths

pub past_within : (count : ℕ) (bytes : List ℕ) (ended : Bool) → goes_past count bytes ended ≡ true → count < length bytes
past_within count bytes ended past =
    let p = piece count bytes ended past in
    let l : length (drop count bytes) ≡ suc (length p.further) = ap length p.behind_it in
    grind (arith, common_steps, l)

pub short_ended : (n count : ℕ) (bytes : List ℕ) (ended : Bool) → FeedAt bytes n → goes_past count bytes ended ≡ false → length (without_return (take n bytes)) ≤ count
short_ended n count bytes ended f past = short_of n count bytes ended f past

pub short_last : (count : ℕ) (bytes : List ℕ) (ended : Bool) → ended ≡ true → has_feed bytes ≡ false → goes_past count bytes ended ≡ false → length bytes ≤ count
short_last count bytes ended over none past = last_short count bytes (no_feed bytes none) (ap (λ (e : Bool). goes_past count bytes e) (sym over) ∙ past)
