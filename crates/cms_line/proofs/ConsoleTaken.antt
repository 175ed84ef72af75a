-- What a console takes, by its state.
use Rattle.std.proofs.Common.{◌≡◌, ℕ, zero, suc, ◌+◌, ◌<◌, ◌≤◌, ◌==◌, Bool, true, false, List, [], ◌∷◌, length, take, drop, Some, None, refl, ap, sym, ◌∙◌, subst, arith}
use Rattle.std.specs.List.{position}
use Rattle.std.proofs.lemmas.Grind.{common_steps}
use Rattle.cms_model.specs.Items.{Item, Long, Rest, items, short_line, without_return}
use Rattle.cms_model.proofs.ItemsParts.{feed}
use Rattle.cms_line.specs.Consoles.{item_of}
use Rattle.cms_line.specs.ConsoleState.{Console, state}
use Rattle.cms_line.specs.ConsoleSteps.{goes_past, room_of, Gives, GivesLine, LineEnds, LineIsLast}
use Rattle.cms_line.specs.declared.console.ConsoleLine.{ConsoleLine}
use Rattle.cms_line.specs.declared.console.ConsoleLine.TheVariants as line
use Rattle.cms_line.proofs.ConsoleFeeds.{FeedAt, feed_found, feed_none}
use Rattle.cms_line.proofs.ConsoleItems.{gives_long, gives_rest, gives_line, gives_none, gives_last, none_at_end, none_yet, short_ended, short_last, none_in_nothing}

positive : (n : ℕ) → 0 < n → (m : ℕ) × (n ≡ suc m)
positive zero h = absurd (omega arith)
positive (suc n) h = (n, refl)

-- gives from a console that is so far in a line
from : (was now : Console) (w : ℕ) (taken : List Item) → was.unread.within ≡ w → Gives (state w was.unread.bytes was.ended) now taken → Gives was now taken
from was now w taken is g = subst (λ (n : ℕ). Gives (state n was.unread.bytes was.ended) now taken) (sym is) g

to : (was now then_is : Console) (taken : List Item) → now ≡ then_is → Gives was then_is taken → Gives was now taken
to was now then_is taken is g = subst (λ (c : Console). Gives was c taken) (sym is) g

pub taken_long : (was now : Console) (room : ℕ) → was.unread.within ≡ 0 → room ≡ room_of was → goes_past (room_of was) was.unread.bytes was.ended ≡ true
    → now ≡ state 255 (drop room was.unread.bytes) was.ended → GivesLine was now line.Long
taken_long was now room beginning is past after =
    let past' : goes_past room was.unread.bytes was.ended ≡ true = ap (λ (n : ℕ). goes_past n was.unread.bytes was.ended) is ∙ past in (
      Long,
      refl,
      to was now (state 255 (drop room was.unread.bytes) was.ended) (Long ∷ []) after
          (from was (state 255 (drop room was.unread.bytes) was.ended) 0 (Long ∷ []) beginning (gives_long room was.unread.bytes was.ended (omega arith) past')),
    )

pub taken_rest : (was now : Console) (room : ℕ) → 0 < was.unread.within → room ≡ room_of was → goes_past (room_of was) was.unread.bytes was.ended ≡ true
    → now ≡ state 1 (drop (room + 1) was.unread.bytes) was.ended → GivesLine was now line.Rest
taken_rest was now room inside is past after =
    let w = positive was.unread.within inside in
    let is' : was.unread.within ≡ suc w.0 = w.1 in
    let past' : goes_past room was.unread.bytes was.ended ≡ true = ap (λ (n : ℕ). goes_past n was.unread.bytes was.ended) is ∙ past in (
      Rest,
      refl,
      to was now (state 1 (drop (room + 1) was.unread.bytes) was.ended) (Rest ∷ []) after
          (from was (state 1 (drop (room + 1) was.unread.bytes) was.ended) (suc w.0) (Rest ∷ []) is' (gives_rest w.0 room was.unread.bytes was.ended (omega arith) past')),
    )

feed_at : (c : Console) (n : ℕ) → LineEnds c n → FeedAt c.unread.bytes n
feed_at c n e = record { within = e.within; none = e.none; is = e.is }

pub line_ends : (c : Console) (n : ℕ) → goes_past (room_of c) c.unread.bytes c.ended ≡ false → position feed c.unread.bytes ≡ Some n → LineEnds c n
line_ends c n past found = let f = feed_found c.unread.bytes n found in record { past = past; within = f.within; none = f.none; is = f.is }

pub line_short : (c : Console) (n : ℕ) → c.unread.within ≡ 0 → LineEnds c n → length (without_return (take n c.unread.bytes)) ≤ 255
line_short c n beginning e = let h = short_ended n (room_of c) c.unread.bytes c.ended (feed_at c n e) e.past in omega (arith, h, beginning)

pub taken_line : (was now : Console) (l : ConsoleLine) (n : ℕ) (text : List ℕ) → was.unread.within ≡ 0 → LineEnds was n → text ≡ without_return (take n was.unread.bytes)
    → item_of l ≡ Some (short_line text) → now ≡ state 0 (drop (n + 1) was.unread.bytes) was.ended → GivesLine was now l
taken_line was now l n text beginning e text_is is after =
    let item : Item = short_line (without_return (take n was.unread.bytes)) in (
      item,
      is ∙ ap (λ (z : List ℕ). Some (short_line z)) text_is,
      to was now (state 0 (drop (n + 1) was.unread.bytes) was.ended) (item ∷ []) after
          (from was (state 0 (drop (n + 1) was.unread.bytes) was.ended) 0 (item ∷ []) beginning (gives_line n (room_of was) was.unread.bytes was.ended (omega arith) (feed_at was n e) e.past)),
    )

pub passed_tail : (was now : Console) (n : ℕ) → 0 < was.unread.within → LineEnds was n → now ≡ state 0 (drop (n + 1) was.unread.bytes) was.ended → Gives was now []
passed_tail was now n inside e after =
    let w = positive was.unread.within inside in
    let is' : was.unread.within ≡ suc w.0 = w.1 in
    to was now (state 0 (drop (n + 1) was.unread.bytes) was.ended) [] after
    (from was (state 0 (drop (n + 1) was.unread.bytes) was.ended) (suc w.0) [] is' (gives_none n w.0 (room_of was) was.unread.bytes was.ended (omega arith) (feed_at was n e) e.past))

pub last_is_short : (c : Console) → c.unread.within ≡ 0 → LineIsLast c → length c.unread.bytes ≤ 255
last_is_short c beginning e = let h = short_last (room_of c) c.unread.bytes c.ended e.ended e.none e.past in omega (arith, h, beginning)

pub taken_last : (was now : Console) (l : ConsoleLine) (n : ℕ) → was.unread.within ≡ 0 → LineIsLast was → item_of l ≡ Some (short_line was.unread.bytes) → n ≡ length was.unread.bytes
    → now ≡ state 0 (drop n was.unread.bytes) was.ended → GivesLine was now l
taken_last was now l n beginning e is all after =
    let item : Item = short_line was.unread.bytes in
    let gone : drop n was.unread.bytes ≡ [] = grind (arith, common_steps, all) in (
      item,
      is,
      to was now (state 0 [] was.ended) (item ∷ []) (after ∙ ap (λ (z : List ℕ). state 0 z was.ended) gone)
          (from was (state 0 [] was.ended) 0 (item ∷ []) beginning (gives_last (room_of was) was.unread.bytes was.ended (omega arith) e.ended e.none e.some e.past)),
    )

pub at_end : (c : Console) → goes_past (room_of c) c.unread.bytes c.ended ≡ false → position feed c.unread.bytes ≡ None → c.ended ≡ true → 0 < c.unread.within → items c.unread true ≡ []
at_end c past none over inside =
    let w = positive c.unread.within inside in
    let is' : c.unread.within ≡ suc w.0 = w.1 in
    let past' : goes_past (room_of c) c.unread.bytes true ≡ false = ap (λ (e : Bool). goes_past (room_of c) c.unread.bytes e) (sym over) ∙ past in
    subst (λ (n : ℕ). items (record { within = n; bytes = c.unread.bytes }) true ≡ []) (sym is') (none_at_end w.0 (room_of c) c.unread.bytes (omega arith) (feed_none c.unread.bytes none) past')

pub not_yet : (c : Console) → goes_past (room_of c) c.unread.bytes c.ended ≡ false → position feed c.unread.bytes ≡ None → c.ended ≡ false
    → (items c.unread false ≡ []) × (length c.unread.bytes ≤ 256)
not_yet c past none yet =
    let past' : goes_past (room_of c) c.unread.bytes false ≡ false = ap (λ (e : Bool). goes_past (room_of c) c.unread.bytes e) (sym yet) ∙ past in
    none_yet c.unread.within (room_of c) c.unread.bytes refl (feed_none c.unread.bytes none) past'

pub at_state : (c : Console) (room : ℕ) (bytes : List ℕ) (ended r : Bool) → room ≡ room_of c → bytes ≡ c.unread.bytes → ended ≡ c.ended → r ≡ goes_past room bytes ended
    → goes_past (room_of c) c.unread.bytes c.ended ≡ r
at_state c room bytes ended r is_room is_bytes is_ended is =
    sym (is ∙ ap (λ (n : ℕ). goes_past n bytes ended) is_room ∙ ap (λ (z : List ℕ). goes_past (room_of c) z ended) is_bytes ∙ ap (λ (e : Bool). goes_past (room_of c) c.unread.bytes e) is_ended)

pub nothing_left : (c : Console) → c.unread.bytes ≡ [] → items c.unread true ≡ []
nothing_left c empty = ap (λ (z : List ℕ). items (record { within = c.unread.within; bytes = z }) true) empty ∙ none_in_nothing c.unread.within

pub line_is_last : (c : Console) → goes_past (room_of c) c.unread.bytes c.ended ≡ false → position feed c.unread.bytes ≡ None → c.ended ≡ true → 0 < length c.unread.bytes → LineIsLast c
line_is_last c past none over some = record { past = past; none = feed_none c.unread.bytes none; ended = over; some = some }

pub empty_is : (bytes : List ℕ) → (length bytes == 0) ≡ true → bytes ≡ []
empty_is [] e = refl
empty_is (b ∷ bytes) e = let f : (suc (length bytes) == 0) ≡ false = grind arith in cc

pub some_is : (bytes same : List ℕ) → bytes ≡ same → (length bytes == 0) ≡ false → 0 < length same
some_is bytes [] is e = let z : (length bytes == 0) ≡ true = ap (λ (y : List ℕ). length y == 0) is in cc
some_is bytes (b ∷ same) is e = omega arith
