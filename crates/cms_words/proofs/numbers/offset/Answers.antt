use Rattle.std.proofs.Common.{◌≡◌, ◌∙◌, ℕ, ◌+◌, ◌-◌, ◌*◌, ◌<◌, ◌≤◌, ◌==◌, false, List, [], ◌∷◌, length, take, drop, get_or, Some, None, pos, refl, ap, sym, arith, w32, neg_ℤ}
use Rattle.std.proofs.lemmas.Bool.Decides.{nat_tests}
use Rattle.std.proofs.lemmas.Int.{to_z_pos}
use Rattle.std.proofs.lemmas.List.{take_rest}
use Rattle.cms_words.specs.Numbers.{up_to, decimal_from, offset_of}
use Rattle.cms_words.proofs.ZoneSeconds.{seconds_small, within_day, minutes_fit, more_minutes_fit, seconds_fit, signed_fit, west_fit, west_is, east_within, west_within}
use Rattle.cms_words.proofs.numbers.offset.Goals as goal

nothing : (word : List ℕ) → length word < 1 → None ≡ offset_of word
unfolding offset_of
nothing [] short = refl
nothing (side ∷ digits) short = absurd (omega arith)

other_length : (side : ℕ) (digits : List ℕ) → (length digits ≡ 4 → ⊥) → None ≡ offset_of (side ∷ digits)
unfolding offset_of
other_length side digits other = let t : (length digits == 4) ≡ false = grind (arith, nat_tests, other) in rw t refl

no_hours : (side : ℕ) (digits : List ℕ) → length digits ≡ 4 → None ≡ up_to 14 (decimal_from 0 (take 2 digits)) → None ≡ offset_of (side ∷ digits)
unfolding offset_of
no_hours side digits long h = rw (long, sym h) refl

no_minutes : (side hours : ℕ) (digits last : List ℕ) → length digits ≡ 4 → last ≡ drop 2 digits → Some hours ≡ up_to 14 (decimal_from 0 (take 2 digits))
    → None ≡ up_to 59 (decimal_from 0 last) → None ≡ offset_of (side ∷ digits)
unfolding offset_of
no_minutes side hours digits last long is h m = rw (long, sym h, sym is, sym m) refl

east : (side hours minutes : ℕ) (digits last : List ℕ) → length digits ≡ 4 → last ≡ drop 2 digits → Some hours ≡ up_to 14 (decimal_from 0 (take 2 digits))
    → Some minutes ≡ up_to 59 (decimal_from 0 last) → side ≡ 69 → Some (pos ((hours * 60 + minutes) * 60)) ≡ offset_of (side ∷ digits)
unfolding offset_of
east side hours minutes digits last long is h m e = rw (long, sym h, sym is, sym m, e) refl

in_two : (word : List ℕ) → 1 ≤ length word → get_or word 0 0 ∷ take (length word - 1) (drop 1 word) ≡ word
in_two [] some = absurd (omega arith)
in_two (side ∷ digits) some = ap (λ (z : List ℕ). side ∷ z) (take_rest (side ∷ digits) 1)

pub returns-in_default-clause-value : goal.returns-in_default-clause-value
returns-in_default-clause-value c = nothing c.args.word.now c.in_default.len_below

pub returns-then-digits-ne4-clause-value : goal.returns-then-digits-ne4-clause-value
returns-then-digits-ne4-clause-value c = other_length (get_or c.args.word.now 0 0) (take (length c.args.word.now - 1) (drop 1 c.args.word.now)) c.if-digits-ne4.true ∙ ap offset_of (in_two c.args.word.now c.in-len1-up.len_at_least)

pub returns-in_err-hours-clause-value : goal.returns-in_err-hours-clause-value
returns-in_err-hours-clause-value c = c.from_residual.ensures ∙ no_hours (get_or c.args.word.now 0 0) (take (length c.args.word.now - 1) (drop 1 c.args.word.now)) c.if-digits-ne4.false c.in_err-hours.ensures.value ∙ ap offset_of (in_two c.args.word.now c.in-len1-up.len_at_least)

pub returns-in_err-minutes-clause-value : goal.returns-in_err-minutes-clause-value
returns-in_err-minutes-clause-value c = c.from_residual-in_err-minutes.ensures
    ∙ no_minutes (get_or c.args.word.now 0 0) _ (take (length c.args.word.now - 1) (drop 1 c.args.word.now)) _ c.if-digits-ne4.false (take_rest (take (length c.args.word.now - 1) (drop 1 c.args.word.now)) 2) c.in_ok-hours.ensures.value c.in_err-minutes.ensures.value ∙ ap offset_of (in_two c.args.word.now c.in-len1-up.len_at_least)

pub returns-in-69-clause-value : goal.returns-in-69-clause-value
returns-in-69-clause-value c =
    ap Some (to_z_pos w32 _ (seconds_small _ _ c.in_ok-hours.ensures.within c.in_ok-minutes.ensures.within))
    ∙ east (get_or c.args.word.now 0 0) _ _ (take (length c.args.word.now - 1) (drop 1 c.args.word.now)) _ c.if-digits-ne4.false (take_rest (take (length c.args.word.now - 1) (drop 1 c.args.word.now)) 2) c.in_ok-hours.ensures.value c.in_ok-minutes.ensures.value c.in-69.is ∙ ap offset_of (in_two c.args.word.now c.in-len1-up.len_at_least)

west : (side hours minutes : ℕ) (digits last : List ℕ) → length digits ≡ 4 → last ≡ drop 2 digits → Some hours ≡ up_to 14 (decimal_from 0 (take 2 digits))
    → Some minutes ≡ up_to 59 (decimal_from 0 last) → side ≡ 87 → Some (neg_ℤ (pos ((hours * 60 + minutes) * 60))) ≡ offset_of (side ∷ digits)
unfolding offset_of
west side hours minutes digits last long is h m w = rw (long, sym h, sym is, sym m, w) refl

pub overflow_mul-seconds : goal.overflow_mul-seconds
overflow_mul-seconds c = minutes_fit c.in_ok-hours.hours c.in_ok-hours.ensures.within

pub overflow_add-seconds : goal.overflow_add-seconds
overflow_add-seconds c = more_minutes_fit c.in_ok-hours.hours c.in_ok-minutes.minutes c.in_ok-hours.ensures.within c.in_ok-minutes.ensures.within

pub overflow_mul-seconds-2 : goal.overflow_mul-seconds-2
overflow_mul-seconds-2 c = seconds_fit c.in_ok-hours.hours c.in_ok-minutes.minutes c.in_ok-hours.ensures.within c.in_ok-minutes.ensures.within

pub overflow_cast-seconds : goal.overflow_cast-seconds
overflow_cast-seconds c = signed_fit ((c.in_ok-hours.hours * 60 + c.in_ok-minutes.minutes) * 60) (seconds_small c.in_ok-hours.hours c.in_ok-minutes.minutes c.in_ok-hours.ensures.within c.in_ok-minutes.ensures.within)

pub overflow_sub-result : goal.overflow_sub-result
overflow_sub-result c = west_fit ((c.in_ok-hours.hours * 60 + c.in_ok-minutes.minutes) * 60) (seconds_small c.in_ok-hours.hours c.in_ok-minutes.minutes c.in_ok-hours.ensures.within c.in_ok-minutes.ensures.within)

pub returns-in-69-clause-within : goal.returns-in-69-clause-within
returns-in-69-clause-within c = east_within ((c.in_ok-hours.hours * 60 + c.in_ok-minutes.minutes) * 60) (seconds_small c.in_ok-hours.hours c.in_ok-minutes.minutes c.in_ok-hours.ensures.within c.in_ok-minutes.ensures.within) (within_day c.in_ok-hours.hours c.in_ok-minutes.minutes c.in_ok-hours.ensures.within c.in_ok-minutes.ensures.within)

pub returns-in-87-clause-within : goal.returns-in-87-clause-within
returns-in-87-clause-within c = west_within ((c.in_ok-hours.hours * 60 + c.in_ok-minutes.minutes) * 60) (seconds_small c.in_ok-hours.hours c.in_ok-minutes.minutes c.in_ok-hours.ensures.within c.in_ok-minutes.ensures.within) (within_day c.in_ok-hours.hours c.in_ok-minutes.minutes c.in_ok-hours.ensures.within c.in_ok-minutes.ensures.within)

pub returns-in-87-clause-value : goal.returns-in-87-clause-value
returns-in-87-clause-value c =
    ap Some (west_is ((c.in_ok-hours.hours * 60 + c.in_ok-minutes.minutes) * 60) (seconds_small c.in_ok-hours.hours c.in_ok-minutes.minutes c.in_ok-hours.ensures.within c.in_ok-minutes.ensures.within))
    ∙ west (get_or c.args.word.now 0 0) _ _ (take (length c.args.word.now - 1) (drop 1 c.args.word.now)) _ c.if-digits-ne4.false (take_rest (take (length c.args.word.now - 1) (drop 1 c.args.word.now)) 2) c.in_ok-hours.ensures.value c.in_ok-minutes.ensures.value c.in-87.is ∙ ap offset_of (in_two c.args.word.now c.in-len1-up.len_at_least)
