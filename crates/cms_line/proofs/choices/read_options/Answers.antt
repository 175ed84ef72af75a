use Rattle.std.proofs.Common.{◌≡◌, ◌+◌, ◌<◌, length, drop, List, ℕ, Some, None, position, arith, refl, ap, sym, ◌∙◌, length-drop, ◌*◌, ◌-◌, ◌≤◌, Fits, w32, w64, Bool, [], nat_lt, true}
use Rattle.std.proofs.Math.ListN.{drop_of_length-le}
use Rattle.std.proofs.lemmas.List.{take_rest}
use Rattle.cms_line.specs.declared.choices.Choice.{Choice}
use Rattle.cms_line.specs.Options.{missing, takes_of, is_named}
use Rattle.cms_line.proofs.OptionLemmas.{begun, no_more, at_word, closes, stands_after, is_unknown, lacks, goes_on}
use Rattle.cms_line.proofs.ConsoleExits.{ok_at_err}
use Rattle.std.proofs.lemmas.List.Quantifiers.{position-Some}
use Rattle.cms_line.specs.declared.choices.OptionRule.{OptionRule}
use Rattle.std.proofs.lemmas.Bool.Decides.{nat_tests}
use Rattle.cms_line.proofs.choices.read_options.Goals as goal

pub loop-word-init : goal.loop-word-init
loop-word-init c = begun c.args.rules.now c.args.chosen.now (c.args.left + 1) (drop (c.args.left + 1) c.args.words.now) c.requires.none

pub returns-then-next-words : goal.returns-then-next-words
returns-then-next-words c =
    let place = c.loop-word.place in
    let words = c.args.words.now in
    let word = c.in-Some.word.now in
    let some : 0 < length (drop (place + 1) words) = omega (arith, length-drop (place + 1) words) in
    stands_after _ _ c.loop-word.chosen place (place + 1) word (drop (place + 1) words)
    (at_word _ _ _ place words word c.in-Some.ensures.lookup.0 c.in-Some.ensures.lookup.1 c.loop-word.invariant) (sym c.if-is_right.ensures) some refl

pub returns-else-next-words : goal.returns-else-next-words
returns-else-next-words c =
    let place = c.loop-word.place in
    let words = c.args.words.now in
    let word = c.in-Some.word.now in
    closes c.args.rules.now _ c.loop-word.chosen place word (drop (place + 1) words)
    (at_word _ _ _ place words word c.in-Some.ensures.lookup.0 c.in-Some.ensures.lookup.1 c.loop-word.invariant) (sym c.if-is_right.ensures) (drop_of_length-le words c.if-next-words.false)

pub returns-in_default-rule_of : goal.returns-in_default-rule_of
returns-in_default-rule_of c =
    let place = c.loop-word.place in
    let words = c.args.words.now in
    let word = c.in-Some.word.now in
    let rules = c.args.rules.now in
    let unknown : position (is_named word.text) rules ≡ None = ap (λ (w : List ℕ). position (is_named w) rules) (sym c.bytes.ensures.bytes) ∙ sym c.in_default-rule_of.ensures in
    is_unknown rules _ c.loop-word.chosen place place word (drop (place + 1) words)
    (at_word _ _ _ place words word c.in-Some.ensures.lookup.0 c.in-Some.ensures.lookup.1 c.loop-word.invariant) (sym c.if-is_right.ensures) unknown refl

pub returns-in-Some-missing : goal.returns-in-Some-missing
returns-in-Some-missing c =
    let place = c.loop-word.place in
    let words = c.args.words.now in
    let word = c.in-Some.word.now in
    let rules = c.args.rules.now in
    let nth = c.in-Some-rule_of.nth in
    let takes = takes_of rules nth in
    let known : position (is_named word.text) rules ≡ Some nth = ap (λ (w : List ℕ). position (is_named w) rules) (sym c.bytes.ensures.bytes) ∙ sym c.in-Some-rule_of.ensures in
    let gone : missing takes (drop (place + 1) words) ≡ Some c.in-Some-missing.gone = ap (missing takes) (sym (take_rest words (place + 1))) ∙ sym c.in-Some-missing.ensures in
    lacks rules _ c.loop-word.chosen place nth takes c.in-Some-missing.gone c.in_ok-number_of.field-0 word (drop (place + 1) words)
    (at_word _ _ _ place words word c.in-Some.ensures.lookup.0 c.in-Some.ensures.lookup.1 c.loop-word.invariant) (sym c.if-is_right.ensures) known refl gone c.in_ok-number_of.ensures

pub loop-word-preserved : goal.loop-word-preserved
loop-word-preserved c =
    let place = c.loop-word.place in
    let words = c.args.words.now in
    let word = c.in-Some.word.now in
    let rules = c.args.rules.now in
    let nth = c.in-Some-rule_of.nth in
    let takes = takes_of rules nth in
    let known : position (is_named word.text) rules ≡ Some nth = ap (λ (w : List ℕ). position (is_named w) rules) (sym c.bytes.ensures.bytes) ∙ sym c.in-Some-rule_of.ensures in
    let none : missing takes (drop (place + 1) words) ≡ None = ap (missing takes) (sym (take_rest words (place + 1))) ∙ sym c.in_default-missing.ensures in
    let choice : Choice = record { nth = nth; next = place + 1 } in
    goes_on rules _ c.loop-word.chosen c.push.new.self place nth takes (place + 1 + c.from.result) choice word words
    (at_word _ _ _ place words word c.in-Some.ensures.lookup.0 c.in-Some.ensures.lookup.1 c.loop-word.invariant) (sym c.if-is_right.ensures) known refl none
    refl refl c.in_ok-push.ensures.ok (ap (λ (n : ℕ). place + 1 + n) c.from.ensures)

pub returns : goal.returns
returns c =
    let place = c.loop-word.place in
    let words = c.args.words.now in
    no_more _ _ c.loop-word.chosen place (drop place words) c.loop-word.invariant (drop_of_length-le words (omega (arith, c.in_default.ensures.lookup)))

pub returns-in_err-are_few : goal.returns-in_err-are_few
returns-in_err-are_few c = ok_at_err _ c.from_residual.result _ c.from_residual.ensures.1

pub returns-in_err-number_of : goal.returns-in_err-number_of
returns-in_err-number_of c = ok_at_err _ c.from_residual-in_err-number_of.result _ c.from_residual-in_err-number_of.ensures.1

pub returns-in_err-push : goal.returns-in_err-push
returns-in_err-push c = ok_at_err _ c.from_residual-in_err-push.result _ c.from_residual-in_err-push.ensures.1

is_inside : (i n : ℕ) → true ≡ nat_lt i n → i < n
is_inside i n h = grind (arith, nat_tests)

next_fits : (i n : ℕ) → i < n → n < 4294967296 → Fits w64 (i + 1)
next_fits i n inside few = omega arith

place_fits : (i n : ℕ) → i < n → n < 4294967296 → Fits w32 i
place_fits i n inside few = omega arith

behind_fits : (i n : ℕ) → i < n → n < 4294967296 → Fits w32 (i + 1)
behind_fits i n inside few = omega arith

behind_fits_by : (i n : ℕ) → i < n → n < 4294967296 → Fits w64 ((i + 1) * 32)
behind_fits_by i n inside few = omega arith

behind_within : (i n : ℕ) → i < n → i + 1 ≤ n
behind_within i n inside = omega arith

fewer_left : (n i k : ℕ) → i < n → n - (i + 1 + k) < n - i
fewer_left n i k inside = omega arith

pub overflow_add-place : goal.overflow_add-place
overflow_add-place c = next_fits c.args.left (length c.args.words.now) c.requires.start c.in_ok-are_few.ensures.words

pub overflow_add-next : goal.overflow_add-next
overflow_add-next c = next_fits c.loop-word.place (length c.args.words.now) (is_inside c.loop-word.place (length c.args.words.now) c.in-Some.ensures.lookup.0) c.in_ok-are_few.ensures.words

pub overflow_cast-result : goal.overflow_cast-result
overflow_cast-result c = place_fits (c.loop-word.place + 1) (length c.args.words.now) c.if-next-words.true c.in_ok-are_few.ensures.words

pub overflow_cast-result-in_default-rule_of : goal.overflow_cast-result-in_default-rule_of
overflow_cast-result-in_default-rule_of c = place_fits c.loop-word.place (length c.args.words.now) (is_inside c.loop-word.place (length c.args.words.now) c.in-Some.ensures.lookup.0) c.in_ok-are_few.ensures.words

pub offset_bounds-words-next : goal.offset_bounds-words-next
offset_bounds-words-next c = behind_fits_by c.loop-word.place (length c.args.words.now) (is_inside c.loop-word.place (length c.args.words.now) c.in-Some.ensures.lookup.0) c.in_ok-are_few.ensures.words

pub slice_bounds-missing-count : goal.slice_bounds-missing-count
slice_bounds-missing-count c = behind_within c.loop-word.place (length c.args.words.now) (is_inside c.loop-word.place (length c.args.words.now) c.in-Some.ensures.lookup.0)

pub overflow_cast-next : goal.overflow_cast-next
overflow_cast-next c = behind_fits c.loop-word.place (length c.args.words.now) (is_inside c.loop-word.place (length c.args.words.now) c.in-Some.ensures.lookup.0) c.in_ok-are_few.ensures.words

pub loop-word-smaller : goal.loop-word-smaller
loop-word-smaller c = fewer_left (length c.args.words.now) c.loop-word.place c.from.result (is_inside c.loop-word.place (length c.args.words.now) c.in-Some.ensures.lookup.0)

nth_inside : (p : OptionRule → Bool) (rules : List OptionRule) (nth : ℕ) → Some nth ≡ position p rules → nth < length rules
nth_inside p rules nth is = (position-Some p rules nth (record { name = []; least = 0; takes = 0 }) (sym is)).0

nth_fits_by : (nth n : ℕ) → nth < n → n < 4294967296 → Fits w64 (nth * 10)
nth_fits_by nth n inside few = omega arith

pub bounds-rules-nth : goal.bounds-rules-nth
bounds-rules-nth c = nth_inside (is_named c.bytes.result.now) c.args.rules.now c.in-Some-rule_of.nth c.in-Some-rule_of.ensures

pub offset_bounds-rules-nth : goal.offset_bounds-rules-nth
offset_bounds-rules-nth c = nth_fits_by c.in-Some-rule_of.nth (length c.args.rules.now) (nth_inside (is_named c.bytes.result.now) c.args.rules.now c.in-Some-rule_of.nth c.in-Some-rule_of.ensures) c.in_ok-are_few.ensures.rules

pub overflow_cast-nth : goal.overflow_cast-nth
overflow_cast-nth c = place_fits c.in-Some-rule_of.nth (length c.args.rules.now) (nth_inside (is_named c.bytes.result.now) c.args.rules.now c.in-Some-rule_of.nth c.in-Some-rule_of.ensures) c.in_ok-are_few.ensures.rules
