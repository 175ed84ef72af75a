use Rattle.std.proofs.Common.{◌≡◌, ◌∙◌, ◌+◌, ◌*◌, ◌++◌, ◌∷◌, [], ℕ, List, add-one, ap, arith, drop, sym, take, Result, Ok, Err, ◌-◌, ◌<◌, ◌≤◌, length}
use Rattle.std.proofs.lemmas.List.{take_rest}
use Rattle.cms_model.specs.Lists.{cut}
use Rattle.cms_cards.specs.Dumps.{dump_card, numbered}
use Rattle.cms_cards.proofs.Cards.{cards_all, cards_next, cards_none}
use Rattle.std.specs.Result.{IfOk, IsErrAnd}
use Rattle.cms_fields.specs.Numbers.{up}
use Rattle.cms_cards.proofs.dump.cards_of.Goals as goal

pub loop-number-init : goal.loop-number-init
loop-number-init c = c.new-deck.ensures ∙ sym (cards_none c.args.text.now)

pub loop-number-preserved : goal.loop-number-preserved
loop-number-preserved c =
    let text : List ℕ = c.args.text.now in
    let n : ℕ = c.loop-number.number in
    let count : n ≡ 0 + n = omega arith in
    let card : c.dump_card.result ≡ dump_card (0 + n) (take 72 (drop (n * 72) text)) =
    c.dump_card.ensures ∙ (ap (λ (t : List ℕ). dump_card n (take 72 t)) (take_rest text (n * 72)) ∙ ap (λ (k : ℕ). dump_card k (take 72 (drop (n * 72) text))) count) in
    rw add-one
    (c.in_ok-push.ensures.ok
    ∙ (ap (λ (d : List (List ℕ)). d ++ c.dump_card.result ∷ []) c.loop-number.invariant
    ∙ (ap (λ (last : List ℕ). numbered 0 (cut n 72 text) ++ last ∷ []) card ∙ sym (cards_next 0 n text))))

pub returns : goal.returns
returns c =
    let all : c.loop-number.number ≡ c.in_ok-count.count = omega arith in
    c.loop-number.invariant ∙ cards_all c.args.text.now c.loop-number.number (all ∙ c.in_ok-count.ensures)

ok_at_err : {T E : Type 0} (Q : E → Type 0) (r : Result T E) (P : T → Type 0) → IsErrAnd r Q → IfOk r P
ok_at_err Q (Ok x) P h = absurd h
ok_at_err Q (Err e) P h = tt

pub returns-in_err-count : goal.returns-in_err-count
returns-in_err-count c = ok_at_err _ c.from_residual.result _ c.from_residual.ensures.1

pub returns-in_err-push : goal.returns-in_err-push
returns-in_err-push c = ok_at_err _ c.from_residual-in_err-push.result _ c.from_residual-in_err-push.ensures.1

begins_within : (number size count : ℕ) → count ≡ up size 72 → number < count → number * 72 ≤ size
begins_within number size count is inside = omega (arith, is, inside)

less : (count number : ℕ) → number < count → count - (number + 1) < count - number
less count number inside = omega arith

pub slice_bounds-dump_card-count : goal.slice_bounds-dump_card-count
slice_bounds-dump_card-count c = begins_within c.loop-number.number (length c.args.text.now) c.in_ok-count.count c.in_ok-count.ensures c.loop-number-test.true

pub loop-number-smaller : goal.loop-number-smaller
loop-number-smaller c = less c.in_ok-count.count c.loop-number.number c.loop-number-test.true
