use Rattle.std.proofs.Common.{◌≡◌, ◌∙◌, ℕ, ap, arith, rules, false, replicate, List, Option, ◌++◌, ◌∷◌, []}
use Rattle.std.specs.Prelude.{None}
use Rattle.std.proofs.lemmas.Result.{IfOk-from_err}
use Rattle.std.proofs.lemmas.List.{replicate_more}
use Rattle.cms_search.proofs.Tables.{table_made}
use Rattle.cms_search.specs.Tables.{Seated}
use Rattle.cms_search.proofs.Counts.{counts_down}
use Rattle.cms_search.proofs.table.AccessTable.new.Goals as goal

pub invariant_of-result : goal.invariant_of-result
invariant_of-result c =
    let last = c.loop-test.false in
    let high = c.loop.auto.counter-end in
    let all : c.loop.counter ≡ 26 = omega (arith, last, high) in
    table_made c.args.units c.in_ok-vec.field-0.items c.loop.seats.items c.requires
    (c.in_ok-vec.ensures.items_if_clones_equal (λ y e. search rules) ∙ ap (λ (n : ℕ). replicate n false) c.len.ensures)
    (c.loop.invariant ∙ ap (λ (n : ℕ). replicate n None) all)

pub returns-in_err-push : goal.returns-in_err-push
returns-in_err-push c = IfOk-from_err c.from_residual.result _ c.from_residual.ensures.0

pub returns-in_err-vec : goal.returns-in_err-vec
returns-in_err-vec c = IfOk-from_err c.from_residual-in_err-vec.result _ c.from_residual-in_err-vec.ensures.0

pub returns : goal.returns
returns c =
    let last = c.loop-test.false in
    let high = c.loop.auto.counter-end in
    let all : c.loop.counter ≡ 26 = omega (arith, last, high) in
    let doubts = c.in_ok-vec.ensures.items_if_clones_equal (λ y e. search rules) ∙ ap (λ (n : ℕ). replicate n false) c.len.ensures in
    let seats = c.loop.invariant ∙ ap (λ (n : ℕ). replicate n None) all in
    λ k. record { units = c.args.units; doubts = doubts k; seats = seats k }

pub loop-init : goal.loop-init
loop-init c = c.new-seats.ensures.items

pub loop-smaller : goal.loop-smaller
loop-smaller c = counts_down _ c.loop.counter c.loop-test.true

pub loop-preserved : goal.loop-preserved
loop-preserved c = c.in_ok-push.ensures.items ∙ (ap (λ (l : List (Option Seated)). l ++ None ∷ []) c.loop.invariant ∙ replicate_more c.loop.counter None)
