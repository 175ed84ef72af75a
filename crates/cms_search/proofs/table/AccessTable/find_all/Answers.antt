use Rattle.std.proofs.Common.{◌∙◌, ◌++◌, ℕ, List, ap, get_or, inl, inr, refl, sym, arith}
use Rattle.std.specs.List.{flat_map}
use Rattle.std.specs.Prelude.{Ok, Result}
use Rattle.std.proofs.lemmas.Result.{IfOk-from_err, err_from_is_err_and}
use Rattle.cms_search.specs.Searches.{fitting, found_among, found_on}
use Rattle.cms_search.specs.Tables.{shelves_of}
use Rattle.cms_search.specs.declared.fault.SearchFault.{SearchFault}
use Rattle.cms_search.specs.declared.search.Found.{Found}
use Rattle.cms_search.proofs.Searches.{at_index, flat_all, flat_more}
use Rattle.cms_search.proofs.table.AccessTable.find_all.Goals as goal

pub returns-in_err-order-clause-found : goal.returns-in_err-order-clause-found
returns-in_err-order-clause-found c = IfOk-from_err c.from_residual.result _ c.from_residual.ensures.0

pub returns-in_err-order-clause-refused : goal.returns-in_err-order-clause-refused
returns-in_err-order-clause-refused c =
    let p = err_from_is_err_and c.from_residual.result c.from_residual.ensures.1 in
    rw (p.1, p.2) (inr (ap (λ (r : Result (List ℕ) SearchFault). found_among (shelves_of c.args.self.now) c.args.mode.now (fitting c.args.file.now c.args.kind.now) r) (sym c.in_err-order.ensures)))

pub loop-letter-init : goal.loop-letter-init
loop-letter-init c = c.new-found.ensures

pub bounds-letter-items-letter-index : goal.bounds-letter-items-letter-index
bounds-letter-items-letter-index c = c.loop-letter-test.true

pub returns-in_err-collect-clause-found : goal.returns-in_err-collect-clause-found
returns-in_err-collect-clause-found c = IfOk-from_err c.from_residual-in_err-collect.result _ c.from_residual-in_err-collect.ensures.0

pub returns-in_err-collect-clause-refused : goal.returns-in_err-collect-clause-refused
returns-in_err-collect-clause-refused c =
    let p = err_from_is_err_and c.from_residual-in_err-collect.result c.from_residual-in_err-collect.ensures.1 in
    rw (p.1, p.2) (inl refl)

pub loop-letter-preserved : goal.loop-letter-preserved
loop-letter-preserved c =
    let g : ℕ → List Found = λ n. found_on (shelves_of c.args.self.now) c.args.mode.now (fitting c.args.file.now c.args.kind.now) n in
    let xs = c.as_slice-letter-items.result.now in
    let i = c.loop-letter.letter-index in
    c.in_ok-collect.ensures ∙ (ap (λ (l : List Found). l ++ g (get_or xs i 0)) c.loop-letter.invariant ∙ sym (flat_more g xs i (get_or xs i 0) (at_index xs i c.loop-letter-test.true)))

pub returns-clause-found : goal.returns-clause-found
returns-clause-found c =
    let g : ℕ → List Found = λ n. found_on (shelves_of c.args.self.now) c.args.mode.now (fitting c.args.file.now c.args.kind.now) n in
    let xs = c.as_slice-letter-items.result.now in
    let i = c.loop-letter.letter-index in
    let past = c.loop-letter-test.false in
    let all = c.loop-letter.invariant ∙ (flat_all g xs i (omega (arith, past)) ∙ ap (λ (l : List ℕ). flat_map g l) c.as_slice-letter-items.ensures) in
    ap (λ (r : Result (List ℕ) SearchFault). found_among (shelves_of c.args.self.now) c.args.mode.now (fitting c.args.file.now c.args.kind.now) r) (sym c.in_ok-order.ensures)
    ∙ ap (λ (l : List Found). Ok l) (sym all)

pub returns-clause-refused : goal.returns-clause-refused
returns-clause-refused c = tt
