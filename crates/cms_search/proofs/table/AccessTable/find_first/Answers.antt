use Rattle.std.proofs.Common.{◌∙◌, ℕ, List, Option, ap, get_or, refl, sym, arith}
use Rattle.std.specs.Prelude.{Result}
use Rattle.std.proofs.lemmas.Result.{err_from_is_err_and}
use Rattle.cms_search.specs.Searches.{first_among, first_placed, placed_on}
use Rattle.cms_search.specs.Tables.{shelves_of}
use Rattle.cms_search.specs.declared.fault.SearchFault.{SearchFault}
use Rattle.cms_search.proofs.Searches.{at_index, first_here, first_more, first_none}
use Rattle.cms_search.proofs.table.AccessTable.find_first.Goals as goal

pub returns-in_err-order : goal.returns-in_err-order
returns-in_err-order c =
    let p = err_from_is_err_and c.from_residual.result c.from_residual.ensures.1 in
    let f : ℕ → Option ℕ = λ n. placed_on (shelves_of c.args.self.now) c.args.mode.now c.args.name.now n in
    rw (p.1, p.2) (ap (λ (r : Result (List ℕ) SearchFault). first_among f r) c.in_err-order.ensures)

pub loop-letter-init : goal.loop-letter-init
loop-letter-init c = refl

pub bounds-letter-items-letter-index : goal.bounds-letter-items-letter-index
bounds-letter-items-letter-index c = c.loop-letter-test.true

pub returns-in-Some : goal.returns-in-Some
returns-in-Some c =
    let f : ℕ → Option ℕ = λ n. placed_on (shelves_of c.args.self.now) c.args.mode.now c.args.name.now n in
    let xs = c.as_slice-letter-items.result.now in
    let i = c.loop-letter.letter-index in
    sym (first_here f xs i (get_or xs i 0) c.in-Some.place (at_index xs i c.loop-letter-test.true) (sym c.in-Some.ensures))
    ∙ (sym c.loop-letter.invariant
    ∙ (ap (λ (l : List ℕ). first_placed f l) c.as_slice-letter-items.ensures ∙ ap (λ (r : Result (List ℕ) SearchFault). first_among f r) c.in_ok-order.ensures))

pub loop-letter-preserved : goal.loop-letter-preserved
loop-letter-preserved c =
    let f : ℕ → Option ℕ = λ n. placed_on (shelves_of c.args.self.now) c.args.mode.now c.args.name.now n in
    let xs = c.as_slice-letter-items.result.now in
    let i = c.loop-letter.letter-index in
    c.loop-letter.invariant ∙ first_more f xs i (get_or xs i 0) (at_index xs i c.loop-letter-test.true) (sym c.in_default.ensures)

pub returns : goal.returns
returns c =
    let f : ℕ → Option ℕ = λ n. placed_on (shelves_of c.args.self.now) c.args.mode.now c.args.name.now n in
    let xs = c.as_slice-letter-items.result.now in
    let i = c.loop-letter.letter-index in
    let past = c.loop-letter-test.false in
    sym (first_none f xs i (omega (arith, past)))
    ∙ (sym c.loop-letter.invariant
    ∙ (ap (λ (l : List ℕ). first_placed f l) c.as_slice-letter-items.ensures ∙ ap (λ (r : Result (List ℕ) SearchFault). first_among f r) c.in_ok-order.ensures))
