use Rattle.std.proofs.Common.{◌<◌, ◌∙◌, ◌∷◌, [], length, length-append, sym, arith}
use Rattle.cms_search.specs.Searches.{is_searched}
use Rattle.cms_search.specs.Tables.{shelves_of}
use Rattle.cms_search.proofs.Searches.{all_added, as_before, none_added, one_added}
use Rattle.cms_search.proofs.Tables.{shelves_long}
use Rattle.cms_search.proofs.table.AccessTable.with_searched.Goals.{then-is_searched, else-is_searched}
use Rattle.cms_search.proofs.table.AccessTable.with_searched.Goals as goal

pub loop-letter-init : goal.loop-letter-init
loop-letter-init c = record { short = c.requires; done = none_added _ _ }

pub push-requires : goal.push-requires
push-requires c =
    let short = c.loop-letter.invariant.short in
    let test = c.loop-letter-test.true in
    let end = c.letters-letter-end.ensures.letters in
    omega (arith, short, test, end)

pub loop-letter-preserved : goal.loop-letter-preserved
loop-letter-preserved c =
    let shelves = shelves_of c.args.self.now in
    let k = c.loop-letter.letter in
    let short = c.loop-letter.invariant.short in
    let test = c.loop-letter-test.true in
    let end = c.letters-letter-end.ensures.letters in
    let long = shelves_long c.args.self.now c.letters-letter-end.ensures.table in
    let less : k < length shelves = omega (arith, test, end, long) in
    elim c.if-is_searched.branch [
      | then-is_searched w ↦
          let e = w.order-is in
          let more = length-append c.loop-letter.order (k ∷ []) in
          rw (e, w.push.ensures) (record {
            short = omega (arith, short, more);
            done = one_added (is_searched c.args.base) shelves k c.args.order c.loop-letter.order c.loop-letter.invariant.done less (sym c.is_searched.ensures ∙ w.if-is_searched.true);
          })
      | else-is_searched w ↦
          let e = w.order-is in
          rw e (record {
            short = omega (arith, short);
            done = as_before (is_searched c.args.base) shelves k c.args.order c.loop-letter.order c.loop-letter.invariant.done less (sym c.is_searched.ensures ∙ w.if-is_searched.false);
          })
    ]

pub returns : goal.returns
returns c =
    let shelves = shelves_of c.args.self.now in
    let test = c.loop-letter-test.false in
    let end = c.letters-letter-end.ensures.letters in
    let long = shelves_long c.args.self.now c.letters-letter-end.ensures.table in
    all_added (is_searched c.args.base) shelves c.loop-letter.letter c.args.order c.loop-letter.order c.loop-letter.invariant.done (omega (arith, test, end, long))
