use Rattle.mini_work.proofs.Caused.{end_done, end_fails, end_lacks, later_same, later_then}
use Rattle.std.proofs.Common.{◌≡◌, ◌∙◌, ◌≤◌, [], List, Some, ap, arith, length, map, refl, slice_get, subst, ℕ}
use Rattle.std.proofs.lemmas.Grind.{common_steps}
use Rattle.std.proofs.lemmas.Option.{slice_get_read}
use Rattle.cms_line.proofs.TypedLines.{typed_none}
use Rattle.cms_line.specs.Typed.{TypedTo}
use Rattle.cms_model.specs.Acts.{typed_line}
use Rattle.mini_work.specs.Listing.{typed_lines}
use Rattle.mini_work.proofs.Typed.{types_none, types_part, types_then, types_to}
use Rattle.mini_work.proofs.TypedLines.{items_there, lines_done, lines_next}
use Rattle.mini_work.proofs.listing.say_facts.Goals as goal

pub returns-in_err-lines-clause-typed : goal.returns-in_err-lines-clause-typed
returns-in_err-lines-clause-typed g c = types_none (g.W.World.told c.args.world.now)

pub loop-line-init : goal.loop-line-init
loop-line-init g c = record { typed = (typed_none (g.W.World.told c.args.world.now) (typed_lines (map (λ line. line.items) c.deref-line-items.result.now))); later = λ n. later_same _ }

pub returns-in_err-say_line-clause-typed : goal.returns-in_err-say_line-clause-typed
returns-in_err-say_line-clause-typed g c =
    types_then _ _ _ (types_to _ _ _ _ c.loop-line.invariant.typed) (types_part _ _ _ c.in_err-say_line.ensures.err)

pub loop-line-preserved : goal.loop-line-preserved
loop-line-preserved g c = record {
  typed = (let told = g.W.World.told in
      let lines = c.deref-line-items.result.now in
      let k = c.loop-line.line-index in
      let line = c.line-item.result in
      let at : slice_get lines k ≡ Some line = slice_get_read lines (length lines) k line refl c.loop-line-test.true c.line-item.is in
      let typed = subst (λ (x : List ℕ). TypedTo (told c.loop-line.world) (told c.say_line.new.world) (typed_line x) []) c.deref.ensures.value
      c.in_ok-say_line.ensures.ok in
      lines_next _ _ _ (map (λ l. l.items) lines) k line.items (items_there (λ l. l.items) lines k line at) c.loop-line.invariant.typed typed);
  later = λ n. later_then _ _ _ (c.loop-line.invariant.later n) (c.in_ok-say_line.ensures.cause n).later;
}

pub returns-clause-typed : goal.returns-clause-typed
returns-clause-typed g c = types_to _ _ _ _ c.loop-line.invariant.typed

pub returns-clause-shows : goal.returns-clause-shows
returns-clause-shows g c =
    let told = g.W.World.told in
    let lines = c.deref-line-items.result.now in
    let few : length (map (λ l. l.items) lines) ≤ c.loop-line.line-index = grind (arith, common_steps, c.loop-line-test.false) in (
      refl,
      subst (λ (xs : List (List ℕ)). TypedTo (told c.args.world.now) (told c.loop-line.world) (typed_lines xs) [])
          (ap (map (λ l. l.items)) c.deref-line-items.ensures.value ∙ c.in_ok-lines.ensures)
          (lines_done _ _ (map (λ l. l.items) lines) c.loop-line.line-index few c.loop-line.invariant.typed),
    )

pub returns-in_err-lines-clause-cause : goal.returns-in_err-lines-clause-cause
returns-in_err-lines-clause-cause g c = λ n. end_lacks _ _ c.from_residual.result c.from_residual.ensures.1 (later_same _)

pub returns-clause-cause : goal.returns-clause-cause
returns-clause-cause g c = λ n. end_done _ _ (c.loop-line.invariant.later n)

pub returns-in_err-say_line-clause-cause : goal.returns-in_err-say_line-clause-cause
returns-in_err-say_line-clause-cause g c = λ n. let x = c.in_err-say_line.ensures.cause n in end_fails _ _ _ c.in_err-say_line.field-0.0 c.from_residual-in_err-say_line.result (c.loop-line.invariant.later n) c.from_residual-in_err-say_line.ensures.1 x.later x.failed
