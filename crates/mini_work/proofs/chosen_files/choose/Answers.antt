use Rattle.std.proofs.Common.{◌≡◌, ◌∙◌, ◌++◌, List, [], Some, ap, arith, length, refl, slice_get, sym, take}
use Rattle.std.proofs.lemmas.Option.{slice_get_read}
use Rattle.cms_names.specs.declared.name.Name.{Name}
use Rattle.mini_words.specs.declared.names.NamePattern.{NamePattern}
use Rattle.mini_work.specs.ChosenFiles.{chosen, fitting}
use Rattle.mini_work.proofs.Chosen.{chosen_more}
use Rattle.mini_work.proofs.Listed.{take_more}
use Rattle.mini_work.proofs.chosen_files.choose.Goals as goal

pub loop-place-init : goal.loop-place-init
unfolding chosen
loop-place-init c = c.new-chosen.ensures.items

pub loop-place-preserved : goal.loop-place-preserved
loop-place-preserved c =
    let names = c.args.names.now in
    let ps = c.args.patterns.now in
    let k = c.loop-place.place in
    let p = c.index-patterns-place.result in
    let at : slice_get ps k ≡ Some p = slice_get_read ps (length ps) k p refl (omega arith) c.index-patterns-place.is in
    c.in_ok-extend_from_slice.ensures.items ∙ ap (λ (xs : List Name). xs ++ c.deref.result.now) c.loop-place.invariant
    ∙ ap (λ (xs : List Name). chosen [] (take k ps) names ++ xs)
    (c.deref.ensures.value ∙ c.in_ok-more.ensures ∙ ap (λ (b : List NamePattern). fitting b p names) c.split_at.ensures.front)
    ∙ sym (chosen_more [] (take k ps) p names) ∙ ap (λ (qs : List NamePattern). chosen [] qs names) (sym (take_more ps k p at))
