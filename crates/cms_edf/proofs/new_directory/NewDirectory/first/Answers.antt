use Rattle.std.proofs.Common.{◌∙◌, ℕ, List, Vec, Global, length, ap, sym}
use Rattle.std.specs.List.{range_with_len}
use Rattle.cms_edf.proofs.NewLeaves.{leaves_first}
use Rattle.cms_edf.proofs.new_directory.NewDirectory.first.Goals as goal

pub returns-clause-tree : goal.returns-clause-tree
returns-clause-tree c =
    let leaves = leaves_first c.of.result.value.items c.in_ok-leaves.leaves.items c.in_ok-numbers.numbers.items c.args.origin (ap (λ (v : Vec ℕ Global). v.items) c.of.ensures ∙ c.new-pointers.ensures.items)
    (c.in_ok-leaves.ensures.items_if_clones_equal (λ y is. is)) (c.in_ok-numbers.ensures.items_if_clones_equal (λ y is. is)) in
    (λ k. record { leaves = leaves k; pointers = c.new-pointers.ensures.items k })

pub returns-clause-part : goal.returns-clause-part
returns-clause-part c =
    let places = c.in_ok-leaves.ensures.items_if_clones_equal (λ y is. is) in
    let leaves = leaves_first c.of.result.value.items c.in_ok-leaves.leaves.items c.in_ok-numbers.numbers.items c.args.origin (ap (λ (v : Vec ℕ Global). v.items) c.of.ensures ∙ c.new-pointers.ensures.items)
    places (c.in_ok-numbers.ensures.items_if_clones_equal (λ y is. is)) in
    let all = places ∙ ap (λ (l : List ℕ). range_with_len 0 (length l)) (sym leaves) in
    let none = c.new.ensures.items ∙ ap (λ (l : List ℕ). range_with_len 0 (length l)) (sym c.new-pointers.ensures.items) in
    (λ k. record { leaves = all k; nodes = none k })
