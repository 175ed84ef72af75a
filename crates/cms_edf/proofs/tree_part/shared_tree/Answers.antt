-- The data blocks take the first numbers, and the pointer blocks those behind them.
use Rattle.std.proofs.Common.{◌≡◌, ◌+◌, ◌≤◌, ℕ, true, List, ◌++◌, length, take, drop, ◌∙◌, ap, arith, length-drop, ◌<◌, ◌^◌, refl, sym, subst}
use Rattle.std.specs.List.{concat}
use Rattle.std.proofs.lemmas.List.{length-take-le}
use Rattle.cms_model.specs.SharedTrees.{fresh_to}
use Rattle.cms_model.specs.Sizes.{levels, pointer_count}
use Rattle.cms_tree.specs.Paths.{numbered, path_levels}
use Rattle.cms_tree.proofs.Paths.{places_count}
use Rattle.cms_held.specs.Systems.{TreePart}
use Rattle.cms_edf.proofs.SharedTaken.{IsShared, leaves_fresh, shared_so}
use Rattle.cms_edf.proofs.Exits.{ok_at_err}
use Rattle.cms_edf.proofs.Rooms.{new_room}
use Rattle.cms_edf.proofs.tree_part.shared_tree.Goals as goal
use Rattle.cms_edf.proofs.tree_part.shared_tree.Goals.{After-len-2, After-path}

pub keep_leaves-requires-clause-ascends : goal.keep_leaves-requires-clause-ascends
keep_leaves-requires-clause-ascends c =
    let written = c.deref.ensures.value ∙ ap (λ (p : TreePart). p.leaves) c.places.view_is in
    rw written c.requires.may.ascend

pub keep_leaves-requires-clause-fresh : goal.keep_leaves-requires-clause-fresh
keep_leaves-requires-clause-fresh c =
    let written = c.deref.ensures.value ∙ ap (λ (p : TreePart). p.leaves) c.places.view_is in
    let counted = leaves_fresh (length c.args.old.now.leaves) c.args.count c.args.places.now.leaves c.requires.may in
    let enough = c.requires.enough in
    rw (c.leaves.ensures, written) (omega (arith, counted, enough))

-- the numbers for data blocks, and those for pointer blocks
record Cut (places : TreePart) (numbers : List ℕ) (leaves nodes : ℕ) (behind : List ℕ) : Type 0 where
  first : leaves ≡ length places.leaves
  more : nodes ≡ length places.nodes
  room : nodes ≤ length behind
  back : behind ≡ drop (length places.leaves) numbers

cut : (places : TreePart) (numbers behind : List ℕ) (leaves nodes : ℕ) → length places.leaves + length places.nodes ≤ length numbers → leaves ≡ length places.leaves → nodes ≡ length places.nodes
    → behind ≡ drop leaves numbers → Cut places numbers leaves nodes behind
cut places numbers behind leaves nodes enough first more is =
    let back : behind ≡ drop (length places.leaves) numbers = is ∙ ap (λ (n : ℕ). drop n numbers) first in
    let long = ap (λ (l : List ℕ). length l) back ∙ length-drop (length places.leaves) numbers in
    record { first = first; more = more; room = omega arith; back = back }

pub split_at-requires : goal.split_at-requires
split_at-requires c =
    let first = c.len.ensures ∙ c.places.inside.leaves.ok.0 in
    let all = first ∙ ap (λ (p : TreePart). length p.leaves) c.places.view_is in
    let enough = c.requires.enough in
    omega (arith, all, enough)

cut_at : (c : After-len-2) → Cut c.args.places.now c.args.numbers.now c.len.result c.len-2.result c.split_at.result.1.now
cut_at c =
    let first = c.len.ensures ∙ c.places.inside.leaves.ok.0 in
    let more = c.len-2.ensures ∙ c.places.inside.nodes.ok.0 in
    let behind = c.split_at.ensures.back in
    cut c.args.places.now c.args.numbers.now c.split_at.result.1.now c.len.result c.len-2.result c.requires.enough (first ∙ ap (λ (p : TreePart). length p.leaves) c.places.view_is)
    (more ∙ ap (λ (p : TreePart). length p.nodes) c.places.view_is) behind

pub split_at-requires-2 : goal.split_at-requires-2
split_at-requires-2 c = (cut_at (goal.at.split_at-requires-2 c).After-len-2).room

pub path-requires-clause-ascends : goal.path-requires-clause-ascends
path-requires-clause-ascends c =
    let written = c.deref-2.ensures.value ∙ ap (λ (p : TreePart). p.leaves) c.places.view_is in
    rw written c.requires.may.ascend

pub path-requires-clause-fresh : goal.path-requires-clause-fresh
path-requires-clause-fresh c =
    let k = cut_at (goal.at.path-requires-clause-fresh c).After-len-2 in
    let p = c.args.places.now in
    let before = length c.args.old.now.leaves in
    let written = c.deref-2.ensures.value ∙ ap (λ (x : TreePart). x.leaves) c.places.view_is in
    let counted : length p.nodes ≡ fresh_to c.args.fan before c.args.count p.leaves (levels c.args.fan c.args.count) =
    ap (λ (l : List ℕ). length l) c.requires.nodes ∙ places_count c.args.fan before c.args.count p.leaves (levels c.args.fan c.args.count) in
    let front = c.split_at-2.ensures.front in
    let long = ap (λ (l : List ℕ). length l) front ∙ length-take-le c.len-2.result c.split_at.result.1.now k.room in
    let more = k.more in
    rw (c.leaves-2.ensures, written) (omega (arith, counted, long, more))

-- so the tree is the one that is asked for
shared : (c : After-path)
    → IsShared c.args.fan c.args.old.now (record { leaves = c.keep_leaves.new.into.items; pointers = c.path.new.into.items }) c.args.count c.args.places.now c.args.numbers.now
shared c =
    let first = c.len.ensures ∙ c.places.inside.leaves.ok.0 in
    let second = c.len-2.ensures ∙ c.places.inside.nodes.ok.0 in
    let behind = c.split_at.ensures.back in
    let k = cut c.args.places.now c.args.numbers.now c.split_at.result.1.now c.len.result c.len-2.result c.requires.enough (first ∙ ap (λ (x : TreePart). length x.leaves) c.places.view_is)
    (second ∙ ap (λ (x : TreePart). length x.nodes) c.places.view_is) behind in
    let p = c.args.places.now in
    let none = c.in_ok-leaves.ensures.items in
    let old = c.leaves.ensures in
    let written = c.deref.ensures.value ∙ ap (λ (x : TreePart). x.leaves) c.places.view_is in
    let no_nodes = c.in_ok-pointers.ensures.items in
    let before = c.leaves-2.ensures in
    let olds = c.pointers.ensures in
    let again = c.deref-2.ensures.value ∙ ap (λ (x : TreePart). x.leaves) c.places.view_is in
    let fresh = c.split_at-2.result.0.now in
    let front = c.split_at-2.ensures.front in
    let more = k.more in
    let back = k.back in
    shared_so c.args.fan c.args.old.now (record { leaves = c.keep_leaves.new.into.items; pointers = c.path.new.into.items }) c.args.count p c.args.numbers.now fresh c.requires.wide c.requires.may
    c.requires.nodes c.requires.enough
    (c.keep_leaves.ensures.appended ∙ (λ i. none i ++ numbered true 1 (length (old i)) c.args.count (written i) (old i) c.args.numbers.now c.args.count))
    (front ∙ (λ i. take (more i) (back i)))
    (c.path.ensures.appended ∙ (λ i. no_nodes i ++ concat (path_levels c.args.fan (length (before i)) (olds i) c.args.count (again i) fresh)))

pub returns-clause-keeps : goal.returns-clause-keeps
returns-clause-keeps c = (shared (goal.at.returns-clause-keeps c).After-path).keeps

pub returns-clause-count : goal.returns-clause-count
returns-clause-count c = (shared (goal.at.returns-clause-count c).After-path).long

pub returns-clause-fresh : goal.returns-clause-fresh
returns-clause-fresh c = (shared (goal.at.returns-clause-fresh c).After-path).fresh

pub returns-in_err-leaves-clause-keeps : goal.returns-in_err-leaves-clause-keeps
returns-in_err-leaves-clause-keeps c = ok_at_err _ c.from_residual.result _ c.from_residual.ensures.1

pub returns-in_err-leaves-clause-count : goal.returns-in_err-leaves-clause-count
returns-in_err-leaves-clause-count c = ok_at_err _ c.from_residual.result _ c.from_residual.ensures.1

pub returns-in_err-leaves-clause-fresh : goal.returns-in_err-leaves-clause-fresh
returns-in_err-leaves-clause-fresh c = ok_at_err _ c.from_residual.result _ c.from_residual.ensures.1

pub returns-in_err-pointers-clause-keeps : goal.returns-in_err-pointers-clause-keeps
returns-in_err-pointers-clause-keeps c = ok_at_err _ c.from_residual-in_err-pointers.result _ c.from_residual-in_err-pointers.ensures.1

pub returns-in_err-pointers-clause-count : goal.returns-in_err-pointers-clause-count
returns-in_err-pointers-clause-count c = ok_at_err _ c.from_residual-in_err-pointers.result _ c.from_residual-in_err-pointers.ensures.1

pub returns-in_err-pointers-clause-fresh : goal.returns-in_err-pointers-clause-fresh
returns-in_err-pointers-clause-fresh c = ok_at_err _ c.from_residual-in_err-pointers.result _ c.from_residual-in_err-pointers.ensures.1

pub keep_leaves-requires-clause-few : goal.keep_leaves-requires-clause-few
keep_leaves-requires-clause-few c = subst (λ (l : List ℕ). length l < 2 ^ 32) (sym c.leaves.ensures) c.requires.few

pub keep_leaves-requires-clause-room : goal.keep_leaves-requires-clause-room
keep_leaves-requires-clause-room c = new_room _ _ _ _ c.in_ok-leaves.ensures.len c.in_ok-leaves.ensures.capacity refl

pub shape-requires-clause-some : goal.shape-requires-clause-some
shape-requires-clause-some c = c.requires.some

pub shape-requires-clause-wide : goal.shape-requires-clause-wide
shape-requires-clause-wide c = c.requires.wide

pub path-requires-clause-some_before : goal.path-requires-clause-some_before
path-requires-clause-some_before c = subst (λ (l : List ℕ). 1 ≤ length l) (sym c.leaves-2.ensures) c.requires.some_before

pub path-requires-clause-some : goal.path-requires-clause-some
path-requires-clause-some c = c.requires.some

pub path-requires-clause-wide : goal.path-requires-clause-wide
path-requires-clause-wide c = c.requires.wide

pub path-requires-clause-olds : goal.path-requires-clause-olds
path-requires-clause-olds c = ap (λ (l : List ℕ). length l) c.pointers.ensures ∙ (c.requires.olds ∙ ap (λ (l : List ℕ). pointer_count c.args.fan (length l)) (sym c.leaves-2.ensures))

pub path-requires-clause-room : goal.path-requires-clause-room
path-requires-clause-room c = new_room _ _ _ _ c.in_ok-pointers.ensures.len c.in_ok-pointers.ensures.capacity c.shape.ensures.pointers
