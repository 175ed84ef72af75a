-- The data blocks take the first numbers, and the pointer blocks those behind them.
use Rattle.std.proofs.Common.{◌≡◌, ◌+◌, ◌≤◌, ℕ, List, Vec, Global, ◌++◌, length, take, drop, ◌∙◌, ap, arith, length-drop, ◌-◌, refl, sym, subst}
use Rattle.std.specs.List.{concat}
use Rattle.std.proofs.lemmas.List.{length-take-le}
use Rattle.cms_model.specs.SharedTrees.{fresh_to, MayBeWritten}
use Rattle.cms_model.specs.Sizes.{levels, pointer_count}
use Rattle.cms_tree.specs.Paths.{path_levels}
use Rattle.cms_tree.proofs.Paths.{places_count}
use Rattle.cms_held.specs.Systems.{TreePart}
use Rattle.cms_edf.specs.NewDirectories.{leaves_over}
use Rattle.cms_edf.proofs.SharedTaken.{IsShared, shared_so}
use Rattle.std.specs.List.Sorted.{IsStrictlyIncreasing}
use Rattle.cms_edf.proofs.Exits.{ok_at_err}
use Rattle.cms_edf.proofs.Rooms.{new_room}
use Rattle.cms_edf.proofs.new_directory.NewDirectory.of_shared.Goals as goal
use Rattle.cms_edf.proofs.new_directory.NewDirectory.of_shared.Goals.{After-of, After-shape}

-- the numbers for pointer blocks are those behind the data blocks
record Cut (places : TreePart) (numbers fresh : List ℕ) : Type 0 where
  is : fresh ≡ take (length places.nodes) (drop (length places.leaves) numbers)
  long : length fresh ≡ length places.nodes

cut : (places : TreePart) (numbers all behind fresh : List ℕ) (leaves nodes : ℕ) → length places.leaves + length places.nodes ≤ length numbers → all ≡ numbers → leaves ≡ length places.leaves → nodes ≡ length places.nodes
    → behind ≡ drop leaves all → fresh ≡ take nodes behind → Cut places numbers fresh
cut places numbers all behind fresh leaves nodes enough whole first more back front =
    let own : fresh ≡ take (length places.nodes) (drop (length places.leaves) numbers) = front ∙ ((λ i. take (more i) (back i)) ∙ (λ i. take (length places.nodes) (drop (first i) (whole i)))) in
    let behind' = length-drop (length places.leaves) numbers in
    record { is = own; long = ap (λ (l : List ℕ). length l) own ∙ length-take-le (length places.nodes) (drop (length places.leaves) numbers) (omega arith) }

cut_at : (c : After-shape) → Cut c.args.part c.args.numbers.items c.split_at-2.result.0.now
cut_at c =
    let first = c.len.ensures ∙ c.part.inside.leaves.ok.0 in
    let more = c.len-2.ensures ∙ c.part.inside.nodes.ok.0 in
    cut c.args.part c.args.numbers.items c.deref.result.now c.split_at.result.1.now c.split_at-2.result.0.now c.len.result c.len-2.result c.requires.enough c.deref.ensures.value
    (first ∙ ap (λ (p : TreePart). length p.leaves) c.part.view_is) (more ∙ ap (λ (p : TreePart). length p.nodes) c.part.view_is) c.split_at.ensures.back c.split_at-2.ensures.front

pub path-requires-clause-fresh : goal.path-requires-clause-fresh
path-requires-clause-fresh c =
    let k = cut_at (goal.at.path-requires-clause-fresh c).After-shape in
    let p = c.args.part in
    let before = length c.args.leaves.now.items in
    let many : c.len-before.result ≡ before = c.len-before.ensures ∙ c.args.leaves.now.ok.0 in
    let written = c.deref-2.ensures.value ∙ ap (λ (x : TreePart). x.leaves) c.part.view_is in
    let counted : length p.nodes ≡ fresh_to c.args.fan before c.args.count p.leaves (levels c.args.fan c.args.count) =
    ap (λ (l : List ℕ). length l) c.requires.nodes ∙ places_count c.args.fan before c.args.count p.leaves (levels c.args.fan c.args.count) in
    let long = k.long in
    rw (many, written) (omega (arith, counted, long))

-- so the tree is the one that is asked for
shared : (c : After-of) → Cut c.args.part c.args.numbers.items c.split_at-2.result.0.now
    → IsShared c.args.fan (record { leaves = c.args.leaves.now.items; pointers = c.args.pointers.now })
    (record { leaves = leaves_over c.of.result.value.items c.args.count c.args.part.leaves c.args.numbers.items; pointers = c.path.new.into.items }) c.args.count c.args.part c.args.numbers.items
shared c k =
    let old = c.args.leaves.now.items in
    let before : c.len-before.result ≡ length old = c.len-before.ensures ∙ c.args.leaves.now.ok.0 in
    let none = c.in_ok-nodes.ensures.items in
    let written = c.deref-2.ensures.value ∙ ap (λ (x : TreePart). x.leaves) c.part.view_is in
    let fresh = c.split_at-2.result.0.now in
    shared_so c.args.fan (record { leaves = old; pointers = c.args.pointers.now })
    (record { leaves = leaves_over c.of.result.value.items c.args.count c.args.part.leaves c.args.numbers.items; pointers = c.path.new.into.items }) c.args.count c.args.part c.args.numbers.items fresh
    c.requires.wide c.requires.may c.requires.nodes c.requires.enough
    (ap (λ (v : Vec ℕ Global). leaves_over v.items c.args.count c.args.part.leaves c.args.numbers.items) c.of.ensures) k.is
    (c.path.ensures.appended ∙ (λ i. none i ++ concat (path_levels c.args.fan (before i) c.args.pointers.now c.args.count (written i) fresh)))

pub returns-clause-keeps : goal.returns-clause-keeps
returns-clause-keeps c = (shared (goal.at.returns-clause-keeps c).After-of (cut_at (goal.at.returns-clause-keeps c).After-shape)).keeps

pub returns-clause-count : goal.returns-clause-count
returns-clause-count c = (shared (goal.at.returns-clause-count c).After-of (cut_at (goal.at.returns-clause-count c).After-shape)).long

pub returns-clause-fresh : goal.returns-clause-fresh
returns-clause-fresh c = (shared (goal.at.returns-clause-fresh c).After-of (cut_at (goal.at.returns-clause-fresh c).After-shape)).fresh

-- both parts of the numbers are there
first_within : (leaves nodes numbers all first : ℕ) → leaves + nodes ≤ numbers → all ≡ numbers → first ≡ leaves → first ≤ all
first_within leaves nodes numbers all first enough whole is = omega arith

second_within : (leaves nodes numbers all first second behind : ℕ) → leaves + nodes ≤ numbers → all ≡ numbers → first ≡ leaves → second ≡ nodes → behind ≡ all - first → second ≤ behind
second_within leaves nodes numbers all first second behind enough whole is more back = omega arith

pub split_at-requires : goal.split_at-requires
split_at-requires c = first_within _ _ _ _ _ c.requires.enough (ap (λ (l : List ℕ). length l) c.deref.ensures.value) (c.len.ensures ∙ (c.part.inside.leaves.ok.0 ∙ ap (λ (p : TreePart). length p.leaves) c.part.view_is))

pub split_at-requires-2 : goal.split_at-requires-2
split_at-requires-2 c =
    second_within _ _ _ _ _ _ _ c.requires.enough (ap (λ (l : List ℕ). length l) c.deref.ensures.value) (c.len.ensures ∙ (c.part.inside.leaves.ok.0 ∙ ap (λ (p : TreePart). length p.leaves) c.part.view_is))
    (c.len-2.ensures ∙ (c.part.inside.nodes.ok.0 ∙ ap (λ (p : TreePart). length p.nodes) c.part.view_is))
    (ap (λ (l : List ℕ). length l) c.split_at.ensures.back ∙ length-drop c.len.result c.deref.result.now)

pub shape-requires-clause-some : goal.shape-requires-clause-some
shape-requires-clause-some c = c.requires.some

pub shape-requires-clause-wide : goal.shape-requires-clause-wide
shape-requires-clause-wide c = c.requires.wide

pub returns-in_err-nodes-clause-keeps : goal.returns-in_err-nodes-clause-keeps
returns-in_err-nodes-clause-keeps c = ok_at_err _ c.from_residual.result _ c.from_residual.ensures.1

pub returns-in_err-nodes-clause-count : goal.returns-in_err-nodes-clause-count
returns-in_err-nodes-clause-count c = ok_at_err _ c.from_residual.result _ c.from_residual.ensures.1

pub returns-in_err-nodes-clause-fresh : goal.returns-in_err-nodes-clause-fresh
returns-in_err-nodes-clause-fresh c = ok_at_err _ c.from_residual.result _ c.from_residual.ensures.1

pub returns-in_err-nodes-clause-part : goal.returns-in_err-nodes-clause-part
returns-in_err-nodes-clause-part c = ok_at_err _ c.from_residual.result _ c.from_residual.ensures.1

pub path-requires-clause-some_before : goal.path-requires-clause-some_before
path-requires-clause-some_before c = subst (λ (n : ℕ). 1 ≤ n) (sym (c.len-before.ensures ∙ c.args.leaves.now.ok.0)) c.requires.some_before

pub path-requires-clause-some : goal.path-requires-clause-some
path-requires-clause-some c = c.requires.some

pub path-requires-clause-wide : goal.path-requires-clause-wide
path-requires-clause-wide c = c.requires.wide

pub path-requires-clause-olds : goal.path-requires-clause-olds
path-requires-clause-olds c = c.requires.olds ∙ ap (pointer_count c.args.fan) (sym (c.len-before.ensures ∙ c.args.leaves.now.ok.0))

pub path-requires-clause-ascends : goal.path-requires-clause-ascends
path-requires-clause-ascends c = subst IsStrictlyIncreasing (sym (c.deref-2.ensures.value ∙ ap (λ (x : TreePart). x.leaves) c.part.view_is)) c.requires.may.ascend

pub path-requires-clause-room : goal.path-requires-clause-room
path-requires-clause-room c = new_room _ _ _ _ c.in_ok-nodes.ensures.len c.in_ok-nodes.ensures.capacity c.shape.ensures.pointers

part_of_all : (leaves nodes numbers : ℕ) → leaves + nodes ≤ numbers → leaves ≤ numbers
part_of_all leaves nodes numbers enough = omega arith

pub invariant_of-result : goal.invariant_of-result
invariant_of-result c = record {
  may = subst (λ (n : ℕ). MayBeWritten n c.args.count c.args.part.leaves) (sym (ap (λ (v : Vec ℕ Global). length v.items) c.of.ensures)) c.requires.may;
  enough = part_of_all _ _ _ c.requires.enough;
  small = c.ranges.count.fits;
}

pub returns-clause-part : goal.returns-clause-part
returns-clause-part c = refl
