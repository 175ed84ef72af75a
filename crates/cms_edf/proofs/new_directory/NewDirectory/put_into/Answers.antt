-- The list has its new length first, and then one number behind the other is put.
use Rattle.std.proofs.Common.{◌≡◌, ◌∙◌, ◌<◌, ◌≤◌, ◌++◌, ◌∷◌, [], ℕ, List, length, get_or, sym, ap, subst, rules, arith}
use Rattle.std.specs.Prelude.{slice_set, vec_len}
use Rattle.cms_held.specs.Systems.{TreePart}
use Rattle.cms_tree.proofs.Own.{in_at}
use Rattle.cms_edf.specs.NewDirectories.{NewDirectory, leaves_over}
use Rattle.cms_edf.proofs.NewLeaves.{IsPut, IsResized, leaf_new, leaves_long, long_is, put_all, put_none, put_one, read_at, resized_more, resized_same}
use Rattle.cms_edf.proofs.new_directory.NewDirectory.put_into.Goals as goal
use Rattle.cms_edf.proofs.new_directory.NewDirectory.put_into.Goals.{then-len-count, else-len-count}

pub overflow_cast-count : goal.overflow_cast-count
overflow_cast-count c = let small = c.self.invariant.small in omega arith

pub unwrap-requires : goal.unwrap-requires
unwrap-requires c =
    let i = c.self.inside in
    let all = long_is i.old.value.items i.count i.part i.numbers.items i.pointers.items c.args.self c.self.view_is in
    let held : c.len.result ≡ vec_len c.args.held.now = search rules in
    let less = c.if-len-count.true in
    let room = c.requires.room in
    c.push.ensures.succeeds (omega (arith, all, held, less, room))

pub loop-at-init : goal.loop-at-init
loop-at-init c =
    let i = c.self.inside in
    let d = c.args.self in
    let old = c.args.held.now.items in
    let new = c.truncate.new.self.items in
    let all = long_is i.old.value.items i.count i.part i.numbers.items i.pointers.items d c.self.view_is in
    let held : c.len.result ≡ length old = search rules in
    let few = c.requires.goes.few in
    let resized : IsResized old new i.count =
    elim c.if-len-count.branch [
      | then-len-count w ↦
          let more : c.if-len-count.held.items ≡ old ++ 0 ∷ [] = search rules in
          resized_more old c.if-len-count.held.items new i.count more (omega (arith, all, few)) c.truncate.ensures.items
      | else-len-count w ↦
          let same : c.if-len-count.held.items ≡ old = search rules in
          let past = w.if-len-count.false in
          resized_same old c.if-len-count.held.items new i.count same (omega (arith, held, past)) c.truncate.ensures.items
    ] in
    subst (λ (x : NewDirectory). IsPut x.tree.leaves x.part.leaves new 0) (sym c.self.view_is)
    (put_none d old new c.requires.goes (resized.long ∙ sym all) (λ j had less. resized.stay j had (omega (arith, all, less))))

pub index_mut-requires : goal.index_mut-requires
index_mut-requires c =
    let i = c.self.inside in
    let l = c.loop-at in
    let places : c.deref-place-items.result.now ≡ i.part.leaves = c.deref-place-items.ensures.value ∙ ap (λ (p : TreePart). p.leaves) c.part.view_is in
    let within = i.part.leaves in
    let test = c.loop-at-test.true in
    let many = ap (λ (xs : List ℕ). length xs) places in
    let less = c.self.invariant.may.within (get_or i.part.leaves l.at 0) (in_at i.part.leaves l.at (omega (arith, test, many))) in
    let long = l.invariant.long ∙ leaves_long i.old.value.items i.count i.part.leaves i.numbers.items in
    let held : vec_len l.held ≡ length l.held.items = search rules in
    let same = ap (λ (xs : List ℕ). get_or xs l.at 0) places in
    omega (arith, less, long, held, same)

pub loop-at-preserved : goal.loop-at-preserved
loop-at-preserved c =
    let i = c.self.inside in
    let l = c.loop-at in
    let leaves = leaves_over i.old.value.items i.count i.part.leaves i.numbers.items in
    let places : c.deref-place-items.result.now ≡ i.part.leaves = c.deref-place-items.ensures.value ∙ ap (λ (p : TreePart). p.leaves) c.part.view_is in
    let test = c.loop-at-test.true in
    let many = ap (λ (xs : List ℕ). length xs) places in
    let less : l.at < length i.part.leaves = omega (arith, test, many) in
    let enough = c.self.invariant.enough in
    let value : c.index.result.now ≡ get_or leaves (get_or i.part.leaves l.at 0) 0 =
    read_at i.numbers.items l.at c.index.result.now (omega (arith, less, enough)) c.index.ensures ∙ sym (leaf_new i.old.value.items i.count i.part.leaves i.numbers.items l.at c.self.invariant.may less) in
    put_one leaves i.part.leaves l.held.items _ l.at l.invariant less (λ k. slice_set l.held.items (get_or (places k) l.at 0) (value k))

pub returns-clause-leaves : goal.returns-clause-leaves
returns-clause-leaves c =
    let i = c.self.inside in
    let l = c.loop-at in
    let places : c.deref-place-items.result.now ≡ i.part.leaves = c.deref-place-items.ensures.value ∙ ap (λ (p : TreePart). p.leaves) c.part.view_is in
    let many = ap (λ (xs : List ℕ). length xs) places in
    let past : length c.deref-place-items.result.now ≤ l.at = search rules in
    put_all (leaves_over i.old.value.items i.count i.part.leaves i.numbers.items) i.part.leaves l.held.items l.at l.invariant (omega (arith, many, past)) ∙ ap (λ (x : NewDirectory). x.tree.leaves) c.self.view_is
