use Rattle.std.proofs.Common.{◌≡◌, ◌∙◌, ℕ, ◌*◌, ◌%◌, List, length, ap}
use Rattle.std.specs.Vec.{with_items}
use Rattle.std.proofs.lemmas.List.{with_items_is}
use Rattle.cms_text.specs.Bytes.{overwritten}
use Rattle.cms_model.specs.LawsTrees.{cell_bytes}
use Rattle.cms_tree.specs.Builds.{cell_of}
use Rattle.cms_tree.proofs.climb.Level.point.Goals as goal

pub nonzero_rem-at : goal.nonzero_rem-at
nonzero_rem-at c = c.requires.some

pub put_cell-requires-clause-psize : goal.put_cell-requires-clause-psize
put_cell-requires-clause-psize c = c.requires.psize

pub returns-clause-bytes : goal.returns-clause-bytes
returns-clause-bytes c =
    let s = c.args.self.now in
    let h = c.args.child.now in
    let cell = cell_bytes (cell_of c.args.psize (record { block = h.block; mark = h.mark })) in
    let kept : (with_items s.bytes c.put_cell.new.into).items ≡ c.put_cell.new.into = with_items_is s.bytes c.put_cell.new.into (c.put_cell.auto.into ∙ c.deref_mut.ensures.len) in
    kept ∙ (c.put_cell.ensures ∙ (ap (λ (n : ℕ). overwritten (h.nth % c.args.fan * n) cell c.deref_mut.result.now) c.from.ensures ∙ ap (λ (b : List ℕ). overwritten (h.nth % c.args.fan * c.args.psize) cell b) c.deref_mut.ensures.value))

pub returns-clause-size : goal.returns-clause-size
returns-clause-size c =
    let s = c.args.self.now in
    let kept : (with_items s.bytes c.put_cell.new.into).items ≡ c.put_cell.new.into = with_items_is s.bytes c.put_cell.new.into (c.put_cell.auto.into ∙ c.deref_mut.ensures.len) in
    ap (λ (l : List ℕ). length l) kept ∙ (c.put_cell.auto.into ∙ ap (λ (l : List ℕ). length l) c.deref_mut.ensures.value)

pub returns-clause-place : goal.returns-clause-place
returns-clause-place c = c.unwrap_or-place.ensures
