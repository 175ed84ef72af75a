use Rattle.std.proofs.Common.{◌∙◌, ap, subst, ◌<◌, ◌≤◌, ◌++◌, List, ℕ}
use Rattle.std.specs.List.{concat}
use Rattle.cms_world.proofs.Exits.{ok_at_err}
use Rattle.cms_world.proofs.BlocksJoined.{joined_more, joined_all}
use Rattle.cms_world.proofs.images.joined.Goals as goal

pub loop-place-init : goal.loop-place-init
loop-place-init c = ap (λ (l : List ℕ). l ++ concat c.args.blocks.now) c.new-bytes.ensures.items

pub returns-in_err-extend_from_slice : goal.returns-in_err-extend_from_slice
returns-in_err-extend_from_slice c = ok_at_err _ c.from_residual.result _ c.from_residual.ensures.1

pub loop-place-preserved : goal.loop-place-preserved
loop-place-preserved c =
    let l = c.loop-place in
    let within = subst (λ (n : ℕ). l.place < n) c.len-place-end.ensures c.loop-place-test.true in
    joined_more c.args.blocks.now l.place l.bytes.items c.extend_from_slice.new.self.items within (c.in_ok-extend_from_slice.ensures.items ∙ ap (λ (b : List ℕ). l.bytes.items ++ b) c.get.ensures) ∙ l.invariant

pub returns : goal.returns
returns c =
    let l = c.loop-place in
    joined_all c.args.blocks.now l.place l.bytes.items (subst (λ (n : ℕ). n ≤ l.place) c.len-place-end.ensures c.loop-place-test.false) ∙ l.invariant
