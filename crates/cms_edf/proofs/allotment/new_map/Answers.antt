-- The lowest free blocks are marked, and one list of blocks after the other is freed.
use Rattle.std.proofs.Common.{◌≡◌, ◌++◌, take, ◌∙◌, ap, subst}
use Rattle.cms_map.specs.Bits.{free_blocks, with_marked}
use Rattle.cms_held.specs.HeldVolumes.{Held}
use Rattle.cms_held.specs.Renewals.{with_freed}
use Rattle.cms_edf.proofs.AllottedSteps.{freed_both}
use Rattle.cms_edf.proofs.allotment.new_map.Goals as goal

pub returns : goal.returns
returns c =
    let gone = c.args.released.now ++ c.args.left.now in
    let used = c.args.used in
    let taken = c.in_ok-taken.ensures.marked in
    subst (λ (h : Held). c.release_all-2.new.map ≡ with_freed gone (with_marked (take used (free_blocks h.volume.bits)) h.volume.bits)) c.held.view_is
    (freed_both c.args.released.now c.args.left.now c.in_ok-taken.taken.map c.release_all.new.map c.release_all-2.new.map c.release_all.ensures.freed c.release_all-2.ensures.freed
    ∙ ap (with_freed gone) taken)
