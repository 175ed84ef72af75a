use Rattle.cms_edf.proofs.Exits.{ok_at_err}
use Rattle.std.proofs.Common.{◌++◌, ◌∙◌, ap}
use Rattle.cms_held.specs.Allotments.{on_map}
use Rattle.cms_held.specs.HeldVolumes.{Held}
use Rattle.cms_edf.proofs.BlocksMade.{on_map_joined}
use Rattle.cms_edf.proofs.Exits.{ok_at_err}
use Rattle.cms_edf.proofs.allotment.turned_blocks.Goals as goal

pub returns-in_err-blocks : goal.returns-in_err-blocks
returns-in_err-blocks c = ok_at_err _ c.from_residual.result _ c.from_residual.ensures.1

pub returns-in_err-append_on_map : goal.returns-in_err-append_on_map
returns-in_err-append_on_map c = ok_at_err _ c.from_residual-in_err-append_on_map.result _ c.from_residual-in_err-append_on_map.ensures.1

pub returns : goal.returns
returns c =
    let lowest = c.args.lowest.now in
    let released = c.args.released.now in
    let total = ap (λ (h : Held). h.volume.label.blocks) c.held.view_is in
    let leaves = c.leaves.ensures ∙ ap (λ (h : Held). h.volume.map.leaves) c.held.view_is in
    let pointers = c.pointers.ensures ∙ ap (λ (h : Held). h.volume.map.pointers) c.held.view_is in
    on_map_joined c.held.inside.label.blocks lowest released c.leaves.result.now c.pointers.result.now _ _ _ _ _ c.in_ok-blocks.ensures.items c.in_ok-append_on_map.ensures
    c.in_ok-append_on_map-2.ensures c.in_ok-append_on_map-3.ensures c.in_ok-append_on_map-4.ensures
    ∙ (λ i. on_map (total i) (lowest ++ (released ++ (leaves i ++ pointers i))))

pub returns-in_err-append_on_map-2 : goal.returns-in_err-append_on_map-2
returns-in_err-append_on_map-2 c = ok_at_err _ c.from_residual-in_err-append_on_map-2.result _ c.from_residual-in_err-append_on_map-2.ensures.1

pub returns-in_err-append_on_map-3 : goal.returns-in_err-append_on_map-3
returns-in_err-append_on_map-3 c = ok_at_err _ c.from_residual-in_err-append_on_map-3.result _ c.from_residual-in_err-append_on_map-3.ensures.1

pub returns-in_err-append_on_map-4 : goal.returns-in_err-append_on_map-4
returns-in_err-append_on_map-4 c = ok_at_err _ c.from_residual-in_err-append_on_map-4.result _ c.from_residual-in_err-append_on_map-4.ensures.1
