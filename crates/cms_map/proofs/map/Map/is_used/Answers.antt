use Rattle.std.proofs.Common.{◌-◌, ◌≤◌, false, List, Bool, length, get_or, ◌∙◌, ap, arith}
use Rattle.cms_map.proofs.Held.{marked_held, bits_count}
use Rattle.cms_map.proofs.map.Map.is_used.Goals as goal

pub returns : goal.returns
returns c =
    let m = c.self.inside in
    let long = ap length c.self.view_is in
    let within : c.args.block ≤ m.blocks = omega (arith, bits_count m.blocks m.bytes.items) in
    rw c.deref.ensures.value at c.is_marked.ensures
    ∙ marked_held m.blocks m.free m.bytes.items c.args.block c.self.invariant.0 c.requires.first within
    ∙ ap (λ (l : List Bool). get_or l (c.args.block - 1) false) c.self.view_is
