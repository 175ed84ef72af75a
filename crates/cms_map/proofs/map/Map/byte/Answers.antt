use Rattle.std.proofs.Common.{◌≡◌, List, Bool, get_or, rules, ◌∙◌, ap}
use Rattle.cms_map.specs.Bits.{byte_at}
use Rattle.cms_map.proofs.Held.{byte_held}
use Rattle.cms_map.proofs.map.Map.byte.Goals as goal

pub returns : goal.returns
returns c =
    let m = c.self.inside in
    let is : c.unwrap_or.result ≡ get_or m.bytes.items c.args.at 0 = search rules in
    is ∙ byte_held m.blocks m.free m.bytes.items c.args.at c.self.invariant.0 ∙ ap (λ (l : List Bool). byte_at l c.args.at) c.self.view_is
