use Rattle.std.proofs.Common.{rules, sym, ◌∙◌}
use Rattle.cms_edf.proofs.Shapes.{map_sizes}
use Rattle.cms_edf.proofs.system.map_in.Goals as goal

pub returns-then-is_map-clause-shape : goal.returns-then-is_map-clause-shape
returns-then-is_map-clause-shape c =
    let s = map_sizes c.args.bsize c.args.total c.args.bytes.now c.system_fields.result c.bytes-size.ensures.size c.requires.some (search rules)
    (rw c.bytes-size.ensures.value at (sym c.is_map.ensures ∙ c.if-is_map.true)) c.system_fields.ensures.is in
    (s.0, s.1)

pub returns-then-is_map-clause-room : goal.returns-then-is_map-clause-room
returns-then-is_map-clause-room c =
    let s = map_sizes c.args.bsize c.args.total c.args.bytes.now c.system_fields.result c.bytes-size.ensures.size c.requires.some (search rules)
    (rw c.bytes-size.ensures.value at (sym c.is_map.ensures ∙ c.if-is_map.true)) c.system_fields.ensures.is in
    s.2
