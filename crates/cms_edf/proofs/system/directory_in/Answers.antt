use Rattle.std.proofs.Common.{rules, sym, ◌∙◌}
use Rattle.cms_edf.proofs.Shapes.{directory_sizes}
use Rattle.cms_edf.proofs.system.directory_in.Goals as goal

pub returns-then-is_directory-clause-shape : goal.returns-then-is_directory-clause-shape
returns-then-is_directory-clause-shape c =
    let s = directory_sizes c.args.bsize c.args.origin c.args.bytes.now c.system_fields.result c.bytes-size.ensures.size (search rules)
    (rw c.bytes-size.ensures.value at (sym c.is_directory.ensures ∙ c.if-is_directory.true)) c.system_fields.ensures.is in
    (s.0, s.1)

pub returns-then-is_directory-clause-count : goal.returns-then-is_directory-clause-count
returns-then-is_directory-clause-count c =
    let s = directory_sizes c.args.bsize c.args.origin c.args.bytes.now c.system_fields.result c.bytes-size.ensures.size (search rules)
    (rw c.bytes-size.ensures.value at (sym c.is_directory.ensures ∙ c.if-is_directory.true)) c.system_fields.ensures.is in
    (s.2, s.3, s.4)
