use Rattle.std.proofs.Common.{sym, ◌∙◌}
use Rattle.cms_fields.proofs.StampBytes.{bytes_spelled, century_told}
use Rattle.cms_fields.proofs.packed.read_stamp.Goals as goal

pub returns-then-has_stamp-clause-spelled : goal.returns-then-has_stamp-clause-spelled
returns-then-has_stamp-clause-spelled c =
    rw c.stamp_at.ensures (bytes_spelled c.args.date.now c.args.flags c.requires (sym c.has_stamp.ensures ∙ c.if-has_stamp.true))

pub returns-then-has_stamp-clause-century : goal.returns-then-has_stamp-clause-century
returns-then-has_stamp-clause-century c =
    rw c.stamp_at.ensures (century_told c.args.date.now c.args.flags c.requires (sym c.has_stamp.ensures ∙ c.if-has_stamp.true))
