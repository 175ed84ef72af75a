use Rattle.std.proofs.Common.{◌≡◌, ◌∙◌}
use Rattle.cms_fields.specs.Stamps.{stamp_bytes}
use Rattle.cms_fields.proofs.StampBytes.{written_spells}
use Rattle.cms_fields.proofs.packed.write_stamp.Goals as goal

pub returns-clause-spells : goal.returns-clause-spells
returns-clause-spells c =
    let date : c.copy_from_slice.new.self ≡ stamp_bytes c.args.stamp.now = c.copy_from_slice.ensures.after ∙ c.packed_stamp.ensures in
    rw (date, c.stamp_flags.ensures) (written_spells c.args.stamp.now c.requires.valid)
