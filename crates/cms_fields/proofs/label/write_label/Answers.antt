use Rattle.std.proofs.Common.{◌∙◌, ap, arith}
use Rattle.byteorder.specs.Endian.{big_bytes}
use Rattle.cms_text.specs.Bytes.{overwritten}
use Rattle.cms_fields.proofs.WrittenLabel.{label_written}
use Rattle.cms_fields.specs.Labels.{with_label}
use Rattle.cms_fields.proofs.label.write_label.Goals as goal

pub returns-clause-written : goal.returns-clause-written
unfolding with_label
returns-clause-written c =
    let l = c.args.label.now in
    c.put_word-2.ensures ∙ ap (λ b. overwritten 32 (big_bytes 4 l.in_use) b) (c.put_word.ensures ∙ ap (λ b. overwritten 16 (big_bytes 4 l.origin) b) c.put.ensures)

pub returns-clause-spells : goal.returns-clause-spells
returns-clause-spells c = rw (returns-clause-written c) (label_written c.args.label.now c.args.into.now (record { volid = omega arith; origin = omega arith; in_use = omega arith }) c.requires)
