use Rattle.std.proofs.Common.{◌≡◌, replicate, refl, ◌∙◌}
use Rattle.cms_fields.specs.Stamps.{days_of_month, is_stamp}
use Rattle.cms_disk_tests.proofs.File.{page}
use Rattle.cms_disk_tests.proofs.puts.blanks.Goals as goal

pub returns : goal.returns
unfolding is_stamp days_of_month
returns c =
    let filled : c.in_ok-vec.field-0.items ≡ replicate 2048 64 = c.in_ok-vec.ensures.items_if_clones_equal (λ y is. is) in
    record { valid = page _ refl refl refl refl refl (c.take.ensures ∙ filled) }
