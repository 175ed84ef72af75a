-- Zeros are the map of which the first five blocks are in use.
use Rattle.std.proofs.Common.{◌≡◌, Bool, List, replicate, ap, ◌∙◌}
use Rattle.std.proofs.lemmas.Result.{IfOk-weaker}
use Rattle.cms_map.specs.Bits.{bits_in}
use Rattle.cms_held.specs.EmptyVolumes.{first_bits}
use Rattle.cms_held.proofs.NewMap.{blank_bits}
use Rattle.cms_edf.proofs.empty_volume.blank_map.Goals as goal

pub returns : goal.returns
returns c =
    let zeros : c.deref.result.now ≡ replicate c.div_ceil.result 0 = c.deref.ensures.value ∙ c.in_ok-bytes.ensures.items_if_clones_equal (λ y is. is) in
    let same = ap (bits_in c.args.total) zeros ∙ blank_bits c.div_ceil.result c.args.total c.requires in
    IfOk-weaker c.of_bytes.result _ (λ (m : List Bool). m ≡ first_bits 5 c.args.total) (λ (m : List Bool) is. is ∙ same) c.of_bytes.ensures.bits
