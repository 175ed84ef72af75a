use Rattle.std.proofs.Common.{ap, ◌++◌, drop, length, replicate}
use Rattle.cms_names.proofs.Words.{filled_is}
use Rattle.cms_names.proofs.text.Text.of.Goals as goal

pub invariant_of-result : goal.invariant_of-result
invariant_of-result c =
    let n = length c.args.word.now in
    let f = filled_is c.args.word.now _ c.requires.some (ap (λ w. w ++ drop n (replicate 8 0x40)) c.copy_from_slice.ensures.after) in
    (f.some, f.long, f.whole)
