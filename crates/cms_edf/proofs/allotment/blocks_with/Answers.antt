-- The next data block is put behind the others.
use Rattle.std.proofs.Common.{◌≡◌, ◌*◌, ◌+◌, ◌/◌, ℕ, ◌∙◌, ap, arith}
use Rattle.cms_fields.specs.Numbers.{up}
use Rattle.cms_edf.proofs.BlocksMade.{blocks_all}
use Rattle.cms_edf.proofs.NextMade.{first_up_to, next_up_to}
use Rattle.cms_edf.proofs.Rounded.{rounded}
use Rattle.cms_edf.proofs.allotment.blocks_with.Goals as goal

pub loop-next-init : goal.loop-next-init
loop-next-init c =
    first_up_to c.args.made.now c.in_ok-blocks.blocks.items (c.bytes-each.result / 64) c.div_ceil-count.result c.next_made-next.result c.in_ok-blocks.ensures.items c.next_made-next.ensures

pub loop-next-preserved : goal.loop-next-preserved
loop-next-preserved c =
    next_up_to c.args.made.now c.loop-next.blocks.items c.push.new.self.items (c.bytes-each.result / 64) c.div_ceil-count.result c.loop-next.next c.next_made-next-in-loop-next.result c.loop-next.invariant
    c.loop-next-test.true c.in_ok-push.ensures.items c.next_made-next-in-loop-next.ensures

pub returns : goal.returns
returns c =
    let count = rounded c.div_ceil-count.result (64 * (c.args.files + 2)) c.bytes.result c.div_ceil-count.ensures c.bytes.ensures.least in
    let high = c.loop-next.invariant.high in
    let end : c.loop-next.next ≡ c.div_ceil-count.result = omega (arith, c.loop-next-test.false, high) in
    blocks_all c.args.bsize c.args.files (c.bytes-each.result / 64) c.loop-next.next c.args.made.now c.loop-next.blocks.items (ap (λ (n : ℕ). n / 64) c.bytes-each.ensures.value)
    (end ∙ (count ∙ ap (up (64 * (c.args.files + 2))) c.bytes.ensures.value)) c.loop-next.invariant.blocks_are
