use Rattle.std.proofs.Common.{◌≡◌, ◌*◌, ◌/◌, ◌≤◌, ℕ, ap, rules, arith}
use Rattle.std.proofs.Math.Nat.{mul-le-mul_left}
use Rattle.cms_fields.specs.Numbers.{up}
use Rattle.cms_model.proofs.Quotients.{up_spec}
use Rattle.cms_held.proofs.Allotted.{nodes_few}
use Rattle.cms_edf.proofs.draft.count_blocks.Goals as goal

pub returns-clause-small : goal.returns-clause-small
returns-clause-small c =
    let bytes = c.bytes.result in
    let low = c.bytes.ensures.least in
    let high = c.bytes.ensures.most in
    let n = c.div_ceil-data.result in
    let d : n ≡ up c.args.asked.now.bytes bytes = search rules in
    let same : n * bytes ≡ up c.args.asked.now.bytes bytes * bytes = ap (λ (m : ℕ). m * bytes) d in
    let tight = (up_spec c.args.asked.now.bytes bytes (omega arith)).1 in
    let wide : n * 512 ≤ n * bytes = mul-le-mul_left n low in
    let few = c.requires.few in
    let fan : 2 ≤ c.bytes-2.result / c.from.result = search rules in
    let nodes = nodes_few (c.bytes-2.result / c.from.result) n (omega arith) in
    let pointers = c.shape-tree.ensures.pointers in
    omega arith
