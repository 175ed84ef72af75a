-- The data blocks in which the entries stand, and the pointer blocks over them.
use Rattle.std.proofs.Common.{◌≡◌, ◌≤◌, ◌+◌, ◌*◌, ◌/◌, ℕ, length, sym, ◌∙◌, ap, subst, arith}
use Rattle.std.proofs.lemmas.Result.{IfOk-weaker}
use Rattle.cms_fields.specs.Numbers.{up}
use Rattle.cms_model.specs.DirectoryParts.{blocks_made, directory_count}
use Rattle.cms_model.proofs.DirectoryParts.{blocks_ascend}
use Rattle.cms_tree.specs.Paths.{fresh_places}
use Rattle.cms_held.specs.HeldVolumes.{Held}
use Rattle.cms_held.specs.Systems.{TreePart}
use Rattle.cms_held.proofs.Allotted.{directory_some}
use Rattle.cms_edf.specs.Allotments.{numbers_made}
use Rattle.cms_edf.proofs.Exits.{ok_at_err}
use Rattle.cms_edf.proofs.Rounded.{four_to_a_pointer, rounded}
use Rattle.cms_edf.proofs.allotment.directory_places.Goals as goal

pub overflow_cast-before : goal.overflow_cast-before
overflow_cast-before c =
    let few = c.held.invariant.kept.directory_shape.few in
    let long = c.len-before.ensures ∙ c.held.inside.directory.ok.0 in
    omega (arith, few, long)

pub of_shared-requires-clause-some_before : goal.of_shared-requires-clause-some_before
of_shared-requires-clause-some_before c =
    let some = c.held.invariant.kept.directory_shape.some in
    let long = c.len-before.ensures ∙ c.held.inside.directory.ok.0 in
    subst (λ (n : ℕ). 1 ≤ n) (sym long) some

pub of_shared-requires-clause-some : goal.of_shared-requires-clause-some
of_shared-requires-clause-some c =
    let count = rounded c.div_ceil-count.result (64 * (c.args.exchange.now.files + 2)) c.bytes-bsize.result c.div_ceil-count.ensures c.bytes-bsize.ensures.least in
    let some = directory_some c.args.exchange.now.files c.bytes-bsize.result c.bytes-bsize.ensures.least in
    subst (λ (n : ℕ). 1 ≤ n) (sym count) some

pub of_shared-requires-clause-wide : goal.of_shared-requires-clause-wide
of_shared-requires-clause-wide c = four_to_a_pointer c.bytes-bsize.result c.bytes-bsize.ensures.least

pub of_shared-requires-clause-ascends : goal.of_shared-requires-clause-ascends
of_shared-requires-clause-ascends c =
    rw c.in_ok-written.ensures (blocks_ascend c.held.inside.bsize (directory_count c.held.inside.bsize c.args.exchange.now.files) (numbers_made c.args.exchange.now))

pub returns-clause-leaves : goal.returns-clause-leaves
returns-clause-leaves c =
    let x = c.args.exchange.now in
    let v = c.args.held.now.volume in
    let written = c.in_ok-written.ensures ∙ ap (λ (h : Held). blocks_made h.volume.disk.bsize x.files (numbers_made x)) c.held.view_is in
    IfOk-weaker c.of_shared.result _ (λ (p : TreePart). p.leaves ≡ blocks_made v.disk.bsize x.files (numbers_made x)) (λ p is. is ∙ written) c.of_shared.ensures.leaves

pub returns-clause-nodes : goal.returns-clause-nodes
returns-clause-nodes c =
    let x = c.args.exchange.now in
    let v = c.args.held.now.volume in
    let written = c.in_ok-written.ensures ∙ ap (λ (h : Held). blocks_made h.volume.disk.bsize x.files (numbers_made x)) c.held.view_is in
    let size = c.bytes-bsize.ensures.value ∙ ap (λ (h : Held). h.volume.disk.bsize) c.held.view_is in
    let long = c.len-before.ensures ∙ c.held.inside.directory.ok.0 in
    let before = long ∙ ap (λ (h : Held). length h.volume.directory.leaves) c.held.view_is in
    let count = rounded c.div_ceil-count.result (64 * (x.files + 2)) c.bytes-bsize.result c.div_ceil-count.ensures c.bytes-bsize.ensures.least in
    let count' = count ∙ ap (up (64 * (x.files + 2))) size in
    IfOk-weaker c.of_shared.result _
    (λ (p : TreePart). p.nodes ≡ fresh_places (v.disk.bsize / 4) (length v.directory.leaves) (directory_count v.disk.bsize x.files) (blocks_made v.disk.bsize x.files (numbers_made x)))
    (λ p is. is ∙ (λ i. fresh_places (size i / 4) (before i) (count' i) (written i))) c.of_shared.ensures.nodes

pub returns-in_err-written-clause-leaves : goal.returns-in_err-written-clause-leaves
returns-in_err-written-clause-leaves c = ok_at_err _ c.from_residual.result _ c.from_residual.ensures.1

pub returns-in_err-written-clause-nodes : goal.returns-in_err-written-clause-nodes
returns-in_err-written-clause-nodes c = ok_at_err _ c.from_residual.result _ c.from_residual.ensures.1
