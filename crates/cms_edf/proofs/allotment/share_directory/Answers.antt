-- The tree takes the other one of blocks 4 and 5, and then these blocks.
use Rattle.std.proofs.Common.{◌≡◌, ◌∙◌, ◌+◌, ◌-◌, ◌*◌, ◌/◌, ◌<◌, ◌≤◌, ℕ, List, ◌∷◌, length, sym, ap, subst, arith}
use Rattle.cms_journal.proofs.Sizes.{block_bounds}
use Rattle.cms_fields.specs.Numbers.{up}
use Rattle.cms_model.specs.DirectoryParts.{directory_count}
use Rattle.cms_model.specs.SharedTrees.{MayBeWritten}
use Rattle.cms_held.specs.HeldVolumes.{Held, HeldTree}
use Rattle.cms_held.specs.Kept.{Keeps}
use Rattle.cms_held.specs.Allotments.{KeepsTree}
use Rattle.cms_held.specs.SharedBlocks.{fresh_of, released_of}
use Rattle.cms_held.specs.Systems.{TreePart}
use Rattle.cms_held.proofs.Allotted.{directory_some}
use Rattle.cms_edf.proofs.AllottedSteps.{directory_share, shares_so}
use Rattle.cms_edf.proofs.Exits.{ok_at_err}
use Rattle.cms_edf.proofs.Rounded.{rounded}
use Rattle.cms_edf.proofs.allotment.share_directory.Goals as goal

above : (n : ℕ) → 1 ≤ n → 0 < n
above n some = omega arith

wide : (bsize : ℕ) → 512 ≤ bsize → 4 ≤ bsize
wide bsize low = omega arith

longer : (first n : ℕ) (more given : List ℕ) → given ≡ first ∷ more → n ≤ length more + 1 → n ≤ length given
longer first n more given is within = subst (λ (l : List ℕ). n ≤ length l) (sym is) (omega (arith, within))

pub of_shared-requires : goal.of_shared-requires
of_shared-requires c =
    let v = c.args.held.now.volume in
    let kept : Keeps v = subst (λ (h : Held). Keeps h.volume) c.held.view_is c.held.invariant.kept in
    let bytes = c.bytes-bsize.result in
    let size = c.bytes-bsize.ensures.value ∙ ap (λ (h : Held). h.volume.disk.bsize) c.held.view_is in
    let count = rounded c.div_ceil-count.result (64 * (c.args.files + 2)) bytes c.div_ceil-count.ensures c.bytes-bsize.ensures.least in
    let old : HeldTree = record { leaves = c.held.inside.directory.items; pointers = c.held.inside.directory_nodes.items } in
    let s = directory_share v c.args.files (bytes / 4) c.div_ceil-count.result old c.args.places kept (ap (λ (n : ℕ). n / 4) size)
    (count ∙ ap (up (64 * (c.args.files + 2))) size) (ap (λ (h : Held). h.volume.directory) c.held.view_is) c.requires.may c.requires.nodes in
    record {
      some_before = s.some_before;
      few = s.few;
      some = s.some;
      wide = s.wide;
      olds = ap (λ (l : List ℕ). length l) c.deref-4.ensures.value ∙ s.olds;
      may = s.may;
      nodes = s.nodes;
      enough = longer (9 - c.held.inside.label.origin) (length c.args.places.leaves + length c.args.places.nodes) c.args.blocks.now c.in_ok-numbers.numbers.items c.in_ok-numbers.ensures c.requires.enough;
    }

pub blocks_left-requires : goal.blocks_left-requires
blocks_left-requires c =
    let v = c.args.held.now.volume in
    let kept : Keeps v = subst (λ (h : Held). Keeps h.volume) c.held.view_is c.held.invariant.kept in
    let bytes = c.bytes-bsize.result in
    let size = c.bytes-bsize.ensures.value ∙ ap (λ (h : Held). h.volume.disk.bsize) c.held.view_is in
    let count = rounded c.div_ceil-count.result (64 * (c.args.files + 2)) bytes c.div_ceil-count.ensures c.bytes-bsize.ensures.least in
    let old : HeldTree = record { leaves = c.deref.result.now; pointers = c.deref-2.result.now } in
    let same : old ≡ v.directory = (λ k. record { leaves = c.deref.ensures.value k; pointers = c.deref-2.ensures.value k }) ∙ ap (λ (h : Held). h.volume.directory) c.held.view_is in
    let s = directory_share v c.args.files (bytes / 4) c.div_ceil-count.result old c.args.places kept (ap (λ (n : ℕ). n / 4) size)
    (count ∙ ap (up (64 * (c.args.files + 2))) size) same c.requires.may c.requires.nodes in
    let written = c.deref-3.ensures.value ∙ ap (λ (p : TreePart). p.leaves) c.places.view_is in
    record {
      some_before = s.some_before;
      few = s.few;
      some = s.some;
      wide = s.wide;
      olds = s.olds;
      may = subst (MayBeWritten (length c.deref.result.now) c.div_ceil-count.result) (sym written) s.may;
    }

pub returns : goal.returns
returns c =
    let v = c.args.held.now.volume in
    let kept : Keeps v = subst (λ (h : Held). Keeps h.volume) c.held.view_is c.held.invariant.kept in
    let low = (block_bounds v.disk.bsize kept.sized).0 in
    let bytes = c.bytes-bsize.result in
    let fan = bytes / 4 in
    let size = c.bytes-bsize.ensures.value ∙ ap (λ (h : Held). h.volume.disk.bsize) c.held.view_is in
    let count = rounded c.div_ceil-count.result (64 * (c.args.files + 2)) bytes c.div_ceil-count.ensures c.bytes-bsize.ensures.least in
    let some : 0 < directory_count v.disk.bsize c.args.files = above _ (directory_some c.args.files v.disk.bsize low) in
    let leaves = c.held.inside.directory.items in
    let old : HeldTree = record { leaves = leaves; pointers = c.held.inside.directory_nodes.items } in
    let d = c.in_ok-directory.directory in
    let asked = c.args.places in
    let numbers = c.in_ok-numbers.ensures ∙ ap (λ (h : Held). (9 - h.volume.label.origin) ∷ c.args.blocks.now) c.held.view_is in
    let written = c.deref-3.ensures.value ∙ ap (λ (p : TreePart). p.leaves) c.places.view_is in
    let nodes = c.deref-4.ensures.value in
    let nodes' = sym nodes in
    shares_so v c.args.files fan c.div_ceil-count.result old c.args.blocks.now c.in_ok-numbers.numbers.items asked d c.in_ok-left.left.items (wide v.disk.bsize low) some c.requires.first
    (ap (λ (n : ℕ). n / 4) size) (count ∙ ap (up (64 * (c.args.files + 2))) size) (ap (λ (h : Held). h.volume.directory) c.held.view_is) numbers c.in_ok-directory.ensures.part
    (record {
      keeps = subst (λ (l : List ℕ). KeepsTree fan asked.leaves (record { leaves = leaves; pointers = l }) d.tree) nodes c.in_ok-directory.ensures.keeps;
      long = c.in_ok-directory.ensures.count;
      fresh = (λ k. fresh_of fan asked.leaves (record { leaves = leaves; pointers = nodes' k }) d.tree) ∙ c.in_ok-directory.ensures.fresh;
      left_is = λ new long many. c.in_ok-left.ensures new long many ∙ (λ k. released_of fan (written k) (record { leaves = c.deref.ensures.value k; pointers = c.deref-2.ensures.value k }) new);
    })

pub returns-in_err-numbers : goal.returns-in_err-numbers
returns-in_err-numbers c = ok_at_err _ c.from_residual.result _ c.from_residual.ensures.1

pub returns-in_err-directory : goal.returns-in_err-directory
returns-in_err-directory c = ok_at_err _ c.from_residual-in_err-directory.result _ c.from_residual-in_err-directory.ensures.1

pub returns-in_err-left : goal.returns-in_err-left
returns-in_err-left c = ok_at_err _ c.from_residual-in_err-left.result _ c.from_residual-in_err-left.ensures.1
