-- The data blocks in which a bit of these blocks stands, where there are some.
use Rattle.std.proofs.Common.{◌≡◌, ◌∙◌, ◌+◌, ◌≤◌, ℕ, List, ◌++◌, All, length, take, sym, ap, subst, arith}
use Rattle.std.proofs.lemmas.Grind.{common_steps}
use Rattle.cms_map.specs.Touched.{AreTouched}
use Rattle.cms_held.specs.Allotments.{on_map}
use Rattle.cms_held.specs.HeldVolumes.{Held}
use Rattle.cms_held.specs.MapShares.{turned}
use Rattle.cms_edf.proofs.BlocksMade.{all_on_map, turned_some}
use Rattle.cms_edf.proofs.Exits.{ok_at_err}
use Rattle.cms_edf.proofs.allotment.map_written.Goals as goal
use Rattle.cms_edf.proofs.allotment.map_written.Goals.{else-used-eq0-via-then-used-eq0+else-is_empty, else-used-eq0-via-else-used-eq0}

pub touched-requires-clause-blocks : goal.touched-requires-clause-blocks
touched-requires-clause-blocks c =
    let v = c.args.held.now.volume in
    let blocks = c.args.lowest.now ++ (c.args.released.now ++ (v.map.leaves ++ v.map.pointers)) in
    let is = c.deref.ensures.value ∙ c.in_ok-blocks.ensures in
    let total : v.label.blocks ≡ length c.held.inside.map = sym (ap (λ (h : Held). h.volume.label.blocks) c.held.view_is) ∙ sym c.held.invariant.kept.bits_are in
    subst (λ (l : List ℕ). All (λ (n : ℕ). (1 ≤ n) × (n ≤ length c.held.inside.map)) l) (sym is)
    (subst (λ (k : ℕ). All (λ (n : ℕ). (1 ≤ n) × (n ≤ k)) (on_map v.label.blocks blocks)) total (all_on_map v.label.blocks blocks))

pub returns : goal.returns
returns c =
    let v = c.args.held.now.volume in
    let lowest = c.args.lowest.now in
    let given = c.args.released.now in
    let t = c.touched.ensures.touched in
    let size = c.bytes-bsize.ensures.value ∙ ap (λ (h : Held). h.volume.disk.bsize) c.held.view_is in
    let listed = c.deref.ensures.value ∙ c.in_ok-blocks.ensures in
    let some : 1 ≤ c.args.used + length given =
    elim c.else-used-eq0.branch [
      | else-used-eq0-via-then-used-eq0+else-is_empty w ↦ first_of (omega arith, grind (arith, common_steps))
      | else-used-eq0-via-else-used-eq0 w ↦ first_of (omega arith, grind (arith, common_steps))
    ] in
    let all = turned_some v.label.blocks (length lowest) c.args.used v.bits lowest given v.map c.requires.used c.requires.lowest some in
    let none = c.in_ok-written.ensures.items in
    let written : c.touched.new.into.items ≡ t.touched = t.appended ∙ ap (λ (l : List ℕ). l ++ t.touched) none in
    let blocks = on_map v.label.blocks (turned (length lowest) v.bits (take c.args.used lowest) given v.map) in
    record {
      touched = subst (λ (l : List ℕ). AreTouched v.disk.bsize blocks l) (sym written)
          (subst (λ (n : ℕ). AreTouched n blocks t.touched) size (subst (λ (l : List ℕ). AreTouched c.bytes-bsize.result l t.touched) (listed ∙ sym all) t.are_touched));
    }

pub returns-in_err-blocks : goal.returns-in_err-blocks
returns-in_err-blocks c = record { touched = ok_at_err _ c.from_residual.result _ c.from_residual.ensures.1 }

pub returns-in_err-written : goal.returns-in_err-written
returns-in_err-written c = record { touched = ok_at_err _ c.from_residual-in_err-written.result _ c.from_residual-in_err-written.ensures.1 }
