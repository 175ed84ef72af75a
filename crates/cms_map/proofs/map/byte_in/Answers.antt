use Rattle.std.proofs.Common.{◌≡◌, ◌*◌, ◌/◌, ◌%◌, ◌^◌, ◌<◌, get_or, sym, ◌∙◌, arith}
use Rattle.std.proofs.lemmas.Nat.{or_shifted, shr_split}
use Rattle.cms_map.proofs.Held.{with_fixed, with_fixed_first, with_fixed_later, byte_is}
use Rattle.cms_map.proofs.map.byte_in.Goals as goal
use Rattle.cms_map.proofs.map.byte_in.Goals.{then-at-eq0, else-at-eq0}

pub returns : goal.returns
returns c =
    let byte = c.if-at-eq0.byte in
    let past = c.saturating_sub-past.result in
    let at = c.args.at in
    let read = get_or c.args.bytes.now at 0 in
    let fits = c.type_inv.bytes at in
    let is : byte ≡ with_fixed at read = elim c.if-at-eq0.branch [
      | then-at-eq0 w ↦ w.byte-is ∙ or_shifted 31 3 (read % 8) (omega arith) ∙ sym (with_fixed_first at read w.if-at-eq0.true)
      | else-at-eq0 w ↦ w.byte-is ∙ sym (with_fixed_later at read w.if-at-eq0.false)
    ] in
    let small : byte < 256 = elim c.if-at-eq0.branch [
      | then-at-eq0 w ↦ omega (arith, w.byte-is, or_shifted 31 3 (read % 8) (omega arith))
      | else-at-eq0 w ↦ omega (arith, w.byte-is)
    ] in
    let low : byte / 2 ^ past * 2 ^ past < 256 = omega (arith, shr_split byte past) in
    let kept : byte / 2 ^ past * 2 ^ past % 256 ≡ byte / 2 ^ past * 2 ^ past = omega arith in
    kept ∙ byte_is c.args.bytes.now c.args.n at byte past is small c.saturating_sub-past.ensures
