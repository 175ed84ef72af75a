use Rattle.std.proofs.Common.{◌≡◌, ◌+◌, ◌-◌, ◌≤◌, length, sym, ◌∙◌, ap, arith}
use Rattle.std.specs.Prelude.{◌==◌, ◌%◌, if◌then◌else◌}
use Rattle.cms_map.proofs.Free.{passes, finds, some_free}
use Rattle.cms_map.proofs.Held.{bits_count}
use Rattle.cms_map.proofs.map.Map.next_free.Goals as goal
use Rattle.cms_map.proofs.map.Map.next_free.Goals.{then-fills_byte, else-fills_byte}

pub prove-unreachable-requires : goal.prove-unreachable-requires
prove-unreachable-requires c =
    let m = c.self.inside in
    omega (arith, some_free (c.args.block + 1) c.args.block c.args.self.now c.requires.some, ap length c.self.view_is, bits_count m.blocks m.bytes.items)

pub is_used-requires-clause-last : goal.is_used-requires-clause-last
is_used-requires-clause-last c =
    let l = c.loop-next in
    omega (arith, some_free l.next (l.next - 1) c.args.self.now (rw l.invariant.same at c.requires.some))

pub overflow_add-next-in-loop-next : goal.overflow_add-next-in-loop-next
overflow_add-next-in-loop-next c =
    let m = c.self.inside in
    let l = c.loop-next in
    let bits = c.args.self.now in
    let step = c.if-fills_byte.next in
    let last : l.next ≤ length bits = omega (arith, some_free l.next (l.next - 1) bits (rw l.invariant.same at c.requires.some)) in
    let by : step ≡ (if c.fills_byte.result then 8 else 1) = elim c.if-fills_byte.branch [
      | then-fills_byte w ↦ rw w.if-fills_byte.true w.next-is
      | else-fills_byte w ↦ rw w.if-fills_byte.false w.next-is
    ] in
    let same = l.invariant.same ∙ passes bits l.next step (l.next % 8 == 1) c.fills_byte.result (omega arith) last (sym c.is_used.ensures ∙ c.loop-next-test.true) c.fills_byte.ensures by in
    omega (arith, some_free (l.next + step) (l.next + step - 1) bits (rw same at c.requires.some), ap length c.self.view_is, bits_count m.blocks m.bytes.items)

pub loop-next-preserved : goal.loop-next-preserved
loop-next-preserved c =
    let l = c.loop-next in
    let bits = c.args.self.now in
    let step = c.if-fills_byte.next in
    let last : l.next ≤ length bits = omega (arith, some_free l.next (l.next - 1) bits (rw l.invariant.same at c.requires.some)) in
    let by : step ≡ (if c.fills_byte.result then 8 else 1) = elim c.if-fills_byte.branch [
      | then-fills_byte w ↦ rw w.if-fills_byte.true w.next-is
      | else-fills_byte w ↦ rw w.if-fills_byte.false w.next-is
    ] in
    record {
      later = omega arith;
      same = l.invariant.same ∙ passes bits l.next step (l.next % 8 == 1) c.fills_byte.result (omega arith) last (sym c.is_used.ensures ∙ c.loop-next-test.true) c.fills_byte.ensures by;
    }

pub returns-clause-next : goal.returns-clause-next
returns-clause-next c =
    let l = c.loop-next in
    let bits = c.args.self.now in
    let last : l.next ≤ length bits = omega (arith, some_free l.next (l.next - 1) bits (rw l.invariant.same at c.requires.some)) in
    l.invariant.same ∙ (finds bits l.next (omega arith) last (sym c.is_used.ensures ∙ c.loop-next-test.false)).next_is

pub returns-clause-last : goal.returns-clause-last
returns-clause-last c =
    let l = c.loop-next in
    omega (arith, some_free l.next (l.next - 1) c.args.self.now (rw l.invariant.same at c.requires.some))

pub returns-clause-free : goal.returns-clause-free
returns-clause-free c =
    let l = c.loop-next in
    let bits = c.args.self.now in
    let last : l.next ≤ length bits = omega (arith, some_free l.next (l.next - 1) bits (rw l.invariant.same at c.requires.some)) in
    (finds bits l.next (omega arith) last (sym c.is_used.ensures ∙ c.loop-next-test.false)).free
