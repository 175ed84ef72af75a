use Rattle.std.proofs.Common.{inl}
use Rattle.cms_host.proofs.Printed.{some_behind, may_behind}
use Rattle.cms_host.proofs.HeldBytes.{held_of_same}
use Rattle.cms_host.proofs.file_world.FileWorld.read_script.Goals as goal

pub returns-then-not-finish-clause-failed : goal.returns-then-not-finish-clause-failed
returns-then-not-finish-clause-failed g c = inl c.finish.ensures.prints

pub returns-then-is_none-clause-within : goal.returns-then-is_none-clause-within
returns-then-is_none-clause-within g c = c.read-count.ensures.within

pub returns-then-is_none-clause-done : goal.returns-then-is_none-clause-done
returns-then-is_none-clause-done g c = some_behind c.read-count.result _ _ _ _ _ _ c.finish.ensures.prints (c.finish.ensures.all.0 c.if-not-finish.false) c.read-count.ensures.done

pub returns-then-is_none-clause-failed : goal.returns-then-is_none-clause-failed
returns-then-is_none-clause-failed g c = may_behind _ _ _ _ _ _ c.finish.ensures.prints (c.finish.ensures.all.0 c.if-not-finish.false) c.read-count.ensures.failed

pub returns-else-is_none-clause-within : goal.returns-else-is_none-clause-within
returns-else-is_none-clause-within g c = c.read-count.ensures.within

pub returns-else-is_none-clause-done : goal.returns-else-is_none-clause-done
returns-else-is_none-clause-done g c = some_behind c.read-count.result _ _ _ _ _ _ c.finish.ensures.prints (c.finish.ensures.all.0 c.if-not-finish.false) c.read-count.ensures.done

pub returns-else-is_none-clause-failed : goal.returns-else-is_none-clause-failed
returns-else-is_none-clause-failed g c = may_behind _ _ _ _ _ _ c.finish.ensures.prints (c.finish.ensures.all.0 c.if-not-finish.false) c.read-count.ensures.failed

pub invariant_of-self : goal.invariant_of-self
invariant_of-self g c = record { held = held_of_same _ _ c.finish.new.self.ahead c.read-count.ensures.files c.finish.new.self.held }

pub invariant_of-self-else-is_none : goal.invariant_of-self-else-is_none
invariant_of-self-else-is_none g c = record { held = held_of_same _ _ c.finish.new.self.ahead c.read-count.ensures.files c.finish.new.self.held }

pub returns-then-not-finish-clause-within : goal.returns-then-not-finish-clause-within
returns-then-not-finish-clause-within g c = tt

pub returns-then-not-finish-clause-done : goal.returns-then-not-finish-clause-done
returns-then-not-finish-clause-done g c = tt

pub returns-then-not-finish-clause-units : goal.returns-then-not-finish-clause-units
returns-then-not-finish-clause-units g c = c.finish.ensures.units

pub returns-then-is_none-clause-units : goal.returns-then-is_none-clause-units
returns-then-is_none-clause-units g c = c.finish.ensures.units

pub returns-else-is_none-clause-units : goal.returns-else-is_none-clause-units
returns-else-is_none-clause-units g c = c.finish.ensures.units

pub returns-then-not-finish-clause-faults : goal.returns-then-not-finish-clause-faults
returns-then-not-finish-clause-faults g c = c.finish.ensures.faults

pub returns-then-is_none-clause-faults : goal.returns-then-is_none-clause-faults
returns-then-is_none-clause-faults g c = c.finish.ensures.faults

pub returns-else-is_none-clause-faults : goal.returns-else-is_none-clause-faults
returns-else-is_none-clause-faults g c = c.finish.ensures.faults

pub returns-then-not-finish-clause-edges : goal.returns-then-not-finish-clause-edges
returns-then-not-finish-clause-edges g c = c.finish.ensures.edges

pub returns-then-is_none-clause-edges : goal.returns-then-is_none-clause-edges
returns-then-is_none-clause-edges g c = c.finish.ensures.edges

pub returns-else-is_none-clause-edges : goal.returns-else-is_none-clause-edges
returns-else-is_none-clause-edges g c = c.finish.ensures.edges
