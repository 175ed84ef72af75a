use Rattle.std.proofs.Common.{inl, inr, refl, sym, ◌∙◌}
use Rattle.std.proofs.lemmas.Bool.{true≢false}
use Rattle.std.proofs.lemmas.Result.{IfErr-weaker}
use Rattle.cms_disk.proofs.ReadSteps.{other_fault}
use Rattle.cms_disk.specs.declared.fault.DiskFault.TheVariants.{ReadOnly}
use Rattle.cms_world.specs.Seen.{seen}
use Rattle.cms_disk.proofs.Refused.{nothing_changed, read_only_none}
use Rattle.cms_disk.proofs.minidisk.Minidisk.century.Goals as goal

pub change-requires-clause-stamp : goal.change-requires-clause-stamp
change-requires-clause-stamp g c = c.requires.stamp

pub change-requires-clause-blocks : goal.change-requires-clause-blocks
change-requires-clause-blocks g c = c.requires.blocks

pub change-requires-clause-writable : goal.change-requires-clause-writable
change-requires-clause-writable g c = c.requires.writable (sym c.is_writable.ensures ∙ c.if-not-is_writable.false)

pub returns-clause-alters : goal.returns-clause-alters
returns-clause-alters g c = c.change.ensures.alters

pub returns-clause-holds : goal.returns-clause-holds
returns-clause-holds g c = c.change.ensures.holds

pub returns-clause-changes : goal.returns-clause-changes
returns-clause-changes g c = c.change.ensures.changes

pub returns-clause-locked : goal.returns-clause-locked
returns-clause-locked g c = λ no. absurd (true≢false (sym (sym c.is_writable.ensures ∙ c.if-not-is_writable.false) ∙ no))

pub returns-clause-read_only : goal.returns-clause-read_only
returns-clause-read_only g c = other_fault _ c.args.self.now.volume _ c.change.result ReadOnly c.change.ensures.fault (λ h. h)

pub returns-clause-fault : goal.returns-clause-fault
returns-clause-fault g c = IfErr-weaker c.change.result _ _ (λ e fault. inr fault) c.change.ensures.fault

pub returns-then-not-is_writable-clause-read_only : goal.returns-then-not-is_writable-clause-read_only
returns-then-not-is_writable-clause-read_only g c = λ is. sym c.is_writable.ensures ∙ c.if-not-is_writable.true

pub returns-then-not-is_writable-clause-locked : goal.returns-then-not-is_writable-clause-locked
returns-then-not-is_writable-clause-locked g c = λ no. refl

pub returns-then-not-is_writable-clause-fault : goal.returns-then-not-is_writable-clause-fault
returns-then-not-is_writable-clause-fault g c = inl refl

pub returns-then-not-is_writable-clause-holds : goal.returns-then-not-is_writable-clause-holds
returns-then-not-is_writable-clause-holds g c = tt

pub returns-then-not-is_writable-clause-changes : goal.returns-then-not-is_writable-clause-changes
returns-then-not-is_writable-clause-changes g c = nothing_changed (seen g.W.World c.args.world.now) c.args.self.now ReadOnly read_only_none
