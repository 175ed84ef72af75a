use Rattle.std.proofs.Common.{refl, inl, inr, sym, ◌∙◌}
use Rattle.std.proofs.lemmas.Bool.{true≢false}
use Rattle.std.proofs.lemmas.Result.{IfErr-weaker}
use Rattle.cms_disk.proofs.ChangeSteps.{is_missing}
use Rattle.cms_disk.proofs.ReadSteps.{other_fault, not_found_read_only, read_only_not_found}
use Rattle.cms_disk.specs.declared.fault.DiskFault.TheVariants.{NotFound, ReadOnly}
use Rattle.cms_world.specs.Seen.{seen}
use Rattle.cms_disk.proofs.Refused.{none_named, some_named, not_found_none, nothing_changed, read_only_none}
use Rattle.cms_disk.proofs.minidisk.Minidisk.erase.Goals as goal

pub returns-then-not-has-clause-alters : goal.returns-then-not-has-clause-alters
returns-then-not-has-clause-alters g c = λ j m told is. (refl, is_missing j c.args.self.now m c.args.name.now c.has.result c.has.ensures c.if-not-has.true is)

pub change-requires-clause-stamp : goal.change-requires-clause-stamp
change-requires-clause-stamp g c = c.requires.stamp

pub change-requires-clause-blocks : goal.change-requires-clause-blocks
change-requires-clause-blocks g c = c.requires.blocks

pub change-requires-clause-writable : goal.change-requires-clause-writable
change-requires-clause-writable g c = c.requires.writable (sym c.is_writable.ensures ∙ c.if-not-is_writable.false)

pub returns-clause-alters : goal.returns-clause-alters
returns-clause-alters g c = c.change.ensures.alters

pub returns-clause-holds : goal.returns-clause-holds
returns-clause-holds g c = c.change.ensures.holds

pub returns-clause-changes : goal.returns-clause-changes
returns-clause-changes g c = c.change.ensures.changes

pub returns-clause-locked : goal.returns-clause-locked
returns-clause-locked g c = λ no. absurd (true≢false (sym (sym c.is_writable.ensures ∙ c.if-not-is_writable.false) ∙ no))

pub returns-clause-read_only : goal.returns-clause-read_only
returns-clause-read_only g c = other_fault _ c.args.self.now.volume _ c.change.result ReadOnly c.change.ensures.fault (λ h. h)

pub returns-clause-missing : goal.returns-clause-missing
returns-clause-missing g c = other_fault _ c.args.self.now.volume _ c.change.result NotFound c.change.ensures.fault (λ h. h)

pub returns-clause-fault : goal.returns-clause-fault
returns-clause-fault g c = IfErr-weaker c.change.result _ _ (λ e fault. inr (inr fault)) c.change.ensures.fault

pub returns-then-not-is_writable-clause-read_only : goal.returns-then-not-is_writable-clause-read_only
returns-then-not-is_writable-clause-read_only g c = λ is. sym c.is_writable.ensures ∙ c.if-not-is_writable.true

pub returns-then-not-is_writable-clause-missing : goal.returns-then-not-is_writable-clause-missing
returns-then-not-is_writable-clause-missing g c = λ is. absurd (read_only_not_found is)

pub returns-then-not-is_writable-clause-locked : goal.returns-then-not-is_writable-clause-locked
returns-then-not-is_writable-clause-locked g c = λ no. inr refl

pub returns-then-not-is_writable-clause-fault : goal.returns-then-not-is_writable-clause-fault
returns-then-not-is_writable-clause-fault g c = inr (inl refl)

pub returns-then-not-has-clause-read_only : goal.returns-then-not-has-clause-read_only
returns-then-not-has-clause-read_only g c = λ is. absurd (not_found_read_only is)

pub returns-then-not-has-clause-locked : goal.returns-then-not-has-clause-locked
returns-then-not-has-clause-locked g c = λ no. inl refl

pub returns-then-not-has-clause-fault : goal.returns-then-not-has-clause-fault
returns-then-not-has-clause-fault g c = inl refl

pub returns-then-not-has-clause-absent : goal.returns-then-not-has-clause-absent
returns-then-not-has-clause-absent g c = λ none. refl

pub returns-then-not-has-clause-holds : goal.returns-then-not-has-clause-holds
returns-then-not-has-clause-holds g c = tt

pub returns-then-not-is_writable-clause-holds : goal.returns-then-not-is_writable-clause-holds
returns-then-not-is_writable-clause-holds g c = tt

pub returns-then-not-has-clause-changes : goal.returns-then-not-has-clause-changes
returns-then-not-has-clause-changes g c = nothing_changed (seen g.W.World c.args.world.now) c.args.self.now NotFound not_found_none

pub returns-then-not-is_writable-clause-changes : goal.returns-then-not-is_writable-clause-changes
returns-then-not-is_writable-clause-changes g c = nothing_changed (seen g.W.World c.args.world.now) c.args.self.now ReadOnly read_only_none

pub returns-then-not-has-clause-missing : goal.returns-then-not-has-clause-missing
returns-then-not-has-clause-missing g c = λ is. none_named c.has.result _ c.has.ensures c.if-not-has.true

pub returns-then-not-is_writable-clause-absent : goal.returns-then-not-is_writable-clause-absent
returns-then-not-is_writable-clause-absent g c = λ none. absurd (some_named c.has.result _ c.has.ensures c.if-not-has.false none)

pub returns-clause-absent : goal.returns-clause-absent
returns-clause-absent g c = λ none. absurd (some_named c.has.result _ c.has.ensures c.if-not-has.false none)

pub returns-then-not-is_writable-clause-alters : goal.returns-then-not-is_writable-clause-alters
returns-then-not-is_writable-clause-alters g c = λ j m told is. (refl, sym c.is_writable.ensures ∙ c.if-not-is_writable.true)

pub change-requires-clause-change : goal.change-requires-clause-change
change-requires-clause-change g c = c.has.ensures.0 c.if-not-has.false
