use Rattle.std.proofs.Common.{refl, rules, inl, inr, sym, ◌∙◌, true, false}
use Rattle.std.proofs.lemmas.Bool.{true≢false}
use Rattle.std.proofs.lemmas.Result.{IfErr-weaker}
use Rattle.cms_disk.proofs.ChangeSteps.{is_missing, is_there}
use Rattle.cms_disk.proofs.ReadSteps.{other_fault, exists_read_only, not_found_read_only, read_only_not_found, read_only_exists, not_found_exists, exists_not_found}
use Rattle.cms_disk.specs.declared.fault.DiskFault.TheVariants.{Exists, NotFound, ReadOnly}
use Rattle.cms_world.specs.Seen.{seen}
use Rattle.cms_disk.proofs.Refused.{exists_none, none_named, not_found_none, not_there, nothing_changed, read_only_none, some_named}
use Rattle.cms_disk.proofs.minidisk.Minidisk.rename.Goals as goal
use Rattle.cms_disk.proofs.minidisk.Minidisk.rename.Goals.{else-ne-via-then-ne+else-has, else-ne-via-else-ne}

pub returns-then-not-has-clause-alters : goal.returns-then-not-has-clause-alters
returns-then-not-has-clause-alters g c = λ j m told is. (refl, is_missing j c.args.self.now m c.args.from.now c.has.result c.has.ensures c.if-not-has.true is)

pub returns-then-has-clause-alters : goal.returns-then-has-clause-alters
returns-then-has-clause-alters g c = λ j m told is. (refl, (search rules, is_there j c.args.self.now m c.args.to.now (c.has-then-ne.ensures.0 c.if-has.true) is))

pub change-requires-clause-stamp : goal.change-requires-clause-stamp
change-requires-clause-stamp g c = c.requires.stamp

pub change-requires-clause-blocks : goal.change-requires-clause-blocks
change-requires-clause-blocks g c = c.requires.blocks

pub change-requires-clause-writable : goal.change-requires-clause-writable
change-requires-clause-writable g c = c.requires.writable (sym c.is_writable.ensures ∙ c.if-not-is_writable.false)

pub returns-clause-alters : goal.returns-clause-alters
returns-clause-alters g c = c.change.ensures.alters

pub returns-clause-holds : goal.returns-clause-holds
returns-clause-holds g c = c.change.ensures.holds

pub returns-clause-changes : goal.returns-clause-changes
returns-clause-changes g c = c.change.ensures.changes

pub returns-clause-locked : goal.returns-clause-locked
returns-clause-locked g c = λ no. absurd (true≢false (sym (sym c.is_writable.ensures ∙ c.if-not-is_writable.false) ∙ no))

pub returns-clause-read_only : goal.returns-clause-read_only
returns-clause-read_only g c = other_fault _ c.args.self.now.volume _ c.change.result ReadOnly c.change.ensures.fault (λ h. h)

pub returns-clause-missing : goal.returns-clause-missing
returns-clause-missing g c = other_fault _ c.args.self.now.volume _ c.change.result NotFound c.change.ensures.fault (λ h. h)

pub returns-clause-exists : goal.returns-clause-exists
returns-clause-exists g c = other_fault _ c.args.self.now.volume _ c.change.result Exists c.change.ensures.fault (λ h. h)

pub returns-clause-fault : goal.returns-clause-fault
returns-clause-fault g c = IfErr-weaker c.change.result _ _ (λ e fault. inr (inr (inr fault))) c.change.ensures.fault

pub returns-then-not-is_writable-clause-read_only : goal.returns-then-not-is_writable-clause-read_only
returns-then-not-is_writable-clause-read_only g c = λ is. sym c.is_writable.ensures ∙ c.if-not-is_writable.true

pub returns-then-not-is_writable-clause-missing : goal.returns-then-not-is_writable-clause-missing
returns-then-not-is_writable-clause-missing g c = λ is. absurd (read_only_not_found is)

pub returns-then-not-is_writable-clause-exists : goal.returns-then-not-is_writable-clause-exists
returns-then-not-is_writable-clause-exists g c = λ is. absurd (read_only_exists is)

pub returns-then-not-is_writable-clause-locked : goal.returns-then-not-is_writable-clause-locked
returns-then-not-is_writable-clause-locked g c = λ no. inr (inr refl)

pub returns-then-not-is_writable-clause-fault : goal.returns-then-not-is_writable-clause-fault
returns-then-not-is_writable-clause-fault g c = inr (inr (inl refl))

pub returns-then-not-has-clause-read_only : goal.returns-then-not-has-clause-read_only
returns-then-not-has-clause-read_only g c = λ is. absurd (not_found_read_only is)

pub returns-then-not-has-clause-exists : goal.returns-then-not-has-clause-exists
returns-then-not-has-clause-exists g c = λ is. absurd (not_found_exists is)

pub returns-then-not-has-clause-locked : goal.returns-then-not-has-clause-locked
returns-then-not-has-clause-locked g c = λ no. inl refl

pub returns-then-not-has-clause-taken : goal.returns-then-not-has-clause-taken
returns-then-not-has-clause-taken g c = λ others. inl refl

pub returns-then-not-has-clause-fault : goal.returns-then-not-has-clause-fault
returns-then-not-has-clause-fault g c = inl refl

pub returns-then-not-has-clause-absent : goal.returns-then-not-has-clause-absent
returns-then-not-has-clause-absent g c = λ none. refl

pub returns-then-has-clause-read_only : goal.returns-then-has-clause-read_only
returns-then-has-clause-read_only g c = λ is. absurd (exists_read_only is)

pub returns-then-has-clause-missing : goal.returns-then-has-clause-missing
returns-then-has-clause-missing g c = λ is. absurd (exists_not_found is)

pub returns-then-has-clause-locked : goal.returns-then-has-clause-locked
returns-then-has-clause-locked g c = λ no. inr (inl refl)

pub returns-then-has-clause-taken : goal.returns-then-has-clause-taken
returns-then-has-clause-taken g c = λ others. inr refl

pub returns-then-has-clause-fault : goal.returns-then-has-clause-fault
returns-then-has-clause-fault g c = inr (inl refl)

pub returns-then-not-has-clause-holds : goal.returns-then-not-has-clause-holds
returns-then-not-has-clause-holds g c = tt

pub returns-then-has-clause-holds : goal.returns-then-has-clause-holds
returns-then-has-clause-holds g c = tt

pub returns-then-not-is_writable-clause-holds : goal.returns-then-not-is_writable-clause-holds
returns-then-not-is_writable-clause-holds g c = tt

pub returns-then-not-has-clause-missing : goal.returns-then-not-has-clause-missing
returns-then-not-has-clause-missing g c = λ is. none_named c.has.result _ c.has.ensures c.if-not-has.true

pub returns-then-not-has-clause-changes : goal.returns-then-not-has-clause-changes
returns-then-not-has-clause-changes g c = nothing_changed (seen g.W.World c.args.world.now) c.args.self.now NotFound not_found_none

pub returns-then-has-clause-absent : goal.returns-then-has-clause-absent
returns-then-has-clause-absent g c = λ none. absurd (some_named c.has.result _ c.has.ensures c.if-not-has.false none)

pub returns-then-has-clause-changes : goal.returns-then-has-clause-changes
returns-then-has-clause-changes g c = nothing_changed (seen g.W.World c.args.world.now) c.args.self.now Exists exists_none

pub returns-then-not-is_writable-clause-alters : goal.returns-then-not-is_writable-clause-alters
returns-then-not-is_writable-clause-alters g c = λ j m told is. (refl, sym c.is_writable.ensures ∙ c.if-not-is_writable.true)

pub returns-then-not-is_writable-clause-absent : goal.returns-then-not-is_writable-clause-absent
returns-then-not-is_writable-clause-absent g c = λ none. absurd (some_named c.has.result _ c.has.ensures c.if-not-has.false none)

pub returns-then-not-is_writable-clause-taken : goal.returns-then-not-is_writable-clause-taken
returns-then-not-is_writable-clause-taken g c = λ others. absurd (elim c.else-ne.branch [
  | else-ne-via-then-ne+else-has w ↦ not_there _ (none_named w.has-then-ne.result _ w.has-then-ne.ensures w.if-has.false) others.1
  | else-ne-via-else-ne w ↦ others.0 (search rules)
])

pub returns-clause-taken : goal.returns-clause-taken
returns-clause-taken g c = λ others. absurd (elim c.else-ne.branch [
  | else-ne-via-then-ne+else-has w ↦ not_there _ (none_named w.has-then-ne.result _ w.has-then-ne.ensures w.if-has.false) others.1
  | else-ne-via-else-ne w ↦ others.0 (search rules)
])

pub returns-then-not-is_writable-clause-changes : goal.returns-then-not-is_writable-clause-changes
returns-then-not-is_writable-clause-changes g c = nothing_changed (seen g.W.World c.args.world.now) c.args.self.now ReadOnly read_only_none

pub returns-clause-absent : goal.returns-clause-absent
returns-clause-absent g c = λ none. absurd (some_named c.has.result _ c.has.ensures c.if-not-has.false none)
