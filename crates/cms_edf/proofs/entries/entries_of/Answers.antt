use Rattle.std.proofs.Common.{ℕ, ◌≡◌, ◌++◌, ◌∷◌, ◌+◌, List, [], Result, take, sym, ◌∙◌, ap}
use Rattle.std.proofs.lemmas.List.{length_push}
use Rattle.std.proofs.lemmas.Result.{err_from_is_err_and}
use Rattle.cms_fields.specs.Entries.{entry_of}
use Rattle.cms_fields.specs.declared.entry.Entry.{Entry}
use Rattle.cms_model.specs.Volumes.{blamed}
use Rattle.cms_model.specs.declared.fault.OpenFault.{OpenFault}
use Rattle.cms_model.specs.declared.fault.OpenFault.TheVariants as failed
use Rattle.cms_edf.proofs.EntriesRead.{comes_next, comes_bad, comes_last}
use Rattle.cms_edf.proofs.Exits.{ok_at_err, memory_is_none, same_at_err}
use Rattle.cms_edf.proofs.Faults.{fault_memory}
use Rattle.cms_edf.proofs.entries.entries_of.Goals as goal

-- what the first bytes of some spell
abbrev spelled : ℕ → ℕ → List ℕ → Result Entry OpenFault
spelled bsize place bytes = blamed (failed.Entry (place + 2)) (entry_of bsize (take 64 bytes))

pub returns-in_err-entry-clause-fault : goal.returns-in_err-entry-clause-fault
returns-in_err-entry-clause-fault c =
    let l = c.loop-place in
    let p = err_from_is_err_and c.from_residual.result c.from_residual.ensures.1 in
    rw (p.1, p.2) (comes_bad c.args.bsize c.args.count c.args.bytes.now l.place l.entries.items c.in_err-entry.field-0.0 c.loop-place-test.true
    (sym (c.in_err-entry.ensures.is ∙ ap (spelled c.args.bsize l.place) c.after.ensures.bytes)) l.invariant.comes)

pub loop-place-preserved : goal.loop-place-preserved
loop-place-preserved c =
    let l = c.loop-place in
    let grown : c.push.new.into.items ≡ l.entries.items ++ (c.as_read.result ∷ []) = c.in_ok-push.ensures.ok in
    record {
      comes = rw (grown, c.as_read.ensures) (comes_next c.args.bsize c.args.count c.args.bytes.now l.place l.entries.items c.in_ok-entry.entry c.loop-place-test.true
          (sym (c.in_ok-entry.ensures.is ∙ ap (spelled c.args.bsize l.place) c.after.ensures.bytes)) l.invariant.comes);
      many =
          rw grown (length_push l.entries.items c.as_read.result ∙ ap (λ (n : ℕ). n + 1) l.invariant.many);
    }

pub returns-clause-entries : goal.returns-clause-entries
returns-clause-entries c = comes_last c.args.bsize c.args.count c.args.bytes.now c.loop-place.place c.loop-place.entries.items c.loop-place-test.false c.loop-place.invariant.comes

pub returns-in_err-entry-clause-count : goal.returns-in_err-entry-clause-count
returns-in_err-entry-clause-count c = ok_at_err _ c.from_residual.result _ c.from_residual.ensures.1

pub returns-in_err-entry-clause-entries : goal.returns-in_err-entry-clause-entries
returns-in_err-entry-clause-entries c = ok_at_err _ c.from_residual.result _ c.from_residual.ensures.1

pub returns-in_err-push-clause-count : goal.returns-in_err-push-clause-count
returns-in_err-push-clause-count c = ok_at_err _ c.from_residual-in_err-push.result _ c.from_residual-in_err-push.ensures.1

pub returns-in_err-push-clause-entries : goal.returns-in_err-push-clause-entries
returns-in_err-push-clause-entries c = ok_at_err _ c.from_residual-in_err-push.result _ c.from_residual-in_err-push.ensures.1

pub returns-in_err-entry-clause-device : goal.returns-in_err-entry-clause-device
returns-in_err-entry-clause-device c = same_at_err c.from_residual.result _ _ c.from_residual.ensures.1 c.in_err-entry.ensures.device

pub returns-in_err-push-clause-fault : goal.returns-in_err-push-clause-fault
returns-in_err-push-clause-fault c =
    same_at_err c.from_residual-in_err-push.result _ c.in_err-push.field-0.0 c.from_residual-in_err-push.ensures.1 (fault_memory _ _ c.in_err-push.ensures.fault)

pub returns-in_err-push-clause-device : goal.returns-in_err-push-clause-device
returns-in_err-push-clause-device c =
    same_at_err c.from_residual-in_err-push.result _ c.in_err-push.field-0.0 c.from_residual-in_err-push.ensures.1 (memory_is_none _ c.in_err-push.ensures.fault)

pub returns-clause-fault : goal.returns-clause-fault
returns-clause-fault c = tt

pub returns-clause-device : goal.returns-clause-device
returns-clause-device c = tt
