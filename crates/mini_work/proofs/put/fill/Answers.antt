use Rattle.mini_work.proofs.Caused.{cause_done, cause_memory, later_same}
use Rattle.mini_work.specs.Causes.{is_file_failure}
use Rattle.std.proofs.Common.{◌≡◌, ◌∙◌, Result, Ok, Err, ap, refl, subst, sym}
use Rattle.std.specs.Prelude.{⊤}
use Rattle.std.proofs.lemmas.Result.{err_from_is_err_and}
use Rattle.cms_journal.proofs.Pieces.{grown_same}
use Rattle.cms_disk.proofs.RecordsPut.{same_none}
use Rattle.mini_forms.specs.RecordReads.{Reader, read_from}
use Rattle.mini_work.specs.HostRecords.{PutsAll}
use Rattle.mini_work.specs.declared.host_records.FileFault.{FileFault}
use Rattle.mini_work.specs.declared.host_records.FileFault.TheVariants as fault
use Rattle.mini_work.proofs.PutOn.{fills_all, fills_none}
use Rattle.mini_work.proofs.put.fill.Goals as goal

pub returns-in_err-reader-clause-fills : goal.returns-in_err-reader-clause-fills
returns-in_err-reader-clause-fills g c = λ start d m change stamp records h bytes goes told left are.
    let p = err_from_is_err_and c.from_residual.result c.from_residual.ensures.1 in
    fills_none start (g.W.World.told c.args.world.now) d m c.args.draft.now c.args.draft.now change stamp records _ p.0 p.1 goes

pub returns-in_err-reader-clause-same : goal.returns-in_err-reader-clause-same
returns-in_err-reader-clause-same g c = same_none c.args.draft.now

pub returns-in_err-reader-clause-grown : goal.returns-in_err-reader-clause-grown
returns-in_err-reader-clause-grown g c = grown_same _ _ refl

pub returns-in-Ok-clause-fills : goal.returns-in-Ok-clause-fills
returns-in-Ok-clause-fills g c = λ start d m change stamp records h bytes goes told left are.
    fills_all start (g.W.World.told c.put_records.new.world) d m c.put_records.new.draft change stamp records c.is_full.result c.is_full.ensures.all
    (c.in-Ok.ensures.puts start d m change stamp records h bytes goes told left
    (subst (λ (s : Reader). read_from s bytes ≡ Ok records) (sym c.in_ok-reader.ensures) are))

pub returns-in-Err-Fault-clause-fills : goal.returns-in-Err-Fault-clause-fills
returns-in-Err-Fault-clause-fills g c = λ start d m change stamp records h bytes goes told left are.
    let r : c.put_records.result ≡ Err (fault.Fault c.in-Err-Fault.fault) = c.in-Err-Fault.is ∙ ap (λ (e : FileFault). Err e) c.in-Err-Fault.field-0-is in
    subst (λ (x : Result ⊤ FileFault). PutsAll start (g.W.World.told c.put_records.new.world) d m c.put_records.new.draft change stamp records x) r
    (c.put_records.ensures.puts start d m change stamp records h bytes goes told left
    (subst (λ (s : Reader). read_from s bytes ≡ Ok records) (sym c.in_ok-reader.ensures) are))

pub returns-clause-fills : goal.returns-clause-fills
returns-clause-fills g c = λ start d m change stamp records h bytes goes told left are.
    let r : c.put_records.result ≡ Err fault.Changed = c.in-Err-Changed.is ∙ ap (λ (e : FileFault). Err e) c.in-Err-Changed.field-0-is in
    subst (λ (x : Result ⊤ FileFault). PutsAll start (g.W.World.told c.put_records.new.world) d m c.put_records.new.draft change stamp records x) r
    (c.put_records.ensures.puts start d m change stamp records h bytes goes told left
    (subst (λ (s : Reader). read_from s bytes ≡ Ok records) (sym c.in_ok-reader.ensures) are))

pub returns-in-Err-Form-clause-fills : goal.returns-in-Err-Form-clause-fills
returns-in-Err-Form-clause-fills g c = λ start d m change stamp records h bytes goes told left are.
    let err : FileFault → Result ⊤ FileFault = λ e. Err e in
    let r = c.in-Err-Form.is ∙ ap err c.in-Err-Form.field-0-is in
    subst (λ (x : Result ⊤ FileFault). PutsAll start (g.W.World.told c.put_records.new.world) d m c.put_records.new.draft change stamp records x) r
    (c.put_records.ensures.puts start d m change stamp records h bytes goes told left
    (subst (λ (s : Reader). read_from s bytes ≡ Ok records) (sym c.in_ok-reader.ensures) are))

pub returns-in_err-reader-clause-cause : goal.returns-in_err-reader-clause-cause
returns-in_err-reader-clause-cause g c = cause_memory _ _ c.from_residual.result c.from_residual.ensures.1 (later_same _)

pub returns-in-Ok-clause-cause : goal.returns-in-Ok-clause-cause
returns-in-Ok-clause-cause g c = cause_done _ _ _ c.in-Ok.ensures.cause.later

pub returns-in-Err-Fault-clause-cause : goal.returns-in-Err-Fault-clause-cause
returns-in-Err-Fault-clause-cause g c = let x = c.in-Err-Fault.ensures.cause in record { later = x.later; failed = λ e. x.failed (ap is_file_failure c.in-Err-Fault.field-0-is ∙ e) }

pub returns-in-Err-Form-clause-cause : goal.returns-in-Err-Form-clause-cause
returns-in-Err-Form-clause-cause g c = cause_done _ _ _ c.in-Err-Form.ensures.cause.later

pub returns-clause-cause : goal.returns-clause-cause
returns-clause-cause g c = cause_done _ _ _ c.in-Err-Changed.ensures.cause.later
