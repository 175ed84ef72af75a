use Rattle.mini_work.proofs.Caused.{file_done, units_later, only_device}
use Rattle.std.proofs.Common.{◌∙◌, Err, ap, inl, rules}
use Rattle.cms_disk.specs.declared.fault.DiskFault.{DiskFault}
use Rattle.mini_work.proofs.host_records.put_text.Goals as goal

pub returns-in-Ok-clause-puts : goal.returns-in-Ok-clause-puts
returns-in-Ok-clause-puts g c = λ start d m change stamp done more goes. c.in-Ok.ensures.puts start d m change stamp done more goes

-- it is the record that is to come
pub returns-in-Err-Altered-clause-puts : goal.returns-in-Err-Altered-clause-puts
returns-in-Err-Altered-clause-puts g c = λ start d m change stamp done more goes.
    c.put_copy.ensures.altered (c.in-Err-Altered.is ∙ ap (λ (e : DiskFault). Err e) c.in-Err-Altered.field-0-is) goes.front done more goes.drafts

pub returns-in-Err-clause-puts : goal.returns-in-Err-clause-puts
returns-in-Err-clause-puts g c = λ start d m change stamp done more goes. c.in-Err.ensures.puts start d m change stamp done more goes

pub returns-in-Ok-clause-cause : goal.returns-in-Ok-clause-cause
returns-in-Ok-clause-cause g c = λ n. file_done _ _ _ (units_later _ _ _ _ n c.in-Ok.ensures.changes)

pub returns-in-Err-Altered-clause-cause : goal.returns-in-Err-Altered-clause-cause
returns-in-Err-Altered-clause-cause g c = λ n. record { later = units_later _ _ _ _ n c.in-Err-Altered.ensures.changes; failed = λ e. absurd (cc e) }

pub returns-in-Err-clause-cause : goal.returns-in-Err-clause-cause
returns-in-Err-clause-cause g c = λ n. record { later = units_later _ _ _ _ n c.in-Err.ensures.changes; failed = λ e. inl (c.in-Err.ensures.changes.cause (inl (only_device c.in-Err.why c.in-Err.ensures.fault (search rules)))) }
