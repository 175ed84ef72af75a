use Rattle.mini_work.proofs.Caused.{cause_done, host_failed, host_later}
use Rattle.mini_work.proofs.Hosted.{open_same, open_still, read_so, same_read, same_told}
use Rattle.mini_work.specs.declared.fault.Fault.TheVariants as fault
use Rattle.mini_work.proofs.host_records.read_more.Goals as goal

pub returns-in-Ok-clause-reads : goal.returns-in-Ok-clause-reads
returns-in-Ok-clause-reads g c = λ h left at is.
    read_so c.in-Ok.count c.read.new.into left h (g.H.Host.told c.args.host.now) (g.H.Host.told c.read.new.self) c.in-Ok.ensures.bytes c.in-Ok.ensures.all
    c.in-Ok.ensures.told at is

pub returns-in-Ok-clause-opened : goal.returns-in-Ok-clause-opened
returns-in-Ok-clause-opened g c =
    open_still c.in-Ok.count (g.H.Host.told c.args.host.now) (g.H.Host.told c.read.new.self) c.requires.opened c.in-Ok.ensures.told

pub returns-in-Ok-clause-files : goal.returns-in-Ok-clause-files
returns-in-Ok-clause-files g c = same_read (g.H.Host.told c.args.host.now) (g.H.Host.told c.read.new.self) c.in-Ok.count c.in-Ok.ensures.told

pub returns-in-Err-clause-opened : goal.returns-in-Err-clause-opened
returns-in-Err-clause-opened g c = open_same (g.H.Host.told c.args.host.now) (g.H.Host.told c.read.new.self) c.requires.opened c.in-Err.ensures.failed

pub returns-in-Err-clause-files : goal.returns-in-Err-clause-files
returns-in-Err-clause-files g c = same_told (g.H.Host.told c.args.host.now) (g.H.Host.told c.read.new.self) c.in-Err.ensures.failed

pub returns-in-Ok-clause-cause : goal.returns-in-Ok-clause-cause
returns-in-Ok-clause-cause g c = λ k. cause_done _ _ _ (host_later k _ _ c.in-Ok.ensures.cause.later)

pub returns-in-Err-clause-cause : goal.returns-in-Err-clause-cause
returns-in-Err-clause-cause g c = λ k. host_failed k _ _ fault.Host c.in-Err.ensures.cause.later c.in-Err.ensures.cause.failed
