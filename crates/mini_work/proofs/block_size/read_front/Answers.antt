use Rattle.std.proofs.Common.{◌∙◌, ◌-◌, length, arith, sym}
use borrow.Rule.Slice.PartMut.{post_of, same_len_mid}
use Rattle.mini_work.specs.declared.fault.Fault.TheVariants as fault
use Rattle.mini_work.proofs.Caused.{cause_done, cause_then, host_failed, host_later}
use Rattle.mini_work.proofs.Front.{open_still, part_fits, read_end, read_more, same_read}
use Rattle.mini_work.proofs.block_size.read_front.Goals as goal

pub returns-in-Ok-eq0-clause-front : goal.returns-in-Ok-eq0-clause-front
returns-in-Ok-eq0-clause-front g c =
    let l = c.loop-count in
    read_end _ _ l.into _ l.count c.in-Ok-eq0.field-0 _ l.invariant.front l.invariant.within
    (sym (same_len_mid l.count (length l.into - l.count) l.into c.read.new.into c.read.auto.into)) c.in-Ok-eq0.field-0-test c.in-Ok-eq0.ensures.all

pub loop-count-preserved : goal.loop-count-preserved
loop-count-preserved g c =
    let l = c.loop-count in
    let into = c.read.new.into in
    let rest = length l.into - l.count in
    record {
      files = same_read _ _ _ c.in-Ok.more l.invariant.files c.in-Ok.ensures.told;
      within = part_fits l.count c.in-Ok.more l.into into l.invariant.within c.read.auto.into c.in-Ok.ensures.within;
      size = same_len_mid l.count rest l.into into c.read.auto.into ∙ l.invariant.size;
      later = omega (arith, l.invariant.later, c.in-Ok.ensures.cause.later);
      opened = open_still _ _ c.in-Ok.more l.invariant.opened c.in-Ok.ensures.told;
      front = read_more _ _ _ l.into into (post_of l.count rest l.into) l.count c.in-Ok.more l.invariant.front l.invariant.within
          (omega (arith, c.in-Ok.ensures.within, c.read.auto.into)) c.in-Ok.ensures.bytes c.in-Ok.ensures.all c.in-Ok.ensures.told;
    }

pub returns-in-Ok-eq0-clause-cause : goal.returns-in-Ok-eq0-clause-cause
returns-in-Ok-eq0-clause-cause g c =
    λ k. cause_done _ _ _ (host_later k _ _ (omega (arith, c.loop-count.invariant.later, c.in-Ok-eq0.ensures.cause.later)))

pub returns-in-Err-clause-cause : goal.returns-in-Err-clause-cause
returns-in-Err-clause-cause g c =
    λ k. cause_then _ _ _ _ (host_later k _ _ c.loop-count.invariant.later)
    (host_failed k _ _ fault.Host c.in-Err.ensures.cause.later c.in-Err.ensures.cause.failed)

pub returns-clause-cause : goal.returns-clause-cause
returns-clause-cause g c = λ k. cause_done _ _ _ (host_later k _ _ c.loop-count.invariant.later)
