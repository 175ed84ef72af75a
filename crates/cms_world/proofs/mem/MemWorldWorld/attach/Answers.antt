use Rattle.std.proofs.Common.{refl}
use Rattle.cms_world.proofs.Calls.{cause_none, for_some, none_some}
use Rattle.cms_world.proofs.mem.MemWorldWorld.attach.Goals as goal

pub attach_image-requires-clause-room : goal.attach_image-requires-clause-room
attach_image-requires-clause-room c = c.requires.room c.args.self.now.recorder refl

pub attach_image-requires-clause-fresh : goal.attach_image-requires-clause-fresh
attach_image-requires-clause-fresh c = c.in-Ok.ensures.absent

pub returns-clause-attached : goal.returns-clause-attached
returns-clause-attached c = for_some c.args.self.now.recorder _ (rw c.in-Ok-Some.field-0-is at c.in-Ok-Some.ensures.attached)

pub returns-clause-held : goal.returns-clause-held
returns-clause-held c = for_some c.attach_image.new.recorder _ (rw c.in-Ok-Some.field-0-is at c.in-Ok-Some.ensures.held)

pub returns-clause-writable : goal.returns-clause-writable
returns-clause-writable c = λ may. for_some c.attach_image.new.recorder _ ((rw c.in-Ok-Some.field-0-is at c.in-Ok-Some.ensures.writable) may)

pub returns-clause-silent : goal.returns-clause-silent
returns-clause-silent c = λ none. absurd (none_some none)

pub returns-clause-cause : goal.returns-clause-cause
returns-clause-cause c = cause_none _

pub returns-clause-faults : goal.returns-clause-faults
returns-clause-faults c = refl

pub returns-clause-rest : goal.returns-clause-rest
returns-clause-rest c = rw c.in-Goes.ensures.failing refl

pub returns-clause-called : goal.returns-clause-called
returns-clause-called c = record { ok = c.in-Goes.ensures.next.called; unplanned = c.in-Goes.ensures.next.planned; err = tt }
