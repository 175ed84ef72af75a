use Rattle.std.proofs.Common.{◌∙◌, sym}
use Rattle.cms_access.proofs.Centuries.{century_goes, century_locked, century_missing}
use Rattle.cms_access.proofs.Formats.{relabel_writes}
use Rattle.cms_access.proofs.century.century_disk.Goals as goal

pub returns-in_default-clause-acts : goal.returns-in_default-clause-acts
returns-in_default-clause-acts g c =
    century_missing _ _ c.args.state.now c.args.line c.refuse_not_accessed.result (c.seat.ensures.none.0 c.in_default.is) c.refuse_not_accessed.ensures.does c.refuse_not_accessed.ensures.went

pub returns-then-seat-clause-acts : goal.returns-then-seat-clause-acts
returns-then-seat-clause-acts g c =
    century_locked _ _ c.args.state.now c.args.line c.in-Some.seat _ (λ e. let none = sym c.in-Some.is ∙ c.seat.ensures.none.1 e in absurd (cc none)) c.in-Some.ensures.some
    c.if-seat.true c.refuse_read_only.ensures.does c.refuse_read_only.ensures.went

pub move_stamps-requires-clause-writing : goal.move_stamps-requires-clause-writing
move_stamps-requires-clause-writing g c =
    relabel_writes c.args.state.now c.args.line.letter c.in-Some.seat (λ e. let none = sym c.in-Some.is ∙ c.seat.ensures.none.1 e in absurd (cc none)) c.in-Some.ensures.some c.if-seat.false

pub returns-clause-acts : goal.returns-clause-acts
returns-clause-acts g c =
    century_goes _ _ c.args.line c.in-Some.seat c.move_stamps.result _ (λ e. let none = sym c.in-Some.is ∙ c.seat.ensures.none.1 e in absurd (cc none)) c.in-Some.ensures.some
    c.if-seat.false c.move_stamps.ensures.acts
