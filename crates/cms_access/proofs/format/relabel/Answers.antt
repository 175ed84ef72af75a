use Rattle.std.proofs.Common.{◌∙◌, sym}
use Rattle.cms_access.proofs.Formats.{relabel_goes, relabel_locked, relabel_missing, relabel_other, relabel_writes}
use Rattle.cms_access.proofs.format.relabel.Goals as goal

pub returns-in_default-clause-acts : goal.returns-in_default-clause-acts
returns-in_default-clause-acts g c =
    relabel_missing _ _ c.args.state.now c.args.line c.refuse_not_accessed.result (c.seat.ensures.none.0 c.in_default.is) c.refuse_not_accessed.ensures.does c.refuse_not_accessed.ensures.went

pub returns-then-seat-line-clause-acts : goal.returns-then-seat-line-clause-acts
returns-then-seat-line-clause-acts g c =
    relabel_other _ _ c.args.state.now c.args.line c.in-Some.seat _ (λ e. let none = sym c.in-Some.is ∙ c.seat.ensures.none.1 e in absurd (cc none)) c.in-Some.ensures.some c.if-seat-line.true
    c.refuse_not_accessed-then-seat-line.ensures.does c.refuse_not_accessed-then-seat-line.ensures.went

pub returns-then-seat-clause-acts : goal.returns-then-seat-clause-acts
returns-then-seat-clause-acts g c =
    relabel_locked _ _ c.args.state.now c.args.line c.in-Some.seat _ (λ e. let none = sym c.in-Some.is ∙ c.seat.ensures.none.1 e in absurd (cc none)) c.in-Some.ensures.some c.if-seat-line.false
    c.if-seat.true c.refuse_read_only.ensures.does c.refuse_read_only.ensures.went

pub relabel_disk-requires-clause-writing : goal.relabel_disk-requires-clause-writing
relabel_disk-requires-clause-writing g c =
    relabel_writes c.args.state.now c.args.line.letter c.in-Some.seat (λ e. let none = sym c.in-Some.is ∙ c.seat.ensures.none.1 e in absurd (cc none)) c.in-Some.ensures.some c.if-seat.false

pub returns-clause-acts : goal.returns-clause-acts
returns-clause-acts g c =
    relabel_goes _ _ c.args.line c.in-Some.seat c.relabel_disk.result _ (λ e. let none = sym c.in-Some.is ∙ c.seat.ensures.none.1 e in absurd (cc none)) c.in-Some.ensures.some
    c.if-seat-line.false c.if-seat.false c.relabel_disk.ensures.acts
