use Rattle.std.proofs.Common.{◌∙◌, ◌<◌, ◌≤◌, ℕ, subst, sym}
use Rattle.cms_records.specs.Stored.{records_in}
use Rattle.exec2_parse.proofs.Procedures.{all_lines, length-records_in, long_line, many_lines, no_trace}
use Rattle.exec2_parse.proofs.procedure.fault_of.Goals as goal

pub returns-then-not-begins_with_trace : goal.returns-then-not-begins_with_trace
returns-then-not-begins_with_trace c = no_trace (records_in c.args.file.now) (sym c.begins_with_trace.ensures ∙ c.if-not-begins_with_trace.true)

pub returns-in-Some : goal.returns-in-Some
returns-in-Some c = long_line (records_in c.args.file.now) c.in-Some.number (sym c.begins_with_trace.ensures ∙ c.if-not-begins_with_trace.false) (sym c.in-Some.ensures)

pub returns-then-file-gt-MOST_LINES : goal.returns-then-file-gt-MOST_LINES
returns-then-file-gt-MOST_LINES c =
    let f = c.args.file.now in
    many_lines (records_in f) (sym c.begins_with_trace.ensures ∙ c.if-not-begins_with_trace.false) (sym c.in_default.ensures)
    (subst (λ (n : ℕ). 4096 < n) (sym (length-records_in f)) c.if-file-gt-MOST_LINES.true)

pub returns : goal.returns
returns c =
    let f = c.args.file.now in
    all_lines (records_in f) (sym c.begins_with_trace.ensures ∙ c.if-not-begins_with_trace.false) (sym c.in_default.ensures)
    (subst (λ (n : ℕ). n ≤ 4096) (sym (length-records_in f)) c.if-file-gt-MOST_LINES.false)
