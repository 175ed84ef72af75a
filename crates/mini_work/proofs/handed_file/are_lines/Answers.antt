use Rattle.mini_work.proofs.Caused.{cause_done, cause_fails, later_same, later_then, read_failed, reads_later}
use Rattle.mini_work.specs.Faults.{fault_of}
use Rattle.std.proofs.Common.{◌≡◌, ◌∙◌, true, false, rules, ap, refl, sym}
use Rattle.mini_forms.specs.Output.{is_line}
use Rattle.cms_disk.specs.Cursors.{text_of}
use Rattle.cms_search.proofs.HandedRecords.{same_then}
use Rattle.mini_work.proofs.ReadOn.{lines_all, lines_broken, lines_first, lines_next, reads_next, same_file, read_sound}
use Rattle.mini_work.proofs.handed_file.are_lines.Goals as goal

pub records-init : goal.records-init
records-init g c = record {
  to = lines_first (g.W.World.told c.args.world.now) c.args.cursor.now;
  file = same_file c.args.cursor.now;
  told = refl;
  later = λ n. later_same _;
}

pub records-preserved : goal.records-preserved
records-preserved g c =
    let told = g.W.World.told in
    let l = c.records in
    let n = c.in_ok-next.ensures in
    let first = c.args.cursor.now in
    let next = c.next.new.self in
    let yes : c.in_ok-next.field-0 ≡ true = search rules in
    let is : c.is_line.result ≡ true = search rules in
    let line : is_line (text_of next) ≡ true = sym (ap is_line c.text.ensures) ∙ sym c.is_line.ensures ∙ is in
    record {
      to = lines_next (told c.args.world.now) first l.cursor next l.invariant.to
          (reads_next (told l.world) (told c.args.world.now) first l.cursor next c.in_ok-next.field-0 true l.invariant.told l.invariant.file yes n.records) line;
      file = same_then first l.cursor next l.invariant.file n.file;
      told = n.reads.told ∙ l.invariant.told;
      later = λ n. later_then _ _ _ (l.invariant.later n) (reads_later _ _ _ _ n c.in_ok-next.ensures.reads);
    }

pub returns-then-not-is_line-clause-lines : goal.returns-then-not-is_line-clause-lines
returns-then-not-is_line-clause-lines g c = λ j records at has.
    let told = g.W.World.told in
    let l = c.records in
    let n = c.in_ok-next.ensures in
    let first = c.args.cursor.now in
    let next = c.next.new.self in
    let yes : c.in_ok-next.field-0 ≡ true = search rules in
    let is : c.is_line.result ≡ false = search rules in
    let line : is_line (text_of next) ≡ false = sym (ap is_line c.text.ensures) ∙ sym c.is_line.ensures ∙ is in
    lines_broken (told c.args.world.now) first l.cursor next l.invariant.to
    (reads_next (told l.world) (told c.args.world.now) first l.cursor next c.in_ok-next.field-0 true l.invariant.told l.invariant.file yes n.records) line j records at has

pub returns-clause-lines : goal.returns-clause-lines
returns-clause-lines g c = λ j records at has.
    let told = g.W.World.told in
    let l = c.records in
    let n = c.in_ok-next.ensures in
    let first = c.args.cursor.now in
    let next = c.next.new.self in
    let no : c.in_ok-next.field-0 ≡ false = search rules in
    lines_all (told c.args.world.now) first l.cursor next l.invariant.to
    (reads_next (told l.world) (told c.args.world.now) first l.cursor next c.in_ok-next.field-0 false l.invariant.told l.invariant.file no n.records) j records at has

pub returns-in_err-next-clause-cause : goal.returns-in_err-next-clause-cause
returns-in_err-next-clause-cause g c = λ j records at has n. let i = c.records.invariant.to j records at has in let e = c.in_err-next.ensures in cause_fails _ _ _ (fault_of c.in_err-next.field-0.0) c.from_residual.result (c.records.invariant.later n) c.from_residual.ensures.1 (reads_later _ _ _ _ n e.reads) (read_failed _ _ c.in_err-next.field-0.0 n e.reads e.fault (read_sound (g.W.World.told c.records.world) (g.W.World.told c.args.world.now) c.args.cursor.now c.records.cursor c.next.new.self c.in_err-next.field-0.0 c.records.invariant.told c.records.invariant.file e.records j i.1 at i.3))

pub returns-then-not-is_line-clause-cause : goal.returns-then-not-is_line-clause-cause
returns-then-not-is_line-clause-cause g c = λ j records at has n. cause_done _ _ _ (later_then _ _ _ (c.records.invariant.later n) (reads_later _ _ _ _ n c.in_ok-next.ensures.reads))

pub returns-clause-cause : goal.returns-clause-cause
returns-clause-cause g c = λ j records at has n. cause_done _ _ _ (later_then _ _ _ (c.records.invariant.later n) (reads_later _ _ _ _ n c.in_ok-next.ensures.reads))
