use Rattle.mini_work.proofs.Caused.{file_done, file_stops, later_same}
use Rattle.std.proofs.Common.{◌≡◌, ◌∙◌, rules, sym, true, false, refl}
use Rattle.std.proofs.lemmas.Result.{err_from_is_err_and}
use Rattle.cms_journal.proofs.Pieces.{grown_same}
use Rattle.cms_disk.proofs.RecordsPut.{same_none}
use Rattle.mini_work.proofs.PutAll.{puts_never, puts_one, puts_still}
use Rattle.mini_work.specs.declared.host_records.FileFault.TheVariants as file
use Rattle.mini_work.proofs.host_records.put_next.Goals as goal

pub record-requires : goal.record-requires
record-requires g c = let whole : c.in_ok-whole.whole ≡ true = search rules in sym c.in_ok-whole.ensures.1 ∙ whole

pub returns-in_err-whole-clause-puts : goal.returns-in_err-whole-clause-puts
returns-in_err-whole-clause-puts g c =
    let p = err_from_is_err_and c.from_residual.result c.from_residual.ensures.1 in
    rw (p.1, p.2) (λ start d m change stamp done more rest goes reads.
    puts_never c.args.reader.now c.args.byte rest more c.in_err-whole.field-0.0 reads c.in_err-whole.ensures)

pub returns-in_err-whole-clause-same : goal.returns-in_err-whole-clause-same
returns-in_err-whole-clause-same g c = same_none c.args.draft.now

pub returns-in_err-whole-clause-grown : goal.returns-in_err-whole-clause-grown
returns-in_err-whole-clause-grown g c = grown_same _ _ refl

pub returns-then-not-whole-clause-puts : goal.returns-then-not-whole-clause-puts
returns-then-not-whole-clause-puts g c = λ start d m change stamp done more rest goes reads.
    let fresh : c.in_ok-whole.whole ≡ false = search rules in
    let e = c.in_ok-whole.ensures in
    puts_still start (g.W.World.told c.args.world.now) d m c.args.draft.now change stamp done more c.args.reader.now c.feed.new.self c.args.byte rest goes reads e.0
    (sym e.1 ∙ fresh)

pub returns-then-not-whole-clause-same : goal.returns-then-not-whole-clause-same
returns-then-not-whole-clause-same g c = same_none c.args.draft.now

pub returns-then-not-whole-clause-grown : goal.returns-then-not-whole-clause-grown
returns-then-not-whole-clause-grown g c = grown_same _ _ refl

pub returns-clause-puts : goal.returns-clause-puts
returns-clause-puts g c = λ start d m change stamp done more rest goes reads.
    let told = g.W.World.told in
    let whole : c.in_ok-whole.whole ≡ true = search rules in
    let e = c.in_ok-whole.ensures in
    puts_one start (told c.args.world.now) (told c.put_text.new.world) d m c.args.draft.now c.put_text.new.draft change stamp done more c.args.reader.now
    c.feed.new.self c.args.byte c.record.result.now rest c.put_text.result goes reads e.0 (sym e.1 ∙ whole) c.record.ensures.bytes
    (λ left before. c.put_text.ensures.puts start d m change stamp done left before)

pub returns-in_err-whole-clause-cause : goal.returns-in_err-whole-clause-cause
returns-in_err-whole-clause-cause g c = λ n. file_stops _ _ (file.Form c.in_err-whole.field-0.0) c.from_residual.result c.from_residual.ensures.1 refl (later_same _)

pub returns-then-not-whole-clause-cause : goal.returns-then-not-whole-clause-cause
returns-then-not-whole-clause-cause g c = λ n. file_done _ _ _ (later_same _)

pub returns-clause-cause : goal.returns-clause-cause
returns-clause-cause g c = λ n. c.put_text.ensures.cause n
