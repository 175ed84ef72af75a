use Rattle.std.proofs.Common.{refl, arith}
use Rattle.std.proofs.lemmas.Result.{err_from_is_err_and}
use Rattle.cms_search.proofs.Acts.{cut_off}
use Rattle.cms_cards.specs.Dumps.{file_with}
use Rattle.cms_cards.proofs.Loads.{dump_missing, dump_written}
use Rattle.cms_cards.proofs.first_deck.write_dump.Goals as goal

pub returns-in_err-read-clause-acts : goal.returns-in_err-read-clause-acts
returns-in_err-read-clause-acts g c =
    let p = err_from_is_err_and c.from_residual.result c.from_residual.ensures.1 in
    rw (p.1, p.2) (cut_off _ _ _ _ refl (omega arith) (omega arith) refl)

pub write_last-requires-clause-valid : goal.write_last-requires-clause-valid
write_last-requires-clause-valid g c =
    let is = c.in-Some.is in
    let loaded = rw is at c.in_ok-read.ensures in
    record { records = loaded.0; stands = loaded.1 }

pub returns-in-Some-clause-acts : goal.returns-in-Some-clause-acts
returns-in-Some-clause-acts g c =
    let is = c.in-Some.is in
    let loaded = rw is at c.in_ok-read.ensures in
    dump_written _ _ c.args.letter c.args.deck.now (file_with c.in-Some.name c.in-Some.file loaded.0) c.write_last.result loaded.2
    (c.write_last.ensures.acts loaded.0 loaded.1)

pub returns-in-None-clause-acts : goal.returns-in-None-clause-acts
returns-in-None-clause-acts g c =
    let is = c.in-None.is in
    let none = rw is at c.in_ok-read.ensures in
    dump_missing _ _ c.args.letter c.args.deck.now c.refuse.result none c.refuse.ensures.does c.refuse.ensures.went refl
