use Rattle.std.proofs.Common.{◌∙◌, sym}
use Rattle.std.proofs.lemmas.Result.{err_from_is_err_and}
use Rattle.cms_search.proofs.Acts.{comes_none, no_memory}
use Rattle.cms_files.proofs.Found.{part_is_short}
use Rattle.cms_world.specs.Seen.{seen}
use Rattle.cms_session.proofs.NucleusCalls.{absent_so, dropped_so}
use Rattle.cms_session.proofs.Places.{place_there}
use Rattle.cms_session.proofs.nucleus.drop_extension.Goals as goal

pub drop_at-requires : goal.drop_at-requires
drop_at-requires g c = place_there _ c.args.word.now c.in-Some.place (sym c.find.ensures ∙ c.in-Some.is)

pub returns-in-Some : goal.returns-in-Some
returns-in-Some g c =
    dropped_so _ _ c.args.word.now c.in-Some.place c.find.result (seen g.W.World c.args.world.now) c.args.state.now c.find.ensures c.in-Some.is
    (place_there _ c.args.word.now c.in-Some.place (sym c.find.ensures ∙ c.in-Some.is)) c.drop_at.ensures

pub of-requires : goal.of-requires
of-requires g c = let value = c.as_bytes.ensures.value in rw value (part_is_short c.args.word.now c.as_bytes.ensures.part)

pub returns-in_err-word-in-None : goal.returns-in_err-word-in-None
returns-in_err-word-in-None g c =
    let p = err_from_is_err_and c.from_residual.result c.from_residual.ensures.1 in
    rw (p.1, p.2) (no_memory _ _ _ _ _ (comes_none _ _))

pub returns-in_ok-word-in-None : goal.returns-in_ok-word-in-None
returns-in_ok-word-in-None g c =
    let same = c.in_ok-word-in-None.ensures ∙ c.as_bytes.ensures.value in
    absent_so _ _ _ c.args.word.now c.find.result _ c.find.ensures c.in-None.is (rw same at c.refuse_absent.ensures)
