use Rattle.std.proofs.Common.{◌∙◌, refl, sym}
use Rattle.cms_search.specs.Calls.{spot}
use Rattle.cms_files.proofs.FoundTold.{found_there, is_found}
use Rattle.cms_cards.proofs.Fetches.{search_found, search_unfound}
use Rattle.cms_cards.proofs.fetch.fetch.Goals as goal

pub fetch_on-requires-clause-there : goal.fetch_on-requires-clause-there
fetch_on-requires-clause-there g c =
    let input = c.args.input.now in
    let table = c.args.state.now.table in
    is_found table c.in-Ok.found input.name (found_there table input.mode input.name c.in-Ok.found (sym c.find_read.ensures.found ∙ c.in-Ok.is))

pub returns-in-Ok-clause-acts : goal.returns-in-Ok-clause-acts
returns-in-Ok-clause-acts g c =
    let s = c.args.state.now in
    let b = c.args.bounds in
    let input = c.args.input.now in
    let here = found_there s.table input.mode input.name c.in-Ok.found (sym c.find_read.ensures.found ∙ c.in-Ok.is) in
    search_found (spot g.W.World c.args.world.now s) (spot g.W.World c.fetch_on.new.world s) c.args.words.now c.args.place b.narrow b.full c.args.input.now
    c.find_read.result c.find_read.ensures.machine c.in-Ok.found c.fetch_on.result c.in-Ok.is (c.fetch_on.ensures.acts input.name here)

pub returns-in-Err-clause-acts : goal.returns-in-Err-clause-acts
returns-in-Err-clause-acts g c =
    let s = c.args.state.now in
    let b = c.args.bounds in
    search_unfound (spot g.W.World c.args.world.now s) (spot g.W.World c.refuse_unfound.new.world s) c.args.words.now c.args.place b.narrow b.full c.args.input.now
    c.find_read.result c.find_read.ensures.machine c.in-Err.fault c.refuse_unfound.result c.refused.result c.in-Err.is c.refuse_unfound.ensures refl c.refused.ensures
