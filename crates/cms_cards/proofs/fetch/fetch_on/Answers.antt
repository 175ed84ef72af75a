use Rattle.std.proofs.Common.{◌∙◌, Option, refl, sym, subst}
use Rattle.std.specs.Prelude.{IsSome}
use Rattle.cms_edf.specs.declared.held.FileInfo.{FileInfo}
use Rattle.cms_search.specs.Calls.{spot}
use Rattle.cms_files.proofs.FoundTold.{told_as}
use Rattle.cms_cards.proofs.Fetches.{full_on, long_on, read_on}
use Rattle.cms_cards.proofs.fetch.fetch_on.Goals as goal

pub unwrap-info-requires : goal.unwrap-info-requires
unwrap-info-requires g c = subst (λ (x : Option FileInfo). IsSome x) (sym c.info_found.ensures) c.requires.there

pub returns-then-exceeds-clause-acts : goal.returns-then-exceeds-clause-acts
returns-then-exceeds-clause-acts g c = λ name here.
    let s = c.args.state.now in
    let b = c.args.bounds in
    let told = told_as s.table c.args.found name c.unwrap-info.result here (sym c.info_found.ensures ∙ c.unwrap-info.ensures) in
    long_on (spot g.W.World c.args.world.now s) (spot g.W.World c.refuse.new.world s) c.args.words.now c.args.place name c.args.found.letter b.narrow b.full
    c.unwrap-info.result c.exceeds.result c.refuse.result c.refused.result told c.exceeds.ensures c.if-exceeds.true c.refuse.ensures.does c.refuse.ensures.went refl
    c.refused.ensures

pub returns-then-bounds-clause-acts : goal.returns-then-bounds-clause-acts
returns-then-bounds-clause-acts g c = λ name here.
    let s = c.args.state.now in
    let b = c.args.bounds in
    let told = told_as s.table c.args.found name c.unwrap-info.result here (sym c.info_found.ensures ∙ c.unwrap-info.ensures) in
    full_on (spot g.W.World c.args.world.now s) (spot g.W.World c.refuse_limit.new.world s) c.args.words.now c.args.place name c.args.found.letter b.narrow b.full
    c.unwrap-info.result c.exceeds.result c.refuse_limit.result c.refused-then-bounds.result told c.exceeds.ensures c.if-exceeds.false c.if-bounds.true
    c.refuse_limit.ensures.does c.refuse_limit.ensures.went refl c.refused-then-bounds.ensures

pub returns-clause-acts : goal.returns-clause-acts
returns-clause-acts g c = λ name here.
    let s = c.args.state.now in
    let b = c.args.bounds in
    let told = told_as s.table c.args.found name c.unwrap-info.result here (sym c.info_found.ensures ∙ c.unwrap-info.ensures) in
    read_on (spot g.W.World c.args.world.now s) (spot g.W.World c.read_whole.new.world s) c.args.words.now c.args.place name c.args.found.letter b.narrow b.full
    c.unwrap-info.result c.exceeds.result c.read_whole.result told c.exceeds.ensures c.if-exceeds.false c.if-bounds.false (c.read_whole.ensures.acts name here)
