use Rattle.std.proofs.Common.{rules, ◌≡◌, ◌++◌, ◌∷◌, [], refl, sym, ◌∙◌, subst, arith}
use Rattle.std.proofs.lemmas.Result.{err_from_is_err_and}
use Rattle.cms_world.specs.Seen.{seen}
use Rattle.cms_journal.proofs.Pieces.{grown_then}
use Rattle.cms_records.specs.Stored.{records_in}
use Rattle.cms_disk.specs.Changes.{IsDevices}
use Rattle.cms_disk.specs.Drafts.{GoesOn, PutsRecord}
use Rattle.cms_disk.proofs.RecordsPut.{NextFits, PutTo, changes_then, next_fits, put_all, put_first, put_last, put_next, same_then}
use Rattle.cms_disk.proofs.put.put_records.Given as given
use Rattle.cms_disk.proofs.put.put_records.Goals as goal
use Rattle.cms_disk.proofs.put.put_records.Goals.{In-Some}

pub loop-text-init : goal.loop-text-init
loop-text-init g c =
    let told = g.W.World.told c.args.world.now in
    let is = c.into_iter-text-iterator.ensures.into_iter_gives ∙ c.of-text-items.ensures.records in
    let valid = c.requires.file in
    let all = c.of-text-items.ensures.stands valid.records valid.stands in
    let records : records_in c.args.file.now ≡ valid.records = sym c.of-text-items.ensures.records ∙ all in
    record {
      next = search rules;
      finite = search rules;
      put = subst (PutTo told told c.args.draft.now c.args.draft.now (records_in c.args.file.now)) (sym is)
          (put_first told c.args.draft.now c.args.file.now (records_in c.args.file.now) valid.records valid.stands records c.requires.last);
      ready = c.requires.ready;
      grown = record { events = []; told = refl };
      faults = omega arith;
      edges = refl;
    }

-- the records that were put, and that this one comes next
put_so_far : (g : given.Over) (c : In-Some g)
    → PutTo (g.W.World.told c.args.world.now) (g.W.World.told c.loop-text.world) c.args.draft.now c.loop-text.draft (records_in c.args.file.now) (c.in-Some.text.now ∷ c.next.new.self)
put_so_far g c =
    subst (PutTo (g.W.World.told c.args.world.now) (g.W.World.told c.loop-text.world) c.args.draft.now c.loop-text.draft (records_in c.args.file.now)) c.in-Some.ensures.steps c.loop-text.invariant.put

next_record : (g : given.Over) (c : In-Some g) → NextFits c.loop-text.draft c.in-Some.text.now
next_record g c =
    next_fits (g.W.World.told c.args.world.now) (g.W.World.told c.loop-text.world) c.args.draft.now c.loop-text.draft (records_in c.args.file.now) c.next.new.self c.in-Some.text.now (put_so_far g c)

pub put_record-requires-clause-fewer : goal.put_record-requires-clause-fewer
put_record-requires-clause-fewer g c = let fewer = (next_record g (goal.at.put_record-requires-clause-fewer g c).In-Some).fewer in omega (arith, fewer)

pub put_record-requires-clause-fits : goal.put_record-requires-clause-fits
put_record-requires-clause-fits g c = (next_record g (goal.at.put_record-requires-clause-fits g c).In-Some).fits

pub put_record-requires-clause-room : goal.put_record-requires-clause-room
put_record-requires-clause-room g c = (next_record g (goal.at.put_record-requires-clause-room g c).In-Some).room

pub put_record-requires-clause-ready : goal.put_record-requires-clause-ready
put_record-requires-clause-ready g c = c.loop-text.invariant.ready

pub loop-text-preserved : goal.loop-text-preserved
loop-text-preserved g c =
    let l = c.loop-text in
    let told = g.W.World.told in
    let put = c.in_ok-put_record.ensures in
    let all = records_in c.args.file.now in
    let to = put_so_far g (goal.at.loop-text-preserved g c).In-Some in
    let inv = l.invariant in
    let first = inv.faults in
    let second = put.changes.faults in
    record {
      next = search rules;
      finite = search rules;
      put = put_next (told c.args.world.now) (told l.world) (told c.put_record.new.world) c.args.draft.now l.draft c.put_record.new.draft all c.next.new.self c.in-Some.text.now to put.more put.same
          (λ begin a m change stamp done goes. put.puts begin a m change stamp done c.next.new.self goes);
      ready = put.still;
      grown = grown_then (told c.args.world.now) (told l.world) (told c.put_record.new.world) inv.grown put.changes.grown;
      faults = omega (arith, first, second);
      edges = put.changes.edges ∙ inv.edges;
    }

pub returns-in_err-put_record-clause-puts : goal.returns-in_err-put_record-clause-puts
returns-in_err-put_record-clause-puts g c =
    let p = err_from_is_err_and c.from_residual.result c.from_residual.ensures.1 in
    let l = c.loop-text in
    let told = g.W.World.told in
    let put = c.in_err-put_record.ensures in
    let all = records_in c.args.file.now in
    let to = put_so_far g (goal.at.returns-in_err-put_record-clause-puts g c).In-Some in
    λ start d m change stamp done records stands goes.
    let is : all ≡ records = sym c.of-text-items.ensures.records ∙ c.of-text-items.ensures.stands records stands in
    subst (PutsRecord start (told c.put_record.new.world) d m c.put_record.new.draft change stamp (done ++ records) []) (sym p.1)
    (put.puts start d m change stamp (done ++ to.gone) c.next.new.self
    (to.goes start d m change stamp done (subst (GoesOn start (told c.args.world.now) d m c.args.draft.now change stamp done) (sym (to.all_are ∙ is)) goes)))

pub returns-in_err-put_record-clause-same : goal.returns-in_err-put_record-clause-same
returns-in_err-put_record-clause-same g c = same_then c.args.draft.now c.loop-text.draft c.put_record.new.draft c.loop-text.invariant.put.same c.in_err-put_record.ensures.same

pub returns-in_err-put_record-clause-changes : goal.returns-in_err-put_record-clause-changes
returns-in_err-put_record-clause-changes g c =
    let p = err_from_is_err_and c.from_residual.result c.from_residual.ensures.1 in
    let inv = c.loop-text.invariant in
    rw (p.1, p.2)
    (changes_then (seen g.W.World c.args.world.now) (seen g.W.World c.loop-text.world) (seen g.W.World c.put_record.new.world) IsDevices _
    inv.grown inv.faults inv.edges c.in_err-put_record.ensures.changes)

pub returns-clause-puts : goal.returns-clause-puts
returns-clause-puts g c = λ start d m change stamp done records stands goes.
    let l = c.loop-text in
    let told = g.W.World.told in
    let all = records_in c.args.file.now in
    let to = subst (PutTo (told c.args.world.now) (told l.world) c.args.draft.now l.draft all) c.in-None.ensures.steps.0 l.invariant.put in
    put_all (told c.args.world.now) (told l.world) c.args.draft.now l.draft all records to
    (sym c.of-text-items.ensures.records ∙ c.of-text-items.ensures.stands records stands) start d m change stamp done goes

pub returns-clause-full : goal.returns-clause-full
returns-clause-full g c =
    let l = c.loop-text in
    let told = g.W.World.told in
    let all = records_in c.args.file.now in
    put_last (told c.args.world.now) (told l.world) c.args.draft.now l.draft all
    (subst (PutTo (told c.args.world.now) (told l.world) c.args.draft.now l.draft all) c.in-None.ensures.steps.0 l.invariant.put)

pub returns-clause-same : goal.returns-clause-same
returns-clause-same g c = c.loop-text.invariant.put.same

pub returns-clause-still : goal.returns-clause-still
returns-clause-still g c = c.loop-text.invariant.ready

pub returns-clause-changes : goal.returns-clause-changes
returns-clause-changes g c = let inv = c.loop-text.invariant in record { grown = inv.grown; faults = inv.faults; edges = inv.edges; cause = tt }
