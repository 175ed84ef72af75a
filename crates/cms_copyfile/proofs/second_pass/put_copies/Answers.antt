use Rattle.std.proofs.Common.{◌≡◌, ◌+◌, ◌<◌, ◌≤◌, ◌∙◌, ℕ, length, List, [], true, false, Ok, Err, ⊎_elim, inl, inr, ap, refl, sym, subst, le_trans, arith}
use Rattle.std.proofs.lemmas.Result.{err_from_is_err_and}
use Rattle.std.specs.Option.{ForSome}
use Rattle.cms_journal.specs.declared.event.Attached.{Attached}
use Rattle.cms_journal.specs.Journal.{HasBlocks}
use Rattle.cms_journal.specs.Told.{Grown, Told}
use Rattle.cms_journal.proofs.Pieces.{grown_then}
use Rattle.cms_held.specs.BlockWriters.{CanWrite}
use Rattle.cms_disk.proofs.RecordsPut.{changes_then, same_none, same_then}
use Rattle.cms_world.specs.Seen.{seen}
use Rattle.cms_disk.specs.Cursors.{HandsOut, HasLeft, Cursor}
use Rattle.cms_disk.specs.declared.fault.DiskFault.TheVariants as failed
use Rattle.cms_edf.specs.OpeningSteps.{OfImage}
use Rattle.cms_search.proofs.HandedRecords.{open_same, same_then as file_then}
use Rattle.cms_copyfile.specs.Copies.{FailsOn, IsDevices, PutsCopies, ReadsWell, copies_from, copies_to}
use Rattle.cms_copyfile.specs.Outputs.{copies_in}
use Rattle.cms_copyfile.proofs.Passes.{Hands, fit_below}
use Rattle.cms_copyfile.proofs.RunPasses.{altered_none, not_ended, pass_run, puts_told}
use Rattle.cms_copyfile.specs.declared.second_pass.CopyFault.{CopyFault}
use Rattle.cms_copyfile.proofs.CopyPasses.{copied_all, copied_first, copied_next, copied_wanted, given_up, last_read, never_altered, next_put, nth_fails, put_fails_on, read_fails, units_grown}
use Rattle.cms_copyfile.specs.declared.second_pass.CopyFault.TheVariants as why
use Rattle.cms_copyfile.proofs.second_pass.put_copies.Goals as goal

pub copies-init : goal.copies-init
copies-init g c =
    let told = g.W.World.told c.args.world.now in
    record {
      to = λ start d m change stamp records from. copied_first start told d m c.args.draft.now change stamp c.args.plan.now c.args.cursor.now records from;
      well = λ start d m change stamp records from. inl refl;
      blocks = c.requires.blocks;
      file = record { unit = refl; total = refl; bsize = refl; leaves = refl; fixed = refl; longest = refl };
      same = same_none c.args.draft.now;
      capacity = omega arith;
      ready = c.requires.ready;
      grown = record { events = []; told = refl };
      faults = omega arith;
      edges = refl;
      within = omega arith;
    }

pub put_nth-requires-clause-ready : goal.put_nth-requires-clause-ready
put_nth-requires-clause-ready g c =
    let l = c.copies in
    let inv = l.invariant in
    let W = g.W.World in
    let run = c.in_ok-place.ensures in
    let here = pass_run (seen W c.args.world.now) (seen W l.world) (seen W c.put_ahead.new.world) c.args.plan.now c.args.cursor.now l.cursor c.put_ahead.new.cursor c.args.draft.now l.draft
    c.put_ahead.new.draft l.place _
    (record { to = inv.to; blocks = inv.blocks; file = inv.file; same = inv.same; ready = inv.ready; grown = inv.grown; faults = inv.faults; edges = inv.edges })
    run.puts run.file run.same run.still run.changes.grown run.changes.faults run.changes.edges in
    subst (λ (t : Told). ForSome t (λ j. CanWrite j.units c.put_ahead.new.draft.writer.writer)) (sym c.in-Ok-true.ensures.reads.told) here.ready

pub copies-preserved : goal.copies-preserved
copies-preserved g c =
    let l = c.copies in
    let inv = l.invariant in
    let W = g.W.World in
    let run = c.in_ok-place.ensures in
    let here = pass_run (seen W c.args.world.now) (seen W l.world) (seen W c.put_ahead.new.world) c.args.plan.now c.args.cursor.now l.cursor c.put_ahead.new.cursor c.args.draft.now l.draft
    c.put_ahead.new.draft l.place _
    (record { to = inv.to; blocks = inv.blocks; file = inv.file; same = inv.same; ready = inv.ready; grown = inv.grown; faults = inv.faults; edges = inv.edges })
    run.puts run.file run.same run.still run.changes.grown run.changes.faults run.changes.edges in
    let told = g.W.World.told in
    let plan = c.args.plan.now in
    let first = c.args.cursor.now in
    let next = c.next.new.self in
    let n = c.in-Ok-true.ensures in
    let handed = c.in-Ok-true.field-0-test in
    let put = c.in_ok-put_nth-in-Ok-true.ensures in
    let new = told c.put_nth.new.world in
    let less = run.wanted in
    let file = file_then first c.put_ahead.new.cursor next here.file n.file in
    let hands = subst (λ (u : ℕ). Hands (told c.put_ahead.new.world) u c.put_ahead.new.cursor next true) here.file.unit (rw handed at n.records) in
    let grown = subst (λ (t : Told). Grown t new) n.reads.told put.changes.grown in
    let faults = here.faults in
    let read = n.reads.faults in
    let wrote = put.changes.faults in
    record {
      to = λ start d m change stamp records from.
          (let to = here.to start d m change stamp records from in
          copied_next start new d m c.put_ahead.new.draft c.put_nth.new.draft change stamp plan first next records _ tt
          (next_put start (told c.put_ahead.new.world) new d m c.put_ahead.new.draft c.put_nth.new.draft change stamp plan first c.put_ahead.new.cursor next records _ c.text.result.now (Ok tt) from.stay to here.file file less hands
          c.text.ensures
          (puts_told _ _ new d m c.put_ahead.new.draft c.put_nth.new.draft change stamp plan _ c.text.result.now (Ok tt) n.reads.told
          (λ begin front rest long wanted goes. put.puts begin d m change stamp front rest long wanted goes))));
      well = λ start d m change stamp records from.
          inr (last_read start (told c.put_ahead.new.world) d m c.put_ahead.new.draft change stamp plan first c.put_ahead.new.cursor next records _ from.stay (here.to start d m change stamp records from) here.file file hands (n.whole handed));
      blocks = units_grown (told c.put_ahead.new.world) new (λ (us : List Attached). HasBlocks us next.unit next.total next.bsize) grown (open_same (told c.put_ahead.new.world) c.put_ahead.new.cursor next n.file here.blocks);
      file = file;
      same = same_then c.args.draft.now c.put_ahead.new.draft c.put_nth.new.draft here.same put.same;
      capacity = omega (arith, inv.capacity, put.capacity);
      ready = put.still;
      grown = grown_then (told c.args.world.now) (told c.put_ahead.new.world) new here.grown grown;
      faults = omega (arith, faults, read, wrote);
      edges = put.changes.edges ∙ (n.reads.edges ∙ here.edges);
      within = omega (arith, less);
    }

pub returns-in_err-put_nth-in-Ok-true-clause-puts : goal.returns-in_err-put_nth-in-Ok-true-clause-puts
returns-in_err-put_nth-in-Ok-true-clause-puts g c =
    let l = c.copies in
    let inv = l.invariant in
    let W = g.W.World in
    let run = c.in_ok-place.ensures in
    let here = pass_run (seen W c.args.world.now) (seen W l.world) (seen W c.put_ahead.new.world) c.args.plan.now c.args.cursor.now l.cursor c.put_ahead.new.cursor c.args.draft.now l.draft
    c.put_ahead.new.draft l.place _
    (record { to = inv.to; blocks = inv.blocks; file = inv.file; same = inv.same; ready = inv.ready; grown = inv.grown; faults = inv.faults; edges = inv.edges })
    run.puts run.file run.same run.still run.changes.grown run.changes.faults run.changes.edges in
    let p = err_from_is_err_and c.from_residual-in_err-put_nth-in-Ok-true.result c.from_residual-in_err-put_nth-in-Ok-true.ensures.1 in
    let told = g.W.World.told in
    let n = c.in-Ok-true.ensures in
    let put = c.in_err-put_nth-in-Ok-true.ensures in
    let first = c.args.cursor.now in
    let next = c.next.new.self in
    let plan = c.args.plan.now in
    let handed = c.in-Ok-true.field-0-test in
    let why' = c.in_err-put_nth-in-Ok-true.field-0.0 in
    let new = told c.put_nth.new.world in
    let less = run.wanted in
    let file = file_then first c.put_ahead.new.cursor next here.file n.file in
    let hands = subst (λ (u : ℕ). Hands (told c.put_ahead.new.world) u c.put_ahead.new.cursor next true) here.file.unit (rw handed at n.records) in
    rw (p.1, p.2) (λ start d m change stamp records from.
    (let to = here.to start d m change stamp records from in
    nth_fails start (told c.put_ahead.new.world) new d m c.put_ahead.new.draft c.put_nth.new.draft change stamp plan first c.put_ahead.new.cursor next records _ c.text.result.now why' from.stay to here.file file less hands c.text.ensures
    (puts_told _ _ new d m c.put_ahead.new.draft c.put_nth.new.draft change stamp plan _ c.text.result.now (Err why') n.reads.told
    (λ begin front rest long wanted goes. put.puts begin d m change stamp front rest long wanted goes))))

pub returns-in_err-put_nth-in-Ok-true-clause-unit : goal.returns-in_err-put_nth-in-Ok-true-clause-unit
returns-in_err-put_nth-in-Ok-true-clause-unit g c =
    let l = c.copies in
    let inv = l.invariant in
    let W = g.W.World in
    let run = c.in_ok-place.ensures in
    let here = pass_run (seen W c.args.world.now) (seen W l.world) (seen W c.put_ahead.new.world) c.args.plan.now c.args.cursor.now l.cursor c.put_ahead.new.cursor c.args.draft.now l.draft
    c.put_ahead.new.draft l.place _
    (record { to = inv.to; blocks = inv.blocks; file = inv.file; same = inv.same; ready = inv.ready; grown = inv.grown; faults = inv.faults; edges = inv.edges })
    run.puts run.file run.same run.still run.changes.grown run.changes.faults run.changes.edges in
    let p = err_from_is_err_and c.from_residual-in_err-put_nth-in-Ok-true.result c.from_residual-in_err-put_nth-in-Ok-true.ensures.1 in
    let told = g.W.World.told in
    let n = c.in-Ok-true.ensures in
    let first = c.args.cursor.now in
    let next = c.next.new.self in
    let plan = c.args.plan.now in
    let handed = c.in-Ok-true.field-0-test in
    let why' = c.in_err-put_nth-in-Ok-true.field-0.0 in
    let file = file_then first c.put_ahead.new.cursor next here.file n.file in
    let hands = subst (λ (u : ℕ). Hands (told c.put_ahead.new.world) u c.put_ahead.new.cursor next true) here.file.unit (rw handed at n.records) in
    rw (p.1, p.2) (λ start d m change stamp records from.
    put_fails_on start (told c.put_nth.new.world) d m c.put_nth.new.draft change stamp plan first next records why' c.in_err-put_nth-in-Ok-true.ensures.fault
    (inr (last_read start (told c.put_ahead.new.world) d m c.put_ahead.new.draft change stamp plan first c.put_ahead.new.cursor next records _ from.stay (here.to start d m change stamp records from) here.file file hands (n.whole handed))))

pub returns-in_err-put_nth-in-Ok-true-clause-same : goal.returns-in_err-put_nth-in-Ok-true-clause-same
returns-in_err-put_nth-in-Ok-true-clause-same g c =
    let l = c.copies in
    let inv = l.invariant in
    let W = g.W.World in
    let run = c.in_ok-place.ensures in
    let here = pass_run (seen W c.args.world.now) (seen W l.world) (seen W c.put_ahead.new.world) c.args.plan.now c.args.cursor.now l.cursor c.put_ahead.new.cursor c.args.draft.now l.draft
    c.put_ahead.new.draft l.place _
    (record { to = inv.to; blocks = inv.blocks; file = inv.file; same = inv.same; ready = inv.ready; grown = inv.grown; faults = inv.faults; edges = inv.edges })
    run.puts run.file run.same run.still run.changes.grown run.changes.faults run.changes.edges in
    same_then c.args.draft.now c.put_ahead.new.draft c.put_nth.new.draft here.same c.in_err-put_nth-in-Ok-true.ensures.same

pub returns-in_err-put_nth-in-Ok-true-clause-changes : goal.returns-in_err-put_nth-in-Ok-true-clause-changes
returns-in_err-put_nth-in-Ok-true-clause-changes g c =
    let l = c.copies in
    let inv = l.invariant in
    let W = g.W.World in
    let run = c.in_ok-place.ensures in
    let here = pass_run (seen W c.args.world.now) (seen W l.world) (seen W c.put_ahead.new.world) c.args.plan.now c.args.cursor.now l.cursor c.put_ahead.new.cursor c.args.draft.now l.draft
    c.put_ahead.new.draft l.place _
    (record { to = inv.to; blocks = inv.blocks; file = inv.file; same = inv.same; ready = inv.ready; grown = inv.grown; faults = inv.faults; edges = inv.edges })
    run.puts run.file run.same run.still run.changes.grown run.changes.faults run.changes.edges in
    let p = err_from_is_err_and c.from_residual-in_err-put_nth-in-Ok-true.result c.from_residual-in_err-put_nth-in-Ok-true.ensures.1 in
    let told = g.W.World.told in
    let n = c.in-Ok-true.ensures in
    let grown = subst (λ (t : Told). Grown (told c.args.world.now) t) (sym n.reads.told) here.grown in
    let faults = here.faults in
    let read = n.reads.faults in
    let late : g.W.World.faults c.args.world.now ≤ g.W.World.faults c.next.new.world = omega (arith, faults, read) in
    rw (p.1, p.2)
    (changes_then (seen g.W.World c.args.world.now) (seen g.W.World c.next.new.world) (seen g.W.World c.put_nth.new.world) IsDevices _
    grown late (n.reads.edges ∙ here.edges) c.in_err-put_nth-in-Ok-true.ensures.changes)

pub returns-in-Ok-false-clause-puts : goal.returns-in-Ok-false-clause-puts
returns-in-Ok-false-clause-puts g c = λ start d m change stamp records from.
    let l = c.copies in
    let inv = l.invariant in
    let W = g.W.World in
    let run = c.in_ok-place.ensures in
    let here = pass_run (seen W c.args.world.now) (seen W l.world) (seen W c.put_ahead.new.world) c.args.plan.now c.args.cursor.now l.cursor c.put_ahead.new.cursor c.args.draft.now l.draft
    c.put_ahead.new.draft l.place _
    (record { to = inv.to; blocks = inv.blocks; file = inv.file; same = inv.same; ready = inv.ready; grown = inv.grown; faults = inv.faults; edges = inv.edges })
    run.puts run.file run.same run.still run.changes.grown run.changes.faults run.changes.edges in
    let told = g.W.World.told in
    let n = c.in-Ok-false.ensures in
    let first = c.args.cursor.now in
    let next = c.next.new.self in
    let plan = c.args.plan.now in
    let handed = c.in-Ok-false.field-0-test in
    let to = here.to start d m change stamp records from in
    let file = file_then first c.put_ahead.new.cursor next here.file n.file in
    let hands = subst (λ (u : ℕ). Hands (told c.put_ahead.new.world) u c.put_ahead.new.cursor next false) here.file.unit (rw handed at n.records) in
    let wanted = run.wanted in
    subst (λ (t : Told). PutsCopies start t d m c.put_ahead.new.draft change stamp (copies_in plan records) [] (Ok tt)) (sym n.reads.told)
    (copied_all start (told c.put_ahead.new.world) d m c.put_ahead.new.draft change stamp plan first c.put_ahead.new.cursor next records _ from.stay to here.file file (omega (arith, wanted)) hands)

pub returns-in-Ok-false-clause-unit : goal.returns-in-Ok-false-clause-unit
returns-in-Ok-false-clause-unit g c = λ start d m change stamp records from.
    let l = c.copies in
    let n = c.in-Ok-false.ensures in
    let handed = c.in-Ok-false.field-0-test in
    let same = n.last handed ∙ not_ended l.cursor c.put_ahead.new.cursor _ c.in_ok-place.ensures.behind n.some handed in
    subst (λ (x : Cursor). ReadsWell start c.args.cursor.now x records) (sym same) (l.invariant.well start d m change stamp records from)

pub returns-in_default-clause-puts : goal.returns-in_default-clause-puts
returns-in_default-clause-puts g c = λ start d m change stamp records from.
    let l = c.copies in
    let inv = l.invariant in
    let W = g.W.World in
    let run = c.in_ok-place.ensures in
    let here = pass_run (seen W c.args.world.now) (seen W l.world) (seen W c.put_ahead.new.world) c.args.plan.now c.args.cursor.now l.cursor c.put_ahead.new.cursor c.args.draft.now l.draft
    c.put_ahead.new.draft l.place _
    (record { to = inv.to; blocks = inv.blocks; file = inv.file; same = inv.same; ready = inv.ready; grown = inv.grown; faults = inv.faults; edges = inv.edges })
    run.puts run.file run.same run.still run.changes.grown run.changes.faults run.changes.edges in
    let told = g.W.World.told in
    let to = here.to start d m change stamp records from in
    let plan = c.args.plan.now in
    subst (λ (t : Told). PutsCopies start t d m c.put_ahead.new.draft change stamp (copies_in plan records) [] (Err why.Read)) (sym c.in-Err.ensures.reads.told)
    (given_up start (told c.put_ahead.new.world) d m c.put_ahead.new.draft change stamp (copies_to plan to.front) (copies_from plan _ to.rest) to.goes)

pub returns-in_default-clause-unit : goal.returns-in_default-clause-unit
returns-in_default-clause-unit g c = λ start d m change stamp records from.
    let l = c.copies in
    let inv = l.invariant in
    let W = g.W.World in
    let run = c.in_ok-place.ensures in
    let here = pass_run (seen W c.args.world.now) (seen W l.world) (seen W c.put_ahead.new.world) c.args.plan.now c.args.cursor.now l.cursor c.put_ahead.new.cursor c.args.draft.now l.draft
    c.put_ahead.new.draft l.place _
    (record { to = inv.to; blocks = inv.blocks; file = inv.file; same = inv.same; ready = inv.ready; grown = inv.grown; faults = inv.faults; edges = inv.edges })
    run.puts run.file run.same run.still run.changes.grown run.changes.faults run.changes.edges in
    let told = g.W.World.told in
    let n = c.in-Err.ensures in
    let first = c.args.cursor.now in
    let next = c.next.new.self in
    let plan = c.args.plan.now in
    let device = ⊎_elim (λ d. d) (λ a. absurd (c.in_default.not-Altered a)) n.fault in
    let file = file_then first c.put_ahead.new.cursor next here.file n.file in
    let hands : OfImage (told c.put_ahead.new.world) first.unit (λ image. (all : List (List ℕ)) → HasLeft image c.put_ahead.new.cursor all → HandsOut image next all (Err failed.Device)) =
    subst (λ (u : ℕ). OfImage (told c.put_ahead.new.world) u (λ image. (all : List (List ℕ)) → HasLeft image c.put_ahead.new.cursor all → HandsOut image next all (Err failed.Device))) here.file.unit (rw device at n.records) in
    subst (λ (t : Told). FailsOn start t d m c.put_ahead.new.draft change stamp plan first next records (Err why.Read)) (sym n.reads.told)
    (_, read_fails start (told c.put_ahead.new.world) d m c.put_ahead.new.draft change stamp plan first c.put_ahead.new.cursor next records _ from.stay (here.to start d m change stamp records from) here.file file hands)

pub returns-in_default-clause-changes : goal.returns-in_default-clause-changes
returns-in_default-clause-changes g c =
    let l = c.copies in
    let inv = l.invariant in
    let W = g.W.World in
    let run = c.in_ok-place.ensures in
    let here = pass_run (seen W c.args.world.now) (seen W l.world) (seen W c.put_ahead.new.world) c.args.plan.now c.args.cursor.now l.cursor c.put_ahead.new.cursor c.args.draft.now l.draft
    c.put_ahead.new.draft l.place _
    (record { to = inv.to; blocks = inv.blocks; file = inv.file; same = inv.same; ready = inv.ready; grown = inv.grown; faults = inv.faults; edges = inv.edges })
    run.puts run.file run.same run.still run.changes.grown run.changes.faults run.changes.edges in
    let told = g.W.World.told in
    let n = c.in-Err.ensures in
    let device = ⊎_elim (λ d. d) (λ a. absurd (c.in_default.not-Altered a)) n.fault in
    let rose = n.reads.cause device in
    let faults = here.faults in
    let read = n.reads.faults in
    record {
      grown = subst (λ (t : Told). Grown (told c.args.world.now) t) (sym n.reads.told) here.grown;
      faults = omega (arith, faults, read);
      edges = n.reads.edges ∙ here.edges;
      cause = λ is. omega (arith, faults, rose);
    }

pub returns-in-Altered-clause-puts : goal.returns-in-Altered-clause-puts
returns-in-Altered-clause-puts g c = λ start d m change stamp records from.
    let l = c.copies in
    let inv = l.invariant in
    let W = g.W.World in
    let run = c.in_ok-place.ensures in
    let here = pass_run (seen W c.args.world.now) (seen W l.world) (seen W c.put_ahead.new.world) c.args.plan.now c.args.cursor.now l.cursor c.put_ahead.new.cursor c.args.draft.now l.draft
    c.put_ahead.new.draft l.place _
    (record { to = inv.to; blocks = inv.blocks; file = inv.file; same = inv.same; ready = inv.ready; grown = inv.grown; faults = inv.faults; edges = inv.edges })
    run.puts run.file run.same run.still run.changes.grown run.changes.faults run.changes.edges in
    let told = g.W.World.told in
    let n = c.in-Err.ensures in
    let first = c.args.cursor.now in
    let plan = c.args.plan.now in
    let altered = c.in-Altered.is in
    let to = here.to start d m change stamp records from in
    let file = file_then first c.put_ahead.new.cursor c.next.new.self here.file n.file in
    never_altered start (told c.put_ahead.new.world) d m c.put_ahead.new.draft change stamp (copies_to plan to.front) (copies_from plan _ to.rest) first c.put_ahead.new.cursor c.next.new.self to.rest from.stay to.goes here.file
    (subst (λ (u : ℕ). OfImage (told c.put_ahead.new.world) u (λ image. (all : List (List ℕ)) → HasLeft image c.put_ahead.new.cursor all → HandsOut image c.next.new.self all (Err failed.Altered)))
    here.file.unit (rw altered at n.records)) to.left

pub returns-in-Altered-clause-unit : goal.returns-in-Altered-clause-unit
returns-in-Altered-clause-unit g c = λ start d m change stamp records from. tt

pub returns-clause-unit : goal.returns-clause-unit
returns-clause-unit g c = λ start d m change stamp records from. c.copies.invariant.well start d m change stamp records from

pub returns-clause-puts : goal.returns-clause-puts
returns-clause-puts g c = λ start d m change stamp records from.
    let l = c.copies in
    let is : l.place ≡ c.args.plan.now.wanted = omega arith in
    copied_wanted start (g.W.World.told l.world) d m l.draft change stamp c.args.plan.now c.args.cursor.now l.cursor records l.place (l.invariant.to start d m change stamp records from) is

pub returns-in_err-put_nth-in-Ok-true-clause-capacity : goal.returns-in_err-put_nth-in-Ok-true-clause-capacity
returns-in_err-put_nth-in-Ok-true-clause-capacity g c =
    let l = c.copies in
    let inv = l.invariant in
    le_trans inv.capacity c.in_err-put_nth-in-Ok-true.ensures.capacity

pub returns-in_err-put_nth-in-Ok-true-clause-still : goal.returns-in_err-put_nth-in-Ok-true-clause-still
returns-in_err-put_nth-in-Ok-true-clause-still g c =
    c.in_err-put_nth-in-Ok-true.ensures.still

pub returns-in-Ok-false-clause-capacity : goal.returns-in-Ok-false-clause-capacity
returns-in-Ok-false-clause-capacity g c =
    let l = c.copies in
    let inv = l.invariant in
    inv.capacity

pub returns-in-Ok-false-clause-same : goal.returns-in-Ok-false-clause-same
returns-in-Ok-false-clause-same g c =
    let l = c.copies in
    let inv = l.invariant in
    let W = g.W.World in
    let run = c.in_ok-place.ensures in
    let here = pass_run (seen W c.args.world.now) (seen W l.world) (seen W c.put_ahead.new.world) c.args.plan.now c.args.cursor.now l.cursor c.put_ahead.new.cursor c.args.draft.now l.draft
    c.put_ahead.new.draft l.place _
    (record { to = inv.to; blocks = inv.blocks; file = inv.file; same = inv.same; ready = inv.ready; grown = inv.grown; faults = inv.faults; edges = inv.edges })
    run.puts run.file run.same run.still run.changes.grown run.changes.faults run.changes.edges in
    here.same

pub returns-in-Ok-false-clause-still : goal.returns-in-Ok-false-clause-still
returns-in-Ok-false-clause-still g c =
    let l = c.copies in
    let inv = l.invariant in
    let W = g.W.World in
    let run = c.in_ok-place.ensures in
    let here = pass_run (seen W c.args.world.now) (seen W l.world) (seen W c.put_ahead.new.world) c.args.plan.now c.args.cursor.now l.cursor c.put_ahead.new.cursor c.args.draft.now l.draft
    c.put_ahead.new.draft l.place _
    (record { to = inv.to; blocks = inv.blocks; file = inv.file; same = inv.same; ready = inv.ready; grown = inv.grown; faults = inv.faults; edges = inv.edges })
    run.puts run.file run.same run.still run.changes.grown run.changes.faults run.changes.edges in
    subst (λ (t : Told). ForSome t (λ j. CanWrite j.units c.put_ahead.new.draft.writer.writer)) (sym c.in-Ok-false.ensures.reads.told) here.ready

pub returns-in-Altered-clause-capacity : goal.returns-in-Altered-clause-capacity
returns-in-Altered-clause-capacity g c =
    let l = c.copies in
    let inv = l.invariant in
    inv.capacity

pub returns-in-Altered-clause-same : goal.returns-in-Altered-clause-same
returns-in-Altered-clause-same g c =
    let l = c.copies in
    let inv = l.invariant in
    let W = g.W.World in
    let run = c.in_ok-place.ensures in
    let here = pass_run (seen W c.args.world.now) (seen W l.world) (seen W c.put_ahead.new.world) c.args.plan.now c.args.cursor.now l.cursor c.put_ahead.new.cursor c.args.draft.now l.draft
    c.put_ahead.new.draft l.place _
    (record { to = inv.to; blocks = inv.blocks; file = inv.file; same = inv.same; ready = inv.ready; grown = inv.grown; faults = inv.faults; edges = inv.edges })
    run.puts run.file run.same run.still run.changes.grown run.changes.faults run.changes.edges in
    here.same

pub returns-in-Altered-clause-still : goal.returns-in-Altered-clause-still
returns-in-Altered-clause-still g c =
    let l = c.copies in
    let inv = l.invariant in
    let W = g.W.World in
    let run = c.in_ok-place.ensures in
    let here = pass_run (seen W c.args.world.now) (seen W l.world) (seen W c.put_ahead.new.world) c.args.plan.now c.args.cursor.now l.cursor c.put_ahead.new.cursor c.args.draft.now l.draft
    c.put_ahead.new.draft l.place _
    (record { to = inv.to; blocks = inv.blocks; file = inv.file; same = inv.same; ready = inv.ready; grown = inv.grown; faults = inv.faults; edges = inv.edges })
    run.puts run.file run.same run.still run.changes.grown run.changes.faults run.changes.edges in
    subst (λ (t : Told). ForSome t (λ j. CanWrite j.units c.put_ahead.new.draft.writer.writer)) (sym c.in-Err.ensures.reads.told) here.ready

pub returns-in_default-clause-capacity : goal.returns-in_default-clause-capacity
returns-in_default-clause-capacity g c =
    let l = c.copies in
    let inv = l.invariant in
    inv.capacity

pub returns-in_default-clause-same : goal.returns-in_default-clause-same
returns-in_default-clause-same g c =
    let l = c.copies in
    let inv = l.invariant in
    let W = g.W.World in
    let run = c.in_ok-place.ensures in
    let here = pass_run (seen W c.args.world.now) (seen W l.world) (seen W c.put_ahead.new.world) c.args.plan.now c.args.cursor.now l.cursor c.put_ahead.new.cursor c.args.draft.now l.draft
    c.put_ahead.new.draft l.place _
    (record { to = inv.to; blocks = inv.blocks; file = inv.file; same = inv.same; ready = inv.ready; grown = inv.grown; faults = inv.faults; edges = inv.edges })
    run.puts run.file run.same run.still run.changes.grown run.changes.faults run.changes.edges in
    here.same

pub returns-in_default-clause-still : goal.returns-in_default-clause-still
returns-in_default-clause-still g c =
    let l = c.copies in
    let inv = l.invariant in
    let W = g.W.World in
    let run = c.in_ok-place.ensures in
    let here = pass_run (seen W c.args.world.now) (seen W l.world) (seen W c.put_ahead.new.world) c.args.plan.now c.args.cursor.now l.cursor c.put_ahead.new.cursor c.args.draft.now l.draft
    c.put_ahead.new.draft l.place _
    (record { to = inv.to; blocks = inv.blocks; file = inv.file; same = inv.same; ready = inv.ready; grown = inv.grown; faults = inv.faults; edges = inv.edges })
    run.puts run.file run.same run.still run.changes.grown run.changes.faults run.changes.edges in
    subst (λ (t : Told). ForSome t (λ j. CanWrite j.units c.put_ahead.new.draft.writer.writer)) (sym c.in-Err.ensures.reads.told) here.ready

pub returns-clause-capacity : goal.returns-clause-capacity
returns-clause-capacity g c = c.copies.invariant.capacity

pub returns-clause-same : goal.returns-clause-same
returns-clause-same g c = c.copies.invariant.same

pub returns-clause-still : goal.returns-clause-still
returns-clause-still g c = c.copies.invariant.ready

pub returns-clause-changes : goal.returns-clause-changes
returns-clause-changes g c =
    let inv = c.copies.invariant in
    record { grown = inv.grown; faults = inv.faults; edges = inv.edges; cause = tt }

pub returns-in-Ok-false-clause-changes : goal.returns-in-Ok-false-clause-changes
returns-in-Ok-false-clause-changes g c =
    let l = c.copies in
    let inv = l.invariant in
    let W = g.W.World in
    let run = c.in_ok-place.ensures in
    let here = pass_run (seen W c.args.world.now) (seen W l.world) (seen W c.put_ahead.new.world) c.args.plan.now c.args.cursor.now l.cursor c.put_ahead.new.cursor c.args.draft.now l.draft
    c.put_ahead.new.draft l.place _
    (record { to = inv.to; blocks = inv.blocks; file = inv.file; same = inv.same; ready = inv.ready; grown = inv.grown; faults = inv.faults; edges = inv.edges })
    run.puts run.file run.same run.still run.changes.grown run.changes.faults run.changes.edges in
    let n = c.in-Ok-false.ensures in
    record {
      grown = subst (λ (t : Told). Grown (g.W.World.told c.args.world.now) t) (sym n.reads.told) here.grown;
      faults = le_trans here.faults n.reads.faults;
      edges = n.reads.edges ∙ here.edges;
      cause = tt;
    }

pub put_ahead-requires-clause-ready : goal.put_ahead-requires-clause-ready
put_ahead-requires-clause-ready g c = c.copies.invariant.ready

pub next-requires : goal.next-requires
next-requires g c =
    let l = c.copies in
    let inv = l.invariant in
    let W = g.W.World in
    let run = c.in_ok-place.ensures in
    let here = pass_run (seen W c.args.world.now) (seen W l.world) (seen W c.put_ahead.new.world) c.args.plan.now c.args.cursor.now l.cursor c.put_ahead.new.cursor c.args.draft.now l.draft
    c.put_ahead.new.draft l.place _
    (record { to = inv.to; blocks = inv.blocks; file = inv.file; same = inv.same; ready = inv.ready; grown = inv.grown; faults = inv.faults; edges = inv.edges })
    run.puts run.file run.same run.still run.changes.grown run.changes.faults run.changes.edges in
    record { blocks = here.blocks }

pub put_nth-requires-clause-room : goal.put_nth-requires-clause-room
put_nth-requires-clause-room g c =
    let l = c.copies in
    let inv = l.invariant in
    let n = c.in-Ok-true.ensures in
    let file = file_then c.args.cursor.now l.cursor c.next.new.self inv.file (file_then l.cursor c.put_ahead.new.cursor c.next.new.self c.in_ok-place.ensures.file n.file) in
    let short = (n.text c.in-Ok-true.field-0-test).short in
    let longest = file.longest in
    let is = ap (λ (t : List ℕ). length t) c.text.ensures in
    let fit = fit_below c.args.plan.now.style.fit (length c.text.result.now) c.args.cursor.now.begun.longest (omega (arith, short, longest, is)) in
    omega (arith, fit, c.requires.room, inv.capacity)

-- a run wasn't put
pub returns-in_err-place-clause-puts : goal.returns-in_err-place-clause-puts
returns-in_err-place-clause-puts g c =
    let p = err_from_is_err_and c.from_residual.result c.from_residual.ensures.1 in
    let run = c.in_err-place.ensures in
    let first = c.args.cursor.now in
    rw (p.1, p.2) (λ start d m change stamp records from.
    subst (λ (e : CopyFault). PutsCopies start (g.W.World.told c.put_ahead.new.world) d m c.put_ahead.new.draft change stamp (copies_in c.args.plan.now records) [] (Err e)) (sym run.fault)
    (run.puts start d m change stamp first records (c.copies.invariant.to start d m change stamp records from)))

pub returns-in_err-place-clause-unit : goal.returns-in_err-place-clause-unit
returns-in_err-place-clause-unit g c =
    let p = err_from_is_err_and c.from_residual.result c.from_residual.ensures.1 in
    let run = c.in_err-place.ensures in
    let first = c.args.cursor.now in
    rw (p.1, p.2) (λ start d m change stamp records from.
    put_fails_on start (g.W.World.told c.put_ahead.new.world) d m c.put_ahead.new.draft change stamp c.args.plan.now first c.put_ahead.new.cursor records _ (inl run.fault)
    (subst (λ (x : Cursor). ReadsWell start first x records) (sym run.stays) (c.copies.invariant.well start d m change stamp records from)))

pub returns-in_err-place-clause-capacity : goal.returns-in_err-place-clause-capacity
returns-in_err-place-clause-capacity g c = c.copies.invariant.capacity

pub returns-in_err-place-clause-same : goal.returns-in_err-place-clause-same
returns-in_err-place-clause-same g c = same_then c.args.draft.now c.copies.draft c.put_ahead.new.draft c.copies.invariant.same c.in_err-place.ensures.same

pub returns-in_err-place-clause-still : goal.returns-in_err-place-clause-still
returns-in_err-place-clause-still g c = c.in_err-place.ensures.still

pub returns-in_err-place-clause-changes : goal.returns-in_err-place-clause-changes
returns-in_err-place-clause-changes g c =
    let p = err_from_is_err_and c.from_residual.result c.from_residual.ensures.1 in
    let inv = c.copies.invariant in
    let run = c.in_err-place.ensures.changes in
    rw (p.1, p.2)
    (changes_then (seen g.W.World c.args.world.now) (seen g.W.World c.copies.world) (seen g.W.World c.put_ahead.new.world) IsDevices _
    inv.grown inv.faults inv.edges (record { grown = run.grown; faults = run.faults; edges = run.edges; cause = run.cause }))

pub returns-in-Altered-clause-changes : goal.returns-in-Altered-clause-changes
returns-in-Altered-clause-changes g c =
    let l = c.copies in
    let inv = l.invariant in
    let W = g.W.World in
    let run = c.in_ok-place.ensures in
    let here = pass_run (seen W c.args.world.now) (seen W l.world) (seen W c.put_ahead.new.world) c.args.plan.now c.args.cursor.now l.cursor c.put_ahead.new.cursor c.args.draft.now l.draft
    c.put_ahead.new.draft l.place _
    (record { to = inv.to; blocks = inv.blocks; file = inv.file; same = inv.same; ready = inv.ready; grown = inv.grown; faults = inv.faults; edges = inv.edges })
    run.puts run.file run.same run.still run.changes.grown run.changes.faults run.changes.edges in
    let told = g.W.World.told in
    let n = c.in-Err.ensures in
    let faults = here.faults in
    let read = n.reads.faults in
    record {
      grown = subst (λ (t : Told). Grown (told c.args.world.now) t) (sym n.reads.told) here.grown;
      faults = omega (arith, faults, read);
      edges = n.reads.edges ∙ here.edges;
      cause = λ is. absurd (altered_none is);
    }

pub overflow_add-place : goal.overflow_add-place
overflow_add-place g c =
    let end = c.end_of-end.ensures in
    let wanted = c.in_ok-place.ensures.wanted in
    omega (arith, end, wanted)

pub overflow_add-place-in-copies : goal.overflow_add-place-in-copies
overflow_add-place-in-copies g c =
    let end = c.end_of-end.ensures in
    let wanted = c.in_ok-place.ensures.wanted in
    omega (arith, end, wanted)
