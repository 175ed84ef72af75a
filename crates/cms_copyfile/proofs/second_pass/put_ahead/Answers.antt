use Rattle.std.proofs.Common.{◌≡◌, ◌+◌, ◌≤◌, inl, inr, ℕ, List, refl, sym, subst, arith}
use Rattle.cms_journal.proofs.Pieces.{grown_same}
use Rattle.cms_held.specs.declared.shape.DraftShape.{DraftShape}
use Rattle.cms_disk.specs.Cursors.{AreAhead, AreRun}
use Rattle.cms_copyfile.specs.Copies.{CopiedTo}
use Rattle.cms_copyfile.proofs.RunPasses.{none_copied, run_failed, run_put}
use Rattle.cms_copyfile.proofs.second_pass.put_ahead.Goals as goal

-- what holds at a place holds behind no records from it on
none_behind : (P : ℕ → Type 0) (place : ℕ) → P place → P (place + 0)
none_behind P place is = subst P (omega arith) is

pub run-bytes-requires : goal.run-bytes-requires
run-bytes-requires g c =
    let is = c.run_ahead-count.ensures (omega arith) in
    subst (λ (s : DraftShape). AreAhead c.args.cursor.now s.length c.run_ahead-count.result) (sym c.shape.ensures) is.ahead

pub put_run-requires-clause-fixed : goal.put_run-requires-clause-fixed
put_run-requires-clause-fixed g c = (c.run_ahead-count.ensures (omega arith)).all.fixed

pub put_run-requires-clause-fewer : goal.put_run-requires-clause-fewer
put_run-requires-clause-fewer g c = (c.run_ahead-count.ensures (omega arith)).fewer

pub pass-requires : goal.pass-requires
pass-requires g c =
    let is = c.run_ahead-count.ensures (omega arith) in
    subst (λ (s : DraftShape). AreAhead c.args.cursor.now s.length c.run_ahead-count.result) (sym c.shape.ensures) is.ahead

pub returns-in-Ok-clause-puts : goal.returns-in-Ok-clause-puts
returns-in-Ok-clause-puts g c = λ start d m change stamp first records to.
    let told = g.W.World.told in
    let is = c.run_ahead-count.ensures (omega arith) in
    run_put start (told c.args.world.now) d m c.args.draft.now change stamp c.args.plan.now first c.args.cursor.now records c.args.place c.run_ahead-count.result c.run-bytes.result.now is
    (λ image all left. subst (λ (s : DraftShape). AreRun s.length c.run_ahead-count.result all c.run-bytes.result.now) c.shape.ensures (c.run-bytes.ensures image all left)) to
    (told c.put_run.new.world) c.put_run.new.draft c.pass.new.self
    (λ done run more long are goes. c.in-Ok.ensures.puts start d m change stamp done run more long are goes)
    (λ image all left. c.pass.ensures.records image all left)

pub returns-in-Ok-clause-wanted : goal.returns-in-Ok-clause-wanted
returns-in-Ok-clause-wanted g c = (c.run_ahead-count.ensures (omega arith)).wanted

pub returns-in-Ok-clause-behind : goal.returns-in-Ok-clause-behind
returns-in-Ok-clause-behind g c =
    let more = (c.run_ahead-count.ensures (omega arith)).more in
    let left = c.pass.ensures.left in
    inr (omega (arith, more, left))

pub returns-in-Ok-clause-changes : goal.returns-in-Ok-clause-changes
returns-in-Ok-clause-changes g c =
    let put = c.in-Ok.ensures.changes in
    record { grown = put.grown; faults = put.faults; edges = put.edges; cause = tt }

pub returns-in-Err-clause-puts : goal.returns-in-Err-clause-puts
returns-in-Err-clause-puts g c = λ start d m change stamp first records to.
    let told = g.W.World.told in
    let is = c.run_ahead-count.ensures (omega arith) in
    run_failed start (told c.args.world.now) d m c.args.draft.now change stamp c.args.plan.now first c.args.cursor.now records c.args.place c.run_ahead-count.result c.run-bytes.result.now is
    (λ image all left. subst (λ (s : DraftShape). AreRun s.length c.run_ahead-count.result all c.run-bytes.result.now) c.shape.ensures (c.run-bytes.ensures image all left)) to
    (told c.put_run.new.world)
    (λ done run more long are goes. c.in-Err.ensures.puts start d m change stamp done run more long are goes)

pub returns-in-Err-clause-changes : goal.returns-in-Err-clause-changes
returns-in-Err-clause-changes g c =
    let put = c.in-Err.ensures in
    record { grown = put.changes.grown; faults = put.changes.faults; edges = put.changes.edges; cause = λ devices. put.changes.cause (inl put.fault) }

pub run_ahead-count-requires : goal.run_ahead-count-requires
run_ahead-count-requires g c = c.requires.wanted

pub returns-then-count-eq0-clause-wanted : goal.returns-then-count-eq0-clause-wanted
returns-then-count-eq0-clause-wanted g c = omega (arith, c.requires.wanted)

pub returns-then-count-eq0-clause-behind : goal.returns-then-count-eq0-clause-behind
returns-then-count-eq0-clause-behind g c = inl refl

pub returns-then-count-eq0-clause-stays : goal.returns-then-count-eq0-clause-stays
returns-then-count-eq0-clause-stays g c = tt

pub returns-then-count-eq0-clause-file : goal.returns-then-count-eq0-clause-file
returns-then-count-eq0-clause-file g c = record { unit = refl; total = refl; bsize = refl; leaves = refl; fixed = refl; longest = refl }

pub returns-then-count-eq0-clause-same : goal.returns-then-count-eq0-clause-same
returns-then-count-eq0-clause-same g c = record { entry = refl; systems = refl; shape = refl; writer = record { unit = refl; bsize = refl; psize = refl; tree = refl; size = refl; kept = refl } }

pub returns-then-count-eq0-clause-still : goal.returns-then-count-eq0-clause-still
returns-then-count-eq0-clause-still g c = c.requires.ready

pub returns-then-count-eq0-clause-fault : goal.returns-then-count-eq0-clause-fault
returns-then-count-eq0-clause-fault g c = tt

pub returns-then-count-eq0-clause-changes : goal.returns-then-count-eq0-clause-changes
returns-then-count-eq0-clause-changes g c = record { grown = grown_same (g.W.World.told c.args.world.now) (g.W.World.told c.args.world.now) refl; faults = omega arith; edges = refl; cause = tt }

pub returns-then-bytes-bytes_left-clause-wanted : goal.returns-then-bytes-bytes_left-clause-wanted
returns-then-bytes-bytes_left-clause-wanted g c = omega (arith, c.requires.wanted)

pub returns-then-bytes-bytes_left-clause-behind : goal.returns-then-bytes-bytes_left-clause-behind
returns-then-bytes-bytes_left-clause-behind g c = inl refl

pub returns-then-bytes-bytes_left-clause-stays : goal.returns-then-bytes-bytes_left-clause-stays
returns-then-bytes-bytes_left-clause-stays g c = tt

pub returns-then-bytes-bytes_left-clause-file : goal.returns-then-bytes-bytes_left-clause-file
returns-then-bytes-bytes_left-clause-file g c = record { unit = refl; total = refl; bsize = refl; leaves = refl; fixed = refl; longest = refl }

pub returns-then-bytes-bytes_left-clause-same : goal.returns-then-bytes-bytes_left-clause-same
returns-then-bytes-bytes_left-clause-same g c = record { entry = refl; systems = refl; shape = refl; writer = record { unit = refl; bsize = refl; psize = refl; tree = refl; size = refl; kept = refl } }

pub returns-then-bytes-bytes_left-clause-still : goal.returns-then-bytes-bytes_left-clause-still
returns-then-bytes-bytes_left-clause-still g c = c.requires.ready

pub returns-then-bytes-bytes_left-clause-fault : goal.returns-then-bytes-bytes_left-clause-fault
returns-then-bytes-bytes_left-clause-fault g c = tt

pub returns-then-bytes-bytes_left-clause-changes : goal.returns-then-bytes-bytes_left-clause-changes
returns-then-bytes-bytes_left-clause-changes g c = record { grown = grown_same (g.W.World.told c.args.world.now) (g.W.World.told c.args.world.now) refl; faults = omega arith; edges = refl; cause = tt }

pub put_run-requires-clause-ready : goal.put_run-requires-clause-ready
put_run-requires-clause-ready g c = c.requires.ready

pub returns-in-Ok-clause-stays : goal.returns-in-Ok-clause-stays
returns-in-Ok-clause-stays g c = tt

pub returns-in-Ok-clause-file : goal.returns-in-Ok-clause-file
returns-in-Ok-clause-file g c = c.pass.ensures.file

pub returns-in-Ok-clause-same : goal.returns-in-Ok-clause-same
returns-in-Ok-clause-same g c = c.in-Ok.ensures.same

pub returns-in-Ok-clause-still : goal.returns-in-Ok-clause-still
returns-in-Ok-clause-still g c = c.in-Ok.ensures.still

pub returns-in-Ok-clause-fault : goal.returns-in-Ok-clause-fault
returns-in-Ok-clause-fault g c = tt

pub returns-in-Err-clause-wanted : goal.returns-in-Err-clause-wanted
returns-in-Err-clause-wanted g c = tt

pub returns-in-Err-clause-behind : goal.returns-in-Err-clause-behind
returns-in-Err-clause-behind g c = inl refl

pub returns-in-Err-clause-stays : goal.returns-in-Err-clause-stays
returns-in-Err-clause-stays g c = refl

pub returns-in-Err-clause-file : goal.returns-in-Err-clause-file
returns-in-Err-clause-file g c = record { unit = refl; total = refl; bsize = refl; leaves = refl; fixed = refl; longest = refl }

pub returns-in-Err-clause-same : goal.returns-in-Err-clause-same
returns-in-Err-clause-same g c = c.in-Err.ensures.same

pub returns-in-Err-clause-still : goal.returns-in-Err-clause-still
returns-in-Err-clause-still g c = c.in-Err.ensures.still

pub returns-in-Err-clause-fault : goal.returns-in-Err-clause-fault
returns-in-Err-clause-fault g c = refl

pub returns-then-count-eq0-clause-puts : goal.returns-then-count-eq0-clause-puts
returns-then-count-eq0-clause-puts g c = λ start d m change stamp first records to.
    none_behind (λ place. CopiedTo start (g.W.World.told c.args.world.now) d m c.args.draft.now change stamp c.args.plan.now first c.args.cursor.now records place) c.args.place to

pub returns-then-bytes-bytes_left-clause-puts : goal.returns-then-bytes-bytes_left-clause-puts
returns-then-bytes-bytes_left-clause-puts g c = λ start d m change stamp first records to.
    none_behind (λ place. CopiedTo start (g.W.World.told c.args.world.now) d m c.args.draft.now change stamp c.args.plan.now first c.args.cursor.now records place) c.args.place to
