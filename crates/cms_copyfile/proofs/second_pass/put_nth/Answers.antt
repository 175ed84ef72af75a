use Rattle.std.proofs.Common.{◌≡◌, ◌+◌, ◌<◌, ◌≤◌, Bool, true, false, ⊎_elim, inl, inr, refl, sym, arith}
use Rattle.cms_journal.proofs.Pieces.{grown_same}
use Rattle.cms_copyfile.specs.Copies.{copies_from, copies_to}
use Rattle.cms_copyfile.specs.Records.{copied}
use Rattle.cms_copyfile.proofs.CopyPasses.{passed_by, put_failed, put_never, put_there}
use Rattle.cms_copyfile.proofs.second_pass.put_nth.Goals as goal
use Rattle.cms_copyfile.proofs.second_pass.put_nth.Goals.{then-kept, else-kept, then-not-kept, else-not-kept}

differ : (b : Bool) → b ≡ false → b ≡ true → ⊥
differ true other is = absurd (cc other)
differ false other is = absurd (cc is)

-- it is in front of the first that is copied
pub returns-then-place-plan-clause-puts : goal.returns-then-place-plan-clause-puts
returns-then-place-plan-clause-puts g c = λ start d m change stamp front rest long wanted goes.
    let less : c.args.place < c.args.plan.now.skipped = omega arith in
    passed_by start (g.W.World.told c.args.world.now) d m c.args.draft.now change stamp c.args.plan.now front rest c.args.text.now c.args.place
    (record { long = long; wanted = wanted; goes = goes }) less

pub returns-in-Ok-clause-puts : goal.returns-in-Ok-clause-puts
returns-in-Ok-clause-puts g c = λ start d m change stamp front rest long wanted goes.
    let plan = c.args.plan.now in
    let high : plan.skipped ≤ c.args.place = omega arith in
    let is : c.if-kept.copy.now ≡ copied plan.style c.args.text.now = elim c.if-kept.branch [
      | then-kept w ↦ rw w.copy-is (sym (c.keeps-kept.ensures w.if-kept.true c.args.text.now refl))
      | else-kept w ↦ elim c.if-not-kept.branch [
        | then-not-kept v ↦ rw (w.copy-is, w.as_slice-copy.ensures.value, v.buffer-is) v.copy_record.ensures.text
        | else-not-kept v ↦ absurd (differ c.keeps-kept.result w.if-kept.false v.if-not-kept.false)
      ]
    ] in
    put_there start (g.W.World.told c.args.world.now) d m c.args.draft.now change stamp plan front rest c.args.text.now c.if-kept.copy.now c.args.place is
    (record { long = long; wanted = wanted; goes = goes }) high (g.W.World.told c.put_copy.new.world) c.put_copy.new.draft
    (λ before. c.in-Ok.ensures.puts start d m change stamp (copies_to plan front) (copies_from plan (c.args.place + 1) rest) before)

-- it is the record that is to come
pub returns-in-Altered-clause-puts : goal.returns-in-Altered-clause-puts
returns-in-Altered-clause-puts g c = λ start d m change stamp front rest long wanted goes.
    let plan = c.args.plan.now in
    let high : plan.skipped ≤ c.args.place = omega arith in
    let is : c.if-kept.copy.now ≡ copied plan.style c.args.text.now = elim c.if-kept.branch [
      | then-kept w ↦ rw w.copy-is (sym (c.keeps-kept.ensures w.if-kept.true c.args.text.now refl))
      | else-kept w ↦ elim c.if-not-kept.branch [
        | then-not-kept v ↦ rw (w.copy-is, w.as_slice-copy.ensures.value, v.buffer-is) v.copy_record.ensures.text
        | else-not-kept v ↦ absurd (differ c.keeps-kept.result w.if-kept.false v.if-not-kept.false)
      ]
    ] in
    let altered = c.in-Altered.is in
    put_never start (g.W.World.told c.args.world.now) d m c.args.draft.now change stamp plan front rest c.args.text.now c.if-kept.copy.now c.args.place is
    (record { long = long; wanted = wanted; goes = goes }) high
    (λ front' drafts. (rw altered at c.in-Err.ensures.altered) refl front' (copies_to plan front) (copies_from plan (c.args.place + 1) rest) drafts)

-- the device failed
pub returns-in_default : goal.returns-in_default
returns-in_default g c =
    let plan = c.args.plan.now in
    let put = c.in-Err.ensures in
    let high : plan.skipped ≤ c.args.place = omega arith in
    let is : c.if-kept.copy.now ≡ copied plan.style c.args.text.now = elim c.if-kept.branch [
      | then-kept w ↦ rw w.copy-is (sym (c.keeps-kept.ensures w.if-kept.true c.args.text.now refl))
      | else-kept w ↦ elim c.if-not-kept.branch [
        | then-not-kept v ↦ rw (w.copy-is, w.as_slice-copy.ensures.value, v.buffer-is) v.copy_record.ensures.text
        | else-not-kept v ↦ absurd (differ c.keeps-kept.result w.if-kept.false v.if-not-kept.false)
      ]
    ] in
    let device = ⊎_elim (λ d. d) (λ a. absurd (c.in_default.not-Altered a)) put.fault in
    record {
      puts = λ start d m change stamp front rest long wanted goes.
          put_failed start (g.W.World.told c.args.world.now) d m c.args.draft.now change stamp plan front rest c.args.text.now c.if-kept.copy.now c.args.place is
          (record { long = long; wanted = wanted; goes = goes }) high (g.W.World.told c.put_copy.new.world)
          (λ before. put.puts start d m change stamp (copies_to plan front) (copies_from plan (c.args.place + 1) rest) before);
      capacity = elim c.if-not-kept.branch [
        | then-not-kept v ↦ rw v.buffer-is v.copy_record.ensures.capacity
        | else-not-kept v ↦ rw v.buffer-is (omega arith)
      ];
      same = put.same;
      still = put.still;
      fault = inl refl;
      changes = record { grown = put.changes.grown; faults = put.changes.faults; edges = put.changes.edges; cause = λ devices. put.changes.cause (inl device) };
    }

pub returns-then-place-plan-clause-capacity : goal.returns-then-place-plan-clause-capacity
returns-then-place-plan-clause-capacity g c = omega arith

pub returns-then-place-plan-clause-same : goal.returns-then-place-plan-clause-same
returns-then-place-plan-clause-same g c = record { entry = refl; systems = refl; shape = refl; writer = record { unit = refl; bsize = refl; psize = refl; tree = refl; size = refl; kept = refl } }

pub returns-then-place-plan-clause-still : goal.returns-then-place-plan-clause-still
returns-then-place-plan-clause-still g c = c.requires.ready

pub returns-then-place-plan-clause-fault : goal.returns-then-place-plan-clause-fault
returns-then-place-plan-clause-fault g c = tt

pub returns-then-place-plan-clause-changes : goal.returns-then-place-plan-clause-changes
returns-then-place-plan-clause-changes g c = record { grown = grown_same (g.W.World.told c.args.world.now) (g.W.World.told c.args.world.now) refl; faults = omega arith; edges = refl; cause = tt }

pub copy_record-requires : goal.copy_record-requires
copy_record-requires g c = c.requires.room

pub put_copy-requires : goal.put_copy-requires
put_copy-requires g c = record { ready = c.requires.ready }

pub returns-in-Ok-clause-capacity : goal.returns-in-Ok-clause-capacity
returns-in-Ok-clause-capacity g c = elim c.if-not-kept.branch [
  | then-not-kept v ↦ rw v.buffer-is v.copy_record.ensures.capacity
  | else-not-kept v ↦ rw v.buffer-is (omega arith)
]

pub returns-in-Ok-clause-same : goal.returns-in-Ok-clause-same
returns-in-Ok-clause-same g c = c.in-Ok.ensures.same

pub returns-in-Ok-clause-still : goal.returns-in-Ok-clause-still
returns-in-Ok-clause-still g c = c.in-Ok.ensures.still

pub returns-in-Ok-clause-fault : goal.returns-in-Ok-clause-fault
returns-in-Ok-clause-fault g c = tt

pub returns-in-Ok-clause-changes : goal.returns-in-Ok-clause-changes
returns-in-Ok-clause-changes g c =
    let put = c.in-Ok.ensures.changes in
    record { grown = put.grown; faults = put.faults; edges = put.edges; cause = tt }

pub returns-in-Altered-clause-capacity : goal.returns-in-Altered-clause-capacity
returns-in-Altered-clause-capacity g c = elim c.if-not-kept.branch [
  | then-not-kept v ↦ rw v.buffer-is v.copy_record.ensures.capacity
  | else-not-kept v ↦ rw v.buffer-is (omega arith)
]

pub returns-in-Altered-clause-same : goal.returns-in-Altered-clause-same
returns-in-Altered-clause-same g c = c.in-Err.ensures.same

pub returns-in-Altered-clause-still : goal.returns-in-Altered-clause-still
returns-in-Altered-clause-still g c = c.in-Err.ensures.still

pub returns-in-Altered-clause-fault : goal.returns-in-Altered-clause-fault
returns-in-Altered-clause-fault g c = inr refl

pub returns-in-Altered-clause-changes : goal.returns-in-Altered-clause-changes
returns-in-Altered-clause-changes g c =
    let put = c.in-Err.ensures.changes in
    record { grown = put.grown; faults = put.faults; edges = put.edges; cause = ⊎_elim (λ is. absurd (cc is)) (λ is. absurd (cc is)) }
