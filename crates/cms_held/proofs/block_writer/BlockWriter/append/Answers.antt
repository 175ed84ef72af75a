use Rattle.std.proofs.Common.{◌≡◌, ◌-◌, ℕ, drop, refl, sym, ◌∙◌, ap, arith}
use Rattle.cms_held.specs.BlockWriters.{came}
use Rattle.cms_held.proofs.BlockWritten.{begun_more, appended_on, appended_stops, own_kept, own_on, same_none, mark_here, wrote_none}
use Rattle.cms_held.proofs.WriterSteps.{begun_later, begun_room, counts_failed, counts_so_far}
use Rattle.cms_held.proofs.block_writer.BlockWriter.append.Goals as goal

pub append-init : goal.append-init
append-init g c =
    let w = c.args.self.now in
    let text = c.args.bytes.now in
    let told = g.W.World.told c.args.world.now in
    let none : came w - came w ≡ 0 = omega arith in
    record {
      is = c.requires.is;
      unfilled = c.requires.unfilled;
      last = refl;
      begun = record { at = refl; before = omega arith; rest_is = ap (λ (n : ℕ). drop n text) (sym none); same = same_none w; mark = sym (mark_here w w.whole refl); later = omega arith };
      writes = λ es bytes marks s next are. wrote_none told w w es bytes marks refl s;
      own = own_kept told w;
      ready = c.requires.ready;
      faults = omega arith;
      edges = refl;
    }

pub append-preserved : goal.append-preserved
append-preserved g c =
    let w = c.args.self.now in
    let w1 = c.append.self in
    let w2 = c.take.new.self in
    let text = c.args.bytes.now in
    let rest = c.append.rest.now in
    let old = g.W.World.told c.args.world.now in
    let mid = g.W.World.told c.append.world in
    let new = g.W.World.told c.take.new.world in
    let i = c.append.invariant in
    let e = c.in-Ok.ensures in
    record {
      is = e.later.is;
      unfilled = e.later.unfilled;
      last = e.later.last ∙ i.last;
      begun = begun_more w w1 w2 c.in-Ok.taken text rest c.after-rest.result.now i.begun e.taken.1 e.taken.2 c.after-rest.ensures.bytes e.later.same e.mark e.later.later;
      writes = λ es bytes marks s next are. appended_on old mid new w w1 w2 text rest es bytes marks i.begun next are (i.writes es bytes marks s next are) (e.writes es bytes marks);
      own = own_on old mid new w w1 i.begun.same i.own e.own;
      ready = e.still;
      faults = let faults = i.faults in let cause = e.counts.cause in omega arith;
      edges = e.counts.edges ∙ i.edges;
    }

pub returns-in-Err-clause-writes : goal.returns-in-Err-clause-writes
returns-in-Err-clause-writes g c = λ es bytes marks s next are.
    let i = c.append.invariant in
    appended_stops (g.W.World.told c.args.world.now) (g.W.World.told c.append.world) (g.W.World.told c.take.new.world) c.args.self.now c.append.self c.args.bytes.now c.append.rest.now es bytes marks
    i.begun next are (i.writes es bytes marks s next are) (c.in-Err.ensures.writes es bytes marks)

pub returns-in-Err-clause-own : goal.returns-in-Err-clause-own
returns-in-Err-clause-own g c =
    own_on (g.W.World.told c.args.world.now) (g.W.World.told c.append.world)
    (g.W.World.told c.take.new.world) c.args.self.now c.append.self c.append.invariant.begun.same c.append.invariant.own c.in-Err.ensures.own

pub take-requires-clause-is : goal.take-requires-clause-is
take-requires-clause-is g c = c.append.invariant.is

pub take-requires-clause-unfilled : goal.take-requires-clause-unfilled
take-requires-clause-unfilled g c = c.append.invariant.unfilled

pub take-requires-clause-room : goal.take-requires-clause-room
take-requires-clause-room g c = begun_room c.args.self.now c.append.self c.args.bytes.now c.append.rest.now c.append.invariant.begun c.requires.room

pub take-requires-clause-ready : goal.take-requires-clause-ready
take-requires-clause-ready g c = c.append.invariant.ready

pub returns-in-Err-clause-later : goal.returns-in-Err-clause-later
returns-in-Err-clause-later g c =
    let i = c.append.invariant in
    begun_later c.args.self.now c.append.self c.take.new.self c.args.bytes.now c.append.rest.now i.begun i.last c.in-Err.ensures.later

pub returns-in-Err-clause-still : goal.returns-in-Err-clause-still
returns-in-Err-clause-still g c = c.in-Err.ensures.still

pub returns-in-Err-clause-counts : goal.returns-in-Err-clause-counts
returns-in-Err-clause-counts g c =
    let i = c.append.invariant in
    counts_failed i.faults i.edges c.in-Err.ensures.counts

pub returns-clause-writes : goal.returns-clause-writes
returns-clause-writes g c = c.append.invariant.writes

pub returns-clause-mark : goal.returns-clause-mark
returns-clause-mark g c = c.append.invariant.begun.mark

pub returns-clause-own : goal.returns-clause-own
returns-clause-own g c = c.append.invariant.own

pub returns-clause-still : goal.returns-clause-still
returns-clause-still g c = c.append.invariant.ready

pub returns-clause-counts : goal.returns-clause-counts
returns-clause-counts g c = counts_so_far _ _ c.append.invariant.faults c.append.invariant.edges
