use Rattle.std.proofs.Common.{arith, ◌≤◌, ◌<◌, refl, subst}
use Rattle.cms_held.proofs.BlockWritten.{Fills, fills_none, fills_wrote, fills_stopped, own_kept, can_same, same_filled}
use Rattle.cms_held.specs.declared.block_writer.BlockWriter.{BlockWriter}
use Rattle.cms_held.specs.BlockWriters.{AddsOwnBlocks}
use Rattle.cms_held.proofs.WriterSteps.{Flushes, fills_writer, fills_came, fills_some, fills_later, fills_mark, fills_fewer, flushes_came, flushes_later, flushes_mark}
use Rattle.cms_held.proofs.block_writer.BlockWriter.take.Goals as goal

pub returns-then-self-bytes-clause-writes : goal.returns-then-self-bytes-clause-writes
returns-then-self-bytes-clause-writes g c = λ es bytes marks s next are.
    let f = c.fill-taken in
    let w = c.args.self.now in
    let fills : Fills w f.new.self f.result c.args.bytes.now =
    record { same = f.ensures.same; more = f.ensures.more; block = f.ensures.block; taken = f.ensures.taken; within = c.requires.is.filled; room = c.requires.room } in
    fills_none (g.W.World.told c.args.world.now) w f.new.self f.result c.args.bytes.now es bytes marks fills s next

pub returns-then-self-bytes-clause-own : goal.returns-then-self-bytes-clause-own
returns-then-self-bytes-clause-own g c = own_kept (g.W.World.told c.args.world.now) c.args.self.now

pub returns-in-Ok-clause-writes : goal.returns-in-Ok-clause-writes
returns-in-Ok-clause-writes g c = λ es bytes marks s next are.
    let f = c.fill-taken in
    let w = c.args.self.now in
    let e = c.in-Ok.ensures in
    let fills : Fills w f.new.self f.result c.args.bytes.now =
    record { same = f.ensures.same; more = f.ensures.more; block = f.ensures.block; taken = f.ensures.taken; within = c.requires.is.filled; room = c.requires.room } in
    fills_wrote (g.W.World.told c.args.world.now) (g.W.World.told c.flush.new.world) w f.new.self c.flush.new.self f.result c.args.bytes.now es bytes marks fills
    (omega arith) e.same e.whole e.empty e.zeros
    (e.writes es bytes marks) s next are

pub returns-in-Err-clause-writes : goal.returns-in-Err-clause-writes
returns-in-Err-clause-writes g c = λ es bytes marks s next are.
    let f = c.fill-taken in
    let w = c.args.self.now in
    let fills : Fills w f.new.self f.result c.args.bytes.now =
    record { same = f.ensures.same; more = f.ensures.more; block = f.ensures.block; taken = f.ensures.taken; within = c.requires.is.filled; room = c.requires.room } in
    fills_stopped (g.W.World.told c.args.world.now) (g.W.World.told c.flush.new.world) w f.new.self f.result c.args.bytes.now es bytes marks fills (omega arith)
    (c.in-Err.ensures.writes es bytes marks) s next are

pub fill-taken-requires-clause-block : goal.fill-taken-requires-clause-block
fill-taken-requires-clause-block g c = c.requires.is.block

pub fill-taken-requires-clause-within : goal.fill-taken-requires-clause-within
fill-taken-requires-clause-within g c = c.requires.is.filled

pub returns-then-self-bytes-clause-taken : goal.returns-then-self-bytes-clause-taken
returns-then-self-bytes-clause-taken g c =
    let f = c.fill-taken in
    let w = c.args.self.now in
    let text = c.args.bytes.now in
    let fills : Fills w f.new.self f.result text = record { same = f.ensures.same; more = f.ensures.more; block = f.ensures.block; taken = f.ensures.taken; within = c.requires.is.filled; room = c.requires.room } in
    let some = fills_some w f.new.self f.result text fills c.requires.unfilled c.requires.some in
    (some.0, some.1, fills_came w f.new.self f.result text fills)

pub returns-then-self-bytes-clause-later : goal.returns-then-self-bytes-clause-later
returns-then-self-bytes-clause-later g c =
    let f = c.fill-taken in
    let w = c.args.self.now in
    let text = c.args.bytes.now in
    let fills : Fills w f.new.self f.result text = record { same = f.ensures.same; more = f.ensures.more; block = f.ensures.block; taken = f.ensures.taken; within = c.requires.is.filled; room = c.requires.room } in
    fills_later w f.new.self f.result text c.requires.is fills (subst (λ n. f.new.self.filled < n) c.bytes.ensures.value c.if-self-bytes.true)

pub returns-then-self-bytes-clause-mark : goal.returns-then-self-bytes-clause-mark
returns-then-self-bytes-clause-mark g c =
    let f = c.fill-taken in
    let w = c.args.self.now in
    let text = c.args.bytes.now in
    let fills : Fills w f.new.self f.result text = record { same = f.ensures.same; more = f.ensures.more; block = f.ensures.block; taken = f.ensures.taken; within = c.requires.is.filled; room = c.requires.room } in
    fills_mark w f.new.self f.result text fills

pub returns-then-self-bytes-clause-still : goal.returns-then-self-bytes-clause-still
returns-then-self-bytes-clause-still g c = λ j told. can_same j.units c.args.self.now c.fill-taken.new.self (same_filled c.args.self.now c.fill-taken.new.self c.fill-taken.ensures.same) (c.requires.ready j told)

pub returns-then-self-bytes-clause-counts : goal.returns-then-self-bytes-clause-counts
returns-then-self-bytes-clause-counts g c = record { cause = record { later = omega arith; failed = tt }; edges = refl }

pub flush-requires-clause-is : goal.flush-requires-clause-is
flush-requires-clause-is g c =
    let f = c.fill-taken in
    let w = c.args.self.now in
    let text = c.args.bytes.now in
    let fills : Fills w f.new.self f.result text = record { same = f.ensures.same; more = f.ensures.more; block = f.ensures.block; taken = f.ensures.taken; within = c.requires.is.filled; room = c.requires.room } in
    fills_writer w f.new.self f.result text c.requires.is fills

pub flush-requires-clause-fewer : goal.flush-requires-clause-fewer
flush-requires-clause-fewer g c =
    let f = c.fill-taken in
    let w = c.args.self.now in
    let text = c.args.bytes.now in
    let fills : Fills w f.new.self f.result text = record { same = f.ensures.same; more = f.ensures.more; block = f.ensures.block; taken = f.ensures.taken; within = c.requires.is.filled; room = c.requires.room } in
    fills_fewer w f.new.self f.result text c.requires.is fills (subst (λ n. n ≤ f.new.self.filled) c.bytes.ensures.value c.if-self-bytes.false)

pub flush-requires-clause-ready : goal.flush-requires-clause-ready
flush-requires-clause-ready g c = λ j told. can_same j.units c.args.self.now c.fill-taken.new.self (same_filled c.args.self.now c.fill-taken.new.self c.fill-taken.ensures.same) (c.requires.ready j told)

pub returns-in-Ok-clause-taken : goal.returns-in-Ok-clause-taken
returns-in-Ok-clause-taken g c =
    let f = c.fill-taken in
    let w = c.args.self.now in
    let text = c.args.bytes.now in
    let e = c.in-Ok.ensures in
    let fills : Fills w f.new.self f.result text = record { same = f.ensures.same; more = f.ensures.more; block = f.ensures.block; taken = f.ensures.taken; within = c.requires.is.filled; room = c.requires.room } in
    let flushes : Flushes f.new.self c.flush.new.self = record { is = e.is; same = e.same; whole = e.whole; empty = e.empty; last = e.last } in
    let some = fills_some w f.new.self f.result text fills c.requires.unfilled c.requires.some in
    (some.0, some.1, flushes_came w f.new.self c.flush.new.self f.result text fills flushes (subst (λ n. n ≤ f.new.self.filled) c.bytes.ensures.value c.if-self-bytes.false))

pub returns-in-Ok-clause-later : goal.returns-in-Ok-clause-later
returns-in-Ok-clause-later g c =
    let f = c.fill-taken in
    let w = c.args.self.now in
    let text = c.args.bytes.now in
    let e = c.in-Ok.ensures in
    let fills : Fills w f.new.self f.result text = record { same = f.ensures.same; more = f.ensures.more; block = f.ensures.block; taken = f.ensures.taken; within = c.requires.is.filled; room = c.requires.room } in
    let flushes : Flushes f.new.self c.flush.new.self = record { is = e.is; same = e.same; whole = e.whole; empty = e.empty; last = e.last } in
    flushes_later w f.new.self c.flush.new.self f.result text fills flushes (subst (λ n. n ≤ f.new.self.filled) c.bytes.ensures.value c.if-self-bytes.false)

pub returns-in-Err-clause-later : goal.returns-in-Err-clause-later
returns-in-Err-clause-later g c =
    let f = c.fill-taken in
    let w = c.args.self.now in
    let text = c.args.bytes.now in
    let e = c.in-Err.ensures in
    let fills : Fills w f.new.self f.result text = record { same = f.ensures.same; more = f.ensures.more; block = f.ensures.block; taken = f.ensures.taken; within = c.requires.is.filled; room = c.requires.room } in
    let flushes : Flushes f.new.self c.flush.new.self = record { is = e.is; same = e.same; whole = e.whole; empty = e.empty; last = e.last } in
    flushes_later w f.new.self c.flush.new.self f.result text fills flushes (subst (λ n. n ≤ f.new.self.filled) c.bytes.ensures.value c.if-self-bytes.false)

pub returns-in-Ok-clause-mark : goal.returns-in-Ok-clause-mark
returns-in-Ok-clause-mark g c =
    let f = c.fill-taken in
    let w = c.args.self.now in
    let text = c.args.bytes.now in
    let e = c.in-Ok.ensures in
    let fills : Fills w f.new.self f.result text = record { same = f.ensures.same; more = f.ensures.more; block = f.ensures.block; taken = f.ensures.taken; within = c.requires.is.filled; room = c.requires.room } in
    let flushes : Flushes f.new.self c.flush.new.self = record { is = e.is; same = e.same; whole = e.whole; empty = e.empty; last = e.last } in
    flushes_mark w f.new.self c.flush.new.self f.result text fills flushes e.mark

pub returns-in-Ok-clause-own : goal.returns-in-Ok-clause-own
returns-in-Ok-clause-own g c = subst (λ (x : BlockWriter). AddsOwnBlocks (g.W.World.told c.args.world.now) (g.W.World.told c.flush.new.world) x) c.fill-taken.ensures.same c.in-Ok.ensures.own

pub returns-in-Err-clause-own : goal.returns-in-Err-clause-own
returns-in-Err-clause-own g c = subst (λ (x : BlockWriter). AddsOwnBlocks (g.W.World.told c.args.world.now) (g.W.World.told c.flush.new.world) x) c.fill-taken.ensures.same c.in-Err.ensures.own

pub returns-in-Ok-clause-still : goal.returns-in-Ok-clause-still
returns-in-Ok-clause-still g c = c.in-Ok.ensures.still

pub returns-in-Err-clause-still : goal.returns-in-Err-clause-still
returns-in-Err-clause-still g c = c.in-Err.ensures.still

pub returns-in-Ok-clause-counts : goal.returns-in-Ok-clause-counts
returns-in-Ok-clause-counts g c =
    let counts = c.in-Ok.ensures.counts in
    record { cause = record { later = counts.cause.later; failed = tt }; edges = counts.edges }

pub returns-in-Err-clause-counts : goal.returns-in-Err-clause-counts
returns-in-Err-clause-counts g c =
    let counts = c.in-Err.ensures.counts in
    record { cause = record { later = counts.cause.later; failed = counts.cause.failed }; edges = counts.edges }
