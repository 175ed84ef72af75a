use Rattle.std.proofs.Common.{◌<◌, ◌∙◌, length, arith}
use Rattle.std.proofs.lemmas.Map.Entries.{length-values_of}
use Rattle.indexmap.specs.IndexMap.{values}
use Rattle.cms_edf.proofs.Planned.{file_at}
use Rattle.cms_edf.proofs.StampsMoved.{below_all, below_at, below_next}
use Rattle.cms_edf.proofs.file_edits.move_stamps.Goals as goal

pub loop-place-preserved : goal.loop-place-preserved
loop-place-preserved c =
    let fs = values c.args.files.now in
    let k = c.loop-place.place in
    let many = length-values_of c.args.files.now.entries in
    let len = c.len-place-end.ensures.len in
    let end = c.loop-place.auto.place-end in
    let test = c.loop-place-test.true in
    let within : k < length fs = omega arith in
    let at = file_at fs k within in
    let there = c.loop-place.invariant.files in
    record {
      files = below_next c.args.pivot fs _ _ k at.0 at.1 there (c.move_stamp.ensures.files _ (rw there (below_at c.args.pivot fs k at.0 at.1)));
      named = c.move_stamp.ensures.named;
      room = omega (arith, c.loop-place.invariant.room, c.move_stamp.ensures.room);
    }

pub returns-clause-files : goal.returns-clause-files
returns-clause-files c =
    let fs = values c.args.files.now in
    let k = c.loop-place.place in
    let many = length-values_of c.args.files.now.entries in
    let len = c.len-place-end.ensures.len in
    let end = c.loop-place.auto.place-end in
    let test = c.loop-place-test.false in
    c.loop-place.invariant.files ∙ below_all c.args.pivot fs k (omega arith)
