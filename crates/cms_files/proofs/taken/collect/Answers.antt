use Rattle.std.proofs.Common.{◌∙◌, ◌≤◌, sym, map}
use Rattle.std.proofs.lemmas.List.Elements.{All-push}
use Rattle.cms_search.specs.Searches.{Listed}
use Rattle.cms_search.specs.Tables.{listed_held}
use Rattle.cms_files.specs.Files.{is_taken}
use Rattle.cms_files.proofs.TakenFiles.{none_taken, one_taken}
use Rattle.cms_files.proofs.taken.collect.Goals.{then-is_taken+in_ok-push, else-is_taken}
use Rattle.cms_files.proofs.taken.collect.Goals as goal

pub loop-place-preserved : goal.loop-place-preserved
loop-place-preserved c =
    let files = c.args.disk.now.volume.files in
    let k = c.loop-place.place in
    let f = c.of-file.result in
    let passes = is_taken c.args.names.now c.args.number in
    let at = c.of-file.ensures.told in
    elim c.if-is_taken.branch [
      | then-is_taken+in_ok-push w ↦
          let e = w.files-is in
          rw (e, w.in_ok-push.ensures.ok)
          (record {
            taken = one_taken passes (map listed_held files) c.loop-place.files k c.loop-place.invariant.taken f at (sym c.is_taken.ensures ∙ w.if-is_taken.true);
            numbers = All-push (λ (x : Listed). x.number ≤ 6) c.loop-place.files f c.loop-place.invariant.numbers c.of-file.ensures.number;
          })
      | else-is_taken w ↦
          let e = w.files-is in
          rw e
          (record {
            taken = none_taken passes (map listed_held files) c.loop-place.files k c.loop-place.invariant.taken f at (sym c.is_taken.ensures ∙ w.if-is_taken.false);
            numbers = c.loop-place.invariant.numbers;
          })
    ]
