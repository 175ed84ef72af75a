use Rattle.mini_work.proofs.Caused.{end_both, end_done, end_fails, end_lacks, later_same}
use Rattle.std.proofs.Common.{◌∙◌, ℕ, ◌≤◌, arith, length, Bool, List, Ok, subst, take}
use Rattle.std.proofs.lemmas.List.{length-map}
use Rattle.std.proofs.lemmas.Result.{err_from_is_err_and}
use Rattle.cms_edf.specs.FilesTold.{info_of, infos_in}
use Rattle.cms_edf.specs.declared.held.FileInfo.{FileInfo}
use Rattle.cms_model.specs.Acts.{typed_line}
use Rattle.mini_work.specs.Changes.{IsTold}
use Rattle.mini_work.specs.CommandActs.{Continues, Goes}
use Rattle.mini_work.specs.Listing.{file_line, is_listed}
use Rattle.mini_work.proofs.Listed.{goes_done, goes_next}
use Rattle.mini_work.proofs.PartsJoined.{cut_any, ended_on, goes_cut, goes_none}
use Rattle.mini_work.proofs.listing.list_files.Goals as goal

pub loop-nth-init : goal.loop-nth-init
loop-nth-init g c = record { goes = (goes_none (λ info. IsTold (is_listed c.args.names.now info) (typed_line (file_line c.args.long info))) _ c.args.disk.now); cause = λ n. end_done _ _ (later_same _) }

pub loop-nth-preserved : goal.loop-nth-preserved
loop-nth-preserved g c = record {
  goes = (let told = g.W.World.told in
      let d = c.args.disk.now in
      let names = c.args.names.now in
      let long = c.args.long in
      let info = c.info-info.result in
      let xs = infos_in d.volume in
      let P = λ (i : FileInfo). IsTold (is_listed names i) (typed_line (file_line long i)) in
      let one = c.in_ok-one.one in
      let said = subst (λ (b : Bool). Continues (IsTold b (typed_line c.deref.result.now)) (told c.loop-nth.world) d (told c.say_if.new.world) d (Ok one))
      c.is_listed.ensures (c.in_ok-one.ensures.goes d) in
      let lined = subst (λ (x : List ℕ). Continues (IsTold (is_listed names info) (typed_line x)) (told c.loop-nth.world) d (told c.say_if.new.world) d (Ok one))
      (c.deref.ensures.value ∙ c.in_ok-line.ensures) said in
      goes_next P xs c.loop-nth.nth info c.loop-nth.status one c.and-status.result (told c.args.world.now) (told c.loop-nth.world) (told c.say_if.new.world) d d d
      c.info-info.ensures.info c.loop-nth.invariant.goes lined c.and-status.ensures);
  cause = λ n. end_both _ _ _ c.loop-nth.status c.in_ok-one.one c.and-status.result (c.loop-nth.invariant.cause n) (c.in_ok-one.ensures.cause n) c.and-status.ensures;
}

pub returns-in_err-line-clause-goes : goal.returns-in_err-line-clause-goes
returns-in_err-line-clause-goes g c =
    let p = err_from_is_err_and c.from_residual.result c.from_residual.ensures.1 in
    let d = c.args.disk.now in
    let xs = infos_in d.volume in
    let P = λ (i : FileInfo). IsTold (is_listed c.args.names.now i) (typed_line (file_line c.args.long i)) in
    cut_any (Goes P xs) (Goes P xs) _ _ d d p.0 p.0 _ p.1
    (goes_cut (Goes P (take c.loop-nth.nth xs)) (Goes P xs) (Goes P xs) c.loop-nth.status _ _ _ d d d p.0 p.0 c.loop-nth.invariant.goes (ended_on (Goes P xs) _ d p.0))

pub returns-in_err-one-clause-goes : goal.returns-in_err-one-clause-goes
returns-in_err-one-clause-goes g c =
    let p = err_from_is_err_and c.from_residual-in_err-one.result c.from_residual-in_err-one.ensures.1 in
    let d = c.args.disk.now in
    let xs = infos_in d.volume in
    let P = λ (i : FileInfo). IsTold (is_listed c.args.names.now i) (typed_line (file_line c.args.long i)) in
    cut_any (Goes P xs) (Goes P xs) _ _ d d p.0 p.0 _ p.1
    (goes_cut (Goes P (take c.loop-nth.nth xs)) (IsTold c.is_listed.result (typed_line c.deref.result.now)) (Goes P xs) c.loop-nth.status _ _ _ d d d c.in_err-one.field-0.0 p.0
    c.loop-nth.invariant.goes (c.in_err-one.ensures.goes d))

pub returns-clause-goes : goal.returns-clause-goes
returns-clause-goes g c =
    let d = c.args.disk.now in
    let P = λ (i : FileInfo). IsTold (is_listed c.args.names.now i) (typed_line (file_line c.args.long i)) in
    let few : length (infos_in d.volume) ≤ c.loop-nth.nth = omega (arith, c.loop-nth-test.false, c.count-nth-end.ensures, length-map d.volume.files info_of) in
    goes_done P (infos_in d.volume) c.loop-nth.nth c.loop-nth.status _ _ d d few c.loop-nth.invariant.goes

pub returns-in_err-line-clause-cause : goal.returns-in_err-line-clause-cause
returns-in_err-line-clause-cause g c = λ n. end_lacks _ _ c.from_residual.result c.from_residual.ensures.1 (c.loop-nth.invariant.cause n).later

pub returns-in_err-one-clause-cause : goal.returns-in_err-one-clause-cause
returns-in_err-one-clause-cause g c = λ n. let x = c.in_err-one.ensures.cause n in end_fails _ _ _ c.in_err-one.field-0.0 c.from_residual-in_err-one.result (c.loop-nth.invariant.cause n).later c.from_residual-in_err-one.ensures.1 x.later x.failed

pub returns-clause-cause : goal.returns-clause-cause
returns-clause-cause g c = λ n. c.loop-nth.invariant.cause n
