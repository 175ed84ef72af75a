use Rattle.mini_work.specs.Causes.{counts}
use Rattle.mini_work.proofs.Caused.{end_both, end_fails, end_lacks, later_same}
use Rattle.std.proofs.Common.{◌∙◌, List, ap}
use Rattle.std.proofs.lemmas.Result.{err_from_is_err_and}
use Rattle.cms_names.specs.declared.name.Name.{Name}
use Rattle.mini_work.specs.ChosenFiles.{idle_status}
use Rattle.cms_edf.specs.FilesTold.{infos_in}
use Rattle.cms_edf.specs.declared.held.FileInfo.{FileInfo}
use Rattle.cms_model.specs.Acts.{typed_line}
use Rattle.mini_work.specs.Changes.{IsTold}
use Rattle.mini_work.specs.CommandActs.{Goes}
use Rattle.mini_work.specs.Commands.{IsListing}
use Rattle.mini_work.specs.Listing.{file_line, is_listed}
use Rattle.mini_work.proofs.PartsJoined.{cut_any, ended_on, goes_cut}
use Rattle.mini_work.proofs.Worked.{listing_on}
use Rattle.mini_work.proofs.listing.list_fitting.Goals as goal

pub returns-in_err-listed-clause-goes : goal.returns-in_err-listed-clause-goes
returns-in_err-listed-clause-goes g c =
    let p = err_from_is_err_and c.from_residual.result c.from_residual.ensures.1 in
    let d = c.args.disk.now in
    let Q = Goes (λ (i : FileInfo). IsTold (is_listed c.args.names.now i) (typed_line (file_line c.args.long i))) (infos_in d.volume) in
    cut_any Q (IsListing c.args.long c.args.names.now) _ _ d d c.in_err-listed.field-0.0 p.0 _ p.1 c.in_err-listed.ensures.goes

pub returns-in_err-all-clause-goes : goal.returns-in_err-all-clause-goes
returns-in_err-all-clause-goes g c =
    let p = err_from_is_err_and c.from_residual-in_err-all.result c.from_residual-in_err-all.ensures.1 in
    let d = c.args.disk.now in
    let P = IsListing c.args.long c.args.names.now in
    let Q = Goes (λ (i : FileInfo). IsTold (is_listed c.args.names.now i) (typed_line (file_line c.args.long i))) (infos_in d.volume) in
    cut_any P P _ _ d d p.0 p.0 _ p.1 (goes_cut Q P P c.in_ok-listed.listed _ _ _ d d d p.0 p.0 c.in_ok-listed.ensures.goes (ended_on P _ d p.0))

pub returns-in_err-idle-clause-goes : goal.returns-in_err-idle-clause-goes
returns-in_err-idle-clause-goes g c =
    let p = err_from_is_err_and c.from_residual-in_err-idle.result c.from_residual-in_err-idle.ensures.1 in
    let d = c.args.disk.now in
    let P = IsListing c.args.long c.args.names.now in
    let Q = Goes (λ (i : FileInfo). IsTold (is_listed c.args.names.now i) (typed_line (file_line c.args.long i))) (infos_in d.volume) in
    cut_any P P _ _ d d p.0 p.0 _ p.1 (goes_cut Q P P c.in_ok-listed.listed _ _ _ d d d p.0 p.0 c.in_ok-listed.ensures.goes (ended_on P _ d p.0))

pub returns-clause-goes : goal.returns-clause-goes
returns-clause-goes g c =
    listing_on c.args.long c.args.names.now c.in_ok-listed.listed c.in_ok-idle.idle c.and.result c.in_ok-all.all.items _ _ c.args.disk.now
    c.in_ok-listed.ensures.goes c.in_ok-all.ensures
    (c.in_ok-idle.ensures.idle ∙ ap (λ (xs : List Name). idle_status c.args.names.now xs) c.deref.ensures.value) c.and.ensures

pub returns-in_err-listed-clause-cause : goal.returns-in_err-listed-clause-cause
returns-in_err-listed-clause-cause g c = let x = c.in_err-listed.ensures.cause (g.H.Host.faults c.args.host.now) in end_fails _ _ _ c.in_err-listed.field-0.0 c.from_residual.result (later_same _) c.from_residual.ensures.1 x.later x.failed

pub returns-in_err-all-clause-cause : goal.returns-in_err-all-clause-cause
returns-in_err-all-clause-cause g c = end_lacks _ _ c.from_residual-in_err-all.result c.from_residual-in_err-all.ensures.1 (c.in_ok-listed.ensures.cause (g.H.Host.faults c.args.host.now)).later

pub returns-in_err-idle-clause-cause : goal.returns-in_err-idle-clause-cause
returns-in_err-idle-clause-cause g c = let at = counts g.W.World g.H.Host in let x = c.in_err-idle.ensures.cause (at c.list_files.new.world c.args.host.now) in end_fails _ _ _ c.in_err-idle.field-0.0 c.from_residual-in_err-idle.result (c.in_ok-listed.ensures.cause (g.H.Host.faults c.args.host.now)).later c.from_residual-in_err-idle.ensures.1 x.later x.failed

pub returns-clause-cause : goal.returns-clause-cause
returns-clause-cause g c = let at = counts g.W.World g.H.Host in end_both _ _ _ _ _ _ (c.in_ok-listed.ensures.cause (g.H.Host.faults c.args.host.now)) (c.in_ok-idle.ensures.cause (at c.list_files.new.world c.args.host.now)) c.and.ensures
