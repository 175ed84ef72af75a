use Rattle.mini_work.specs.Causes.{counts}
use Rattle.mini_work.proofs.Caused.{end_fails, end_refused, end_then, later_same}
use Rattle.std.proofs.Common.{◌≡◌, false}
use Rattle.std.proofs.lemmas.Result.{err_from_is_err_and}
use Rattle.mini_work.specs.Gets.{IsGotEach, OnHost}
use Rattle.mini_work.proofs.GotOut.{each_absent, each_on}
use Rattle.mini_work.proofs.PartsJoined.{ended_any}
use Rattle.mini_work.proofs.get.get_each.Goals as goal

pub returns-in_err-there-clause-goes : goal.returns-in_err-there-clause-goes
returns-in_err-there-clause-goes g c =
    let p = err_from_is_err_and c.from_residual.result c.from_residual.ensures.1 in
    ended_any (OnHost _ _ (IsGotEach (g.H.Host.told c.args.host.now) c.args.get.now c.args.folder.now c.args.names.now)) _ c.args.disk.now p.0 _ p.1

pub returns-then-not-there-clause-goes : goal.returns-then-not-there-clause-goes
returns-then-not-there-clause-goes g c =
    let no : c.in_ok-there.there ≡ false = c.if-not-there.true in
    each_absent (g.H.Host.told c.args.host.now) (g.H.Host.told c.find_folder.new.host) c.args.get.now c.args.folder.now c.args.names.now _ c.args.disk.now
    (c.in_ok-there.ensures.none no) c.in_ok-there.ensures.files

pub returns-clause-goes : goal.returns-clause-goes
returns-clause-goes g c =
    let host = g.H.Host.told in
    each_on (host c.args.host.now) (host c.find_folder.new.host) (host c.get_named.new.host) c.args.get.now c.args.folder.now c.args.names.now _ _ c.args.disk.now
    c.get_named.result c.in_ok-there.ensures.files c.get_named.ensures.goes

pub returns-in_err-there-clause-cause : goal.returns-in_err-there-clause-cause
returns-in_err-there-clause-cause g c = λ m s. let at = counts g.W.World g.H.Host in let x = c.in_err-there.ensures.cause (at c.args.world.now c.args.host.now) in end_fails _ _ _ c.in_err-there.field-0.0 c.from_residual.result (later_same _) c.from_residual.ensures.1 x.later x.failed

pub returns-then-not-there-clause-cause : goal.returns-then-not-there-clause-cause
returns-then-not-there-clause-cause g c = λ m s. let at = counts g.W.World g.H.Host in end_refused _ _ (c.in_ok-there.ensures.cause (at c.args.world.now c.args.host.now)).later

pub returns-clause-cause : goal.returns-clause-cause
returns-clause-cause g c = λ m s. let at = counts g.W.World g.H.Host in end_then _ _ _ _ (c.in_ok-there.ensures.cause (at c.args.world.now c.args.host.now)).later (c.get_named.ensures.cause m s)
