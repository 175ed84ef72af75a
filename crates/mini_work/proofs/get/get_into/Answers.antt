use Rattle.mini_work.proofs.Caused.{end_fails, end_refused, end_then, later_same, later_then}
use Rattle.mini_work.specs.Causes.{counts}
use Rattle.std.proofs.Common.{◌≡◌, inl, inr, Bool, List, ℕ, false, true, subst}
use Rattle.std.proofs.lemmas.Result.{err_from_is_err_and}
use Rattle.mini_work.specs.Gets.{Begins, HasNoFolder, IsJoined, OnHost}
use Rattle.mini_work.proofs.GotOut.{barred_from}
use Rattle.mini_work.proofs.Hosted.{same_then}
use Rattle.mini_work.proofs.KeptOut.{begun_is, joined_barred}
use Rattle.mini_work.proofs.PartsJoined.{ended_any}
use Rattle.mini_work.proofs.get.get_into.Goals as goal

pub get_begun-got-requires-clause-begun : goal.get_begun-got-requires-clause-begun
get_begun-got-requires-clause-begun g c =
    let host = g.H.Host.told in
    let h = host c.find_folder.new.host in
    let k = host c.begin_file.new.host in
    let yes : c.in_ok-begun.begun ≡ true = c.if-not-begun.false in
    begun_is h k c.args.get.now c.args.file.now (subst (λ (b : Bool). Begins h k c.args.get.now c.args.file.now b) yes c.in_ok-begun.ensures.goes)

pub get_begun-got-requires-clause-none : goal.get_begun-got-requires-clause-none
get_begun-got-requires-clause-none g c = c.new-written.ensures

pub returns-clause-goes : goal.returns-clause-goes
returns-clause-goes g c =
    let host = g.H.Host.told in
    let f = host c.find_folder.new.host in
    let b = host c.begin_file.new.host in
    let yes : c.in_ok-begun.begun ≡ true = c.if-not-begun.false in
    c.get_begun-got.ensures.goes (host c.args.host.now) f c.in_ok-there.ensures.files
    (subst (λ (x : Bool). Begins f b c.args.get.now c.args.file.now x) yes c.in_ok-begun.ensures.goes)

pub returns-in_err-there-clause-goes : goal.returns-in_err-there-clause-goes
returns-in_err-there-clause-goes g c =
    let host = g.H.Host.told in
    let h = host c.args.host.now in
    let p = err_from_is_err_and c.from_residual.result c.from_residual.ensures.1 in
    ended_any (OnHost h (host c.find_folder.new.host) (IsJoined h c.args.get.now c.args.file.now c.args.names.now)) _ c.args.disk.now p.0 _ p.1

pub returns-then-not-there-clause-goes : goal.returns-then-not-there-clause-goes
returns-then-not-there-clause-goes g c =
    let host = g.H.Host.told in
    let h = host c.args.host.now in
    let no : c.in_ok-there.there ≡ false = c.if-not-there.true in
    joined_barred c.args.get.now c.args.file.now c.args.names.now (g.W.World.told c.args.world.now) c.args.disk.now h (host c.find_folder.new.host)
    (inl (subst (λ (folder : List ℕ). HasNoFolder h folder) c.folder_of-folder.ensures (c.in_ok-there.ensures.none no))) c.in_ok-there.ensures.files

pub returns-in_err-begun-clause-goes : goal.returns-in_err-begun-clause-goes
returns-in_err-begun-clause-goes g c =
    let host = g.H.Host.told in
    let h = host c.args.host.now in
    let p = err_from_is_err_and c.from_residual-in_err-begun.result c.from_residual-in_err-begun.ensures.1 in
    ended_any (OnHost h (host c.begin_file.new.host) (IsJoined h c.args.get.now c.args.file.now c.args.names.now)) _ c.args.disk.now p.0 _ p.1

pub returns-then-not-begun-clause-goes : goal.returns-then-not-begun-clause-goes
returns-then-not-begun-clause-goes g c =
    let host = g.H.Host.told in
    let h = host c.args.host.now in
    let f = host c.find_folder.new.host in
    let k = host c.begin_file.new.host in
    let get = c.args.get.now in
    let file = c.args.file.now in
    let no : c.in_ok-begun.begun ≡ false = c.if-not-begun.true in
    let b = subst (λ (x : Bool). Begins f k get file x) no c.in_ok-begun.ensures.goes in
    joined_barred get file c.args.names.now (g.W.World.told c.args.world.now) c.args.disk.now h k
    (inr (barred_from h f get file c.in_ok-there.ensures.files b.0)) (same_then h f k c.in_ok-there.ensures.files b.1)

pub returns-in_err-there-clause-cause : goal.returns-in_err-there-clause-cause
returns-in_err-there-clause-cause g c = λ m s. let at = counts g.W.World g.H.Host in let x = c.in_err-there.ensures.cause (at c.args.world.now c.args.host.now) in end_fails _ _ _ c.in_err-there.field-0.0 c.from_residual.result (later_same _) c.from_residual.ensures.1 x.later x.failed

pub returns-then-not-there-clause-cause : goal.returns-then-not-there-clause-cause
returns-then-not-there-clause-cause g c = λ m s. let at = counts g.W.World g.H.Host in end_refused _ _ (c.in_ok-there.ensures.cause (at c.args.world.now c.args.host.now)).later

pub returns-in_err-begun-clause-cause : goal.returns-in_err-begun-clause-cause
returns-in_err-begun-clause-cause g c = λ m s. let at = counts g.W.World g.H.Host in let x = c.in_err-begun.ensures.cause (at c.args.world.now c.find_folder.new.host) in end_fails _ _ _ c.in_err-begun.field-0.0 c.from_residual-in_err-begun.result (c.in_ok-there.ensures.cause (at c.args.world.now c.args.host.now)).later c.from_residual-in_err-begun.ensures.1 x.later x.failed

pub returns-then-not-begun-clause-cause : goal.returns-then-not-begun-clause-cause
returns-then-not-begun-clause-cause g c = λ m s. let at = counts g.W.World g.H.Host in end_refused _ _ (later_then _ _ _ (c.in_ok-there.ensures.cause (at c.args.world.now c.args.host.now)).later (c.in_ok-begun.ensures.cause (at c.args.world.now c.find_folder.new.host)).later)

pub returns-clause-cause : goal.returns-clause-cause
returns-clause-cause g c = λ m s. let at = counts g.W.World g.H.Host in end_then _ _ _ _ (later_then _ _ _ (c.in_ok-there.ensures.cause (at c.args.world.now c.args.host.now)).later (c.in_ok-begun.ensures.cause (at c.args.world.now c.find_folder.new.host)).later) (c.get_begun-got.ensures.cause m s)
