use Rattle.mini_work.specs.Causes.{counts}
use Rattle.mini_work.proofs.Caused.{end_fails, end_refused, end_then, host_later, later_same, later_then, end_keeps}
use Rattle.std.proofs.Common.{◌≡◌, inr, Bool, Err, Ok, false, true, refl, rules, subst, arith}
use Rattle.std.proofs.lemmas.Result.{err_from_is_err_and}
use Rattle.cms_journal.proofs.Pieces.{grown_then}
use Rattle.mini_work.specs.Gets.{Begins, IsGotAs, Keeps, OnHost}
use Rattle.mini_work.specs.HandedFiles.{GetsOne, shown_in}
use Rattle.mini_work.specs.declared.handed_file.Way.TheVariants as ways
use Rattle.mini_work.specs.declared.status.Status.{Status}
use Rattle.mini_work.specs.declared.status.Status.TheVariants as status
use Rattle.mini_work.proofs.Hosted.{same_begun, same_dropped, same_then}
use Rattle.mini_work.proofs.KeptOut.{begun_is, got_cut, got_on, got_refused, got_same, got_still, kept_files, never_barred, refuses_err, refuses_never, refuses_none, written_done}
use Rattle.mini_work.proofs.PartsJoined.{cut_any, ended_any}
use Rattle.mini_work.proofs.get.get_to.Goals as goal

pub get_one-requires-clause-begun : goal.get_one-requires-clause-begun
get_one-requires-clause-begun g c = λ is.
    let host = g.H.Host.told in
    let h = host c.args.host.now in
    let k = host c.begin_file.new.host in
    let yes : c.in_ok-begun.begun ≡ true = c.if-not-begun.false in
    begun_is h k c.args.get.now c.args.path.now (subst (λ (b : Bool). Begins h k c.args.get.now c.args.path.now b) yes c.in_ok-begun.ensures.goes)

pub keep_file-requires : goal.keep_file-requires
keep_file-requires g c = c.in_ok-other.ensures.begun refl

pub returns-in_err-begun-clause-goes : goal.returns-in_err-begun-clause-goes
returns-in_err-begun-clause-goes g c =
    let host = g.H.Host.told in
    let p = err_from_is_err_and c.from_residual.result c.from_residual.ensures.1 in
    ended_any (OnHost (host c.args.host.now) (host c.begin_file.new.host) (IsGotAs c.args.get.now c.args.path.now c.args.name.now)) _ c.args.disk.now p.0 _ p.1

pub returns-in_err-begun-clause-refused : goal.returns-in_err-begun-clause-refused
returns-in_err-begun-clause-refused g c = λ m s.
    let p = err_from_is_err_and c.from_residual.result c.from_residual.ensures.1 in
    refuses_err (g.H.Host.told c.args.host.now) c.args.get.now c.args.path.now (shown_in c.args.get.now.form m c.args.name.now) p.0 _ p.1

pub returns-then-not-begun-clause-goes : goal.returns-then-not-begun-clause-goes
returns-then-not-begun-clause-goes g c =
    let host = g.H.Host.told in
    let h = host c.args.host.now in
    let k = host c.begin_file.new.host in
    let no : c.in_ok-begun.begun ≡ false = c.if-not-begun.true in
    let b = subst (λ (x : Bool). Begins h k c.args.get.now c.args.path.now x) no c.in_ok-begun.ensures.goes in
    got_still c.args.get.now c.args.path.now c.args.name.now (g.W.World.told c.args.world.now) (g.W.World.told c.args.world.now) c.args.disk.now h k (λ m s. refl) b.1

pub returns-then-not-begun-clause-refused : goal.returns-then-not-begun-clause-refused
returns-then-not-begun-clause-refused g c = λ m s.
    let host = g.H.Host.told in
    let no : c.in_ok-begun.begun ≡ false = c.if-not-begun.true in
    let b = subst (λ (x : Bool). Begins (host c.args.host.now) (host c.begin_file.new.host) c.args.get.now c.args.path.now x) no c.in_ok-begun.ensures.goes in
    inr b.0

pub returns-in_err-other-clause-goes : goal.returns-in_err-other-clause-goes
returns-in_err-other-clause-goes g c =
    let told = g.W.World.told in
    let host = g.H.Host.told in
    let d = c.args.disk.now in
    let get = c.args.get.now in
    let P = OnHost (host c.args.host.now) (host c.get_one.new.host) (IsGotAs get c.args.path.now c.args.name.now) in
    let p = err_from_is_err_and c.from_residual-in_err-other.result c.from_residual-in_err-other.ensures.1 in
    cut_any P P _ _ d d p.0 p.0 _ p.1
    (got_cut P (told c.args.world.now) (told c.get_one.new.world) d p.0
    (λ m s. got_same (told c.args.world.now) (told c.get_one.new.world) (host c.begin_file.new.host) (host c.get_one.new.host) (shown_in get.form m c.args.name.now) (Err c.in_err-other.field-0.0)
    (c.in_err-other.ensures.gets m s)))

pub returns-in_err-other-clause-refused : goal.returns-in_err-other-clause-refused
returns-in_err-other-clause-refused g c = λ m s.
    let p = err_from_is_err_and c.from_residual-in_err-other.result c.from_residual-in_err-other.ensures.1 in
    refuses_err (g.H.Host.told c.args.host.now) c.args.get.now c.args.path.now (shown_in c.args.get.now.form m c.args.name.now) p.0 _ p.1

pub returns-in_err-kept-clause-goes : goal.returns-in_err-kept-clause-goes
returns-in_err-kept-clause-goes g c =
    let told = g.W.World.told in
    let host = g.H.Host.told in
    let d = c.args.disk.now in
    let get = c.args.get.now in
    let P = OnHost (host c.args.host.now) (host c.keep_file.new.host) (IsGotAs get c.args.path.now c.args.name.now) in
    let p = err_from_is_err_and c.from_residual-in_err-kept.result c.from_residual-in_err-kept.ensures.1 in
    cut_any P P _ _ d d p.0 p.0 _ p.1
    (got_cut P (told c.args.world.now) (told c.get_one.new.world) d p.0
    (λ m s. got_same (told c.args.world.now) (told c.get_one.new.world) (host c.begin_file.new.host) (host c.get_one.new.host) (shown_in get.form m c.args.name.now) (Ok c.in_ok-other.other)
    (c.in_ok-other.ensures.gets m s)))

pub returns-in_err-kept-clause-refused : goal.returns-in_err-kept-clause-refused
returns-in_err-kept-clause-refused g c = λ m s.
    let p = err_from_is_err_and c.from_residual-in_err-kept.result c.from_residual-in_err-kept.ensures.1 in
    refuses_err (g.H.Host.told c.args.host.now) c.args.get.now c.args.path.now (shown_in c.args.get.now.form m c.args.name.now) p.0 _ p.1

pub returns-then-not-kept-clause-goes : goal.returns-then-not-kept-clause-goes
returns-then-not-kept-clause-goes g c =
    let told = g.W.World.told in
    let host = g.H.Host.told in
    let h = host c.args.host.now in
    let b = host c.begin_file.new.host in
    let w = host c.get_one.new.host in
    let k = host c.keep_file.new.host in
    let get = c.args.get.now in
    let path = c.args.path.now in
    let yes : c.in_ok-begun.begun ≡ true = c.if-not-begun.false in
    let no : c.in_ok-kept.kept ≡ false = c.if-not-kept.true in
    let begun = subst (λ (x : Bool). Begins h b get path x) yes c.in_ok-begun.ensures.goes in
    let kept = subst (λ (x : Bool). Keeps w k x) no c.in_ok-kept.ensures.goes in
    let same = same_then h b w (same_begun h b path get.replaces begun) c.in_ok-other.ensures.files in
    got_still get path c.args.name.now (told c.args.world.now) (told c.get_one.new.world) c.args.disk.now h k
    (λ m s. got_same (told c.args.world.now) (told c.get_one.new.world) b w (shown_in get.form m c.args.name.now) (Ok c.in_ok-other.other)
    (c.in_ok-other.ensures.gets m s))
    (same_then h w k same kept.1)

pub returns-then-not-kept-clause-refused : goal.returns-then-not-kept-clause-refused
returns-then-not-kept-clause-refused g c = λ m s.
    let host = g.H.Host.told in
    let h = host c.args.host.now in
    let b = host c.begin_file.new.host in
    let w = host c.get_one.new.host in
    let k = host c.keep_file.new.host in
    let get = c.args.get.now in
    let path = c.args.path.now in
    let yes : c.in_ok-begun.begun ≡ true = c.if-not-begun.false in
    let no : c.in_ok-kept.kept ≡ false = c.if-not-kept.true in
    let begun = subst (λ (x : Bool). Begins h b get path x) yes c.in_ok-begun.ensures.goes in
    let kept = subst (λ (x : Bool). Keeps w k x) no c.in_ok-kept.ensures.goes in
    inr (never_barred h w get path kept.0 (same_then h b w (same_begun h b path get.replaces begun) c.in_ok-other.ensures.files))

pub returns-clause-grown : goal.returns-clause-grown
returns-clause-grown g c =
    let told = g.W.World.told in
    grown_then (told c.args.world.now) (told c.get_one.new.world) (told c.say_name.new.world) c.in_ok-other.ensures.grown c.say_name.ensures.grown

pub returns-in_default : goal.returns-in_default
returns-in_default g c =
    let told = g.W.World.told in
    let host = g.H.Host.told in
    let h = host c.args.host.now in
    let b = host c.begin_file.new.host in
    let w = host c.get_one.new.host in
    let k = host c.discard.new.self in
    let get = c.args.get.now in
    let path = c.args.path.now in
    let name = c.args.name.now in
    let old = told c.args.world.now in
    let new = told c.get_one.new.world in
    let yes : c.in_ok-begun.begun ≡ true = c.if-not-begun.false in
    let undone : c.in_ok-other.other ≡ status.Done → ⊥ = search rules in
    let begun = subst (λ (x : Bool). Begins h b get path x) yes c.in_ok-begun.ensures.goes in
    let same = same_then h b w (same_begun h b path get.replaces begun) c.in_ok-other.ensures.files in
    record {
      goes = got_refused get path name old new c.args.disk.now h b w k c.in_ok-other.other c.in_ok-other.ensures.gets undone
          (same_then h w k same (same_dropped w k c.discard.ensures.told));
      refused = λ m s. refuses_none h get path old new b w (shown_in get.form m name) c.in_ok-other.other (c.in_ok-other.ensures.gets m s) undone;
      grown = c.in_ok-other.ensures.grown;
      cause = λ m s. end_then _ _ _ _ (c.in_ok-begun.ensures.cause (counts g.W.World g.H.Host c.args.world.now c.args.host.now)).later (end_keeps _ _ _ c.in_ok-other.other (c.in_ok-other.ensures.cause m s) (host_later (counts g.W.World g.H.Host c.get_one.new.world c.get_one.new.host) _ _ (omega (arith, c.discard.ensures.faults))));
    }

pub returns-in_err-begun-clause-cause : goal.returns-in_err-begun-clause-cause
returns-in_err-begun-clause-cause g c = λ m s. let at = counts g.W.World g.H.Host in let x = c.in_err-begun.ensures.cause (at c.args.world.now c.args.host.now) in end_fails _ _ _ c.in_err-begun.field-0.0 c.from_residual.result (later_same _) c.from_residual.ensures.1 x.later x.failed

pub returns-then-not-begun-clause-cause : goal.returns-then-not-begun-clause-cause
returns-then-not-begun-clause-cause g c = λ m s. let at = counts g.W.World g.H.Host in end_refused _ _ (c.in_ok-begun.ensures.cause (at c.args.world.now c.args.host.now)).later

pub returns-in_err-other-clause-cause : goal.returns-in_err-other-clause-cause
returns-in_err-other-clause-cause g c = λ m s. let at = counts g.W.World g.H.Host in let x = c.in_err-other.ensures.cause m s in end_fails _ _ _ c.in_err-other.field-0.0 c.from_residual-in_err-other.result (c.in_ok-begun.ensures.cause (at c.args.world.now c.args.host.now)).later c.from_residual-in_err-other.ensures.1 x.later x.failed

pub returns-in_err-kept-clause-cause : goal.returns-in_err-kept-clause-cause
returns-in_err-kept-clause-cause g c = λ m s. let at = counts g.W.World g.H.Host in let x = c.in_err-kept.ensures.cause (at c.get_one.new.world c.get_one.new.host) in end_fails _ _ _ c.in_err-kept.field-0.0 c.from_residual-in_err-kept.result (later_then _ _ _ (c.in_ok-begun.ensures.cause (at c.args.world.now c.args.host.now)).later (c.in_ok-other.ensures.cause m s).later) c.from_residual-in_err-kept.ensures.1 x.later x.failed

pub returns-then-not-kept-clause-cause : goal.returns-then-not-kept-clause-cause
returns-then-not-kept-clause-cause g c = λ m s. let at = counts g.W.World g.H.Host in end_refused _ _ (later_then _ _ _ (later_then _ _ _ (c.in_ok-begun.ensures.cause (at c.args.world.now c.args.host.now)).later (c.in_ok-other.ensures.cause m s).later) (c.in_ok-kept.ensures.cause (at c.get_one.new.world c.get_one.new.host)).later)

pub returns-clause-refused : goal.returns-clause-refused
returns-clause-refused g c = λ m s.
    refuses_never (g.H.Host.told c.args.host.now) c.args.get.now c.args.path.now (shown_in c.args.get.now.form m c.args.name.now) c.say_name.result c.say_name.ensures.done

pub returns-clause-cause : goal.returns-clause-cause
returns-clause-cause g c = λ m s. let at = counts g.W.World g.H.Host in end_then _ _ _ _ (later_then _ _ _ (later_then _ _ _ (c.in_ok-begun.ensures.cause (at c.args.world.now c.args.host.now)).later (c.in_ok-other.ensures.cause m s).later) (c.in_ok-kept.ensures.cause (at c.get_one.new.world c.get_one.new.host)).later) (c.say_name.ensures.cause (g.H.Host.faults c.keep_file.new.host))

pub returns-clause-goes : goal.returns-clause-goes
returns-clause-goes g c =
    let told = g.W.World.told in
    let host = g.H.Host.told in
    let h = host c.args.host.now in
    let b = host c.begin_file.new.host in
    let w = host c.get_one.new.host in
    let k = host c.keep_file.new.host in
    let d = c.args.disk.now in
    let get = c.args.get.now in
    let path = c.args.path.now in
    let name = c.args.name.now in
    let yes : c.in_ok-begun.begun ≡ true = c.if-not-begun.false in
    let whole : c.in_ok-kept.kept ≡ true = c.if-not-kept.false in
    let begun = subst (λ (x : Bool). Begins h b get path x) yes c.in_ok-begun.ensures.goes in
    let kept = subst (λ (x : Bool). Keeps w k x) whole c.in_ok-kept.ensures.goes in
    got_on get path name (told c.args.world.now) (told c.get_one.new.world) (told c.say_name.new.world) d h k c.say_name.result
    (λ m s.
    let w_is = written_done (told c.args.world.now) (told c.get_one.new.world) b w (shown_in get.form m name)
    (subst (λ (x : Status). GetsOne ways.File (told c.args.world.now) (told c.get_one.new.world) b w (shown_in get.form m name) (Ok x)) c.in-Done.is
    (c.in_ok-other.ensures.gets m s)) in
    (w_is.bytes, w_is.text_is, w_is.told, kept_files path w_is.bytes get.replaces h b w k begun w_is.wrote kept))
    (c.say_name.ensures.goes d)

pub returns-in_err-other-clause-grown : goal.returns-in_err-other-clause-grown
returns-in_err-other-clause-grown g c = c.in_err-other.ensures.grown

pub returns-in_err-kept-clause-grown : goal.returns-in_err-kept-clause-grown
returns-in_err-kept-clause-grown g c = c.in_ok-other.ensures.grown

pub returns-then-not-kept-clause-grown : goal.returns-then-not-kept-clause-grown
returns-then-not-kept-clause-grown g c = c.in_ok-other.ensures.grown
