use Rattle.mini_work.proofs.Caused.{end_fails, end_keeps, end_refused, host_later, later_same, later_then}
use Rattle.mini_work.specs.Causes.{counts}
use Rattle.std.proofs.Common.{◌≡◌, ◌∙◌, Bool, List, Err, Ok, false, true, subst, sym, arith}
use Rattle.std.proofs.lemmas.Result.{err_from_is_err_and}
use Rattle.cms_names.specs.declared.name.Name.{Name}
use Rattle.mini_work.specs.CommandActs.{Continues}
use Rattle.mini_work.specs.Gets.{AreSaid, IsJoined, Keeps, OnHost, WritesAll}
use Rattle.mini_work.proofs.Hosted.{same_begun, same_dropped, same_then}
use Rattle.mini_work.proofs.KeptOut.{got_cut, joined_cut, joined_lost, joined_none, joined_some, never_barred}
use Rattle.mini_work.proofs.PartsJoined.{cut_any}
use Rattle.mini_work.proofs.get.get_begun.Goals as goal

pub keep_file-requires : goal.keep_file-requires
keep_file-requires g c = c.in_ok-status.ensures.begun

pub returns-in_err-status-clause-goes : goal.returns-in_err-status-clause-goes
returns-in_err-status-clause-goes g c = λ first before same begins.
    let told = g.W.World.told in
    let host = g.H.Host.told in
    let h = first in
    let d = c.args.disk.now in
    let p = err_from_is_err_and c.from_residual.result c.from_residual.ensures.1 in
    let P = OnHost h (host c.write_all.new.host) (IsJoined h c.args.get.now c.args.file.now c.args.names.now) in
    cut_any P P _ _ d d p.0 p.0 _ p.1 (got_cut P (told c.args.world.now) (told c.write_all.new.world) d p.0 c.in_err-status.ensures.told)

pub returns-in_err-kept-clause-goes : goal.returns-in_err-kept-clause-goes
returns-in_err-kept-clause-goes g c = λ first before same begins.
    let told = g.W.World.told in
    let host = g.H.Host.told in
    let h = first in
    let d = c.args.disk.now in
    let p = err_from_is_err_and c.from_residual-in_err-kept.result c.from_residual-in_err-kept.ensures.1 in
    let P = OnHost h (host c.keep_file.new.host) (IsJoined h c.args.get.now c.args.file.now c.args.names.now) in
    cut_any P P _ _ d d p.0 p.0 _ p.1 (got_cut P (told c.args.world.now) (told c.write_all.new.world) d p.0 c.in_ok-status.ensures.told)

pub returns-then-not-kept-clause-goes : goal.returns-then-not-kept-clause-goes
returns-then-not-kept-clause-goes g c = λ first before same begins.
    let told = g.W.World.told in
    let host = g.H.Host.told in
    let h = first in
    let b = host c.args.host.now in
    let w = host c.write_all.new.host in
    let k = host c.keep_file.new.host in
    let get = c.args.get.now in
    let file = c.args.file.now in
    let no : c.in_ok-kept.kept ≡ false = c.if-not-kept.true in
    let kept = subst (λ (x : Bool). Keeps w k x) no c.in_ok-kept.ensures.goes in
    let kept_same = same_then first before w same (same_then before b w (same_begun before b file get.replaces begins) c.in_ok-status.ensures.files) in
    joined_lost get file c.args.names.now (told c.args.world.now) (told c.write_all.new.world) c.args.disk.now h k
    (never_barred h w get file kept.0 kept_same) (same_then h w k kept_same kept.1) c.in_ok-status.ensures.told

pub returns-then-is_empty-clause-goes : goal.returns-then-is_empty-clause-goes
returns-then-is_empty-clause-goes g c = λ first before same begins.
    let told = g.W.World.told in
    let host = g.H.Host.told in
    let h = first in
    let b = host c.args.host.now in
    let w = host c.write_all.new.host in
    let k = host c.discard.new.self in
    let get = c.args.get.now in
    let file = c.args.file.now in
    let names = c.args.names.now in
    let kept_same = same_then first before w same (same_then before b w (same_begun before b file get.replaces begins) c.in_ok-status.ensures.files) in
    joined_none get file names (told c.args.world.now) (told c.write_all.new.world) c.args.disk.now h w b c.write_all.new.written c.in_ok-status.status
    (λ m s. (
      c.in_ok-status.ensures.told m s,
      subst (λ (ns : List Name). WritesAll get.form m names b w ns c.write_all.new.written c.in_ok-status.status) c.requires.none (c.in_ok-status.ensures.writes m s),
    ))
    (c.is_empty.ensures.0 c.if-is_empty.true) k (same_then h w k kept_same (same_dropped w k c.discard.ensures.told))

pub returns-in_err-say_names-clause-goes : goal.returns-in_err-say_names-clause-goes
returns-in_err-say_names-clause-goes g c = λ first before same begins.
    let told = g.W.World.told in
    let host = g.H.Host.told in
    let h = first in
    let b = host c.args.host.now in
    let w = host c.write_all.new.host in
    let d = c.args.disk.now in
    let get = c.args.get.now in
    let names = c.args.names.now in
    let p = err_from_is_err_and c.from_residual-in_err-say_names.result c.from_residual-in_err-say_names.ensures.1 in
    let P = OnHost h (host c.keep_file.new.host) (IsJoined h get c.args.file.now names) in
    cut_any P P _ _ d d p.0 p.0 _ p.1
    (joined_cut P get c.args.file.now names (told c.args.world.now) (told c.write_all.new.world) (told c.say_names.new.world) d b w c.write_all.new.written
    c.in_ok-status.status c.in_err-say_names.field-0.0 p.0
    (λ m s. (
      c.in_ok-status.ensures.told m s,
      subst (λ (ns : List Name). WritesAll get.form m names b w ns c.write_all.new.written c.in_ok-status.status) c.requires.none (c.in_ok-status.ensures.writes m s),
    ))
    (subst (λ (ns : List Name). Continues (AreSaid get.says ns) (told c.write_all.new.world) d (told c.say_names.new.world) d (Err c.in_err-say_names.field-0.0))
    c.as_slice.ensures (c.in_err-say_names.ensures.goes d)))

pub returns-clause-goes : goal.returns-clause-goes
returns-clause-goes g c = λ first before same begins.
    let told = g.W.World.told in
    let host = g.H.Host.told in
    let h = first in
    let b = host c.args.host.now in
    let w = host c.write_all.new.host in
    let k = host c.keep_file.new.host in
    let d = c.args.disk.now in
    let get = c.args.get.now in
    let file = c.args.file.now in
    let names = c.args.names.now in
    let whole : c.in_ok-kept.kept ≡ true = c.if-not-kept.false in
    let kept = subst (λ (x : Bool). Keeps w k x) whole c.in_ok-kept.ensures.goes in
    joined_some get file names (told c.args.world.now) (told c.write_all.new.world) (told c.say_names.new.world) d h before b w k c.write_all.new.written
    c.in_ok-status.status _
    (λ m s. (
      c.in_ok-status.ensures.told m s,
      subst (λ (ns : List Name). WritesAll get.form m names b w ns c.write_all.new.written c.in_ok-status.status) c.requires.none (c.in_ok-status.ensures.writes m s),
    ))
    (λ none. absurd (cc (sym c.if-is_empty.false ∙ c.is_empty.ensures.1 none))) same begins c.in_ok-status.ensures.files kept
    (subst (λ (ns : List Name). Continues (AreSaid get.says ns) (told c.write_all.new.world) d (told c.say_names.new.world) d (Ok c.in_ok-say_names.field-0))
    c.as_slice.ensures (c.in_ok-say_names.ensures.goes d))

pub returns-in_err-status-clause-cause : goal.returns-in_err-status-clause-cause
returns-in_err-status-clause-cause g c = λ m s. let at = counts g.W.World g.H.Host in let x = c.in_err-status.ensures.cause m s in end_fails _ _ _ c.in_err-status.field-0.0 c.from_residual.result (later_same _) c.from_residual.ensures.1 x.later x.failed

pub returns-then-is_empty-clause-cause : goal.returns-then-is_empty-clause-cause
returns-then-is_empty-clause-cause g c = λ m s. let at = counts g.W.World g.H.Host in (end_keeps _ _ _ c.in_ok-status.status (c.in_ok-status.ensures.cause m s) (host_later (at c.write_all.new.world c.write_all.new.host) _ _ (omega (arith, c.discard.ensures.faults))))

pub returns-in_err-kept-clause-cause : goal.returns-in_err-kept-clause-cause
returns-in_err-kept-clause-cause g c = λ m s. let at = counts g.W.World g.H.Host in let x = c.in_err-kept.ensures.cause (at c.write_all.new.world c.write_all.new.host) in end_fails _ _ _ c.in_err-kept.field-0.0 c.from_residual-in_err-kept.result (c.in_ok-status.ensures.cause m s).later c.from_residual-in_err-kept.ensures.1 x.later x.failed

pub returns-then-not-kept-clause-cause : goal.returns-then-not-kept-clause-cause
returns-then-not-kept-clause-cause g c = λ m s. let at = counts g.W.World g.H.Host in end_refused _ _ (later_then _ _ _ (c.in_ok-status.ensures.cause m s).later (c.in_ok-kept.ensures.cause (at c.write_all.new.world c.write_all.new.host)).later)

pub returns-clause-cause : goal.returns-clause-cause
returns-clause-cause g c = λ m s. let at = counts g.W.World g.H.Host in (end_keeps _ _ _ c.in_ok-status.status (c.in_ok-status.ensures.cause m s) (later_then _ _ _ (c.in_ok-kept.ensures.cause (at c.write_all.new.world c.write_all.new.host)).later (c.in_ok-say_names.ensures.cause (g.H.Host.faults c.keep_file.new.host)).later))

pub returns-in_err-say_names-clause-cause : goal.returns-in_err-say_names-clause-cause
returns-in_err-say_names-clause-cause g c = λ m s. let at = counts g.W.World g.H.Host in let x = c.in_err-say_names.ensures.cause (g.H.Host.faults c.keep_file.new.host) in end_fails _ _ _ c.in_err-say_names.field-0.0 c.from_residual-in_err-say_names.result (later_then _ _ _ (c.in_ok-status.ensures.cause m s).later (c.in_ok-kept.ensures.cause (at c.write_all.new.world c.write_all.new.host)).later) c.from_residual-in_err-say_names.ensures.1 x.later x.failed
