use Rattle.std.proofs.Common.{List, ℕ, subst, sym}
use Rattle.mini_words.specs.declared.request.Target.{Target}
use Rattle.mini_work.specs.CommandActs.{Continues}
use Rattle.mini_work.specs.Gets.{IsGotBy, IsGotEach, IsJoined, OnHost}
use Rattle.mini_work.proofs.get.get_chosen.Goals as goal

pub returns-in-Output-clause-goes : goal.returns-in-Output-clause-goes
returns-in-Output-clause-goes g c =
    let told = g.W.World.told in
    let host = g.H.Host.told in
    let d = c.args.disk.now in
    subst (λ (t : Target). Continues (OnHost (host c.args.host.now) (host c.get_joined.new.host) (IsGotBy (host c.args.host.now) c.args.get.now t c.args.names.now))
    (told c.args.world.now) d (told c.get_joined.new.world) d c.get_joined.result) (sym c.in-Output.is) c.get_joined.ensures.goes

pub returns-in-File-clause-goes : goal.returns-in-File-clause-goes
returns-in-File-clause-goes g c =
    let told = g.W.World.told in
    let host = g.H.Host.told in
    let d = c.args.disk.now in
    subst (λ (t : Target). Continues (OnHost (host c.args.host.now) (host c.get_into.new.host) (IsGotBy (host c.args.host.now) c.args.get.now t c.args.names.now))
    (told c.args.world.now) d (told c.get_into.new.world) d c.get_into.result) (sym c.in-File.is)
    (subst (λ (file : List ℕ). Continues (OnHost (host c.args.host.now) (host c.get_into.new.host) (IsJoined (host c.args.host.now) c.args.get.now file c.args.names.now))
    (told c.args.world.now) d (told c.get_into.new.world) d c.get_into.result) c.text.ensures c.get_into.ensures.goes)

pub returns-in-Folder-clause-goes : goal.returns-in-Folder-clause-goes
returns-in-Folder-clause-goes g c =
    let told = g.W.World.told in
    let host = g.H.Host.told in
    let d = c.args.disk.now in
    subst (λ (t : Target). Continues (OnHost (host c.args.host.now) (host c.get_each.new.host) (IsGotBy (host c.args.host.now) c.args.get.now t c.args.names.now))
    (told c.args.world.now) d (told c.get_each.new.world) d c.get_each.result) (sym c.in-Folder.is)
    (subst (λ (folder : List ℕ). Continues (OnHost (host c.args.host.now) (host c.get_each.new.host) (IsGotEach (host c.args.host.now) c.args.get.now folder c.args.names.now))
    (told c.args.world.now) d (told c.get_each.new.world) d c.get_each.result) c.text-in-Folder.ensures c.get_each.ensures.goes)

pub returns-in-Output-clause-cause : goal.returns-in-Output-clause-cause
returns-in-Output-clause-cause g c = λ m s. c.get_joined.ensures.cause m s

pub returns-in-File-clause-cause : goal.returns-in-File-clause-cause
returns-in-File-clause-cause g c = λ m s. c.get_into.ensures.cause m s

pub returns-in-Folder-clause-cause : goal.returns-in-Folder-clause-cause
returns-in-Folder-clause-cause g c = λ m s. c.get_each.ensures.cause m s
