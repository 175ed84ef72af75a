use Rattle.std.proofs.Common.{◌≡◌, List, sym, ap, subst}
use Rattle.std.proofs.lemmas.List.{reverse-append}
use Rattle.cms_journal.specs.Journal.{Journal}
use Rattle.cms_journal.specs.declared.event.Attached.{Attached}
use Rattle.cms_world.specs.Recorder.{MayHappen}
use Rattle.cms_world.proofs.Records.{record_add}
use Rattle.cms_world.proofs.recorder.Recorder.add.Goals as goal

pub invariant_of-self-2 : goal.invariant_of-self-2
invariant_of-self-2 c =
    let units : c.args.self.now.units ≡ c.self.inside.units.items = ap (λ (j : Journal). j.units) (sym c.self.view_is) in
    let may : MayHappen c.self.inside.units.items c.args.event = subst (λ (us : List Attached). MayHappen us c.args.event) units c.requires in
    rw (c.in_ok-push.ensures.items, reverse-append) (record_add _ _ c.args.event _ _ may c.self.invariant)
